-- When a body sheet is refused, for what and where.
use Rattle.std.specs.Prelude.{◌≡◌, ℕ, ◌⊎◌, List}
use Rattle.framing.specs.declared.fault.Part.TheVariants as P
use Rattle.framing.specs.declared.fault.Refusal.TheVariants as R
use Rattle.framing.specs.declared.sheet_format.SheetFormat.TheVariants as F
use Rattle.framing.specs.Broken.{Breaks}
use Rattle.framing.specs.Faults.{Causes}
use Rattle.framing.specs.Framing.{Framing}
use Rattle.framing.specs.Layout.{bytes_in, count_of}
use Rattle.sheet.specs.Records.{record_at, Said, GoodBinding, GoodFrame, shape_in}
use Rattle.sheet.specs.Tree.{AddsUp, GoodNode, LetInPlace}

-- the causes of each refusal, by part and record; refusals 8 and 9 are an item sheet's
abbrev pub Applies : List ℕ → Causes
Applies bs R.Version p k = Framing F.Body bs R.Version p k
Applies bs R.Length p k = Framing F.Body bs R.Length p k
Applies bs R.Count p k = Framing F.Body bs R.Count p k
Applies bs R.Record p k = (p ≡ P.Nodes) × Breaks (λ i. Said (count_of bs P.Bindings) (record_at (bytes_in bs P.Nodes) i)) (count_of bs P.Nodes) k
Applies bs R.Tree p k =
    ((p ≡ P.Whole) × (k ≡ 0) × (AddsUp (shape_in bs) → ⊥)) ⊎
    ((p ≡ P.Nodes) × Breaks (GoodNode (shape_in bs)) (count_of bs P.Nodes) k)
Applies bs R.LetPlace p k = (p ≡ P.Nodes) × Breaks (LetInPlace (shape_in bs)) (count_of bs P.Nodes) k
Applies bs R.NameOrFrame p k =
    ((p ≡ P.Bindings) × Breaks (GoodBinding (bytes_in bs P.Bindings)) (count_of bs P.Bindings) k) ⊎
    ((p ≡ P.Frames) × Breaks (GoodFrame (bytes_in bs P.Frames)) (count_of bs P.Frames) k)
Applies bs R.ItemRecord p k = ⊥
Applies bs R.KeyOrder p k = ⊥
