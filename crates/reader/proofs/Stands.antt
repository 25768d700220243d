-- What reading a section says of the sheet that it stands in.
use Rattle.std.proofs.Common.{◌≡◌, ℕ, ◌/◌, ◌<◌, ◌≤◌, List, length, sym, refl, ap, ◌∙◌, arith}
use Rattle.framing.specs.Broken.{FirstBroken}
use Rattle.framing.specs.Layout.{bytes_in, count_of}
use Rattle.framing.specs.Plans.{most_of, width_of}
use Rattle.framing.specs.Sections.{Holds}
use Rattle.framing.specs.declared.fault.Fault.{Fault}
use Rattle.framing.specs.declared.fault.Part.{Part}
use Rattle.framing.specs.declared.fault.Part.TheVariants as P
use Rattle.framing.specs.declared.fault.Refusal.{Refusal}
use Rattle.framing.proofs.Readers.{canon}
use Rattle.reader.specs.Read.{FirstUnread, ReadFrom}
use Rattle.table.specs.Tables.{tabulated}

-- what reading says of a section, where it has no more records than its table and a fault's number hold
abbrev pub Read : ℕ → ℕ → List ℕ → Type 0 → Type 0
Read w most xs A = length xs / w ≤ most → length xs / w ≤ 65535 → A

most_small : (p : Part) → most_of p ≤ 65535
most_small P.Whole = omega arith
most_small P.Nodes = omega arith
most_small P.Children = omega arith
most_small P.Bindings = omega arith
most_small P.Frames = omega arith
most_small P.Items = omega arith
most_small P.Constants = omega arith
most_small P.Expansions = omega arith

-- a section p of the bytes bs
module _ (bs : List ℕ) (p q : Part) (xs : List ℕ) (h : Holds bs p q xs) where
  few : {A : Type 0} → Read (width_of p) (most_of p) xs A → A
  few read =
      let n : length xs / width_of p ≡ count_of bs p = ap (λ s. length xs / width_of s) (sym h.part_is) ∙ h.count_is in
      read (omega (arith, n, h.fits.most)) (omega (arith, n, h.fits.most, most_small p))

  -- the rows that are read are those that the sheet writes, and each is good
  pub rows_stand : {R : Type 0} (row : List ℕ → ℕ → R) (Good : List ℕ → ℕ → Type 0) (rows : List R) → Read (width_of p) (most_of p) xs (ReadFrom (width_of p) row Good xs rows) →
      (rows ≡ tabulated (row (bytes_in bs p)) (count_of bs p)) × ((k : ℕ) → k < count_of bs p → Good (bytes_in bs p) k)
  rows_stand row Good rows read =
      let r = few read in
      canon (λ ys n. (rows ≡ tabulated (row ys) n) × ((k : ℕ) → k < n → Good ys k)) bs p q xs xs h refl (r.are_written, r.are_good)

  -- the fault that reading tells is of the sheet's first bad record
  pub fault_stands : (Good : List ℕ → ℕ → Type 0) (r : Refusal) (f : Fault) → Read (width_of p) (most_of p) xs (FirstUnread (width_of p) Good r p xs f) → FirstBroken (Good (bytes_in bs p)) (count_of bs p) r p f
  fault_stands Good r f read = canon (λ ys n. FirstBroken (Good ys) n r p f) bs p q xs xs h refl (few read)
