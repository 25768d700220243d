-- What a sheet is refused for before its records are looked at: refusals 1 to 3.
use Rattle.std.specs.Prelude.{◌≡◌, ℕ, ◌+◌, ◌<◌, ◌≤◌, ◌⊎◌, List, length, slice_index}
use Rattle.framing.specs.declared.fault.Part.{Part}
use Rattle.framing.specs.declared.fault.Part.TheVariants as P
use Rattle.framing.specs.declared.fault.Refusal.TheVariants as R
use Rattle.framing.specs.declared.sheet_format.SheetFormat.{SheetFormat}
use Rattle.framing.specs.Faults.{Causes}
use Rattle.framing.specs.Layout.{u32at, end_of, count_of, last_end}
use Rattle.framing.specs.Plans.{least_of, most_of, part_at, sections_of}

-- the first byte is the version, 1
abbrev pub Version1 : List ℕ → Type 0
Version1 bs = slice_index bs 0 ≡ 1

-- the length says how many bytes follow it, and no byte is left after the last section
pub record LengthFits (f : SheetFormat) (bs : List ℕ) : Type 0 where
  pub says_the_rest : 5 + u32at bs 1 ≡ length bs
  pub none_left : length bs ≤ last_end bs f

-- section p ends within the bytes
abbrev pub Within : List ℕ → Part → Type 0
Within bs p = end_of bs p ≤ length bs

-- and its count is within its limits
pub record CountFits (bs : List ℕ) (p : Part) : Type 0 where
  pub least : least_of p ≤ count_of bs p
  pub most : count_of bs p ≤ most_of p

-- p is a section, at some place of the plan, that breaks a rule
pub record SectionBreaks (f : SheetFormat) (Rule : Part → Type 0) (p : Part) : Type 0 where
  pub at : ℕ
  pub within : at < sections_of f
  pub is : p ≡ part_at f at
  pub broken : Rule (part_at f at) → ⊥

-- the causes of refusals 1 to 3, by part and record; no record fits them
abbrev pub Framing : SheetFormat → List ℕ → Causes
Framing f bs R.Version p k = (p ≡ P.Whole) × (k ≡ 0) × (Version1 bs → ⊥)
Framing f bs R.Length p k = (k ≡ 0) × (((p ≡ P.Whole) × (LengthFits f bs → ⊥)) ⊎ SectionBreaks f (Within bs) p)
Framing f bs R.Count p k = (k ≡ 0) × SectionBreaks f (CountFits bs) p
Framing f bs R.Record p k = ⊥
Framing f bs R.Tree p k = ⊥
Framing f bs R.LetPlace p k = ⊥
Framing f bs R.NameOrFrame p k = ⊥
Framing f bs R.ItemRecord p k = ⊥
Framing f bs R.KeyOrder p k = ⊥
