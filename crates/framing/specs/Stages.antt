-- What the steps of taking a sheet apart say of it.
use Rattle.std.specs.Prelude.{◌≡◌, ℕ, ◌<◌, ◌≤◌, List, length}
use Rattle.framing.specs.declared.fault.Fault.{Fault}
use Rattle.framing.specs.declared.fault.Part.{Part}
use Rattle.framing.specs.declared.fault.Refusal.{Refusal}
use Rattle.framing.specs.declared.sheet_format.SheetFormat.{SheetFormat}
use Rattle.framing.specs.Faults.{Before, Causes, NoneApply}
use Rattle.framing.specs.Framing.{CountFits, Framing}
use Rattle.framing.specs.Layout.{last_end}
use Rattle.framing.specs.Plans.{part_at, sections_of}

-- a fault of part p that no record fits
pub record NoRecord (r : Refusal) (p : Part) (f : Fault) : Type 0 where
  pub refusal_is : f.refusal ≡ r
  pub part_is : f.part ≡ p
  pub record_is : f.record ≡ 0

-- (p, k) is the first place of a cause
pub record FirstPlace (C : Part → ℕ → Type 0) (p : Part) (k : ℕ) : Type 0 where
  pub here : C p k
  pub not_before : (q : Part) (l : ℕ) → Before q l p k → C q l → ⊥

-- the fault is of refusal r, at the first place of its causes
pub record FirstOf (cause : Causes) (r : Refusal) (f : Fault) : Type 0 where
  pub refusal_is : f.refusal ≡ r
  pub first : FirstPlace (cause r) f.part f.record

-- a sheet that refusals 1 to 3 do not fit
pub record Sound (f : SheetFormat) (bs : List ℕ) : Type 0 where
  pub no_cause : NoneApply (Framing f bs)
  pub all_end_within : last_end bs f ≤ length bs
  pub counts_fit : (i : ℕ) → i < sections_of f → CountFits bs (part_at f i)
