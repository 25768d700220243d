-- What reading a section of records says of them.
use Rattle.std.specs.Prelude.{◌≡◌, ℕ, ◌+◌, ◌*◌, ◌/◌, ◌<◌, ◌≤◌, List, length}
use Rattle.framing.specs.Broken.{FirstBroken}
use Rattle.framing.specs.declared.fault.Fault.{Fault}
use Rattle.framing.specs.declared.fault.Part.{Part}
use Rattle.framing.specs.declared.fault.Refusal.{Refusal}
use Rattle.table.specs.Tables.{tabulated}

-- record i, of w bytes, is there
abbrev pub There : ℕ → List ℕ → ℕ → Type 0
There w bs i = w * i + w ≤ length bs

-- the rows are those that the bytes write, of w bytes each, and every one is good
pub record ReadFrom {R : Type 0} (w : ℕ) (row : List ℕ → ℕ → R) (Good : List ℕ → ℕ → Type 0) (bs : List ℕ) (rows : List R) : Type 0 where
  pub are_written : rows ≡ tabulated (row bs) (length bs / w)
  pub are_good : (k : ℕ) → k < length bs / w → Good bs k

-- a refusal at the first record that is bad
abbrev pub FirstUnread : ℕ → (List ℕ → ℕ → Type 0) → Refusal → Part → List ℕ → Fault → Type 0
FirstUnread w Good r p bs f = FirstBroken (Good bs) (length bs / w) r p f
