-- The record under a key.
use Rattle.std.specs.Prelude.{List, Option}
use Rattle.host.specs.First.{first, when}
use Rattle.item_rows.specs.Keys.{same}
use Rattle.item_rows.specs.declared.key.Key.{Key}

-- the first record with that key, or none
abbrev pub under : {R : Type 0} → (R → Key) → Key → List R → Option R
under key k = first (λ x. when (same (key x) k) x)
