-- What stands at a place of a list, or a default.
use Rattle.std.proofs.Common.{◌≡◌, ℕ, zero, suc, List, [], ◌∷◌, get_or, refl}
use Rattle.std.specs.Option.{unwrap_or}
use Rattle.table.specs.Tables.{found}

pub found_or : {X : Type 0} (xs : List X) (i : ℕ) (d : X) → unwrap_or (found xs i) d ≡ get_or xs i d
found_or [] i d = refl
found_or (x ∷ xs) zero d = refl
found_or (x ∷ xs) (suc i) d = found_or xs i d
