-- What a meaning is told by: its sort, and its numbers.
use Rattle.std.specs.Prelude.{◌≡◌, ℕ, List, [], ◌∷◌}
use Rattle.host.specs.Kinds.{kind_number}
use Rattle.resolve.specs.declared.resolution.Resolution.{Resolution}
use Rattle.resolve.specs.declared.resolution.Resolution.TheVariants as R
use Rattle.resolve.specs.declared.resolution.Sort.{Sort}
use Rattle.resolve.specs.declared.resolution.Sort.TheVariants as S

pub record Telling : Type 0 where
  pub sort : Sort
  pub numbers : List ℕ

-- a local by its binding, an item by its kind and number, a constant parameter and an impl by their numbers
abbrev pub tells : Resolution → Telling
tells (R.Local v) = record { sort = S.Local; numbers = v.0 ∷ [] }
tells (R.Item i) = record { sort = S.Item; numbers = kind_number i.kind ∷ (i.id.0 ∷ []) }
tells (R.ConstParam p) = record { sort = S.ConstParam; numbers = p.0 ∷ [] }
tells (R.ImplSelf o) = record { sort = S.ImplSelf; numbers = o.0 ∷ [] }
tells R.Unfound = record { sort = S.Unfound; numbers = [] }

-- what is told fixes the meaning
abbrev pub ToldApart : Type 0
ToldApart = (r q : Resolution) → tells r ≡ tells q → r ≡ q
