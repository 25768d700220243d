-- The numbers of refusals.
use Rattle.std.specs.Prelude.{ℕ}
use Rattle.scope.specs.declared.refusal.QueryRefusal.{QueryRefusal}
use Rattle.scope.specs.declared.refusal.QueryRefusal.TheVariants as R

abbrev pub refusal_number : QueryRefusal → ℕ
refusal_number R.NoExpression = 21
refusal_number R.NoScope = 23
