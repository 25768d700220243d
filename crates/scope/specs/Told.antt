-- What a scope tree holds.
use Rattle.reach.specs.Visit.{State}
use Rattle.builder.specs.Told as B
use Rattle.scope.specs.declared.tables.ExprScopes.{ExprScopes}

abbrev pub told : ExprScopes → State
told t = B.told t.tables
