use Rattle.std.proofs.Common.{◌≡◌}
use Rattle.scope.specs.Queries.{outward}
use Rattle.scope.proofs.tables.ExprScopes.scope_chain.Given as goal

abbrev pub invariant-loop : goal.invariant-loop
invariant-loop l = l.at ≡ outward l.self l.initial.at l.counter
