use Rattle.std.proofs.Common.{◌≡◌, ◌-◌, map, get_or, set, refl, ap, ◌∙◌}
use Rattle.table.specs.Tables.{listed}
use Rattle.reach.specs.Blank.{bare_scope, blank_scope, ending}
use Rattle.reach.proofs.Slopes.{unseen}
use Rattle.builder.proofs.tables.Scopes.widen.Goals as goal

pub returns-clause-same_tree : goal.returns-clause-same_tree
returns-clause-same_tree c =
    let ss = listed c.args.self.now.table in
    let k = c.args.s.0 - 1 in
    let wide = ending c.args.end (get_or ss k blank_scope) in
    let is : listed c.set.new.self ≡ set ss k wide = c.set.ensures.puts_it_there ∙ ap (λ xs. set ss k (ending c.args.end (get_or xs k blank_scope))) c.as_slice.ensures.are_the_listed in
    ap (map bare_scope) is ∙ unseen bare_scope ss k wide blank_scope refl
