use Rattle.std.specs.Option.{option_map}
use Rattle.host.specs.declared.item.Named.{Named}
use Rattle.std.proofs.Common.{ap, ◌∙◌, rules, tests}
use Rattle.std.proofs.lemmas.Iterator.{YieldsList-from_slice}
use Rattle.std.proofs.lemmas.Iterator.Search.{find_from_yields_List}
use Rattle.host.proofs.Named.{has_name, named-find, map_gives}
use Rattle.host.proofs.names.first_named.Goals as goal

pub returns : goal.returns
returns c =
    let found = find_from_yields_List (has_name c.args.name) _ _ c.find.result c.find.ensures.ran (YieldsList-from_slice c.args.rows.now cc) (λ x b q k. search (rules, tests)) in
    let item = map_gives (λ x. x.now) (λ (x : Named). x.item) _ c.find.result c.map.result c.map.ensures.cases (λ x y q. search rules) in
    record { the_first = item ∙ ap (option_map (λ x. x.item)) found ∙ named-find c.args.name c.args.rows.now }
