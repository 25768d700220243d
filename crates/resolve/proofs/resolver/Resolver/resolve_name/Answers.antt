use Rattle.std.proofs.Common.{◌≡◌, subst}
use Rattle.resolve.specs.Outward.{Surroundings, resolved, surroundings_of}
use Rattle.resolve.specs.Uses.{ForPlace}
use Rattle.resolve.proofs.Agree.{means_one}
use Rattle.resolve.proofs.Chains.{told_below}
use Rattle.resolve.proofs.Examples.{examples_hold}
use Rattle.resolve.proofs.Mixed.{definition_site, mixed_site}
use Rattle.resolve.proofs.OnTrees.{first_hit, supposing_none}
use Rattle.resolve.proofs.resolver.Resolver.resolve_name.Goals as goal

pub returns : goal.returns
returns g c =
    let W = g.I.ItemHost.tables c.args.self.now.items.now in
    let X = g.E.ExpansionHost.expansions c.args.self.now.expansions.now in
    let t = c.args.self.now.tree.now in
    let q = c.args.sought in
    let r = c.resolve_name_supposing.result in
    let is = subst (λ (T : Surroundings). ForPlace t q.from r (λ m. m ≡ resolved W X T q)) (supposing_none (surroundings_of c.args.self.now.body.now t)) c.resolve_name_supposing.ensures.is_as_defined_on_the_rewritten_tables_or_refused in
    record {
      is_as_defined_or_refused = is;
      is_the_first_hit_outward = first_hit W X c.args.self.now.body.now t q r is;
      has_no_other_meaning = means_one;
      goes_over_tables_with_parents_below = told_below t;
      finds_no_local_declared_after_the_macro_but_of_its_own_hygiene = mixed_site;
      looks_where_the_macro_is_defined = definition_site;
      is_defined_as_worked_out = examples_hold;
    }
