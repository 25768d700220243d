use Rattle.std.proofs.Common.{◌≡◌, Some, Ok, sym, ap, ◌∙◌}
use Rattle.resolve.specs.Outward.{Surroundings, resolved, surroundings_of}
use Rattle.resolve.specs.Uses.{ForUse}
use Rattle.resolve.proofs.OnTrees.{supposing_none}
use Rattle.resolve.proofs.Reached.{result_reached}
use Rattle.resolve.proofs.resolver.Resolver.resolve_use.Goals as goal

pub returns : goal.returns
returns g c =
    let W = g.I.ItemHost.tables c.args.self.now.items.now in
    let X = g.E.ExpansionHost.expansions c.args.self.now.expansions.now in
    let b = c.args.self.now.body.now in
    let t = c.args.self.now.tree.now in
    let h = c.in_ok-sought.ensures.is_what_the_use_asks_or_refused in
    let q = c.in_ok-sought.sought in
    let is : ForUse b t c.args.node (Ok c.look_outward.result) (λ p m. m ≡ resolved W X (surroundings_of b t) p) = (q, h.1 ∙ ap Some (sym h.2), c.look_outward.ensures.the_first_that_answers ∙ ap (λ (T : Surroundings). resolved W X T q) (supposing_none (surroundings_of b t))) in
    record { is_what_its_name_means_or_refused = is; is_a_local_only_where_the_local_reaches = result_reached W X b t c.args.node (Ok c.look_outward.result) is }
