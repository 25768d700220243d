use Rattle.std.proofs.Common.{◌==◌, sym, ◌∙◌, rules, tests}
use Rattle.std.proofs.lemmas.Iterator.{YieldsList-from_slice}
use Rattle.std.proofs.lemmas.Iterator.Adapters.{option_map_id}
use Rattle.std.proofs.lemmas.Iterator.Consumers.{YieldsList-from_copied, YieldsList-from_filter, nth_from_yields_List}
use Rattle.scope.specs.Queries.{entries_of}
use Rattle.scope.proofs.Own.{found_get}
use Rattle.scope.proofs.tables.queries.nth_of.Goals as goal

pub returns : goal.returns
unfolding entries_of
returns c = record {
  is_that_one =
      sym (option_map_id c.nth.result)
      ∙ (nth_from_yields_List _ _ c.args.i c.nth.ensures.ran (YieldsList-from_filter _ (λ e. e.scope.0 == c.args.s.0) (YieldsList-from_copied (YieldsList-from_slice c.args.entries.now cc)) c.filter.ensures.closure (λ x r q k. search (rules, tests)))
      ∙ sym (found_get (entries_of c.args.s.0 c.args.entries.now) c.args.i));
}
