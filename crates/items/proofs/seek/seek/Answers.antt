use Rattle.std.proofs.Common.{◌∙◌, rules}
use Rattle.std.proofs.lemmas.List.Sorted.{answers_always}
use Rattle.items.proofs.Sorted.{found_under, none_under}
use Rattle.items.proofs.seek.seek.Goals as goal

pub returns-in_err-at : goal.returns-in_err-at
returns-in_err-at g c =
    let by_key = c.binary_search_by_key.ensures.position g.R.Keyed.filed (answers_always _ _ _ (λ f a r h called. search rules)) in
    record {
      is_the_one_under_that_key = c.from_residual.ensures ∙ none_under g.R.Keyed.filed c.args.rows.now c.args.key c.requires.rising c.binary_search_by_key.result c.in_err-at.ensures.value by_key;
    }

pub returns : goal.returns
returns g c =
    let by_key = c.binary_search_by_key.ensures.position g.R.Keyed.filed (answers_always _ _ _ (λ f a r h called. search rules)) in
    record {
      is_the_one_under_that_key =
          found_under g.R.Keyed.filed c.args.rows.now c.args.key c.requires.rising c.binary_search_by_key.result _ _ c.in_ok-at.ensures.value c.binary_search_by_key.ensures.bound by_key c.index-rows-at.is;
    }
