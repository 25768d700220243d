use Rattle.std.proofs.Common.{None, ◌+◌, get_or, ap, ◌∙◌, sym, arith}
use Rattle.format.specs.declared.kind.Sort.TheVariants as S
use Rattle.format.specs.Kinds.{same_sort}
use Rattle.sheet.specs.Drafts.{drawn}
use Rattle.sheet.proofs.Rules.{body_flag, same_flags}
use Rattle.sheet.proofs.Times.{claimed_from, claimed_is}
use Rattle.sheet.proofs.tree.Claimed.check_node.Goals as goal
use Rattle.sheet.proofs.tree.Claimed.check_node.Goals.{else-not-is_last-via-then-not-is_last+else-is_none, else-not-is_last-via-else-not-is_last}

pub returns : goal.returns
returns c =
    let s = c.args.self.now in
    let cs = (drawn s.draft).children in
    let i = c.args.i in
    let v = get_or s.first (i + 1) None in
    record {
      good_or_refused = record {
        children = c.children_fit.ensures.all_good.0 c.if-not-children_fit.false;
        claimed = λ more. elim c.else-not-is_last.branch [
          | else-not-is_last-via-then-not-is_last+else-is_none w ↦
              claimed_from cs v (i + 1) (s.claims (i + 1) (omega (arith, s.draft.few_nodes))) (claimed_is v _ w.is_none.ensures w.if-is_none.false)
          | else-not-is_last-via-else-not-is_last w ↦ absurd (omega (arith, w.if-not-is_last.false))
        ];
        body_last = ap (λ k. same_sort k S.Body) (sym c.sort.ensures.by_the_kind) ∙ (sym (body_flag c.sort.result) ∙ (sym c.eq.ensures ∙ same_flags _ _ c.if-eq-is_last.false));
      };
    }
