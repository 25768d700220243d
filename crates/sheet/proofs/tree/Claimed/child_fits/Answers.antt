use Rattle.std.proofs.Common.{None, ◌+◌, get_or, refl, ap, sym, ◌∙◌, arith}
use Rattle.format.specs.Kinds.{admits}
use Rattle.sheet.specs.Drafts.{drawn}
use Rattle.sheet.specs.Shape.{node_at, sort_at}
use Rattle.sheet.proofs.Drafts.{child_there, child_total}
use Rattle.sheet.proofs.Rules.{child_decided}
use Rattle.sheet.proofs.tree.Claimed.child_fits.Goals as goal

pub child_number-c-requires : goal.child_number-c-requires
child_number-c-requires c =
    let s = c.args.self.now in
    record { is_there = child_there s.draft s.adds_up c.args.i c.args.j c.requires.is_there c.requires.has_the_place }

pub is_first-requires : goal.is_first-requires
is_first-requires c =
    let s = c.args.self.now in
    record {
      is_a_number = omega (arith, c.if-c-i.false, c.requires.is_there, s.draft.few_nodes);
      is_a_place = omega (arith, child_there s.draft s.adds_up c.args.i c.args.j c.requires.is_there c.requires.has_the_place, child_total s.draft, s.draft.few_children);
    }

pub returns-else-c-eq0 : goal.returns-else-c-eq0
returns-else-c-eq0 c =
    let s = c.args.self.now in
    let t = drawn s.draft in
    let i = c.args.i in
    let j = c.args.j in
    let k = c.child_number-c.result in
    let q = (node_at t i).first + j in
    let ad = ap (λ s. admits s (sort_at t k)) (sym c.slot.ensures.by_the_kind) ∙ (ap (admits c.slot.result) (sym c.sort_of.ensures.its_own) ∙ (sym c.admits.ensures.its_sort_or_absent ∙ c.if-not-admits.false)) in
    let v = get_or s.first k None in
    let there = child_there s.draft s.adds_up i j c.requires.is_there c.requires.has_the_place in
    let d = child_decided t i j q k v refl c.child_number-c.ensures.as_written (omega (arith, c.if-c-i.false)) ad there c.if-c-eq0.false (s.claims k (omega (arith, c.if-c-i.false, c.requires.is_there, s.draft.few_nodes))) in
    record { is_good = (λ h. d.0 (c.is_first.ensures.has_the_claim.0 h), λ g. c.is_first.ensures.has_the_claim.1 (d.1 g)) }
