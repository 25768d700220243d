use Rattle.std.proofs.Common.{◌≡◌, ◌+◌, ◌<◌, Bool, List, length, refl, sym, subst, arith, length-set}
use Rattle.std.proofs.lemmas.Bool.{both_ways}
use Rattle.sheet.specs.Drafts.{drawn}
use Rattle.sheet.specs.Shape.{kind_at}
use Rattle.sheet.specs.Steps.{Marked}
use Rattle.sheet.specs.Tree.{Child}
use Rattle.sheet.proofs.Drafts.{child_there}
use Rattle.sheet.proofs.Marks.{marks_keep, marks_set, open_is}
use Rattle.sheet.proofs.Once.{falls}
use Rattle.sheet.proofs.tree.Tree.mark_node.Goals as goal
use Rattle.sheet.proofs.tree.Tree.mark_node.Goals.{After-child_number-c, then-opens, else-opens}

-- the child at hand, and that it has a mark
child : (c : After-child_number-c) → Child (drawn c.args.self.now.draft) c.args.i c.loop-j.j c.child_number-c.result × (c.child_number-c.result < length c.loop-j.marks)
child c =
    let s = c.args.self.now in
    let ch : Child (drawn s.draft) c.args.i c.loop-j.j c.child_number-c.result = record { node = c.requires.is_there; place = c.loop-j-test.true; is = sym c.child_number-c.ensures.as_written } in
    (ch, omega (arith, c.loop-j.invariant.0, falls (drawn s.draft) s.draft.laid_out s.good c.args.i c.loop-j.j c.child_number-c.result ch, s.draft.few_nodes, c.requires.is_there))

pub child_number-c-requires : goal.child_number-c-requires
child_number-c-requires c =
    let s = c.args.self.now in
    record { is_there = child_there s.draft s.good.adds_up c.args.i c.loop-j.j c.requires.is_there c.loop-j-test.true }

pub loop-j-preserved : goal.loop-j-preserved
loop-j-preserved c =
    let s = c.args.self.now in
    let t = drawn s.draft in
    let i = c.args.i in
    let j = c.loop-j.j in
    let inv = c.loop-j.invariant in
    let ch = child (goal.at.loop-j-preserved c).After-child_number-c in
    let o = open_is t i j (kind_at t i) c.args.marks.now refl (falls t s.draft.laid_out s.good) c.requires.later_nodes in
    let P : List Bool → Type 0 = λ m. (length m ≡ 513) × Marked t i (j + 1) m in
    elim c.if-opens.branch [
      | then-opens w ↦ subst P (sym w.marks-is) (simp length-set inv.0, marks_set t i j c.child_number-c.result c.loop-j.marks ch.1 inv.1 ch.0 (o.0 (c.opens.ensures.a_condition.0 w.if-opens.true)))
      | else-opens w ↦ subst P (sym w.marks-is) (inv.0, marks_keep t i j c.loop-j.marks inv.1 (λ q. both_ways c.opens.result w.if-opens.false (c.opens.ensures.a_condition.1 (o.1 q))))
    ]
