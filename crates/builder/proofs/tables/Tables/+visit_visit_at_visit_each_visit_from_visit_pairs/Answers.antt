use Rattle.std.proofs.Common.{◌+◌, ap, ◌∙◌, arith}
use Rattle.reach.specs.Held.{shape_of}
use Rattle.reach.specs.Visit.{visits}
use Rattle.builder.specs.Told.{told}
use Rattle.reach.proofs.Fold.{all_end, each_end, pairs_end, pairs_turn}
use Rattle.builder.proofs.tables.Tables.+visit_visit_at_visit_each_visit_from_visit_pairs.Goals as goal

pub visit_from-returns-clause-is : goal.visit_from-returns-clause-is
visit_from-returns-clause-is t c =
    let k = ap (λ r. r.count) c.look-node.ensures.it in
    c.loop-i.invariant.same ∙ all_end (shape_of c.args.body.now) c.args.n.raw c.loop-i.i c.loop-i.now_at (told c.loop-i.self) (omega arith)

pub visit_each-returns-clause-is : goal.visit_each-returns-clause-is
visit_each-returns-clause-is t c =
    let k = ap (λ r. r.count) c.look-node.ensures.it in
    c.loop-i.invariant.same ∙ each_end (shape_of c.args.body.now) c.args.n.raw c.loop-i.i c.args.at (told c.loop-i.self) (omega arith)

pub visit_pairs-returns-clause-is : goal.visit_pairs-returns-clause-is
visit_pairs-returns-clause-is t c =
    let k = ap (λ r. r.count) c.look-node.ensures.it in
    c.loop-i.invariant.same ∙ pairs_end (shape_of c.args.body.now) c.args.n.raw c.loop-i.i c.args.at (told c.loop-i.self) (omega arith)

pub visit_pairs-returns-2-clause-is : goal.visit_pairs-returns-2-clause-is
visit_pairs-returns-2-clause-is t c =
    let b = shape_of c.args.body.now in
    let k = ap (λ r. r.count) c.look-node.ensures.it in
    c.loop-i.invariant.same ∙ pairs_turn (visits b c.args.n.raw) c.loop-i.i c.args.at (told c.loop-i.self)
    ∙ rw (c.visit_at.ensures.is, pairs_end b c.args.n.raw (c.loop-i.i + 2) c.args.at (told c.visit_at.new.self) (omega arith))
