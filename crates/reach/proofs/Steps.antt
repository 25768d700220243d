use Rattle.std.proofs.Common.{◌≡◌, sym, ap, ◌∙◌}
use Rattle.sheet.specs.declared.node.Node.{Node}
use Rattle.format.specs.declared.ids.NodeId.{NodeId}
use Rattle.format.specs.declared.kind.NodeKind.{NodeKind}
use Rattle.reach.specs.Shape.{Shape, Below, node_at}
use Rattle.reach.specs.Visit.{step, visit_of, visits}
use Rattle.reach.proofs.Fold.{visit_is}

-- the visit of a node of kind k
pub by_kind : (b : Shape) (fall : Below b.nodes b.children) (n : NodeId) {r : Node} {k : NodeKind} → r ≡ node_at b.nodes n.raw → r.kind ≡ k → visit_of b n.raw ≡ step n.raw k (visits b n.raw)
by_kind b fall n e f = visit_is b fall n ∙ ap (λ k. step n.raw k (visits b n.raw)) (sym (ap (λ x. x.kind) e) ∙ f)
