use Rattle.std.proofs.Common.{◌≡◌, ◌+◌, ◌-◌, ◌<◌, ◌≤◌, length, get_or, sym, ap, ◌∙◌, arith}
use Rattle.std.proofs.lemmas.List.{length-map}
use Rattle.format.specs.Ids.{number_of}
use Rattle.sheet.specs.Held.{tree_of}
use Rattle.sheet.specs.Shape.{blank}
use Rattle.sheet.specs.declared.node.Node.{Node}
use Rattle.table.specs.Tables.{listed}
use Rattle.sheet.proofs.Counts.{laid_within}
use Rattle.table.proofs.Listed.{found_some}
use Rattle.sheet.proofs.body.Body.children.Goals as goal
use Rattle.sheet.proofs.body.Body.children.Goals.{After-as_slice}

-- the node is one of the body's
module _ (c : After-as_slice) where
  there : (c.args.n.raw - 1 < length (listed c.args.self.now.nodes)) × (c.in_ok-node.node ≡ get_or (listed c.args.self.now.nodes) (c.args.n.raw - 1) blank)
  there = found_some (listed c.args.self.now.nodes) (c.args.n.raw - 1) c.in_ok-node.node blank (sym c.node.ensures.is_that_node ∙ c.in_ok-node.was)

  -- its children end within the table
  within : c.in_ok-node.node.first + c.in_ok-node.node.count ≤ length (listed c.args.self.now.children)
  within =
      let b = c.args.self.now in
      let w = laid_within (tree_of b) (c.args.n.raw - 1) b.laid_out there.0 in
      omega (arith, w, b.adds_up, length-map (listed b.children) number_of, ap (λ (n : Node). n.count) there.1, ap (λ (n : Node). n.first) there.1)

pub slice_bounds-result-end : goal.slice_bounds-result-end
slice_bounds-result-end c = omega (arith, within (goal.at.slice_bounds-result-end c).After-as_slice, c.from.ensures, ap length c.as_slice.ensures.are_the_listed)

pub returns-clause-none_just_where_no_node_is : goal.returns-clause-none_just_where_no_node_is
returns-clause-none_just_where_no_node_is c = omega (arith, (there (goal.at.returns-clause-none_just_where_no_node_is c).After-as_slice).0, c.args.n.real)
