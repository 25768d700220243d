-- What a draft's facts say of its shape.
use Rattle.std.proofs.Common.{◌≡◌, ℕ, ◌+◌, ◌/◌, ◌<◌, length, arith}
use Rattle.table.proofs.Listed.{length-tabulated}
use Rattle.sheet.specs.declared.draft.Draft.{Draft}
use Rattle.sheet.specs.Drafts.{drawn}
use Rattle.sheet.specs.Records.{child_from}
use Rattle.sheet.specs.Shape.{node_at}
use Rattle.sheet.specs.Tree.{AddsUp}
use Rattle.sheet.proofs.Counts.{laid_within}

module _ (d : Draft) where
  pub child_total : length (drawn d).children ≡ length d.children.now / 2
  child_total = length-tabulated (child_from d.children.now) (length d.children.now / 2)

  -- where the counts add up, a node's children are there
  pub child_there : AddsUp (drawn d) → (i j : ℕ) → i < length d.nodes.now → j < (node_at (drawn d) i).count → (node_at (drawn d) i).first + j < length (drawn d).children
  child_there a i j h l = omega (arith, a, laid_within (drawn d) i d.laid_out h)
