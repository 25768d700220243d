-- What the steps of reading a body share.
use Rattle.sheet.specs.declared.draft.Draft.{Draft}
use Rattle.sheet.specs.Records.{numbers}
use Rattle.sheet.specs.Shape.{Shape, shape}

-- the shape that the nodes and the written children of a draft have
abbrev pub drawn : Draft → Shape
drawn d = shape d.nodes.now (numbers d.children.now)
