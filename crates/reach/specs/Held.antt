-- The nodes and children of a body, as lists.
use Rattle.sheet.specs.declared.body.Body.{Body}
use Rattle.table.specs.Tables.{listed}
use Rattle.reach.specs.Shape.{Shape}

abbrev pub shape_of : Body → Shape
shape_of b = record { nodes = listed b.nodes; children = listed b.children }
