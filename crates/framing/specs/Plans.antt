-- What a format fixes: its sections in their order, and for each the size of a record and the limits of the count.
use Rattle.std.specs.Prelude.{ℕ, List, [], ◌∷◌, length, slice_index_or}
use Rattle.framing.specs.declared.fault.Part.{Part}
use Rattle.framing.specs.declared.fault.Part.TheVariants as P
use Rattle.framing.specs.declared.sheet_format.SheetFormat.{SheetFormat}
use Rattle.framing.specs.declared.sheet_format.SheetFormat.TheVariants as F

-- the sections of a sheet, in their order
abbrev pub plan_of : SheetFormat → List Part
plan_of F.Body = P.Nodes ∷ P.Children ∷ P.Bindings ∷ P.Frames ∷ []
plan_of F.Items = P.Items ∷ P.Constants ∷ P.Expansions ∷ []

-- how many they are, and which stands at place i
abbrev pub sections_of : SheetFormat → ℕ
sections_of f = length (plan_of f)

abbrev pub part_at : SheetFormat → ℕ → Part
part_at f i = slice_index_or (plan_of f) i P.Whole

-- the format of the sheets that have a section; the whole is no section, and goes with a body
abbrev pub format_of : Part → SheetFormat
format_of P.Whole = F.Body
format_of P.Nodes = F.Body
format_of P.Children = F.Body
format_of P.Bindings = F.Body
format_of P.Frames = F.Body
format_of P.Items = F.Items
format_of P.Constants = F.Items
format_of P.Expansions = F.Items

-- how many bytes a record of each section has
abbrev pub width_of : Part → ℕ
width_of P.Whole = 0
width_of P.Nodes = 11
width_of P.Children = 2
width_of P.Bindings = 8
width_of P.Frames = 5
width_of P.Items = 13
width_of P.Constants = 12
width_of P.Expansions = 16

-- the least and the most records of each section
abbrev pub least_of : Part → ℕ
least_of P.Whole = 0
least_of P.Nodes = 1
least_of P.Children = 0
least_of P.Bindings = 0
least_of P.Frames = 0
least_of P.Items = 0
least_of P.Constants = 0
least_of P.Expansions = 0

abbrev pub most_of : Part → ℕ
most_of P.Whole = 0
most_of P.Nodes = 512
most_of P.Children = 1024
most_of P.Bindings = 256
most_of P.Frames = 16
most_of P.Items = 512
most_of P.Constants = 64
most_of P.Expansions = 256
