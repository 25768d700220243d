-- The sections as parts of the bytes.
use Rattle.std.specs.Prelude.{◌≡◌, ℕ, ◌*◌, ◌/◌, List, length}
use Rattle.framing.specs.declared.section.Section.{Section}
use Rattle.framing.specs.declared.section.Section.TheVariants as X
use Rattle.framing.specs.declared.section.Sheet.{Sheet}
use Rattle.framing.specs.declared.section.ItemSections.{ItemSections}
use Rattle.framing.specs.declared.fault.Part.{Part}
use Rattle.framing.specs.declared.fault.Part.TheVariants as P
use Rattle.framing.specs.declared.sheet_format.SheetFormat.TheVariants as F
use Rattle.framing.specs.Faults.{NoneApply}
use Rattle.framing.specs.Framing.{CountFits, Framing}
use Rattle.framing.specs.Layout.{count_of, bytes_in}
use Rattle.framing.specs.Plans.{width_of}

-- the bytes of a section's records
abbrev pub bytes_of : Section → List ℕ
bytes_of (X.Nodes b) = b.now
bytes_of (X.Children b) = b.now
bytes_of (X.Bindings b) = b.now
bytes_of (X.Frames b) = b.now
bytes_of (X.Items b) = b.now
bytes_of (X.Constants b) = b.now
bytes_of (X.Expansions b) = b.now

abbrev pub part_of : Section → Part
part_of (X.Nodes b) = P.Nodes
part_of (X.Children b) = P.Children
part_of (X.Bindings b) = P.Bindings
part_of (X.Frames b) = P.Frames
part_of (X.Items b) = P.Items
part_of (X.Constants b) = P.Constants
part_of (X.Expansions b) = P.Expansions

-- how many records a section has
abbrev pub records_of : Section → ℕ
records_of x = length (bytes_of x) / width_of (part_of x)

-- xs, handed out as section q, are the records of section p of the bytes bs, as many as it says and within its limits
pub record Holds (bs : List ℕ) (p q : Part) (xs : List ℕ) : Type 0 where
  pub part_is : q ≡ p
  pub bytes_are : xs ≡ bytes_in bs p
  pub size_is : length xs ≡ width_of p * count_of bs p
  pub count_is : length xs / width_of q ≡ count_of bs p
  pub fits : CountFits bs p

-- a body sheet whose records can be read
pub record Framed (bs : List ℕ) (t : Sheet) : Type 0 where
  pub no_cause : NoneApply (Framing F.Body bs)
  pub nodes_are : Holds bs P.Nodes (part_of t.nodes) (bytes_of t.nodes)
  pub children_are : Holds bs P.Children (part_of t.children) (bytes_of t.children)
  pub bindings_are : Holds bs P.Bindings (part_of t.bindings) (bytes_of t.bindings)
  pub frames_are : Holds bs P.Frames (part_of t.frames) (bytes_of t.frames)

-- an item sheet whose records can be read
pub record FramedItems (bs : List ℕ) (t : ItemSections) : Type 0 where
  pub no_cause : NoneApply (Framing F.Items bs)
  pub items_are : Holds bs P.Items (part_of t.items) (bytes_of t.items)
  pub constants_are : Holds bs P.Constants (part_of t.constants) (bytes_of t.constants)
  pub expansions_are : Holds bs P.Expansions (part_of t.expansions) (bytes_of t.expansions)
