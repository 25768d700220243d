-- What filling the tables says of them.
use Rattle.std.specs.Prelude.{◌≡◌, ℕ, ◌<◌, List}
use Rattle.framing.specs.declared.fault.Part.{Part}
use Rattle.framing.specs.declared.sheet_format.SheetFormat.TheVariants as F
use Rattle.framing.specs.Faults.{NoneApply}
use Rattle.framing.specs.Framing.{Framing}
use Rattle.framing.specs.Layout.{count_of}
use Rattle.table.specs.Tables.{listed}
use Rattle.item_rows.specs.declared.tables.Tables.{Tables}
use Rattle.item_rows.specs.Causes.{Good, consts_in, expansions_in, items_in}

-- the tables list what the bytes write, and every record is good
pub record Filled (bs : List ℕ) (t : Tables) : Type 0 where
  pub framed : NoneApply (Framing F.Items bs)
  pub all_good : (p : Part) (i : ℕ) → i < count_of bs p → Good bs p i
  pub items : listed t.items ≡ items_in bs
  pub consts : listed t.consts ≡ consts_in bs
  pub expansions : listed t.expansions ≡ expansions_in bs
