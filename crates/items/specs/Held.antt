-- What an item sheet holds, and the tables that it answers from.
use Rattle.std.specs.Prelude.{List, Some, None, Option}
use Rattle.format.specs.declared.ids.HygieneId.{HygieneId}
use Rattle.format.specs.declared.ids.MacroId.{MacroId}
use Rattle.host.specs.declared.item.ConstParamId.{ConstParamId}
use Rattle.host.specs.declared.item.Item.{Item}
use Rattle.host.specs.declared.item.Outer.{Outer}
use Rattle.host.specs.Meaning.{ExpansionTables, ItemTables}
use Rattle.table.specs.Tables.{listed}
use Rattle.item_rows.specs.declared.rows.ItemRow.{ItemRow}
use Rattle.item_rows.specs.declared.rows.ConstRow.{ConstRow}
use Rattle.item_rows.specs.declared.rows.ExpansionRow.{ExpansionRow}
use Rattle.items.specs.declared.sheet.ItemSheet.{ItemSheet}
use Rattle.items.specs.Under.{under}
use Rattle.item_rows.specs.Rows.{by_context, by_owner, by_place, const_key, expansion_key, item_key}

abbrev pub items_of : ItemSheet → List ItemRow
items_of s = listed s.tables.items

abbrev pub consts_of : ItemSheet → List ConstRow
consts_of s = listed s.tables.consts

abbrev pub expansions_of : ItemSheet → List ExpansionRow
expansions_of s = listed s.tables.expansions

abbrev pub item_in : Option ItemRow → Option Item
item_in (Some x) = Some x.item
item_in None = None

abbrev pub param_in : Option ConstRow → Option ConstParamId
param_in (Some x) = Some x.param
param_in None = None

abbrev pub outer_by : Option MacroId → HygieneId → Option Outer
outer_by (Some m) h = Some (record { by = m; parent = h })
outer_by None h = None

-- a context without a record has no outer macro
abbrev pub outer_in : Option ExpansionRow → Option Outer
outer_in (Some x) = outer_by x.by x.parent
outer_in None = None

-- a context without a record is its own opaque form
abbrev pub opaque_in : HygieneId → Option ExpansionRow → HygieneId
opaque_in h (Some x) = x.opaque
opaque_in h None = h

-- an item is that of the record with its place and name, a parameter that of the record with its owner and name
abbrev pub sheet_items : List ItemRow → List ConstRow → ItemTables
sheet_items is cs = record { items = λ p n. item_in (under item_key (by_place p n) is); const_params = λ o n. param_in (under const_key (by_owner o n) cs) }

-- a context's outer macro and opaque form are those of its record
abbrev pub sheet_expansions : List ExpansionRow → ExpansionTables
sheet_expansions es = record { outers = λ h. outer_in (under expansion_key (by_context h) es); opaques = λ h. opaque_in h (under expansion_key (by_context h) es) }
