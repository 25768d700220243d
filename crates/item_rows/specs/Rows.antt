-- The records of an item sheet and their keys.
use Rattle.std.specs.Prelude.{ℕ, ◌<◌, List, length, slice_index_or}
use Rattle.format.specs.declared.ids.HygieneId.{HygieneId}
use Rattle.format.specs.declared.ids.Name.{Name}
use Rattle.format.specs.declared.ids.OwnerId.{OwnerId}
use Rattle.host.specs.declared.item.PlaceId.{PlaceId}
use Rattle.item_rows.specs.declared.key.Key.{Key}
use Rattle.item_rows.specs.declared.rows.ItemRow.{ItemRow}
use Rattle.item_rows.specs.declared.rows.ConstRow.{ConstRow}
use Rattle.item_rows.specs.declared.rows.ExpansionRow.{ExpansionRow}

-- by place and name, by owner and name, by context
abbrev pub by_place : PlaceId → Name → Key
by_place p n = record { major = p.0; minor = n.0 }

abbrev pub by_owner : OwnerId → Name → Key
by_owner o n = record { major = o.0; minor = n.0 }

abbrev pub by_context : HygieneId → Key
by_context h = record { major = h.0; minor = 0 }

abbrev pub item_key : ItemRow → Key
item_key x = by_place x.place x.name

abbrev pub const_key : ConstRow → Key
const_key x = by_owner x.owner x.name

abbrev pub expansion_key : ExpansionRow → Key
expansion_key x = by_context x.context

-- no expansion is of the root
abbrev pub Rooted : List ExpansionRow → Type 0
Rooted es = (i : ℕ) (d : ExpansionRow) → i < length es → 0 < (slice_index_or es i d).context.0
