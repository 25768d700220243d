-- What looking at the order of the tables says of them.
use Rattle.std.specs.Prelude.{◌⊎◌, List, map, length}
use Rattle.framing.specs.declared.fault.Fault.{Fault}
use Rattle.framing.specs.declared.fault.Part.{Part}
use Rattle.framing.specs.declared.fault.Part.TheVariants as P
use Rattle.framing.specs.declared.fault.Refusal.TheVariants as R
use Rattle.framing.specs.Broken.{FirstBroken}
use Rattle.table.specs.Tables.{listed}
use Rattle.item_rows.specs.declared.key.Key.{Key}
use Rattle.item_rows.specs.declared.tables.Tables.{Tables}
use Rattle.item_rows.specs.Keys.{Follows, Rising}
use Rattle.item_rows.specs.Rows.{const_key, expansion_key, item_key}

-- the keys of each table
abbrev pub item_keys : Tables → List Key
item_keys t = map item_key (listed t.items)

abbrev pub const_keys : Tables → List Key
const_keys t = map const_key (listed t.consts)

abbrev pub expansion_keys : Tables → List Key
expansion_keys t = map expansion_key (listed t.expansions)

pub record Sorted (t : Tables) : Type 0 where
  pub items : Rising (item_keys t)
  pub consts : Rising (const_keys t)
  pub expansions : Rising (expansion_keys t)

-- a fault of the first key that does not come after the one before it
abbrev pub FirstUnsorted : List Key → Part → Fault → Type 0
FirstUnsorted ks p f = FirstBroken (Follows ks) (length ks) R.KeyOrder p f

abbrev pub Unsorted : Tables → Fault → Type 0
Unsorted t f =
    FirstUnsorted (item_keys t) P.Items f ⊎
    ((Rising (item_keys t) × FirstUnsorted (const_keys t) P.Constants f) ⊎
    (Rising (item_keys t) × Rising (const_keys t) × FirstUnsorted (expansion_keys t) P.Expansions f))
