-- Named items, and the tables of a prelude that has them.
use Rattle.std.specs.Prelude.{cond, List, None, Option, ◌==◌}
use Rattle.format.specs.declared.ids.Name.{Name}
use Rattle.host.specs.declared.item.Item.{Item}
use Rattle.host.specs.declared.item.Named.{Named}
use Rattle.host.specs.First.{first, or_else, when}
use Rattle.host.specs.Meaning.{ItemTables}

abbrev pub named_row : Name → Named → Option Item
named_row n x = when (x.name.0 == n.0) x.item

-- the item of the first row with that name
abbrev pub named : List Named → Name → Option Item
named xs n = first (named_row n) xs

-- in the module the added items count where there is none below; all else is as below
abbrev pub with_added : ItemTables → List Named → ItemTables
with_added below added = record { items = λ p n. or_else (below.items p n) (cond (p.0 == 0) (named added n) None); const_params = below.const_params }
