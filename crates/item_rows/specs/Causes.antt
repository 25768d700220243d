-- When an item sheet is refused, for what and where.
use Rattle.std.specs.Prelude.{ℕ, List, map}
use Rattle.framing.specs.declared.fault.Part.{Part}
use Rattle.framing.specs.declared.fault.Part.TheVariants as P
use Rattle.framing.specs.declared.fault.Refusal.TheVariants as R
use Rattle.framing.specs.declared.sheet_format.SheetFormat.TheVariants as F
use Rattle.framing.specs.Broken.{Breaks}
use Rattle.framing.specs.Faults.{Causes}
use Rattle.framing.specs.Framing.{Framing}
use Rattle.framing.specs.Layout.{bytes_in, count_of}
use Rattle.table.specs.Tables.{tabulated}
use Rattle.item_rows.specs.declared.rows.ItemRow.{ItemRow}
use Rattle.item_rows.specs.declared.rows.ConstRow.{ConstRow}
use Rattle.item_rows.specs.declared.rows.ExpansionRow.{ExpansionRow}
use Rattle.item_rows.specs.Keys.{Follows}
use Rattle.item_rows.specs.Records.{GoodConst, GoodExpansion, GoodItem, const_at, expansion_at, item_at}
use Rattle.item_rows.specs.Rows.{const_key, expansion_key, item_key}

-- what a whole sheet writes
abbrev pub items_in : List ℕ → List ItemRow
items_in bs = tabulated (item_at (bytes_in bs P.Items)) (count_of bs P.Items)

abbrev pub consts_in : List ℕ → List ConstRow
consts_in bs = tabulated (const_at (bytes_in bs P.Constants)) (count_of bs P.Constants)

abbrev pub expansions_in : List ℕ → List ExpansionRow
expansions_in bs = tabulated (expansion_at (bytes_in bs P.Expansions)) (count_of bs P.Expansions)

-- one rule a section; nothing is asked of the parts that an item sheet does not have
abbrev pub by_section : (ℕ → Type 0) → (ℕ → Type 0) → (ℕ → Type 0) → Part → ℕ → Type 0
by_section items consts expansions P.Whole i = Unit {0}
by_section items consts expansions P.Nodes i = Unit {0}
by_section items consts expansions P.Children i = Unit {0}
by_section items consts expansions P.Bindings i = Unit {0}
by_section items consts expansions P.Frames i = Unit {0}
by_section items consts expansions P.Items i = items i
by_section items consts expansions P.Constants i = consts i
by_section items consts expansions P.Expansions i = expansions i

-- record i, from 0, of a section is good
abbrev pub Good : List ℕ → Part → ℕ → Type 0
Good bs = by_section (GoodItem (bytes_in bs P.Items)) (GoodConst (bytes_in bs P.Constants)) (GoodExpansion (bytes_in bs P.Expansions))

-- its key comes after that of the record before it
abbrev pub InOrder : List ℕ → Part → ℕ → Type 0
InOrder bs = by_section (Follows (map item_key (items_in bs))) (Follows (map const_key (consts_in bs))) (Follows (map expansion_key (expansions_in bs)))

-- the causes of each refusal, by part and record
abbrev pub Applies : List ℕ → Causes
Applies bs R.Version p k = Framing F.Items bs R.Version p k
Applies bs R.Length p k = Framing F.Items bs R.Length p k
Applies bs R.Count p k = Framing F.Items bs R.Count p k
Applies bs R.Record p k = ⊥
Applies bs R.Tree p k = ⊥
Applies bs R.LetPlace p k = ⊥
Applies bs R.NameOrFrame p k = ⊥
Applies bs R.ItemRecord p k = Breaks (Good bs p) (count_of bs p) k
Applies bs R.KeyOrder p k = Breaks (InOrder bs p) (count_of bs p) k
