-- What adding a name to a prelude answers, and what it leaves.
use Rattle.std.specs.Prelude.{ℕ, cond, List, [], ◌∷◌, ◌++◌, Some, None, Ok, Err, Option, Result, ◌==◌}
use Rattle.format.specs.declared.ids.Name.{Name}
use Rattle.host.specs.declared.item.Item.{Item}
use Rattle.host.specs.declared.item.Named.{Named}
use Rattle.host.specs.declared.prelude.PreludeRefusal.{PreludeRefusal}
use Rattle.host.specs.declared.prelude.PreludeRefusal.TheVariants.{Full, NameTaken}
use Rattle.host.specs.Names.{named}
use Rattle.table.specs.declared.Table.{Table}
use Rattle.table.specs.Tables.{listed}

abbrev pub refusal_number : PreludeRefusal → ℕ
refusal_number Full = 25
refusal_number NameTaken = 26

abbrev pub names_of : Table Named 64 → List Named
names_of s = listed s

abbrev pub unless_taken : Option Item → Result (Unit {0}) PreludeRefusal
unless_taken (Some i) = Err NameTaken
unless_taken None = Ok tt

-- refused where the table is full, then where it has the name
abbrev pub add_answer : List Named → ℕ → Name → Result (Unit {0}) PreludeRefusal
add_answer rows count n = cond (count == 64) (Err Full) (unless_taken (named rows n))

-- the name last where it is added; else what was there
abbrev pub after_adding : Result (Unit {0}) PreludeRefusal → List Named → Name → Item → List Named
after_adding (Ok _) rows n i = rows ++ record { name = n; item = i } ∷ []
after_adding (Err _) rows n i = rows
