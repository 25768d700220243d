use Rattle.std.proofs.Common.{◌≡◌, ℕ, ◌<◌, length, get_or}
use Rattle.reach.specs.Named.{NamedBy, no_entry}
use Rattle.builder.specs.Told.{bare_entries}
use Rattle.sheet.specs.Held.{bindings_of}
use Rattle.table.specs.Tables.{listed}
use Rattle.builder.proofs.tables.build.name_all.Given as goal

abbrev pub invariant-loop-i : goal.invariant-loop-i
invariant-loop-i l = record {
  as_many : length (listed l.entries) ≡ length (listed l.initial.entries);
  same : bare_entries l.entries ≡ bare_entries l.initial.entries;
  named : (k : ℕ) → k < l.i → NamedBy (bindings_of l.body) (get_or (listed l.entries) k no_entry);
}
