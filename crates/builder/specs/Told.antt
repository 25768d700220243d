-- What the tables of a scope tree hold, how many nodes they have room for, and how they grow.
use Rattle.std.specs.Prelude.{ℕ, ◌+◌, ◌*◌, ◌<◌, ◌≤◌, List, map, length}
use Rattle.format.specs.declared.ids.ScopeId.{ScopeId}
use Rattle.reach.specs.declared.data.Place.{Place}
use Rattle.reach.specs.declared.data.ScopeData.{ScopeData}
use Rattle.reach.specs.declared.data.ScopeEntry.{ScopeEntry}
use Rattle.reach.specs.Bare.{Scope, Entry}
use Rattle.reach.specs.Blank.{bare_entry, bare_scope}
use Rattle.reach.specs.Visit.{State}
use Rattle.table.specs.declared.Table.{Table}
use Rattle.table.specs.Tables.{listed}
use Rattle.builder.specs.declared.tables.Tables.{Tables}
use Rattle.builder.specs.declared.tables.Recorded.{Recorded}
use Rattle.builder.specs.declared.tables.Scopes.{Scopes}

-- the scopes, in order of making
abbrev pub scopes_in : Scopes → List ScopeData
scopes_in r = listed r.table

-- the scopes and the entries without their ranges and names
abbrev pub bare_scopes : Scopes → List Scope
bare_scopes r = map bare_scope (scopes_in r)

abbrev pub bare_entries : Table ScopeEntry 512 → List Entry
bare_entries e = map bare_entry (listed e)

abbrev pub tables_of : Scopes → Table ScopeEntry 512 → Recorded → State
tables_of r e p = record { scopes = bare_scopes r; entries = bare_entries e; placed = p.records }

abbrev pub told : Tables → State
told t = tables_of t.scopes t.entries t.recorded

abbrev pub scope_count : Tables → ℕ
scope_count t = length (scopes_in t.scopes)

abbrev pub entry_count : Tables → ℕ
entry_count t = length (listed t.entries)

-- a scope of the table
abbrev pub Stands : Scopes → ScopeId → Type 0
Stands r s = (0 < s.0) × (s.0 ≤ length (scopes_in r))

-- a place is of scopes that stand
abbrev pub Inside : Tables → Place → Type 0
Inside t at = Stands t.scopes at.current × Stands t.scopes at.constant

-- w more nodes have room: each makes at most two scopes and one entry
abbrev pub Room : Tables → Place → ℕ → Type 0
Room t at w = (scope_count t + 2 * w ≤ 1023) × (entry_count t + w ≤ 512) × Inside t at

-- the tables grew by at most some scopes and some entries
pub record Grew (t u : Tables) (scopes entries : ℕ) : Type 0 where
  pub no_scope_less : scope_count t ≤ scope_count u
  pub few_scopes : scope_count u ≤ scope_count t + scopes
  pub no_entry_less : entry_count t ≤ entry_count u
  pub few_entries : entry_count u ≤ entry_count t + entries

-- the tables grew by at most what w nodes make
abbrev pub Grown : Tables → Tables → Place → ℕ → Type 0
Grown t u r w = Grew t u (2 * w) w × Inside u r

-- of the work of w nodes so much is done that v nodes are left
pub record Spent (t u : Tables) (w v : ℕ) : Type 0 where
  pub no_scope_less : scope_count t ≤ scope_count u
  pub few_scopes : scope_count u + 2 * v ≤ scope_count t + 2 * w
  pub no_entry_less : entry_count t ≤ entry_count u
  pub few_entries : entry_count u + v ≤ entry_count t + w
