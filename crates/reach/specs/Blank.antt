-- Blank records, and what a table of scopes keeps.
use Rattle.std.specs.Prelude.{ℕ, ◌<◌, ◌≤◌, List, length, Some, None, Option, slice_index_or}
use Rattle.format.specs.declared.ids.ScopeId.{ScopeId}
use Rattle.reach.specs.declared.data.ScopeData.{ScopeData}
use Rattle.reach.specs.declared.data.ScopeEntry.{ScopeEntry}
use Rattle.reach.specs.declared.data.ScopeKind.TheVariants as scope
use Rattle.reach.specs.Bare.{Scope, Entry}

-- a plain scope with no parent
abbrev pub no_scope : Scope
no_scope = record { parent = None; kind = scope.Plain }

abbrev pub blank_scope : ScopeData
blank_scope = record { parent = None; kind = scope.Plain; start = 0; end = 0 }

-- a scope and an entry without what the tables add
abbrev pub bare_scope : ScopeData → Scope
bare_scope r = record { parent = r.parent; kind = r.kind }

abbrev pub bare_entry : ScopeEntry → Entry
bare_entry e = record { scope = e.scope; binding = e.binding }

-- a scope whose range ends elsewhere
abbrev pub ending : ℕ → ScopeData → ScopeData
ending n r = record { parent = r.parent; kind = r.kind; start = r.start; end = n }

-- the number of a parent, 0 where there is none
abbrev pub parent_of : Option ScopeId → ℕ
parent_of None = 0
parent_of (Some p) = p.0

-- each scope has a parent numbered below it
abbrev pub Sloping : List ScopeData → Type 0
Sloping ss = (k : ℕ) → k < length ss → parent_of (slice_index_or ss k blank_scope).parent ≤ k

-- and scope 1 alone has none
abbrev pub Rooted : List ScopeData → Type 0
Rooted ss = (k : ℕ) → 0 < k → k < length ss → 0 < parent_of (slice_index_or ss k blank_scope).parent
