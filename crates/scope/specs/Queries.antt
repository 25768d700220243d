-- What the questions about a scope tree are answered with.
use Rattle.std.specs.Prelude.{◌≡◌, ℕ, zero, suc, ◌-◌, Bool, cond, ◌&&◌, List, length, filter, Some, None, Option, Result, MatchResult, ◌==◌, nat_le, slice_index_or}
use Rattle.std.specs.List.{find}
use Rattle.format.specs.declared.ids.BlockId.{BlockId}
use Rattle.format.specs.declared.ids.LabelId.{LabelId}
use Rattle.format.specs.declared.ids.MacroId.{MacroId}
use Rattle.format.specs.declared.ids.Name.{Name}
use Rattle.format.specs.declared.ids.NodeId.{NodeId}
use Rattle.format.specs.declared.ids.ScopeId.{ScopeId}
use Rattle.reach.specs.declared.data.ScopeData.{ScopeData}
use Rattle.reach.specs.declared.data.ScopeEntry.{ScopeEntry}
use Rattle.reach.specs.declared.data.ScopeKind.{ScopeKind}
use Rattle.reach.specs.declared.data.ScopeKind.TheVariants as K
use Rattle.scope.specs.declared.refusal.QueryRefusal.{QueryRefusal}
use Rattle.scope.specs.declared.refusal.QueryRefusal.TheVariants as R
use Rattle.scope.specs.declared.tables.ExprScopes.{ExprScopes}
use Rattle.reach.specs.Blank.{blank_scope}
use Rattle.table.specs.Tables.{listed}
use Rattle.builder.specs.Told.{Stands, scopes_in}

-- all scopes and all entries, in order of making and of adding
abbrev pub all_scopes : ExprScopes → List ScopeData
all_scopes t = scopes_in t.tables.scopes

abbrev pub all_entries : ExprScopes → List ScopeEntry
all_entries t = listed t.tables.entries

-- the scope that an expression is recorded in
abbrev pub recorded_at : ExprScopes → NodeId → Option ScopeId
recorded_at t n = slice_index_or t.tables.recorded.records (n.raw - 1) None

-- a scope of the tree
abbrev pub IsScope : ExprScopes → ScopeId → Type 0
IsScope t s = Stands t.tables.scopes s

abbrev pub data_of : ExprScopes → ScopeId → ScopeData
data_of t s = slice_index_or (all_scopes t) (s.0 - 1) blank_scope

-- the answer for a scope, or refusal 23 exactly where there is no such scope
abbrev pub ForScope : {X : Type 0} → ExprScopes → ScopeId → Result X QueryRefusal → (X → Type 0) → Type 0
ForScope t s r P = MatchResult r (λ x. IsScope t s × P x) (λ f. (f ≡ R.NoScope) × (IsScope t s → ⊥))

-- the parent of a scope that stands, else none
abbrev pub is_scope : ExprScopes → ScopeId → Bool
is_scope t s = nat_le 1 s.0 && nat_le s.0 (length (all_scopes t))

abbrev pub parent_from : ExprScopes → Option ScopeId → Option ScopeId
parent_from t None = None
parent_from t (Some s) = cond (is_scope t s) (data_of t s).parent None

-- the scope i steps outward on a chain, or none past its end
unfoldable pub outward : ExprScopes → Option ScopeId → ℕ → Option ScopeId
outward t o zero = o
outward t o (suc i) = parent_from t (outward t o i)

-- what a scope's kind names
abbrev pub block_in : ScopeKind → Option BlockId
block_in K.Plain = None
block_in (K.Block b l) = Some b
block_in (K.Label l) = None
block_in (K.MacroDef m) = None

abbrev pub label_in : ScopeKind → Option LabelId
label_in K.Plain = None
label_in (K.Block b l) = l
label_in (K.Label l) = Some l
label_in (K.MacroDef m) = None

abbrev pub macro_in : ScopeKind → Option MacroId
macro_in K.Plain = None
macro_in (K.Block b l) = None
macro_in (K.Label l) = None
macro_in (K.MacroDef m) = Some m

-- the entries of scope h among some
unfoldable pub entries_of : ℕ → List ScopeEntry → List ScopeEntry
entries_of h es = filter (λ e. e.scope.0 == h) es

-- the first of some entries that has the name of a number
unfoldable pub first_named : ℕ → List ScopeEntry → Option ScopeEntry
first_named n es = find (λ e. e.name.0 == n) es

-- the first of some entries that passes a test
unfoldable pub first_that : (ScopeEntry → Bool) → List ScopeEntry → Option ScopeEntry
first_that p es = find p es

-- an entry of a name, whatever its hygiene
abbrev pub named : Name → ScopeEntry → Bool
named n e = e.name.0 == n.0
