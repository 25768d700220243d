-- The uses of a body, and where a look-up may begin.
use Rattle.std.specs.Prelude.{◌≡◌, ◌-◌, Some, None, Option, Result, MatchResult, slice_index_or}
use Rattle.format.specs.declared.ids.HygieneId.{HygieneId}
use Rattle.format.specs.declared.ids.Name.{Name}
use Rattle.format.specs.declared.ids.NodeId.{NodeId}
use Rattle.format.specs.declared.ids.ScopeId.{ScopeId}
use Rattle.format.specs.declared.kind.NodeKind.{NodeKind}
use Rattle.format.specs.declared.kind.NodeKind.TheVariants as N
use Rattle.scope.specs.Queries.{IsScope, recorded_at}
use Rattle.scope.specs.declared.refusal.QueryRefusal.{QueryRefusal}
use Rattle.scope.specs.declared.refusal.QueryRefusal.TheVariants as Q
use Rattle.scope.specs.declared.tables.ExprScopes.{ExprScopes}
use Rattle.sheet.specs.Held.{nodes_of}
use Rattle.table.specs.Tables.{found}
use Rattle.sheet.specs.declared.body.Body.{Body}
use Rattle.sheet.specs.declared.node.Node.{Node}
use Rattle.resolve.specs.declared.sought.Sought.{Sought}

-- a look-up begins outside, or in a scope of the tree
abbrev pub IsPlace : ExprScopes → Option ScopeId → Type 0
IsPlace t None = Unit {0}
IsPlace t (Some s) = IsScope t s

-- the answer from a place, or refusal 23 exactly where there is no such scope
abbrev pub ForPlace : {X : Type 0} → ExprScopes → Option ScopeId → Result X QueryRefusal → (X → Type 0) → Type 0
ForPlace t o r P = MatchResult r (λ x. IsPlace t o × P x) (λ f. (f ≡ Q.NoScope) × (IsPlace t o → ⊥))

-- the name and the hygiene of a node of a kind, if it is a use
abbrev pub use_of : NodeKind → Option (Name × HygieneId)
use_of N.Leaf = None
use_of (N.Use n h) = Some (n, h)
use_of N.Sequence = None
use_of N.And = None
use_of N.If = None
use_of N.Let = None
use_of (N.Block a l) = None
use_of (N.Loop l) = None
use_of N.Closure = None
use_of N.Match = None
use_of N.Const = None
use_of N.Repeat = None
use_of N.Cast = None
use_of N.LeafPattern = None
use_of (N.Bind v) = None
use_of N.Patterns = None
use_of N.ValuePattern = None
use_of N.LeafType = None
use_of N.Types = None
use_of N.ArrayType = None
use_of N.LetStatement = None
use_of N.ExprStatement = None
use_of (N.MacroDef q) = None
use_of N.OtherItem = None
use_of N.Arm = None
use_of (N.Body x) = None

-- what a use asks for, from the scope that is recorded for it
abbrev pub asked_from : Option ScopeId → Option (Name × HygieneId) → Option Sought
asked_from None u = None
asked_from (Some s) None = None
asked_from (Some s) (Some u) = Some record { from = Some s; name = u.0; hygiene = u.1 }

abbrev pub asked : Option ScopeId → Option Node → Option Sought
asked o None = None
asked o (Some x) = asked_from o (use_of x.kind)

-- what is looked up for node n of a body, or nothing where it is no use
abbrev pub sought_at : Body → ExprScopes → NodeId → Option Sought
sought_at b t n = asked (recorded_at t n) (found (nodes_of b) (n.raw - 1))

-- the answer for a use, or refusal 21 exactly where the node is none
abbrev pub ForUse : {X : Type 0} → Body → ExprScopes → NodeId → Result X QueryRefusal → (Sought → X → Type 0) → Type 0
ForUse b t n r P = MatchResult r (λ x. (q : Sought) × (sought_at b t n ≡ Some q) × P q x) (λ f. (f ≡ Q.NoExpression) × (sought_at b t n ≡ None))
