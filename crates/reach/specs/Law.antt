-- The laws of a scope tree: its form, and the binds in sight at each node, as lists.
use Rattle.std.specs.Prelude.{◌≡◌, ℕ, zero, suc, ◌-◌, ◌<◌, ◌≤◌, Bool, true, false, cond, ◌⊎◌, ◌↔◌, List, [], ◌∷◌, ◌++◌, map, length, get_or, take, drop, Some, None, Option, ◌==◌, slice_index, slice_index_or}
use Rattle.format.specs.declared.ids.ScopeId.{ScopeId}
use Rattle.format.specs.declared.ids.BindingId.{BindingId}
use Rattle.reach.specs.Bare.{Entry}
use Rattle.format.specs.declared.kind.NodeKind.{NodeKind}
use Rattle.format.specs.declared.kind.NodeKind.TheVariants.{Leaf, Use, Sequence, And, If, Let, Block, Loop, Closure, Match, Const, Repeat, Cast, LeafPattern, Bind, Patterns, ValuePattern, LeafType, Types, ArrayType, LetStatement, ExprStatement, MacroDef, OtherItem, Arm, Body}
use Rattle.reach.specs.declared.data.ScopeKind.{ScopeKind}
use Rattle.reach.specs.declared.data.ScopeKind.TheVariants as scope
use Rattle.reach.specs.Blank.{no_scope}
use Rattle.reach.specs.Shape.{Shape, Below}
use Rattle.reach.specs.Visit.{State, folded, others, built, self_in}
use Rattle.reach.specs.Once.{Once}
use Rattle.reach.specs.Tables.{kind_of, kids, kid, turn, NodeOf, Fits, is_body, is_expr, Full}

abbrev pub present : {X : Type 0} → X → (ℕ → X) → ℕ → X
present x f zero = x
present x f (suc n) = f (suc n)

abbrev pub joined : List (List ℕ) → List ℕ
joined [] = []
joined (xs ∷ xss) = xs ++ joined xss

-- the body's own node stands for the binding of self
abbrev pub self_of : ℕ → Option BindingId → List ℕ
self_of n None = []
self_of n (Some v) = n ∷ []

-- the binds of a pattern, in order
abbrev pub bind_step : ℕ → NodeKind → List (List ℕ) → List ℕ
bind_step n Leaf ws = []
bind_step n (Use x h) ws = []
bind_step n Sequence ws = []
bind_step n And ws = []
bind_step n If ws = []
bind_step n Let ws = []
bind_step n (Block a l) ws = []
bind_step n (Loop l) ws = []
bind_step n Closure ws = []
bind_step n Match ws = []
bind_step n Const ws = []
bind_step n Repeat ws = []
bind_step n Cast ws = []
bind_step n (Bind v) ws = n ∷ joined ws
bind_step n Patterns ws = joined ws
bind_step n Types ws = []
bind_step n ArrayType ws = []
bind_step n ValuePattern ws = []
bind_step n LetStatement ws = []
bind_step n ExprStatement ws = []
bind_step n (MacroDef q) ws = []
bind_step n OtherItem ws = []
bind_step n LeafPattern ws = []
bind_step n LeafType ws = []
bind_step n Arm ws = []
bind_step n (Body x) ws = []

unfoldable pub binds : Shape → ℕ → List ℕ
binds b n = present [] (folded [] bind_step b) n

-- the binds that reach past a statement or a condition, the latest first: those of a let statement,
-- those of a condition's let, and those of both sides of a lazy and
abbrev pub leave_step : Shape → ℕ → NodeKind → List (List ℕ) → List ℕ
leave_step b n Leaf ws = []
leave_step b n (Use x h) ws = []
leave_step b n Sequence ws = []
leave_step b n And ws = slice_index_or ws 1 [] ++ slice_index_or ws 0 []
leave_step b n If ws = []
leave_step b n Let ws = binds b (kid b n 0)
leave_step b n (Block a l) ws = []
leave_step b n (Loop l) ws = []
leave_step b n Closure ws = []
leave_step b n Match ws = []
leave_step b n Const ws = []
leave_step b n Repeat ws = []
leave_step b n Cast ws = []
leave_step b n (Bind v) ws = []
leave_step b n Patterns ws = []
leave_step b n Types ws = []
leave_step b n ArrayType ws = []
leave_step b n ValuePattern ws = []
leave_step b n LetStatement ws = binds b (kid b n 0)
leave_step b n ExprStatement ws = []
leave_step b n (MacroDef q) ws = []
leave_step b n OtherItem ws = []
leave_step b n LeafPattern ws = []
leave_step b n LeafType ws = []
leave_step b n Arm ws = []
leave_step b n (Body x) ws = []

unfoldable pub leaves : Shape → ℕ → List ℕ
leaves b n = present [] (folded [] (leave_step b) b) n

-- those of several, the latest first
abbrev pub gathered : Shape → List ℕ → List ℕ
gathered b [] = []
gathered b (c ∷ cs) = gathered b cs ++ leaves b c

abbrev pub all_binds : Shape → List ℕ → List ℕ
all_binds b cs = joined (map (binds b) cs)

-- the names that a node of a kind brings into scope for its child i, beside those in scope at itself
abbrev pub brings : Shape → NodeKind → List ℕ → ℕ → List ℕ
brings b Leaf cs i = []
brings b (Use x h) cs i = []
brings b Sequence cs i = []
brings b And cs zero = []
brings b And cs (suc i) = leaves b (slice_index cs 0)
brings b If cs zero = []
brings b If cs (suc zero) = leaves b (slice_index cs 0)
brings b If cs (suc (suc i)) = []
brings b Let cs zero = binds b (slice_index cs 0)
brings b Let cs (suc i) = []
brings b (Block a l) cs zero = gathered b (drop 1 cs)
brings b (Block a l) cs (suc i) = gathered b (take i (drop 1 cs))
brings b (Loop l) cs i = []
brings b Closure cs zero = all_binds b (others (drop 2 cs))
brings b Closure cs (suc zero) = []
brings b Closure cs (suc (suc i)) = turn i (all_binds b (others (drop 2 cs))) []
brings b Match cs i = []
brings b Const cs i = []
brings b Repeat cs i = []
brings b Cast cs i = []
brings b (Bind v) cs i = []
brings b Patterns cs i = []
brings b Types cs i = []
brings b ArrayType cs i = []
brings b ValuePattern cs i = []
brings b LetStatement cs zero = binds b (slice_index cs 0)
brings b LetStatement cs (suc i) = []
brings b ExprStatement cs i = []
brings b (MacroDef q) cs i = []
brings b OtherItem cs i = []
brings b LeafPattern cs i = []
brings b LeafType cs i = []
brings b Arm cs zero = binds b (slice_index cs 0)
brings b Arm cs (suc zero) = binds b (slice_index cs 0)
brings b Arm cs (suc (suc i)) = leaves b (slice_index cs 1) ++ binds b (slice_index cs 0)
brings b (Body x) cs i = []

-- whether child i is a type, a length or an anonymous constant's expression
abbrev pub shuts : NodeKind → ℕ → Bool
shuts Leaf i = false
shuts (Use x h) i = false
shuts Sequence i = false
shuts And i = false
shuts If i = false
shuts Let i = false
shuts (Block a l) i = false
shuts (Loop l) i = false
shuts Closure zero = false
shuts Closure (suc zero) = true
shuts Closure (suc (suc i)) = turn i false true
shuts Match i = false
shuts Const i = true
shuts Repeat zero = false
shuts Repeat (suc i) = true
shuts Cast zero = false
shuts Cast (suc i) = true
shuts (Bind v) i = false
shuts Patterns i = false
shuts Types i = true
shuts ArrayType i = true
shuts ValuePattern i = false
shuts LetStatement i = false
shuts ExprStatement i = false
shuts (MacroDef q) i = false
shuts OtherItem i = false
shuts LeafPattern i = false
shuts LeafType i = false
shuts Arm i = false
shuts (Body x) i = false

abbrev pub binding_of : NodeKind → BindingId
binding_of Leaf = record { 0 = 0 }
binding_of (Use x h) = record { 0 = 0 }
binding_of Sequence = record { 0 = 0 }
binding_of And = record { 0 = 0 }
binding_of If = record { 0 = 0 }
binding_of Let = record { 0 = 0 }
binding_of (Block a l) = record { 0 = 0 }
binding_of (Loop l) = record { 0 = 0 }
binding_of Closure = record { 0 = 0 }
binding_of Match = record { 0 = 0 }
binding_of Const = record { 0 = 0 }
binding_of Repeat = record { 0 = 0 }
binding_of Cast = record { 0 = 0 }
binding_of (Bind v) = v
binding_of Patterns = record { 0 = 0 }
binding_of Types = record { 0 = 0 }
binding_of ArrayType = record { 0 = 0 }
binding_of ValuePattern = record { 0 = 0 }
binding_of LetStatement = record { 0 = 0 }
binding_of ExprStatement = record { 0 = 0 }
binding_of (MacroDef q) = record { 0 = 0 }
binding_of OtherItem = record { 0 = 0 }
binding_of LeafPattern = record { 0 = 0 }
binding_of LeafType = record { 0 = 0 }
binding_of Arm = record { 0 = 0 }
binding_of (Body None) = record { 0 = 0 }
binding_of (Body (Some v)) = v

abbrev pub bound : Shape → ℕ → BindingId
bound b n = binding_of (kind_of b n)

abbrev pub Among : {X : Type 0} → X → List X → Type 0
Among x [] = ⊥
Among x (y ∷ ys) = (x ≡ y) ⊎ Among x ys

-- self and the binds of the body's parameters
unfoldable pub parameters : Shape → ℕ → List ℕ
parameters b m = self_of m (self_in (kind_of b m)) ++ all_binds b (drop 1 (kids b m))

-- THE LAW OF REACH: the name bound at x is in scope at node e of the body m,
-- for it is a parameter's; or the node above brings it into scope there;
-- or it is in scope at the node above, and e is no type, length or constant
pub data ListedFor (b : Shape) (m x : ℕ) : ℕ → Type 0 where
  parameter : (e : ℕ) → Among x (parameters b m) → ListedFor b m x e
  brought : (p i : ℕ) → NodeOf m p → Among x (brings b (kind_of b p) (kids b p) i) → ListedFor b m x (kid b p i)
  kept : (p i : ℕ) → NodeOf m p → shuts (kind_of b p) i ≡ false → ListedFor b m x p → ListedFor b m x (kid b p i)

-- the same as lists, the innermost first: the binds in scope at a node
pub data Sight (b : Shape) (m : ℕ) : ℕ → List ℕ → Type 0 where
  root : Sight b m m (parameters b m)
  below : {p : ℕ} {xs : List ℕ} (i : ℕ) → 0 < p → Sight b m p xs → Sight b m (kid b p i) (brings b (kind_of b p) (kids b p) i ++ cond (shuts (kind_of b p) i) (parameters b m) xs)

-- whether a scope of a kind is never given an entry: a block's, and a macro definition's
abbrev pub holds_none : ScopeKind → Bool
holds_none scope.Plain = false
holds_none (scope.Block i l) = true
holds_none (scope.Label l) = false
holds_none (scope.MacroDef q) = true

-- the bindings of the entries of scope h
abbrev pub held : ℕ → List Entry → List BindingId
held h [] = []
held h (e ∷ es) = cond (h == e.scope.0) (e.binding ∷ held h es) (held h es)

-- the bindings that one meets from scope c outward
pub data Met (s : State) : ℕ → List BindingId → Type 0 where
  top : (c : ℕ) → 0 < c → c ≤ length s.scopes → (get_or s.scopes (c - 1) no_scope).parent ≡ None → Met s c (held c s.entries)
  up : (c : ℕ) (p : ScopeId) (vs : List BindingId) → 0 < c → c ≤ length s.scopes → (get_or s.scopes (c - 1) no_scope).parent ≡ Some p → Met s p.0 vs → Met s c (held c s.entries ++ vs)

-- the scope recorded for e, and from there outward the bindings of the binds in sight, in order
pub record Seen (b : Shape) (m : ℕ) (s : State) (e : ℕ) (r : ScopeId) : Type 0 where
  pub expr : is_expr (kind_of b e) ≡ true
  pub binds : List ℕ
  pub sight : Sight b m e binds
  pub met : Met s r.0 (map (bound b) binds)

-- what a lawful body sheet has, of its tree: m is its last node
pub record TreeLaw (b : Shape) (m : ℕ) : Type 0 where
  pub size : NodeOf 512 m
  pub below : Below b.nodes b.children
  pub once : Once b m
  pub fits : Fits b m
  pub full : Full b m
  pub body : is_body (kind_of b m) ≡ true

-- the law of reach for node e and the scope recorded for it: from there outward one meets, in order,
-- exactly the bindings of the binds that reach e
pub record Lawful (b : Shape) (m : ℕ) (s : State) (e : ℕ) (r : ScopeId) : Type 0 where
  pub binds : List ℕ
  pub met : Met s r.0 (map (bound b) binds)
  pub reach : (x : ℕ) → Among x binds ↔ ListedFor b m x e

-- every expression of the body has a recorded scope
abbrev pub AllRecorded : Shape → ℕ → State → Type 0
AllRecorded b m s = (e : ℕ) → suc e < m → is_expr (kind_of b (suc e)) ≡ true → (r : ScopeId) × (slice_index_or s.placed e None ≡ Some r)

-- no other node has one
abbrev pub OnlyExpressions : Shape → State → Type 0
OnlyExpressions b s = (e : ℕ) (r : ScopeId) → slice_index_or s.placed e None ≡ Some r → is_expr (kind_of b (suc e)) ≡ true

-- a scope of the tree
abbrev pub IsIn : State → ℕ → Type 0
IsIn s c = (0 < c) × (c ≤ length s.scopes)

-- the scopes of blocks and of macro definitions hold no entry
abbrev pub BlocksHoldNone : State → Type 0
BlocksHoldNone s = (c : ℕ) → IsIn s c → holds_none (get_or s.scopes (c - 1) no_scope).kind ≡ true → held c s.entries ≡ []

-- scope h is on the chain of scope c
pub data OnChain (s : State) (h : ℕ) : ℕ → Type 0 where
  itself : OnChain s h h
  outward : (c : ℕ) (p : ScopeId) → (get_or s.scopes (c - 1) no_scope).parent ≡ Some p → OnChain s h p.0 → OnChain s h c

-- parents have lower numbers than their scopes, scope 1 alone has none, and every chain ends at scope 1
pub record TreeOfScopes (s : State) : Type 0 where
  pub parents_lower : (c : ℕ) (p : ScopeId) → IsIn s c → (get_or s.scopes (c - 1) no_scope).parent ≡ Some p → (0 < p.0) × (p.0 < c)
  pub root_alone : (c : ℕ) → IsIn s c → (get_or s.scopes (c - 1) no_scope).parent ≡ None → c ≡ 1
  pub chains_end_at_1 : (c : ℕ) → IsIn s c → OnChain s 1 c

-- a scope on the chain of c holds an entry of binding v
pub record Holds (s : State) (v : BindingId) (c : ℕ) : Type 0 where
  pub scope : ℕ
  pub chain : OnChain s scope c
  pub entry : Among v (held scope s.entries)

-- binding v is bound at a bind that reaches e
pub record BoundFor (b : Shape) (m : ℕ) (v : BindingId) (e : ℕ) : Type 0 where
  pub at : ℕ
  pub binds : v ≡ bound b at
  pub reach : ListedFor b m at e

-- the law of reach in short: an entry of v is on the chain of the scope recorded for e exactly if v is bound at a bind that reaches e
abbrev pub EntriesIn : Shape → ℕ → State → Type 0
EntriesIn b m s = (e : ℕ) (r : ScopeId) → slice_index_or s.placed e None ≡ Some r → (v : BindingId) → Holds s v r.0 ↔ BoundFor b m v (suc e)

-- the law of reach at every node with a recorded scope
abbrev pub ReachIn : Shape → ℕ → State → Type 0
ReachIn b m s = (e : ℕ) (r : ScopeId) → slice_index_or s.placed e None ≡ Some r → Lawful b m s (suc e) r

-- in every lawful body
abbrev pub ReachStands : Type 0
ReachStands = (b : Shape) (m : ℕ) → TreeLaw b m → (e : ℕ) (r : ScopeId) → slice_index_or (built b m).placed e None ≡ Some r → Lawful b m (built b m) (suc e) r

-- what one meets from a scope outward is determined
abbrev pub MetOnce : Type 0
MetOnce = (s : State) (c : ℕ) (vs ws : List BindingId) → Met s c vs → Met s c ws → vs ≡ ws
