-- The scope tree by definition: the visit of a body, one clause for each kind of node.
use Rattle.std.specs.Prelude.{ℕ, zero, suc, ◌+◌, ◌-◌, List, [], ◌∷◌, ◌++◌, map, length, drop, replicate, Some, None, Option, slice_index_or, slice_set}
use Rattle.format.specs.declared.ids.NodeId.{NodeId}
use Rattle.format.specs.declared.ids.ScopeId.{ScopeId}
use Rattle.format.specs.declared.ids.BindingId.{BindingId}
use Rattle.format.specs.declared.ids.BlockId.{BlockId}
use Rattle.format.specs.declared.ids.LabelId.{LabelId}
use Rattle.reach.specs.Bare.{Scope}
use Rattle.reach.specs.Bare.{Entry}
use Rattle.reach.specs.declared.data.Place.{Place}
use Rattle.format.specs.declared.kind.NodeKind.{NodeKind}
use Rattle.format.specs.declared.kind.NodeKind.TheVariants.{Leaf, Use, Sequence, And, If, Let, Block, Loop, Closure, Match, Const, Repeat, Cast, LeafPattern, Bind, Patterns, ValuePattern, LeafType, Types, ArrayType, LetStatement, ExprStatement, MacroDef, OtherItem, Arm, Body}
use Rattle.reach.specs.declared.data.ScopeKind.{ScopeKind}
use Rattle.reach.specs.declared.data.ScopeKind.TheVariants as scope
use Rattle.reach.specs.Blank.{no_scope}
use Rattle.reach.specs.Shape.{Shape, node_at, children_of}

-- what the tables hold
pub record State : Type 0 where
  pub scopes : List Scope
  pub entries : List Entry
  pub placed : List (Option ScopeId)

-- a visit begins at a place, and leaves the tables and the place that what follows it begins at
abbrev pub Visit : Type 0
Visit = Place → State → State × Place

abbrev pub skip : Visit
skip at s = (s, at)

-- one scope more, and its number
unfoldable pub made : ScopeKind → ScopeId → State → State × ScopeId
made k p s = (record { scopes = s.scopes ++ (record { parent = Some p; kind = k } ∷ []); entries = s.entries; placed = s.placed }, record { 0 = length s.scopes + 1 })

unfoldable pub put : ℕ → ScopeId → State → State
put n p s = record { scopes = s.scopes; entries = s.entries; placed = slice_set s.placed (n - 1) (Some p) }

unfoldable pub added : BindingId → ScopeId → State → State
added b p s = record { scopes = s.scopes; entries = s.entries ++ (record { scope = p; binding = b } ∷ []); placed = s.placed }

-- the visits one after the other, each at the place that the one before left
unfoldable pub all : List Visit → Visit
all [] at s = (s, at)
all (v ∷ vs) at s = let r = v at s in all vs r.1 r.0

-- the visits one after the other, each at the same place
unfoldable pub each : List Visit → Place → State → State
each [] at s = s
each (v ∷ vs) at s = each vs at (v at s).0

abbrev pub labelled : Option LabelId → ScopeKind
labelled None = scope.Plain
labelled (Some l) = scope.Label l

-- the scopes of a block with number b and label l
abbrev pub opened : Option BlockId → Option LabelId → Visit
opened None l at s = let r = made (labelled l) at.current s in (r.0, record { current = r.1; constant = at.constant })
opened (Some b) l at s = let r = made (scope.Block b l) at.current s in let q = made (scope.Block b None) at.constant r.0 in (q.0, record { current = r.1; constant = q.1 })

-- the child at i
abbrev pub nth : List Visit → ℕ → Visit
nth vs i = slice_index_or vs i skip

-- one scope of kind k beneath the current one, which it replaces
unfoldable pub inner : ScopeKind → Visit
inner k at s = let m = made k at.current s in (m.0, record { current = m.1; constant = at.constant })

-- where types and lengths are visited
abbrev pub constantly : Place → Place
constantly at = record { current = at.constant; constant = at.constant }

-- the first of a list, the third, and so on
unfoldable pub others : {X : Type 0} → List X → List X
others [] = []
others (x ∷ []) = x ∷ []
others (x ∷ (y ∷ xs)) = x ∷ others xs

-- the entry of self, where there is one
abbrev pub selfed : Option BindingId → Place → State → State
selfed None at s = s
selfed (Some v) at s = added v at.current s

-- the binding of self of a body
abbrev pub self_in : NodeKind → Option BindingId
self_in Leaf = None
self_in (Use x h) = None
self_in Sequence = None
self_in And = None
self_in If = None
self_in Let = None
self_in (Block a l) = None
self_in (Loop l) = None
self_in Closure = None
self_in Match = None
self_in Const = None
self_in Repeat = None
self_in Cast = None
self_in (Bind v) = None
self_in Patterns = None
self_in Types = None
self_in ArrayType = None
self_in ValuePattern = None
self_in LetStatement = None
self_in ExprStatement = None
self_in (MacroDef q) = None
self_in OtherItem = None
self_in LeafPattern = None
self_in LeafType = None
self_in Arm = None
self_in (Body x) = x

-- the visit of node n of a kind, by the visits of its children
unfoldable pub step : ℕ → NodeKind → List Visit → Visit
step n Leaf vs at s = (put n at.current s, at)
step n (Use x h) vs at s = (put n at.current s, at)
step n Sequence vs at s = (each vs at (put n at.current s), at)
step n And vs at s =
    let a = nth vs 0 at (put n at.current s) in
    nth vs 1 a.1 a.0
step n If vs at s =
    let o = inner scope.Plain at (put n at.current s) in
    let c = nth vs 0 o.1 o.0 in
    let t = nth vs 1 c.1 c.0 in
    let e = nth vs 2 at t.0 in
    (e.0, at)
step n Let vs at s =
    let v = nth vs 1 at (put n at.current s) in
    let o = inner scope.Plain at v.0 in
    let p = nth vs 0 o.1 o.0 in
    (p.0, o.1)
step n (Block b l) vs at s =
    let o = opened b l at (put n at.current s) in
    let r = all (drop 1 vs) o.1 (put n o.1.current o.0) in
    let t = nth vs 0 r.1 r.0 in
    (t.0, at)
step n (Loop l) vs at s =
    let o = inner (labelled l) at (put n at.current s) in
    let b = nth vs 0 o.1 o.0 in
    (b.0, at)
step n Closure vs at s =
    let t = each (others (drop 3 vs)) (constantly at) (put n at.current s) in
    let u = nth vs 1 (constantly at) t in
    let o = inner scope.Plain at u.0 in
    let p = each (others (drop 2 vs)) o.1 o.0 in
    let b = nth vs 0 o.1 p in
    (b.0, at)
step n Match vs at s =
    let e = nth vs 0 at (put n at.current s) in
    (each (drop 1 vs) at e.0, at)
step n Const vs at s = let r = nth vs 0 (constantly at) (put n at.current s) in (r.0, at)
step n Repeat vs at s =
    let e = nth vs 0 at (put n at.current s) in
    let l = nth vs 1 (constantly at) e.0 in
    (l.0, at)
step n Cast vs at s =
    let e = nth vs 0 at (put n at.current s) in
    let l = nth vs 1 (constantly at) e.0 in
    (l.0, at)
step n (Bind b) vs at s = (each vs at (added b at.current s), at)
step n Patterns vs at s = (each vs at s, at)
step n Types vs at s = (each vs (constantly at) s, at)
step n ArrayType vs at s = (each vs (constantly at) s, at)
step n ValuePattern vs at s = (each vs at s, at)
step n LetStatement vs at s =
    let o = inner scope.Plain at (each (drop 1 vs) at s) in
    let t = nth vs 0 o.1 o.0 in
    (t.0, o.1)
step n ExprStatement vs at s = let r = nth vs 0 at s in (r.0, at)
step n (MacroDef m) vs at s =
    let r = made (scope.MacroDef m) at.current s in
    let q = made (scope.MacroDef m) at.constant r.0 in
    (q.0, record { current = r.1; constant = q.1 })
step n OtherItem vs at s = (s, at)
step n LeafPattern vs at s = (s, at)
step n LeafType vs at s = (s, at)
step n Arm vs at s =
    let o = inner scope.Plain at s in
    let p = nth vs 0 o.1 o.0 in
    let g = nth vs 1 o.1 p.0 in
    let e = nth vs 2 g.1 g.0 in
    (e.0, at)
step n (Body x) vs at s = (s, at)

abbrev pub of_child : {X : Type 0} → X → (ℕ → X) → Option NodeId → X
of_child x f None = x
of_child x f (Some c) = f c.raw

-- a value for each node by the values of its children, x for an absent one: k bounds the depth
unfoldable pub deep : {X : Type 0} → X → (ℕ → NodeKind → List X → X) → Shape → ℕ → ℕ → X
deep x f b zero n = x
deep x f b (suc k) n = f n (node_at b.nodes n).kind (map (of_child x (deep x f b k)) (children_of b n))

-- the same with no bound, since a child's number is lower than its parent's
unfoldable pub folded : {X : Type 0} → X → (ℕ → NodeKind → List X → X) → Shape → ℕ → X
folded x f b n = deep x f b (suc n) n

-- the values of the children of n
abbrev pub below : {X : Type 0} → X → (ℕ → NodeKind → List X → X) → Shape → ℕ → List X
below x f b n = map (of_child x (folded x f b)) (children_of b n)

-- the visit of node n, and the visits of its children
abbrev pub visit_of : Shape → ℕ → Visit
visit_of = folded skip step

abbrev pub visits : Shape → ℕ → List Visit
visits = below skip step

abbrev pub total : List ℕ → ℕ
total [] = 0
total (w ∷ ws) = w + total ws

-- how many nodes stand at n and below it
abbrev pub size_step : ℕ → NodeKind → List ℕ → ℕ
size_step n k ws = 1 + total ws

abbrev pub size_of : Shape → ℕ → ℕ
size_of = folded 0 size_step

abbrev pub sizes : Shape → ℕ → List ℕ
sizes = below 0 size_step

-- scope 1 alone, both current and constant
abbrev pub first : Place
first = record { current = record { 0 = 1 }; constant = record { 0 = 1 } }

abbrev pub start : State
start = record { scopes = no_scope ∷ []; entries = []; placed = replicate 512 None }

-- the tables of the whole body, whose last node is m: self, the parameters, the expression
unfoldable pub built : Shape → ℕ → State
built b m = (nth (visits b m) 0 first (each (drop 1 (visits b m)) first (selfed (self_in (node_at b.nodes m).kind) first start))).0
