-- How far a name reaches, in the words of the Rust Reference, over the nodes alone. Rules of the
-- Reference are named by their labels; what the ported crate alone adds stands apart.
use Rattle.std.specs.Prelude.{◌≡◌, ℕ, zero, suc, ◌<◌, false, ◌↔◌, List, map, Some, None, Option, slice_index_or}
use Rattle.format.specs.declared.ids.BindingId.{BindingId}
use Rattle.format.specs.declared.ids.BlockId.{BlockId}
use Rattle.format.specs.declared.ids.LabelId.{LabelId}
use Rattle.format.specs.declared.kind.NodeKind.TheVariants.{And, If, Let, Block, Closure, Bind, Patterns, LetStatement, Arm, Body}
use Rattle.reach.specs.Shape.{Shape}
use Rattle.reach.specs.Visit.{State}
use Rattle.format.specs.declared.ids.ScopeId.{ScopeId}
use Rattle.reach.specs.Tables.{kind_of, kid, NodeOf}
use Rattle.reach.specs.Law.{shuts, Among, Met, bound}

-- the even numbers
abbrev pub twice : ℕ → ℕ
twice zero = zero
twice (suc j) = suc (suc (twice j))

-- the bind x stands in the pattern n
pub data BoundIn (b : Shape) (x : ℕ) : ℕ → Type 0 where
  itself : (n : ℕ) (v : BindingId) → 0 < n → kind_of b n ≡ Bind v → x ≡ n → BoundIn b x n
  sub : (n i : ℕ) (v : BindingId) → 0 < n → kind_of b n ≡ Bind v → BoundIn b x (kid b n i) → BoundIn b x n
  part : (n i : ℕ) → 0 < n → kind_of b n ≡ Patterns → BoundIn b x (kid b n i) → BoundIn b x n

-- the statement or condition n binds x for what comes after it: a let statement, a condition's let, or one on either side of a lazy and
pub data Lasts (b : Shape) (x : ℕ) : ℕ → Type 0 where
  statement : (n : ℕ) → 0 < n → kind_of b n ≡ LetStatement → BoundIn b x (kid b n 0) → Lasts b x n
  condition : (n : ℕ) → 0 < n → kind_of b n ≡ Let → BoundIn b x (kid b n 0) → Lasts b x n
  left : (n : ℕ) → 0 < n → kind_of b n ≡ And → Lasts b x (kid b n 0) → Lasts b x n
  right : (n : ℕ) → 0 < n → kind_of b n ≡ And → Lasts b x (kid b n 1) → Lasts b x n

-- node p brings the name bound at x into scope for its child i
pub data Brings (b : Shape) (x p : ℕ) : ℕ → Type 0 where
  -- a let statement's names reach the later statements of its block, and the block's tail [names.scopes.pattern-bindings.let]
  later : (a : Option BlockId) (l : Option LabelId) (i j : ℕ) → kind_of b p ≡ Block a l → i < j → Lasts b x (kid b p (suc i)) → Brings b x p (suc j)
  tail : (a : Option BlockId) (l : Option LabelId) (i : ℕ) → kind_of b p ≡ Block a l → Lasts b x (kid b p (suc i)) → Brings b x p 0
  -- those of a let in a condition reach what follows in the condition, and the then-branch [names.scopes.pattern-bindings.let-chains]
  follows : (i : ℕ) → kind_of b p ≡ And → Lasts b x (kid b p 0) → Brings b x p (suc i)
  then : kind_of b p ≡ If → Lasts b x (kid b p 0) → Brings b x p 1
  -- an arm's names reach its guard and its expression [names.scopes.pattern-bindings.match-arm]
  guard : kind_of b p ≡ Arm → BoundIn b x (kid b p 0) → Brings b x p 1
  arm : (i : ℕ) → kind_of b p ≡ Arm → BoundIn b x (kid b p 0) → Brings b x p (suc (suc i))
  -- those of a let in its guard reach the arm's expression [names.scopes.pattern-bindings.match-guard-let]
  guarded : (i : ℕ) → kind_of b p ≡ Arm → Lasts b x (kid b p 1) → Brings b x p (suc (suc i))
  -- a closure's parameters reach its body [names.scopes.pattern-bindings.closure]
  closure : (j : ℕ) → kind_of b p ≡ Closure → BoundIn b x (kid b p (suc (suc (twice j)))) → Brings b x p 0
  -- by the crate alone, each reaches also the expressions of its own patterns
  own_let : kind_of b p ≡ LetStatement → BoundIn b x (kid b p 0) → Brings b x p 0
  own_condition : kind_of b p ≡ Let → BoundIn b x (kid b p 0) → Brings b x p 0
  own_arm : kind_of b p ≡ Arm → BoundIn b x (kid b p 0) → Brings b x p 0
  own_closure : (i j : ℕ) → kind_of b p ≡ Closure → BoundIn b x (kid b p (suc (suc (twice j)))) → Brings b x p (suc (suc (twice i)))

-- the name bound at x is in scope at node e of the body m
pub data Reaches (b : Shape) (m x : ℕ) : ℕ → Type 0 where
  -- parameters and self reach the whole body [names.scopes.pattern-bindings.parameter]
  parameter : (i e : ℕ) → BoundIn b x (kid b m (suc i)) → Reaches b m x e
  self : (v : BindingId) (e : ℕ) → x ≡ m → kind_of b m ≡ Body (Some v) → Reaches b m x e
  -- a name that the node above brings into scope for this child
  brought : (p i : ℕ) → NodeOf m p → Brings b x p i → Reaches b m x (kid b p i)
  -- a name in scope at the node above, unless this child is a type, a length or a constant: by the crate alone, of the names outside only those of parameters and self reach into these
  kept : (p i : ℕ) → NodeOf m p → shuts (kind_of b p) i ≡ false → Reaches b m x p → Reaches b m x (kid b p i)

-- what one meets from scope r outward, in order, are the bindings of a list of binds, and x is among them exactly if it reaches e
pub record Agrees (b : Shape) (m : ℕ) (s : State) (e : ℕ) (r : ScopeId) : Type 0 where
  pub binds : List ℕ
  pub met : Met s r.0 (map (bound b) binds)
  pub scope : (x : ℕ) → Among x binds ↔ Reaches b m x e

-- THE LAW OF REACH: so it is at every node with a recorded scope
abbrev pub ReachLaw : Shape → ℕ → State → Type 0
ReachLaw b m s = (e : ℕ) (r : ScopeId) → slice_index_or s.placed e None ≡ Some r → Agrees b m s (suc e) r

-- e stands at n or below it
pub data Under (b : Shape) (n : ℕ) : ℕ → Type 0 where
  here : Under b n n
  deeper : (p i : ℕ) → Under b n p → Under b n (kid b p i)

-- where a name that is in scope at e comes from: it is a parameter's, it is self, or a node brings it into scope for a child at or below which e stands
pub data Comes (b : Shape) (m x e : ℕ) : Type 0 where
  from_parameter : (i : ℕ) → BoundIn b x (kid b m (suc i)) → Comes b m x e
  from_self : (v : BindingId) → x ≡ m → kind_of b m ≡ Body (Some v) → Comes b m x e
  from_above : (p i : ℕ) → Brings b x p i → Under b (kid b p i) e → Comes b m x e

-- no name is in scope elsewhere: what a let inside a pattern's expression binds, in particular, is not seen outside that expression
abbrev pub StaysBelow : Type 0
StaysBelow = (b : Shape) (m x e : ℕ) → Reaches b m x e → Comes b m x e
