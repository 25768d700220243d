-- The definition of the tree, computed on worked examples.
use Rattle.std.specs.Prelude.{◌≡◌, ℕ, [], ◌∷◌, Some, None, Option, slice_index_or}
use Rattle.std.proofs.Common.{lit<, lit≤}
use Rattle.format.specs.declared.ids.NodeId.{NodeId}
use Rattle.format.specs.declared.ids.ScopeId.{ScopeId}
use Rattle.format.specs.declared.kind.NodeKind.{NodeKind}
use Rattle.format.specs.declared.kind.NodeKind.TheVariants.{Bind, Block, Body, LetStatement, Use, ValuePattern}
use Rattle.sheet.specs.declared.node.Node.{Node}
use Rattle.reach.specs.declared.data.ScopeKind.TheVariants as scope
use Rattle.reach.specs.Bare.{Entry, Scope}
use Rattle.reach.specs.Law.{held}
use Rattle.reach.specs.Shape.{Shape}
use Rattle.reach.specs.Visit.{built}

abbrev node : NodeKind → ℕ → ℕ → Node
node k f c = record { kind = k; first = f; count = c }

abbrev n1 : Option NodeId
n1 = Some (record { raw = 1; real = (lit< tt, lit≤ tt) })

abbrev n2 : Option NodeId
n2 = Some (record { raw = 2; real = (lit< tt, lit≤ tt) })

abbrev n3 : Option NodeId
n3 = Some (record { raw = 3; real = (lit< tt, lit≤ tt) })

abbrev n4 : Option NodeId
n4 = Some (record { raw = 4; real = (lit< tt, lit≤ tt) })

abbrev n5 : Option NodeId
n5 = Some (record { raw = 5; real = (lit< tt, lit≤ tt) })

abbrev n6 : Option NodeId
n6 = Some (record { raw = 6; real = (lit< tt, lit≤ tt) })

-- fn f(x) { let y = x; y }: 1 the bind of x, 2 the use of x, 3 the bind of y, 4 the let statement, 5 the use of y, 6 the block, 7 the body
abbrev pub example : Shape
example = record {
  nodes = node (Bind (record { 0 = 1 })) 0 0 ∷ (node (Use (record { 0 = 3 }) (record { 0 = 0 })) 0 0 ∷ (node (Bind (record { 0 = 2 })) 0 0 ∷ (node LetStatement 0 4
      ∷ (node (Use (record { 0 = 4 }) (record { 0 = 0 })) 4 0 ∷ (node (Block None None) 4 2 ∷ (node (Body None) 6 2 ∷ []))))));
  children = n3 ∷ (None ∷ (n2 ∷ (None ∷ (n5 ∷ (n4 ∷ (n6 ∷ (n1 ∷ [])))))));
}

-- fn f({ let x; }, y) { x }, with a block in a pattern: 1 the use of x, 2 the bind of x, 3 the let statement, 4 the block, 5 the pattern of it, 6 the bind of y, 7 the body
abbrev pub in_pattern : Shape
in_pattern = record {
  nodes = node (Use (record { 0 = 3 }) (record { 0 = 0 })) 0 0 ∷ (node (Bind (record { 0 = 1 })) 0 0 ∷ (node LetStatement 0 4 ∷ (node (Block None None) 4 2
      ∷ (node ValuePattern 6 1 ∷ (node (Bind (record { 0 = 2 })) 7 0 ∷ (node (Body None) 7 3 ∷ []))))));
  children = n2 ∷ (None ∷ (None ∷ (None ∷ (None ∷ (n3 ∷ (n4 ∷ (n1 ∷ (n5 ∷ (n6 ∷ [])))))))));
}

abbrev scope_at : Option ScopeId → Scope
scope_at p = record { parent = p; kind = scope.Plain }

abbrev number : ℕ → ScopeId
number n = record { 0 = n }

abbrev entry : ℕ → ℕ → Entry
entry s v = record { scope = number s; binding = record { 0 = v } }

-- in the first, scope 1 has x, the block makes scope 2, the let scope 3, which has y; the use of x is in scope 2, that of y in scope 3.
-- In the second, x is added before y, and yet scope 1, in which the use stands, holds y alone: an entry of a scope inside a pattern is not seen outside it
pub record ExamplesHold : Type 0 where
  pub scopes : (built example 7).scopes ≡ scope_at None ∷ (scope_at (Some (number 1)) ∷ (scope_at (Some (number 2)) ∷ []))
  pub entries : (built example 7).entries ≡ entry 1 1 ∷ (entry 3 2 ∷ [])
  pub use_of_x : slice_index_or (built example 7).placed 1 None ≡ Some (number 2)
  pub use_of_y : slice_index_or (built example 7).placed 4 None ≡ Some (number 3)
  pub block : slice_index_or (built example 7).placed 5 None ≡ Some (number 2)
  pub pattern_entries : (built in_pattern 7).entries ≡ entry 3 1 ∷ (entry 1 2 ∷ [])
  pub use_outside : slice_index_or (built in_pattern 7).placed 0 None ≡ Some (number 1)
  pub held_outside : held 1 (built in_pattern 7).entries ≡ record { 0 = 2 } ∷ []
