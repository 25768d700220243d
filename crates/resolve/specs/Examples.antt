-- Look-ups worked out on small bodies, over the tree that the definition of the visit makes of them.
use Rattle.std.specs.Prelude.{◌≡◌, ℕ, cond, List, [], ◌∷◌, map, Some, None, Option, ◌==◌, slice_index_or}
use Rattle.std.proofs.Common.{lit<, lit≤}
use Rattle.format.specs.declared.ids.NodeId.{NodeId}
use Rattle.format.specs.declared.kind.NodeKind.{NodeKind}
use Rattle.format.specs.declared.kind.NodeKind.TheVariants.{Bind, Block, Body, LetStatement, MacroDef, Use}
use Rattle.host.specs.Meaning.{ItemTables, ExpansionTables, without_macros}
use Rattle.host.specs.declared.item.Item.{Item}
use Rattle.host.specs.declared.item.ItemKind.TheVariants.{Function}
use Rattle.reach.specs.Bare.{Entry}
use Rattle.reach.specs.Named.{name_of}
use Rattle.reach.specs.Shape.{Shape}
use Rattle.reach.specs.Visit.{built}
use Rattle.reach.specs.declared.data.ScopeEntry.{ScopeEntry}
use Rattle.sheet.specs.declared.node.Binding.{Binding}
use Rattle.sheet.specs.declared.node.Node.{Node}
use Rattle.resolve.specs.declared.resolution.Resolution.TheVariants as R
use Rattle.resolve.specs.declared.sought.Sought.{Sought}
use Rattle.resolve.specs.Outward.{Surroundings, resolved, supposing}

abbrev node : NodeKind → ℕ → ℕ → Node
node k f c = record { kind = k; first = f; count = c }

abbrev n1 : Option NodeId
n1 = Some (record { raw = 1; real = (lit< tt, lit≤ tt) })

abbrev n2 : Option NodeId
n2 = Some (record { raw = 2; real = (lit< tt, lit≤ tt) })

abbrev n3 : Option NodeId
n3 = Some (record { raw = 3; real = (lit< tt, lit≤ tt) })

abbrev n4 : Option NodeId
n4 = Some (record { raw = 4; real = (lit< tt, lit≤ tt) })

abbrev n5 : Option NodeId
n5 = Some (record { raw = 5; real = (lit< tt, lit≤ tt) })

abbrev n6 : Option NodeId
n6 = Some (record { raw = 6; real = (lit< tt, lit≤ tt) })

abbrev n7 : Option NodeId
n7 = Some (record { raw = 7; real = (lit< tt, lit≤ tt) })

-- fn f() { let x; macro_rules! m ..; let x; m!() }, where m wrote the use of x: 1 and 4 the binds of x, 2 and 5 the let statements, 3 the definition of macro 7, 6 the use, with hygiene 1, 7 the block, 8 the body
abbrev pub two_lets : Shape
two_lets = record {
  nodes = node (Bind (record { 0 = 1 })) 0 0 ∷ (node LetStatement 0 4 ∷ (node (MacroDef (record { 0 = 7 })) 4 0 ∷ (node (Bind (record { 0 = 2 })) 4 0 ∷ (node LetStatement 4 4
      ∷ (node (Use (record { 0 = 3 }) (record { 0 = 1 })) 8 0 ∷ (node (Block None None) 8 4 ∷ (node (Body None) 12 1 ∷ [])))))));
  children = n1 ∷ (None ∷ (None ∷ (None ∷ (n4 ∷ (None ∷ (None ∷ (None ∷ (n6 ∷ (n2 ∷ (n3 ∷ (n5 ∷ (n7 ∷ []))))))))))));
}

-- fn f(x) { let y = x; y }: 1 the bind of x, 2 the use of x, 3 the bind of y, 4 the let statement, 5 the use of y, 6 a block that may hold items, of number 9, 7 the body
abbrev pub one_let : Shape
one_let = record {
  nodes = node (Bind (record { 0 = 1 })) 0 0 ∷ (node (Use (record { 0 = 3 }) (record { 0 = 0 })) 0 0 ∷ (node (Bind (record { 0 = 2 })) 0 0 ∷ (node LetStatement 0 4
      ∷ (node (Use (record { 0 = 4 }) (record { 0 = 0 })) 4 0 ∷ (node (Block (Some (record { 0 = 9 })) None) 4 2 ∷ (node (Body None) 6 2 ∷ []))))));
  children = n3 ∷ (None ∷ (n2 ∷ (None ∷ (n5 ∷ (n4 ∷ (n6 ∷ (n1 ∷ [])))))));
}

-- the names of bindings 1 and 2, at the root
abbrev bindings : ℕ → ℕ → List Binding
bindings n m = record { name = record { 0 = n }; hygiene = record { 0 = 0 } } ∷ (record { name = record { 0 = m }; hygiene = record { 0 = 0 } } ∷ [])

abbrev entry : List Binding → Entry → ScopeEntry
entry vs e = record { name = (name_of vs e.binding).name; hygiene = (name_of vs e.binding).hygiene; binding = e.binding; scope = e.scope }

-- what a look-up passes in a body with these bindings and no frames
abbrev pub around : Shape → List Binding → ℕ → Surroundings
around b vs m = record { scopes = (built b m).scopes; entries = map (entry vs) (built b m).entries; frames = [] }

abbrev sought : ℕ → ℕ → ℕ → Sought
sought s n h = record { from = Some (record { 0 = s }); name = record { 0 = n }; hygiene = record { 0 = h } }

-- no items; macro 7 wrote what has hygiene 1, called at the root; a function, number 8, that stands under name n at place p
abbrev nothing : ItemTables
nothing = record { items = λ p n. None; const_params = λ o n. None }

abbrev macro_7 : ExpansionTables
macro_7 = record { outers = λ h. cond (h.0 == 1) (Some record { by = record { 0 = 7 }; parent = record { 0 = 0 } }) None; opaques = λ h. h }

abbrev function_8 : Item
function_8 = record { kind = Function; id = record { 0 = 8 } }

abbrev function_at : ℕ → ℕ → ItemTables
function_at p n = record { items = λ q m. cond (q.0 == p) (cond (m.0 == n) (Some function_8) None) None; const_params = λ o m. None }

-- in the first, with the name x for both: the use is recorded in scope 6; written by the macro it is the first x, and written in the body it would be the second, and the first again if the second had another name.
-- In the second, with the names 3 and 4: the uses are the parameter and the let; a name that neither has is a function of the block or of the module, else unfound
pub record ExamplesHold : Type 0 where
  pub use_scope : slice_index_or (built two_lets 8).placed 5 None ≡ Some (record { 0 = 6 })
  pub by_macro : resolved nothing macro_7 (around two_lets (bindings 3 3) 8) (sought 6 3 1) ≡ R.Local (record { 0 = 1 })
  pub by_hand : resolved nothing macro_7 (around two_lets (bindings 3 3) 8) (sought 6 3 0) ≡ R.Local (record { 0 = 2 })
  pub renamed : resolved nothing macro_7 (supposing (Some record { binding = record { 0 = 2 }; name = record { 0 = 9 } }) (around two_lets (bindings 3 3) 8)) (sought 6 3 0) ≡ R.Local (record { 0 = 1 })
  pub parameter_scope : slice_index_or (built one_let 7).placed 1 None ≡ Some (record { 0 = 2 })
  pub parameter : resolved nothing without_macros (around one_let (bindings 3 4) 7) (sought 2 3 0) ≡ R.Local (record { 0 = 1 })
  pub let_scope : slice_index_or (built one_let 7).placed 4 None ≡ Some (record { 0 = 4 })
  pub local_let : resolved nothing without_macros (around one_let (bindings 3 4) 7) (sought 4 4 0) ≡ R.Local (record { 0 = 2 })
  pub of_block : resolved (function_at 9 5) without_macros (around one_let (bindings 3 4) 7) (sought 4 5 0) ≡ R.Item function_8
  pub of_module : resolved (function_at 0 5) without_macros (around one_let (bindings 3 4) 7) (sought 4 5 0) ≡ R.Item function_8
  pub unfound : resolved nothing without_macros (around one_let (bindings 3 4) 7) (sought 4 5 0) ≡ R.Unfound
