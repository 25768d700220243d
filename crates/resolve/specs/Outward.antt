-- The look-up outward by definition: the first scope that answers, then the outer frames, then the module.
use Rattle.std.specs.Prelude.{ℕ, zero, suc, ◌-◌, Bool, cond, ◌&&◌, List, [], ◌∷◌, map, reverse, length, get_or, Some, None, Option, ◌==◌, slice_index_or}
use Rattle.std.specs.Option.{option_map, unwrap_or}
use Rattle.format.specs.declared.ids.BlockId.{BlockId}
use Rattle.format.specs.declared.ids.HygieneId.{HygieneId}
use Rattle.format.specs.declared.ids.MacroId.{MacroId}
use Rattle.format.specs.declared.ids.Name.{Name}
use Rattle.format.specs.declared.ids.OwnerId.{OwnerId}
use Rattle.format.specs.declared.ids.ScopeId.{ScopeId}
use Rattle.host.specs.First.{first, or_else}
use Rattle.host.specs.Meaning.{ItemTables, ExpansionTables}
use Rattle.host.specs.declared.item.Outer.{Outer}
use Rattle.host.specs.declared.item.PlaceId.{PlaceId}
use Rattle.reach.specs.Bare.{Scope}
use Rattle.reach.specs.Blank.{no_scope, parent_of}
use Rattle.scope.specs.Queries.{all_entries, entries_of, first_that}
use Rattle.scope.specs.Told.{told}
use Rattle.reach.specs.declared.data.ScopeEntry.{ScopeEntry}
use Rattle.reach.specs.declared.data.ScopeKind.{ScopeKind}
use Rattle.reach.specs.declared.data.ScopeKind.TheVariants as K
use Rattle.scope.specs.declared.tables.ExprScopes.{ExprScopes}
use Rattle.sheet.specs.Held.{frames_of}
use Rattle.sheet.specs.declared.body.Body.{Body}
use Rattle.sheet.specs.declared.node.Frame.{Frame}
use Rattle.sheet.specs.declared.node.Frame.TheVariants as F
use Rattle.resolve.specs.declared.context.Context.{Context}
use Rattle.resolve.specs.declared.resolution.Resolution.{Resolution}
use Rattle.resolve.specs.declared.resolution.Resolution.TheVariants as R
use Rattle.resolve.specs.declared.sought.Rename.{Rename}
use Rattle.resolve.specs.declared.sought.Sought.{Sought}

-- what a look-up passes on its way: the scopes, numbered from 1, the entries of all scopes in order of adding, and the outer frames, the outermost first
pub record Surroundings : Type 0 where
  pub scopes : List Scope
  pub entries : List ScopeEntry
  pub frames : List Frame

abbrev pub surroundings_of : Body → ExprScopes → Surroundings
surroundings_of b t = record { scopes = (told t).scopes; entries = all_entries t; frames = frames_of b }

abbrev pub scope_at : Surroundings → ScopeId → Scope
scope_at T s = slice_index_or T.scopes (s.0 - 1) no_scope

-- the scopes from one outward, itself first, of those numbered at most k
abbrev pub chain_from : List Scope → ℕ → Option ScopeId → List ScopeId
chain_from ss zero o = []
chain_from ss (suc k) o = cond (parent_of o == suc k) (record { 0 = suc k } ∷ chain_from ss k (get_or ss k no_scope).parent) (chain_from ss k o)

-- none where it begins at no scope
abbrev pub chain : List Scope → Option ScopeId → List ScopeId
chain ss o = chain_from ss (length ss) o

-- the module, and a block as a place
abbrev pub in_module : PlaceId
in_module = record { 0 = 0 }

abbrev pub in_block : BlockId → PlaceId
in_block b = record { 0 = b.0 }

-- the hygiene of a look-up that begins, with the macro that its expansion came from
abbrev pub begun : ExpansionTables → HygieneId → Context
begun X h = record { hygiene = h; outer = X.outers h }

-- the hygiene at the place where a macro is called: the opaque form of that context, and the macro of the context itself
abbrev pub called_in : ExpansionTables → Outer → Context
called_in X o = record { hygiene = X.opaques o.parent; outer = X.outers o.parent }

-- beyond the definition of macro m
abbrev pub passed : ExpansionTables → MacroId → Context → Option Outer → Context
passed X m x None = x
passed X m x (Some o) = cond (o.by.0 == m.0) (called_in X o) x

-- beyond a scope of a kind
abbrev pub crossed : ExpansionTables → ScopeKind → Context → Context
crossed X K.Plain x = x
crossed X (K.Block b l) x = x
crossed X (K.Label l) x = x
crossed X (K.MacroDef m) x = passed X m x x.outer

-- an entry of that name and that hygiene
abbrev pub answers_to : Name → HygieneId → ScopeEntry → Bool
answers_to n h e = e.name.0 == n.0 && e.hygiene.0 == h.0

-- the local of the first entry of a scope that answers
abbrev pub local_among : List ScopeEntry → Name → HygieneId → ScopeId → Option Resolution
local_among es n h s = option_map (λ e. R.Local e.binding) (first_that (answers_to n h) (entries_of s.0 es))

-- what a host has, as a meaning
abbrev pub item_at : ItemTables → PlaceId → Name → Option Resolution
item_at W p n = option_map R.Item (W.items p n)

abbrev pub const_param_of : ItemTables → OwnerId → Name → Option Resolution
const_param_of W o n = option_map R.ConstParam (W.const_params o n)

-- the item at the place of a block's scope
abbrev pub item_in : ItemTables → ScopeKind → Name → Option Resolution
item_in W K.Plain n = None
item_in W (K.Block b l) n = item_at W (in_block b) n
item_in W (K.Label l) n = None
item_in W (K.MacroDef m) n = None

-- what a scope of a kind answers: the local of an entry of its own, else the item at its place
abbrev pub scope_answer : ItemTables → ScopeKind → List ScopeEntry → Name → HygieneId → ScopeId → Option Resolution
scope_answer W k es n h s = or_else (local_among es n h s) (item_in W k n)

-- what a frame answers: an impl itself for the name `Self`; generics a constant parameter of their owner; a block an item at its place
abbrev pub frame_answer : ItemTables → Name → Frame → Option Resolution
frame_answer W n (F.ImplGenerics o) = cond (n.0 == 2) (Some (R.ImplSelf o)) (const_param_of W o n)
frame_answer W n (F.Generics o) = const_param_of W o n
frame_answer W n (F.Block b) = item_at W (in_block b) n

abbrev pub no_frame : Frame
no_frame = F.ImplGenerics (record { 0 = 0 })

-- from outside: the innermost frame that answers, else the module, else nothing
abbrev pub outside : ItemTables → List Frame → Name → Resolution
outside W fs n = unwrap_or (or_else (first (frame_answer W n) (reverse fs)) (item_at W in_module n)) R.Unfound

-- along a chain of scopes, and then outside
abbrev pub along : ItemTables → ExpansionTables → Surroundings → Name → List ScopeId → Context → Resolution
along W X T n [] x = outside W T.frames n
along W X T n (s ∷ up) x = unwrap_or (scope_answer W (scope_at T s).kind T.entries n x.hygiene s) (along W X T n up (crossed X (scope_at T s).kind x))

-- what a name means where it stands
abbrev pub resolved : ItemTables → ExpansionTables → Surroundings → Sought → Resolution
resolved W X T q = along W X T q.name (chain T.scopes q.from) (begun X q.hygiene)

-- an entry as if a binding had another name
abbrev pub supposed_entry : Option Rename → ScopeEntry → ScopeEntry
supposed_entry None e = e
supposed_entry (Some r) e = cond (e.binding.0 == r.binding.0) record { name = r.name; hygiene = e.hygiene; binding = e.binding; scope = e.scope } e

-- all as if a binding had another name: each of its entries has it, and nothing else differs
abbrev pub supposing : Option Rename → Surroundings → Surroundings
supposing r T = record { scopes = T.scopes; entries = map (supposed_entry r) T.entries; frames = T.frames }
