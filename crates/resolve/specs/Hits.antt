-- What a name means, by rules: the first hit outward. Each rule is a sentence, and says by itself what was not found before.
use Rattle.std.specs.Prelude.{◌≡◌, ℕ, suc, ◌<◌, ◌≤◌, List, length, get_or, Some, None, Option, ◌≢◌, slice_index_or}
use Rattle.format.specs.declared.ids.BindingId.{BindingId}
use Rattle.format.specs.declared.ids.BlockId.{BlockId}
use Rattle.format.specs.declared.ids.HygieneId.{HygieneId}
use Rattle.format.specs.declared.ids.LabelId.{LabelId}
use Rattle.format.specs.declared.ids.Name.{Name}
use Rattle.format.specs.declared.ids.OwnerId.{OwnerId}
use Rattle.format.specs.declared.ids.ScopeId.{ScopeId}
use Rattle.host.specs.Meaning.{ItemTables, ExpansionTables}
use Rattle.host.specs.declared.item.ConstParamId.{ConstParamId}
use Rattle.host.specs.declared.item.Item.{Item}
use Rattle.host.specs.declared.item.Outer.{Outer}
use Rattle.reach.specs.Blank.{no_scope, parent_of}
use Rattle.reach.specs.Named.{no_entry}
use Rattle.reach.specs.Ranges.{home_of}
use Rattle.reach.specs.declared.data.ScopeKind.TheVariants as K
use Rattle.sheet.specs.declared.node.Frame.{Frame}
use Rattle.sheet.specs.declared.node.Frame.TheVariants as F
use Rattle.resolve.specs.declared.context.Context.{Context}
use Rattle.resolve.specs.declared.resolution.Resolution.{Resolution}
use Rattle.resolve.specs.declared.resolution.Resolution.TheVariants as R
use Rattle.resolve.specs.Outward.{Surroundings, called_in, in_block, in_module, no_frame, scope_at}

-- scope s is one of the scopes
abbrev pub Stands : Surroundings → ScopeId → Type 0
Stands T s = (0 < s.0) × (s.0 ≤ length T.scopes)

-- entry i is of scope s, and has the name and the hygiene
pub record Answers (T : Surroundings) (s : ScopeId) (n : Name) (h : HygieneId) (i : ℕ) : Type 0 where
  pub there : i < length T.entries
  pub home : home_of T.entries i ≡ s.0
  pub name_is : (get_or T.entries i no_entry).name ≡ n
  pub hygiene_is : (get_or T.entries i no_entry).hygiene ≡ h

-- the first entry of scope s, in order of adding, with the name and the hygiene is of binding v
pub record FirstEntry (T : Surroundings) (s : ScopeId) (n : Name) (h : HygieneId) (v : BindingId) : Type 0 where
  pub place : ℕ
  pub answers : Answers T s n h place
  pub none_before : (j : ℕ) → j < place → Answers T s n h j → ⊥
  pub binding_is : (get_or T.entries place no_entry).binding ≡ v

-- scope s has no entry with the name and the hygiene
abbrev pub NoEntry : Surroundings → ScopeId → Name → HygieneId → Type 0
NoEntry T s n h = (j : ℕ) → Answers T s n h j → ⊥

-- scope s is a block's whose place has item i; or it is no block's, or its place has none
pub record HasItem (W : ItemTables) (T : Surroundings) (s : ScopeId) (n : Name) (i : Item) : Type 0 where
  pub block : BlockId
  pub label : Option LabelId
  pub of_block : (scope_at T s).kind ≡ K.Block block label
  pub item : W.items (in_block block) n ≡ Some i

abbrev pub NoItem : ItemTables → Surroundings → ScopeId → Name → Type 0
NoItem W T s n = (i : Item) → HasItem W T s n i → ⊥

-- scope s is the definition of the macro that the hygiene in force came from by expansion o
pub record Defines (T : Surroundings) (s : ScopeId) (x : Context) (o : Outer) : Type 0 where
  pub comes_from : x.outer ≡ Some o
  pub of_macro : (scope_at T s).kind ≡ K.MacroDef o.by

-- what a frame gives for a name
pub data Gives (W : ItemTables) (n : Name) : Frame → Resolution → Type 0 where
  -- an impl gives itself for the name `Self` [names.scopes.self.impl-scope]
  impl_itself : (o : OwnerId) → n.0 ≡ 2 → Gives W n (F.ImplGenerics o) (R.ImplSelf o)
  -- generics give a constant parameter of their owner
  impl_parameter : (o : OwnerId) (p : ConstParamId) → (n.0 ≢ 2) → W.const_params o n ≡ Some p → Gives W n (F.ImplGenerics o) (R.ConstParam p)
  parameter : (o : OwnerId) (p : ConstParamId) → W.const_params o n ≡ Some p → Gives W n (F.Generics o) (R.ConstParam p)
  -- a block gives an item at its place
  block_item : (b : BlockId) (i : Item) → W.items (in_block b) n ≡ Some i → Gives W n (F.Block b) (R.Item i)

-- frames from place k on give nothing
abbrev pub SilentFrom : ItemTables → List Frame → Name → ℕ → Type 0
SilentFrom W fs n k = (j : ℕ) → k ≤ j → j < length fs → (r : Resolution) → Gives W n (slice_index_or fs j no_frame) r → ⊥

-- what a name means outside the body
pub data Outside (W : ItemTables) (fs : List Frame) (n : Name) : Resolution → Type 0 where
  -- what a frame gives, where no frame further in gives anything
  in_frame : (k : ℕ) (r : Resolution) → k < length fs → Gives W n (slice_index_or fs k no_frame) r → SilentFrom W fs n (suc k) → Outside W fs n r
  -- an item of the module, where no frame gives anything
  in_the_module : (i : Item) → SilentFrom W fs n 0 → W.items in_module n ≡ Some i → Outside W fs n (R.Item i)
  -- nothing, where neither a frame nor the module gives anything
  nowhere : SilentFrom W fs n 0 → W.items in_module n ≡ None → Outside W fs n R.Unfound

-- what name n means from a scope, or from outside, with a hygiene and the macro that it came from
pub data Finds (W : ItemTables) (X : ExpansionTables) (T : Surroundings) (n : Name) : Option ScopeId → Context → Resolution → Type 0 where
  -- the local of the first entry of the scope with the name and the hygiene
  local : (x : Context) (s : ScopeId) (v : BindingId) → Stands T s → FirstEntry T s n x.hygiene v → Finds W X T n (Some s) x (R.Local v)
  -- else the item at the place of a block's scope [names.scopes.items.statement]
  item : (x : Context) (s : ScopeId) (i : Item) → Stands T s → NoEntry T s n x.hygiene → HasItem W T s n i → Finds W X T n (Some s) x (R.Item i)
  -- else what it means from the parent on; past the definition of the macro that wrote the name, with the hygiene of the place where the macro is called [macro.decl.hygiene.intro]
  past_definition : (x : Context) (s : ScopeId) (o : Outer) (r : Resolution) → Stands T s → NoEntry T s n x.hygiene → Defines T s x o → Finds W X T n (scope_at T s).parent (called_in X o) r → Finds W X T n (Some s) x r
  -- past any other scope, with the hygiene as it is
  onward : (x : Context) (s : ScopeId) (r : Resolution) → Stands T s → NoEntry T s n x.hygiene → NoItem W T s n → ((o : Outer) → Defines T s x o → ⊥) → Finds W X T n (scope_at T s).parent x r → Finds W X T n (Some s) x r
  -- where no scope is left, what it means outside the body
  left : (p : Option ScopeId) (x : Context) (r : Resolution) → (Stands T (record { 0 = parent_of p }) → ⊥) → Outside W T.frames n r → Finds W X T n p x r

-- parents are numbered below their scopes
abbrev pub ParentsBelow : Surroundings → Type 0
ParentsBelow T = (k : ℕ) → k < length T.scopes → parent_of (get_or T.scopes k no_scope).parent ≤ k

-- a name means one thing at the most, whatever the hosts
abbrev pub MeansOne : Type 0
MeansOne = (W : ItemTables) (X : ExpansionTables) (T : Surroundings) (n : Name) (p : Option ScopeId) (x : Context) (r q : Resolution) → ParentsBelow T → Finds W X T n p x r → Finds W X T n p x q → r ≡ q
