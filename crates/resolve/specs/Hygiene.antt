-- Hygiene of names that a macro wrote: locals are looked up where the macro is defined [macro.decl.hygiene.intro].
use Rattle.std.specs.Prelude.{◌≡◌, Some, Option, ◌≢◌}
use Rattle.format.specs.declared.ids.BindingId.{BindingId}
use Rattle.format.specs.declared.ids.HygieneId.{HygieneId}
use Rattle.format.specs.declared.ids.MacroId.{MacroId}
use Rattle.format.specs.declared.ids.Name.{Name}
use Rattle.format.specs.declared.ids.ScopeId.{ScopeId}
use Rattle.host.specs.Meaning.{ItemTables, ExpansionTables}
use Rattle.host.specs.declared.item.Outer.{Outer}
use Rattle.reach.specs.declared.data.ScopeKind.TheVariants as K
use Rattle.resolve.specs.declared.resolution.Resolution.{Resolution}
use Rattle.resolve.specs.declared.resolution.Resolution.TheVariants as R
use Rattle.resolve.specs.Outward.{Surroundings, begun, called_in, scope_at}
use Rattle.resolve.specs.Hits.{Stands, FirstEntry, NoEntry, NoItem, Finds}

-- on the way outward from p, a local of binding v is met under the hygiene h before the definition of macro m is passed, or the definition comes first
pub data OwnOrBeyond (T : Surroundings) (n : Name) (h : HygieneId) (m : MacroId) (v : BindingId) : Option ScopeId → Type 0 where
  own : (s : ScopeId) → Stands T s → FirstEntry T s n h v → OwnOrBeyond T n h m v (Some s)
  beyond : (s : ScopeId) → Stands T s → (scope_at T s).kind ≡ K.MacroDef m → OwnOrBeyond T n h m v (Some s)
  further : (s : ScopeId) → Stands T s → ((scope_at T s).kind ≢ K.MacroDef m) → OwnOrBeyond T n h m v (scope_at T s).parent → OwnOrBeyond T n h m v (Some s)

-- a name that macro m wrote finds no local declared after the macro's definition, unless the local has the name's own hygiene
abbrev pub MixedSite : Type 0
MixedSite = (W : ItemTables) (X : ExpansionTables) (T : Surroundings) (n : Name) (p : Option ScopeId) (h : HygieneId) (o : Outer) (v : BindingId) →
    X.outers h ≡ Some o → Finds W X T n p (begun X h) (R.Local v) → OwnOrBeyond T n h o.by v p

-- the way outward from p comes to scope d, the definition of macro m, past scopes that have no entry with the name and the hygiene h, and no item
pub data ComesTo (W : ItemTables) (T : Surroundings) (n : Name) (h : HygieneId) (m : MacroId) (d : ScopeId) : Option ScopeId → Type 0 where
  there : Stands T d → NoEntry T d n h → (scope_at T d).kind ≡ K.MacroDef m → ComesTo W T n h m d (Some d)
  past : (s : ScopeId) → Stands T s → NoEntry T s n h → NoItem W T s n → ((scope_at T s).kind ≢ K.MacroDef m) → ComesTo W T n h m d (scope_at T s).parent → ComesTo W T n h m d (Some s)

-- then the name means what it means where the macro is defined, with the hygiene of the place where it is called: whatever other entries stand on the way
abbrev pub DefinitionSite : Type 0
DefinitionSite = (W : ItemTables) (X : ExpansionTables) (T : Surroundings) (n : Name) (p : Option ScopeId) (h : HygieneId) (o : Outer) (d : ScopeId) (r : Resolution) →
    X.outers h ≡ Some o → ComesTo W T n h o.by d p → Finds W X T n (scope_at T d).parent (called_in X o) r → Finds W X T n p (begun X h) r
