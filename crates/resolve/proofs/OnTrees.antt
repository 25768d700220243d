-- The steps of a look-up on the tables of a tree, as if a binding had another name.
use Rattle.std.proofs.Common.{◌≡◌, ◌-◌, ◌<◌, IfOk, Some, None, Ok, Err, Option, Result, unwrap_or, sym, ap, ◌∙◌, subst, arith}
use Rattle.std.proofs.lemmas.List.{map-id}
use Rattle.format.specs.declared.ids.Name.{Name}
use Rattle.format.specs.declared.ids.ScopeId.{ScopeId}
use Rattle.host.specs.Meaning.{ItemTables, ExpansionTables}
use Rattle.reach.specs.Bare.{Scope}
use Rattle.reach.specs.Blank.{parent_of}
use Rattle.scope.specs.Queries.{IsScope, data_of}
use Rattle.reach.specs.declared.data.ScopeData.{ScopeData}
use Rattle.scope.specs.declared.tables.ExprScopes.{ExprScopes}
use Rattle.sheet.specs.Held.{frames_of}
use Rattle.sheet.specs.declared.body.Body.{Body}
use Rattle.resolve.specs.declared.context.Context.{Context}
use Rattle.resolve.specs.declared.resolution.Resolution.{Resolution}
use Rattle.resolve.specs.declared.sought.Rename.{Rename}
use Rattle.scope.specs.declared.refusal.QueryRefusal.{QueryRefusal}
use Rattle.resolve.specs.declared.sought.Sought.{Sought}
use Rattle.resolve.specs.Hits.{Stands, Finds}
use Rattle.resolve.specs.Uses.{ForPlace}
use Rattle.resolve.proofs.Agree.{found_by_rules}
use Rattle.resolve.specs.Outward.{Surroundings, begun, crossed, outside, resolved, scope_answer, supposing, surroundings_of}
use Rattle.resolve.proofs.Along.{from, from_scope, from_end}
use Rattle.resolve.proofs.Chains.{told_below, told_length, told_scope}

-- the way stands at scope s, with its record d
abbrev pub Stopped : ExprScopes → Option ScopeId → ScopeId → ScopeData → Type 0
Stopped t at s d = (at ≡ Some s) × IsScope t s × (d ≡ data_of t s)

-- the next scope outward has a lower number
pub outward_less : (t : ExprScopes) (at : Option ScopeId) (s : ScopeId) (d : ScopeData) → Stopped t at s d → parent_of d.parent < parent_of at
outward_less t at s d h = omega (arith, ap parent_of h.0, ap (λ x. parent_of x.parent) h.2, t.tables.scopes.sloping (s.0 - 1) (omega (arith, h.1)), h.1)

module _ (W : ItemTables) (X : ExpansionTables) (b : Body) (t : ExprScopes) (r : Option Rename) (n : Name) where
  abbrev T : Surroundings
  T = supposing r (surroundings_of b t)

  stands : (s : ScopeId) → IsScope t s → Stands T s
  stands s h = (h.0, omega (arith, told_length t, h))

  -- from a scope: what it answers, else what is found from its parent on
  pub tree_step : (s : ScopeId) (x : Context) → IsScope t s →
      from W X T n (Some s) x ≡ unwrap_or (scope_answer W (data_of t s).kind T.entries n x.hygiene s) (from W X T n (data_of t s).parent (crossed X (data_of t s).kind x))
  tree_step s x h =
      from_scope W X T n (told_below t) s x (stands s h) ∙
      ap (λ (k : Scope). unwrap_or (scope_answer W k.kind T.entries n x.hygiene s) (from W X T n k.parent (crossed X k.kind x))) (told_scope t s h)

  pub tree_end : (at : Option ScopeId) (x : Context) → (IsScope t (record { 0 = parent_of at }) → ⊥) → outside W (frames_of b) n ≡ from W X T n at x
  tree_end at x h = from_end W X T n at x (λ s. h (s.0, omega (arith, told_length t, s)))

-- nothing supposed is nothing changed
pub supposing_none : (S : Surroundings) → supposing None S ≡ S
supposing_none S = ap (λ es. record { scopes = S.scopes; entries = es; frames = S.frames }) (map-id S.entries)

-- what is answered is found by the rules
pub first_hit : (W : ItemTables) (X : ExpansionTables) (b : Body) (t : ExprScopes) (q : Sought) (r : Result Resolution QueryRefusal) →
    ForPlace t q.from r (λ m. m ≡ resolved W X (surroundings_of b t) q) → IfOk r (λ m. Finds W X (surroundings_of b t) q.name q.from (begun X q.hygiene) m)
first_hit W X b t q (Ok m) h = subst (λ y. Finds W X (surroundings_of b t) q.name q.from (begun X q.hygiene) y) (sym h.1) (found_by_rules W X (surroundings_of b t) q.name (told_below t) q.from (begun X q.hygiene))
first_hit W X b t q (Err f) h = tt
