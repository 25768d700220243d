-- A local that is found reaches the use.
use Rattle.std.proofs.Common.{◌≡◌, ℕ, zero, suc, ◌-◌, ◌<◌, List, [], ◌∷◌, map, length, get_or, IfOk, Some, None, Ok, Err, Option, Result, unwrap_or, sym, refl, ap, ◌∙◌, subst, inl, inr, arith}
use Rattle.std.proofs.lemmas.Bool.{cases_eq, cond-true, cond-false, eq-eqb, ne_eqb}
use Rattle.format.specs.declared.ids.BindingId.{BindingId}
use Rattle.format.specs.declared.ids.HygieneId.{HygieneId}
use Rattle.format.specs.declared.ids.Name.{Name}
use Rattle.format.specs.declared.ids.NodeId.{NodeId}
use Rattle.format.specs.declared.ids.ScopeId.{ScopeId}
use Rattle.host.specs.Meaning.{ItemTables, ExpansionTables}
use Rattle.reach.specs.Blank.{bare_entry}
use Rattle.reach.specs.Held.{shape_of}
use Rattle.reach.specs.Law.{Among, Holds, OnChain, bound, held}
use Rattle.reach.specs.Named.{no_entry}
use Rattle.scope.specs.Queries.{recorded_at}
use Rattle.reach.specs.Ranges.{home_of}
use Rattle.reach.specs.Words.{ReachLaw, Reaches}
use Rattle.reach.specs.declared.data.ScopeEntry.{ScopeEntry}
use Rattle.reach.proofs.Reach.{holds_met, unmapped}
use Rattle.scope.specs.Told.{told}
use Rattle.scope.specs.declared.refusal.QueryRefusal.{QueryRefusal}
use Rattle.scope.specs.declared.tables.ExprScopes.{ExprScopes}
use Rattle.sheet.specs.Held.{nodes_of}
use Rattle.table.specs.Tables.{found}
use Rattle.sheet.specs.declared.node.Node.{Node}
use Rattle.sheet.specs.declared.body.Body.{Body}
use Rattle.resolve.specs.declared.context.Context.{Context}
use Rattle.resolve.specs.declared.resolution.Resolution.{Resolution}
use Rattle.resolve.specs.declared.resolution.Resolution.TheVariants as R
use Rattle.resolve.specs.declared.sought.Sought.{Sought}
use Rattle.resolve.specs.Outward.{Surroundings, begun, resolved, scope_at, surroundings_of}
use Rattle.resolve.specs.Hits.{Finds, local, item, past_definition, onward, left}
use Rattle.resolve.specs.Reaching.{Reached}
use Rattle.resolve.specs.Uses.{ForUse, asked, asked_from, sought_at, use_of}
use Rattle.resolve.proofs.Agree.{found_by_rules}
use Rattle.resolve.proofs.Chains.{told_below}
use Rattle.resolve.proofs.Frames.{never}
use Rattle.resolve.proofs.Mixed.{outside_gives_none}

-- an entry is held by its scope
among_held : (h : ℕ) (es : List ScopeEntry) (i : ℕ) (v : BindingId) → i < length es → home_of es i ≡ h → (get_or es i no_entry).binding ≡ v → Among v (held h (map bare_entry es))
among_held h [] i v l e q = absurd (omega arith)
among_held h (x ∷ es) zero v l e q = subst (Among v) (sym (cond-true _ (x.binding ∷ held h (map bare_entry es)) _ (eq-eqb h x.scope.0 (sym e)))) (inl (sym q))
among_held h (x ∷ es) (suc i) v l e q =
    let rest = among_held h es i v (omega arith) e q in
    elim (cases_eq h x.scope.0) [
      | inl same ↦ subst (Among v) (sym (cond-true _ (x.binding ∷ held h (map bare_entry es)) _ (eq-eqb h x.scope.0 same))) (inr rest)
      | inr other ↦ subst (Among v) (sym (cond-false _ (x.binding ∷ held h (map bare_entry es)) _ (ne_eqb h x.scope.0 other))) rest
    ]

module _ (W : ItemTables) (X : ExpansionTables) (b : Body) (t : ExprScopes) (n : Name) (v : BindingId) where
  abbrev T : Surroundings
  T = surroundings_of b t

  -- a scope on the way holds the local that is found
  one_out : (s p : ScopeId) → (scope_at T s).parent ≡ Some p → Holds (told t) v p.0 → Holds (told t) v s.0
  one_out s p e h = record { scope = h.scope; chain = OnChain.outward s.0 p e h.chain; entry = h.entry }

  none_found : {o : Option ScopeId} {x : Context} {r : Resolution} → Finds W X T n o x r → o ≡ None → r ≡ R.Local v → ⊥
  none_found (local x s u h f) z e = cc
  none_found (item x s i h a g) z e = cc
  none_found (past_definition x s a r h w d f) z e = cc
  none_found (onward x s r h w q c f) z e = cc
  none_found (left p x r w f) z e = outside_gives_none W T.frames n v f e

  by_parent : (s : ScopeId) (o : Option ScopeId) → (scope_at T s).parent ≡ o → ((p : ScopeId) → o ≡ Some p → Holds (told t) v p.0) → (o ≡ None → ⊥) → Holds (told t) v s.0
  by_parent s None e up z = absurd (z refl)
  by_parent s (Some p) e up z = one_out s p e (up p refl)

  holds : {o : Option ScopeId} {x : Context} {r : Resolution} → Finds W X T n o x r → r ≡ R.Local v → (s : ScopeId) → o ≡ Some s → Holds (told t) v s.0
  holds (local x s u h f) e p q =
      let same : s ≡ p = cc in
      let bound_to : u ≡ v = cc in
      record { scope = p.0; chain = OnChain.itself; entry = among_held p.0 T.entries f.place v f.answers.there (f.answers.home ∙ ap (λ y. y.0) same) (f.binding_is ∙ bound_to) }
  holds (item x s i h a g) e p q = absurd cc
  holds (past_definition x s a r h w d f) e p q =
      let same : s ≡ p = cc in
      subst (λ y. Holds (told t) v y.0) same (by_parent s (scope_at T s).parent refl (holds f e) (λ z. none_found f z e))
  holds (onward x s r h w g c f) e p q =
      let same : s ≡ p = cc in
      subst (λ y. Holds (told t) v y.0) same (by_parent s (scope_at T s).parent refl (holds f e) (λ z. none_found f z e))
  holds (left o x r w f) e p q = absurd (outside_gives_none W T.frames n v f e)

-- what a use asks begins in the scope recorded for it
from_use : (o : Option ScopeId) (u : Option (Name × HygieneId)) (q : Sought) → asked_from o u ≡ Some q → (s : ScopeId) × (o ≡ Some s) × (q.from ≡ Some s)
from_use None u q e = never q _ refl e
from_use (Some s) None q e = never q _ refl e
from_use (Some s) (Some u) q e = (s, refl, sym (ap (λ y. (unwrap_or y q).from) e))

from_node : (o : Option ScopeId) (x : Option Node) (q : Sought) → asked o x ≡ Some q → (s : ScopeId) × (o ≡ Some s) × (q.from ≡ Some s)
from_node o None q e = never q _ refl e
from_node o (Some x) q e = from_use o (use_of x.kind) q e

module _ (W : ItemTables) (X : ExpansionTables) (b : Body) (t : ExprScopes) (n : NodeId) where
  -- a use that means a local is reached by it
  abbrev pub ReachedBy : BindingId → Type 0
  ReachedBy v = Reached (shape_of b) (length (nodes_of b)) v n.raw

  use_reached : ReachLaw (shape_of b) (length (nodes_of b)) (told t) → (q : Sought) → sought_at b t n ≡ Some q → (v : BindingId) → resolved W X (surroundings_of b t) q ≡ R.Local v → ReachedBy v
  use_reached law q e v is =
      let w = from_node (recorded_at t n) (found (nodes_of b) (n.raw - 1)) q e in
      let f = found_by_rules W X (surroundings_of b t) q.name (told_below t) q.from (begun X q.hygiene) in
      let h = holds W X b t q.name v f is w.0 w.2 in
      let a = law (n.raw - 1) w.0 w.1 in
      let m = holds_met (told t) v h.scope w.0.0 h.chain h.entry w.0.0 (map (bound (shape_of b)) a.binds) a.met refl in
      let u = unmapped (shape_of b) v a.binds m in
      let z : suc (n.raw - 1) ≡ n.raw = omega (arith, n.real) in
      record { at = u.0; binds = u.1; reaches = subst (λ k. Reaches (shape_of b) (length (nodes_of b)) u.0 k) z ((a.scope u.0).0 u.2) }

  pub result_reached : (r : Result Resolution QueryRefusal) → ForUse b t n r (λ q m. m ≡ resolved W X (surroundings_of b t) q) → ReachLaw (shape_of b) (length (nodes_of b)) (told t) → IfOk r (λ m. (v : BindingId) → m ≡ R.Local v → ReachedBy v)
  result_reached (Ok m) h law = λ v e. use_reached law h.0 h.1 v (sym h.2 ∙ e)
  result_reached (Err f) h law = tt
