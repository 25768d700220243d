-- The chain of scopes from one outward, and what is found along it.
use Rattle.std.proofs.Common.{◌≡◌, ℕ, zero, suc, ◌-◌, ◌<◌, ◌≤◌, List, [], ◌∷◌, length, get_or, Some, Option, sym, refl, ap, ◌∙◌, inl, inr, arith}
use Rattle.std.proofs.lemmas.List.{get_or-map, length-map}
use Rattle.std.proofs.lemmas.Bool.{cases_eq, cases_lt, cond-true, cond-false, eq-eqb, ne_eqb}
use Rattle.format.specs.declared.ids.ScopeId.{ScopeId}
use Rattle.reach.specs.Bare.{Scope}
use Rattle.reach.specs.Blank.{bare_scope, blank_scope, no_scope, parent_of}
use Rattle.scope.specs.Queries.{IsScope, all_scopes, data_of}
use Rattle.scope.specs.Told.{told}
use Rattle.scope.specs.declared.tables.ExprScopes.{ExprScopes}
use Rattle.resolve.specs.Outward.{chain, chain_from}

-- each scope has a parent numbered below it, or none
abbrev pub Below : List Scope → Type 0
Below ss = (k : ℕ) → k < length ss → parent_of (get_or ss k no_scope).parent ≤ k

module _ (ss : List Scope) where
  -- scopes numbered above where the way is do not count
  chain_skip : (k : ℕ) (o : Option ScopeId) → parent_of o ≤ k → chain_from ss k o ≡ chain_from ss (parent_of o) o
  chain_skip zero o h = let z : 0 ≡ parent_of o = omega arith in ap (λ m. chain_from ss m o) z
  chain_skip (suc k) o h =
      elim (cases_eq (parent_of o) (suc k)) [
        | inl e ↦ ap (λ m. chain_from ss m o) (sym e)
        | inr ne ↦ cond-false _ _ _ (ne_eqb (parent_of o) (suc k) ne) ∙ chain_skip k o (omega arith)
      ]

  chain_over : (k : ℕ) (o : Option ScopeId) → k < parent_of o → chain_from ss k o ≡ []
  chain_over zero o h = refl
  chain_over (suc k) o h = cond-false _ _ _ (ne_eqb (parent_of o) (suc k) (λ e. omega arith)) ∙ chain_over k o (omega arith)

  chain_none : (o : Option ScopeId) → parent_of o ≡ 0 → chain ss o ≡ []
  chain_none o e = chain_skip (length ss) o (omega arith) ∙ ap (λ m. chain_from ss m o) e

  chain_at : Below ss → (k : ℕ) (s : ScopeId) → s.0 ≡ suc k → k < length ss → chain ss (Some s) ≡ s ∷ chain ss (get_or ss k no_scope).parent
  chain_at b k s e l =
      let p : Option ScopeId = (get_or ss k no_scope).parent in
      chain_skip (length ss) (Some s) (omega arith) ∙
      (ap (λ m. chain_from ss m (Some s)) e ∙
      (cond-true _ _ _ (eq-eqb s.0 (suc k) e) ∙
      (ap (λ m. record { 0 = m } ∷ chain_from ss k p) (sym e) ∙
      ap (λ l. s ∷ l) (chain_skip k p (b k l) ∙ sym (chain_skip (length ss) p (omega (arith, b k l)))))))

  pub chain_step : Below ss → (s : ScopeId) → 0 < s.0 → s.0 ≤ length ss → chain ss (Some s) ≡ s ∷ chain ss (get_or ss (s.0 - 1) no_scope).parent
  chain_step b s p l = chain_at b (s.0 - 1) s (omega arith) (omega arith)

  pub chain_end : (o : Option ScopeId) → ((0 < parent_of o) × (parent_of o ≤ length ss) → ⊥) → chain ss o ≡ []
  chain_end o n =
      elim (cases_eq (parent_of o) 0) [
        | inl e ↦ chain_none o e
        | inr ne ↦ elim (cases_lt (length ss) (parent_of o)) [ inl h ↦ chain_over (length ss) o h | inr h ↦ absurd (n (omega arith, omega arith)) ]
      ]

-- the scopes of a tree
module _ (t : ExprScopes) where
  pub told_length : length (told t).scopes ≡ length (all_scopes t)
  told_length = length-map (all_scopes t) bare_scope

  told_at : (k : ℕ) → k < length (all_scopes t) → get_or (told t).scopes k no_scope ≡ bare_scope (get_or (all_scopes t) k blank_scope)
  told_at k l = get_or-map bare_scope (all_scopes t) k blank_scope no_scope l

  pub told_scope : (s : ScopeId) → IsScope t s → get_or (told t).scopes (s.0 - 1) no_scope ≡ bare_scope (data_of t s)
  told_scope s h = told_at (s.0 - 1) (omega (arith, h))

  pub told_below : Below (told t).scopes
  told_below k l =
      let m : k < length (all_scopes t) = omega (arith, told_length) in
      omega (arith, t.tables.scopes.sloping k m, ap (λ d. parent_of d.parent) (told_at k m))
