-- Every chain of scopes goes down to scope 1.
use Rattle.std.proofs.Common.{◌≡◌, ℕ, zero, suc, ◌+◌, ◌-◌, ◌<◌, ◌≤◌, List, map, length, get_or, Some, None, Option, sym, refl, ap, ◌∙◌, subst, inl, inr, arith}
use Rattle.std.proofs.lemmas.List.{length-map}
use Rattle.std.proofs.lemmas.Bool.{cases_eq}
use Rattle.format.specs.declared.ids.ScopeId.{ScopeId}
use Rattle.reach.specs.declared.data.ScopeData.{ScopeData}
use Rattle.reach.specs.Blank.{Rooted, Sloping, bare_scope, blank_scope, no_scope, parent_of}
use Rattle.reach.specs.Law.{IsIn, OnChain, itself, outward, TreeOfScopes}
use Rattle.reach.specs.Visit.{State}
use Rattle.reach.proofs.Fold.{get_or_map_any}

module _ (ss : List ScopeData) (slopes : Sloping ss) (roots : Rooted ss) (s : State) (is : s.scopes ≡ map bare_scope ss) (root : get_or s.scopes 0 no_scope ≡ no_scope) where
  in_table : (c : ℕ) → IsIn s c → c ≤ length ss
  in_table c h = omega (arith, h, ap length is, length-map ss bare_scope)

  parent_in : (c : ℕ) → IsIn s c → (get_or s.scopes (c - 1) no_scope).parent ≡ (get_or ss (c - 1) blank_scope).parent
  parent_in c h = ap (λ q. (get_or q (c - 1) no_scope).parent) is ∙ ap (λ r. r.parent) (get_or_map_any bare_scope ss (c - 1) blank_scope)

  none_some : (p : ScopeId) → None ≡ Some p → ⊥
  none_some p h = let z : ◌≡◌ {A = ℕ} 0 1 = cc in absurd (omega arith)

  lower : (c : ℕ) (p : ScopeId) → IsIn s c → (get_or s.scopes (c - 1) no_scope).parent ≡ Some p → (0 < p.0) × (p.0 < c)
  lower c p h e =
      let n = ap parent_of (sym (parent_in c h) ∙ e) in
      let lt : c - 1 < length ss = omega (arith, h, in_table c h) in
      elim (cases_eq (c - 1) 0) [
        | inl z ↦ absurd (none_some p (sym (ap (λ i. (get_or s.scopes i no_scope).parent) z ∙ ap (λ r. r.parent) root) ∙ e))
        | inr z ↦ (omega (arith, n, roots (c - 1) (omega (arith, z)) lt), omega (arith, n, slopes (c - 1) lt, h))
      ]

  alone : (c : ℕ) → IsIn s c → (get_or s.scopes (c - 1) no_scope).parent ≡ None → c ≡ 1
  alone c h e =
      let n = ap parent_of (sym (parent_in c h) ∙ e) in
      elim (cases_eq (c - 1) 0) [
        | inl z ↦ omega (arith, h)
        | inr z ↦ absurd (omega (arith, n, roots (c - 1) (omega (arith, z)) (omega (arith, h, in_table c h))))
      ]

  chain_by : (c : ℕ) → IsIn s c → ((d : ℕ) → d < c → IsIn s d → OnChain s 1 d) → (o : Option ScopeId) → (get_or s.scopes (c - 1) no_scope).parent ≡ o → OnChain s 1 c
  chain_by c h ih None e = subst (OnChain s 1) (sym (alone c h e)) itself
  chain_by c h ih (Some p) e = let q = lower c p h e in outward c p e (ih p.0 q.1 (q.0, omega (arith, q, h)))

  chain : (k c : ℕ) → c < k → IsIn s c → OnChain s 1 c
  chain zero c l h = absurd (omega arith)
  chain (suc k) c l h = chain_by c h (λ d q i. chain k d (omega arith) i) (get_or s.scopes (c - 1) no_scope).parent refl

  pub tree_of_scopes : TreeOfScopes s
  tree_of_scopes = record { parents_lower = lower; root_alone = alone; chains_end_at_1 = λ c h. chain (c + 1) c (omega arith) h }
