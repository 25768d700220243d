-- How often a number stands in a list.
use Rattle.std.proofs.Common.{◌≡◌, ℕ, zero, suc, ◌+◌, ◌-◌, ◌<◌, ◌≤◌, Bool, true, false, cond, not, eqb, ◌≢◌, List, [], ◌∷◌, ◌++◌, length, get_or, take, set, replicate, Some, None, Option, sym, refl, ap, ◌∙◌, subst, ⊎_elim, arith, get_or-set_other, get_or-set_same}
use Rattle.std.proofs.lemmas.List.{take_more, take_all, get_or-replicate}
use Rattle.std.specs.Option.{is_some, option_eq}
use Rattle.std.proofs.lemmas.Bool.{both_ways, cases_eq, cases_lt, eqb-true, eq-eqb, ne_eqb, cond-true, cond-false}
use Rattle.sheet.specs.Shape.{times}
use Rattle.sheet.specs.Steps.{FirstClaim, Claims}

times_push : (c y : ℕ) (xs : List ℕ) → times c (xs ++ (y ∷ [])) ≡ times c xs + cond (eqb c y) 1 0
times_push c y [] = omega arith
times_push c y (x ∷ xs) = omega (arith, times_push c y xs)

-- one entry more
times_more : (c q : ℕ) (cs : List ℕ) → q < length cs → times c (take (q + 1) cs) ≡ times c (take q cs) + cond (eqb c (get_or cs q 0)) 1 0
times_more c q cs h = ap (times c) (take_more cs q 0 h) ∙ times_push c (get_or cs q 0) (take q cs)

pub times_same : (c q : ℕ) (cs : List ℕ) → q < length cs → get_or cs q 0 ≡ c → times c (take (q + 1) cs) ≡ times c (take q cs) + 1
times_same c q cs h e = times_more c q cs h ∙ ap (λ x. times c (take q cs) + x) (cond-true _ 1 0 (eq-eqb c (get_or cs q 0) (sym e)))

pub times_other : (c q : ℕ) (cs : List ℕ) → q < length cs → (get_or cs q 0 ≡ c → ⊥) → times c (take (q + 1) cs) ≡ times c (take q cs)
times_other c q cs h n =
    times_more c q cs h ∙ (ap (λ x. times c (take q cs) + x) (cond-false _ 1 0 (ne_eqb c (get_or cs q 0) (λ e. n (sym e)))) ∙ omega arith)

times_step : (c q : ℕ) (cs : List ℕ) → q < length cs → times c (take q cs) ≤ times c (take (q + 1) cs)
times_step c q cs h =
    ⊎_elim (λ (e : get_or cs q 0 ≡ c). omega (arith, times_same c q cs h e)) (λ n. omega (arith, times_other c q cs h n)) (cases_eq (get_or cs q 0) c)

times_up : (c q d : ℕ) (cs : List ℕ) → q + d ≤ length cs → times c (take q cs) ≤ times c (take (q + d) cs)
times_up c q zero cs h = let z : q + 0 ≡ q = omega arith in rw z (omega arith)
times_up c q (suc d) cs h =
    let z : q + suc d ≡ (q + d) + 1 = omega arith in
    rw z (omega (arith, times_up c q d cs (omega arith), times_step c (q + d) cs (omega arith)))

-- what stands at q stands among the first k
pub times_here : (c q k : ℕ) (cs : List ℕ) → q < k → k ≤ length cs → get_or cs q 0 ≡ c → 0 < times c (take k cs)
times_here c q k cs l h e =
    let z : (q + 1) + (k - (q + 1)) ≡ k = omega arith in
    let u = times_up c (q + 1) (k - (q + 1)) cs (omega arith) in
    let v : times c (take (q + 1) cs) ≤ times c (take k cs) = subst (λ n. times c (take (q + 1) cs) ≤ times c (take n cs)) z u in
    omega (arith, times_same c q cs (omega arith) e)

-- the table of first claims, one child more
module _ (cs : List ℕ) (n : ℕ) (lt : n < length cs) where
  claim_keep : (c : ℕ) (v : Option ℕ) → FirstClaim cs n c v → (get_or cs n 0 ≡ c → v ≡ None → ⊥) → FirstClaim cs (n + 1) c v
  claim_keep c v f h = record {
    none = λ z. times_other c n cs lt (λ e. h e z) ∙ f.none z;
    first = λ q e. let p = f.first q e in (omega (arith, p.0), p.1, p.2);
  }

  claim_set : (c : ℕ) → FirstClaim cs n c None → get_or cs n 0 ≡ c → FirstClaim cs (n + 1) c (Some n)
  claim_set c f e = record {
    none = λ h. let z : ◌≡◌ {A = ℕ} 0 1 = cc in absurd (omega arith);
    first = λ q h. let k : n ≡ q = cc in (omega (arith, k), subst (λ x. get_or cs x 0 ≡ c) k e, subst (λ x. times c (take x cs) ≡ 0) k (f.none refl));
  }

  pub claims_keep : (t : List (Option ℕ)) (x : ℕ) → x ≡ get_or cs n 0 → Claims cs n t → (x < 513 → get_or t x None ≡ None → ⊥) → Claims cs (n + 1) t
  claims_keep t x i f h c l = claim_keep c _ (f c l) (λ e z. h (omega arith) (subst (λ y. get_or t y None ≡ None) (sym (i ∙ e)) z))

  pub claims_set : (t : List (Option ℕ)) (x : ℕ) → x ≡ get_or cs n 0 → length t ≡ 513 → Claims cs n t → x < 513 → get_or t x None ≡ None → Claims cs (n + 1) (set t x (Some n))
  claims_set t x i len f l z c lc =
      ⊎_elim
      (λ (e : c ≡ x).
      let h : x < length t = omega arith in
      subst (λ y. FirstClaim cs (n + 1) y (get_or (set t x (Some n)) y None)) (sym e)
      (rw get_or-set_same (claim_set x (subst (λ v. FirstClaim cs n x v) z (f x l)) (sym i))))
      (λ (ne : c ≢ x). rw get_or-set_other (claim_keep c _ (f c lc) (λ e. absurd (ne (sym (i ∙ e))))))
      (cases_eq c x)

pub claims_none : (cs : List ℕ) → Claims cs 0 (replicate 513 None)
claims_none cs c l = rw get_or-replicate record { none = λ _. refl; first = λ q h. let z : ◌≡◌ {A = ℕ} 0 1 = cc in absurd (omega arith) }

-- what the code tests of a claim
pub unclaimed_is : (v : Option ℕ) (b : Bool) → is_some v ≡ not b → b ≡ true → v ≡ None
unclaimed_is None b h e = refl
unclaimed_is (Some q) b h e = absurd (both_ways (not b) (ap not e) (sym h))

pub claimed_is : (v : Option ℕ) (b : Bool) → is_some v ≡ not b → b ≡ false → v ≡ None → ⊥
claimed_is v b h e z = both_ways (is_some v) (ap is_some z) (h ∙ ap not e)

pub claim_from : (v : Option ℕ) (q : ℕ) → option_eq eqb v (Some q) ≡ true → v ≡ Some q
claim_from None q h = absurd (both_ways false refl h)
claim_from (Some p) q h = ap (λ x. Some x) (eqb-true p q h)

pub from_claim : (v : Option ℕ) (q : ℕ) → v ≡ Some q → option_eq eqb v (Some q) ≡ true
from_claim v q e = ap (λ w. option_eq eqb w (Some q)) e ∙ eq-eqb q q refl

-- the table tells whether a child was none before, and whether a node is a child
module _ (cs : List ℕ) where
  pub new_from : (v : Option ℕ) (q c : ℕ) → FirstClaim cs (length cs) c v → v ≡ Some q → times c (take q cs) ≡ 0
  new_from v q c f i = (f.first q i).2

  pub from_new : (v : Option ℕ) (q c : ℕ) → q < length cs → get_or cs q 0 ≡ c → FirstClaim cs (length cs) c v → times c (take q cs) ≡ 0 → v ≡ Some q
  from_new None q c l e f z = absurd (omega (arith, f.none refl, times_here c q (length cs) cs l (omega arith) e))
  from_new (Some p) q c l e f z =
      let w = f.first p refl in
      ⊎_elim (λ (y : p ≡ q). ap (λ x. Some x) y)
      (λ ny.
      ⊎_elim (λ (s : p < q). absurd (omega (arith, z, times_here c p q cs s (omega arith) w.1)))
      (λ (s : q ≤ p). absurd (omega (arith, w.2, times_here c q p cs (omega arith) (omega (arith, w.0)) e)))
      (cases_lt p q))
      (cases_eq p q)

  pub claimed_from : (v : Option ℕ) (c : ℕ) → FirstClaim cs (length cs) c v → (v ≡ None → ⊥) → 0 < times c cs
  claimed_from None c f h = absurd (h refl)
  claimed_from (Some q) c f h =
      let w = f.first q refl in
      let u = times_here c q (length cs) cs w.0 (omega arith) w.1 in
      subst (λ x. 0 < times c x) (take_all (length cs) cs (omega arith)) u

  pub unclaimed_from : (v : Option ℕ) (c : ℕ) → FirstClaim cs (length cs) c v → v ≡ None → times c cs ≡ 0
  unclaimed_from v c f h = subst (λ x. times c x ≡ 0) (take_all (length cs) cs (omega arith)) (f.none h)
