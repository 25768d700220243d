use Rattle.std.proofs.Common.{◌≡◌, ℕ, zero, suc, ◌<◌, ◌≤◌, ◌≢◌, List, [], ◌∷◌, ◌++◌, map, length, get_or, set, sym, refl, ap, subst, inl, inr, arith, below_more}
use Rattle.std.proofs.lemmas.List.{get_or_append_left, get_or_push, get_or-set_same, get_or-set_other, length_push, length-set}
use Rattle.std.proofs.lemmas.Bool.{cases_eq}
use Rattle.reach.specs.declared.data.ScopeData.{ScopeData}
use Rattle.reach.specs.Blank.{blank_scope, parent_of, Sloping, Rooted}

pub sloping_more : (ss : List ScopeData) (s : ScopeData) → Sloping ss → parent_of s.parent ≤ length ss → Sloping (ss ++ (s ∷ []))
sloping_more ss s h p k l =
    below_more (λ k. parent_of (get_or (ss ++ (s ∷ [])) k blank_scope).parent ≤ k) (length ss)
    (λ k q. subst (λ x. parent_of x.parent ≤ k) (sym (get_or_append_left ss (s ∷ []) blank_scope k q)) (h k q))
    (subst (λ x. parent_of x.parent ≤ length ss) (sym (get_or_push ss s blank_scope (length ss) refl)) p)
    k (omega (arith, length_push ss s))

pub rooted_more : (ss : List ScopeData) (s : ScopeData) → Rooted ss → 0 < parent_of s.parent → Rooted (ss ++ (s ∷ []))
rooted_more ss s h p k z l =
    below_more (λ k. 0 < k → 0 < parent_of (get_or (ss ++ (s ∷ [])) k blank_scope).parent) (length ss)
    (λ k q z. subst (λ x. 0 < parent_of x.parent) (sym (get_or_append_left ss (s ∷ []) blank_scope k q)) (h k z q))
    (λ z. subst (λ x. 0 < parent_of x.parent) (sym (get_or_push ss s blank_scope (length ss) refl)) p)
    k (omega (arith, length_push ss s)) z

-- another end of a scope's range leaves the tree as it is
pub widened : (ss : List ScopeData) (k : ℕ) (s : ScopeData) → k < length ss → s.parent ≡ (get_or ss k blank_scope).parent → Sloping ss → Sloping (set ss k s)
widened ss k s l e h j q =
    elim (cases_eq j k) [
      | inl i ↦ subst (λ x. parent_of (get_or (set ss k s) x blank_scope).parent ≤ x) (sym i) (rw get_or-set_same (subst (λ y. parent_of y ≤ k) (sym e) (h k l)))
      | inr n ↦ let ne : j ≢ k = n in rw get_or-set_other (h j (omega (arith, length-set ss k s)))
    ]

pub widened_root : (ss : List ScopeData) (k : ℕ) (s : ScopeData) → k < length ss → s.parent ≡ (get_or ss k blank_scope).parent → Rooted ss → Rooted (set ss k s)
widened_root ss k s l e h j z q =
    elim (cases_eq j k) [
      | inl i ↦ subst (λ x. 0 < parent_of (get_or (set ss k s) x blank_scope).parent) (sym i) (rw get_or-set_same (subst (λ y. 0 < parent_of y) (sym e) (h k (omega arith) l)))
      | inr n ↦ let ne : j ≢ k = n in rw get_or-set_other (h j z (omega (arith, length-set ss k s)))
    ]

-- a list after a write that a function does not see
pub unseen : {X Y : Type 0} (f : X → Y) (xs : List X) (k : ℕ) (x d : X) → f x ≡ f (get_or xs k d) → map f (set xs k x) ≡ map f xs
unseen f [] k x d e = refl
unseen f (y ∷ ys) zero x d e = ap (λ z. z ∷ map f ys) e
unseen f (y ∷ ys) (suc k) x d e = ap (λ z. f y ∷ z) (unseen f ys k x d e)
