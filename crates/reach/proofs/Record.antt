use Rattle.std.proofs.Common.{◌≡◌, ℕ, zero, suc, ◌+◌, ◌-◌, ◌<◌, ◌≤◌, true, ◌⊎◌, List, [], ◌∷◌, map, length, get_or, drop, Some, None, Option, sym, refl, ap, ◌∙◌, subst, inl, inr, arith}
use lib.ListN.{length-replicate}
use Rattle.std.proofs.lemmas.Bool.{cases_eq}
use Rattle.std.proofs.lemmas.List.{get_or_past}
use Rattle.format.specs.declared.ids.NodeId.{NodeId}
use Rattle.format.specs.declared.ids.BindingId.{BindingId}
use Rattle.format.specs.declared.ids.ScopeId.{ScopeId}
use Rattle.reach.specs.declared.data.Place.{Place}
use Rattle.format.specs.Ids.{number_of}
use Rattle.reach.specs.Shape.{Shape, Below, children_of}
use Rattle.reach.specs.Visit.{State, skip, each, step, of_child, visit_of, visits, built, first, start, self_in, selfed}
use Rattle.reach.specs.Law.{TreeLaw, AllRecorded}
use Rattle.reach.specs.Tables.{kind_of, kids, kid, is_expr, most, Full}
use Rattle.reach.proofs.Fold.{folded_is, falls}
use Rattle.reach.proofs.Whole.{low}
use Rattle.reach.proofs.Reach.{parent_of_lem}
use Rattle.reach.proofs.Marks.{Under, Marked, Recorded, Tame, Tames, Known, tame_kind, each_tame, tame_none, tame_at, tame_drop, first_rest, added_marks, SomeOf, opened_up}

tames_of : (b : Shape) (e : ℕ) (cs : List (Option NodeId)) (n : ℕ) → ((i : ℕ) → i < length cs → number_of (get_or cs i None) < n) → ((c : ℕ) → 0 < c → c < n → Tame b e c (visit_of b c)) → Tames b e (map number_of cs) (map (of_child skip (visit_of b)) cs)
tames_of b e [] n h ih = Tames.none
tames_of b e (None ∷ cs) n h ih = Tames.more (tame_none b e) (tames_of b e cs n (λ i l. h (suc i) (omega arith)) ih)
tames_of b e (Some c ∷ cs) n h ih = Tames.more (ih c.raw c.real.0 (h 0 (omega arith))) (tames_of b e cs n (λ i l. h (suc i) (omega arith)) ih)

tames_kids : (b : Shape) (e : ℕ) (fall : Below b.nodes b.children) (n : ℕ) → 0 < n → n ≤ 512 → ((c : ℕ) → 0 < c → c < n → Tame b e c (visit_of b c)) → Tames b e (kids b n) (visits b n)
unfolding kids
tames_kids b e fall n p q ih = tames_of b e (children_of b n) n (falls b fall n p q) ih

full_at : (b : Shape) (m : ℕ) → Full b m → (n : ℕ) → 0 < n → n < m → (i : ℕ) → most (kind_of b n) ≤ i → kid b n i ≡ 0
full_at b m f zero z l i k = absurd (omega arith)
full_at b m f (suc n) z l i k = get_or_past (kids b (suc n)) i 0 (omega (arith, f n l))

tame_to : (b : Shape) (m e : ℕ) → TreeLaw b m → is_expr (kind_of b e) ≡ true → (k c : ℕ) → c < k → 0 < c → c < m → Tame b e c (visit_of b c)
tame_to b m e t x zero c l z q f at s h = absurd (omega arith)
tame_to b m e t x (suc k) c l z q f at s h =
    let w : c ≤ 512 = omega (arith, t.size) in
    let ts = tames_kids b e t.below c z w (λ d y u. tame_to b m e t x k d (omega arith) y (omega arith)) in
    let g : Known b e c (kind_of b c) = record { real = (z, w); kind = refl; expr = x; full = full_at b m t.full c z q } in
    subst (λ v. Marked (f ⊎ Under b e c) e (v at s).0) (sym (folded_is skip step b t.below c z w)) (tame_kind b e c (kind_of b c) (visits b c) g ts f at s h)

self_marks : {f : Type 0} {e : ℕ} (x : Option BindingId) (at : Place) (s : State) → Marked f e s → Marked f e (selfed x at s)
self_marks None at s h = h
self_marks (Some v) at s h = added_marks v at.current s h

-- every node is below the last
climb : (b : Shape) (m e : ℕ) → TreeLaw b m → (k c : ℕ) → m ≤ c + k → 0 < c → c ≤ m → Under b e c → Under b e m
climb b m e t zero c l z q u = let s : c ≡ m = omega arith in subst (λ n. Under b e n) s u
climb b m e t (suc k) c l z q u = elim (cases_eq c m) [
  | inl s ↦ subst (λ n. Under b e n) s u
  | inr s ↦
      let r = parent_of_lem b m t.once c z (omega (arith, s)) in
      let up = low b t.below r.0 r.1.0 (omega (arith, r.1, t.size)) r.2.0 in
      climb b m e t k r.0 (omega (arith, up, r.2.1)) r.1.0 r.1.1 (Under.down r.0 r.2.0 r.1.0 (subst (λ n. Under b e n) (sym r.2.1) u))
]

pub recorded : (b : Shape) (m : ℕ) → TreeLaw b m → AllRecorded b m (built b m)
unfolding built
recorded b m t e l x =
    let n = suc e in
    let ts = tames_kids b n t.below m t.size.0 t.size.1 (λ c z q. tame_to b m n t x m c q z q) in
    let s0 = selfed (self_in (kind_of b m)) first start in
    let h0 : Marked ⊥ n start = record { wide = length-replicate {A = Option ScopeId} 512 None; marks = λ y. absurd y } in
    let h1 = each_tame (tame_drop 1 ts) ⊥ first s0 (self_marks (self_in (kind_of b m)) first start h0) in
    let s1 = each (drop 1 (visits b m)) first s0 in
    let h2 = tame_at ts 0 (⊥ ⊎ SomeOf b n (drop 1 (kids b m))) first s1 h1 in
    let u = climb b m n t m n (omega arith) (omega arith) (omega arith) (Under.self n (omega arith) refl) in
    let o : Recorded n (built b m) = elim (opened_up b n m u) [
      | inl q ↦ absurd (omega arith)
      | inr w ↦ elim (first_rest m w) [ inl y ↦ h2.marks (inr y) | inr y ↦ h2.marks (inl (inr y)) ]
    ] in
    let i : e ≡ n - 1 = omega arith in
    (o.0, ap (λ j. get_or (built b m).placed j None) i ∙ o.1)
