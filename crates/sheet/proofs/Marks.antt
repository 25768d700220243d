-- The marks of the numbers in condition place.
use Rattle.std.proofs.Common.{◌≡◌, ℕ, ◌+◌, ◌<◌, ◌≤◌, Bool, true, false, ◌≢◌, List, length, get_or, set, replicate, Decides, sym, refl, ap, ◌∙◌, subst, inl, inr, ⊎_elim, arith, get_or-set_other, get_or-set_same}
use Rattle.std.proofs.lemmas.Bool.{cases_eq, cases_lt, both_ways}
use Rattle.std.proofs.lemmas.List.{get_or-replicate, get_or_past}
use Rattle.format.specs.declared.kind.NodeKind.{NodeKind}
use Rattle.format.specs.declared.kind.NodeKind.TheVariants as K
use Rattle.sheet.specs.Shape.{Shape, node_at, kind_at, child_at}
use Rattle.sheet.specs.Steps.{Falls, Opens, Marked, MarkedFrom}
use Rattle.sheet.specs.Tree.{Child, InCondition, of_if, of_guard, of_and}

unmarked : (c : ℕ) → get_or (replicate 513 false) c false ≡ false
unmarked c = ⊎_elim (λ (x : c < 513). get_or-replicate 513 c false false x) (λ (y : 513 ≤ c). get_or_past (replicate 513 false) c false y) (cases_lt c 513)

module _ (t : Shape) where
  abbrev OpenAt : ℕ → ℕ → Type 0
  OpenAt i j = Opens (kind_at t i) j (InCondition t (i + 1))

  -- an open place makes a condition
  cond_from : (i j c : ℕ) → Child t i j c → OpenAt i j → InCondition t c
  cond_from i j c ch o =
      ⊎_elim (λ (x : (kind_at t i ≡ K.If) × (j ≡ 0)). of_if i (subst (λ l. Child t i l c) x.1 ch) x.0)
      (⊎_elim (λ (x : (kind_at t i ≡ K.Arm) × (j ≡ 1)). of_guard i (subst (λ l. Child t i l c) x.1 ch) x.0)
      (λ (x : (kind_at t i ≡ K.And) × InCondition t (i + 1)). of_and i j ch x.0 x.1))
      o

  pub marks_keep : (i j : ℕ) (m : List Bool) → Marked t i j m → (OpenAt i j → ⊥) → Marked t i (j + 1) m
  marks_keep i j m k h = record {
    sound = k.sound;
    full = λ q l c ch o w.
        ⊎_elim (λ (x : i < q). k.full q l c ch o (inl x))
        (λ (x : (q ≡ i) × (l < j + 1)).
        ⊎_elim (λ (e : l ≡ j). absurd (h (subst (λ z. OpenAt i z) e (subst (λ z. OpenAt z l) x.0 o))))
        (λ ne. k.full q l c ch o (inr (x.0, omega (arith, x.1)))) (cases_eq l j))
        w;
  }

  pub marks_set : (i j c : ℕ) (m : List Bool) → c < length m → Marked t i j m → Child t i j c → OpenAt i j → Marked t i (j + 1) (set m c true)
  marks_set i j c m lt k ch o = record {
    sound = λ d e. ⊎_elim (λ (x : d ≡ c). subst (InCondition t) (sym x) (cond_from i j c ch o)) (λ (ne : d ≢ c). k.sound d (rw get_or-set_other at e)) (cases_eq d c);
    full = λ q l d cd od w.
        ⊎_elim (λ (x : d ≡ c). subst (λ z. get_or (set m c true) z false ≡ true) (sym x) (rw get_or-set_same))
        (λ (ne : d ≢ c). rw get_or-set_other (
        ⊎_elim (λ (x : i < q). k.full q l d cd od (inl x))
        (λ (x : (q ≡ i) × (l < j + 1)).
        ⊎_elim (λ (e : l ≡ j). absurd (ne (sym (subst (λ z. child_at t z l ≡ d) x.0 cd.is) ∙ (ap (child_at t i) e ∙ ch.is))))
        (λ n'. k.full q l d cd od (inr (x.0, omega (arith, x.1)))) (cases_eq l j))
        w))
        (cases_eq d c);
  }

  -- where each parent past i is done, node i's own mark is right
  mark_own : (i c : ℕ) (m : List Bool) → c ≡ i + 1 → Falls t → Marked t i 0 m → InCondition t c → get_or m c false ≡ true
  mark_own i c m e f k (of_if q ch o) = k.full q 0 c ch (inl (o, refl)) (inl (omega (arith, f q 0 c ch)))
  mark_own i c m e f k (of_guard q ch o) = k.full q 1 c ch (inr (inl (o, refl))) (inl (omega (arith, f q 1 c ch)))
  mark_own i c m e f k (of_and q j ch o a) = k.full q j c ch (inr (inr (o, a))) (inl (omega (arith, f q j c ch)))

  -- what the code tests is that the place is open
  pub open_is : (i j : ℕ) (kind : NodeKind) (m : List Bool) → kind ≡ kind_at t i → Falls t → Marked t i 0 m →
      (Opens kind j (get_or m (i + 1) false ≡ true) → OpenAt i j) × (OpenAt i j → Opens kind j (get_or m (i + 1) false ≡ true))
  open_is i j kind m e f k = (
    λ o. subst (λ z. Opens z j (InCondition t (i + 1))) e
        (⊎_elim (λ (x : (kind ≡ K.If) × (j ≡ 0)). inl x) (λ y. inr (⊎_elim (λ (x : (kind ≡ K.Arm) × (j ≡ 1)). inl x) (λ (x : (kind ≡ K.And) × (get_or m (i + 1) false ≡ true)). inr (x.0, k.sound (i + 1) x.1)) y)) o),
    λ o. subst (λ z. Opens z j (get_or m (i + 1) false ≡ true)) (sym e)
        (⊎_elim (λ (x : (kind_at t i ≡ K.If) × (j ≡ 0)). inl x) (λ y. inr (⊎_elim (λ (x : (kind_at t i ≡ K.Arm) × (j ≡ 1)). inl x) (λ (x : (kind_at t i ≡ K.And) × InCondition t (i + 1)). inr (x.0, mark_own i (i + 1) m refl f k x.1)) y)) o),
  )

  pub marked_none : MarkedFrom t (length t.nodes) (replicate 513 false)
  marked_none = record {
    sound = λ c e. absurd (both_ways _ (unmarked c) e);
    full = λ q l c ch o h. absurd (omega (arith, ch.node));
  }

  pub to_marked : (i q : ℕ) (m : List Bool) → i ≡ q + 1 → MarkedFrom t i m → Marked t q 0 m
  to_marked i q m e k = record {
    sound = k.sound;
    full = λ r l c ch o w. k.full r l c ch o (⊎_elim (λ (x : q < r). omega arith) (λ (x : (r ≡ q) × (l < 0)). absurd (omega (arith, x.1))) w);
  }

  pub from_marked : (i : ℕ) (m : List Bool) → Marked t i (node_at t i).count m → MarkedFrom t i m
  from_marked i m k = record {
    sound = k.sound;
    full = λ r l c ch o h. k.full r l c ch o (⊎_elim (λ (x : r ≡ i). inr (x, subst (λ z. l < (node_at t z).count) x ch.place)) (λ ne. inl (omega arith)) (cases_eq r i));
  }

  pub marked_all : (m : List Bool) → MarkedFrom t 0 m → (c : ℕ) → Decides (get_or m c false) (InCondition t c)
  marked_all m k c = (k.sound c, all)
    where
      all : InCondition t c → get_or m c false ≡ true
      all (of_if q ch o) = k.full q 0 c ch (inl (o, refl)) (omega arith)
      all (of_guard q ch o) = k.full q 1 c ch (inr (inl (o, refl))) (omega arith)
      all (of_and q j ch o a) = k.full q j c ch (inr (inr (o, a))) (omega arith)
