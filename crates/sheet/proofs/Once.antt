-- From the rules at each node to the laws of the whole tree.
use Rattle.std.proofs.Common.{◌≡◌, ℕ, zero, suc, ◌+◌, ◌-◌, ◌<◌, ◌≤◌, true, ltb, List, [], ◌∷◌, length, get_or, take, sym, refl, ap, ◌∙◌, subst, ⊎_elim, arith}
use Rattle.std.proofs.lemmas.List.{take_all}
use Rattle.std.proofs.lemmas.Bool.{cases_eq, cases_lt, ltb-true, cond_both}
use Rattle.format.specs.Kinds.{admits, slot_at}
use Rattle.sheet.specs.declared.node.Node.{Node}
use Rattle.sheet.specs.Lawful.{AllAdmitted, AllLower, BodyLast, Once}
use Rattle.sheet.specs.Shape.{Shape, blank, node_at, kind_at, child_at, sort_at, times, total}
use Rattle.sheet.specs.Steps.{Falls}
use Rattle.sheet.specs.Tree.{LaidOut, GoodChild, GoodTree}
use Rattle.sheet.proofs.Times.{times_same, times_other}

-- child q is the child at place j of node i
record Entry (ns : List Node) (q : ℕ) : Type 0 where
  i : ℕ
  j : ℕ
  node : i < length ns
  place : j < (get_or ns i blank).count
  is : q ≡ total (take i ns) + j

-- every child is one of some node
entry_of : (ns : List Node) (q : ℕ) → q < total ns → Entry ns q
entry_of [] q h = absurd (omega arith)
entry_of (n ∷ ns) q h =
    ⊎_elim
    (λ (l : q < n.count). record { i = 0; j = q; node = omega arith; place = l; is = omega arith })
    (λ (g : n.count ≤ q).
    let e = entry_of ns (q - n.count) (omega arith) in
    record { i = suc e.i; j = e.j; node = omega (arith, e.node); place = e.place; is = omega (arith, e.is) })
    (cases_lt q n.count)

-- what was never there before stands at most once
times_most : (c : ℕ) (cs : List ℕ) → ((q : ℕ) → q < length cs → get_or cs q 0 ≡ c → times c (take q cs) ≡ 0) → (k : ℕ) → k ≤ length cs → times c (take k cs) ≤ 1
times_most c cs h zero l = omega arith
times_most c cs h (suc k) l =
    let s : suc k ≡ k + 1 = omega arith in
    rw s (⊎_elim
    (λ (e : get_or cs k 0 ≡ c). omega (arith, times_same c k cs (omega arith) e, h k (omega arith) e))
    (λ ne. omega (arith, times_other c k cs (omega arith) ne, times_most c cs h k (omega arith)))
    (cases_eq (get_or cs k 0) c))

module _ (t : Shape) (laid : LaidOut t) (good : GoodTree t) where
  -- the rules at the child that is entry q
  good_entry : (q : ℕ) → q < length t.children → (i : ℕ) × (j : ℕ) × (i < length t.nodes) × (q ≡ (node_at t i).first + j) × GoodChild t i j
  good_entry q h =
      let e = entry_of t.nodes q (omega (arith, good.adds_up)) in
      (e.i, e.j, e.node, omega (arith, e.is, laid e.i e.node), (good.nodes e.i e.node).children e.j e.place)

  pub children_low : (q : ℕ) → q < length t.children → get_or t.children q 0 ≤ length t.nodes
  children_low q h =
      let e = good_entry q h in
      omega (arith, e.2, e.4.lower, ap (λ x. get_or t.children x 0) e.3)

  new_at : (c q : ℕ) → 0 < c → q < length t.children → get_or t.children q 0 ≡ c → times c (take q t.children) ≡ 0
  new_at c q z h k =
      let e = good_entry q h in
      let d : c ≡ child_at t e.0 e.1 = sym k ∙ ap (λ x. get_or t.children x 0) e.3 in
      subst (λ x. times c (take x t.children) ≡ 0) (sym e.3)
      (subst (λ x. times x (take ((node_at t e.0).first + e.1) t.children) ≡ 0) (sym d) (e.4.new (omega (arith, d))))

  pub once : Once t
  once c z l =
      let w : (c - 1) + 1 ≡ c = omega arith in
      let a = subst (λ x. 0 < times x t.children) w ((good.nodes (c - 1) (omega arith)).claimed (omega arith)) in
      let b = times_most c t.children (λ q h k. new_at c q z h k) (length t.children) (omega arith) in
      omega (arith, ap (times c) (take_all (length t.children) t.children (omega arith)))

  pub all_lower : AllLower t
  all_lower i j h l = ((good.nodes i h).children j l).lower

  pub falls : Falls t
  falls i j c ch = omega (arith, all_lower i j ch.node ch.place, ch.is)

  pub all_admitted : AllAdmitted t
  all_admitted i j h =
      cond_both (ltb j (node_at t i).count) (admits (slot_at (kind_at t i) j) (sort_at t (child_at t i j))) true (λ b. b ≡ true)
      (λ l. ((good.nodes i h).children j (ltb-true _ _ l)).admitted) (λ _. refl)

  pub body_last : BodyLast t
  body_last i h = (good.nodes i h).body_last
