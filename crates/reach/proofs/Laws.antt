-- The laws of a body, as the visit needs them.
use Rattle.std.proofs.Common.{◌≡◌, ℕ, zero, suc, ◌+◌, ◌-◌, ◌*◌, ◌%◌, ◌<◌, ◌≤◌, Bool, true, false, cond, eqb, List, [], ◌∷◌, ◌++◌, map, length, get_or, take, drop, Some, None, Option, sym, refl, ap, ◌∙◌, subst, inl, inr, arith}
use mathlib.Core.List.{map-append}
use Rattle.std.proofs.lemmas.List.{get_or_past, get_or-take, get_or-drop, length-map, length-take, take_all}
use Rattle.std.proofs.lemmas.Bool.{cases_lt, cases_eq, cases_Bool, both_ways, eq-eqb, eqb-true, ne_eqb, lt-ltb, cond-true, cond-false}
use Rattle.format.specs.declared.ids.NodeId.{NodeId}
use Rattle.format.specs.declared.kind.NodeKind.{NodeKind}
use Rattle.format.specs.declared.kind.NodeKind.TheVariants.{Leaf, Use, Sequence, And, If, Let, Block, Loop, Closure, Match, Const, Repeat, Cast, LeafPattern, Bind, Patterns, ValuePattern, LeafType, Types, ArrayType, LetStatement, ExprStatement, MacroDef, OtherItem, Arm, Body}
use Rattle.format.specs.declared.kind.Sort.{Sort}
use Rattle.format.specs.declared.kind.Sort.TheVariants as S
use Rattle.format.specs.Ids.{number_of}
use Rattle.format.specs.Kinds.{admits, count_suits, pick, same_sort, slot, slot_at, sort_number, sort_of}
use Rattle.sheet.specs.declared.body.Body.{Body as Sheet-body}
use Rattle.sheet.specs.declared.node.Node.{Node}
use Rattle.sheet.specs.Held.{tree_of}
use Rattle.sheet.specs.Shape.{blank, times, total, child_at as sheet_child}
use Rattle.table.specs.Tables.{listed}
use Rattle.sheet.proofs.Counts.{laid_within, total_more, total_whole}
use Rattle.table.proofs.Listed.{listed_few}
use Rattle.reach.specs.Held.{shape_of}
use Rattle.reach.specs.Law.{TreeLaw}
use Rattle.reach.specs.Once.{Once, children_to, numbers}
use Rattle.reach.specs.Shape.{Below, children_of}
use Rattle.reach.specs.Tables.{Fits, Full, binding, is_body, kid, kids, kind_of, most, pattern_at, suits, turn, unless}
use Rattle.reach.specs.Words.{twice}
use Rattle.reach.proofs.EachKind.{turn_twice}
use Rattle.reach.proofs.Fold.{get_or_map_any}
use Rattle.reach.proofs.Marks.{halves}
use Rattle.reach.proofs.Reach.{times_append, times_numbers}

take-plus : {X : Type 0} (f c : ℕ) (xs : List X) → take (f + c) xs ≡ take f xs ++ take c (drop f xs)
take-plus zero c xs = let z : 0 + c ≡ c = omega arith in rw z
take-plus (suc f) c [] = let z : suc f + c ≡ suc (f + c) = omega arith in rw z (nothing c)
  where
    nothing : {X : Type 0} (c : ℕ) → ◌≡◌ {A = List X} [] (take c [])
    nothing zero = refl
    nothing (suc c) = refl
take-plus (suc f) c (x ∷ xs) = let z : suc f + c ≡ suc (f + c) = omega arith in rw z (ap (λ k. x ∷ k) (take-plus f c xs))

doubled : (j : ℕ) → twice j ≡ 2 * j
doubled zero = refl
doubled (suc j) = omega (arith, doubled j)

-- only a pattern's place has a pattern
pattern_sort : (k : NodeKind) → binding k ≡ true → sort_number (sort_of k) ≡ 1
pattern_sort Leaf e = absurd (both_ways false refl e)
pattern_sort (Use x h) e = absurd (both_ways false refl e)
pattern_sort Sequence e = absurd (both_ways false refl e)
pattern_sort And e = absurd (both_ways false refl e)
pattern_sort If e = absurd (both_ways false refl e)
pattern_sort Let e = absurd (both_ways false refl e)
pattern_sort (Block a l) e = absurd (both_ways false refl e)
pattern_sort (Loop l) e = absurd (both_ways false refl e)
pattern_sort Closure e = absurd (both_ways false refl e)
pattern_sort Match e = absurd (both_ways false refl e)
pattern_sort Const e = absurd (both_ways false refl e)
pattern_sort Repeat e = absurd (both_ways false refl e)
pattern_sort Cast e = absurd (both_ways false refl e)
pattern_sort LeafPattern e = absurd (both_ways false refl e)
pattern_sort (Bind v) e = refl
pattern_sort Patterns e = refl
pattern_sort ValuePattern e = absurd (both_ways false refl e)
pattern_sort LeafType e = absurd (both_ways false refl e)
pattern_sort Types e = absurd (both_ways false refl e)
pattern_sort ArrayType e = absurd (both_ways false refl e)
pattern_sort LetStatement e = absurd (both_ways false refl e)
pattern_sort ExprStatement e = absurd (both_ways false refl e)
pattern_sort (MacroDef q) e = absurd (both_ways false refl e)
pattern_sort OtherItem e = absurd (both_ways false refl e)
pattern_sort Arm e = absurd (both_ways false refl e)
pattern_sort (Body x) e = absurd (both_ways false refl e)

later : (i : ℕ) → eqb (suc i) 0 ≡ false
later i = ne_eqb (suc i) 0 (λ e. omega arith)

pick_later : (s t : Sort) (i : ℕ) → sort_number (pick (suc i) s t).sort ≡ sort_number t
pick_later s t i = ap (λ b. sort_number (cond b s t)) (later i)

pattern_place : (k : NodeKind) (i : ℕ) → sort_number (slot_at k i).sort ≡ 1 → pattern_at k i ≡ true
pattern_place Leaf i e = absurd (omega arith)
pattern_place (Use x h) i e = absurd (omega arith)
pattern_place Sequence i e = absurd (omega arith)
pattern_place And i e = absurd (omega arith)
pattern_place If i e = absurd (omega arith)
pattern_place Let zero e = refl
pattern_place Let (suc i) e = absurd (omega (arith, e, pick_later S.Pattern S.Expression i))
pattern_place (Block a l) zero e = absurd (omega arith)
pattern_place (Block a l) (suc i) e = absurd (omega (arith, e, ap (λ b. sort_number (cond b (slot S.Expression true) (slot S.Statement false)).sort) (later i)))
pattern_place (Loop l) i e = absurd (omega arith)
pattern_place Closure zero e = absurd (omega arith)
pattern_place Closure (suc zero) e = absurd (omega arith)
pattern_place Closure (suc (suc i)) e = elim (halves i) [
  | inl p ↦ ap (λ j. turn j true false) p.1 ∙ turn_twice p.0 true false
  | inr p ↦
      let d = doubled p.0 in
      let o : (suc (suc i)) % 2 ≡ 1 = omega (arith, p.1, d) in
      let y = cond (eqb ((suc (suc i)) % 2) 1) (slot S.Type true) (slot S.Pattern false) in
      let z : sort_number (slot_at Closure (suc (suc i))).sort ≡ 2 = ap (λ b. sort_number (cond b (slot S.Expression false) y).sort) (later (suc i)) ∙ ap (λ b. sort_number (cond b (slot S.Type true) (slot S.Pattern false)).sort) (eq-eqb ((suc (suc i)) % 2) 1 o) in
      absurd (omega (arith, z, e))
]
pattern_place Match zero e = absurd (omega arith)
pattern_place Match (suc i) e = absurd (omega (arith, e, pick_later S.Expression S.Arm i))
pattern_place Const i e = absurd (omega arith)
pattern_place Repeat i e = absurd (omega arith)
pattern_place Cast zero e = absurd (omega arith)
pattern_place Cast (suc i) e = absurd (omega (arith, e, pick_later S.Expression S.Type i))
pattern_place LeafPattern i e = absurd (omega arith)
pattern_place (Bind v) i e = refl
pattern_place Patterns i e = refl
pattern_place ValuePattern i e = absurd (omega arith)
pattern_place LeafType i e = absurd (omega arith)
pattern_place Types i e = absurd (omega arith)
pattern_place ArrayType zero e = absurd (omega arith)
pattern_place ArrayType (suc i) e = absurd (omega (arith, e, pick_later S.Type S.Expression i))
pattern_place LetStatement zero e = refl
pattern_place LetStatement (suc zero) e = absurd (omega arith)
pattern_place LetStatement (suc (suc i)) e = absurd (omega (arith, e, ap (λ b. sort_number (cond b (slot S.Pattern false) (slot (cond (eqb (suc (suc i)) 1) S.Type S.Expression) true)).sort) (later (suc i)), ap (λ b. sort_number (cond b S.Type S.Expression)) (ne_eqb (suc (suc i)) 1 (λ q. omega arith))))
pattern_place ExprStatement i e = absurd (omega arith)
pattern_place (MacroDef q) i e = absurd (omega arith)
pattern_place OtherItem i e = absurd (omega arith)
pattern_place Arm zero e = refl
pattern_place Arm (suc i) e = absurd (omega (arith, e, ap (λ b. sort_number (cond b (slot S.Pattern false) (slot S.Expression (eqb (suc i) 1))).sort) (later i)))
pattern_place (Body x) zero e = absurd (omega arith)
pattern_place (Body x) (suc i) e = refl

suited : (k c : NodeKind) (i : ℕ) → same_sort (sort_of c) (slot_at k i).sort ≡ true → unless (pattern_at k i) (binding c) ≡ true
suited k c i e = elim (cases_Bool (binding c)) [
  | inl b ↦
      let s : sort_number (slot_at k i).sort ≡ 1 = sym (eqb-true (sort_number (sort_of c)) (sort_number (slot_at k i).sort) e) ∙ pattern_sort c b in
      ap (λ x. unless x (binding c)) (pattern_place k i s)
  | inr b ↦ ap (unless (pattern_at k i)) b ∙ pick (pattern_at k i)
]
  where
    pick : (x : Bool) → unless x false ≡ true
    pick true = refl
    pick false = refl

-- no kind but the body's has more children than it may
count_most : (k : NodeKind) (c : ℕ) → count_suits k c ≡ true → is_body k ≡ false → c ≤ 1024 → c ≤ most k
count_most Leaf c e n w = omega (arith, eqb-true c 0 e)
count_most (Use x h) c e n w = omega (arith, eqb-true c 0 e)
count_most Sequence c e n w = w
count_most And c e n w = omega (arith, eqb-true c 2 e)
count_most If c e n w = omega (arith, eqb-true c 3 e)
count_most Let c e n w = omega (arith, eqb-true c 2 e)
count_most (Block a l) c e n w = w
count_most (Loop l) c e n w = omega (arith, eqb-true c 1 e)
count_most Closure c e n w = w
count_most Match c e n w = w
count_most Const c e n w = omega (arith, eqb-true c 1 e)
count_most Repeat c e n w = omega (arith, eqb-true c 2 e)
count_most Cast c e n w = omega (arith, eqb-true c 2 e)
count_most LeafPattern c e n w = omega (arith, eqb-true c 0 e)
count_most (Bind v) c e n w = w
count_most Patterns c e n w = w
count_most ValuePattern c e n w = w
count_most LeafType c e n w = omega (arith, eqb-true c 0 e)
count_most Types c e n w = w
count_most ArrayType c e n w = w
count_most LetStatement c e n w = w
count_most ExprStatement c e n w = omega (arith, eqb-true c 1 e)
count_most (MacroDef q) c e n w = omega (arith, eqb-true c 0 e)
count_most OtherItem c e n w = omega (arith, eqb-true c 0 e)
count_most Arm c e n w = omega (arith, eqb-true c 3 e)
count_most (Body x) c e n w = absurd (both_ways true n refl)

module _ (b : Sheet-body) where
  abbrev ns : List Node
  ns = listed b.nodes

  abbrev cs : List (Option NodeId)
  cs = listed b.children

  abbrev last : ℕ
  last = length (listed b.nodes)

  child_number : (i j : ℕ) → sheet_child (tree_of b) i j ≡ number_of (get_or cs ((get_or ns i blank).first + j) None)
  child_number i j = get_or_map_any number_of cs ((get_or ns i blank).first + j) None

  pub falls_law : Below ns cs
  falls_law k i h l = elim (cases_lt k last) [
    | inl q ↦ omega (arith, child_number k i, b.lower k i q l)
    | inr q ↦ absurd (omega (arith, l, ap (λ n. n.count) (get_or_past ns k blank q)))
  ]

  -- the children of the nodes up to k are the first of all children
  children_to_lem : (j : ℕ) → 0 < j → (k : ℕ) → k ≤ last → times j (children_to (shape_of b) k) ≡ times j (map number_of (take (total (take k ns)) cs))
  children_to_lem j z zero l = refl
  children_to_lem j z (suc k) l =
      let s : suc k - 1 ≡ k = omega arith in
      let n = get_or ns k blank in
      let f = total (take k ns) in
      let o : n.first ≡ f = b.laid_out k (omega arith) in
      let e : total (take (k + 1) ns) ≡ f + n.count = total_more ns k (omega arith) in
      let g : suc k ≡ k + 1 = omega arith in
      let split : map number_of (take (f + n.count) cs) ≡ map number_of (take f cs) ++ map number_of (take n.count (drop f cs)) = ap (map number_of) (take-plus f n.count cs) ∙ map-append number_of (take f cs) (take n.count (drop f cs)) in
      let here : times j (numbers (children_of (shape_of b) (suc k))) ≡ times j (map number_of (take n.count (drop f cs))) =
      times_numbers j z (children_of (shape_of b) (suc k)) ∙ (ap (λ i. times j (map number_of (take (get_or ns i blank).count (drop (get_or ns i blank).first cs)))) s ∙ ap (λ i. times j (map number_of (take n.count (drop i cs)))) o) in
      let left = times_append j (children_to (shape_of b) k) (numbers (children_of (shape_of b) (suc k))) in
      let right = ap (times j) split ∙ times_append j (map number_of (take f cs)) (map number_of (take n.count (drop f cs))) in
      let at = ap (λ i. times j (map number_of (take (total (take i ns)) cs))) g ∙ ap (λ i. times j (map number_of (take i cs))) e in
      omega (arith, left, right, at, here, children_to_lem j z k (omega arith))

  once_law : Once (shape_of b) last
  once_law j z l =
      let w : length cs ≤ total (take last ns) = omega (arith, total_whole ns last refl, b.adds_up, length-map cs number_of) in
      children_to_lem j z last (omega arith) ∙ (ap (λ xs. times j (map number_of xs)) (take_all (total (take last ns)) cs w) ∙ b.once j z l)

  kid_at : (n i : ℕ) → i < (get_or ns n blank).count → kid (shape_of b) (suc n) i ≡ sheet_child (tree_of b) n i
  unfolding kids
  kid_at n i l =
      let s : suc n - 1 ≡ n = omega arith in
      let xs = take (get_or ns n blank).count (drop (get_or ns n blank).first cs) in
      ap (λ k. get_or (map number_of (take (get_or ns k blank).count (drop (get_or ns k blank).first cs))) i 0) s ∙ (get_or_map_any number_of xs i None ∙ (ap number_of (get_or-take (get_or ns n blank).count (drop (get_or ns n blank).first cs) i None l ∙ get_or-drop (get_or ns n blank).first cs i None) ∙ sym (child_number n i)))

  kid_past : (n i : ℕ) → (get_or ns n blank).count ≤ i → kid (shape_of b) (suc n) i ≡ 0
  unfolding kids
  kid_past n i l =
      let s : suc n - 1 ≡ n = omega arith in
      let xs = take (get_or ns n blank).count (drop (get_or ns n blank).first cs) in
      ap (λ k. get_or (map number_of (take (get_or ns k blank).count (drop (get_or ns k blank).first cs))) i 0) s ∙ get_or_past (map number_of xs) i 0 (omega (arith, length-map xs number_of, length-take (get_or ns n blank).count (drop (get_or ns n blank).first cs)))

  kind_at : (n : ℕ) → kind_of (shape_of b) (suc n) ≡ (get_or ns n blank).kind
  kind_at n = let s : suc n - 1 ≡ n = omega arith in ap (λ k. (get_or ns k blank).kind) s

  suits_none : (k : NodeKind) (i c : ℕ) → c ≡ 0 → suits (shape_of b) k i c ≡ true
  suits_none k i c e = ap (suits (shape_of b) k i) e

  suits_some : (k : NodeKind) (i c : ℕ) → 0 < c → same_sort (sort_of (get_or ns (c - 1) blank).kind) (slot_at k i).sort ≡ true → suits (shape_of b) k i c ≡ true
  suits_some k i zero z e = absurd (omega arith)
  suits_some k i (suc c) z e = suited k (kind_of (shape_of b) (suc c)) i e

  fits_law : Fits (shape_of b) last
  fits_law n i l =
      let k = kind_of (shape_of b) (suc n) in
      elim (cases_lt i (get_or ns n blank).count) [
        | inl h ↦
            let c = sheet_child (tree_of b) n i in
            let a = sym (cond-true _ _ true (lt-ltb i (get_or ns n blank).count h)) ∙ b.admitted n i l in
            subst (λ x. suits (shape_of b) k i x ≡ true) (sym (kid_at n i h))
            (elim (cases_eq c 0) [
              | inl z ↦ suits_none k i c z
              | inr z ↦
                  let q = sym (ap (λ x. admits (slot_at (get_or ns n blank).kind i) x) (cond-false (eqb c 0) None (Some (sort_of (get_or ns (c - 1) blank).kind)) (ne_eqb c 0 z))) ∙ a in
                  suits_some k i c (omega (arith, z)) (ap (λ x. same_sort (sort_of (get_or ns (c - 1) blank).kind) (slot_at x i).sort) (kind_at n) ∙ q)
            ])
        | inr h ↦ suits_none k i (kid (shape_of b) (suc n) i) (kid_past n i h)
      ]

  full_law : Full (shape_of b) last
  unfolding kids
  full_law n l =
      let s : suc n - 1 ≡ n = omega arith in
      let x = get_or ns n blank in
      let len = length-map (take x.count (drop x.first cs)) number_of in
      let few = listed_few b.children in
      let w = laid_within (tree_of b) n b.laid_out (omega arith) in
      let nb : is_body x.kind ≡ false = b.body_last n (omega arith) ∙ ne_eqb (n + 1) last (λ e. omega arith) in
      let c = count_most x.kind x.count (b.counted n (omega arith)) nb (omega (arith, b.adds_up, length-map cs number_of)) in
      subst (λ k. length (map number_of (take (get_or ns k blank).count (drop (get_or ns k blank).first cs))) ≤ most (get_or ns k blank).kind) (sym s) (omega (arith, length-take x.count (drop x.first cs)))

  -- a body keeps the laws of a tree
  pub tree_law : TreeLaw (shape_of b) last
  tree_law = record {
    size = (omega (arith, b.some), listed_few b.nodes);
    below = falls_law;
    once = once_law;
    fits = fits_law;
    full = full_law;
    body = b.body_last (last - 1) (omega (arith, b.some)) ∙ eq-eqb (last - 1 + 1) last (omega (arith, b.some));
  }
