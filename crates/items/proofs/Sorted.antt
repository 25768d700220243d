-- Records whose keys rise: each key is before every later one, so a binary search finds the one under a key.
use Rattle.std.specs.Prelude.{◌≡◌, ℕ, zero, suc, ◌+◌, ◌-◌, ◌<◌, ◌≤◌, true, false, List, [], ◌∷◌, drop, map, length, get_or, Some, None, slice_index_or, refl}
use Rattle.std.proofs.Common.{Ordering, Less, Equal, Greater, Result, Ok, Err, sym, ap, ◌∙◌, inl, inr, arith}
use Rattle.std.specs.List.Sorted.{IsBinarySearchResult, IsNonDecreasingBy, IsPartitionPoint, IsSearchInRange}
use Rattle.std.specs.Ordering.{nat_cmp, ordering_index, ordering_then}
use Rattle.std.specs.Result.{result_ok}
use Rattle.std.proofs.lemmas.Option.{none-some, same_Some}
use Rattle.std.specs.List.{AllWithin, HoldsAt, zip}
use Rattle.std.proofs.lemmas.Slice.Zip.{get_or-zip, length-zip}
use Rattle.std.proofs.lemmas.List.{get_or-drop, get_or-map, length-drop, length-map}
use Rattle.framing.specs.declared.fault.Fault.{Fault}
use Rattle.framing.specs.declared.fault.Part.{Part}
use Rattle.framing.specs.declared.fault.Refusal.TheVariants as Refusal
use Rattle.framing.specs.Broken.{FaultAt}
use Rattle.items.specs.Steps.{FirstUnsorted}
use Rattle.std.proofs.lemmas.Bool.{cases_eq, cases_lt}
use Rattle.std.proofs.lemmas.Bool.Decides.{nat_tests}
use Rattle.host.specs.First.{when}
use Rattle.host.proofs.First.{first_at}
use Rattle.items.specs.Root.{none_answers}
use Rattle.item_rows.specs.declared.key.Key.{Key}
use Rattle.item_rows.specs.Keys.{Follows, Rising, before, key_at, same}
use Rattle.items.specs.Under.{under}

before_trans : (a b c : Key) → before a b ≡ true → before b c ≡ true → before a c ≡ true
before_trans a b c p q = grind (arith, nat_tests)

-- one comes before the other, or they are the same
before_total : (a b : Key) → before a b ≡ false → before b a ≡ false → same a b ≡ true
before_total a b p q = grind (arith, nat_tests)

-- the derived order, by the fields as they stand
abbrev key_cmp : Key → Key → Ordering
key_cmp a b = ordering_then (nat_cmp a.major b.major) (nat_cmp a.minor b.minor)

less_before : (a b : Key) → key_cmp a b ≡ Less → before a b ≡ true
less_before a b p = grind (arith, nat_tests)

equal_not_before : (a b : Key) → key_cmp a b ≡ Equal → false ≡ before a b
equal_not_before a b p = grind (arith, nat_tests)

equal_not_after : (a b : Key) → key_cmp a b ≡ Equal → false ≡ before b a
equal_not_after a b p = grind (arith, nat_tests)

greater_after : (a b : Key) → key_cmp a b ≡ Greater → before b a ≡ true
greater_after a b p = grind (arith, nat_tests)

-- the comparisons with a key rise from a key to a later one
cmp_rises : (a b k : Key) → before a b ≡ true → ordering_index (key_cmp a k) ≤ ordering_index (key_cmp b k)
cmp_rises a b k p = grind (arith, nat_tests)

before_apart : (a b : Key) → before a b ≡ true → same a b ≡ false
before_apart a b p = grind (arith, nat_tests)

after_apart : (a b : Key) → before b a ≡ true → same a b ≡ false
after_apart a b p = grind (arith, nat_tests)

before_same : (a b c : Key) → same b c ≡ true → before a b ≡ true → before a c ≡ true
before_same a b c q p = grind (arith, nat_tests)

-- each key is before every later one
rises : (ks : List Key) → Rising ks → (i j : ℕ) → i < j → j < length ks → before (key_at ks i) (key_at ks j) ≡ true
rises ks r i zero l m = absurd (omega arith)
rises ks r i (suc j) l m =
    let e : suc j - 1 ≡ j = omega arith in
    let one : before (key_at ks j) (key_at ks (suc j)) ≡ true = ap (λ n. before (key_at ks n) (key_at ks (suc j))) (sym e) ∙ r (suc j) m (omega arith) in
    elim (cases_eq i j) [
      | inl q ↦ ap (λ n. before (key_at ks n) (key_at ks (suc j))) q ∙ one
      | inr ne ↦ before_trans (key_at ks i) (key_at ks j) (key_at ks (suc j)) (rises ks r i j (omega arith) (omega arith)) one
    ]

-- two records side by side, with their keys as they are read
pub side_by_side : {R : Type 0} (key : R → Key) (rows : List R) (i : ℕ) (x y : R) (h k : Key) → i < length rows → x ≡ slice_index_or rows (i - 1) x → y ≡ slice_index_or rows i y → h ≡ key x → k ≡ key y →
    before (key_at (map key rows) (i - 1)) (key_at (map key rows) i) ≡ before h k
side_by_side key rows i x y h k l ex ey eh ek =
    ap (λ z. before z (key_at (map key rows) i)) (get_or-map key rows (i - 1) x _ (omega arith) ∙ ap key (sym ex) ∙ sym eh) ∙ ap (before h) (get_or-map key rows i y _ l ∙ ap key (sym ey) ∙ sym ek)

module _ {R : Type 0} (key : R → Key) (rows : List R) (k : Key) (rising : Rising (map key rows)) where
  abbrev at : ℕ → Key
  at = key_at (map key rows)

  later : (i j : ℕ) → i < j → j < length rows → before (at i) (at j) ≡ true
  later i j l m = rises (map key rows) rising i j l (omega (arith, length-map rows key))

  key_of : (d : R) (i : ℕ) → i < length rows → at i ≡ key (slice_index_or rows i d)
  key_of d i l = get_or-map key rows i d _ l

  no_row : (d : R) (i : ℕ) → i < length rows → same (at i) k ≡ false → when (same (key (slice_index_or rows i d)) k) (slice_index_or rows i d) ≡ None
  no_row d i l e = ap (λ b. when b (slice_index_or rows i d)) (ap (λ x. same x k) (sym (key_of d i l)) ∙ e)

  -- a record at place m, with its key as it is read
  module _ (m : ℕ) (x : R) (h : Key) (l : m < length rows) (e : x ≡ slice_index_or rows m x) (read : h ≡ key x) where
    here : at m ≡ h
    here = key_of x m l ∙ ap key (sym e) ∙ sym read

    pub seek_up : true ≡ before h k → (i : ℕ) → i < m + 1 → before (at i) k ≡ true
    seek_up u i b =
        let um : before (at m) k ≡ true = ap (λ y. before y k) here ∙ sym u in
        elim (cases_eq i m) [ inl q ↦ ap (λ n. before (at n) k) q ∙ um | inr ne ↦ before_trans (at i) (at m) k (later i m (omega arith) l) um ]

    pub seek_down : true ≡ before k h → (i : ℕ) → m ≤ i → i < length rows → before k (at i) ≡ true
    seek_down o i b j =
        let om : before k (at m) ≡ true = ap (before k) here ∙ sym o in
        elim (cases_eq m i) [ inl q ↦ ap (λ n. before k (at n)) (sym q) ∙ om | inr ne ↦ before_trans k (at m) (at i) om (later m i (omega arith) j) ]

    pub seek_hit : false ≡ before h k → false ≡ before k h → Some x ≡ under key k rows
    seek_hit u o =
        let t : same h k ≡ true = before_total h k (sym u) (sym o) in
        sym (first_at (λ y. when (same (key y) k) y) x x rows m l
        (λ i b. no_row x i (omega arith) (before_apart (at i) k (before_same (at i) (at m) k (ap (λ y. same y k) here ∙ t) (later i m b l))))
        (ap (λ y. when (same (key y) k) y) (sym e) ∙ ap (λ b. when b x) (ap (λ y. same y k) (sym read) ∙ t)))

  pub seek_none : (low high : ℕ) → high ≤ low → ((i : ℕ) → i < low → before (at i) k ≡ true) → ((i : ℕ) → high ≤ i → i < length rows → before k (at i) ≡ true) → None ≡ under key k rows
  seek_none low high hl u o =
      sym (none_answers (λ y. when (same (key y) k) y) rows
      (λ i d l. no_row d i l (elim (cases_lt i low) [ inl a ↦ before_apart (at i) k (u i a) | inr b ↦ after_apart (at i) k (o i (omega arith) l) ])))

  abbrev compare : R → Ordering
  compare y = key_cmp (key y) k

  rise : IsNonDecreasingBy (λ y. ordering_index (compare y)) rows
  rise i j d le l =
      elim (cases_eq i j) [
        | inl q ↦ let same_place : ordering_index (compare (get_or rows i d)) ≡ ordering_index (compare (get_or rows j d)) = ap (λ n. ordering_index (compare (get_or rows n d))) q in omega (arith, same_place)
        | inr ne ↦ cmp_rises (key (get_or rows i d)) (key (get_or rows j d)) k
            (ap (λ x. before x (key (get_or rows j d))) (sym (key_of d i (omega arith))) ∙ ap (before (at i)) (sym (key_of d j l)) ∙ later i j (omega arith) l)
      ]

  hit : (m : ℕ) (x : R) → m < length rows → x ≡ slice_index_or rows m x → compare (slice_index_or rows m x) ≡ Equal → Some x ≡ under key k rows
  hit m x l e q =
      let z : compare x ≡ Equal = ap compare e ∙ q in
      seek_hit m x (key x) l e refl (equal_not_before (key x) k z) (equal_not_after (key x) k z)

  miss : (n : ℕ) → IsPartitionPoint (λ y. compare y ≡ Less) (λ y. compare y ≡ Greater) rows n → None ≡ under key k rows
  miss n p =
      sym (none_answers (λ y. when (same (key y) k) y) rows
      (λ i d l. no_row d i l (elim (cases_lt i n) [
        | inl a ↦ before_apart (at i) k (ap (λ x. before x k) (key_of d i l) ∙ less_before (key (get_or rows i d)) k (p.0 i d (omega arith) a))
        | inr b ↦ after_apart (at i) k (ap (before k) (key_of d i l) ∙ greater_after (key (get_or rows i d)) k (p.1 i d b l))
      ])))

  -- what a binary search by the keys answers
  pub found_under : (r : Result ℕ ℕ) (m : ℕ) (x : R) → Some m ≡ result_ok r → IsSearchInRange r (length rows) → IsBinarySearchResult compare rows r → x ≡ slice_index_or rows m x → Some x ≡ under key k rows
  found_under (Ok n) m x e l h i = hit n x l (i ∙ ap (λ z. slice_index_or rows z x) (same_Some m n e)) (h x)
  found_under (Err n) m x e l h i = absurd (none-some m (sym e))

  pub none_under : (r : Result ℕ ℕ) → None ≡ result_ok r → IsBinarySearchResult compare rows r → None ≡ under key k rows
  none_under (Ok n) e h = absurd (none-some n e)
  none_under (Err n) e h = miss n (h rise)

-- records side by side, as pairs
module _ {R : Type 0} (key : R → Key) where
  abbrev pub InTurn : R × R → Type 0
  InTurn p = before (key p.0) (key p.1) ≡ true

  abbrev pub OutOfTurn : R × R → Type 0
  OutOfTurn p = before (key p.0) (key p.1) ≡ false

  -- pair i is of the records i and i + 1
  pair_order : (rows : List R) (d : R) (i : ℕ) → i + 1 < length rows →
      (let p = get_or (zip rows (drop 1 rows)) i (d, d) in before (key p.0) (key p.1)) ≡ before (key_at (map key rows) i) (key_at (map key rows) (i + 1))
  pair_order rows d i l =
      ap (λ (p : R × R). before (key p.0) (key p.1)) (get_or-zip rows (drop 1 rows) i (d, d) (omega arith) (omega (arith, length-drop 1 rows))) ∙
      ap (λ y. before (key (get_or rows i d)) (key y)) (get_or-drop 1 rows i d ∙ ap (λ n. get_or rows n d) (omega arith)) ∙
      sym (ap (λ x. before x (key_at (map key rows) (i + 1))) (get_or-map key rows i d _ (omega arith)) ∙ ap (before (key (get_or rows i d))) (get_or-map key rows (i + 1) d _ l))

  -- where the pairs before n are in turn, the keys up to n follow
  follows : (rows : List R) (n : ℕ) → AllWithin InTurn (zip rows (drop 1 rows)) 0 n → (j : ℕ) → j < n + 1 → j < length rows → Follows (map key rows) j
  follows [] n h j m l = absurd (omega arith)
  follows (x ∷ xs) n h j m l = λ z.
      let e : j - 1 + 1 ≡ j = omega arith in
      ap (λ i. before (key_at (map key (x ∷ xs)) (j - 1)) (key_at (map key (x ∷ xs)) i)) (sym e) ∙ sym (pair_order (x ∷ xs) x (j - 1) (omega arith)) ∙ h (j - 1) (x, x) (omega arith) (omega arith)

  pub all_in_turn : (rows : List R) → AllWithin InTurn (zip rows (drop 1 rows)) 0 (length (zip rows (drop 1 rows))) → Rising (map key rows)
  all_in_turn rows h i l = follows rows _ h i (omega (arith, length-zip rows (drop 1 rows), length-drop 1 rows, length-map rows key)) (omega (arith, length-map rows key))

  pub first_out_of_turn : (rows : List R) (p : Part) (f : Fault) (i : ℕ) → FaultAt Refusal.KeyOrder p (i + 1) f → i < length (zip rows (drop 1 rows)) → HoldsAt OutOfTurn (zip rows (drop 1 rows)) i → AllWithin InTurn (zip rows (drop 1 rows)) 0 i →
      FirstUnsorted (map key rows) p f
  first_out_of_turn [] p f i fault l o h = absurd (omega (arith, length-zip {A = R} {B = R} [] []))
  first_out_of_turn (x ∷ xs) p f i fault l o h =
      let rows = x ∷ xs in
      let m : i + 1 < length rows = omega (arith, l, length-zip rows (drop 1 rows), length-drop 1 rows) in
      record {
        at = i + 1;
        fault = fault;
        within = omega (arith, m, length-map rows key);
        broken = λ g.
            let t = sym (pair_order rows x i m) ∙ o (x, x) in
            let e : i ≡ i + 1 - 1 = omega arith in
            let u = ap (λ n. before (key_at (map key rows) n) (key_at (map key rows) (i + 1))) e ∙ g (omega arith) in
            let z : ◌≡◌ {A = ℕ} 0 1 = cc in omega arith;
        kept_before = λ j b. follows rows i h j b (omega (arith, m));
      }
