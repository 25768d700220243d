-- A scan of rows answers what the first of them answers.
use Rattle.std.proofs.Common.{◌≡◌, ℕ, zero, suc, ◌+◌, ◌-◌, ◌<◌, ◌≤◌, List, [], ◌∷◌, ◌++◌, map, reverse, length, get_or, take, drop, Some, None, Option, sym, refl, ap, ◌∙◌, arith}
use Rattle.std.proofs.lemmas.List.{at_drop_more, at_drop_all, take_more, reverse-append, take_all, length-take-le, get_or-take, get_or-drop, drop-drop, length-drop, take-append-drop}
use Rattle.host.specs.First.{first, or_else}

module _ {X Y : Type 0} (f : X → Option Y) (xs : List X) (i : ℕ) where
  pub first_hit : (d : X) (y : Y) → i < length xs → first f (drop i xs) ≡ first f xs → Some y ≡ f (get_or xs i d) → Some y ≡ first f xs
  first_hit d y h inv e =
      ap (λ o. or_else o (first f (drop (i + 1) xs))) e ∙ sym (at_drop_more (first f) xs i d h) ∙ inv

  pub first_miss : (d : X) → i < length xs → first f (drop i xs) ≡ first f xs → None ≡ f (get_or xs i d) → first f (drop (i + 1) xs) ≡ first f xs
  first_miss d h inv e =
      ap (λ o. or_else o (first f (drop (i + 1) xs))) e ∙ sym (at_drop_more (first f) xs i d h) ∙ inv

  pub first_all : length xs ≤ i → first f (drop i xs) ≡ first f xs → None ≡ first f xs
  first_all h inv = sym (at_drop_all (first f) xs i h) ∙ inv

-- from the end, where a loop counts down: the front of length i is still to be asked
module _ {X Y : Type 0} (f : X → Option Y) (xs : List X) (i : ℕ) where
  pub back_step : (d : X) → 0 < i → i ≤ length xs →
      first f (reverse (take i xs)) ≡ or_else (f (get_or xs (i - 1) d)) (first f (reverse (take (i - 1) xs)))
  back_step d p h =
      let lt : i - 1 < length xs = omega arith in
      let back : i - 1 + 1 ≡ i = omega arith in
      ap (λ n. first f (reverse (take n xs))) (sym back) ∙ ap (λ l. first f (reverse l)) (take_more xs (i - 1) d lt) ∙
      ap (first f) (reverse-append (take (i - 1) xs) (get_or xs (i - 1) d ∷ []))

  pub back_hit : (d : X) (y : Y) → 0 < i → i ≤ length xs → first f (reverse (take i xs)) ≡ first f (reverse xs) →
      Some y ≡ f (get_or xs (i - 1) d) → Some y ≡ first f (reverse xs)
  back_hit d y p h inv e =
      ap (λ o. or_else o (first f (reverse (take (i - 1) xs)))) e ∙ sym (back_step d p h) ∙ inv

  pub back_miss : (d : X) → 0 < i → i ≤ length xs → first f (reverse (take i xs)) ≡ first f (reverse xs) →
      None ≡ f (get_or xs (i - 1) d) → first f (reverse (take (i - 1) xs)) ≡ first f (reverse xs)
  back_miss d p h inv e =
      ap (λ o. or_else o (first f (reverse (take (i - 1) xs)))) e ∙ sym (back_step d p h) ∙ inv

  pub back_start : length xs ≤ i → first f (reverse (take i xs)) ≡ first f (reverse xs)
  back_start h = ap (λ l. first f (reverse l)) (take_all i xs h)

or_else-assoc : {Y : Type 0} (a b c : Option Y) → or_else (or_else a b) c ≡ or_else a (or_else b c)
or_else-assoc (Some y) b c = refl
or_else-assoc None b c = refl

pub or_else_none : {Y : Type 0} (a : Option Y) → or_else a None ≡ a
or_else_none (Some y) = refl
or_else_none None = refl

-- two lists, one after the other
pub first-append : {X Y : Type 0} (f : X → Option Y) (xs ys : List X) → first f (xs ++ ys) ≡ or_else (first f xs) (first f ys)
first-append f [] ys = refl
first-append f (x ∷ xs) ys = ap (or_else (f x)) (first-append f xs ys) ∙ sym (or_else-assoc (f x) (first f xs) (first f ys))

-- no row answers
pub first_none : {X Y : Type 0} (f : X → Option Y) (d : X) (xs : List X) →
    ((k : ℕ) → k < length xs → f (get_or xs k d) ≡ None) → first f xs ≡ None
first_none f d [] h = refl
first_none f d (x ∷ xs) h =
    ap (λ o. or_else o (first f xs)) (h 0 (omega arith)) ∙ first_none f d xs (λ k l. h (suc k) (omega arith))

-- only rows of a part answer
pub first_range : {X Y : Type 0} (f : X → Option Y) (d : X) (xs : List X) (a b : ℕ) → a ≤ b → b ≤ length xs →
    ((k : ℕ) → k < length xs → k < a → f (get_or xs k d) ≡ None) →
    ((k : ℕ) → k < length xs → b ≤ k → f (get_or xs k d) ≡ None) →
    first f (take (b - a) (drop a xs)) ≡ first f xs
first_range f d xs a b ab bl before after =
    let lens : length (take a xs) ≡ a = length-take-le a xs (omega arith) in
    let left : first f (take a xs) ≡ None =
    first_none f d (take a xs) (λ k l. let ka : k < a = omega arith in ap f (get_or-take a xs k d ka) ∙ before k (omega arith) ka) in
    let rest : drop (b - a) (drop a xs) ≡ drop b xs = drop-drop (b - a) a xs ∙ ap (λ n. drop n xs) (omega arith) in
    let right : first f (drop b xs) ≡ None =
    first_none f d (drop b xs)
    (λ k l. let kl : b + k < length xs = omega (arith, length-drop b xs) in ap f (get_or-drop b xs k d) ∙ after (b + k) kl (omega arith)) in
    let whole : first f xs ≡ or_else (first f (take a xs)) (first f (drop a xs)) =
    sym (ap (first f) (take-append-drop a xs)) ∙ first-append f (take a xs) (drop a xs) in
    let part : first f (drop a xs) ≡ or_else (first f (take (b - a) (drop a xs))) (first f (drop (b - a) (drop a xs))) =
    sym (ap (first f) (take-append-drop (b - a) (drop a xs))) ∙ first-append f (take (b - a) (drop a xs)) (drop (b - a) (drop a xs)) in
    sym (whole ∙ ap (λ o. or_else o (first f (drop a xs))) left ∙ part ∙
    ap (or_else (first f (take (b - a) (drop a xs)))) (ap (first f) rest ∙ right) ∙ or_else_none (first f (take (b - a) (drop a xs))))

-- what a function makes of the rows
pub first-map : {X Z Y : Type 0} (f : Z → Option Y) (g : X → Z) (xs : List X) → first f (map g xs) ≡ first (λ x. f (g x)) xs
first-map f g [] = refl
first-map f g (x ∷ xs) = ap (or_else (f (g x))) (first-map f g xs)

-- the first row that answers
pub first_at : {X Y : Type 0} (f : X → Option Y) (d : X) (y : Y) (xs : List X) (i : ℕ) → i < length xs →
    ((k : ℕ) → k < i → f (get_or xs k d) ≡ None) → f (get_or xs i d) ≡ Some y → first f xs ≡ Some y
first_at f d y [] i l h e = absurd (omega arith)
first_at f d y (x ∷ xs) zero l h e = ap (λ o. or_else o (first f xs)) e
first_at f d y (x ∷ xs) (suc i) l h e =
    ap (λ o. or_else o (first f xs)) (h 0 (omega arith)) ∙ first_at f d y xs i (omega arith) (λ k m. h (suc k) (omega arith)) e
