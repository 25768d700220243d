-- Lists of a table's records.
use Rattle.std.proofs.Common.{◌≡◌, ℕ, zero, suc, ◌+◌, ◌<◌, ◌≤◌, Bool, true, ltb, List, [], ◌∷◌, ◌++◌, length, get_or, set, take, Some, None, sym, refl, ap, ◌∙◌, ⊎_elim, add-one, arith}
use Rattle.std.proofs.lemmas.List.{length_push, get_or_push, get_or_append_left, length-take, take-append-le, take_all}
use Rattle.std.proofs.Math.Seq.{take-set-lt}
use Rattle.std.proofs.lemmas.Bool.{cases_eq, lt-ltb}
use Rattle.table.specs.declared.Table.{Table}
use Rattle.table.specs.Tables.{after_push, found, listed, tabulated}

pub tabulated_none : {X : Type 0} (f : ℕ → X) → tabulated f 0 ≡ []
unfolding tabulated
tabulated_none f = refl

pub tabulated_more : {X : Type 0} (f : ℕ → X) (n : ℕ) → tabulated f (n + 1) ≡ tabulated f n ++ (f n ∷ [])
unfolding tabulated
tabulated_more f n = rw add-one

pub length-tabulated : {X : Type 0} (f : ℕ → X) (n : ℕ) → length (tabulated f n) ≡ n
unfolding tabulated
length-tabulated f zero = refl
length-tabulated f (suc n) = length_push (tabulated f n) (f n) ∙ (omega (arith, length-tabulated f n))

pub get_or-tabulated : {X : Type 0} (f : ℕ → X) (n i : ℕ) (d : X) → i < n → get_or (tabulated f n) i d ≡ f i
unfolding tabulated
get_or-tabulated f zero i d h = absurd (omega arith)
get_or-tabulated f (suc n) i d h =
    ⊎_elim (λ (e : i ≡ n). get_or_push (tabulated f n) (f n) d i (omega (arith, length-tabulated f n)) ∙ ap f (sym e))
    (λ ne. get_or_append_left (tabulated f n) (f n ∷ []) d i (omega (arith, length-tabulated f n)) ∙ get_or-tabulated f n i d (omega arith))
    (cases_eq i n)

pub take-tabulated : {X : Type 0} (f : ℕ → X) (n k : ℕ) → k ≤ n → take k (tabulated f n) ≡ tabulated f k
unfolding tabulated
take-tabulated f zero k h = let z : k ≡ 0 = omega arith in rw z
take-tabulated f (suc n) k h =
    ⊎_elim (λ (e : k ≡ n + 1). take_all k (tabulated f (suc n)) (omega (arith, length-tabulated f (suc n))) ∙ (let z : suc n ≡ k = omega arith in ap (tabulated f) z))
    (λ ne. take-append-le k (tabulated f n) (f n ∷ []) (omega (arith, length-tabulated f n)) ∙ take-tabulated f n k (omega arith))
    (cases_eq k (n + 1))

-- a table with one record more, where there was room
pub pushed : {X : Type 0} (f : ℕ → X) (n most : ℕ) (room : Bool) (x : X) (xs ys : List X) → n < most → xs ≡ tabulated f n → x ≡ f n → room ≡ ltb (length xs) most → ys ≡ after_push room xs x →
    ys ≡ tabulated f (n + 1)
pushed f n most room x xs ys l e i r h =
    let yes : room ≡ true = r ∙ lt-ltb (length xs) most (omega (arith, ap length e, length-tabulated f n)) in
    h ∙ (ap (λ b. after_push b xs x) yes ∙ (ap (λ z. z ++ (x ∷ [])) e ∙ (ap (λ z. tabulated f n ++ (z ∷ [])) i ∙ sym (tabulated_more f n))))

-- a table lists no more than it holds
pub listed_few : {T : Type 0} {N : ℕ} (t : Table T N) → length (listed t) ≤ N
listed_few t = omega (arith, length-take t.len t.records, t.few)

pub found_none : {X : Type 0} (xs : List X) (i : ℕ) → found xs i ≡ None → length xs ≤ i
found_none [] i h = omega arith
found_none (x ∷ xs) zero h = let z : ◌≡◌ {A = ℕ} 0 1 = cc in omega arith
found_none (x ∷ xs) (suc i) h = omega (arith, found_none xs i h)

pub found_some : {X : Type 0} (xs : List X) (i : ℕ) (x d : X) → found xs i ≡ Some x → (i < length xs) × (x ≡ get_or xs i d)
found_some [] i x d h = let z : ◌≡◌ {A = ℕ} 0 1 = cc in absurd (omega arith)
found_some (y ∷ ys) zero x d h = (omega arith, cc)
found_some (y ∷ ys) (suc i) x d h = let p = found_some ys i x d h in (omega (arith, p.0), p.1)

-- a record replaced among those that count
pub put_among : {T : Type 0} (xs : List T) (n i : ℕ) (x : T) → i < n → take n (set xs i x) ≡ set (take n xs) i x
put_among xs n i x h = take-set-lt n xs i x h
