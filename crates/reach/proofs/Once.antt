use Rattle.std.proofs.Common.{◌≡◌, ℕ, zero, suc, ◌+◌, ◌*◌, ◌<◌, ◌≤◌, cond, eqb, List, [], ◌∷◌, ◌++◌, map, length, get_or, Some, None, Option, sym, refl, ap, ◌∙◌, inl, inr, add-mul, one-mul, zero-mul, arith}
use Rattle.std.proofs.lemmas.Bool.{cond-true, cond-false, eq-eqb, ne_eqb, cases_eq, cases_order}
use Rattle.std.specs.List.{AllByRecursion as All}
use Rattle.format.specs.declared.ids.NodeId.{NodeId}
use Rattle.format.specs.Ids.{number_of}
use Rattle.reach.specs.Shape.{Shape, Below, children_of}
use Rattle.reach.specs.Visit.{of_child, size_of, sizes, total}
use Rattle.sheet.specs.Shape.{times}
use Rattle.reach.specs.Once.{numbers, children_to, Once}
use Rattle.reach.proofs.Fold.{falls, size_is}

sum_to : ℕ → (ℕ → ℕ) → ℕ
sum_to zero g = 0
sum_to (suc m) g = g (suc m) + sum_to m g

sum_by : (ℕ → ℕ) → List ℕ → ℕ
sum_by w [] = 0
sum_by w (c ∷ cs) = w c + sum_by w cs

sum_to_add : (m : ℕ) (f g : ℕ → ℕ) → sum_to m (λ j. f j + g j) ≡ sum_to m f + sum_to m g
unfolding sum_to
sum_to_add zero f g = omega arith
sum_to_add (suc m) f g = omega (arith, sum_to_add m f g)

sum_to_same : (m : ℕ) (f g : ℕ → ℕ) → ((j : ℕ) → 0 < j → j ≤ m → f j ≡ g j) → sum_to m f ≡ sum_to m g
unfolding sum_to
sum_to_same zero f g e = refl
sum_to_same (suc m) f g e = omega (arith, sum_to_same m f g (λ j h l. e j h (omega arith)), e (suc m) (omega arith) (omega arith))

sum_to_none : (m : ℕ) → sum_to m (λ j. 0) ≡ 0
unfolding sum_to
sum_to_none zero = refl
sum_to_none (suc m) = omega (arith, sum_to_none m)

here : (j c : ℕ) (w : ℕ → ℕ) → j ≡ c → cond (eqb j c) 1 0 * w j ≡ w c
here j c w e = ap (λ n. n * w j) (cond-true (eqb j c) 1 0 (eq-eqb j c e)) ∙ one-mul (w j) ∙ ap w e

away : (j c : ℕ) (w : ℕ → ℕ) → (j ≡ c → ⊥) → cond (eqb j c) 1 0 * w j ≡ 0
away j c w e = ap (λ n. n * w j) (cond-false (eqb j c) 1 0 (ne_eqb j c e)) ∙ zero-mul (w j)

-- below c the sum has nothing of c
point_none : (m c : ℕ) (w : ℕ → ℕ) → m < c → sum_to m (λ j. cond (eqb j c) 1 0 * w j) ≡ 0
point_none m c w h = sum_to_same m (λ j. cond (eqb j c) 1 0 * w j) (λ j. 0) (λ j a b. away j c w (λ e. omega arith)) ∙ sum_to_none m

point : (m c : ℕ) (w : ℕ → ℕ) → 0 < c → c ≤ m → sum_to m (λ j. cond (eqb j c) 1 0 * w j) ≡ w c
unfolding sum_to
point zero c w h l = absurd (omega arith)
point (suc m) c w h l =
    elim (cases_eq (suc m) c) [
      | inl e ↦ omega (arith, here (suc m) c w e, point_none m c w (omega arith))
      | inr e ↦ omega (arith, away (suc m) c w e, point m c w h (elim (cases_order (suc m) c) [ inl f ↦ absurd (e f) | inr f ↦ elim f [ inl g ↦ omega arith | inr g ↦ omega arith ] ]))
    ]

-- a sum over a list by how often each number stands there
counted : (m : ℕ) (w : ℕ → ℕ) (cs : List ℕ) → All (λ c. (0 < c) × (c ≤ m)) cs → sum_by w cs ≡ sum_to m (λ j. times j cs * w j)
unfolding sum_by
counted m w [] a = sym (sum_to_same m (λ j. 0 * w j) (λ j. 0) (λ j h l. zero-mul (w j)) ∙ sum_to_none m)
counted m w (c ∷ cs) a =
    let p = point m c w a.0.0 a.0.1 in
    let q = counted m w cs a.1 in
    let r = sum_to_add m (λ j. cond (eqb j c) 1 0 * w j) (λ j. times j cs * w j) in
    let s = sum_to_same m (λ j. times j (c ∷ cs) * w j) (λ j. cond (eqb j c) 1 0 * w j + times j cs * w j) (λ j h l. add-mul (cond (eqb j c) 1 0) (times j cs) (w j)) in
    omega arith

sum_by-append : (w : ℕ → ℕ) (xs ys : List ℕ) → sum_by w (xs ++ ys) ≡ sum_by w xs + sum_by w ys
unfolding sum_by
sum_by-append w [] ys = omega arith
sum_by-append w (x ∷ xs) ys = omega (arith, sum_by-append w xs ys)

-- the sizes of the children, by their numbers
sizes_are : (f : ℕ → ℕ) (cs : List (Option NodeId)) → total (map (of_child 0 f) cs) ≡ sum_by f (numbers cs)
unfolding sum_by
sizes_are f [] = refl
sizes_are f (None ∷ cs) = omega (arith, sizes_are f cs)
sizes_are f (Some c ∷ cs) = omega (arith, sizes_are f cs)

real : (m : ℕ) → 0 < m → m ≤ 512 → NodeId
real m h l = record { raw = m; real = (h, l) }

-- the sizes of the nodes to m are m more than those of their children
sizes_to : (b : Shape) (fall : Below b.nodes b.children) (m : ℕ) → m ≤ 512 → sum_to m (size_of b) ≡ m + sum_by (size_of b) (children_to b m)
unfolding sum_to sum_by real
sizes_to b fall zero l = omega arith
sizes_to b fall (suc m) l =
    let e = sizes_to b fall m (omega arith) in
    let s = size_is b fall (real (suc m) (omega arith) l) in
    let t = sizes_are (size_of b) (children_of b (suc m)) in
    let a = sum_by-append (size_of b) (children_to b m) (numbers (children_of b (suc m))) in
    omega arith

-- the children of n are numbered below it
numbered : (n : ℕ) (cs : List (Option NodeId)) → ((i : ℕ) → i < length cs → number_of (get_or cs i None) < n) → (m : ℕ) → n ≤ m + 1 → All (λ c. (0 < c) × (c ≤ m)) (numbers cs)
numbered n [] h m l = tt
numbered n (None ∷ cs) h m l = numbered n cs (λ i k. h (suc i) (omega arith)) m l
numbered n (Some c ∷ cs) h m l = let k = h 0 (omega arith) in ((c.real.0, omega arith), numbered n cs (λ i k. h (suc i) (omega arith)) m l)

all_append : (P : ℕ → Type 0) (xs ys : List ℕ) → All P xs → All P ys → All P (xs ++ ys)
all_append P [] ys a b = b
all_append P (x ∷ xs) ys a b = (a.0, all_append P xs ys a.1 b)

all_numbered : (b : Shape) (fall : Below b.nodes b.children) (k m : ℕ) → k ≤ 512 → k ≤ m + 1 → All (λ c. (0 < c) × (c ≤ m)) (children_to b k)
all_numbered b fall zero m h l = tt
all_numbered b fall (suc k) m h l =
    all_append (λ c. (0 < c) × (c ≤ m)) (children_to b k) (numbers (children_of b (suc k))) (all_numbered b fall k m (omega arith) (omega arith)) (numbered (suc k) (children_of b (suc k)) (falls b fall (suc k) (omega arith) h) m l)

-- where every node but the last is a child exactly once, the last has all nodes below it
pub whole : (b : Shape) (fall : Below b.nodes b.children) (m : ℕ) → suc m ≤ 512 → Once b (suc m) → size_of b (suc m) ≡ suc m
unfolding sum_to
whole b fall m l once =
    let w = size_of b in
    let e = sizes_to b fall (suc m) l in
    let f = counted m w (children_to b (suc m)) (all_numbered b fall (suc m) m l (omega arith)) in
    let g = sum_to_same m (λ j. times j (children_to b (suc m)) * w j) w (λ j h k. ap (λ n. n * w j) (once j h (omega arith)) ∙ one-mul (w j)) in
    omega arith

whole_at : (b : Shape) (fall : Below b.nodes b.children) (n : ℕ) → 0 < n → n ≤ 512 → Once b n → size_of b n ≡ n
whole_at b fall zero h l o = absurd (omega arith)
whole_at b fall (suc m) h l o = whole b fall m l o

-- below the last node stand all the others
pub others : (b : Shape) (fall : Below b.nodes b.children) (n r : NodeId) → r ≡ n → Once b n.raw → total (sizes b r.raw) + 1 ≡ r.raw
others b fall n r e o =
    let f : total (sizes b n.raw) + 1 ≡ n.raw = omega (arith, whole_at b fall n.raw n.real.0 n.real.1 o, size_is b fall n) in
    ap (λ x. total (sizes b x.raw) + 1) e ∙ f ∙ sym (ap (λ x. x.raw) e)
