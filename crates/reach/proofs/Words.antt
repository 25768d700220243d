use Rattle.std.proofs.Common.{◌≡◌, ℕ, zero, suc, ◌<◌, ◌≤◌, List, [], ◌∷◌, map, get_or, take, drop, Some, None, sym, refl, ap, ◌∙◌, subst, inl, inr, arith}
use Rattle.format.specs.declared.kind.NodeKind.{NodeKind}
use Rattle.format.specs.declared.kind.NodeKind.TheVariants.{Leaf, Use, Sequence, And, If, Let, Block, Loop, Closure, Match, Const, Repeat, Cast, LeafPattern, Bind, Patterns, ValuePattern, LeafType, Types, ArrayType, LetStatement, ExprStatement, MacroDef, OtherItem, Arm, Body}
use Rattle.reach.specs.Shape.{Shape, Below}
use Rattle.reach.specs.Visit.{State, others, self_in}
use Rattle.reach.specs.Tables.{kind_of, kids, kid, turn}
use Rattle.reach.specs.Law.{TreeLaw, ListedFor, ReachIn, parameters, self_of, Among, binds, leaves, all_binds, gathered, brings, bind_step, leave_step}
use Rattle.reach.specs.Words.{BoundIn, Brings, Comes, Lasts, ReachLaw, Reaches, StaysBelow, Under, twice}
use Rattle.reach.proofs.Whole.{low, binds_are, leaves_are}
use Rattle.reach.proofs.Reach.{among_left, among_right, among_split}
use Rattle.reach.proofs.EachKind.{tail_at, leaves_at, others_at, turn_twice}
use Rattle.reach.proofs.Marks.{halves}

joined_at : (b : Shape) (x : ℕ) (cs : List ℕ) → Among x (all_binds b cs) → (j : ℕ) × Among x (binds b (get_or cs j 0))
joined_at b x [] a = absurd a
joined_at b x (c ∷ cs) a = elim (among_split x (binds b c) (all_binds b cs) a) [ inl k ↦ (0, k) | inr k ↦ let r = joined_at b x cs k in (suc r.0, r.1) ]

none_bound : (b : Shape) (x : ℕ) → Among x (binds b 0) → ⊥
unfolding binds
none_bound b x a = a

none_lasts : (b : Shape) (x : ℕ) → Among x (leaves b 0) → ⊥
unfolding leaves
none_lasts b x a = a

joined_of : (b : Shape) (x : ℕ) (cs : List ℕ) (j : ℕ) → Among x (binds b (get_or cs j 0)) → Among x (all_binds b cs)
joined_of b x [] j a = none_bound b x a
joined_of b x (c ∷ cs) zero a = among_left x (binds b c) (all_binds b cs) a
joined_of b x (c ∷ cs) (suc j) a = among_right x (binds b c) (all_binds b cs) (joined_of b x cs j a)

bound_kind : (b : Shape) (x n : ℕ) (k : NodeKind) → 0 < n → kind_of b n ≡ k → ((i : ℕ) → Among x (binds b (kid b n i)) → BoundIn b x (kid b n i)) → Among x (bind_step n k (map (binds b) (kids b n))) → BoundIn b x n
bound_kind b x n Leaf z q ih a = absurd a
bound_kind b x n (Use y h) z q ih a = absurd a
bound_kind b x n Sequence z q ih a = absurd a
bound_kind b x n And z q ih a = absurd a
bound_kind b x n If z q ih a = absurd a
bound_kind b x n Let z q ih a = absurd a
bound_kind b x n (Block c l) z q ih a = absurd a
bound_kind b x n (Loop l) z q ih a = absurd a
bound_kind b x n Closure z q ih a = absurd a
bound_kind b x n Match z q ih a = absurd a
bound_kind b x n Const z q ih a = absurd a
bound_kind b x n Repeat z q ih a = absurd a
bound_kind b x n Cast z q ih a = absurd a
bound_kind b x n (Bind v) z q ih (inl e) = BoundIn.itself n v z q e
bound_kind b x n (Bind v) z q ih (inr a) = let r = joined_at b x (kids b n) a in BoundIn.sub n r.0 v z q (ih r.0 r.1)
bound_kind b x n Patterns z q ih a = let r = joined_at b x (kids b n) a in BoundIn.part n r.0 z q (ih r.0 r.1)
bound_kind b x n Types z q ih a = absurd a
bound_kind b x n ArrayType z q ih a = absurd a
bound_kind b x n ValuePattern z q ih a = absurd a
bound_kind b x n LetStatement z q ih a = absurd a
bound_kind b x n ExprStatement z q ih a = absurd a
bound_kind b x n (MacroDef y) z q ih a = absurd a
bound_kind b x n OtherItem z q ih a = absurd a
bound_kind b x n LeafPattern z q ih a = absurd a
bound_kind b x n LeafType z q ih a = absurd a
bound_kind b x n Arm z q ih a = absurd a
bound_kind b x n (Body y) z q ih a = absurd a

bound_to : (b : Shape) (fall : Below b.nodes b.children) (x k n : ℕ) → n < k → n ≤ 512 → Among x (binds b n) → BoundIn b x n
bound_to b fall x zero n l w a = absurd (omega arith)
bound_to b fall x (suc k) zero l w a = absurd (none_bound b x a)
bound_to b fall x (suc k) (suc n) l w a =
    bound_kind b x (suc n) (kind_of b (suc n)) (omega arith) refl (λ i. bound_to b fall x k (kid b (suc n) i) (omega (arith, low b fall (suc n) (omega arith) w i)) (omega (arith, low b fall (suc n) (omega arith) w i)))
    (subst (λ ys. Among x ys) (binds_are b fall (suc n) (omega arith) w) a)

bound_of : (b : Shape) (fall : Below b.nodes b.children) (x n : ℕ) → n ≤ 512 → BoundIn b x n → Among x (binds b n)
bound_of b fall x n w (BoundIn.itself c v z q e) = subst (λ ys. Among x ys) (sym (binds_are b fall c z w ∙ ap (λ k. bind_step c k (map (binds b) (kids b c))) q)) (inl e)
bound_of b fall x n w (BoundIn.sub c i v z q u) = subst (λ ys. Among x ys) (sym (binds_are b fall c z w ∙ ap (λ k. bind_step c k (map (binds b) (kids b c))) q)) (inr (joined_of b x (kids b c) i (bound_of b fall x (kid b c i) (omega (arith, low b fall c z w i)) u)))
bound_of b fall x n w (BoundIn.part c i z q u) = subst (λ ys. Among x ys) (sym (binds_are b fall c z w ∙ ap (λ k. bind_step c k (map (binds b) (kids b c))) q)) (joined_of b x (kids b c) i (bound_of b fall x (kid b c i) (omega (arith, low b fall c z w i)) u))

lasts_kind : (b : Shape) (fall : Below b.nodes b.children) (x n : ℕ) (k : NodeKind) → 0 < n → n ≤ 512 → kind_of b n ≡ k → ((i : ℕ) → Among x (leaves b (kid b n i)) → Lasts b x (kid b n i)) → Among x (leave_step b n k (map (leaves b) (kids b n))) → Lasts b x n
lasts_kind b fall x n Leaf z w q ih a = absurd a
lasts_kind b fall x n (Use y h) z w q ih a = absurd a
lasts_kind b fall x n Sequence z w q ih a = absurd a
lasts_kind b fall x n And z w q ih a = elim (among_split x (get_or (map (leaves b) (kids b n)) 1 []) (get_or (map (leaves b) (kids b n)) 0 []) a) [
  | inl c ↦ Lasts.right n z q (ih 1 (subst (λ ys. Among x ys) (leaves_at b (kids b n) 1) c))
  | inr c ↦ Lasts.left n z q (ih 0 (subst (λ ys. Among x ys) (leaves_at b (kids b n) 0) c))
]
lasts_kind b fall x n If z w q ih a = absurd a
lasts_kind b fall x n Let z w q ih a = Lasts.condition n z q (bound_to b fall x (suc (kid b n 0)) (kid b n 0) (omega arith) (omega (arith, low b fall n z w 0)) a)
lasts_kind b fall x n (Block c l) z w q ih a = absurd a
lasts_kind b fall x n (Loop l) z w q ih a = absurd a
lasts_kind b fall x n Closure z w q ih a = absurd a
lasts_kind b fall x n Match z w q ih a = absurd a
lasts_kind b fall x n Const z w q ih a = absurd a
lasts_kind b fall x n Repeat z w q ih a = absurd a
lasts_kind b fall x n Cast z w q ih a = absurd a
lasts_kind b fall x n (Bind v) z w q ih a = absurd a
lasts_kind b fall x n Patterns z w q ih a = absurd a
lasts_kind b fall x n Types z w q ih a = absurd a
lasts_kind b fall x n ArrayType z w q ih a = absurd a
lasts_kind b fall x n ValuePattern z w q ih a = absurd a
lasts_kind b fall x n LetStatement z w q ih a = Lasts.statement n z q (bound_to b fall x (suc (kid b n 0)) (kid b n 0) (omega arith) (omega (arith, low b fall n z w 0)) a)
lasts_kind b fall x n ExprStatement z w q ih a = absurd a
lasts_kind b fall x n (MacroDef y) z w q ih a = absurd a
lasts_kind b fall x n OtherItem z w q ih a = absurd a
lasts_kind b fall x n LeafPattern z w q ih a = absurd a
lasts_kind b fall x n LeafType z w q ih a = absurd a
lasts_kind b fall x n Arm z w q ih a = absurd a
lasts_kind b fall x n (Body y) z w q ih a = absurd a

lasts_to : (b : Shape) (fall : Below b.nodes b.children) (x k n : ℕ) → n < k → n ≤ 512 → Among x (leaves b n) → Lasts b x n
lasts_to b fall x zero n l w a = absurd (omega arith)
lasts_to b fall x (suc k) zero l w a = absurd (none_lasts b x a)
lasts_to b fall x (suc k) (suc n) l w a =
    lasts_kind b fall x (suc n) (kind_of b (suc n)) (omega arith) w refl (λ i. lasts_to b fall x k (kid b (suc n) i) (omega (arith, low b fall (suc n) (omega arith) w i)) (omega (arith, low b fall (suc n) (omega arith) w i)))
    (subst (λ ys. Among x ys) (leaves_are b fall (suc n) (omega arith) w) a)

leaves_by : (b : Shape) (fall : Below b.nodes b.children) (x n : ℕ) (k : NodeKind) → 0 < n → n ≤ 512 → kind_of b n ≡ k → Among x (leave_step b n k (map (leaves b) (kids b n))) → Among x (leaves b n)
leaves_by b fall x n k z w q a = subst (λ ys. Among x ys) (sym (leaves_are b fall n z w ∙ ap (λ k. leave_step b n k (map (leaves b) (kids b n))) q)) a

lasts_of : (b : Shape) (fall : Below b.nodes b.children) (x n : ℕ) → n ≤ 512 → Lasts b x n → Among x (leaves b n)
lasts_of b fall x n w (Lasts.statement c z q u) = leaves_by b fall x c LetStatement z w q (bound_of b fall x (kid b c 0) (omega (arith, low b fall c z w 0)) u)
lasts_of b fall x n w (Lasts.condition c z q u) = leaves_by b fall x c Let z w q (bound_of b fall x (kid b c 0) (omega (arith, low b fall c z w 0)) u)
lasts_of b fall x n w (Lasts.left c z q u) = leaves_by b fall x c And z w q (among_right x (get_or (map (leaves b) (kids b c)) 1 []) (get_or (map (leaves b) (kids b c)) 0 []) (subst (λ ys. Among x ys) (sym (leaves_at b (kids b c) 0)) (lasts_of b fall x (kid b c 0) (omega (arith, low b fall c z w 0)) u)))
lasts_of b fall x n w (Lasts.right c z q u) = leaves_by b fall x c And z w q (among_left x (get_or (map (leaves b) (kids b c)) 1 []) (get_or (map (leaves b) (kids b c)) 0 []) (subst (λ ys. Among x ys) (sym (leaves_at b (kids b c) 1)) (lasts_of b fall x (kid b c 1) (omega (arith, low b fall c z w 1)) u)))

gathered_at : (b : Shape) (x : ℕ) (cs : List ℕ) → Among x (gathered b cs) → (j : ℕ) × Among x (leaves b (get_or cs j 0))
gathered_at b x [] a = absurd a
gathered_at b x (c ∷ cs) a = elim (among_split x (gathered b cs) (leaves b c) a) [ inl k ↦ let r = gathered_at b x cs k in (suc r.0, r.1) | inr k ↦ (0, k) ]

gathered_of : (b : Shape) (x : ℕ) (cs : List ℕ) (j : ℕ) → Among x (leaves b (get_or cs j 0)) → Among x (gathered b cs)
gathered_of b x [] j a = none_lasts b x a
gathered_of b x (c ∷ cs) zero a = among_right x (gathered b cs) (leaves b c) a
gathered_of b x (c ∷ cs) (suc j) a = among_left x (gathered b cs) (leaves b c) (gathered_of b x cs j a)

taken_at : (b : Shape) (x : ℕ) (cs : List ℕ) (i : ℕ) → Among x (gathered b (take i cs)) → (j : ℕ) × (j < i) × Among x (leaves b (get_or cs j 0))
taken_at b x [] zero a = absurd a
taken_at b x [] (suc i) a = absurd a
taken_at b x (c ∷ cs) zero a = absurd a
taken_at b x (c ∷ cs) (suc i) a = elim (among_split x (gathered b (take i cs)) (leaves b c) a) [ inl k ↦ let r = taken_at b x cs i k in (suc r.0, omega (arith, r.1), r.2) | inr k ↦ (0, omega arith, k) ]

taken_of : (b : Shape) (x : ℕ) (cs : List ℕ) (i j : ℕ) → j < i → Among x (leaves b (get_or cs j 0)) → Among x (gathered b (take i cs))
taken_of b x [] zero j l a = absurd (omega arith)
taken_of b x [] (suc i) j l a = none_lasts b x a
taken_of b x (c ∷ cs) zero j l a = absurd (omega arith)
taken_of b x (c ∷ cs) (suc i) zero l a = among_right x (gathered b (take i cs)) (leaves b c) a
taken_of b x (c ∷ cs) (suc i) (suc j) l a = among_left x (gathered b (take i cs)) (leaves b c) (taken_of b x cs i j (omega arith) a)

-- the closure's patterns
patterns_at : (b : Shape) (n j : ℕ) → get_or (others (drop 2 (kids b n))) j 0 ≡ kid b n (suc (suc (twice j)))
patterns_at b n j = others_at (drop 2 (kids b n)) j ∙ tail_at 1 (kids b n) (twice j) ∙ tail_at 0 (kids b n) (suc (twice j))

brings_kind : (b : Shape) (fall : Below b.nodes b.children) (x p : ℕ) (k : NodeKind) → 0 < p → p ≤ 512 → kind_of b p ≡ k → (i : ℕ) → Among x (brings b k (kids b p) i) → Brings b x p i
brings_kind b fall x p Leaf z w q i a = absurd a
brings_kind b fall x p (Use y h) z w q i a = absurd a
brings_kind b fall x p Sequence z w q i a = absurd a
brings_kind b fall x p And z w q zero a = absurd a
brings_kind b fall x p And z w q (suc i) a = Brings.follows i q (lasts_to b fall x (suc (kid b p 0)) (kid b p 0) (omega arith) (omega (arith, low b fall p z w 0)) a)
brings_kind b fall x p If z w q zero a = absurd a
brings_kind b fall x p If z w q (suc zero) a = Brings.then q (lasts_to b fall x (suc (kid b p 0)) (kid b p 0) (omega arith) (omega (arith, low b fall p z w 0)) a)
brings_kind b fall x p If z w q (suc (suc i)) a = absurd a
brings_kind b fall x p Let z w q zero a = Brings.own_condition q (bound_to b fall x (suc (kid b p 0)) (kid b p 0) (omega arith) (omega (arith, low b fall p z w 0)) a)
brings_kind b fall x p Let z w q (suc i) a = absurd a
brings_kind b fall x p (Block c l) z w q zero a = let r = gathered_at b x (drop 1 (kids b p)) a in let u = subst (λ d. Among x (leaves b d)) (tail_at 0 (kids b p) r.0) r.1 in Brings.tail c l r.0 q (lasts_to b fall x (suc (kid b p (suc r.0))) (kid b p (suc r.0)) (omega arith) (omega (arith, low b fall p z w (suc r.0))) u)
brings_kind b fall x p (Block c l) z w q (suc i) a = let r = taken_at b x (drop 1 (kids b p)) i a in let u = subst (λ d. Among x (leaves b d)) (tail_at 0 (kids b p) r.0) r.2 in Brings.later c l r.0 i q r.1 (lasts_to b fall x (suc (kid b p (suc r.0))) (kid b p (suc r.0)) (omega arith) (omega (arith, low b fall p z w (suc r.0))) u)
brings_kind b fall x p (Loop l) z w q i a = absurd a
brings_kind b fall x p Closure z w q zero a = let r = joined_at b x (others (drop 2 (kids b p))) a in let u = subst (λ c. Among x (binds b c)) (patterns_at b p r.0) r.1 in Brings.closure r.0 q (bound_to b fall x (suc (kid b p (suc (suc (twice r.0))))) (kid b p (suc (suc (twice r.0)))) (omega arith) (omega (arith, low b fall p z w (suc (suc (twice r.0))))) u)
brings_kind b fall x p Closure z w q (suc zero) a = absurd a
brings_kind b fall x p Closure z w q (suc (suc i)) a = elim (halves i) [
  | inl h ↦ let a2 = subst (λ ys. Among x ys) (ap (λ j. turn j (all_binds b (others (drop 2 (kids b p)))) []) h.1 ∙ turn_twice h.0 (all_binds b (others (drop 2 (kids b p)))) []) a in let r = joined_at b x (others (drop 2 (kids b p))) a2 in let u = subst (λ c. Among x (binds b c)) (patterns_at b p r.0) r.1 in subst (λ j. Brings b x p (suc (suc j))) (sym h.1) (Brings.own_closure h.0 r.0 q (bound_to b fall x (suc (kid b p (suc (suc (twice r.0))))) (kid b p (suc (suc (twice r.0)))) (omega arith) (omega (arith, low b fall p z w (suc (suc (twice r.0))))) u))
  | inr h ↦ absurd (subst (λ ys. Among x ys) (ap (λ j. turn j (all_binds b (others (drop 2 (kids b p)))) []) h.1 ∙ turn_twice h.0 [] (all_binds b (others (drop 2 (kids b p))))) a)
]
brings_kind b fall x p Match z w q i a = absurd a
brings_kind b fall x p Const z w q i a = absurd a
brings_kind b fall x p Repeat z w q i a = absurd a
brings_kind b fall x p Cast z w q i a = absurd a
brings_kind b fall x p (Bind v) z w q i a = absurd a
brings_kind b fall x p Patterns z w q i a = absurd a
brings_kind b fall x p Types z w q i a = absurd a
brings_kind b fall x p ArrayType z w q i a = absurd a
brings_kind b fall x p ValuePattern z w q i a = absurd a
brings_kind b fall x p LetStatement z w q zero a = Brings.own_let q (bound_to b fall x (suc (kid b p 0)) (kid b p 0) (omega arith) (omega (arith, low b fall p z w 0)) a)
brings_kind b fall x p LetStatement z w q (suc i) a = absurd a
brings_kind b fall x p ExprStatement z w q i a = absurd a
brings_kind b fall x p (MacroDef y) z w q i a = absurd a
brings_kind b fall x p OtherItem z w q i a = absurd a
brings_kind b fall x p LeafPattern z w q i a = absurd a
brings_kind b fall x p LeafType z w q i a = absurd a
brings_kind b fall x p Arm z w q zero a = Brings.own_arm q (bound_to b fall x (suc (kid b p 0)) (kid b p 0) (omega arith) (omega (arith, low b fall p z w 0)) a)
brings_kind b fall x p Arm z w q (suc zero) a = Brings.guard q (bound_to b fall x (suc (kid b p 0)) (kid b p 0) (omega arith) (omega (arith, low b fall p z w 0)) a)
brings_kind b fall x p Arm z w q (suc (suc i)) a = elim (among_split x (leaves b (kid b p 1)) (binds b (kid b p 0)) a) [ inl c ↦ Brings.guarded i q (lasts_to b fall x (suc (kid b p 1)) (kid b p 1) (omega arith) (omega (arith, low b fall p z w 1)) c) | inr c ↦ Brings.arm i q (bound_to b fall x (suc (kid b p 0)) (kid b p 0) (omega arith) (omega (arith, low b fall p z w 0)) c) ]
brings_kind b fall x p (Body y) z w q i a = absurd a

brings_by : (b : Shape) (x p : ℕ) (k : NodeKind) → kind_of b p ≡ k → (i : ℕ) → Among x (brings b k (kids b p) i) → Among x (brings b (kind_of b p) (kids b p) i)
brings_by b x p k q i a = subst (λ c. Among x (brings b c (kids b p) i)) (sym q) a

brings_of : (b : Shape) (fall : Below b.nodes b.children) (x p : ℕ) → 0 < p → p ≤ 512 → (i : ℕ) → Brings b x p i → Among x (brings b (kind_of b p) (kids b p) i)
brings_of b fall x p z w i (Brings.later c l j k q h u) = brings_by b x p (Block c l) q (suc k) (taken_of b x (drop 1 (kids b p)) k j h (subst (λ d. Among x (leaves b d)) (sym (tail_at 0 (kids b p) j)) (lasts_of b fall x (kid b p (suc j)) (omega (arith, low b fall p z w (suc j))) u)))
brings_of b fall x p z w i (Brings.tail c l j q u) = brings_by b x p (Block c l) q 0 (gathered_of b x (drop 1 (kids b p)) j (subst (λ d. Among x (leaves b d)) (sym (tail_at 0 (kids b p) j)) (lasts_of b fall x (kid b p (suc j)) (omega (arith, low b fall p z w (suc j))) u)))
brings_of b fall x p z w i (Brings.follows j q u) = brings_by b x p And q (suc j) (lasts_of b fall x (kid b p 0) (omega (arith, low b fall p z w 0)) u)
brings_of b fall x p z w i (Brings.then q u) = brings_by b x p If q 1 (lasts_of b fall x (kid b p 0) (omega (arith, low b fall p z w 0)) u)
brings_of b fall x p z w i (Brings.guard q u) = brings_by b x p Arm q 1 (bound_of b fall x (kid b p 0) (omega (arith, low b fall p z w 0)) u)
brings_of b fall x p z w i (Brings.arm j q u) = brings_by b x p Arm q (suc (suc j)) (among_right x (leaves b (kid b p 1)) (binds b (kid b p 0)) (bound_of b fall x (kid b p 0) (omega (arith, low b fall p z w 0)) u))
brings_of b fall x p z w i (Brings.guarded j q u) = brings_by b x p Arm q (suc (suc j)) (among_left x (leaves b (kid b p 1)) (binds b (kid b p 0)) (lasts_of b fall x (kid b p 1) (omega (arith, low b fall p z w 1)) u))
brings_of b fall x p z w i (Brings.closure j q u) = brings_by b x p Closure q 0 (joined_of b x (others (drop 2 (kids b p))) j (subst (λ c. Among x (binds b c)) (sym (patterns_at b p j)) (bound_of b fall x (kid b p (suc (suc (twice j)))) (omega (arith, low b fall p z w (suc (suc (twice j))))) u)))
brings_of b fall x p z w i (Brings.own_let q u) = brings_by b x p LetStatement q 0 (bound_of b fall x (kid b p 0) (omega (arith, low b fall p z w 0)) u)
brings_of b fall x p z w i (Brings.own_condition q u) = brings_by b x p Let q 0 (bound_of b fall x (kid b p 0) (omega (arith, low b fall p z w 0)) u)
brings_of b fall x p z w i (Brings.own_arm q u) = brings_by b x p Arm q 0 (bound_of b fall x (kid b p 0) (omega (arith, low b fall p z w 0)) u)
brings_of b fall x p z w i (Brings.own_closure k j q u) = brings_by b x p Closure q (suc (suc (twice k))) (subst (λ ys. Among x ys) (sym (turn_twice k (all_binds b (others (drop 2 (kids b p)))) [])) (joined_of b x (others (drop 2 (kids b p))) j (subst (λ c. Among x (binds b c)) (sym (patterns_at b p j)) (bound_of b fall x (kid b p (suc (suc (twice j)))) (omega (arith, low b fall p z w (suc (suc (twice j))))) u))))

self_at : (b : Shape) (m x : ℕ) (k : NodeKind) → kind_of b m ≡ k → (e : ℕ) → Among x (self_of m (self_in k)) → Reaches b m x e
self_at b m x Leaf q e a = absurd a
self_at b m x (Use y h) q e a = absurd a
self_at b m x Sequence q e a = absurd a
self_at b m x And q e a = absurd a
self_at b m x If q e a = absurd a
self_at b m x Let q e a = absurd a
self_at b m x (Block c l) q e a = absurd a
self_at b m x (Loop l) q e a = absurd a
self_at b m x Closure q e a = absurd a
self_at b m x Match q e a = absurd a
self_at b m x Const q e a = absurd a
self_at b m x Repeat q e a = absurd a
self_at b m x Cast q e a = absurd a
self_at b m x (Bind v) q e a = absurd a
self_at b m x Patterns q e a = absurd a
self_at b m x Types q e a = absurd a
self_at b m x ArrayType q e a = absurd a
self_at b m x ValuePattern q e a = absurd a
self_at b m x LetStatement q e a = absurd a
self_at b m x ExprStatement q e a = absurd a
self_at b m x (MacroDef y) q e a = absurd a
self_at b m x OtherItem q e a = absurd a
self_at b m x LeafPattern q e a = absurd a
self_at b m x LeafType q e a = absurd a
self_at b m x Arm q e a = absurd a
self_at b m x (Body None) q e a = absurd a
self_at b m x (Body (Some v)) q e (inl s) = Reaches.self v e s q
self_at b m x (Body (Some v)) q e (inr s) = absurd s

pub words_to : (b : Shape) (m : ℕ) → TreeLaw b m → (x e : ℕ) → ListedFor b m x e → Reaches b m x e
unfolding parameters
words_to b m t x e (ListedFor.parameter c a) = elim (among_split x (self_of m (self_in (kind_of b m))) (all_binds b (drop 1 (kids b m))) a) [
  | inl k ↦ self_at b m x (kind_of b m) refl c k
  | inr k ↦
      let r = joined_at b x (drop 1 (kids b m)) k in
      let u = subst (λ d. Among x (binds b d)) (tail_at 0 (kids b m) r.0) r.1 in
      Reaches.parameter r.0 c (bound_to b t.below x (suc (kid b m (suc r.0))) (kid b m (suc r.0)) (omega arith) (omega (arith, low b t.below m t.size.0 t.size.1 (suc r.0), t.size)) u)
]
words_to b m t x e (ListedFor.brought p i h a) = Reaches.brought p i h (brings_kind b t.below x p (kind_of b p) h.0 (omega (arith, h, t.size)) refl i a)
words_to b m t x e (ListedFor.kept p i h f a) = Reaches.kept p i h f (words_to b m t x p a)

pub words_of : (b : Shape) (m : ℕ) → TreeLaw b m → (x e : ℕ) → Reaches b m x e → ListedFor b m x e
unfolding parameters
words_of b m t x e (Reaches.parameter i c u) = ListedFor.parameter c (among_right x (self_of m (self_in (kind_of b m))) (all_binds b (drop 1 (kids b m))) (joined_of b x (drop 1 (kids b m)) i (subst (λ d. Among x (binds b d)) (sym (tail_at 0 (kids b m) i)) (bound_of b t.below x (kid b m (suc i)) (omega (arith, low b t.below m t.size.0 t.size.1 (suc i), t.size)) u))))
words_of b m t x e (Reaches.self v c s q) = ListedFor.parameter c (among_left x (self_of m (self_in (kind_of b m))) (all_binds b (drop 1 (kids b m))) (subst (λ k. Among x (self_of m (self_in k))) (sym q) (inl s)))
words_of b m t x e (Reaches.brought p i h u) = ListedFor.brought p i h (brings_of b t.below x p h.0 (omega (arith, h, t.size)) i u)
words_of b m t x e (Reaches.kept p i h f a) = ListedFor.kept p i h f (words_of b m t x p a)

pub in_words : (b : Shape) (m : ℕ) (s : State) → TreeLaw b m → ReachIn b m s → ReachLaw b m s
in_words b m s t law e r k =
    let g = law e r k in
    record { binds = g.binds; met = g.met; scope = λ x. (λ a. words_to b m t x (suc e) ((g.reach x).0 a), λ a. (g.reach x).1 (words_of b m t x (suc e) a)) }

comes_below : (b : Shape) (m x p i : ℕ) → Comes b m x p → Comes b m x (kid b p i)
comes_below b m x p i (Comes.from_parameter j u) = Comes.from_parameter j u
comes_below b m x p i (Comes.from_self v s q) = Comes.from_self v s q
comes_below b m x p i (Comes.from_above r j u w) = Comes.from_above r j u (Under.deeper p i w)

pub stays_below : StaysBelow
stays_below b m x e (Reaches.parameter i c u) = Comes.from_parameter i u
stays_below b m x e (Reaches.self v c s q) = Comes.from_self v s q
stays_below b m x e (Reaches.brought p i h u) = Comes.from_above p i u Under.here
stays_below b m x e (Reaches.kept p i h f a) = comes_below b m x p i (stays_below b m x p a)
