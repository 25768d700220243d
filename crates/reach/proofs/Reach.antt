use Rattle.std.proofs.Common.{◌≡◌, ℕ, zero, suc, ◌+◌, ◌-◌, ◌<◌, ◌≤◌, Bool, true, false, cond, eqb, ◌⊎◌, List, [], ◌∷◌, ◌++◌, map, get_or, Some, None, Option, sym, refl, ap, ◌∙◌, subst, inl, inr, zero-add, arith}
use Rattle.std.proofs.lemmas.Bool.{cases_lt, cases_eq, cases_order, eq-eqb, ne_eqb, cond-true, cond-false}
use Rattle.format.specs.declared.ids.NodeId.{NodeId}
use Rattle.format.specs.Ids.{number_of}
use Rattle.reach.specs.Shape.{Shape, Below, children_of}
use Rattle.reach.specs.Visit.{State}
use Rattle.reach.specs.Law.{bound, Sight, root, below, ReachStands, ReachIn, EntriesIn, OnChain, itself, outward, Holds, MetOnce, held, ListedFor, parameter, brought, kept, Met, TreeLaw, Among, parameters, brings, shuts}
use Rattle.reach.specs.Tables.{NodeOf, kids, kid, kind_of}
use Rattle.sheet.specs.Shape.{times}
use Rattle.reach.specs.Once.{Once, numbers, children_to}
use Rattle.reach.proofs.Whole.{seen, low, none_some}
use Rattle.format.specs.declared.ids.BindingId.{BindingId}
use Rattle.reach.specs.Blank.{no_scope}

pub among_left : (x : ℕ) (xs ys : List ℕ) → Among x xs → Among x (xs ++ ys)
among_left x [] ys a = absurd a
among_left x (z ∷ xs) ys (inl e) = inl e
among_left x (z ∷ xs) ys (inr a) = inr (among_left x xs ys a)

pub among_right : (x : ℕ) (xs ys : List ℕ) → Among x ys → Among x (xs ++ ys)
among_right x [] ys a = a
among_right x (z ∷ xs) ys a = inr (among_right x xs ys a)

pub among_split : (x : ℕ) (xs ys : List ℕ) → Among x (xs ++ ys) → Among x xs ⊎ Among x ys
among_split x [] ys a = inr a
among_split x (z ∷ xs) ys (inl e) = inl (inl e)
among_split x (z ∷ xs) ys (inr a) = elim (among_split x xs ys a) [ inl l ↦ inl (inr l) | inr r ↦ inr r ]

pub times_append : (c : ℕ) (xs ys : List ℕ) → times c (xs ++ ys) ≡ times c xs + times c ys
times_append c [] ys = omega arith
times_append c (x ∷ xs) ys = omega (arith, times_append c xs ys)

times_here : (c x : ℕ) (xs : List ℕ) → x ≡ c → times c (x ∷ xs) ≡ 1 + times c xs
times_here c x xs e = ap (λ k. k + times c xs) (cond-true (eqb c x) 1 0 (eq-eqb c x (sym e)))

times_at : (c : ℕ) (xs : List ℕ) (i : ℕ) → 0 < c → get_or xs i 0 ≡ c → 1 ≤ times c xs
times_at c [] i p e = absurd (omega arith)
times_at c (x ∷ xs) zero p e = omega (arith, times_here c x xs e)
times_at c (x ∷ xs) (suc i) p e = omega (arith, times_at c xs i p e)

times_twice : (c : ℕ) (xs : List ℕ) (i j : ℕ) → 0 < c → get_or xs i 0 ≡ c → get_or xs j 0 ≡ c → i < j → 2 ≤ times c xs
times_twice c [] i j p e f l = absurd (omega arith)
times_twice c (x ∷ xs) zero zero p e f l = absurd (omega arith)
times_twice c (x ∷ xs) zero (suc j) p e f l = omega (arith, times_here c x xs e, times_at c xs j p f)
times_twice c (x ∷ xs) (suc i) zero p e f l = absurd (omega arith)
times_twice c (x ∷ xs) (suc i) (suc j) p e f l = omega (arith, times_twice c xs i j p e f (omega arith))

kids_to : Shape → ℕ → List ℕ
kids_to b zero = []
kids_to b (suc n) = kids_to b n ++ kids b (suc n)

pub times_numbers : (c : ℕ) → 0 < c → (os : List (Option NodeId)) → times c (numbers os) ≡ times c (map number_of os)
times_numbers c z [] = refl
times_numbers c z (None ∷ os) = times_numbers c z os ∙ sym (ap (λ k. k + times c (map number_of os)) (cond-false (eqb c 0) 1 0 (ne_eqb c 0 (λ e. omega arith))) ∙ zero-add (times c (map number_of os)))
times_numbers c z (Some o ∷ os) = ap (λ k. cond (eqb c o.raw) 1 0 + k) (times_numbers c z os)

times_to : (b : Shape) (c : ℕ) → 0 < c → (m : ℕ) → times c (children_to b m) ≡ times c (kids_to b m)
unfolding kids_to kids
times_to b c z zero = refl
times_to b c z (suc m) = times_append c (children_to b m) (numbers (children_of b (suc m))) ∙ ap (λ k. k + times c (numbers (children_of b (suc m)))) (times_to b c z m) ∙ ap (λ k. times c (kids_to b m) + k) (times_numbers c z (children_of b (suc m))) ∙ sym (times_append c (kids_to b m) (map number_of (children_of b (suc m))))

times_one : (b : Shape) (c m p : ℕ) → 0 < p → p ≤ m → times c (kids b p) ≤ times c (kids_to b m)
unfolding kids_to
times_one b c zero p z l = absurd (omega arith)
times_one b c (suc m) p z l = elim (cases_eq p (suc m)) [
  | inl e ↦ omega (arith, times_append c (kids_to b m) (kids b (suc m)), ap (λ k. times c (kids b k)) e)
  | inr e ↦ omega (arith, times_append c (kids_to b m) (kids b (suc m)), times_one b c m p z (omega (arith, e)))
]

times_two : (b : Shape) (c m p q : ℕ) → 0 < p → p < q → q ≤ m → times c (kids b p) + times c (kids b q) ≤ times c (kids_to b m)
unfolding kids_to
times_two b c zero p q z l k = absurd (omega arith)
times_two b c (suc m) p q z l k = elim (cases_eq q (suc m)) [
  | inl e ↦ omega (arith, times_append c (kids_to b m) (kids b (suc m)), ap (λ k. times c (kids b k)) e, times_one b c m p z (omega arith))
  | inr e ↦ omega (arith, times_append c (kids_to b m) (kids b (suc m)), times_two b c m p q z l (omega (arith, e)))
]

found_at : (c : ℕ) (xs : List ℕ) → 1 ≤ times c xs → (i : ℕ) × (get_or xs i 0 ≡ c)
found_at c [] l = absurd (omega arith)
found_at c (x ∷ xs) l = elim (cases_eq c x) [
  | inl e ↦ (0, sym e)
  | inr e ↦ let r = found_at c xs (omega (arith, ap (λ k. k + times c xs) (cond-false (eqb c x) 1 0 (ne_eqb c x e)))) in (suc r.0, r.1)
]

found_to : (b : Shape) (c m : ℕ) → 1 ≤ times c (kids_to b m) → (p : ℕ) × ((0 < p) × (p ≤ m)) × ((i : ℕ) × (kid b p i ≡ c))
unfolding kids_to
found_to b c zero l = absurd (omega arith)
found_to b c (suc m) l = elim (cases_lt 0 (times c (kids b (suc m)))) [
  | inl k ↦ (suc m, (omega arith, omega arith), found_at c (kids b (suc m)) k)
  | inr k ↦ let r = found_to b c m (omega (arith, times_append c (kids_to b m) (kids b (suc m)))) in (r.0, (r.1.0, omega (arith, r.1)), r.2)
]

-- every node but the last has a parent
pub parent_of_lem : (b : Shape) (m : ℕ) → Once b m → (c : ℕ) → 0 < c → c < m → (p : ℕ) × ((0 < p) × (p ≤ m)) × ((i : ℕ) × (kid b p i ≡ c))
parent_of_lem b m once c z l = found_to b c m (omega (arith, times_to b c z m, once c z l))

-- a child has one parent, and one place there
lone : (b : Shape) (m : ℕ) (fall : Below b.nodes b.children) → Once b m → m ≤ 512 → (p q i j : ℕ) → 0 < p → p ≤ m → 0 < q → q ≤ m → 0 < kid b p i → kid b p i ≡ kid b q j → (p ≡ q) × (i ≡ j)
lone b m fall once w p q i j zp lp zq lq z e =
    let c = kid b p i in
    let lc : c < m = omega (arith, low b fall p zp (omega arith) i) in
    let o : times c (kids_to b m) ≡ 1 = sym (times_to b c z m) ∙ once c z lc in
    let tp : 1 ≤ times c (kids b p) = times_at c (kids b p) i z refl in
    let tq : 1 ≤ times c (kids b q) = times_at c (kids b q) j z (sym e) in
    elim (cases_order p q) [
      | inl same ↦ (
        same,
        elim (cases_order i j) [
          | inl k ↦ k
          | inr k ↦
              let f : get_or (kids b p) j 0 ≡ c = ap (λ n. kid b n j) same ∙ sym e in
              let u = times_one b c m p zp lp in
              elim k [
                | inl l ↦ absurd (omega (arith, times_twice c (kids b p) i j z refl f l))
                | inr l ↦ absurd (omega (arith, times_twice c (kids b p) j i z f refl l))
              ]
        ],
      )
      | inr k ↦ elim k [
        | inl l ↦ absurd (omega (arith, times_two b c m p q zp l lq))
        | inr l ↦ absurd (omega (arith, times_two b c m q p zq l lp))
      ]
    ]

sight_low : (b : Shape) (m : ℕ) → TreeLaw b m → (e : ℕ) (xs : List ℕ) → Sight b m e xs → e ≤ m
sight_low b m t e xs root = omega arith
sight_low b m t e xs (below {p = p} {xs = ys} i h g) = let l = sight_low b m t p ys g in omega (arith, low b t.below p h (omega (arith, t.size)) i)

-- the parameters are in sight everywhere
everywhere : (b : Shape) (m x e : ℕ) (xs : List ℕ) → Sight b m e xs → Among x (parameters b m) → Among x xs
everywhere b m x e xs root a = a
everywhere b m x e xs (below {p = p} {xs = ys} i h g) a = among_right x (brings b (kind_of b p) (kids b p) i) (cond (shuts (kind_of b p) i) (parameters b m) ys) (pick (shuts (kind_of b p) i) (everywhere b m x p ys g a))
  where
    pick : (t : Bool) → Among x ys → Among x (cond t (parameters b m) ys)
    pick true k = a
    pick false k = k

forth : (b : Shape) (m : ℕ) → TreeLaw b m → (x e : ℕ) (xs : List ℕ) → Sight b m e xs → Among x xs → ListedFor b m x e
forth b m t x e xs root a = parameter m a
forth b m t x e xs (below {p = p} {xs = ys} i h g) a =
    elim (among_split x (brings b (kind_of b p) (kids b p) i) (cond (shuts (kind_of b p) i) (parameters b m) ys) a) [
      | inl k ↦ brought p i (h, sight_low b m t p ys g) k
      | inr k ↦ pick (shuts (kind_of b p) i) refl k (forth b m t x p ys g)
    ]
  where
    pick : (z : Bool) → shuts (kind_of b p) i ≡ z → Among x (cond z (parameters b m) ys) → (Among x ys → ListedFor b m x p) → ListedFor b m x (kid b p i)
    pick true q k f = parameter (kid b p i) k
    pick false q k f = kept p i (h, sight_low b m t p ys g) q (f k)

one_parent : (b : Shape) (m : ℕ) → TreeLaw b m → (p q i j : ℕ) → NodeOf m p → NodeOf m q → 0 < kid b p i → kid b p i ≡ kid b q j → (p ≡ q) × (i ≡ j)
one_parent b m t p q i j x y z e = lone b m t.below t.once t.size.1 p q i j x.0 x.1 y.0 y.1 z e

back : (b : Shape) (m : ℕ) → TreeLaw b m → (x e : ℕ) → ListedFor b m x e → (d : ℕ) (xs : List ℕ) → Sight b m d xs → e ≡ d → 0 < e → Among x xs
back b m t x e (parameter c a) d xs g q k = everywhere b m x d xs g a
back b m t x e (brought p i h a) d xs root q k = absurd (omega (arith, low b t.below p h.0 (omega (arith, h, t.size)) i, h))
back b m t x e (brought p i h a) d xs (below {p = r} {xs = ys} j y g) q k =
    let u = one_parent b m t p r i j h (y, sight_low b m t r ys g) k q in
    among_left x (brings b (kind_of b r) (kids b r) j) (cond (shuts (kind_of b r) j) (parameters b m) ys) (subst (λ u. Among x (brings b (kind_of b r) (kids b r) u)) u.1 (subst (λ u. Among x (brings b (kind_of b u) (kids b u) i)) u.0 a))
back b m t x e (kept p i h f a) d xs root q k = absurd (omega (arith, low b t.below p h.0 (omega (arith, h, t.size)) i, h))
back b m t x e (kept p i h f a) d xs (below {p = r} {xs = ys} j y g) q k =
    let u = one_parent b m t p r i j h (y, sight_low b m t r ys g) k q in
    let n = back b m t x p a r ys g u.0 h.0 in
    let s : shuts (kind_of b r) j ≡ false = subst (λ u. shuts (kind_of b r) u ≡ false) u.1 (subst (λ u. shuts (kind_of b u) i ≡ false) u.0 f) in
    among_right x (brings b (kind_of b r) (kids b r) j) (cond (shuts (kind_of b r) j) (parameters b m) ys) (subst (λ u. Among x (cond u (parameters b m) ys)) (sym s) n)

-- the law of reach
pub law : ReachStands
law b m t e r k =
    let g = seen b m t e r k in
    record { binds = g.binds; met = g.met; reach = λ x. (forth b m t x (suc e) g.binds g.sight, λ a. back b m t x (suc e) a (suc e) g.binds g.sight refl (omega arith)) }

met_with : (s : State) (c : ℕ) (vs : List BindingId) → Met s c vs → (d : ℕ) (ws : List BindingId) → Met s d ws → c ≡ d → vs ≡ ws
met_with s c vs (Met.top x h l e) d ws (Met.top y h2 l2 e2) q = ap (λ k. held k s.entries) q
met_with s c vs (Met.top x h l e) d ws (Met.up y p zs h2 l2 e2 g) q = absurd (none_some p (sym e ∙ ap (λ k. (get_or s.scopes (k - 1) no_scope).parent) q ∙ e2))
met_with s c vs (Met.up x p zs h l e g) d ws (Met.top y h2 l2 e2) q = absurd (none_some p (sym e2 ∙ ap (λ k. (get_or s.scopes (k - 1) no_scope).parent) (sym q) ∙ e))
met_with s c vs (Met.up x p zs h l e g) d ws (Met.up y p2 zs2 h2 l2 e2 g2) q =
    let o : Some p ≡ Some p2 = sym e ∙ ap (λ k. (get_or s.scopes (k - 1) no_scope).parent) q ∙ e2 in
    let same : p ≡ p2 = cc in
    let i = met_with s p.0 zs g p2.0 zs2 g2 (ap (λ k. k.0) same) in
    ap (λ k. held k s.entries ++ zs) q ∙ ap (λ k. held y s.entries ++ k) i

pub met_once : MetOnce
met_once s c vs ws g h = met_with s c vs g c ws h refl

among_map : (b : Shape) (x : ℕ) (xs : List ℕ) → Among x xs → Among (bound b x) (map (bound b) xs)
among_map b x [] a = absurd a
among_map b x (y ∷ xs) (inl e) = inl (ap (bound b) e)
among_map b x (y ∷ xs) (inr a) = inr (among_map b x xs a)

pub unmapped : (b : Shape) (v : BindingId) (xs : List ℕ) → Among v (map (bound b) xs) → (x : ℕ) × (v ≡ bound b x) × Among x xs
unmapped b v [] a = absurd a
unmapped b v (y ∷ xs) (inl e) = (y, e, inl refl)
unmapped b v (y ∷ xs) (inr a) = let r = unmapped b v xs a in (r.0, r.1, inr r.2)

split_of : (v : BindingId) (xs ys : List BindingId) → Among v (xs ++ ys) → Among v xs ⊎ Among v ys
split_of v [] ys a = inr a
split_of v (z ∷ xs) ys (inl e) = inl (inl e)
split_of v (z ∷ xs) ys (inr a) = elim (split_of v xs ys a) [ inl l ↦ inl (inr l) | inr r ↦ inr r ]

left_of : (v : BindingId) (xs ys : List BindingId) → Among v xs → Among v (xs ++ ys)
left_of v [] ys a = absurd a
left_of v (z ∷ xs) ys (inl e) = inl e
left_of v (z ∷ xs) ys (inr a) = inr (left_of v xs ys a)

right_of : (v : BindingId) (xs ys : List BindingId) → Among v ys → Among v (xs ++ ys)
right_of v [] ys a = a
right_of v (z ∷ xs) ys a = inr (right_of v xs ys a)

met_holds : (s : State) (v : BindingId) (c : ℕ) (vs : List BindingId) → Met s c vs → Among v vs → Holds s v c
met_holds s v c vs (Met.top x h l e) a = record { scope = x; chain = itself; entry = a }
met_holds s v c vs (Met.up x p ws h l e g) a = elim (split_of v (held x s.entries) ws a) [
  | inl k ↦ record { scope = x; chain = itself; entry = k }
  | inr k ↦ let r = met_holds s v p.0 ws g k in record { scope = r.scope; chain = outward x p e r.chain; entry = r.entry }
]

here_met : (s : State) (v : BindingId) (d : ℕ) (vs : List BindingId) → Met s d vs → Among v (held d s.entries) → Among v vs
here_met s v d vs (Met.top x h l e) a = a
here_met s v d vs (Met.up x p ws h l e g) a = left_of v (held x s.entries) ws a

pub holds_met : (s : State) (v : BindingId) (h c : ℕ) → OnChain s h c → Among v (held h s.entries) → (d : ℕ) (vs : List BindingId) → Met s d vs → c ≡ d → Among v vs
holds_met s v h c itself a d vs g q = here_met s v d vs g (subst (λ k. Among v (held k s.entries)) q a)
holds_met s v h c (outward y p e w) a d vs (Met.top x z l f) q = absurd (none_some p (sym f ∙ ap (λ k. (get_or s.scopes (k - 1) no_scope).parent) (sym q) ∙ e))
holds_met s v h c (outward y p e w) a d vs (Met.up x p2 ws z l f g) q =
    let o : Some p ≡ Some p2 = sym e ∙ ap (λ k. (get_or s.scopes (k - 1) no_scope).parent) q ∙ f in
    let same : p ≡ p2 = cc in
    right_of v (held x s.entries) ws (holds_met s v h p.0 w a p2.0 ws g (ap (λ k. k.0) same))

-- the law of reach by bindings, from the law by lists
pub by_bindings : (b : Shape) (m : ℕ) (s : State) → ReachIn b m s → EntriesIn b m s
by_bindings b m s law e r k v =
    let g = law e r k in (
      (λ h. let a = unmapped b v g.binds (holds_met s v h.scope r.0 h.chain h.entry r.0 (map (bound b) g.binds) g.met refl) in
          record { at = a.0; binds = a.1; reach = (g.reach a.0).0 a.2 }),
      (λ h. met_holds s v r.0 (map (bound b) g.binds) g.met (subst (λ k. Among k (map (bound b) g.binds)) (sym h.binds) (among_map b h.at g.binds ((g.reach h.at).1 h.reach)))),
    )
