use Rattle.std.proofs.Common.{◌≡◌, ℕ, zero, suc, ◌-◌, ◌<◌, ◌≤◌, true, false, ◌⊎◌, List, [], ◌∷◌, length, get_or, drop, set, Some, None, Option, sym, refl, ap, ◌∙◌, subst, inl, inr, arith}
use Rattle.format.specs.declared.ids.ScopeId.{ScopeId}
use Rattle.format.specs.declared.ids.BindingId.{BindingId}
use Rattle.format.specs.declared.ids.BlockId.{BlockId}
use Rattle.format.specs.declared.ids.LabelId.{LabelId}
use Rattle.format.specs.declared.ids.Name.{Name}
use Rattle.format.specs.declared.ids.HygieneId.{HygieneId}
use Rattle.format.specs.declared.ids.MacroId.{MacroId}
use Rattle.reach.specs.declared.data.Place.{Place}
use Rattle.reach.specs.declared.data.ScopeKind.{ScopeKind}
use Rattle.reach.specs.declared.data.ScopeKind.TheVariants as scope
use Rattle.format.specs.declared.kind.NodeKind.{NodeKind}
use Rattle.format.specs.declared.kind.NodeKind.TheVariants.{Leaf, Use, Sequence, And, If, Let, Block, Loop, Closure, Match, Const, Repeat, Cast, LeafPattern, Bind, Patterns, ValuePattern, LeafType, Types, ArrayType, LetStatement, ExprStatement, MacroDef, OtherItem, Arm, Body}
use Rattle.reach.specs.Shape.{Shape}
use Rattle.reach.specs.Visit.{State, Visit, skip, nth, made, put, added, inner, constantly, all, each, step, others, labelled}
use Rattle.reach.specs.Words.{twice}
use Rattle.reach.proofs.EachKind.{tail_at, others_at}
use Rattle.std.proofs.lemmas.List.{get_or-set_same, get_or-set_other, length-set}
use Rattle.std.proofs.lemmas.Bool.{cases_eq}
use Rattle.reach.specs.Tables.{is_expr, most, kids, kid, kind_of}

-- e stands at n or below it
pub data Under (b : Shape) (e : ℕ) : ℕ → Type 0 where
  self : (n : ℕ) → 0 < n → n ≡ e → Under b e n
  down : (n i : ℕ) → 0 < n → Under b e (kid b n i) → Under b e n

abbrev pub Recorded : ℕ → State → Type 0
Recorded e s = (r : ScopeId) × (get_or s.placed (e - 1) None ≡ Some r)

-- if f, then e has a recorded scope
pub record Marked (f : Type 0) (e : ℕ) (s : State) : Type 0 where
  pub wide : length s.placed ≡ 512
  pub marks : f → Recorded e s

pub weaken : {f g : Type 0} {e : ℕ} {s : State} → (g → f) → Marked f e s → Marked g e s
weaken k h = record { wide = h.wide; marks = λ x. h.marks (k x) }

no_under : (b : Shape) (e n : ℕ) → n ≡ 0 → Under b e n → ⊥
no_under b e n q (self c z k) = absurd (omega arith)
no_under b e n q (down c i z u) = absurd (omega arith)

put_marks : {f : Type 0} {e : ℕ} (n : ℕ) (p : ScopeId) (s : State) → 0 < n → n ≤ 512 → Marked f e s → Marked (f ⊎ (n ≡ e)) e (put n p s)
unfolding put
put_marks {f} {e} n p s z l h = record {
  wide = length-set s.placed (n - 1) (Some p) ∙ h.wide;
  marks = λ x. elim x [
    | inl k ↦ elim (cases_eq (e - 1) (n - 1)) [
      | inl q ↦ (p, at_it q)
      | inr q ↦ let r = h.marks k in (r.0, get_or-set_other s.placed (n - 1) (e - 1) (Some p) None q ∙ r.1)
    ]
    | inr k ↦ (p, at_it (ap (λ j. j - 1) (sym k)))
  ];
}
  where
    at_it : e - 1 ≡ n - 1 → get_or (set s.placed (n - 1) (Some p)) (e - 1) None ≡ Some p
    at_it q = ap (λ j. get_or (set s.placed (n - 1) (Some p)) j None) q ∙ get_or-set_same s.placed (n - 1) (Some p) None (omega (arith, h.wide))

made_marks : {f : Type 0} {e : ℕ} (k : ScopeKind) (p : ScopeId) (s : State) → Marked f e s → Marked f e (made k p s).0
unfolding made
made_marks k p s h = record { wide = h.wide; marks = h.marks }

pub added_marks : {f : Type 0} {e : ℕ} (v : BindingId) (p : ScopeId) (s : State) → Marked f e s → Marked f e (added v p s)
unfolding added
added_marks v p s h = record { wide = h.wide; marks = h.marks }

abbrev pub Tame : Shape → ℕ → ℕ → Visit → Type 1
Tame b e c v = (f : Type 0) (at : Place) (s : State) → Marked f e s → Marked (f ⊎ Under b e c) e (v at s).0

pub data Tames (b : Shape) (e : ℕ) : List ℕ → List Visit → Type 1 where
  none : Tames b e [] []
  more : {c : ℕ} {v : Visit} {cs : List ℕ} {vs : List Visit} → Tame b e c v → Tames b e cs vs → Tames b e (c ∷ cs) (v ∷ vs)

abbrev pub SomeOf : Shape → ℕ → List ℕ → Type 0
SomeOf b e cs = (j : ℕ) × Under b e (get_or cs j 0)

split_some : (b : Shape) (e c : ℕ) (cs : List ℕ) → SomeOf b e (c ∷ cs) → Under b e c ⊎ SomeOf b e cs
split_some b e c cs u = go u.0 u.1
  where
    go : (j : ℕ) → Under b e (get_or (c ∷ cs) j 0) → Under b e c ⊎ SomeOf b e cs
    go zero w = inl w
    go (suc j) w = inr (j, w)

no_some : (b : Shape) (e : ℕ) → SomeOf b e [] → ⊥
no_some b e u = no_under b e 0 refl u.1

pub each_tame : {b : Shape} {e : ℕ} {cs : List ℕ} {vs : List Visit} → Tames b e cs vs → (f : Type 0) (at : Place) (s : State) → Marked f e s → Marked (f ⊎ SomeOf b e cs) e (each vs at s)
unfolding each
each_tame {b} {e} none f at s h = weaken (λ x. elim x [ inl k ↦ k | inr k ↦ absurd (no_some b e k) ]) h
each_tame {b} {e} (more {c = c} {v = v} {cs = cs} {vs = vs} t ts) f at s h =
    weaken (λ x. elim x [ inl k ↦ inl (inl k) | inr k ↦ elim (split_some b e c cs k) [ inl w ↦ inl (inr w) | inr w ↦ inr w ] ]) (each_tame ts (f ⊎ Under b e c) at (v at s).0 (t f at s h))

all_tame : {b : Shape} {e : ℕ} {cs : List ℕ} {vs : List Visit} → Tames b e cs vs → (f : Type 0) (at : Place) (s : State) → Marked f e s → Marked (f ⊎ SomeOf b e cs) e (all vs at s).0
unfolding all
all_tame {b} {e} none f at s h = weaken (λ x. elim x [ inl k ↦ k | inr k ↦ absurd (no_some b e k) ]) h
all_tame {b} {e} (more {c = c} {v = v} {cs = cs} {vs = vs} t ts) f at s h =
    weaken (λ x. elim x [ inl k ↦ inl (inl k) | inr k ↦ elim (split_some b e c cs k) [ inl w ↦ inl (inr w) | inr w ↦ inr w ] ]) (all_tame ts (f ⊎ Under b e c) (v at s).1 (v at s).0 (t f at s h))

pub tame_none : (b : Shape) (e : ℕ) → Tame b e 0 skip
tame_none b e f at s h = weaken (λ x. elim x [ inl k ↦ k | inr k ↦ absurd (no_under b e 0 refl k) ]) h

pub tame_at : {b : Shape} {e : ℕ} {cs : List ℕ} {vs : List Visit} → Tames b e cs vs → (i : ℕ) → Tame b e (get_or cs i 0) (get_or vs i skip)
tame_at {b} {e} none i = tame_none b e
tame_at (more x y) zero = x
tame_at (more x y) (suc i) = tame_at y i

pub tame_drop : {b : Shape} {e : ℕ} (i : ℕ) {cs : List ℕ} {vs : List Visit} → Tames b e cs vs → Tames b e (drop i cs) (drop i vs)
tame_drop zero g = g
tame_drop (suc i) none = none
tame_drop (suc i) (more x y) = tame_drop i y

tame_others : {b : Shape} {e : ℕ} {cs : List ℕ} {vs : List Visit} → Tames b e cs vs → Tames b e (others cs) (others vs)
unfolding others
tame_others none = none
tame_others (more x none) = more x none
tame_others (more x (more y z)) = more x (tame_others z)

-- what is known of a node n of kind k
pub record Known (b : Shape) (e n : ℕ) (k : NodeKind) : Type 0 where
  pub real : (0 < n) × (n ≤ 512)
  pub kind : kind_of b n ≡ k
  pub expr : is_expr (kind_of b e) ≡ true
  pub full : (i : ℕ) → most k ≤ i → kid b n i ≡ 0

abbrev pub Tamed : Shape → ℕ → ℕ → NodeKind → Type 1
Tamed b e n k = (vs : List Visit) → Known b e n k → Tames b e (kids b n) vs → (f : Type 0) (at : Place) (s : State) → Marked f e s → Marked (f ⊎ Under b e n) e (step n k vs at s).0

-- e is n, or below one of its children
pub opened_up : (b : Shape) (e n : ℕ) → Under b e n → (n ≡ e) ⊎ SomeOf b e (kids b n)
opened_up b e n (self c z q) = inl q
opened_up b e n (down c i z u) = inr (i, u)

-- where n is no expression, e is below a child
only_below : {b : Shape} {e n : ℕ} {k : NodeKind} → Known b e n k → is_expr k ≡ false → Under b e n → SomeOf b e (kids b n)
only_below {b} {e} {n} {k} g q u = elim (opened_up b e n u) [
  | inl r ↦
      let x : true ≡ false = sym g.expr ∙ ap (λ j. is_expr (kind_of b j)) (sym r) ∙ ap is_expr g.kind ∙ q in
      let z : ◌≡◌ {A = ℕ} 0 1 = cc in absurd (omega arith)
  | inr r ↦ r
]

-- which of the first one, two or three children
first_one : {b : Shape} {e : ℕ} (n : ℕ) → ((i : ℕ) → 1 ≤ i → kid b n i ≡ 0) → SomeOf b e (kids b n) → Under b e (kid b n 0)
first_one {b} {e} n g u = go u.0 u.1
  where
    go : (i : ℕ) → Under b e (kid b n i) → Under b e (kid b n 0)
    go zero w = w
    go (suc i) w = absurd (no_under b e (kid b n (suc i)) (g (suc i) (omega arith)) w)

first_two : {b : Shape} {e : ℕ} (n : ℕ) → ((i : ℕ) → 2 ≤ i → kid b n i ≡ 0) → SomeOf b e (kids b n) → Under b e (kid b n 0) ⊎ Under b e (kid b n 1)
first_two {b} {e} n g u = go u.0 u.1
  where
    go : (i : ℕ) → Under b e (kid b n i) → Under b e (kid b n 0) ⊎ Under b e (kid b n 1)
    go zero w = inl w
    go (suc zero) w = inr w
    go (suc (suc i)) w = absurd (no_under b e (kid b n (suc (suc i))) (g (suc (suc i)) (omega arith)) w)

first_three : {b : Shape} {e : ℕ} (n : ℕ) → ((i : ℕ) → 3 ≤ i → kid b n i ≡ 0) → SomeOf b e (kids b n) → Under b e (kid b n 0) ⊎ (Under b e (kid b n 1) ⊎ Under b e (kid b n 2))
first_three {b} {e} n g u = go u.0 u.1
  where
    go : (i : ℕ) → Under b e (kid b n i) → Under b e (kid b n 0) ⊎ (Under b e (kid b n 1) ⊎ Under b e (kid b n 2))
    go zero w = inl w
    go (suc zero) w = inr (inl w)
    go (suc (suc zero)) w = inr (inr w)
    go (suc (suc (suc i))) w = absurd (no_under b e (kid b n (suc (suc (suc i)))) (g (suc (suc (suc i))) (omega arith)) w)

pub first_rest : {b : Shape} {e : ℕ} (n : ℕ) → SomeOf b e (kids b n) → Under b e (kid b n 0) ⊎ SomeOf b e (drop 1 (kids b n))
first_rest {b} {e} n u = go u.0 u.1
  where
    go : (i : ℕ) → Under b e (kid b n i) → Under b e (kid b n 0) ⊎ SomeOf b e (drop 1 (kids b n))
    go zero w = inl w
    go (suc i) w = inr (i, subst (λ c. Under b e c) (sym (tail_at 0 (kids b n) i)) w)

leaf : (b : Shape) (e n : ℕ) → Tamed b e n Leaf
unfolding step
leaf b e n vs g t f at s h = weaken (λ x. elim x [ inl k ↦ inl k | inr u ↦ elim (opened_up b e n u) [ inl q ↦ inr q | inr w ↦ absurd (no_under b e (kid b n w.0) (g.full w.0 (omega arith)) w.1) ] ]) (put_marks n at.current s g.real.0 g.real.1 h)

use_of_lem : (b : Shape) (e n : ℕ) (x : Name) (y : HygieneId) → Tamed b e n (Use x y)
unfolding step
use_of_lem b e n x y vs g t f at s h = weaken (λ x. elim x [ inl k ↦ inl k | inr u ↦ elim (opened_up b e n u) [ inl q ↦ inr q | inr w ↦ absurd (no_under b e (kid b n w.0) (g.full w.0 (omega arith)) w.1) ] ]) (put_marks n at.current s g.real.0 g.real.1 h)

sequence : (b : Shape) (e n : ℕ) → Tamed b e n Sequence
unfolding step
sequence b e n vs g t f at s h = weaken (λ x. elim x [ inl k ↦ inl (inl k) | inr u ↦ elim (opened_up b e n u) [ inl q ↦ inl (inr q) | inr w ↦ inr w ] ]) (each_tame t (f ⊎ (n ≡ e)) at (put n at.current s) (put_marks n at.current s g.real.0 g.real.1 h))

both : (b : Shape) (e n : ℕ) → Tamed b e n And
unfolding step
both b e n vs g t f at s h =
    let h1 = put_marks n at.current s g.real.0 g.real.1 h in
    let s1 = put n at.current s in
    let h2 = tame_at t 0 (f ⊎ (n ≡ e)) at s1 h1 in
    let r2 = nth vs 0 at s1 in
    let s2 = r2.0 in
    let p0 = r2.1 in
    let h3 = tame_at t 1 ((f ⊎ (n ≡ e)) ⊎ Under b e (kid b n 0)) p0 s2 h2 in
    let r3 = nth vs 1 p0 s2 in
    let s3 = r3.0 in
    weaken (λ x. elim x [ inl k ↦ (inl (inl (inl k))) | inr u ↦ elim (opened_up b e n u) [ inl q ↦ (inl (inl (inr q))) | inr w ↦ elim (first_two n g.full w) [ inl y ↦ (inl (inr y)) | inr y ↦ (inr y) ] ] ]) h3

if : (b : Shape) (e n : ℕ) → Tamed b e n If
unfolding step inner
if b e n vs g t f at s h =
    let h1 = put_marks n at.current s g.real.0 g.real.1 h in
    let s1 = put n at.current s in
    let h2 = made_marks scope.Plain at.current s1 h1 in
    let o = (inner scope.Plain at s1).1 in
    let s2 = (inner scope.Plain at s1).0 in
    let h3 = tame_at t 0 (f ⊎ (n ≡ e)) o s2 h2 in
    let r3 = nth vs 0 o s2 in
    let s3 = r3.0 in
    let p0 = r3.1 in
    let h4 = tame_at t 1 ((f ⊎ (n ≡ e)) ⊎ Under b e (kid b n 0)) p0 s3 h3 in
    let r4 = nth vs 1 p0 s3 in
    let s4 = r4.0 in
    let h5 = tame_at t 2 (((f ⊎ (n ≡ e)) ⊎ Under b e (kid b n 0)) ⊎ Under b e (kid b n 1)) at s4 h4 in
    let r5 = nth vs 2 at s4 in
    let s5 = r5.0 in
    weaken (λ x. elim x [ inl k ↦ (inl (inl (inl (inl k)))) | inr u ↦ elim (opened_up b e n u) [ inl q ↦ (inl (inl (inl (inr q)))) | inr w ↦ elim (first_three n g.full w) [ inl y ↦ (inl (inl (inr y))) | inr y ↦ elim y [ inl z ↦ (inl (inr z)) | inr z ↦ (inr z) ] ] ] ]) h5

condition : (b : Shape) (e n : ℕ) → Tamed b e n Let
unfolding step inner
condition b e n vs g t f at s h =
    let h1 = put_marks n at.current s g.real.0 g.real.1 h in
    let s1 = put n at.current s in
    let h2 = tame_at t 1 (f ⊎ (n ≡ e)) at s1 h1 in
    let r2 = nth vs 1 at s1 in
    let s2 = r2.0 in
    let h3 = made_marks scope.Plain at.current s2 h2 in
    let o = (inner scope.Plain at s2).1 in
    let s3 = (inner scope.Plain at s2).0 in
    let h4 = tame_at t 0 ((f ⊎ (n ≡ e)) ⊎ Under b e (kid b n 1)) o s3 h3 in
    let r4 = nth vs 0 o s3 in
    let s4 = r4.0 in
    weaken (λ x. elim x [ inl k ↦ (inl (inl (inl k))) | inr u ↦ elim (opened_up b e n u) [ inl q ↦ (inl (inl (inr q))) | inr w ↦ elim (first_two n g.full w) [ inl y ↦ (inr y) | inr y ↦ (inl (inr y)) ] ] ]) h4

block_plain : (b : Shape) (e n : ℕ) (l : Option LabelId) → Tamed b e n (Block None l)
unfolding step inner
block_plain b e n l vs g t f at s h =
    let h1 = put_marks n at.current s g.real.0 g.real.1 h in
    let s1 = put n at.current s in
    let h2 = made_marks (labelled l) at.current s1 h1 in
    let o = (inner (labelled l) at s1).1 in
    let s2 = (inner (labelled l) at s1).0 in
    let h3 = put_marks n o.current s2 g.real.0 g.real.1 h2 in
    let s3 = put n o.current s2 in
    let h4 = all_tame (tame_drop 1 t) ((f ⊎ (n ≡ e)) ⊎ (n ≡ e)) o s3 h3 in
    let r4 = all (drop 1 vs) o s3 in
    let s4 = r4.0 in
    let p0 = r4.1 in
    let h5 = tame_at t 0 (((f ⊎ (n ≡ e)) ⊎ (n ≡ e)) ⊎ SomeOf b e (drop 1 (kids b n))) p0 s4 h4 in
    let r5 = nth vs 0 p0 s4 in
    let s5 = r5.0 in
    weaken (λ x. elim x [ inl k ↦ (inl (inl (inl (inl k)))) | inr u ↦ elim (opened_up b e n u) [ inl q ↦ (inl (inl (inr q))) | inr w ↦ elim (first_rest n w) [ inl y ↦ (inr y) | inr y ↦ (inl (inr y)) ] ] ]) h5

block_numbered : (b : Shape) (e n : ℕ) (x : BlockId) (l : Option LabelId) → Tamed b e n (Block (Some x) l)
unfolding step
block_numbered b e n x l vs g t f at s h =
    let h1 = put_marks n at.current s g.real.0 g.real.1 h in
    let s1 = put n at.current s in
    let h2 = made_marks (scope.Block x l) at.current s1 h1 in
    let m2 = made (scope.Block x l) at.current s1 in
    let s2 = m2.0 in
    let h3 = made_marks (scope.Block x None) at.constant s2 h2 in
    let m3 = made (scope.Block x None) at.constant s2 in
    let s3 = m3.0 in
    let o : Place = record { current = m2.1; constant = m3.1 } in
    let h5 = put_marks n o.current s3 g.real.0 g.real.1 h3 in
    let s5 = put n o.current s3 in
    let h6 = all_tame (tame_drop 1 t) ((f ⊎ (n ≡ e)) ⊎ (n ≡ e)) o s5 h5 in
    let r6 = all (drop 1 vs) o s5 in
    let s6 = r6.0 in
    let p0 = r6.1 in
    let h7 = tame_at t 0 (((f ⊎ (n ≡ e)) ⊎ (n ≡ e)) ⊎ SomeOf b e (drop 1 (kids b n))) p0 s6 h6 in
    let r7 = nth vs 0 p0 s6 in
    let s7 = r7.0 in
    weaken (λ x. elim x [ inl k ↦ (inl (inl (inl (inl k)))) | inr u ↦ elim (opened_up b e n u) [ inl q ↦ (inl (inl (inr q))) | inr w ↦ elim (first_rest n w) [ inl y ↦ (inr y) | inr y ↦ (inl (inr y)) ] ] ]) h7

loop : (b : Shape) (e n : ℕ) (l : Option LabelId) → Tamed b e n (Loop l)
unfolding step inner
loop b e n l vs g t f at s h =
    let h1 = put_marks n at.current s g.real.0 g.real.1 h in
    let s1 = put n at.current s in
    let h2 = made_marks (labelled l) at.current s1 h1 in
    let o = (inner (labelled l) at s1).1 in
    let s2 = (inner (labelled l) at s1).0 in
    let h3 = tame_at t 0 (f ⊎ (n ≡ e)) o s2 h2 in
    let r3 = nth vs 0 o s2 in
    let s3 = r3.0 in
    weaken (λ x. elim x [ inl k ↦ (inl (inl k)) | inr u ↦ elim (opened_up b e n u) [ inl q ↦ (inl (inr q)) | inr w ↦ (inr (first_one n g.full w)) ] ]) h3

matching : (b : Shape) (e n : ℕ) → Tamed b e n Match
unfolding step
matching b e n vs g t f at s h =
    let h1 = put_marks n at.current s g.real.0 g.real.1 h in
    let s1 = put n at.current s in
    let h2 = tame_at t 0 (f ⊎ (n ≡ e)) at s1 h1 in
    let r2 = nth vs 0 at s1 in
    let s2 = r2.0 in
    let h3 = each_tame (tame_drop 1 t) ((f ⊎ (n ≡ e)) ⊎ Under b e (kid b n 0)) at s2 h2 in
    let s3 = each (drop 1 vs) at s2 in
    weaken (λ x. elim x [ inl k ↦ (inl (inl (inl k))) | inr u ↦ elim (opened_up b e n u) [ inl q ↦ (inl (inl (inr q))) | inr w ↦ elim (first_rest n w) [ inl y ↦ (inl (inr y)) | inr y ↦ (inr y) ] ] ]) h3

constant : (b : Shape) (e n : ℕ) → Tamed b e n Const
unfolding step
constant b e n vs g t f at s h =
    let h1 = put_marks n at.current s g.real.0 g.real.1 h in
    let s1 = put n at.current s in
    let h2 = tame_at t 0 (f ⊎ (n ≡ e)) (constantly at) s1 h1 in
    let r2 = nth vs 0 (constantly at) s1 in
    let s2 = r2.0 in
    weaken (λ x. elim x [ inl k ↦ (inl (inl k)) | inr u ↦ elim (opened_up b e n u) [ inl q ↦ (inl (inr q)) | inr w ↦ (inr (first_one n g.full w)) ] ]) h2

repeat : (b : Shape) (e n : ℕ) → Tamed b e n Repeat
unfolding step
repeat b e n vs g t f at s h =
    let h1 = put_marks n at.current s g.real.0 g.real.1 h in
    let s1 = put n at.current s in
    let h2 = tame_at t 0 (f ⊎ (n ≡ e)) at s1 h1 in
    let r2 = nth vs 0 at s1 in
    let s2 = r2.0 in
    let h3 = tame_at t 1 ((f ⊎ (n ≡ e)) ⊎ Under b e (kid b n 0)) (constantly at) s2 h2 in
    let r3 = nth vs 1 (constantly at) s2 in
    let s3 = r3.0 in
    weaken (λ x. elim x [ inl k ↦ (inl (inl (inl k))) | inr u ↦ elim (opened_up b e n u) [ inl q ↦ (inl (inl (inr q))) | inr w ↦ elim (first_two n g.full w) [ inl y ↦ (inl (inr y)) | inr y ↦ (inr y) ] ] ]) h3

cast : (b : Shape) (e n : ℕ) → Tamed b e n Cast
unfolding step
cast b e n vs g t f at s h =
    let h1 = put_marks n at.current s g.real.0 g.real.1 h in
    let s1 = put n at.current s in
    let h2 = tame_at t 0 (f ⊎ (n ≡ e)) at s1 h1 in
    let r2 = nth vs 0 at s1 in
    let s2 = r2.0 in
    let h3 = tame_at t 1 ((f ⊎ (n ≡ e)) ⊎ Under b e (kid b n 0)) (constantly at) s2 h2 in
    let r3 = nth vs 1 (constantly at) s2 in
    let s3 = r3.0 in
    weaken (λ x. elim x [ inl k ↦ (inl (inl (inl k))) | inr u ↦ elim (opened_up b e n u) [ inl q ↦ (inl (inl (inr q))) | inr w ↦ elim (first_two n g.full w) [ inl y ↦ (inl (inr y)) | inr y ↦ (inr y) ] ] ]) h3

bind : (b : Shape) (e n : ℕ) (v : BindingId) → Tamed b e n (Bind v)
unfolding step
bind b e n v vs g t f at s h =
    let h1 = added_marks v at.current s h in
    let s1 = added v at.current s in
    let h2 = each_tame t f at s1 h1 in
    let s2 = each vs at s1 in
    weaken (λ x. elim x [ inl k ↦ (inl k) | inr u ↦ (let w = only_below g refl u in (inr w)) ]) h2

patterns : (b : Shape) (e n : ℕ) → Tamed b e n Patterns
unfolding step
patterns b e n vs g t f at s h =
    let h1 = each_tame t f at s h in
    let s1 = each vs at s in
    weaken (λ x. elim x [ inl k ↦ (inl k) | inr u ↦ (let w = only_below g refl u in (inr w)) ]) h1

types : (b : Shape) (e n : ℕ) → Tamed b e n Types
unfolding step
types b e n vs g t f at s h =
    let h1 = each_tame t f (constantly at) s h in
    let s1 = each vs (constantly at) s in
    weaken (λ x. elim x [ inl k ↦ (inl k) | inr u ↦ (let w = only_below g refl u in (inr w)) ]) h1

array_type : (b : Shape) (e n : ℕ) → Tamed b e n ArrayType
unfolding step
array_type b e n vs g t f at s h =
    let h1 = each_tame t f (constantly at) s h in
    let s1 = each vs (constantly at) s in
    weaken (λ x. elim x [ inl k ↦ (inl k) | inr u ↦ (let w = only_below g refl u in (inr w)) ]) h1

values : (b : Shape) (e n : ℕ) → Tamed b e n ValuePattern
unfolding step
values b e n vs g t f at s h =
    let h1 = each_tame t f at s h in
    let s1 = each vs at s in
    weaken (λ x. elim x [ inl k ↦ (inl k) | inr u ↦ (let w = only_below g refl u in (inr w)) ]) h1

letting : (b : Shape) (e n : ℕ) → Tamed b e n LetStatement
unfolding step inner
letting b e n vs g t f at s h =
    let h1 = each_tame (tame_drop 1 t) f at s h in
    let s1 = each (drop 1 vs) at s in
    let h2 = made_marks scope.Plain at.current s1 h1 in
    let o = (inner scope.Plain at s1).1 in
    let s2 = (inner scope.Plain at s1).0 in
    let h3 = tame_at t 0 (f ⊎ SomeOf b e (drop 1 (kids b n))) o s2 h2 in
    let r3 = nth vs 0 o s2 in
    let s3 = r3.0 in
    weaken (λ x. elim x [ inl k ↦ (inl (inl k)) | inr u ↦ (let w = only_below g refl u in elim (first_rest n w) [ inl y ↦ (inr y) | inr y ↦ (inl (inr y)) ]) ]) h3

expression : (b : Shape) (e n : ℕ) → Tamed b e n ExprStatement
unfolding step
expression b e n vs g t f at s h =
    let h1 = tame_at t 0 f at s h in
    let r1 = nth vs 0 at s in
    let s1 = r1.0 in
    weaken (λ x. elim x [ inl k ↦ (inl k) | inr u ↦ (let w = only_below g refl u in (inr (first_one n g.full w))) ]) h1

arm : (b : Shape) (e n : ℕ) → Tamed b e n Arm
unfolding step inner
arm b e n vs g t f at s h =
    let h1 = made_marks scope.Plain at.current s h in
    let o = (inner scope.Plain at s).1 in
    let s1 = (inner scope.Plain at s).0 in
    let h2 = tame_at t 0 f o s1 h1 in
    let r2 = nth vs 0 o s1 in
    let s2 = r2.0 in
    let h3 = tame_at t 1 (f ⊎ Under b e (kid b n 0)) o s2 h2 in
    let r3 = nth vs 1 o s2 in
    let s3 = r3.0 in
    let p1 = r3.1 in
    let h4 = tame_at t 2 ((f ⊎ Under b e (kid b n 0)) ⊎ Under b e (kid b n 1)) p1 s3 h3 in
    let r4 = nth vs 2 p1 s3 in
    let s4 = r4.0 in
    weaken (λ x. elim x [ inl k ↦ (inl (inl (inl k))) | inr u ↦ (let w = only_below g refl u in elim (first_three n g.full w) [ inl y ↦ (inl (inl (inr y))) | inr y ↦ elim y [ inl z ↦ (inl (inr z)) | inr z ↦ (inr z) ] ]) ]) h4

macro : (b : Shape) (e n : ℕ) (x : MacroId) → Tamed b e n (MacroDef x)
unfolding step
macro b e n x vs g t f at s h =
    let h1 = made_marks (scope.MacroDef x) at.current s h in
    let m1 = made (scope.MacroDef x) at.current s in
    let s1 = m1.0 in
    let h2 = made_marks (scope.MacroDef x) at.constant s1 h1 in
    let m2 = made (scope.MacroDef x) at.constant s1 in
    let s2 = m2.0 in
    weaken (λ x. elim x [ inl k ↦ k | inr u ↦ (let w = only_below g refl u in absurd (no_under b e (kid b n w.0) (g.full w.0 (omega arith)) w.1)) ]) h2

item : (b : Shape) (e n : ℕ) → Tamed b e n OtherItem
unfolding step
item b e n vs g t f at s h =
    weaken (λ x. elim x [ inl k ↦ k | inr u ↦ (let w = only_below g refl u in absurd (no_under b e (kid b n w.0) (g.full w.0 (omega arith)) w.1)) ]) h

leaf_pattern : (b : Shape) (e n : ℕ) → Tamed b e n LeafPattern
unfolding step
leaf_pattern b e n vs g t f at s h =
    weaken (λ x. elim x [ inl k ↦ k | inr u ↦ (let w = only_below g refl u in absurd (no_under b e (kid b n w.0) (g.full w.0 (omega arith)) w.1)) ]) h

leaf_type : (b : Shape) (e n : ℕ) → Tamed b e n LeafType
unfolding step
leaf_type b e n vs g t f at s h =
    weaken (λ x. elim x [ inl k ↦ k | inr u ↦ (let w = only_below g refl u in absurd (no_under b e (kid b n w.0) (g.full w.0 (omega arith)) w.1)) ]) h

body : (b : Shape) (e n : ℕ) (x : Option BindingId) → Tamed b e n (Body x)
unfolding step
body b e n x vs g t f at s h =
    weaken (λ x. elim x [ inl k ↦ k | inr u ↦ (let w = only_below g refl u in absurd (no_under b e (kid b n w.0) (g.full w.0 (omega arith)) w.1)) ]) h

pub halves : (k : ℕ) → ((j : ℕ) × (k ≡ twice j)) ⊎ ((j : ℕ) × (k ≡ suc (twice j)))
halves zero = inl (0, refl)
halves (suc k) = elim (halves k) [ inl p ↦ inr (p.0, ap suc p.1) | inr p ↦ inl (suc p.0, ap suc p.1) ]

in_closure : {b : Shape} {e : ℕ} (n : ℕ) → SomeOf b e (kids b n) → (Under b e (kid b n 0) ⊎ Under b e (kid b n 1)) ⊎ (SomeOf b e (others (drop 2 (kids b n))) ⊎ SomeOf b e (others (drop 3 (kids b n))))
in_closure {b} {e} n u = go u.0 u.1
  where
    go : (i : ℕ) → Under b e (kid b n i) → (Under b e (kid b n 0) ⊎ Under b e (kid b n 1)) ⊎ (SomeOf b e (others (drop 2 (kids b n))) ⊎ SomeOf b e (others (drop 3 (kids b n))))
    go zero w = inl (inl w)
    go (suc zero) w = inl (inr w)
    go (suc (suc k)) w = elim (halves k) [
      | inl p ↦ inr (inl (p.0, subst (λ c. Under b e c) (ap (λ j. kid b n (suc (suc j))) p.1 ∙ sym (others_at (drop 2 (kids b n)) p.0 ∙ tail_at 1 (kids b n) (twice p.0) ∙ tail_at 0 (kids b n) (suc (twice p.0)))) w))
      | inr p ↦ inr (inr (p.0, subst (λ c. Under b e c) (ap (λ j. kid b n (suc (suc j))) p.1 ∙ sym (others_at (drop 3 (kids b n)) p.0 ∙ tail_at 2 (kids b n) (twice p.0) ∙ tail_at 1 (kids b n) (suc (twice p.0)) ∙ tail_at 0 (kids b n) (suc (suc (twice p.0))))) w))
    ]

closure : (b : Shape) (e n : ℕ) → Tamed b e n Closure
unfolding step inner
closure b e n vs g t f at s h =
    let h1 = put_marks n at.current s g.real.0 g.real.1 h in
    let s1 = put n at.current s in
    let h2 = each_tame (tame_others (tame_drop 3 t)) (f ⊎ (n ≡ e)) (constantly at) s1 h1 in
    let s2 = each (others (drop 3 vs)) (constantly at) s1 in
    let h3 = tame_at t 1 ((f ⊎ (n ≡ e)) ⊎ SomeOf b e (others (drop 3 (kids b n)))) (constantly at) s2 h2 in
    let r3 = nth vs 1 (constantly at) s2 in
    let s3 = r3.0 in
    let h4 = made_marks scope.Plain at.current s3 h3 in
    let o = (inner scope.Plain at s3).1 in
    let s4 = (inner scope.Plain at s3).0 in
    let h5 = each_tame (tame_others (tame_drop 2 t)) (((f ⊎ (n ≡ e)) ⊎ SomeOf b e (others (drop 3 (kids b n)))) ⊎ Under b e (kid b n 1)) o s4 h4 in
    let s5 = each (others (drop 2 vs)) o s4 in
    let h6 = tame_at t 0 ((((f ⊎ (n ≡ e)) ⊎ SomeOf b e (others (drop 3 (kids b n)))) ⊎ Under b e (kid b n 1)) ⊎ SomeOf b e (others (drop 2 (kids b n)))) o s5 h5 in
    let r6 = nth vs 0 o s5 in
    let s6 = r6.0 in
    weaken (λ x. elim x [ inl k ↦ (inl (inl (inl (inl (inl k))))) | inr u ↦ elim (opened_up b e n u) [ inl q ↦ (inl (inl (inl (inl (inr q))))) | inr w ↦ elim (in_closure n w) [ inl y ↦ elim y [ inl z ↦ (inr z) | inr z ↦ (inl (inl (inr z))) ] | inr y ↦ elim y [ inl z ↦ (inl (inr z)) | inr z ↦ (inl (inl (inl (inr z)))) ] ] ] ]) h6

block : (b : Shape) (e n : ℕ) (x : Option BlockId) (l : Option LabelId) → Tamed b e n (Block x l)
block b e n None l = block_plain b e n l
block b e n (Some x) l = block_numbered b e n x l

pub tame_kind : (b : Shape) (e n : ℕ) (k : NodeKind) → Tamed b e n k
tame_kind b e n Leaf = leaf b e n
tame_kind b e n (Use x y) = use_of_lem b e n x y
tame_kind b e n Sequence = sequence b e n
tame_kind b e n And = both b e n
tame_kind b e n If = if b e n
tame_kind b e n Let = condition b e n
tame_kind b e n (Block x l) = block b e n x l
tame_kind b e n (Loop l) = loop b e n l
tame_kind b e n Closure = closure b e n
tame_kind b e n Match = matching b e n
tame_kind b e n Const = constant b e n
tame_kind b e n Repeat = repeat b e n
tame_kind b e n Cast = cast b e n
tame_kind b e n (Bind v) = bind b e n v
tame_kind b e n Patterns = patterns b e n
tame_kind b e n Types = types b e n
tame_kind b e n ArrayType = array_type b e n
tame_kind b e n ValuePattern = values b e n
tame_kind b e n LetStatement = letting b e n
tame_kind b e n ExprStatement = expression b e n
tame_kind b e n (MacroDef x) = macro b e n x
tame_kind b e n OtherItem = item b e n
tame_kind b e n LeafPattern = leaf_pattern b e n
tame_kind b e n LeafType = leaf_type b e n
tame_kind b e n Arm = arm b e n
tame_kind b e n (Body x) = body b e n x
