use Rattle.std.proofs.Common.{◌≡◌, ℕ, zero, suc, ◌-◌, ◌<◌, ◌≤◌, Bool, true, false, cond, List, [], ◌∷◌, ◌++◌, map, length, get_or, drop, replicate, Some, None, Option, sym, refl, ap, ◌∙◌, subst, inl, inr, append-nil, arith}
use mathlib.Core.List.{map-append}
use Rattle.format.specs.declared.ids.ScopeId.{ScopeId}
use Rattle.format.specs.declared.ids.BindingId.{BindingId}
use Rattle.format.specs.declared.kind.NodeKind.{NodeKind}
use Rattle.format.specs.declared.kind.NodeKind.TheVariants.{Leaf, Use, Sequence, And, If, Let, Block, Loop, Closure, Match, Const, Repeat, Cast, LeafPattern, Bind, Patterns, ValuePattern, LeafType, Types, ArrayType, LetStatement, ExprStatement, MacroDef, OtherItem, Arm, Body}
use Rattle.format.specs.declared.ids.NodeId.{NodeId}
use Rattle.reach.specs.Blank.{no_scope}
use Rattle.format.specs.Ids.{number_of}
use Rattle.reach.specs.Shape.{Shape, Below, children_of}
use Rattle.reach.specs.Visit.{State, Visit, skip, each, step, of_child, folded, below as values, visit_of, visits, built, first, start, self_in, selfed}
use Rattle.reach.specs.Law.{BlocksHoldNone, OnlyExpressions, bound, held, holds_none, Sight, root, below, Met, Seen, TreeLaw, present, binds, leaves, all_binds, parameters, bind_step, leave_step, binding_of, self_of, brings, shuts}
use Rattle.reach.specs.Tables.{is_body, suits, unless, Fits, NodeOf, binding, kids, kid, kind_of, pattern_at}
use Rattle.reach.proofs.Runs.{View, Fair, Run, run_then}
use Rattle.reach.proofs.Good.{Here, After, Good, Goods, within, here_run, quiet, each_good, good_none, good_at, good_drop}
use Rattle.reach.proofs.EachKind.{Given, by_kind, tail_at, self_run}
use Rattle.std.proofs.lemmas.Bool.{cases_lt}
use Rattle.std.proofs.lemmas.List.{get_or_past, length-map}
use Rattle.reach.proofs.Fold.{folded_is, falls}

present_is : {X : Type 0} (x : X) (f : ℕ → X) (n : ℕ) → 0 < n → present x f n ≡ f n
present_is x f zero h = absurd (omega arith)
present_is x f (suc n) h = refl

of_child_lem : {X : Type 0} (x : X) (f : ℕ → X) (cs : List (Option NodeId)) → map (of_child x f) cs ≡ map (present x f) (map number_of cs)
of_child_lem x f [] = refl
of_child_lem x f (None ∷ cs) = ap (λ k. x ∷ k) (of_child_lem x f cs)
of_child_lem x f (Some c ∷ cs) = ap (λ k. f c.raw ∷ k) (of_child_lem x f cs) ∙ ap (λ k. k ∷ map (present x f) (map number_of cs)) (sym (present_is x f c.raw c.real.0))

kids_below : {X : Type 0} (x : X) (f : ℕ → NodeKind → List X → X) (b : Shape) (n : ℕ) → values x f b n ≡ map (present x (folded x f b)) (kids b n)
unfolding kids
kids_below x f b n = of_child_lem x (folded x f b) (children_of b n)

pub binds_are : (b : Shape) (fall : Below b.nodes b.children) (n : ℕ) → 0 < n → n ≤ 512 → binds b n ≡ bind_step n (kind_of b n) (map (binds b) (kids b n))
unfolding binds
binds_are b fall n p q = present_is [] (folded [] bind_step b) n p ∙ folded_is [] bind_step b fall n p q ∙ ap (bind_step n (kind_of b n)) (kids_below [] bind_step b n)

pub leaves_are : (b : Shape) (fall : Below b.nodes b.children) (n : ℕ) → 0 < n → n ≤ 512 → leaves b n ≡ leave_step b n (kind_of b n) (map (leaves b) (kids b n))
unfolding leaves
leaves_are b fall n p q = present_is [] (folded [] (leave_step b) b) n p ∙ folded_is [] (leave_step b) b fall n p q ∙ ap (leave_step b n (kind_of b n)) (kids_below [] (leave_step b) b n)

go : Shape → ℕ → Visit
go b = present skip (visit_of b)

visits_are : (b : Shape) (n : ℕ) → visits b n ≡ map (go b) (kids b n)
unfolding go
visits_are b n = kids_below skip step b n

goods_of : (b : Shape) (m : ℕ) (cs : List (Option NodeId)) (n : ℕ) → ((i : ℕ) → i < length cs → number_of (get_or cs i None) < n) → ((c : ℕ) → c < n → Good b m c (go b c)) → Goods b m (map number_of cs) (map (go b) (map number_of cs))
goods_of b m [] n h ih = Goods.none
goods_of b m (c ∷ cs) n h ih = Goods.more (ih (number_of c) (h 0 (omega arith))) (goods_of b m cs n (λ i l. h (suc i) (omega arith)) ih)

goods_kids : (b : Shape) (m : ℕ) (fall : Below b.nodes b.children) (n : ℕ) → 0 < n → n ≤ 512 → ((c : ℕ) → c < n → Good b m c (go b c)) → Goods b m (kids b n) (visits b n)
unfolding kids
goods_kids b m fall n p q ih = subst (λ vs. Goods b m (map number_of (children_of b n)) vs) (sym (visits_are b n)) (goods_of b m (children_of b n) n (falls b fall n p q) ih)

get_or_map_any : {X Y : Type 0} (f : X → Y) (xs : List X) (i : ℕ) (d : X) → get_or (map f xs) i (f d) ≡ f (get_or xs i d)
get_or_map_any f [] i d = refl
get_or_map_any f (x ∷ xs) zero d = refl
get_or_map_any f (x ∷ xs) (suc i) d = get_or_map_any f xs i d

-- a child is numbered below its parent
pub low : (b : Shape) (fall : Below b.nodes b.children) (n : ℕ) → 0 < n → n ≤ 512 → (i : ℕ) → kid b n i < n
unfolding kids
low b fall n p q i = elim (cases_lt i (length (children_of b n))) [
  | inl l ↦ omega (arith, get_or_map_any number_of (children_of b n) i None, falls b fall n p q i l)
  | inr l ↦ omega (arith, get_or_past (map number_of (children_of b n)) i 0 (rw length-map l))
]

yes_no : true ≡ false → ⊥
yes_no q = let z : ◌≡◌ {A = ℕ} 0 1 = cc in absurd (omega arith)

unbound : (n : ℕ) (k : NodeKind) (ws : List (List ℕ)) → binding k ≡ false → bind_step n k ws ≡ []
unbound n Leaf ws q = refl
unbound n (Use x h) ws q = refl
unbound n Sequence ws q = refl
unbound n And ws q = refl
unbound n If ws q = refl
unbound n Let ws q = refl
unbound n (Block a l) ws q = refl
unbound n (Loop l) ws q = refl
unbound n Closure ws q = refl
unbound n Match ws q = refl
unbound n Const ws q = refl
unbound n Repeat ws q = refl
unbound n Cast ws q = refl
unbound n (Bind v) ws q = absurd (yes_no q)
unbound n Patterns ws q = absurd (yes_no q)
unbound n Types ws q = refl
unbound n ArrayType ws q = refl
unbound n ValuePattern ws q = refl
unbound n LetStatement ws q = refl
unbound n ExprStatement ws q = refl
unbound n (MacroDef y) ws q = refl
unbound n OtherItem ws q = refl
unbound n LeafPattern ws q = refl
unbound n LeafType ws q = refl
unbound n Arm ws q = refl
unbound n (Body x) ws q = refl

suited : (b : Shape) (k : NodeKind) (i c : ℕ) → 0 < c → suits b k i c ≡ true → pattern_at k i ≡ false → binding (kind_of b c) ≡ false
suited b k i zero z e f = absurd (omega arith)
suited b k i (suc c) z e f = pick (pattern_at k i) (binding (kind_of b (suc c))) f e
  where
    pick : (x y : Bool) → x ≡ false → unless x y ≡ true → y ≡ false
    pick true y f e = absurd (yes_no f)
    pick false true f e = sym e
    pick false false f e = refl

suits_at : (b : Shape) (m : ℕ) → Fits b m → (n i : ℕ) → NodeOf m n → suits b (kind_of b n) i (kid b n i) ≡ true
suits_at b m f zero i p = absurd (omega (arith, p))
suits_at b m f (suc n) i p = f n i (omega (arith, p))

-- nothing is bound where no pattern stands
tidy : (b : Shape) (m : ℕ) → TreeLaw b m → (n i : ℕ) → NodeOf m n → pattern_at (kind_of b n) i ≡ false → binds b (kid b n i) ≡ []
unfolding binds
tidy b m t n i p q = elim (cases_lt 0 (kid b n i)) [
  | inl z ↦
      let l : kid b n i ≤ 512 = omega (arith, low b t.below n p.0 (omega (arith, p, t.size)) i, p, t.size) in
      binds_are b t.below (kid b n i) z l ∙ unbound (kid b n i) (kind_of b (kid b n i)) (map (binds b) (kids b (kid b n i))) (suited b (kind_of b n) i (kid b n i) z (suits_at b m t.fits n i p) q)
  | inr z ↦ let e : kid b n i ≡ 0 = omega arith in ap (binds b) e
]

good_node : (b : Shape) (m : ℕ) → TreeLaw b m → (n : ℕ) → NodeOf m n → ((c : ℕ) → c < n → Good b m c (go b c)) → Good b m n (go b n)
unfolding go
good_node b m law n o ih at s ns xs h g =
    let fall = law.below in
    let p : 0 < n = o.0 in
    let q : n ≤ 512 = omega (arith, o, law.size) in
    let v : go b n ≡ step n (kind_of b n) (visits b n) = present_is skip (visit_of b) n p ∙ folded_is skip step b fall n p q in
    let z : Given b m n (kind_of b n) (visits b n) xs = record { real = p; kind = refl; sight = g; sights = λ i. below i p g; plain = λ i. tidy b m law n i o; goods = goods_kids b m fall n p q ih } in
    let a = by_kind b m n (kind_of b n) refl (visits b n) at s ns xs z h in
    subst (λ w. After b m (binds b n) (leaves b n) xs at s ns (w at s)) (sym v) (subst (λ w. After b m (binds b n) w xs at s ns (step n (kind_of b n) (visits b n) at s)) (sym (leaves_are b fall n p q)) (subst (λ w. After b m w (leave_step b n (kind_of b n) (map (leaves b) (kids b n))) xs at s ns (step n (kind_of b n) (visits b n) at s)) (sym (binds_are b fall n p q)) a))

good_to : (b : Shape) (m : ℕ) → TreeLaw b m → (k c : ℕ) → c < k → c ≤ m → Good b m c (go b c)
unfolding go
good_to b m law zero c l q = absurd (omega arith)
good_to b m law (suc k) zero l q = good_none b m
good_to b m law (suc k) (suc c) l q = good_node b m law (suc c) (omega arith, q) (λ d h. good_to b m law k d (omega arith) (omega arith))

met_of : (b : Shape) (s : State) (ns : List (List ℕ)) → ((h : ℕ) → 0 < h → h ≤ length s.scopes → held h s.entries ≡ map (bound b) (get_or ns (h - 1) [])) → (c : ℕ) (xs : List ℕ) → View s.scopes ns c xs → Met s c (map (bound b) xs)
met_of b s ns f c xs (View.top d h l e) = subst (λ k. Met s d k) (f d h l) (Met.top d h l e)
met_of b s ns f c xs (View.up d p ys h l e v) = subst (λ k. Met s d k) (ap (λ k. k ++ map (bound b) ys) (f d h l) ∙ sym (map-append (bound b) (get_or ns (d - 1) []) ys)) (Met.up d p (map (bound b) ys) h l e (met_of b s ns f p.0 ys v))

pub none_some : (r : ScopeId) → None ≡ Some r → ⊥
none_some r h = let z : ◌≡◌ {A = ℕ} 0 1 = cc in absurd (omega arith)

none_placed : (k e : ℕ) (r : ScopeId) → get_or (replicate k None) e None ≡ Some r → ⊥
none_placed zero e r h = none_some r h
none_placed (suc k) zero r h = none_some r h
none_placed (suc k) (suc e) r h = none_placed k e r h

is_body_lem : (k : NodeKind) → is_body k ≡ true → k ≡ Body (self_in k)
is_body_lem Leaf e = absurd (yes_no (sym e))
is_body_lem (Use x h) e = absurd (yes_no (sym e))
is_body_lem Sequence e = absurd (yes_no (sym e))
is_body_lem And e = absurd (yes_no (sym e))
is_body_lem If e = absurd (yes_no (sym e))
is_body_lem Let e = absurd (yes_no (sym e))
is_body_lem (Block a l) e = absurd (yes_no (sym e))
is_body_lem (Loop l) e = absurd (yes_no (sym e))
is_body_lem Closure e = absurd (yes_no (sym e))
is_body_lem Match e = absurd (yes_no (sym e))
is_body_lem Const e = absurd (yes_no (sym e))
is_body_lem Repeat e = absurd (yes_no (sym e))
is_body_lem Cast e = absurd (yes_no (sym e))
is_body_lem (Bind v) e = absurd (yes_no (sym e))
is_body_lem Patterns e = absurd (yes_no (sym e))
is_body_lem Types e = absurd (yes_no (sym e))
is_body_lem ArrayType e = absurd (yes_no (sym e))
is_body_lem ValuePattern e = absurd (yes_no (sym e))
is_body_lem LetStatement e = absurd (yes_no (sym e))
is_body_lem ExprStatement e = absurd (yes_no (sym e))
is_body_lem (MacroDef q) e = absurd (yes_no (sym e))
is_body_lem OtherItem e = absurd (yes_no (sym e))
is_body_lem LeafPattern e = absurd (yes_no (sym e))
is_body_lem LeafType e = absurd (yes_no (sym e))
is_body_lem Arm e = absurd (yes_no (sym e))
is_body_lem (Body x) e = refl

-- the children of the body see the parameters
at_root : (b : Shape) (m : ℕ) (t : TreeLaw b m) (i : ℕ) → Sight b m (kid b m i) (parameters b m)
at_root b m t i = subst (λ k. Sight b m (kid b m i) (brings b k (kids b m) i ++ cond (shuts k i) (parameters b m) (parameters b m))) (is_body_lem (kind_of b m) t.body) (below i t.size.0 root)

-- the visit of the whole body, from scope 1 alone
record Whole (b : Shape) (m : ℕ) : Type 0 where
  names : List (List ℕ)
  own : List BindingId
  run : Run b m 1 own start (parameters b m ∷ []) (built b m) names
  holds : (h : ℕ) → 0 < h → h ≤ length (built b m).scopes → held h (built b m).entries ≡ map (bound b) (get_or names (h - 1) [])

whole_run : (b : Shape) (m : ℕ) → TreeLaw b m → Whole b m
unfolding built parameters
whole_run b m law =
    let ks = kids b m in
    let self = self_in (kind_of b m) in
    let ps = parameters b m in
    let ns = ps ∷ [] in
    let f : Fair start ns = record { level = refl; fresh = λ h l. refl } in
    let v : View start.scopes ns 1 ps = View.top 1 (omega arith) (omega arith) refl in
    let h : Here b m first start ns ps = record { fair = f; current = v; constant = v } in
    let goods = goods_kids b m law.below m law.size.0 law.size.1 (λ c l. good_to b m law m c l (omega arith)) in
    let is-self : bound b m ≡ binding_of (Body self) = ap binding_of (is_body_lem (kind_of b m) law.body) in
    let r0 = self_run b m m self is-self first start ns (omega arith) f in
    let s0 = selfed self first start in
    let h0 = here_run r0 h in
    let a = each_good (good_drop 1 goods) first s0 ns ps h0 (λ j. subst (λ k. Sight b m k ps) (sym (tail_at 0 ks j)) (at_root b m law (suc j))) in
    let s1 = each (drop 1 (visits b m)) first s0 in
    let h1 = here_run a.run h0 in
    let c = good_at goods 0 first s1 a.names ps h1 (at_root b m law 0) in
    let plain : binds b (kid b m 0) ≡ [] = tidy b m law m 0 (law.size.0, omega arith) (ap (λ k. pattern_at k 0) (is_body_lem (kind_of b m) law.body)) in
    let z = run_then (within h) r0 (run_then (within h0) a.run (quiet 1 plain c.run)) in
    let all_of : map (bound b) (self_of m self) ++ (map (bound b) (all_binds b (drop 1 ks)) ++ []) ≡ map (bound b) ps = ap (λ k. map (bound b) (self_of m self) ++ k) (append-nil (map (bound b) (all_binds b (drop 1 ks)))) ∙ sym (map-append (bound b) (self_of m self) (all_binds b (drop 1 ks))) in
    let held-is : (h : ℕ) → 0 < h → h ≤ length (built b m).scopes → held h (built b m).entries ≡ map (bound b) (get_or c.names (h - 1) []) = λ h p l. elim (cases_lt 1 h) [
      | inl g ↦ z.new h g l
      | inr g ↦
          let one : h ≡ 1 = omega arith in
          let at_one : held 1 (built b m).entries ≡ map (bound b) (get_or c.names 0 []) = z.old 1 (omega arith) ∙ all_of ∙ ap (λ k. map (bound b) (get_or k 0 [])) (sym z.names_are) in
          subst (λ h. held h (built b m).entries ≡ map (bound b) (get_or c.names (h - 1) [])) (sym one) at_one
    ] in
    record { names = c.names; own = map (bound b) (self_of m self) ++ (map (bound b) (all_binds b (drop 1 ks)) ++ []); run = z; holds = held-is }

-- every node with a recorded scope meets, from there outward, the bindings of the binds in its sight
pub seen : (b : Shape) (m : ℕ) → TreeLaw b m → (e : ℕ) (r : ScopeId) → get_or (built b m).placed e None ≡ Some r → Seen b m (built b m) (suc e) r
seen b m law e r k =
    let w = whole_run b m law in
    elim (w.run.placed e r k) [
      | inl g ↦ absurd (none_placed 512 e r g)
      | inr g ↦ record { expr = g.expr; binds = g.names; sight = g.sight; met = met_of b (built b m) w.names w.holds r.0 g.names g.view }
    ]

-- only expressions have a recorded scope
pub only_expressions : (b : Shape) (m : ℕ) → TreeLaw b m → OnlyExpressions b (built b m)
only_expressions b m law e r k = (seen b m law e r k).expr

pub root_first : (b : Shape) (m : ℕ) → TreeLaw b m → get_or (built b m).scopes 0 no_scope ≡ no_scope
root_first b m law = ap (λ rs. get_or rs 0 no_scope) (whole_run b m law).run.scopes_are

-- the scopes of blocks and of macro definitions hold no entry
pub blocks_hold_none : (b : Shape) (m : ℕ) → TreeLaw b m → BlocksHoldNone (built b m)
blocks_hold_none b m law c h x =
    let w = whole_run b m law in
    elim (cases_lt 1 c) [
      | inl g ↦ w.holds c h.0 h.1 ∙ ap (map (bound b)) (w.run.empty c g h.1 x)
      | inr g ↦
          let one : c ≡ 1 = omega (arith, h) in
          let i : c - 1 ≡ 0 = omega arith in
          absurd (yes_no (sym (sym (ap (λ j. holds_none (get_or (built b m).scopes j no_scope).kind) i ∙ ap (λ z. holds_none z.kind) (root_first b m law)) ∙ x)))
    ]
