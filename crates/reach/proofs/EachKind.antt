use Rattle.std.proofs.Common.{◌≡◌, ℕ, zero, suc, ◌+◌, ◌<◌, ◌≤◌, true, false, cond, List, [], ◌∷◌, ◌++◌, map, length, get_or, take, drop, Some, None, Option, sym, refl, ap, ◌∙◌, subst, append_assoc, append-nil}
use Rattle.format.specs.declared.ids.BindingId.{BindingId}
use Rattle.format.specs.declared.ids.BlockId.{BlockId}
use Rattle.format.specs.declared.ids.LabelId.{LabelId}
use Rattle.format.specs.declared.ids.Name.{Name}
use Rattle.format.specs.declared.ids.HygieneId.{HygieneId}
use Rattle.format.specs.declared.ids.MacroId.{MacroId}
use Rattle.reach.specs.declared.data.Place.{Place}
use Rattle.reach.specs.declared.data.ScopeKind.{ScopeKind}
use Rattle.reach.specs.declared.data.ScopeKind.TheVariants as scope
use Rattle.format.specs.declared.kind.NodeKind.{NodeKind}
use Rattle.format.specs.declared.kind.NodeKind.TheVariants.{Leaf, Use, Sequence, And, If, Let, Block, Loop, Closure, Match, Const, Repeat, Cast, LeafPattern, Bind, Patterns, ValuePattern, LeafType, Types, ArrayType, LetStatement, ExprStatement, MacroDef, OtherItem, Arm, Body}
use Rattle.reach.specs.Shape.{Shape}
use Rattle.reach.specs.Visit.{State, Visit, nth, made, put, added, inner, constantly, all, each, step, others, labelled, selfed}
use Rattle.reach.specs.Law.{bound, Sight, binds, leaves, gathered, all_binds, parameters, brings, shuts, bind_step, leave_step, binding_of, self_of}
use Rattle.reach.specs.Words.{twice}
use Rattle.reach.specs.Tables.{is_expr, kids, kid, kind_of, pattern_at, turn}
use Rattle.reach.proofs.Runs.{Fair, Run, run_none, run_then, run_at, run_put, run_added, run_made, made_fair, made_kept, made_view}
use Rattle.reach.proofs.Good.{Here, After, Goods, within, here_run, here_const, here_made, quiet, done, Each, each_good, all_good, good_at, good_drop, good_others, quiet_all}
use Rattle.std.proofs.lemmas.List.{get_or-drop}
use Rattle.std.proofs.lemmas.Bool.{both_ways}

-- what is known where a node n of kind k is visited with the binds xs in sight
pub record Given (b : Shape) (m n : ℕ) (k : NodeKind) (vs : List Visit) (xs : List ℕ) : Type 0 where
  pub real : 0 < n
  pub kind : kind_of b n ≡ k
  pub sight : Sight b m n xs
  pub sights : (i : ℕ) → Sight b m (kid b n i) (brings b k (kids b n) i ++ cond (shuts k i) (parameters b m) xs)
  pub plain : (i : ℕ) → pattern_at k i ≡ false → binds b (kid b n i) ≡ []
  pub goods : Goods b m (kids b n) vs

abbrev pub Steps : Shape → ℕ → ℕ → NodeKind → Type 0
Steps b m n k = (vs : List Visit) (at : Place) (s : State) (ns : List (List ℕ)) (xs : List ℕ) → Given b m n k vs xs → Here b m at s ns xs → After b m (bind_step n k (map (binds b) (kids b n))) (leave_step b n k (map (leaves b) (kids b n))) xs at s ns (step n k vs at s)

pub tail_at : (i : ℕ) (cs : List ℕ) (j : ℕ) → get_or (drop (suc i) cs) j 0 ≡ get_or (drop i cs) (suc j) 0
tail_at zero [] j = refl
tail_at zero (c ∷ cs) j = refl
tail_at (suc i) [] j = refl
tail_at (suc i) (c ∷ cs) j = tail_at i cs j

pub leaves_at : (b : Shape) (cs : List ℕ) (i : ℕ) → get_or (map (leaves b) cs) i [] ≡ leaves b (get_or cs i 0)
unfolding leaves
leaves_at b [] i = refl
leaves_at b (c ∷ cs) zero = refl
leaves_at b (c ∷ cs) (suc i) = leaves_at b cs i

pub others_at : (cs : List ℕ) (j : ℕ) → get_or (others cs) j 0 ≡ get_or cs (twice j) 0
unfolding others
others_at [] zero = refl
others_at [] (suc j) = refl
others_at (c ∷ []) zero = refl
others_at (c ∷ []) (suc j) = refl
others_at (c ∷ (d ∷ cs)) zero = refl
others_at (c ∷ (d ∷ cs)) (suc j) = others_at cs j

pub turn_twice : {X : Type 0} (j : ℕ) (x y : X) → turn (twice j) x y ≡ x
turn_twice zero x y = refl
turn_twice (suc j) x y = turn_twice j x y

-- the node itself is recorded
putting : {b : Shape} {m n : ℕ} {k : NodeKind} {vs : List Visit} {at : Place} {s : State} {ns : List (List ℕ)} {xs : List ℕ} → is_expr k ≡ true → Given b m n k vs xs → Here b m at s ns xs → Run b m at.current.0 [] s ns (put n at.current s) ns
putting {b} {m} {n} {k} {vs} {at} {s} {ns} {xs} x g h = run_put b m at.current.0 n at.current s ns xs g.real (ap is_expr g.kind ∙ x) h.fair g.sight h.current

leaf : (b : Shape) (m n : ℕ) → Steps b m n Leaf
unfolding step
leaf b m n vs at s ns xs g h = done h (putting refl g h)

use_of_lem : (b : Shape) (m n : ℕ) (x : Name) (y : HygieneId) → Steps b m n (Use x y)
unfolding step
use_of_lem b m n x y vs at s ns xs g h = done h (putting refl g h)

sequence : (b : Shape) (m n : ℕ) → Steps b m n Sequence
unfolding step
sequence b m n vs at s ns xs g h =
    let r = putting refl g h in
    let e = each_good g.goods at (put n at.current s) ns xs (here_run r h) g.sights in
    done h (run_then (within h) r (quiet at.current.0 (quiet_all b (kids b n) (λ i. g.plain i refl)) e.run))

item : (b : Shape) (m n : ℕ) → Steps b m n OtherItem
unfolding step
item b m n vs at s ns xs g h = done h (run_none b m at.current.0 s ns h.fair)

leaf_pattern : (b : Shape) (m n : ℕ) → Steps b m n LeafPattern
unfolding step
leaf_pattern b m n vs at s ns xs g h = done h (run_none b m at.current.0 s ns h.fair)

leaf_type : (b : Shape) (m n : ℕ) → Steps b m n LeafType
unfolding step
leaf_type b m n vs at s ns xs g h = done h (run_none b m at.current.0 s ns h.fair)

values : (b : Shape) (m n : ℕ) → Steps b m n ValuePattern
unfolding step
values b m n vs at s ns xs g h =
    let e = each_good g.goods at s ns xs h g.sights in
    done h (quiet at.current.0 (quiet_all b (kids b n) (λ i. g.plain i refl)) e.run)

array_type : (b : Shape) (m n : ℕ) → Steps b m n ArrayType
unfolding step
array_type b m n vs at s ns xs g h =
    let e = each_good g.goods (constantly at) s ns (parameters b m) (here_const h) g.sights in
    done h (quiet at.current.0 (quiet_all b (kids b n) (λ i. g.plain i refl)) e.run)

bind : (b : Shape) (m n : ℕ) (v : BindingId) → bound b n ≡ v → Steps b m n (Bind v)
unfolding step
bind b m n v q vs at s ns xs g h =
    let r = run_added b m v at.current s ns (within h) h.fair in
    let e = each_good g.goods at (added v at.current s) ns xs (here_run r h) g.sights in
    let t = each vs at (added v at.current s) in
    let z = run_then (within h) r e.run in
    record { names = e.names; run = subst (λ k. Run b m at.current.0 (k ∷ map (bound b) (all_binds b (kids b n))) s ns t e.names) (sym q) z; there = here_run z h }

patterns : (b : Shape) (m n : ℕ) → Steps b m n Patterns
unfolding step
patterns b m n vs at s ns xs g h =
    let e = each_good g.goods at s ns xs h g.sights in
    record { names = e.names; run = e.run; there = here_run e.run h }

types : (b : Shape) (m n : ℕ) → Steps b m n Types
unfolding step
types b m n vs at s ns xs g h =
    let e = each_good g.goods (constantly at) s ns (parameters b m) (here_const h) g.sights in
    done h (quiet at.current.0 (quiet_all b (kids b n) (λ i. g.plain i refl)) e.run)

expression : (b : Shape) (m n : ℕ) → Steps b m n ExprStatement
unfolding step
expression b m n vs at s ns xs g h =
    let a = good_at g.goods 0 at s ns xs h (g.sights 0) in
    done h (quiet at.current.0 (g.plain 0 refl) a.run)

constant : (b : Shape) (m n : ℕ) → Steps b m n Const
unfolding step
constant b m n vs at s ns xs g h =
    let r = putting refl g h in
    let a = good_at g.goods 0 (constantly at) (put n at.current s) ns (parameters b m) (here_const (here_run r h)) (g.sights 0) in
    done h (run_then (within h) r (quiet at.current.0 (g.plain 0 refl) a.run))

repeat : (b : Shape) (m n : ℕ) → Steps b m n Repeat
unfolding step
repeat b m n vs at s ns xs g h =
    let r = putting refl g h in
    let a = good_at g.goods 0 at (put n at.current s) ns xs (here_run r h) (g.sights 0) in
    let p = run_then (within h) r (quiet at.current.0 (g.plain 0 refl) a.run) in
    let s1 = (nth vs 0 at (put n at.current s)).0 in
    let c = good_at g.goods 1 (constantly at) s1 a.names (parameters b m) (here_const (here_run p h)) (g.sights 1) in
    done h (run_then (within h) p (quiet at.current.0 (g.plain 1 refl) c.run))

cast : (b : Shape) (m n : ℕ) → Steps b m n Cast
unfolding step
cast b m n vs at s ns xs g h =
    let r = putting refl g h in
    let a = good_at g.goods 0 at (put n at.current s) ns xs (here_run r h) (g.sights 0) in
    let p = run_then (within h) r (quiet at.current.0 (g.plain 0 refl) a.run) in
    let s1 = (nth vs 0 at (put n at.current s)).0 in
    let c = good_at g.goods 1 (constantly at) s1 a.names (parameters b m) (here_const (here_run p h)) (g.sights 1) in
    done h (run_then (within h) p (quiet at.current.0 (g.plain 1 refl) c.run))

matching : (b : Shape) (m n : ℕ) → Steps b m n Match
unfolding step
matching b m n vs at s ns xs g h =
    let r = putting refl g h in
    let a = good_at g.goods 0 at (put n at.current s) ns xs (here_run r h) (g.sights 0) in
    let p = run_then (within h) r (quiet at.current.0 (g.plain 0 refl) a.run) in
    let s1 = (nth vs 0 at (put n at.current s)).0 in
    let e = each_good (good_drop 1 g.goods) at s1 a.names xs (here_run p h) (λ j. rw get_or-drop (g.sights (1 + j))) in
    done h (run_then (within h) p (quiet at.current.0 (quiet_all b (drop 1 (kids b n)) (λ j. rw get_or-drop (g.plain (1 + j) refl))) e.run))

loop : (b : Shape) (m n : ℕ) (l : Option LabelId) → Steps b m n (Loop l)
unfolding step inner
loop b m n l vs at s ns xs g h =
    let r = putting refl g h in
    let h0 = here_run r h in
    let s0 = put n at.current s in
    let k = labelled l in
    let a = good_at g.goods 0 (inner k at s0).1 (inner k at s0).0 (ns ++ ([] ∷ [])) xs (here_made k [] h0) (g.sights 0) in
    done h (run_then (within h) r (run_made at.current.0 k at.current s0 ns [] (λ _. refl) h0.fair (quiet (length s0.scopes + 1) (g.plain 0 refl) a.run)))

both : (b : Shape) (m n : ℕ) → Steps b m n And
unfolding step
both b m n vs at s ns xs g h =
    let r = putting refl g h in
    let h0 = here_run r h in
    let s0 = put n at.current s in
    let a = good_at g.goods 0 at s0 ns xs h0 (g.sights 0) in
    let r1 = nth vs 0 at s0 in
    let c = good_at g.goods 1 r1.1 r1.0 a.names (leaves b (kid b n 0) ++ xs) a.there (g.sights 1) in
    let t = nth vs 1 r1.1 r1.0 in
    let l : leaves b (kid b n 1) ++ (leaves b (kid b n 0) ++ xs) ≡ (get_or (map (leaves b) (kids b n)) 1 [] ++ get_or (map (leaves b) (kids b n)) 0 []) ++ xs = sym (ap (λ k. (k ++ get_or (map (leaves b) (kids b n)) 0 []) ++ xs) (leaves_at b (kids b n) 1) ∙ ap (λ k. (leaves b (kid b n 1) ++ k) ++ xs) (leaves_at b (kids b n) 0) ∙ append_assoc (leaves b (kid b n 1)) (leaves b (kid b n 0)) xs) in
    record {
      names = c.names;
      run = run_then (within h) r (run_then (within h0) (quiet at.current.0 (g.plain 0 refl) a.run) (quiet at.current.0 (g.plain 1 refl) c.run));
      there = subst (λ k. Here b m t.1 t.0 c.names k) l c.there;
    }

if : (b : Shape) (m n : ℕ) → Steps b m n If
unfolding step inner made put
if b m n vs at s ns xs g h =
    let r = putting refl g h in
    let h0 = here_run r h in
    let s0 = put n at.current s in
    let o = inner scope.Plain at s0 in
    let a = good_at g.goods 0 o.1 o.0 (ns ++ ([] ∷ [])) xs (here_made scope.Plain [] h0) (g.sights 0) in
    let r1 = nth vs 0 o.1 o.0 in
    let c = good_at g.goods 1 r1.1 r1.0 a.names (leaves b (kid b n 0) ++ xs) a.there (g.sights 1) in
    let r2 = nth vs 1 r1.1 r1.0 in
    let q = length s0.scopes + 1 in
    let p = run_made at.current.0 scope.Plain at.current s0 ns [] (λ _. refl) h0.fair (run_then (within (here_made scope.Plain [] h0)) (quiet q (g.plain 0 refl) a.run) (quiet q (g.plain 1 refl) c.run)) in
    let w = run_then (within h) r p in
    let e = good_at g.goods 2 at r2.0 c.names xs (here_run w h) (g.sights 2) in
    done h (run_then (within h) w (quiet at.current.0 (g.plain 2 refl) e.run))

condition : (b : Shape) (m n : ℕ) → Steps b m n Let
unfolding step inner made
condition b m n vs at s ns xs g h =
    let r = putting refl g h in
    let h0 = here_run r h in
    let s0 = put n at.current s in
    let a = good_at g.goods 1 at s0 ns xs h0 (g.sights 1) in
    let s1 = (nth vs 1 at s0).0 in
    let p = run_then (within h) r (quiet at.current.0 (g.plain 1 refl) a.run) in
    let h1 = here_run p h in
    let o = inner scope.Plain at s1 in
    let ys = binds b (kid b n 0) in
    let h2 = here_made scope.Plain ys h1 in
    let c = good_at g.goods 0 o.1 o.0 (a.names ++ (ys ∷ [])) (ys ++ xs) h2 (g.sights 0) in
    let w = run_then (within h) p (run_made at.current.0 scope.Plain at.current s1 a.names ys (λ x. absurd (both_ways false refl x)) h1.fair c.run) in
    record { names = c.names; run = w; there = here_run c.run h2 }

letting : (b : Shape) (m n : ℕ) → Steps b m n LetStatement
unfolding step inner made
letting b m n vs at s ns xs g h =
    let a = each_good (good_drop 1 g.goods) at s ns xs h (λ j. subst (λ k. Sight b m k xs) (sym (tail_at 0 (kids b n) j)) (g.sights (suc j))) in
    let s1 = each (drop 1 vs) at s in
    let p = quiet at.current.0 (quiet_all b (drop 1 (kids b n)) (λ j. ap (binds b) (tail_at 0 (kids b n) j) ∙ g.plain (suc j) refl)) a.run in
    let h1 = here_run p h in
    let o = inner scope.Plain at s1 in
    let ys = binds b (kid b n 0) in
    let h2 = here_made scope.Plain ys h1 in
    let c = good_at g.goods 0 o.1 o.0 (a.names ++ (ys ∷ [])) (ys ++ xs) h2 (g.sights 0) in
    let w = run_then (within h) p (run_made at.current.0 scope.Plain at.current s1 a.names ys (λ x. absurd (both_ways false refl x)) h1.fair c.run) in
    record { names = c.names; run = w; there = here_run c.run h2 }

arm : (b : Shape) (m n : ℕ) → Steps b m n Arm
unfolding step inner made
arm b m n vs at s ns xs g h =
    let o = inner scope.Plain at s in
    let ys = binds b (kid b n 0) in
    let h0 = here_made scope.Plain ys h in
    let a = good_at g.goods 0 o.1 o.0 (ns ++ (ys ∷ [])) (ys ++ xs) h0 (g.sights 0) in
    let s1 = (nth vs 0 o.1 o.0).0 in
    let h1 = here_run a.run h0 in
    let c = good_at g.goods 1 o.1 s1 a.names (ys ++ xs) h1 (g.sights 1) in
    let r2 = nth vs 1 o.1 s1 in
    let e = good_at g.goods 2 r2.1 r2.0 c.names (leaves b (kid b n 1) ++ (ys ++ xs)) c.there (subst (λ k. Sight b m (kid b n 2) k) (append_assoc (leaves b (kid b n 1)) ys xs) (g.sights 2)) in
    let q = length s.scopes + 1 in
    let w = run_then (within h0) a.run (run_then (within h1) (quiet q (g.plain 1 refl) c.run) (quiet q (g.plain 2 refl) e.run)) in
    let v : Run b m q (map (bound b) ys) o.0 (ns ++ (ys ∷ [])) (nth vs 2 r2.1 r2.0).0 e.names = subst (λ k. Run b m q k o.0 (ns ++ (ys ∷ [])) (nth vs 2 r2.1 r2.0).0 e.names) (append-nil (map (bound b) ys)) w in
    done h (run_made at.current.0 scope.Plain at.current s ns ys (λ x. absurd (both_ways false refl x)) h.fair v)

-- the statements and the tail of a block
inside : (b : Shape) (m n : ℕ) (x : Option BlockId) (l : Option LabelId) (vs : List Visit) (at : Place) (s : State) (ns : List (List ℕ)) (xs : List ℕ) → Given b m n (Block x l) vs xs → Here b m at s ns xs → Each b m [] at s ns (let r = all (drop 1 vs) at (put n at.current s) in (nth vs 0 r.1 r.0).0)
inside b m n x l vs at s ns xs g h =
    let r = putting refl g h in
    let h0 = here_run r h in
    let s0 = put n at.current s in
    let a = all_good (good_drop 1 g.goods) at s0 ns xs h0 (λ j. subst (λ k. Sight b m k (gathered b (take j (drop 1 (kids b n))) ++ xs)) (sym (tail_at 0 (kids b n) j)) (g.sights (suc j))) (λ j. ap (binds b) (tail_at 0 (kids b n) j) ∙ g.plain (suc j) refl) in
    let r1 = all (drop 1 vs) at s0 in
    let c = good_at g.goods 0 r1.1 r1.0 a.names (gathered b (drop 1 (kids b n)) ++ xs) a.there (g.sights 0) in
    record { names = c.names; run = run_then (within h) r (run_then (within h0) a.run (quiet at.current.0 (g.plain 0 refl) c.run)) }

-- a new constant scope
here_apart : {b : Shape} {m : ℕ} {at : Place} {s : State} {ns : List (List ℕ)} {xs : List ℕ} (k : ScopeKind) → Here b m at s ns xs → Here b m (record { current = at.current; constant = (made k at.constant s).1 }) (made k at.constant s).0 (ns ++ ([] ∷ [])) xs
unfolding made
here_apart {b} {m} {at} {s} {ns} {xs} k h = record { fair = made_fair k at.constant s ns [] h.fair; current = made_kept k at.constant s ns [] h.fair at.current.0 xs h.current; constant = made_view k at.constant s ns [] h.fair (parameters b m) h.constant }

block : (b : Shape) (m n : ℕ) (x : Option BlockId) (l : Option LabelId) → Steps b m n (Block x l)
unfolding step inner made put
block b m n None l vs at s ns xs g h =
    let r = putting refl g h in
    let h0 = here_run r h in
    let s0 = put n at.current s in
    let k = labelled l in
    let o = inner k at s0 in
    let a = inside b m n None l vs o.1 o.0 (ns ++ ([] ∷ [])) xs g (here_made k [] h0) in
    done h (run_then (within h) r (run_made at.current.0 k at.current s0 ns [] (λ _. refl) h0.fair a.run))
block b m n (Some x) l vs at s ns xs g h =
    let r = putting refl g h in
    let h0 = here_run r h in
    let s0 = put n at.current s in
    let k = scope.Block x l in
    let k2 = scope.Block x None in
    let o = inner k at s0 in
    let h1 = here_made k [] h0 in
    let h2 = here_apart k2 h1 in
    let a = inside b m n (Some x) l vs (record { current = o.1.current; constant = (made k2 at.constant o.0).1 }) (made k2 at.constant o.0).0 ((ns ++ ([] ∷ [])) ++ ([] ∷ [])) xs g h2 in
    done h (run_then (within h) r (run_made at.current.0 k at.current s0 ns [] (λ _. refl) h0.fair (run_made o.1.current.0 k2 at.constant o.0 (ns ++ ([] ∷ [])) [] (λ _. refl) h1.fair (run_at (length o.0.scopes + 1) a.run))))

macro : (b : Shape) (m n : ℕ) (x : MacroId) → Steps b m n (MacroDef x)
unfolding step inner made
macro b m n x vs at s ns xs g h =
    let k = scope.MacroDef x in
    let o = inner k at s in
    let h1 = here_made k [] h in
    let h2 = here_apart k h1 in
    let t = (made k at.constant o.0).0 in
    record {
      names = (ns ++ ([] ∷ [])) ++ ([] ∷ []);
      run = run_made at.current.0 k at.current s ns [] (λ _. refl) h.fair (run_made o.1.current.0 k at.constant o.0 (ns ++ ([] ∷ [])) [] (λ _. refl) h1.fair (run_none b m (length o.0.scopes + 1) t ((ns ++ ([] ∷ [])) ++ ([] ∷ [])) h2.fair));
      there = h2;
    }

closure : (b : Shape) (m n : ℕ) → Steps b m n Closure
unfolding step inner made
closure b m n vs at s ns xs g h =
    let cs = kids b n in
    let ps = all_binds b (others (drop 2 cs)) in
    let par = parameters b m in
    let c0 = at.current.0 in
    let r = putting refl g h in
    let h0 = here_run r h in
    let s0 = put n at.current s in
    let i3 : (j : ℕ) → get_or (others (drop 3 cs)) j 0 ≡ kid b n (suc (suc (suc (twice j)))) = λ j. others_at (drop 3 cs) j ∙ tail_at 2 cs (twice j) ∙ tail_at 1 cs (suc (twice j)) ∙ tail_at 0 cs (suc (suc (twice j))) in
    let i2 : (j : ℕ) → get_or (others (drop 2 cs)) j 0 ≡ kid b n (suc (suc (twice j))) = λ j. others_at (drop 2 cs) j ∙ tail_at 1 cs (twice j) ∙ tail_at 0 cs (suc (twice j)) in
    let g3 : (j : ℕ) → Sight b m (get_or (others (drop 3 cs)) j 0) par = λ j. subst (λ k. Sight b m k par) (sym (i3 j)) (subst (λ k. Sight b m (kid b n (suc (suc (suc (twice j))))) (k ++ par)) (turn_twice j [] ps) (subst (λ k. Sight b m (kid b n (suc (suc (suc (twice j))))) (turn (twice j) [] ps ++ cond k par xs)) (turn_twice j true false) (g.sights (suc (suc (suc (twice j))))))) in
    let g2 : (j : ℕ) → Sight b m (get_or (others (drop 2 cs)) j 0) (ps ++ xs) = λ j. subst (λ k. Sight b m k (ps ++ xs)) (sym (i2 j)) (subst (λ k. Sight b m (kid b n (suc (suc (twice j)))) (k ++ xs)) (turn_twice j ps []) (subst (λ k. Sight b m (kid b n (suc (suc (twice j)))) (turn (twice j) ps [] ++ cond k par xs)) (turn_twice j false true) (g.sights (suc (suc (twice j)))))) in
    let q3 : (j : ℕ) → binds b (get_or (others (drop 3 cs)) j 0) ≡ [] = λ j. ap (binds b) (i3 j) ∙ g.plain (suc (suc (suc (twice j)))) (turn_twice j false true) in
    let e = each_good (good_others (good_drop 3 g.goods)) (constantly at) s0 ns par (here_const h0) g3 in
    let s1 = each (others (drop 3 vs)) (constantly at) s0 in
    let p1 = run_then (within h) r (quiet c0 (quiet_all b (others (drop 3 cs)) q3) e.run) in
    let u = good_at g.goods 1 (constantly at) s1 e.names par (here_const (here_run p1 h)) (g.sights 1) in
    let s2 = (nth vs 1 (constantly at) s1).0 in
    let p2 = run_then (within h) p1 (quiet c0 (g.plain 1 refl) u.run) in
    let h2 = here_run p2 h in
    let o = inner scope.Plain at s2 in
    let h3 = here_made scope.Plain ps h2 in
    let w = each_good (good_others (good_drop 2 g.goods)) o.1 o.0 (u.names ++ (ps ∷ [])) (ps ++ xs) h3 g2 in
    let s4 = each (others (drop 2 vs)) o.1 o.0 in
    let h4 = here_run w.run h3 in
    let a = good_at g.goods 0 o.1 s4 w.names (ps ++ xs) h4 (g.sights 0) in
    let q = length s2.scopes + 1 in
    let z = run_then (within h3) w.run (quiet q (g.plain 0 refl) a.run) in
    let v : Run b m q (map (bound b) ps) o.0 (u.names ++ (ps ∷ [])) (nth vs 0 o.1 s4).0 a.names = subst (λ k. Run b m q k o.0 (u.names ++ (ps ∷ [])) (nth vs 0 o.1 s4).0 a.names) (append-nil (map (bound b) ps)) z in
    done h (run_then (within h) p2 (run_made c0 scope.Plain at.current s2 u.names ps (λ x. absurd (both_ways false refl x)) h2.fair v))

drop-map : {X Y : Type 0} (f : X → Y) (cs : List X) → drop 1 (map f cs) ≡ map f (drop 1 cs)
drop-map f [] = refl
drop-map f (c ∷ cs) = refl

pub self_run : (b : Shape) (m n : ℕ) (x : Option BindingId) → bound b n ≡ binding_of (Body x) → (at : Place) (s : State) (ns : List (List ℕ)) → at.current.0 ≤ length s.scopes → Fair s ns → Run b m at.current.0 (map (bound b) (self_of n x)) s ns (selfed x at s) ns
self_run b m n None q at s ns l f = run_none b m at.current.0 s ns f
self_run b m n (Some v) q at s ns l f = subst (λ k. Run b m at.current.0 (k ∷ []) s ns (added v at.current s) ns) (sym q) (run_added b m v at.current s ns l f)

body : (b : Shape) (m n : ℕ) (x : Option BindingId) → Steps b m n (Body x)
unfolding step
body b m n x vs at s ns xs g h = done h (run_none b m at.current.0 s ns h.fair)

-- the visit of a node of any kind
pub by_kind : (b : Shape) (m n : ℕ) (k : NodeKind) → bound b n ≡ binding_of k → Steps b m n k
by_kind b m n Leaf q = leaf b m n
by_kind b m n (Use x y) q = use_of_lem b m n x y
by_kind b m n Sequence q = sequence b m n
by_kind b m n And q = both b m n
by_kind b m n If q = if b m n
by_kind b m n Let q = condition b m n
by_kind b m n (Block x l) q = block b m n x l
by_kind b m n (Loop l) q = loop b m n l
by_kind b m n Closure q = closure b m n
by_kind b m n Match q = matching b m n
by_kind b m n Const q = constant b m n
by_kind b m n Repeat q = repeat b m n
by_kind b m n Cast q = cast b m n
by_kind b m n (Bind v) q = bind b m n v q
by_kind b m n Patterns q = patterns b m n
by_kind b m n Types q = types b m n
by_kind b m n ArrayType q = array_type b m n
by_kind b m n ValuePattern q = values b m n
by_kind b m n LetStatement q = letting b m n
by_kind b m n ExprStatement q = expression b m n
by_kind b m n (MacroDef x) q = macro b m n x
by_kind b m n OtherItem q = item b m n
by_kind b m n LeafPattern q = leaf_pattern b m n
by_kind b m n LeafType q = leaf_type b m n
by_kind b m n Arm q = arm b m n
by_kind b m n (Body x) q = body b m n x
