use Rattle.std.proofs.Common.{◌≡◌, ℕ, zero, suc, ◌≤◌, List, [], ◌∷◌, ◌++◌, map, length, get_or, take, drop, sym, refl, ap, ◌∙◌, subst, append_assoc}
use mathlib.Core.List.{map-append}
use Rattle.format.specs.declared.ids.BindingId.{BindingId}
use Rattle.reach.specs.declared.data.Place.{Place}
use Rattle.reach.specs.declared.data.ScopeKind.{ScopeKind}
use Rattle.reach.specs.Shape.{Shape}
use Rattle.reach.specs.Visit.{State, Visit, skip, made, inner, constantly, all, each, others}
use Rattle.reach.specs.Law.{bound, Sight, binds, leaves, gathered, all_binds, parameters}
use Rattle.reach.proofs.Runs.{View, Fair, Run, view_in, run_view, run_none, run_then, run_at, made_fair, made_kept, made_view}

-- a place at which the binds xs are met, and at its constant scope those of the parameters
pub record Here (b : Shape) (m : ℕ) (at : Place) (s : State) (ns : List (List ℕ)) (xs : List ℕ) : Type 0 where
  pub fair : Fair s ns
  pub current : View s.scopes ns at.current.0 xs
  pub constant : View s.scopes ns at.constant.0 (parameters b m)

-- what a visit leaves, that has the binds own for the current scope, and moves into a scope with the binds left
pub record After (b : Shape) (m : ℕ) (own left xs : List ℕ) (at : Place) (s : State) (ns : List (List ℕ)) (r : State × Place) : Type 0 where
  pub names : List (List ℕ)
  pub run : Run b m at.current.0 (map (bound b) own) s ns r.0 names
  pub there : Here b m r.1 r.0 names (left ++ xs)

abbrev pub Good : Shape → ℕ → ℕ → Visit → Type 0
Good b m n v = (at : Place) (s : State) (ns : List (List ℕ)) (xs : List ℕ) → Here b m at s ns xs → Sight b m n xs → After b m (binds b n) (leaves b n) xs at s ns (v at s)

pub data Goods (b : Shape) (m : ℕ) : List ℕ → List Visit → Type 0 where
  none : Goods b m [] []
  more : {c : ℕ} {v : Visit} {cs : List ℕ} {vs : List Visit} → Good b m c v → Goods b m cs vs → Goods b m (c ∷ cs) (v ∷ vs)

pub within : {b : Shape} {m : ℕ} {at : Place} {s : State} {ns : List (List ℕ)} {xs : List ℕ} → Here b m at s ns xs → at.current.0 ≤ length s.scopes
within {at = at} {s = s} {ns = ns} {xs = xs} h = (view_in s.scopes ns at.current.0 xs h.current).1

pub here_run : {b : Shape} {m c : ℕ} {ys : List BindingId} {at : Place} {s t : State} {ns nt : List (List ℕ)} {xs : List ℕ} → Run b m c ys s ns t nt → Here b m at s ns xs → Here b m at t nt xs
here_run {b = b} {m = m} {at = at} {xs = xs} r h = record { fair = r.fair; current = run_view r at.current.0 xs h.current; constant = run_view r at.constant.0 (parameters b m) h.constant }

pub here_const : {b : Shape} {m : ℕ} {at : Place} {s : State} {ns : List (List ℕ)} {xs : List ℕ} → Here b m at s ns xs → Here b m (constantly at) s ns (parameters b m)
here_const h = record { fair = h.fair; current = h.constant; constant = h.constant }

-- in a new scope with the names ys
pub here_made : {b : Shape} {m : ℕ} {at : Place} {s : State} {ns : List (List ℕ)} {xs : List ℕ} (k : ScopeKind) (ys : List ℕ) → Here b m at s ns xs → Here b m (inner k at s).1 (inner k at s).0 (ns ++ (ys ∷ [])) (ys ++ xs)
unfolding inner made
here_made {b} {m} {at} {s} {ns} {xs} k ys h = record { fair = made_fair k at.current s ns ys h.fair; current = made_view k at.current s ns ys h.fair xs h.current; constant = made_kept k at.current s ns ys h.fair at.constant.0 (parameters b m) h.constant }

-- a run without entries of its own
pub quiet : {b : Shape} {m c : ℕ} {own : List ℕ} {s t : State} {ns nt : List (List ℕ)} (d : ℕ) → own ≡ [] → Run b m c (map (bound b) own) s ns t nt → Run b m d [] s ns t nt
quiet {b} {m} {c} {own} {s} {t} {ns} {nt} d e r = run_at d (subst (λ k. Run b m c (map (bound b) k) s ns t nt) e r)

pub done : {b : Shape} {m : ℕ} {at : Place} {s t : State} {ns nt : List (List ℕ)} {xs : List ℕ} → Here b m at s ns xs → Run b m at.current.0 [] s ns t nt → After b m [] [] xs at s ns (t, at)
done {nt = nt} h r = record { names = nt; run = r; there = here_run r h }

pub record Each (b : Shape) (m : ℕ) (own : List ℕ) (at : Place) (s : State) (ns : List (List ℕ)) (t : State) : Type 0 where
  pub names : List (List ℕ)
  pub run : Run b m at.current.0 (map (bound b) own) s ns t names

pub each_good : {b : Shape} {m : ℕ} {cs : List ℕ} {vs : List Visit} → Goods b m cs vs → (at : Place) (s : State) (ns : List (List ℕ)) (xs : List ℕ) → Here b m at s ns xs → ((j : ℕ) → Sight b m (get_or cs j 0) xs) → Each b m (all_binds b cs) at s ns (each vs at s)
unfolding each
each_good {b} {m} none at s ns xs h g = record { names = ns; run = run_none b m at.current.0 s ns h.fair }
each_good {b} {m} (more {c = c} {v = v} {cs = cs} {vs = vs} x y) at s ns xs h g =
    let a = x at s ns xs h (g 0) in
    let r = each_good y at (v at s).0 a.names xs (here_run a.run h) (λ j. g (suc j)) in
    record { names = r.names; run = subst (λ k. Run b m at.current.0 k s ns (each vs at (v at s).0) r.names) (sym (map-append (bound b) (binds b c) (all_binds b cs))) (run_then (within h) a.run r.run) }

pub all_good : {b : Shape} {m : ℕ} {cs : List ℕ} {vs : List Visit} → Goods b m cs vs → (at : Place) (s : State) (ns : List (List ℕ)) (xs : List ℕ) → Here b m at s ns xs → ((j : ℕ) → Sight b m (get_or cs j 0) (gathered b (take j cs) ++ xs)) → ((j : ℕ) → binds b (get_or cs j 0) ≡ []) → After b m [] (gathered b cs) xs at s ns (all vs at s)
unfolding all
all_good {b} {m} none at s ns xs h g q = record { names = ns; run = run_none b m at.current.0 s ns h.fair; there = h }
all_good {b} {m} (more {c = c} {v = v} {cs = cs} {vs = vs} x y) at s ns xs h g q =
    let a = x at s ns xs h (g 0) in
    let r = all_good y (v at s).1 (v at s).0 a.names (leaves b c ++ xs) a.there (λ j. subst (λ k. Sight b m (get_or cs j 0) k) (append_assoc (gathered b (take j cs)) (leaves b c) xs) (g (suc j))) (λ j. q (suc j)) in
    let t = all vs (v at s).1 (v at s).0 in
    record {
      names = r.names;
      run = run_then (within h) (quiet at.current.0 (q 0) a.run) (run_at at.current.0 r.run);
      there = subst (λ k. Here b m t.1 t.0 r.names k) (sym (append_assoc (gathered b cs) (leaves b c) xs)) r.there;
    }

pub good_none : (b : Shape) (m : ℕ) → Good b m 0 skip
unfolding binds leaves
good_none b m at s ns xs h g = done h (run_none b m at.current.0 s ns h.fair)

pub good_at : {b : Shape} {m : ℕ} {cs : List ℕ} {vs : List Visit} → Goods b m cs vs → (i : ℕ) → Good b m (get_or cs i 0) (get_or vs i skip)
good_at {b} {m} none i = good_none b m
good_at {b} {m} (more x y) zero = x
good_at {b} {m} (more x y) (suc i) = good_at y i

pub good_drop : {b : Shape} {m : ℕ} (i : ℕ) {cs : List ℕ} {vs : List Visit} → Goods b m cs vs → Goods b m (drop i cs) (drop i vs)
good_drop zero g = g
good_drop (suc i) none = none
good_drop (suc i) (more x y) = good_drop i y

pub good_others : {b : Shape} {m : ℕ} {cs : List ℕ} {vs : List Visit} → Goods b m cs vs → Goods b m (others cs) (others vs)
unfolding others
good_others none = none
good_others (more x none) = more x none
good_others (more x (more y z)) = more x (good_others z)

pub quiet_all : (b : Shape) (cs : List ℕ) → ((j : ℕ) → binds b (get_or cs j 0) ≡ []) → all_binds b cs ≡ []
quiet_all b [] q = refl
quiet_all b (c ∷ cs) q = ap (λ k. k ++ all_binds b cs) (q 0) ∙ quiet_all b cs (λ j. q (suc j))
