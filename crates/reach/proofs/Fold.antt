use Rattle.std.proofs.Common.{◌≡◌, ℕ, zero, suc, ◌+◌, ◌-◌, ◌<◌, ◌≤◌, List, [], ◌∷◌, map, length, get_or, drop, Some, None, Option, sym, refl, ap, ◌∙◌, add-one, arith}
use Rattle.std.proofs.lemmas.List.{get_or-take, get_or-drop, length-take, length-map, drop_all}
use Rattle.format.specs.declared.ids.NodeId.{NodeId}
use Rattle.sheet.specs.declared.node.Node.{Node}
use Rattle.reach.specs.declared.data.Place.{Place}
use Rattle.format.specs.declared.kind.NodeKind.{NodeKind}
use Rattle.format.specs.Ids.{number_of}
use Rattle.reach.specs.Shape.{Shape, Below, node_at, child_at, children_of}
use Rattle.reach.specs.Visit.{State, Visit, skip, all, step, of_child, deep, folded, below, visit_of, visits, size_of, sizes, size_step, total, others, each}

-- every child of n is numbered below n
pub falls : (b : Shape) (fall : Below b.nodes b.children) (n : ℕ) → 0 < n → n ≤ 512 → (i : ℕ) → i < length (children_of b n) → number_of (get_or (children_of b n) i None) < n
falls b fall n p q i h =
    let l : i < (node_at b.nodes n).count = omega (arith, length-take (node_at b.nodes n).count (drop (node_at b.nodes n).first b.children)) in
    let e : get_or (children_of b n) i None ≡ child_at b.children ((node_at b.nodes n).first + i) = rw (get_or-take, get_or-drop) in
    let f = fall (n - 1) i (omega arith) l in
    omega (arith, ap number_of e)

-- two ways to a value that agree below n agree on the children
agree : {X : Type 0} (x : X) (n : ℕ) (f g : ℕ → X) → ((d : ℕ) → 0 < d → d < n → f d ≡ g d) → (cs : List (Option NodeId)) → ((i : ℕ) → i < length cs → number_of (get_or cs i None) < n) → map (of_child x f) cs ≡ map (of_child x g) cs
agree x n f g e [] h = refl
agree x n f g e (None ∷ cs) h = ap (λ ys. x ∷ ys) (agree x n f g e cs (λ i l. h (suc i) (omega arith)))
agree x n f g e (Some c ∷ cs) h =
    let a : f c.raw ≡ g c.raw = e c.raw c.real.0 (h 0 (omega arith)) in
    let r : map (of_child x f) cs ≡ map (of_child x g) cs = agree x n f g e cs (λ i l. h (suc i) (omega arith)) in
    cc

enough : {X : Type 0} (x : X) (f : ℕ → NodeKind → List X → X) (b : Shape) (fall : Below b.nodes b.children) (k j n : ℕ) → 0 < n → n ≤ 512 → n < k → n < j → deep x f b k n ≡ deep x f b j n
unfolding deep
enough x f b fall zero j n p q h l = absurd (omega arith)
enough x f b fall (suc k) zero n p q h l = absurd (omega arith)
enough x f b fall (suc k) (suc j) n p q h l =
    ap (f n (node_at b.nodes n).kind) (agree x n (deep x f b k) (deep x f b j) (λ d s t. enough x f b fall k j d s (omega arith) (omega arith) (omega arith)) (children_of b n) (falls b fall n p q))

-- the value of a node is by the values of its children
pub folded_is : {X : Type 0} (x : X) (f : ℕ → NodeKind → List X → X) (b : Shape) (fall : Below b.nodes b.children) (n : ℕ) → 0 < n → n ≤ 512 → folded x f b n ≡ f n (node_at b.nodes n).kind (below x f b n)
unfolding folded deep
folded_is x f b fall n p q =
    ap (f n (node_at b.nodes n).kind) (agree x n (deep x f b n) (folded x f b) (λ d s t. enough x f b fall n (suc d) d s (omega arith) t (omega arith)) (children_of b n) (falls b fall n p q))

pub get_or_map_any : {X Y : Type 0} (f : X → Y) (xs : List X) (i : ℕ) (d : X) → get_or (map f xs) i (f d) ≡ f (get_or xs i d)
get_or_map_any f [] i d = refl
get_or_map_any f (x ∷ xs) zero d = refl
get_or_map_any f (x ∷ xs) (suc i) d = get_or_map_any f xs i d

pub all_more : (vs : List Visit) (i : ℕ) (at : _) (s : State) → all (drop i vs) at s ≡ all (drop (suc i) vs) (get_or vs i skip at s).1 (get_or vs i skip at s).0
unfolding all
all_more [] zero at s = refl
all_more [] (suc i) at s = refl
all_more (v ∷ vs) zero at s = refl
all_more (v ∷ vs) (suc i) at s = all_more vs i at s

pub total_more : (ws : List ℕ) (i : ℕ) → total (drop i ws) ≡ get_or ws i 0 + total (drop (suc i) ws)
total_more [] zero = refl
total_more [] (suc i) = refl
total_more (w ∷ ws) zero = refl
total_more (w ∷ ws) (suc i) = total_more ws i

pub size_is : (b : Shape) (fall : Below b.nodes b.children) (n : NodeId) → size_of b n.raw ≡ 1 + total (sizes b n.raw)
size_is b fall n = folded_is 0 size_step b fall n.raw n.real.0 n.real.1

pub size_split : (b : Shape) (fall : Below b.nodes b.children) (n : NodeId) → size_of b n.raw ≡ 1 + (get_or (sizes b n.raw) 0 0 + total (drop 1 (sizes b n.raw)))
size_split b fall n = size_is b fall n ∙ ap (λ k. 1 + k) (total_more (sizes b n.raw) 0)

pub visit_is : (b : Shape) (fall : Below b.nodes b.children) (n : NodeId) → visit_of b n.raw ≡ step n.raw (node_at b.nodes n.raw).kind (visits b n.raw)
visit_is b fall n = folded_is skip step b fall n.raw n.real.0 n.real.1

-- what stands at i among the values of the children
pub below_read : {X : Type 0} (x : X) (f : ℕ → NodeKind → List X → X) (b : Shape) (n i : ℕ) (o : Option NodeId) → o ≡ get_or (children_of b n) i None → get_or (below x f b n) i x ≡ of_child x (folded x f b) o
below_read x f b n i o e = get_or_map_any (of_child x (folded x f b)) (children_of b n) i None ∙ ap (of_child x (folded x f b)) (sym e)

pub below_done : {X : Type 0} (x : X) (f : ℕ → NodeKind → List X → X) (b : Shape) (n i : ℕ) {r : Node} → r ≡ node_at b.nodes n → r.count ≤ i → drop i (below x f b n) ≡ []
below_done x f b n i e h = drop_all i (below x f b n) (rw length-map (omega (arith, length-take (node_at b.nodes n).count (drop (node_at b.nodes n).first b.children), ap (λ r. r.count) e)))

pub all_turn : (vs : List Visit) (i : ℕ) (at : Place) (s : State) → all (drop i vs) at s ≡ all (drop (i + 1) vs) (get_or vs i skip at s).1 (get_or vs i skip at s).0
all_turn vs i at s = rw add-one (all_more vs i at s)

pub all_none : (vs : List Visit) (at : _) (s : State) → vs ≡ [] → all vs at s ≡ (s, at)
unfolding all
all_none vs at s e = rw e

pub all_end : (b : Shape) (n i : ℕ) (at : Place) (s : State) → (node_at b.nodes n).count ≤ i → all (drop i (visits b n)) at s ≡ (s, at)
unfolding all
all_end b n i at s h = rw (below_done skip step b n i refl h)

pub total_step : (ws : List ℕ) (i : ℕ) → total (drop i ws) ≡ get_or ws i 0 + total (drop (i + 1) ws)
total_step ws i = rw add-one (total_more ws i)

-- a list is every second of it, from its first and from its second
pub pairs_split : (ws : List ℕ) → total ws ≡ total (others ws) + total (others (drop 1 ws))
unfolding others
pairs_split [] = omega arith
pairs_split (w ∷ []) = omega arith
pairs_split (w ∷ (v ∷ [])) = omega arith
pairs_split (w ∷ (v ∷ (u ∷ ws))) = omega (arith, pairs_split (v ∷ (u ∷ ws)), pairs_split (u ∷ ws))

pairs_more : (ws : List ℕ) (i : ℕ) → total (others (drop i ws)) ≡ get_or ws i 0 + total (others (drop (suc (suc i)) ws))
unfolding others
pairs_more [] zero = refl
pairs_more [] (suc i) = refl
pairs_more (w ∷ []) zero = refl
pairs_more (w ∷ (v ∷ ws)) zero = refl
pairs_more (w ∷ ws) (suc i) = pairs_more ws i

pub pairs_step : (ws : List ℕ) (i : ℕ) → total (others (drop i ws)) ≡ get_or ws i 0 + total (others (drop (i + 2) ws))
pairs_step ws i = let e : i + 2 ≡ suc (suc i) = omega arith in rw e (pairs_more ws i)

all_pairs_more : (vs : List Visit) (i : ℕ) (at : Place) (s : State) → all (others (drop i vs)) at s ≡ all (others (drop (suc (suc i)) vs)) (get_or vs i skip at s).1 (get_or vs i skip at s).0
unfolding others all
all_pairs_more [] zero at s = refl
all_pairs_more [] (suc i) at s = refl
all_pairs_more (v ∷ []) zero at s = refl
all_pairs_more (v ∷ (w ∷ vs)) zero at s = refl
all_pairs_more (v ∷ vs) (suc i) at s = all_pairs_more vs i at s

pub all_pairs_step : (vs : List Visit) (i : ℕ) (at : Place) (s : State) {q : State} {p : Place} → get_or vs i skip at s ≡ (q, p) → all (others (drop i vs)) at s ≡ all (others (drop (i + 2) vs)) p q
all_pairs_step vs i at s f = let e : i + 2 ≡ suc (suc i) = omega arith in all_pairs_more vs i at s ∙ rw (f, e)

pub all_pairs_none : (vs : List Visit) (at : Place) (s : State) → vs ≡ [] → all (others vs) at s ≡ (s, at)
unfolding all others
all_pairs_none vs at s e = rw e

each_more : (vs : List Visit) (i : ℕ) (at : Place) (s : State) → each (drop i vs) at s ≡ each (drop (suc i) vs) at (get_or vs i skip at s).0
unfolding each
each_more [] zero at s = refl
each_more [] (suc i) at s = refl
each_more (v ∷ vs) zero at s = refl
each_more (v ∷ vs) (suc i) at s = each_more vs i at s

pub each_turn : (vs : List Visit) (i : ℕ) (at : Place) (s : State) → each (drop i vs) at s ≡ each (drop (i + 1) vs) at (get_or vs i skip at s).0
each_turn vs i at s = rw add-one (each_more vs i at s)

pub each_none : (vs : List Visit) (at : Place) (s : State) → vs ≡ [] → each vs at s ≡ s
unfolding each
each_none vs at s e = rw e

pub each_end : (b : Shape) (n i : ℕ) (at : Place) (s : State) → (node_at b.nodes n).count ≤ i → each (drop i (visits b n)) at s ≡ s
unfolding each
each_end b n i at s h = rw (below_done skip step b n i refl h)

each_pairs_more : (vs : List Visit) (i : ℕ) (at : Place) (s : State) → each (others (drop i vs)) at s ≡ each (others (drop (suc (suc i)) vs)) at (get_or vs i skip at s).0
unfolding others each
each_pairs_more [] zero at s = refl
each_pairs_more [] (suc i) at s = refl
each_pairs_more (v ∷ []) zero at s = refl
each_pairs_more (v ∷ (w ∷ vs)) zero at s = refl
each_pairs_more (v ∷ vs) (suc i) at s = each_pairs_more vs i at s

pub pairs_turn : (vs : List Visit) (i : ℕ) (at : Place) (s : State) → each (others (drop i vs)) at s ≡ each (others (drop (i + 2) vs)) at (get_or vs i skip at s).0
pairs_turn vs i at s = let e : i + 2 ≡ suc (suc i) = omega arith in rw e (each_pairs_more vs i at s)

pub each_pairs_none : (vs : List Visit) (at : Place) (s : State) → vs ≡ [] → each (others vs) at s ≡ s
unfolding each others
each_pairs_none vs at s e = rw e

pub pairs_end : (b : Shape) (n i : ℕ) (at : Place) (s : State) → (node_at b.nodes n).count ≤ i → each (others (drop i (visits b n))) at s ≡ s
unfolding each others
pairs_end b n i at s h = rw (below_done skip step b n i refl h)
