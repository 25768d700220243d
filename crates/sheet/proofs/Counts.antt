-- Child counts, one after another.
use Rattle.std.proofs.Common.{◌≡◌, ℕ, zero, suc, ◌+◌, ◌-◌, ◌<◌, ◌≤◌, List, [], ◌∷◌, ◌++◌, length, get_or, take, unwrap_or, sym, refl, ap, ◌∙◌, subst, add-one, arith}
use Rattle.std.proofs.lemmas.List.{take_more, take_all}
use Rattle.format.specs.declared.kind.NodeKind.{NodeKind}
use Rattle.format.specs.declared.kind.NodeKind.TheVariants as K
use Rattle.format.specs.declared.kind.NodeRecord.{NodeRecord}
use Rattle.format.specs.Kinds.{Says}
use Rattle.format.proofs.Codes.{said}
use Rattle.sheet.specs.declared.node.Node.{Node}
use Rattle.sheet.specs.Records.{record_at, begins, kind_said, node_from}
use Rattle.sheet.specs.Shape.{Shape, blank, node_at, total}
use Rattle.sheet.specs.Tree.{LaidOut}

pub begins_none : (ns : List ℕ) → begins ns 0 ≡ 0
unfolding begins
begins_none ns = refl

pub begins_more : (ns : List ℕ) (i : ℕ) → begins ns (i + 1) ≡ begins ns i + (record_at ns i).count
unfolding begins
begins_more ns i = rw add-one

abbrev node : NodeKind → ℕ → ℕ → Node
node k f c = record { kind = k; first = f; count = c }

-- a node that was read
pub node_read : (m : ℕ) (ns : List ℕ) (i : ℕ) (x : NodeRecord) (n : Node) → x ≡ record_at ns i → Says m x n.kind → n.first ≡ begins ns i → n.count ≡ x.count → n ≡ node_from ns i
node_read m ns i x n e s f c =
    let k : n.kind ≡ kind_said (record_at ns i) = ap (λ o. unwrap_or o K.Leaf) (sym (said m x n.kind s)) ∙ ap kind_said e in
    ap (λ y. node y n.first n.count) k ∙ (ap (λ y. node (kind_said (record_at ns i)) y n.count) f ∙ ap (λ y. node (kind_said (record_at ns i)) (begins ns i) y) (c ∙ ap (λ y. y.count) e))

pub total_push : (xs : List Node) (n : Node) → total (xs ++ (n ∷ [])) ≡ total xs + n.count
total_push [] n = omega arith
total_push (x ∷ xs) n = omega (arith, total_push xs n)

-- the sum of the first i + 1 counts
pub total_more : (ns : List Node) (i : ℕ) → i < length ns → total (take (i + 1) ns) ≡ total (take i ns) + (get_or ns i blank).count
total_more ns i h = ap total (take_more ns i blank h) ∙ total_push (take i ns) (get_or ns i blank)

pub total_whole : (ns : List Node) (n : ℕ) → n ≡ length ns → total (take n ns) ≡ total ns
total_whole ns n e = ap total (take_all n ns (omega arith))

total_up : (ns : List Node) (i d : ℕ) → i + d ≤ length ns → total (take i ns) ≤ total (take (i + d) ns)
total_up ns i zero h = let z : i + 0 ≡ i = omega arith in rw z (omega arith)
total_up ns i (suc d) h =
    let z : i + suc d ≡ (i + d) + 1 = omega arith in
    rw z (omega (arith, total_up ns i d (omega arith), total_more ns (i + d) (omega arith)))

-- the sum of the first i counts is no more than that of all
pub total_part : (ns : List Node) (i : ℕ) → i ≤ length ns → total (take i ns) ≤ total ns
total_part ns i h =
    let z : i + (length ns - i) ≡ length ns = omega arith in
    let u = subst (λ n. total (take i ns) ≤ total (take n ns)) z (total_up ns i (length ns - i) (omega arith)) in
    omega (arith, total_whole ns (length ns) refl)

-- where each node's children begin after those before it, they lie within all children
pub laid_within : (t : Shape) (i : ℕ) → LaidOut t → i < length t.nodes → (node_at t i).first + (node_at t i).count ≤ total t.nodes
laid_within t i l h = omega (arith, l i h, total_more t.nodes i h, total_part t.nodes (i + 1) (omega arith))

-- the last node's children end where all end
pub laid_end : (t : Shape) (i : ℕ) → LaidOut t → i + 1 ≡ length t.nodes → (node_at t i).first + (node_at t i).count ≡ total t.nodes
laid_end t i l h = omega (arith, l i (omega arith), total_more t.nodes i (omega arith), total_whole t.nodes (i + 1) h)
