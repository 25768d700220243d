-- The children of a node of a body.
use Rattle.std.proofs.Common.{◌≡◌, ℕ, ◌+◌, ◌<◌, ◌≤◌, map, length, get_or, take, drop, None, sym, ap, ◌∙◌, ⊎_elim, arith}
use Rattle.std.proofs.lemmas.Bool.{cases_lt}
use Rattle.std.proofs.lemmas.List.{get_or-drop, get_or-map, get_or_past, get_or-take, length-map, length-take}
use Rattle.format.specs.Ids.{number_of}
use Rattle.sheet.specs.declared.body.Body.{Body}
use Rattle.sheet.specs.Held.{children_of, tree_of}
use Rattle.sheet.specs.Shape.{blank}
use Rattle.table.specs.Tables.{listed}
use Rattle.sheet.proofs.Counts.{laid_within}

-- a child has a lower number than its parent
pub child_lower : (b : Body) (i j : ℕ) → j < length (children_of b i) → number_of (get_or (children_of b i) j None) < i + 1
child_lower b i j h =
    let cs = listed b.children in
    let n = get_or (listed b.nodes) i blank in
    let k : j < n.count = omega (arith, h, length-take n.count (drop n.first cs)) in
    ⊎_elim
    (λ (l : i < length (listed b.nodes)).
    let w = laid_within (tree_of b) i b.laid_out l in
    let q : n.first + j < length cs = omega (arith, w, k, b.adds_up, length-map cs number_of) in
    let e = ap number_of (get_or-take n.count (drop n.first cs) j None k ∙ get_or-drop n.first cs j None) ∙ sym (get_or-map number_of cs (n.first + j) None 0 q) in
    omega (arith, e, b.lower i j l k))
    (λ (l : length (listed b.nodes) ≤ i). absurd (omega (arith, k, ap (λ m. m.count) (get_or_past (listed b.nodes) i blank l))))
    (cases_lt i (length (listed b.nodes)))
