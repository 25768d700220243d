use Rattle.std.proofs.Common.{◌≡◌, ◌-◌, ◌<◌, length, get_or, None, sym, ap, ◌∙◌, arith}
use Rattle.std.proofs.lemmas.Bool.{ltb-true}
use Rattle.std.proofs.lemmas.List.{get_or_default}
use Rattle.format.specs.Ids.{number_of}
use Rattle.sheet.specs.Held.{children_of}
use Rattle.sheet.proofs.Lower.{child_lower}
use Rattle.sheet.proofs.body.Body.child.Goals as goal

pub returns-clause-is_lower : goal.returns-clause-is_lower
returns-clause-is_lower c =
    let b = c.args.self.now in
    let i = c.args.n.raw - 1 in
    let k = c.from.result in
    let l = c.in_ok-get.ensures.lookup in
    let e = c.in_ok-children.ensures.are_its_children in
    let there : k < length c.in_ok-children.field-0.now = ltb-true _ _ (sym l.0) in
    let same : number_of c.in_ok-get.field-0.now ≡ number_of (get_or (children_of b i) k None) = ap number_of (l.1 ∙ (get_or_default c.in_ok-children.field-0.now k _ None there ∙ ap (λ xs. get_or xs k None) e)) in
    omega (arith, same, child_lower b i k (omega (arith, there, ap length e)), c.args.n.real)
