use Rattle.std.proofs.Common.{◌≡◌, ℕ, List, drop, map, length, sym, refl, ap, ◌∙◌, subst, arith}
use Rattle.table.specs.Tables.{listed}
use Rattle.reach.specs.Bare.{Entry}
use Rattle.reach.specs.Blank.{bare_entry, bare_scope}
use Rattle.reach.specs.Held.{shape_of}
use Rattle.reach.specs.Once.{Once}
use Rattle.reach.specs.Shape.{node_at}
use Rattle.reach.specs.Visit.{State, start, first, each, nth, visits, sizes, built, selfed, self_in}
use Rattle.builder.specs.Told.{tables_of, told}
use Rattle.reach.proofs.Once.{others}
use Rattle.reach.proofs.Fold.{total_more}
use Rattle.reach.proofs.Laws.{falls_law, tree_law}
use Rattle.reach.proofs.Ranges.{renamed_ranged}
use Rattle.builder.proofs.tables.Tables.of_body.Goals as goal

pub invariant_of-tree-2 : goal.invariant_of-tree-2
invariant_of-tree-2 c =
    let t = c.visit_at.new.self in
    record { ranged = renamed_ranged (listed t.scopes.table) (listed t.entries) (listed c.name_all.new.entries) c.name_all.ensures.same_entries t.ranged }

pub visit_each-requires : goal.visit_each-requires
visit_each-requires c =
    let b = c.args.body.now in
    let r = c.root-root.result in
    let w = others (shape_of b) (falls_law b) r r refl (subst (Once (shape_of b)) (sym c.root-root.ensures.is_the_last) (tree_law b).once) in
    let l = r.real.1 in
    let t = total_more (sizes (shape_of b) r.raw) 0 in
    let one = ap length c.root.ensures.it_alone in
    let none = ap length c.new.ensures.lists_nothing in
    omega arith

pub visit_at-requires : goal.visit_at-requires
visit_at-requires c =
    let b = c.args.body.now in
    let r = c.root-root.result in
    let w = others (shape_of b) (falls_law b) r r refl (subst (Once (shape_of b)) (sym c.root-root.ensures.is_the_last) (tree_law b).once) in
    let l = r.real.1 in
    let t = total_more (sizes (shape_of b) r.raw) 0 in
    let one = ap length c.root.ensures.it_alone in
    let none = ap length c.new.ensures.lists_nothing in
    omega arith

pub returns-clause-is_the_tree_of_the_visit : goal.returns-clause-is_the_tree_of_the_visit
unfolding built
returns-clause-is_the_tree_of_the_visit c =
    let b = shape_of c.args.body.now in
    let r = c.root-root.result in
    let va = c.visit_at.new.self in
    let from : State → ℕ → State = λ s n. (nth (visits b n) 0 first (each (drop 1 (visits b n)) first s)).0 in
    let alone = ap (map bare_scope) c.root.ensures.it_alone in
    let none = ap (map bare_entry) c.new.ensures.lists_nothing in
    let s : start ≡ tables_of c.root.result c.new.result c.new-2.result = cc in
    let k : self_in (node_at b.nodes r.raw).kind ≡ c.self_binding.result = sym (c.self_binding.ensures.of_a_body ∙ ap (λ n. self_in n.kind) c.look-node.ensures.it) in
    let i : selfed (self_in (node_at b.nodes r.raw).kind) first start ≡ told c.enter_self.new.self = ap (λ x. selfed x first start) k ∙ (ap (λ q. selfed c.self_binding.result first q) s ∙ c.enter_self.ensures.is) in
    let named : told va ≡ tables_of va.scopes c.name_all.new.entries va.recorded = ap (λ (es : List Entry). let q : State = record { scopes = (told va).scopes; entries = es; placed = (told va).placed } in q) (sym c.name_all.ensures.same_entries) in
    let at_root : built b r.raw ≡ told va = ap (λ q. from q r.raw) i ∙ (ap (λ q. (nth (visits b r.raw) 0 first q).0) c.visit_each.ensures.is ∙ ap (λ q. q.0) c.visit_at.ensures.is) in
    ap (built b) (sym c.root-root.ensures.is_the_last) ∙ (at_root ∙ named)
