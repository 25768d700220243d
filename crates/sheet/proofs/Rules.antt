-- The tree rules, from what the code tests.
use Rattle.std.proofs.Common.{◌≡◌, ℕ, ◌+◌, ◌<◌, ◌≤◌, Bool, true, false, not, length, get_or, take, Some, Option, sym, refl, ap, ◌∙◌, subst, arith}
use denote.Enum.Bare.{sameb}
use mathlib.Core.Bool.{beq}
use Rattle.format.specs.contracts.kind.Sort.{the_type}
use Rattle.format.specs.declared.kind.Sort.{Sort}
use Rattle.format.specs.declared.kind.Sort.TheVariants as S
use Rattle.format.specs.Kinds.{admits, same_sort, slot_at}
use Rattle.sheet.specs.Shape.{Shape, node_at, kind_at, child_at, sort_at, times}
use Rattle.sheet.specs.Steps.{FirstClaim}
use Rattle.sheet.specs.declared.node.Node.{Node}
use Rattle.sheet.specs.Tree.{Child, GoodChild}
use Rattle.sheet.proofs.Times.{new_from, from_new}

-- a child that is there, lower than its parent and admitted, is good exactly if the table has it as the first that names its node
pub child_decided : (t : Shape) (i j q c : ℕ) (v : Option ℕ) → q ≡ (node_at t i).first + j → c ≡ get_or t.children q 0 → c ≤ i → admits (slot_at (kind_at t i) j) (sort_at t c) ≡ true →
    q < length t.children → (c ≡ 0 → ⊥) → FirstClaim t.children (length t.children) c v →
    (v ≡ Some q → GoodChild t i j) × (GoodChild t i j → v ≡ Some q)
child_decided t i j q c v eq ec low ad lq nz f =
    let ek : c ≡ child_at t i j = ec ∙ ap (λ x. get_or t.children x 0) eq in (
      λ h. record {
        admitted = subst (λ x. admits (slot_at (kind_at t i) j) (sort_at t x) ≡ true) ek ad;
        lower = omega (arith, ek);
        new = λ _. subst (λ x. times (child_at t i j) (take x t.children) ≡ 0) eq
            (subst (λ x. times x (take q t.children) ≡ 0) ek (new_from t.children v q c f h));
      },
      λ g. from_new t.children v q c lq (sym ec) f
          (subst (λ x. times x (take q t.children) ≡ 0) (sym ek)
          (subst (λ x. times (child_at t i j) (take x t.children) ≡ 0) (sym eq) (g.new (omega (arith, ek))))),
    )

-- sorts are told apart by number
pub body_flag : (s : Sort) → sameb the_type s S.Body ≡ same_sort s S.Body
body_flag S.Expression = refl
body_flag S.Pattern = refl
body_flag S.Type = refl
body_flag S.Statement = refl
body_flag S.Arm = refl
body_flag S.Body = refl

-- two flags that a test finds no difference between
pub same_flags : (a b : Bool) → not (beq a b) ≡ false → a ≡ b
same_flags true true h = refl
same_flags true false h = h
same_flags false true h = sym h
same_flags false false h = refl

-- a child as the code reads it
pub child_is : (t : Shape) (i j c : ℕ) (n : Node) → n ≡ node_at t i → i < length t.nodes → j < n.count → c ≡ get_or t.children (n.first + j) 0 → Child t i j c
child_is t i j c n e l h k = record { node = l; place = omega (arith, ap (λ x. x.count) e); is = sym (k ∙ ap (λ x. get_or t.children (x.first + j) 0) e) }
