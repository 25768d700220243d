-- A kind is had back from what is written of it.
use Rattle.std.proofs.Common.{◌≡◌, ℕ, true, false, eqb, leb, Some, None, Option, sym, refl, ap, ◌∙◌, arith}
use Rattle.std.proofs.lemmas.Bool.{ne_eqb, leb-true, and_parts, cond-false}
use Rattle.format.specs.declared.ids.BindingId.{BindingId}
use Rattle.format.specs.declared.ids.BlockId.{BlockId}
use Rattle.format.specs.declared.ids.LabelId.{LabelId}
use Rattle.format.specs.declared.kind.NodeKind.{NodeKind}
use Rattle.format.specs.declared.kind.NodeKind.TheVariants as K
use Rattle.format.specs.declared.kind.NodeRecord.{NodeRecord}
use Rattle.format.specs.Kinds.{block_number, label_number, binding_number, block_real, label_real, binding_real, block_from, label_from, binding_from, named, writes, kind_from, Says, SaysOne}

positive : (n : ℕ) → leb 1 n ≡ true → eqb n 0 ≡ false
positive n h = ne_eqb n 0 (λ e. omega (arith, leb-true 1 n h))

block_back : (i : Option BlockId) → block_real i ≡ true → block_from (block_number i) ≡ i
block_back None h = refl
block_back (Some i) h = cond-false _ _ _ (positive i.0 h)

label_back : (l : Option LabelId) → label_real l ≡ true → label_from (label_number l) ≡ l
label_back None h = refl
label_back (Some l) h = cond-false _ _ _ (positive l.0 h)

binding_back : (m : ℕ) (v : Option BindingId) → binding_real m v ≡ true → binding_from (binding_number v) ≡ v
binding_back m None h = refl
binding_back m (Some v) h = cond-false _ _ _ (positive v.0 (and_parts _ _ h).0)

back : (m : ℕ) (k : NodeKind) → named m k ≡ true → kind_from (writes k).code (writes k).a (writes k).b ≡ Some k
back m K.Leaf h = refl
back m (K.Use n y) h = refl
back m K.Sequence h = refl
back m K.And h = refl
back m K.If h = refl
back m K.Let h = refl
back m (K.Block i l) h =
    let p = and_parts (block_real i) (label_real l) h in
    ap (λ x. Some (K.Block x (label_from (label_number l)))) (block_back i p.0) ∙ ap (λ x. Some (K.Block i x)) (label_back l p.1)
back m (K.Loop l) h = ap (λ x. Some (K.Loop x)) (label_back l h)
back m K.Closure h = refl
back m K.Match h = refl
back m K.Const h = refl
back m K.Repeat h = refl
back m K.Cast h = refl
back m K.LeafPattern h = refl
back m (K.Bind v) h = refl
back m K.Patterns h = refl
back m K.ValuePattern h = refl
back m K.LeafType h = refl
back m K.Types h = refl
back m K.ArrayType h = refl
back m K.LetStatement h = refl
back m K.ExprStatement h = refl
back m (K.MacroDef q) h = refl
back m K.OtherItem h = refl
back m K.Arm h = refl
back m (K.Body s) h = ap (λ x. Some (K.Body x)) (binding_back m s h)

-- what a record says is what its number and fields give
pub said : (m : ℕ) (x : NodeRecord) (k : NodeKind) → Says m x k → kind_from x.code x.a x.b ≡ Some k
said m x k s =
    ap (λ c. kind_from c x.a x.b) (sym s.code_is) ∙ (ap (λ a. kind_from (writes k).code a x.b) (sym s.a_is) ∙ (ap (λ b. kind_from (writes k).code (writes k).a b) (sym s.b_is) ∙ back m k s.all_named))

pub says_one : SaysOne
says_one m x k l p q = let a = said m x k p in let b = said m x l q in cc
