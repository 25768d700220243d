-- Which numbers are those of kinds.
use Rattle.std.proofs.Common.{◌≡◌, ℕ, ◌≤◌, arith}
use Rattle.host.specs.declared.item.ItemKind.{ItemKind}
use Rattle.host.specs.declared.item.ItemKind.TheVariants as K
use Rattle.host.specs.Kinds.{kind_number}

-- the kinds' numbers are all those from 1 to 5
pub some_kind : (n : ℕ) → ((k : ItemKind) → kind_number k ≡ n → ⊥) → 1 ≤ n → n ≤ 5 → ⊥
some_kind n h a b = grind (arith, h K.Function, h K.Struct, h K.Variant, h K.Constant, h K.Static)
