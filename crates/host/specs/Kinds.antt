-- The numbers of the kinds of item.
use Rattle.std.specs.Prelude.{◌≡◌, ℕ, Result, MatchResult}
use Rattle.host.specs.declared.item.ItemKind.{ItemKind}
use Rattle.host.specs.declared.item.ItemKind.TheVariants as K
use Rattle.host.specs.declared.item.UnknownKind.{UnknownKind}

abbrev pub kind_number : ItemKind → ℕ
kind_number K.Function = 1
kind_number K.Struct = 2
kind_number K.Variant = 3
kind_number K.Constant = 4
kind_number K.Static = 5

-- the kind that has a number, or that number where no kind has it
abbrev pub KindOfNumber : ℕ → Result ItemKind UnknownKind → Type 0
KindOfNumber n r = MatchResult r (λ k. kind_number k ≡ n) (λ e. (e.0 ≡ n) × ((k : ItemKind) → kind_number k ≡ n → ⊥))
