-- What reading an item sheet promises.
use Rattle.std.specs.Prelude.{◌≡◌, ℕ, List}
use Rattle.framing.specs.Faults.{NoneApply}
use Rattle.items.specs.declared.sheet.ItemSheet.{ItemSheet}
use Rattle.item_rows.specs.Causes.{Applies, consts_in, expansions_in, items_in}
use Rattle.items.specs.Held.{consts_of, expansions_of, items_of}

-- the tables list what the bytes write, record by record, and no more
pub record Written (bs : List ℕ) (s : ItemSheet) : Type 0 where
  pub items : items_of s ≡ items_in bs
  pub consts : consts_of s ≡ consts_in bs
  pub expansions : expansions_of s ≡ expansions_in bs

-- an accepted sheet: nothing speaks against it, and the tables are what it writes
pub record Accepted (bs : List ℕ) (s : ItemSheet) : Type 0 where
  pub no_cause : NoneApply (Applies bs)
  pub written : Written bs s
