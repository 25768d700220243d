-- What the bytes of the sections write, record by record.
use Rattle.std.specs.Prelude.{ℕ, ◌+◌, ◌*◌, ◌≤◌, cond, List, length, Some, None, Option, ◌==◌, slice_index}
use Rattle.format.specs.declared.ids.MacroId.{MacroId}
use Rattle.framing.specs.Layout.{u32at}
use Rattle.host.specs.declared.item.ItemKind.{ItemKind}
use Rattle.host.specs.declared.item.ItemKind.TheVariants as K
use Rattle.item_rows.specs.declared.rows.ItemRow.{ItemRow}
use Rattle.item_rows.specs.declared.rows.ConstRow.{ConstRow}
use Rattle.item_rows.specs.declared.rows.ExpansionRow.{ExpansionRow}

-- item i: its place, its name, its kind and its number
abbrev pub kind_code : List ℕ → ℕ → ℕ
kind_code xs i = slice_index xs (13 * i + 8)

abbrev pub kind_from : ℕ → ItemKind
kind_from c = cond (c == 1) K.Function (cond (c == 2) K.Struct (cond (c == 3) K.Variant (cond (c == 4) K.Constant K.Static)))

abbrev pub item_at : List ℕ → ℕ → ItemRow
item_at xs i = record {
  place = record { 0 = u32at xs (13 * i) };
  name = record { 0 = u32at xs (13 * i + 4) };
  item = record { kind = kind_from (kind_code xs i); id = record { 0 = u32at xs (13 * i + 9) } };
}

-- its name is past those of `self` and `Self`, its kind 1 to 5, its number from 1
pub record GoodItem (xs : List ℕ) (i : ℕ) : Type 0 where
  pub named : 3 ≤ (item_at xs i).name.0
  pub kind_least : 1 ≤ kind_code xs i
  pub kind_most : kind_code xs i ≤ 5
  pub numbered : 1 ≤ (item_at xs i).item.id.0

-- constant i: its owner, its name and its number, each from 1
abbrev pub const_at : List ℕ → ℕ → ConstRow
const_at xs i = record { owner = record { 0 = u32at xs (12 * i) }; name = record { 0 = u32at xs (12 * i + 4) }; param = record { 0 = u32at xs (12 * i + 8) } }

pub record GoodConst (xs : List ℕ) (i : ℕ) : Type 0 where
  pub owned : 1 ≤ (const_at xs i).owner.0
  pub named : 1 ≤ (const_at xs i).name.0
  pub numbered : 1 ≤ (const_at xs i).param.0

-- expansion i: its context, from 1, its macro, where 0 is none, its parent and its opaque form
abbrev pub macro_from : ℕ → Option MacroId
macro_from n = cond (n == 0) None (Some (record { 0 = n }))

abbrev pub expansion_at : List ℕ → ℕ → ExpansionRow
expansion_at xs i = record {
  context = record { 0 = u32at xs (16 * i) };
  by = macro_from (u32at xs (16 * i + 4));
  parent = record { 0 = u32at xs (16 * i + 8) };
  opaque = record { 0 = u32at xs (16 * i + 12) };
}

pub record GoodExpansion (xs : List ℕ) (i : ℕ) : Type 0 where
  pub past_root : 1 ≤ (expansion_at xs i).context.0
