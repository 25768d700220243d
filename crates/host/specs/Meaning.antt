-- What a host means: the tables that it answers from.
use Rattle.std.specs.Prelude.{None, Option}
use Rattle.format.specs.declared.ids.HygieneId.{HygieneId}
use Rattle.format.specs.declared.ids.Name.{Name}
use Rattle.format.specs.declared.ids.OwnerId.{OwnerId}
use Rattle.host.specs.declared.item.ConstParamId.{ConstParamId}
use Rattle.host.specs.declared.item.Item.{Item}
use Rattle.host.specs.declared.item.Outer.{Outer}
use Rattle.host.specs.declared.item.PlaceId.{PlaceId}

pub record ItemTables : Type 0 where
  pub items : PlaceId → Name → Option Item
  pub const_params : OwnerId → Name → Option ConstParamId

pub record ExpansionTables : Type 0 where
  pub outers : HygieneId → Option Outer
  pub opaques : HygieneId → HygieneId

-- no context has an outer macro, and each is its own opaque form
abbrev pub without_macros : ExpansionTables
without_macros = record { outers = λ _. None; opaques = λ h. h }
