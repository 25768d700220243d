-- What made a scope: the numbers as a line has them, 0 for none.
use Rattle.std.specs.Prelude.{ℕ, Some, None, Option}
use Rattle.format.specs.declared.ids.LabelId.{LabelId}
use Rattle.reach.specs.declared.data.ScopeKind.{ScopeKind}
use Rattle.reach.specs.declared.data.ScopeKind.TheVariants as K
use Rattle.comparison.specs.declared.makers.Maker.{Maker}
use Rattle.comparison.specs.declared.makers.Maker.TheVariants as M

abbrev pub label_told : Option LabelId → ℕ
label_told None = 0
label_told (Some l) = l.0

abbrev pub maker_of : ScopeKind → Maker
maker_of K.Plain = M.Plain
maker_of (K.Block b l) = M.Block b.0 (label_told l)
maker_of (K.Label l) = M.Label l.0
maker_of (K.MacroDef m) = M.Definition m.0
