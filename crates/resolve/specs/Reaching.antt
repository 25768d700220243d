-- A local that is found reaches the use, by the rules of how far names reach.
use Rattle.std.specs.Prelude.{◌≡◌, ℕ}
use Rattle.format.specs.declared.ids.BindingId.{BindingId}
use Rattle.reach.specs.Law.{bound}
use Rattle.reach.specs.Shape.{Shape}
use Rattle.reach.specs.Words.{Reaches}

-- binding v is bound at a node whose name reaches node e of the body m
pub record Reached (b : Shape) (m : ℕ) (v : BindingId) (e : ℕ) : Type 0 where
  pub at : ℕ
  pub binds : v ≡ bound b at
  pub reaches : Reaches b m at e
