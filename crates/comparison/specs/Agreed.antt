-- When a comparison has found no difference.
use Rattle.std.specs.Prelude.{◌≡◌, ℕ, ◌<◌}

-- none was counted, and one more could have been
abbrev pub Silent : ℕ → ℕ → Type 0
Silent before after = (before < 4294967295) × (after ≡ before)
