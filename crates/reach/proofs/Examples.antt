-- The worked examples compute.
use Rattle.std.proofs.Common.{refl}
use Rattle.reach.specs.Examples.{ExamplesHold}
use Rattle.reach.specs.Visit.{added, all, built, deep, each, folded, inner, made, others, put, step}

pub examples_hold : ExamplesHold
unfolding added all built deep each folded inner made others put step
examples_hold = record { scopes = refl; entries = refl; use_of_x = refl; use_of_y = refl; block = refl; pattern_entries = refl; use_outside = refl; held_outside = refl }
