-- The worked examples compute.
use Rattle.std.proofs.Common.{refl}
use Rattle.scope.specs.Queries.{entries_of, first_that}
use Rattle.reach.specs.Visit.{added, all, built, deep, each, folded, inner, made, others, put, step}
use Rattle.resolve.specs.Examples.{ExamplesHold}

pub examples_hold : ExamplesHold
unfolding added all built deep each entries_of first_that folded inner made others put step
examples_hold = record { use_scope = refl; by_macro = refl; by_hand = refl; renamed = refl; parameter_scope = refl; parameter = refl; let_scope = refl; local_let = refl; of_block = refl; of_module = refl; unfound = refl }
