use Rattle.std.proofs.Common.{drop, arith, rules}
use Rattle.std.proofs.lemmas.Slice.Zip.{length-zip}
use Rattle.std.proofs.lemmas.Iterator.{IsFirst-from_position, YieldsList-from_slice, YieldsList-from_zip}
use Rattle.std.proofs.lemmas.Iterator.Adapters.{YieldsList-from_skip}
use Rattle.items.proofs.Sorted.{InTurn, OutOfTurn, all_in_turn, first_out_of_turn}
use Rattle.items.proofs.order.check_order.Goals as goal

pub returns-in-None : goal.returns-in-None
returns-in-None g c =
    let rows = c.args.rows.now in
    let key = g.R.Keyed.filed in
    let first = IsFirst-from_position c.position-unsorted.new.self _ c.position-unsorted.result (OutOfTurn key) (InTurn key) c.position-unsorted.ensures.ran
    (YieldsList-from_zip (YieldsList-from_slice rows cc) (YieldsList-from_skip 1 (YieldsList-from_slice rows cc) cc)) (λ x q k. search rules) (λ x q k. search rules) in
    record { rising_or_the_first_refused = all_in_turn key rows (rw c.in-None.is at first) }

pub returns-in-Some : goal.returns-in-Some
returns-in-Some g c =
    let rows = c.args.rows.now in
    let key = g.R.Keyed.filed in
    let first = IsFirst-from_position c.position-unsorted.new.self _ c.position-unsorted.result (OutOfTurn key) (InTurn key) c.position-unsorted.ensures.ran
    (YieldsList-from_zip (YieldsList-from_slice rows cc) (YieldsList-from_skip 1 (YieldsList-from_slice rows cc) cc)) (λ x q k. search rules) (λ x q k. search rules) in
    let f = rw c.in-Some.is at first in
    record { rising_or_the_first_refused = first_out_of_turn key rows c.args.part _ c.in-Some.i (c.at_record.ensures.tells_that_record (omega (arith, f.0, length-zip rows (drop 1 rows), c.requires.few))) f.0 f.1 f.2 }
