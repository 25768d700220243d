use Rattle.std.proofs.Common.{rules}
use Rattle.std.proofs.lemmas.Result.{err_from_is_err_and}
use Rattle.items.proofs.Load.{unsorted_first}
use Rattle.items.proofs.sheet.ItemSheet.read.Goals as goal

pub returns-in_err-check_sorted : goal.returns-in_err-check_sorted
returns-in_err-check_sorted c =
    let p = err_from_is_err_and c.from_residual-in_err-check_sorted.result c.from_residual-in_err-check_sorted.ensures.1 in
    let f = c.in_ok-tables.ensures.filled_or_the_first_cause in
    let u = c.in_err-check_sorted.ensures.sorted_or_the_first_refused in
    rw (p.1, p.2) record { accepted_or_the_first_cause = search (rules, unsorted_first) }
