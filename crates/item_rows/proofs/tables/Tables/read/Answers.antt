use Rattle.std.proofs.lemmas.Result.{err_from_is_err_and}
use Rattle.item_rows.proofs.Load.{consts_refused, expansions_refused}
use Rattle.item_rows.proofs.tables.Tables.read.Goals as goal

pub returns-in_err-expansions : goal.returns-in_err-expansions
returns-in_err-expansions c =
    let p = err_from_is_err_and c.from_residual-in_err-expansions.result c.from_residual-in_err-expansions.ensures.1 in
    rw (p.1, p.2) record {
      filled_or_the_first_cause =
          expansions_refused c.args.bytes.now _ c.in_ok-sheet.ensures.framed_or_the_first_cause _ c.in_ok-items.ensures.all_read_or_the_first_refused c.in_ok-consts.ensures.all_read_or_the_first_refused
          c.in_err-expansions.ensures.all_read_or_the_first_refused;
    }

pub returns-in_err-consts : goal.returns-in_err-consts
returns-in_err-consts c =
    let p = err_from_is_err_and c.from_residual-in_err-consts.result c.from_residual-in_err-consts.ensures.1 in
    rw (p.1, p.2) record {
      filled_or_the_first_cause =
          consts_refused c.args.bytes.now _ c.in_ok-sheet.ensures.framed_or_the_first_cause _ c.in_ok-items.ensures.all_read_or_the_first_refused c.in_err-consts.ensures.all_read_or_the_first_refused;
    }
