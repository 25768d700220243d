use Rattle.std.proofs.Common.{refl}
use Rattle.std.proofs.lemmas.Result.{err_from_is_err_and}
use Rattle.framing.specs.declared.fault.Refusal.TheVariants as R
use Rattle.framing.specs.Framing.{Framing}
use Rattle.framing.proofs.Firsts.{clear_none, clear_more, first_from}
use Rattle.framing.proofs.Framed.{clear_length, sound}
use Rattle.framing.proofs.frame.check_frame.Goals as goal

pub returns-in_err-check_counts : goal.returns-in_err-check_counts
returns-in_err-check_counts c =
    let p = err_from_is_err_and c.from_residual-in_err-check_counts.result c.from_residual-in_err-check_counts.ensures.1 in
    let f = c.args.format in
    let bs = c.args.bytes.now in
    let l = c.in_ok-check_length.ensures.fits_or_the_first_refused in
    let c2 = clear_length f bs c.in_ok-check_version.ensures.version_1_or_refused l.0 l.1 in
    rw (p.1, p.2) record { sound_or_the_first_cause = first_from (Framing f bs) 2 R.Count _ refl c2 c.in_err-check_counts.ensures.all_fit_or_the_first_refused }

pub returns : goal.returns
returns c =
    let l = c.in_ok-check_length.ensures.fits_or_the_first_refused in
    record { sound_or_the_first_cause = sound c.args.format c.args.bytes.now c.in_ok-check_version.ensures.version_1_or_refused l.0 l.1 c.in_ok-check_counts.ensures.all_fit_or_the_first_refused }
