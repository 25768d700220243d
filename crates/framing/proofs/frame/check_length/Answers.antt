use Rattle.std.proofs.Common.{◌≡◌, ◌+◌, ◌<◌, ◌≤◌, length, get_or, sym, ap, ◌∙◌, subst, arith}
use Rattle.std.proofs.lemmas.Result.{err_from_is_err_and}
use Rattle.framing.specs.declared.fault.Part.TheVariants as P
use Rattle.framing.specs.declared.fault.Refusal.TheVariants as R
use Rattle.framing.specs.Layout.{end_from, start_at, u32at}
use Rattle.framing.specs.Plans.{width_of}
use Rattle.framing.specs.Stages.{NoRecord}
use Rattle.framing.proofs.Framed.{length_first, whole_first}
use Rattle.framing.proofs.Starts.{end_reached, start_first, start_more}
use Rattle.framing.proofs.frame.check_length.Goals as goal

pub loop-part-init : goal.loop-part-init
loop-part-init c = (sym (start_first _ _), omega arith)

pub returns-in_err-at : goal.returns-in_err-at
returns-in_err-at c =
    let p = err_from_is_err_and c.from_residual.result c.from_residual.ensures.1 in
    let h = c.in_err-at.ensures.its_end_or_runs_past in
    let bs = c.args.bytes.now in
    let plan = c.plan-part-items.result.now in
    let i = c.loop-part.part-index in
    let e = c.plan-part-items.ensures.is_its_plan in
    let says : 5 + u32at bs 1 ≡ length bs = omega (arith, c.u32_at.ensures.reads_them (omega arith)) in
    let more = subst (λ a. start_at bs plan (i + 1) ≡ end_from bs a (width_of (get_or plan i P.Whole))) (sym c.loop-part.invariant.0) (start_more bs plan i) in
    let begins = subst (λ ps. start_at bs ps i ≤ length bs) e (omega (arith, c.loop-part.invariant)) in
    let past = subst (λ ps. length bs < start_at bs ps (i + 1)) e (omega (arith, more, h.1)) in
    rw (p.1, p.2) record {
      fits_or_the_first_refused = length_first c.args.format bs i _ (omega (arith, ap length e)) says begins past (subst (λ ps. NoRecord R.Length (get_or ps i P.Whole) c.in_err-at.field-0.0) e h.0);
    }

pub loop-part-preserved : goal.loop-part-preserved
loop-part-preserved c =
    let h = c.in_ok-at.ensures.its_end_or_runs_past in
    let bs = c.args.bytes.now in
    let plan = c.plan-part-items.result.now in
    let i = c.loop-part.part-index in
    let more = subst (λ a. start_at bs plan (i + 1) ≡ end_from bs a (width_of (get_or plan i P.Whole))) (sym c.loop-part.invariant.0) (start_more bs plan i) in
    (h.0 ∙ sym more, h.1)
