use Rattle.std.proofs.Common.{◌≡◌, ◌+◌, ◌-◌, ◌*◌, ◌<◌, ◌≤◌, length, get_or, take, sym, ap, ◌∙◌, subst, arith}
use Rattle.std.proofs.lemmas.List.{length-take}
use Rattle.framing.specs.declared.fault.Part.TheVariants as P
use Rattle.framing.specs.Faults.{part_number}
use Rattle.framing.specs.Layout.{end_from, start_at, start_of, u16at}
use Rattle.framing.specs.Plans.{format_of, plan_of, sections_of, width_of}
use Rattle.framing.proofs.Starts.{ends_by_last, own_place, start_first, start_in_front, start_more, start_up}
use Rattle.framing.proofs.frame.start_of.Goals as goal
use Rattle.framing.proofs.frame.start_of.Goals.{After-from, After-loop-earlier}

pub loop-earlier-init : goal.loop-earlier-init
loop-earlier-init c = sym (start_first _ _)

-- one section on: where it ends, which is within the bytes
step : (c : After-from) →
    (c.loop-earlier.at + (2 + c.limits-width.result.width * c.from.result) ≡ start_at c.args.bytes.now (take (c.number.result - 1) c.plan.result.now) (c.loop-earlier.earlier-index + 1)) ×
    (start_at c.args.bytes.now (take (c.number.result - 1) c.plan.result.now) (c.loop-earlier.earlier-index + 1) ≤ length c.args.bytes.now)
unfolding end_from
step c =
    let bs = c.args.bytes.now in
    let f = format_of c.args.part in
    let n = c.number.result - 1 in
    let plan = c.plan.result.now in
    let items = take n plan in
    let i = c.loop-earlier.earlier-index in
    let e : plan ≡ plan_of f = c.plan.ensures.is_its_plan ∙ ap plan_of c.format.ensures.is_its_format in
    let o = own_place c.args.part c.requires.is_a_section in
    let l : i < n = omega (arith, length-take n plan, c.loop-earlier-test.true) in
    let up = start_up bs (plan_of f) (i + 1) (sections_of f) (omega (arith, o.0, c.number.ensures.is_the_parts_number)) in
    let there : start_at bs items (i + 1) ≡ start_at bs (plan_of f) (i + 1) = start_in_front bs plan n (i + 1) (omega arith) ∙ ap (λ ps. start_at bs ps (i + 1)) e in
    let more = subst (λ a. start_at bs items (i + 1) ≡ end_from bs a (width_of (get_or items i P.Whole))) (sym c.loop-earlier.invariant) (start_more bs items i) in
    let low : start_at bs items (i + 1) ≤ length bs = omega (arith, there, up, c.requires.all_end_within) in
    let reads : c.from.result ≡ u16at bs c.loop-earlier.at = c.from.ensures ∙ c.u16_at.ensures.reads_them (omega (arith, more, low)) in
    let size : c.limits-width.result.width * c.from.result ≡ width_of (get_or items i P.Whole) * u16at bs c.loop-earlier.at = ap (λ w. w * c.from.result) c.limits-width.ensures.is_the_sections_width ∙ ap (λ u. width_of (get_or items i P.Whole) * u) reads in
    (omega (arith, more, size), low)

pub overflow_add-at-in-loop-earlier : goal.overflow_add-at-in-loop-earlier
overflow_add-at-in-loop-earlier c = omega (arith, step c)

pub loop-earlier-preserved : goal.loop-earlier-preserved
loop-earlier-preserved c = (step c).0

-- the loop ends where the section begins
reached : (c : After-loop-earlier) → c.loop-earlier.at ≡ start_of c.args.bytes.now c.args.part
reached c =
    let bs = c.args.bytes.now in
    let p = c.args.part in
    let f = format_of p in
    let n = c.number.result - 1 in
    let plan = c.plan.result.now in
    let i = c.loop-earlier.earlier-index in
    let e : plan ≡ plan_of f = c.plan.ensures.is_its_plan ∙ ap plan_of c.format.ensures.is_its_format in
    let o = own_place p c.requires.is_a_section in
    let m : part_number p ≤ length plan = omega (arith, o.0, ap length e) in
    let z : i ≡ part_number p - 1 = omega (arith, m, length-take n plan, c.number.ensures.is_the_parts_number, c.loop-earlier-test.false, c.loop-earlier.auto) in
    c.loop-earlier.invariant ∙ (start_in_front bs plan n i (omega (arith, z, c.number.ensures.is_the_parts_number)) ∙ (ap (λ ps. start_at bs ps i) e ∙ ap (start_at bs (plan_of f)) z))

pub returns : goal.returns
unfolding end_from
returns c = record { is_its_start = reached c; its_records_follow = omega (arith, reached c, ends_by_last c.args.bytes.now c.args.part c.requires.is_a_section, c.requires.all_end_within) }
