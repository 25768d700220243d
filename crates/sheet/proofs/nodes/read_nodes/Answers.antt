use Rattle.std.proofs.Common.{sym, ap, ◌∙◌, subst, arith, below_more}
use Rattle.std.proofs.lemmas.Result.{err_from_is_err_and}
use Rattle.sheet.specs.Records.{record_at, Said, node_from}
use Rattle.sheet.proofs.Counts.{begins_none, begins_more, node_read}
use Rattle.table.proofs.Listed.{tabulated_none, pushed}
use Rattle.sheet.proofs.nodes.read_nodes.Goals as goal

pub loop-i-init : goal.loop-i-init
loop-i-init c = (c.new-table.ensures.lists_nothing ∙ sym (tabulated_none _), sym (begins_none _), omega arith, λ k h. absurd (omega arith))

pub returns-in_err-node : goal.returns-in_err-node
returns-in_err-node c =
    let p = err_from_is_err_and c.from_residual.result c.from_residual.ensures.1 in
    let h = c.in_err-node.ensures.says_a_kind_or_refused in
    let bad = subst (λ x. Said c.args.bindings x → ⊥) c.node_record.ensures.as_written h.1 in
    rw (p.1, p.2) record { all_read_or_the_first_refused = record { at = c.loop-i.i; fault = h.0; within = c.loop-i-test.true; broken = bad; kept_before = c.loop-i.invariant.3 } }

pub loop-i-preserved : goal.loop-i-preserved
loop-i-preserved c =
    let ns = c.args.nodes.now in
    let i = c.loop-i.i in
    let h = c.in_ok-node.ensures.says_a_kind_or_refused in
    let e = c.node_record.ensures.as_written in
    let n = c.in_ok-node.node in
    let r = ap (λ y. y.count) e in (
      pushed (node_from ns) i 512 _ _ _ _ (omega arith) c.loop-i.invariant.0 (node_read c.args.bindings ns i _ n e h.0 (h.1 ∙ c.loop-i.invariant.1) h.2) c.push.ensures.says_whether_there_was_room c.push.ensures.adds_it_last_if_there_was,
      omega (arith, begins_more ns i, c.loop-i.invariant.1, h.2, r),
      omega arith,
      below_more (λ k. Said c.args.bindings (record_at ns k)) _ c.loop-i.invariant.3 (subst (Said c.args.bindings) e record { kind = n.kind; says = h.0 }),
    )
