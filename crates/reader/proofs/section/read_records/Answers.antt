use Rattle.std.proofs.Common.{◌≡◌, ◌/◌, ◌<◌, length, ap, sym, ◌∙◌, subst, arith, below_more}
use Rattle.framing.specs.Sections.{bytes_of}
use Rattle.table.specs.Tables.{tabulated}
use Rattle.table.proofs.Listed.{tabulated_none, pushed}
use Rattle.reader.proofs.section.read_records.Goals as goal

pub loop-i-init : goal.loop-i-init
loop-i-init g c = (λ few. c.new-table.ensures.lists_nothing ∙ sym (tabulated_none _), λ k h. absurd (omega arith))

pub loop-i-preserved : goal.loop-i-preserved
loop-i-preserved g c =
    let bs = bytes_of c.args.section in
    let n : length c.bytes-bytes.result.now / c.WIDTH.result ≡ length bs / g.R.Record.WIDTH = cc (c.bytes-bytes.ensures.are_its_records, c.WIDTH.ensures) in
    let h = subst (λ xs. (c.in-Some.row ≡ g.R.Record.written xs c.loop-i.i) × g.R.Record.good xs c.loop-i.i) c.bytes-bytes.ensures.are_its_records c.in-Some.ensures.as_written_or_bad in (
      λ few. pushed (g.R.Record.written bs) c.loop-i.i g.row.N _ _ _ _ (omega (arith, n, few, c.loop-i-test.true)) (c.loop-i.invariant.0 few) h.0 c.push.ensures.says_whether_there_was_room c.push.ensures.adds_it_last_if_there_was,
      below_more (g.R.Record.good bs) _ c.loop-i.invariant.1 h.1,
    )
