use Rattle.std.proofs.Common.{◌≡◌, ℕ, ◌/◌, ◌<◌, ◌≤◌, length}
use Rattle.framing.specs.Sections.{bytes_of}
use Rattle.table.specs.Tables.{listed, tabulated}
use Rattle.reader.proofs.section.read_records.Given as goal

abbrev pub invariant-loop-i : goal.invariant-loop-i
invariant-loop-i g l =
    let bs = bytes_of l.fn.section in
    (length bs / g.R.Record.WIDTH ≤ g.row.N → listed l.table ≡ tabulated (g.R.Record.written bs) l.i) × ((k : ℕ) → k < l.i → g.R.Record.good bs k)
