use Rattle.std.proofs.Common.{◌≡◌, ℕ, ◌*◌, ◌<◌, ◌≤◌}
use Rattle.sheet.specs.Records.{record_at, Said, begins, node_from}
use Rattle.table.specs.Tables.{listed, tabulated}
use Rattle.sheet.proofs.nodes.read_nodes.Given as goal

abbrev pub invariant-loop-i : goal.invariant-loop-i
invariant-loop-i l =
    (listed l.table ≡ tabulated (node_from l.nodes) l.i) × (l.first ≡ begins l.nodes l.i) × (l.first ≤ 65535 * l.i)
    × ((k : ℕ) → k < l.i → Said l.bindings (record_at l.nodes k))
