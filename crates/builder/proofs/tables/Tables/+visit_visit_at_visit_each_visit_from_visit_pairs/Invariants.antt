use Rattle.std.proofs.Common.{◌≡◌, ◌-◌, ◌*◌, drop}
use Rattle.reach.specs.Held.{shape_of}
use Rattle.reach.specs.Visit.{visits, sizes, total, all, each, others}
use Rattle.builder.specs.Told.{told, Inside, Spent}
use Rattle.builder.proofs.tables.Tables.+visit_visit_at_visit_each_visit_from_visit_pairs.Given as goal

abbrev pub decreases-visit : goal.decreases-visit
decreases-visit l = 3 * l.n.raw

abbrev pub decreases-visit_at : goal.decreases-visit_at
decreases-visit_at l = 3 * l.n.raw - 2

abbrev pub decreases-visit_from : goal.decreases-visit_from
decreases-visit_from l = 3 * l.n.raw - 1

-- what is left to visit gives what the whole gives, and has room
abbrev pub invariant-visit_from-loop-i : goal.invariant-visit_from-loop-i
invariant-visit_from-loop-i l = record {
  same : all (drop l.from (visits (shape_of l.body) l.n.raw)) l.initial.now_at (told l.initial.self) ≡ all (drop l.i (visits (shape_of l.body) l.n.raw)) l.now_at (told l.self);
  spent : Spent l.initial.self l.self (total (drop l.from (sizes (shape_of l.body) l.n.raw))) (total (drop l.i (sizes (shape_of l.body) l.n.raw)));
  inside : Inside l.self l.now_at;
}

abbrev pub decreases-visit_pairs : goal.decreases-visit_pairs
decreases-visit_pairs l = 3 * l.n.raw - 1

abbrev pub decreases-visit_pairs-loop-i : goal.decreases-visit_pairs-loop-i
decreases-visit_pairs-loop-i l = l.i-end - l.i

abbrev pub invariant-visit_pairs-loop-i : goal.invariant-visit_pairs-loop-i
invariant-visit_pairs-loop-i l = record {
  same : each (others (drop l.from (visits (shape_of l.body) l.n.raw))) l.at (told l.initial.self) ≡ each (others (drop l.i (visits (shape_of l.body) l.n.raw))) l.at (told l.self);
  spent : Spent l.initial.self l.self (total (others (drop l.from (sizes (shape_of l.body) l.n.raw)))) (total (others (drop l.i (sizes (shape_of l.body) l.n.raw))));
}

abbrev pub decreases-visit_each : goal.decreases-visit_each
decreases-visit_each l = 3 * l.n.raw - 1

abbrev pub invariant-visit_each-loop-i : goal.invariant-visit_each-loop-i
invariant-visit_each-loop-i l = record {
  same : each (drop l.from (visits (shape_of l.body) l.n.raw)) l.at (told l.initial.self) ≡ each (drop l.i (visits (shape_of l.body) l.n.raw)) l.at (told l.self);
  spent : Spent l.initial.self l.self (total (drop l.from (sizes (shape_of l.body) l.n.raw))) (total (drop l.i (sizes (shape_of l.body) l.n.raw)));
}
