use Rattle.std.proofs.Common.{◌-◌, drop, refl, ap, ◌∙◌, arith}
use Rattle.std.proofs.lemmas.List.{drop-drop}
use Rattle.std.specs.Option.{unwrap_or}
use Rattle.sheet.specs.Shape.{blank}
use Rattle.table.specs.Tables.{listed}
use Rattle.reach.specs.Held.{shape_of}
use Rattle.reach.specs.Visit.{sizes, total, others}
use Rattle.reach.proofs.Fold.{size_is, total_more, pairs_split}
use Rattle.reach.proofs.Laws.{falls_law}
use Rattle.reach.proofs.Steps.{by_kind}
use Rattle.builder.proofs.Found.{found_or}
use Rattle.builder.proofs.tables.visit.look.Goals as goal

pub returns : goal.returns
returns c =
    let b = c.args.body.now in
    let n = c.args.n in
    let ws = sizes (shape_of b) n.raw in
    let e = c.unwrap_or.ensures ∙ (ap (λ o. unwrap_or o blank) c.node.ensures.is_that_node ∙ found_or (listed b.nodes) (n.raw - 1) blank) in
    record {
      it = e;
      means = by_kind (shape_of b) (falls_law b) n e refl;
      size = size_is (shape_of b) (falls_law b) n;
      first = total_more ws 0;
      second = omega (arith, total_more ws 1, total_more ws 2);
      pairs = omega (arith, total_more ws 1, pairs_split (drop 2 ws), ap (λ k. total (others k)) (drop-drop 1 2 ws));
    }
