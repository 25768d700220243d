use Rattle.std.proofs.Common.{◌≡◌, map, length, sym, ap, ◌∙◌, subst, arith}
use Rattle.std.proofs.lemmas.Result.{err_from_is_err_and}
use Rattle.format.specs.Ids.{number_of}
use Rattle.framing.specs.declared.fault.Part.TheVariants as P
use Rattle.framing.specs.declared.fault.Refusal.TheVariants as R
use Rattle.framing.specs.Broken.{FirstBroken}
use Rattle.framing.specs.Layout.{count_of, bytes_in}
use Rattle.table.specs.Tables.{listed}
use Rattle.table.proofs.Listed.{length-tabulated, listed_few}
use Rattle.sheet.specs.Drafts.{drawn}
use Rattle.sheet.specs.Lawful.{AllAdmitted, AllLower, BodyLast, LetsInPlace, Once}
use Rattle.sheet.specs.Records.{GoodBinding, GoodFrame, binding_at, bindings_in, frame_at, frames_in, numbers}
use Rattle.sheet.specs.Shape.{shape}
use Rattle.sheet.specs.Tree.{AddsUp, GoodTree, LaidOut, LetInPlace}
use Rattle.sheet.proofs.Bodies.{all_named, all_counted, bindings_named, frames_numbered}
use Rattle.sheet.proofs.InOrder.{body_in_order}
use Rattle.sheet.proofs.Load.{Read, GoodBindings, GoodFrames, frame_first, nodes_read, node_count, record_first, laid, tree_first, lets_first, clear6, bindings_first, frames_first, all_clear}
use Rattle.reader.proofs.Stands.{fault_stands, rows_stand}
use Rattle.sheet.proofs.Once.{children_low, once, all_lower, all_admitted, body_last}
use Rattle.sheet.proofs.body.Body.read.Goals as goal
use Rattle.sheet.proofs.body.Body.read.Goals.{After-bytes-2, In_ok-tree, In_ok-check_lets, In_ok-bindings, In_ok-frames, After-child_table-children}

-- the nodes and the children, as the sheet writes them
drafted : (c : After-bytes-2) → Read c.args.bytes.now c.as_slice.result.now c.bytes-2.result.now
drafted c =
    let f = c.in_ok-sheet.ensures.framed_or_the_first_cause in
    let h = c.in_ok-nodes.ensures.all_read_or_the_first_refused in
    nodes_read c.args.bytes.now c.in_ok-sheet.sheet f _ _ _ _ c.bytes.ensures.are_its_records c.bytes-2.ensures.are_its_records (c.count.ensures.is_its_count ∙ f.bindings_are.count_is) (c.as_slice.ensures.are_the_listed ∙ h.0, h.1)

good : (c : In_ok-tree) → GoodTree (shape c.as_slice.result.now (numbers c.bytes-2.result.now))
good c = subst (λ d. GoodTree (drawn d)) c.in_ok-tree.ensures.itself_or_the_first_refused c.in_ok-tree.tree.good

lets : (c : In_ok-check_lets) → LetsInPlace (shape c.as_slice.result.now (numbers c.bytes-2.result.now))
lets c = subst (λ d. LetsInPlace (drawn d)) c.in_ok-tree.ensures.itself_or_the_first_refused c.in_ok-check_lets.ensures.in_place_or_the_first_refused

bindings_are : (c : In_ok-bindings) → (listed c.in_ok-bindings.bindings ≡ bindings_in c.args.bytes.now) × GoodBindings c.args.bytes.now
bindings_are c =
    rows_stand c.args.bytes.now P.Bindings _ _ c.in_ok-sheet.ensures.framed_or_the_first_cause.bindings_are binding_at GoodBinding (listed c.in_ok-bindings.bindings) c.in_ok-bindings.ensures.all_read_or_the_first_refused

frames_are : (c : In_ok-frames) → (listed c.in_ok-frames.frames ≡ frames_in c.args.bytes.now) × GoodFrames c.args.bytes.now
frames_are c =
    rows_stand c.args.bytes.now P.Frames _ _ c.in_ok-sheet.ensures.framed_or_the_first_cause.frames_are frame_at GoodFrame (listed c.in_ok-frames.frames) c.in_ok-frames.ensures.all_read_or_the_first_refused

pub returns-in_err-sheet : goal.returns-in_err-sheet
returns-in_err-sheet c =
    let p = err_from_is_err_and c.from_residual.result c.from_residual.ensures.1 in
    rw (p.1, p.2) record { tells_faults_in_the_order_of_their_numbers = body_in_order c.args.bytes.now; accepted_or_the_first_cause = frame_first c.args.bytes.now _ c.in_err-sheet.ensures.framed_or_the_first_cause }

pub returns-in_err-nodes : goal.returns-in_err-nodes
returns-in_err-nodes c =
    let p = err_from_is_err_and c.from_residual-in_err-nodes.result c.from_residual-in_err-nodes.ensures.1 in
    let f = c.in_ok-sheet.ensures.framed_or_the_first_cause in
    rw (p.1, p.2) record {
      tells_faults_in_the_order_of_their_numbers = body_in_order c.args.bytes.now;
      accepted_or_the_first_cause =
          record_first c.args.bytes.now c.in_ok-sheet.sheet f _ _ _ c.bytes.ensures.are_its_records (c.count.ensures.is_its_count ∙ f.bindings_are.count_is) c.in_err-nodes.ensures.all_read_or_the_first_refused;
    }

pub invariant_of-draft : goal.invariant_of-draft
invariant_of-draft c =
    let bs = c.args.bytes.now in
    let d = drafted (goal.at.invariant_of-draft c).After-bytes-2 in
    let f = c.in_ok-sheet.ensures.framed_or_the_first_cause in
    let n = node_count bs _ _ d in
    record {
      some = omega (arith, n, f.nodes_are.fits.least);
      few_nodes = omega (arith, n, f.nodes_are.fits.most);
      few_children = omega (arith, ap length c.bytes-2.ensures.are_its_records, f.children_are.size_is, f.children_are.fits.most);
      laid_out = laid bs _ _ d (numbers c.bytes-2.result.now);
    }

pub returns-in_err-tree : goal.returns-in_err-tree
returns-in_err-tree c =
    let p = err_from_is_err_and c.from_residual-in_err-tree.result c.from_residual-in_err-tree.ensures.1 in
    let d = drafted (goal.at.returns-in_err-tree c).After-bytes-2 in
    rw (p.1, p.2) record { tells_faults_in_the_order_of_their_numbers = body_in_order c.args.bytes.now; accepted_or_the_first_cause = tree_first c.args.bytes.now _ _ d _ c.in_err-tree.ensures.itself_or_the_first_refused }

pub returns-in_err-check_lets : goal.returns-in_err-check_lets
returns-in_err-check_lets c =
    let p = err_from_is_err_and c.from_residual-in_err-check_lets.result c.from_residual-in_err-check_lets.ensures.1 in
    let d = drafted (goal.at.returns-in_err-check_lets c).After-bytes-2 in
    let g = good (goal.at.returns-in_err-check_lets c).In_ok-tree in
    rw (p.1, p.2) record {
      tells_faults_in_the_order_of_their_numbers = body_in_order c.args.bytes.now;
      accepted_or_the_first_cause = lets_first c.args.bytes.now _ _ d g _
          (subst (λ u. FirstBroken (LetInPlace (drawn u)) (length (drawn u).nodes) R.LetPlace P.Nodes c.in_err-check_lets.field-0.0) c.in_ok-tree.ensures.itself_or_the_first_refused c.in_err-check_lets.ensures.in_place_or_the_first_refused);
    }

pub child_table-children-requires : goal.child_table-children-requires
child_table-children-requires c =
    let d = drafted (goal.at.child_table-children-requires c).After-bytes-2 in
    let g = good (goal.at.child_table-children-requires c).In_ok-tree in
    let ys = numbers c.bytes-2.result.now in
    let few = listed_few c.in_ok-nodes.nodes in
    record { real = λ q h. omega (arith, children_low (shape c.as_slice.result.now ys) (laid c.args.bytes.now _ _ d ys) g q h, ap length c.as_slice.ensures.are_the_listed) }

pub returns-in_err-bindings : goal.returns-in_err-bindings
returns-in_err-bindings c =
    let p = err_from_is_err_and c.from_residual-in_err-bindings.result c.from_residual-in_err-bindings.ensures.1 in
    let bs = c.args.bytes.now in
    let at = goal.at.returns-in_err-bindings c in
    let c6 = clear6 bs _ _ (drafted at.After-bytes-2) (good at.In_ok-tree) (lets at.In_ok-check_lets) in
    rw (p.1, p.2) record {
      tells_faults_in_the_order_of_their_numbers = body_in_order c.args.bytes.now;
      accepted_or_the_first_cause = bindings_first bs c6 _
          (fault_stands bs P.Bindings _ _ c.in_ok-sheet.ensures.framed_or_the_first_cause.bindings_are GoodBinding R.NameOrFrame c.in_err-bindings.field-0.0 c.in_err-bindings.ensures.all_read_or_the_first_refused);
    }

pub returns-in_err-frames : goal.returns-in_err-frames
returns-in_err-frames c =
    let p = err_from_is_err_and c.from_residual-in_err-frames.result c.from_residual-in_err-frames.ensures.1 in
    let bs = c.args.bytes.now in
    let at = goal.at.returns-in_err-frames c in
    let c6 = clear6 bs _ _ (drafted at.After-bytes-2) (good at.In_ok-tree) (lets at.In_ok-check_lets) in
    rw (p.1, p.2) record {
      tells_faults_in_the_order_of_their_numbers = body_in_order c.args.bytes.now;
      accepted_or_the_first_cause = frames_first bs c6 (bindings_are at.In_ok-bindings).1 _
          (fault_stands bs P.Frames _ _ c.in_ok-sheet.ensures.framed_or_the_first_cause.frames_are GoodFrame R.NameOrFrame c.in_err-frames.field-0.0 c.in_err-frames.ensures.all_read_or_the_first_refused);
    }

-- the laws over the nodes and the children as the tables list them
module _ (c : After-child_table-children) where
  same_shape : shape c.as_slice.result.now (numbers c.bytes-2.result.now) ≡ shape (listed c.in_ok-nodes.nodes) (map number_of (listed c.child_table-children.result))
  same_shape = ap (λ ns. shape ns (numbers c.bytes-2.result.now)) c.as_slice.ensures.are_the_listed ∙ ap (shape (listed c.in_ok-nodes.nodes)) (sym c.child_table-children.ensures.all_as_written)

pub invariant_of-result : goal.invariant_of-result
invariant_of-result c =
    let bs = c.args.bytes.now in
    let at = goal.at.invariant_of-result c in
    let d = drafted at.After-bytes-2 in
    let g = good at.In_ok-tree in
    let u = shape c.as_slice.result.now (numbers c.bytes-2.result.now) in
    let e = same_shape at.After-child_table-children in
    let o = laid bs _ _ d (numbers c.bytes-2.result.now) in
    let v = bindings_are at.In_ok-bindings in
    let w = frames_are at.In_ok-frames in
    let ns = sym c.as_slice.ensures.are_the_listed ∙ d.nodes in
    let zs = map number_of (listed c.child_table-children.result) in
    let f = c.in_ok-sheet.ensures.framed_or_the_first_cause in
    record {
      some = omega (arith, node_count bs _ _ d, ap length c.as_slice.ensures.are_the_listed, f.nodes_are.fits.least);
      laid_out = subst LaidOut e o;
      adds_up = subst AddsUp e g.adds_up;
      named = all_named bs (listed c.in_ok-nodes.nodes) ns d.said zs _ (ap length v.0 ∙ length-tabulated (binding_at (bytes_in bs P.Bindings)) (count_of bs P.Bindings));
      counted = all_counted bs (listed c.in_ok-nodes.nodes) ns d.said zs;
      admitted = subst AllAdmitted e (all_admitted u o g);
      lower = subst AllLower e (all_lower u o g);
      once = subst Once e (once u o g);
      body_last = subst BodyLast e (body_last u o g);
      lets = ∣ subst LetsInPlace e (lets at.In_ok-check_lets) ∣₁;
      bindings_named = bindings_named bs _ v.0 v.1;
      frames_numbered = frames_numbered bs _ w.0 w.1;
    }

pub returns : goal.returns
returns c =
    let bs = c.args.bytes.now in
    let at = goal.at.returns c in
    let d = drafted at.After-bytes-2 in
    let c6 = clear6 bs _ _ d (good at.In_ok-tree) (lets at.In_ok-check_lets) in
    let v = bindings_are at.In_ok-bindings in
    let w = frames_are at.In_ok-frames in
    record {
      tells_faults_in_the_order_of_their_numbers = body_in_order c.args.bytes.now;
      accepted_or_the_first_cause = record {
        no_cause = all_clear bs c6 v.1 w.1;
        written = record { nodes = sym c.as_slice.ensures.are_the_listed ∙ d.nodes; children = c.child_table-children.ensures.all_as_written ∙ d.children; bindings = v.0; frames = w.0 };
      };
    }
