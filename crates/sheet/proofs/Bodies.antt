-- The laws of a body, from what was read.
use Rattle.std.proofs.Common.{◌≡◌, ℕ, ◌<◌, true, cond, eqb, List, length, get_or, unwrap_or, sym, refl, ap, ◌∙◌, subst, arith}
use Rattle.std.proofs.lemmas.Bool.{ne_eqb, and_from, not_from_false, cond_both}
use Rattle.framing.specs.declared.fault.Part.TheVariants as P
use Rattle.format.specs.declared.kind.NodeKind.TheVariants as K
use Rattle.format.specs.declared.kind.NodeRecord.{NodeRecord}
use Rattle.format.specs.Kinds.{count_suits, named}
use Rattle.framing.specs.Layout.{count_of, bytes_in}
use Rattle.format.proofs.Codes.{said}
use Rattle.sheet.specs.declared.node.Binding.{Binding}
use Rattle.sheet.specs.declared.node.Frame.{Frame}
use Rattle.sheet.specs.declared.node.Frame.TheVariants as F
use Rattle.sheet.specs.declared.node.Node.{Node}
use Rattle.sheet.specs.Lawful.{AllNamed, AllCounted, AllBindingsNamed, AllFramesNumbered, name_fits, number_of_frame}
use Rattle.sheet.specs.Records.{record_at, Said, kind_said, node_from, binding_at, frame_from, frame_at, frame_code, frame_number, nodes_in, bindings_in, frames_in}
use Rattle.sheet.specs.Shape.{shape, blank, node_at, kind_at}
use Rattle.table.proofs.Listed.{length-tabulated, get_or-tabulated}
use Rattle.sheet.proofs.Load.{AllSaid, GoodBindings, GoodFrames}

-- the kind that a record says
kind_said_lem : (m : ℕ) (x : NodeRecord) (s : Said m x) → kind_said x ≡ s.kind
kind_said_lem m x s = ap (λ o. unwrap_or o K.Leaf) (said m x s.kind s.says)

module _ (bs : List ℕ) (ns : List Node) (e : ns ≡ nodes_in bs) (h : AllSaid bs) (cs : List ℕ) where
  node_is : (i : ℕ) → i < length ns → node_at (shape ns cs) i ≡ node_from (bytes_in bs P.Nodes) i
  node_is i l =
      ap (λ x. get_or x i blank) e ∙ get_or-tabulated (node_from (bytes_in bs P.Nodes)) (count_of bs P.Nodes) i blank (omega (arith, ap length e, length-tabulated (node_from (bytes_in bs P.Nodes)) (count_of bs P.Nodes)))

  said_at : (i : ℕ) → i < length ns → Said (count_of bs P.Bindings) (record_at (bytes_in bs P.Nodes) i)
  said_at i l = h i (omega (arith, ap length e, length-tabulated (node_from (bytes_in bs P.Nodes)) (count_of bs P.Nodes)))

  kind_is : (i : ℕ) (l : i < length ns) → kind_at (shape ns cs) i ≡ (said_at i l).kind
  kind_is i l = ap (λ n. n.kind) (node_is i l) ∙ kind_said_lem _ _ (said_at i l)

  pub all_named : (m : ℕ) → m ≡ count_of bs P.Bindings → AllNamed m (shape ns cs)
  all_named m i k l =
      subst (λ n. named n (kind_at (shape ns cs) k) ≡ true) (sym i) (ap (named (count_of bs P.Bindings)) (kind_is k l) ∙ (said_at k l).says.all_named)

  pub all_counted : AllCounted (shape ns cs)
  all_counted k l =
      ap (λ n. count_suits n.kind n.count) (node_is k l) ∙ (ap (λ x. count_suits x (record_at (bytes_in bs P.Nodes) k).count) (kind_said_lem _ _ (said_at k l)) ∙ (said_at k l).says.count_fits)

pub bindings_named : (bs : List ℕ) (vs : List Binding) → vs ≡ bindings_in bs → GoodBindings bs → AllBindingsNamed vs
bindings_named bs vs e h i d l =
    let n = length-tabulated (binding_at (bytes_in bs P.Bindings)) (count_of bs P.Bindings) in
    let lt : i < count_of bs P.Bindings = omega (arith, ap length e) in
    let g = h i lt in
    let x = (binding_at (bytes_in bs P.Bindings) i).name.0 in
    (ap (λ ws. name_fits (get_or ws i d)) e ∙ ap name_fits (get_or-tabulated (binding_at (bytes_in bs P.Bindings)) (count_of bs P.Bindings) i d lt))
    ∙ and_from _ _ (not_from_false _ (ne_eqb x 0 g.some_name)) (not_from_false _ (ne_eqb x 2 g.not_self_type))

frame_number_lem : (k n : ℕ) → number_of_frame (frame_from k n) ≡ n
frame_number_lem k n =
    cond_both (eqb k 1) (F.ImplGenerics (record { 0 = n })) (cond (eqb k 2) (F.Generics (record { 0 = n })) (F.Block (record { 0 = n }))) (λ f. number_of_frame f ≡ n) (λ _. refl)
    (λ _. cond_both (eqb k 2) (F.Generics (record { 0 = n })) (F.Block (record { 0 = n })) (λ f. number_of_frame f ≡ n) (λ _. refl) (λ _. refl))

pub frames_numbered : (bs : List ℕ) (fs : List Frame) → fs ≡ frames_in bs → GoodFrames bs → AllFramesNumbered fs
frames_numbered bs fs e h i d l =
    let n = length-tabulated (frame_at (bytes_in bs P.Frames)) (count_of bs P.Frames) in
    let lt : i < count_of bs P.Frames = omega (arith, ap length e) in
    let q = ap (λ ws. number_of_frame (get_or ws i d)) e ∙ (ap number_of_frame (get_or-tabulated (frame_at (bytes_in bs P.Frames)) (count_of bs P.Frames) i d lt) ∙ frame_number_lem (frame_code (bytes_in bs P.Frames) i) (frame_number (bytes_in bs P.Frames) i)) in
    omega (arith, q, (h i lt).numbered)
