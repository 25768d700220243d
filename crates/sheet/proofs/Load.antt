-- From the steps of reading to the first cause of a refusal.
use Rattle.std.proofs.Common.{◌≡◌, ℕ, zero, suc, ◌+◌, ◌/◌, ◌<◌, ◌⊎◌, List, length, sym, refl, ap, ◌∙◌, subst, inl, ⊎_elim, arith}
use Rattle.framing.specs.declared.fault.Fault.{Fault}
use Rattle.framing.specs.declared.fault.Part.{Part}
use Rattle.framing.specs.declared.fault.Part.TheVariants as P
use Rattle.framing.specs.declared.fault.Refusal.{Refusal}
use Rattle.framing.specs.declared.fault.Refusal.TheVariants as R
use Rattle.framing.specs.declared.section.Sheet.{Sheet}
use Rattle.framing.specs.declared.sheet_format.SheetFormat.TheVariants as F
use Rattle.framing.specs.Broken.{Breaks, FirstBroken}
use Rattle.framing.specs.Faults.{part_number, First, NoneApply}
use Rattle.framing.specs.Framing.{Framing}
use Rattle.framing.specs.Layout.{count_of, bytes_in}
use Rattle.framing.specs.Sections.{bytes_of, Framed}
use Rattle.framing.specs.Stages.{FirstOf}
use Rattle.framing.proofs.Firsts.{ClearTo, broken_first, clear_more, clear_all, first_from, first_left, first_right, first_whole, later}
use Rattle.framing.proofs.Readers.{Extends, canon, clear_framing, extends, framing_first}
use Rattle.table.specs.Tables.{tabulated}
use Rattle.table.proofs.Listed.{tabulated_none, tabulated_more, length-tabulated, get_or-tabulated, take-tabulated}
use Rattle.sheet.specs.declared.node.Node.{Node}
use Rattle.sheet.specs.Causes.{Applies}
use Rattle.sheet.specs.Records.{record_at, Said, begins, node_from, child_from, numbers, GoodBinding, GoodFrame, nodes_in, children_in, shape_in}
use Rattle.sheet.specs.Shape.{Shape, shape, blank, total}
use Rattle.sheet.specs.Steps.{TreeFault}
use Rattle.sheet.specs.Tree.{AddsUp, LaidOut, GoodNode, GoodTree, LetInPlace}
use Rattle.sheet.proofs.Counts.{begins_none, begins_more, total_push}

-- a fault of the first record that breaks the rule of a refusal's only part
broken_of : (Rule : ℕ → Type 0) (n : ℕ) (r : Refusal) (p : Part) (f : Fault) → FirstBroken Rule n r p f → FirstOf (λ s q k. (q ≡ p) × Breaks Rule n k) r f
broken_of Rule n r p f b = record { refusal_is = b.fault.refusal_is; first = broken_first Rule n r p f b }

-- the counts before a node, in the table
total_begins : (ns : List ℕ) (i : ℕ) → total (tabulated (node_from ns) i) ≡ begins ns i
total_begins ns zero = ap total (tabulated_none (node_from ns)) ∙ sym (begins_none ns)
total_begins ns (suc i) =
    let s : suc i ≡ i + 1 = omega arith in
    rw s (ap total (tabulated_more (node_from ns) i) ∙ (total_push (tabulated (node_from ns) i) (node_from ns i) ∙ omega (arith, total_begins ns i, begins_more ns i)))

pub laid_tabulated : (ns : List ℕ) (n : ℕ) (cs : List ℕ) → LaidOut (shape (tabulated (node_from ns) n) cs)
laid_tabulated ns n cs i h =
    let l = length-tabulated (node_from ns) n in
    ap (λ x. x.first) (get_or-tabulated (node_from ns) n i blank (omega arith)) ∙ sym (ap total (take-tabulated (node_from ns) n i (omega arith)) ∙ total_begins ns i)

module _ (bs : List ℕ) where
  -- refusals 1 to 3 are those of taking the sheet apart
  abbrev frame : Extends F.Body bs (Applies bs)
  frame = extends F.Body bs (Applies bs) (λ p k. refl) (λ p k. refl) (λ p k. refl)

  pub frame_first : (f : Fault) → First (Framing F.Body bs) f → First (Applies bs) f
  frame_first f h = framing_first F.Body bs (Applies bs) frame f h

  clear3 : (t : Sheet) → Framed bs t → ClearTo (Applies bs) 3
  clear3 t h = clear_framing F.Body bs (Applies bs) frame h.no_cause

  -- what the nodes that were read say
  abbrev pub AllSaid : Type 0
  AllSaid = (k : ℕ) → k < count_of bs P.Nodes → Said (count_of bs P.Bindings) (record_at (bytes_in bs P.Nodes) k)

  -- the tables as the sheet writes them
  pub record Read (ns : List Node) (ys : List ℕ) : Type 0 where
    pub nodes : ns ≡ nodes_in bs
    pub said : AllSaid
    pub children : numbers ys ≡ children_in bs
    pub clear : ClearTo (Applies bs) 3

  pub nodes_read : (s : Sheet) → Framed bs s → (ns : List Node) (xs ys : List ℕ) (m : ℕ) → xs ≡ bytes_of s.nodes → ys ≡ bytes_of s.children → m ≡ count_of bs P.Bindings →
      (ns ≡ tabulated (node_from xs) (length xs / 11)) × ((k : ℕ) → k < length xs / 11 → Said m (record_at xs k)) → Read ns ys
  nodes_read s f ns xs ys m ex ey em h = record {
    nodes = canon (λ zs i. ns ≡ tabulated (node_from zs) i) bs P.Nodes _ _ xs f.nodes_are ex h.0;
    said = subst (λ j. (i : ℕ) → i < count_of bs P.Nodes → Said j (record_at (bytes_in bs P.Nodes) i)) em
        (canon (λ zs i. (l : ℕ) → l < i → Said m (record_at zs l)) bs P.Nodes _ _ xs f.nodes_are ex h.1);
    children = canon (λ zs i. numbers ys ≡ tabulated (child_from zs) i) bs P.Children _ _ ys f.children_are ey refl;
    clear = clear3 s f;
  }

  pub record_first : (s : Sheet) → Framed bs s → (f : Fault) (xs : List ℕ) (m : ℕ) → xs ≡ bytes_of s.nodes → m ≡ count_of bs P.Bindings →
      FirstBroken (λ k. Said m (record_at xs k)) (length xs / 11) R.Record P.Nodes f → First (Applies bs) f
  record_first s h f xs m ex em b =
      let d = subst (λ j. FirstBroken (λ k. Said j (record_at (bytes_in bs P.Nodes) k)) (count_of bs P.Nodes) R.Record P.Nodes f) em
      (canon (λ zs i. FirstBroken (λ k. Said m (record_at zs k)) i R.Record P.Nodes f) bs P.Nodes _ _ xs h.nodes_are ex b) in
      first_from (Applies bs) 3 R.Record f refl (clear3 s h) (let o = broken_of _ _ _ _ f d in record { refusal_is = o.refusal_is; first = o.first })

  module _ (ns : List Node) (ys : List ℕ) (d : Read ns ys) where
    abbrev tree : Shape
    tree = shape ns (numbers ys)

    pub node_count : length ns ≡ count_of bs P.Nodes
    node_count = ap length d.nodes ∙ length-tabulated (node_from (bytes_in bs P.Nodes)) (count_of bs P.Nodes)

    -- the tree as the sheet writes it
    same_tree : tree ≡ shape_in bs
    same_tree = ap (λ x. shape x (numbers ys)) d.nodes ∙ ap (λ x. shape (nodes_in bs) x) d.children

    pub laid : (cs : List ℕ) → LaidOut (shape (ns) cs)
    laid cs = subst (λ x. LaidOut (shape x cs)) (sym d.nodes) (laid_tabulated (bytes_in bs P.Nodes) (count_of bs P.Nodes) cs)

    clear4 : ClearTo (Applies bs) 4
    clear4 = clear_more (Applies bs) 3 R.Record refl d.clear (λ p k w. w.1.broken (d.said w.1.at w.1.within))

    -- refusal 5
    tree_place : (u : Shape) (n : ℕ) (f : Fault) → length u.nodes ≡ n → TreeFault u f →
        FirstOf (λ r p k. ((p ≡ P.Whole) × (k ≡ 0) × (AddsUp u → ⊥)) ⊎ ((p ≡ P.Nodes) × Breaks (GoodNode u) n k)) R.Tree f
    tree_place u n f e w =
        ⊎_elim
        (λ (x : (f.refusal ≡ R.Tree) × (f.part ≡ P.Whole) × (f.record ≡ 0) × (AddsUp u → ⊥)).
        record { refusal_is = x.0; first = first_whole _ R.Tree f record { refusal_is = x.0; part_is = x.1; record_is = x.2 } (inl (x.1, x.2, x.3)) })
        (λ (x : AddsUp u × FirstBroken (GoodNode u) (length u.nodes) R.Tree P.Nodes f).
        let g = broken_first (GoodNode u) n R.Tree P.Nodes f (subst (λ m. FirstBroken (GoodNode u) m R.Tree P.Nodes f) e x.1) in
        record { refusal_is = x.1.fault.refusal_is; first = first_right _ _ _ _ g (λ p k v. v.2 x.0) })
        w

    pub tree_first : (f : Fault) → TreeFault tree f → First (Applies bs) f
    tree_first f w =
        let p = tree_place (shape_in bs) (count_of bs P.Nodes) f (ap (λ x. length x.nodes) (sym same_tree) ∙ node_count) (subst (λ x. TreeFault x f) same_tree w) in
        first_from (Applies bs) 4 R.Tree f refl clear4 record { refusal_is = p.refusal_is; first = p.first }

    module _ (good : GoodTree tree) where
      clear5 : ClearTo (Applies bs) 5
      clear5 =
          let g = subst GoodTree same_tree good in
          clear_more (Applies bs) 4 R.Tree refl clear4 (λ p k w.
          ⊎_elim (λ (x : (p ≡ P.Whole) × (k ≡ 0) × (AddsUp (shape_in bs) → ⊥)). x.2 g.adds_up)
          (λ (x : (p ≡ P.Nodes) × Breaks (GoodNode (shape_in bs)) (count_of bs P.Nodes) k).
          x.1.broken (g.nodes x.1.at (omega (arith, x.1.within, ap (λ y. length y.nodes) (sym same_tree), node_count)))) w)

      -- refusal 6
      pub lets_first : (f : Fault) → FirstBroken (LetInPlace tree) (length ns) R.LetPlace P.Nodes f → First (Applies bs) f
      lets_first f b =
          let c = subst (λ n. FirstBroken (LetInPlace (shape_in bs)) n R.LetPlace P.Nodes f) node_count
          (subst (λ u. FirstBroken (LetInPlace u) (length ns) R.LetPlace P.Nodes f) same_tree b) in
          first_from (Applies bs) 5 R.LetPlace f refl clear5 (let o = broken_of _ _ _ _ f c in record { refusal_is = o.refusal_is; first = o.first })

      pub clear6 : ((i : ℕ) → i < length ns → LetInPlace tree i) → ClearTo (Applies bs) 6
      clear6 l =
          let m = subst (λ u. (i : ℕ) → i < length ns → LetInPlace u i) same_tree l in
          clear_more (Applies bs) 5 R.LetPlace refl clear5 (λ p k w. w.1.broken (m w.1.at (omega (arith, w.1.within, node_count))))

  -- refusal 7
  abbrev pub GoodBindings : Type 0
  GoodBindings = (k : ℕ) → k < count_of bs P.Bindings → GoodBinding (bytes_in bs P.Bindings) k

  abbrev pub GoodFrames : Type 0
  GoodFrames = (k : ℕ) → k < count_of bs P.Frames → GoodFrame (bytes_in bs P.Frames) k

  abbrev BadBinding : Part → ℕ → Type 0
  BadBinding p k = (p ≡ P.Bindings) × Breaks (GoodBinding (bytes_in bs P.Bindings)) (count_of bs P.Bindings) k

  abbrev BadFrame : Part → ℕ → Type 0
  BadFrame p k = (p ≡ P.Frames) × Breaks (GoodFrame (bytes_in bs P.Frames)) (count_of bs P.Frames) k

  pub bindings_first : ClearTo (Applies bs) 6 → (f : Fault) → FirstBroken (GoodBinding (bytes_in bs P.Bindings)) (count_of bs P.Bindings) R.NameOrFrame P.Bindings f → First (Applies bs) f
  bindings_first c f b =
      first_from (Applies bs) 6 R.NameOrFrame f refl c record {
        refusal_is = b.fault.refusal_is;
        first = first_left BadBinding BadFrame _ _ (broken_first _ _ _ _ f b) (λ p k h w. later f.part p P.Frames f.record k (omega (arith, ap part_number b.fault.part_is)) w.0 h);
      }

  pub frames_first : ClearTo (Applies bs) 6 → GoodBindings → (f : Fault) → FirstBroken (GoodFrame (bytes_in bs P.Frames)) (count_of bs P.Frames) R.NameOrFrame P.Frames f → First (Applies bs) f
  frames_first c o f b =
      first_from (Applies bs) 6 R.NameOrFrame f refl c record {
        refusal_is = b.fault.refusal_is;
        first = first_right BadBinding BadFrame _ _ (broken_first _ _ _ _ f b) (λ p k w. w.1.broken (o w.1.at w.1.within));
      }

  pub all_clear : ClearTo (Applies bs) 6 → GoodBindings → GoodFrames → NoneApply (Applies bs)
  all_clear c o g =
      let c7 = clear_more (Applies bs) 6 R.NameOrFrame refl c (λ p k w.
      ⊎_elim (λ (x : BadBinding p k). x.1.broken (o x.1.at x.1.within)) (λ (x : BadFrame p k). x.1.broken (g x.1.at x.1.within)) w) in
      clear_all (Applies bs) (clear_more (Applies bs) 8 R.KeyOrder refl (clear_more (Applies bs) 7 R.ItemRecord refl c7 (λ p k w. w)) (λ p k w. w))
