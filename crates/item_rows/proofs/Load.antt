-- From what the steps of reading found to what the whole sheet is refused for.
use Rattle.std.proofs.Common.{◌≡◌, ℕ, ◌/◌, ◌<◌, ◌≤◌, List, length, sym, refl, ap, ◌∙◌, subst, ⊎_elim, arith}
use Rattle.framing.specs.declared.fault.Fault.{Fault}
use Rattle.framing.specs.declared.fault.Part.{Part}
use Rattle.framing.specs.declared.fault.Part.TheVariants as P
use Rattle.framing.specs.declared.fault.Refusal.{Refusal}
use Rattle.framing.specs.declared.fault.Refusal.TheVariants as R
use Rattle.framing.specs.declared.sheet_format.SheetFormat.TheVariants as F
use Rattle.framing.specs.Broken.{Breaks, FirstBroken}
use Rattle.framing.specs.Faults.{First, NoneApply, part_number}
use Rattle.framing.specs.Framing.{Framing}
use Rattle.framing.specs.Layout.{bytes_in, count_of}
use Rattle.framing.specs.Plans.{most_of, width_of}
use Rattle.framing.specs.Sections.{FramedItems, Holds, bytes_of}
use Rattle.framing.specs.declared.section.ItemSections.{ItemSections}
use Rattle.framing.specs.Stages.{FirstPlace}
use Rattle.framing.proofs.Firsts.{ClearTo, clear_more, first_from}
use Rattle.framing.proofs.Readers.{Extends, canon, clear_framing, extends, framing_first}
use Rattle.table.specs.Tables.{listed, tabulated}
use Rattle.item_rows.specs.Causes.{Applies, Good, by_section, consts_in, expansions_in, items_in}
use Rattle.item_rows.specs.Records.{GoodConst, GoodExpansion, GoodItem, const_at, expansion_at, item_at}
use Rattle.item_rows.specs.Steps.{Filled}
use Rattle.reader.specs.Read.{FirstUnread, ReadFrom}
use Rattle.reader.proofs.Stands.{Read, fault_stands, rows_stand}
use Rattle.item_rows.specs.declared.rows.ConstRow.{ConstRow}
use Rattle.item_rows.specs.declared.rows.ExpansionRow.{ExpansionRow}
use Rattle.item_rows.specs.declared.rows.ItemRow.{ItemRow}
use Rattle.item_rows.specs.declared.tables.Tables.{Tables}

-- every record of a section keeps its rule
abbrev pub All : (Part → ℕ → Type 0) → (Part → ℕ) → Part → Type 0
All Rule n p = (i : ℕ) → i < n p → Rule p i

-- a fault of the first record that breaks its section's rule, where the sections before keep theirs
module _ (Rule : Part → ℕ → Type 0) (n : Part → ℕ) where
  pub first_of_section : (r : Refusal) (p : Part) (f : Fault) → ((q : Part) → part_number q < part_number p → All Rule n q) → FirstBroken (Rule p) (n p) r p f →
      FirstPlace (λ q k. Breaks (Rule q) (n q) k) f.part f.record
  first_of_section r p f before b = record {
    here = subst (λ q. Breaks (Rule q) (n q) f.record) (sym b.fault.part_is) record { at = b.at; within = b.within; number = b.fault.record_is; broken = b.broken };
    not_before = λ q l h w.
        ⊎_elim
        (λ (x : part_number q < part_number f.part). w.broken (before q (omega (arith, ap part_number b.fault.part_is)) w.at w.within))
        (λ (x : (q ≡ f.part) × (l < f.record)).
        let e : q ≡ p = x.0 ∙ b.fault.part_is in
        let v = subst (λ z. Breaks (Rule z) (n z) l) e w in
        v.broken (b.kept_before v.at (omega (arith, x.1, v.number, b.fault.record_is))))
        h;
  }

-- rules by section: what is known of the sections below number s
module _ (n : Part → ℕ) (A B C : ℕ → Type 0) (s : ℕ) where
  abbrev pub Every : Part → Type 0
  Every = All (by_section A B C) n

  pub sections : (1 < s → Every P.Items) → (2 < s → Every P.Constants) → (3 < s → Every P.Expansions) → (q : Part) → part_number q < s → Every q
  sections a b c P.Whole h i l = tt
  sections a b c P.Nodes h i l = tt
  sections a b c P.Children h i l = tt
  sections a b c P.Bindings h i l = tt
  sections a b c P.Frames h i l = tt
  sections a b c P.Items h i l = a h i l
  sections a b c P.Constants h i l = b h i l
  sections a b c P.Expansions h i l = c h i l

pub part_in : (p : Part) → part_number p < 5
part_in P.Whole = omega arith
part_in P.Nodes = omega arith
part_in P.Children = omega arith
part_in P.Bindings = omega arith
part_in P.Frames = omega arith
part_in P.Items = omega arith
part_in P.Constants = omega arith
part_in P.Expansions = omega arith

module _ (bs : List ℕ) where
  -- refusals 1 to 3 are those of taking the sheet apart
  abbrev frame : Extends F.Items bs (Applies bs)
  frame = extends F.Items bs (Applies bs) (λ p k. refl) (λ p k. refl) (λ p k. refl)

  pub frame_first : (f : Fault) → First (Framing F.Items bs) f → First (Applies bs) f
  frame_first f h = framing_first F.Items bs (Applies bs) frame f h

  pub clear7 : NoneApply (Framing F.Items bs) → ClearTo (Applies bs) 7
  clear7 h =
      let c4 = clear_more (Applies bs) 3 R.Record refl (clear_framing F.Items bs (Applies bs) frame h) (λ p k w. w) in
      let c5 = clear_more (Applies bs) 4 R.Tree refl c4 (λ p k w. w) in
      let c6 = clear_more (Applies bs) 5 R.LetPlace refl c5 (λ p k w. w) in
      clear_more (Applies bs) 6 R.NameOrFrame refl c6 (λ p k w. w)

  -- every record of a section keeps the rule of refusal 8
  abbrev pub AllGood : Part → Type 0
  AllGood = All (Good bs) (count_of bs)

  pub good_below : (s : ℕ) → (1 < s → AllGood P.Items) → (2 < s → AllGood P.Constants) → (3 < s → AllGood P.Expansions) → (q : Part) → part_number q < s → AllGood q
  good_below s = sections (count_of bs) (GoodItem (bytes_in bs P.Items)) (GoodConst (bytes_in bs P.Constants)) (GoodExpansion (bytes_in bs P.Expansions)) s

  -- refusal 8
  pub record_first : NoneApply (Framing F.Items bs) → (p : Part) → ((q : Part) → part_number q < part_number p → AllGood q) → (f : Fault) → FirstBroken (Good bs p) (count_of bs p) R.ItemRecord p f → First (Applies bs) f
  record_first c p before f b =
      first_from (Applies bs) 7 R.ItemRecord f refl (clear7 c) record { refusal_is = b.fault.refusal_is; first = first_of_section (Good bs) (count_of bs) R.ItemRecord p f before b }

  -- the sections, read one after the other
  module _ (t : ItemSections) (framed : FramedItems bs t) where
    items_are : {rows : List ItemRow} → Read 13 512 (bytes_of t.items) (ReadFrom 13 item_at GoodItem (bytes_of t.items) rows) → (rows ≡ items_in bs) × AllGood P.Items
    items_are {rows} r = rows_stand bs P.Items _ _ framed.items_are item_at GoodItem rows r

    consts_are : {rows : List ConstRow} → Read 12 64 (bytes_of t.constants) (ReadFrom 12 const_at GoodConst (bytes_of t.constants) rows) → (rows ≡ consts_in bs) × AllGood P.Constants
    consts_are {rows} r = rows_stand bs P.Constants _ _ framed.constants_are const_at GoodConst rows r

    expansions_are : {rows : List ExpansionRow} → Read 16 256 (bytes_of t.expansions) (ReadFrom 16 expansion_at GoodExpansion (bytes_of t.expansions) rows) → (rows ≡ expansions_in bs) × AllGood P.Expansions
    expansions_are {rows} r = rows_stand bs P.Expansions _ _ framed.expansions_are expansion_at GoodExpansion rows r

    pub items_refused : (f : Fault) → Read 13 512 (bytes_of t.items) (FirstUnread 13 GoodItem R.ItemRecord P.Items (bytes_of t.items) f) → First (Applies bs) f
    items_refused f b =
        record_first framed.no_cause P.Items (good_below 1 (λ h. absurd (omega arith)) (λ h. absurd (omega arith)) (λ h. absurd (omega arith))) f
        (fault_stands bs P.Items _ _ framed.items_are GoodItem R.ItemRecord f b)

    pub consts_refused : {is : List ItemRow} (f : Fault) → Read 13 512 (bytes_of t.items) (ReadFrom 13 item_at GoodItem (bytes_of t.items) is) → Read 12 64 (bytes_of t.constants) (FirstUnread 12 GoodConst R.ItemRecord P.Constants (bytes_of t.constants) f) → First (Applies bs) f
    consts_refused f i b =
        record_first framed.no_cause P.Constants (good_below 2 (λ h. (items_are i).1) (λ h. absurd (omega arith)) (λ h. absurd (omega arith))) f
        (fault_stands bs P.Constants _ _ framed.constants_are GoodConst R.ItemRecord f b)

    pub expansions_refused : {is : List ItemRow} {cs : List ConstRow} (f : Fault) → Read 13 512 (bytes_of t.items) (ReadFrom 13 item_at GoodItem (bytes_of t.items) is) → Read 12 64 (bytes_of t.constants) (ReadFrom 12 const_at GoodConst (bytes_of t.constants) cs) → Read 16 256 (bytes_of t.expansions) (FirstUnread 16 GoodExpansion R.ItemRecord P.Expansions (bytes_of t.expansions) f) → First (Applies bs) f
    expansions_refused f i o b =
        record_first framed.no_cause P.Expansions (good_below 3 (λ h. (items_are i).1) (λ h. (consts_are o).1) (λ h. absurd (omega arith))) f
        (fault_stands bs P.Expansions _ _ framed.expansions_are GoodExpansion R.ItemRecord f b)

    pub all_filled : (u : Tables) → Read 13 512 (bytes_of t.items) (ReadFrom 13 item_at GoodItem (bytes_of t.items) (listed u.items)) → Read 12 64 (bytes_of t.constants) (ReadFrom 12 const_at GoodConst (bytes_of t.constants) (listed u.consts)) → Read 16 256 (bytes_of t.expansions) (ReadFrom 16 expansion_at GoodExpansion (bytes_of t.expansions) (listed u.expansions)) → Filled bs u
    all_filled u i o e =
        let is = items_are i in
        let cs = consts_are o in
        let es = expansions_are e in
        record {
          framed = framed.no_cause;
          all_good = λ p. good_below 5 (λ h. is.1) (λ h. cs.1) (λ h. es.1) p (part_in p);
          items = is.0;
          consts = cs.0;
          expansions = es.0;
        }
