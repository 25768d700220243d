-- From what the steps of reading found to what the whole sheet is refused for, or holds.
use Rattle.std.proofs.Common.{◌≡◌, ℕ, ◌<◌, List, map, sym, refl, ◌∙◌, subst, ⊎_elim, arith}
use Rattle.std.proofs.lemmas.List.{length-map}
use Rattle.framing.specs.declared.fault.Fault.{Fault}
use Rattle.framing.specs.declared.fault.Part.{Part}
use Rattle.framing.specs.declared.fault.Part.TheVariants as P
use Rattle.framing.specs.declared.fault.Refusal.TheVariants as R
use Rattle.framing.specs.Broken.{FirstBroken}
use Rattle.framing.specs.Faults.{First, NoneApply, part_number}
use Rattle.framing.specs.Layout.{bytes_in, count_of}
use Rattle.framing.proofs.Firsts.{ClearTo, clear_all, clear_more, first_from}
use Rattle.table.specs.Tables.{listed, tabulated}
use Rattle.table.proofs.Listed.{get_or-tabulated, length-tabulated}
use Rattle.item_rows.specs.declared.key.Key.{Key}
use Rattle.item_rows.specs.declared.rows.ExpansionRow.{ExpansionRow}
use Rattle.item_rows.specs.declared.tables.Tables.{Tables}
use Rattle.item_rows.specs.Causes.{Applies, InOrder, consts_in, expansions_in, items_in}
use Rattle.item_rows.specs.Keys.{Follows, Rising}
use Rattle.item_rows.specs.Records.{const_at, expansion_at, item_at}
use Rattle.item_rows.specs.Rows.{Rooted, const_key, expansion_key, item_key}
use Rattle.item_rows.specs.Steps.{Filled}
use Rattle.item_rows.proofs.Load.{All, clear7, first_of_section, part_in, sections}
use Rattle.items.specs.Steps.{FirstUnsorted, Sorted, Unsorted, const_keys, expansion_keys, item_keys}

module _ (bs : List ℕ) where
  -- every record of a section keeps the rule of refusal 9
  abbrev AllInOrder : Part → Type 0
  AllInOrder = All (InOrder bs) (count_of bs)

  ordered_below : (s : ℕ) → (1 < s → AllInOrder P.Items) → (2 < s → AllInOrder P.Constants) → (3 < s → AllInOrder P.Expansions) → (q : Part) → part_number q < s → AllInOrder q
  ordered_below s = sections (count_of bs) (Follows (map item_key (items_in bs))) (Follows (map const_key (consts_in bs))) (Follows (map expansion_key (expansions_in bs))) s

  module _ (t : Tables) (filled : Filled bs t) where
    clear8 : ClearTo (Applies bs) 8
    clear8 = clear_more (Applies bs) 7 R.ItemRecord refl (clear7 bs filled.framed) (λ p k w. w.broken (filled.all_good p w.at w.within))

    -- what is said of the keys of a table is said of those that the bytes write
    module _ {X : Type 0} (key : X → Key) (p : Part) (row : ℕ → X) (rows : List X) (same : rows ≡ tabulated row (count_of bs p)) where
      keys_in_order : Rising (map key rows) → (i : ℕ) → i < count_of bs p → Follows (map key (tabulated row (count_of bs p))) i
      keys_in_order r i l =
          subst (λ xs. Rising (map key xs)) same r i (omega (arith, length-map (tabulated row (count_of bs p)) key, length-tabulated row (count_of bs p)))

      keys_unsorted : (f : Fault) → FirstUnsorted (map key rows) p f → FirstBroken (Follows (map key (tabulated row (count_of bs p)))) (count_of bs p) R.KeyOrder p f
      keys_unsorted f u =
          subst (λ n. FirstBroken (Follows (map key (tabulated row (count_of bs p)))) n R.KeyOrder p f) (length-map (tabulated row (count_of bs p)) key ∙ length-tabulated row (count_of bs p))
          (subst (λ xs. FirstUnsorted (map key xs) p f) same u)

    items_in_order : Rising (item_keys t) → AllInOrder P.Items
    items_in_order = keys_in_order item_key P.Items (item_at (bytes_in bs P.Items)) (listed t.items) filled.items

    consts_in_order : Rising (const_keys t) → AllInOrder P.Constants
    consts_in_order = keys_in_order const_key P.Constants (const_at (bytes_in bs P.Constants)) (listed t.consts) filled.consts

    expansions_in_order : Rising (expansion_keys t) → AllInOrder P.Expansions
    expansions_in_order = keys_in_order expansion_key P.Expansions (expansion_at (bytes_in bs P.Expansions)) (listed t.expansions) filled.expansions

    -- refusal 9
    order_first : (p : Part) → ((q : Part) → part_number q < part_number p → AllInOrder q) → (f : Fault) → FirstBroken (InOrder bs p) (count_of bs p) R.KeyOrder p f → First (Applies bs) f
    order_first p before f b =
        first_from (Applies bs) 8 R.KeyOrder f refl clear8 record { refusal_is = b.fault.refusal_is; first = first_of_section (InOrder bs) (count_of bs) R.KeyOrder p f before b }

    pub unsorted_first : (f : Fault) → Unsorted t f → First (Applies bs) f
    unsorted_first f u =
        ⊎_elim
        (λ (x : FirstUnsorted (item_keys t) P.Items f).
        order_first P.Items (ordered_below 1 (λ h. absurd (omega arith)) (λ h. absurd (omega arith)) (λ h. absurd (omega arith))) f
        (keys_unsorted item_key P.Items (item_at (bytes_in bs P.Items)) (listed t.items) filled.items f x))
        (⊎_elim
        (λ (x : Rising (item_keys t) × FirstUnsorted (const_keys t) P.Constants f).
        order_first P.Constants (ordered_below 2 (λ h. items_in_order x.0) (λ h. absurd (omega arith)) (λ h. absurd (omega arith))) f
        (keys_unsorted const_key P.Constants (const_at (bytes_in bs P.Constants)) (listed t.consts) filled.consts f x.1))
        (λ (x : Rising (item_keys t) × Rising (const_keys t) × FirstUnsorted (expansion_keys t) P.Expansions f).
        order_first P.Expansions (ordered_below 3 (λ h. items_in_order x.0) (λ h. consts_in_order x.1) (λ h. absurd (omega arith))) f
        (keys_unsorted expansion_key P.Expansions (expansion_at (bytes_in bs P.Expansions)) (listed t.expansions) filled.expansions f x.2)))
        u

    pub none_apply : Sorted t → NoneApply (Applies bs)
    none_apply s =
        clear_all (Applies bs) (clear_more (Applies bs) 8 R.KeyOrder refl clear8
        (λ p k w. w.broken (ordered_below 5 (λ h. items_in_order s.items) (λ h. consts_in_order s.consts) (λ h. expansions_in_order s.expansions) p (part_in p) w.at w.within)))

    -- no expansion is of the root
    pub rooted : Rooted (listed t.expansions)
    rooted = subst Rooted (sym filled.expansions) (λ i d l.
        let n = length-tabulated (expansion_at (bytes_in bs P.Expansions)) (count_of bs P.Expansions) in
        let g = filled.all_good P.Expansions i (omega arith) in
        subst (λ (x : ExpansionRow). 0 < x.context.0) (sym (get_or-tabulated (expansion_at (bytes_in bs P.Expansions)) (count_of bs P.Expansions) i d (omega arith))) g.past_root)
