-- Where the sections begin and end.
use Rattle.std.proofs.Common.{◌≡◌, ℕ, zero, suc, ◌+◌, ◌-◌, ◌<◌, ◌≤◌, List, length, get_or, take, sym, refl, ap, ◌∙◌, subst, add-one, arith}
use Rattle.std.proofs.lemmas.List.{get_or-take}
use Rattle.framing.specs.declared.fault.Part.{Part}
use Rattle.framing.specs.declared.fault.Part.TheVariants as P
use Rattle.framing.specs.declared.sheet_format.SheetFormat.{SheetFormat}
use Rattle.framing.specs.declared.sheet_format.SheetFormat.TheVariants as F
use Rattle.framing.specs.Faults.{part_number}
use Rattle.framing.specs.Layout.{end_from, end_of, last_end, start_at, start_of}
use Rattle.framing.specs.Plans.{format_of, part_at, plan_of, sections_of, width_of}

-- the section at a place of a format's plan is of that format, and has that place
pub placed : (f : SheetFormat) (i : ℕ) → i < sections_of f → (format_of (part_at f i) ≡ f) × (part_number (part_at f i) ≡ i + 1)
placed F.Body zero h = (refl, refl)
placed F.Body (suc zero) h = (refl, refl)
placed F.Body (suc (suc zero)) h = (refl, refl)
placed F.Body (suc (suc (suc zero))) h = (refl, refl)
placed F.Body (suc (suc (suc (suc i)))) h = absurd (omega arith)
placed F.Items zero h = (refl, refl)
placed F.Items (suc zero) h = (refl, refl)
placed F.Items (suc (suc zero)) h = (refl, refl)
placed F.Items (suc (suc (suc i))) h = absurd (omega arith)

-- a section stands in the plan of its format, at its own place
pub own_place : (p : Part) → 1 ≤ part_number p → (part_number p ≤ sections_of (format_of p)) × (part_at (format_of p) (part_number p - 1) ≡ p)
own_place P.Whole h = absurd (omega arith)
own_place P.Nodes h = (omega arith, refl)
own_place P.Children h = (omega arith, refl)
own_place P.Bindings h = (omega arith, refl)
own_place P.Frames h = (omega arith, refl)
own_place P.Items h = (omega arith, refl)
own_place P.Constants h = (omega arith, refl)
own_place P.Expansions h = (omega arith, refl)

module _ (bs : List ℕ) (plan : List Part) where
  pub start_first : start_at bs plan 0 ≡ 5
  unfolding start_at
  start_first = refl

  pub start_more : (i : ℕ) → start_at bs plan (i + 1) ≡ end_from bs (start_at bs plan i) (width_of (get_or plan i P.Whole))
  unfolding start_at
  start_more i = rw add-one

  -- the sections before one are enough to say where it begins
  pub start_in_front : (n i : ℕ) → i ≤ n → start_at bs (take n plan) i ≡ start_at bs plan i
  unfolding start_at
  start_in_front n zero h = refl
  start_in_front n (suc i) h = rw (start_in_front n i (omega arith), get_or-take n plan i P.Whole (omega arith)) refl

  -- later sections begin later
  start_on : (i d : ℕ) → start_at bs plan i ≤ start_at bs plan (i + d)
  unfolding end_from
  start_on i zero = let z : i + 0 ≡ i = omega arith in rw z (omega arith)
  start_on i (suc d) = let z : i + suc d ≡ (i + d) + 1 = omega arith in rw z (omega (arith, start_on i d, start_more (i + d)))

  pub start_up : (i j : ℕ) → i ≤ j → start_at bs plan i ≤ start_at bs plan j
  start_up i j h = let z : i + (j - i) ≡ j = omega arith in subst (λ k. start_at bs plan i ≤ start_at bs plan k) z (start_on i (j - i))

module _ (bs : List ℕ) where
  -- a section by its place ends where the next one begins
  pub end_at : (f : SheetFormat) (i : ℕ) → i < sections_of f → end_of bs (part_at f i) ≡ start_at bs (plan_of f) (i + 1)
  end_at f i h =
      let p = placed f i h in
      let z : part_number (part_at f i) - 1 ≡ i = omega (arith, p.1) in
      let s = ap (λ g. start_at bs (plan_of g) (part_number (part_at f i) - 1)) p.0 ∙ ap (start_at bs (plan_of f)) z in
      ap (λ a. end_from bs a (width_of (part_at f i))) s ∙ sym (start_more bs (plan_of f) i)

  -- the place past the last section is where that ends
  pub end_reached : (f : SheetFormat) (plan : List Part) (i at : ℕ) → plan ≡ plan_of f → i ≤ length plan → length plan ≤ i → at ≡ start_at bs plan i → at ≡ last_end bs f
  end_reached f plan i at e a b h =
      let z : i ≡ sections_of f = omega (arith, ap length e) in
      h ∙ (ap (λ ps. start_at bs ps i) e ∙ ap (start_at bs (plan_of f)) z)

  -- a section ends no later than the last one
  pub ends_by_last : (p : Part) → 1 ≤ part_number p → end_of bs p ≤ last_end bs (format_of p)
  ends_by_last p h =
      let o = own_place p h in
      let plan = plan_of (format_of p) in
      let i = part_number p - 1 in
      let e : end_of bs p ≡ start_at bs plan (i + 1) = ap (λ q. end_from bs (start_of bs p) (width_of q)) (sym o.1) ∙ sym (start_more bs plan i) in
      omega (arith, e, start_up bs plan (i + 1) (sections_of (format_of p)) (omega (arith, o.0)))
