-- What a reader of records goes on from, once a sheet is taken apart.
use Rattle.std.proofs.Common.{◌≡◌, ℕ, ◌/◌, ◌<◌, ◌≤◌, List, length, sym, ap, ◌∙◌, subst, ⊎_elim, arith}
use Rattle.framing.specs.declared.fault.Fault.{Fault}
use Rattle.framing.specs.declared.fault.Part.{Part}
use Rattle.framing.specs.declared.fault.Refusal.{Refusal}
use Rattle.framing.specs.declared.fault.Refusal.TheVariants as R
use Rattle.framing.specs.declared.sheet_format.SheetFormat.{SheetFormat}
use Rattle.framing.specs.Faults.{refusal_number, Before, Causes, First, NoneApply}
use Rattle.framing.specs.Framing.{Framing}
use Rattle.framing.specs.Layout.{count_of, bytes_in}
use Rattle.framing.specs.Plans.{width_of}
use Rattle.framing.specs.Sections.{Holds}
use Rattle.framing.proofs.Firsts.{ClearTo}
use Rattle.framing.proofs.Framed.{framing_low}

-- what is said of a section's bytes as read, and of how many records they are, is said of them as they stand in the sheet
pub canon : (Q : List ℕ → ℕ → Type 0) (bs : List ℕ) (p q : Part) (ys xs : List ℕ) → Holds bs p q ys → xs ≡ ys → Q xs (length xs / width_of p) → Q (bytes_in bs p) (count_of bs p)
canon Q bs p q ys xs h e x =
    let n = ap (λ zs. length zs / width_of p) e ∙ (ap (λ s. length ys / width_of s) (sym h.part_is) ∙ h.count_is) in
    subst (Q (bytes_in bs p)) n (subst (λ zs. Q zs (length xs / width_of p)) (e ∙ h.bytes_are) x)

-- causes of which the first three are those of the frame
pub record Extends (f : SheetFormat) (bs : List ℕ) (cause : Causes) : Type 0 where
  pub on : (r : Refusal) (p : Part) (k : ℕ) → Framing f bs r p k → cause r p k
  pub back : (r : Refusal) (p : Part) (k : ℕ) → refusal_number r ≤ 3 → cause r p k → Framing f bs r p k

-- where a refusal's causes are the frame's
abbrev Same : SheetFormat → List ℕ → Causes → Refusal → Type 1
Same f bs cause r = (p : Part) (k : ℕ) → ◌≡◌ {A = Type 0} (Framing f bs r p k) (cause r p k)

module _ (f : SheetFormat) (bs : List ℕ) (cause : Causes) where
  pub extends : Same f bs cause R.Version → Same f bs cause R.Length → Same f bs cause R.Count → Extends f bs cause
  extends version length count = record { on = there; back = home }
    where
      there : (r : Refusal) (p : Part) (k : ℕ) → Framing f bs r p k → cause r p k
      there R.Version p k w = subst (λ X. X) (version p k) w
      there R.Length p k w = subst (λ X. X) (length p k) w
      there R.Count p k w = subst (λ X. X) (count p k) w
      there R.Record p k w = absurd w
      there R.Tree p k w = absurd w
      there R.LetPlace p k w = absurd w
      there R.NameOrFrame p k w = absurd w
      there R.ItemRecord p k w = absurd w
      there R.KeyOrder p k w = absurd w

      home : (r : Refusal) (p : Part) (k : ℕ) → refusal_number r ≤ 3 → cause r p k → Framing f bs r p k
      home R.Version p k h w = subst (λ X. X) (sym (version p k)) w
      home R.Length p k h w = subst (λ X. X) (sym (length p k)) w
      home R.Count p k h w = subst (λ X. X) (sym (count p k)) w
      home R.Record p k h w = absurd (omega arith)
      home R.Tree p k h w = absurd (omega arith)
      home R.LetPlace p k h w = absurd (omega arith)
      home R.NameOrFrame p k h w = absurd (omega arith)
      home R.ItemRecord p k h w = absurd (omega arith)
      home R.KeyOrder p k h w = absurd (omega arith)

  module _ (x : Extends f bs cause) where
    -- the frame's first cause is the first of all
    pub framing_first : (t : Fault) → First (Framing f bs) t → First cause t
    framing_first t h =
        let low = framing_low f bs t.refusal t.part t.record h.applies in
        record {
          applies = x.on t.refusal t.part t.record h.applies;
          none_sooner = λ r p k b w. h.none_sooner r p k b (x.back r p k
              (⊎_elim (λ (y : refusal_number r < refusal_number t.refusal). omega arith) (λ (y : (r ≡ t.refusal) × Before p k t.part t.record). omega (arith, ap refusal_number y.0)) b) w);
        }

    pub clear_framing : NoneApply (Framing f bs) → ClearTo cause 3
    clear_framing none r h p k w = none r p k (x.back r p k h w)
