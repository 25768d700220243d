-- From the steps of taking a sheet apart to its first cause.
use Rattle.std.proofs.Common.{◌≡◌, ℕ, ◌+◌, ◌*◌, ◌/◌, ◌<◌, ◌≤◌, List, length, refl, ap, ◌∙◌, inl, inr, ⊎_elim, arith}
use native.Mathlib.Nat.{mul-div_cancel_left}
use Rattle.framing.specs.declared.fault.Fault.{Fault}
use Rattle.framing.specs.declared.fault.Part.{Part}
use Rattle.framing.specs.declared.fault.Part.TheVariants as P
use Rattle.framing.specs.declared.fault.Refusal.{Refusal}
use Rattle.framing.specs.declared.fault.Refusal.TheVariants as R
use Rattle.framing.specs.declared.sheet_format.SheetFormat.{SheetFormat}
use Rattle.framing.specs.Faults.{refusal_number, part_number}
use Rattle.framing.specs.Framing.{Framing, Version1, LengthFits, CountFits, SectionBreaks, Within}
use Rattle.framing.specs.Layout.{u32at, last_end, start_at, count_of, bytes_in}
use Rattle.framing.specs.Plans.{part_at, plan_of, sections_of, width_of}
use Rattle.framing.specs.Sections.{Holds}
use Rattle.framing.specs.Stages.{FirstOf, FirstPlace, NoRecord, Sound}
use Rattle.framing.proofs.Firsts.{Never, ClearTo, clear_none, clear_more, first_whole}
use Rattle.framing.proofs.Starts.{placed, start_up, end_at}

-- the first section that breaks a rule is the first place of such a cause
section_first : (f : SheetFormat) (Rule : Part → Type 0) (r : Refusal) (i : ℕ) (x : Fault) → i < sections_of f → ((j : ℕ) → j < i → Rule (part_at f j)) → (Rule (part_at f i) → ⊥) →
    NoRecord r (part_at f i) x → FirstPlace (λ p k. (k ≡ 0) × SectionBreaks f Rule p) x.part x.record
section_first f Rule r i x lt kept broken n = record {
  here = (n.record_is, record { at = i; within = lt; is = n.part_is; broken = broken });
  not_before = λ q l b w.
      let number = ap part_number w.1.is ∙ (placed f w.1.at w.1.within).1 in
      let here = ap part_number n.part_is ∙ (placed f i lt).1 in
      w.1.broken
      (kept w.1.at
      (⊎_elim (λ (y : part_number q < part_number x.part). omega arith) (λ (y : (q ≡ x.part) × (l < x.record)). absurd (omega (arith, y.1, n.record_is))) b));
}

module _ (f : SheetFormat) (bs : List ℕ) where
  pub count_first : (i : ℕ) (x : Fault) → i < sections_of f → ((j : ℕ) → j < i → CountFits bs (part_at f j)) → (CountFits bs (part_at f i) → ⊥) → NoRecord R.Count (part_at f i) x → FirstOf (Framing f bs) R.Count x
  count_first i x lt kept broken n = record { refusal_is = n.refusal_is; first = section_first f (CountFits bs) R.Count i x lt kept broken n }

  -- a section that begins within the bytes has all before it end there
  before_within : (i j : ℕ) → i < sections_of f → j < i → start_at bs (plan_of f) i ≤ length bs → Within bs (part_at f j)
  before_within i j lt h b = omega (arith, end_at bs f j (omega arith), start_up bs (plan_of f) (j + 1) i (omega arith))

  pub length_first : (i : ℕ) (x : Fault) → i < sections_of f → 5 + u32at bs 1 ≡ length bs → start_at bs (plan_of f) i ≤ length bs → length bs < start_at bs (plan_of f) (i + 1) → NoRecord R.Length (part_at f i) x → FirstOf (Framing f bs) R.Length x
  length_first i x lt e b h n =
      let s = section_first f (Within bs) R.Length i x lt (λ j l. before_within i j lt l b) (λ w. omega (arith, end_at bs f i lt)) n in
      record {
        refusal_is = n.refusal_is;
        first = record {
          here = (s.here.0, inr s.here.1);
          not_before = λ q l g w.
              ⊎_elim
              (λ (y : (q ≡ P.Whole) × (LengthFits f bs → ⊥)). y.1 record { says_the_rest = e; none_left = omega (arith, start_up bs (plan_of f) (i + 1) (sections_of f) (omega arith)) })
              (λ (y : SectionBreaks f (Within bs) q). s.not_before q l g (w.0, y)) w.1;
        };
      }

  pub whole_first : (x : Fault) → (LengthFits f bs → ⊥) → NoRecord R.Length P.Whole x → FirstOf (Framing f bs) R.Length x
  whole_first x h n = record { refusal_is = n.refusal_is; first = first_whole (Framing f bs R.Length) R.Length x n (n.record_is, inl (n.part_is, h)) }

  pub length_never : 5 + u32at bs 1 ≡ length bs → last_end bs f ≡ length bs → Never (Framing f bs) R.Length
  length_never e l p k w =
      ⊎_elim (λ (y : (p ≡ P.Whole) × (LengthFits f bs → ⊥)). y.1 record { says_the_rest = e; none_left = omega arith })
      (λ (y : SectionBreaks f (Within bs) p).
      y.broken (omega (arith, end_at bs f y.at y.within, start_up bs (plan_of f) (y.at + 1) (sections_of f) (omega (arith, y.within))))) w.1

  -- refusals 1 to 3 are all that the frame has
  pub framing_low : (r : Refusal) (p : Part) (k : ℕ) → Framing f bs r p k → refusal_number r ≤ 3
  framing_low R.Version p k w = omega arith
  framing_low R.Length p k w = omega arith
  framing_low R.Count p k w = omega arith
  framing_low R.Record p k w = absurd w
  framing_low R.Tree p k w = absurd w
  framing_low R.LetPlace p k w = absurd w
  framing_low R.NameOrFrame p k w = absurd w
  framing_low R.ItemRecord p k w = absurd w
  framing_low R.KeyOrder p k w = absurd w

  -- after the version and the length, no cause of a lower number than 3
  pub clear_length : Version1 bs → 5 + u32at bs 1 ≡ length bs → last_end bs f ≡ length bs → ClearTo (Framing f bs) 2
  clear_length v e l =
      let cause = Framing f bs in
      clear_more cause 1 R.Length refl (clear_more cause 0 R.Version refl (clear_none cause) (λ p k w. w.2 v)) (length_never e l)

  pub sound : Version1 bs → 5 + u32at bs 1 ≡ length bs → last_end bs f ≡ length bs → ((i : ℕ) → i < sections_of f → CountFits bs (part_at f i)) → Sound f bs
  sound v e l counts = record {
    no_cause = λ r p k w. clear_more (Framing f bs) 2 R.Count refl (clear_length v e l) (λ q i x. x.1.broken (counts x.1.at x.1.within)) r (framing_low r p k w) p k w;
    all_end_within = omega arith;
    counts_fit = counts;
  }

-- the records of a section, as they are handed out
pub holds : (bs : List ℕ) (p : Part) (xs : List ℕ) → 0 < width_of p → xs ≡ bytes_in bs p → length xs ≡ width_of p * count_of bs p → CountFits bs p → Holds bs p p xs
holds bs p xs w e z fits = record { part_is = refl; bytes_are = e; size_is = z; count_is = ap (λ n. n / width_of p) z ∙ mul-div_cancel_left (count_of bs p) w; fits = fits }
