-- Causes that are tested one number after another: what the first fault is.
use Rattle.std.proofs.Common.{◌≡◌, ℕ, ◌+◌, ◌<◌, ◌≤◌, cond, eqb, ◌⊎◌, sym, refl, ap, ◌∙◌, subst, inl, inr, ⊎_elim, arith}
use Rattle.std.proofs.lemmas.Bool.{cases_eq}
use Rattle.framing.specs.declared.fault.Fault.{Fault}
use Rattle.framing.specs.declared.fault.Part.{Part}
use Rattle.framing.specs.declared.fault.Part.TheVariants as P
use Rattle.framing.specs.declared.fault.Refusal.{Refusal}
use Rattle.framing.specs.declared.fault.Refusal.TheVariants as R
use Rattle.framing.specs.Broken.{Breaks, FirstBroken}
use Rattle.framing.specs.Faults.{refusal_number, part_number, Before, Causes, First, NoneApply}
use Rattle.framing.specs.Stages.{FirstOf, FirstPlace, NoRecord}

-- a number has one refusal
abbrev refusal_from : ℕ → Refusal
refusal_from n =
    cond (eqb n 1) R.Version (cond (eqb n 2) R.Length (cond (eqb n 3) R.Count (cond (eqb n 4) R.Record
    (cond (eqb n 5) R.Tree (cond (eqb n 6) R.LetPlace (cond (eqb n 7) R.NameOrFrame (cond (eqb n 8) R.ItemRecord R.KeyOrder)))))))

refusal_back : (r : Refusal) → refusal_from (refusal_number r) ≡ r
refusal_back R.Version = refl
refusal_back R.Length = refl
refusal_back R.Count = refl
refusal_back R.Record = refl
refusal_back R.Tree = refl
refusal_back R.LetPlace = refl
refusal_back R.NameOrFrame = refl
refusal_back R.ItemRecord = refl
refusal_back R.KeyOrder = refl

number_in : (r : Refusal) → (1 ≤ refusal_number r) × (refusal_number r ≤ 9)
number_in R.Version = (omega arith, omega arith)
number_in R.Length = (omega arith, omega arith)
number_in R.Count = (omega arith, omega arith)
number_in R.Record = (omega arith, omega arith)
number_in R.Tree = (omega arith, omega arith)
number_in R.LetPlace = (omega arith, omega arith)
number_in R.NameOrFrame = (omega arith, omega arith)
number_in R.ItemRecord = (omega arith, omega arith)
number_in R.KeyOrder = (omega arith, omega arith)

-- no cause of refusal r
abbrev pub Never : Causes → Refusal → Type 0
Never cause r = (p : Part) (k : ℕ) → cause r p k → ⊥

-- no cause with a number up to n
abbrev pub ClearTo : Causes → ℕ → Type 0
ClearTo cause n = (r : Refusal) → refusal_number r ≤ n → Never cause r

module _ (cause : Causes) where
  pub clear_none : ClearTo cause 0
  clear_none r h = absurd (omega (arith, number_in r))

  pub clear_more : (n : ℕ) (q : Refusal) → refusal_number q ≡ n + 1 → ClearTo cause n → Never cause q → ClearTo cause (n + 1)
  clear_more n q e u h r lt =
      ⊎_elim
      (λ (x : refusal_number r ≡ n + 1). let p : q ≡ r = sym (refusal_back q) ∙ (ap refusal_from (e ∙ sym x) ∙ refusal_back r) in subst (Never cause) p h)
      (λ ne. u r (omega arith))
      (cases_eq (refusal_number r) (n + 1))

  pub clear_all : ClearTo cause 9 → NoneApply cause
  clear_all u r = u r (number_in r).1

  pub first_from : (n : ℕ) (q : Refusal) (f : Fault) → refusal_number q ≡ n + 1 → ClearTo cause n → FirstOf cause q f → First cause f
  first_from n q f e u h = record {
    applies = subst (λ z. cause z f.part f.record) (sym h.refusal_is) h.first.here;
    none_sooner = λ r p k b w.
        ⊎_elim
        (λ (x : refusal_number r < refusal_number f.refusal). u r (omega (arith, ap refusal_number h.refusal_is, e)) p k w)
        (λ (x : (r ≡ f.refusal) × Before p k f.part f.record). h.first.not_before p k x.1 (subst (λ z. cause z p k) (x.0 ∙ h.refusal_is) w))
        b;
  }

-- a fault of the first record that breaks a rule is the rule's first place
pub broken_first : (Rule : ℕ → Type 0) (n : ℕ) (r : Refusal) (p : Part) (f : Fault) → FirstBroken Rule n r p f → FirstPlace (λ q k. (q ≡ p) × Breaks Rule n k) f.part f.record
broken_first Rule n r p f b = record {
  here = (b.fault.part_is, record { at = b.at; within = b.within; number = b.fault.record_is; broken = b.broken });
  not_before = λ q l h w.
      let e = ap part_number b.fault.part_is in
      let k = b.fault.record_is in
      w.1.broken
      (b.kept_before w.1.at
      (⊎_elim (λ (x : part_number q < part_number f.part). absurd (omega (arith, ap part_number w.0))) (λ (x : (q ≡ f.part) × (l < f.record)). omega (arith, x.1, w.1.number)) h));
}

-- nothing comes before the sheet as a whole
pub first_whole : (C : Part → ℕ → Type 0) (r : Refusal) (f : Fault) → NoRecord r P.Whole f → C f.part f.record → FirstPlace C f.part f.record
first_whole C r f n h = record {
  here = h;
  not_before = λ q l b w.
      ⊎_elim (λ (y : part_number q < part_number f.part). omega (arith, ap part_number n.part_is)) (λ (y : (q ≡ f.part) × (l < f.record)). omega (arith, y.1, n.record_is)) b;
}

-- the first place of either of two causes: of the one, where the other has none before it; of the other, where the one has none at all
module _ (A B : Part → ℕ → Type 0) (p : Part) (k : ℕ) where
  pub first_left : FirstPlace A p k → ((q : Part) (l : ℕ) → Before q l p k → B q l → ⊥) → FirstPlace (λ q l. A q l ⊎ B q l) p k
  first_left a none = record { here = inl a.here; not_before = λ q l b w. ⊎_elim (a.not_before q l b) (none q l b) w }

  pub first_right : FirstPlace B p k → ((q : Part) (l : ℕ) → A q l → ⊥) → FirstPlace (λ q l. A q l ⊎ B q l) p k
  first_right b none = record { here = inr b.here; not_before = λ q l h w. ⊎_elim (none q l) (b.not_before q l h) w }

-- no place of a later section comes before
pub later : (p q s : Part) (k l : ℕ) → part_number p < part_number s → q ≡ s → Before q l p k → ⊥
later p q s k l h e b =
    ⊎_elim (λ (x : part_number q < part_number p). omega (arith, ap part_number e)) (λ (x : (q ≡ p) × (l < k)). omega (arith, ap part_number e, ap part_number x.0)) b
