-- The parts of a sheet are told apart by their numbers.
use Rattle.std.proofs.Common.{◌≡◌, ℕ, zero, suc, ◌+◌, ◌<◌, List, ◌⊎◌, sym, refl, ap, ◌∙◌, subst, inl, inr, ⊎_elim, arith}
use Rattle.framing.specs.declared.fault.Fault.{Fault}
use Rattle.framing.specs.declared.fault.Part.{Part}
use Rattle.framing.specs.declared.fault.Part.TheVariants as P
use Rattle.framing.specs.declared.fault.Refusal.{Refusal}
use Rattle.framing.specs.declared.fault.Refusal.TheVariants as R
use Rattle.framing.specs.declared.sheet_format.SheetFormat.{SheetFormat}
use Rattle.framing.specs.declared.sheet_format.SheetFormat.TheVariants as F
use Rattle.framing.specs.Faults.{Causes, First, InOrderOfNumbers, part_number, refusal_number}
use Rattle.framing.specs.Framing.{Framing, LengthFits, SectionBreaks}
use Rattle.framing.specs.Plans.{format_of, part_at, sections_of}
use Rattle.framing.proofs.Starts.{placed}

-- a part of the sheets of a format
abbrev pub PartOf : SheetFormat → Part → Type 0
PartOf f p = (p ≡ P.Whole) ⊎ (format_of p ≡ f)

-- causes at the parts of one format alone
abbrev pub OfFormat : SheetFormat → Causes → Type 0
OfFormat f cause = (r : Refusal) (p : Part) (k : ℕ) → cause r p k → PartOf f p

-- the part of a number
abbrev numbered : SheetFormat → ℕ → Part
numbered f zero = P.Whole
numbered f (suc n) = part_at f n

home : (p : Part) → numbered (format_of p) (part_number p) ≡ p
home P.Whole = refl
home P.Nodes = refl
home P.Children = refl
home P.Bindings = refl
home P.Frames = refl
home P.Items = refl
home P.Constants = refl
home P.Expansions = refl

numbered_back : (f : SheetFormat) (p : Part) → PartOf f p → numbered f (part_number p) ≡ p
numbered_back f p b = ⊎_elim (λ (w : p ≡ P.Whole). subst (λ q. numbered f (part_number q) ≡ q) (sym w) refl) (λ (e : format_of p ≡ f). ap (λ g. numbered g (part_number p)) (sym e) ∙ home p) b

pub in_order : (f : SheetFormat) (cause : Causes) → OfFormat f cause → InOrderOfNumbers cause
in_order f cause of t first r p k sooner w =
    ⊎_elim
    (λ (x : refusal_number r < refusal_number t.refusal). first.none_sooner r p k (inl x) w)
    (λ (x : (r ≡ t.refusal) × ((part_number p < part_number t.part) ⊎ ((part_number p ≡ part_number t.part) × (k < t.record)))).
    ⊎_elim
    (λ (y : part_number p < part_number t.part). first.none_sooner r p k (inr (x.0, inl y)) w)
    (λ (y : (part_number p ≡ part_number t.part) × (k < t.record)).
    let same : p ≡ t.part = sym (numbered_back f p (of r p k w)) ∙ (ap (numbered f) y.0 ∙ numbered_back f t.part (of t.refusal t.part t.record first.applies)) in
    first.none_sooner r p k (inr (x.0, inr (same, y.1))) w)
    x.1)
    sooner

-- a section that breaks a rule is one of the format
pub section_of : (f : SheetFormat) (Rule : Part → Type 0) (p : Part) → SectionBreaks f Rule p → PartOf f p
section_of f Rule p s = inr (ap format_of s.is ∙ (placed f s.at s.within).0)

-- the causes of refusals 1 to 3 are at parts of the format
pub framing_of : (f : SheetFormat) (bs : List ℕ) → OfFormat f (Framing f bs)
framing_of f bs R.Version p k w = inl w.0
framing_of f bs R.Length p k w = ⊎_elim (λ (x : (p ≡ P.Whole) × (LengthFits f bs → ⊥)). inl x.0) (λ x. section_of f _ p x) w.1
framing_of f bs R.Count p k w = section_of f _ p w.1
framing_of f bs R.Record p k w = absurd w
framing_of f bs R.Tree p k w = absurd w
framing_of f bs R.LetPlace p k w = absurd w
framing_of f bs R.NameOrFrame p k w = absurd w
framing_of f bs R.ItemRecord p k w = absurd w
framing_of f bs R.KeyOrder p k w = absurd w

pub framing_in_order : (f : SheetFormat) (bs : List ℕ) → InOrderOfNumbers (Framing f bs)
framing_in_order f bs = in_order f (Framing f bs) (framing_of f bs)
