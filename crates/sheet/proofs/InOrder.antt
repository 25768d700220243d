-- The causes of a body sheet are at its own parts, so its faults are in the order of their numbers.
use Rattle.std.proofs.Common.{ℕ, List, ap, ◌∙◌, inl, inr, ⊎_elim, refl}
use Rattle.framing.specs.declared.fault.Part.{Part}
use Rattle.framing.specs.declared.fault.Refusal.{Refusal}
use Rattle.framing.specs.declared.fault.Refusal.TheVariants as R
use Rattle.framing.specs.declared.sheet_format.SheetFormat.TheVariants as F
use Rattle.framing.specs.Faults.{InOrderOfNumbers}
use Rattle.framing.specs.Plans.{format_of}
use Rattle.framing.proofs.InOrder.{OfFormat, framing_of, in_order}
use Rattle.sheet.specs.Causes.{Applies}

of_body : (bs : List ℕ) → OfFormat F.Body (Applies bs)
of_body bs R.Version p k w = framing_of F.Body bs R.Version p k w
of_body bs R.Length p k w = framing_of F.Body bs R.Length p k w
of_body bs R.Count p k w = framing_of F.Body bs R.Count p k w
of_body bs R.Record p k w = inr (ap format_of w.0)
of_body bs R.Tree p k w = ⊎_elim (λ x. inl x.0) (λ x. inr (ap format_of x.0)) w
of_body bs R.LetPlace p k w = inr (ap format_of w.0)
of_body bs R.NameOrFrame p k w = ⊎_elim (λ x. inr (ap format_of x.0)) (λ x. inr (ap format_of x.0)) w
of_body bs R.ItemRecord p k w = absurd w
of_body bs R.KeyOrder p k w = absurd w

pub body_in_order : (bs : List ℕ) → InOrderOfNumbers (Applies bs)
body_in_order bs = in_order F.Body (Applies bs) (of_body bs)
