-- Looking through entries as if a binding had another name is looking through the entries rewritten.
use Rattle.std.proofs.Common.{◌≡◌, ℕ, Bool, true, false, cond, eqb, List, [], ◌∷◌, map, Some, None, Option, sym, refl, ap, ◌∙◌}
use Rattle.std.proofs.lemmas.Bool.{cond_both}
use Rattle.std.specs.Option.{option_map}
use Rattle.format.specs.declared.ids.HygieneId.{HygieneId}
use Rattle.format.specs.declared.ids.Name.{Name}
use Rattle.format.specs.declared.ids.ScopeId.{ScopeId}
use Rattle.scope.specs.Queries.{entries_of, first_that}
use Rattle.reach.specs.declared.data.ScopeEntry.{ScopeEntry}
use Rattle.resolve.specs.declared.resolution.Resolution.TheVariants as R
use Rattle.resolve.specs.declared.sought.Rename.{Rename}
use Rattle.resolve.specs.Outward.{answers_to, local_among, supposed_entry}

pub supposed_scope : (r : Option Rename) (e : ScopeEntry) → (supposed_entry r e).scope ≡ e.scope
supposed_scope None e = refl
supposed_scope (Some r) e = cond_both (eqb e.binding.0 r.binding.0) record { name = r.name; hygiene = e.hygiene; binding = e.binding; scope = e.scope } e (λ y. y.scope ≡ e.scope) (λ _. refl) (λ _. refl)

pub supposed_binding : (r : Option Rename) (e : ScopeEntry) → (supposed_entry r e).binding ≡ e.binding
supposed_binding None e = refl
supposed_binding (Some r) e = cond_both (eqb e.binding.0 r.binding.0) record { name = r.name; hygiene = e.hygiene; binding = e.binding; scope = e.scope } e (λ y. y.binding ≡ e.binding) (λ _. refl) (λ _. refl)

cond_map : {X Y : Type 0} (f : X → Y) (b : Bool) (x y : X) → cond b (f x) (f y) ≡ f (cond b x y)
cond_map f true x y = refl
cond_map f false x y = refl

module _ (g : ScopeEntry → ScopeEntry) where
  own_map : ((e : ScopeEntry) → (g e).scope ≡ e.scope) → (h : ℕ) (es : List ScopeEntry) → entries_of h (map g es) ≡ map g (entries_of h es)
  unfolding entries_of
  own_map k h [] = refl
  own_map k h (e ∷ es) =
      ap (λ s. cond (eqb s.0 h) (g e ∷ entries_of h (map g es)) (entries_of h (map g es))) (k e) ∙
      (ap (λ l. cond (eqb e.scope.0 h) (g e ∷ l) l) (own_map k h es) ∙ cond_map (map g) (eqb e.scope.0 h) (e ∷ entries_of h es) (entries_of h es))

  that_map : (p : ScopeEntry → Bool) (es : List ScopeEntry) → first_that p (map g es) ≡ option_map g (first_that (λ e. p (g e)) es)
  unfolding first_that
  that_map p [] = refl
  that_map p (e ∷ es) =
      ap (cond (p (g e)) (Some (g e))) (that_map p es) ∙ cond_map (option_map g) (p (g e)) (Some e) (first_that (λ x. p (g x)) es)

local_of : (r : Option Rename) (o : Option ScopeEntry) → option_map (λ e. R.Local e.binding) (option_map (supposed_entry r) o) ≡ option_map (λ e. R.Local e.binding) o
local_of r None = refl
local_of r (Some e) = ap (λ b. Some (R.Local b)) (supposed_binding r e)

pub supposed_local : (r : Option Rename) (es : List ScopeEntry) (n : Name) (h : HygieneId) (s : ScopeId) → option_map (λ e. R.Local e.binding) (first_that (λ e. answers_to n h (supposed_entry r e)) (entries_of s.0 es)) ≡ local_among (map (supposed_entry r) es) n h s
supposed_local r es n h s =
    sym (
    ap (λ l. option_map (λ e. R.Local e.binding) (first_that (answers_to n h) l)) (own_map (supposed_entry r) (supposed_scope r) s.0 es) ∙
    (ap (option_map (λ e. R.Local e.binding)) (that_map (supposed_entry r) (answers_to n h) (entries_of s.0 es)) ∙ local_of r (first_that (λ e. answers_to n h (supposed_entry r e)) (entries_of s.0 es))))
