-- The first entry of a scope that passes a test, by its place among all entries.
use Rattle.std.proofs.Common.{◌≡◌, ℕ, zero, suc, ◌<◌, Bool, true, false, ◌&&◌, eqb, ◌⊎◌, List, [], ◌∷◌, length, get_or, Some, None, Option, sym, refl, ap, ◌∙◌, inl, inr, arith}
use Rattle.std.proofs.lemmas.Bool.{and_parts, cases_Bool, cases_eq, cases_lt, cond-true, cond-false, eq-eqb, eqb-true, ne_eqb}
use Rattle.std.specs.Option.{option_map}
use Rattle.format.specs.declared.ids.BindingId.{BindingId}
use Rattle.format.specs.declared.ids.HygieneId.{HygieneId}
use Rattle.format.specs.declared.ids.Name.{Name}
use Rattle.format.specs.declared.ids.ScopeId.{ScopeId}
use Rattle.reach.specs.Named.{no_entry}
use Rattle.scope.specs.Queries.{entries_of, first_that}
use Rattle.reach.specs.declared.data.ScopeEntry.{ScopeEntry}
use Rattle.resolve.specs.declared.resolution.Resolution.{Resolution}
use Rattle.resolve.specs.declared.resolution.Resolution.TheVariants as R
use Rattle.resolve.specs.Outward.{Surroundings, answers_to, local_among}
use Rattle.resolve.specs.Hits.{Answers, FirstEntry, NoEntry}

module _ (p : ScopeEntry → Bool) (h : ℕ) where
  -- an entry of scope h that passes
  abbrev Passes : ScopeEntry → Type 0
  Passes e = (e.scope.0 ≡ h) × (p e ≡ true)

  abbrev scan : List ScopeEntry → Option ScopeEntry
  scan es = first_that p (entries_of h es)

  scan_nil : scan [] ≡ None
  unfolding first_that entries_of
  scan_nil = refl

  scan_cons : (e : ScopeEntry) (es : List ScopeEntry) → (Passes e × (scan (e ∷ es) ≡ Some e)) ⊎ ((Passes e → ⊥) × (scan (e ∷ es) ≡ scan es))
  unfolding first_that entries_of
  scan_cons e es =
      elim (cases_eq e.scope.0 h) [
        | inl same ↦
            let own = ap (first_that p) (cond-true _ (e ∷ entries_of h es) (entries_of h es) (eq-eqb e.scope.0 h same)) in
            elim (cases_Bool (p e)) [
              | inl holds ↦ inl ((same, holds), own ∙ cond-true _ _ _ holds)
              | inr fails ↦ inr (λ w. let z : true ≡ false = sym w.1 ∙ fails in cc, own ∙ cond-false _ _ _ fails)
            ]
        | inr other ↦ inr (λ w. other w.0, ap (first_that p) (cond-false _ (e ∷ entries_of h es) (entries_of h es) (ne_eqb e.scope.0 h other)))
      ]

  -- the entry at the first place that passes
  pub record Hit (es : List ScopeEntry) (e : ScopeEntry) : Type 0 where
    pub place : ℕ
    pub there : place < length es
    pub passes : Passes (get_or es place no_entry)
    pub is : get_or es place no_entry ≡ e
    pub none_before : (j : ℕ) → j < place → Passes (get_or es j no_entry) → ⊥

  pub scan_some : (es : List ScopeEntry) (e : ScopeEntry) → scan es ≡ Some e → Hit es e
  scan_some [] e q = absurd (let z : None ≡ Some e = sym scan_nil ∙ q in cc)
  scan_some (x ∷ es) e q =
      elim (scan_cons x es) [
        | inl w ↦ record { place = 0; there = omega arith; passes = w.0; is = (let z : Some x ≡ Some e = sym w.1 ∙ q in cc); none_before = λ j l. absurd (omega arith) }
        | inr w ↦
            let r = scan_some es e (sym w.1 ∙ q) in
            record { place = suc r.place; there = omega (arith, r.there); passes = r.passes; is = r.is; none_before = later es x r.place w.0 r.none_before }
      ]
    where
      later : (es : List ScopeEntry) (x : ScopeEntry) (k : ℕ) → (Passes x → ⊥) → ((j : ℕ) → j < k → Passes (get_or es j no_entry) → ⊥) → (j : ℕ) → j < suc k → Passes (get_or (x ∷ es) j no_entry) → ⊥
      later es x k n m zero l w = n w
      later es x k n m (suc j) l w = m j (omega arith) w

  pub scan_none : (es : List ScopeEntry) → scan es ≡ None → (j : ℕ) → j < length es → Passes (get_or es j no_entry) → ⊥
  scan_none [] q j l w = omega arith
  scan_none (x ∷ es) q zero l w =
      elim (scan_cons x es) [
        | inl v ↦ let z : None ≡ Some x = sym q ∙ v.1 in cc
        | inr v ↦ v.0 w
      ]
  scan_none (x ∷ es) q (suc j) l w =
      elim (scan_cons x es) [
        | inl v ↦ let z : None ≡ Some x = sym q ∙ v.1 in cc
        | inr v ↦ scan_none es (sym v.1 ∙ q) j (omega arith) w
      ]

module _ (T : Surroundings) (s : ScopeId) (n : Name) (h : HygieneId) where
  abbrev test : ScopeEntry → Bool
  test = answers_to n h

  abbrev entry_at : ℕ → ScopeEntry
  entry_at i = get_or T.entries i no_entry

  answers : (i : ℕ) → i < length T.entries → Passes test s.0 (entry_at i) → Answers T s n h i
  answers i l w =
      let q = and_parts _ _ w.1 in
      record { there = l; home = w.0; name_is = ap (λ k. record { 0 = k }) (eqb-true _ _ q.0); hygiene_is = ap (λ k. record { 0 = k }) (eqb-true _ _ q.1) }

  passes : (i : ℕ) → Answers T s n h i → Passes test s.0 (entry_at i)
  passes i a = (a.home, ap (λ b. b && eqb (entry_at i).hygiene.0 h.0) (eq-eqb _ _ (ap (λ k. k.0) a.name_is)) ∙ eq-eqb _ _ (ap (λ k. k.0) a.hygiene_is))

  pub none_answers : local_among T.entries n h s ≡ None → NoEntry T s n h
  none_answers q j a = of (first_that test (entries_of s.0 T.entries)) refl q
    where
      of : (o : Option ScopeEntry) → first_that test (entries_of s.0 T.entries) ≡ o → option_map (λ e. R.Local e.binding) o ≡ None → ⊥
      of None e z = scan_none test s.0 T.entries e j a.there (passes j a)
      of (Some x) e z = cc

  -- what is found among the entries is the local of the first that answers
  pub record LocalHit (r : Resolution) : Type 0 where
    pub binding : BindingId
    pub is : r ≡ R.Local binding
    pub entry : FirstEntry T s n h binding

  pub one_answers : (r : Resolution) → local_among T.entries n h s ≡ Some r → LocalHit r
  one_answers r q = of (first_that test (entries_of s.0 T.entries)) refl q
    where
      of : (o : Option ScopeEntry) → first_that test (entries_of s.0 T.entries) ≡ o → option_map (λ e. R.Local e.binding) o ≡ Some r → LocalHit r
      of None e z = absurd cc
      of (Some x) e z =
          let w = scan_some test s.0 T.entries x e in
          record {
            binding = x.binding;
            is = cc;
            entry = record { place = w.place; answers = answers w.place w.there w.passes; none_before = λ j l a. w.none_before j l (passes j a); binding_is = ap (λ y. y.binding) w.is };
          }

  pub no_local : NoEntry T s n h → local_among T.entries n h s ≡ None
  no_local z = of (local_among T.entries n h s) refl
    where
      of : (o : Option Resolution) → local_among T.entries n h s ≡ o → o ≡ None
      of None e = refl
      of (Some r) e = absurd (let w = one_answers r e in z w.entry.place w.entry.answers)

  pub the_local : (v : BindingId) → FirstEntry T s n h v → local_among T.entries n h s ≡ Some (R.Local v)
  the_local v f = of (local_among T.entries n h s) refl
    where
      of : (o : Option Resolution) → local_among T.entries n h s ≡ o → o ≡ Some (R.Local v)
      of None e = absurd (none_answers e f.place f.answers)
      of (Some r) e =
          let w = one_answers r e in
          elim (cases_eq f.place w.entry.place) [
            | inl same ↦ ap Some (w.is ∙ ap R.Local (sym w.entry.binding_is ∙ (ap (λ i. (entry_at i).binding) (sym same) ∙ f.binding_is)))
            | inr other ↦
                absurd (elim (cases_lt f.place w.entry.place) [ inl l ↦ w.entry.none_before f.place l f.answers | inr l ↦ f.none_before w.entry.place (omega arith) w.entry.answers ])
          ]
