-- What making a scope and adding an entry leave of the ranges.
use Rattle.std.proofs.Common.{◌≡◌, ℕ, ◌+◌, ◌-◌, ◌<◌, ◌≤◌, ◌≢◌, List, [], ◌∷◌, ◌++◌, map, length, get_or, set, sym, refl, ap, ◌∙◌, subst, inl, inr, arith, below_more}
use Rattle.std.proofs.lemmas.List.{get_or_append_left, get_or_push, get_or-set_same, get_or-set_other, length-map, length_push, length-set}
use Rattle.std.proofs.lemmas.Bool.{cases_eq}
use Rattle.reach.specs.declared.data.ScopeData.{ScopeData}
use Rattle.reach.specs.declared.data.ScopeEntry.{ScopeEntry}
use Rattle.reach.specs.Blank.{bare_entry, blank_scope, ending}
use Rattle.reach.specs.Named.{no_entry}
use Rattle.reach.specs.Ranges.{Ranged, home_in, home_of}
use Rattle.reach.proofs.Fold.{get_or_map_any}

-- what holds of each place of a list and of the next holds of each of the list with one more
each_more : {X : Type 0} (xs : List X) (x : X) (P : ℕ → Type 0) → ((k : ℕ) → k < length xs → P k) → P (length xs) → (k : ℕ) → k < length (xs ++ (x ∷ [])) → P k
each_more xs x P h p k l = below_more P (length xs) h p k (omega (arith, length_push xs x))

-- a scope more, of an empty range
module _ (ss : List ScopeData) (es : List ScopeEntry) (x : ScopeData) (starts : x.start ≡ length es) (ends : x.end ≡ length es) (r : Ranged ss es) where
  abbrev grown : List ScopeData
  grown = ss ++ (x ∷ [])

  kept : (k : ℕ) → k < length ss → get_or grown k blank_scope ≡ get_or ss k blank_scope
  kept k l = get_or_append_left ss (x ∷ []) blank_scope k l

  home_kept : (q : ℕ) → q < length es → home_in grown es q ≡ home_in ss es q
  home_kept q l = kept (home_of es q - 1) (omega (arith, r.homed q l, r.real q l))

  each_scope : (P : ScopeData → Type 0) → ((k : ℕ) → k < length ss → P (get_or ss k blank_scope)) → P x → (k : ℕ) → k < length grown → P (get_or grown k blank_scope)
  each_scope P h p = each_more ss x (λ k. P (get_or grown k blank_scope)) (λ k l. subst P (sym (kept k l)) (h k l)) (subst P (sym (get_or_push ss x blank_scope (length ss) refl)) p)

  pub made_ranged : Ranged grown es
  made_ranged = record {
    homed = λ q l. omega (arith, r.homed q l, length_push ss x);
    real = r.real;
    after = λ q l. omega (arith, r.after q l, ap (λ d. d.start) (home_kept q l));
    before = λ q l. omega (arith, r.before q l, ap (λ d. d.end) (home_kept q l));
    started = each_scope (λ d. d.start ≤ length es) r.started (omega (arith, starts));
    ended = each_scope (λ d. d.end ≤ length es) r.ended (omega (arith, ends));
    ordered = each_scope (λ d. d.start ≤ d.end) r.ordered (omega (arith, starts, ends));
  }

-- an entry more, and its scope's range up to it
module _ (ss : List ScopeData) (es : List ScopeEntry) (s : ℕ) (e : ScopeEntry) (own : e.scope.0 ≡ s) (there : (0 < s) × (s ≤ length ss)) (r : Ranged ss es) where
  abbrev wide : ScopeData
  wide = ending (length es + 1) (get_or ss (s - 1) blank_scope)

  abbrev ss2 : List ScopeData
  ss2 = set ss (s - 1) wide

  abbrev es2 : List ScopeEntry
  es2 = es ++ (e ∷ [])

  in_them : s - 1 < length ss
  in_them = omega (arith, there)

  old : (q : ℕ) → q < length es → home_of es2 q ≡ home_of es q
  old q h = ap (λ y. y.scope.0) (get_or_append_left es (e ∷ []) no_entry q h)

  new : home_of es2 (length es) ≡ s
  new = ap (λ y. y.scope.0) (get_or_push es e no_entry (length es) refl) ∙ own

  -- the scope of a number after the write: the same start, and an end no lower unless it is this one
  start_same : (j : ℕ) → (get_or ss2 j blank_scope).start ≡ (get_or ss j blank_scope).start
  start_same j = elim (cases_eq j (s - 1)) [
    | inl i ↦ subst (λ y. (get_or ss2 y blank_scope).start ≡ (get_or ss y blank_scope).start) (sym i) (ap (λ y. y.start) (get_or-set_same ss (s - 1) wide blank_scope in_them))
    | inr i ↦ ap (λ y. y.start) (get_or-set_other ss (s - 1) j wide blank_scope i)
  ]

  end_here : (get_or ss2 (s - 1) blank_scope).end ≡ length es + 1
  end_here = ap (λ y. y.end) (get_or-set_same ss (s - 1) wide blank_scope in_them)

  end_other : (j : ℕ) → j ≢ s - 1 → (get_or ss2 j blank_scope).end ≡ (get_or ss j blank_scope).end
  end_other j i = ap (λ y. y.end) (get_or-set_other ss (s - 1) j wide blank_scope i)

  as_many : length ss2 ≡ length ss
  as_many = length-set ss (s - 1) wide

  one_more : length es2 ≡ length es + 1
  one_more = length_push es e

  pub added_ranged : Ranged ss2 es2
  added_ranged = record {
    homed = each_more es e (λ q. home_of es2 q ≤ length ss2) (λ q i. omega (arith, old q i, r.homed q i, as_many)) (omega (arith, new, there, as_many));
    real = each_more es e (λ q. 0 < home_of es2 q) (λ q i. omega (arith, old q i, r.real q i)) (omega (arith, new, there));
    after = each_more es e (λ q. (home_in ss2 es2 q).start ≤ q)
        (λ q i. omega (arith, r.after q i, start_same (home_of es2 q - 1), ap (λ y. (get_or ss (y - 1) blank_scope).start) (old q i)))
        (omega (arith, start_same (home_of es2 (length es) - 1), ap (λ y. (get_or ss (y - 1) blank_scope).start) new, r.started (s - 1) in_them));
    before = each_more es e (λ q. q < (home_in ss2 es2 q).end)
        (λ q i. elim (cases_eq (home_of es2 q - 1) (s - 1)) [
          | inl j ↦ omega (arith, ap (λ y. (get_or ss2 y blank_scope).end) j, end_here)
          | inr j ↦ omega (arith, end_other (home_of es2 q - 1) j, ap (λ y. (get_or ss (y - 1) blank_scope).end) (old q i), r.before q i)
        ])
        (omega (arith, ap (λ y. (get_or ss2 (y - 1) blank_scope).end) new, end_here));
    started = λ j i. omega (arith, r.started j (omega (arith, as_many)), start_same j, one_more);
    ended = λ j i. elim (cases_eq j (s - 1)) [
      | inl o ↦ omega (arith, ap (λ y. (get_or ss2 y blank_scope).end) o, end_here, one_more)
      | inr o ↦ omega (arith, end_other j o, r.ended j (omega (arith, as_many)), one_more)
    ];
    ordered = λ j i. elim (cases_eq j (s - 1)) [
      | inl o ↦ omega (arith, ap (λ y. (get_or ss2 y blank_scope).end) o, end_here, start_same j, r.started j (omega (arith, as_many)))
      | inr o ↦ omega (arith, end_other j o, start_same j, r.ordered j (omega (arith, as_many)))
    ];
  }

-- other names of the entries
pub renamed_ranged : (ss : List ScopeData) (es es2 : List ScopeEntry) → map bare_entry es2 ≡ map bare_entry es → Ranged ss es → Ranged ss es2
renamed_ranged ss es es2 e r =
    let n : length es2 ≡ length es = sym (length-map es2 bare_entry) ∙ (ap length e ∙ length-map es bare_entry) in
    let h : (q : ℕ) → home_of es2 q ≡ home_of es q = λ q. sym (ap (λ x. x.scope.0) (get_or_map_any bare_entry es2 q no_entry)) ∙ (ap (λ xs. (get_or xs q (bare_entry no_entry)).scope.0) e ∙ ap (λ x. x.scope.0) (get_or_map_any bare_entry es q no_entry)) in
    record {
      homed = λ q l. omega (arith, h q, r.homed q (omega (arith, n)));
      real = λ q l. omega (arith, h q, r.real q (omega (arith, n)));
      after = λ q l. omega (arith, ap (λ y. (get_or ss (y - 1) blank_scope).start) (h q), r.after q (omega (arith, n)));
      before = λ q l. omega (arith, ap (λ y. (get_or ss (y - 1) blank_scope).end) (h q), r.before q (omega (arith, n)));
      started = λ k l. omega (arith, n, r.started k l);
      ended = λ k l. omega (arith, n, r.ended k l);
      ordered = r.ordered;
    }
