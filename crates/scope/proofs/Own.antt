-- The entries of one scope among all entries.
use Rattle.std.proofs.Common.{◌≡◌, ℕ, zero, suc, ◌+◌, ◌-◌, ◌<◌, ◌≤◌, ◌==◌, List, [], ◌∷◌, ◌++◌, length, get_or, take, drop, slice_get, Some, None, Option, sym, refl, ap, ◌∙◌, add-one, arith}
use Rattle.std.proofs.lemmas.List.{append-nil, get_or-drop, get_or-take, length-drop, length-take, take-append-drop}
use Rattle.std.proofs.lemmas.List.Elements.{filter-append}
use Rattle.std.proofs.lemmas.Bool.{cond-true, cond-false, eq-eqb, ne_eqb}
use Rattle.format.specs.declared.ids.Name.{Name}
use Rattle.format.specs.declared.ids.ScopeId.{ScopeId}
use Rattle.table.specs.Tables.{found}
use Rattle.reach.specs.declared.data.ScopeEntry.{ScopeEntry}
use Rattle.scope.specs.declared.tables.ExprScopes.{ExprScopes}
use Rattle.reach.specs.Blank.{blank_scope}
use Rattle.reach.specs.Named.{no_entry}
use Rattle.scope.specs.Queries.{IsScope, all_entries, all_scopes, data_of, entries_of, first_named, first_that, named, outward, parent_from}
use Rattle.reach.specs.Ranges.{home_in, home_of}

-- what a filter keeps of a part of a list is all that it keeps of the list, where it keeps nothing of the rest
module _ (h : ℕ) where
  none : (es : List ScopeEntry) → ((j : ℕ) → j < length es → home_of es j ≡ h → ⊥) → entries_of h es ≡ []
  unfolding entries_of
  none [] n = refl
  none (e ∷ es) n = cond-false _ _ _ (ne_eqb e.scope.0 h (n 0 (omega arith))) ∙ none es (λ j l. n (suc j) (omega arith))

  own_append : (es fs : List ScopeEntry) → entries_of h (es ++ fs) ≡ entries_of h es ++ entries_of h fs
  unfolding entries_of
  own_append es fs = filter-append (λ e. e.scope.0 == h) es fs

  pub own_part : (es : List ScopeEntry) (a b : ℕ) → a ≤ b → b ≤ length es → ((j : ℕ) → j < a → home_of es j ≡ h → ⊥) → ((j : ℕ) → b ≤ j → j < length es → home_of es j ≡ h → ⊥) → entries_of h (take (b - a) (drop a es)) ≡ entries_of h es
  own_part es a b o l before after =
      let part = take (b - a) (drop a es) in
      let head : entries_of h (take a es) ≡ [] = none (take a es) (λ j i e.
      let k : j < a = omega (arith, length-take a es) in
      before j k (sym (ap (λ x. x.scope.0) (get_or-take a es j no_entry k)) ∙ e)) in
      let tail : entries_of h (drop (b - a) (drop a es)) ≡ [] = none (drop (b - a) (drop a es)) (λ j i e.
      let k : length (drop (b - a) (drop a es)) ≡ length es - b = omega (arith, length-drop (b - a) (drop a es), length-drop a es) in
      let n : a + (b - a + j) ≡ b + j = omega arith in
      after (b + j) (omega arith) (omega (arith, k)) (ap (home_of es) (sym n) ∙ (sym (ap (λ x. x.scope.0) (get_or-drop (b - a) (drop a es) j no_entry ∙ get_or-drop a es (b - a + j) no_entry)) ∙ e))) in
      let whole : take a es ++ (part ++ drop (b - a) (drop a es)) ≡ es = ap (λ xs. take a es ++ xs) (take-append-drop (b - a) (drop a es)) ∙ take-append-drop a es in
      sym (append-nil (entries_of h part)) ∙ (ap (λ xs. entries_of h part ++ xs) (sym tail) ∙ (sym (own_append part (drop (b - a) (drop a es)))
      ∙ (ap (λ xs. xs ++ entries_of h (part ++ drop (b - a) (drop a es))) (sym head) ∙ (sym (own_append (take a es) (part ++ drop (b - a) (drop a es))) ∙ ap (entries_of h) whole))))

-- a step outward
pub outward_more : (t : ExprScopes) (o : Option ScopeId) (i : ℕ) → outward t o (i + 1) ≡ parent_from t (outward t o i)
unfolding outward
outward_more t o i = rw add-one

-- the first of a name
pub named_none : (n : ℕ) → first_named n [] ≡ None
unfolding first_named
named_none n = refl

pub named_here : (n : ℕ) (e : ScopeEntry) (es : List ScopeEntry) → e.name.0 ≡ n → first_named n (e ∷ es) ≡ Some e
unfolding first_named
named_here n e es h = cond-true _ _ _ (eq-eqb e.name.0 n h)

pub named_other : (n : ℕ) (e : ScopeEntry) (es : List ScopeEntry) → (e.name.0 ≡ n → ⊥) → first_named n (e ∷ es) ≡ first_named n es
unfolding first_named
named_other n e es h = cond-false _ _ _ (ne_eqb e.name.0 n h)

-- a name alone is such a test
pub named_first : (n : Name) (es : List ScopeEntry) → first_that (named n) es ≡ first_named n.0 es
unfolding first_that first_named
named_first n es = refl

pub found_get : {X : Type 0} (xs : List X) (i : ℕ) → found xs i ≡ slice_get xs i
found_get [] i = refl
found_get (x ∷ xs) zero = refl
found_get (x ∷ xs) (suc i) = found_get xs i

-- the entries of a scope lie within its range
module _ (t : ExprScopes) (s : ScopeId) (there : IsScope t s) where
  abbrev es : List ScopeEntry
  es = all_entries t

  range_at : (q : ℕ) → home_of es q ≡ s.0 → home_in (all_scopes t) es q ≡ data_of t s
  range_at q e = ap (λ k. get_or (all_scopes t) (k - 1) blank_scope) e

  -- none stands before its start, and none from its end on
  before : (q : ℕ) → q < length es → q < (data_of t s).start → home_of es q ≡ s.0 → ⊥
  before q l m e = omega (arith, t.tables.ranged.after q l, ap (λ d. d.start) (range_at q e))

  after : (q : ℕ) → q < length es → (data_of t s).end ≤ q → home_of es q ≡ s.0 → ⊥
  after q l m e = omega (arith, t.tables.ranged.before q l, ap (λ d. d.end) (range_at q e))

  pub in_range : entries_of s.0 (take ((data_of t s).end - (data_of t s).start) (drop (data_of t s).start es)) ≡ entries_of s.0 es
  in_range =
      let k : s.0 - 1 < length (all_scopes t) = omega (arith, there) in
      own_part s.0 es (data_of t s).start (data_of t s).end (t.tables.ranged.ordered (s.0 - 1) k) (t.tables.ranged.ended (s.0 - 1) k) (λ j l. before j (omega (arith, l, t.tables.ranged.started (s.0 - 1) k)) l) (λ j g l. after j l g)
