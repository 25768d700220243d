-- The rules and the definition of a look-up agree.
use Rattle.std.proofs.Common.{◌≡◌, ℕ, zero, suc, ◌-◌, ◌≤◌, ◌⊎◌, length, Some, None, Option, unwrap_or, sym, refl, ap, ◌∙◌, subst, inl, inr, arith}
use Rattle.std.proofs.lemmas.Bool.{cases_eq, cases_lt, cond-true, cond-false, eq-eqb, ne_eqb}
use Rattle.std.specs.Option.{option_map}
use Rattle.format.specs.declared.ids.Name.{Name}
use Rattle.format.specs.declared.ids.ScopeId.{ScopeId}
use Rattle.host.specs.First.{or_else}
use Rattle.host.specs.Meaning.{ItemTables, ExpansionTables}
use Rattle.host.specs.declared.item.Item.{Item}
use Rattle.host.specs.declared.item.Outer.{Outer}
use Rattle.reach.specs.Blank.{parent_of}
use Rattle.reach.specs.declared.data.ScopeKind.{ScopeKind}
use Rattle.reach.specs.declared.data.ScopeKind.TheVariants as K
use Rattle.resolve.specs.declared.context.Context.{Context}
use Rattle.resolve.specs.declared.resolution.Resolution.{Resolution}
use Rattle.resolve.specs.declared.resolution.Resolution.TheVariants as R
use Rattle.resolve.specs.Outward.{Surroundings, called_in, crossed, in_block, item_in, local_among, passed, scope_answer, scope_at}
use Rattle.resolve.specs.Hits.{Stands, NoEntry, HasItem, NoItem, Defines, Finds, local, item, past_definition, onward, left, MeansOne, ParentsBelow}
use Rattle.resolve.proofs.Along.{from, from_scope, from_end}
use Rattle.resolve.proofs.Frames.{never, outside_by_rules, rules_outside}
use Rattle.resolve.proofs.Scans.{none_answers, one_answers, no_local, the_local}

module _ (W : ItemTables) (X : ExpansionTables) (T : Surroundings) (n : Name) (s : ScopeId) where
  abbrev kind : ScopeKind
  kind = (scope_at T s).kind

  -- a scope has an item, or has none
  pub record ItemThere : Type 0 where
    pub found : Item
    pub has : HasItem W T s n found
    pub is : item_in W kind n ≡ Some (R.Item found)

  pub record ItemAbsent : Type 0 where
    pub has_none : NoItem W T s n
    pub is : item_in W kind n ≡ None

  pub item_cases : ItemThere ⊎ ItemAbsent
  item_cases = of kind refl
    where
      other : (k : ScopeKind) → kind ≡ k → ((b : _) (l : _) → k ≡ K.Block b l → ⊥) → item_in W k n ≡ None → ItemThere ⊎ ItemAbsent
      other k e z q = inr record { has_none = λ i h. z h.block h.label (sym e ∙ h.of_block); is = ap (λ y. item_in W y n) e ∙ q }

      in_the_block : (b : _) (l : _) → kind ≡ K.Block b l → (o : Option Item) → W.items (in_block b) n ≡ o → ItemThere ⊎ ItemAbsent
      in_the_block b l e (Some i) q = inl record { found = i; has = record { block = b; label = l; of_block = e; item = q }; is = ap (λ y. item_in W y n) e ∙ ap (option_map R.Item) q }
      in_the_block b l e None q = inr record {
        has_none = λ i h.
            let same : b ≡ h.block = (let w : K.Block b l ≡ K.Block h.block h.label = sym e ∙ h.of_block in cc) in
            never i _ (sym (ap (λ y. W.items (in_block y) n) same) ∙ q) h.item;
        is = ap (λ y. item_in W y n) e ∙ ap (option_map R.Item) q;
      }

      of : (k : ScopeKind) → kind ≡ k → ItemThere ⊎ ItemAbsent
      of K.Plain e = other K.Plain e (λ b l z. cc) refl
      of (K.Block b l) e = in_the_block b l e (W.items (in_block b) n) refl
      of (K.Label y) e = other (K.Label y) e (λ b l z. cc) refl
      of (K.MacroDef m) e = other (K.MacroDef m) e (λ b l z. cc) refl

  -- a scope is the definition of the macro that the hygiene came from, or it is not
  module _ (x : Context) where
    pub record Passing : Type 0 where
      pub by : Outer
      pub defines : Defines T s x by
      pub is : crossed X kind x ≡ called_in X by

    pub record Staying : Type 0 where
      pub defines_none : (o : Outer) → Defines T s x o → ⊥
      pub is : crossed X kind x ≡ x

    pub cross_cases : Passing ⊎ Staying
    cross_cases = of kind refl
      where
        other : (k : ScopeKind) → kind ≡ k → ((m : _) → k ≡ K.MacroDef m → ⊥) → crossed X k x ≡ x → Passing ⊎ Staying
        other k e z q = inr record { defines_none = λ o d. z o.by (sym e ∙ d.of_macro); is = ap (λ y. crossed X y x) e ∙ q }

        at_macro : (m : _) → kind ≡ K.MacroDef m → (o : Option Outer) → x.outer ≡ o → Passing ⊎ Staying
        at_macro m e None q = inr record { defines_none = λ o d. never o _ q d.comes_from; is = ap (λ y. crossed X y x) e ∙ ap (passed X m x) q }
        at_macro m e (Some o) q =
            elim (cases_eq o.by.0 m.0) [
              | inl same ↦ inl record { by = o; defines = record { comes_from = q; of_macro = e ∙ ap (λ k. K.MacroDef (record { 0 = k })) (sym same) }; is = ap (λ y. crossed X y x) e ∙ (ap (passed X m x) q ∙ cond-true _ _ _ (eq-eqb _ _ same)) }
              | inr differs ↦ inr record {
                defines_none = λ p d.
                    let po : o ≡ p = (let w = d.comes_from in cc) in
                    let pm : m ≡ p.by = (let w : K.MacroDef m ≡ K.MacroDef p.by = sym e ∙ d.of_macro in cc) in
                    differs (ap (λ y. y.by.0) po ∙ sym (ap (λ y. y.0) pm));
                is = ap (λ y. crossed X y x) e ∙ (ap (passed X m x) q ∙ cond-false _ _ _ (ne_eqb _ _ differs));
              }
            ]

        of : (k : ScopeKind) → kind ≡ k → Passing ⊎ Staying
        of K.Plain e = other K.Plain e (λ m z. cc) refl
        of (K.Block b l) e = other (K.Block b l) e (λ m z. cc) refl
        of (K.Label y) e = other (K.Label y) e (λ m z. cc) refl
        of (K.MacroDef m) e = at_macro m e x.outer refl

module _ (W : ItemTables) (X : ExpansionTables) (T : Surroundings) (n : Name) where
  abbrev FoundBy : Option ScopeId → Context → Resolution → Type 0
  FoundBy = Finds W X T n

  -- a definition's scope is no block's, so it has no item
  no_item_there : (s : ScopeId) (x : Context) (o : Outer) → Defines T s x o → item_in W (scope_at T s).kind n ≡ None
  no_item_there s x o d = ap (λ k. item_in W k n) d.of_macro

  absent : (s : ScopeId) → NoItem W T s n → item_in W (scope_at T s).kind n ≡ None
  absent s q = elim (item_cases W X T n s) [ inl p ↦ absurd (q p.found p.has) | inr p ↦ p.is ]

  crosses : (s : ScopeId) (x : Context) (o : Outer) → Defines T s x o → crossed X (scope_at T s).kind x ≡ called_in X o
  crosses s x o d =
      elim (cross_cases W X T n s x) [
        | inl p ↦ (let same : p.by ≡ o = (let w = p.defines.comes_from in let v = d.comes_from in cc) in p.is ∙ ap (called_in X) same)
        | inr p ↦ absurd (p.defines_none o d)
      ]

  stays : (s : ScopeId) (x : Context) → ((o : Outer) → Defines T s x o → ⊥) → crossed X (scope_at T s).kind x ≡ x
  stays s x c = elim (cross_cases W X T n s x) [ inl p ↦ absurd (c p.by p.defines) | inr p ↦ p.is ]

  -- what is found beyond scope s
  abbrev beyond : ScopeId → Context → Resolution
  beyond s x = from W X T n (scope_at T s).parent (crossed X (scope_at T s).kind x)

  -- from one scope, where what its parent gives is found by the rules
  one_scope : (s : ScopeId) (x : Context) → Stands T s → ((y : Context) → FoundBy (scope_at T s).parent y (from W X T n (scope_at T s).parent y)) →
      FoundBy (Some s) x (unwrap_or (scope_answer W (scope_at T s).kind T.entries n x.hygiene s) (from W X T n (scope_at T s).parent (crossed X (scope_at T s).kind x)))
  one_scope s x h up = of (local_among T.entries n x.hygiene s) refl
    where
      go : NoEntry T s n x.hygiene → NoItem W T s n → FoundBy (Some s) x (beyond s x)
      go z q =
          elim (cross_cases W X T n s x) [
            | inl p ↦ past_definition x s p.by (beyond s x) h z p.defines (subst (λ y. FoundBy (scope_at T s).parent y (beyond s x)) p.is (up (crossed X (scope_at T s).kind x)))
            | inr p ↦ onward x s (beyond s x) h z q p.defines_none (subst (λ y. FoundBy (scope_at T s).parent y (beyond s x)) p.is (up (crossed X (scope_at T s).kind x)))
          ]

      of : (o : Option Resolution) → local_among T.entries n x.hygiene s ≡ o → FoundBy (Some s) x (unwrap_or (or_else o (item_in W (scope_at T s).kind n)) (beyond s x))
      of (Some r) e = let w = one_answers T s n x.hygiene r e in subst (FoundBy (Some s) x) (sym w.is) (local x s w.binding h w.entry)
      of None e =
          let z = none_answers T s n x.hygiene e in
          elim (item_cases W X T n s) [
            | inl p ↦ subst (λ o. FoundBy (Some s) x (unwrap_or o (beyond s x))) (sym p.is) (item x s p.found h z p.has)
            | inr p ↦ subst (λ o. FoundBy (Some s) x (unwrap_or o (beyond s x))) (sym p.is) (go z p.has_none)
          ]

  at_end : (o : Option ScopeId) (x : Context) → (Stands T (record { 0 = parent_of o }) → ⊥) → FoundBy o x (from W X T n o x)
  at_end o x z = subst (FoundBy o x) (from_end W X T n o x z) (left o x _ z (outside_by_rules W n T.frames))

  module _ (b : ParentsBelow T) where
    -- what is defined to be found is found by the rules
    by_rules : (k : ℕ) (o : Option ScopeId) (x : Context) → parent_of o ≤ k → FoundBy o x (from W X T n o x)
    by_rules k None x h = at_end None x (λ w. omega (arith, w))
    by_rules zero (Some s) x h = at_end (Some s) x (λ w. omega (arith, w))
    by_rules (suc k) (Some s) x h =
        elim (cases_eq s.0 0) [
          | inl z ↦ at_end (Some s) x (λ w. omega (arith, w))
          | inr z ↦
              elim (cases_lt (length T.scopes) s.0) [
                | inl l ↦ at_end (Some s) x (λ w. omega (arith, w))
                | inr l ↦
                    let st : Stands T s = (omega arith, omega arith) in
                    let lo : parent_of (scope_at T s).parent ≤ k = omega (arith, b (s.0 - 1) (omega arith)) in
                    subst (FoundBy (Some s) x) (sym (from_scope W X T n b s x st)) (one_scope s x st (λ y. by_rules k (scope_at T s).parent y lo))
              ]
        ]

    pub found_by_rules : (o : Option ScopeId) (x : Context) → FoundBy o x (from W X T n o x)
    found_by_rules o x = by_rules (parent_of o) o x (omega arith)

    -- and what the rules find is what is defined
    answer_none : (s : ScopeId) (x : Context) → NoEntry T s n x.hygiene → item_in W (scope_at T s).kind n ≡ None → scope_answer W (scope_at T s).kind T.entries n x.hygiene s ≡ None
    answer_none s x z e = ap (λ o. or_else o (item_in W (scope_at T s).kind n)) (no_local T s n x.hygiene z) ∙ e

    from_is : (s : ScopeId) (x : Context) (o : Option Resolution) → Stands T s → scope_answer W (scope_at T s).kind T.entries n x.hygiene s ≡ o → from W X T n (Some s) x ≡ unwrap_or o (from W X T n (scope_at T s).parent (crossed X (scope_at T s).kind x))
    from_is s x o h e = from_scope W X T n b s x h ∙ ap (λ y. unwrap_or y (from W X T n (scope_at T s).parent (crossed X (scope_at T s).kind x))) e

    pub rules_agree : {o : Option ScopeId} {x : Context} {r : Resolution} → FoundBy o x r → from W X T n o x ≡ r
    rules_agree (local x s v h f) = from_is s x (Some (R.Local v)) h (ap (λ o. or_else o (item_in W (scope_at T s).kind n)) (the_local T s n x.hygiene v f))
    rules_agree (item x s i h z q) =
        from_is s x (Some (R.Item i)) h (ap (λ o. or_else o (item_in W (scope_at T s).kind n)) (no_local T s n x.hygiene z) ∙ (ap (λ k. item_in W k n) q.of_block ∙ ap (option_map R.Item) q.item))
    rules_agree (past_definition x s o r h z d f) =
        from_is s x None h (answer_none s x z (no_item_there s x o d)) ∙ (ap (from W X T n (scope_at T s).parent) (crosses s x o d) ∙ rules_agree f)
    rules_agree (onward x s r h z q c f) =
        from_is s x None h (answer_none s x z (absent s q)) ∙ (ap (from W X T n (scope_at T s).parent) (stays s x c) ∙ rules_agree f)
    rules_agree (left o x r z f) = sym (from_end W X T n o x z) ∙ rules_outside W n T.frames f

pub means_one : MeansOne
means_one W X T n p x r q b f g = sym (rules_agree W X T n b f) ∙ rules_agree W X T n b g
