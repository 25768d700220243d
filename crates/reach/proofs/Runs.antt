use Rattle.std.proofs.Common.{◌≡◌, ℕ, suc, ◌+◌, ◌-◌, ◌<◌, ◌≤◌, Bool, true, false, cond, eqb, ◌⊎◌, List, [], ◌∷◌, ◌++◌, map, length, get_or, set, Some, None, sym, refl, ap, ◌∙◌, subst, inl, inr, append_assoc, append-nil, arith}
use Rattle.std.proofs.lemmas.List.{length-append, get_or_append_left, get_or-append_right, get_or-set_same, get_or-set_other, get_or_past, length-set}
use Rattle.std.proofs.lemmas.Bool.{cases_lt, cases_eq, eq-eqb, ne_eqb, cond-true, cond-false}
use Rattle.format.specs.declared.ids.ScopeId.{ScopeId}
use Rattle.format.specs.declared.ids.BindingId.{BindingId}
use Rattle.reach.specs.Bare.{Scope}
use Rattle.reach.specs.Bare.{Entry}
use Rattle.reach.specs.declared.data.ScopeKind.{ScopeKind}
use Rattle.reach.specs.Blank.{no_scope}
use Rattle.reach.specs.Shape.{Shape}
use Rattle.reach.specs.Visit.{State, made, put, added}
use Rattle.reach.specs.Law.{bound, held, holds_none, Sight}
use Rattle.reach.specs.Tables.{is_expr, kind_of}

-- the binds that one meets from scope c outward, where ns has those of each scope
pub data View (rs : List Scope) (ns : List (List ℕ)) : ℕ → List ℕ → Type 0 where
  top : (c : ℕ) → 0 < c → c ≤ length rs → (get_or rs (c - 1) no_scope).parent ≡ None → View rs ns c (get_or ns (c - 1) [])
  up : (c : ℕ) (p : ScopeId) (xs : List ℕ) → 0 < c → c ≤ length rs → (get_or rs (c - 1) no_scope).parent ≡ Some p → View rs ns p.0 xs → View rs ns c (get_or ns (c - 1) [] ++ xs)

pub view_in : (rs : List Scope) (ns : List (List ℕ)) (c : ℕ) (xs : List ℕ) → View rs ns c xs → (0 < c) × (c ≤ length rs)
view_in rs ns c xs (top d h l e) = (h, l)
view_in rs ns c xs (up d p ys h l e v) = (h, l)

pub view_more : (rs : List Scope) (ns : List (List ℕ)) (rt : List Scope) (nt : List (List ℕ)) → length ns ≡ length rs → (c : ℕ) (xs : List ℕ) → View rs ns c xs → View (rs ++ rt) (ns ++ nt) c xs
view_more rs ns rt nt q c xs (top d h l e) =
    let p : d - 1 < length rs = omega arith in
    let p2 : d - 1 < length ns = omega arith in
    let f = get_or_append_left rs rt no_scope (d - 1) p in
    let g = get_or_append_left ns nt [] (d - 1) p2 in
    let l2 : d ≤ length (rs ++ rt) = omega (arith, length-append rs rt) in
    subst (λ ys. View (rs ++ rt) (ns ++ nt) d ys) g (top d h l2 (ap (λ r. r.parent) f ∙ e))
view_more rs ns rt nt q c xs (up d k ys h l e v) =
    let p : d - 1 < length rs = omega arith in
    let p2 : d - 1 < length ns = omega arith in
    let f = get_or_append_left rs rt no_scope (d - 1) p in
    let g = get_or_append_left ns nt [] (d - 1) p2 in
    let l2 : d ≤ length (rs ++ rt) = omega (arith, length-append rs rt) in
    subst (λ zs. View (rs ++ rt) (ns ++ nt) d (zs ++ ys)) g (up d k ys h l2 (ap (λ r. r.parent) f ∙ e) (view_more rs ns rt nt q k.0 ys v))

pub held_append : (h : ℕ) (xs ys : List Entry) → held h (xs ++ ys) ≡ held h xs ++ held h ys
held_append h [] ys = refl
held_append h (x ∷ xs) ys = go (eqb h x.scope.0) (held_append h xs ys)
  where
    go : (t : Bool) → held h (xs ++ ys) ≡ held h xs ++ held h ys → cond t (x.binding ∷ held h (xs ++ ys)) (held h (xs ++ ys)) ≡ cond t (x.binding ∷ held h xs) (held h xs) ++ held h ys
    go true e = ap (λ zs. x.binding ∷ zs) e
    go false e = e

pub none_either : (t : Bool) → cond {A = List BindingId} t [] [] ≡ []
none_either true = refl
none_either false = refl

-- the names are as many as the scopes, and no entry is of a scope still to come
pub record Fair (s : State) (ns : List (List ℕ)) : Type 0 where
  pub level : length ns ≡ length s.scopes
  pub fresh : (h : ℕ) → length s.scopes < h → held h s.entries ≡ []

pub record Stands (b : Shape) (m : ℕ) (s : State) (ns : List (List ℕ)) (e : ℕ) (r : ScopeId) : Type 0 where
  pub expr : is_expr (kind_of b e) ≡ true
  pub names : List ℕ
  pub sight : Sight b m e names
  pub view : View s.scopes ns r.0 names

-- from s to t: entries of the bindings xs to scope c, and new scopes with all their entries
pub record Run (b : Shape) (m : ℕ) (c : ℕ) (xs : List BindingId) (s : State) (ns : List (List ℕ)) (t : State) (nt : List (List ℕ)) : Type 0 where
  pub scopes : List Scope
  pub names : List (List ℕ)
  pub scopes_are : t.scopes ≡ s.scopes ++ scopes
  pub names_are : nt ≡ ns ++ names
  pub before : Fair s ns
  pub fair : Fair t nt
  pub old : (h : ℕ) → h ≤ length s.scopes → held h t.entries ≡ held h s.entries ++ cond (eqb h c) xs []
  pub new : (h : ℕ) → length s.scopes < h → h ≤ length t.scopes → held h t.entries ≡ map (bound b) (get_or nt (h - 1) [])
  pub empty : (h : ℕ) → length s.scopes < h → h ≤ length t.scopes → holds_none (get_or t.scopes (h - 1) no_scope).kind ≡ true → get_or nt (h - 1) [] ≡ []
  pub placed : (e : ℕ) (r : ScopeId) → get_or t.placed e None ≡ Some r → (get_or s.placed e None ≡ Some r) ⊎ Stands b m t nt (suc e) r

pub run_view : {b : Shape} {m c : ℕ} {xs : List BindingId} {s t : State} {ns nt : List (List ℕ)} → Run b m c xs s ns t nt → (d : ℕ) (ys : List ℕ) → View s.scopes ns d ys → View t.scopes nt d ys
run_view {s = s} {t = t} {ns = ns} {nt = nt} r d ys v =
    subst (λ k. View t.scopes k d ys) (sym r.names_are) (subst (λ k. View k (ns ++ r.names) d ys) (sym r.scopes_are) (view_more s.scopes ns r.scopes r.names r.before.level d ys v))

longer : {b : Shape} {m c : ℕ} {xs : List BindingId} {s t : State} {ns nt : List (List ℕ)} → Run b m c xs s ns t nt → length s.scopes ≤ length t.scopes
longer {s = s} r = omega (arith, ap length r.scopes_are, length-append s.scopes r.scopes)

pub run_none : (b : Shape) (m c : ℕ) (s : State) (ns : List (List ℕ)) → Fair s ns → Run b m c [] s ns s ns
run_none b m c s ns f = record {
  scopes = [];
  names = [];
  scopes_are = sym (append-nil s.scopes);
  names_are = sym (append-nil ns);
  before = f;
  fair = f;
  old = λ h l. sym (ap (λ k. held h s.entries ++ k) (none_either (eqb h c)) ∙ append-nil (held h s.entries));
  new = λ h l k. absurd (omega arith);
  empty = λ h l k x. absurd (omega arith);
  placed = λ e r k. inl k;
}

pub run_then : {b : Shape} {m c : ℕ} {xs ys : List BindingId} {s t u : State} {ns nt nu : List (List ℕ)} → c ≤ length s.scopes → Run b m c xs s ns t nt → Run b m c ys t nt u nu → Run b m c (xs ++ ys) s ns u nu
run_then {b} {m} {c} {xs} {ys} {s} {t} {u} {ns} {nt} {nu} lc p q = record {
  scopes = p.scopes ++ q.scopes;
  names = p.names ++ q.names;
  scopes_are = q.scopes_are ∙ ap (λ k. k ++ q.scopes) p.scopes_are ∙ append_assoc s.scopes p.scopes q.scopes;
  names_are = q.names_are ∙ ap (λ k. k ++ q.names) p.names_are ∙ append_assoc ns p.names q.names;
  before = p.before;
  fair = q.fair;
  old = λ h l. q.old h (omega (arith, longer p)) ∙ ap (λ k. k ++ cond (eqb h c) ys []) (p.old h l) ∙ append_assoc (held h s.entries) (cond (eqb h c) xs []) (cond (eqb h c) ys []) ∙ ap (λ k. held h s.entries ++ k) (joint (eqb h c));
  new = λ h l k. elim (cases_lt (length t.scopes) h) [
    | inl g ↦ q.new h g k
    | inr g ↦
        let ne : eqb h c ≡ false = ne_eqb h c (λ e. omega arith) in
        let i : h - 1 < length nt = omega (arith, p.fair.level) in
        let same : get_or nu (h - 1) [] ≡ get_or nt (h - 1) [] = ap (λ k. get_or k (h - 1) []) q.names_are ∙ get_or_append_left nt q.names [] (h - 1) i in
        q.old h g ∙ ap (λ k. held h t.entries ++ k) (cond-false (eqb h c) ys [] ne) ∙ append-nil (held h t.entries) ∙ p.new h l g ∙ ap (map (bound b)) (sym same)
  ];
  empty = λ h l k x. elim (cases_lt (length t.scopes) h) [
    | inl g ↦ q.empty h g k x
    | inr g ↦
        let i : h - 1 < length nt = omega (arith, p.fair.level) in
        let j : h - 1 < length t.scopes = omega arith in
        let same : get_or nu (h - 1) [] ≡ get_or nt (h - 1) [] = ap (λ k. get_or k (h - 1) []) q.names_are ∙ get_or_append_left nt q.names [] (h - 1) i in
        let kept : get_or u.scopes (h - 1) no_scope ≡ get_or t.scopes (h - 1) no_scope = ap (λ k. get_or k (h - 1) no_scope) q.scopes_are ∙ get_or_append_left t.scopes q.scopes no_scope (h - 1) j in
        same ∙ p.empty h l g (sym (ap (λ z. holds_none z.kind) kept) ∙ x)
  ];
  placed = λ e r k. elim (q.placed e r k) [
    | inl g ↦ elim (p.placed e r g) [
      | inl f ↦ inl f
      | inr f ↦ inr (record { expr = f.expr; names = f.names; sight = f.sight; view = run_view q r.0 f.names f.view })
    ]
    | inr g ↦ inr g
  ];
}
  where
    joint : (z : Bool) → cond z xs [] ++ cond z ys [] ≡ cond z (xs ++ ys) []
    joint true = refl
    joint false = refl

-- a run that gives its scope no entry is one at any scope
pub run_at : {b : Shape} {m c : ℕ} {s t : State} {ns nt : List (List ℕ)} (d : ℕ) → Run b m c [] s ns t nt → Run b m d [] s ns t nt
run_at {b} {m} {c} {s} {t} {ns} {nt} d r = record {
  scopes = r.scopes;
  names = r.names;
  scopes_are = r.scopes_are;
  names_are = r.names_are;
  before = r.before;
  fair = r.fair;
  old = λ h l. r.old h l ∙ ap (λ k. held h s.entries ++ k) (none_either (eqb h c) ∙ sym (none_either (eqb h d)));
  new = r.new;
  empty = r.empty;
  placed = r.placed;
}

pub run_put : (b : Shape) (m c n : ℕ) (p : ScopeId) (s : State) (ns : List (List ℕ)) (xs : List ℕ) → 0 < n → is_expr (kind_of b n) ≡ true → Fair s ns → Sight b m n xs → View s.scopes ns p.0 xs → Run b m c [] s ns (put n p s) ns
unfolding put
run_put b m c n p s ns xs z x f g v = record {
  scopes = [];
  names = [];
  scopes_are = sym (append-nil s.scopes);
  names_are = sym (append-nil ns);
  before = f;
  fair = record { level = f.level; fresh = f.fresh };
  old = λ h l. sym (ap (λ k. held h s.entries ++ k) (none_either (eqb h c)) ∙ append-nil (held h s.entries));
  new = λ h l k. absurd (omega arith);
  empty = λ h l k x. absurd (omega arith);
  placed = λ e r k. elim (cases_eq e (n - 1)) [
    | inl q ↦ elim (cases_lt e (length s.placed)) [
      | inl l ↦
          let one : suc e ≡ n = omega arith in
          let hit : get_or (set s.placed (n - 1) (Some p)) e None ≡ Some p = ap (λ j. get_or (set s.placed j (Some p)) e None) (sym q) ∙ get_or-set_same s.placed e (Some p) None l in
          let same : p ≡ r = cc in
          inr (record { expr = subst (λ j. is_expr (kind_of b j) ≡ true) (sym one) x; names = xs; sight = subst (λ j. Sight b m j xs) (sym one) g; view = subst (λ j. View s.scopes ns j.0 xs) same v })
      | inr l ↦
          let past : get_or (set s.placed (n - 1) (Some p)) e None ≡ None = get_or_past (set s.placed (n - 1) (Some p)) e None (omega (arith, length-set s.placed (n - 1) (Some p))) in
          inl (cc)
    ]
    | inr q ↦ inl (sym (get_or-set_other s.placed (n - 1) e (Some p) None q) ∙ k)
  ];
}

pub run_added : (b : Shape) (m : ℕ) (v : BindingId) (p : ScopeId) (s : State) (ns : List (List ℕ)) → p.0 ≤ length s.scopes → Fair s ns → Run b m p.0 (v ∷ []) s ns (added v p s) ns
unfolding added
run_added b m v p s ns z f = record {
  scopes = [];
  names = [];
  scopes_are = sym (append-nil s.scopes);
  names_are = sym (append-nil ns);
  before = f;
  fair = record { level = f.level; fresh = λ h l. held_append h s.entries (record { scope = p; binding = v } ∷ []) ∙ ap (λ k. k ++ cond (eqb h p.0) (v ∷ []) []) (f.fresh h l) ∙ cond-false (eqb h p.0) (v ∷ []) [] (ne_eqb h p.0 (λ e. omega arith)) };
  old = λ h l. held_append h s.entries (record { scope = p; binding = v } ∷ []);
  new = λ h l k. absurd (omega arith);
  empty = λ h l k x. absurd (omega arith);
  placed = λ e r k. inl k;
}

-- a scope made with the names ys, which what follows gives it
pub run_made : {b : Shape} {m : ℕ} (c : ℕ) (k : ScopeKind) (p : ScopeId) (s : State) (ns : List (List ℕ)) (ys : List ℕ) {t : State} {nt : List (List ℕ)} → (holds_none k ≡ true → ys ≡ []) → Fair s ns → Run b m (length s.scopes + 1) (map (bound b) ys) (made k p s).0 (ns ++ (ys ∷ [])) t nt → Run b m c [] s ns t nt
unfolding made
run_made {b} {m} c k p s ns ys {t} {nt} quiet f r = record {
  scopes = (record { parent = Some p; kind = k } ∷ []) ++ r.scopes;
  names = (ys ∷ []) ++ r.names;
  scopes_are = r.scopes_are ∙ append_assoc s.scopes (record { parent = Some p; kind = k } ∷ []) r.scopes;
  names_are = r.names_are ∙ append_assoc ns (ys ∷ []) r.names;
  before = f;
  fair = r.fair;
  old = λ h l.
      let ne : eqb h (length s.scopes + 1) ≡ false = ne_eqb h (length s.scopes + 1) (λ e. omega arith) in
      r.old h (omega (arith, one)) ∙ ap (λ j. held h s.entries ++ j) (cond-false (eqb h (length s.scopes + 1)) (map (bound b) ys) [] ne ∙ sym (none_either (eqb h c)));
  new = λ h l j. elim (cases_eq h (length s.scopes + 1)) [
    | inl e ↦
        let yes2 : eqb h (length s.scopes + 1) ≡ true = eq-eqb h (length s.scopes + 1) e in
        let a : h - 1 < length (ns ++ (ys ∷ [])) = omega (arith, length-append ns (ys ∷ []), f.level) in
        let zz : h - 1 - length ns ≡ 0 = omega (arith, f.level) in
        let g : get_or nt (h - 1) [] ≡ ys = ap (λ z. get_or z (h - 1) []) r.names_are ∙ get_or_append_left (ns ++ (ys ∷ [])) r.names [] (h - 1) a ∙ get_or-append_right ns (ys ∷ []) (length ns) (h - 1) [] refl (omega (arith, f.level)) ∙ ap (λ z. get_or (ys ∷ []) z []) zz in
        r.old h (omega (arith, one)) ∙ ap (λ z. z ++ cond (eqb h (length s.scopes + 1)) (map (bound b) ys) []) (f.fresh h l) ∙ cond-true (eqb h (length s.scopes + 1)) (map (bound b) ys) [] yes2 ∙ ap (map (bound b)) (sym g)
    | inr e ↦ r.new h (omega (arith, one, e)) j
  ];
  empty = λ h l j x. elim (cases_eq h (length s.scopes + 1)) [
    | inl e ↦
        let n : Scope = record { parent = Some p; kind = k } in
        let a : h - 1 < length (ns ++ (ys ∷ [])) = omega (arith, length-append ns (ys ∷ []), f.level) in
        let zz : h - 1 - length ns ≡ 0 = omega (arith, f.level) in
        let g : get_or nt (h - 1) [] ≡ ys = ap (λ z. get_or z (h - 1) []) r.names_are ∙ get_or_append_left (ns ++ (ys ∷ [])) r.names [] (h - 1) a ∙ get_or-append_right ns (ys ∷ []) (length ns) (h - 1) [] refl (omega (arith, f.level)) ∙ ap (λ z. get_or (ys ∷ []) z []) zz in
        let i : h - 1 < length (s.scopes ++ (n ∷ [])) = omega (arith, one) in
        let ww : h - 1 - length s.scopes ≡ 0 = omega arith in
        let kind : get_or t.scopes (h - 1) no_scope ≡ n = ap (λ z. get_or z (h - 1) no_scope) r.scopes_are ∙ get_or_append_left (s.scopes ++ (n ∷ [])) r.scopes no_scope (h - 1) i ∙ get_or-append_right s.scopes (n ∷ []) (length s.scopes) (h - 1) no_scope refl (omega arith) ∙ ap (λ z. get_or (n ∷ []) z no_scope) ww in
        g ∙ quiet (sym (ap (λ z. holds_none z.kind) kind) ∙ x)
    | inr e ↦ r.empty h (omega (arith, one, e)) j x
  ];
  placed = r.placed;
}
  where
    one : length (s.scopes ++ (record { parent = Some p; kind = k } ∷ [])) ≡ length s.scopes + 1
    one = length-append s.scopes (record { parent = Some p; kind = k } ∷ [])

-- what a new scope leaves fair, and what one meets from it
pub made_fair : (k : ScopeKind) (p : ScopeId) (s : State) (ns : List (List ℕ)) (ys : List ℕ) → Fair s ns → Fair (made k p s).0 (ns ++ (ys ∷ []))
unfolding made
made_fair k p s ns ys f = record {
  level = length-append ns (ys ∷ []) ∙ ap (λ z. z + 1) f.level ∙ sym (length-append s.scopes (record { parent = Some p; kind = k } ∷ []));
  fresh = λ h l. f.fresh h (omega (arith, length-append s.scopes (record { parent = Some p; kind = k } ∷ [])));
}

pub made_kept : (k : ScopeKind) (p : ScopeId) (s : State) (ns : List (List ℕ)) (ys : List ℕ) → Fair s ns → (c : ℕ) (xs : List ℕ) → View s.scopes ns c xs → View (made k p s).0.scopes (ns ++ (ys ∷ [])) c xs
unfolding made
made_kept k p s ns ys f c xs v = view_more s.scopes ns (record { parent = Some p; kind = k } ∷ []) (ys ∷ []) f.level c xs v

pub made_view : (k : ScopeKind) (p : ScopeId) (s : State) (ns : List (List ℕ)) (ys : List ℕ) → Fair s ns → (xs : List ℕ) → View s.scopes ns p.0 xs → View (made k p s).0.scopes (ns ++ (ys ∷ [])) (length s.scopes + 1) (ys ++ xs)
unfolding made
made_view k p s ns ys f xs v =
    let n : Scope = record { parent = Some p; kind = k } in
    let q = length s.scopes in
    let len = length-append s.scopes (n ∷ []) in
    let j : q + 1 - 1 ≡ q = omega arith in
    let zz : q - q ≡ 0 = omega arith in
    let a : get_or (s.scopes ++ (n ∷ [])) (q + 1 - 1) no_scope ≡ n = ap (λ z. get_or (s.scopes ++ (n ∷ [])) z no_scope) j ∙ get_or-append_right s.scopes (n ∷ []) q q no_scope refl (omega arith) ∙ ap (λ z. get_or (n ∷ []) z no_scope) zz in
    let ww : q - length ns ≡ 0 = omega (arith, f.level) in
    let g : get_or (ns ++ (ys ∷ [])) (q + 1 - 1) [] ≡ ys = ap (λ z. get_or (ns ++ (ys ∷ [])) z []) j ∙ get_or-append_right ns (ys ∷ []) (length ns) q [] refl (omega (arith, f.level)) ∙ ap (λ z. get_or (ys ∷ []) z []) ww in
    subst (λ z. View (s.scopes ++ (n ∷ [])) (ns ++ (ys ∷ [])) (q + 1) (z ++ xs)) g (up (q + 1) p xs (omega arith) (omega (arith, len)) (ap (λ r. r.parent) a) (view_more s.scopes ns (n ∷ []) (ys ∷ []) f.level p.0 xs v))
