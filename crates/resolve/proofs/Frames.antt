-- What the frames and the module give: the rules and the definition agree.
use Rattle.std.proofs.Common.{◌≡◌, ℕ, zero, suc, ◌-◌, ◌<◌, ◌≤◌, List, reverse, length, get_or, take, Some, None, Option, unwrap_or, sym, refl, ap, ◌∙◌, subst, inl, inr, arith}
use Rattle.std.proofs.lemmas.List.{take_all}
use Rattle.std.proofs.lemmas.Bool.{cases_eq, cases_lt, cond-true, cond-false, eq-eqb, ne_eqb}
use Rattle.std.specs.Option.{option_map}
use Rattle.format.specs.declared.ids.Name.{Name}
use Rattle.host.specs.First.{first, or_else}
use Rattle.host.specs.Meaning.{ItemTables}
use Rattle.host.specs.declared.item.Item.{Item}
use Rattle.host.proofs.First.{back_step}
use Rattle.sheet.specs.declared.node.Frame.{Frame}
use Rattle.sheet.specs.declared.node.Frame.TheVariants as F
use Rattle.resolve.specs.declared.resolution.Resolution.{Resolution}
use Rattle.resolve.specs.declared.resolution.Resolution.TheVariants as R
use Rattle.resolve.specs.Outward.{frame_answer, in_block, in_module, item_at, no_frame, outside}
use Rattle.resolve.specs.Hits.{Gives, impl_itself, impl_parameter, parameter, block_item, SilentFrom, Outside, in_frame, in_the_module, nowhere}

pub never : {A Y : Type 0} (y : Y) (o : Option Y) → o ≡ None → o ≡ Some y → A
never y o p q = absurd cc

-- the last of a list's first m that answers
module _ {X Y : Type 0} (f : X → Option Y) (d : X) (xs : List X) where
  abbrev back : ℕ → Option Y
  back m = first f (reverse (take m xs))

  back_more : (m : ℕ) → m < length xs → back (suc m) ≡ or_else (f (get_or xs m d)) (back m)
  back_more m l =
      let z : suc m - 1 ≡ m = omega arith in
      back_step f xs (suc m) d (omega arith) (omega arith) ∙ ap (λ k. or_else (f (get_or xs k d)) (back k)) z

  pub record LastHit (m : ℕ) (y : Y) : Type 0 where
    pub place : ℕ
    pub there : place < m
    pub gives : f (get_or xs place d) ≡ Some y
    pub none_after : (j : ℕ) → place < j → j < m → f (get_or xs j d) ≡ None

  some_step : (m : ℕ) (y : Y) (o : Option Y) → f (get_or xs m d) ≡ o → or_else o (back m) ≡ Some y → (back m ≡ Some y → LastHit m y) → LastHit (suc m) y
  some_step m y (Some z) q w up = record { place = m; there = omega arith; gives = q ∙ w; none_after = λ j g h. absurd (omega arith) }
  some_step m y None q w up =
      let r = up w in
      record {
        place = r.place;
        there = omega (arith, r.there);
        gives = r.gives;
        none_after = λ j g h. elim (cases_eq j m) [ inl same ↦ ap (λ k. f (get_or xs k d)) same ∙ q | inr other ↦ r.none_after j g (omega arith) ];
      }

  pub back_some : (m : ℕ) (y : Y) → m ≤ length xs → back m ≡ Some y → LastHit m y
  back_some zero y l e = never y None refl e
  back_some (suc m) y l e = some_step m y (f (get_or xs m d)) refl (sym (back_more m (omega arith)) ∙ e) (back_some m y (omega arith))

  none_step : (m : ℕ) (o : Option Y) → f (get_or xs m d) ≡ o → or_else o (back m) ≡ None → (back m ≡ None → (j : ℕ) → j < m → f (get_or xs j d) ≡ None) → (j : ℕ) → j < suc m → f (get_or xs j d) ≡ None
  none_step m (Some z) q w up j h = never z (Some z) w refl
  none_step m None q w up j h = elim (cases_eq j m) [ inl same ↦ ap (λ k. f (get_or xs k d)) same ∙ q | inr other ↦ up w j (omega arith) ]

  pub back_none : (m : ℕ) → m ≤ length xs → back m ≡ None → (j : ℕ) → j < m → f (get_or xs j d) ≡ None
  back_none zero l e j h = absurd (omega arith)
  back_none (suc m) l e j h = none_step m (f (get_or xs m d)) refl (sym (back_more m (omega arith)) ∙ e) (back_none m (omega arith)) j h

  -- the same the other way
  same_hit : (m : ℕ) (y z : Y) → LastHit m y → LastHit m z → z ≡ y
  same_hit m y z h r =
      elim (cases_eq r.place h.place) [
        | inl same ↦ (let e = r.gives in let g = h.gives in let w = ap (λ k. f (get_or xs k d)) same in cc)
        | inr other ↦
            elim (cases_lt r.place h.place) [
              | inl l ↦ never y _ (r.none_after h.place l h.there) h.gives
              | inr l ↦ never z _ (h.none_after r.place (omega arith) r.there) r.gives
            ]
      ]

  pub back_is : (m : ℕ) (y : Y) → m ≤ length xs → LastHit m y → back m ≡ Some y
  back_is m y l h = of (back m) refl
    where
      of : (o : Option Y) → back m ≡ o → o ≡ Some y
      of None e = never y _ (back_none m l e h.place h.there) h.gives
      of (Some z) e = ap Some (same_hit m y z h (back_some m z l e))

  pub back_is_none : (m : ℕ) → m ≤ length xs → ((j : ℕ) → j < m → f (get_or xs j d) ≡ None) → back m ≡ None
  back_is_none m l n = of (back m) refl
    where
      of : (o : Option Y) → back m ≡ o → o ≡ None
      of None e = refl
      of (Some z) e = let r = back_some m z l e in never z _ (n r.place r.there) r.gives

-- the innermost of the frames that are left is asked, and then those further out
pub frames_step : (W : ItemTables) (n : Name) (fs : List Frame) (i : ℕ) → 0 < i → i ≤ length fs →
    first (frame_answer W n) (reverse (take i fs)) ≡ or_else (frame_answer W n (get_or fs (i - 1) no_frame)) (first (frame_answer W n) (reverse (take (i - 1) fs)))
frames_step W n fs i p h = back_step (frame_answer W n) fs i no_frame p h

module _ (W : ItemTables) (n : Name) where
  -- what a host has is what it is found to mean
  mapped_is : {Y : Type 0} (g : Y → Resolution) (o : Option Y) (r : Resolution) → option_map g o ≡ Some r → (y : Y) × (o ≡ Some y) × (g y ≡ r)
  mapped_is g None r e = never r None refl e
  mapped_is g (Some y) r e = (y, refl, cc)

  -- a frame gives what it answers
  pub gives : (f : Frame) (r : Resolution) → frame_answer W n f ≡ Some r → Gives W n f r
  gives (F.ImplGenerics o) r e =
      elim (cases_eq n.0 2) [
        | inl z ↦ (let w : R.ImplSelf o ≡ r = (let q : Some (R.ImplSelf o) ≡ Some r = sym (cond-true _ _ _ (eq-eqb _ _ z)) ∙ e in cc) in subst (λ x. Gives W n (F.ImplGenerics o) x) w (impl_itself o z))
        | inr z ↦ (let w = mapped_is R.ConstParam (W.const_params o n) r (sym (cond-false _ _ _ (ne_eqb _ _ z)) ∙ e) in subst (λ x. Gives W n (F.ImplGenerics o) x) w.2 (impl_parameter o w.0 z w.1))
      ]
  gives (F.Generics o) r e = let w = mapped_is R.ConstParam (W.const_params o n) r e in subst (λ x. Gives W n (F.Generics o) x) w.2 (parameter o w.0 w.1)
  gives (F.Block b) r e = let w = mapped_is R.Item (W.items (in_block b) n) r e in subst (λ x. Gives W n (F.Block b) x) w.2 (block_item b w.0 w.1)

  pub answers : {f : Frame} {r : Resolution} → Gives W n f r → frame_answer W n f ≡ Some r
  answers (impl_itself o z) = cond-true _ _ _ (eq-eqb _ _ z)
  answers (impl_parameter o p z e) = cond-false _ _ _ (ne_eqb _ _ z) ∙ ap (option_map R.ConstParam) e
  answers (parameter o p e) = ap (option_map R.ConstParam) e
  answers (block_item b i e) = ap (option_map R.Item) e

  silent : (f : Frame) → frame_answer W n f ≡ None → (r : Resolution) → Gives W n f r → ⊥
  silent f e r g = never r _ e (answers g)

  is_silent : (f : Frame) → ((r : Resolution) → Gives W n f r → ⊥) → frame_answer W n f ≡ None
  is_silent f z = of (frame_answer W n f) refl
    where
      of : (o : Option Resolution) → frame_answer W n f ≡ o → o ≡ None
      of None e = refl
      of (Some r) e = absurd (z r (gives f r e))

  module _ (fs : List Frame) where
    abbrev in_frames : Option Resolution
    in_frames = first (frame_answer W n) (reverse fs)

    all : back (frame_answer W n) no_frame fs (length fs) ≡ in_frames
    all = ap (λ l. first (frame_answer W n) (reverse l)) (take_all (length fs) fs (omega arith))

    -- what is defined to be found outside is found there by the rules
    pub outside_by_rules : Outside W fs n (outside W fs n)
    outside_by_rules = of in_frames refl
      where
        in_place : (o : Option Item) → W.items in_module n ≡ o → SilentFrom W fs n 0 → Outside W fs n (unwrap_or (option_map R.Item o) R.Unfound)
        in_place None q z = nowhere z q
        in_place (Some i) q z = in_the_module i z q

        of : (o : Option Resolution) → in_frames ≡ o → Outside W fs n (unwrap_or (or_else o (item_at W in_module n)) R.Unfound)
        of (Some r) e =
            let h = back_some (frame_answer W n) no_frame fs (length fs) r (omega arith) (all ∙ e) in
            in_frame h.place r h.there (gives (get_or fs h.place no_frame) r h.gives) (λ j g l. silent (get_or fs j no_frame) (h.none_after j g l))
        of None e =
            let z = back_none (frame_answer W n) no_frame fs (length fs) (omega arith) (all ∙ e) in
            in_place (W.items in_module n) refl (λ j g l. silent (get_or fs j no_frame) (z j l))

    none_inside : SilentFrom W fs n 0 → in_frames ≡ None
    none_inside z = sym all ∙ back_is_none (frame_answer W n) no_frame fs (length fs) (omega arith) (λ j l. is_silent (get_or fs j no_frame) (z j (omega arith) l))

    -- and what the rules find there is what is defined
    pub rules_outside : {r : Resolution} → Outside W fs n r → outside W fs n ≡ r
    rules_outside (in_frame k r l g z) =
        let h = back_is (frame_answer W n) no_frame fs (length fs) r (omega arith) record { place = k; there = l; gives = answers g; none_after = λ j a b. is_silent (get_or fs j no_frame) (z j a b) } in
        ap (λ o. unwrap_or (or_else o (item_at W in_module n)) R.Unfound) (sym all ∙ h)
    rules_outside (in_the_module i z e) = ap (λ o. unwrap_or (or_else o (item_at W in_module n)) R.Unfound) (none_inside z) ∙ ap (λ o. unwrap_or (option_map R.Item o) R.Unfound) e
    rules_outside (nowhere z e) = ap (λ o. unwrap_or (or_else o (item_at W in_module n)) R.Unfound) (none_inside z) ∙ ap (λ o. unwrap_or (option_map R.Item o) R.Unfound) e
