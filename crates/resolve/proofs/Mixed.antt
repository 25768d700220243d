-- Hygiene of names that a macro wrote.
use Rattle.std.proofs.Common.{◌≡◌, List, Some, Option, refl, ap, ◌∙◌, subst}
use Rattle.format.specs.declared.ids.BindingId.{BindingId}
use Rattle.format.specs.declared.ids.HygieneId.{HygieneId}
use Rattle.format.specs.declared.ids.Name.{Name}
use Rattle.format.specs.declared.ids.ScopeId.{ScopeId}
use Rattle.host.specs.Meaning.{ItemTables, ExpansionTables}
use Rattle.host.specs.declared.item.Outer.{Outer}
use Rattle.reach.specs.declared.data.ScopeKind.TheVariants as K
use Rattle.sheet.specs.declared.node.Frame.{Frame}
use Rattle.resolve.specs.declared.context.Context.{Context}
use Rattle.resolve.specs.declared.resolution.Resolution.{Resolution}
use Rattle.resolve.specs.declared.resolution.Resolution.TheVariants as R
use Rattle.resolve.specs.Outward.{Surroundings, begun, called_in, scope_at}
use Rattle.resolve.specs.Hits.{FirstEntry, Gives, impl_itself, impl_parameter, parameter, block_item, Outside, in_frame, in_the_module, nowhere, Finds, local, item, past_definition, onward, left}
use Rattle.resolve.specs.Hygiene.{OwnOrBeyond, own, beyond, further, MixedSite, ComesTo, there, past, DefinitionSite}

-- neither a frame nor the module gives a local
frame_gives_none : (W : ItemTables) (n : Name) (v : BindingId) {f : Frame} {r : Resolution} → Gives W n f r → r ≡ R.Local v → ⊥
frame_gives_none W n v (impl_itself o z) e = cc
frame_gives_none W n v (impl_parameter o p z q) e = cc
frame_gives_none W n v (parameter o p q) e = cc
frame_gives_none W n v (block_item b i q) e = cc

pub outside_gives_none : (W : ItemTables) (fs : List Frame) (n : Name) (v : BindingId) {r : Resolution} → Outside W fs n r → r ≡ R.Local v → ⊥
outside_gives_none W fs n v (in_frame k r l g z) e = frame_gives_none W n v g e
outside_gives_none W fs n v (in_the_module i z q) e = cc
outside_gives_none W fs n v (nowhere z q) e = cc

module _ (W : ItemTables) (X : ExpansionTables) (T : Surroundings) (n : Name) (h : HygieneId) (o : Outer) (v : BindingId) where
  mixed : {p : Option ScopeId} {x : Context} {r : Resolution} → Finds W X T n p x r → x ≡ record { hygiene = h; outer = Some o } → r ≡ R.Local v → OwnOrBeyond T n h o.by v p
  mixed (local x s w st f) e q =
      let same : w ≡ v = cc in
      own s st (subst (λ y. FirstEntry T s n h y) same (subst (λ y. FirstEntry T s n y.hygiene w) e f))
  mixed (item x s i st z g) e q = absurd cc
  mixed (past_definition x s a r st z d f) e q =
      let same : a ≡ o = (let w = d.comes_from in let u = ap (λ y. y.outer) e in cc) in
      beyond s st (d.of_macro ∙ ap (λ y. K.MacroDef y.by) same)
  mixed (onward x s r st z g c f) e q = further s st (λ k. c o record { comes_from = ap (λ y. y.outer) e; of_macro = k }) (mixed f e q)
  mixed (left p x r z f) e q = absurd (outside_gives_none W T.frames n v f q)

pub mixed_site : MixedSite
mixed_site W X T n p h o v e f = mixed W X T n h o v f (ap (λ y. record { hygiene = h; outer = y }) e) refl

module _ (W : ItemTables) (X : ExpansionTables) (T : Surroundings) (n : Name) (h : HygieneId) (o : Outer) (d : ScopeId) (r : Resolution) (e : X.outers h ≡ Some o) (f : Finds W X T n (scope_at T d).parent (called_in X o) r) where
  all_past : {p : Option ScopeId} → ComesTo W T n h o.by d p → Finds W X T n p (begun X h) r
  all_past (there st z k) = past_definition (begun X h) d o r st z record { comes_from = e; of_macro = k } f
  all_past (past s st z q c g) = onward (begun X h) s r st z q (λ a b. c (b.of_macro ∙ ap (λ y. K.MacroDef y.by) (let w = b.comes_from in let same : a ≡ o = cc in same))) (all_past g)

pub definition_site : DefinitionSite
definition_site W X T n p h o d r e c f = all_past W X T n h o d r e f c
