use Rattle.std.proofs.Common.{◌-◌, ◌<◌, eqb, get_or, sym, ap, ◌∙◌, inl, inr, arith}
use Rattle.std.proofs.lemmas.Bool.{cases_eq, cond-false, cond-true, eq-eqb, ne_eqb}
use Rattle.std.specs.Option.{unwrap_or}
use Rattle.sheet.specs.Held.{bindings_of}
use Rattle.reach.specs.Named.{no_binding}
use Rattle.builder.proofs.Found.{found_or}
use Rattle.builder.proofs.tables.build.binding_of.Goals as goal

pub returns : goal.returns
returns c =
    let vs = bindings_of c.args.body.now in
    let n = c.args.b.0 in
    record {
      its_own = c.unwrap_or.ensures ∙ elim (cases_eq n 0) [
        | inl z ↦ ap (λ o. unwrap_or o no_binding) (c.binding.ensures.none_for_0 z) ∙ sym (cond-true (eqb n 0) no_binding (get_or vs (n - 1) no_binding) (eq-eqb n 0 z))
        | inr z ↦
            let p : 0 < n = omega (arith, z) in
            ap (λ o. unwrap_or o no_binding) (c.binding.ensures.is_that_binding p) ∙ (found_or vs (n - 1) no_binding ∙ sym (cond-false (eqb n 0) no_binding (get_or vs (n - 1) no_binding) (ne_eqb n 0 z)))
      ];
    }
