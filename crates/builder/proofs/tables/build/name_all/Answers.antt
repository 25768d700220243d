use Rattle.std.proofs.Common.{◌≡◌, ℕ, ◌+◌, ◌<◌, ◌≢◌, map, length, get_or, set, sym, refl, ap, ◌∙◌, subst, arith, below_more}
use Rattle.std.proofs.lemmas.List.{get_or_default, get_or-set_other, get_or-set_same, length-set}
use Rattle.sheet.specs.Held.{bindings_of}
use Rattle.table.specs.Tables.{listed}
use Rattle.reach.specs.Blank.{bare_entry}
use Rattle.reach.specs.Named.{NamedBy, no_entry, name_of, renamed}
use Rattle.reach.proofs.Slopes.{unseen}
use Rattle.builder.proofs.tables.build.name_all.Goals as goal

pub loop-i-preserved : goal.loop-i-preserved
loop-i-preserved c =
    let i = c.loop-i.i in
    let es = listed c.loop-i.entries in
    let vs = bindings_of c.args.body.now in
    let inv = c.loop-i.invariant in
    let w : i < length es = omega arith in
    let v = c.binding_of-by.result in
    let e = get_or es i no_entry in
    let slice = c.as_slice.ensures.are_the_listed in
    let is : listed c.set.new.self ≡ set es i (renamed v e) = c.set.ensures.puts_it_there ∙ ap (λ xs. set es i (renamed v (get_or xs i no_entry))) slice in
    let own = c.binding_of-by.ensures.its_own ∙ ap (λ xs. name_of vs (get_or xs i no_entry).binding) slice in
    record {
      as_many = ap length is ∙ (length-set es i (renamed v e) ∙ inv.as_many);
      same = ap (map bare_entry) is ∙ (unseen bare_entry es i (renamed v e) no_entry refl ∙ inv.same);
      named = subst (λ ts. (k : ℕ) → k < i + 1 → NamedBy vs (get_or ts k no_entry)) (sym is)
          (below_more (λ k. NamedBy vs (get_or (set es i (renamed v e)) k no_entry)) i
          (λ k h. let ne : k ≢ i = λ q. omega arith in rw get_or-set_other (inv.named k h))
          (rw get_or-set_same record { name_is = ap (λ x. x.name) own; hygiene_is = ap (λ x. x.hygiene) own }));
    }
