use Rattle.std.proofs.Common.{◌-◌, take, drop, ap, ◌∙◌}
use Rattle.scope.specs.Queries.{all_entries, entries_of}
use Rattle.reach.specs.declared.data.ScopeData.{ScopeData}
use Rattle.scope.proofs.Own.{in_range}
use Rattle.scope.proofs.tables.ExprScopes.range.Goals as goal

pub returns : goal.returns
returns c =
    let t = c.args.self.now in
    let s = c.args.s in
    let own = c.in_ok-data.«data» in
    let d = c.in_ok-data.ensures.is_its_record_or_refused in
    record {
      holds_all_its_own_or_refused = (
        d.0,
        ap (λ es. entries_of s.0 (take (own.end - own.start) (drop own.start es))) c.as_slice.ensures.are_the_listed
            ∙ (ap (λ (x : ScopeData). entries_of s.0 (take (x.end - x.start) (drop x.start (all_entries t)))) d.1 ∙ in_range t s d.0),
      );
    }
