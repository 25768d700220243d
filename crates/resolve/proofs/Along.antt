-- One step of a look-up along the chain.
use Rattle.std.proofs.Common.{◌≡◌, Some, Option, unwrap_or, sym, ap}
use Rattle.format.specs.declared.ids.Name.{Name}
use Rattle.format.specs.declared.ids.ScopeId.{ScopeId}
use Rattle.host.specs.Meaning.{ItemTables, ExpansionTables}
use Rattle.reach.specs.Blank.{parent_of}
use Rattle.resolve.specs.declared.context.Context.{Context}
use Rattle.resolve.specs.declared.resolution.Resolution.{Resolution}
use Rattle.resolve.specs.Outward.{Surroundings, along, chain, crossed, outside, scope_answer, scope_at}
use Rattle.resolve.specs.Hits.{Stands}
use Rattle.resolve.proofs.Chains.{Below, chain_step, chain_end}

module _ (W : ItemTables) (X : ExpansionTables) (T : Surroundings) (n : Name) where
  abbrev pub from : Option ScopeId → Context → Resolution
  from o x = along W X T n (chain T.scopes o) x

  pub from_scope : Below T.scopes → (s : ScopeId) (x : Context) → Stands T s →
      from (Some s) x ≡ unwrap_or (scope_answer W (scope_at T s).kind T.entries n x.hygiene s) (from (scope_at T s).parent (crossed X (scope_at T s).kind x))
  from_scope b s x h = ap (λ c. along W X T n c x) (chain_step T.scopes b s h.0 h.1)

  -- no scope is left
  pub from_end : (o : Option ScopeId) (x : Context) → (Stands T (record { 0 = parent_of o }) → ⊥) → outside W T.frames n ≡ from o x
  from_end o x h = sym (ap (λ c. along W X T n c x) (chain_end T.scopes o h))
