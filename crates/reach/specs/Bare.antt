-- Scopes and entries by what the tree is made of, without the ranges and names that the tables add.
use Rattle.std.specs.Prelude.{Option}
use Rattle.format.specs.declared.ids.BindingId.{BindingId}
use Rattle.format.specs.declared.ids.ScopeId.{ScopeId}
use Rattle.reach.specs.declared.data.ScopeKind.{ScopeKind}

pub record Scope : Type 0 where
  pub parent : Option ScopeId
  pub kind : ScopeKind

pub record Entry : Type 0 where
  pub scope : ScopeId
  pub binding : BindingId
