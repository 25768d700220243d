-- The names of entries.
use Rattle.std.specs.Prelude.{◌≡◌, ℕ, ◌-◌, ◌<◌, cond, List, length, ◌==◌, slice_index_or}
use Rattle.format.specs.declared.ids.BindingId.{BindingId}
use Rattle.sheet.specs.declared.node.Binding.{Binding}
use Rattle.reach.specs.declared.data.ScopeEntry.{ScopeEntry}

abbrev pub no_binding : Binding
no_binding = record { name = record { 0 = 0 }; hygiene = record { 0 = 0 } }

-- the record of a binding, by its number from 1
abbrev pub name_of : List Binding → BindingId → Binding
name_of vs b = cond (b.0 == 0) no_binding (slice_index_or vs (b.0 - 1) no_binding)

abbrev pub no_entry : ScopeEntry
no_entry = record { name = record { 0 = 0 }; hygiene = record { 0 = 0 }; binding = record { 0 = 0 }; scope = record { 0 = 0 } }

-- an entry with a binding's name and hygiene
abbrev pub renamed : Binding → ScopeEntry → ScopeEntry
renamed v e = record { name = v.name; hygiene = v.hygiene; binding = e.binding; scope = e.scope }

-- an entry has its binding's name and hygiene
pub record NamedBy (vs : List Binding) (e : ScopeEntry) : Type 0 where
  pub name_is : e.name ≡ (name_of vs e.binding).name
  pub hygiene_is : e.hygiene ≡ (name_of vs e.binding).hygiene

abbrev pub Named : List Binding → List ScopeEntry → Type 0
Named vs es = (i : ℕ) (d : ScopeEntry) → i < length es → NamedBy vs (slice_index_or es i d)
