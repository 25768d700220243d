-- Tables as lists.
use Rattle.std.specs.Prelude.{ℕ, zero, suc, Bool, cond, List, [], ◌∷◌, ◌++◌, take, Option, slice_get}
use Rattle.table.specs.declared.Table.{Table}

-- the records that count, in order
abbrev pub listed : {T : Type 0} {N : ℕ} → Table T N → List T
listed t = take t.len t.records

-- what is listed after a record was added, or found no room
abbrev pub after_push : {T : Type 0} → Bool → List T → T → List T
after_push room xs x = cond room (xs ++ (x ∷ [])) xs

-- what stands at place i of a list, or nothing past its end
abbrev pub found : {X : Type 0} → List X → ℕ → Option X
found xs i = slice_get xs i

-- the list of f 0, f 1, .. below n
unfoldable pub tabulated : {X : Type 0} → (ℕ → X) → ℕ → List X
tabulated f zero = []
tabulated f (suc n) = tabulated f n ++ (f n ∷ [])
