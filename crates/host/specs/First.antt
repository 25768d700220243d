-- What the first of some rows answers.
use Rattle.std.specs.Prelude.{Bool, cond, List, [], ◌∷◌, Some, None, Option}

-- the first, or else the second
abbrev pub or_else : {X : Type 0} → Option X → Option X → Option X
or_else (Some x) o = Some x
or_else None o = o

-- what the first row that answers says
abbrev pub first : {X Y : Type 0} → (X → Option Y) → List X → Option Y
first f [] = None
first f (x ∷ xs) = or_else (f x) (first f xs)

-- a value where a test holds
abbrev pub when : {Y : Type 0} → Bool → Y → Option Y
when b y = cond b (Some y) None
