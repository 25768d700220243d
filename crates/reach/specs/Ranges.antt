-- The ranges of entries: an entry lies between the start and the end of its scope's range.
use Rattle.std.specs.Prelude.{ℕ, ◌-◌, ◌<◌, ◌≤◌, List, length, get_or, slice_index_or}
use Rattle.reach.specs.declared.data.ScopeData.{ScopeData}
use Rattle.reach.specs.declared.data.ScopeEntry.{ScopeEntry}
use Rattle.reach.specs.Blank.{blank_scope}
use Rattle.reach.specs.Named.{no_entry}

-- the number of the scope of entry q, and that scope
abbrev pub home_of : List ScopeEntry → ℕ → ℕ
home_of es q = (get_or es q no_entry).scope.0

abbrev pub home_in : List ScopeData → List ScopeEntry → ℕ → ScopeData
home_in ss es q = slice_index_or ss (home_of es q - 1) blank_scope

-- each entry is of one of the scopes
abbrev pub Homed : List ScopeData → List ScopeEntry → Type 0
Homed ss es = (q : ℕ) → q < length es → home_of es q ≤ length ss

abbrev pub Real : List ScopeEntry → Type 0
Real es = (q : ℕ) → q < length es → 0 < home_of es q

-- and lies within its range
abbrev pub StartsBefore : List ScopeData → List ScopeEntry → Type 0
StartsBefore ss es = (q : ℕ) → q < length es → (home_in ss es q).start ≤ q

abbrev pub EndsAfter : List ScopeData → List ScopeEntry → Type 0
EndsAfter ss es = (q : ℕ) → q < length es → q < (home_in ss es q).end

-- no range goes past the entries
abbrev pub Started : List ScopeData → List ScopeEntry → Type 0
Started ss es = (k : ℕ) → k < length ss → (get_or ss k blank_scope).start ≤ length es

abbrev pub Ended : List ScopeData → List ScopeEntry → Type 0
Ended ss es = (k : ℕ) → k < length ss → (get_or ss k blank_scope).end ≤ length es

-- nor ends before it starts
abbrev pub Ordered : List ScopeData → Type 0
Ordered ss = (k : ℕ) → k < length ss → (get_or ss k blank_scope).start ≤ (get_or ss k blank_scope).end

-- so it is of the scopes and the entries of a scope tree
pub record Ranged (ss : List ScopeData) (es : List ScopeEntry) : Type 0 where
  pub homed : Homed ss es
  pub real : Real es
  pub after : StartsBefore ss es
  pub before : EndsAfter ss es
  pub started : Started ss es
  pub ended : Ended ss es
  pub ordered : Ordered ss
