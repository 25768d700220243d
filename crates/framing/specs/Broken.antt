-- Records that break a rule.
use Rattle.std.specs.Prelude.{◌≡◌, ℕ, ◌+◌, ◌<◌}
use Rattle.framing.specs.declared.fault.Fault.{Fault}
use Rattle.framing.specs.declared.fault.Part.{Part}
use Rattle.framing.specs.declared.fault.Refusal.{Refusal}

-- record k, from 1, of n breaks a rule, which takes it from 0
pub record Breaks (Rule : ℕ → Type 0) (n k : ℕ) : Type 0 where
  pub at : ℕ
  pub within : at < n
  pub number : k ≡ at + 1
  pub broken : Rule at → ⊥

-- a fault of record i, from 0
pub record FaultAt (r : Refusal) (p : Part) (i : ℕ) (f : Fault) : Type 0 where
  pub refusal_is : f.refusal ≡ r
  pub part_is : f.part ≡ p
  pub record_is : f.record ≡ i + 1

-- a fault of the first of n records that breaks a rule
pub record FirstBroken (Rule : ℕ → Type 0) (n : ℕ) (r : Refusal) (p : Part) (f : Fault) : Type 0 where
  pub at : ℕ
  pub fault : FaultAt r p at f
  pub within : at < n
  pub broken : Rule at → ⊥
  pub kept_before : (j : ℕ) → j < at → Rule j
