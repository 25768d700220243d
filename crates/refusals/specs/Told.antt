-- A reader's answer as the three numbers of a case, and the row of the summary that it counts in.
use Rattle.std.specs.Prelude.{ℕ, Some, None, Option}
use Rattle.framing.specs.Faults.{part_number, refusal_number}
use Rattle.framing.specs.declared.fault.Fault.{Fault}
use Rattle.refusals.specs.declared.answer.Answer.{Answer}

-- three zeros for no fault
abbrev pub told : Option Fault → Answer
told None = record { number = 0; section = 0; place = 0 }
told (Some f) = record { number = refusal_number f.refusal; section = part_number f.part; place = f.record }

abbrev pub row_of : Option Fault → ℕ
row_of None = 0
row_of (Some f) = refusal_number f.refusal
