-- What the bytes of a case's line say.
use Rattle.std.specs.Prelude.{ℕ, List}
use Rattle.refusals.specs.declared.answer.Answer.{Answer}
use Rattle.std.specs.Char.{is_not_whitespace}
use Rattle.std.specs.Str.{NoCharPasses}
use Rattle.words.specs.Line.{Number, Word}

-- three numbers, and no word more
pub record Numbers (bs : List ℕ) (a : Answer) : Type 0 where
  pub past_number : List ℕ
  pub past_section : List ℕ
  pub past_place : List ℕ
  pub number_is : Number bs a.number past_number
  pub section_is : Number past_number a.section past_section
  pub place_is : Number past_section a.place past_place
  pub ends : NoCharPasses is_not_whitespace past_place

-- a name, and the numbers
pub record States (bs name : List ℕ) (a : Answer) : Type 0 where
  pub past_name : List ℕ
  pub name_is : Word bs name past_name
  pub numbers_are : Numbers past_name a
