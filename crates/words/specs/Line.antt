-- What the bytes of a line say, word by word.
use Rattle.std.specs.Prelude.{◌≡◌, ℕ, ◌<◌, List, ◌++◌, length}
use Rattle.std.specs.Str.Parse.{without_leading_plus, digits_value}
use Rattle.std.specs.Char.{is_not_whitespace, is_whitespace}
use Rattle.std.specs.Str.{NoCharPasses}
use Rattle.std.specs.Str.Iter.{split_whitespace_rest}
use Rattle.words.specs.declared.Words.{Words}

-- what is left of the line
abbrev pub unread : Words → List ℕ
unread words = split_whitespace_rest words.rest

-- the bytes are white space, a word, and the rest
pub record Word (bs word rest : List ℕ) : Type 0 where
  pub gap : List ℕ
  pub cut : bs ≡ gap ++ (word ++ rest)
  pub blank : NoCharPasses is_not_whitespace gap
  pub some : 0 < length word
  pub solid : NoCharPasses is_whitespace word

-- the next word is a number
pub record Number (bs : List ℕ) (n : ℕ) (rest : List ℕ) : Type 0 where
  pub digits : List ℕ
  pub word : Word bs digits rest
  pub value_is : n ≡ digits_value 10 (without_leading_plus digits)

-- a word, and then a number
pub record Labelled (bs label : List ℕ) (n : ℕ) (rest : List ℕ) : Type 0 where
  pub past_label : List ℕ
  pub label_is : Word bs label past_label
  pub number_is : Number past_label n rest
