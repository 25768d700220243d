-- Each word of the line is what the call that read it says, and each call goes on where the one before ended.
use Rattle.std.proofs.Common.{◌≡◌, ℕ, List, subst}
use Rattle.words.specs.Line.{Labelled}
use Rattle.comparison.proofs.entries.EntryLine.parse.Goals as goal

same_line : {bs cs w : List ℕ} {n : ℕ} {rest : List ℕ} → bs ≡ cs → Labelled bs w n rest → Labelled cs w n rest
same_line {w = w} {n = n} {rest = rest} same told = let P : List ℕ → Type 0 = λ x. Labelled x w n rest in subst P same told

pub returns : goal.returns
returns c =
    record {
      is_what_the_line_says =
          record {
            past_scope = _;
            past_binding = _;
            past_name = _;
            past_hygiene = _;
            past_owner = _;
            scope_is = same_line c.new-words.ensures.has_the_whole_line c.in_ok-scope.ensures.reads_word_and_number;
            binding_is = c.in_ok-binding.ensures.reads_word_and_number;
            name_is = c.in_ok-name.ensures.reads_word_and_number;
            hygiene_is = c.in_ok-hygiene.ensures.reads_word_and_number;
            owner_is = c.in_ok-owner.ensures.is_what_the_word_says;
            ends = c.in_ok-end.ensures.no_word_is_left;
          };
    }
