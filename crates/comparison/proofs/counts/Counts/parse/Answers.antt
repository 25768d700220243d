-- Each word of the line is what the call that read it says, and each call goes on where the one before ended.
use Rattle.std.proofs.Common.{◌≡◌, ℕ, List, subst}
use Rattle.words.specs.Line.{Word}
use Rattle.comparison.proofs.counts.Counts.parse.Goals as goal

same_line : {bs cs w rest : List ℕ} → bs ≡ cs → Word bs w rest → Word cs w rest
same_line {w = w} {rest = rest} same word = let P : List ℕ → Type 0 = λ x. Word x w rest in subst P same word

pub returns : goal.returns
returns c =
    record {
      is_what_the_line_says =
          record {
            past_sheet = _;
            past_nodes = _;
            past_bindings = _;
            past_frames = _;
            past_scopes = _;
            past_entries = _;
            sheet_is = same_line c.new-words.ensures.has_the_whole_line c.in_ok-word.ensures.passes_that_word;
            nodes_are = c.in_ok-nodes.ensures.reads_word_and_number;
            bindings_are = c.in_ok-bindings.ensures.reads_word_and_number;
            frames_are = c.in_ok-frames.ensures.reads_word_and_number;
            scopes_are = c.in_ok-scopes.ensures.reads_word_and_number;
            entries_are = c.in_ok-entries.ensures.reads_word_and_number;
            ends = c.in_ok-end.ensures.no_word_is_left;
          };
    }
