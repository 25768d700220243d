-- The first line of an expectation.
use Rattle.std.specs.Prelude.{ℕ, List, codes}
use Rattle.comparison.specs.declared.counts.Counts.{Counts}
use Rattle.words.specs.Line.{Word, Labelled}
use Rattle.std.specs.Char.{is_not_whitespace}
use Rattle.std.specs.Str.{NoCharPasses}

-- sheet nodes N bindings B frames F scopes S entries E
pub record Counted (bs : List ℕ) (c : Counts) : Type 0 where
  pub past_sheet : List ℕ
  pub past_nodes : List ℕ
  pub past_bindings : List ℕ
  pub past_frames : List ℕ
  pub past_scopes : List ℕ
  pub past_entries : List ℕ
  pub sheet_is : Word bs (codes "sheet") past_sheet
  pub nodes_are : Labelled past_sheet (codes "nodes") c.nodes past_nodes
  pub bindings_are : Labelled past_nodes (codes "bindings") c.bindings past_bindings
  pub frames_are : Labelled past_bindings (codes "frames") c.frames past_frames
  pub scopes_are : Labelled past_frames (codes "scopes") c.scopes past_scopes
  pub entries_are : Labelled past_scopes (codes "entries") c.entries past_entries
  pub ends : NoCharPasses is_not_whitespace past_entries
