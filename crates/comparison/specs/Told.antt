-- What the lines of ranges, scopes, entries and expressions tell.
use Rattle.std.specs.Prelude.{ℕ, List, codes}
use Rattle.comparison.specs.declared.entries.EntryLine.{EntryLine}
use Rattle.comparison.specs.declared.entries.Owner.{Owner}
use Rattle.comparison.specs.declared.entries.Owner.TheVariants as O
use Rattle.comparison.specs.declared.expressions.ExprLine.{ExprLine}
use Rattle.comparison.specs.declared.makers.Maker.{Maker}
use Rattle.comparison.specs.declared.makers.Maker.TheVariants as M
use Rattle.comparison.specs.declared.ranges.Ranges.{Ranges}
use Rattle.comparison.specs.declared.ranges.Ranges.TheVariants as G
use Rattle.comparison.specs.declared.scopes.ScopeLine.{ScopeLine}
use Rattle.words.specs.Line.{Word, Labelled}
use Rattle.std.specs.Char.{is_not_whitespace}
use Rattle.std.specs.Str.{NoCharPasses}

-- same or differ
abbrev pub ranges_word : Ranges → List ℕ
ranges_word G.Same = codes "same"
ranges_word G.Differ = codes "differ"

-- ranges same or ranges differ
pub record RangesTold (bs : List ℕ) (g : Ranges) : Type 0 where
  pub past_ranges : List ℕ
  pub past_word : List ℕ
  pub ranges_is : Word bs (codes "ranges") past_ranges
  pub word_is : Word past_ranges (ranges_word g) past_word
  pub ends : NoCharPasses is_not_whitespace past_word

-- block B label L
pub record BlockTold (bs : List ℕ) (block label : ℕ) (rest : List ℕ) : Type 0 where
  pub past_block : List ℕ
  pub block_is : Labelled bs (codes "block") block past_block
  pub label_is : Labelled past_block (codes "label") label rest

-- plain, block B label L, label L or macro M
abbrev pub MakerTold : List ℕ → Maker → List ℕ → Type 0
MakerTold bs M.Plain rest = Word bs (codes "plain") rest
MakerTold bs (M.Block b l) rest = BlockTold bs b l rest
MakerTold bs (M.Label l) rest = Labelled bs (codes "label") l rest
MakerTold bs (M.Definition m) rest = Labelled bs (codes "macro") m rest

-- scope N parent P, and what made it
pub record ScopeTold (bs : List ℕ) (s : ScopeLine) : Type 0 where
  pub past_scope : List ℕ
  pub past_parent : List ℕ
  pub past_maker : List ℕ
  pub scope_is : Labelled bs (codes "scope") s.scope past_scope
  pub parent_is : Labelled past_scope (codes "parent") s.parent past_parent
  pub maker_is : MakerTold past_parent s.maker past_maker
  pub ends : NoCharPasses is_not_whitespace past_maker

-- own or taken
abbrev pub owner_word : Owner → List ℕ
owner_word O.Own = codes "own"
owner_word O.Taken = codes "taken"

-- entry SCOPE binding B name N hygiene H, and whose it is
pub record EntryTold (bs : List ℕ) (e : EntryLine) (o : Owner) : Type 0 where
  pub past_scope : List ℕ
  pub past_binding : List ℕ
  pub past_name : List ℕ
  pub past_hygiene : List ℕ
  pub past_owner : List ℕ
  pub scope_is : Labelled bs (codes "entry") e.scope past_scope
  pub binding_is : Labelled past_scope (codes "binding") e.binding past_binding
  pub name_is : Labelled past_binding (codes "name") e.name past_name
  pub hygiene_is : Labelled past_name (codes "hygiene") e.hygiene past_hygiene
  pub owner_is : Word past_hygiene (owner_word o) past_owner
  pub ends : NoCharPasses is_not_whitespace past_owner

-- expr NODE scope N
pub record ExprTold (bs : List ℕ) (e : ExprLine) : Type 0 where
  pub past_node : List ℕ
  pub past_scope : List ℕ
  pub node_is : Labelled bs (codes "expr") e.node past_node
  pub scope_is : Labelled past_node (codes "scope") e.scope past_scope
  pub ends : NoCharPasses is_not_whitespace past_scope
