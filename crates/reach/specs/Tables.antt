-- The nodes of a body, by number: their kinds, their children, and what a lawful body has of them.
use Rattle.std.specs.Prelude.{◌≡◌, ℕ, zero, suc, ◌<◌, ◌≤◌, Bool, true, false, List, map, length, slice_index}
use Rattle.format.specs.declared.kind.Sort.TheVariants as S
use Rattle.format.specs.Kinds.{same_sort, sort_of}
use Rattle.format.specs.declared.kind.NodeKind.{NodeKind}
use Rattle.format.specs.declared.kind.NodeKind.TheVariants.{Leaf, Use, Sequence, And, If, Let, Block, Loop, Closure, Match, Const, Repeat, Cast, LeafPattern, Bind, Patterns, ValuePattern, LeafType, Types, ArrayType, LetStatement, ExprStatement, MacroDef, OtherItem, Arm, Body}
use Rattle.format.specs.Ids.{number_of}
use Rattle.reach.specs.Shape.{Shape, node_at, children_of}

abbrev pub kind_of : Shape → ℕ → NodeKind
kind_of b n = (node_at b.nodes n).kind

-- the numbers of the children of n, 0 for an absent one
unfoldable pub kids : Shape → ℕ → List ℕ
kids b n = map number_of (children_of b n)

abbrev pub kid : Shape → ℕ → ℕ → ℕ
kid b n i = slice_index (kids b n) i

abbrev pub turn : {X : Type 0} → ℕ → X → X → X
turn zero x y = x
turn (suc j) x y = turn j y x

-- whether child i is a pattern
abbrev pub pattern_at : NodeKind → ℕ → Bool
pattern_at Leaf i = false
pattern_at (Use x h) i = false
pattern_at Sequence i = false
pattern_at And i = false
pattern_at If i = false
pattern_at Let zero = true
pattern_at Let (suc i) = false
pattern_at (Block a l) i = false
pattern_at (Loop l) i = false
pattern_at Closure zero = false
pattern_at Closure (suc zero) = false
pattern_at Closure (suc (suc i)) = turn i true false
pattern_at Match i = false
pattern_at Const i = false
pattern_at Repeat i = false
pattern_at Cast i = false
pattern_at (Bind v) i = true
pattern_at Patterns i = true
pattern_at Types i = false
pattern_at ArrayType i = false
pattern_at ValuePattern i = false
pattern_at LetStatement zero = true
pattern_at LetStatement (suc i) = false
pattern_at ExprStatement i = false
pattern_at (MacroDef q) i = false
pattern_at OtherItem i = false
pattern_at LeafPattern i = false
pattern_at LeafType i = false
pattern_at Arm zero = true
pattern_at Arm (suc i) = false
pattern_at (Body x) zero = false
pattern_at (Body x) (suc i) = true

-- a node of the body whose last node is m
abbrev pub NodeOf : ℕ → ℕ → Type 0
NodeOf m p = (0 < p) × (p ≤ m)

-- whether a node of a kind is a pattern that may bind
abbrev pub binding : NodeKind → Bool
binding Leaf = false
binding (Use x h) = false
binding Sequence = false
binding And = false
binding If = false
binding Let = false
binding (Block a l) = false
binding (Loop l) = false
binding Closure = false
binding Match = false
binding Const = false
binding Repeat = false
binding Cast = false
binding (Bind v) = true
binding Patterns = true
binding Types = false
binding ArrayType = false
binding ValuePattern = false
binding LetStatement = false
binding ExprStatement = false
binding (MacroDef q) = false
binding OtherItem = false
binding LeafPattern = false
binding LeafType = false
binding Arm = false
binding (Body x) = false

abbrev pub unless : Bool → Bool → Bool
unless true y = true
unless false true = false
unless false false = true

abbrev pub suits : Shape → NodeKind → ℕ → ℕ → Bool
suits b k i zero = true
suits b k i (suc c) = unless (pattern_at k i) (binding (kind_of b (suc c)))

-- such a pattern stands in no place but a pattern's
abbrev pub Fits : Shape → ℕ → Type 0
Fits b m = (n i : ℕ) → n < m → suits b (kind_of b (suc n)) i (kid b (suc n) i) ≡ true

-- whether a kind is the body's
abbrev pub is_body : NodeKind → Bool
is_body k = same_sort (sort_of k) S.Body

-- whether a kind is an expression's
abbrev pub is_expr : NodeKind → Bool
is_expr k = same_sort (sort_of k) S.Expression

-- how many children a kind has at the most
abbrev pub most : NodeKind → ℕ
most Leaf = 0
most (Use x h) = 0
most Sequence = 1024
most And = 2
most If = 3
most Let = 2
most (Block a l) = 1024
most (Loop l) = 1
most Closure = 1024
most Match = 1024
most Const = 1
most Repeat = 2
most Cast = 2
most (Bind v) = 1024
most Patterns = 1024
most Types = 1024
most ArrayType = 1024
most ValuePattern = 1024
most LetStatement = 1024
most ExprStatement = 1
most (MacroDef q) = 0
most OtherItem = 0
most LeafPattern = 0
most LeafType = 0
most Arm = 3
most (Body x) = 0

-- no node but the last has more children than its kind has
abbrev pub Full : Shape → ℕ → Type 0
Full b m = (n : ℕ) → suc n < m → length (kids b (suc n)) ≤ most (kind_of b (suc n))
