-- The kinds of node, as the format has them.
use Rattle.std.specs.Prelude.{◌≡◌, ℕ, ◌%◌, Bool, true, false, cond, ◌&&◌, Some, None, Option, ◌==◌, nat_le}
use Rattle.format.specs.declared.ids.BindingId.{BindingId}
use Rattle.format.specs.declared.ids.BlockId.{BlockId}
use Rattle.format.specs.declared.ids.LabelId.{LabelId}
use Rattle.format.specs.declared.kind.NodeKind.{NodeKind}
use Rattle.format.specs.declared.kind.NodeKind.TheVariants as K
use Rattle.format.specs.declared.kind.NodeRecord.{NodeRecord}
use Rattle.format.specs.declared.kind.Slot.{Slot}
use Rattle.format.specs.declared.kind.Sort.{Sort}
use Rattle.format.specs.declared.kind.Sort.TheVariants as S

-- a number that may be absent is written 0 where it is
abbrev pub block_number : Option BlockId → ℕ
block_number None = 0
block_number (Some i) = i.0

abbrev pub label_number : Option LabelId → ℕ
label_number None = 0
label_number (Some l) = l.0

abbrev pub binding_number : Option BindingId → ℕ
binding_number None = 0
binding_number (Some v) = v.0

-- what is written of a kind: its number and the fields a and b
pub record Writing : Type 0 where
  pub code : ℕ
  pub a : ℕ
  pub b : ℕ

abbrev pub wrote : ℕ → ℕ → ℕ → Writing
wrote c x y = record { code = c; a = x; b = y }

-- each kind's number, and its fields: 0 where none is named
abbrev pub writes : NodeKind → Writing
writes K.Leaf = wrote 1 0 0
writes (K.Use n h) = wrote 2 n.0 h.0
writes K.Sequence = wrote 3 0 0
writes K.And = wrote 4 0 0
writes K.If = wrote 5 0 0
writes K.Let = wrote 6 0 0
writes (K.Block i l) = wrote 7 (block_number i) (label_number l)
writes (K.Loop l) = wrote 8 (label_number l) 0
writes K.Closure = wrote 9 0 0
writes K.Match = wrote 10 0 0
writes K.Const = wrote 11 0 0
writes K.Repeat = wrote 12 0 0
writes K.Cast = wrote 13 0 0
writes K.LeafPattern = wrote 20 0 0
writes (K.Bind v) = wrote 21 v.0 0
writes K.Patterns = wrote 22 0 0
writes K.ValuePattern = wrote 23 0 0
writes K.LeafType = wrote 30 0 0
writes K.Types = wrote 31 0 0
writes K.ArrayType = wrote 32 0 0
writes K.LetStatement = wrote 40 0 0
writes K.ExprStatement = wrote 41 0 0
writes (K.MacroDef q) = wrote 42 q.0 0
writes K.OtherItem = wrote 43 0 0
writes K.Arm = wrote 50 0 0
writes (K.Body s) = wrote 60 (binding_number s) 0

-- a binding of a sheet that has m of them
abbrev pub binding_of : ℕ → BindingId → Bool
binding_of m v = nat_le 1 v.0 && nat_le v.0 m

-- no number that is there is 0, and a binding that is there is the sheet's
abbrev pub block_real : Option BlockId → Bool
block_real None = true
block_real (Some i) = nat_le 1 i.0

abbrev pub label_real : Option LabelId → Bool
label_real None = true
label_real (Some l) = nat_le 1 l.0

abbrev pub binding_real : ℕ → Option BindingId → Bool
binding_real m None = true
binding_real m (Some v) = binding_of m v

-- what a kind names is there, where the sheet has m bindings
abbrev pub named : ℕ → NodeKind → Bool
named m K.Leaf = true
named m (K.Use n h) = nat_le 1 n.0
named m K.Sequence = true
named m K.And = true
named m K.If = true
named m K.Let = true
named m (K.Block i l) = block_real i && label_real l
named m (K.Loop l) = label_real l
named m K.Closure = true
named m K.Match = true
named m K.Const = true
named m K.Repeat = true
named m K.Cast = true
named m K.LeafPattern = true
named m (K.Bind v) = binding_of m v
named m K.Patterns = true
named m K.ValuePattern = true
named m K.LeafType = true
named m K.Types = true
named m K.ArrayType = true
named m K.LetStatement = true
named m K.ExprStatement = true
named m (K.MacroDef q) = nat_le 1 q.0
named m K.OtherItem = true
named m K.Arm = true
named m (K.Body s) = binding_real m s

-- how many children a node of each kind may have; an absent one counts
abbrev pub count_suits : NodeKind → ℕ → Bool
count_suits K.Leaf c = c == 0
count_suits (K.Use n h) c = c == 0
count_suits K.Sequence c = true
count_suits K.And c = c == 2
count_suits K.If c = c == 3
count_suits K.Let c = c == 2
count_suits (K.Block i l) c = nat_le 1 c
count_suits (K.Loop l) c = c == 1
count_suits K.Closure c = nat_le 2 c && c % 2 == 0
count_suits K.Match c = nat_le 1 c
count_suits K.Const c = c == 1
count_suits K.Repeat c = c == 2
count_suits K.Cast c = c == 2
count_suits K.LeafPattern c = c == 0
count_suits (K.Bind v) c = nat_le c 1
count_suits K.Patterns c = true
count_suits K.ValuePattern c = true
count_suits K.LeafType c = c == 0
count_suits K.Types c = true
count_suits K.ArrayType c = c == 2
count_suits K.LetStatement c = c == 4
count_suits K.ExprStatement c = c == 1
count_suits (K.MacroDef q) c = c == 0
count_suits K.OtherItem c = c == 0
count_suits K.Arm c = c == 3
count_suits (K.Body s) c = nat_le 1 c

-- what a node of each kind is
abbrev pub sort_of : NodeKind → Sort
sort_of K.Leaf = S.Expression
sort_of (K.Use n h) = S.Expression
sort_of K.Sequence = S.Expression
sort_of K.And = S.Expression
sort_of K.If = S.Expression
sort_of K.Let = S.Expression
sort_of (K.Block i l) = S.Expression
sort_of (K.Loop l) = S.Expression
sort_of K.Closure = S.Expression
sort_of K.Match = S.Expression
sort_of K.Const = S.Expression
sort_of K.Repeat = S.Expression
sort_of K.Cast = S.Expression
sort_of K.LeafPattern = S.Pattern
sort_of (K.Bind v) = S.Pattern
sort_of K.Patterns = S.Pattern
sort_of K.ValuePattern = S.Pattern
sort_of K.LeafType = S.Type
sort_of K.Types = S.Type
sort_of K.ArrayType = S.Type
sort_of K.LetStatement = S.Statement
sort_of K.ExprStatement = S.Statement
sort_of (K.MacroDef q) = S.Statement
sort_of K.OtherItem = S.Statement
sort_of K.Arm = S.Arm
sort_of (K.Body s) = S.Body

-- the sorts told apart by number
abbrev pub sort_number : Sort → ℕ
sort_number S.Expression = 0
sort_number S.Pattern = 1
sort_number S.Type = 2
sort_number S.Statement = 3
sort_number S.Arm = 4
sort_number S.Body = 5

abbrev pub same_sort : Sort → Sort → Bool
same_sort s t = sort_number s == sort_number t

-- a place admits an absent child if it may be absent, else a child of its sort
abbrev pub admits : Slot → Option Sort → Bool
admits s None = s.optional
admits s (Some t) = same_sort t s.sort

abbrev pub slot : Sort → Bool → Slot
slot s o = record { sort = s; optional = o }

-- one sort at the first place, another at the rest
abbrev pub pick : ℕ → Sort → Sort → Slot
pick j s t = slot (cond (j == 0) s t) false

-- a block: its tail, which may be absent, then statements
abbrev pub block_slot : ℕ → Slot
block_slot j = cond (j == 0) (slot S.Expression true) (slot S.Statement false)

-- a closure: its body, its return type, then pairs of a pattern and a type; each type may be absent
abbrev pub closure_slot : ℕ → Slot
closure_slot j = cond (j == 0) (slot S.Expression false) (cond (j % 2 == 1) (slot S.Type true) (slot S.Pattern false))

-- a let statement: its pattern, then its type, initializer and else, each of which may be absent
abbrev pub let_slot : ℕ → Slot
let_slot j = cond (j == 0) (slot S.Pattern false) (slot (cond (j == 1) S.Type S.Expression) true)

-- an arm: its pattern, its guard, which may be absent, and its expression
abbrev pub arm_slot : ℕ → Slot
arm_slot j = cond (j == 0) (slot S.Pattern false) (slot S.Expression (j == 1))

-- what the place j, from 0, among the children of each kind admits
abbrev pub slot_at : NodeKind → ℕ → Slot
slot_at K.Leaf j = slot S.Expression false
slot_at (K.Use n h) j = slot S.Expression false
slot_at K.Sequence j = slot S.Expression false
slot_at K.And j = slot S.Expression false
slot_at K.If j = slot S.Expression (j == 2)
slot_at K.Let j = pick j S.Pattern S.Expression
slot_at (K.Block i l) j = block_slot j
slot_at (K.Loop l) j = slot S.Expression false
slot_at K.Closure j = closure_slot j
slot_at K.Match j = pick j S.Expression S.Arm
slot_at K.Const j = slot S.Expression false
slot_at K.Repeat j = slot S.Expression false
slot_at K.Cast j = pick j S.Expression S.Type
slot_at K.LeafPattern j = slot S.Expression false
slot_at (K.Bind v) j = slot S.Pattern false
slot_at K.Patterns j = slot S.Pattern false
slot_at K.ValuePattern j = slot S.Expression false
slot_at K.LeafType j = slot S.Expression false
slot_at K.Types j = slot S.Type false
slot_at K.ArrayType j = pick j S.Type S.Expression
slot_at K.LetStatement j = let_slot j
slot_at K.ExprStatement j = slot S.Expression false
slot_at (K.MacroDef q) j = slot S.Expression false
slot_at K.OtherItem j = slot S.Expression false
slot_at K.Arm j = arm_slot j
slot_at (K.Body s) j = pick j S.Expression S.Pattern

-- the record says the kind k, in a sheet of m bindings: it is written so, what it names is there, and its children fit in number
pub record Says (m : ℕ) (x : NodeRecord) (k : NodeKind) : Type 0 where
  pub code_is : (writes k).code ≡ x.code
  pub a_is : (writes k).a ≡ x.a
  pub b_is : (writes k).b ≡ x.b
  pub all_named : named m k ≡ true
  pub count_fits : count_suits k x.count ≡ true

-- THE LAW OF RECORDS: a record says one kind at the most
abbrev pub SaysOne : Type 0
SaysOne = (m : ℕ) (x : NodeRecord) (k l : NodeKind) → Says m x k → Says m x l → k ≡ l

-- a written number, 0 for none
abbrev pub block_from : ℕ → Option BlockId
block_from n = cond (n == 0) None (Some (record { 0 = n }))

abbrev pub label_from : ℕ → Option LabelId
label_from n = cond (n == 0) None (Some (record { 0 = n }))

abbrev pub binding_from : ℕ → Option BindingId
binding_from n = cond (n == 0) None (Some (record { 0 = n }))

-- the only kind that a number and two fields can be the writing of, or none
abbrev pub kind_from : ℕ → ℕ → ℕ → Option NodeKind
kind_from c x y =
    cond (c == 1) (Some K.Leaf) (
    cond (c == 2) (Some (K.Use (record { 0 = x }) (record { 0 = y }))) (
    cond (c == 3) (Some K.Sequence) (
    cond (c == 4) (Some K.And) (
    cond (c == 5) (Some K.If) (
    cond (c == 6) (Some K.Let) (
    cond (c == 7) (Some (K.Block (block_from x) (label_from y))) (
    cond (c == 8) (Some (K.Loop (label_from x))) (
    cond (c == 9) (Some K.Closure) (
    cond (c == 10) (Some K.Match) (
    cond (c == 11) (Some K.Const) (
    cond (c == 12) (Some K.Repeat) (
    cond (c == 13) (Some K.Cast) (
    cond (c == 20) (Some K.LeafPattern) (
    cond (c == 21) (Some (K.Bind (record { 0 = x }))) (
    cond (c == 22) (Some K.Patterns) (
    cond (c == 23) (Some K.ValuePattern) (
    cond (c == 30) (Some K.LeafType) (
    cond (c == 31) (Some K.Types) (
    cond (c == 32) (Some K.ArrayType) (
    cond (c == 40) (Some K.LetStatement) (
    cond (c == 41) (Some K.ExprStatement) (
    cond (c == 42) (Some (K.MacroDef (record { 0 = x }))) (
    cond (c == 43) (Some K.OtherItem) (
    cond (c == 50) (Some K.Arm) (
    cond (c == 60) (Some (K.Body (binding_from x))) (
    None))))))))))))))))))))))))))
