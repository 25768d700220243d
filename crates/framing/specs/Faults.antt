-- The numbers of refusals and of a sheet's parts, and which fault comes first.
use Rattle.std.specs.Prelude.{◌≡◌, ℕ, ◌<◌, ◌⊎◌}
use Rattle.framing.specs.declared.fault.Refusal.{Refusal}
use Rattle.framing.specs.declared.fault.Refusal.TheVariants as R
use Rattle.framing.specs.declared.fault.Part.{Part}
use Rattle.framing.specs.declared.fault.Part.TheVariants as P
use Rattle.framing.specs.declared.fault.Fault.{Fault}

abbrev pub refusal_number : Refusal → ℕ
refusal_number R.Version = 1
refusal_number R.Length = 2
refusal_number R.Count = 3
refusal_number R.Record = 4
refusal_number R.Tree = 5
refusal_number R.LetPlace = 6
refusal_number R.NameOrFrame = 7
refusal_number R.ItemRecord = 8
refusal_number R.KeyOrder = 9

-- the sections of each sheet are numbered from 1
abbrev pub part_number : Part → ℕ
part_number P.Whole = 0
part_number P.Nodes = 1
part_number P.Children = 2
part_number P.Bindings = 3
part_number P.Frames = 4
part_number P.Items = 1
part_number P.Constants = 2
part_number P.Expansions = 3

-- part p, record k comes before part q, record l of the same sheet
abbrev pub Before : Part → ℕ → Part → ℕ → Type 0
Before p k q l = (part_number p < part_number q) ⊎ ((p ≡ q) × (k < l))

-- the causes of refusals: which refusal applies at which part and record
abbrev pub Causes : Type 1
Causes = Refusal → Part → ℕ → Type 0

-- refusal r at part p, record k comes before the fault: a lower number, or the same at an earlier place
abbrev pub Sooner : Refusal → Part → ℕ → Fault → Type 0
Sooner r p k f = (refusal_number r < refusal_number f.refusal) ⊎ ((r ≡ f.refusal) × Before p k f.part f.record)

-- the fault tells the first cause that applies
pub record First (cause : Causes) (f : Fault) : Type 0 where
  pub applies : cause f.refusal f.part f.record
  pub none_sooner : (r : Refusal) (p : Part) (k : ℕ) → Sooner r p k f → cause r p k → ⊥

-- no cause applies
abbrev pub NoneApply : Causes → Type 0
NoneApply cause = (r : Refusal) (p : Part) (k : ℕ) → cause r p k → ⊥

-- refusal r at part p, record k comes before the fault by the numbers that are told: the number of the refusal is lower, or it is the same refusal and the number of the part is lower, or that is the same and the record's is lower
abbrev pub SoonerByNumber : Refusal → Part → ℕ → Fault → Type 0
SoonerByNumber r p k f =
    (refusal_number r < refusal_number f.refusal) ⊎
    ((r ≡ f.refusal) × ((part_number p < part_number f.part) ⊎ ((part_number p ≡ part_number f.part) × (k < f.record))))

-- no cause that applies comes before the fault
abbrev pub FirstByNumber : Causes → Fault → Type 0
FirstByNumber cause f = (r : Refusal) (p : Part) (k : ℕ) → SoonerByNumber r p k f → cause r p k → ⊥

-- THE LAW OF ORDER: a fault that tells the first cause tells the first by the numbers. Sections of two formats share a number, but no two of one sheet do
abbrev pub InOrderOfNumbers : Causes → Type 0
InOrderOfNumbers cause = (f : Fault) → First cause f → FirstByNumber cause f
