-- The layout of a sheet, over its bytes as a list. A byte past the end reads as 0.
use Rattle.std.specs.Prelude.{ℕ, zero, suc, ◌+◌, ◌-◌, ◌*◌, List, take, drop, slice_index, slice_index_or}
use Rattle.framing.specs.declared.fault.Part.{Part}
use Rattle.framing.specs.declared.fault.Part.TheVariants as P
use Rattle.framing.specs.declared.sheet_format.SheetFormat.{SheetFormat}
use Rattle.framing.specs.Faults.{part_number}
use Rattle.framing.specs.Plans.{format_of, plan_of, sections_of, width_of}

-- unsigned numbers, the highest byte first
unfoldable pub u16at : List ℕ → ℕ → ℕ
u16at bs i = slice_index bs i * 256 + slice_index bs (i + 1)

unfoldable pub u32at : List ℕ → ℕ → ℕ
u32at bs i = slice_index bs i * 16777216 + slice_index bs (i + 1) * 65536 + slice_index bs (i + 2) * 256 + slice_index bs (i + 3)

-- a section that begins at `at` has its count there; with records of w bytes it ends here
unfoldable pub end_from : List ℕ → ℕ → ℕ → ℕ
end_from bs at w = at + 2 + w * u16at bs at

-- and these are the bytes of its records
unfoldable pub part_from : List ℕ → ℕ → ℕ → List ℕ
part_from bs at w = take (w * u16at bs at) (drop (at + 2) bs)

-- where the section at place i of a plan begins: the first after the version byte and the length, each other where the one before it ends
unfoldable pub start_at : List ℕ → List Part → ℕ → ℕ
start_at bs plan zero = 5
start_at bs plan (suc i) = end_from bs (start_at bs plan i) (width_of (slice_index_or plan i P.Whole))

-- where the last section ends
abbrev pub last_end : List ℕ → SheetFormat → ℕ
last_end bs f = start_at bs (plan_of f) (sections_of f)

-- where each section begins and ends, how many records it says it has, and the bytes of its records
abbrev pub start_of : List ℕ → Part → ℕ
start_of bs p = start_at bs (plan_of (format_of p)) (part_number p - 1)

abbrev pub end_of : List ℕ → Part → ℕ
end_of bs p = end_from bs (start_of bs p) (width_of p)

abbrev pub count_of : List ℕ → Part → ℕ
count_of bs p = u16at bs (start_of bs p)

abbrev pub bytes_in : List ℕ → Part → List ℕ
bytes_in bs p = part_from bs (start_of bs p) (width_of p)
