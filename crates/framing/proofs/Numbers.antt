-- Numbers of bytes that were copied from a place.
use Rattle.std.proofs.Common.{◌≡◌, ℕ, ◌+◌, ◌*◌, ◌<◌, List, slice_index, ap, ◌∙◌, arith}
use Rattle.framing.specs.Layout.{u16at, u32at}

-- xs are the n bytes of bs from place at on
abbrev pub Copied : List ℕ → ℕ → ℕ → List ℕ → Type 0
Copied bs at n xs = (i : ℕ) → i < n → slice_index xs i ≡ slice_index bs (i + at)

pub two : (bs xs : List ℕ) (at : ℕ) → Copied bs at 2 xs → slice_index xs 0 * 256 + slice_index xs 1 ≡ u16at bs at
unfolding u16at
two bs xs at h =
    let b0 : slice_index xs 0 ≡ slice_index bs at = h 0 (omega arith) ∙ ap (slice_index bs) (omega arith) in
    let b1 : slice_index xs 1 ≡ slice_index bs (at + 1) = h 1 (omega arith) ∙ ap (slice_index bs) (omega arith) in
    omega (arith, b0, b1)

pub four : (bs xs : List ℕ) (at : ℕ) → Copied bs at 4 xs → slice_index xs 0 * 16777216 + slice_index xs 1 * 65536 + slice_index xs 2 * 256 + slice_index xs 3 ≡ u32at bs at
unfolding u32at
four bs xs at h =
    let b0 : slice_index xs 0 ≡ slice_index bs at = h 0 (omega arith) ∙ ap (slice_index bs) (omega arith) in
    let b1 : slice_index xs 1 ≡ slice_index bs (at + 1) = h 1 (omega arith) ∙ ap (slice_index bs) (omega arith) in
    let b2 : slice_index xs 2 ≡ slice_index bs (at + 2) = h 2 (omega arith) ∙ ap (slice_index bs) (omega arith) in
    let b3 : slice_index xs 3 ≡ slice_index bs (at + 3) = h 3 (omega arith) ∙ ap (slice_index bs) (omega arith) in
    omega (arith, b0, b1, b2, b3)
