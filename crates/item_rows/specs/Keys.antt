-- Records in order of their keys.
use Rattle.std.specs.Prelude.{◌≡◌, ℕ, ◌-◌, ◌<◌, Bool, true, ◌&&◌, ◌||◌, List, length, ◌==◌, nat_lt, slice_index_or}
use Rattle.item_rows.specs.declared.key.Key.{Key}

-- a key comes before another: by the major number, then by the minor
abbrev pub before : Key → Key → Bool
before a b = nat_lt a.major b.major || (a.major == b.major && nat_lt a.minor b.minor)

abbrev pub same : Key → Key → Bool
same a b = a.major == b.major && a.minor == b.minor

abbrev pub key_at : List Key → ℕ → Key
key_at ks i = slice_index_or ks i (record { major = 0; minor = 0 })

-- key i, from 0, comes after the one before it
abbrev pub Follows : List Key → ℕ → Type 0
Follows ks i = 0 < i → before (key_at ks (i - 1)) (key_at ks i) ≡ true

-- keys rise strictly from each to the next
abbrev pub Rising : List Key → Type 0
Rising ks = (i : ℕ) → i < length ks → Follows ks i
