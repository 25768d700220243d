-- No record is of the root: what the traits' laws cite, so it stands here.
use Rattle.std.specs.Prelude.{◌≡◌, ℕ, ◌<◌, true, ◌&&◌, List, [], ◌∷◌, length, get_or, None, Option, slice_index_or, refl}
use Rattle.std.proofs.Common.{ap, arith}
use Rattle.std.proofs.lemmas.Bool.{ne_eqb}
use Rattle.host.specs.First.{first, when}
use Rattle.host.proofs.First.{first_none}
use Rattle.item_rows.specs.declared.rows.ExpansionRow.{ExpansionRow}
use Rattle.item_rows.specs.Keys.{same}
use Rattle.item_rows.specs.Rows.{Rooted, by_context, expansion_key}
use Rattle.items.specs.Under.{under}

-- no record answers, whatever stands past the end
pub none_answers : {X Y : Type 0} (f : X → Option Y) (xs : List X) → ((i : ℕ) (d : X) → i < length xs → f (slice_index_or xs i d) ≡ None) → first f xs ≡ None
none_answers f [] h = refl
none_answers f (x ∷ xs) h = first_none f x (x ∷ xs) (λ i l. h i x l)

-- no record is of the root
pub root_none : (es : List ExpansionRow) → Rooted es → under expansion_key (by_context (record { 0 = 0 })) es ≡ None
root_none es h =
    none_answers (λ x. when (same (expansion_key x) (by_context (record { 0 = 0 }))) x) es
    (λ i d l. ap (λ b. when (b && true) (slice_index_or es i d)) (ne_eqb (get_or es i d).context.0 0 (λ e. omega (arith, h i d l))))
