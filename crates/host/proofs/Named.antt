-- The first row with a name, by the library's word for the first element that passes a test.
use Rattle.std.proofs.Common.{◌≡◌, eqb, Bool, true, false, cond, List, [], ◌∷◌, Some, None, Option, refl, ap}
use Rattle.std.specs.List.{find}
use Rattle.std.specs.Option.{IsSomeAnd, MatchOption, option_map}
use Rattle.format.specs.declared.ids.Name.{Name}
use Rattle.host.specs.declared.item.Item.{Item}
use Rattle.host.specs.declared.item.Named.{Named}
use Rattle.host.specs.First.{or_else, when}
use Rattle.host.specs.Names.{named}

abbrev pub has_name : Name → Named → Bool
has_name n x = eqb x.name.0 n.0

-- its item is what is named
first_or_rest : (x : Named) (r : Option Named) (o : Option Item) (b : Bool) → option_map (λ y. y.item) r ≡ o →
    option_map (λ y. y.item) (cond b (Some x) r) ≡ or_else (when b x.item) o
first_or_rest x r o true h = refl
first_or_rest x r o false h = h

pub named-find : (n : Name) (xs : List Named) → option_map (λ x. x.item) (find (has_name n) xs) ≡ named xs n
named-find n [] = refl
named-find n (x ∷ xs) = first_or_rest x (find (has_name n) xs) (named xs n) (has_name n x) (named-find n xs)

-- a `map` of what was found, as v reads it, where its closure computes g
pub map_gives : {R X Y : Type 0} (v : R → X) (g : X → Y) (Q : R → Y → Type 0) (r : Option R) (o : Option Y) →
    MatchOption r (o ≡ None) (λ x. IsSomeAnd o (Q x)) → ((x : R) (y : Y) → Q x y → y ≡ g (v x)) → o ≡ option_map g (option_map v r)
map_gives v g Q None o h gives = h
map_gives v g Q (Some x) (Some y) h gives = ap (λ z. Some z) (gives x y h)
map_gives v g Q (Some x) None h gives = absurd h
