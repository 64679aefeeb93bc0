-- What is of some checked part, of each part and of parts one after the other.
use Rattle.std.proofs.Common.{◌≡◌, refl, ap, List, [], ◌∷◌, map, Option, Some, None}
use Rattle.std.specs.Option.{option_map}
use Rattle.std.proofs.Math.Path.{ap₂}

-- the value is what some checked part is without additions
abbrev pub Covered : {T A : Type 0} (g : T → A) → A → Type 0
Covered {T = T} g x = (c : T) × (g c ≡ x)

-- parts one after the other
pub all_covered : {T A : Type 0} (g : T → A) → ((x : A) → Covered g x) → (xs : List A) → Covered (map g) xs
all_covered g each [] = ([], refl)
all_covered g each (x ∷ xs) =
    let c = each x in
    let cs = all_covered g each xs in
    (c.0 ∷ cs.0, ap₂ (λ y ys. y ∷ ys) c.1 cs.1)

-- a part, if there is one
pub option_covered : {T A : Type 0} (g : T → A) → ((x : A) → Covered g x) → (o : Option A) → Covered (option_map g) o
option_covered g each None = (None, refl)
option_covered g each (Some x) = let c = each x in (Some c.0, ap Some c.1)
