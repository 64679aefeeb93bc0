-- What holds of each part holds of parts one after the other.
use Rattle.std.proofs.Common.{◌≡◌, refl, List, [], ◌∷◌, map}
use Rattle.std.proofs.Math.Path.{ap₂}
use Rattle.ooo_checked.specs.Notes.{Checked, trees}
use Rattle.ooo_checked.specs.Scopes.{Scope}
use Rattle.ooo_checked.specs.Stats.{Stepped, in_order}

-- parts that are checked in one scope
pub all_trees : {A T : Type 0} (f : A → Checked T) (g : T → A) → ((x : A) → g (f x).tree ≡ x) →
    (xs : List A) → map g (trees (map f xs)) ≡ xs
all_trees f g each [] = refl
all_trees f g each (x ∷ xs) = ap₂ (λ y ys. y ∷ ys) (each x) (all_trees f g each xs)

-- parts of which each is checked in the scope behind the one before it
pub ordered_trees : {A T : Type 0} (f : A → Scope → Stepped T) (g : T → A) →
    ((x : A) (s : Scope) → g (f x s).tree ≡ x) → (xs : List A) (s : Scope) → map g (in_order f xs s).tree ≡ xs
ordered_trees f g each [] s = refl
ordered_trees f g each (x ∷ xs) s = ap₂ (λ y ys. y ∷ ys) (each x s) (ordered_trees f g each xs (f x s).scope)
