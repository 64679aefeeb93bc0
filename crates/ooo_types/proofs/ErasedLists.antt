-- Parts, each checked by what is so behind the one before it, are what they are checked to be, without additions.
use Rattle.std.proofs.Common.{◌≡◌, refl, List, [], ◌∷◌, map}
use Rattle.std.proofs.Math.Path.{ap₂}
use Rattle.ooo_members.specs.Turns.{Turn, in_turn}

pub turned_trees : {A S T : Type 0} (f : A → S → Turn S T) (g : T → A) →
    ((x : A) (s : S) → g (f x s).tree ≡ x) → (xs : List A) (s : S) → map g (in_turn f xs s).tree ≡ xs
turned_trees f g each [] s = refl
turned_trees f g each (x ∷ xs) s = ap₂ (λ y ys. y ∷ ys) (each x s) (turned_trees f g each xs (f x s).behind)
