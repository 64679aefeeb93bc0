-- What notes tell among which there is no breach.
use Rattle.std.proofs.Common.{◌≡◌, refl, List, [], ◌∷◌, ◌++◌, Bool, true, false}
use Rattle.std.specs.Prelude.{not}
use Rattle.ooo_lexer.specs.declared.position.Position.{Position}
use Rattle.ooo_checked.specs.declared.breach.TypeBreach.{TypeBreach}
use Rattle.ooo_checked.specs.Notes.{Note, breach_when}
use Rattle.ooo_sound_text.specs.Right.{AreRight}

-- of both parts
pub first_right : (xs ys : List Note) → AreRight (xs ++ ys) → AreRight xs
first_right [] ys h = tt
first_right (x ∷ xs) ys h = (h.0, first_right xs ys h.1)

pub then_right : (xs ys : List Note) → AreRight (xs ++ ys) → AreRight ys
then_right [] ys h = h
then_right (x ∷ xs) ys h = then_right xs ys h.1

-- where something would be a breach, it isn't so
pub not_so : (b : Bool) (what : TypeBreach) (at : Position) → AreRight (breach_when b what at) → b ≡ false
not_so true what at h = absurd h.0
not_so false what at h = refl

-- so what has to be so is so
pub so : (b : Bool) (what : TypeBreach) (at : Position) → AreRight (breach_when (not b) what at) → b ≡ true
so true what at h = refl
so false what at h = absurd h.0
