-- What notes tell that may be noted.
use Rattle.std.proofs.Common.{◌≡◌, refl, sym, List, [], ◌∷◌, ◌++◌, Bool, true, false}
use Rattle.std.specs.Prelude.{not}
use Rattle.std.proofs.lemmas.Bool.{true≢false}
use Rattle.ooo_lexer.specs.declared.position.Position.{Position}
use Rattle.ooo_checked.specs.declared.breach.TypeBreach.{TypeBreach}
use Rattle.ooo_checked.specs.Notes.{Note, breach_when}
use Rattle.ooo_sound_model.specs.Naming.{Leave, MayAllBeNoted}

-- what isn't so proves all
pub no : {A : Type 0} → false ≡ true → A
no e = absurd (true≢false (sym e))

-- of both parts
pub first_noted : (l : Leave) (xs ys : List Note) → MayAllBeNoted l (xs ++ ys) → MayAllBeNoted l xs
first_noted l [] ys h = tt
first_noted l (x ∷ xs) ys h = (h.0, first_noted l xs ys h.1)

pub then_noted : (l : Leave) (xs ys : List Note) → MayAllBeNoted l (xs ++ ys) → MayAllBeNoted l ys
then_noted l [] ys h = h
then_noted l (x ∷ xs) ys h = then_noted l xs ys h.1

-- where something would be a breach, it isn't so
pub not_so : (l : Leave) (b : Bool) (what : TypeBreach) (at : Position) → MayAllBeNoted l (breach_when b what at) → b ≡ false
not_so l true what at h = absurd h.0
not_so l false what at h = refl

-- so what has to be so is so
pub so : (l : Leave) (b : Bool) (what : TypeBreach) (at : Position) → MayAllBeNoted l (breach_when (not b) what at) → b ≡ true
so l true what at h = refl
so l false what at h = absurd h.0
