-- What is told of refusals, one after the other.
use Rattle.std.proofs.Common.{◌≡◌, ◌∙◌, ap, sym, refl, ℕ, ◌+◌, ◌<◌, List, [], ◌∷◌, ◌++◌, drop, length, get_or, Option}
use Rattle.ooo_checked.specs.declared.stat.CheckedStat.{CheckedStat}
use Rattle.ooo_constants.specs.declared.bodies.TimeRefusal.{TimeRefusal}
use Rattle.ooo_constants.specs.Bodies.{body_refusals, stat_refusals, told, told_of}
use Rattle.ooo_constants.specs.Meanings.{Constants}
use Rattle.ooo_constants.proofs.Lists.{dropped}

-- refusals and then others are told one after the other
pub told_of_append : (first : Option TimeRefusal) (xs ys : List TimeRefusal) → told_of first (xs ++ ys) ≡ told_of (told_of first xs) ys
told_of_append first [] ys = refl
told_of_append first (x ∷ xs) ys = told_of_append (told first x) xs ys

-- two and three lists of refusals after one another
pub told_two : (a b : Option TimeRefusal) (xs ys : List TimeRefusal) → b ≡ told_of a xs → told_of b ys ≡ told_of a (xs ++ ys)
told_two a b xs ys e = ap (λ o. told_of o ys) e ∙ sym (told_of_append a xs ys)

pub told_three : (a b d : Option TimeRefusal) (xs ys zs : List TimeRefusal) → b ≡ told_of a xs → d ≡ told_of b ys →
    told_of d zs ≡ told_of a (xs ++ ys ++ zs)
told_three a b d xs ys zs e h = told_two a d (xs ++ ys) zs (h ∙ told_two a b xs ys e)

-- what is told of the statements of a body stays the same where one more is read
pub told_more : (c : Constants) (a b whole : Option TimeRefusal) (xs : List CheckedStat) (i : ℕ) (x : CheckedStat) → i < length xs →
    x ≡ get_or xs i x → b ≡ told_of a (stat_refusals c x) → told_of a (body_refusals c (drop i xs)) ≡ whole →
    told_of b (body_refusals c (drop (i + 1) xs)) ≡ whole
told_more c a b whole xs i x h is more so_far =
    told_two a b (stat_refusals c x) (body_refusals c (drop (i + 1) xs)) more
    ∙ ap (λ ys. told_of a (body_refusals c ys)) (sym (dropped xs i x h is)) ∙ so_far
