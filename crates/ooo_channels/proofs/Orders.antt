-- The order of stamps, and its test.
use Rattle.std.proofs.Common.{◌≡◌, Bool, true, false, refl, arith}
use Rattle.std.specs.Prelude.{IsTrue, ◌↔◌}
use Rattle.std.specs.Bool.{Decides}
use Rattle.std.proofs.lemmas.Bool.Decides.{Decides-or, Decides-and, Decides-ltb, Decides-eqb, not_from_Decides, same_from_decides}
use Rattle.ooo_time.specs.declared.stamp.Stamp.{Stamp}
use Rattle.ooo_time.specs.Stamps.{IsBefore, is_before}

is_before_decides : (s t : Stamp) → Decides (is_before s t) (IsBefore s t)
is_before_decides s t =
    Decides-or _ _ (Decides-ltb s.time.0 t.time.0) (Decides-and _ _ (Decides-eqb s.time.0 t.time.0) (Decides-ltb s.delta t.delta))

-- the two answers of the test
pub data Earlier (s t : Stamp) : Bool → Type 0 where
  earlier : IsBefore s t → Earlier s t true
  not_earlier : ¬ IsBefore s t → Earlier s t false

pub earlier_or_not : (s t : Stamp) → Earlier s t (is_before s t)
earlier_or_not s t = go (is_before s t) refl where
  go : (b : Bool) → is_before s t ≡ b → Earlier s t b
  go true e = earlier ((is_before_decides s t).0 e)
  go false e = not_earlier (not_from_Decides _ (is_before_decides s t) e)

pub is_before-yes : (s t : Stamp) → IsBefore s t → is_before s t ≡ true
is_before-yes s t = (is_before_decides s t).1

pub is_before-no : (s t : Stamp) → ¬ IsBefore s t → is_before s t ≡ false
is_before-no s t not = go (earlier_or_not s t) refl where
  go : {b : Bool} → Earlier s t b → is_before s t ≡ b → is_before s t ≡ false
  go (earlier h) e = absurd (not h)
  go (not_earlier h) e = e

pub IsBefore-irrefl : (s : Stamp) → ¬ IsBefore s s
IsBefore-irrefl s h = grind arith

pub IsBefore-trans : (a b c : Stamp) → IsBefore a b → IsBefore b c → IsBefore a c
IsBefore-trans a b c h k = grind arith

-- where `b` isn't before `a`, what is after `b` is after `a`
pub IsBefore-from_not : (a b c : Stamp) → ¬ IsBefore b a → IsBefore b c → IsBefore a c
IsBefore-from_not a b c h k = grind arith

pub not_after : (a b : Stamp) → IsBefore a b → ¬ IsBefore b a
not_after a b h k = IsBefore-irrefl a (IsBefore-trans a b a h k)

pub not_before-trans : (a b c : Stamp) → ¬ IsBefore b a → ¬ IsBefore c b → ¬ IsBefore c a
not_before-trans a b c h k l = grind arith

-- stamps of which neither is before the other are the same
pub stamps_same : (a b : Stamp) → ¬ IsBefore a b → ¬ IsBefore b a → a ≡ b
stamps_same a b h k = let time : a.time.0 ≡ b.time.0 = grind arith in let delta : a.delta ≡ b.delta = grind arith in rw (time, delta) refl

-- an answer of a call that tests it is the test's
pub tells_is_before : (r : Bool) (s t : Stamp) → IsTrue r ↔ IsBefore s t → r ≡ is_before s t
tells_is_before r s t h = same_from_decides r (is_before s t) h (is_before_decides s t)
