-- The answer of each arm, at the pair that it is of.
use Rattle.std.proofs.Common.{refl, rules, FitsSigned}
use Rattle.std.specs.Int.{w32, w64}
use Rattle.std.proofs.lemmas.Int.{to_z-of_z}
use Rattle.ooo_value.proofs.arithmetic.multiply.Goals as goal

pub returns-in-Int : goal.returns-in-Int
returns-in-Int c =
    let left : FitsSigned w32 c.in-Int.a = search rules in
    let right : FitsSigned w32 c.in-Int.b = search rules in
    let product = simp (to_z-of_z w32 c.in-Int.a left, to_z-of_z w32 c.in-Int.b right) at c.checked_mul.ensures in
    rw c.in-Int.is (c.int_or_overflow.ensures _ product)

pub returns-in-Uint : goal.returns-in-Uint
returns-in-Uint c = rw c.in-Uint.is refl

pub returns-in-Long : goal.returns-in-Long
returns-in-Long c =
    let left : FitsSigned w64 c.in-Long.a = search rules in
    let right : FitsSigned w64 c.in-Long.b = search rules in
    let product = simp (to_z-of_z w64 c.in-Long.a left, to_z-of_z w64 c.in-Long.b right) at c.checked_mul-in-Long.ensures in
    rw c.in-Long.is (c.long_or_overflow.ensures _ product)

pub returns-in-Ulong : goal.returns-in-Ulong
returns-in-Ulong c = rw c.in-Ulong.is refl
