-- A signed quotient, at the pair that it is of.
use Rattle.std.proofs.Common.{rules, FitsSigned}
use Rattle.std.specs.Prelude.{int_div}
use Rattle.std.specs.Int.{w32, w64}
use Rattle.std.proofs.lemmas.Int.{to_z-of_z}
use Rattle.ooo_value.proofs.Divided.{divided_ints, divided_longs}
use Rattle.ooo_value.proofs.division.divide.Goals as goal

pub returns-in-Some : goal.returns-in-Some
returns-in-Some c =
    let left : FitsSigned w32 c.in-Int.a = search rules in
    let right : FitsSigned w32 c.in-Int.b = search rules in
    let held : FitsSigned w32 c.in-Some.quotient = search rules in
    let made = simp (to_z-of_z w32 c.in-Int.a left, to_z-of_z w32 c.in-Int.b right) at c.in-Some.ensures in
    let divisor = rw c.in-Int.is at c.if-is_right_zero.ensures in
    rw c.in-Int.is (divided_ints int_div c.in-Int.a c.in-Int.b c.in-Some.quotient divisor made.0.1 held made.1)

pub returns-in-Some-checked_div : goal.returns-in-Some-checked_div
returns-in-Some-checked_div c =
    let left : FitsSigned w64 c.in-Long.a = search rules in
    let right : FitsSigned w64 c.in-Long.b = search rules in
    let held : FitsSigned w64 c.in-Some-checked_div.quotient = search rules in
    let made = simp (to_z-of_z w64 c.in-Long.a left, to_z-of_z w64 c.in-Long.b right) at c.in-Some-checked_div.ensures in
    let divisor = rw c.in-Long.is at c.if-is_right_zero.ensures in
    rw c.in-Long.is (divided_longs int_div c.in-Long.a c.in-Long.b c.in-Some-checked_div.quotient divisor made.0.1 held made.1)
