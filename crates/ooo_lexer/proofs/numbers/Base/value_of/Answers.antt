use Rattle.std.proofs.Common.{◌≡◌, ◌+◌, ◌*◌, ap, sym, ◌∙◌, subst, drop, arith}
use Rattle.ooo_lexer.specs.Numbers.{radix, value_of}
use Rattle.ooo_lexer.specs.Numerals.{fitting}
use Rattle.ooo_lexer.proofs.Digits.{SoFar, so_far_none, so_far_next, so_far_at_least, so_far_all, fitting_some, fitting_none}
use Rattle.ooo_lexer.proofs.numbers.Base.value_of.Goals as goal

pub loop-digit-init : goal.loop-digit-init
loop-digit-init c = (so_far_none c.args.self c.args.digits.now, omega arith)

pub returns-in_err-checked_mul : goal.returns-in_err-checked_mul
returns-in_err-checked_mul c =
    let least = so_far_at_least c.args.self _ c.loop-digit.value c.loop-digit.digit-index c.args.digits.now c.loop-digit.invariant.0 c.loop-digit-test.true in
    let step : c.loop-digit.value * c.radix.result ≡ c.loop-digit.value * radix c.args.self = ap (λ r. c.loop-digit.value * r) c.radix.ensures in
    c.from_residual.ensures ∙ sym (fitting_none (value_of c.args.self c.args.digits.now) (omega (arith, c.in_err-checked_mul.ensures)))

pub returns-in_err-value : goal.returns-in_err-value
returns-in_err-value c =
    let least = so_far_at_least c.args.self _ c.loop-digit.value c.loop-digit.digit-index c.args.digits.now c.loop-digit.invariant.0 c.loop-digit-test.true in
    let step : c.loop-digit.value * c.radix.result ≡ c.loop-digit.value * radix c.args.self = ap (λ r. c.loop-digit.value * r) c.radix.ensures in
    c.from_residual-in_err-value.ensures ∙ sym (fitting_none (value_of c.args.self c.args.digits.now) (omega (arith, c.in_ok-checked_mul.ensures, c.in_err-value.ensures)))

pub loop-digit-preserved : goal.loop-digit-preserved
loop-digit-preserved c =
    let next = so_far_next c.args.self _ c.loop-digit.value c.loop-digit.digit-index c.args.digits.now c.loop-digit.invariant.0 c.loop-digit-test.true in
    let step : c.loop-digit.value * c.radix.result ≡ c.loop-digit.value * radix c.args.self = ap (λ r. c.loop-digit.value * r) c.radix.ensures in
    (subst (λ v. SoFar c.args.self (value_of c.args.self c.args.digits.now) v (drop (c.loop-digit.digit-index + 1) c.args.digits.now)) (omega (arith, c.in_ok-checked_mul.ensures, c.in_ok-value.ensures)) next, omega (arith, c.in_ok-value.ensures))

pub returns : goal.returns
returns c =
    let all = so_far_all c.args.self _ c.loop-digit.value c.loop-digit.digit-index c.args.digits.now c.loop-digit.invariant.0 c.loop-digit-test.false in
    sym (ap fitting all ∙ fitting_some c.loop-digit.value (omega arith))
