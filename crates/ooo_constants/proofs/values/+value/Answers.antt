use Rattle.std.proofs.Common.{◌∙◌, ap, sym, refl, rules, if◌then◌else◌}
use Rattle.ooo_value.specs.Operators.{Answer}
use Rattle.ooo_value.specs.Values.{truth_of}
use Rattle.ooo_constants.specs.Meanings.{Constants, constants_of}
use Rattle.ooo_constants.specs.Values.{converted, on_value, operator_of, value_of}
use Rattle.ooo_constants.proofs.Decided.{decided, left_fails, undecided, with_operator}
use Rattle.ooo_constants.proofs.Formed.{value_of-Binary, value_of-Choose, value_of-Name, value_of-Number, value_of-Paren}
use Rattle.ooo_constants.proofs.Formed.{value_of-Prefix, value_of-Truth}
use Rattle.ooo_constants.proofs.values.+value.Goals as goal

pub value-returns-in-Number : goal.value-returns-in-Number
value-returns-in-Number t c =
    rw (c.in-Number.is, value_of-Number (constants_of c.args.known) c.in-Number.field-0 c.in-Number.number)
    (search rules)

pub value-returns-in-Truth : goal.value-returns-in-Truth
value-returns-in-Truth t c =
    rw (c.in-Truth.is, value_of-Truth (constants_of c.args.known) c.in-Truth.is_true c.in-Truth.field-1)
    (search rules)

pub value-returns-in-Name : goal.value-returns-in-Name
value-returns-in-Name t c =
    rw (c.in-Name.is, value_of-Name (constants_of c.args.known) c.in-Name.field-0 c.in-Name.name)
    (search rules)

pub value-returns-in-Paren : goal.value-returns-in-Paren
value-returns-in-Paren t c =
    rw (c.in-Paren.is, value_of-Paren (constants_of c.args.known) c.in-Paren.field-0 c.in-Paren.field-1 c.in-Paren.e)
    (search rules)

pub value-returns-in-Binary : goal.value-returns-in-Binary
value-returns-in-Binary t c =
    rw (c.in-Binary.is, value_of-Binary (constants_of c.args.known) c.in-Binary.field-0 c.in-Binary.sign c.in-Binary.a c.in-Binary.b)
    (search rules)

pub value-returns-in-Choose : goal.value-returns-in-Choose
value-returns-in-Choose t c =
    rw (c.in-Choose.is, value_of-Choose (constants_of c.args.known) c.in-Choose.kind c.in-Choose.test c.in-Choose.yes c.in-Choose.no)
    (search rules)

pub value-returns-in_err-value-in-Prefix : goal.value-returns-in_err-value-in-Prefix
value-returns-in_err-value-in-Prefix t c =
    rw (c.in-Prefix.is, value_of-Prefix (constants_of c.args.known) c.in-Prefix.field-0 c.in-Prefix.field-1 c.in-Prefix.op c.in-Prefix.e)
    (search rules)

pub value-returns-in_ok-value-in-Prefix : goal.value-returns-in_ok-value-in-Prefix
value-returns-in_ok-value-in-Prefix t c =
    rw (c.in-Prefix.is, value_of-Prefix (constants_of c.args.known) c.in-Prefix.field-0 c.in-Prefix.field-1 c.in-Prefix.op c.in-Prefix.e)
    (search rules)

pub chosen-returns-in_err-value : goal.chosen-returns-in_err-value
chosen-returns-in_err-value t c = rw (sym c.in_err-value.ensures) (search rules)

pub chosen-returns-then-truth : goal.chosen-returns-then-truth
chosen-returns-then-truth t c =
    let k : Constants = constants_of c.args.known in
    let yes : Answer = value_of k c.args.yes.now in
    let no : Answer = value_of k c.args.no.now in
    c.converted.ensures ∙ ap (λ b. converted c.args.kind (if b then yes else no)) c.if-truth.ensures
    ∙ ap (λ r. on_value r (λ v. converted c.args.kind (if truth_of v then yes else no))) c.in_ok-value.ensures

pub chosen-returns-else-truth : goal.chosen-returns-else-truth
chosen-returns-else-truth t c =
    let k : Constants = constants_of c.args.known in
    let yes : Answer = value_of k c.args.yes.now in
    let no : Answer = value_of k c.args.no.now in
    c.converted-else-truth.ensures ∙ ap (λ b. converted c.args.kind (if b then yes else no)) c.if-truth.ensures
    ∙ ap (λ r. on_value r (λ v. converted c.args.kind (if truth_of v then yes else no))) c.in_ok-value.ensures

pub converted-returns-in_err-operand : goal.converted-returns-in_err-operand
converted-returns-in_err-operand t c = rw (sym c.in_err-operand.ensures) (search rules)

pub converted-returns : goal.converted-returns
converted-returns t c = rw (sym c.in_ok-operand.ensures, c.convert.ensures) refl

pub operated-returns-in_err-left : goal.operated-returns-in_err-left
operated-returns-in_err-left t c =
    rw (sym c.in_err-left.ensures, left_fails c.args.sign (operator_of c.args.sign) c.in_err-left.field-0.0 (value_of (constants_of c.args.known) c.args.b.now))
    (search rules)

pub operated-returns-in_err-right-in-Some : goal.operated-returns-in_err-right-in-Some
operated-returns-in_err-right-in-Some t c =
    rw (sym c.in-Some.ensures, with_operator c.args.sign c.in-Some.op (value_of (constants_of c.args.known) c.args.a.now) (value_of (constants_of c.args.known) c.args.b.now), sym c.in_ok-left.ensures, sym c.in_err-right-in-Some.ensures)
    (search rules)

pub operated-returns-in_ok-right-in-Some : goal.operated-returns-in_ok-right-in-Some
operated-returns-in_ok-right-in-Some t c =
    rw (sym c.in-Some.ensures, with_operator c.args.sign c.in-Some.op (value_of (constants_of c.args.known) c.args.a.now) (value_of (constants_of c.args.known) c.args.b.now), sym c.in_ok-left.ensures, sym c.in_ok-right-in-Some.ensures)
    c.binary.ensures

pub operated-returns-in-None : goal.operated-returns-in-None
operated-returns-in-None t c =
    rw (
      sym c.in-None.ensures,
      sym c.in_ok-left.ensures,
      decided c.args.sign c.in_ok-left.left (value_of (constants_of c.args.known) c.args.b.now) c.truth.result c.is_decided.result c.truth.ensures c.is_decided.ensures c.if-is_decided.true,
      c.truth-in-None.ensures,
    )
    refl

pub operated-returns-in_err-right-in-None-2 : goal.operated-returns-in_err-right-in-None-2
operated-returns-in_err-right-in-None-2 t c =
    rw (
      sym c.in-None.ensures,
      sym c.in_ok-left.ensures,
      undecided c.args.sign c.in_ok-left.left (value_of (constants_of c.args.known) c.args.b.now) c.truth.result c.is_decided.result c.truth.ensures c.is_decided.ensures c.if-is_decided.false,
      sym c.in_err-right-in-None-2.ensures,
    )
    (search rules)

pub operated-returns-in_ok-right-in-None-2 : goal.operated-returns-in_ok-right-in-None-2
operated-returns-in_ok-right-in-None-2 t c =
    rw (
      sym c.in-None.ensures,
      sym c.in_ok-left.ensures,
      undecided c.args.sign c.in_ok-left.left (value_of (constants_of c.args.known) c.args.b.now) c.truth.result c.is_decided.result c.truth.ensures c.is_decided.ensures c.if-is_decided.false,
      sym c.in_ok-right-in-None-2.ensures,
      c.truth-in-None-2.ensures,
    )
    refl
