use Rattle.std.proofs.Common.{refl, rules}
use Rattle.ooo_numbers.specs.Names.{numbering_of}
use Rattle.ooo_numbers.proofs.Formed.{expr_of-Binary, expr_of-Call, expr_of-Choose, expr_of-Index, expr_of-Member, expr_of-Name}
use Rattle.ooo_numbers.proofs.Formed.{expr_of-Number, expr_of-Paren, expr_of-Prefix, expr_of-Truth}
use Rattle.ooo_numbers.proofs.exprs.+expr.Goals as goal

pub expr-returns-in-Number : goal.expr-returns-in-Number
expr-returns-in-Number t c =
    rw (c.in-Number.is, expr_of-Number (numbering_of c.args.numbers) c.in-Number.field-0 c.in-Number.number) refl

pub expr-returns-in-Truth : goal.expr-returns-in-Truth
expr-returns-in-Truth t c =
    rw (c.in-Truth.is, expr_of-Truth (numbering_of c.args.numbers) c.in-Truth.is_true c.in-Truth.field-1) refl

pub expr-returns-in-Name : goal.expr-returns-in-Name
expr-returns-in-Name t c =
    rw (c.in-Name.is, expr_of-Name (numbering_of c.args.numbers) c.in-Name.field-0 c.in-Name.name) c.named.ensures

pub expr-returns-in-Paren : goal.expr-returns-in-Paren
expr-returns-in-Paren t c =
    rw (c.in-Paren.is, expr_of-Paren (numbering_of c.args.numbers) c.in-Paren.field-0 c.in-Paren.field-1 c.in-Paren.e)
    (search rules)

pub expr-returns-in-Index : goal.expr-returns-in-Index
expr-returns-in-Index t c =
    rw (c.in-Index.is, expr_of-Index (numbering_of c.args.numbers) c.in-Index.field-0 c.in-Index.name c.in-Index.index)
    (search rules)

pub expr-returns-in-Call : goal.expr-returns-in-Call
expr-returns-in-Call t c =
    rw (c.in-Call.is, expr_of-Call (numbering_of c.args.numbers) c.in-Call.field-0 c.in-Call.field-1 c.in-Call.field-2)
    (search rules)

pub expr-returns-in-Member : goal.expr-returns-in-Member
expr-returns-in-Member t c =
    rw (c.in-Member.is, expr_of-Member (numbering_of c.args.numbers) c.in-Member.field-0 c.in-Member.name c.in-Member.field-2 c.in-Member.method c.in-Member.field-4)
    (search rules)

pub expr-returns-in-Prefix : goal.expr-returns-in-Prefix
expr-returns-in-Prefix t c =
    rw (c.in-Prefix.is, expr_of-Prefix (numbering_of c.args.numbers) c.in-Prefix.field-0 c.in-Prefix.field-1 c.in-Prefix.op c.in-Prefix.e)
    (search rules)

pub expr-returns-in-Binary : goal.expr-returns-in-Binary
expr-returns-in-Binary t c =
    rw (c.in-Binary.is, expr_of-Binary (numbering_of c.args.numbers) c.in-Binary.field-0 c.in-Binary.sign c.in-Binary.a c.in-Binary.b)
    (search rules)

pub expr-returns-in-Choose : goal.expr-returns-in-Choose
expr-returns-in-Choose t c =
    rw (c.in-Choose.is, expr_of-Choose (numbering_of c.args.numbers) c.in-Choose.kind c.in-Choose.test c.in-Choose.a c.in-Choose.b)
    (search rules)
