use Rattle.std.proofs.Common.{refl, rules}
use Rattle.ooo_numbers.specs.Names.{numbering_of}
use Rattle.ooo_numbers.proofs.Blocks.{stat_of-Block, stat_of-Break, stat_of-Continue, stat_of-Do, stat_of-Empty, stat_of-For}
use Rattle.ooo_numbers.proofs.Blocks.{stat_of-If, stat_of-Local, stat_of-Return, stat_of-Simple, stat_of-While}
use Rattle.ooo_numbers.proofs.statements.+stat.Goals as goal

pub stat-returns-in-Block : goal.stat-returns-in-Block
stat-returns-in-Block t c =
    rw (c.in-Block.is, stat_of-Block (numbering_of c.args.numbers) c.in-Block.field-0 c.in-Block.body) (search rules)

pub stat-returns-in-Empty : goal.stat-returns-in-Empty
stat-returns-in-Empty t c =
    rw (c.in-Empty.is, stat_of-Empty (numbering_of c.args.numbers) c.in-Empty.field-0) (search rules)

pub stat-returns-in-Local : goal.stat-returns-in-Local
stat-returns-in-Local t c =
    rw (c.in-Local.is, stat_of-Local (numbering_of c.args.numbers) c.in-Local.given) (search rules)

pub stat-returns-in-Simple : goal.stat-returns-in-Simple
stat-returns-in-Simple t c =
    rw (c.in-Simple.is, stat_of-Simple (numbering_of c.args.numbers) c.in-Simple.statement) (search rules)

pub stat-returns-in-Ok-otherwise : goal.stat-returns-in-Ok-otherwise
stat-returns-in-Ok-otherwise t c =
    rw (c.in-If.is, stat_of-If (numbering_of c.args.numbers) c.in-If.at c.in-If.test c.in-If.yes c.in-If.no) (search rules)

pub stat-returns-in-Ok-inner : goal.stat-returns-in-Ok-inner
stat-returns-in-Ok-inner t c =
    rw (c.in-While.is, stat_of-While (numbering_of c.args.numbers) c.in-While.at c.in-While.test c.in-While.body) (search rules)

pub stat-returns-in-Ok-inner-2 : goal.stat-returns-in-Ok-inner-2
stat-returns-in-Ok-inner-2 t c =
    rw (c.in-Do.is, stat_of-Do (numbering_of c.args.numbers) c.in-Do.at c.in-Do.body c.in-Do.test) (search rules)

pub stat-returns-in-Ok-inner-3 : goal.stat-returns-in-Ok-inner-3
stat-returns-in-Ok-inner-3 t c =
    rw (c.in-For.is, stat_of-For (numbering_of c.args.numbers) c.in-For.at c.in-For.begins c.in-For.test c.in-For.step c.in-For.body)
    (search rules)

pub stat-returns-in-Break : goal.stat-returns-in-Break
stat-returns-in-Break t c =
    rw (c.in-Break.is, stat_of-Break (numbering_of c.args.numbers) c.in-Break.at) refl

pub stat-returns-in-Continue : goal.stat-returns-in-Continue
stat-returns-in-Continue t c =
    rw (c.in-Continue.is, stat_of-Continue (numbering_of c.args.numbers) c.in-Continue.at) refl

pub stat-returns-in-Return : goal.stat-returns-in-Return
stat-returns-in-Return t c =
    rw (c.in-Return.is, stat_of-Return (numbering_of c.args.numbers) c.in-Return.at c.in-Return.value) (search rules)
