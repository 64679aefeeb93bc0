use Rattle.std.proofs.Common.{arith}
use Rattle.std.proofs.lemmas.Bool.Decides.{nat_tests}
use Rattle.ooo_channels_checks.proofs.Trials.{put_place, take_place}
use Rattle.ooo_channels_checks.proofs.channels.has_place.Goals as goal

pub returns-in-Put : goal.returns-in-Put
returns-in-Put c = λ trial some.
    put_place c.args.kind c.args.bank.now c.args.last c.args.now trial c.in-Put.field-0 c.in-Put.field-1 c.args.effect c.free.result c.in-Put.is c.requires.fits c.free.ensures (grind (arith, nat_tests))

pub returns-in-Take : goal.returns-in-Take
returns-in-Take c = λ trial some.
    take_place c.args.kind c.args.bank.now c.args.last c.args.now trial c.in-Take.field-0 c.args.effect c.available.result c.in-Take.is c.requires.fits c.available.ensures (grind (arith, nat_tests))
