use Rattle.std.proofs.Common.{◌∙◌, length, refl, sym, subst, ap}
use Rattle.ooo_channels.specs.Bank.{AreHistories, BankState, IsBankAfter}
use Rattle.ooo_plain.proofs.Ending.{shows_over}
use Rattle.ooo_plain.proofs.run.finish.Goals as goal

pub into_histories-requires : goal.into_histories-requires
into_histories-requires c = let o = c.requires.2 in (o.ops, subst (λ b. IsBankAfter b o.ops) (sym c.told_by-bank.ensures.bank) o.bank)

pub returns : goal.returns
returns c = shows_over c.args.engine c.args.at c.args.end _
    (subst (AreHistories c.args.engine.bank c.args.at (length c.args.engine.bank.channels)) (sym c.from_vec.ensures)
    (subst (λ (b : BankState). AreHistories b c.args.at (length b.channels) c.in-Ok.found.items) c.told_by-bank.ensures.bank c.in-Ok.ensures))
    (c.in-Ok-one_piece.ensures ∙ ap (λ v. v.items) c.told_by-bank.ensures.output) refl c.told_by-bank.ensures.activations
