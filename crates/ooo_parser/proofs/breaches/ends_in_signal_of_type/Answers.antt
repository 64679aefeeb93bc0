use Rattle.std.proofs.Common.{take, drop, sym, subst, arith}
use Rattle.std.proofs.lemmas.List.{take-append-drop}
use Rattle.ooo_parser.specs.Refusals.{IsSignalOfType}
use Rattle.ooo_parser.proofs.Types.{nowhere, to_end}
use Rattle.ooo_parser.proofs.breaches.ends_in_signal_of_type.Goals as goal

pub returns-then-branch : goal.returns-then-branch
returns-then-branch c =
    let at = c.loop-at.at in
    (take at c.args.symbols.now, drop at c.args.symbols.now, sym (take-append-drop at c.args.symbols.now), subst IsSignalOfType (to_end at c.args.symbols.now) (rw c.if-branch.true at c.in_ok-is_signal_of_type.ensures))

pub returns : goal.returns
returns c = nowhere c.args.symbols.now (λ k h. c.loop-at.invariant k (omega (arith, h, c.loop-at-test.false)))
