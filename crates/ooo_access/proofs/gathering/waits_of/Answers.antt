-- The numbers of the set are those that it has.
use Rattle.std.proofs.Common.{ℕ, List}
use Rattle.std.specs.Prelude.{Contains}
use Rattle.std.proofs.lemmas.Result.{IfOk-weaker}
use Rattle.ooo_segments.specs.Numbers.{AreNumbersOf}
use Rattle.ooo_access.specs.Access.{AreThose, AreAscending}
use Rattle.ooo_access.specs.Told.{entry_waits}
use Rattle.ooo_access.proofs.gathering.waits_of.Goals as goal

pub returns-clause-members : goal.returns-clause-members
returns-clause-members c =
    let waits = entry_waits c.args.design.now c.args.process.now c.args.nodes.now c.args.entry in
    let those : (numbers : List ℕ) → AreNumbersOf c.in_ok-waited.waited numbers → AreThose (Contains waits) numbers =
    λ numbers is e. (
      λ h. (c.in_ok-waited.ensures e).0 ((is.same e).0 h),
      λ h. (is.same e).1 ((c.in_ok-waited.ensures e).1 h),
    ) in
    IfOk-weaker _ _ _ those c.numbers.ensures

pub returns-clause-ascending : goal.returns-clause-ascending
returns-clause-ascending c =
    let up : (numbers : List ℕ) → AreNumbersOf c.in_ok-waited.waited numbers → AreAscending numbers = λ numbers is. is.ascending in
    IfOk-weaker _ _ _ up c.numbers.ensures
