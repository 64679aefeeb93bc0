use Rattle.std.proofs.Common.{◌≡◌, refl, sym, subst, Option}
use Rattle.std.specs.Prelude.{slice_set}
use Rattle.ooo_interp.specs.declared.job.Done.{Done}
use Rattle.ooo_board_checks.specs.Trials.{AreHeld}
use Rattle.ooo_board_checks.proofs.Keeping.{held_after, of_place}
use Rattle.ooo_board_checks.proofs.trial.Trial.commit.Goals as goal

pub returns : goal.returns
returns c =
    let board = c.args.self.now.board in
    let given = c.args.self.now.given.items in
    let done = c.in-Some.done in
    let own : done.process ≡ c.args.p = of_place board given c.args.p c.index_mut.result.now done c.requires (c.if-not-has.ensures refl) c.index_mut.ensures.value c.in-Some.ensures.value in
    subst (λ (x : Option Done). AreHeld c.commit.new.self (slice_set given c.args.p x)) (sym c.in-Some.ensures.after)
    (held_after _ c.commit.result board c.commit.new.self c.args.p done.process given c.commit.ensures.step c.commit.ensures.refused own c.requires)
