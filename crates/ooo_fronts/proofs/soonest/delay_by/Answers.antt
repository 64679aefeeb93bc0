use Rattle.std.proofs.Common.{◌≢◌, ◌∙◌, sym}
use Rattle.ooo_fronts.specs.Fronts.{process_in}
use Rattle.ooo_fronts.proofs.Meeting.{other_process, own_process}
use Rattle.ooo_fronts.proofs.soonest.delay_by.Goals as goal

pub returns-then-process_of : goal.returns-then-process_of
returns-then-process_of c =
    let a = c.args in
    own_process a.tables.now a.a a.b a.c (sym c.process_of.ensures ∙ c.if-process_of.true ∙ c.process_of-2.ensures)

pub returns : goal.returns
returns c =
    let a = c.args in
    let other : process_in a.tables.now a.b ≢ process_in a.tables.now a.c = λ e. c.if-process_of.false (c.process_of.ensures ∙ e ∙ sym c.process_of-2.ensures) in
    c.least.ensures ∙ other_process a.tables.now a.a a.b a.c other
