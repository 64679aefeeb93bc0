use Rattle.std.proofs.Common.{◌<◌, List, ap, arith, length, refl, subst, sym}
use Rattle.ooo_code.specs.declared.design.Design.{Design}
use Rattle.ooo_code.specs.Sound.{IsSound}
use Rattle.ooo_tables.specs.Tables.{AreTables}
use Rattle.ooo_dispatch.specs.Inside.{AreInside}
use Rattle.ooo_dispatch.specs.Least.{rules_of}
use Rattle.ooo_dispatch.specs.Steps.{nothing_done}
use Rattle.ooo_dispatch.specs.declared.step.Step.{Step}
use Rattle.ooo_board.specs.Boards.{some_of}
use Rattle.ooo_board.specs.Cores.{HasCore, IsCore, after}
use Rattle.ooo_board.specs.Links.{AreLinks, IsFew}
use Rattle.ooo_board.specs.Starting.{HaveNumbers}
use Rattle.ooo_board.proofs.Beginning.{few_processes, has_nothing, none_running}
use Rattle.ooo_board.proofs.board.Board.make.Goals as goal

pub make-requires-clause-few : goal.make-requires-clause-few
make-requires-clause-few c =
    let design : Design = c.args.design.value in
    let numbers : HaveNumbers design = subst HaveNumbers c.deref.ensures (c.if-not-have_numbers.ensures refl) in
    let few = few_processes design c.args.tables.graph.segments c.requires.tables.segments in
    let most = c.requires.tables.few in
    subst IsFew (sym c.deref-2.ensures) (record { processes = omega arith; channels = numbers.channels; events = numbers.events })

pub make-requires-clause-waits : goal.make-requires-clause-waits
make-requires-clause-waits c g e a is waited =
    let design : Design = c.args.design.value in
    let inside : AreInside (rules_of design c.args.limits c.args.tables) =
    c.accesses_are_inside.ensures (rules_of design c.args.limits c.args.tables) (c.tables_are_rules.ensures design c.args.limits c.args.tables c.requires.tables) c.requires.sound in
    subst (λ (d : Design). e < length d.events) (sym c.deref-2.ensures) ((inside g a is).waited e waited)

pub make-core-requires-clause-tables : goal.make-core-requires-clause-tables
make-core-requires-clause-tables c = subst (λ (d : Design). AreTables d c.args.tables) (sym c.deref-3.ensures) c.requires.tables

pub make-core-requires-clause-links : goal.make-core-requires-clause-links
make-core-requires-clause-links c = subst (λ (d : Design). AreLinks d c.args.tables c.in-Ok.made) (sym c.deref-3.ensures) (subst (λ (d : Design). AreLinks d c.args.tables c.in-Ok.made) c.deref-2.ensures c.in-Ok.ensures)

pub make-requires-clause-sound : goal.make-requires-clause-sound
make-requires-clause-sound c = subst IsSound (sym c.deref-2.ensures) c.requires.sound

pub make-requires-clause-tables : goal.make-requires-clause-tables
make-requires-clause-tables c = subst (λ (d : Design). AreTables d c.args.tables) (sym c.deref-2.ensures) c.requires.tables

pub invariant_of-result : goal.invariant_of-result
invariant_of-result c =
    let design : Design = c.args.design.value in
    let limits = c.args.limits in
    let t = c.args.tables in
    let core = c.in-Ok-core.made in
    let is_core : IsCore design limits t (nothing_done (rules_of design limits t)) core =
    subst (λ d. IsCore d limits t (nothing_done (rules_of d limits t)) core) c.deref-3.ensures c.in-Ok-core.ensures in
    let range = c.requires.range in
    let numbers : HaveNumbers design = subst HaveNumbers c.deref.ensures (c.if-not-have_numbers.ensures refl) in
    record {
      has = subst (λ (steps : List Step). HasCore design limits t steps core) (sym c.new.ensures.items)
          (has_nothing design limits t core (record { sound = c.requires.sound; tables = c.requires.tables; deltas = range.some; stop = range.stop }) range.deltas is_core);
      links_are = subst (λ d. AreLinks d t c.in-Ok.made) c.deref-2.ensures c.in-Ok.ensures;
      few = numbers.channels;
      counted = sym (none_running (rules_of design limits t) core.states.items is_core.has_states);
      room = omega (arith, c.new.ensures.len);
      is_lost = sym (ap (λ (steps : List Step). some_of (after design limits t steps).abandoned) c.new.ensures.items);
    }
