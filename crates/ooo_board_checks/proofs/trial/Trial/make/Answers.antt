use Rattle.std.proofs.Common.{◌≡◌, ◌∙◌, ap, sym, subst, length}
use Rattle.ooo_code.specs.declared.design.Design.{Design}
use Rattle.ooo_code.specs.Sound.{IsSound}
use Rattle.ooo_board.specs.Boards.{Shown}
use Rattle.ooo_board_checks.proofs.Keeping.{nothing_held}
use Rattle.ooo_board_checks.proofs.trial.Trial.make.Goals as goal

pub make-requires-2-clause-sound : goal.make-requires-2-clause-sound
make-requires-2-clause-sound c =
    let e = c.in_ok-design.ensures in
    let same : c.args.sample.now.design.value ≡ c.in_ok-design.design.value = cc in subst IsSound same c.requires.sound

pub returns : goal.returns
returns c =
    let e = c.in_ok-design.ensures in
    let seen = c.deref.ensures in
    let same : c.in_ok-design.design.value ≡ c.deref.result.now = cc in
    let count = ap (λ (b : Shown). length b.design.processes) c.in_ok-board.ensures ∙ ap (λ (d : Design). length d.processes) same in
    nothing_held c.in_ok-board.board c.len.result c.in_ok-given.given.items c.in_ok-given.ensures (c.len.ensures ∙ sym count)
