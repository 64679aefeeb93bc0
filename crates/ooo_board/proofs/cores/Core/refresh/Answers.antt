use Rattle.std.proofs.Common.{◌≡◌, Some, arith, sym, ◌∙◌, ap, subst}
use Rattle.ooo_board.proofs.Refreshing.{busy, fits, may_ask_front, refreshed, stands, woken_none}
use Rattle.ooo_board.specs.Waking.{IsRight}
use Rattle.ooo_board.proofs.cores.Core.refresh.Goals as goal

pub returns-in_default : goal.returns-in_default
returns-in_default c = λ r s may_wake.
    let waking = may_wake.waking in
    let states = waking.has_states.counted in
    let processes = waking.has_processes.counted in
    let within = c.requires.within in
    let at = stands c.args.self.now.states.items c.args.q c.index.result.now (omega arith) c.index.ensures in
    let right = busy r c.args.tables.now s c.args.self.now c.args.q waking c.index.result.now at c.in_default.not-Waiting in
    woken_none r c.args.tables.now s (λ x. x ≡ c.args.q) c.args.self.now waking (λ x e. subst (λ y. IsRight r s.board c.args.self.now.fronts.fronts y) (sym e) right)

pub front_by-front-requires : goal.front_by-front-requires
front_by-front-requires c =
    let w = c.requires.waking in
    let waking = w.2.waking in
    let states = waking.has_states.counted in
    let processes = waking.has_processes.counted in
    let within = c.requires.within in
    let waits = stands c.args.self.now.states.items c.args.q c.index.result.now (omega arith) c.index.ensures ∙ ap Some c.in-Waiting.is in
    let at = stands c.args.self.now.processes.items c.args.q c.index-2.result.now c.requires.within c.index-2.ensures in
    (w.0, w.1.board, may_ask_front w.0 c.args.tables.now w.1 c.args.self.now c.args.q waking c.index-2.result.now at waits)

pub give-requires-clause-new : goal.give-requires-clause-new
give-requires-clause-new c =
    let w = c.requires.waking in
    let waking = w.2.waking in
    let states = waking.has_states.counted in
    let processes = waking.has_processes.counted in
    let within = c.requires.within in
    let waits = stands c.args.self.now.states.items c.args.q c.index.result.now (omega arith) c.index.ensures ∙ ap Some c.in-Waiting.is in
    let at = stands c.args.self.now.processes.items c.args.q c.index-2.result.now c.requires.within c.index-2.ensures in
    let may = may_ask_front w.0 c.args.tables.now w.1 c.args.self.now c.args.q waking c.index-2.result.now at waits in
    fits w.0 c.args.tables.now w.1 c.args.self.now c.args.q waking c.index-2.result.now at waits c.front_by-front.result (c.front_by-front.ensures w.0 w.1.board may)

pub returns : goal.returns
returns c = λ r s may_wake.
    let waking = may_wake.waking in
    let states = waking.has_states.counted in
    let processes = waking.has_processes.counted in
    let fronts = waking.count in
    let within = c.requires.within in
    let waits = stands c.args.self.now.states.items c.args.q c.index.result.now (omega arith) c.index.ensures ∙ ap Some c.in-Waiting.is in
    let at = stands c.args.self.now.processes.items c.args.q c.index-2.result.now c.requires.within c.index-2.ensures in
    let may = may_ask_front r c.args.tables.now s c.args.self.now c.args.q waking c.index-2.result.now at waits in
    refreshed r c.args.tables.now s c.args.self.now c.args.q waking c.index-2.result.now at waits c.front_by-front.result (c.front_by-front.ensures r s.board may)
    c.give.new.self c.give.ensures.others c.give.ensures.fronts c.give.ensures.fit c.give.ensures.kept (omega arith)
