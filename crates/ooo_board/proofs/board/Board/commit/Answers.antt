-- What the job did is taken in, and it is out no more; the rest are laws.
use Rattle.std.proofs.Common.{◌≡◌, ◌≤◌, ◌∙◌, ap, arith, refl, subst, sym}
use Rattle.ooo_dispatch.specs.declared.step.Step.TheVariants.{Commit}
use Rattle.ooo_dispatch.specs.Steps.{after_step}
use Rattle.ooo_board.specs.Boards.{LeavesOthers, rules, running_in, state, with_step}
use Rattle.ooo_board.specs.Cores.{MayTakeIn}
use Rattle.ooo_board.specs.Jobs.{Gives}
use Rattle.ooo_board.proofs.Ending.{again, at_stamp, ended, front_within, gives_some, has_front, job_within, none_back, on_ok, others_back, runs_one}
use Rattle.ooo_board.proofs.Keeping.{leaves_others}
use Rattle.ooo_board.proofs.Steps.{IsKept, view_of, view_with}
use Rattle.ooo_board.proofs.board.Board.commit.Goals as goal

pub front-requires : goal.front-requires
front-requires c =
    let i = c.self.inside in
    let b = view_of i.design.value i.limits i.tables i.schedule in
    let gives : Gives (rules b) (state b) c.args.done = subst (λ x. Gives (rules x) (state x) c.args.done) (sym c.self.view_is) c.requires in
    front_within b i.core c.self.invariant.has c.laws.ensures c.args.done gives

pub unreachable-requires : goal.unreachable-requires
unreachable-requires c =
    let i = c.self.inside in
    let b = view_of i.design.value i.limits i.tables i.schedule in
    let gives : Gives (rules b) (state b) c.args.done = subst (λ x. Gives (rules x) (state x) c.args.done) (sym c.self.view_is) c.requires in
    has_front b i.core c.self.invariant.has c.laws.ensures c.args.done gives (sym c.front.ensures ∙ c.in_default.is)

pub reserve-requires : goal.reserve-requires
reserve-requires c =
    let i = c.self.inside in
    let b = view_of i.design.value i.limits i.tables i.schedule in
    let gives : Gives (rules b) (state b) c.args.done = subst (λ x. Gives (rules x) (state x) c.args.done) (sym c.self.view_is) c.requires in
    (b.design, b.limits, b.tables, b.schedule, c.self.invariant.has, gives)

pub commit-used-requires : goal.commit-used-requires
commit-used-requires c =
    let i = c.self.inside in
    let b = view_of i.design.value i.limits i.tables i.schedule in
    let gives : Gives (rules b) (state b) c.args.done = subst (λ x. Gives (rules x) (state x) c.args.done) (sym c.self.view_is) c.requires in
    let has = c.reserve.ensures.kept b.design b.limits b.tables b.schedule c.self.invariant.has in
    let take : MayTakeIn b.design b.limits b.tables b.schedule c.reserve.new.self c.args.done c.in-Some.front.stamp = record { has = has; gives = gives; stamp = at_stamp b i.core c.self.invariant.has c.laws.ensures c.args.done gives c.in-Some.front (sym c.in-Some.ensures) } in
    record { room = on_ok c.reserve.result c.if-is_err.ensures.value c.reserve.ensures.room; may = (b.design, b.limits, b.schedule, c.self.invariant.links_are, take) }

pub forget_now_and_then-requires : goal.forget_now_and_then-requires
forget_now_and_then-requires c =
    let i = c.self.inside in
    let b = view_of i.design.value i.limits i.tables i.schedule in
    let gives : Gives (rules b) (state b) c.args.done = subst (λ x. Gives (rules x) (state x) c.args.done) (sym c.self.view_is) c.requires in
    let has = c.reserve.ensures.kept b.design b.limits b.tables b.schedule c.self.invariant.has in
    let take : MayTakeIn b.design b.limits b.tables b.schedule c.reserve.new.self c.args.done c.in-Some.front.stamp = record { has = has; gives = gives; stamp = at_stamp b i.core c.self.invariant.has c.laws.ensures c.args.done gives c.in-Some.front (sym c.in-Some.ensures) } in
    let n = (c.commit-used.ensures b.design b.limits b.schedule c.self.invariant.links_are take).has_states.counted in
    let within = job_within b i.core c.self.invariant.has c.laws.ensures c.args.done.process (gives_some b i.core c.self.invariant.has c.laws.ensures c.args.done gives) in
    omega (arith, n, within)

pub push_reserved-requires : goal.push_reserved-requires
push_reserved-requires c =
    let i = c.self.inside in
    let b = view_of i.design.value i.limits i.tables i.schedule in
    let gives : Gives (rules b) (state b) c.args.done = subst (λ x. Gives (rules x) (state x) c.args.done) (sym c.self.view_is) c.requires in
    let n : 1 ≤ running_in i.core.states.items = runs_one b i.core c.self.invariant.has c.laws.ensures c.args.done.process (gives_some b i.core c.self.invariant.has c.laws.ensures c.args.done gives) in
    let k = c.self.invariant.counted in
    let m = c.self.invariant.room in
    omega (arith, k, m, n)

pub overflow_sub-self : goal.overflow_sub-self
overflow_sub-self c =
    let i = c.self.inside in
    let b = view_of i.design.value i.limits i.tables i.schedule in
    let gives : Gives (rules b) (state b) c.args.done = subst (λ x. Gives (rules x) (state x) c.args.done) (sym c.self.view_is) c.requires in
    let n : 1 ≤ running_in i.core.states.items = runs_one b i.core c.self.invariant.has c.laws.ensures c.args.done.process (gives_some b i.core c.self.invariant.has c.laws.ensures c.args.done gives) in
    let k = c.self.invariant.counted in
    omega (arith, k, n)

pub invariant_of-self : goal.invariant_of-self
invariant_of-self c =
    let i = c.self.inside in
    again i.design.value i.limits i.tables i.links i.core c.reserve.new.self i.schedule i.running i.lost c.self.invariant (c.reserve.ensures.kept i.design.value i.limits i.tables i.schedule.items c.self.invariant.has)

pub invariant_of-self-2 : goal.invariant_of-self-2
invariant_of-self-2 c =
    let i = c.self.inside in
    let b = view_of i.design.value i.limits i.tables i.schedule in
    let gives : Gives (rules b) (state b) c.args.done = subst (λ x. Gives (rules x) (state x) c.args.done) (sym c.self.view_is) c.requires in
    let has = c.reserve.ensures.kept b.design b.limits b.tables b.schedule c.self.invariant.has in
    let take : MayTakeIn b.design b.limits b.tables b.schedule c.reserve.new.self c.args.done c.in-Some.front.stamp = record { has = has; gives = gives; stamp = at_stamp b i.core c.self.invariant.has c.laws.ensures c.args.done gives c.in-Some.front (sym c.in-Some.ensures) } in
    let whole = again b.design b.limits b.tables i.links i.core c.reserve.new.self i.schedule i.running i.lost c.self.invariant has in
    let some = gives_some b i.core c.self.invariant.has c.laws.ensures c.args.done gives in
    ended b i.links c.reserve.new.self c.forget_now_and_then.new.self i.schedule c.push_reserved.new.self i.running i.lost i.lost (Commit c.args.done.process) c.args.done.process whole refl c.laws.ensures some some
    (c.forget_now_and_then.ensures.kept b.design b.limits b.tables (after_step (rules b) (state b) (Commit c.args.done.process)) (c.commit-used.ensures b.design b.limits b.schedule c.self.invariant.links_are take))
    (others_back (rules b) (state b) c.args.done.process gives.job gives.out) (none_back (rules b) (state b) c.args.done.process gives.job gives.out)
    c.push_reserved.ensures.items c.push_reserved.ensures.len c.push_reserved.ensures.capacity c.self.invariant.is_lost

pub returns-clause-step : goal.returns-clause-step
returns-clause-step c =
    let i = c.self.inside in
    subst (λ x. record { design = i.design.value; limits = i.limits; tables = i.tables; schedule = c.push_reserved.new.self.items } ≡ with_step x (Commit c.args.done.process)) c.self.view_is
    (ap (λ steps. view_with i.design.value i.limits i.tables steps) c.push_reserved.ensures.items)

pub returns-clause-others : goal.returns-clause-others
returns-clause-others c =
    let i = c.self.inside in
    let b = view_of i.design.value i.limits i.tables i.schedule in
    let gives : Gives (rules b) (state b) c.args.done = subst (λ x. Gives (rules x) (state x) c.args.done) (sym c.self.view_is) c.requires in
    let new = view_of i.design.value i.limits i.tables c.push_reserved.new.self in
    subst (λ x. LeavesOthers x new c.args.done.process) c.self.view_is
    (leaves_others b new (Commit c.args.done.process) c.args.done.process (ap (λ steps. view_with i.design.value i.limits i.tables steps) c.push_reserved.ensures.items)
    (others_back (rules b) (state b) c.args.done.process gives.job gives.out))

pub returns-then-is_err-clause-walks : goal.returns-then-is_err-clause-walks
returns-then-is_err-clause-walks c =
    let b = c.args.self.now in
    let has = subst (λ x. IsKept x c.self.inside.core) c.self.view_is c.self.invariant.has in
    (c.laws.ensures b.design b.limits b.tables has.stands.ready).walks b.schedule has.stands.lawful

pub returns-clause-walks : goal.returns-clause-walks
returns-clause-walks c =
    let b = c.args.self.now in
    let has = subst (λ x. IsKept x c.self.inside.core) c.self.view_is c.self.invariant.has in
    (c.laws.ensures b.design b.limits b.tables has.stands.ready).walks b.schedule has.stands.lawful

pub returns-then-is_err-clause-cut : goal.returns-then-is_err-clause-cut
returns-then-is_err-clause-cut c =
    let b = c.args.self.now in
    let has = subst (λ x. IsKept x c.self.inside.core) c.self.view_is c.self.invariant.has in
    (c.laws.ensures b.design b.limits b.tables has.stands.ready).cut b.schedule has.stands.lawful

pub returns-clause-cut : goal.returns-clause-cut
returns-clause-cut c =
    let b = c.args.self.now in
    let has = subst (λ x. IsKept x c.self.inside.core) c.self.view_is c.self.invariant.has in
    (c.laws.ensures b.design b.limits b.tables has.stands.ready).cut b.schedule has.stands.lawful

pub returns-then-is_err-clause-overtakes : goal.returns-then-is_err-clause-overtakes
returns-then-is_err-clause-overtakes c =
    let b = c.args.self.now in
    let has = subst (λ x. IsKept x c.self.inside.core) c.self.view_is c.self.invariant.has in
    (c.laws.ensures b.design b.limits b.tables has.stands.ready).overtakes b.schedule has.stands.lawful

pub returns-clause-overtakes : goal.returns-clause-overtakes
returns-clause-overtakes c =
    let b = c.args.self.now in
    let has = subst (λ x. IsKept x c.self.inside.core) c.self.view_is c.self.invariant.has in
    (c.laws.ensures b.design b.limits b.tables has.stands.ready).overtakes b.schedule has.stands.lawful

pub returns-then-is_err-clause-puts_back : goal.returns-then-is_err-clause-puts_back
returns-then-is_err-clause-puts_back c =
    let b = c.args.self.now in
    let has = subst (λ x. IsKept x c.self.inside.core) c.self.view_is c.self.invariant.has in
    (c.laws.ensures b.design b.limits b.tables has.stands.ready).puts_back b.schedule has.stands.lawful

pub returns-clause-puts_back : goal.returns-clause-puts_back
returns-clause-puts_back c =
    let b = c.args.self.now in
    let has = subst (λ x. IsKept x c.self.inside.core) c.self.view_is c.self.invariant.has in
    (c.laws.ensures b.design b.limits b.tables has.stands.ready).puts_back b.schedule has.stands.lawful

pub returns-then-is_err-clause-stays : goal.returns-then-is_err-clause-stays
returns-then-is_err-clause-stays c =
    let b = c.args.self.now in
    let has = subst (λ x. IsKept x c.self.inside.core) c.self.view_is c.self.invariant.has in
    (c.laws.ensures b.design b.limits b.tables has.stands.ready).stays b.schedule has.stands.lawful

pub returns-clause-stays : goal.returns-clause-stays
returns-clause-stays c =
    let b = c.args.self.now in
    let has = subst (λ x. IsKept x c.self.inside.core) c.self.view_is c.self.invariant.has in
    (c.laws.ensures b.design b.limits b.tables has.stands.ready).stays b.schedule has.stands.lawful
