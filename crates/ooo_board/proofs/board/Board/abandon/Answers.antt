-- The job is out no more, and none can be dispatched.
use Rattle.std.proofs.Common.{ap, arith, refl, true, subst, sym, ◌≤◌}
use Rattle.std.specs.Prelude.{IsSome}
use Rattle.ooo_dispatch.specs.declared.step.Step.TheVariants.{Abandon}
use Rattle.ooo_dispatch.specs.Steps.{job_of}
use Rattle.ooo_board.specs.Boards.{LeavesOthers, rules, running_in, state}
use Rattle.ooo_board.proofs.Ending.{abandoned_core, ended, none_own, others_stay, runs_one}
use Rattle.ooo_board.proofs.Keeping.{leaves_others}
use Rattle.ooo_board.proofs.Steps.{view_of, view_with}
use Rattle.ooo_board.proofs.board.Board.abandon.Goals as goal

pub push_reserved-requires : goal.push_reserved-requires
push_reserved-requires c =
    let b = view_of c.self.inside.design.value c.self.inside.limits c.self.inside.tables c.self.inside.schedule in
    let some : IsSome (job_of (rules b) (state b) c.args.p) = subst (λ x. IsSome (job_of (rules x) (state x) c.args.p)) (sym c.self.view_is) c.requires in
    let n : 1 ≤ running_in c.self.inside.core.states.items = runs_one b c.self.inside.core c.self.invariant.has c.laws.ensures c.args.p some in
    let k = c.self.invariant.counted in
    let m = c.self.invariant.room in
    omega (arith, k, m, n)

pub overflow_sub-self : goal.overflow_sub-self
overflow_sub-self c =
    let b = view_of c.self.inside.design.value c.self.inside.limits c.self.inside.tables c.self.inside.schedule in
    let some : IsSome (job_of (rules b) (state b) c.args.p) = subst (λ x. IsSome (job_of (rules x) (state x) c.args.p)) (sym c.self.view_is) c.requires in
    let n : 1 ≤ running_in c.self.inside.core.states.items = runs_one b c.self.inside.core c.self.invariant.has c.laws.ensures c.args.p some in
    let k = c.self.invariant.counted in
    omega (arith, k, n)

pub invariant_of-self : goal.invariant_of-self
invariant_of-self c =
    let i = c.self.inside in
    let b = view_of i.design.value i.limits i.tables i.schedule in
    let some : IsSome (job_of (rules b) (state b) c.args.p) = subst (λ x. IsSome (job_of (rules x) (state x) c.args.p)) (sym c.self.view_is) c.requires in
    ended b i.links i.core _ i.schedule c.push_reserved.new.self i.running i.lost true (Abandon c.args.p) c.args.p c.self.invariant refl c.laws.ensures some some
    (abandoned_core b.design b.limits b.tables (state b) c.args.p i.core _ c.self.invariant.has.core some refl)
    (others_stay (rules b) (state b) c.args.p) (none_own (rules b) (state b) c.args.p)
    c.push_reserved.ensures.items c.push_reserved.ensures.len c.push_reserved.ensures.capacity refl

pub returns-clause-others : goal.returns-clause-others
returns-clause-others c =
    let i = c.self.inside in
    let b = view_of i.design.value i.limits i.tables i.schedule in
    let new = view_of i.design.value i.limits i.tables c.push_reserved.new.self in
    subst (λ x. LeavesOthers x new c.args.p) c.self.view_is
    (leaves_others b new (Abandon c.args.p) c.args.p (ap (λ steps. view_with i.design.value i.limits i.tables steps) c.push_reserved.ensures.items)
    (others_stay (rules b) (state b) c.args.p))
