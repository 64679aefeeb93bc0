-- The job goes out; the rest are laws.
use Rattle.std.proofs.Common.{◌≡◌, ◌∙◌, ◌++◌, [], ◌∷◌, ap, arith, subst, sym}
use Rattle.ooo_dispatch.specs.declared.step.Step.TheVariants.{Dispatch}
use Rattle.ooo_board.specs.Boards.{HandsOut, LeavesOthers, MayBeDispatched, with_step}
use Rattle.ooo_board.specs.Whole.{IsWhole}
use Rattle.ooo_board.proofs.Going.{at_front, few_jobs, front_within, gives, hands_out, has_front, others_go, sent, wider}
use Rattle.ooo_board.proofs.Keeping.{leaves_others}
use Rattle.ooo_board.proofs.Steps.{IsKept, view_of, view_with}
use Rattle.ooo_board.proofs.board.Board.dispatch.Goals as goal

pub front-requires : goal.front-requires
front-requires c =
    let i = c.self.inside in
    let b = view_of i.design.value i.limits i.tables i.schedule in
    let may : MayBeDispatched b c.args.p = subst (λ x. MayBeDispatched x c.args.p) (sym c.self.view_is) c.requires in
    front_within b i.core c.self.invariant.has c.laws.ensures c.args.p may

pub unreachable-requires : goal.unreachable-requires
unreachable-requires c =
    let i = c.self.inside in
    let b = view_of i.design.value i.limits i.tables i.schedule in
    let may : MayBeDispatched b c.args.p = subst (λ x. MayBeDispatched x c.args.p) (sym c.self.view_is) c.requires in
    has_front b i.core c.self.invariant.has c.laws.ensures c.args.p may (sym c.front.ensures ∙ c.in_default.is)

pub overflow_add-self-inside : goal.overflow_add-self-inside
overflow_add-self-inside c =
    let i = c.self.inside in
    let n = few_jobs (view_of i.design.value i.limits i.tables i.schedule) i.core c.self.invariant.has in
    let k = c.self.invariant.counted in
    omega (arith, n, k)

pub overflow_add-self : goal.overflow_add-self
overflow_add-self c =
    let i = c.self.inside in
    let n = few_jobs (view_of i.design.value i.limits i.tables i.schedule) i.core c.self.invariant.has in
    let k = c.self.invariant.counted in
    omega (arith, n, k)

pub dispatch-requires : goal.dispatch-requires
dispatch-requires c =
    let i = c.self.inside in
    let b = view_of i.design.value i.limits i.tables i.schedule in
    let may : MayBeDispatched b c.args.p = subst (λ x. MayBeDispatched x c.args.p) (sym c.self.view_is) c.requires in
    let own = sym c.in-Some.ensures in
    record { room = c.take-room.ensures; links = c.self.invariant.links_are; may = (b.schedule, c.self.invariant.has, at_front b i.core c.self.invariant.has c.laws.ensures c.args.p may c.in-Some.front own) }

pub push_reserved-requires : goal.push_reserved-requires
push_reserved-requires c = let more = c.in_ok-reserve.ensures.ok in omega (arith, more)

pub invariant_of-self : goal.invariant_of-self
invariant_of-self c =
    let i = c.self.inside in
    wider i.design.value i.limits i.tables i.links i.core i.schedule c.reserve.new.self i.running i.lost c.self.invariant c.reserve.ensures.items c.reserve.ensures.len c.reserve.ensures.capacity

pub invariant_of-self-in_err-job : goal.invariant_of-self-in_err-job
invariant_of-self-in_err-job c =
    let i = c.self.inside in
    let whole : IsWhole i.design.value i.limits i.tables i.links c.dispatch.new.self i.schedule i.running i.lost = subst (λ x. IsWhole i.design.value i.limits i.tables i.links x i.schedule i.running i.lost) (sym c.in_err-job.ensures.refused) c.self.invariant in
    wider i.design.value i.limits i.tables i.links c.dispatch.new.self i.schedule c.reserve.new.self i.running i.lost whole c.reserve.ensures.items c.reserve.ensures.len c.reserve.ensures.capacity

pub invariant_of-self-2 : goal.invariant_of-self-2
invariant_of-self-2 c =
    let i = c.self.inside in
    let b = view_of i.design.value i.limits i.tables i.schedule in
    let may : MayBeDispatched b c.args.p = subst (λ x. MayBeDispatched x c.args.p) (sym c.self.view_is) c.requires in
    let own = sym c.in-Some.ensures in
    let out = c.in_ok-job.ensures.out b.schedule c.self.invariant.has (at_front b i.core c.self.invariant.has c.laws.ensures c.args.p may c.in-Some.front own) in
    let items = c.push_reserved.ensures.items ∙ ap (λ steps. steps ++ Dispatch c.args.p ∷ []) c.reserve.ensures.items in
    let more = c.in_ok-reserve.ensures.ok in
    let longer = c.push_reserved.ensures.len in
    let wide = c.push_reserved.ensures.capacity in
    let whole = sent b i.core c.self.invariant.has c.laws.ensures c.args.p may c.in-Some.front own i.links c.dispatch.new.self c.push_reserved.new.self i.running i.lost c.self.invariant.links_are c.self.invariant.few c.self.invariant.counted c.self.invariant.is_lost out.core items (omega (arith, more, longer, wide)) in
    whole

pub returns-clause-step : goal.returns-clause-step
returns-clause-step c =
    let i = c.self.inside in
    subst (λ x. record { design = i.design.value; limits = i.limits; tables = i.tables; schedule = c.push_reserved.new.self.items } ≡ with_step x (Dispatch c.args.p)) c.self.view_is
    (ap (λ steps. view_with i.design.value i.limits i.tables steps) (c.push_reserved.ensures.items ∙ ap (λ steps. steps ++ Dispatch c.args.p ∷ []) c.reserve.ensures.items))

pub returns-clause-job : goal.returns-clause-job
returns-clause-job c =
    let i = c.self.inside in
    let b = view_of i.design.value i.limits i.tables i.schedule in
    let may : MayBeDispatched b c.args.p = subst (λ x. MayBeDispatched x c.args.p) (sym c.self.view_is) c.requires in
    let own = sym c.in-Some.ensures in
    let out = c.in_ok-job.ensures.out b.schedule c.self.invariant.has (at_front b i.core c.self.invariant.has c.laws.ensures c.args.p may c.in-Some.front own) in
    let items = c.push_reserved.ensures.items ∙ ap (λ steps. steps ++ Dispatch c.args.p ∷ []) c.reserve.ensures.items in
    subst (λ x. HandsOut x c.args.p c.in_ok-job.job) c.self.view_is (hands_out b i.core c.self.invariant.has c.laws.ensures c.args.p may c.in-Some.front own c.dispatch.new.self c.in_ok-job.job out)

pub returns-clause-gives : goal.returns-clause-gives
returns-clause-gives c = λ done for.
    let i = c.self.inside in
    let b = view_of i.design.value i.limits i.tables i.schedule in
    let may : MayBeDispatched b c.args.p = subst (λ x. MayBeDispatched x c.args.p) (sym c.self.view_is) c.requires in
    let own = sym c.in-Some.ensures in
    let out = c.in_ok-job.ensures.out b.schedule c.self.invariant.has (at_front b i.core c.self.invariant.has c.laws.ensures c.args.p may c.in-Some.front own) in
    let items = c.push_reserved.ensures.items ∙ ap (λ steps. steps ++ Dispatch c.args.p ∷ []) c.reserve.ensures.items in
    gives b i.core c.self.invariant.has c.laws.ensures c.args.p may c.in-Some.front own c.push_reserved.new.self.items c.dispatch.new.self c.in_ok-job.job done items out for

pub returns-clause-others : goal.returns-clause-others
returns-clause-others c =
    let i = c.self.inside in
    let b = view_of i.design.value i.limits i.tables i.schedule in
    let may : MayBeDispatched b c.args.p = subst (λ x. MayBeDispatched x c.args.p) (sym c.self.view_is) c.requires in
    let own = sym c.in-Some.ensures in
    let items = c.push_reserved.ensures.items ∙ ap (λ steps. steps ++ Dispatch c.args.p ∷ []) c.reserve.ensures.items in
    let new = view_of i.design.value i.limits i.tables c.push_reserved.new.self in
    subst (λ x. LeavesOthers x new c.args.p) c.self.view_is
    (leaves_others b new (Dispatch c.args.p) c.args.p (ap (λ steps. view_with i.design.value i.limits i.tables steps) items)
    (others_go b i.core c.self.invariant.has c.laws.ensures c.args.p may c.in-Some.front own))

pub returns-clause-reads : goal.returns-clause-reads
returns-clause-reads c = λ result run.
    let i = c.self.inside in
    let b = view_of i.design.value i.limits i.tables i.schedule in
    let may : MayBeDispatched b c.args.p = subst (λ x. MayBeDispatched x c.args.p) (sym c.self.view_is) c.requires in
    let own = sym c.in-Some.ensures in
    let out = c.in_ok-job.ensures.out b.schedule c.self.invariant.has (at_front b i.core c.self.invariant.has c.laws.ensures c.args.p may c.in-Some.front own) in
    let items = c.push_reserved.ensures.items ∙ ap (λ steps. steps ++ Dispatch c.args.p ∷ []) c.reserve.ensures.items in
    let more = c.in_ok-reserve.ensures.ok in
    let longer = c.push_reserved.ensures.len in
    let wide = c.push_reserved.ensures.capacity in
    let whole = sent b i.core c.self.invariant.has c.laws.ensures c.args.p may c.in-Some.front own i.links c.dispatch.new.self c.push_reserved.new.self i.running i.lost c.self.invariant.links_are c.self.invariant.few c.self.invariant.counted c.self.invariant.is_lost out.core items (omega (arith, more, longer, wide)) in
    (c.laws.ensures b.design b.limits b.tables whole.has.stands.ready).reads result run c.push_reserved.new.self.items whole.has.stands.lawful

pub returns-clause-away : goal.returns-clause-away
returns-clause-away c =
    let i = c.self.inside in
    let b = view_of i.design.value i.limits i.tables i.schedule in
    let may : MayBeDispatched b c.args.p = subst (λ x. MayBeDispatched x c.args.p) (sym c.self.view_is) c.requires in
    let own = sym c.in-Some.ensures in
    let out = c.in_ok-job.ensures.out b.schedule c.self.invariant.has (at_front b i.core c.self.invariant.has c.laws.ensures c.args.p may c.in-Some.front own) in
    let items = c.push_reserved.ensures.items ∙ ap (λ steps. steps ++ Dispatch c.args.p ∷ []) c.reserve.ensures.items in
    let more = c.in_ok-reserve.ensures.ok in
    let longer = c.push_reserved.ensures.len in
    let wide = c.push_reserved.ensures.capacity in
    let whole = sent b i.core c.self.invariant.has c.laws.ensures c.args.p may c.in-Some.front own i.links c.dispatch.new.self c.push_reserved.new.self i.running i.lost c.self.invariant.links_are c.self.invariant.few c.self.invariant.counted c.self.invariant.is_lost out.core items (omega (arith, more, longer, wide)) in
    (c.laws.ensures b.design b.limits b.tables whole.has.stands.ready).away c.push_reserved.new.self.items whole.has.stands.lawful

pub returns-in_err-reserve-clause-stays : goal.returns-in_err-reserve-clause-stays
returns-in_err-reserve-clause-stays c =
    let b = c.args.self.now in
    let has = subst (λ x. IsKept x c.self.inside.core) c.self.view_is c.self.invariant.has in
    (c.laws.ensures b.design b.limits b.tables has.stands.ready).stays b.schedule has.stands.lawful

pub returns-in_err-job-clause-stays : goal.returns-in_err-job-clause-stays
returns-in_err-job-clause-stays c =
    let b = c.args.self.now in
    let has = subst (λ x. IsKept x c.self.inside.core) c.self.view_is c.self.invariant.has in
    (c.laws.ensures b.design b.limits b.tables has.stands.ready).stays b.schedule has.stands.lawful

pub returns-clause-stays : goal.returns-clause-stays
returns-clause-stays c =
    let b = c.args.self.now in
    let has = subst (λ x. IsKept x c.self.inside.core) c.self.view_is c.self.invariant.has in
    (c.laws.ensures b.design b.limits b.tables has.stands.ready).stays b.schedule has.stands.lawful

pub returns-in_err-reserve-clause-away : goal.returns-in_err-reserve-clause-away
returns-in_err-reserve-clause-away c =
    let i = c.self.inside in
    let whole = wider i.design.value i.limits i.tables i.links i.core i.schedule c.reserve.new.self i.running i.lost c.self.invariant c.reserve.ensures.items c.reserve.ensures.len c.reserve.ensures.capacity in
    (c.laws.ensures i.design.value i.limits i.tables whole.has.stands.ready).away c.reserve.new.self.items whole.has.stands.lawful

pub returns-in_err-job-clause-away : goal.returns-in_err-job-clause-away
returns-in_err-job-clause-away c =
    let i = c.self.inside in
    let whole = wider i.design.value i.limits i.tables i.links i.core i.schedule c.reserve.new.self i.running i.lost c.self.invariant c.reserve.ensures.items c.reserve.ensures.len c.reserve.ensures.capacity in
    (c.laws.ensures i.design.value i.limits i.tables whole.has.stands.ready).away c.reserve.new.self.items whole.has.stands.lawful
