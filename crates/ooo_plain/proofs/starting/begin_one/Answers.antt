use Rattle.std.proofs.Common.{refl, sym, ap, ◌∙◌, subst, get_or, length, List, ℕ, None}
use Rattle.std.proofs.lemmas.Result.{on_ok_weaker}
use Rattle.ooo_plain.specs.Schedule.{MayAsk, awaited_for}
use Rattle.ooo_plain.proofs.Beginning.{begun_awake, begun_waits, may_wait}
use Rattle.ooo_plain.proofs.starting.begin_one.Goals as goal

pub returns-then-process : goal.returns-then-process
returns-then-process c = on_ok_weaker c.set.result (λ set. begun_awake c.laws.ensures c.args.design.now c.requires.sound c.args.p c.index-as_slice-p.result c.requires.within (c.index-as_slice-p.is ∙ ap (λ xs. get_or xs c.args.p c.index-as_slice-p.result) c.as_slice.ensures) c.args.schedule.now c.requires.begun c.if-process.true _ refl set) c.set.ensures

pub wait-requires-clause-may : goal.wait-requires-clause-may
wait-requires-clause-may c = subst (λ es. MayAsk c.args.bank.now es (length c.args.schedule.now.waiters.items)) (sym c.as_slice-2.ensures)
    (may_wait c.laws.ensures c.args.design.now c.requires.sound c.args.p c.index-as_slice-p.result c.requires.within (c.index-as_slice-p.is ∙ ap (λ xs. get_or xs c.args.p c.index-as_slice-p.result) c.as_slice.ensures) c.args.schedule.now c.requires.begun c.if-process.false c.args.bank.now c.requires.bank)

pub returns : goal.returns
returns c = on_ok_weaker c.wait.result (λ waits. begun_waits c.laws.ensures c.args.design.now c.requires.sound c.args.p c.index-as_slice-p.result c.requires.within (c.index-as_slice-p.is ∙ ap (λ xs. get_or xs c.args.p c.index-as_slice-p.result) c.as_slice.ensures) c.args.schedule.now c.requires.begun c.if-process.false c.args.bank.now c.requires.bank _ (ap {A = List ℕ} (λ es. awaited_for es None) c.as_slice-2.ensures) c.wait.new.self waits) c.wait.ensures
