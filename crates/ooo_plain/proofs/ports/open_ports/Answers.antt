use Rattle.std.proofs.Common.{◌<◌, subst, sym, arith, ◌∙◌, ap}
use Rattle.std.proofs.lemmas.List.{take_all}
use Rattle.std.specs.Prelude.{AllPairs}
use Rattle.ooo_plain.specs.Seeing.{all_open}
use Rattle.ooo_plain.proofs.Opening.{OpenedSoFar, opened_none, opened_more, opened_below}
use Rattle.ooo_plain.proofs.ports.open_ports.Goals as goal

pub loop-c-init : goal.loop-c-init
loop-c-init c = subst (OpenedSoFar c.args.design.now c.args.bank.now c.args.at _) (sym c.clear.ensures) (opened_none c.args.design.now c.args.bank.now c.args.at)

pub push-requires : goal.push-requires
push-requires c = opened_below c.args.design.now c.args.bank.now c.args.at c.as_slice-channels.result.now c.loop-c.c-index _ c.loop-c.ports c.open_port.result c.loop-c-test.true
    (subst (AllPairs (λ a b. a < b)) (sym c.as_slice-channels.ensures.value) c.requires.ascending) c.loop-c.invariant c.open_port.ensures

pub loop-c-preserved : goal.loop-c-preserved
loop-c-preserved c = subst (OpenedSoFar c.args.design.now c.args.bank.now c.args.at _) (sym c.in_ok-push.ensures.ok)
    (opened_more c.args.design.now c.args.bank.now c.args.at c.as_slice-channels.result.now c.loop-c.c-index _ c.loop-c.ports c.open_port.result c.loop-c-test.true c.loop-c.invariant c.open_port.ensures)

pub returns : goal.returns
returns c = λ w ops h. c.loop-c.invariant.shows w ops h ∙ ap (all_open w) (take_all c.loop-c.c-index c.as_slice-channels.result.now (let l = c.loop-c-test.false in omega (arith, l)) ∙ c.as_slice-channels.ensures.value)
