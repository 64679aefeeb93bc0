use Rattle.std.proofs.Common.{◌≡◌, false, true, ◌∙◌, refl, sym, subst, arith}
use Rattle.std.proofs.lemmas.Result.{on_ok_weaker}
use Rattle.ooo_plain.specs.Schedule.{MayAskFor, IsAsked, awaited_for}
use Rattle.ooo_plain.proofs.Asking.{may_ask, asked_one, not_asked}
use Rattle.ooo_plain.proofs.schedule.Schedule.refresh.Goals as goal

pub earliest-due-requires : goal.earliest-due-requires
earliest-due-requires c = subst (MayAskFor c.args.bank.now) (sym c.as_slice.ensures) (may_ask c.args.bank.now c.args.self.now c.args.q c.index-awaited.result.now c.requires.may c.requires.process c.index-awaited.ensures)

pub returns : goal.returns
returns c = on_ok_weaker c.set.result (λ set. asked_one c.args.bank.now c.args.now c.args.self.now c.set.new.self c.args.q c.index-awaited.result.now c.earliest-due.result c.requires.process c.index-awaited.ensures set (λ e. let f : false ≡ true = c.if-is_now.ensures.1 (c.due.ensures ∙ e) in absurd cc) (subst (λ es. IsAsked c.args.bank.now c.args.now (awaited_for es c.index-awaited.result.now.timeout) c.earliest-due.result) c.as_slice.ensures c.earliest-due.ensures)) c.set.ensures

pub returns-then-is_now : goal.returns-then-is_now
returns-then-is_now c = not_asked c.args.bank.now c.args.now c.args.self.now c.args.q (sym c.due.ensures ∙ c.if-is_now.ensures.0 refl) (let p = c.requires.process in let n = c.requires.count in omega (arith, p, n))
