use Rattle.std.proofs.Common.{sym}
use Rattle.ooo_layout.proofs.Owing.{spends_found}
use Rattle.ooo_layout.proofs.sizes.spend_call.Goals as goal

pub returns-in_ok-rest-in-Some : goal.returns-in_ok-rest-in-Some
returns-in_ok-rest-in-Some c =
    spends_found c.args.weights.now c.args.call c.in-Some.w.now c.args.left c.args.owed.now c.spend_own.new.owed c.in_ok-rest-in-Some.rest c.if-call-eq0.false (sym c.in-Some.ensures) c.in_ok-rest-in-Some.ensures
