use Rattle.ooo_access.proofs.Tellings.{meant_push}
use Rattle.std.proofs.Common.{◌∙◌, ap}
use Rattle.ooo_access.specs.Told.{all_meant}
use Rattle.ooo_access.proofs.expressions.tell.Goals as goal

pub returns : goal.returns
returns c = λ events. rw c.in_ok-push.ensures.items (meant_push events _ c.args.one)
