use Rattle.ooo_channels.specs.Bank.{IsBankAfter}
use Rattle.ooo_channels.specs.Operations.{no_operations}
use Rattle.ooo_channels_checks.specs.Trials.{IsTrial}
use Rattle.ooo_meaning.specs.World.{zero_stamp}
use Rattle.std.proofs.Common.{◌∙◌}
use Rattle.ooo_channels_checks.proofs.Trials.{begun, if_ok}
use Rattle.ooo_channels_checks.proofs.channels.begin.Goals as goal

pub returns : goal.returns
returns c =
    let channels = c.in_ok-from_slice.field-0 in
    let events = c.in_ok-from_slice-2.field-0 in
    if_ok (λ b. IsBankAfter b (no_operations channels events)) (λ b. IsTrial c.args.channel.kind b zero_stamp) c.make.result
    (λ b h. begun b channels events c.args.channel c.in_ok-from_slice.ensures (c.in_ok-from_slice-2.ensures ∙ c.events.ensures) h)
    c.make.ensures
