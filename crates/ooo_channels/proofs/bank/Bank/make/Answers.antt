use Rattle.std.proofs.Common.{◌≡◌, length, ap, sym, subst, ◌∙◌, arith}
use Rattle.std.specs.Prelude.{List, All}
use Rattle.ooo_time.specs.declared.stamp.Stamp.{Stamp}
use Rattle.ooo_value.specs.declared.bound.BoundChannel.{BoundChannel}
use Rattle.ooo_value.specs.declared.bound.BoundEvent.{BoundEvent}
use Rattle.ooo_meaning.specs.World.{zero_stamp}
use Rattle.ooo_channels.specs.Bank.{IsBankAfter, IsKeptIn, AreFirst, AreNew}
use Rattle.ooo_channels.specs.Operations.{no_operations}
use Rattle.ooo_channels.proofs.Making.{bank_made, stamp_zero}
use Rattle.ooo_channels.proofs.bank.Bank.make.Goals as goal

pub returns : goal.returns
returns c =
    let design = c.args.design.now in
    let xs = c.keep_all.new.channels.items in
    let es = c.in_ok-events.events.items in
    let kinds : c.in_ok-kinds.kinds.items ≡ design.events = c.in_ok-kinds.ensures.items ∙ c.as_slice-3.ensures in
    let count : c.len.result ≡ length design.events = omega (arith, c.len.ensures, c.in_ok-kinds.kinds.ok, ap length kinds) in
    let first = subst (λ (cs : List BoundChannel). AreFirst cs (length cs) xs) c.as_slice.ensures (c.keep_all.ensures.first c.as_slice.result.now _ c.in_ok-channels.ensures) in
    let new = subst (λ n. AreNew n es) count c.in_ok-events.ensures in
    let present = subst (All (IsKeptIn xs)) c.as_slice-2.ensures c.keep_all.ensures.present in
    let made = bank_made design.channels design.events xs es first new present in
    let zero = stamp_zero c.default.result c.default.ensures in
    subst (λ (s : Stamp). IsBankAfter (record { channels = xs; kinds = c.in_ok-kinds.kinds.items; events = es; below = s }) (no_operations design.channels design.events)) (sym zero)
    (subst (λ (ks : List BoundEvent). IsBankAfter (record { channels = xs; kinds = ks; events = es; below = zero_stamp }) (no_operations design.channels design.events)) (sym kinds) made)
