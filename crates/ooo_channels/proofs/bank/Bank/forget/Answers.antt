use Rattle.std.proofs.Common.{◌≡◌, refl, sym, subst}
use Rattle.ooo_channels.specs.Bank.{BankState, IsBankAfter}
use Rattle.ooo_channels.specs.Operations.{after_forgetting, later_of}
use Rattle.ooo_channels.proofs.Orders.{is_before-yes, is_before-no}
use Rattle.ooo_channels.proofs.Showing.{all_same}
use Rattle.ooo_channels.proofs.Forgetting.{bank_forgets}
use Rattle.ooo_channels.proofs.bank.Bank.forget.Goals as goal

pub returns-then-is_before-clause-after : goal.returns-then-is_before-clause-after
returns-then-is_before-clause-after c = λ ops was.
    let i = c.self.inside in
    let h = subst (λ (b : BankState). IsBankAfter b ops) (sym c.self.view_is) was in
    let is : c.args.below ≡ later_of i.below c.args.below = rw (is_before-yes i.below c.args.below (c.if-is_before.ensures.0 refl)) refl in
    bank_forgets i.channels.items i.kinds.items i.events.items i.below c.args.below c.args.below ops is h

pub returns-else-is_before-clause-after : goal.returns-else-is_before-clause-after
returns-else-is_before-clause-after c = λ ops was.
    let i = c.self.inside in
    let h = subst (λ (b : BankState). IsBankAfter b ops) (sym c.self.view_is) was in
    let is : i.below ≡ later_of i.below c.args.below = rw (is_before-no i.below c.args.below (λ k. absurd (cc (c.if-is_before.ensures.1 k)))) refl in
    subst (λ (b : BankState). IsBankAfter b (after_forgetting c.args.below ops)) c.self.view_is
    (bank_forgets i.channels.items i.kinds.items i.events.items i.below i.below c.args.below ops is h)

pub returns-then-is_before-clause-others : goal.returns-then-is_before-clause-others
returns-then-is_before-clause-others c = λ ops. all_same ops c.args.below

pub returns-else-is_before-clause-others : goal.returns-else-is_before-clause-others
returns-else-is_before-clause-others c = λ ops. all_same ops c.args.below
