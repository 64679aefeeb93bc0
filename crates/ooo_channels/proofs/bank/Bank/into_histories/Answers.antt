use Rattle.std.proofs.Common.{◌≡◌, ◌++◌, [], ◌∷◌, length, length-append, append_assoc, ap, sym, subst, ◌∙◌, arith}
use Rattle.std.specs.Vec.Iter.{into_iter_items}
use Rattle.ooo_channels.specs.Cycles.{cycle_of}
use Rattle.ooo_channels.specs.Calls.{channel_calls}
use Rattle.ooo_channels.specs.Bank.{AreHistories}
use Rattle.ooo_channels.proofs.Histories.{channel_behind, histories_more}
use Rattle.ooo_channels.proofs.bank.Bank.into_histories.Goals as goal

pub into_history-requires : goal.into_history-requires
into_history-requires c =
    let at = c.loop-channel in
    let ops = c.requires.0 in
    let n = length at.yielded in (
      n,
      ops.below,
      cycle_of ops n,
      channel_calls ops,
      channel_behind c.args.self ops at.yielded (into_iter_items c.next.new.self) c.in-Some.channel
          (ap (λ xs. at.yielded ++ xs) (sym c.in-Some.ensures.steps.0) ∙ at.invariant.rest) c.requires.1,
    )

pub loop-channel-preserved : goal.loop-channel-preserved
loop-channel-preserved c =
    let at = c.loop-channel in
    let n = length at.yielded in
    let steps : into_iter_items at.channel-iterator ≡ c.in-Some.channel ∷ into_iter_items c.next.new.self = c.in-Some.ensures.steps.0 in
    let rest : at.yielded ++ c.in-Some.channel ∷ into_iter_items c.next.new.self ≡ c.args.self.channels = ap (λ xs. at.yielded ++ xs) (sym steps) ∙ at.invariant.rest in
    record {
      rest = append_assoc at.yielded (c.in-Some.channel ∷ []) (into_iter_items c.next.new.self) ∙ rest;
      left = omega (arith, at.invariant.left, ap length steps, c.in-Some.ensures.steps.1);
      made = subst (λ k. AreHistories c.args.self c.args.at k c.push.new.self.items) (sym (length-append at.yielded (c.in-Some.channel ∷ [])))
          (histories_more c.args.self c.args.at n at.made.items c.push.new.self.items c.from_vec.result at.invariant.made c.in_ok-push.ensures.items
          (λ ops b. c.from_vec.ensures ∙ c.in_ok-into_history.ensures n ops.below (cycle_of ops n) (channel_calls ops)
          (channel_behind c.args.self ops at.yielded (into_iter_items c.next.new.self) c.in-Some.channel rest b)));
    }
