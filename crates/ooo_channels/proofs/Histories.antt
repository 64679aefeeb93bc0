-- The histories of a bank, channel by channel.
use Rattle.std.proofs.Common.{◌≡◌, ℕ, ◌+◌, ◌++◌, arith, List, [], ◌∷◌, ap, sym, subst, ◌∙◌, length, length-append, get_or}
use Rattle.std.proofs.Math.Seq.{get_or-append_seam}
use Rattle.ooo_time.specs.declared.stamp.Stamp.{Stamp}
use Rattle.ooo_history.specs.declared.run.Entry.{Entry}
use Rattle.ooo_channels.specs.declared.channel.ChannelState.{ChannelState}
use Rattle.ooo_channels.specs.Operations.{Operations}
use Rattle.ooo_channels.specs.Cycles.{cycle_of, history_in}
use Rattle.ooo_channels.specs.Calls.{channel_calls}
use Rattle.ooo_channels.specs.Kept.{IsChannelAfter}
use Rattle.ooo_channels.specs.Bank.{BankState, IsBankAfter, AreHistories}
use Rattle.ooo_channels.proofs.Making.{each_push}

-- the channel that comes behind so many channels of a bank
pub channel_behind :
    (bank : BankState) (ops : Operations) (front rest : List ChannelState) (s : ChannelState) → front ++ s ∷ rest ≡ bank.channels → IsBankAfter bank ops →
    IsChannelAfter (length front) ops.below (cycle_of ops (length front)) (channel_calls ops) s
channel_behind bank ops front rest s is h =
    subst (IsChannelAfter (length front) ops.below (cycle_of ops (length front)) (channel_calls ops)) there (h.channels (length front) s (omega (arith, ap length is, length-append front (s ∷ rest))))
  where
    there : get_or bank.channels (length front) s ≡ s
    there = ap (λ xs. get_or xs (length front) s) (sym is) ∙ get_or-append_seam front s rest s

pub histories_none : (bank : BankState) (at : Stamp) (hs : List (List Entry)) → hs ≡ [] → AreHistories bank at 0 hs
histories_none bank at hs is = record { count = ap length is; each = λ ops b c d lt. absurd (omega (arith, lt)) }

pub histories_more :
    (bank : BankState) (at : Stamp) (n : ℕ) (old new : List (List Entry)) (h : List Entry) → AreHistories bank at n old → new ≡ old ++ h ∷ [] →
    ((ops : Operations) → IsBankAfter bank ops → h ≡ history_in at ops n) → AreHistories bank at (n + 1) new
histories_more bank at n old new h were is next = record {
  count = longer;
  each = λ ops b c d lt. each_push (λ k es. es ≡ history_in at ops k) old new h d is
      (λ k below. were.each ops b k d (omega (arith, below, were.count)))
      (next ops b ∙ ap (history_in at ops) (sym were.count)) c (omega (arith, lt, longer));
} where
  longer : length new ≡ n + 1
  longer = ap length is ∙ length-append old (h ∷ []) ∙ ap (λ k. k + 1) were.count
