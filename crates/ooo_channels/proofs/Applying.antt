-- Effects applied one by one.
use Rattle.std.proofs.Common.{◌≡◌, Bool, true, false, cond, ℕ, ◌+◌, ◌<◌, ◌≤◌, ◌++◌, arith, List, [], ◌∷◌, refl, ap, sym, subst, ◌∙◌, length, get_or, take, drop, add-one, append-nil}
use Rattle.std.specs.Prelude.{filter}
use Rattle.std.proofs.lemmas.List.{take_more, take_all}
use Rattle.std.proofs.lemmas.List.Sums.{fold-append}
use Rattle.std.proofs.Math.Seq.{drop-cons}
use Rattle.std.proofs.Math.ListN.{drop_of_length-le}
use Rattle.ooo_time.specs.declared.stamp.Stamp.{Stamp}
use Rattle.ooo_code.specs.declared.activation.Effect.{Effect}
use Rattle.ooo_code.specs.declared.activation.Effect.TheVariants as effect
use Rattle.ooo_channels.specs.declared.notices.Notice.{Notice}
use Rattle.ooo_channels.specs.declared.notices.Notice.TheVariants as notice
use Rattle.ooo_channels.specs.declared.channel.ChannelState.{ChannelState}
use Rattle.ooo_channels.specs.declared.channel.ChannelState.TheVariants as state
use Rattle.ooo_channels.specs.Operations.{Operations, after_effect, after_effects, is_on, is_call_on}
use Rattle.ooo_channels.specs.Room.{HasNoticeRoom, HasRoom, count}
use Rattle.ooo_channels.specs.Conditions.{MayApply, MayApplyAll}
use Rattle.ooo_channels.specs.Bank.{BankState, IsBankAfter, Covers, Applies}
use Rattle.ooo_channels.proofs.Banked.{untouched}

-- room for more is room for less
pub HasNoticeRoom-less : (n m : ℕ) (x : Notice) → m ≤ n → HasNoticeRoom n x → HasNoticeRoom m x
HasNoticeRoom-less n m (notice.Kept x) le room = omega (arith, le, room)
HasNoticeRoom-less n m notice.Absent le room = tt

pub HasRoom-less : (n m : ℕ) (s : ChannelState) → m ≤ n → HasRoom n s → HasRoom m s
HasRoom-less n m (state.Signal s) le room = record {
  past = omega (arith, room.past);
  history = omega (arith, room.history);
  changes = HasNoticeRoom-less n m s.changes le room.changes;
  rises = HasNoticeRoom-less n m s.rises le room.rises;
  falls = HasNoticeRoom-less n m s.falls le room.falls;
}
HasRoom-less n m (state.Fifo s) le room = record {
  history = omega (arith, room.history);
  values = omega (arith, room.values);
  puts = HasNoticeRoom-less n m s.puts le room.puts;
  takes = HasNoticeRoom-less n m s.takes le room.takes;
}

count-first : (test : Effect → Bool) (f : Effect) (fs : List Effect) → count test (f ∷ []) ≤ count test (f ∷ fs)
count-first test f fs = go (test f) where
  go : (b : Bool) → length (cond b (f ∷ []) []) ≤ length (cond b (f ∷ filter test fs) (filter test fs))
  go true = omega arith
  go false = omega arith

covers_first : (bank : BankState) (f : Effect) (fs : List Effect) → Covers bank (f ∷ fs) → Covers bank (f ∷ [])
covers_first bank f fs room = record {
  channels = λ c s below. HasRoom-less _ _ (get_or bank.channels c s) (count-first (is_on c) f fs) (room.channels c s below);
  events = λ e s below. omega (arith, count-first (is_call_on e) f fs, room.events e s below);
}

-- the first effects of a list have been applied, and the others may be
pub record HasApplied (start now : BankState) (at : Stamp) (effects : List Effect) (i : ℕ) : Type 0 where
  pub room : (more : List Effect) → Covers start (effects ++ more) → Covers now (drop i effects ++ more)
  pub may : (ops : Operations) → IsBankAfter start ops → MayApplyAll ops at effects → MayApplyAll (after_effects at ops (take i effects)) at (drop i effects)
  pub after : (ops : Operations) → IsBankAfter start ops → MayApplyAll ops at effects → IsBankAfter now (after_effects at ops (take i effects))

pub applied_none : (start : BankState) (at : Stamp) (effects : List Effect) → HasApplied start start at effects 0
applied_none start at effects = record { room = λ more room. room; may = λ ops h may. may; after = λ ops h may. h }

module _ (start now : BankState) (at : Stamp) (effects : List Effect) (i : ℕ) (d : Effect) (lt : i < length effects) (h : HasApplied start now at effects i) where
  -- there is room for the next one
  pub next_room : Covers start effects → Covers now (get_or effects i d ∷ [])
  next_room room =
      covers_first now (get_or effects i d) (drop (i + 1) effects)
      (subst (Covers now) (append-nil (drop i effects) ∙ rw add-one (drop-cons effects i d lt)) (h.room [] (subst (Covers start) (sym (append-nil effects)) room)))

  next_cons : drop i effects ≡ get_or effects i d ∷ drop (i + 1) effects
  next_cons = rw add-one (drop-cons effects i d lt)

  -- it may be applied
  pub next_may : (ops : Operations) → IsBankAfter start ops → MayApplyAll ops at effects → MayApply (after_effects at ops (take i effects)) at (get_or effects i d)
  next_may ops was may = (subst (MayApplyAll (after_effects at ops (take i effects)) at) next_cons (h.may ops was may)).0

  more_effects : (ops : Operations) → after_effects at ops (take (i + 1) effects) ≡ after_effect at (after_effects at ops (take i effects)) (get_or effects i d)
  more_effects ops = ap (after_effects at ops) (take_more effects i d lt) ∙ fold-append (after_effect at) ops (take i effects) (get_or effects i d ∷ [])

  pub applied_more : (next : BankState) → Applies now next at (get_or effects i d) → HasApplied start next at effects (i + 1)
  applied_more next applies = record {
    room = λ more room. applies.room (drop (i + 1) effects ++ more) (subst (λ fs. Covers now (fs ++ more)) next_cons (h.room more room));
    may = λ ops was may. subst (λ o. MayApplyAll o at (drop (i + 1) effects)) (sym (more_effects ops)) ((subst (MayApplyAll (after_effects at ops (take i effects)) at) next_cons (h.may ops was may)).1);
    after = λ ops was may. subst (IsBankAfter next) (sym (more_effects ops)) (applies.after (after_effects at ops (take i effects)) (h.after ops was may) (next_may ops was may));
  }

module _ (start now : BankState) (at : Stamp) (effects : List Effect) (i : ℕ) (le : length effects ≤ i) (h : HasApplied start now at effects i) where
  pub applied_all : (ops : Operations) → IsBankAfter start ops → MayApplyAll ops at effects → IsBankAfter now (after_effects at ops effects)
  applied_all ops was may = subst (λ fs. IsBankAfter now (after_effects at ops fs)) (take_all i effects le) (h.after ops was may)

  pub room_after : (more : List Effect) → Covers start (effects ++ more) → Covers now more
  room_after more room = subst (λ fs. Covers now (fs ++ more)) (none effects i le) (h.room more room) where
    none : (fs : List Effect) (j : ℕ) → length fs ≤ j → drop j fs ≡ []
    none fs j below = drop_of_length-le fs below

-- sc_stop changes nothing
pub applies_nothing : (bank : BankState) (at : Stamp) → Applies bank bank at effect.Stop
applies_nothing bank at = record {
  after = λ ops h may. untouched bank.channels bank.kinds bank.events bank.below ops at effect.Stop h (λ d. refl) (λ e. refl);
  room = λ more room. record { channels = room.channels; events = room.events };
}
