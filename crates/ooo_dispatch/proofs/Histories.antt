-- The histories of channels: what the operations of a log make of them, and what the update of a cycle adds.
use Rattle.std.proofs.Common.{◌≡◌, ℕ, zero, suc, ◌<◌, ⊎_elim, List, [], ◌∷◌, ◌++◌, length, Bool, true, false, not, if◌then◌else◌, append-nil, refl, sym, ap, ◌∙◌, subst, arith}
use Rattle.ooo_time.specs.declared.stamp.Stamp.{Stamp}
use Rattle.ooo_time.specs.declared.time.Time.{Time}
use Rattle.ooo_time.specs.Stamps.{IsBefore, is_before}
use Rattle.ooo_code.specs.declared.activation.Effect.{Effect}
use Rattle.ooo_code.specs.declared.activation.Effect.TheVariants as effect
use Rattle.ooo_code.specs.Channels.{Channel, IsSignal, IsFifo, next_value, updated}
use Rattle.ooo_history.specs.declared.run.Entry.{Entry}
use Rattle.ooo_history.specs.declared.run.What.TheVariants.{Changed}
use Rattle.ooo_meaning.specs.World.{World, apply, apply_all, channel_at, entries_of, longer_histories, next_delta, same_stamp}
use Rattle.ooo_channels.specs.Agreement.{AreAlike, core, history_at}
use Rattle.ooo_channels.specs.Cycles.{Cycle, cycle_after, cycle_at, cycle_step, later_channel, whole_history}
use Rattle.ooo_channels.specs.Operations.{is_on}
use Rattle.ooo_dispatch.specs.Rules.{Rules}
use Rattle.ooo_dispatch.proofs.Cores.{same_self}
use Rattle.ooo_dispatch.proofs.Shown.{here_now, moved, next_cycle, step_off}
use Rattle.ooo_dispatch.proofs.Stamps.{before_no, before_yes, compare, irreflexive}

-- the histories of a design's channels are these
pub record AreHistories (r : Rules) (hs : List (List Entry)) (of : ℕ → List Entry) : Type 0 where
  pub count : length hs ≡ length r.design.channels
  pub each : (c : ℕ) → c < length r.design.channels → history_at hs c ≡ of c

-- ---- what an update adds

entries_core : (s : Stamp) (x : Channel) → entries_of s x ≡ entries_of s (core x)
entries_core s (IsSignal x) = refl
entries_core s (IsFifo f) = refl

entries_alike : (s : Stamp) (now : Time) (x y : Channel) → AreAlike now x y → entries_of s x ≡ entries_of s y
entries_alike s now x y h = entries_core s x ∙ ap (entries_of s) h.core ∙ sym (entries_core s y)

-- where nothing was done since the last one, nothing
entries_updated : (s : Stamp) (t : Time) (x : Channel) → entries_of s (updated t x) ≡ []
entries_updated s t (IsSignal x) = ap (λ b. if not b then record { stamp = s; what = Changed; value = next_value x } ∷ [] else []) (same_self (next_value x))
entries_updated s t (IsFifo f) = refl

entries_later : (s u : Stamp) (x : Cycle) → entries_of s (later_channel u x) ≡ []
entries_later s u x = at (same_stamp u (next_delta x.stamp))
  where
    at : (b : Bool) → entries_of s (if b then updated x.stamp.time x.channel else updated u.time (updated x.stamp.time x.channel)) ≡ []
    at true = entries_updated s x.stamp.time x.channel
    at false = entries_updated s u.time (updated x.stamp.time x.channel)

pub history_grown : (s : Stamp) (cs : List Channel) (hs : List (List Entry)) (c : ℕ) → c < length cs → c < length hs → history_at (longer_histories s cs hs) c ≡ history_at hs c ++ entries_of s (channel_at cs c)
history_grown s [] hs c a b = absurd (omega (arith, a))
history_grown s (x ∷ cs) [] c a b = absurd (omega (arith, b))
history_grown s (x ∷ cs) (h ∷ hs) zero a b = refl
history_grown s (x ∷ cs) (h ∷ hs) (suc c) a b = history_grown s cs hs c (omega (arith, a)) (omega (arith, b))

pub grown_count : (s : Stamp) (cs : List Channel) (hs : List (List Entry)) → length (longer_histories s cs hs) ≡ length hs
grown_count s [] hs = refl
grown_count s (x ∷ cs) [] = refl
grown_count s (x ∷ cs) (h ∷ hs) = ap suc (grown_count s cs hs)

-- ---- what effects add: nothing

pub kept_histories : (w : World) (fs : List Effect) → (apply_all w fs).histories ≡ w.histories
kept_histories w [] = refl
kept_histories w (effect.Request c v ∷ fs) = kept_histories (apply w (effect.Request c v)) fs
kept_histories w (effect.Put c v ∷ fs) = kept_histories (apply w (effect.Put c v)) fs
kept_histories w (effect.Take c ∷ fs) = kept_histories (apply w (effect.Take c)) fs
kept_histories w (effect.Notify e k ∷ fs) = kept_histories (apply w (effect.Notify e k)) fs
kept_histories w (effect.Cancel e ∷ fs) = kept_histories (apply w (effect.Cancel e)) fs
kept_histories w (effect.Stop ∷ fs) = kept_histories (apply w effect.Stop) fs

-- of the cycle of a stamp, once it is there
stays_history : (s : Stamp) (y : Cycle) → is_before y.stamp s ≡ false → (cycle_at s y).history ≡ y.history
stays_history s y e = ap (λ b. (let z : Cycle = if b then next_cycle s y else y in z.history)) e

pub moved_history : (s : Stamp) (c : ℕ) (fs : List Effect) (x : Cycle) → (cycle_at s (moved s c fs x)).history ≡ (cycle_at s x).history
moved_history s c [] x = refl
moved_history s c (f ∷ fs) x = moved_history s c fs (cycle_step c x (record { at = s; effect = f })) ∙ at (is_on c f) refl
  where
    at : (b : Bool) → is_on c f ≡ b → (cycle_at s (cycle_step c x (record { at = s; effect = f }))).history ≡ (cycle_at s x).history
    at true on =
        ap (λ y. (cycle_at s y).history) (ap (λ b. if b then cycle_after x (record { at = s; effect = f }) else x) on)
        ∙ stays_history s (cycle_after x (record { at = s; effect = f })) (here_now s x)
    at false off = ap (λ y. (cycle_at s y).history) (step_off s c f x off)

-- ---- the end of a cycle

-- a later cycle's history is the whole of the channel's so far
pub history_later : (s : Stamp) (x : Cycle) → IsBefore x.stamp s → (cycle_at s x).history ≡ whole_history x
history_later s x lt = ap (λ b. (let z : Cycle = if b then next_cycle s x else x in z.history)) (before_yes x.stamp s lt)

-- what the update in the cycle of a stamp makes of a channel's history, where that and the channel are as the operations say
module _ (now : Stamp) (x : Cycle) (by : IsBefore now x.stamp → ⊥) (y : Channel) (alike : AreAlike now.time (cycle_at now x).channel y) where
  now_is : (b : Bool) → is_before x.stamp now ≡ b → cycle_at now x ≡ (if b then next_cycle now x else x)
  now_is b e = ap (λ t. if t then next_cycle now x else x) e

  pub history_updated : (cycle_at now x).history ++ entries_of now y ≡ whole_history x
  history_updated = ⊎_elim earlier (λ k. ⊎_elim here (λ lt. absurd (by lt)) k) (compare x.stamp now)
    where
      earlier : IsBefore x.stamp now → (cycle_at now x).history ++ entries_of now y ≡ whole_history x
      earlier lt =
          let is : cycle_at now x ≡ next_cycle now x = now_is true (before_yes x.stamp now lt) in
          ap (λ h. h ++ entries_of now y) (history_later now x lt)
          ∙ ap (λ es. whole_history x ++ es) (sym (entries_alike now now.time (cycle_at now x).channel y alike) ∙ ap (λ z. entries_of now z.channel) is ∙ entries_later now now x)
          ∙ append-nil (whole_history x)

      here : x.stamp ≡ now → (cycle_at now x).history ++ entries_of now y ≡ whole_history x
      here e =
          let is : cycle_at now x ≡ x = now_is false (before_no x.stamp now (λ k. irreflexive now (subst (λ t. IsBefore t now) e k))) in
          ap (λ h. h ++ entries_of now y) (ap (λ z. z.history) is)
          ∙ ap (λ es. x.history ++ es) (sym (entries_alike now now.time (cycle_at now x).channel y alike) ∙ ap (λ z. entries_of now z.channel) is ∙ ap (λ t. entries_of t x.channel) (sym e))
