-- The entries of a history that are before a stamp.
use Rattle.std.proofs.Common.{◌≡◌, ℕ, ◌-◌, ◌++◌, Bool, true, false, cond, List, [], ◌∷◌, Option, refl, ap, sym, ◌∙◌, append_assoc, length, take, drop, map}
use Rattle.std.proofs.lemmas.List.Elements.{filter-append}
use Rattle.ooo_time.specs.declared.stamp.Stamp.{Stamp}
use Rattle.ooo_value.specs.declared.values.Value.{Value}
use Rattle.ooo_code.specs.Channels.{Channel, IsSignal, IsFifo, changes}
use Rattle.ooo_history.specs.declared.run.Entry.{Entry}
use Rattle.ooo_history.specs.declared.run.What.{What}
use Rattle.ooo_meaning.specs.World.{entries_of}
use Rattle.ooo_channels.specs.declared.fifo.FifoState.{FifoState}
use Rattle.ooo_channels.specs.Cycles.{Cycle, whole_history}
use Rattle.ooo_channels.specs.Entries.{took_entry, put_entry, is_within, entries_before}
use Rattle.ooo_channels.specs.Kept.{IsFifoIn}
use Rattle.ooo_channels.proofs.Fifos.{entries-fifo, written_last}

-- ---- the entries of one update, which are at one stamp

module _ (before : Option Stamp) (s : Stamp) where
  -- all of them are before it, or none
  pub before_values : (w : What) (vs : List Value) →
      entries_before before (map (λ v. record { stamp = s; what = w; value = v }) vs) ≡ cond (is_within before s) (map (λ v. record { stamp = s; what = w; value = v }) vs) []
  before_values w vs = go (is_within before s) refl vs where
    go : (b : Bool) → is_within before s ≡ b → (vs : List Value) →
        entries_before before (map (λ v. record { stamp = s; what = w; value = v }) vs) ≡ cond b (map (λ v. record { stamp = s; what = w; value = v }) vs) []
    go true e [] = refl
    go false e [] = refl
    go true e (v ∷ vs) = rw e (ap (λ es. record { stamp = s; what = w; value = v } ∷ es) (go true e vs))
    go false e (v ∷ vs) = rw e (go false e vs)

  both : (b : Bool) (xs ys : List Entry) → cond b xs [] ++ cond b ys [] ≡ cond b (xs ++ ys) []
  both true xs ys = refl
  both false xs ys = refl

  before_change : (b c : Bool) (e : Entry) → is_within before e.stamp ≡ b → entries_before before (cond c (e ∷ []) []) ≡ cond b (cond c (e ∷ []) []) []
  before_change true true e is = rw is refl
  before_change false true e is = rw is refl
  before_change true false e is = refl
  before_change false false e is = refl

  before_entries : (x : Channel) → entries_before before (entries_of s x) ≡ cond (is_within before s) (entries_of s x) []
  before_entries (IsSignal x) = before_change (is_within before s) (changes x) _ refl
  before_entries (IsFifo f) =
      filter-append (λ x. is_within before x.stamp) (map (took_entry s) (take f.read f.held)) (map (put_entry s) f.written)
      ∙ ap (λ es. es ++ entries_before before (map (put_entry s) f.written)) (before_values _ (take f.read f.held))
      ∙ ap (λ es. cond (is_within before s) (map (took_entry s) (take f.read f.held)) [] ++ es) (before_values _ f.written)
      ∙ both (is_within before s) (map (took_entry s) (take f.read f.held)) (map (put_entry s) f.written)

-- ---- the history of a channel

pub before_whole : (before : Option Stamp) (x : Cycle) → entries_before before (whole_history x) ≡ entries_before before x.history ++ cond (is_within before x.stamp) (entries_of x.stamp x.channel) []
before_whole before x =
    filter-append (λ e. is_within before e.stamp) x.history (entries_of x.stamp x.channel)
    ∙ ap (λ es. entries_before before x.history ++ es) (before_entries before x.stamp x.channel)

-- a copy of the entries that are kept, and of the values that were written in the cycle
pub fifo_copied :
    (before : Option Stamp) (s : FifoState) (x : Cycle) (n : ℕ) (b : Bool) (copied h : List Entry) → IsFifoIn s x → n ≡ length s.values.items → b ≡ is_within before s.stamp →
    copied ≡ entries_before before s.history.items →
    h ≡ copied ++ cond b (map (put_entry s.stamp) (drop (n - s.written) s.values.items)) [] →
    h ≡ entries_before before (whole_history x)
fifo_copied before s x n b copied h kept count told front is =
    is
    ∙ ap (λ k. copied ++ cond b (map (put_entry s.stamp) (drop (k - s.written) s.values.items)) []) count
    ∙ ap (λ a. copied ++ cond a (map (put_entry s.stamp) (drop (length s.values.items - s.written) s.values.items)) []) told
    ∙ ap (λ es. es ++ cond (is_within before s.stamp) (map (put_entry s.stamp) (drop (length s.values.items - s.written) s.values.items)) []) front
    ∙ ap (λ vs. entries_before before s.history.items ++ cond (is_within before s.stamp) (map (put_entry s.stamp) vs) []) (written_last s x kept)
    ∙ ap (λ (t : Stamp). entries_before before s.history.items ++ cond (is_within before t) (map (put_entry t) kept.fifo.written) []) kept.stamp
    ∙ ap (λ es. entries_before before s.history.items ++ es) (sym (before_values before x.stamp _ kept.fifo.written))
    ∙ sym (filter-append (λ e. is_within before e.stamp) s.history.items (map (put_entry x.stamp) kept.fifo.written))
    ∙ ap (entries_before before) whole
  where
    whole : s.history.items ++ map (put_entry x.stamp) kept.fifo.written ≡ whole_history x
    whole =
        ap (λ es. es ++ map (put_entry x.stamp) kept.fifo.written) kept.history
        ∙ append_assoc x.history _ _
        ∙ ap (λ es. x.history ++ es) (sym (entries-fifo x kept.fifo kept.channel))
