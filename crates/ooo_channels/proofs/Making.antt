-- A bank as it is made.
use Rattle.std.proofs.Common.{◌≡◌, ℕ, zero, suc, ◌+◌, ◌<◌, ◌++◌, arith, List, [], ◌∷◌, Some, None, refl, ap, sym, subst, ◌∙◌, length, get_or, set, take, length-append}
use Rattle.std.specs.Prelude.{slice_get, All}
use Rattle.std.proofs.lemmas.List.{length-set, take_more}
use Rattle.std.proofs.lemmas.List.Elements.{All-append, All-cons, All-nil}
use Rattle.std.proofs.lemmas.Option.{slice_get_within, slice_get-get_or}
use Rattle.ooo_time.specs.declared.stamp.Stamp.{Stamp}
use Rattle.ooo_value.specs.declared.bound.BoundChannel.{BoundChannel}
use Rattle.ooo_value.specs.declared.bound.ChannelKind.{ChannelKind}
use Rattle.ooo_value.specs.declared.bound.BoundEvent.{BoundEvent}
use Rattle.ooo_value.specs.declared.bound.BoundEvent.TheVariants as event
use Rattle.ooo_events.specs.Events.{EventState, IsEventAfter}
use Rattle.ooo_code.specs.Channels.{Channel}
use Rattle.ooo_channels.specs.declared.channel.ChannelState.{ChannelState}
use Rattle.ooo_meaning.specs.World.{zero_stamp}
use Rattle.ooo_channels.specs.Operations.{no_operations}
use Rattle.ooo_channels.specs.Cycles.{Cycle, first_cycle, first_shown, cycle_of}
use Rattle.ooo_channels.specs.Calls.{notified_by, own_calls}
use Rattle.ooo_channels.specs.Kept.{IsEventKept, IsChannelAfter, ChannelShows, HasKind}
use Rattle.ooo_channels.specs.Bank.{IsBankAfter, IsKeptIn, IsFirst, AreFirst, AreNew}
use Rattle.ooo_channels.proofs.Banked.{set_cases}

-- what holds of each element and of one more
pub each_push : {A : Type 0} (P : ℕ → A → Type 0) (xs ys : List A) (x d : A) → ys ≡ xs ++ x ∷ [] → ((k : ℕ) → k < length xs → P k (get_or xs k d)) → P (length xs) x → (k : ℕ) → k < length ys → P k (get_or ys k d)
each_push P [] ys x d is each last zero lt = subst (λ zs. P 0 (get_or zs 0 d)) (sym is) last
each_push P [] ys x d is each last (suc k) lt = absurd (omega (arith, ap length is))
each_push P (z ∷ zs) ys x d is each last zero lt = subst (λ ws. P 0 (get_or ws 0 d)) (sym is) (each 0 (omega arith))
each_push P (z ∷ zs) ys x d is each last (suc k) lt =
    subst (λ ws. P (suc k) (get_or ws (suc k) d)) (sym is)
    (each_push (λ n. P (suc n)) zs (zs ++ x ∷ []) x d refl (λ n below. each (suc n) (omega arith)) last k (omega (arith, ap length is)))

-- ---- events

pub new_none : (made : List EventState) → made ≡ [] → AreNew 0 made
new_none made is = record { count_is = ap length is; new = λ e d below lt. absurd (omega arith) }

pub new_more :
    (n : ℕ) (made more : List EventState) (x : EventState) → AreNew n made → more ≡ made ++ x ∷ [] →
    x ≡ record { forgotten = None; firings = []; pending = None; last = None; spare = 0 } → IsEventAfter x [] → AreNew (n + 1) more
new_more n made more x h is empty first = record {
  count_is = ap length is ∙ length-append made (x ∷ []) ∙ ap (λ k. k + 1) h.count_is;
  new = λ e d below lt. each_push (λ k a. IsEventKept below a []) made more x d is (λ k within. h.new k d below (omega (arith, within, h.count_is))) (record {
    after = first;
    remembers = λ s later f e. absurd (let none : None ≡ Some f = ap (λ a. a.forgotten) (sym empty) ∙ e in cc);
  }) e (omega (arith, lt, ap length is, length-append made (x ∷ []), h.count_is));
}

-- ---- channels

pub first_none : (channels : List BoundChannel) (made : List ChannelState) → made ≡ [] → AreFirst channels 0 made
first_none channels made is = record { count_is = ap length is; first = λ c d lt. absurd (omega (arith, lt, ap length is)) }

pub first_more :
    (channels : List BoundChannel) (i : ℕ) (b : BoundChannel) (made more : List ChannelState) (x : ChannelState) → i < length channels →
    AreFirst channels i made → more ≡ made ++ x ∷ [] → HasKind (get_or channels i b).kind x →
    ((c : ℕ) (below : Stamp) → IsChannelAfter c below (first_cycle (Some (get_or channels i b))) (λ k. []) x) →
    ((below : Stamp) → ChannelShows below (first_shown (Some (get_or channels i b))) x) →
    AreFirst channels (i + 1) more
first_more channels i b made more x lt h is kind first shows = record {
  count_is = ap length is ∙ length-append made (x ∷ []) ∙ ap (λ k. k + 1) h.count_is;
  first = λ c d within. each_push (IsFirst channels) made more x d is (λ k below. h.first k d below) (subst (λ n. IsFirst channels n x) (sym h.count_is) one) c within;
} where
  there : slice_get channels i ≡ Some (get_or channels i b)
  there = slice_get-get_or channels i b lt

  one : IsFirst channels i x
  one = record {
    kind = λ z e. let same : get_or channels i b ≡ z = cc there in subst (λ y. HasKind y.kind x) same kind;
    first = λ below. subst (λ o. IsChannelAfter i below (first_cycle o) (λ k. []) x) (sym there) (first i below);
    shows = λ below. subst (λ o. ChannelShows below (first_shown o) x) (sym there) (shows below);
  }

-- ---- their events

-- a channel that keeps one of its events besides
pub first_present :
    (channels : List BoundChannel) (n : ℕ) (xs : List ChannelState) (c : ℕ) (s t : ChannelState) → c < length xs → s ≡ get_or xs c s →
    ((k : ChannelKind) → HasKind k s → HasKind k t) →
    ((c : ℕ) (below : Stamp) (x : Cycle) → IsChannelAfter c below x (λ k. []) s → IsChannelAfter c below x (λ k. []) t) →
    ((below : Stamp) (was : Stamp → Channel) → ChannelShows below was s → ChannelShows below was t) →
    AreFirst channels n xs → AreFirst channels n (set xs c t)
first_present channels n xs c s t lt is kind after shows h = record {
  count_is = length-set xs c t ∙ h.count_is;
  first = λ d z within. set_cases (λ j a. j < length xs → IsFirst channels j a) xs c t z lt
      (λ _. one (subst (IsFirst channels c) (sym is) (h.first c s lt))) (λ j ne there. h.first j z there) d (let l = length-set xs c t in omega (arith, within, l));
} where
  one : IsFirst channels c s → IsFirst channels c t
  one was = record { kind = λ b at. kind b.kind (was.kind b at); first = λ below. after c below (first_cycle (slice_get channels c)) (was.first below); shows = λ below. shows below (first_shown (slice_get channels c)) (was.shows below) }

-- the first events of a list are kept
pub present_none : (xs : List ChannelState) (events : List BoundEvent) → All (IsKeptIn xs) (take 0 events)
present_none xs events = All-nil (IsKeptIn xs)

pub present_more :
    (xs ys : List ChannelState) (events : List BoundEvent) (i : ℕ) (d : BoundEvent) → i < length events →
    ((k : BoundEvent) → IsKeptIn xs k → IsKeptIn ys k) → IsKeptIn ys (get_or events i d) →
    All (IsKeptIn xs) (take i events) → All (IsKeptIn ys) (take (i + 1) events)
present_more xs ys events i d lt others one h =
    subst (All (IsKeptIn ys)) (sym (take_more events i d lt))
    (All-append (IsKeptIn ys) (take i events) (get_or events i d ∷ [])
    (λ n e within. others (get_or (take i events) n e) (h n e within))
    (All-cons (IsKeptIn ys) (get_or events i d) [] one (All-nil (IsKeptIn ys))))

-- ---- the bank

pub bank_made :
    (channels : List BoundChannel) (events : List BoundEvent) (xs : List ChannelState) (es : List EventState) →
    AreFirst channels (length channels) xs → AreNew (length events) es → All (IsKeptIn xs) events →
    IsBankAfter (record { channels = xs; kinds = events; events = es; below = zero_stamp }) (no_operations channels events)
unfolding cycle_of notified_by own_calls
bank_made channels events xs es first new present = record {
  channel_count = first.count_is;
  event_count = new.count_is;
  kinds = refl;
  below = refl;
  channel_kinds = λ c d b is. (first.first c d (omega (arith, slice_get_within channels c b is, first.count_is))).kind b is;
  channels = λ c d lt. (first.first c d lt).first zero_stamp;
  shows = λ c d lt. (first.first c d lt).shows zero_stamp;
  events = λ e d own. new.new e d zero_stamp (slice_get_within events e event.Own own);
  present = present;
}

pub stamp_zero : (s : Stamp) → (s.time.0 ≡ 0) × (s.delta ≡ 0) → s ≡ zero_stamp
stamp_zero s h = rw (h.0, h.1) refl
