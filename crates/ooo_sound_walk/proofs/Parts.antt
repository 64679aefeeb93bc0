-- The variables, channels and events of a walk are right.
use Rattle.std.proofs.Common.{◌≡◌, ◌∙◌, refl, sym, ap, subst, arith, ℕ, suc, ◌+◌, ◌<◌, List, [], ◌∷◌, ◌++◌, length, length-append, true, Option, Some, None}
use Rattle.std.specs.Prelude.{All, IsSome, slice_get, if◌then◌else◌}
use Rattle.std.proofs.lemmas.List.Elements.{All-append, All-push, All-nil, All-cons, All-set, All-weaker, All-contains}
use Rattle.ooo_lemmas.proofs.Contained.{contains_at}
use Rattle.ooo_lemmas.proofs.Placed.{kept_at, at_end}
use Rattle.ooo_value.specs.declared.bound.BoundChannel.{BoundChannel}
use Rattle.ooo_value.specs.declared.bound.BoundEvent.{BoundEvent}
use Rattle.ooo_value.specs.declared.bound.BoundEvent.TheVariants as event
use Rattle.ooo_value.specs.declared.bound.BoundVariable.{BoundVariable}
use Rattle.ooo_value.specs.declared.bound.ChannelKind.{ChannelKind}
use Rattle.ooo_value.specs.declared.bound.ChannelKind.TheVariants as channel
use Rattle.ooo_value.specs.declared.kinds.Kind.{Kind}
use Rattle.ooo_value.specs.declared.kinds.Kind.TheVariants as kind
use Rattle.ooo_code.specs.Sound.{FitsChannel, FitsEvent, FitsVariable, Typed, signal_kind, fifo_kind}
use Rattle.ooo_checked.specs.Things.{is_bool}
use Rattle.ooo_walk.specs.declared.state.Walk.{Walk}
use Rattle.ooo_walk.specs.declared.state.WalkedChannel.{WalkedChannel}
use Rattle.ooo_walk.specs.States.{channel_events}
use Rattle.ooo_sound_walk.specs.Parts.{FitsWalk, WalksAreRight, bounds_of, last_event}
use Rattle.ooo_sound_walk.proofs.Walked.{IsKept, IsKeptBehind, IsQuiet, walked}

-- ---- lists that grow

-- a test of an option that holds where there is something
pub still : {A : Type 0} (P : Option A → Type 0) → (P None → ⊥) → (xs ys : List A) (i : ℕ) → P (slice_get xs i) → P (slice_get (xs ++ ys) i)
still {A = A} P none xs ys i h = at (slice_get xs i) refl h
  where
    at : (o : Option A) → slice_get xs i ≡ o → P o → P (slice_get (xs ++ ys) i)
    at None is h = absurd (none h)
    at (Some x) is h = subst P (sym (kept_at xs ys i x is)) h

pub bounds_append : (cs ds : List WalkedChannel) → bounds_of (cs ++ ds) ≡ bounds_of cs ++ bounds_of ds
bounds_append [] ds = refl
bounds_append (c ∷ cs) ds = ap (λ bs. c.bound ∷ bs) (bounds_append cs ds)

pub bounds_length : (cs : List WalkedChannel) → length (bounds_of cs) ≡ length cs
bounds_length [] = refl
bounds_length (c ∷ cs) = ap suc (bounds_length cs)

-- ---- events

event_still : (bs cs : List BoundChannel) (e : BoundEvent) → FitsEvent bs e → FitsEvent (bs ++ cs) e
event_still bs cs event.Own h = h
event_still bs cs (event.Changed c) h = still (λ o. IsSome (signal_kind o)) (λ e. absurd cc) bs cs c h
event_still bs cs (event.Rise c) h = still (λ o. signal_kind o ≡ Some kind.Bool) (λ e. absurd cc) bs cs c h
event_still bs cs (event.Fall c) h = still (λ o. signal_kind o ≡ Some kind.Bool) (λ e. absurd cc) bs cs c h
event_still bs cs (event.Written c) h = still (λ o. IsSome (fifo_kind o)) (λ e. absurd cc) bs cs c h
event_still bs cs (event.Taken c) h = still (λ o. IsSome (fifo_kind o)) (λ e. absurd cc) bs cs c h

signal_there : (b : BoundChannel) → b.kind ≡ channel.Signal → signal_kind (Some b) ≡ Some b.value
signal_there b is = ap (λ (k : ChannelKind). let t : Typed = elim k [ channel.Signal ↦ Some b.value | channel.Fifo ↦ None ] in t) is

fifo_there : (b : BoundChannel) → b.kind ≡ channel.Fifo → fifo_kind (Some b) ≡ Some b.value
fifo_there b is = ap (λ (k : ChannelKind). let t : Typed = elim k [ channel.Signal ↦ None | channel.Fifo ↦ Some b.value ] in t) is

changed_fits : (bs : List BoundChannel) (c : ℕ) (j : Kind) → signal_kind (slice_get bs c) ≡ Some j → FitsEvent bs (event.Changed c)
changed_fits bs c j h = subst IsSome (sym h) refl

-- the events of a channel that is there
signal_events : (bs : List BoundChannel) (c : ℕ) (j : Kind) → signal_kind (slice_get bs c) ≡ Some j →
    All (FitsEvent bs) (channel_events channel.Signal j c)
signal_events bs c kind.Bool h =
    All-cons (FitsEvent bs) (event.Changed c) (event.Rise c ∷ event.Fall c ∷ []) (changed_fits bs c kind.Bool h)
    (All-cons (FitsEvent bs) (event.Rise c) (event.Fall c ∷ []) h
    (All-cons (FitsEvent bs) (event.Fall c) [] h (All-nil (FitsEvent bs))))
signal_events bs c kind.Int h =
    All-cons (FitsEvent bs) (event.Changed c) [] (changed_fits bs c kind.Int h) (All-nil (FitsEvent bs))
signal_events bs c kind.Uint h =
    All-cons (FitsEvent bs) (event.Changed c) [] (changed_fits bs c kind.Uint h) (All-nil (FitsEvent bs))
signal_events bs c kind.Long h =
    All-cons (FitsEvent bs) (event.Changed c) [] (changed_fits bs c kind.Long h) (All-nil (FitsEvent bs))
signal_events bs c kind.Ulong h =
    All-cons (FitsEvent bs) (event.Changed c) [] (changed_fits bs c kind.Ulong h) (All-nil (FitsEvent bs))

new_events : (bs : List BoundChannel) (c : ℕ) (b : BoundChannel) (k : ChannelKind) → b.kind ≡ k → slice_get bs c ≡ Some b →
    All (FitsEvent bs) (channel_events k b.value c)
new_events bs c b channel.Signal is at = signal_events bs c b.value (ap signal_kind at ∙ signal_there b is)
new_events bs c b channel.Fifo is at =
    let h : IsSome (fifo_kind (slice_get bs c)) = subst IsSome (sym (ap fifo_kind at ∙ fifo_there b is)) refl in
    All-cons (FitsEvent bs) (event.Written c) (event.Taken c ∷ []) h
    (All-cons (FitsEvent bs) (event.Taken c) [] h (All-nil (FitsEvent bs)))

-- the last event of a channel is one of its own
last_of_signal : (j : Kind) (c : ℕ) → (if is_bool j then 2 else 0) < length (channel_events channel.Signal j c)
last_of_signal kind.Bool c = omega arith
last_of_signal kind.Int c = omega arith
last_of_signal kind.Uint c = omega arith
last_of_signal kind.Long c = omega arith
last_of_signal kind.Ulong c = omega arith

last_is_own : (k : ChannelKind) (j : Kind) (c : ℕ) →
    (elim k [ channel.Signal ↦ if is_bool j then 2 else 0 | channel.Fifo ↦ 1 ]) < length (channel_events k j c)
last_is_own channel.Signal j c = last_of_signal j c
last_is_own channel.Fifo j c = omega arith

more_below : (a b n m : ℕ) → a < b → b + n ≡ m → a < m
more_below a b n m h is = omega (arith, h, is)

-- ---- channels

-- the first events of channels, where there are so many events
abbrev FirstsBelow : ℕ → List WalkedChannel → Type 0
FirstsBelow n cs = All (λ c. c.first_event + last_event c.bound < n) cs

firsts_still : (n m : ℕ) (es : ℕ) (cs : List WalkedChannel) → n + es ≡ m → FirstsBelow n cs → FirstsBelow m cs
firsts_still n m es cs is h =
    All-weaker (λ (c : WalkedChannel). c.first_event + last_event c.bound < n) (λ (c : WalkedChannel). c.first_event + last_event c.bound < m)
    (λ c g. more_below (c.first_event + last_event c.bound) n es m g is) cs h

-- a channel more, with its events
with_one : (w : Walk) (c : WalkedChannel) → FitsChannel c.bound → c.first_event ≡ length w.events → FitsWalk w → FitsWalk (record w {
  channels = w.channels ++ c ∷ [];
  events = w.events ++ channel_events c.bound.kind c.bound.value (length w.channels);
})
with_one w c fits first h =
    let bs = bounds_of w.channels in
    let es = channel_events c.bound.kind c.bound.value (length w.channels) in
    let same : bounds_of (w.channels ++ c ∷ []) ≡ bs ++ c.bound ∷ [] = bounds_append w.channels (c ∷ []) in
    let there : slice_get (bs ++ c.bound ∷ []) (length w.channels) ≡ Some c.bound =
    ap (λ i. slice_get (bs ++ c.bound ∷ []) i) (sym (bounds_length w.channels)) ∙ at_end bs c.bound in
    let longer : length w.events + length es ≡ length (w.events ++ es) = sym (length-append w.events es) in record {
      variables = h.variables;
      channels = subst (All FitsChannel) (sym same) (All-push FitsChannel bs c.bound h.channels fits);
      events = subst (λ xs. All (FitsEvent xs) (w.events ++ es)) (sym same)
          (All-append (FitsEvent (bs ++ c.bound ∷ [])) w.events es
          (All-weaker (FitsEvent bs) (FitsEvent (bs ++ c.bound ∷ [])) (event_still bs (c.bound ∷ [])) w.events h.events)
          (new_events (bs ++ c.bound ∷ []) (length w.channels) c.bound c.bound.kind refl there));
      firsts = All-push (λ (c : WalkedChannel). c.first_event + last_event c.bound < length (w.events ++ es)) w.channels c
          (firsts_still (length w.events) (length (w.events ++ es)) (length es) w.channels longer h.firsts)
          (let last : last_event c.bound < length es = last_is_own c.bound.kind c.bound.value (length w.channels) in
          omega (arith, longer, last, first));
    }

with_own : (w : Walk) → FitsWalk w → FitsWalk (record w { events = w.events ++ event.Own ∷ [] })
with_own w h = record {
  variables = h.variables;
  channels = h.channels;
  events = All-push (FitsEvent (bounds_of w.channels)) w.events event.Own h.events tt;
  firsts = firsts_still _ _ 1 w.channels (sym (length-append w.events (event.Own ∷ []))) h.firsts;
}

with_variables : (w : Walk) (xs : List BoundVariable) → All FitsVariable xs → FitsWalk w → FitsWalk (record w { variables = xs })
with_variables w xs fits h = record { variables = fits; channels = h.channels; events = h.events; firsts = h.firsts }

same_parts : (w w' : Walk) → w'.variables ≡ w.variables → w'.channels ≡ w.channels → w'.events ≡ w.events → FitsWalk w → FitsWalk w'
same_parts w w' vs cs es h = record {
  variables = subst (All FitsVariable) (sym vs) h.variables;
  channels = subst (λ xs. All FitsChannel (bounds_of xs)) (sym cs) h.channels;
  events = rw (cs, es) h.events;
  firsts = rw (cs, es) h.firsts;
}

fits_quiet : IsQuiet FitsWalk
fits_quiet = record {
  refusal = λ w r h. same_parts w _ refl refl refl h;
  objects = λ w n h. same_parts w _ refl refl refl h;
  cells = λ w n h. same_parts w _ refl refl refl h;
  file = λ w ms h. same_parts w _ refl refl refl h;
  stop = λ w t h. same_parts w _ refl refl refl h;
  opens_process = λ w k place function name h. same_parts w _ refl refl refl h;
  resets = λ w x b v is of h. with_variables w _ (All-set FitsVariable w.variables x _
      (record { some = (All-contains FitsVariable w.variables b h.variables (contains_at w.variables x b is)).some; start = of })
      h.variables) h;
  binding = λ w b h. same_parts w _ refl refl refl h;
}

fits_kept : IsKept FitsWalk
fits_kept = record {
  quiet = fits_quiet;
  here = λ w i h. same_parts w _ refl refl refl h;
  variable = λ w x fits h. with_variables w _ (All-push FitsVariable w.variables x h.variables fits) h;
  opens_channel = λ w b is_clock at name fits h.
      with_one w (record { bound = b; is_clock = is_clock; first_event = length w.events; name = name; at = at }) fits refl h;
  clock = λ w half line at name within h. same_parts _ _ refl refl refl (with_one w (record {
    bound = record { kind = channel.Signal; value = kind.Bool; size = 0 };
    is_clock = true;
    first_event = length w.events;
    name = name;
    at = at;
  }) tt refl h);
  port = λ w t at name h. same_parts w _ refl refl refl h;
  opens_event = λ w h. with_own w h;
}

fits_behind : IsKeptBehind FitsWalk
fits_behind w i h = same_parts w _ refl refl refl h

pub walks_fit : WalksAreRight
walks_fit = walked FitsWalk fits_kept fits_behind (record {
  variables = All-nil FitsVariable;
  channels = All-nil FitsChannel;
  events = All-nil (FitsEvent []);
  firsts = All-nil (λ (c : WalkedChannel). c.first_event + last_event c.bound < 0);
})
