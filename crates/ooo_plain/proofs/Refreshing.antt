-- Who waits on what effects touched.
use Rattle.std.proofs.Common.{◌≡◌, ◌≢◌, ℕ, ◌<◌, ◌≤◌, ◌+◌, Bool, true, false, arith, List, [], ◌∷◌, ◌++◌, refl, sym, subst, ap, ◌∙◌, get_or, length, take, eqb-true, ⊎_elim}
use Rattle.std.proofs.lemmas.Bool.{or_cases}
use Rattle.std.proofs.lemmas.List.{take_all}
use Rattle.std.proofs.lemmas.List.Folds.{list_any_more}
use Rattle.std.proofs.lemmas.List.Elements.{Contains-append_left, Contains-append_right, All-cons, All-nil}
use Rattle.std.specs.Prelude.{◌⊎◌, Contains}
use Rattle.std.specs.List.{list_any}
use Rattle.ooo_value.specs.declared.bound.BoundEvent.{BoundEvent}
use Rattle.ooo_value.specs.declared.bound.BoundEvent.TheVariants as event
use Rattle.ooo_value.specs.declared.values.Value.{Value}
use Rattle.ooo_time.specs.declared.time.Time.{Time}
use Rattle.ooo_code.specs.declared.activation.Effect.{Effect}
use Rattle.ooo_code.specs.declared.activation.Effect.TheVariants as effect
use Rattle.ooo_code.specs.declared.design.Design.{Design}
use Rattle.ooo_channels.specs.Calls.{bears_on, channel_of}
use Rattle.ooo_plain.specs.declared.engine.Engine.{Engine}
use Rattle.ooo_plain.specs.declared.schedule.Schedule.{Schedule}
use Rattle.ooo_plain.specs.Schedule.{lists_of, Touched, MayAskAll}
use Rattle.ooo_plain.specs.Tracking.{affects}
use Rattle.ooo_plain.specs.Engine.{AreChannelEvents, HasLists, MayRefresh, Refreshed, MayTouch, Touches, events_of_channel}
use Rattle.ooo_plain.proofs.Asking.{touched_none, touched_both, touched_knows, touched_may}

-- an effect on channel c affects events of channel c alone
abbrev IsOfChannel : ℕ → BoundEvent → Type 0
IsOfChannel c k = (k ≢ event.Own) × (channel_of k ≡ c)

abbrev IsOn : ℕ → Effect → Type 0
IsOn c (effect.Request d v) = d ≡ c
IsOn c (effect.Put d v) = d ≡ c
IsOn c (effect.Take d) = d ≡ c
IsOn c _ = ⊥

no : {A : Type 0} → false ≡ true → A
no e = absurd cc

pub on_channel : (c : ℕ) (f : Effect) → ((v : Value) × (f ≡ effect.Request c v)) ⊎ (((v : Value) × (f ≡ effect.Put c v)) ⊎ (f ≡ effect.Take c)) → IsOn c f
on_channel c f is = ⊎_elim (λ request. subst (IsOn c) (sym request.1) refl) (⊎_elim (λ put. subst (IsOn c) (sym put.1) refl) (λ take. subst (IsOn c) (sym take) refl)) is

of_channel : (c e : ℕ) (f : Effect) → IsOn c f → (k : BoundEvent) → affects e k f ≡ true → IsOfChannel c k
of_channel c e (effect.Request d v) on event.Own h = no h
of_channel c e (effect.Request d v) on (event.Changed b) h = ((λ x. cc), eqb-true b d h ∙ on)
of_channel c e (effect.Request d v) on (event.Rise b) h = ((λ x. cc), eqb-true b d h ∙ on)
of_channel c e (effect.Request d v) on (event.Fall b) h = ((λ x. cc), eqb-true b d h ∙ on)
of_channel c e (effect.Request d v) on (event.Written b) h = no h
of_channel c e (effect.Request d v) on (event.Taken b) h = no h
of_channel c e (effect.Put d v) on event.Own h = no h
of_channel c e (effect.Put d v) on (event.Changed b) h = no h
of_channel c e (effect.Put d v) on (event.Rise b) h = no h
of_channel c e (effect.Put d v) on (event.Fall b) h = no h
of_channel c e (effect.Put d v) on (event.Written b) h = ((λ x. cc), eqb-true b d h ∙ on)
of_channel c e (effect.Put d v) on (event.Taken b) h = no h
of_channel c e (effect.Take d) on event.Own h = no h
of_channel c e (effect.Take d) on (event.Changed b) h = no h
of_channel c e (effect.Take d) on (event.Rise b) h = no h
of_channel c e (effect.Take d) on (event.Fall b) h = no h
of_channel c e (effect.Take d) on (event.Written b) h = no h
of_channel c e (effect.Take d) on (event.Taken b) h = ((λ x. cc), eqb-true b d h ∙ on)
of_channel c e (effect.Notify i k) on x h = absurd on
of_channel c e (effect.Cancel i) on x h = absurd on
of_channel c e effect.Stop on x h = absurd on

one : (test : Effect → Bool) (f : Effect) → list_any test (f ∷ []) ≡ true → test f ≡ true
one test f h = ⊎_elim (λ a. a) (λ a. no a) (or_cases (test f) false h)

-- ---- one effect

module _ (design : Design) (old new : Engine) where
  pub may_touch : (f : Effect) (c : ℕ) → MayRefresh design old (f ∷ []) → (HasLists old f → c < length old.channel_events.items) → MayTouch old c
  may_touch f c m is = record {
    within = is (m.lists 0 f (omega arith));
    events = λ k d lt. let h = m.channel_events.within c k d lt in let n = m.count in omega (arith, h, n);
    knows = m.knows;
    may = m.may;
  }

  pub channel_refreshed : (f : Effect) (c : ℕ) → IsOn c f → AreChannelEvents design (lists_of old.channel_events.items) → Touches c old new → Refreshed design (f ∷ []) old new
  channel_refreshed f c on channel_events h = record {
    rest = h.rest;
    events = events_of_channel old c;
    touched = h.touched;
    all = λ e k at any. let is = of_channel c e f on k (one (affects e k) f any) in subst (λ d. Contains (events_of_channel old d) e) is.1 (channel_events.all e k at is.0);
  }

  -- a call on an event affects it alone
  call_affects : (i e : ℕ) (f : Effect) → (f ≡ effect.Cancel i) → (k : BoundEvent) → affects e k f ≡ true → e ≡ i
  call_affects i e f is event.Own h = eqb-true e i (subst (λ g. affects e event.Own g ≡ true) is h)
  call_affects i e f is (event.Changed b) h = no (subst (λ g. bears_on (event.Changed b) g ≡ true) is h)
  call_affects i e f is (event.Rise b) h = no (subst (λ g. bears_on (event.Rise b) g ≡ true) is h)
  call_affects i e f is (event.Fall b) h = no (subst (λ g. bears_on (event.Fall b) g ≡ true) is h)
  call_affects i e f is (event.Written b) h = no (subst (λ g. bears_on (event.Written b) g ≡ true) is h)
  call_affects i e f is (event.Taken b) h = no (subst (λ g. bears_on (event.Taken b) g ≡ true) is h)

  notify_affects : (i e : ℕ) (t : Time) (k : BoundEvent) → affects e k (effect.Notify i t) ≡ true → e ≡ i
  notify_affects i e t event.Own h = eqb-true e i h
  notify_affects i e t (event.Changed b) h = no h
  notify_affects i e t (event.Rise b) h = no h
  notify_affects i e t (event.Fall b) h = no h
  notify_affects i e t (event.Written b) h = no h
  notify_affects i e t (event.Taken b) h = no h

  self_in : (i e : ℕ) → e ≡ i → Contains (i ∷ []) e
  self_in i e is = (0, omega arith, sym is)

  pub cancel_refreshed : (i : ℕ) → new ≡ record old { schedule = new.schedule } → Touched (i ∷ []) old.bank old.stamp old.schedule new.schedule → Refreshed design (effect.Cancel i ∷ []) old new
  cancel_refreshed i rest h = record { rest = rest; events = i ∷ []; touched = h; all = λ e k at any. self_in i e (call_affects i e (effect.Cancel i) refl k (one (affects e k) (effect.Cancel i) any)) }

  pub notify_refreshed : (i : ℕ) (t : Time) → new ≡ record old { schedule = new.schedule } → Touched (i ∷ []) old.bank old.stamp old.schedule new.schedule → Refreshed design (effect.Notify i t ∷ []) old new
  notify_refreshed i t rest h = record { rest = rest; events = i ∷ []; touched = h; all = λ e k at any. self_in i e (notify_affects i e t k (one (affects e k) (effect.Notify i t) any)) }

stop_affects : (e : ℕ) (k : BoundEvent) → affects e k effect.Stop ≡ true → ⊥
stop_affects e event.Own h = no h
stop_affects e (event.Changed b) h = no h
stop_affects e (event.Rise b) h = no h
stop_affects e (event.Fall b) h = no h
stop_affects e (event.Written b) h = no h
stop_affects e (event.Taken b) h = no h

pub stop_refreshed : (design : Design) (old : Engine) → Refreshed design (effect.Stop ∷ []) old old
stop_refreshed design old = record { rest = refl; events = []; touched = touched_none old.bank old.stamp old.schedule; all = λ e k at any. absurd (stop_affects e k (one (affects e k) effect.Stop any)) }

-- ---- one after another

pub refreshed_none : (design : Design) (old : Engine) → Refreshed design [] old old
refreshed_none design old = record { rest = refl; events = []; touched = touched_none old.bank old.stamp old.schedule; all = λ e k at any. no any }

module _ (design : Design) (fs : List Effect) (i : ℕ) (d : Effect) (old mid : Engine) (lt : i < length fs) (h : Refreshed design (take i fs) old mid) where
  pub refreshed_more : (new : Engine) → Refreshed design (get_or fs i d ∷ []) mid new → Refreshed design (take (i + 1) fs) old new
  refreshed_more new k = record {
    rest = k.rest ∙ ap {A = Engine} (λ x. record x { schedule = new.schedule }) h.rest;
    events = h.events ++ k.events;
    touched = touched_both old.bank old.stamp h.events k.events old.schedule mid.schedule new.schedule h.touched
        (subst (λ x. Touched k.events x.bank x.stamp mid.schedule new.schedule) h.rest k.touched);
    all = λ e b at any. ⊎_elim
        (λ a. Contains-append_left h.events k.events e (h.all e b at a))
        (λ a. Contains-append_right h.events k.events e (k.all e b at (single (affects e b) (get_or fs i d) a)))
        (or_cases _ _ (sym (list_any_more (affects e b) fs i d lt) ∙ any));
  } where
    single : (test : Effect → Bool) (f : Effect) → test f ≡ true → list_any test (f ∷ []) ≡ true
    single test f e = rw e refl

  same_lists : (f : Effect) → HasLists old f → HasLists mid f
  same_lists f l = subst (λ x. HasLists x f) (sym h.rest) (go f l)
    where
      waiters : length mid.schedule.waiters.items ≡ length old.schedule.waiters.items
      waiters = ap {A = Schedule} (λ x. length x.waiters.items) h.touched.rest

      go : (f : Effect) → HasLists old f → HasLists (record old { schedule = mid.schedule }) f
      go (effect.Request c v) l = l
      go (effect.Put c v) l = l
      go (effect.Take c) l = l
      go (effect.Notify c k) l = omega (arith, l, waiters)
      go (effect.Cancel c) l = omega (arith, l, waiters)
      go effect.Stop l = l

  pub may_refresh : MayRefresh design old fs → MayRefresh design mid (get_or fs i d ∷ [])
  may_refresh m = record {
    lists = All-cons (HasLists mid) (get_or fs i d) [] (same_lists (get_or fs i d) (m.lists i d lt)) (All-nil (HasLists mid));
    channel_events = subst (λ x. AreChannelEvents design (lists_of x.channel_events.items)) (sym h.rest) m.channel_events;
    count = ap {A = Schedule} (λ x. length x.waiters.items) h.touched.rest ∙ m.count;
    knows = touched_knows old.bank old.stamp h.events old.schedule mid.schedule h.touched m.knows;
    may = subst (λ x. MayAskAll x.bank mid.schedule) (sym h.rest) (touched_may old.bank old.stamp h.events old.schedule mid.schedule h.touched m.may);
  }

pub refreshed_all : (design : Design) (fs : List Effect) (i : ℕ) (old new : Engine) → length fs ≤ i → Refreshed design (take i fs) old new → Refreshed design fs old new
refreshed_all design fs i old new le h = subst (λ gs. Refreshed design gs old new) (take_all i fs le) h
