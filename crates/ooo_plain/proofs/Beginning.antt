-- The engine as a run starts.
use Rattle.std.proofs.Common.{◌≡◌, ◌≢◌, ℕ, zero, suc, ◌<◌, ◌≤◌, ◌+◌, Bool, true, false, arith, List, [], ◌∷◌, ◌++◌, Option, Some, None, refl, sym, subst, ap, ◌∙◌, get_or, map, set, length, replicate, ⊎_elim}
use Rattle.std.proofs.lemmas.Bool.{cases_eq, cases_lt}
use Rattle.std.proofs.lemmas.List.{length-map, length-set, length-replicate, get_or-map, get_or-set_same, get_or-set_other, ext_get_or, get_or_past}
use Rattle.std.proofs.lemmas.List.Elements.{All-append, All-cons, All-nil, Contains-append_left, Contains-append_right}
use Rattle.std.proofs.lemmas.Option.{get_or_from_slice_get, slice_get_within, slice_get_past}
use Rattle.std.specs.Prelude.{All, Contains, IsSome, is_some, slice_get}
use Rattle.ooo_time.specs.declared.stamp.Stamp.{Stamp}
use Rattle.ooo_time.specs.Stamps.{IsBefore}
use Rattle.ooo_value.specs.declared.bound.BoundChannel.{BoundChannel}
use Rattle.ooo_value.specs.declared.bound.BoundEvent.{BoundEvent}
use Rattle.ooo_value.specs.declared.bound.BoundEvent.TheVariants as event
use Rattle.ooo_events.specs.Slots.{Nothing}
use Rattle.ooo_code.specs.declared.activation.Frame.{Frame}
use Rattle.ooo_code.specs.declared.design.Design.{Design}
use Rattle.ooo_code.specs.declared.design.Proc.{Proc}
use Rattle.ooo_code.specs.Nodes.{first_frame}
use Rattle.ooo_code.specs.Sound.{IsSound, FitsEvent, signal_kind, fifo_kind}
use Rattle.ooo_meaning.specs.World.{World, Wait, wait_at, never, update, zero_stamp, activity}
use Rattle.ooo_meaning.specs.Runs.{first_wait}
use Rattle.ooo_channels.specs.Calls.{channel_of}
use Rattle.ooo_channels.specs.Conditions.{IsCountableStamp}
use Rattle.ooo_channels.specs.Agreement.{Agrees}
use Rattle.ooo_plain.specs.Fitting.{FitsEntry}
use Rattle.ooo_plain.proofs.Order.{IsBefore-irrefl}
use Rattle.ooo_plain.proofs.Opening.{an_element}
use Rattle.ooo_channels.specs.Bank.{BankState, IsBankAfter}
use Rattle.ooo_plain.specs.declared.engine.Engine.{Engine}
use Rattle.ooo_plain.specs.declared.schedule.Awaited.{Awaited}
use Rattle.ooo_plain.specs.declared.schedule.Schedule.{Schedule}
use Rattle.ooo_plain.specs.Agenda.{due_in}
use Rattle.ooo_plain.specs.Schedule.{nothing_awaited, awaited_at, waits_on, lists_of, MayAsk, IsAsked, Waits, IsNew}
use Rattle.ooo_plain.specs.Laws.{Laws}
use Rattle.ooo_plain.specs.Tracking.{will_run, awaited_of, IsPlanned}
use Rattle.ooo_plain.specs.Engine.{AreOf, AreShownChannels, AreChannelEvents, frames_of}
use Rattle.ooo_plain.specs.Starting.{first_world_of, first_operations, AreFirstChannelEvents, AreBegun, AreFirstProcesses, first_cells, Starts}
use Rattle.ooo_plain.proofs.Turning.{has_event, have_events, signal_some}
use Rattle.ooo_plain.proofs.Waits.{due_at}

-- ---- the lists of channels

abbrev no_numbers : List ℕ
no_numbers = []

get_empty : (n i : ℕ) → get_or (replicate n no_numbers) i no_numbers ≡ no_numbers
get_empty zero i = refl
get_empty (suc n) zero = refl
get_empty (suc n) (suc i) = get_empty n i

-- a channel of a kind is there
there : (channels : List BoundChannel) (c : ℕ) → IsSome (signal_kind (slice_get channels c)) → c < length channels
there channels c h = ⊎_elim (λ lt. lt) (λ le. absurd (let no : false ≡ true = sym (ap (λ o. is_some (signal_kind o)) (slice_get_past channels c le)) ∙ h in cc)) (cases_lt c (length channels))

fifo_in : (channels : List BoundChannel) (c : ℕ) → IsSome (fifo_kind (slice_get channels c)) → c < length channels
fifo_in channels c h = ⊎_elim (λ lt. lt) (λ le. absurd (let no : false ≡ true = sym (ap (λ o. is_some (fifo_kind o)) (slice_get_past channels c le)) ∙ h in cc)) (cases_lt c (length channels))

pub events_none : (design : Design) (lists : List (List ℕ)) → lists ≡ replicate (length design.channels) no_numbers → AreFirstChannelEvents design 0 lists
events_none design lists e = record {
  count = ap length e ∙ length-replicate (length design.channels) no_numbers;
  within = λ c. subst (All (λ e. e < length design.events)) (sym (ap (λ xs. get_or xs c []) e ∙ get_empty (length design.channels) c)) (All-nil (λ e. e < length design.events));
  all = λ i k lt. absurd (omega (arith, lt));
}

module _ (design : Design) (e : ℕ) (kind : BoundEvent) (is : slice_get design.events e ≡ Some kind) (old new : List (List ℕ)) (so_far : AreFirstChannelEvents design e old) where
  same_kind : (i : ℕ) (k : BoundEvent) → i ≡ e → slice_get design.events i ≡ Some k → kind ≡ k
  same_kind i k same at = let f : Some kind ≡ Some k = sym is ∙ ap (slice_get design.events) (sym same) ∙ at in cc

  pub event_joins : (c : ℕ) → channel_of kind ≡ c → c < length old → new ≡ set old c (get_or old c [] ++ e ∷ []) → AreFirstChannelEvents design (e + 1) new
  event_joins c of lt new_is = record {
    count = ap length new_is ∙ length-set old c _ ∙ so_far.count;
    within = λ b. ⊎_elim
        (λ f. subst (λ x. All (λ i. i < length design.events) (get_or new x [])) (sym f)
        (subst (All (λ i. i < length design.events)) (sym at_c)
        (All-append (λ i. i < length design.events) (get_or old c []) (e ∷ []) (so_far.within c) (All-cons (λ i. i < length design.events) e [] (slice_get_within design.events e kind is) (All-nil (λ i. i < length design.events))))))
        (λ ne. subst (All (λ i. i < length design.events)) (sym (at_other b ne)) (so_far.within b)) (cases_eq b c);
    all = λ i k below at ne. ⊎_elim
        (λ f. subst (λ b. Contains (get_or new b []) i) (sym of ∙ ap channel_of (same_kind i k f at)) (subst (λ xs. Contains xs i) (sym at_c) (Contains-append_right (get_or old c []) (e ∷ []) i (0, omega arith, sym f))))
        (λ nf. earlier i k (so_far.all i k (omega (arith, below, nf)) at ne)) (cases_eq i e);
  } where
    at_c : get_or new c [] ≡ get_or old c [] ++ e ∷ []
    at_c = ap (λ xs. get_or xs c []) new_is ∙ get_or-set_same old c (get_or old c [] ++ e ∷ []) [] lt

    at_other : (b : ℕ) → b ≢ c → get_or new b [] ≡ get_or old b []
    at_other b ne = ap (λ xs. get_or xs b []) new_is ∙ get_or-set_other old c b (get_or old c [] ++ e ∷ []) [] ne

    earlier : (i : ℕ) (k : BoundEvent) → Contains (get_or old (channel_of k) []) i → Contains (get_or new (channel_of k) []) i
    earlier i k h = ⊎_elim
        (λ f. subst (λ b. Contains (get_or new b []) i) (sym f) (subst (λ xs. Contains xs i) (sym at_c) (Contains-append_left (get_or old c []) (e ∷ []) i (subst (λ b. Contains (get_or old b []) i) f h))))
        (λ nf. subst (λ xs. Contains xs i) (sym (at_other (channel_of k) nf)) h) (cases_eq (channel_of k) c)

  -- an event of the model's own stands in no list
  pub own_joins : kind ≡ event.Own → AreFirstChannelEvents design (e + 1) old
  own_joins own = record {
    count = so_far.count;
    within = so_far.within;
    all = λ i k below at ne. ⊎_elim (λ f. absurd (ne (sym (same_kind i k f at) ∙ own))) (λ nf. so_far.all i k (omega (arith, below, nf)) at ne) (cases_eq i e);
  }

-- an event's channel has its list
channel_there : (channels : List BoundChannel) (k : BoundEvent) → k ≢ event.Own → FitsEvent channels k → channel_of k < length channels
channel_there channels event.Own ne h = absurd (ne refl)
channel_there channels (event.Changed c) ne h = there channels c h
channel_there channels (event.Rise c) ne h = there channels c (signal_some _ h)
channel_there channels (event.Fall c) ne h = there channels c (signal_some _ h)
channel_there channels (event.Written c) ne h = fifo_in channels c h
channel_there channels (event.Taken c) ne h = fifo_in channels c h

pub list_there : (design : Design) (sound : IsSound design) (e : ℕ) (kind : BoundEvent) → slice_get design.events e ≡ Some kind → (c : ℕ) → channel_of kind ≡ c → kind ≢ event.Own → (old : List (List ℕ)) → AreFirstChannelEvents design e old → c < length old
list_there design sound e kind is c of ne old h =
    let fits = subst (FitsEvent design.channels) (get_or_from_slice_get design.events e kind kind is) (sound.events e kind (slice_get_within design.events e kind is)) in
    let l = channel_there design.channels kind ne fits in let n = h.count in omega (arith, l, n, of)

pub events_all : (design : Design) (n : ℕ) (lists : List (List ℕ)) → length design.events ≤ n → AreFirstChannelEvents design n lists → AreChannelEvents design lists
events_all design n lists le h = record { count = h.count; within = h.within; all = λ e k is ne. h.all e k (let l = slice_get_within design.events e k is in omega (arith, l, le)) is ne }

-- ---- who is due, and who waits

pub get_same : {A : Type 0} (n i : ℕ) (x : A) → get_or (replicate n x) i x ≡ x
get_same zero i x = refl
get_same (suc n) zero x = refl
get_same (suc n) (suc i) x = get_same n i x

pub begun_none : (design : Design) (s : Schedule) → IsNew (length design.processes) (length design.events) s → AreBegun design 0 s
begun_none design s h = record {
  count = ap length h.agenda ∙ length-replicate {A = Option Stamp} (length design.processes) None;
  dues = λ q lt. absurd (omega (arith, lt));
  awaited = λ q lt. absurd (omega (arith, lt));
  known = λ q. subst (λ x. All (λ e. e < length s.waiters.items) x.events) (sym (at q)) (All-nil (λ e. e < length s.waiters.items));
  knows = record {
    count = ap length h.agenda ∙ length-replicate {A = Option Stamp} (length design.processes) None ∙ sym (ap length h.awaited ∙ length-replicate (length design.processes) nothing_awaited);
    all = λ p e y. absurd (let no : false ≡ true = sym (ap (waits_on e) (at p)) ∙ y in cc);
    within = λ e. subst (All (λ q. q < length s.awaited.items)) (sym (ap (λ ws. get_or ws e []) h.waiters ∙ get_empty (length design.events) e)) (All-nil (λ q. q < length s.awaited.items));
  };
  lists = sym (length-map s.waiters.items (λ v. v.items)) ∙ ap length h.waiters ∙ length-replicate (length design.events) no_numbers;
} where
  at : (q : ℕ) → awaited_at s.awaited.items q ≡ nothing_awaited
  at q = ap (λ xs. awaited_at xs q) h.awaited ∙ get_same (length design.processes) q nothing_awaited

abbrev pub wait_of : Proc → Wait
wait_of x = first_wait x.initialize x.sensitive

module _ (laws : Laws) (design : Design) (sound : IsSound design) (p : ℕ) (x : Proc) (lt : p < length design.processes) (is : x ≡ get_or design.processes p x) (old : Schedule) (h : AreBegun design p old) where
  abbrev w0 : World
  w0 = first_world_of design

  of0 : AreOf design (first_operations design)
  of0 = record { channels = refl; events = refl }

  wait_p : wait_at w0.waits p ≡ wait_of x
  wait_p = get_or-map wait_of design.processes p x never lt ∙ ap wait_of (sym is)

  sensitive_known : All (λ e. e < length design.events) x.sensitive
  sensitive_known = subst (λ y. All (λ e. e < length design.events) y.sensitive) (sym is) (sound.processes p x lt).events

  below_p : (q : ℕ) → q < p + 1 → q ≢ p → q < p
  below_p q l ne = omega (arith, l, ne)

  pub begun_awake : x.initialize ≡ true → (new : Schedule) → new ≡ record old { agenda = new.agenda } → new.agenda ≡ set old.agenda p (Some zero_stamp) → AreBegun design (p + 1) new
  begun_awake init new rest agenda = subst (AreBegun design (p + 1)) (sym rest) (record {
    count = ap length agenda ∙ length-set old.agenda p (Some zero_stamp) ∙ h.count;
    dues = λ q l. ⊎_elim
        (λ e. subst (λ i. due_in new.agenda i ≡ will_run zero_stamp (update w0).slots (wait_at w0.waits i)) (sym e)
        (ap (λ a. due_in a p) agenda ∙ get_or-set_same old.agenda p (Some zero_stamp) None (let n = h.count in omega (arith, lt, n)) ∙ sym (ap (will_run zero_stamp (update w0).slots) (wait_p ∙ ap (λ b. first_wait b x.sensitive) init))))
        (λ ne. ap (λ a. due_in a q) agenda ∙ get_or-set_other old.agenda p q (Some zero_stamp) None ne ∙ h.dues q (below_p q l ne)) (cases_eq q p);
    awaited = λ q l r. ⊎_elim
        (λ e. absurd (let no : true ≡ false = sym (ap (λ y. y.runnable) (ap (wait_at w0.waits) e ∙ wait_p ∙ ap (λ b. first_wait b x.sensitive) init)) ∙ r in cc))
        (λ ne. h.awaited q (below_p q l ne) r) (cases_eq q p);
    known = h.known;
    knows = record { count = ap length agenda ∙ length-set old.agenda p (Some zero_stamp) ∙ h.knows.count; all = h.knows.all; within = h.knows.within };
    lists = h.lists;
  })

  module _ (later : x.initialize ≡ false) (bank : BankState) (bank_is : IsBankAfter bank (first_operations design)) where
    abbrev own : Awaited
    own = record { events = x.sensitive; timeout = None }

    waits_p : wait_at w0.waits p ≡ record { runnable = false; events = x.sensitive; timeout = Nothing }
    waits_p = wait_p ∙ ap (λ b. first_wait b x.sensitive) later

    pub may_wait : MayAsk bank x.sensitive (length old.waiters.items)
    may_wait = record {
      asked = record { ops = first_operations design; bank_is = bank_is; known = have_events design sound (first_operations design) of0 (length design.events) refl x.sensitive sensitive_known };
      within = subst (λ n. All (λ e. e < n) x.sensitive) (sym h.lists) sensitive_known;
    }

    pub begun_waits : (hl : Awaited) → hl ≡ own → (new : Schedule) → Waits p hl bank zero_stamp old new → AreBegun design (p + 1) new
    begun_waits hl hl_is new w = record {
      count = ap length w.agenda ∙ length-set old.agenda p w.due ∙ h.count;
      dues = λ q l. ⊎_elim
          (λ e. subst (λ i. due_in new.agenda i ≡ will_run zero_stamp (update w0).slots (wait_at w0.waits i)) (sym e)
          (ap (λ a. due_in a p) w.agenda ∙ get_or-set_same old.agenda p w.due None (let n = h.count in omega (arith, lt, n)) ∙ due_is ∙ sym (ap (will_run zero_stamp (update w0).slots) waits_p)))
          (λ ne. ap (λ a. due_in a q) w.agenda ∙ get_or-set_other old.agenda p q w.due None ne ∙ h.dues q (below_p q l ne)) (cases_eq q p);
      awaited = λ q l r. ⊎_elim
          (λ e. awaited_p q e ∙ sym (ap awaited_of (ap (wait_at w0.waits) e ∙ waits_p)))
          (λ ne. awaited_q q ne ∙ h.awaited q (below_p q l ne) r) (cases_eq q p);
      known = λ q. subst (λ n. All (λ e. e < n) (awaited_at new.awaited.items q).events) (sym w.count) (⊎_elim
          (λ e. subst (λ y. All (λ i. i < length old.waiters.items) y.events) (sym (awaited_p q e)) may_wait.within)
          (λ ne. subst (λ y. All (λ i. i < length old.waiters.items) y.events) (sym (awaited_q q ne)) (h.known q)) (cases_eq q p));
      knows = w.knows;
      lists = w.count ∙ h.lists;
    } where
      awaited_p : (q : ℕ) → q ≡ p → awaited_at new.awaited.items q ≡ own
      awaited_p q e = ap (λ a. awaited_at a q) w.awaited ∙ ap (awaited_at (set old.awaited.items p hl)) e ∙ get_or-set_same old.awaited.items p hl nothing_awaited (let a = h.knows.count in let n = h.count in omega (arith, lt, a, n)) ∙ hl_is

      awaited_q : (q : ℕ) → q ≢ p → awaited_at new.awaited.items q ≡ awaited_at old.awaited.items q
      awaited_q q ne = ap (λ a. awaited_at a q) w.awaited ∙ get_or-set_other old.awaited.items p q hl nothing_awaited ne

      agrees0 : Agrees (first_operations design) w0
      agrees0 = (laws.starts design).0

      due_is : w.due ≡ activity (update w0).slots (record { runnable = false; events = x.sensitive; timeout = Nothing })
      due_is = subst (λ y. IsAsked bank zero_stamp y w.due) hl_is w.asked (first_operations design) bank_is (IsBefore-irrefl zero_stamp) (due_at (update w0).slots)
          (λ k d l. laws.fires (first_operations design) w0 (get_or x.sensitive k d) agrees0 (has_event design sound (first_operations design) of0 (get_or x.sensitive k d) (sensitive_known k d l)))

-- ---- the engine

waits_count : (design : Design) → length (first_world_of design).waits ≡ length design.processes
waits_count design = length-map design.processes wait_of

planned0 : (design : Design) (s : Schedule) → AreBegun design (length design.processes) s → IsPlanned s (first_world_of design)
planned0 design s h = record {
  dues = ext_get_or None s.agenda (map (will_run zero_stamp (update (first_world_of design)).slots) (first_world_of design).waits)
      (h.count ∙ sym (length-map (first_world_of design).waits (will_run zero_stamp (update (first_world_of design)).slots) ∙ waits_count design))
      (λ q lt. h.dues q (let n = h.count in omega (arith, lt, n)) ∙ sym (get_or-map (will_run zero_stamp (update (first_world_of design)).slots) (first_world_of design).waits q never None (let n = h.count in let l = waits_count design in omega (arith, lt, n, l))));
  awaited = λ q r. ⊎_elim
      (λ lt. h.awaited q lt r)
      (λ le. get_or_past s.awaited.items q nothing_awaited (let a = h.knows.count in let n = h.count in omega (arith, le, a, n)) ∙ ap awaited_of (sym (get_or_past (first_world_of design).waits q never (let l = waits_count design in omega (arith, le, l)))))
      (cases_lt q (length design.processes));
  known = h.known;
  knows = h.knows;
}

pub engine_starts : (laws : Laws) (design : Design) (sound : IsSound design) (e : Engine) → AreBegun design (length design.processes) e.schedule → IsBankAfter e.bank (first_operations design) → AreFirstProcesses design.processes e.processes.items
    → AreShownChannels design (length design.processes) (lists_of e.shown_channels.items) → AreChannelEvents design (lists_of e.channel_events.items) → e.variables.items ≡ first_cells design.variables → e.output.items ≡ [] → e.stamp ≡ zero_stamp → e.last ≡ zero_stamp → e.activations ≡ 0 → e.stopped ≡ false → Starts design e
engine_starts laws design sound e begun bank processes names channel_events variables output stamp last activations stopped = record {
  mirrors = record {
    of = record { channels = refl; events = refl };
    agrees = (laws.starts design).0;
    timely = (laws.starts design).1;
    below = subst (λ s. ¬ IsBefore s zero_stamp) (sym stamp) (IsBefore-irrefl zero_stamp);
    bank = bank;
    stamp = sym stamp;
    countable = subst IsCountableStamp (sym stamp) (record { time = omega arith; delta = omega arith });
    variables = sym variables;
    prints = record { output = sym output; activations = sym activations; last = sym last };
    stopped = sym stopped;
    whole = refl;
    stands = record {
      frames_count = ap length processes ∙ length-map design.processes first_frame;
      waits_count = waits_count design;
      ends = refl;
      entries = λ p pr frame at is. entry p pr frame is;
      known = λ p. known p;
    };
    shown_channels = names;
    channel_events = channel_events;
    lists = begun.lists;
  };
  planned = planned0 design e.schedule begun;
  places = processes;
  activations = activations;
} where
  entry : (p : ℕ) (pr : Proc) (frame : Frame) → slice_get (frames_of e) p ≡ Some frame → FitsEntry design pr frame.entry
  entry p pr frame is =
      let lt : p < length design.processes = (let l = slice_get_within (frames_of e) p frame is in let n = ap length processes in let k = length-map design.processes first_frame in omega (arith, l, n, k)) in
      let x : Proc = get_or design.processes p pr in
      let same : first_frame x ≡ frame = sym (get_or-map first_frame design.processes p pr frame lt) ∙ ap (λ xs. get_or xs p frame) (sym processes) ∙ get_or_from_slice_get (frames_of e) p frame frame is in
      subst (λ f. FitsEntry design pr f.entry) same tt

  by_init : (x : Proc) (b : Bool) → All (λ e. e < length design.events) x.sensitive → All (λ e. e < length design.events) (first_wait b x.sensitive).events
  by_init x true h = All-nil (λ e. e < length design.events)
  by_init x false h = h

  known : (p : ℕ) → All (λ e. e < length design.events) (wait_at (first_world_of design).waits p).events
  known p = ⊎_elim
      (λ lt.
      let d : Proc = an_element design.processes p lt in
      let x : Proc = get_or design.processes p d in
      subst (λ y. All (λ e. e < length design.events) y.events) (sym (get_or-map wait_of design.processes p d never lt)) (by_init x x.initialize (sound.processes p d lt).events))
      (λ le. subst (λ y. All (λ e. e < length design.events) y.events) (sym (get_or_past (first_world_of design).waits p never (let l = waits_count design in omega (arith, le, l)))) (All-nil (λ e. e < length design.events)))
      (cases_lt p (length design.processes))
