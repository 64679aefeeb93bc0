-- The schedule: when each process is due, by what it waits for.
use Rattle.std.specs.Prelude.{◌≡◌, ℕ, ◌<◌, ◌≤◌, ◌==◌, ◌⊎◌, Bool, true, false, List, [], ◌∷◌, Option, Some, None, map, length, replicate, slice_index_or, slice_set, take, All, Contains}
use Rattle.std.specs.List.{list_any}
use Rattle.std.specs.Global.{Vec}
use Rattle.ooo_time.specs.declared.stamp.Stamp.{Stamp}
use Rattle.ooo_time.specs.Stamps.{IsBefore}
use Rattle.ooo_events.specs.Firings.{IsFirstAfter}
use Rattle.ooo_meaning.specs.World.{sooner, least}
use Rattle.ooo_channels.specs.Operations.{Operations}
use Rattle.ooo_channels.specs.Calls.{FiresAt}
use Rattle.ooo_channels.specs.Conditions.{HasEventAt}
use Rattle.ooo_channels.specs.Bank.{BankState, IsBankAfter}
use Rattle.ooo_plain.specs.declared.schedule.Awaited.{Awaited}
use Rattle.ooo_plain.specs.declared.schedule.Schedule.{Schedule}
use Rattle.ooo_plain.specs.Agenda.{due_in}

-- ---- what processes wait for

-- a process that waits for nothing
abbrev pub nothing_awaited : Awaited
nothing_awaited = record { events = []; timeout = None }

-- these events, and a time-out
abbrev pub awaited_for : List ℕ → Option Stamp → Awaited
awaited_for events timeout = record { events = events; timeout = timeout }

-- event e alone, without a time-out
abbrev pub alone : ℕ → Awaited
alone e = awaited_for (e ∷ []) None

-- what process p waits for; a process that there isn't waits for nothing
abbrev pub awaited_at : List Awaited → ℕ → Awaited
awaited_at awaited p = slice_index_or awaited p nothing_awaited

-- event e is among those that are waited on
abbrev pub waits_on : ℕ → Awaited → Bool
waits_on e h = list_any (λ i. i == e) h.events

-- the lists of those that may wait on each event
abbrev pub lists_of : List (Vec ℕ) → List (List ℕ)
lists_of lists = map (λ v. v.items) lists

-- those that may wait on event e
abbrev pub waiting_on : Schedule → ℕ → List ℕ
waiting_on s e = slice_index_or (lists_of s.waiters.items) e []

-- who waits on an event stands in its list, and all who stand there are processes
pub record KnowsWaiters (s : Schedule) : Type 0 where
  pub count : length s.agenda ≡ length s.awaited.items
  pub all : (p e : ℕ) → waits_on e (awaited_at s.awaited.items p) ≡ true → Contains (waiting_on s e) p
  pub within : (e : ℕ) → All (λ p. p < length s.awaited.items) (waiting_on s e)

-- ---- as it starts

-- so many processes that wait for nothing
abbrev pub AreIdle : ℕ → List Awaited → Type 0
AreIdle count awaited = awaited ≡ replicate count nothing_awaited

-- so many lists without elements
abbrev pub AreEmpty : ℕ → List (Vec ℕ) → Type 0
AreEmpty count lists = lists_of lists ≡ replicate count []

-- no process is due, and none waits for anything
pub record IsNew (processes events : ℕ) (s : Schedule) : Type 0 where
  pub agenda : s.agenda ≡ replicate processes None
  pub awaited : AreIdle processes s.awaited.items
  pub waiters : AreEmpty events s.waiters.items

-- ---- what the bank is asked

-- the operations of a bank, which has these events
pub record MayAskFor (bank : BankState) (events : List ℕ) : Type 0 where
  pub ops : Operations
  pub bank_is : IsBankAfter bank ops
  pub known : All (HasEventAt ops) events

-- the same, where so many events have lists
pub record MayAsk (bank : BankState) (events : List ℕ) (count : ℕ) : Type 0 where
  pub asked : MayAskFor bank events
  pub within : All (λ e. e < count) events

-- the bank has the events that any process waits on
pub record MayAskAll (bank : BankState) (s : Schedule) : Type 0 where
  pub ops : Operations
  pub bank_is : IsBankAfter bank ops
  pub known : (p : ℕ) → All (HasEventAt ops) (awaited_at s.awaited.items p).events

-- when a process is due that waits so: at the earliest of its time-out and, for each event, its first firing after now
abbrev pub IsDueBy : Operations → Stamp → Awaited → Option Stamp → Type 0
IsDueBy ops now h due =
    (first : ℕ → Option Stamp) → All (λ e. IsFirstAfter (FiresAt ops e) now (first e)) h.events → due ≡ sooner h.timeout (least (map first h.events))

-- so it is by whatever operations were applied to the bank
abbrev pub IsAsked : BankState → Stamp → Awaited → Option Stamp → Type 0
IsAsked bank now h due = (ops : Operations) → IsBankAfter bank ops → ¬ IsBefore now ops.below → IsDueBy ops now h due

-- the least of the first firings of these events
abbrev pub IsLeastOf : BankState → Stamp → List ℕ → Option Stamp → Type 0
IsLeastOf bank now events found =
    (ops : Operations) → IsBankAfter bank ops → ¬ IsBefore now ops.below → (first : ℕ → Option Stamp) → All (λ e. IsFirstAfter (FiresAt ops e) now (first e)) events → found ≡ least (map first events)

-- ---- what is done

-- a process was put to those that may wait on these events
pub record Joined (p : ℕ) (events : List ℕ) (old new : Schedule) : Type 0 where
  pub rest : new ≡ record old { waiters = new.waiters }
  pub count : length new.waiters.items ≡ length old.waiters.items
  pub kept : (i q : ℕ) → Contains (waiting_on old i) q → Contains (waiting_on new i) q
  pub added : (i : ℕ) → Contains events i → Contains (waiting_on new i) p
  pub within : (n : ℕ) → p < n → ((i : ℕ) → All (λ q. q < n) (waiting_on old i)) → (i : ℕ) → All (λ q. q < n) (waiting_on new i)

-- a process waits on these events from now on, and stands among those that may
pub record Listens (p : ℕ) (events : List ℕ) (old new : Schedule) : Type 0 where
  pub rest : new ≡ record old { awaited = new.awaited; waiters = new.waiters }
  pub joined : Joined p events old (record old { waiters = new.waiters })
  pub awaited : new.awaited.items ≡ slice_set old.awaited.items p (awaited_for events (awaited_at old.awaited.items p).timeout)

-- a process waits so from now on, and is due when the bank says
pub record Waits (p : ℕ) (h : Awaited) (bank : BankState) (now : Stamp) (old new : Schedule) : Type 0 where
  pub awaited : new.awaited.items ≡ slice_set old.awaited.items p h
  pub due : Option Stamp
  pub agenda : new.agenda ≡ slice_set old.agenda p due
  pub asked : IsAsked bank now h due
  pub knows : KnowsWaiters new
  pub count : length new.waiters.items ≡ length old.waiters.items

-- a process is due now still, or it was asked anew
abbrev pub AskedAnew : BankState → Stamp → Awaited → Option Stamp → Option Stamp → Type 0
AskedAnew bank now h old new = (¬ (old ≡ Some now) × IsAsked bank now h new) ⊎ ((new ≡ old) × (old ≡ Some now))

-- one process was
pub record RefreshedOne (q : ℕ) (bank : BankState) (now : Stamp) (old new : Schedule) : Type 0 where
  pub rest : new ≡ record old { agenda = new.agenda }
  pub due : Option Stamp
  pub agenda : new.agenda ≡ slice_set old.agenda q due
  pub asked : AskedAnew bank now (awaited_at old.awaited.items q) (due_in old.agenda q) due

-- each process was, or its stamp stays and it waits on none of these events
pub record Touched (events : List ℕ) (bank : BankState) (now : Stamp) (old new : Schedule) : Type 0 where
  pub rest : new ≡ record old { agenda = new.agenda }
  pub count : length new.agenda ≡ length old.agenda
  pub each : (p : ℕ) → p < length old.agenda → AskedAnew bank now (awaited_at old.awaited.items p) (due_in old.agenda p) (due_in new.agenda p) ⊎ ((due_in new.agenda p ≡ due_in old.agenda p) × ((e : ℕ) → Contains events e → waits_on e (awaited_at old.awaited.items p) ≡ false))

-- the first n that may wait on an event were asked anew
pub record TouchedSoFar (e n : ℕ) (bank : BankState) (now : Stamp) (old new : Schedule) : Type 0 where
  pub rest : new ≡ record old { agenda = new.agenda }
  pub count : length new.agenda ≡ length old.agenda
  pub each : (p : ℕ) → p < length old.agenda → AskedAnew bank now (awaited_at old.awaited.items p) (due_in old.agenda p) (due_in new.agenda p) ⊎ ((due_in new.agenda p ≡ due_in old.agenda p) × ¬ Contains (take n (waiting_on old e)) p)

-- the first n that may wait on an event were; where there are more, the bank has the event
pub record TouchedOthers (e n : ℕ) (bank : BankState) (now : Stamp) (old new : Schedule) : Type 0 where
  pub so_far : TouchedSoFar e n bank now old new
  pub within : n ≤ length (waiting_on old e)
  pub known : n < length (waiting_on old e) → MayAskFor bank (e ∷ [])
