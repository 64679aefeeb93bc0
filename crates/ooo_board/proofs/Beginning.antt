-- A board as it starts: its processes, with their first segments.
use Rattle.std.proofs.Common.{◌≡◌, ℕ, zero, suc, ◌+◌, ◌<◌, ◌≤◌, ◌&&◌, ◌==◌, List, [], ◌∷◌, ◌++◌, Bool, true, false, Option, Some, None, length, get_or, map, replicate, if◌then◌else◌, refl, sym, ap, subst, ◌∙◌, arith, eq-eqb, inl, ⊎_elim}
use Rattle.std.specs.Prelude.{slice_get}
use Rattle.std.specs.List.{position_or_len}
use Rattle.std.proofs.lemmas.Bool.{eqb-true}
use Rattle.std.proofs.lemmas.List.{get_or-map, get_or_past, length-append, length-map, length-replicate}
use Rattle.std.proofs.lemmas.Option.{get_or_from_slice_get, slice_get_cases, slice_get_past}
use Rattle.ooo_lemmas.proofs.Placed.{at_push, behind_at, replicated}
use Rattle.ooo_time.specs.declared.stamp.Stamp.{Stamp}
use Rattle.ooo_time.specs.Scales.{greatest_delta}
use Rattle.ooo_time.specs.Stamps.{is_before}
use Rattle.ooo_value.specs.declared.bound.BoundVariable.{BoundVariable}
use Rattle.ooo_value.specs.declared.values.Value.{Value}
use Rattle.ooo_code.specs.declared.design.Design.{Design}
use Rattle.ooo_code.specs.declared.design.Proc.{Proc}
use Rattle.ooo_code.specs.declared.limits.Limits.{Limits}
use Rattle.ooo_code.specs.declared.segment.Segment.{Segment}
use Rattle.ooo_code.specs.declared.segment.SegmentEntry.TheVariants.{Start}
use Rattle.ooo_code.specs.Nodes.{first_frame}
use Rattle.ooo_segments.specs.Beginnings.{AreSegments, Beginning, beginning_of, beginnings_from, beginnings_of}
use Rattle.ooo_meaning.specs.World.{zero_stamp}
use Rattle.ooo_channels.specs.Bank.{BankState, IsBankAfter}
use Rattle.ooo_channels.specs.Operations.{no_operations}
use Rattle.ooo_schedules.specs.Design.{Wait, front_by, front_when, slot, sooner, soonest}
use Rattle.ooo_schedules.specs.Model.{front_of}
use Rattle.ooo_schedules.specs.Program.{design}
use Rattle.ooo_schedules.specs.Slots.{first_of}
use Rattle.ooo_schedules.specs.Tables.{program}
use Rattle.ooo_tables.specs.declared.tables.Tables.{Tables}
use Rattle.ooo_dispatch.specs.Boards.{model}
use Rattle.ooo_dispatch.specs.Least.{rules_of}
use Rattle.ooo_dispatch.specs.Rules.{Rules, same_entry, segment_at, start_wait, tables}
use Rattle.ooo_dispatch.specs.Schedules.{IsReady}
use Rattle.ooo_dispatch.specs.Steps.{nothing_done}
use Rattle.ooo_fronts.specs.declared.choice.State.{State}
use Rattle.ooo_fronts.specs.declared.choice.State.TheVariants.{Abandoned, Running, Waiting as waits}
use Rattle.ooo_fronts.specs.Fronts.{AreFit, AreFrontsOf, IsFit, kept_front, maybe_front, process_in}
use Rattle.ooo_board.specs.declared.cores.Core.{Core}
use Rattle.ooo_board.specs.declared.process.Process.{Process}
use Rattle.ooo_board.specs.declared.process.Waiting.{Waiting}
use Rattle.ooo_board.specs.Boards.{is_running, running_in}
use Rattle.ooo_board.specs.Cores.{AreProcesses, AreStatesAfter, AreVariables, HasCore, IsCore, IsProcess, IsStateOf, maybe_wait, wait_is}
use Rattle.ooo_board.specs.Forgetting.{HasBank, forgetting}
use Rattle.ooo_board.specs.Links.{begins_at}
use Rattle.ooo_board.proofs.Leaving.{found}
use Rattle.ooo_board.specs.Starting.{IsFirst, first_cells, first_front, front_at, timed_front}

-- ---- first segments

-- each process has its start among where segments begin
start_among : (design : Design) (n p : ℕ) (q : Proc) (qs : List Proc) → slice_get qs p ≡ Some q → (k : ℕ) × (slice_get (beginnings_from design n qs) k ≡ Some (n + p, Start))
start_among design n p q [] is = absurd cc
start_among design n zero q (x ∷ qs) is = (0, ap (λ m. Some (m, Start)) (omega arith))
start_among design n (suc p) q (x ∷ qs) is =
    let rest = start_among design (suc n) p q qs is in
    let own = beginnings_of design n x in
    (length own + rest.0, behind_at own (beginnings_from design (suc n) qs) rest.0 (length own + rest.0) refl ∙ rest.1 ∙ ap (λ m. Some (m, Start)) (omega arith))

-- what stands in a mapped list comes from there
from_map : {A B : Type 0} (f : A → B) (xs : List A) (k : ℕ) (y : B) → slice_get (map f xs) k ≡ Some y → (x : A) × (slice_get xs k ≡ Some x) × (f x ≡ y)
from_map f [] k y is = absurd cc
from_map f (x ∷ xs) zero y is = (x, refl, cc)
from_map f (x ∷ xs) (suc k) y is = from_map f xs k y is

-- the segment that begins at the start of process p
pub record HasStart (segments : List Segment) (p : ℕ) : Type 0 where
  pub number : ℕ
  pub segment : Segment
  pub there : slice_get segments number ≡ Some segment
  pub begins : begins_at p Start segment ≡ true

pub has_start : (design : Design) (segments : List Segment) → AreSegments design segments → (p : ℕ) (q : Proc) → slice_get design.processes p ≡ Some q → HasStart segments p
has_start design segments are p q is =
    let among = start_among design 0 p q design.processes is in
    let from = from_map beginning_of segments among.0 (0 + p, Start) (ap (λ xs. slice_get xs among.0) are.order ∙ among.1) in
    record {
      number = among.0;
      segment = from.0;
      there = from.1;
      begins = ap (λ (b : Beginning). (b.0 == p) && same_entry b.1 Start) from.2 ∙ yes (0 + p) (omega arith);
    }
  where
    yes : (m : ℕ) → m ≡ p → ((m == p) && true) ≡ true
    yes m e = rw (eq-eqb m p e) refl

-- ---- no more processes than segments

few_from : (design : Design) (n : ℕ) (qs : List Proc) → length qs ≤ length (beginnings_from design n qs)
few_from design n [] = omega arith
few_from design n (x ∷ qs) =
    let rest = few_from design (suc n) qs in
    let both = length-append (beginnings_of design n x) (beginnings_from design (suc n) qs) in
    omega arith

pub few_processes : (design : Design) (segments : List Segment) → AreSegments design segments → length design.processes ≤ length segments
few_processes design segments are =
    let few = few_from design 0 design.processes in
    let same = sym (length-map segments beginning_of) ∙ ap length are.order in
    omega arith

-- ---- processes

-- the first n processes, at their starts
pub record AreBegun (r : Rules) (n : ℕ) (made : List Process) : Type 0 where
  pub counted : length made ≡ n
  pub each : (p : ℕ) (x : Process) → slice_get made p ≡ Some x → IsProcess r (nothing_done r).board p x

pub none_begun : (r : Rules) → AreBegun r 0 []
none_begun r = record { counted = refl; each = λ p x is. absurd cc }

pub is_begun : (r : Rules) (p : ℕ) (q : Proc) (x : Process) → slice_get r.design.processes p ≡ Some q → IsFirst (segment_at r p Start) q x → IsProcess r (nothing_done r).board p x
is_begun r p q x is first = record {
  slots = λ none. first.slots ∙ sym (ap (λ (o : Option Proc). elim o [ None ↦ [] | Some a ↦ (first_frame a).slots ]) is);
  waiting = first.waiting ∙ sym (ap (λ (o : Option Proc). elim o [ None ↦ None | Some a ↦ Some (start_wait (segment_at r p Start) a) ]) is);
  activations = first.activations;
}

pub one_begun : (r : Rules) (n : ℕ) (made : List Process) (q : Proc) (x : Process) → slice_get r.design.processes n ≡ Some q → IsFirst (segment_at r n Start) q x → AreBegun r n made → AreBegun r (n + 1) (made ++ x ∷ [])
one_begun r n made q x is first h = record {
  counted = length-append made (x ∷ []) ∙ ap (λ k. k + 1) h.counted;
  each = λ p y at. ⊎_elim (λ before. h.each p y before)
      (λ here.
      let own : IsProcess r (nothing_done r).board n x = is_begun r n q x is first in
      subst (λ z. IsProcess r (nothing_done r).board p z) here.1 (subst (λ k. IsProcess r (nothing_done r).board k x) (sym (here.0 ∙ h.counted)) own))
      (at_push made x y p at);
}

-- ---- fronts

some_same : {A : Type 0} (x y : A) → Some x ≡ Some y → x ≡ y
some_same x y e = cc

-- how a process starts, by whether it is initialized
abbrev wait_if : Bool → (g : ℕ) → (sensitive : List ℕ) → Wait Stamp
wait_if b g es =
    if b then record { segment = g; timeout = Some zero_stamp; events = []; since = None }
    else record { segment = g; timeout = None; events = es; since = None }

-- where something passes a test, the first that does is within
first_within : {A : Type 0} (test : A → Bool) (xs : List A) (k : ℕ) (x : A) → slice_get xs k ≡ Some x → test x ≡ true → position_or_len test xs < length xs
first_within test [] k x is passes = absurd cc
first_within test (y ∷ ys) k x is passes = at (test y) refl k is (λ i f. first_within test ys i x f passes)
  where
    here : test y ≡ true → position_or_len test (y ∷ ys) ≡ 0
    here h = rw h refl

    behind : test y ≡ false → position_or_len test (y ∷ ys) ≡ suc (position_or_len test ys)
    behind h = rw h (omega arith)

    at : (b : Bool) → test y ≡ b → (i : ℕ) → slice_get (y ∷ ys) i ≡ Some x → ((j : ℕ) → slice_get ys j ≡ Some x → position_or_len test ys < length ys) → position_or_len test (y ∷ ys) < length (y ∷ ys)
    at true h i f rest = let e = here h in omega arith
    at false h zero f rest = let same : y ≡ x = cc in absurd (let no : false ≡ true = sym h ∙ ap test same ∙ passes in cc)
    at false h (suc i) f rest = let l = rest i f in let e = behind h in omega arith

-- no event of a wait fires before something is done
none_fires : (r : Rules) (since : Option Stamp) (es : List ℕ) → soonest (design (program (tables r))) (map (λ e. first_of Stamp is_before (slot (design (program (tables r))) e []).event since) es) ≡ None
none_fires r since [] = refl
none_fires r since (e ∷ es) = none_fires r since es

-- so the front is by the time-out
unfired : (r : Rules) (o : Option Waiting) → front_when (design (program (tables r))) [] (maybe_wait o) ≡ maybe_front (timed_front o)
unfired r None = refl
unfired r (Some w) = ap (λ t. front_by w.segment (sooner (design (program (tables r))) w.timeout t)) (none_fires r w.since w.events) ∙ at w.timeout
  where
    at : (t : Option Stamp) → front_by w.segment (sooner (design (program (tables r))) t None) ≡ maybe_front (front_at w.segment t)
    at None = refl
    at (Some s) = refl

-- a segment that begins at an entry of a process is of it
own_by : (x : Segment) (p : ℕ) → begins_at p Start x ≡ true → x.process ≡ p
own_by x p begins = at (x.process == p) refl begins
  where
    at : (b : Bool) → (x.process == p) ≡ b → (b && same_entry x.entry Start) ≡ true → x.process ≡ p
    at true e h = eqb-true x.process p e
    at false e h = absurd (let no : false ≡ true = h in cc)

module _ (r : Rules) (processes : List Process) (are : AreProcesses r (nothing_done r).board processes) where
  pub first_fronts_are : AreFrontsOf r (nothing_done r).board (map first_front processes)
  first_fronts_are = record {
    count = length-map processes first_front ∙ are.counted;
    each = λ p. ⊎_elim (λ there. within p there.0 there.1 there.2) (λ past. without p past.0) (slice_get_cases processes p).1;
  }
    where
      within : (p : ℕ) (x : Process) → p < length processes → slice_get processes p ≡ Some x → front_of (model r) (nothing_done r).board p ≡ kept_front (map first_front processes) p
      within p x lt is =
          ap (front_when (design (program (tables r))) []) (sym (are.each p x is).waiting) ∙ unfired r x.waiting
          ∙ sym (ap maybe_front (get_or-map first_front processes p x None lt ∙ ap first_front (get_or_from_slice_get processes p x x is)))

      without : (p : ℕ) → length processes ≤ p → front_of (model r) (nothing_done r).board p ≡ kept_front (map first_front processes) p
      without p past =
          let same = are.counted in
          let made = length-map processes first_front in
          let none : slice_get r.design.processes p ≡ None = slice_get_past r.design.processes p (omega arith) in
          ap (λ (o : Option Proc). front_when (design (program (tables r))) [] (elim o [ None ↦ None | Some a ↦ Some (start_wait (segment_at r p Start) a) ])) none
          ∙ sym (ap maybe_front (get_or_past (map first_front processes) p None (omega arith)))

  -- each is of the first segment of its process, at time zero
  pub first_fronts_fit : (t : Tables) → t.graph.segments ≡ r.segments → AreSegments r.design r.segments → AreFit t (map first_front processes)
  first_fronts_fit t are_segments segments p f is = by x.0.waiting x.2 (slice_get r.design.processes p) refl (are.each p x.0 x.1).waiting
    where
      x : (x : Process) × (slice_get processes p ≡ Some x) × (first_front x ≡ Some f)
      x = from_map first_front processes p (Some f) is

      -- the first segment at the start of a process is of that process
      process_first : segment_at r p Start < length r.segments → process_in t (segment_at r p Start) ≡ p
      process_first within =
          let first = found (begins_at p Start) r.segments within in
          let there : slice_get t.graph.segments (segment_at r p Start) ≡ Some first.0 = ap (λ ss. slice_get ss (segment_at r p Start)) are_segments ∙ first.1 in
          ap (λ (o : Option Segment). elim o [ None ↦ 0 | Some y ↦ y.process ]) there ∙ own_by first.0 p first.2

      starts : (w : Waiting) (q : Proc) (s : Stamp) → w.timeout ≡ Some s → (b : Bool) → wait_is w ≡ wait_if b (segment_at r p Start) q.sensitive → (w.segment ≡ segment_at r p Start) × (s ≡ zero_stamp)
      starts w q s timed true same = (ap (λ (v : Wait Stamp). v.segment) same, some_same s zero_stamp (sym timed ∙ ap (λ (v : Wait Stamp). v.timeout) same))
      starts w q s timed false same = absurd (let none : Some s ≡ None = sym timed ∙ ap (λ (v : Wait Stamp). v.timeout) same in cc)

      fits : (w : Waiting) (q : Proc) (s : Stamp) → w.timeout ≡ Some s → record { segment = w.segment; stamp = s } ≡ f → slice_get r.design.processes p ≡ Some q → wait_is w ≡ start_wait (segment_at r p Start) q → IsFit t p f
      fits w q s timed front process same =
          let begins = has_start r.design r.segments segments p q process in
          let within = first_within (begins_at p Start) r.segments begins.number begins.segment begins.there begins.begins in
          let at = starts w q s timed q.initialize same in
          let fit : IsFit t p (record { segment = segment_at r p Start; stamp = zero_stamp }) = record {
            segment = subst (λ ss. segment_at r p Start < length ss) (sym are_segments) within;
            process = process_first within;
            time = omega arith;
            delta = omega arith;
          } in
          subst (IsFit t p) front (subst (λ g. IsFit t p (record { segment = g; stamp = s })) (sym at.0) (subst (λ z. IsFit t p (record { segment = segment_at r p Start; stamp = z })) (sym at.1) fit))

      timed : (w : Waiting) (at : Option Stamp) → w.timeout ≡ at → front_at w.segment at ≡ Some f → (q : Proc) → slice_get r.design.processes p ≡ Some q → wait_is w ≡ start_wait (segment_at r p Start) q → IsFit t p f
      timed w None h front q process same = absurd cc
      timed w (Some s) h front q process same = fits w q s h (some_same (record { segment = w.segment; stamp = s }) f front) process same

      by : (o : Option Waiting) → timed_front o ≡ Some f → (a : Option Proc) → slice_get r.design.processes p ≡ a → maybe_wait o ≡ (elim a [ None ↦ None | Some q ↦ Some (start_wait (segment_at r p Start) q) ]) → IsFit t p f
      by None front a process same = absurd cc
      by (Some w) front None process same = absurd cc
      by (Some w) front (Some q) process same = timed w w.timeout refl front q process (some_same (wait_is w) (start_wait (segment_at r p Start) q) same)

-- ---- variables

pub first_variables_are : (r : Rules) (variables : List (List Value)) → variables ≡ first_cells r.design.variables → AreVariables r (nothing_done r).board variables
first_variables_are r variables are = record {
  count = ap length are ∙ length-map r.design.variables (λ v. replicate v.length v.start);
  home = λ x home. ap (λ vs. get_or vs x []) are ∙ ⊎_elim (λ there. within x there.0 there.1 there.2) (λ past. without x past.0 past.1) (slice_get_cases r.design.variables x).1;
}
  where
    cells : Option BoundVariable → List Value
    cells o = elim o [ None ↦ [] | Some v ↦ replicate v.length v.start ]

    within : (x : ℕ) (v : BoundVariable) → x < length r.design.variables → slice_get r.design.variables x ≡ Some v → get_or (first_cells r.design.variables) x [] ≡ cells (slice_get r.design.variables x)
    within x v lt is =
        get_or-map (λ v. replicate v.length v.start) r.design.variables x v [] lt
        ∙ ap (λ (v : BoundVariable). replicate v.length v.start) (get_or_from_slice_get r.design.variables x v v is) ∙ sym (ap cells is)

    without : (x : ℕ) → length r.design.variables ≤ x → slice_get r.design.variables x ≡ None → get_or (first_cells r.design.variables) x [] ≡ cells (slice_get r.design.variables x)
    without x past is =
        let made = length-map r.design.variables (λ v. replicate v.length v.start) in
        get_or_past (first_cells r.design.variables) x [] (omega arith) ∙ sym (ap cells is)

-- ---- the bank

pub has_bank_first : (r : Rules) (bank : BankState) (below : Stamp) → (below.time.0 ≡ 0) × (below.delta ≡ 0) → IsBankAfter bank (no_operations r.design.channels r.design.events) → HasBank r (nothing_done r).board bank below
has_bank_first r bank below (time, delta) is =
    let first : below ≡ zero_stamp = λ i. record { time = record { 0 = time i }; delta = delta i } in
    record { applied = subst (λ s. IsBankAfter bank (forgetting s (no_operations r.design.channels r.design.events))) (sym first) is; past = inl first }

-- ---- states

pub first_states_are : (r : Rules) (n : ℕ) (states : List State) → n ≡ length r.design.processes → states ≡ replicate n waits → AreStatesAfter r (nothing_done r) states
first_states_are r n states same are = record {
  counted = ap length are ∙ length-replicate n waits ∙ same;
  each = λ p x is. subst (IsStateOf r (nothing_done r) p) (sym (replicated n waits x p (ap (λ xs. slice_get xs p) (sym are) ∙ is))) refl;
}

-- ---- all of it

none_counted : (states : List State) → ((p : ℕ) (x : State) → slice_get states p ≡ Some x → is_running x ≡ false) → running_in states ≡ 0
none_counted [] none = refl
none_counted (x ∷ xs) none = rw (none 0 x refl) (none_counted xs (λ p. none (suc p)))

-- no process runs before a step
pub none_running : (r : Rules) (states : List State) → AreStatesAfter r (nothing_done r) states → running_in states ≡ 0
none_running r states are = none_counted states (λ p x is. idle p x (are.each p x is))
  where
    idle : (p : ℕ) (x : State) → IsStateOf r (nothing_done r) p x → is_running x ≡ false
    idle p waits h = refl
    idle p Running h = absurd (let e : false ≡ true = h in cc)
    idle p Abandoned h = refl

-- what is kept before a step
pub has_nothing : (design : Design) (limits : Limits) (t : Tables) (core : Core) → IsReady design limits t → limits.deltas ≤ greatest_delta → IsCore design limits t (nothing_done (rules_of design limits t)) core → HasCore design limits t [] core
has_nothing design limits t core ready deltas is = record { stands = record { ready = ready; deltas = deltas; lawful = tt }; core = is }
