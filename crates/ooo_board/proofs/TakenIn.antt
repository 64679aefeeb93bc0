-- What a job did is taken in: what is kept is that of the board after its commit.
use Rattle.std.proofs.Common.{◌≡◌, ◌≢◌, ℕ, zero, suc, ◌<◌, ◌≤◌, ◌+◌, ◌^◌, ◌==◌, ◌⊎◌, inl, inr, ⊎_elim, List, [], ◌∷◌, ◌++◌, Bool, true, false, ◌||◌, if◌then◌else◌, Option, Some, None, length, get_or, refl, sym, ap, subst, ◌∙◌, arith}
use Rattle.std.specs.Prelude.{slice_get, slice_index_or, slice_set, All, Contains, IsSome, unwrap_or}
use Rattle.std.specs.List.{list_any}
use Rattle.std.proofs.lemmas.Bool.{eqb-true, eq-eqb}
use Rattle.std.proofs.lemmas.List.{get_or-map, get_or-set_same, get_or-set_other, length-map, length-set}
use Rattle.std.proofs.lemmas.Option.{slice_get-get_or, slice_get_within, get_or_from_slice_get}
use Rattle.ooo_lemmas.proofs.Contained.{contains_place}
use Rattle.ooo_lemmas.proofs.Placed.{set_cases}
use Rattle.ooo_time.specs.declared.stamp.Stamp.{Stamp}
use Rattle.ooo_value.specs.declared.values.Value.{Value}
use Rattle.ooo_value.specs.declared.bound.BoundChannel.{BoundChannel}
use Rattle.ooo_value.specs.declared.bound.BoundEvent.{BoundEvent}
use Rattle.ooo_value.specs.declared.bound.BoundEvent.TheVariants as event
use Rattle.ooo_code.specs.declared.activation.Effect.{Effect}
use Rattle.ooo_code.specs.declared.activation.Effect.TheVariants as effect
use Rattle.ooo_code.specs.declared.design.Design.{Design}
use Rattle.ooo_code.specs.declared.limits.Limits.{Limits}
use Rattle.ooo_channels.specs.Bank.{IsBankAfter}
use Rattle.ooo_channels.specs.Conditions.{HasEventAt, IsCountableStamp, MayApplyAll, Names}
use Rattle.ooo_channels.specs.Operations.{Operations, after_effects}
use Rattle.ooo_interp.specs.Carrying.{Carried, listed, numbers_of, put_in}
use Rattle.ooo_interp.specs.declared.job.Done.{Done}
use Rattle.ooo_schedules.specs.Design.{Wait}
use Rattle.ooo_schedules.specs.Model.{Act, In, count, last, running_or, without}
use Rattle.ooo_schedules.specs.Program.{wait_by, wait_left}
use Rattle.ooo_schedules.specs.Tables.{program}
use Rattle.ooo_tables.specs.declared.tables.Tables.{Tables}
use Rattle.ooo_code.specs.declared.segment.Segment.{Segment}
use Rattle.ooo_dispatch.specs.declared.reads.Reads.{Reads}
use Rattle.ooo_dispatch.specs.Banks.{LeavesWait, affects, operations_on}
use Rattle.ooo_dispatch.specs.Boards.{model}
use Rattle.ooo_dispatch.specs.Least.{rules_of}
use Rattle.ooo_dispatch.specs.Rules.{Rules, access_of, deed_of, has, left_by, is_stop, operations_of, origin_of, outcome_of, process_of, slots_after, tables}
use Rattle.ooo_dispatch.specs.Schedules.{cells_left, cells_on}
use Rattle.ooo_dispatch.specs.Steps.{Replay}
use Rattle.ooo_fronts.specs.declared.choice.State.{State}
use Rattle.ooo_fronts.specs.declared.choice.State.TheVariants.{Waiting, Running, Abandoned}
use Rattle.ooo_fronts.specs.declared.front.Front as kept
use Rattle.ooo_fronts.specs.Cuts.{IsCutOf, calls_stop}
use Rattle.ooo_fronts.specs.Fronts.{AreFit, kept_front}
use Rattle.ooo_fronts.specs.Holds.{AreKept}
use Rattle.ooo_meaning.specs.World.{place_of}
use Rattle.ooo_dispatch.specs.ReadOff.{piece_in}
use Rattle.ooo_dispatch.specs.Reports.{piece_of}
use Rattle.ooo_time.specs.Scales.{greatest_delta}
use Rattle.ooo_tables.specs.Tables.{AreTables}
use Rattle.ooo_board.specs.declared.cores.Core.{Core}
use Rattle.ooo_board.specs.declared.links.Links.{Links}
use Rattle.ooo_board.specs.declared.process.Process.{Process}
use Rattle.ooo_board.specs.Committing.{IsCommit, IsOwnWait, MayLeave, once_committed, piece_at}
use Rattle.ooo_board.specs.Cores.{AreProcesses, AreStatesAfter, AreVariables, IsCore, IsHome, IsProcess, IsStateOf, maybe_wait}
use Rattle.ooo_board.specs.Forgetting.{HasBank, forgetting}
use Rattle.ooo_board.specs.Jobs.{IsDoneOf}
use Rattle.ooo_board.specs.Links.{AreLinks}
use Rattle.ooo_board.specs.Waking.{ChannelReaches, EffectsReach, IsRight, IsThere, IsWaking, ReachesAll, Reaches, Woken, front_told}
use Rattle.ooo_board.proofs.Committed.{last_other, last_without, counted_once, without_in}
use Rattle.ooo_board.proofs.Forgotten.{effects_same, may_apply_all}
use Rattle.ooo_board.proofs.Moving.{length_placed, placed}
use Rattle.ooo_board.proofs.Past.{past_on}

-- ---- lists of which an item is set

set_here : {A : Type 0} (xs : List A) (i : ℕ) (a x : A) → slice_get (slice_set xs i a) i ≡ Some x → a ≡ x
set_here xs i a x e =
    let n = length-set xs i a in
    let lt = slice_get_within (slice_set xs i a) i x e in
    sym (get_or-set_same xs i a x (omega arith)) ∙ get_or_from_slice_get (slice_set xs i a) i x x e

set_there : {A : Type 0} (xs : List A) (i q : ℕ) (a x : A) → q ≢ i → slice_get (slice_set xs i a) q ≡ Some x → slice_get xs q ≡ Some x
set_there xs i q a x differs e = ⊎_elim (λ k. k) (λ k. absurd (differs (sym k.0))) (set_cases xs i a q x e)

-- ---- variables that are put back

found_first : (n : ℕ) (ns : List ℕ) (x : ℕ) → has (n ∷ ns) x ≡ false → x ≢ n
found_first n ns x none same = at (n == x) refl none
  where
    at : (b : Bool) → (n == x) ≡ b → (b || has ns x) ≡ false → ⊥
    at true e h = absurd cc
    at false e h = absurd (grind (arith, e, same))

found_rest : (n : ℕ) (ns : List ℕ) (x : ℕ) → has (n ∷ ns) x ≡ false → has ns x ≡ false
found_rest n ns x none = at (n == x) none
  where
    at : (b : Bool) → (b || has ns x) ≡ false → has ns x ≡ false
    at true h = absurd cc
    at false h = h

put_elsewhere : (xs : List Carried) (base : List (List Value)) (x : ℕ) → has (numbers_of xs) x ≡ false → slice_index_or (put_in xs base) x [] ≡ slice_index_or base x []
put_elsewhere [] base x none = refl
put_elsewhere (c ∷ cs) base x none =
    get_or-set_other (put_in cs base) c.0 x c.1 [] (found_first c.0 (numbers_of cs) x none) ∙ put_elsewhere cs base x (found_rest c.0 (numbers_of cs) x none)

carries_it : (xs : List Carried) (x : ℕ) → has (numbers_of xs) x ≡ true → (cells : List Value) × (listed xs x ≡ Some cells)
carries_it [] x h = absurd cc
carries_it (c ∷ cs) x h = at (x == c.0) refl (c.0 == x) refl h (carries_it cs x)
  where
    at : (b : Bool) → (x == c.0) ≡ b → (d : Bool) → (c.0 == x) ≡ d → (d || has (numbers_of cs) x) ≡ true → (has (numbers_of cs) x ≡ true → (cells : List Value) × (listed cs x ≡ Some cells)) →
        (cells : List Value) × ((if b then Some c.1 else listed cs x) ≡ Some cells)
    at true e d f k rest = (c.1, refl)
    at false e true f k rest = absurd (grind (arith, e, f))
    at false e false f k rest = rest k

-- what is carried of a variable stands there, whatever all variables were
put_same : (xs : List Carried) (one two : List (List Value)) (x : ℕ) → x < length one → x < length two → has (numbers_of xs) x ≡ true → slice_index_or (put_in xs one) x [] ≡ slice_index_or (put_in xs two) x []
put_same xs one two x lt more h =
    let cells = carries_it xs x h in
    placed xs one x lt ∙ ap (λ o. unwrap_or o (slice_index_or one x [])) cells.1 ∙ sym (placed xs two x more ∙ ap (λ o. unwrap_or o (slice_index_or two x [])) cells.1)

has_contained : (ns : List ℕ) (x : ℕ) → has ns x ≡ true → Contains ns x
has_contained [] x h = absurd cc
has_contained (n ∷ ns) x h = at (n == x) refl h (has_contained ns x)
  where
    at : (b : Bool) → (n == x) ≡ b → (b || has ns x) ≡ true → (has ns x ≡ true → Contains ns x) → Contains (n ∷ ns) x
    at true e k rest = (0, omega arith, eqb-true n x e)
    at false e k rest = let r = rest k in (suc r.0, let lt = r.1 in omega arith, r.2)

-- ---- operations have the channels and events of the design

channels_stay : (at : Stamp) (ops : Operations) (fs : List Effect) → (after_effects at ops fs).channels ≡ ops.channels
channels_stay at ops [] = refl
channels_stay at ops (f ∷ fs) = channels_stay at (record ops { applied = ops.applied ++ record { at = at; effect = f } ∷ [] }) fs

events_stay : (at : Stamp) (ops : Operations) (fs : List Effect) → (after_effects at ops fs).events ≡ ops.events
events_stay at ops [] = refl
events_stay at ops (f ∷ fs) = events_stay at (record ops { applied = ops.applied ++ record { at = at; effect = f } ∷ [] }) fs

pub channels_of : (r : Rules) (log : List (Act Stamp Reads)) → (operations_of r log).channels ≡ r.design.channels
channels_of r [] = refl
channels_of r (y ∷ ys) = channels_stay y.stamp (operations_of r ys) (deed_of r y).effects ∙ channels_of r ys

pub events_of : (r : Rules) (log : List (Act Stamp Reads)) → (operations_of r log).events ≡ r.design.events
events_of r [] = refl
events_of r (y ∷ ys) = events_stay y.stamp (operations_of r ys) (deed_of r y).effects ∙ events_of r ys

-- what an effect names is there
named_there : (design : Design) (ops : Operations) → ops.channels ≡ design.channels → ops.events ≡ design.events → (f : Effect) → Names ops f → IsThere design f
named_there design ops channels events (effect.Request c v) h = subst (λ (xs : List BoundChannel). c < length xs) channels (slice_get_within ops.channels c h.channel h.is)
named_there design ops channels events (effect.Put c v) h = subst (λ (xs : List BoundChannel). c < length xs) channels (slice_get_within ops.channels c h.channel h.is)
named_there design ops channels events (effect.Take c) h = subst (λ (xs : List BoundChannel). c < length xs) channels (slice_get_within ops.channels c h.channel h.is)
named_there design ops channels events (effect.Notify e k) h = subst (λ (xs : List BoundEvent). e < length xs) events (slice_get_within ops.events e event.Own h)
named_there design ops channels events (effect.Cancel e) h = subst (λ (xs : List BoundEvent). e < length xs) events (slice_get_within ops.events e event.Own h)
named_there design ops channels events effect.Stop h = tt

pub all_there : (design : Design) (ops : Operations) (fs : List Effect) → ops.channels ≡ design.channels → ops.events ≡ design.events → All (Names ops) fs → All (IsThere design) fs
all_there design ops fs channels events named k d lt = named_there design ops channels events (get_or fs k d) (named k d lt)

-- ---- an effect touches an event of a wait, or none does

some_effect : (test : Effect → Bool) (fs : List Effect) → All (λ f. test f ≡ false) fs ⊎ ((k : ℕ) × (f : Effect) × (slice_get fs k ≡ Some f) × (test f ≡ true))
some_effect test [] = inl (λ k d lt. absurd (omega arith))
some_effect test (f ∷ fs) = at (test f) refl (some_effect test fs)
  where
    cons : test f ≡ false → All (λ g. test g ≡ false) fs → All (λ g. test g ≡ false) (f ∷ fs)
    cons e rest zero d lt = e
    cons e rest (suc k) d lt = rest k d (omega arith)

    at : (b : Bool) → test f ≡ b → All (λ g. test g ≡ false) fs ⊎ ((k : ℕ) × (g : Effect) × (slice_get fs k ≡ Some g) × (test g ≡ true)) →
        All (λ g. test g ≡ false) (f ∷ fs) ⊎ ((k : ℕ) × (g : Effect) × (slice_get (f ∷ fs) k ≡ Some g) × (test g ≡ true))
    at true e rest = inr (0, f, refl, e)
    at false e (inl none) = inl (cons e none)
    at false e (inr (k, g, is, hit)) = inr (suc k, g, is, hit)

some_event : (P Q : ℕ → Type 0) → ((e : ℕ) → P e ⊎ Q e) → (es : List ℕ) → ((e : ℕ) → In e es → P e) ⊎ ((e : ℕ) × In e es × Q e)
some_event P Q test [] = inl (λ e i. absurd i)
some_event P Q test (x ∷ xs) = at (test x) (some_event P Q test xs)
  where
    at : P x ⊎ Q x → ((e : ℕ) → In e xs → P e) ⊎ ((e : ℕ) × In e xs × Q e) → ((e : ℕ) → In e (x ∷ xs) → P e) ⊎ ((e : ℕ) × In e (x ∷ xs) × Q e)
    at (inr q) rest = inr (x, inl refl, q)
    at (inl p) (inr (e, i, q)) = inr (e, inr i, q)
    at (inl p) (inl all) = inl (λ e i. ⊎_elim (λ same. subst P (sym same) p) (λ k. all e k) i)

-- ---- who waits on what an effect touches is reached

all_among : (l : Links) (e q : ℕ) → Contains (slice_index_or l.waiters.items e []) q → ReachesAll l e q
all_among l e q c =
    let at = contains_place (slice_index_or l.waiters.items e []) q c in
    record { place = at.0; before = slice_get_within (slice_index_or l.waiters.items e []) at.0 q at.1; there = at.1 }

module _ (design : Design) (l : Links) (t : Tables) (links : AreLinks design t l) (e q : ℕ) (reached : ReachesAll l e q) where
  on_channel : (c : ℕ) → Contains (slice_index_or l.channel_events.items c []) e → ChannelReaches l c q
  on_channel c contains =
      let es = slice_index_or l.channel_events.items c [] in
      let at = contains_place es e contains in
      (e, record { place = at.0; before = slice_get_within es at.0 e at.1; there = at.1 }, reached)

  same_event : (d : ℕ) → (e == d) ≡ true → ReachesAll l d q
  same_event d h = subst (λ x. ReachesAll l x q) (eqb-true e d h) reached

  same_channel : (c d : ℕ) → (c == d) ≡ true → Contains (slice_index_or l.channel_events.items c []) e → ChannelReaches l d q
  same_channel c d h contains = subst (λ x. ChannelReaches l x q) (eqb-true c d h) (on_channel c contains)

  affected : (k : BoundEvent) → slice_get design.events e ≡ Some k → (f : Effect) → affects e k f ≡ true → Reaches l f q
  affected event.Own is (effect.Notify d w) h = same_event d h
  affected event.Own is (effect.Cancel d) h = same_event d h
  affected event.Own is (effect.Request d v) h = absurd cc
  affected event.Own is (effect.Put d v) h = absurd cc
  affected event.Own is (effect.Take d) h = absurd cc
  affected event.Own is effect.Stop h = absurd cc
  affected (event.Changed c) is (effect.Request d v) h = same_channel c d h (links.channel_events.all e (event.Changed c) (slice_get_within design.events e (event.Changed c) is) is (λ s. absurd cc))
  affected (event.Changed c) is (effect.Put d v) h = absurd cc
  affected (event.Changed c) is (effect.Take d) h = absurd cc
  affected (event.Changed c) is (effect.Notify d w) h = absurd cc
  affected (event.Changed c) is (effect.Cancel d) h = absurd cc
  affected (event.Changed c) is effect.Stop h = absurd cc
  affected (event.Rise c) is (effect.Request d v) h = same_channel c d h (links.channel_events.all e (event.Rise c) (slice_get_within design.events e (event.Rise c) is) is (λ s. absurd cc))
  affected (event.Rise c) is (effect.Put d v) h = absurd cc
  affected (event.Rise c) is (effect.Take d) h = absurd cc
  affected (event.Rise c) is (effect.Notify d w) h = absurd cc
  affected (event.Rise c) is (effect.Cancel d) h = absurd cc
  affected (event.Rise c) is effect.Stop h = absurd cc
  affected (event.Fall c) is (effect.Request d v) h = same_channel c d h (links.channel_events.all e (event.Fall c) (slice_get_within design.events e (event.Fall c) is) is (λ s. absurd cc))
  affected (event.Fall c) is (effect.Put d v) h = absurd cc
  affected (event.Fall c) is (effect.Take d) h = absurd cc
  affected (event.Fall c) is (effect.Notify d w) h = absurd cc
  affected (event.Fall c) is (effect.Cancel d) h = absurd cc
  affected (event.Fall c) is effect.Stop h = absurd cc
  affected (event.Written c) is (effect.Put d v) h = same_channel c d h (links.channel_events.all e (event.Written c) (slice_get_within design.events e (event.Written c) is) is (λ s. absurd cc))
  affected (event.Written c) is (effect.Request d v) h = absurd cc
  affected (event.Written c) is (effect.Take d) h = absurd cc
  affected (event.Written c) is (effect.Notify d w) h = absurd cc
  affected (event.Written c) is (effect.Cancel d) h = absurd cc
  affected (event.Written c) is effect.Stop h = absurd cc
  affected (event.Taken c) is (effect.Take d) h = same_channel c d h (links.channel_events.all e (event.Taken c) (slice_get_within design.events e (event.Taken c) is) is (λ s. absurd cc))
  affected (event.Taken c) is (effect.Request d v) h = absurd cc
  affected (event.Taken c) is (effect.Put d v) h = absurd cc
  affected (event.Taken c) is (effect.Notify d w) h = absurd cc
  affected (event.Taken c) is (effect.Cancel d) h = absurd cc
  affected (event.Taken c) is effect.Stop h = absurd cc

-- ---- the job that is committed

module _ (design : Design) (limits : Limits) (t : Tables) (s : Replay (rules_of design limits t)) (p : ℕ) (j : Act Stamp Reads) (keep : IsCommit (rules_of design limits t) t s p j) where
  abbrev r : Rules
  r = rules_of design limits t

  abbrev now : Replay (rules_of design limits t)
  now = once_committed (rules_of design limits t) s j

  out_none : last p now.board.out ≡ None
  out_none = ap (λ q. last p (without q s.board.out)) keep.process ∙ last_without p s.board.out

  out_same : (q : ℕ) → q ≢ p → last q now.board.out ≡ last q s.board.out
  out_same q differs = ap (λ n. last q (without n s.board.out)) keep.process ∙ last_other p q s.board.out differs

  log_here : last p now.board.log ≡ Some j
  log_here = rw (eq-eqb j.process p keep.process) refl

  log_same : (q : ℕ) → q ≢ p → last q now.board.log ≡ last q s.board.log
  log_same q differs = at (j.process == q) refl
    where
      at : (b : Bool) → (j.process == q) ≡ b → (if b then Some j else last q s.board.log) ≡ last q s.board.log
      at true e = absurd (differs (sym (eqb-true j.process q e) ∙ keep.process))
      at false e = refl

  count_same : (q : ℕ) → q ≢ p → count q now.board.log ≡ count q s.board.log
  count_same q differs = at (j.process == q) refl
    where
      at : (b : Bool) → (j.process == q) ≡ b → (if b then suc (count q s.board.log) else count q s.board.log) ≡ count q s.board.log
      at true e = absurd (differs (sym (eqb-true j.process q e) ∙ keep.process))
      at false e = refl

  -- ---- who waits on what its effects touch

  module _ (l : Links) (links : AreLinks design t l) (q : ℕ) (w : Wait Stamp) (e : ℕ) (own : IsOwnWait r q w) (i : In e w.events) where
    segment_there : (o : Option Segment) → slice_get t.graph.segments w.segment ≡ o → (x : Segment) × (slice_get t.graph.segments w.segment ≡ Some x) × (x.process ≡ q)
    segment_there None k =
        let past : length design.processes ≡ q = sym (ap (λ (o : Option Segment). elim o [ None ↦ length design.processes | Some x ↦ x.process ]) k) ∙ own.own in
        let low = own.within in
        absurd (omega (arith, past, low))
    segment_there (Some x) k = (x, k, sym (ap (λ (o : Option Segment). elim o [ None ↦ length design.processes | Some y ↦ y.process ]) k) ∙ own.own)

    reached_wait : ReachesAll l e q
    reached_wait =
        let found = segment_there (slice_get t.graph.segments w.segment) refl in
        let lt = slice_get_within t.graph.segments w.segment found.0 found.1 in
        let n = keep.access_count in
        let is_access : slice_get t.access w.segment ≡ Some (access_of r w.segment) = slice_get-get_or t.access w.segment _ (omega (arith, n, lt)) in
        all_among l e q (subst (λ x. Contains (slice_index_or l.waiters.items e []) x) found.2 (links.waiters.all w.segment e found.0 (access_of r w.segment) lt found.1 is_access (own.waits e i)))

  -- the front of a process that waits is touched, or stays
  module _ (l : Links) (links : AreLinks design t l) (q : ℕ) (w : Wait Stamp) (waits : wait_by (program (tables r)) q (last q s.board.log) ≡ Some w) (differs : q ≢ p) where
    of_event : (e : ℕ) → In e w.events → (k : ℕ) → (f : Effect) → slice_get (deed_of r j).effects k ≡ Some f → affects e (origin_of r e) f ≡ true → EffectsReach l (deed_of r j).effects (length (deed_of r j).effects) q
    of_event e i k f is hit =
        let has_event : HasEventAt (operations_on r now.board) e = (keep.told q w (ap (wait_by (program (tables r)) q) (log_same q differs) ∙ waits)).there e i in
        let there : slice_get design.events e ≡ Some has_event.kind = ap (λ xs. slice_get xs e) (sym (events_of r now.board.log)) ∙ has_event.is in
        let origin : origin_of r e ≡ has_event.kind = get_or_from_slice_get design.events e has_event.kind event.Own there in
        record {
          place = k;
          one = f;
          before = slice_get_within (deed_of r j).effects k f is;
          there = is;
          reached = affected design l t links e q (reached_wait l links q w e (keep.waits q w waits) i) has_event.kind there f (subst (λ o. affects e o f ≡ true) origin hit);
        }

    touched_or_not : LeavesWait r (deed_of r j).effects w ⊎ EffectsReach l (deed_of r j).effects (length (deed_of r j).effects) q
    touched_or_not =
        ⊎_elim (λ none. inl none) (λ one. inr (of_event one.0 one.1 one.2.0 one.2.1 one.2.2 one.2.3))
        (some_event
        (λ e. All (λ f. affects e (origin_of r e) f ≡ false) (deed_of r j).effects)
        (λ e. (k : ℕ) × (f : Effect) × (slice_get (deed_of r j).effects k ≡ Some f) × (affects e (origin_of r e) f ≡ true))
        (λ e. some_effect (affects e (origin_of r e)) (deed_of r j).effects) w.events)

    stays : LeavesWait r (deed_of r j).effects w → (fronts : List (Option kept.Front)) → IsRight r s.board fronts q → last q s.board.out ≡ None → IsRight r now.board fronts q
    stays none fronts right idle =
        ap (λ o. running_or o ((model r).front now.board.log q)) (out_same q differs ∙ idle)
        ∙ ap (front_told r now.board) (ap (wait_by (program (tables r)) q) (log_same q differs) ∙ waits)
        ∙ keep.stays w none
        ∙ sym (ap (front_told r s.board) waits)
        ∙ sym (ap (λ o. running_or o ((model r).front s.board.log q)) idle)
        ∙ right

-- ---- what was done

module _ (design : Design) (limits : Limits) (t : Tables) (s : Replay (rules_of design limits t)) (p : ℕ) (j : Act Stamp Reads) (keep : IsCommit (rules_of design limits t) t s p j) (done : Done) (is : IsDoneOf (rules_of design limits t) j done) (at : Stamp) (stamp : at ≡ j.stamp) (c0 : Core) (core : IsCore design limits t s c0) where
  pub effects_are : done.emitted.effects.items ≡ (deed_of (rules_of design limits t) j).effects
  effects_are = sym (ap (λ o. o.deed.effects) is.does)

  -- the operations so far, of which what is past is forgotten
  abbrev pub told_so_far : Operations
  told_so_far = forgetting c0.below (operations_on (rules_of design limits t) s.board)

  pub may_apply : (fs : List Effect) → fs ≡ done.emitted.effects.items → MayApplyAll told_so_far at fs
  may_apply fs e =
      subst (λ gs. MayApplyAll told_so_far at gs) (sym (e ∙ effects_are))
      (subst (λ u. MayApplyAll told_so_far u (deed_of (rules_of design limits t) j).effects) (sym stamp)
      (may_apply_all c0.below j.stamp (deed_of (rules_of design limits t) j).effects (operations_on (rules_of design limits t) s.board) keep.may.may))

  pub countable : IsCountableStamp at
  countable = subst IsCountableStamp (sym stamp) keep.countable

  pub owned_there : All (λ c. c.0 < length c0.variables.items) done.owned.items
  owned_there k d lt =
      let owned = done.owned.items in
      let n : length (numbers_of owned) ≡ length owned = length-map owned (λ (c : Carried). c.0) in
      let number = (get_or owned k d).0 in
      let contains : Contains (numbers_of owned) number = (k, omega (arith, n, lt), get_or-map (λ (c : Carried). c.0) owned k d number lt) in
      let low = keep.written number (subst (λ ns. Contains ns number) is.owned contains) in
      let count = core.has_variables.count in
      omega (arith, low, count)

  pub left_is : (deed_of (rules_of design limits t) j).left ≡ left_by (rules_of design limits t) p done.frame.entry done.end
  left_is =
      ap (λ o. left_by (rules_of design limits t) (process_of (rules_of design limits t) j.segment) o.next.entry o.deed.end) is.does
      ∙ ap (λ q. left_by (rules_of design limits t) q done.frame.entry done.end) keep.own

  pub may_leave : (l : Links) → AreTables design t → AreLinks design t l → MayLeave design limits t l p done.frame.entry done.end at
  may_leave l tables links = record {
    are_tables = tables;
    links = links;
    countable = countable;
    next = λ n time es e. (((keep.leaves.next n time es (left_is ∙ e)).0), keep.leaves.time n time es (left_is ∙ e));
  }

  pub counted : (x : Process) → slice_get c0.processes.items p ≡ Some x → x.activations + 1 < 2 ^ 128
  counted x e = subst (λ n. n + 1 < 2 ^ 128) (sym (core.has_processes.each p x e).activations) keep.counted

  pub process_there : p < length c0.processes.items
  process_there = let count = core.has_processes.counted in let low = keep.within in omega (arith, count, low)

  pub state_there : p < length c0.states.items
  state_there = let count = core.has_states.counted in let low = keep.within in omega (arith, count, low)

-- what is kept once the process is left, before fronts are asked anew
pub record TakesIn (r : Rules) (s : Replay r) (p : ℕ) (j : Act Stamp Reads) (done : Done) (at : Stamp) (c0 c1 : Core) (x0 x1 : Process) : Type 0 where
  pub bank : (ops : Operations) → IsBankAfter c0.bank ops → MayApplyAll ops at done.emitted.effects.items → IsBankAfter c1.bank (after_effects at ops done.emitted.effects.items)
  pub below : c1.below ≡ c0.below
  pub variables : c1.variables.items ≡ put_in done.owned.items c0.variables.items
  pub was : slice_get c0.processes.items p ≡ Some x0
  pub processes : c1.processes.items ≡ slice_set c0.processes.items p x1
  pub slots : x1.slots ≡ done.frame.slots
  pub waiting : maybe_wait x1.waiting ≡ wait_left at (left_by r p done.frame.entry done.end)
  pub activations : x1.activations ≡ x0.activations + 1
  pub states : c1.states.items ≡ slice_set c0.states.items p Waiting
  pub fronts : c1.fronts ≡ c0.fronts
  pub cut :
      (log : List (Act Stamp Reads)) → IsCutOf r log c0.cut → record { stamp = at; process = p } ≡ place_of j.stamp j.process → done.end ≡ (outcome_of r j).deed.end →
      list_any is_stop done.emitted.effects.items ≡ calls_stop r j → IsCutOf r (j ∷ log) c1.cut
  pub pieces : c1.pieces.items ≡ c0.pieces.items ++ piece_at (record { stamp = at; process = p }) done.emitted.output.items
  pub places : c1.places.items ≡ c0.places.items ++ record { stamp = at; process = p } ∷ []

module _ (design : Design) (limits : Limits) (t : Tables) (s : Replay (rules_of design limits t)) (p : ℕ) (j : Act Stamp Reads) (keep : IsCommit (rules_of design limits t) t s p j) (done : Done) (is : IsDoneOf (rules_of design limits t) j done) (at : Stamp) (stamp : at ≡ j.stamp) (c0 : Core) (core : IsCore design limits t s c0) (deltas : limits.deltas ≤ greatest_delta) (c1 : Core) (x0 x1 : Process) (takes : TakesIn (rules_of design limits t) s p j done at c0 c1 x0 x1) where
  abbrev rules : Rules
  rules = rules_of design limits t

  abbrev later : Replay (rules_of design limits t)
  later = once_committed (rules_of design limits t) s j

  here : {A : Type 0} → (q : ℕ) → (q ≡ p → A) → (q ≢ p → A) → A
  here {A} q same other = by (q == p) refl
    where
      by : (b : Bool) → (q == p) ≡ b → A
      by true e = same (eqb-true q p e)
      by false e = other (λ k. absurd (grind (arith, e, k)))

  new_bank : HasBank rules later.board c1.bank c1.below
  new_bank = subst (HasBank rules later.board c1.bank) (sym takes.below) (record {
    applied =
        let ops = operations_on rules s.board in
        let made = takes.bank (forgetting c0.below ops) core.has_bank.applied (may_apply design limits t s p j keep done is at stamp c0 core done.emitted.effects.items refl) in
        let fs = effects_are design limits t s p j keep done is at stamp c0 core in
        subst (IsBankAfter c1.bank)
        ((λ i. after_effects (stamp i) (forgetting c0.below ops) (fs i)) ∙ effects_same c0.below j.stamp (deed_of rules j).effects ops) made;
    past = past_on rules t.advance s.board later.board p j c0.below keep.front keep.walks core.has_bank.past;
  })

  was_home : (x : ℕ) → has (access_of rules j.segment).written x ≡ false → IsHome rules later.board x → IsHome rules s.board x
  was_home x e home k i owns_it =
      here k.process
      (λ same. let one : k ≡ j = keep.alone k i same in let bad : has (access_of rules j.segment).written x ≡ true = subst (λ (y : Act Stamp Reads). has (access_of rules y.segment).written x ≡ true) one owns_it in let no = sym e ∙ bad in absurd cc)
      (λ other. home k (subst (λ n. In k (without n s.board.out)) (sym keep.process) (without_in p s.board.out k other i)) owns_it)

  new_cells : (x : ℕ) → IsHome rules later.board x → slice_index_or c1.variables.items x [] ≡ cells_on rules later.board x
  new_cells x home = by (has (access_of rules j.segment).written x) refl
    where
      put : slice_index_or c1.variables.items x [] ≡ slice_index_or (put_in done.owned.items c0.variables.items) x []
      put = ap (λ vs. slice_index_or vs x []) takes.variables

      by : (b : Bool) → has (access_of rules j.segment).written x ≡ b → slice_index_or c1.variables.items x [] ≡ cells_on rules later.board x
      by true e =
          let low = keep.written x (has_contained (access_of rules j.segment).written x e) in
          let count = core.has_variables.count in
          let wide = keep.sized in
          put
          ∙ put_same done.owned.items c0.variables.items j.reads.variables x (omega (arith, low, count)) (omega (arith, low, wide)) (ap (λ ns. has ns x) is.owned ∙ e)
          ∙ sym (ap (λ o. slice_index_or o.deed.variables x []) is.does)
          ∙ sym (keep.cells x ∙ ap (λ b. if b then cells_left rules j x else cells_on rules s.board x) e)
      by false e =
          put ∙ put_elsewhere done.owned.items c0.variables.items x (ap (λ ns. has ns x) is.owned ∙ e)
          ∙ core.has_variables.home x (was_home x e home)
          ∙ sym (keep.cells x ∙ ap (λ b. if b then cells_left rules j x else cells_on rules s.board x) e)

  new_variables : AreVariables rules later.board c1.variables.items
  new_variables = record {
    count = ap length takes.variables ∙ length_placed done.owned.items c0.variables.items ∙ core.has_variables.count;
    home = new_cells;
  }

  new_processes : AreProcesses rules later.board c1.processes.items
  new_processes = record {
    counted = ap length takes.processes ∙ length-set c0.processes.items p x1 ∙ core.has_processes.counted;
    each = λ q x e. let f = subst (λ xs. slice_get xs q ≡ Some x) takes.processes e in here q (λ same. is_left q x same f) (λ other. is_same q x other f);
  }
    where
      is_left : (q : ℕ) (x : Process) → q ≡ p → slice_get (slice_set c0.processes.items p x1) q ≡ Some x → IsProcess rules later.board q x
      is_left q x same f = subst (IsProcess rules later.board q) one whole
        where
          one : x1 ≡ x
          one = set_here c0.processes.items p x1 x (subst (λ n. slice_get (slice_set c0.processes.items p x1) n ≡ Some x) same f)

          log : last q later.board.log ≡ Some j
          log = ap (λ n. last n later.board.log) same ∙ log_here design limits t s p j keep

          whole : IsProcess rules later.board q x1
          whole = record {
            slots = λ idle. takes.slots ∙ ap (λ o. o.next.slots) (sym is.does) ∙ sym (ap (slots_after rules q) log);
            waiting =
                takes.waiting ∙ ap (wait_left at) (sym (left_is design limits t s p j keep done is at stamp c0 core)) ∙ ap (λ u. wait_left u (deed_of rules j).left) stamp
                ∙ sym (ap (wait_by (program (tables rules)) q) log);
            activations =
                takes.activations ∙ ap (λ n. n + 1) (core.has_processes.each p x0 takes.was).activations
                ∙ sym (ap (λ n. count n later.board.log) same ∙ counted_once p j s.board.log keep.process);
          }

      is_same : (q : ℕ) (x : Process) → q ≢ p → slice_get (slice_set c0.processes.items p x1) q ≡ Some x → IsProcess rules later.board q x
      is_same q x other f =
          let old = core.has_processes.each q x (set_there c0.processes.items p q x1 x other f) in
          let log = log_same design limits t s p j keep q other in
          record {
            slots = λ idle. old.slots (sym (out_same design limits t s p j keep q other) ∙ idle) ∙ sym (ap (slots_after rules q) log);
            waiting = old.waiting ∙ sym (ap (wait_by (program (tables rules)) q) log);
            activations = old.activations ∙ sym (count_same design limits t s p j keep q other);
          }

  new_states : AreStatesAfter rules later c1.states.items
  new_states = record {
    counted = ap length takes.states ∙ length-set c0.states.items p Waiting ∙ core.has_states.counted;
    each = λ q x e. let f = subst (λ xs. slice_get xs q ≡ Some x) takes.states e in here q (λ same. is_idle q x same f) (λ other. is_as_before q x other (set_there c0.states.items p q Waiting x other f));
  }
    where
      is_idle : (q : ℕ) (x : State) → q ≡ p → slice_get (slice_set c0.states.items p Waiting) q ≡ Some x → IsStateOf rules later q x
      is_idle q x same f =
          let one : Waiting ≡ x = set_here c0.states.items p Waiting x (subst (λ n. slice_get (slice_set c0.states.items p Waiting) n ≡ Some x) same f) in
          subst (IsStateOf rules later q) one (ap (λ n. last n later.board.out) same ∙ out_none design limits t s p j keep)

      is_as_before : (q : ℕ) (x : State) → q ≢ p → slice_get c0.states.items q ≡ Some x → IsStateOf rules later q x
      is_as_before q Waiting other f = out_same design limits t s p j keep q other ∙ core.has_states.each q Waiting f
      is_as_before q Running other f = subst (λ o. IsSome (if has s.abandoned q then None else o)) (sym (out_same design limits t s p j keep q other)) (core.has_states.each q Running f)
      is_as_before q Abandoned other f =
          let old = core.has_states.each q Abandoned f in
          (old.0, subst (λ o. IsSome o) (sym (out_same design limits t s p j keep q other)) old.1)

  -- a process whose job is out has the front of its job
  still_runs : (q : ℕ) (k : Act Stamp Reads) → last q later.board.out ≡ Some k → IsRight rules later.board c1.fronts.fronts q
  still_runs q k e =
      here q
      (λ same. let no = sym (ap (λ n. last n later.board.out) same ∙ out_none design limits t s p j keep) ∙ e in absurd cc)
      (λ other.
      let old : last q s.board.out ≡ Some k = sym (out_same design limits t s p j keep q other) ∙ e in
      ap (λ o. running_or o ((model rules).front later.board.log q)) e
      ∙ sym (ap (λ o. running_or o ((model rules).front s.board.log q)) old)
      ∙ core.has_fronts.each q ∙ sym (ap (λ f. kept_front f.fronts q) takes.fronts))

  pub waking : IsWaking rules t later c1
  waking = record {
    has_bank = new_bank;
    told = keep.told;
    has_processes = new_processes;
    has_states = new_states;
    count = ap (λ f. length f.fronts) takes.fronts ∙ core.has_fronts.count;
    running = still_runs;
    segments = refl;
    in_reach = keep.in_reach;
    deltas = deltas;
    aligned = keep.aligned;
    kept = subst (AreKept t) (sym takes.fronts) core.has_kept;
    fit = subst (λ f. AreFit t f.fronts) (sym takes.fronts) core.fit;
  }

  pub effects_there : (fs : List Effect) → fs ≡ done.emitted.effects.items → All (IsThere design) fs
  effects_there fs e =
      let all = all_there design (operations_on rules s.board) (deed_of rules j).effects (channels_of rules s.board.log) (events_of rules s.board.log) keep.may.names in
      subst (λ gs. All (IsThere design) gs) (sym (e ∙ effects_are design limits t s p j keep done is at stamp c0 core)) all

  -- ---- once the fronts were asked anew

  module _ (l : Links) (links : AreLinks design t l) (fs : List Effect) (same_effects : fs ≡ done.emitted.effects.items) (c2 c3 : Core) (first : Woken rules t later (λ x. x ≡ p) c1 c2) (second : Woken rules t later (EffectsReach l fs (length fs)) c2 c3) where
    -- the front of another process that waits
    other_waits : (q : ℕ) → q ≢ p → last q s.board.out ≡ None → (o : Option (Wait Stamp)) → wait_by (program (tables rules)) q (last q s.board.log) ≡ o → IsRight rules later.board c3.fronts.fronts q
    other_waits q other idle None e =
        second.stay q (first.stay q
        (ap (λ o. running_or o ((model rules).front later.board.log q)) (out_same design limits t s p j keep q other ∙ idle)
        ∙ ap (front_told rules later.board) (ap (wait_by (program (tables rules)) q) (log_same design limits t s p j keep q other) ∙ e)
        ∙ sym (ap (λ o. running_or o ((model rules).front s.board.log q)) idle ∙ ap (front_told rules s.board) e)
        ∙ core.has_fronts.each q ∙ sym (ap (λ f. kept_front f.fronts q) takes.fronts)))
    other_waits q other idle (Some w) e = ⊎_elim unmoved reached (touched_or_not design limits t s p j keep l links q w e other)
      where
        unmoved : LeavesWait rules (deed_of rules j).effects w → IsRight rules later.board c3.fronts.fronts q
        unmoved none =
            second.stay q (first.stay q
            (stays design limits t s p j keep l links q w e other none c1.fronts.fronts (core.has_fronts.each q ∙ sym (ap (λ f. kept_front f.fronts q) takes.fronts)) idle))

        reached : EffectsReach l (deed_of rules j).effects (length (deed_of rules j).effects) q → IsRight rules later.board c3.fronts.fronts q
        reached h = second.right q (subst (λ gs. EffectsReach l gs (length gs) q) (sym (same_effects ∙ effects_are design limits t s p j keep done is at stamp c0 core)) h)

    all_right : (q : ℕ) → IsRight rules later.board c3.fronts.fronts q
    all_right q =
        here q
        (λ same. second.stay q (first.right q same))
        (λ other. by other (last q s.board.out) refl)
      where
        by : q ≢ p → (o : Option (Act Stamp Reads)) → last q s.board.out ≡ o → IsRight rules later.board c3.fronts.fronts q
        by other None e = other_waits q other e (wait_by (program (tables rules)) q (last q s.board.log)) refl
        by other (Some k) e = second.stay q (first.stay q (still_runs q k (out_same design limits t s p j keep q other ∙ e)))

    place_is : record { stamp = at; process = p } ≡ place_of j.stamp j.process
    place_is = λ i. record { stamp = stamp i; process = sym keep.process i }

    printed : piece_at (record { stamp = at; process = p }) done.emitted.output.items ≡ piece_in rules j
    printed = ap (λ o. piece_at (record { stamp = at; process = p }) o) (sym (ap (λ o. o.deed.output) is.does)) ∙ by (outcome_of rules j).deed.output refl
      where
        by : (o : List ℕ) → (outcome_of rules j).deed.output ≡ o → piece_at (record { stamp = at; process = p }) o ≡ elim o [ [] ↦ [] | c ∷ cs ↦ piece_of rules j ∷ [] ]
        by [] e = refl
        by (c ∷ cs) e = λ i. record { place = place_is i; bytes = sym e i } ∷ []

    whole : IsCore design limits t later (record c1 { fronts = c3.fronts })
    whole = record {
      has_bank = new_bank;
      has_variables = new_variables;
      has_processes = new_processes;
      has_states = new_states;
      has_fronts = record { count = second.waking.count; each = all_right };
      has_kept = second.waking.kept;
      fit = second.waking.fit;
      has_cut = takes.cut s.board.log core.has_cut place_is (sym (ap (λ o. o.deed.end) is.does)) (ap (list_any is_stop) (effects_are design limits t s p j keep done is at stamp c0 core));
      has_pieces = takes.pieces ∙ (λ i. core.has_pieces i ++ printed i);
      has_places = takes.places ∙ (λ i. core.has_places i ++ place_is i ∷ []);
    }

    pub taken : IsCore design limits t later c3
    taken = subst (IsCore design limits t later) (sym (second.others ∙ ap (λ (x : Core). record x { fronts = c3.fronts }) first.others)) whole
