-- How far fronts go: each is of a segment of its process, at a stamp to which delays can be added, with a delta index up to the limit.
use Rattle.std.proofs.Common.{◌≡◌, ℕ, ◌<◌, ◌≤◌, ◌+◌, ◌⊎◌, inl, inr, ⊎_elim, List, length, Bool, true, false, ◌==◌, if◌then◌else◌, Option, Some, None, refl, sym, ap, ◌∙◌, subst, arith}
use Rattle.std.specs.Prelude.{IfSome, slice_get}
use Rattle.std.proofs.lemmas.Bool.{cases_order}
use Rattle.std.proofs.lemmas.Option.{slice_get_within}
use Rattle.ooo_time.specs.declared.time.Time.{Time}
use Rattle.ooo_time.specs.declared.stamp.Stamp.{Stamp}
use Rattle.ooo_time.specs.Delays.{greatest_wait}
use Rattle.ooo_time.specs.Scales.{greatest_time}
use Rattle.ooo_time.specs.Stamps.{stamp_after}
use Rattle.ooo_code.specs.declared.activation.Effect.TheVariants as effect
use Rattle.ooo_code.specs.declared.activation.JobEnd.{JobEnd}
use Rattle.ooo_code.specs.declared.activation.JobEnd.TheVariants as job_end
use Rattle.ooo_code.specs.declared.segment.Segment.{Segment}
use Rattle.ooo_code.specs.declared.segment.SegmentEntry.{SegmentEntry}
use Rattle.ooo_code.specs.declared.segment.SegmentEntry.TheVariants.{Start}
use Rattle.ooo_code.specs.Segments.{entries_of}
use Rattle.ooo_code.specs.Sound.{IsSound}
use Rattle.ooo_meaning.specs.World.{next_delta, zero_stamp}
use Rattle.ooo_schedules.specs.Design as order
use Rattle.ooo_schedules.specs.Design.{Wait, front_by, front_when, soonest, sort, times}
use Rattle.ooo_schedules.specs.Model.{Act, Dispatched, Front, In, commit, dispatch, empty, front_at, job, last, running_or}
use Rattle.ooo_schedules.specs.Program.{Left, Waits, Ended, Sound, design, time_out, wait_by, wait_left}
use Rattle.ooo_schedules.specs.Tables.{program}
use Rattle.ooo_dispatch.specs.declared.reads.Reads.{Reads}
use Rattle.ooo_dispatch.specs.Boards.{AreRules, Board, IsAllowed, IsFront, IsLawful, model}
use Rattle.ooo_dispatch.specs.Reach.{IsInReach, LeavesInReach}
use Rattle.ooo_dispatch.specs.Rules.{Rules, deed_of, entry_of, left_by, outcome_of, process_of, segment_at, tables, view_at}
use Rattle.ooo_dispatch.proofs.Accessed.{Here, fits, in_contained, process_at}
use Rattle.ooo_dispatch.proofs.Acting.{Does, acting}
use Rattle.ooo_dispatch.proofs.Allowed.{last_in}
use Rattle.ooo_dispatch.proofs.Commits.{in_sorted}
use Rattle.ooo_dispatch.proofs.Firing.{Made, soonest_holds}
use Rattle.ooo_dispatch.proofs.Owners.{in_without, last_of}
use Rattle.ooo_dispatch.proofs.Placing.{IsGiven}
use Rattle.ooo_dispatch.proofs.Starts.{StartsAs, starts_as, wait_if}
use Rattle.ooo_dispatch.proofs.Timed.{AreGiven, IsGivenEnd, IsTimed, all_timed}

abbrev Activation : Type 0
Activation = Act Stamp Reads

-- a segment of one of the design's processes is there
there : (r : Rules) (n q : ℕ) → process_of r n ≡ q → q < length r.design.processes → n < length r.segments
there r n q owner lt = at (slice_get r.segments n) refl
  where
    at : (o : Option Segment) → slice_get r.segments n ≡ o → n < length r.segments
    at (Some s) e = slice_get_within r.segments n s e
    at None e = absurd (let none : process_of r n ≡ length r.design.processes = rw (process_of, e) refl in let same = sym owner ∙ none in omega (arith, same, lt))

-- the time of a wait that an activation leaves, by how it ends
left_given : (r : Rules) (p : ℕ) (next : SegmentEntry) (end : JobEnd) (n : ℕ) (t : Option Time) (es : List ℕ) → left_by r p next end ≡ Waits n t es → IsGivenEnd end → IfSome t IsGiven
left_given r p next (job_end.Waits on) n t es e g = subst (λ o. IfSome o IsGiven) (ap (λ l. elim l [ Waits a b c ↦ b | Ended ↦ t ]) e) g
left_given r p next job_end.Ended n t es e g = absurd cc
left_given r p next (job_end.Faulted f line) n t es e g = absurd cc
left_given r p next (job_end.Limit line) n t es e g = absurd cc

module _ (r : Rules) (rules : AreRules r) (sound : IsSound r.design) (does : Does) (runs : Sound (program (tables r))) (stop : r.limits.stop.0 ≤ greatest_time) where
  abbrev P : order.Design
  P = design (program (tables r))

  -- ---- the times that an activation gives

  timed : (y : Activation) → Here r rules sound y.segment → IsTimed (outcome_of r y)
  timed y h =
      all_timed r.design h.process (process_of r y.segment) r.limits.statements (record { entry = entry_of r y.segment; slots = y.reads.slots }) (view_at y.stamp y.reads)
      (fits r rules sound y.segment h) process enters
    where
      process : slice_get r.design.processes (process_of r y.segment) ≡ Some h.process
      process = ap (slice_get r.design.processes) (process_at r rules sound y.segment h) ∙ h.process_is

      entry : entry_of r y.segment ≡ h.segment.entry
      entry = rw (entry_of, h.segment_is) refl

      enters : In (entry_of r y.segment) (entries_of r.design h.process)
      enters = subst (λ e. In e (entries_of r.design h.process)) (sym entry) (in_contained (entries_of r.design h.process) h.segment.entry h.whole.entry)

  given : (y : Activation) → AreGiven (deed_of r y).effects
  given y = ⊎_elim (λ a. (timed y a.here).effects) (λ n. λ e k i. absurd (subst (λ fs. In (effect.Notify e k) fs) n.effects i)) (acting r rules sound does y)

  given_wait : (y : Activation) (n : ℕ) (t : Option Time) (es : List ℕ) → (deed_of r y).left ≡ Waits n t es → IfSome t IsGiven
  given_wait y n t es e =
      ⊎_elim (λ a. left_given r (process_of r y.segment) (outcome_of r y).next.entry (outcome_of r y).deed.end n t es e (timed y a.here).end)
      (λ a. absurd (let c : Ended ≡ Waits n t es = sym a.left ∙ e in cc)) (acting r rules sound does y)

  -- ---- stamps

  -- delays can be added to the stamp, and its delta index is up to the limit
  pub record IsNear (s : Stamp) : Type 0 where
    pub time : s.time.0 ≤ greatest_wait
    pub delta : s.delta ≤ r.limits.deltas

  -- an activation ran at a front in reach, in time and below the limit
  pub record Ran (y : Activation) : Type 0 where
    pub reach : IsInReach r y.process (front_at y)
    pub in_time : y.stamp.time.0 ≤ r.limits.stop.0
    pub below_limit : y.stamp.delta < r.limits.deltas

  near_zero : IsNear zero_stamp
  near_zero = record { time = omega arith; delta = omega arith }

  near_next : (y : Activation) → Ran y → IsNear (next_delta y.stamp)
  near_next y ran = let t = ran.in_time in let d = ran.below_limit in record { time = omega (arith, t, stop); delta = omega (arith, d) }

  near_after : (y : Activation) → Ran y → (k : Time) → IsGiven k → IsNear (stamp_after y.stamp k)
  near_after y ran k g = by (k.0 == 0)
    where
      by : (b : Bool) → IsNear (if b then record { time = y.stamp.time; delta = y.stamp.delta + 1 } else record { time = record { 0 = y.stamp.time.0 + k.0 }; delta = 0 })
      by true = near_next y ran
      by false = let t = ran.in_time in record { time = omega (arith, t, stop, g); delta = omega arith }

  made : (y : Activation) → Ran y → Made IsNear r y
  made y ran = record { next = near_next y ran; notified = λ e k i. near_after y ran k (given y e k i) }

  -- ---- waits

  -- a wait is of a segment of its process, and its time-out is near
  record IsNearWait (q : ℕ) (w : Wait Stamp) : Type 0 where
    within : q < length r.design.processes
    owner : process_of r w.segment ≡ q
    timeout : IfSome w.timeout IsNear

  start_near : (q : ℕ) (w : Wait Stamp) → (tables r).start q ≡ Some w → IsNearWait q w
  start_near q w e = record { within = runs.starting q w e; owner = runs.start_owner q w e; timeout = subst (λ v. IfSome v.timeout IsNear) s.wait (by s.process.initialize) }
    where
      s : StartsAs r rules q w
      s = starts_as r rules q w e

      by : (b : Bool) → IfSome (wait_if b (segment_at r q Start) s.process.sensitive).timeout IsNear
      by true = near_zero
      by false = tt

  left_near : (z : Activation) → Ran z → (l : Left) → (deed_of r z).left ≡ l → (w : Wait Stamp) → wait_left z.stamp l ≡ Some w → IsNearWait z.process w
  left_near z ran Ended e w h = absurd cc
  left_near z ran (Waits n t es) e w h = subst (IsNearWait z.process) same (record { within = ran.reach.within; owner = runs.next z n t es e ∙ ran.reach.process; timeout = by t (given_wait z n t es e) })
    where
      same : record { segment = n; timeout = time_out z.stamp t; events = es; since = Some z.stamp } ≡ w
      same = cc

      by : (o : Option Time) → IfSome o IsGiven → IfSome (time_out z.stamp o) IsNear
      by None g = tt
      by (Some k) g = near_after z ran k g

  wait_near : (log : List Activation) → ((y : Activation) → In y log → Ran y) → (q : ℕ) (o : Option Activation) → last q log ≡ o → (w : Wait Stamp) → wait_by (program (tables r)) q o ≡ Some w → IsNearWait q w
  wait_near log ran q None e w h = start_near q w h
  wait_near log ran q (Some z) e w h = subst (λ p. IsNearWait p w) (last_of q log z e) (left_near z (ran z (last_in q log z e)) (deed_of r z).left refl w h)

  -- ---- fronts

  -- of a process that waits, after activations that ran
  pub front_in_reach : (log : List Activation) → ((y : Activation) → In y log → Ran y) → (q : ℕ) (g : Front Stamp) → (model r).front log q ≡ Some g → IsInReach r q g
  front_in_reach log ran q g front = at (wait_by (program (tables r)) q (last q log)) refl front
    where
      by : (w : Wait Stamp) → IsNearWait q w → (o : Option Stamp) → IfSome o IsNear → front_by w.segment o ≡ Some g → IsInReach r q g
      by w near None s h = absurd cc
      by w near (Some t) s h =
          subst (IsInReach r q) (let same : record { segment = w.segment; stamp = t } ≡ g = cc in same)
          (record { segment = there r w.segment q near.owner near.within; process = near.owner; within = near.within; time = s.time; delta = s.delta })

      at : (o : Option (Wait Stamp)) → wait_by (program (tables r)) q (last q log) ≡ o → front_when P (sort P log) o ≡ Some g → IsInReach r q g
      at None e h = absurd cc
      at (Some w) e h =
          let near = wait_near log ran q (last q log) refl w e in
          by w near (soonest P (times P w (sort P log))) (soonest_holds IsNear r (sort P log) w (λ y i. made y (ran y (in_sorted r log y i))) near.timeout) h

  -- ---- boards

  job_ran : (b : Board r) → ((y : Activation) → In y b.log → Ran y) → (p : ℕ) (f : Front Stamp) → IsAllowed r b p f → Ran (job (model r) b p f)
  job_ran b ran p f a = record { reach = reach; in_time = a.within; below_limit = ⊎_elim (λ e. absurd (a.below e)) (λ h. ⊎_elim (λ l. l) (λ l. absurd (let d = reach.delta in omega (arith, d, l))) h) (cases_order f.stamp.delta r.limits.deltas) }
    where
      reach : IsInReach r p f
      reach = front_in_reach b.log ran p f a.front

  -- all that was dispatched ran so
  pub ran_on : {b : Board r} → IsLawful r b → (y : Activation) → Dispatched (model r) y b → Ran y
  ran_on empty y (inl i) = absurd i
  ran_on empty y (inr i) = absurd i
  ran_on (dispatch p f lawful a) y (inl i) = ran_on lawful y (inl i)
  ran_on (dispatch p f lawful a) y (inr (inl e)) = subst Ran (sym e) (job_ran _ (λ z i. ran_on lawful z (inl i)) p f a)
  ran_on (dispatch p f lawful a) y (inr (inr i)) = ran_on lawful y (inr i)
  ran_on (commit j lawful i) y (inl (inl e)) = subst Ran (sym e) (ran_on lawful j (inr i))
  ran_on (commit j lawful i) y (inl (inr k)) = ran_on lawful y (inl k)
  ran_on (commit j lawful i) y (inr k) = ran_on lawful y (inr (in_without j.process _ y k).0)

  pub fronts_in_reach : (b : Board r) → IsLawful r b → (q : ℕ) (g : Front Stamp) → IsFront r b q g → IsInReach r q g
  fronts_in_reach b lawful q g front = at (last q b.out) refl front
    where
      at : (o : Option Activation) → last q b.out ≡ o → running_or o ((model r).front b.log q) ≡ Some g → IsInReach r q g
      at None e h = front_in_reach b.log (λ y i. ran_on lawful y (inl i)) q g h
      at (Some j) e h = subst (IsInReach r q) (let same : front_at j ≡ g = cc in same) (subst (λ p. IsInReach r p (front_at j)) (last_of q b.out j e) (ran_on lawful j (inr (last_in q b.out j e))).reach)

  -- ---- where a job leaves its process

  pub leaves_in_reach : (b : Board r) → IsLawful r b → (j : Activation) → In j b.out → LeavesInReach r j
  leaves_in_reach b lawful j out = record {
    next = λ n t es e. let owner = runs.next j n t es e ∙ reach.process in (there r n j.process owner reach.within, owner);
    time = λ n t es e. given_wait j n t es e;
  }
    where
      reach : IsInReach r j.process (front_at j)
      reach = (ran_on lawful j (inr out)).reach
