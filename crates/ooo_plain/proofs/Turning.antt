-- A process has its turn.
use Rattle.std.proofs.Common.{◌≡◌, ◌≢◌, ◌⊎◌, inl, inr, ℕ, suc, ◌<◌, ◌≤◌, ◌==◌, Bool, true, false, arith, List, [], ◌∷◌, Option, Some, None, refl, sym, subst, ap, ◌∙◌, get_or, map, set, length, ⊎_elim, eq-eqb}
use Rattle.std.proofs.lemmas.List.{length-map, length-set, get_or-set_same, get_or-set_other, get_or_past, ext_get_or}
use Rattle.std.proofs.Math.ListN.{get_or-map}
use Rattle.std.proofs.lemmas.Bool.{cases_eq, cases_lt}
use Rattle.std.proofs.lemmas.List.Folds.{list_any_at}
use Rattle.std.proofs.lemmas.Option.{slice_get-get_or}
use Rattle.std.specs.Prelude.{All, Contains, IsSome, slice_get}
use Rattle.std.specs.List.{list_any}
use Rattle.ooo_time.specs.declared.stamp.Stamp.{Stamp}
use Rattle.ooo_time.specs.Stamps.{IsBefore}
use Rattle.ooo_value.specs.declared.bound.BoundEvent.{BoundEvent}
use Rattle.ooo_value.specs.declared.bound.BoundEvent.TheVariants as event
use Rattle.ooo_value.specs.declared.kinds.Kind.{Kind}
use Rattle.ooo_value.specs.declared.kinds.Kind.TheVariants as value_kind
use Rattle.ooo_events.specs.declared.call.Call.{Call}
use Rattle.ooo_events.specs.Slots.{due_of}
use Rattle.ooo_events.specs.Firings.{IsFirstAfter, Fires}
use Rattle.ooo_code.specs.declared.activation.Effect.{Effect}
use Rattle.ooo_code.specs.declared.design.Design.{Design}
use Rattle.ooo_code.specs.Outcomes.{Deed}
use Rattle.ooo_code.specs.Sound.{IsSound, FitsEvent, signal_kind, fifo_kind}
use Rattle.ooo_meaning.specs.World.{World, Wait, wait_at, never, update, activity, sooner, least, after_deed, wait_after}
use Rattle.ooo_channels.specs.Operations.{Operations, after_effects}
use Rattle.ooo_channels.specs.Calls.{FiresAt, calls_of, calls_by}
use Rattle.ooo_channels.specs.Conditions.{HasEventAt, FitsChannels, MayApplyAll}
use Rattle.ooo_channels.specs.Agreement.{Agrees, IsTimely}
use Rattle.ooo_channels.specs.Bank.{BankState, IsBankAfter}
use Rattle.ooo_channels.specs.Apart.{LeavesOthers}
use Rattle.ooo_plain.specs.declared.schedule.Awaited.{Awaited}
use Rattle.ooo_plain.specs.declared.schedule.Schedule.{Schedule}
use Rattle.ooo_plain.specs.Agenda.{due_in}
use Rattle.ooo_plain.specs.Schedule.{awaited_at, nothing_awaited, waits_on, AskedAnew, Touched, Waits, IsDueBy}
use Rattle.ooo_plain.specs.Laws.{Laws}
use Rattle.ooo_plain.specs.Tracking.{will_run, awaited_of, affects, IsPlanned, IsPlannedBut}
use Rattle.ooo_plain.specs.Engine.{AreOf}
use Rattle.ooo_plain.proofs.Asking.{first_same, touched_knows}
use Rattle.ooo_plain.proofs.Effects.{channels_after, events_after}
use Rattle.ooo_plain.proofs.Fitting.{signal_there, fifo_there}
use Rattle.ooo_plain.proofs.Tracking.{not_now}
use Rattle.ooo_plain.proofs.Waits.{due_at}
use Rattle.ooo_plain.proofs.Deeding.{stamp_after, waits_after}

-- ---- events that are there

pub signal_some : (k : Option Kind) → k ≡ Some value_kind.Bool → IsSome k
signal_some k e = rw e refl

module _ (design : Design) (sound : IsSound design) (ops : Operations) (of : AreOf design ops) where
  fits_channels : (k : BoundEvent) → FitsEvent design.channels k → FitsChannels ops k
  fits_channels event.Own h = _
  fits_channels (event.Changed c) h = signal_there ops c (subst (λ xs. IsSome (signal_kind (slice_get xs c))) (sym of.channels) h)
  fits_channels (event.Rise c) h = signal_there ops c (subst (λ xs. IsSome (signal_kind (slice_get xs c))) (sym of.channels) (signal_some _ h))
  fits_channels (event.Fall c) h = signal_there ops c (subst (λ xs. IsSome (signal_kind (slice_get xs c))) (sym of.channels) (signal_some _ h))
  fits_channels (event.Written c) h = fifo_there ops c (subst (λ xs. IsSome (fifo_kind (slice_get xs c))) (sym of.channels) h)
  fits_channels (event.Taken c) h = fifo_there ops c (subst (λ xs. IsSome (fifo_kind (slice_get xs c))) (sym of.channels) h)

  pub has_event : (e : ℕ) → e < length design.events → HasEventAt ops e
  has_event e lt = record {
    kind = get_or design.events e event.Own;
    is = ap (λ xs. slice_get xs e) of.events ∙ slice_get-get_or design.events e event.Own lt;
    fits = fits_channels (get_or design.events e event.Own) (sound.events e event.Own lt);
  }

  pub have_events : (n : ℕ) → n ≡ length design.events → (es : List ℕ) → All (λ e. e < n) es → All (HasEventAt ops) es
  have_events n is es h k d lt = has_event (get_or es k d) (let l = h k d lt in omega (arith, l, is))

-- ---- what effects don't affect fires as before

same_calls : (at : Stamp) (ops : Operations) (fs : List Effect) (e : ℕ) → LeavesOthers at ops fs → ((k : BoundEvent) → slice_get ops.events e ≡ Some k → list_any (affects e k) fs ≡ false) → calls_of (after_effects at ops fs) e ≡ calls_of ops e
same_calls at ops fs e others none = ap (λ (xs : List BoundEvent). elim (slice_get xs e) as (λ _. List Call) [ None ↦ [] | Some k ↦ calls_by (after_effects at ops fs) e k ]) (events_after at fs ops) ∙ go (slice_get ops.events e) refl
  where
    by_kind : (k : BoundEvent) → list_any (affects e k) fs ≡ false → calls_by (after_effects at ops fs) e k ≡ calls_by ops e k
    by_kind event.Own h = others.own e h
    by_kind (event.Changed c) h = others.notices (event.Changed c) h
    by_kind (event.Rise c) h = others.notices (event.Rise c) h
    by_kind (event.Fall c) h = others.notices (event.Fall c) h
    by_kind (event.Written c) h = others.notices (event.Written c) h
    by_kind (event.Taken c) h = others.notices (event.Taken c) h

    go : (o : Option BoundEvent) → slice_get ops.events e ≡ o → (elim o as (λ _. List Call) [ None ↦ [] | Some k ↦ calls_by (after_effects at ops fs) e k ]) ≡ (elim o as (λ _. List Call) [ None ↦ [] | Some k ↦ calls_by ops e k ])
    go None is = refl
    go (Some k) is = by_kind k (none k is)

-- ---- who is due when after the deed

module _ (laws : Laws) (design : Design) (sound : IsSound design) (p : ℕ) (w : World) (ops : Operations) (of : AreOf design ops) (agrees : Agrees ops w) (timely : IsTimely w) (d : Deed) (may : MayApplyAll ops w.stamp d.effects) where
  abbrev pub w' : World
  w' = after_deed p w d

  abbrev pub ops' : Operations
  ops' = after_effects w.stamp ops d.effects

  pub agrees' : Agrees ops' w'
  agrees' = laws.activates ops w p d agrees may

  pub timely' : IsTimely w'
  timely' = laws.timely w p d timely

  pub of' : AreOf design ops'
  of' = record { channels = channels_after w.stamp d.effects ops ∙ of.channels; events = events_after w.stamp d.effects ops ∙ of.events }

  first_before : (e : ℕ) → e < length design.events → IsFirstAfter (FiresAt ops e) w.stamp (due_at (update w).slots e)
  first_before e lt = laws.fires ops w e agrees (has_event design sound ops of e lt)

  pub first_later : (e : ℕ) → e < length design.events → IsFirstAfter (FiresAt ops' e) w.stamp (due_at (update w').slots e)
  first_later e lt = subst (λ s. IsFirstAfter (FiresAt ops' e) s (due_at (update w').slots e)) (stamp_after p w d) (laws.fires ops' w' e agrees' (has_event design sound ops' of' e lt))

  -- what is asked by the operations is what the phases will do
  pub asked_is : (h : Awaited) (x : Wait) → h ≡ awaited_of x → All (λ e. e < length design.events) x.events → (due : Option Stamp) → IsDueBy ops' w.stamp h due → due ≡ activity (update w').slots x
  asked_is h x e known due is = subst (λ y. IsDueBy ops' w.stamp y due) e is (due_at (update w').slots) (λ k n lt. first_later (get_or x.events k n) (known k n lt))

  -- an event that isn't affected fires when it did
  spared_same : (e : ℕ) → e < length design.events → ((k : BoundEvent) → slice_get design.events e ≡ Some k → list_any (affects e k) d.effects ≡ false) → due_at (update w').slots e ≡ due_at (update w).slots e
  spared_same e lt none =
      let calls = same_calls w.stamp ops d.effects e (laws.others_stay w.stamp ops d.effects) (λ k is. none k (ap (λ xs. slice_get xs e) (sym of.events) ∙ is)) in
      let before : IsFirstAfter (FiresAt ops' e) w.stamp (due_at (update w).slots e) = subst (λ cs. IsFirstAfter (Fires cs) w.stamp (due_at (update w).slots e)) (sym calls) (first_before e lt) in
      first_same (FiresAt ops' e) w.stamp _ _ (first_later e lt) before

  all_spared : (es : List ℕ) → All (λ e. e < length design.events) es → ((e : ℕ) → Contains es e → (k : BoundEvent) → slice_get design.events e ≡ Some k → list_any (affects e k) d.effects ≡ false) → map (due_at (update w').slots) es ≡ map (due_at (update w).slots) es
  all_spared [] known none = refl
  all_spared (e ∷ es) known none =
      rw (
        spared_same e (known 0 0 (omega arith)) (λ k is. none e (0, omega arith, refl) k is),
        all_spared es (λ k n lt. known (suc k) n (omega (arith, lt))) (λ i c k is. none i (suc c.0, (let l = c.1 in omega (arith, l)), c.2) k is),
      ) refl

  wait_other : (q : ℕ) → q ≢ p → wait_at w'.waits q ≡ wait_at w.waits q
  wait_other q ne = ap (λ xs. wait_at xs q) (waits_after p w d) ∙ get_or-set_other w.waits p q (wait_after w.stamp d.end) never ne

  count' : length w'.waits ≡ length w.waits
  count' = ap length (waits_after p w d) ∙ length-set w.waits p (wait_after w.stamp d.end)

  module _ (bank : BankState) (bank_is : IsBankAfter bank ops') (below : ¬ IsBefore w.stamp ops'.below)
      (s t : Schedule) (h : IsPlannedBut p s w) (lists : length s.waiters.items ≡ length design.events)
      (es : List ℕ) (touched : Touched es bank w.stamp s t)
      (all : (e : ℕ) (k : BoundEvent) → slice_get design.events e ≡ Some k → list_any (affects e k) d.effects ≡ true → Contains es e)
      (known : (q : ℕ) → All (λ e. e < length design.events) (wait_at w.waits q).events) where
    not_affected : (q : ℕ) (x : Wait) → awaited_at s.awaited.items q ≡ awaited_of x → ((e : ℕ) → Contains es e → waits_on e (awaited_at s.awaited.items q) ≡ false) → (e : ℕ) → Contains x.events e → (k : BoundEvent) → slice_get design.events e ≡ Some k → list_any (affects e k) d.effects ≡ false
    not_affected q x awaited spared e c k is = go (list_any (affects e k) d.effects) refl
      where
        waits : waits_on e (awaited_of x) ≡ true
        waits = list_any_at (λ i. i == e) x.events c.0 e c.1 (eq-eqb _ e c.2)

        go : (b : Bool) → list_any (affects e k) d.effects ≡ b → b ≡ false
        go false f = refl
        go true f = absurd (let no : true ≡ false = sym waits ∙ ap (waits_on e) (sym awaited) ∙ spared e (all e k is f) in cc)

    runs_still : (q : ℕ) → q ≢ p → (x : Wait) → x ≡ wait_at w.waits q → x.runnable ≡ true → due_in s.agenda q ≡ Some w.stamp
    runs_still q ne x is r = h.dues q ne ∙ ap (will_run w.stamp (update w).slots) (sym is) ∙ rw r refl

    new_due : (q : ℕ) → q ≢ p → (b : Bool) → (wait_at w.waits q).runnable ≡ b
        → AskedAnew bank w.stamp (awaited_at s.awaited.items q) (due_in s.agenda q) (due_in t.agenda q) ⊎ ((due_in t.agenda q ≡ due_in s.agenda q) × ((e : ℕ) → Contains es e → waits_on e (awaited_at s.awaited.items q) ≡ false))
        → due_in t.agenda q ≡ will_run w.stamp (update w').slots (wait_at w.waits q)
    new_due q ne true r (inl (inl a)) = absurd (a.0 (runs_still q ne (wait_at w.waits q) refl r))
    new_due q ne true r (inl (inr a)) = a.0 ∙ a.1 ∙ rw r refl
    new_due q ne true r (inr a) = a.0 ∙ runs_still q ne (wait_at w.waits q) refl r ∙ rw r refl
    new_due q ne false r (inl (inl a)) = asked_is (awaited_at s.awaited.items q) (wait_at w.waits q) (h.awaited q ne r) (known q) (due_in t.agenda q) (a.1 ops' bank_is below) ∙ rw r refl
    new_due q ne false r (inl (inr a)) = absurd (not_now w timely q r (sym (h.dues q ne) ∙ a.1))
    new_due q ne false r (inr a) =
        let x : Wait = wait_at w.waits q in
        let same = all_spared x.events (known q) (not_affected q x (h.awaited q ne r) a.1) in
        a.0 ∙ h.dues q ne ∙ rw r (ap (λ xs. sooner (due_of x.timeout) (least xs)) (sym same))

    past : (q : ℕ) → length s.agenda ≤ q → due_in t.agenda q ≡ will_run w.stamp (update w').slots (wait_at w.waits q)
    past q le =
        get_or_past t.agenda q None (let c = touched.count in omega (arith, le, c))
        ∙ ap (will_run w.stamp (update w').slots) (sym (get_or_past w.waits q never (let c = h.count in omega (arith, le, c))))

    pub but_after : IsPlannedBut p t w'
    but_after = record {
      count = touched.count ∙ h.count ∙ sym count';
      dues = λ q ne. ⊎_elim (λ lt. new_due q ne (wait_at w.waits q).runnable refl (touched.each q lt)) (λ le. past q le) (cases_lt q (length s.agenda))
          ∙ ap (λ x. will_run w.stamp (update w').slots x) (sym (wait_other q ne)) ∙ ap (λ st. will_run st (update w').slots (wait_at w'.waits q)) (sym (stamp_after p w d));
      awaited = λ q ne r.
          ap {A = Schedule} (λ x. awaited_at x.awaited.items q) touched.rest ∙ h.awaited q ne (ap (λ x. x.runnable) (sym (wait_other q ne)) ∙ r) ∙ ap awaited_of (sym (wait_other q ne));
      known = λ q. subst (λ x. All (λ e. e < length x.waiters.items) (awaited_at x.awaited.items q).events) (sym touched.rest) (h.known q);
      knows = touched_knows bank w.stamp es s t touched h.knows;
    }

  -- ---- the wait of its own

  module _ (bank : BankState) (bank_is : IsBankAfter bank ops') (below : ¬ IsBefore w.stamp ops'.below)
      (t u : Schedule) (h : IsPlannedBut p t w') (own : All (λ e. e < length design.events) (wait_after w.stamp d.end).events) (lt : p < length w.waits) (lists : length t.waiters.items ≡ length design.events)
      (wait : Waits p (awaited_of (wait_after w.stamp d.end)) bank w.stamp t u) (idle : (wait_after w.stamp d.end).runnable ≡ false) where
    wait_p : wait_at w'.waits p ≡ wait_after w.stamp d.end
    wait_p = ap (λ xs. wait_at xs p) (waits_after p w d) ∙ get_or-set_same w.waits p (wait_after w.stamp d.end) never lt

    within : p < length t.agenda
    within = let a = h.count in let b = count' in omega (arith, lt, a, b)

    due_p : due_in u.agenda p ≡ will_run w'.stamp (update w').slots (wait_at w'.waits p)
    due_p =
        ap (λ a. due_in a p) wait.agenda ∙ get_or-set_same t.agenda p wait.due None within
        ∙ asked_is (awaited_of (wait_after w.stamp d.end)) (wait_after w.stamp d.end) refl own wait.due (wait.asked ops' bank_is below)
        ∙ (let runs : activity (update w').slots (wait_after w.stamp d.end) ≡ will_run w'.stamp (update w').slots (wait_after w.stamp d.end) = rw idle refl in runs)
        ∙ ap (will_run w'.stamp (update w').slots) (sym wait_p)

    due_q : (q : ℕ) → q ≢ p → due_in u.agenda q ≡ will_run w'.stamp (update w').slots (wait_at w'.waits q)
    due_q q ne = ap (λ a. due_in a q) wait.agenda ∙ get_or-set_other t.agenda p q wait.due None ne ∙ h.dues q ne

    awaited_p : (q : ℕ) → q ≡ p → awaited_at u.awaited.items q ≡ awaited_of (wait_after w.stamp d.end)
    awaited_p q e = ap (λ a. awaited_at a q) wait.awaited ∙ ap (awaited_at (set t.awaited.items p (awaited_of (wait_after w.stamp d.end)))) e ∙ get_or-set_same t.awaited.items p (awaited_of (wait_after w.stamp d.end)) nothing_awaited (let a = within in let b = h.knows.count in omega (arith, a, b))

    awaited_q : (q : ℕ) → q ≢ p → awaited_at u.awaited.items q ≡ awaited_at t.awaited.items q
    awaited_q q ne = ap (λ a. awaited_at a q) wait.awaited ∙ get_or-set_other t.awaited.items p q (awaited_of (wait_after w.stamp d.end)) nothing_awaited ne

    pub planned_after : IsPlanned u w'
    planned_after = record {
      dues = ext_get_or None u.agenda (map (will_run w'.stamp (update w').slots) w'.waits)
          (ap length wait.agenda ∙ length-set t.agenda p wait.due ∙ h.count ∙ sym (length-map w'.waits (will_run w'.stamp (update w').slots)))
          (λ q lt. ⊎_elim (λ e. subst (λ i. due_in u.agenda i ≡ will_run w'.stamp (update w').slots (wait_at w'.waits i)) (sym e) due_p) (λ ne. due_q q ne) (cases_eq q p)
          ∙ sym (get_or-map (will_run w'.stamp (update w').slots) w'.waits q never));
      awaited = λ q r. ⊎_elim
          (λ e. awaited_p q e ∙ ap awaited_of (sym (ap (wait_at w'.waits) e ∙ wait_p)))
          (λ ne. awaited_q q ne ∙ h.awaited q ne r) (cases_eq q p);
      known = λ q. subst (λ n. All (λ e. e < n) (awaited_at u.awaited.items q).events) (sym wait.count)
          (⊎_elim
          (λ e. subst (λ y. All (λ i. i < length t.waiters.items) y.events) (sym (awaited_p q e)) (subst (λ n. All (λ i. i < n) (wait_after w.stamp d.end).events) (sym lists) own))
          (λ ne. subst (λ y. All (λ i. i < length t.waiters.items) y.events) (sym (awaited_q q ne)) (h.known q)) (cases_eq q p));
      knows = wait.knows;
    }
