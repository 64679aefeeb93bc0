-- Fronts that are asked anew, one after the other.
use Rattle.std.proofs.Common.{◌≡◌, ◌≢◌, ℕ, ◌<◌, ◌≤◌, ◌+◌, ◌==◌, ◌⊎◌, inl, inr, ⊎_elim, List, [], Bool, true, false, if◌then◌else◌, Option, Some, None, length, get_or, refl, sym, ap, subst, ◌∙◌, arith}
use Rattle.std.specs.Prelude.{slice_get, slice_index_or, slice_set, All, IsSome}
use Rattle.std.proofs.lemmas.Bool.{eqb-true}
use Rattle.std.proofs.lemmas.List.{get_or-set_same, get_or-set_other, length-set}
use Rattle.std.proofs.lemmas.Option.{slice_get-get_or, slice_get_cases, slice_get_within, get_or_from_slice_get}
use Rattle.ooo_time.specs.declared.stamp.Stamp.{Stamp}
use Rattle.ooo_schedules.specs.Model.{Act, front_of, last, running_or}
use Rattle.ooo_tables.specs.declared.tables.Tables.{Tables}
use Rattle.ooo_dispatch.specs.declared.reads.Reads.{Reads}
use Rattle.ooo_dispatch.specs.Boards.{model}
use Rattle.ooo_dispatch.specs.Rules.{Rules, has, process_of}
use Rattle.ooo_dispatch.specs.Steps.{Replay}
use Rattle.ooo_fronts.specs.declared.choice.State.{State}
use Rattle.ooo_fronts.specs.declared.choice.State.TheVariants.{Waiting, Running, Abandoned}
use Rattle.ooo_fronts.specs.declared.front.Front as kept
use Rattle.ooo_fronts.specs.Fronts.{AreFit, IsFit, front_is, kept_front, maybe_front, process_in}
use Rattle.ooo_fronts.specs.Holds.{AreKept}
use Rattle.ooo_board.specs.declared.cores.Core.{Core}
use Rattle.ooo_board.specs.declared.process.Process.{Process}
use Rattle.ooo_board.specs.Cores.{maybe_wait}
use Rattle.ooo_code.specs.declared.activation.Effect.{Effect}
use Rattle.ooo_code.specs.declared.activation.Effect.TheVariants as effect
use Rattle.ooo_code.specs.declared.design.Design.{Design}
use Rattle.ooo_code.specs.declared.segment.Segment.{Segment}
use Rattle.ooo_value.specs.declared.values.Value.{Value}
use Rattle.ooo_board.specs.declared.links.Links.{Links}
use Rattle.ooo_board.specs.Waking.{EffectsReach, EventsReach, IsAmong, IsRight, IsThere, IsWaking, MayAskFront, MayWake, Reaches, ReachesAll, Woken, front_told}

-- a segment is of the process that the rules say
process_same : (r : Rules) (t : Tables) → t.graph.segments ≡ r.segments → (g : ℕ) → g < length t.graph.segments → process_in t g ≡ process_of r g
process_same r t same g lt = ⊎_elim (λ there. is there.0 there.2) (λ past. let le = past.0 in absurd (omega arith)) (slice_get_cases t.graph.segments g).1
  where
    is : (x : Segment) → slice_get t.graph.segments g ≡ Some x → process_in t g ≡ process_of r g
    is x there =
        let rule : process_of r g ≡ x.process =
        ap (λ (o : Option Segment). elim o [ None ↦ length r.design.processes | Some y ↦ y.process ]) (ap (λ ss. slice_get ss g) (sym same) ∙ there) in
        ap (λ (o : Option Segment). elim o [ None ↦ 0 | Some y ↦ y.process ]) there ∙ sym rule

module _ (r : Rules) (t : Tables) (s : Replay r) where
  -- ---- none, and one after the other

  pub woken_none : (some : ℕ → Type 0) (c : Core) → IsWaking r t s c → ((q : ℕ) → some q → IsRight r s.board c.fronts.fronts q) → Woken r t s some c c
  woken_none some c waking right = record { waking = waking; others = refl; stay = λ q e. e; right = right }

  pub woken_then :
      (one two both : ℕ → Type 0) (a b c : Core) → ((q : ℕ) → both q → one q ⊎ two q) → Woken r t s one a b → Woken r t s two b c → Woken r t s both a c
  woken_then one two both a b c split first second = record {
    waking = second.waking;
    others = second.others ∙ ap (λ (x : Core). record x { fronts = c.fronts }) first.others;
    stay = λ q e. second.stay q (first.stay q e);
    right = λ q e. ⊎_elim (λ x. second.stay q (first.right q x)) (λ x. second.right q x) (split q e);
  }

  pub woken_as : (one two : ℕ → Type 0) (a b : Core) → ((q : ℕ) → two q → one q) → Woken r t s one a b → Woken r t s two a b
  woken_as one two a b some woken = record { waking = woken.waking; others = woken.others; stay = woken.stay; right = λ q e. woken.right q (some q e) }

  -- ---- one

  module _ (c : Core) (q : ℕ) (waking : IsWaking r t s c) where
    runs : (o : Option (Act Stamp Reads)) → last q s.board.out ≡ o → IsSome o → IsRight r s.board c.fronts.fronts q
    runs None e h = absurd cc
    runs (Some j) e h = waking.running q j e

    of_job : (b : Bool) → IsSome (if b then None else last q s.board.out) → IsSome (last q s.board.out)
    of_job true h = absurd cc
    of_job false h = h

    -- the front of a process that doesn't wait is right
    pub busy : (x : State) → slice_get c.states.items q ≡ Some x → x ≢ Waiting → IsRight r s.board c.fronts.fronts q
    busy Waiting at not = absurd (not refl)
    busy Running at not = runs (last q s.board.out) refl (of_job (has s.abandoned q) (waking.has_states.each q Running at))
    busy Abandoned at not = runs (last q s.board.out) refl (waking.has_states.each q Abandoned at).1

    module _ (x : Process) (at : slice_get c.processes.items q ≡ Some x) where
      -- the front of a process that waits is the one by its wait
      front_waits : slice_get c.states.items q ≡ Some Waiting → front_of (model r) s.board q ≡ front_told r s.board (maybe_wait x.waiting)
      front_waits idle =
          ap (λ o. running_or o ((model r).front s.board.log q)) (waking.has_states.each q Waiting idle)
          ∙ ap (front_told r s.board) (sym (waking.has_processes.each q x at).waiting)

      pub may_ask_front : slice_get c.states.items q ≡ Some Waiting → MayAskFront r s.board c.bank c.below (maybe_wait x.waiting)
      may_ask_front idle = record {
        applied = waking.has_bank.applied;
        told = λ w e. waking.told q w (sym (waking.has_processes.each q x at).waiting ∙ e);
        past = ⊎_elim (λ first. inl first) (λ after. inr (λ g is. after q g (front_waits idle ∙ is))) waking.has_bank.past;
      }

      module _ (idle : slice_get c.states.items q ≡ Some Waiting) (front : Option kept.Front) (told : maybe_front front ≡ front_told r s.board (maybe_wait x.waiting)) where
        -- the front that is told is the one that the process has
        is_front : front_of (model r) s.board q ≡ maybe_front front
        is_front = front_waits idle ∙ sym told

        pub fits : (f : kept.Front) → front ≡ Some f → IsFit t q f
        fits f e =
            let reach = waking.in_reach q (front_is f) (is_front ∙ ap maybe_front e) in
            let low = reach.delta in
            let limit = waking.deltas in
            let segment : f.segment < length t.graph.segments = subst (λ ss. f.segment < length ss) (sym waking.segments) reach.segment in
            record {
              segment = segment;
              process = process_same r t waking.segments f.segment segment ∙ reach.process;
              time = reach.time;
              delta = omega arith;
            }

        module _ (d : Core) (others : d ≡ record c { fronts = d.fronts }) (set : d.fronts.fronts ≡ slice_set c.fronts.fronts q front) (fit : AreFit t d.fronts.fronts) (kept : AreKept t d.fronts) (within : q < length c.fronts.fronts) where
          now_right : (y : ℕ) → y ≡ q → IsRight r s.board d.fronts.fronts y
          now_right y e =
              let here : kept_front d.fronts.fronts q ≡ maybe_front front = ap (λ fs. kept_front fs q) set ∙ ap maybe_front (get_or-set_same c.fronts.fronts q front None within) in
              subst (IsRight r s.board d.fronts.fronts) (sym e) (is_front ∙ sym here)

          still : (y : ℕ) → IsRight r s.board c.fronts.fronts y → IsRight r s.board d.fronts.fronts y
          still y e = at_test (y == q) refl
            where
              at_test : (b : Bool) → (y == q) ≡ b → IsRight r s.board d.fronts.fronts y
              at_test true k = now_right y (eqb-true y q k)
              at_test false k =
                  let differs : y ≢ q = (λ k2. absurd (grind (arith, k, k2))) in
                  e ∙ sym (ap (λ fs. kept_front fs y) set ∙ ap maybe_front (get_or-set_other c.fronts.fronts q y front None differs))

          waking_on : IsWaking r t s (record c { fronts = d.fronts })
          waking_on = record {
            has_bank = waking.has_bank;
            told = waking.told;
            has_processes = waking.has_processes;
            has_states = waking.has_states;
            count = ap length set ∙ length-set c.fronts.fronts q front ∙ waking.count;
            running = λ y j e. still y (waking.running y j e);
            segments = waking.segments;
            in_reach = waking.in_reach;
            deltas = waking.deltas;
            aligned = waking.aligned;
            kept = kept;
            fit = fit;
          }

          pub refreshed : Woken r t s (λ y. y ≡ q) c d
          refreshed = record {
            waking = subst (IsWaking r t s) (sym others) waking_on;
            others = others;
            stay = still;
            right = now_right;
          }

-- what stands at a place of a list
pub stands : {A : Type 0} (xs : List A) (q : ℕ) (x : A) → q < length xs → x ≡ get_or xs q x → slice_get xs q ≡ Some x
stands xs q x lt e = slice_get-get_or xs q x lt ∙ ap Some (sym e)

-- ---- the first of a list

pub among_more : (xs : List ℕ) (k x : ℕ) → IsAmong xs (k + 1) x → IsAmong xs k x ⊎ (x ≡ get_or xs k 0)
among_more xs k x h = at (h.place == k) refl
  where
    at : (b : Bool) → (h.place == k) ≡ b → IsAmong xs k x ⊎ (x ≡ get_or xs k 0)
    at true e = inr (sym (get_or_from_slice_get xs k x 0 (subst (λ n. slice_get xs n ≡ Some x) (eqb-true h.place k e) h.there)))
    at false e =
        let lt = h.before in
        let differs : h.place ≢ k = (λ e2. absurd (grind (arith, e, e2))) in
        inl (record { place = h.place; before = omega arith; there = h.there })

pub among_past : (xs ys : List ℕ) → xs ≡ ys → (k x : ℕ) → length xs ≤ k → IsAmong ys (length ys) x → IsAmong xs k x
among_past xs ys same k x le h =
    let there : slice_get xs h.place ≡ Some x = ap (λ zs. slice_get zs h.place) same ∙ h.there in
    let lt = slice_get_within xs h.place x there in
    record { place = h.place; before = omega arith; there = there }

module _ (l : Links) where
  pub events_more : (events : List ℕ) (k q : ℕ) → EventsReach l events (k + 1) q → EventsReach l events k q ⊎ ReachesAll l (get_or events k 0) q
  events_more events k q (e, among, reach) =
      ⊎_elim (λ a. inl (e, a, reach)) (λ same. inr (subst (λ x. ReachesAll l x q) same reach)) (among_more events k e among)

  pub events_past : (events : List ℕ) (k q : ℕ) → length events ≤ k → EventsReach l events (length events) q → EventsReach l events k q
  events_past events k q le (e, among, reach) = (e, among_past events events refl k e le among, reach)

  pub effects_past : (effects : List Effect) (k q : ℕ) → length effects ≤ k → EffectsReach l effects (length effects) q → EffectsReach l effects k q
  effects_past effects k q le h = let lt = h.before in record { place = h.place; one = h.one; before = omega arith; there = h.there; reached = h.reached }

  pub effects_more : (effects : List Effect) (k q : ℕ) (f : Effect) → slice_get effects k ≡ Some f → EffectsReach l effects (k + 1) q → EffectsReach l effects k q ⊎ Reaches l f q
  effects_more effects k q f is h = at (h.place == k) refl
    where
      at : (b : Bool) → (h.place == k) ≡ b → EffectsReach l effects k q ⊎ Reaches l f q
      at true e =
          let same : Some h.one ≡ Some f = sym h.there ∙ ap (slice_get effects) (eqb-true h.place k e) ∙ is in
          let one : h.one ≡ f = cc in
          inr (subst (λ x. Reaches l x q) one h.reached)
      at false e =
          let lt = h.before in
          let differs : h.place ≢ k = (λ e2. absurd (grind (arith, e, e2))) in
          inl (record { place = h.place; one = h.one; before = omega arith; there = h.there; reached = h.reached })

  module _ (r : Rules) (t : Tables) (s : Replay r) where
    -- as it was before the fronts were asked anew, it is after
    pub may_on : (some : ℕ → Type 0) (a b : Core) → MayWake r t s l a → Woken r t s some a b → MayWake r t s l b
    may_on some a b may woken = record { waking = woken.waking; links = may.links }

    -- a process that may wait on an event is one of the design
    pub waiter_there : (c : Core) → MayWake r t s l c → (e k : ℕ) (waiters : List ℕ) → waiters ≡ slice_index_or l.waiters.items e [] → k < length waiters → get_or waiters k 0 < length c.processes.items
    waiter_there c may e k waiters are lt =
        let processes = may.waking.has_processes.counted in
        let low : get_or waiters k 0 < length r.design.processes = subst (λ (xs : List ℕ). All (λ q. q < length r.design.processes) xs) (sym are) (may.links.waiters.within e) k 0 lt in
        omega arith

    pub channel_event_there : (c : Core) → MayWake r t s l c → (channel : ℕ) (events : List ℕ) → events ≡ slice_index_or l.channel_events.items channel [] → All (λ e. e < length r.design.events) events
    channel_event_there c may channel events are = subst (λ (xs : List ℕ). All (λ e. e < length r.design.events) xs) (sym are) (may.links.channel_events.within channel)

  -- an effect on a channel
  abbrev pub IsOn : (f : Effect) (channel : ℕ) → Type 0
  IsOn f channel = ((x : Value) × (f ≡ effect.Request channel x)) ⊎ (((x : Value) × (f ≡ effect.Put channel x)) ⊎ (f ≡ effect.Take channel))

  pub channel_reached : (f : Effect) (channel q : ℕ) (events : List ℕ) → IsOn f channel → events ≡ slice_index_or l.channel_events.items channel [] → Reaches l f q → EventsReach l events (length events) q
  channel_reached f channel q events (inl (x, e)) are h = subst (λ (xs : List ℕ). EventsReach l xs (length xs) q) (sym are) (subst (λ g. Reaches l g q) e h)
  channel_reached f channel q events (inr (inl (x, e))) are h = subst (λ (xs : List ℕ). EventsReach l xs (length xs) q) (sym are) (subst (λ g. Reaches l g q) e h)
  channel_reached f channel q events (inr (inr e)) are h = subst (λ (xs : List ℕ). EventsReach l xs (length xs) q) (sym are) (subst (λ g. Reaches l g q) e h)

  pub channel_there : (design : Design) (f : Effect) (channel : ℕ) → IsOn f channel → IsThere design f → channel < length design.channels
  channel_there design f channel (inl (x, e)) h = subst (IsThere design) e h
  channel_there design f channel (inr (inl (x, e))) h = subst (IsThere design) e h
  channel_there design f channel (inr (inr e)) h = subst (IsThere design) e h
