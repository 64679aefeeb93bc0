-- In a sound design the effects of an activation may be applied, and it waits for what is there.
use Rattle.std.proofs.Common.{◌≡◌, ℕ, zero, suc, ◌<◌, ◌≤◌, List, [], ◌∷◌, length, Bool, true, false, if◌then◌else◌, Option, Some, None, Result, Ok, Err, refl, sym, ap, ◌∙◌, subst, arith}
use Rattle.std.proofs.lemmas.List.Elements.{All-append, All-cons, All-nil}
use Rattle.std.proofs.lemmas.Bool.{and_parts, leb-true}
use Rattle.std.specs.Prelude.{slice_set, slice_get, All, Contains, IfSome, IsSome, IfOk, ℤ, pos, negsuc, unsigned_abs, int_le}
use Rattle.ooo_time.specs.declared.time.Scale.{Scale}
use Rattle.ooo_value.specs.Times.{is_time, ticks_in}
use Rattle.ooo_value.specs.Operators.{Answer}
use Rattle.ooo_value.specs.declared.operators.Fault.TheVariants.{BadTime}
use Rattle.ooo_code.specs.OwnSteps.{SeesOwnSteps}
use Rattle.ooo_code.specs.declared.expression.NodeExpr.{NodeExpr}
use Rattle.ooo_time.specs.declared.time.Time.{Time}
use Rattle.ooo_time.specs.declared.stamp.Stamp.{Stamp}
use Rattle.ooo_time.specs.Scales.{greatest_time}
use Rattle.ooo_value.specs.declared.bound.BoundChannel.{BoundChannel}
use Rattle.ooo_value.specs.declared.bound.ChannelKind.{ChannelKind}
use Rattle.ooo_value.specs.declared.bound.ChannelKind.TheVariants as channel
use Rattle.ooo_value.specs.declared.bound.BoundEvent.{BoundEvent}
use Rattle.ooo_value.specs.declared.bound.BoundEvent.TheVariants as event
use Rattle.ooo_value.specs.declared.bound.ProcessKind.{ProcessKind}
use Rattle.ooo_value.specs.declared.bound.ProcessKind.TheVariants.{Thread, Method}
use Rattle.ooo_value.specs.declared.operators.Fault.{Fault}
use Rattle.ooo_value.specs.declared.operators.Fault.TheVariants.{IndexRange}
use Rattle.ooo_value.specs.declared.values.Value.{Value}
use Rattle.ooo_value.specs.Values.{number_of, truth_of}
use Rattle.ooo_code.specs.declared.activation.Effect.{Effect}
use Rattle.ooo_code.specs.declared.activation.Effect.TheVariants as effect
use Rattle.ooo_code.specs.declared.activation.Frame.{Frame}
use Rattle.ooo_code.specs.declared.activation.JobEnd.{JobEnd}
use Rattle.ooo_code.specs.declared.activation.JobEnd.TheVariants as job
use Rattle.ooo_code.specs.declared.activation.Seen.{Seen}
use Rattle.ooo_code.specs.declared.activation.WaitOn.{WaitOn}
use Rattle.ooo_code.specs.declared.design.Design.{Design}
use Rattle.ooo_code.specs.declared.design.Proc.{Proc}
use Rattle.ooo_code.specs.declared.node.Node.{Node}
use Rattle.ooo_code.specs.declared.node.NodeKind.{NodeKind}
use Rattle.ooo_code.specs.declared.node.NodeKind.TheVariants as kind
use Rattle.ooo_code.specs.declared.node.NodeTime.{NodeTime}
use Rattle.ooo_code.specs.declared.node.NodeTime.TheVariants as time
use Rattle.ooo_code.specs.declared.node.NodeWait.{NodeWait}
use Rattle.ooo_code.specs.declared.segment.SegmentEntry.{SegmentEntry}
use Rattle.ooo_code.specs.declared.segment.SegmentEntry.TheVariants.{Start, After}
use Rattle.ooo_code.specs.Outcomes.{Outcome, View}
use Rattle.ooo_code.specs.Expressions.{Sight, fifo_seen, cells_of, index_in, by_truth, reading_of, time_by, time_given}
use Rattle.ooo_code.specs.Nodes.{Doing, sight_of, with_cells, with_effect, with_take, with_put, Next, ends, Running, with_result, with_index, some_time, wait_time, wait_on, at_end, with_first, if_free, act, at_node, pass, between, at_limit, steps, entry_node, next_of, doing_at, run_found, by_nodes}
use Rattle.ooo_code.specs.Segments.{leads_to, IsNodeOf, followers}
use Rattle.ooo_code.specs.Sound.{Scope, FitsNode, FitsTime, FitsWait, FitsProcessNode, FitsProcess, IsOwn, MayLeadTo, MayBegin, scope_of, signal_kind, fifo_kind}
use Rattle.ooo_channels.specs.Operations.{Operations, after_effect, after_effects}
use Rattle.ooo_channels.specs.Conditions.{HasChannel, Names, IsInOrder, FindsPlace, MayApplyAll}
use Rattle.ooo_plain.specs.Fitting.{IsWaitOf, FitsEntry, FitsWaitOn, FitsEnd, IsFitting}
use Rattle.ooo_plain.proofs.Effects.{HasRoomLeft, IsLight, room_light, room_put, room_take, after_last, may_last, channels_after, events_after}

-- ---- what a node names is there

pub signal_there : (ops : Operations) (c : ℕ) → IsSome (signal_kind (slice_get ops.channels c)) → HasChannel ops c channel.Signal
signal_there ops c h = go (slice_get ops.channels c) refl h
  where
    kinds : (b : BoundChannel) → slice_get ops.channels c ≡ Some b → (k : ChannelKind) → b.kind ≡ k → IsSome (elim k [ channel.Signal ↦ Some b.value | channel.Fifo ↦ None ]) → HasChannel ops c channel.Signal
    kinds b is channel.Signal e i = record { channel = b; is = is; kind = e }
    kinds b is channel.Fifo e i = absurd (let no : false ≡ true = i in cc)

    go : (o : Option BoundChannel) → slice_get ops.channels c ≡ o → IsSome (signal_kind o) → HasChannel ops c channel.Signal
    go None is i = absurd (let no : false ≡ true = i in cc)
    go (Some b) is i = kinds b is b.kind refl i

pub fifo_there : (ops : Operations) (c : ℕ) → IsSome (fifo_kind (slice_get ops.channels c)) → HasChannel ops c channel.Fifo
fifo_there ops c h = go (slice_get ops.channels c) refl h
  where
    kinds : (b : BoundChannel) → slice_get ops.channels c ≡ Some b → (k : ChannelKind) → b.kind ≡ k → IsSome (elim k [ channel.Signal ↦ None | channel.Fifo ↦ Some b.value ]) → HasChannel ops c channel.Fifo
    kinds b is channel.Signal e i = absurd (let no : false ≡ true = i in cc)
    kinds b is channel.Fifo e i = record { channel = b; is = is; kind = e }

    go : (o : Option BoundChannel) → slice_get ops.channels c ≡ o → IsSome (fifo_kind o) → HasChannel ops c channel.Fifo
    go None is i = absurd (let no : false ≡ true = i in cc)
    go (Some b) is i = kinds b is b.kind refl i

own_there : (o : Option BoundEvent) → IsOwn o → o ≡ Some event.Own
own_there None h = absurd h
own_there (Some event.Own) h = refl
own_there (Some (event.Changed c)) h = absurd h
own_there (Some (event.Rise c)) h = absurd h
own_there (Some (event.Fall c)) h = absurd h
own_there (Some (event.Written c)) h = absurd h
own_there (Some (event.Taken c)) h = absurd h

channel_later : (ops : Operations) (at : Stamp) (fs : List Effect) (c : ℕ) (k : ChannelKind) → HasChannel ops c k → HasChannel (after_effects at ops fs) c k
channel_later ops at fs c k h = record { channel = h.channel; is = ap (λ xs. slice_get xs c) (channels_after at fs ops) ∙ h.is; kind = h.kind }

pub names_later : (ops : Operations) (at : Stamp) (fs : List Effect) (f : Effect) → Names ops f → Names (after_effects at ops fs) f
names_later ops at fs (effect.Request c v) h = channel_later ops at fs c channel.Signal h
names_later ops at fs (effect.Put c v) h = channel_later ops at fs c channel.Fifo h
names_later ops at fs (effect.Take c) h = channel_later ops at fs c channel.Fifo h
names_later ops at fs (effect.Notify e k) h = ap (λ xs. slice_get xs e) (events_after at fs ops) ∙ h
names_later ops at fs (effect.Cancel e) h = ap (λ xs. slice_get xs e) (events_after at fs ops) ∙ h
names_later ops at fs effect.Stop h = h

-- ---- times

abbrev IsGiven : Time → Type 0
IsGiven k = k.0 ≤ greatest_time

ticks_fit : (z : ℤ) → is_time z ≡ true → unsigned_abs z ≤ greatest_time
ticks_fit (pos n) e = let h = and_parts (int_le (pos 0) (pos n)) (int_le (pos n) (pos greatest_time)) e in leb-true n greatest_time h.1
ticks_fit (negsuc n) e = let h = and_parts (int_le (pos 0) (negsuc n)) (int_le (negsuc n) (pos greatest_time)) e in absurd (let g : false ≡ true = h.0 in cc)

abbrev time_or_fault : ℤ → Bool → Result Time Fault
time_or_fault z b = if b then Ok (record { 0 = unsigned_abs z }) else Err BadTime

amount_fits : (z : ℤ) (b : Bool) → is_time z ≡ b → IfOk (time_or_fault z b) IsGiven
amount_fits z true e = ticks_fit z e
amount_fits z false e = tt

by_fits : (scale : Scale) (x : Answer) → IfOk (time_by scale x) IsGiven
by_fits scale (Ok v) = amount_fits (ticks_in v scale) (is_time (ticks_in v scale)) refl
by_fits scale (Err f) = tt

time_fits : (names : Scope) (t : NodeTime) → FitsTime names t → (s : Sight) → IfOk (time_given t s) IsGiven
time_fits names (time.Fixed k) h s = h
time_fits names (time.Amount e scale) h s = by_fits scale (reading_of e s)

some_fits : (x : Result Time Fault) → IfOk x IsGiven → IfOk (some_time x) (λ o. IfSome o IsGiven)
some_fits (Ok k) h = h
some_fits (Err f) h = tt

wait_fits : (names : Scope) (t : Option NodeTime) → IfSome t (FitsTime names) → (s : Sight) → IfOk (wait_time t s) (λ o. IfSome o IsGiven)
wait_fits names None h s = tt
wait_fits names (Some t) h s = some_fits (time_given t s) (time_fits names t h s)

-- ---- where a put may stand

-- a put finds a free slot
abbrev pub StandsAt : NodeKind → List Seen → Type 0
StandsAt (kind.Put c e) seen = 1 ≤ (fifo_seen seen c).free
StandsAt _ seen = Unit {0}

-- a test of a fifo's free slots
abbrev pub tests_free : NodeKind → Bool
tests_free (kind.TestFree c no_to) = true
tests_free _ = false

put_after : (k : NodeKind) → tests_free k ≡ false → (next m c : ℕ) (e : NodeExpr) → MayLeadTo k next m (kind.Put c e) → ⊥
put_after (kind.TestFree b no_to) t next m c e h = absurd (let g : true ≡ false = t in cc)
put_after k t next m c e h = h

stands_plain : (k : NodeKind) → tests_free k ≡ false → (next m : ℕ) (to : NodeKind) (seen : List Seen) → MayLeadTo k next m to → StandsAt to seen
stands_plain k t next m (kind.Put c e) seen h = absurd (put_after k t next m c e h)
stands_plain k t next m to seen h = tt

stands_yes : (b no_to next : ℕ) (to : NodeKind) (seen : List Seen) → 1 ≤ (fifo_seen seen b).free → MayLeadTo (kind.TestFree b no_to) next next to → StandsAt to seen
stands_yes b no_to next (kind.Put c e) seen free h = subst (λ x. 1 ≤ (fifo_seen seen x).free) (sym h.0) free
stands_yes b no_to next to seen free h = tt

stands_no : (b no_to next : ℕ) (to : NodeKind) (seen : List Seen) → MayLeadTo (kind.TestFree b no_to) next no_to to → StandsAt to seen
stands_no b no_to next (kind.Put c e) seen h = absurd (h.2 refl)
stands_no b no_to next to seen h = tt

begins_well : (to : NodeKind) (seen : List Seen) → MayBegin to → StandsAt to seen
begins_well (kind.Put c e) seen h = absurd h
begins_well to seen h = tt

-- ---- an activation

module _ (sees : SeesOwnSteps) (design : Design) (process : Proc) (ops : Operations) (at : Stamp) (same_channels : ops.channels ≡ design.channels) (same_events : ops.events ≡ design.events)
    (ordered : (fs : List Effect) → MayApplyAll ops at fs → (f : Effect) → Names (after_effects at ops fs) f → IsInOrder (after_effects at ops fs) at f) where
  -- what its method waits for next, where that was set
  abbrev pub FitsTrigger : Option WaitOn → Type 0
  FitsTrigger None = Unit {0}
  FitsTrigger (Some on) = FitsWaitOn design on

  -- what was done so far may be done, and no more is seen of a fifo than it has then
  pub record IsFit (d : Doing) : Type 0 where
    pub names : All (Names ops) d.effects
    pub may : MayApplyAll ops at d.effects
    pub room : HasRoomLeft at (after_effects at ops d.effects) d.seen
    pub trigger : FitsTrigger d.trigger

  abbrev pub Fits : Outcome Frame → Type 0
  Fits o = IsFitting design process ops at o

  -- one more effect
  effect_fits : (f : Effect) (d : Doing) (seen : List Seen) (slots : List Value) → IsFit d → Names ops f → FindsPlace (after_effects at ops d.effects) at f → HasRoomLeft at (after_effect at (after_effects at ops d.effects) f) seen → IsFit (record (with_effect f d) { seen = seen; slots = slots })
  effect_fits f d seen slots h names place room =
      let later = names_later ops at d.effects f names in
      record {
        names = All-append (Names ops) d.effects (f ∷ []) h.names (All-cons (Names ops) f [] names (All-nil (Names ops)));
        may = may_last at d.effects f ops h.may (record { names = later; in_order = ordered d.effects h.may f later; place = place });
        room = subst (λ o. HasRoomLeft at o seen) (sym (after_last at ops d.effects f)) room;
        trigger = h.trigger;
      }

  light_fits : (f : Effect) → IsLight f → (d : Doing) → IsFit d → Names ops f → FindsPlace (after_effects at ops d.effects) at f → IsFit (with_effect f d)
  light_fits f l d h names place = effect_fits f d d.seen d.slots h names place (room_light at (after_effects at ops d.effects) d.seen f l h.room)

  put_fits : (c : ℕ) (v : Value) (d : Doing) → IsFit d → HasChannel ops c channel.Fifo → 1 ≤ (fifo_seen d.seen c).free → IsFit (with_put c v d)
  put_fits c v d h there free = effect_fits (effect.Put c v) d _ d.slots h there (let k = h.room.free c in omega (arith, free, k)) (room_put sees at (after_effects at ops d.effects) d.seen c v h.room)

  take_fits : (c n : ℕ) (v : Value) (d : Doing) → IsFit d → HasChannel ops c channel.Fifo → 1 ≤ length (fifo_seen d.seen c).values → IsFit (with_take c n v d)
  take_fits c n v d h there some = effect_fits (effect.Take c) d _ _ h there (let k = h.room.values c in omega (arith, some, k)) (room_take sees at (after_effects at ops d.effects) d.seen c h.room)

  -- what isn't seen from outside
  plain_fits : (d : Doing) (slots : List Value) (variables : List (List Value)) (output : List ℕ) → IsFit d → IsFit (record d { slots = slots; variables = variables; output = output })
  plain_fits d slots variables output h = record { names = h.names; may = h.may; room = h.room; trigger = h.trigger }

  trigger_fits : (on : WaitOn) (d : Doing) → FitsWaitOn design on → IsFit d → IsFit (record d { trigger = Some on })
  trigger_fits on d f h = record { names = h.names; may = h.may; room = h.room; trigger = f }

  ends_fit : (entry : SegmentEntry) (end : JobEnd) (d : Doing) → IsFit d → FitsEntry design process entry → FitsEnd design end → Fits (ends entry end d)
  ends_fit entry end d h e f = record { names = h.names; may = h.may; entry = e; end = f }

  module _ (start : SegmentEntry) (enters : FitsEntry design process start) (stamp : Stamp) where
    abbrev pub r : Running
    r = record { process = process; entry = start; stamp = stamp }

    result_fits : {A : Type 0} (line : ℕ) (x : Result A Fault) (d : Doing) → IsFit d → (P : A → Type 0) → IfOk x P → (f : A → Outcome Frame) → ((v : A) → P v → Fits (f v)) → Fits (with_result r line d x f)
    result_fits line (Ok v) d h P p f go = go v p
    result_fits line (Err fault) d h P p f go = ends_fit start (job.Faulted fault line) d h enters tt

    any_fits : {A : Type 0} (line : ℕ) (x : Result A Fault) (d : Doing) → IsFit d → (f : A → Outcome Frame) → ((v : A) → Fits (f v)) → Fits (with_result r line d x f)
    any_fits line (Ok v) d h f go = go v
    any_fits line (Err fault) d h f go = ends_fit start (job.Faulted fault line) d h enters tt

    index_fits : (line : ℕ) (x : Option ℕ) (d : Doing) → IsFit d → (f : ℕ → Outcome Frame) → ((v : ℕ) → Fits (f v)) → Fits (with_index r line d x f)
    index_fits line (Some i) d h f go = go i
    index_fits line None d h f go = ends_fit start (job.Faulted IndexRange line) d h enters tt

    truth_fits : (v : Value) (a b : Outcome Frame) → Fits a → Fits b → Fits (by_truth v a b)
    truth_fits v a b h k = go (truth_of v)
      where
        go : (t : Bool) → Fits (if t then a else b)
        go true = h
        go false = k

    first_fits : (xs : List Value) (none : Outcome Frame) (f : Value → Outcome Frame) → Fits none → ((v : Value) → 1 ≤ length xs → Fits (f v)) → Fits (with_first xs none f)
    first_fits [] none f h go = h
    first_fits (v ∷ vs) none f h go = go v (omega arith)

    free_fits : (n : ℕ) (none some : Outcome Frame) → Fits none → (1 ≤ n → Fits some) → Fits (if_free n none some)
    free_fits zero none some h go = h
    free_fits (suc n) none some h go = go (omega arith)

    end_fits : (k : ProcessKind) (trigger : Option WaitOn) (d : Doing) → IsFit d → FitsTrigger trigger → All (λ e. e < length design.events) process.sensitive → Fits (at_end r k trigger d)
    end_fits Thread trigger d h t static = ends_fit start job.Ended d h enters tt
    end_fits Method None d h t static = ends_fit Start _ d h tt (record { events = static; time = tt })
    end_fits Method (Some on) d h t static = ends_fit Start (job.Waits on) d h tt t

    -- what follows at a node fits, where the node may stand there
    abbrev pub Stands : ℕ → List Seen → Type 0
    Stands m seen = (node : Node) → slice_get design.nodes m ≡ Some node → StandsAt node.kind seen

    module _ (static : All (λ e. e < length design.events) process.sensitive) (number line to : ℕ) (go : Next) where
      -- a node leads on
      pub record Leads (k : NodeKind) : Type 0 where
        pub names : FitsNode (scope_of design process) design.events k
        pub stands : (seen : List Seen) → Stands number seen → StandsAt k seen
        pub wait : (w : NodeWait) → k ≡ kind.Wait w → IsWaitOf design process number
        pub follow : (m : ℕ) → Contains (leads_to k to) m → (d : Doing) → IsFit d → Stands m d.seen → Fits (go m d)
        pub leads : (m : ℕ) → Contains (leads_to k to) m → (node : Node) → slice_get design.nodes m ≡ Some node → MayLeadTo k to m node.kind

      -- to the next node, of a kind that tests no free slots
      next_fits : (k : NodeKind) → Leads k → tests_free k ≡ false → (m : ℕ) → Contains (leads_to k to) m → (d : Doing) → IsFit d → Fits (go m d)
      next_fits k h t m c d f = h.follow m c d f (λ node is. stands_plain k t to m node.kind d.seen (h.leads m c node is))

      first : (xs : List ℕ) (m : ℕ) → Contains (m ∷ xs) m
      first xs m = (0, omega arith, refl)

      second : (m n : ℕ) → Contains (m ∷ n ∷ []) n
      second m n = (1, omega arith, refl)

      signal_at : (c : ℕ) → IsSome (signal_kind (slice_get design.channels c)) → HasChannel ops c channel.Signal
      signal_at c h = signal_there ops c (subst (λ xs. IsSome (signal_kind (slice_get xs c))) (sym same_channels) h)

      fifo_at : (c : ℕ) → IsSome (fifo_kind (slice_get design.channels c)) → HasChannel ops c channel.Fifo
      fifo_at c h = fifo_there ops c (subst (λ xs. IsSome (fifo_kind (slice_get xs c))) (sym same_channels) h)

      own_at : (e : ℕ) → IsOwn (slice_get design.events e) → slice_get ops.events e ≡ Some event.Own
      own_at e h = ap (λ xs. slice_get xs e) same_events ∙ own_there (slice_get design.events e) h

      wait_on_fits : (w : NodeWait) → FitsWait (scope_of design process) design.events w → (o : Option Time) → IfSome o IsGiven → FitsWaitOn design (wait_on w o)
      wait_on_fits w h o f = record { events = h.events_are; time = f }

      pub act_fits : (k : NodeKind) → Leads k → (d : Doing) → IsFit d → Stands number d.seen → Fits (act r k number line to go d)
      act_fits (kind.Set n x) l d h s = any_fits line _ d h _ (λ v. next_fits _ l refl to (first [] to) _ (plain_fits d _ _ _ h))
      act_fits (kind.Store x None y) l d h s = any_fits line _ d h _ (λ v. next_fits _ l refl to (first [] to) _ (plain_fits d _ _ _ h))
      act_fits (kind.Store x (Some i) y) l d h s =
          any_fits line (reading_of y (sight_of d)) d h _ (λ v. any_fits line (reading_of i (sight_of d)) d h _ (λ w. index_fits line (index_in (length (cells_of d.variables x)) (number_of w)) d h _ (λ j.
          next_fits _ l refl to (first [] to) (with_cells x (slice_set (cells_of d.variables x) j v) d) (plain_fits d d.slots (slice_set d.variables x (slice_set (cells_of d.variables x) j v)) d.output h))))
      act_fits (kind.Test x no_to) l d h s =
          any_fits line (reading_of x (sight_of d)) d h _ (λ v. truth_fits v (go to d) (go no_to d) (next_fits _ l refl to (first (no_to ∷ []) to) d h) (next_fits _ l refl no_to (second to no_to) d h))
      act_fits kind.Goto l d h s = next_fits _ l refl to (first [] to) d h
      act_fits (kind.PrintText text) l d h s = next_fits _ l refl to (first [] to) _ (plain_fits d _ _ _ h)
      act_fits (kind.PrintValue x) l d h s = any_fits line _ d h _ (λ v. next_fits _ l refl to (first [] to) _ (plain_fits d _ _ _ h))
      act_fits kind.PrintTime l d h s = next_fits _ l refl to (first [] to) _ (plain_fits d _ _ _ h)
      act_fits (kind.Write c x) l d h s =
          any_fits line _ d h _ (λ v. next_fits _ l refl to (first [] to) _ (light_fits (effect.Request c v) tt d h (signal_at c l.names.0) tt))
      act_fits (kind.TestAvailable c no_to) l d h s =
          first_fits _ _ _ (next_fits _ l refl no_to (second to no_to) d h) (λ v some. next_fits _ l refl to (first (no_to ∷ []) to) d h)
      act_fits (kind.TestFree c no_to) l d h s =
          free_fits _ _ _
          (l.follow no_to (second to no_to) d h (λ node is. stands_no c no_to to node.kind d.seen (l.leads no_to (second to no_to) node is)))
          (λ free. l.follow to (first (no_to ∷ []) to) d h (λ node is. stands_yes c no_to to node.kind d.seen free (l.leads to (first (no_to ∷ []) to) node is)))
      act_fits (kind.Take c n) l d h s =
          first_fits _ _ _ (next_fits _ l refl to (first [] to) d h) (λ v some. next_fits _ l refl to (first [] to) _ (take_fits c n v d h (fifo_at c l.names.0) some))
      act_fits (kind.Put c x) l d h s =
          any_fits line _ d h _ (λ v. next_fits _ l refl to (first [] to) _ (put_fits c v d h (fifo_at c l.names.0) (l.stands d.seen s)))
      act_fits (kind.Notify e k) l d h s =
          result_fits line _ d h IsGiven (time_fits (scope_of design process) k l.names.1 (sight_of d)) _ (λ v given. next_fits _ l refl to (first [] to) _ (light_fits (effect.Notify e v) tt d h (own_at e l.names.0) given))
      act_fits (kind.Cancel e) l d h s = next_fits _ l refl to (first [] to) _ (light_fits (effect.Cancel e) tt d h (own_at e l.names) tt)
      act_fits kind.Stop l d h s = next_fits _ l refl to (first [] to) _ (light_fits effect.Stop tt d h tt tt)
      act_fits (kind.Trigger w) l d h s =
          result_fits line _ d h (λ o. IfSome o IsGiven) (wait_fits (scope_of design process) w.time l.names.time (sight_of d)) _ (λ o given. next_fits _ l refl to (first [] to) _ (trigger_fits (wait_on w o) d (wait_on_fits w l.names o given) h))
      act_fits (kind.Wait w) l d h s =
          result_fits line _ d h (λ o. IfSome o IsGiven) (wait_fits (scope_of design process) w.time l.names.time (sight_of d)) _ (λ o given. ends_fit (After number) (job.Waits (wait_on w o)) d h (l.wait w refl) (wait_on_fits w l.names o given))
      act_fits kind.End l d h s = end_fits process.kind d.trigger d h h.trigger static

    -- ---- many nodes

    module _ (fits : FitsProcess design process) where
      abbrev pub AllFit : Next → Type 0
      AllFit go = (m : ℕ) → IsNodeOf process m → (d : Doing) → IsFit d → Stands m d.seen → Fits (go m d)

      leads_on : (k : NodeKind) (n m : ℕ) → Contains (leads_to k n) m → Contains (if (elim k [ kind.Wait w ↦ true | _ ↦ false ]) then n ∷ [] else leads_to k n) m
      leads_on (kind.Wait w) n m c = absurd (let l = c.1 in omega (arith, l))
      leads_on k n m c = c

      contained : (P : ℕ → Type 0) (xs : List ℕ) (m : ℕ) → All P xs → Contains xs m → P m
      contained P xs m h c = subst P c.2 (h c.0 m c.1)

      node_leads : (go : Next) → AllFit go → (n : ℕ) (node : Node) → IsNodeOf process n → slice_get design.nodes n ≡ Some node → Leads fits.events n node.line node.next go node.kind
      node_leads go all n node own is =
          let f : FitsProcessNode design process n node = fits.nodes n node own is in
          record {
            names = f.names;
            stands = λ seen s. s node is;
            wait = λ w e. record { node = node; is = is; own = own; wait = ap (λ k. elim k [ kind.Wait w ↦ true | _ ↦ false ]) e };
            follow = λ m c d h s. all m (contained (IsNodeOf process) (followers node) m f.own (leads_on node.kind node.next m c)) d h s;
            leads = λ m c to at_m. f.tested m to (leads_on node.kind node.next m c) at_m;
          }

      node_fits : (go : Next) → AllFit go → (n : ℕ) (node : Node) → IsNodeOf process n → slice_get design.nodes n ≡ Some node → (d : Doing) → IsFit d → Stands n d.seen → Fits (act r node.kind n node.line node.next go d)
      node_fits go all n node own is d h s = act_fits fits.events n node.line node.next go node.kind (node_leads go all n node own is) d h s

      AtNode : (Node → Next) → Type 0
      AtNode counted = (n : ℕ) (node : Node) → IsNodeOf process n → slice_get design.nodes n ≡ Some node → (d : Doing) → IsFit d → Stands n d.seen → Fits (counted node n d)

      pass_fits : (counted : Node → Next) → AtNode counted → (m : ℕ) → AllFit (pass design.nodes r counted m)
      unfolding AtNode
      pass_fits counted c zero n own d h s = ends_fit start job.Ended d h enters tt
      pass_fits counted c (suc m) n own d h s = go (slice_get design.nodes n) refl (pass_fits counted c m)
        where
          choose : (node : Node) → slice_get design.nodes n ≡ Some node → AllFit (pass design.nodes r counted m) → (t : Bool) → Fits (if t then counted node n d else act r node.kind n node.line node.next (pass design.nodes r counted m) d)
          choose node is all true = c n node own is d h s
          choose node is all false = node_fits (pass design.nodes r counted m) all n node own is d h s

          go : (o : Option Node) → slice_get design.nodes n ≡ o → AllFit (pass design.nodes r counted m) → Fits (at_node r counted (pass design.nodes r counted m) o n d)
          go None is all = ends_fit start job.Ended d h enters tt
          go (Some node) is all = choose node is all node.counts

      pub steps_fit : (k : ℕ) → AllFit (steps design.nodes r k)
      unfolding steps AtNode
      steps_fit zero = pass_fits (at_limit r) (λ n node own is d h s. ends_fit start (job.Limit node.line) d h enters tt) (between design.nodes)
      steps_fit (suc k) =
          pass_fits (λ node number d. act r node.kind number node.line node.next (steps design.nodes r k) d)
          (λ n node own is d h s. node_fits (steps design.nodes r k) (steps_fit k) n node own is d h s) (between design.nodes)

      -- ---- where it enters

      entry_own : (e : SegmentEntry) → FitsEntry design process e → IsNodeOf process (entry_node design process e)
      entry_own Start h = record { from = omega arith; below = fits.some }
      entry_own (After n) h =
          let f = fits.nodes n h.node h.own h.is in
          subst (λ o. IsNodeOf process (next_of o)) (sym h.is)
          (contained (IsNodeOf process) (followers h.node) h.node.next f.own (subst (λ b. Contains (if b then h.node.next ∷ [] else leads_to h.node.kind h.node.next) h.node.next) (sym h.wait) (0, omega arith, refl)))

      waits_lead : (k : NodeKind) → (elim k [ kind.Wait w ↦ true | _ ↦ false ]) ≡ true → tests_free k ≡ false
      waits_lead (kind.TestFree c no_to) e = absurd (let g : false ≡ true = e in cc)
      waits_lead k e = refl

      entry_stands : (e : SegmentEntry) → FitsEntry design process e → (seen : List Seen) → Stands (entry_node design process e) seen
      entry_stands Start h seen node is = begins_well node.kind seen (subst (λ o. IfSome o (λ x. MayBegin x.kind)) is fits.begins)
      entry_stands (After n) h seen node is =
          let f = fits.nodes n h.node h.own h.is in
          stands_plain h.node.kind (waits_lead h.node.kind h.wait) h.node.next h.node.next node.kind seen
          (f.tested h.node.next node (subst (λ b. Contains (if b then h.node.next ∷ [] else leads_to h.node.kind h.node.next) h.node.next) (sym h.wait) (0, omega arith, refl))
          (ap (slice_get design.nodes) (sym (ap next_of h.is)) ∙ is))

-- an activation of a process of a sound design fits
pub activation_fits : SeesOwnSteps → (design : Design) (process : Proc) (ops : Operations) (p statements : ℕ) (frame : Frame) (v : View) → FitsProcess design process → slice_get design.processes p ≡ Some process
    → ops.channels ≡ design.channels → ops.events ≡ design.events
    → ((fs : List Effect) → MayApplyAll ops v.stamp fs → (f : Effect) → Names (after_effects v.stamp ops fs) f → IsInOrder (after_effects v.stamp ops fs) v.stamp f)
    → HasRoomLeft v.stamp ops v.seen → FitsEntry design process frame.entry → IsFitting design process ops v.stamp (by_nodes design statements p frame v)
activation_fits sees design process ops p statements frame v fits is channels events ordered room enters =
    subst (λ o. IsFitting design process ops v.stamp (run_found design statements o frame v)) (sym is)
    (steps_fit sees design process ops v.stamp channels events ordered frame.entry enters v.stamp fits statements (entry_node design process frame.entry)
    (entry_own sees design process ops v.stamp channels events ordered frame.entry enters v.stamp fits frame.entry enters)
    (doing_at frame v)
    (record { names = All-nil _; may = tt; room = room; trigger = tt })
    (entry_stands sees design process ops v.stamp channels events ordered frame.entry enters v.stamp fits frame.entry enters v.seen))
