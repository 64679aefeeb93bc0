-- What a segment reads of the activations that it may see is what all of them make.
use Rattle.std.proofs.Common.{◌≡◌, ℕ, ◌<◌, ◌==◌, ◌⊎◌, inl, inr, ⊎_elim, List, [], ◌∷◌, length, Bool, true, false, ◌&&◌, ◌||◌, Option, Some, None, refl, sym, ap, ◌∙◌, subst, arith}
use Rattle.std.specs.Prelude.{slice_get, Contains, IsSome}
use Rattle.std.proofs.lemmas.Bool.{eq-eqb, eqb-true}
use Rattle.std.proofs.lemmas.Option.{slice_get_within}
use Rattle.ooo_time.specs.declared.stamp.Stamp.{Stamp}
use Rattle.ooo_time.specs.Stamps.{IsBefore, is_before}
use Rattle.ooo_value.specs.declared.bound.BoundChannel.{BoundChannel}
use Rattle.ooo_value.specs.declared.kinds.Kind.{Kind}
use Rattle.ooo_value.specs.declared.values.Value.{Value}
use Rattle.ooo_value.specs.declared.bound.ChannelKind.{ChannelKind}
use Rattle.ooo_value.specs.declared.bound.ChannelKind.TheVariants as channel
use Rattle.ooo_code.specs.declared.activation.Effect.{Effect}
use Rattle.ooo_code.specs.declared.activation.Effect.TheVariants as effect
use Rattle.ooo_code.specs.Channels.{Channel, IsSignal, IsFifo}
use Rattle.ooo_code.specs.Expressions.{cells_of, fifo_seen, no_value, signal_seen}
use Rattle.ooo_code.specs.declared.design.Proc.{Proc}
use Rattle.ooo_code.specs.declared.segment.Segment.{Segment}
use Rattle.ooo_code.specs.declared.segment.SegmentEntry.{SegmentEntry}
use Rattle.ooo_code.specs.Dependence.{AgreeOn}
use Rattle.ooo_code.specs.Outcomes.{View}
use Rattle.ooo_code.specs.Segments.{Accesses}
use Rattle.ooo_code.specs.Sound.{IsSound, Uses, fifo_kind, signal_kind, variable_kind}
use Rattle.ooo_code.specs.Touches.{Touch, Reads, Writes, ReadsSignal, WritesSignal, HoldsReading, HoldsWriting}
use Rattle.ooo_access.specs.declared.access.Access.{Access}
use Rattle.ooo_channels.specs.Cycles.{acted, channel_in, readable, writable}
use Rattle.ooo_channels.specs.Operations.{is_on}
use Rattle.ooo_schedules.specs.Design.{only}
use Rattle.ooo_schedules.specs.Model.{Act, In}
use Rattle.ooo_dispatch.specs.declared.reads.Reads as job
use Rattle.ooo_dispatch.specs.Boards.{AreRules}
use Rattle.ooo_dispatch.specs.Enough.{ComeBefore, Descend, Shows, signal_shown}
use Rattle.ooo_dispatch.specs.Rules.{Rules, access_of, cells_after, clash, deed_of, has, operations_of, process_of, reads_at, uses, view_at}
use Rattle.ooo_dispatch.proofs.Accessed.{Here, element, exists_of, here_at, process_at, some_is, use_of}
use Rattle.ooo_dispatch.proofs.Acting.{Acts, Does, acting, accessed, made}
use Rattle.ooo_dispatch.proofs.Calls.{IsThere, access_is, clash_yes, has_of, or_left, or_right}
use Rattle.ooo_dispatch.proofs.Cells.{cells_kept, seen_by, variables_at, variables_count}
use Rattle.ooo_dispatch.proofs.Channels.{on_channel}
use Rattle.ooo_dispatch.proofs.Shown.{IsOfKind, Parted, channel_kept, put_neutral, shown_same, signal_neutral, take_neutral}
use Rattle.ooo_dispatch.proofs.Sights.{puts_at, signal_at, takes_at}
use Rattle.ooo_dispatch.proofs.Stamps.{before_yes, irreflexive, transitive}

abbrev Activation : Type 0
Activation = Act Stamp job.Reads

-- what is at a stamp and what is before it
parted : (r : Rules) (c : ℕ) (test : Activation → Bool) (p : ℕ) (s : Stamp) (ys : List Activation) → Descend r ys → ComeBefore p s ys → Parted r test c s ys
parted r c test p s [] d b = tt
parted r c test p s (y ∷ ys) d b =
    ⊎_elim (λ lt. inr (λ z i. ⊎_elim (λ e. subst (λ x. IsBefore x.stamp s) (sym e) lt) (λ j. before z j lt) i))
    (λ e. inl (e.0, parted r c test p s ys d.2 (λ z i. b z (inr i)))) (b y (inl refl))
  where
    before : (z : Activation) → In z ys → IsBefore y.stamp s → IsBefore z.stamp s
    before z j lt = ⊎_elim (λ k. transitive z.stamp y.stamp s k lt) (λ e. subst (λ x. IsBefore x s) (sym e) lt) (d.1 z j)

-- each of them is of its segment's process
of_process : (r : Rules) (ys : List Activation) → Descend r ys → (y : Activation) → In y ys → y.process ≡ process_of r y.segment
of_process r [] d y i = absurd i
of_process r (z ∷ ys) d y (inl e) = subst (λ x. x.process ≡ process_of r x.segment) (sym e) d.0
of_process r (z ∷ ys) d y (inr i) = of_process r ys d.2 y i

pub and_yes : (a b : Bool) → a ≡ true → b ≡ true → (a && b) ≡ true
and_yes true true e f = refl
and_yes false b e f = absurd cc
and_yes true false e f = absurd cc

-- ---- what is of no matter to a channel of the other kind

pub signal_of_fifo : (s : Stamp) (x : Channel) → IsOfKind channel.Fifo x → signal_shown s.time x ≡ record { value = no_value; changed = false }
signal_of_fifo s (IsFifo x) h = refl
signal_of_fifo s (IsSignal x) h = absurd h

pub readable_of_signal : (x : Channel) → IsOfKind channel.Signal x → readable x ≡ []
readable_of_signal (IsSignal x) h = refl
readable_of_signal (IsFifo x) h = absurd h

pub writable_of_signal : (x : Channel) → IsOfKind channel.Signal x → writable x ≡ 0
writable_of_signal (IsSignal x) h = refl
writable_of_signal (IsFifo x) h = absurd h

no_fifo_by : (k : ChannelKind) (v : Kind) → k ≡ channel.Signal → IsSome (elim k [ channel.Signal ↦ None | channel.Fifo ↦ Some v ]) → ⊥
no_fifo_by channel.Signal v e h = let c : false ≡ true = h in cc
no_fifo_by channel.Fifo v e h = absurd cc

no_fifo_kind : (b : BoundChannel) → b.kind ≡ channel.Signal → IsSome (fifo_kind (Some b)) → ⊥
no_fifo_kind b e h = no_fifo_by b.kind b.value e h

no_signal_by : (k : ChannelKind) (v : Kind) → k ≡ channel.Fifo → IsSome (elim k [ channel.Signal ↦ Some v | channel.Fifo ↦ None ]) → ⊥
no_signal_by channel.Fifo v e h = let c : false ≡ true = h in cc
no_signal_by channel.Signal v e h = absurd cc

no_signal_kind : (b : BoundChannel) → b.kind ≡ channel.Fifo → IsSome (signal_kind (Some b)) → ⊥
no_signal_kind b e h = no_signal_by b.kind b.value e h

-- ---- what there is has a number below the count

pub below : {A B : Type 0} (f : Option A → Option B) (xs : List A) (n : ℕ) → f None ≡ None → IsSome (f (slice_get xs n)) → n < length xs
below {A} f xs n none h = at (slice_get xs n) refl h
  where
    at : (o : Option A) → slice_get xs n ≡ o → IsSome (f o) → n < length xs
    at None e k = absurd (let c : false ≡ true = subst (λ o. IsSome o) none k in cc)
    at (Some x) e k = slice_get_within xs n x e

module _ (r : Rules) (rules : AreRules r) (sound : IsSound r.design) (does : Does) where
  abbrev there : (g : ℕ) → Here r rules sound g → IsThere r g
  there g h = record { access = h.access; is = h.access_is; same = access_is r g h.access h.access_is }

  -- an effect on a channel is of a segment that touches the channel, which is of the effect's kind
  pub record By (y : Activation) (t : Touch) (K : Type 0) : Type 0 where
    pub acts : Acts r rules sound does y
    pub access : Accesses r.design acts.here.process acts.here.segment.entry t
    pub kind : K

  pub request_by : (y : Activation) (c : ℕ) (v : Value) → In (effect.Request c v) (deed_of r y).effects → By y (WritesSignal c) (IsSome (signal_kind (slice_get r.design.channels c)))
  request_by y c v i = ⊎_elim (λ a. by a) (λ n. absurd (subst (λ es. In (effect.Request c v) es) n.effects i)) (acting r rules sound does y)
    where
      by : Acts r rules sound does y → By y (WritesSignal c) (IsSome (signal_kind (slice_get r.design.channels c)))
      by a =
          let m = made r rules sound does y a (effect.Request c v) i in
          let n = on_channel r.design.events m.node.kind (effect.Request c v) m.makes in
          let t = accessed r rules sound does y a (effect.Request c v) m (WritesSignal c) n in
          record { acts = a; access = t; kind = exists_of r rules sound y.segment a.here (WritesSignal c) t }

  pub put_by : (y : Activation) (c : ℕ) (v : Value) → In (effect.Put c v) (deed_of r y).effects → By y (HoldsWriting c) (IsSome (fifo_kind (slice_get r.design.channels c)))
  put_by y c v i = ⊎_elim (λ a. by a) (λ n. absurd (subst (λ es. In (effect.Put c v) es) n.effects i)) (acting r rules sound does y)
    where
      by : Acts r rules sound does y → By y (HoldsWriting c) (IsSome (fifo_kind (slice_get r.design.channels c)))
      by a =
          let m = made r rules sound does y a (effect.Put c v) i in
          let n = on_channel r.design.events m.node.kind (effect.Put c v) m.makes in
          let t = accessed r rules sound does y a (effect.Put c v) m (HoldsWriting c) n in
          record { acts = a; access = t; kind = exists_of r rules sound y.segment a.here (HoldsWriting c) t }

  pub take_by : (y : Activation) (c : ℕ) → In (effect.Take c) (deed_of r y).effects → By y (HoldsReading c) (IsSome (fifo_kind (slice_get r.design.channels c)))
  take_by y c i = ⊎_elim (λ a. by a) (λ n. absurd (subst (λ es. In (effect.Take c) es) n.effects i)) (acting r rules sound does y)
    where
      by : Acts r rules sound does y → By y (HoldsReading c) (IsSome (fifo_kind (slice_get r.design.channels c)))
      by a =
          let m = made r rules sound does y a (effect.Take c) i in
          let n = on_channel r.design.events m.node.kind (effect.Take c) m.makes in
          let t = accessed r rules sound does y a (effect.Take c) m (HoldsReading c) n in
          record { acts = a; access = t; kind = exists_of r rules sound y.segment a.here (HoldsReading c) t }

  module _ (g : ℕ) (h : Here r rules sound g) (s : Stamp) (ys : List Activation) (d : Descend r ys) (before : ComeBefore h.segment.process s ys) where
    abbrev p : ℕ
    p = h.segment.process

    abbrev test : Activation → Bool
    test y = seen_by r p g s y

    abbrev seen : List Activation
    seen = only test ys

    -- ---- what is seen

    seen_strict : (y : Activation) → IsBefore y.stamp s → clash r y.segment g true ≡ true → test y ≡ true
    seen_strict y lt c =
        or_right (y.process == p) (clash r y.segment g false || (is_before y.stamp s && clash r y.segment g true))
        (or_right (clash r y.segment g false) (is_before y.stamp s && clash r y.segment g true)
        (and_yes (is_before y.stamp s) (clash r y.segment g true) (before_yes y.stamp s lt) c))

    seen_own : (y : Activation) → y.process ≡ p → test y ≡ true
    seen_own y e = or_left (y.process == p) (clash r y.segment g false || (is_before y.stamp s && clash r y.segment g true)) (eq-eqb y.process p e)

    process_is : (y : Activation) → In y ys → (a : Acts r rules sound does y) → y.process ≡ a.here.segment.process
    process_is y i a = of_process r ys d y i ∙ process_at r rules sound y.segment a.here

    -- none of its own is at the stamp
    none_own : (y : Activation) → In y ys → y.stamp ≡ s → y.process ≡ p → ⊥
    none_own y i e o =
        ⊎_elim (λ lt. irreflexive s (subst (λ x. IsBefore x s) e lt)) (λ k. let lt = k.1 in omega (arith, lt, o)) (before y i)

    has_here : (part : Access → List ℕ) (c : ℕ) → Contains (part h.access) c → has (part (access_of r g)) c ≡ true
    has_here part c k = subst (λ a. has (part a) c ≡ true) (sym (access_is r g h.access h.access_is)) (has_of (part h.access) c k)

    -- ---- variables

    pub variables : (last : Option Activation) (x : ℕ) → x < length r.design.variables →
        Accesses r.design h.process h.segment.entry (Reads x) ⊎ Accesses r.design h.process h.segment.entry (Writes x) →
        cells_of (reads_at r p g s last seen).variables x ≡ cells_after r x ys
    variables last x lt t = variables_at r g 0 r.design.variables seen x x lt (omega arith) u ∙ cells_kept r rules p g s x u ys
      where
        u : uses r g x ≡ true
        u =
            ⊎_elim (λ a. or_left (has (access_of r g).read x) (has (access_of r g).written x) (has_here (λ a. a.read) x ((h.accesses.read x).1 a)))
            (λ a. or_right (has (access_of r g).read x) (has (access_of r g).written x) (has_here (λ a. a.written) x ((h.accesses.written x).1 a))) t

    -- ---- channels

    module _ (c : ℕ) (lt : c < length r.design.channels) where
      abbrev b : BoundChannel
      b = (element r.design.channels c lt).0

      is : slice_get r.design.channels c ≡ Some b
      is = (element r.design.channels c lt).1

      no_signal_here : (n : ℕ) → c ≡ n → b.kind ≡ channel.Fifo → IsSome (signal_kind (slice_get r.design.channels n)) → ⊥
      no_signal_here n e k h = no_signal_kind b k (subst (λ o. IsSome (signal_kind o)) (ap (slice_get r.design.channels) (sym e) ∙ is) h)

      no_fifo_here : (n : ℕ) → c ≡ n → b.kind ≡ channel.Signal → IsSome (fifo_kind (slice_get r.design.channels n)) → ⊥
      no_fifo_here n e k h = no_fifo_kind b k (subst (λ o. IsSome (fifo_kind o)) (ap (slice_get r.design.channels) (sym e) ∙ is) h)

      -- a signal
      module _ (t : Accesses r.design h.process h.segment.entry (ReadsSignal c)) where
        request_seen : (y : Activation) (n : ℕ) → c ≡ n → IsBefore y.stamp s → By y (WritesSignal n) (IsSome (signal_kind (slice_get r.design.channels n))) → test y ≡ true
        request_seen y n e early w =
            let written = (w.acts.here.accesses.signals_written n).1 w.access in
            seen_strict y early
            (clash_yes r rules y.segment g (there y.segment w.acts.here) (there g h) true
            (inr (refl, inr (inl (n, written, subst (λ m. Contains h.access.signals_read m) e ((h.accesses.signals_read c).1 t))))))

        pass_signal : b.kind ≡ channel.Signal → (y : Activation) → In y ys → IsBefore y.stamp s → (f : Effect) → In f (deed_of r y).effects → is_on c f ≡ true → test y ≡ true
        pass_signal k y i early (effect.Request n v) j on = request_seen y n (eqb-true c n on) early (request_by y n v j)
        pass_signal k y i early (effect.Put n v) j on = absurd (no_fifo_here n (eqb-true c n on) k (put_by y n v j).kind)
        pass_signal k y i early (effect.Take n) j on = absurd (no_fifo_here n (eqb-true c n on) k (take_by y n j).kind)
        pass_signal k y i early (effect.Notify e m) j on = absurd (let q : false ≡ true = on in cc)
        pass_signal k y i early (effect.Cancel e) j on = absurd (let q : false ≡ true = on in cc)
        pass_signal k y i early effect.Stop j on = absurd (let q : false ≡ true = on in cc)

        same_signal : (k : ChannelKind) → b.kind ≡ k → signal_shown s.time (channel_in s (operations_of r seen) c) ≡ signal_shown s.time (channel_in s (operations_of r ys) c)
        same_signal channel.Signal k =
            shown_same r test c (signal_shown s.time) s ys (parted r c test p s ys d before) (pass_signal k) (λ y i e f j on x. signal_neutral s.time f x)
        same_signal channel.Fifo k =
            signal_of_fifo s (channel_in s (operations_of r seen) c) (subst (λ x. IsOfKind x (channel_in s (operations_of r seen) c)) k (channel_kept r c b is s seen))
            ∙ sym (signal_of_fifo s (channel_in s (operations_of r ys) c) (subst (λ x. IsOfKind x (channel_in s (operations_of r ys) c)) k (channel_kept r c b is s ys)))

        pub signal : (last : Option Activation) → signal_seen (reads_at r p g s last seen).seen c ≡ signal_shown s.time (channel_in s (operations_of r ys) c)
        signal last =
            signal_at (access_of r g) s (operations_of r seen) 0 c c r.design.channels lt (omega arith) (has_here (λ a. a.signals_read) c ((h.accesses.signals_read c).1 t))
            ∙ same_signal b.kind refl

      -- the reading end of a fifo
      module _ (t : Accesses r.design h.process h.segment.entry (HoldsReading c)) where
        take_own : (y : Activation) → In y ys → (n : ℕ) → c ≡ n → By y (HoldsReading n) (IsSome (fifo_kind (slice_get r.design.channels n))) → y.process ≡ p
        take_own y i n e w =
            process_is y i w.acts
            ∙ sound.reading_ends n w.acts.here.segment.process p (use_of r rules sound y.segment w.acts.here (HoldsReading n) w.access)
            (subst (λ m. Uses r.design p (HoldsReading m)) e (use_of r rules sound g h (HoldsReading c) t))

        put_seen : (y : Activation) (n : ℕ) → c ≡ n → IsBefore y.stamp s → By y (HoldsWriting n) (IsSome (fifo_kind (slice_get r.design.channels n))) → test y ≡ true
        put_seen y n e early w =
            let puts = (w.acts.here.accesses.puts n).1 w.access in
            seen_strict y early
            (clash_yes r rules y.segment g (there y.segment w.acts.here) (there g h) true
            (inr (refl, inr (inr (inr (n, puts, subst (λ m. Contains h.access.takes m) e ((h.accesses.takes c).1 t)))))))

        pass_takes : b.kind ≡ channel.Fifo → (y : Activation) → In y ys → IsBefore y.stamp s → (f : Effect) → In f (deed_of r y).effects → is_on c f ≡ true → test y ≡ true
        pass_takes k y i early (effect.Request n v) j on = absurd (no_signal_here n (eqb-true c n on) k (request_by y n v j).kind)
        pass_takes k y i early (effect.Put n v) j on = put_seen y n (eqb-true c n on) early (put_by y n v j)
        pass_takes k y i early (effect.Take n) j on = seen_own y (take_own y i n (eqb-true c n on) (take_by y n j))
        pass_takes k y i early (effect.Notify e m) j on = absurd (let q : false ≡ true = on in cc)
        pass_takes k y i early (effect.Cancel e) j on = absurd (let q : false ≡ true = on in cc)
        pass_takes k y i early effect.Stop j on = absurd (let q : false ≡ true = on in cc)

        neutral_takes : b.kind ≡ channel.Fifo → (y : Activation) → In y ys → y.stamp ≡ s → (f : Effect) → In f (deed_of r y).effects → is_on c f ≡ true → (x : Channel) → readable (acted f x) ≡ readable x
        neutral_takes k y i e (effect.Request n v) j on x = absurd (no_signal_here n (eqb-true c n on) k (request_by y n v j).kind)
        neutral_takes k y i e (effect.Put n v) j on x = put_neutral n v x
        neutral_takes k y i e (effect.Take n) j on x = absurd (none_own y i e (take_own y i n (eqb-true c n on) (take_by y n j)))
        neutral_takes k y i e (effect.Notify n m) j on x = refl
        neutral_takes k y i e (effect.Cancel n) j on x = refl
        neutral_takes k y i e effect.Stop j on x = refl

        same_takes : (k : ChannelKind) → b.kind ≡ k → readable (channel_in s (operations_of r seen) c) ≡ readable (channel_in s (operations_of r ys) c)
        same_takes channel.Fifo k = shown_same r test c readable s ys (parted r c test p s ys d before) (pass_takes k) (neutral_takes k)
        same_takes channel.Signal k =
            readable_of_signal (channel_in s (operations_of r seen) c) (subst (λ x. IsOfKind x (channel_in s (operations_of r seen) c)) k (channel_kept r c b is s seen))
            ∙ sym (readable_of_signal (channel_in s (operations_of r ys) c) (subst (λ x. IsOfKind x (channel_in s (operations_of r ys) c)) k (channel_kept r c b is s ys)))

        pub takes : (last : Option Activation) → (fifo_seen (reads_at r p g s last seen).seen c).values ≡ readable (channel_in s (operations_of r ys) c)
        takes last =
            takes_at (access_of r g) s (operations_of r seen) 0 c c r.design.channels lt (omega arith) (has_here (λ a. a.takes) c ((h.accesses.takes c).1 t))
            ∙ same_takes b.kind refl

      -- the writing end of a fifo
      module _ (t : Accesses r.design h.process h.segment.entry (HoldsWriting c)) where
        put_own : (y : Activation) → In y ys → (n : ℕ) → c ≡ n → By y (HoldsWriting n) (IsSome (fifo_kind (slice_get r.design.channels n))) → y.process ≡ p
        put_own y i n e w =
            process_is y i w.acts
            ∙ sound.writing_ends n w.acts.here.segment.process p (use_of r rules sound y.segment w.acts.here (HoldsWriting n) w.access)
            (subst (λ m. Uses r.design p (HoldsWriting m)) e (use_of r rules sound g h (HoldsWriting c) t))

        take_seen : (y : Activation) (n : ℕ) → c ≡ n → IsBefore y.stamp s → By y (HoldsReading n) (IsSome (fifo_kind (slice_get r.design.channels n))) → test y ≡ true
        take_seen y n e early w =
            let takes = (w.acts.here.accesses.takes n).1 w.access in
            seen_strict y early
            (clash_yes r rules y.segment g (there y.segment w.acts.here) (there g h) true
            (inr (refl, inr (inr (inl (n, takes, subst (λ m. Contains h.access.puts m) e ((h.accesses.puts c).1 t)))))))

        pass_puts : b.kind ≡ channel.Fifo → (y : Activation) → In y ys → IsBefore y.stamp s → (f : Effect) → In f (deed_of r y).effects → is_on c f ≡ true → test y ≡ true
        pass_puts k y i early (effect.Request n v) j on = absurd (no_signal_here n (eqb-true c n on) k (request_by y n v j).kind)
        pass_puts k y i early (effect.Take n) j on = take_seen y n (eqb-true c n on) early (take_by y n j)
        pass_puts k y i early (effect.Put n v) j on = seen_own y (put_own y i n (eqb-true c n on) (put_by y n v j))
        pass_puts k y i early (effect.Notify e m) j on = absurd (let q : false ≡ true = on in cc)
        pass_puts k y i early (effect.Cancel e) j on = absurd (let q : false ≡ true = on in cc)
        pass_puts k y i early effect.Stop j on = absurd (let q : false ≡ true = on in cc)

        neutral_puts : b.kind ≡ channel.Fifo → (y : Activation) → In y ys → y.stamp ≡ s → (f : Effect) → In f (deed_of r y).effects → is_on c f ≡ true → (x : Channel) → writable (acted f x) ≡ writable x
        neutral_puts k y i e (effect.Request n v) j on x = absurd (no_signal_here n (eqb-true c n on) k (request_by y n v j).kind)
        neutral_puts k y i e (effect.Take n) j on x = take_neutral n x
        neutral_puts k y i e (effect.Put n v) j on x = absurd (none_own y i e (put_own y i n (eqb-true c n on) (put_by y n v j)))
        neutral_puts k y i e (effect.Notify n m) j on x = refl
        neutral_puts k y i e (effect.Cancel n) j on x = refl
        neutral_puts k y i e effect.Stop j on x = refl

        same_puts : (k : ChannelKind) → b.kind ≡ k → writable (channel_in s (operations_of r seen) c) ≡ writable (channel_in s (operations_of r ys) c)
        same_puts channel.Fifo k = shown_same r test c writable s ys (parted r c test p s ys d before) (pass_puts k) (neutral_puts k)
        same_puts channel.Signal k =
            writable_of_signal (channel_in s (operations_of r seen) c) (subst (λ x. IsOfKind x (channel_in s (operations_of r seen) c)) k (channel_kept r c b is s seen))
            ∙ sym (writable_of_signal (channel_in s (operations_of r ys) c) (subst (λ x. IsOfKind x (channel_in s (operations_of r ys) c)) k (channel_kept r c b is s ys)))

        pub puts : (last : Option Activation) → (fifo_seen (reads_at r p g s last seen).seen c).free ≡ writable (channel_in s (operations_of r ys) c)
        puts last =
            puts_at (access_of r g) s (operations_of r seen) 0 c c r.design.channels lt (omega arith) (has_here (λ a. a.puts) c ((h.accesses.puts c).1 t))
            ∙ same_puts b.kind refl

  -- all of it
  pub reads_enough : (p g : ℕ) (q : Proc) (segment : Segment) (s : Stamp) (last : Option Activation) (ys : List Activation) → slice_get r.segments g ≡ Some segment → segment.process ≡ p →
      slice_get r.design.processes p ≡ Some q → Descend r ys → ComeBefore p s ys → Shows r q segment.entry ys (view_at s (reads_at r p g s last (only (seen_by r p g s) ys)))
  reads_enough p g q segment s last ys is owner process d before =
      subst (λ n. Shows r q segment.entry ys (view_at s (reads_at r n g s last (only (seen_by r n g s) ys)))) number
      (subst (λ x. Shows r x segment.entry ys (view_at s (reads_at r h.segment.process g s last (only (seen_by r h.segment.process g s) ys)))) same_process
      (subst (λ x. Shows r h.process x ys (view_at s (reads_at r h.segment.process g s last (only (seen_by r h.segment.process g s) ys)))) entry
      (record {
        count = variables_count r g 0 r.design.variables (only (seen_by r h.segment.process g s) ys);
        variables = λ x t. variables g h s ys d mine last x (below variable_kind r.design.variables x refl (⊎_elim (λ a. exists_of r rules sound g h (Reads x) a) (λ a. exists_of r rules sound g h (Writes x) a) t)) t;
        signals = λ c t. signal g h s ys d mine c (below signal_kind r.design.channels c refl (exists_of r rules sound g h (ReadsSignal c) t)) t last;
        takes = λ c t. takes g h s ys d mine c (below fifo_kind r.design.channels c refl (exists_of r rules sound g h (HoldsReading c) t)) t last;
        puts = λ c t. puts g h s ys d mine c (below fifo_kind r.design.channels c refl (exists_of r rules sound g h (HoldsWriting c) t)) t last;
      })))
    where
      h : Here r rules sound g
      h = here_at r rules sound g segment is

      same : h.segment ≡ segment
      same = some_is h.segment segment (sym h.segment_is ∙ is)

      number : h.segment.process ≡ p
      number = ap (λ x. x.process) same ∙ owner

      entry : h.segment.entry ≡ segment.entry
      entry = ap (λ x. x.entry) same

      same_process : h.process ≡ q
      same_process = some_is h.process q (sym h.process_is ∙ ap (slice_get r.design.processes) number ∙ process)

      mine : ComeBefore h.segment.process s ys
      mine = subst (λ n. ComeBefore n s ys) (sym number) before

-- two views that show what the same activations make agree on all that is touched
pub agree : (r : Rules) (process : Proc) (entry : SegmentEntry) (ys : List Activation) (v w : View) → v.stamp ≡ w.stamp → Shows r process entry ys v → Shows r process entry ys w →
    AgreeOn (Accesses r.design process entry) v w
agree r process entry ys v w e a b = record {
  stamp = e;
  variables = record {
    count = a.count ∙ sym b.count;
    read = λ x t. a.variables x (inl t) ∙ sym (b.variables x (inl t));
    written = λ x t. a.variables x (inr t) ∙ sym (b.variables x (inr t));
  };
  signals = λ c t. a.signals c t ∙ ap (λ s. signal_shown s.time (channel_in s (operations_of r ys) c)) e ∙ sym (b.signals c t);
  readable = λ c t. a.takes c t ∙ ap (λ s. readable (channel_in s (operations_of r ys) c)) e ∙ sym (b.takes c t);
  writable = λ c t. a.puts c t ∙ ap (λ s. writable (channel_in s (operations_of r ys) c)) e ∙ sym (b.puts c t);
}
