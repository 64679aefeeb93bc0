-- What the operations of a log make of a channel in the order of the commits is what they make in order of place.
use Rattle.std.proofs.Common.{◌≡◌, ◌≢◌, ℕ, inl, inr, ⊎_elim, Bool, true, false, ◌||◌, if◌then◌else◌, List, [], ◌∷◌, ◌++◌, Option, Some, None, refl, sym, ap, ◌∙◌, subst}
use Rattle.std.specs.Prelude.{filter, slice_get, IsSome}
use Rattle.std.specs.List.{list_any}
use Rattle.std.proofs.lemmas.Bool.{eqb-true}
use Rattle.std.proofs.lemmas.List.{append-nil}
use Rattle.std.proofs.lemmas.List.Elements.{filter-append}
use Rattle.ooo_time.specs.declared.stamp.Stamp.{Stamp}
use Rattle.ooo_time.specs.Stamps.{is_before}
use Rattle.ooo_value.specs.declared.bound.BoundChannel.{BoundChannel}
use Rattle.ooo_value.specs.declared.values.Value.{Value}
use Rattle.ooo_value.specs.declared.bound.ChannelKind.{ChannelKind}
use Rattle.ooo_value.specs.declared.bound.ChannelKind.TheVariants as channel
use Rattle.ooo_code.specs.declared.activation.Effect.{Effect}
use Rattle.ooo_code.specs.declared.activation.Effect.TheVariants as effect
use Rattle.ooo_code.specs.Channels.{Channel, IsSignal, IsFifo}
use Rattle.ooo_code.specs.Sound.{IsOfOne, IsSound, fifo_kind, signal_kind}
use Rattle.ooo_code.specs.Segments.{Accesses}
use Rattle.ooo_code.specs.Touches.{Touch, ReadsSignal, WritesSignal, HoldsReading, HoldsWriting}
use Rattle.ooo_channels.specs.Operations.{Operations, after_effect, after_effects, is_on, operations_before}
use Rattle.ooo_channels.specs.Cycles.{Cycle, acted, cycle_after, cycle_at, cycle_of, cycle_step}
use Rattle.ooo_conflicts.specs.Clashes.{ClashEarlier}
use Rattle.ooo_schedules.specs.Design.{only, sort}
use Rattle.ooo_schedules.specs.Model.{In, IsEarlier}
use Rattle.ooo_schedules.specs.Tables.{EveryScheduleOf}
use Rattle.ooo_dispatch.specs.Boards.{AreRules, model}
use Rattle.ooo_dispatch.specs.Rules.{Rules, clash, deed_of, operations_of, process_of, tables}
use Rattle.ooo_dispatch.proofs.Accessed.{Here, exists_of, process_at, use_of}
use Rattle.ooo_dispatch.proofs.Acting.{Does}
use Rattle.ooo_dispatch.proofs.Calls.{IsThere, access_is, clash_yes}
use Rattle.ooo_dispatch.proofs.Commits.{Activation, Commutes, OutOfOrder, P, Stands, WithEarlier, each_with, is_out_of_order, made, made_sorted}
use Rattle.ooo_dispatch.proofs.Enough.{put_by, request_by, take_by}
use Rattle.ooo_dispatch.proofs.Shown.{cycle_moved, here_now, moved, moved_none, next_cycle, step_off}

-- ---- effects at one stamp that commute

module _ (s : Stamp) (c : ℕ) where
  abbrev step : Cycle → Effect → Cycle
  step x f = cycle_step c x (record { at = s; effect = f })

  -- the channel is the same after both effects, in either order
  abbrev pub Commute : Effect → Effect → Type 0
  Commute f g = is_on c f ≡ true → is_on c g ≡ true → (x : Channel) → acted f (acted g x) ≡ acted g (acted f x)

  stays : (y : Cycle) → is_before y.stamp s ≡ false → cycle_at s y ≡ y
  stays y e = ap (λ b. if b then next_cycle s y else y) e

  abbrev twice : Effect → Effect → Cycle → Cycle
  twice f g x = record { stamp = (cycle_at s x).stamp; channel = acted f (acted g (cycle_at s x).channel); history = (cycle_at s x).history }

  after_both : (f g : Effect) (x : Cycle) → is_on c f ≡ true → is_on c g ≡ true → step (step x g) f ≡ twice f g x
  after_both f g x on_f on_g =
      ap (λ b. if b then cycle_after (step x g) (record { at = s; effect = f }) else step x g) on_f
      ∙ ap (λ b. cycle_after (if b then cycle_after x (record { at = s; effect = g }) else x) (record { at = s; effect = f })) on_g
      ∙ ap {A = Cycle} {B = Cycle} (λ y. record { stamp = y.stamp; channel = acted f y.channel; history = y.history }) (stays (cycle_after x (record { at = s; effect = g })) (here_now s x))

  step_commutes : (f g : Effect) → Commute f g → (x : Cycle) → step (step x g) f ≡ step (step x f) g
  step_commutes f g commute x = at (is_on c f) (is_on c g) refl refl
    where
      at : (a b : Bool) → is_on c f ≡ a → is_on c g ≡ b → step (step x g) f ≡ step (step x f) g
      at true true e h =
          after_both f g x e h
          ∙ ap {A = Channel} {B = Cycle} (λ y. record { stamp = (cycle_at s x).stamp; channel = y; history = (cycle_at s x).history }) (commute e h (cycle_at s x).channel)
          ∙ sym (after_both g f x h e)
      at false b e h = step_off s c f (step x g) e ∙ ap (λ y. step y g) (sym (step_off s c f x e))
      at true false e h = ap (λ y. step y f) (step_off s c g x h) ∙ sym (step_off s c g (step x f) h)

  past_all : (fs : List Effect) (g : Effect) → ((f : Effect) → In f fs → Commute f g) → (x : Cycle) → moved s c fs (step x g) ≡ step (moved s c fs x) g
  past_all [] g commute x = refl
  past_all (f ∷ fs) g commute x = ap (moved s c fs) (step_commutes f g (commute f (inl refl)) x) ∙ past_all fs g (λ h i. commute h (inr i)) (step x f)

  moved_commutes : (fs gs : List Effect) → ((f g : Effect) → In f fs → In g gs → Commute f g) → (x : Cycle) → moved s c fs (moved s c gs x) ≡ moved s c gs (moved s c fs x)
  moved_commutes fs [] commute x = refl
  moved_commutes fs (g ∷ gs) commute x =
      moved_commutes fs gs (λ f h i j. commute f h i (inr j)) (step x g) ∙ ap (moved s c gs) (past_all fs g (λ f i. commute f g i (inl refl)) x)

-- ---- activations that act on a channel

any_on : (c : ℕ) (fs : List Effect) → list_any (is_on c) fs ≡ true → (f : Effect) × In f fs × (is_on c f ≡ true)
any_on c [] h = absurd cc
any_on c (f ∷ fs) h = at (is_on c f) refl h (any_on c fs)
  where
    at : (b : Bool) → is_on c f ≡ b → (b || list_any (is_on c) fs) ≡ true → (list_any (is_on c) fs ≡ true → (g : Effect) × In g fs × (is_on c g ≡ true)) → (g : Effect) × In g (f ∷ fs) × (is_on c g ≡ true)
    at true e k rec = (f, inl refl, e)
    at false e k rec = let g = rec k in (g.0, inr g.1, g.2)

none_on : (c : ℕ) (fs : List Effect) → list_any (is_on c) fs ≡ false → (f : Effect) → In f fs → is_on c f ≡ true → ⊥
none_on c [] h f i on = i
none_on c (g ∷ fs) h f i on = at (is_on c g) refl h (none_on c fs)
  where
    at : (b : Bool) → is_on c g ≡ b → (b || list_any (is_on c) fs) ≡ false → (list_any (is_on c) fs ≡ false → (f : Effect) → In f fs → is_on c f ≡ true → ⊥) → ⊥
    at true e k rec = absurd cc
    at false e k rec = ⊎_elim (λ s. let x : true ≡ false = sym on ∙ ap (is_on c) s ∙ e in absurd cc) (λ j. rec k f j on) i

module _ (r : Rules) (c : ℕ) where
  abbrev effects : Activation → List Effect
  effects y = (deed_of r y).effects

  -- an effect of the activation is on the channel
  abbrev pub acts_on : Activation → Bool
  acts_on y = list_any (is_on c) (effects y)

  -- the channel, in the cycle of the last operation of some activations, the last first
  abbrev pub cycle : List Activation → Cycle
  cycle ys = cycle_of (operations_of r ys) c

  -- what an activation does to it
  abbrev pub put : Activation → Cycle → Cycle
  put y x = moved y.stamp c (effects y) x

  pub one_on : (y : Activation) → acts_on y ≡ true → (f : Effect) × In f (effects y) × (is_on c f ≡ true)
  one_on y h = any_on c (effects y) h

  put_none : (y : Activation) (x : Cycle) → acts_on y ≡ false → put y x ≡ x
  put_none y x h = moved_none y.stamp c (effects y) x (none_on c (effects y) h)

  cycle_made : (ys : List Activation) → cycle ys ≡ made r (cycle []) put ys
  cycle_made [] = refl
  cycle_made (y ∷ ys) = cycle_moved y.stamp (operations_of r ys) (effects y) c ∙ ap (put y) (cycle_made ys)

  -- only those count that act on the channel
  pub same_acting : (test other : Activation → Bool) (ys : List Activation) → ((y : Activation) → In y ys → acts_on y ≡ true → test y ≡ other y) →
      cycle (only test ys) ≡ cycle (only other ys)
  same_acting test other [] same = refl
  same_acting test other (y ∷ ys) same = at (test y) (other y) refl refl (same_acting test other ys (λ z i. same z (inr i)))
    where
      more : (zs : List Activation) → cycle (y ∷ zs) ≡ put y (cycle zs)
      more zs = cycle_moved y.stamp (operations_of r zs) (effects y) c

      idle : (a b : Bool) → test y ≡ a → other y ≡ b → (a ≡ b → ⊥) → (x : Cycle) → put y x ≡ x
      idle a b e h n x = off (acts_on y) refl
        where
          off : (d : Bool) → acts_on y ≡ d → put y x ≡ x
          off true k = absurd (n (sym e ∙ same y (inl refl) k ∙ h))
          off false k = put_none y x k

      at : (a b : Bool) → test y ≡ a → other y ≡ b → cycle (only test ys) ≡ cycle (only other ys) →
          cycle (if a then y ∷ only test ys else only test ys) ≡ cycle (if b then y ∷ only other ys else only other ys)
      at true true e h rec = more (only test ys) ∙ ap (put y) rec ∙ sym (more (only other ys))
      at true false e h rec = more (only test ys) ∙ idle true false e h (λ k. let x : true ≡ false = k in cc) (cycle (only test ys)) ∙ rec
      at false true e h rec = rec ∙ sym (more (only other ys) ∙ idle false true e h (λ k. let x : false ≡ true = k in cc) (cycle (only other ys)))
      at false false e h rec = rec

  -- two activations of which effects on the channel are at one stamp and commute
  put_commutes : (x y : Activation) →
      ((f g : Effect) → In f (effects x) → In g (effects y) → is_on c f ≡ true → is_on c g ≡ true → (x.stamp ≡ y.stamp) × ((z : Channel) → acted g (acted f z) ≡ acted f (acted g z))) →
      (w : Cycle) → put y (put x w) ≡ put x (put y w)
  put_commutes x y commute w = at (acts_on x) (acts_on y) refl refl
    where
      at : (a b : Bool) → acts_on x ≡ a → acts_on y ≡ b → put y (put x w) ≡ put x (put y w)
      at false b e h = ap (put y) (put_none x w e) ∙ sym (put_none x (put y w) e)
      at true false e h = put_none y (put x w) h ∙ ap (put x) (sym (put_none y w h))
      at true true e h =
          let f = one_on x e in
          let g = one_on y h in
          let same : x.stamp ≡ y.stamp = (commute f.0 g.0 f.1 g.1 f.2 g.2).0 in
          subst (λ s. moved y.stamp c (effects y) (moved s c (effects x) w) ≡ moved s c (effects x) (moved y.stamp c (effects y) w)) (sym same)
          (moved_commutes y.stamp c (effects y) (effects x) (λ k j a b on_k on_j z. (commute j k b a on_j on_k).1 z) w)

-- ---- who acts on it

take_after_put : (c d : ℕ) (v : Value) (x : Channel) → acted (effect.Take c) (acted (effect.Put d v) x) ≡ acted (effect.Put d v) (acted (effect.Take c) x)
take_after_put c d v (IsSignal x) = refl
take_after_put c d v (IsFifo x) = refl

not_both : (o : Option BoundChannel) → IsSome (signal_kind o) → IsSome (fifo_kind o) → ⊥
not_both None a b = let x : false ≡ true = a in cc
not_both (Some o) a b = at o.kind a b
  where
    at : (k : ChannelKind) → IsSome (elim k [ channel.Signal ↦ Some o.value | channel.Fifo ↦ None ]) → IsSome (elim k [ channel.Signal ↦ None | channel.Fifo ↦ Some o.value ]) → ⊥
    at channel.Signal x y = let z : false ≡ true = y in cc
    at channel.Fifo x y = let z : false ≡ true = x in cc

module _ (r : Rules) (rules : AreRules r) (sound : IsSound r.design) where
  -- a segment that there is touches something
  pub record Touches (g : ℕ) (t : Touch) : Type 0 where
    pub here : Here r rules sound g
    pub access : Accesses r.design here.process here.segment.entry t

  -- what one process alone touches, it does
  pub one_process : (t : Touch) → IsOfOne r.design t → (a b : ℕ) → Touches a t → Touches b t → process_of r a ≡ process_of r b
  one_process t one a b x y =
      process_at r rules sound a x.here
      ∙ one x.here.segment.process y.here.segment.process (use_of r rules sound a x.here t x.access) (use_of r rules sound b y.here t y.access)
      ∙ sym (process_at r rules sound b y.here)

  abbrev is_there : (g : ℕ) → Here r rules sound g → IsThere r g
  is_there g h = record { access = h.access; is = h.access_is; same = access_is r g h.access h.access_is }

  earlier_clash : (a b : ℕ) (h : Here r rules sound a) (k : Here r rules sound b) → ClashEarlier h.access k.access → clash r a b true ≡ true
  earlier_clash a b h k c = clash_yes r rules a b (is_there a h) (is_there b k) true (inr (refl, c))

  module _ (c : ℕ) where
    abbrev own_channel : Option BoundChannel
    own_channel = slice_get r.design.channels c

    -- who writes a signal clashes strictly with who reads it; and the two ends of a fifo do
    pub requests_clash : (a b : ℕ) → Touches a (WritesSignal c) → Touches b (ReadsSignal c) → clash r a b true ≡ true
    requests_clash a b x y =
        earlier_clash a b x.here y.here (inr (inl (c, (x.here.accesses.signals_written c).1 x.access, (y.here.accesses.signals_read c).1 y.access)))

    pub puts_clash : (a b : ℕ) → Touches a (HoldsWriting c) → Touches b (HoldsReading c) → clash r a b true ≡ true
    puts_clash a b x y = earlier_clash a b x.here y.here (inr (inr (inr (c, (x.here.accesses.puts c).1 x.access, (y.here.accesses.takes c).1 y.access))))

    pub takes_clash : (a b : ℕ) → Touches a (HoldsReading c) → Touches b (HoldsWriting c) → clash r a b true ≡ true
    takes_clash a b x y = earlier_clash a b x.here y.here (inr (inr (inl (c, (x.here.accesses.takes c).1 x.access, (y.here.accesses.puts c).1 y.access))))

    -- a channel is a signal or a fifo
    pub is_signal : (a : ℕ) → Touches a (WritesSignal c) → IsSome (signal_kind own_channel)
    is_signal a x = exists_of r rules sound a x.here (WritesSignal c) x.access

    pub is_read_signal : (a : ℕ) → Touches a (ReadsSignal c) → IsSome (signal_kind own_channel)
    is_read_signal a x = exists_of r rules sound a x.here (ReadsSignal c) x.access

    pub is_written_fifo : (a : ℕ) → Touches a (HoldsWriting c) → IsSome (fifo_kind own_channel)
    is_written_fifo a x = exists_of r rules sound a x.here (HoldsWriting c) x.access

    pub is_read_fifo : (a : ℕ) → Touches a (HoldsReading c) → IsSome (fifo_kind own_channel)
    is_read_fifo a x = exists_of r rules sound a x.here (HoldsReading c) x.access

    pub kinds_apart : IsSome (signal_kind own_channel) → IsSome (fifo_kind own_channel) → ⊥
    kinds_apart x y = not_both own_channel x y

    module _ (does : Does) where
      -- what an effect on the channel is, and that the activation's segment touches the channel so
      pub data UseOf (g : ℕ) (f : Effect) : Type 0 where
        Requests : (v : Value) → f ≡ effect.Request c v → Touches g (WritesSignal c) → UseOf g f
        Puts : (v : Value) → f ≡ effect.Put c v → Touches g (HoldsWriting c) → UseOf g f
        Takes : f ≡ effect.Take c → Touches g (HoldsReading c) → UseOf g f

      pub use_on : (y : Activation) (f : Effect) → In f (deed_of r y).effects → is_on c f ≡ true → UseOf y.segment f
      use_on y (effect.Request n v) i on =
          let e : n ≡ c = sym (eqb-true c n on) in
          let b = request_by r rules sound does y n v i in
          Requests v (ap (λ m. effect.Request m v) e) (subst (λ m. Touches y.segment (WritesSignal m)) e (record { here = b.acts.here; access = b.access }))
      use_on y (effect.Put n v) i on =
          let e : n ≡ c = sym (eqb-true c n on) in
          let b = put_by r rules sound does y n v i in
          Puts v (ap (λ m. effect.Put m v) e) (subst (λ m. Touches y.segment (HoldsWriting m)) e (record { here = b.acts.here; access = b.access }))
      use_on y (effect.Take n) i on =
          let e : n ≡ c = sym (eqb-true c n on) in
          let b = take_by r rules sound does y n i in
          Takes (ap (λ m. effect.Take m) e) (subst (λ m. Touches y.segment (HoldsReading m)) e (record { here = b.acts.here; access = b.access }))
      use_on y (effect.Notify e k) i on = absurd (let x : false ≡ true = on in cc)
      use_on y (effect.Cancel e) i on = absurd (let x : false ≡ true = on in cc)
      use_on y effect.Stop i on = absurd (let x : false ≡ true = on in cc)

module _ (r : Rules) (rules : AreRules r) (sound : IsSound r.design) (c : ℕ) (does : Does) (every : EveryScheduleOf (tables r)) where
  -- two that are out of order act on the channel at one stamp, as its two ends
  pub ends_commute : (x y : Activation) → process_of r x.segment ≡ x.process → process_of r y.segment ≡ y.process → Stands r every x y → OutOfOrder r x y →
      (f g : Effect) → In f (deed_of r x).effects → In g (deed_of r y).effects → is_on c f ≡ true → is_on c g ≡ true →
      (x.stamp ≡ y.stamp) × ((z : Channel) → acted g (acted f z) ≡ acted f (acted g z))
  ends_commute x y of_x of_y h late f g i j on_f on_g = at (use_on r rules sound c does x f i on_f) (use_on r rules sound c does y g j on_g)
    where
      out : (x.process ≢ y.process) × IsEarlier (model r) x y
      out = is_out_of_order r every x y h late

      others : process_of r x.segment ≡ process_of r y.segment → ⊥
      others e = out.0 (sym of_x ∙ e ∙ of_y)

      same : clash r x.segment y.segment true ≡ true → x.stamp ≡ y.stamp
      same k = ⊎_elim (λ lt. absurd (h.apart out.0 (inl lt) (inr (lt, k)))) (λ e. e.0) out.1

      at : UseOf r rules sound c does x.segment f → UseOf r rules sound c does y.segment g → (x.stamp ≡ y.stamp) × ((z : Channel) → acted g (acted f z) ≡ acted f (acted g z))
      at (Requests v e t) (Requests w k u) = absurd (others (one_process r rules sound (WritesSignal c) (sound.writers c) x.segment y.segment t u))
      at (Requests v e t) (Puts w k u) = absurd (kinds_apart r rules sound c (is_signal r rules sound c x.segment t) (is_written_fifo r rules sound c y.segment u))
      at (Requests v e t) (Takes k u) = absurd (kinds_apart r rules sound c (is_signal r rules sound c x.segment t) (is_read_fifo r rules sound c y.segment u))
      at (Puts v e t) (Requests w k u) = absurd (kinds_apart r rules sound c (is_signal r rules sound c y.segment u) (is_written_fifo r rules sound c x.segment t))
      at (Puts v e t) (Puts w k u) = absurd (others (one_process r rules sound (HoldsWriting c) (sound.writing_ends c) x.segment y.segment t u))
      at (Puts v e t) (Takes k u) = (same (puts_clash r rules sound c x.segment y.segment t u), λ z. rw (e, k) (take_after_put c c v z))
      at (Takes e t) (Requests w k u) = absurd (kinds_apart r rules sound c (is_signal r rules sound c y.segment u) (is_read_fifo r rules sound c x.segment t))
      at (Takes e t) (Puts w k u) = (same (takes_clash r rules sound c x.segment y.segment t u), λ z. rw (e, k) (sym (take_after_put c c w z)))
      at (Takes e t) (Takes k u) = absurd (others (one_process r rules sound (HoldsReading c) (sound.reading_ends c) x.segment y.segment t u))

  -- what those of a log that pass a test make of the channel is the same in order of place
  pub channel_sorted : (test : Activation → Bool) (log : List Activation) → ((y : Activation) → In y log → process_of r y.segment ≡ y.process) → WithEarlier (Stands r every) log →
      cycle r c (only test (sort (P r) log)) ≡ cycle r c (only test log)
  channel_sorted test log own stands =
      cycle_made r c (only test (sort (P r) log))
      ∙ made_sorted r (cycle r c []) (put r c) test log
      (each_with (Stands r every) (Commutes r (cycle r c []) (put r c) test) log
      (λ x y i j h late a b. put_commutes r c x y (ends_commute x y (own x i) (own y j) h late)) stands)
      ∙ sym (cycle_made r c (only test log))

-- ---- those before a stamp

module _ (r : Rules) (s : Stamp) where
  abbrev pub is_early : Activation → Bool
  is_early y = is_before y.stamp s

  one_before : (at : Stamp) (f : Effect) (ops : Operations) → operations_before s (after_effect at ops f) ≡ (if is_before at s then after_effect at (operations_before s ops) f else operations_before s ops)
  one_before at f ops =
      ap (λ xs. record ops { applied = xs }) (filter-append (λ o. is_before o.at s) ops.applied (record { at = at; effect = f } ∷ [])) ∙ one (is_before at s)
    where
      one : (b : Bool) → record ops { applied = filter (λ o. is_before o.at s) ops.applied ++ (if b then record { at = at; effect = f } ∷ [] else []) } ≡ (if b then after_effect at (operations_before s ops) f else operations_before s ops)
      one true = refl
      one false = ap (λ xs. record ops { applied = xs }) (append-nil (filter (λ o. is_before o.at s) ops.applied))

  effects_before : (at : Stamp) (fs : List Effect) (ops : Operations) →
      operations_before s (after_effects at ops fs) ≡ (if is_before at s then after_effects at (operations_before s ops) fs else operations_before s ops)
  effects_before at [] ops = none (is_before at s)
    where
      none : (b : Bool) → operations_before s ops ≡ (if b then operations_before s ops else operations_before s ops)
      none true = refl
      none false = refl
  effects_before at (f ∷ fs) ops = effects_before at fs (after_effect at ops f) ∙ one (is_before at s) (one_before at f ops)
    where
      one : (b : Bool) → operations_before s (after_effect at ops f) ≡ (if b then after_effect at (operations_before s ops) f else operations_before s ops) →
          (if b then after_effects at (operations_before s (after_effect at ops f)) fs else operations_before s (after_effect at ops f))
          ≡ (if b then after_effects at (operations_before s ops) (f ∷ fs) else operations_before s ops)
      one true e = ap (λ o. after_effects at o fs) e
      one false e = e

  -- the operations of activations that are before a stamp are those of the activations before it
  pub before_is : (ys : List Activation) → operations_before s (operations_of r ys) ≡ operations_of r (only is_early ys)
  before_is [] = refl
  before_is (y ∷ ys) = effects_before y.stamp (deed_of r y).effects (operations_of r ys) ∙ at (is_before y.stamp s) (before_is ys)
    where
      at : (b : Bool) → operations_before s (operations_of r ys) ≡ operations_of r (only is_early ys) →
          (if b then after_effects y.stamp (operations_before s (operations_of r ys)) (deed_of r y).effects else operations_before s (operations_of r ys))
          ≡ operations_of r (if b then y ∷ only is_early ys else only is_early ys)
      at true rec = ap (λ ops. after_effects y.stamp ops (deed_of r y).effects) rec
      at false rec = rec
