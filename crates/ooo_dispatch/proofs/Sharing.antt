-- What two activations have effects on, their segments share: they are of one process, or clash.
use Rattle.std.proofs.Common.{◌≡◌, ℕ, ◌⊎◌, inl, inr, ⊎_elim, true, false, Option, Some, None, refl, sym, ◌∙◌, subst}
use Rattle.std.specs.Prelude.{slice_get, ⊤, IsSome, Contains}
use Rattle.std.proofs.lemmas.Bool.{eqb-true}
use Rattle.ooo_value.specs.declared.bound.BoundChannel.{BoundChannel}
use Rattle.ooo_value.specs.declared.bound.ChannelKind.{ChannelKind}
use Rattle.ooo_value.specs.declared.bound.ChannelKind.TheVariants as channel
use Rattle.ooo_code.specs.declared.activation.Effect.{Effect}
use Rattle.ooo_code.specs.declared.activation.Effect.TheVariants as effect
use Rattle.ooo_code.specs.AsSaid.{IsMade}
use Rattle.ooo_code.specs.Segments.{Accesses}
use Rattle.ooo_code.specs.Sound.{IsOfOne, IsOwn, IsSound, fifo_kind, signal_kind}
use Rattle.ooo_code.specs.Touches.{Touch, WritesSignal, HoldsReading, HoldsWriting}
use Rattle.ooo_conflicts.specs.Kinds.{kind_at}
use Rattle.ooo_schedules.specs.Model.{In}
use Rattle.ooo_dispatch.specs.Boards.{AreRules}
use Rattle.ooo_dispatch.specs.Rules.{Rules, access_of, calls, clash, deed_of, has, process_of}
use Rattle.ooo_dispatch.proofs.Accessed.{Here, each_in, exists_of, here_of, process_at, use_of}
use Rattle.ooo_dispatch.proofs.Acting.{Activation, Acts, Does, accessed, acting, calls_by, made}
use Rattle.ooo_dispatch.proofs.Allowed.{weaker}
use Rattle.ooo_dispatch.proofs.Calls.{IsThere, access_is, clash_yes, has_yes, own_clash, there_if}
use Rattle.ooo_dispatch.proofs.Channels.{on_channel}
use Rattle.ooo_dispatch.proofs.Orderly.{IsOnSame}
use Rattle.ooo_dispatch.proofs.Owning.{Owns, all_own}

-- no channel is a signal and a fifo
pub kinds_apart : (o : Option BoundChannel) → IsSome (signal_kind o) → IsSome (fifo_kind o) → ⊥
kinds_apart None s f = let none : false ≡ true = s in cc
kinds_apart (Some b) s f = at b.kind s f
  where
    at : (k : ChannelKind) → IsSome (elim k [ channel.Signal ↦ Some b.value | channel.Fifo ↦ None ]) → IsSome (elim k [ channel.Signal ↦ None | channel.Fifo ↦ Some b.value ]) → ⊥
    at channel.Signal x y = let none : false ≡ true = y in cc
    at channel.Fifo x y = let none : false ≡ true = x in cc

module _ (r : Rules) (rules : AreRules r) (sound : IsSound r.design) where
  -- segment g, which is there, touches it
  pub record Touches (g : ℕ) (t : Touch) : Type 0 where
    pub here : Here r rules sound g
    pub accesses : Accesses r.design here.process here.segment.entry t

  -- two segments that touch what one process may touch are of one process
  same_process : (g h : ℕ) (t : Touch) → IsOfOne r.design t → Touches g t → Touches h t → process_of r g ≡ process_of r h
  same_process g h t one a b =
      process_at r rules sound g a.here ∙ one a.here.segment.process b.here.segment.process (use_of r rules sound g a.here t a.accesses) (use_of r rules sound h b.here t b.accesses)
      ∙ sym (process_at r rules sound h b.here)

  pub one_writer : (g h c : ℕ) → Touches g (WritesSignal c) → Touches h (WritesSignal c) → process_of r g ≡ process_of r h
  one_writer g h c a b = same_process g h (WritesSignal c) (sound.writers c) a b

  pub one_taker : (g h c : ℕ) → Touches g (HoldsReading c) → Touches h (HoldsReading c) → process_of r g ≡ process_of r h
  one_taker g h c a b = same_process g h (HoldsReading c) (sound.reading_ends c) a b

  pub one_putter : (g h c : ℕ) → Touches g (HoldsWriting c) → Touches h (HoldsWriting c) → process_of r g ≡ process_of r h
  one_putter g h c a b = same_process g h (HoldsWriting c) (sound.writing_ends c) a b

  -- what is touched as a signal is none that is touched as a fifo
  pub no_taker : (g h c : ℕ) → Touches g (WritesSignal c) → Touches h (HoldsReading c) → ⊥
  no_taker g h c a b =
      kinds_apart (slice_get r.design.channels c) (exists_of r rules sound g a.here (WritesSignal c) a.accesses) (exists_of r rules sound h b.here (HoldsReading c) b.accesses)

  pub no_putter : (g h c : ℕ) → Touches g (WritesSignal c) → Touches h (HoldsWriting c) → ⊥
  no_putter g h c a b =
      kinds_apart (slice_get r.design.channels c) (exists_of r rules sound g a.here (WritesSignal c) a.accesses) (exists_of r rules sound h b.here (HoldsWriting c) b.accesses)

  -- ---- the two ends of a fifo

  abbrev there : (g : ℕ) → Here r rules sound g → IsThere r g
  there g h = record { access = h.access; is = h.access_is; same = access_is r g h.access h.access_is }

  takes_of : (g c : ℕ) (a : Touches g (HoldsReading c)) → Contains a.here.access.takes c
  takes_of g c a = (a.here.accesses.takes c).1 a.accesses

  puts_of : (g c : ℕ) (a : Touches g (HoldsWriting c)) → Contains a.here.access.puts c
  puts_of g c a = (a.here.accesses.puts c).1 a.accesses

  pub taker_clashes : (g h c : ℕ) → Touches g (HoldsReading c) → Touches h (HoldsWriting c) → clash r g h true ≡ true
  taker_clashes g h c a b = clash_yes r rules g h (there g a.here) (there h b.here) true (inr (refl, inr (inr (inl (c, takes_of g c a, puts_of h c b)))))

  pub putter_clashes : (g h c : ℕ) → Touches g (HoldsWriting c) → Touches h (HoldsReading c) → clash r g h true ≡ true
  putter_clashes g h c a b = clash_yes r rules g h (there g a.here) (there h b.here) true (inr (refl, inr (inr (inr (c, puts_of g c a, takes_of h c b)))))

  -- an end that the access has is touched
  pub taker : (g c : ℕ) → has (access_of r g).takes c ≡ true → Touches g (HoldsReading c)
  taker g c e =
      let i = there_if r (λ a. has a.takes c) refl g e in
      let h = here_of r rules sound g i.access i.is in
      record { here = h; accesses = (h.accesses.takes c).0 (subst (λ a. Contains a.takes c) (access_is r g h.access h.access_is) (has_yes (access_of r g).takes c e)) }

  pub putter : (g c : ℕ) → has (access_of r g).puts c ≡ true → Touches g (HoldsWriting c)
  putter g c e =
      let i = there_if r (λ a. has a.puts c) refl g e in
      let h = here_of r rules sound g i.access i.is in
      record { here = h; accesses = (h.accesses.puts c).0 (subst (λ a. Contains a.puts c) (access_is r g h.access h.access_is) (has_yes (access_of r g).puts c e)) }

  -- ---- effects

  module _ (does : Does) where
    -- what an effect of an activation is on, its segment touches or calls
    abbrev pub IsTouched : Activation → Effect → Type 0
    IsTouched x (effect.Request c v) = Touches x.segment (WritesSignal c)
    IsTouched x (effect.Put c v) = Touches x.segment (HoldsWriting c)
    IsTouched x (effect.Take c) = Touches x.segment (HoldsReading c)
    IsTouched x (effect.Notify e k) = (calls r x.segment e ≡ true) × IsOwn (slice_get r.design.events e)
    IsTouched x (effect.Cancel e) = (calls r x.segment e ≡ true) × IsOwn (slice_get r.design.events e)
    IsTouched x effect.Stop = ⊤

    abbrev M : (x : Activation) → Acts r rules sound does x → Effect → Type 0
    M x a f = IsMade r.design a.here.process a.here.segment.entry f

    by_acts : (x : Activation) (a : Acts r rules sound does x) (f : Effect) → In f (deed_of r x).effects → IsTouched x f
    by_acts x a (effect.Request c v) i =
        let m : M x a (effect.Request c v) = made r rules sound does x a (effect.Request c v) i in
        record { here = a.here; accesses = accessed r rules sound does x a (effect.Request c v) m (WritesSignal c) (on_channel r.design.events m.node.kind (effect.Request c v) m.makes) }
    by_acts x a (effect.Put c v) i =
        let m : M x a (effect.Put c v) = made r rules sound does x a (effect.Put c v) i in
        record { here = a.here; accesses = accessed r rules sound does x a (effect.Put c v) m (HoldsWriting c) (on_channel r.design.events m.node.kind (effect.Put c v) m.makes) }
    by_acts x a (effect.Take c) i =
        let m : M x a (effect.Take c) = made r rules sound does x a (effect.Take c) i in
        record { here = a.here; accesses = accessed r rules sound does x a (effect.Take c) m (HoldsReading c) (on_channel r.design.events m.node.kind (effect.Take c) m.makes) }
    by_acts x a (effect.Notify e k) i = (
      calls_by r rules sound does x a e (record { effect = effect.Notify e k; among = i; calls = refl }),
      each_in (Owns r.design.events) (deed_of r x).effects (effect.Notify e k) (all_own r rules sound does x) i,
    )
    by_acts x a (effect.Cancel e) i = (
      calls_by r rules sound does x a e (record { effect = effect.Cancel e; among = i; calls = refl }),
      each_in (Owns r.design.events) (deed_of r x).effects (effect.Cancel e) (all_own r rules sound does x) i,
    )
    by_acts x a effect.Stop i = tt

    pub touched : (x : Activation) (f : Effect) → In f (deed_of r x).effects → IsTouched x f
    touched x f i = ⊎_elim (λ a. by_acts x a f i) (λ n. absurd (subst (λ es. In f es) n.effects i)) (acting r rules sound does x)

    -- ---- two effects on the same

    abbrev pub Share : Activation → Activation → Type 0
    Share x y = (process_of r x.segment ≡ process_of r y.segment) ⊎ (clash r x.segment y.segment true ≡ true)

    called : (x y : Activation) (e : ℕ) → IsOwn (slice_get r.design.events e) → calls r x.segment e ≡ true → calls r y.segment e ≡ true → Share x y
    called x y e own a b = inr (weaker (kind_at r.clashes x.segment y.segment) (own_clash r rules x.segment y.segment e own a b))

    pub share : (x y : Activation) (f g : Effect) → IsTouched x f → IsTouched y g → IsOnSame f g → Share x y
    share x y (effect.Request c v) (effect.Request d w) a b s = inl (one_writer x.segment y.segment c a (subst (λ n. Touches y.segment (WritesSignal n)) (sym (eqb-true c d s)) b))
    share x y (effect.Request c v) (effect.Put d w) a b s = absurd (no_putter x.segment y.segment c a (subst (λ n. Touches y.segment (HoldsWriting n)) (sym (eqb-true c d s)) b))
    share x y (effect.Request c v) (effect.Take d) a b s = absurd (no_taker x.segment y.segment c a (subst (λ n. Touches y.segment (HoldsReading n)) (sym (eqb-true c d s)) b))
    share x y (effect.Request c v) (effect.Notify e k) a b s = absurd cc
    share x y (effect.Request c v) (effect.Cancel e) a b s = absurd cc
    share x y (effect.Request c v) effect.Stop a b s = absurd cc
    share x y (effect.Put c v) (effect.Request d w) a b s = absurd (no_putter y.segment x.segment c (subst (λ n. Touches y.segment (WritesSignal n)) (sym (eqb-true c d s)) b) a)
    share x y (effect.Put c v) (effect.Put d w) a b s = inl (one_putter x.segment y.segment c a (subst (λ n. Touches y.segment (HoldsWriting n)) (sym (eqb-true c d s)) b))
    share x y (effect.Put c v) (effect.Take d) a b s = inr (putter_clashes x.segment y.segment c a (subst (λ n. Touches y.segment (HoldsReading n)) (sym (eqb-true c d s)) b))
    share x y (effect.Put c v) (effect.Notify e k) a b s = absurd cc
    share x y (effect.Put c v) (effect.Cancel e) a b s = absurd cc
    share x y (effect.Put c v) effect.Stop a b s = absurd cc
    share x y (effect.Take c) (effect.Request d w) a b s = absurd (no_taker y.segment x.segment c (subst (λ n. Touches y.segment (WritesSignal n)) (sym (eqb-true c d s)) b) a)
    share x y (effect.Take c) (effect.Put d w) a b s = inr (taker_clashes x.segment y.segment c a (subst (λ n. Touches y.segment (HoldsWriting n)) (sym (eqb-true c d s)) b))
    share x y (effect.Take c) (effect.Take d) a b s = inl (one_taker x.segment y.segment c a (subst (λ n. Touches y.segment (HoldsReading n)) (sym (eqb-true c d s)) b))
    share x y (effect.Take c) (effect.Notify e k) a b s = absurd cc
    share x y (effect.Take c) (effect.Cancel e) a b s = absurd cc
    share x y (effect.Take c) effect.Stop a b s = absurd cc
    share x y (effect.Notify e k) (effect.Notify d l) a b s = called x y e a.1 a.0 (subst (λ n. calls r y.segment n ≡ true) (sym (eqb-true e d s)) b.0)
    share x y (effect.Notify e k) (effect.Cancel d) a b s = called x y e a.1 a.0 (subst (λ n. calls r y.segment n ≡ true) (sym (eqb-true e d s)) b.0)
    share x y (effect.Notify e k) (effect.Request d w) a b s = absurd cc
    share x y (effect.Notify e k) (effect.Put d w) a b s = absurd cc
    share x y (effect.Notify e k) (effect.Take d) a b s = absurd cc
    share x y (effect.Notify e k) effect.Stop a b s = absurd cc
    share x y (effect.Cancel e) (effect.Notify d l) a b s = called x y e a.1 a.0 (subst (λ n. calls r y.segment n ≡ true) (sym (eqb-true e d s)) b.0)
    share x y (effect.Cancel e) (effect.Cancel d) a b s = called x y e a.1 a.0 (subst (λ n. calls r y.segment n ≡ true) (sym (eqb-true e d s)) b.0)
    share x y (effect.Cancel e) (effect.Request d w) a b s = absurd cc
    share x y (effect.Cancel e) (effect.Put d w) a b s = absurd cc
    share x y (effect.Cancel e) (effect.Take d) a b s = absurd cc
    share x y (effect.Cancel e) effect.Stop a b s = absurd cc
    share x y effect.Stop g a b s = absurd s
