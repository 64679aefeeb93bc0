-- Channels that are alike stay so, whatever effects and updates do to them.
use Rattle.std.proofs.Common.{◌≡◌, ◌++◌, ◌<◌, Bool, true, false, cond, arith, [], Some, None, refl, ap, sym, subst, ◌∙◌, append-nil, ⊎_elim, eq-eqb}
use Rattle.std.proofs.lemmas.Bool.{ne_eqb}
use Rattle.std.proofs.lemmas.Bool.Decides.{Decides-int_eq}
use Rattle.ooo_time.specs.declared.time.Time.{Time}
use Rattle.ooo_time.specs.declared.stamp.Stamp.{Stamp}
use Rattle.ooo_time.specs.Stamps.{IsBefore}
use Rattle.ooo_value.specs.declared.values.Value.{Value}
use Rattle.ooo_value.specs.Values.{number_of}
use Rattle.ooo_code.specs.declared.activation.Effect.{Effect}
use Rattle.ooo_code.specs.declared.activation.Effect.TheVariants as effect
use Rattle.ooo_code.specs.Channels.{Channel, IsSignal, IsFifo, is_time, same_value, changes, next_value, updated, available}
use Rattle.ooo_meaning.specs.World.{same_stamp, next_delta}
use Rattle.ooo_channels.specs.Cycles.{Cycle, later_channel, acted, readable, writable}
use Rattle.ooo_channels.specs.Agreement.{core, is_changed, AreAlike, IsNextStamp}

-- ---- what the core says

core-acted : (f : Effect) (x : Channel) → core (acted f x) ≡ core (acted f (core x))
core-acted (effect.Request c v) (IsSignal s) = refl
core-acted (effect.Request c v) (IsFifo f) = refl
core-acted (effect.Put c v) (IsSignal s) = refl
core-acted (effect.Put c v) (IsFifo f) = refl
core-acted (effect.Take c) (IsSignal s) = refl
core-acted (effect.Take c) (IsFifo f) = refl
core-acted (effect.Notify e k) (IsSignal s) = refl
core-acted (effect.Notify e k) (IsFifo f) = refl
core-acted (effect.Cancel e) (IsSignal s) = refl
core-acted (effect.Cancel e) (IsFifo f) = refl
core-acted effect.Stop (IsSignal s) = refl
core-acted effect.Stop (IsFifo f) = refl

changed-acted : (now : Time) (f : Effect) (x : Channel) → is_changed now (acted f x) ≡ is_changed now x
changed-acted now (effect.Request c v) (IsSignal s) = refl
changed-acted now (effect.Request c v) (IsFifo f) = refl
changed-acted now (effect.Put c v) (IsSignal s) = refl
changed-acted now (effect.Put c v) (IsFifo f) = refl
changed-acted now (effect.Take c) (IsSignal s) = refl
changed-acted now (effect.Take c) (IsFifo f) = refl
changed-acted now (effect.Notify e k) (IsSignal s) = refl
changed-acted now (effect.Notify e k) (IsFifo f) = refl
changed-acted now (effect.Cancel e) (IsSignal s) = refl
changed-acted now (effect.Cancel e) (IsFifo f) = refl
changed-acted now effect.Stop (IsSignal s) = refl
changed-acted now effect.Stop (IsFifo f) = refl

core-updated : (t : Time) (x : Channel) → core (updated t x) ≡ core (updated t (core x))
core-updated t (IsSignal s) = refl
core-updated t (IsFifo f) = refl

changed-updated : (now t : Time) (x : Channel) → is_changed now (updated t x) ≡ is_changed now (updated t (core x))
changed-updated now t (IsSignal s) = refl
changed-updated now t (IsFifo f) = refl

readable-core : (x : Channel) → readable x ≡ readable (core x)
readable-core (IsSignal s) = refl
readable-core (IsFifo f) = refl

writable-core : (x : Channel) → writable x ≡ writable (core x)
writable-core (IsSignal s) = refl
writable-core (IsFifo f) = refl

-- ---- channels that are alike

module _ (now : Time) (x y : Channel) (h : AreAlike now x y) where
  pub acted_alike : (f : Effect) → AreAlike now (acted f x) (acted f y)
  acted_alike f = record {
    core = core-acted f x ∙ ap (λ z. core (acted f z)) h.core ∙ sym (core-acted f y);
    changed = changed-acted now f x ∙ h.changed ∙ sym (changed-acted now f y);
  }

  pub readable_alike : readable x ≡ readable y
  readable_alike = readable-core x ∙ ap readable h.core ∙ sym (readable-core y)

  pub writable_alike : writable x ≡ writable y
  writable_alike = writable-core x ∙ ap writable h.core ∙ sym (writable-core y)

  updated_alike : (then t : Time) → AreAlike then (updated t x) (updated t y)
  updated_alike then t = record {
    core = core-updated t x ∙ ap (λ z. core (updated t z)) h.core ∙ sym (core-updated t y);
    changed = changed-updated then t x ∙ ap (λ z. is_changed then (updated t z)) h.core ∙ sym (changed-updated then t y);
  }

-- ---- a cycle in which nothing is done

pub same_self : (v : Value) → same_value v v ≡ true
same_self v = (Decides-int_eq (number_of v) (number_of v)).1 refl

core-twice : (u t : Time) (x : Channel) → core (updated u (updated t x)) ≡ core (updated t x)
core-twice u t (IsSignal s) = refl
core-twice u t (IsFifo f) = ap (λ vs. IsFifo (record { size = f.size; held = vs; read = 0; written = []; reader = None; writer = None })) (append-nil (available f ++ f.written))

changed-twice : (now u t : Time) (x : Channel) → is_changed now (updated u (updated t x)) ≡ false
changed-twice now u t (IsSignal s) = rw (same_self (next_value s)) refl
changed-twice now u t (IsFifo f) = refl

-- of an update that was made at another time nothing is seen
changed-past : (now t : Time) (x : Channel) → t.0 < now.0 → is_changed now (updated t x) ≡ false
changed-past now t (IsSignal s) lt = go (changes s) where
  go : (b : Bool) → is_time now (cond b (Some t) None) ≡ false
  go true = ne_eqb now.0 t.0 (λ e. absurd (let f : now.0 ≡ t.0 = e in omega arith))
  go false = refl
changed-past now t (IsFifo f) lt = refl

-- ---- going on

same_stamp-yes : (s t : Stamp) → s ≡ t → same_stamp s t ≡ true
same_stamp-yes s t is = rw is (rw (eq-eqb t.time.0 t.time.0 refl, eq-eqb t.delta t.delta refl) refl)

same_stamp-before : (s t : Stamp) → IsBefore t s → same_stamp s t ≡ false
same_stamp-before s t before = ⊎_elim time delta before where
  time : t.time.0 < s.time.0 → same_stamp s t ≡ false
  time lt = rw (ne_eqb s.time.0 t.time.0 (λ e. absurd (let f : s.time.0 ≡ t.time.0 = e in omega arith))) refl

  delta : (t.time.0 ≡ s.time.0) × (t.delta < s.delta) → same_stamp s t ≡ false
  delta (e, lt) = rw (eq-eqb s.time.0 t.time.0 (sym e)) (ne_eqb s.delta t.delta (λ f. absurd (let g : s.delta ≡ t.delta = f in omega arith)))

module _ (now s : Stamp) (x : Cycle) (y : Channel) (next : IsNextStamp now s) where
  -- from the cycle of the last operation
  pub later_here : x.stamp ≡ now → AreAlike now.time x.channel y → AreAlike s.time (later_channel s x) (updated now.time y)
  later_here here h = ⊎_elim delta time next where
    -- the stamp of the cycle, whose update this is
    first : AreAlike s.time (updated x.stamp.time x.channel) (updated now.time y)
    first = subst (λ (t : Stamp). AreAlike s.time (updated t.time x.channel) (updated now.time y)) (sym here) (updated_alike now.time x.channel y h s.time now.time)

    delta : s ≡ next_delta now → AreAlike s.time (later_channel s x) (updated now.time y)
    delta e = rw (same_stamp-yes s (next_delta x.stamp) (e ∙ ap next_delta (sym here))) first

    time : now.time.0 < s.time.0 → AreAlike s.time (later_channel s x) (updated now.time y)
    time lt =
        rw (same_stamp-before s (next_delta x.stamp) (let f : x.stamp.time.0 ≡ now.time.0 = ap (λ (t : Stamp). t.time.0) here in grind arith))
        (record {
          core = core-twice s.time x.stamp.time x.channel ∙ first.core;
          changed = changed-twice s.time s.time x.stamp.time x.channel ∙ sym (changed-past s.time now.time y lt);
        })

  -- from an earlier one, when nothing was done in the cycle of now
  pub later_there : IsBefore x.stamp now → AreAlike now.time (later_channel now x) y → AreAlike s.time (later_channel s x) (updated now.time y)
  later_there before h =
      rw (same_stamp-before s (next_delta x.stamp) (past next)) (record {
        core = core-twice s.time x.stamp.time x.channel ∙ sym settled;
        changed = changed-twice s.time s.time x.stamp.time x.channel ∙ sym unseen;
      }) where
        once : Channel
        once = updated x.stamp.time x.channel

        past : IsNextStamp now s → IsBefore (next_delta x.stamp) s
        past n = ⊎_elim (λ e. rw e (grind arith)) (λ lt. grind arith) n

        -- what stands in the cycle of now
        go : (b : Bool) → core (cond b once (updated now.time once)) ≡ core once
        go true = refl
        go false = core-twice now.time x.stamp.time x.channel

        stands : core y ≡ core once
        stands = sym h.core ∙ go (same_stamp now (next_delta x.stamp))

        settled : core (updated now.time y) ≡ core once
        settled =
            core-updated now.time y
            ∙ ap (λ z. core (updated now.time z)) stands
            ∙ sym (core-updated now.time once)
            ∙ core-twice now.time x.stamp.time x.channel

        unseen : is_changed s.time (updated now.time y) ≡ false
        unseen =
            changed-updated s.time now.time y
            ∙ ap (λ z. is_changed s.time (updated now.time z)) stands
            ∙ sym (changed-updated s.time now.time once)
            ∙ changed-twice s.time now.time x.stamp.time x.channel
