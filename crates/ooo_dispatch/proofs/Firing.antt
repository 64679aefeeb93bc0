-- When an event fires or is to fire: at a stamp for which an activation notified it.
use Rattle.std.proofs.Common.{ℕ, ◌==◌, List, [], ◌∷◌, map, Bool, true, false, not, ◌&&◌, if◌then◌else◌, Option, Some, None, refl, inl, inr}
use Rattle.std.specs.Prelude.{⊤, IfSome}
use Rattle.std.specs.List.{AllByRecursion}
use Rattle.ooo_time.specs.declared.time.Time.{Time}
use Rattle.ooo_time.specs.declared.stamp.Stamp.{Stamp}
use Rattle.ooo_time.specs.Stamps.{is_before, stamp_after}
use Rattle.ooo_value.specs.declared.bound.BoundEvent.{BoundEvent}
use Rattle.ooo_value.specs.declared.bound.BoundEvent.TheVariants as event
use Rattle.ooo_value.specs.declared.values.Value.{Value}
use Rattle.ooo_code.specs.declared.activation.Effect.{Effect}
use Rattle.ooo_code.specs.declared.activation.Effect.TheVariants as effect
use Rattle.ooo_code.specs.Channels.{same_value}
use Rattle.ooo_meaning.specs.World.{next_delta}
use Rattle.ooo_schedules.specs.Model.{Act, In}
use Rattle.ooo_schedules.specs.Design as order
use Rattle.ooo_schedules.specs.Design.{Wait, slot, soonest, sooner, times}
use Rattle.ooo_schedules.specs.Program.{any_value, calls_of, changed_calls, design, falls, has_put, has_taken, own_calls, requested, rises, when}
use Rattle.ooo_schedules.specs.Slots.{Call, Notify, Cancel, Event, call_at, called, calls_at, first_of, is_since, least_of, lesser, settled, sooner_of, with_pending}
use Rattle.ooo_schedules.specs.Tables.{program}
use Rattle.ooo_dispatch.specs.declared.reads.Reads.{Reads}
use Rattle.ooo_dispatch.specs.Rules.{Rules, deed_of, origin_of, tables}

-- of a fact of stamps
module _ (P : Stamp → Type 0) where
  -- it holds of each stamp at which an event fired or is to fire
  pub record Holds (e : Event Stamp) : Type 0 where
    pub fired : AllByRecursion P e.fired
    pub pending : IfSome e.pending P

  abbrev pub OfCall : Call Stamp → Type 0
  OfCall (Notify t) = P t
  OfCall Cancel = ⊤

  -- ---- calls

  settled_holds : (at : Stamp) (fired : List Stamp) (pending : Option Stamp) → AllByRecursion P fired → IfSome pending P → Holds (settled Stamp is_before at fired pending)
  settled_holds at fired None f p = record { fired = f; pending = tt }
  settled_holds at fired (Some t) f p = by (is_before at t)
    where
      by : (b : Bool) → Holds (if b then record { fired = fired; pending = Some t } else record { fired = t ∷ fired; pending = None })
      by true = record { fired = f; pending = p }
      by false = record { fired = (p, f); pending = tt }

  sooner_holds : (o : Option Stamp) (t : Stamp) → IfSome o P → P t → P (sooner_of Stamp is_before o t)
  sooner_holds None t o p = p
  sooner_holds (Some u) t o p = by (is_before t u)
    where
      by : (b : Bool) → P (if b then t else u)
      by true = p
      by false = o

  called_holds : (c : Call Stamp) (e : Event Stamp) → OfCall c → Holds e → Holds (called Stamp is_before c e)
  called_holds (Notify t) e p h = record { fired = h.fired; pending = sooner_holds e.pending t h.pending p }
  called_holds Cancel e p h = record { fired = h.fired; pending = tt }

  pub calls_hold : (at : Stamp) (cs : List (Call Stamp)) (e : Event Stamp) → AllByRecursion OfCall cs → Holds e → Holds (calls_at Stamp is_before at cs e)
  calls_hold at [] e c h = h
  calls_hold at (x ∷ cs) e c h = by (calls_at Stamp is_before at cs e) (calls_hold at cs e c.1 h)
    where
      by : (f : Event Stamp) → Holds f → Holds (call_at Stamp is_before at x f)
      by f k = called_holds x (settled Stamp is_before at f.fired f.pending) c.0 (settled_holds at f.fired f.pending k.fired k.pending)

  -- ---- the first firing

  lesser_holds : (t : Stamp) (o : Option Stamp) → P t → IfSome o P → IfSome (lesser Stamp is_before t o) P
  lesser_holds t None p o = p
  lesser_holds t (Some u) p o = by (is_before u t)
    where
      by : (b : Bool) → IfSome (if b then Some u else Some t) P
      by true = o
      by false = p

  least_holds : (since : Option Stamp) (ts : List Stamp) → AllByRecursion P ts → IfSome (least_of Stamp is_before since ts) P
  least_holds since [] h = tt
  least_holds since (t ∷ ts) h = by (is_since Stamp is_before since t) (least_holds since ts h.1)
    where
      by : (b : Bool) → IfSome (least_of Stamp is_before since ts) P → IfSome (if b then lesser Stamp is_before t (least_of Stamp is_before since ts) else least_of Stamp is_before since ts) P
      by true rest = lesser_holds t (least_of Stamp is_before since ts) h.0 rest
      by false rest = rest

  pending_holds : (ts : List Stamp) (o : Option Stamp) → AllByRecursion P ts → IfSome o P → AllByRecursion P (with_pending Stamp is_before ts o)
  pending_holds ts None h p = h
  pending_holds ts (Some t) h p = (p, h)

  pub first_holds : (e : Event Stamp) (since : Option Stamp) → Holds e → IfSome (first_of Stamp is_before e since) P
  first_holds e since h = least_holds since (with_pending Stamp is_before e.fired e.pending) (pending_holds e.fired e.pending h.fired h.pending)

  -- ---- what effects call

  -- each notification of some effects, made at a stamp, is for a stamp of which it holds
  abbrev pub Notified : Stamp → List Effect → Type 0
  Notified s fs = (e : ℕ) (k : Time) → In (effect.Notify e k) fs → P (stamp_after s k)

  own_hold : (s : Stamp) (e : ℕ) (cs : List (Call Stamp)) (fs : List Effect) → AllByRecursion OfCall cs → Notified s fs → AllByRecursion OfCall (own_calls s e cs fs)
  own_hold s e cs [] c n = c
  own_hold s e cs (effect.Notify f k ∷ fs) c n = own_hold s e (if f == e then Notify (stamp_after s k) ∷ cs else cs) fs (by (f == e)) (λ g j i. n g j (inr i))
    where
      by : (b : Bool) → AllByRecursion OfCall (if b then Notify (stamp_after s k) ∷ cs else cs)
      by true = (n f k (inl refl), c)
      by false = c
  own_hold s e cs (effect.Cancel f ∷ fs) c n = own_hold s e (if f == e then Cancel ∷ cs else cs) fs (by (f == e)) (λ g j i. n g j (inr i))
    where
      by : (b : Bool) → AllByRecursion OfCall (if b then Cancel ∷ cs else cs)
      by true = (tt, c)
      by false = c
  own_hold s e cs (effect.Request c v ∷ fs) h n = own_hold s e cs fs h (λ g j i. n g j (inr i))
  own_hold s e cs (effect.Put c v ∷ fs) h n = own_hold s e cs fs h (λ g j i. n g j (inr i))
  own_hold s e cs (effect.Take c ∷ fs) h n = own_hold s e cs fs h (λ g j i. n g j (inr i))
  own_hold s e cs (effect.Stop ∷ fs) h n = own_hold s e cs fs h (λ g j i. n g j (inr i))

  when_holds : (b : Bool) (s : Stamp) → P (next_delta s) → AllByRecursion OfCall (when b s)
  when_holds true s p = (p, tt)
  when_holds false s p = tt

  changed_hold : (s : Stamp) (test : Value → Bool) (old : Value) (o : Option Value) → P (next_delta s) → AllByRecursion OfCall (changed_calls s test old o)
  changed_hold s test old None p = tt
  changed_hold s test old (Some v) p = when_holds (not (same_value old v) && test v) s p

  pub effects_hold : (s : Stamp) (e : ℕ) (b : BoundEvent) (old : Value) (fs : List Effect) → P (next_delta s) → Notified s fs → AllByRecursion OfCall (calls_of s e b old fs)
  effects_hold s e event.Own old fs p n = own_hold s e [] fs tt n
  effects_hold s e (event.Changed c) old fs p n = changed_hold s any_value old (requested c None fs) p
  effects_hold s e (event.Rise c) old fs p n = changed_hold s rises old (requested c None fs) p
  effects_hold s e (event.Fall c) old fs p n = changed_hold s falls old (requested c None fs) p
  effects_hold s e (event.Written c) old fs p n = when_holds (has_put c fs) s p
  effects_hold s e (event.Taken c) old fs p n = when_holds (has_taken c fs) s p

  -- ---- the soonest of a wait

  module _ (r : Rules) where
    abbrev d : order.Design
    d = design (program (tables r))

    -- it holds of all that an activation may call events for
    pub record Made (y : Act Stamp Reads) : Type 0 where
      pub next : P (next_delta y.stamp)
      pub notified : Notified y.stamp (deed_of r y).effects

    slot_holds : (e : ℕ) (xs : List (Act Stamp Reads)) → ((y : Act Stamp Reads) → In y xs → Made y) → Holds (slot d e xs).event
    slot_holds e [] h = record { fired = tt; pending = tt }
    slot_holds e (x ∷ xs) h =
        let m = h x (inl refl) in
        calls_hold x.stamp (calls_of x.stamp e (origin_of r e) (slot d e xs).value (deed_of r x).effects) (slot d e xs).event
        (effects_hold x.stamp e (origin_of r e) (slot d e xs).value (deed_of r x).effects m.next m.notified) (slot_holds e xs (λ y i. h y (inr i)))

    sooner_of_two : (a b : Option Stamp) → IfSome a P → IfSome b P → IfSome (sooner d a b) P
    sooner_of_two None b h k = k
    sooner_of_two (Some t) None h k = h
    sooner_of_two (Some t) (Some u) h k = by (is_before u t)
      where
        by : (b : Bool) → IfSome (if b then Some u else Some t) P
        by true = k
        by false = h

    firsts : (xs : List (Act Stamp Reads)) (since : Option Stamp) (es : List ℕ) → ((y : Act Stamp Reads) → In y xs → Made y) →
        IfSome (soonest d (map (λ e. first_of Stamp is_before (slot d e xs).event since) es)) P
    firsts xs since [] h = tt
    firsts xs since (e ∷ es) h =
        sooner_of_two (first_of Stamp is_before (slot d e xs).event since) (soonest d (map (λ e. first_of Stamp is_before (slot d e xs).event since) es))
        (first_holds (slot d e xs).event since (slot_holds e xs h)) (firsts xs since es h)

    -- it holds of the stamp at which a wait ends
    pub soonest_holds : (xs : List (Act Stamp Reads)) (w : Wait Stamp) → ((y : Act Stamp Reads) → In y xs → Made y) → IfSome w.timeout P → IfSome (soonest d (times d w xs)) P
    soonest_holds xs w h t =
        sooner_of_two w.timeout (soonest d (map (λ e. first_of Stamp is_before (slot d e xs).event w.since) w.events)) t (firsts xs w.since w.events h)
