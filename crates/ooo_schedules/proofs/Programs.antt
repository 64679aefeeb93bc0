-- A program with sound access meets what is asked of a design.
use Rattle.std.proofs.Common.{◌≡◌, ◌≢◌, ℕ, ◌+◌, ◌<◌, ◌≤◌, ◌⊎◌, inl, inr, ⊎_elim, Bool, true, false, not, ◌&&◌, ◌||◌, ◌==◌, nat_lt, List, [], ◌∷◌, Option, Some, None, if◌then◌else◌, refl, sym, ap, ◌∙◌, subst, arith}
use Rattle.std.proofs.lemmas.Bool.{eqb-true, eqb-false, ltb-true, cases_order, lt-ltb, eq-eqb}
use Rattle.ooo_schedules.specs.Model.{In, Laws}
use Rattle.ooo_time.specs.declared.stamp.Stamp.{Stamp}
use Rattle.ooo_time.specs.Stamps.{IsBefore}
use Rattle.ooo_time.specs.Delays.{advanced}
use Rattle.ooo_schedules.specs.Delays.{LeadsTo, NotAfter}
use Rattle.ooo_schedules.specs.Design.{Wait, DesignLaws, model}
use Rattle.ooo_schedules.specs.Slots.{Call, Notify, Cancel, calls_at, first_of}
use Rattle.ooo_time.specs.Stamps.{is_before, stamp_after}
use Rattle.ooo_schedules.specs.Delays.{one_delta}
use Rattle.ooo_time.specs.declared.time.Time.{Time}
use Rattle.ooo_value.specs.declared.bound.BoundEvent.{BoundEvent}
use Rattle.ooo_value.specs.declared.bound.BoundEvent.TheVariants as event
use Rattle.ooo_value.specs.declared.values.Value.{Value}
use Rattle.ooo_code.specs.declared.activation.Effect.{Effect}
use Rattle.ooo_code.specs.declared.activation.Effect.TheVariants as effect
use Rattle.ooo_code.specs.Channels.{same_value}
use Rattle.ooo_meaning.specs.World.{next_delta}
use Rattle.ooo_schedules.specs.Program.{any_value, rises, falls, Left, Waits, Ended, Program, ActIn, own_calls, requested, has_put, has_taken, when, changed_calls, calls_of, value_or, value_of, is_some, is_any, touches_by, time_out, wait_left, wait_by, design, Sound}
use Rattle.ooo_schedules.proofs.Logs.{same_or_not, some_is}
use Rattle.ooo_schedules.proofs.Reaches.{stamp_is, irreflexive, transitive, compare, not_after_joins, reach_stays, reach_joins, reach_forward, reach_edge}
use Rattle.ooo_schedules.proofs.Slots.{AllLater, calls_keep, Made, calls_make, made_later, first_since}
use Rattle.ooo_schedules.proofs.Fronts.{laws}

-- ---- the test of stamps

pub is_yes : (s t : Stamp) → is_before s t ≡ true → IsBefore s t
is_yes s t = at (nat_lt s.time.0 t.time.0) (s.time.0 == t.time.0) (nat_lt s.delta t.delta) refl refl refl
  where
    at : (a b c : Bool) → nat_lt s.time.0 t.time.0 ≡ a → (s.time.0 == t.time.0) ≡ b → nat_lt s.delta t.delta ≡ c → (a || (b && c)) ≡ true → IsBefore s t
    at true b c p q r e = inl (ltb-true s.time.0 t.time.0 p)
    at false true true p q r e = inr (eqb-true s.time.0 t.time.0 q, ltb-true s.delta t.delta r)
    at false true false p q r e = absurd cc
    at false false c p q r e = absurd cc

pub before_yes : (s t : Stamp) → IsBefore s t → is_before s t ≡ true
before_yes s t h = ⊎_elim (λ a. rw (lt-ltb s.time.0 t.time.0 a) refl) (λ a. same (nat_lt s.time.0 t.time.0) (s.time.0 == t.time.0) (nat_lt s.delta t.delta) (eq-eqb s.time.0 t.time.0 a.0) (lt-ltb s.delta t.delta a.1)) h
  where
    same : (x y z : Bool) → y ≡ true → z ≡ true → (x || (y && z)) ≡ true
    same true y z e f = refl
    same false true true e f = refl
    same false true false e f = absurd cc
    same false false z e f = absurd cc

pub is_no : (s t : Stamp) → is_before s t ≡ false → NotAfter t s
is_no s t e = ⊎_elim (λ h. let c : true ≡ false = sym (before_yes s t h) ∙ e in absurd cc) (λ h. ⊎_elim (λ x. inr (sym x)) (λ x. inl x) h) (compare s t)

pub after_later : (s : Stamp) (k : Time) → IsBefore s (stamp_after s k)
after_later s k = at (k.0 == 0) refl
  where
    at : (b : Bool) → (k.0 == 0) ≡ b → IsBefore s (if b then record { time = s.time; delta = s.delta + 1 } else record { time = record { 0 = s.time.0 + k.0 }; delta = 0 })
    at true e = inr (refl, omega arith)
    at false e = ⊎_elim (λ h. absurd (eqb-false k.0 0 e h)) (λ h. ⊎_elim (λ x. absurd (omega (arith, x))) (λ x. inl (omega (arith, x))) h) (cases_order k.0 0)

pub delta_later : (s : Stamp) → IsBefore s (next_delta s)
delta_later s = inr (refl, omega arith)

-- what is later is at least one delta later
pub delta_not_after : (s t : Stamp) → IsBefore s t → NotAfter (next_delta s) t
delta_not_after s t h = ⊎_elim (λ a. inl (inl a)) (λ a. same a.0 (cases_order (s.delta + 1) t.delta) a.1) h
  where
    same : s.time.0 ≡ t.time.0 → (s.delta + 1 ≡ t.delta) ⊎ ((s.delta + 1 < t.delta) ⊎ (t.delta < s.delta + 1)) → s.delta < t.delta → NotAfter (next_delta s) t
    same e c d = ⊎_elim (λ x. inr (stamp_is (next_delta s) t e x)) (λ x. ⊎_elim (λ y. inl (inr (e, y))) (λ y. absurd (omega (arith, d, y))) x) c

-- ---- calls

abbrev pub Later : Stamp → List (Call Stamp) → Type 0
Later s cs = AllLater Stamp IsBefore is_before irreflexive transitive is_yes is_no s cs

abbrev pub Makes : Stamp → List (Call Stamp) → Stamp → Type 0
Makes s cs t = Made Stamp IsBefore is_before irreflexive transitive is_yes is_no s cs t

own_later : (s : Stamp) (e : ℕ) (cs : List (Call Stamp)) (es : List Effect) → Later s cs → Later s (own_calls s e cs es)
own_later s e cs [] h = h
own_later s e cs (effect.Notify f k ∷ es) h = own_later s e (if f == e then Notify (stamp_after s k) ∷ cs else cs) es (by (f == e))
  where
    by : (b : Bool) → Later s (if b then Notify (stamp_after s k) ∷ cs else cs)
    by true = (after_later s k, h)
    by false = h
own_later s e cs (effect.Cancel f ∷ es) h = own_later s e (if f == e then Cancel ∷ cs else cs) es (by (f == e))
  where
    by : (b : Bool) → Later s (if b then Cancel ∷ cs else cs)
    by true = (tt, h)
    by false = h
own_later s e cs (effect.Request c v ∷ es) h = own_later s e cs es h
own_later s e cs (effect.Put c v ∷ es) h = own_later s e cs es h
own_later s e cs (effect.Take c ∷ es) h = own_later s e cs es h
own_later s e cs (effect.Stop ∷ es) h = own_later s e cs es h

when_later : (s : Stamp) (b : Bool) → Later s (when b s)
when_later s true = (delta_later s, tt)
when_later s false = tt

changed_later : (s : Stamp) (test : Value → Bool) (old : Value) (r : Option Value) → Later s (changed_calls s test old r)
changed_later s test old None = tt
changed_later s test old (Some v) = when_later s (not (same_value old v) && test v)

pub calls_later : (s : Stamp) (e : ℕ) (o : BoundEvent) (old : Value) (es : List Effect) → Later s (calls_of s e o old es)
calls_later s e event.Own old es = own_later s e [] es tt
calls_later s e (event.Changed c) old es = changed_later s any_value old (requested c None es)
calls_later s e (event.Rise c) old es = changed_later s rises old (requested c None es)
calls_later s e (event.Fall c) old es = changed_later s falls old (requested c None es)
calls_later s e (event.Written c) old es = when_later s (has_put c es)
calls_later s e (event.Taken c) old es = when_later s (has_taken c es)

record Nothing_done (s : Stamp) (e : ℕ) (o : BoundEvent) (old : Value) (es : List Effect) : Type 0 where
  calls : calls_of s e o old es ≡ []
  value : value_of o old es ≡ old

not_any : (cs : List (Call Stamp)) → is_any cs ≡ false → cs ≡ []
not_any [] h = refl
not_any (c ∷ cs) h = absurd cc

no_request : (s : Stamp) (test : Value → Bool) (old : Value) (r : Option Value) → is_some r ≡ false → (changed_calls s test old r ≡ []) × (value_or old r ≡ old)
no_request s test old None h = (refl, refl)
no_request s test old (Some v) h = absurd cc

untouched : (s : Stamp) (e : ℕ) (o : BoundEvent) (old : Value) (es : List Effect) → touches_by s e o es ≡ false → Nothing_done s e o old es
untouched s e event.Own old es h = record { calls = not_any (own_calls s e [] es) h; value = refl }
untouched s e (event.Changed c) old es h = let r = no_request s any_value old (requested c None es) h in record { calls = r.0; value = r.1 }
untouched s e (event.Rise c) old es h = let r = no_request s rises old (requested c None es) h in record { calls = r.0; value = r.1 }
untouched s e (event.Fall c) old es h = let r = no_request s falls old (requested c None es) h in record { calls = r.0; value = r.1 }
untouched s e (event.Written c) old es h = record { calls = ap (λ b. when b s) h; value = refl }
untouched s e (event.Taken c) old es h = record { calls = ap (λ b. when b s) h; value = refl }

-- what calls an event touches it
in_any : (c : Call Stamp) (cs : List (Call Stamp)) → In c cs → is_any cs ≡ true
in_any c [] i = absurd i
in_any c (d ∷ cs) i = refl

in_when : (c : Call Stamp) (b : Bool) (s : Stamp) → In c (when b s) → (b ≡ true) × (c ≡ Notify (next_delta s))
in_when c true s i = (refl, ⊎_elim (λ e. e) (λ j. absurd j) i)
in_when c false s i = absurd i

in_changed : (c : Call Stamp) (s : Stamp) (test : Value → Bool) (old : Value) (r : Option Value) → In c (changed_calls s test old r) → (is_some r ≡ true) × (c ≡ Notify (next_delta s))
in_changed c s test old None i = absurd i
in_changed c s test old (Some v) i = (refl, (in_when c (not (same_value old v) && test v) s i).1)

calling_touches : (c : Call Stamp) (s : Stamp) (e : ℕ) (o : BoundEvent) (old : Value) (es : List Effect) → In c (calls_of s e o old es) → touches_by s e o es ≡ true
calling_touches c s e event.Own old es i = in_any c (own_calls s e [] es) i
calling_touches c s e (event.Changed d) old es i = (in_changed c s any_value old (requested d None es) i).0
calling_touches c s e (event.Rise d) old es i = (in_changed c s rises old (requested d None es) i).0
calling_touches c s e (event.Fall d) old es i = (in_changed c s falls old (requested d None es) i).0
calling_touches c s e (event.Written d) old es i = (in_when c (has_put d es) s i).0
calling_touches c s e (event.Taken d) old es i = (in_when c (has_taken d es) s i).0

-- where a notification comes from
pub record FromEffect (s : Stamp) (e : ℕ) (es : List Effect) (u : Stamp) : Type 0 where
  pub time : Time
  pub is_in : In (effect.Notify e time) es
  pub stamp : u ≡ stamp_after s time

from_more : (s : Stamp) (e : ℕ) (x : Effect) (es : List Effect) (u : Stamp) → FromEffect s e es u → FromEffect s e (x ∷ es) u
from_more s e x es u f = record { time = f.time; is_in = inr f.is_in; stamp = f.stamp }

notify_is : (u t : Stamp) → Notify u ≡ Notify t → u ≡ t
notify_is u t e = cc

pub own_source : (s : Stamp) (e : ℕ) (u : Stamp) (cs : List (Call Stamp)) (es : List Effect) → In (Notify u) (own_calls s e cs es) → In (Notify u) cs ⊎ FromEffect s e es u
own_source s e u cs [] i = inl i
own_source s e u cs (effect.Notify f k ∷ es) i =
    let rec = own_source s e u (if f == e then Notify (stamp_after s k) ∷ cs else cs) es i in
    ⊎_elim (λ j. by (f == e) refl j) (λ h. inr (from_more s e (effect.Notify f k) es u h)) rec
  where
    by : (b : Bool) → (f == e) ≡ b → In (Notify u) (if b then Notify (stamp_after s k) ∷ cs else cs) → In (Notify u) cs ⊎ FromEffect s e (effect.Notify f k ∷ es) u
    by true h j = ⊎_elim (λ c. inr (record { time = k; is_in = inl (ap (λ x. effect.Notify x k) (sym (eqb-true f e h))); stamp = notify_is u (stamp_after s k) c })) (λ c. inl c) j
    by false h j = inl j
own_source s e u cs (effect.Cancel f ∷ es) i =
    let rec = own_source s e u (if f == e then Cancel ∷ cs else cs) es i in
    ⊎_elim (λ j. by (f == e) j) (λ h. inr (from_more s e (effect.Cancel f) es u h)) rec
  where
    by : (b : Bool) → In (Notify u) (if b then Cancel ∷ cs else cs) → In (Notify u) cs ⊎ FromEffect s e (effect.Cancel f ∷ es) u
    by true j = ⊎_elim (λ c. absurd cc) (λ c. inl c) j
    by false j = inl j
own_source s e u cs (effect.Request c v ∷ es) i = ⊎_elim (λ j. inl j) (λ h. inr (from_more s e (effect.Request c v) es u h)) (own_source s e u cs es i)
own_source s e u cs (effect.Put c v ∷ es) i = ⊎_elim (λ j. inl j) (λ h. inr (from_more s e (effect.Put c v) es u h)) (own_source s e u cs es i)
own_source s e u cs (effect.Take c ∷ es) i = ⊎_elim (λ j. inl j) (λ h. inr (from_more s e (effect.Take c) es u h)) (own_source s e u cs es i)
own_source s e u cs (effect.Stop ∷ es) i = ⊎_elim (λ j. inl j) (λ h. inr (from_more s e effect.Stop es u h)) (own_source s e u cs es i)

pub channel_source : (s : Stamp) (e : ℕ) (o : BoundEvent) (old : Value) (es : List Effect) (u : Stamp) → o ≢ event.Own → In (Notify u) (calls_of s e o old es) → u ≡ next_delta s
channel_source s e event.Own old es u n i = absurd (n refl)
channel_source s e (event.Changed c) old es u n i = notify_is u (next_delta s) (in_changed (Notify u) s any_value old (requested c None es) i).1
channel_source s e (event.Rise c) old es u n i = notify_is u (next_delta s) (in_changed (Notify u) s rises old (requested c None es) i).1
channel_source s e (event.Fall c) old es u n i = notify_is u (next_delta s) (in_changed (Notify u) s falls old (requested c None es) i).1
channel_source s e (event.Written c) old es u n i = notify_is u (next_delta s) (in_when (Notify u) (has_put c es) s i).1
channel_source s e (event.Taken c) old es u n i = notify_is u (next_delta s) (in_when (Notify u) (has_taken c es) s i).1

pub is_own : (o : BoundEvent) → (o ≡ event.Own) ⊎ (o ≢ event.Own)
is_own event.Own = inl refl
is_own (event.Changed c) = inr (λ e. absurd cc)
is_own (event.Rise c) = inr (λ e. absurd cc)
is_own (event.Fall c) = inr (λ e. absurd cc)
is_own (event.Written c) = inr (λ e. absurd cc)
is_own (event.Taken c) = inr (λ e. absurd cc)

-- ---- waits

pub record LeftIs (s : Stamp) (left : Left) (w : Wait Stamp) : Type 0 where
  pub next : ℕ
  pub time : Option Time
  pub events : List ℕ
  pub is : left ≡ Waits next time events
  pub segment : w.segment ≡ next
  pub timeout : w.timeout ≡ time_out s time
  pub waits : w.events ≡ events
  pub since : w.since ≡ Some s

pub left_is : (s : Stamp) (left : Left) (w : Wait Stamp) → wait_left s left ≡ Some w → LeftIs s left w
left_is s (Waits n t es) w e =
    let k : record { segment = n; timeout = time_out s t; events = es; since = Some s } ≡ w = some_is _ w e in
    record { next = n; time = t; events = es; is = refl; segment = sym (ap (λ x. x.segment) k); timeout = sym (ap (λ x. x.timeout) k); waits = sym (ap (λ x. x.events) k); since = sym (ap (λ x. x.since) k) }
left_is s Ended w e = absurd cc

pub time_out_is : (s : Stamp) (o : Option Time) (t : Stamp) → time_out s o ≡ Some t → (k : Time) × (o ≡ Some k) × (t ≡ stamp_after s k)
time_out_is s None t e = absurd cc
time_out_is s (Some k) t e = (k, refl, sym (some_is (stamp_after s k) t e))

or_true : (a b : Bool) → (a || b) ≡ true → (a ≡ true) ⊎ (b ≡ true)
or_true true b e = inl refl
or_true false b e = inr e

and_true : (a b : Bool) → (a && b) ≡ true → (a ≡ true) × (b ≡ true)
and_true true b e = (refl, e)
and_true false b e = absurd cc

module _ (p : Program) (h : Sound p) where
  wakes : (e q : ℕ) (z : Option (ActIn p)) (w : Wait Stamp) → wait_by p q z ≡ Some w → In e w.events → p.waits_on w.segment e
  wakes e q None w k i = h.start_waits q w e k i
  wakes e q (Some z) w k i =
      let f = left_is z.stamp (p.act z).left w k in
      subst (λ n. p.waits_on n e) (sym f.segment) (h.next_waits z f.next f.time f.events e f.is (subst (In e) f.waits i))

  abbrev Notes : ℕ → ActIn p → Stamp → Type 0
  Notes e x t = (old : Value) × Makes x.stamp (calls_of x.stamp e (p.origin e) old (p.act x).effects) t

  edge : (e q : ℕ) (x : ActIn p) (z : Option (ActIn p)) (w : Wait Stamp) (t : Stamp) → wait_by p q z ≡ Some w → In e w.events → Notes e x t → LeadsTo p.edges x.segment x.stamp w.segment t
  edge e q x z w t k i n = ⊎_elim own channel (is_own (p.origin e))
    where
      made : (u : Stamp) × In (Notify u) (calls_of x.stamp e (p.origin e) n.0 (p.act x).effects) × NotAfter u t
      made = n.1

      waits : p.waits_on w.segment e
      waits = wakes e q z w k i

      own : p.origin e ≡ event.Own → LeadsTo p.edges x.segment x.stamp w.segment t
      own o =
          let s = own_source x.stamp e made.0 [] (p.act x).effects (subst (λ y. In (Notify made.0) (calls_of x.stamp e y n.0 (p.act x).effects)) o made.1) in
          ⊎_elim (λ j. absurd j)
          (λ f.
          let d = h.own_edge x e f.time w.segment o f.is_in waits in
          (d.0, d.1, not_after_joins (advanced x.stamp d.0) (stamp_after x.stamp f.time) t d.2 (subst (λ y. NotAfter y t) f.stamp made.2))) s

      channel : p.origin e ≢ event.Own → LeadsTo p.edges x.segment x.stamp w.segment t
      channel o =
          let a = h.notified e x (calling_touches (Notify made.0) x.stamp e (p.origin e) n.0 (p.act x).effects made.1) in
          let u = channel_source x.stamp e (p.origin e) n.0 (p.act x).effects made.0 o made.1 in
          (one_delta, h.channel_edge x.segment e w.segment o a waits, subst (λ y. NotAfter y t) u made.2)

  pub design_laws : DesignLaws (design p)
  design_laws = record {
    irreflexive = irreflexive;
    transitive = transitive;
    is_yes = is_yes;
    is_no = is_no;
    stays = reach_stays p.edges;
    joins = reach_joins p.edges;
    forward = reach_forward p.edges;
    mirrored = h.mirrored;
    wakes = λ a b w. h.wake_clash a b w.0 w.1 w.2;
    Notes = Notes;
    idle = λ e x s t.
        let u = untouched x.stamp e (p.origin e) s.value (p.act x).effects t in
        ap (λ cs. record { event = calls_at Stamp is_before x.stamp cs s.event; value = value_of (p.origin e) s.value (p.act x).effects }) u.calls ∙ ap (λ v. record { event = s.event; value = v }) u.value;
    keeps = λ e x s since t n f.
        calls_keep Stamp IsBefore is_before irreflexive transitive is_yes is_no x.stamp (calls_of x.stamp e (p.origin e) s.value (p.act x).effects) s.event since t (calls_later x.stamp e (p.origin e) s.value (p.act x).effects) n f;
    makes = λ e x s since t f.
        ⊎_elim (λ y. inl y) (λ y. inr (s.value, y)) (calls_make Stamp IsBefore is_before irreflexive transitive is_yes is_no x.stamp (calls_of x.stamp e (p.origin e) s.value (p.act x).effects) s.event since t f);
    noted = λ e x t n. made_later Stamp IsBefore is_before irreflexive transitive is_yes is_no x.stamp (calls_of x.stamp e (p.origin e) n.0 (p.act x).effects) t (calls_later x.stamp e (p.origin e) n.0 (p.act x).effects) n.1;
    joint = λ e x y a b. ⊎_elim (λ o. inr (h.own_clash x.segment y.segment e o (h.notified e x a) (h.notified e y b))) (λ o. inl (h.one_maker x.segment y.segment e o (h.notified e x a) (h.notified e y b))) (is_own (p.origin e));
    wake = λ e q x z w k i a. (e, h.notified e x a, wakes e q z w k i);
    edges = λ a s b t e. reach_edge p.edges a s e.0 b t e.1 e.2;
    edge = edge;
    begins = h.start_owner;
    next = λ q z w k. let f = left_is z.stamp (p.act z).left w k in ap p.process_of f.segment ∙ h.next z f.next f.time f.events f.is;
    timed = λ q z w t k e.
        let f = left_is z.stamp (p.act z).left w k in
        let g = time_out_is z.stamp f.time t (sym f.timeout ∙ e) in
        let d = h.next_time z f.next g.0 f.events (f.is ∙ ap (λ y. Waits f.next y f.events) g.1) in
        (subst (λ n. LeadsTo p.edges z.segment z.stamp n t) (sym f.segment) (d.0, d.1, subst (λ y. NotAfter (advanced z.stamp d.0) y) (sym g.2) d.2), subst (IsBefore z.stamp) (sym g.2) (after_later z.stamp g.0));
    fired = λ q z w e s t k i f.
        let g = left_is z.stamp (p.act z).left w k in
        let b = first_since Stamp IsBefore is_before irreflexive transitive is_yes is_no s.event z.stamp t (ap (first_of Stamp is_before s.event) (sym g.since) ∙ f) in
        let d = h.next_event z g.next g.time g.events e g.is (subst (In e) g.waits i) in
        (subst (λ n. LeadsTo p.edges z.segment z.stamp n t) (sym g.segment) (one_delta, d, delta_not_after z.stamp t b), b);
    seen = λ q g s y e.
        ⊎_elim (λ a. inl (eqb-true y.process q a))
        (λ a. inr (⊎_elim (λ b. inl b) (λ b. let c = and_true (is_before y.stamp s) (p.clash y.segment g true) b in inr (is_yes y.stamp s c.0, c.1)) (or_true (p.clash y.segment g false) (is_before y.stamp s && p.clash y.segment g true) a)))
        (or_true (y.process == q) (p.clash y.segment g false || (is_before y.stamp s && p.clash y.segment g true)) e);
    starting = h.starting;
    going = λ q z w k. let f = left_is z.stamp (p.act z).left w k in subst (λ n. p.process_of n < p.processes) (sym f.segment) (h.next_process z f.next f.time f.events f.is);
    within_back = λ s t n w. ⊎_elim (λ a. ⊎_elim (λ b. omega (arith, b, w)) (λ b. let c = b.0 in omega (arith, c, w)) a) (λ a. subst (λ y. y.time.0 ≤ p.stop.0) (sym a) w) n;
    at_limit = λ s. same_or_not s.delta p.limit;
    cuts_on = λ y s a t b c e.
        ⊎_elim (λ k. inl (k.0, ⊎_elim (λ u. inl (⊎_elim (λ v. transitive y.stamp s t u v) (λ v. subst (IsBefore y.stamp) v.0 u) e)) (λ u. ⊎_elim (λ v. inl (subst (λ z. IsBefore z t) (sym u.0) v)) (λ v. let i = u.1 in let j = v.1 in inr (u.0 ∙ v.0, omega (arith, i, j))) e) k.1))
        (λ k. inr (k.0, ⊎_elim (λ v. transitive y.stamp s t k.1 v) (λ v. subst (IsBefore y.stamp) v.0 k.1) e)) c;
    cuts = λ y s q c.
        ⊎_elim (λ k. ⊎_elim (λ u. inl (inl u)) (λ u. ⊎_elim (λ e. inr (u.0, e)) (λ e. ⊎_elim (λ v. inl (inr (u.0, v))) (λ v. let i = u.1 in absurd (omega (arith, i, v))) e) (cases_order y.process q)) k.1)
        (λ k. inl (inl k.1)) c;
  }

  pub program_laws : Laws (model (design p))
  program_laws = laws (design p) design_laws
