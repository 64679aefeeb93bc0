-- What an activation's effects call, a node of its kind touches.
use Rattle.std.proofs.Common.{◌≡◌, ℕ, ◌==◌, ◌⊎◌, inl, inr, ⊎_elim, List, [], ◌∷◌, ◌++◌, Bool, true, false, ◌||◌, if◌then◌else◌, Option, Some, None, refl, sym, ap, ◌∙◌, subst, arith}
use Rattle.std.specs.Prelude.{slice_get}
use Rattle.std.proofs.lemmas.Bool.{eqb-true, eq-eqb}
use Rattle.ooo_time.specs.declared.time.Time.{Time}
use Rattle.ooo_time.specs.declared.stamp.Stamp.{Stamp}
use Rattle.ooo_time.specs.Stamps.{stamp_after}
use Rattle.ooo_value.specs.declared.bound.BoundEvent.{BoundEvent}
use Rattle.ooo_value.specs.declared.bound.BoundEvent.TheVariants as event
use Rattle.ooo_value.specs.declared.values.Value.{Value}
use Rattle.ooo_code.specs.declared.activation.Effect.{Effect}
use Rattle.ooo_code.specs.declared.activation.Effect.TheVariants as effect
use Rattle.ooo_code.specs.declared.node.NodeKind.{NodeKind}
use Rattle.ooo_code.specs.declared.node.NodeKind.TheVariants as kind
use Rattle.ooo_code.specs.declared.node.NodeTime.{NodeTime}
use Rattle.ooo_code.specs.declared.node.NodeTime.TheVariants as time
use Rattle.ooo_code.specs.AsSaid.{IsAsSaid, Makes}
use Rattle.ooo_code.specs.Touches.{Touch, Notifies, Cancels, reads_of, notified_next, numbers_where, is_of_signal, is_data_read, is_data_written, constant_delay, touched_by}
use Rattle.ooo_segments.specs.Edges.{delay_after}
use Rattle.ooo_schedules.specs.Model.{In}
use Rattle.ooo_schedules.specs.Delays.{TakesTime}
use Rattle.ooo_schedules.specs.Slots.{Call, Notify, Cancel}
use Rattle.ooo_schedules.specs.Program.{own_calls, requested, has_put, has_taken, is_any, is_some, touches_by}
use Rattle.ooo_dispatch.proofs.Edges.{in_map, in_right}
use Rattle.ooo_dispatch.proofs.Notices.{above_zero}
use Rattle.ooo_dispatch.proofs.Numbers.{IsEventOf, number_of_event}

-- an edge for a constant time takes time
pub takes_time : (t : NodeTime) → TakesTime (delay_after (constant_delay t))
takes_time (time.Fixed t) = at (t.0 == 0) refl
  where
    at : (b : Bool) → (t.0 == 0) ≡ b → TakesTime (delay_after (if b then None else Some t))
    at true e = inr (omega arith)
    at false e = inl (above_zero t.0 e)
takes_time (time.Amount x scale) = inr (omega arith)

module _ (events : List BoundEvent) where
  -- an effect calls the event: by its number, or as one of the channel that it is on
  abbrev pub CallsOn : Effect → ℕ → Type 0
  CallsOn (effect.Request c v) e = IsEventOf events (is_of_signal c) e
  CallsOn (effect.Put c v) e = IsEventOf events (is_data_written c) e
  CallsOn (effect.Take c) e = IsEventOf events (is_data_read c) e
  CallsOn (effect.Notify f k) e = f ≡ e
  CallsOn (effect.Cancel f) e = f ≡ e
  CallsOn effect.Stop e = ⊥

  -- a node calls the event
  abbrev pub NodeCalls : NodeKind → ℕ → Type 0
  NodeCalls k e = ((t : Option Time) × In (Notifies e t) (touched_by events k)) ⊎ In (Cancels e) (touched_by events k)

  called_next : (test : BoundEvent → Bool) (e : ℕ) → IsEventOf events test e → In (Notifies e None) (notified_next (numbers_where test 0 events))
  called_next test e x = in_map (λ f. Notifies f None) (numbers_where test 0 events) e (number_of_event events test e x)

  next_after : (x : List Touch) (test : BoundEvent → Bool) (e : ℕ) → IsEventOf events test e → In (Notifies e None) (x ++ notified_next (numbers_where test 0 events))
  next_after x test e h = in_right x (notified_next (numbers_where test 0 events)) (Notifies e None) (called_next test e h)

  -- what an effect calls, its node calls
  pub node_calls : (k : NodeKind) (f : Effect) (e : ℕ) → Makes k f → CallsOn f e → NodeCalls k e
  node_calls (kind.Set n x) f e m h = absurd m
  node_calls (kind.Store x i y) f e m h = absurd m
  node_calls (kind.Test x no_to) f e m h = absurd m
  node_calls kind.Goto f e m h = absurd m
  node_calls (kind.PrintText text) f e m h = absurd m
  node_calls (kind.PrintValue x) f e m h = absurd m
  node_calls kind.PrintTime f e m h = absurd m
  node_calls (kind.Write c x) (effect.Request d v) e m h = inl (None, inr (next_after (reads_of x) (is_of_signal c) e (subst (λ b. IsEventOf events (is_of_signal b) e) (sym m) h)))
  node_calls (kind.Write c x) (effect.Put d v) e m h = absurd m
  node_calls (kind.Write c x) (effect.Take d) e m h = absurd m
  node_calls (kind.Write c x) (effect.Notify g k) e m h = absurd m
  node_calls (kind.Write c x) (effect.Cancel g) e m h = absurd m
  node_calls (kind.Write c x) effect.Stop e m h = absurd m
  node_calls (kind.TestAvailable c no_to) f e m h = absurd m
  node_calls (kind.TestFree c no_to) f e m h = absurd m
  node_calls (kind.Take c n) (effect.Request d v) e m h = absurd m
  node_calls (kind.Take c n) (effect.Put d v) e m h = absurd m
  node_calls (kind.Take c n) (effect.Take d) e m h = inl (None, inr (called_next (is_data_read c) e (subst (λ b. IsEventOf events (is_data_read b) e) (sym m) h)))
  node_calls (kind.Take c n) (effect.Notify g k) e m h = absurd m
  node_calls (kind.Take c n) (effect.Cancel g) e m h = absurd m
  node_calls (kind.Take c n) effect.Stop e m h = absurd m
  node_calls (kind.Put c x) (effect.Request d v) e m h = absurd m
  node_calls (kind.Put c x) (effect.Put d v) e m h = inl (None, inr (next_after (reads_of x) (is_data_written c) e (subst (λ b. IsEventOf events (is_data_written b) e) (sym m) h)))
  node_calls (kind.Put c x) (effect.Take d) e m h = absurd m
  node_calls (kind.Put c x) (effect.Notify g k) e m h = absurd m
  node_calls (kind.Put c x) (effect.Cancel g) e m h = absurd m
  node_calls (kind.Put c x) effect.Stop e m h = absurd m
  node_calls (kind.Notify f t) (effect.Request d v) e m h = absurd m
  node_calls (kind.Notify f t) (effect.Put d v) e m h = absurd m
  node_calls (kind.Notify f t) (effect.Take d) e m h = absurd m
  node_calls (kind.Notify f t) (effect.Notify g k) e m h = inl (constant_delay t, inl (ap (λ b. Notifies b (constant_delay t)) (sym (m.0 ∙ h))))
  node_calls (kind.Notify f t) (effect.Cancel g) e m h = absurd m
  node_calls (kind.Notify f t) effect.Stop e m h = absurd m
  node_calls (kind.Cancel f) (effect.Request d v) e m h = absurd m
  node_calls (kind.Cancel f) (effect.Put d v) e m h = absurd m
  node_calls (kind.Cancel f) (effect.Take d) e m h = absurd m
  node_calls (kind.Cancel f) (effect.Notify g k) e m h = absurd m
  node_calls (kind.Cancel f) (effect.Cancel g) e m h = inr (inl (ap Cancels (sym (m ∙ h))))
  node_calls (kind.Cancel f) effect.Stop e m h = absurd m
  node_calls kind.Stop (effect.Request d v) e m h = absurd m
  node_calls kind.Stop (effect.Put d v) e m h = absurd m
  node_calls kind.Stop (effect.Take d) e m h = absurd m
  node_calls kind.Stop (effect.Notify g k) e m h = absurd m
  node_calls kind.Stop (effect.Cancel g) e m h = absurd m
  node_calls kind.Stop effect.Stop e m h = absurd h
  node_calls (kind.Trigger w) f e m h = absurd m
  node_calls (kind.Wait w) f e m h = absurd m
  node_calls kind.End f e m h = absurd m

  -- a notification of the model's own is after its node's constant time, where there is one
  pub record NotifiedAs (k : NodeKind) (e : ℕ) (d : Time) : Type 0 where
    pub time : Option Time
    pub touches : In (Notifies e time) (touched_by events k)
    pub said : IsAsSaid d time
    pub takes : TakesTime (delay_after time)

  pub notified_as : (k : NodeKind) (e : ℕ) (d : Time) → Makes k (effect.Notify e d) → NotifiedAs k e d
  notified_as (kind.Set n x) e d m = absurd m
  notified_as (kind.Store x i y) e d m = absurd m
  notified_as (kind.Test x no_to) e d m = absurd m
  notified_as kind.Goto e d m = absurd m
  notified_as (kind.PrintText text) e d m = absurd m
  notified_as (kind.PrintValue x) e d m = absurd m
  notified_as kind.PrintTime e d m = absurd m
  notified_as (kind.Write c x) e d m = absurd m
  notified_as (kind.TestAvailable c no_to) e d m = absurd m
  notified_as (kind.TestFree c no_to) e d m = absurd m
  notified_as (kind.Take c n) e d m = absurd m
  notified_as (kind.Put c x) e d m = absurd m
  notified_as (kind.Notify f t) e d m = record { time = constant_delay t; touches = inl (ap (λ b. Notifies b (constant_delay t)) (sym m.0)); said = m.1; takes = takes_time t }
  notified_as (kind.Cancel f) e d m = absurd m
  notified_as kind.Stop e d m = absurd m
  notified_as (kind.Trigger w) e d m = absurd m
  notified_as (kind.Wait w) e d m = absurd m
  notified_as kind.End e d m = absurd m

  -- ---- what is called of an event by some effects, one of them calls

  pub record IsCalled (es : List Effect) (e : ℕ) : Type 0 where
    pub effect : Effect
    pub among : In effect es
    pub calls : CallsOn effect e

  later : (g : Effect) (es : List Effect) (e : ℕ) → IsCalled es e → IsCalled (g ∷ es) e
  later g es e x = record { effect = x.effect; among = inr x.among; calls = x.calls }

  own_called : (s : Stamp) (e : ℕ) (cs : List (Call Stamp)) (es : List Effect) → is_any (own_calls s e cs es) ≡ true → (is_any cs ≡ true) ⊎ IsCalled es e
  own_called s e cs [] h = inl h
  own_called s e cs (effect.Notify f k ∷ es) h = at (f == e) refl (own_called s e (if f == e then Notify (stamp_after s k) ∷ cs else cs) es h)
    where
      at : (b : Bool) → (f == e) ≡ b → (is_any (if b then Notify (stamp_after s k) ∷ cs else cs) ≡ true) ⊎ IsCalled es e → (is_any cs ≡ true) ⊎ IsCalled (effect.Notify f k ∷ es) e
      at true i x = inr (record { effect = effect.Notify f k; among = inl refl; calls = eqb-true f e i })
      at false i (inl x) = inl x
      at false i (inr x) = inr (later (effect.Notify f k) es e x)
  own_called s e cs (effect.Cancel f ∷ es) h = at (f == e) refl (own_called s e (if f == e then Cancel ∷ cs else cs) es h)
    where
      at : (b : Bool) → (f == e) ≡ b → (is_any (if b then Cancel ∷ cs else cs) ≡ true) ⊎ IsCalled es e → (is_any cs ≡ true) ⊎ IsCalled (effect.Cancel f ∷ es) e
      at true i x = inr (record { effect = effect.Cancel f; among = inl refl; calls = eqb-true f e i })
      at false i (inl x) = inl x
      at false i (inr x) = inr (later (effect.Cancel f) es e x)
  own_called s e cs (effect.Request c v ∷ es) h = ⊎_elim (λ x. inl x) (λ x. inr (later (effect.Request c v) es e x)) (own_called s e cs es h)
  own_called s e cs (effect.Put c v ∷ es) h = ⊎_elim (λ x. inl x) (λ x. inr (later (effect.Put c v) es e x)) (own_called s e cs es h)
  own_called s e cs (effect.Take c ∷ es) h = ⊎_elim (λ x. inl x) (λ x. inr (later (effect.Take c) es e x)) (own_called s e cs es h)
  own_called s e cs (effect.Stop ∷ es) h = ⊎_elim (λ x. inl x) (λ x. inr (later effect.Stop es e x)) (own_called s e cs es h)

  requests : (c : ℕ) (v : Option Value) (es : List Effect) → is_some (requested c v es) ≡ true → (is_some v ≡ true) ⊎ ((w : Value) × In (effect.Request c w) es)
  requests c v [] h = inl h
  requests c v (effect.Request f w ∷ es) h = at (f == c) refl (requests c (if f == c then Some w else v) es h)
    where
      at : (b : Bool) → (f == c) ≡ b → (is_some (if b then Some w else v) ≡ true) ⊎ ((u : Value) × In (effect.Request c u) es) → (is_some v ≡ true) ⊎ ((u : Value) × In (effect.Request c u) (effect.Request f w ∷ es))
      at true i x = inr (w, inl (ap (λ d. effect.Request d w) (sym (eqb-true f c i))))
      at false i (inl x) = inl x
      at false i (inr x) = inr (x.0, inr x.1)
  requests c v (effect.Put f w ∷ es) h = ⊎_elim (λ x. inl x) (λ x. inr (x.0, inr x.1)) (requests c v es h)
  requests c v (effect.Take f ∷ es) h = ⊎_elim (λ x. inl x) (λ x. inr (x.0, inr x.1)) (requests c v es h)
  requests c v (effect.Notify f k ∷ es) h = ⊎_elim (λ x. inl x) (λ x. inr (x.0, inr x.1)) (requests c v es h)
  requests c v (effect.Cancel f ∷ es) h = ⊎_elim (λ x. inl x) (λ x. inr (x.0, inr x.1)) (requests c v es h)
  requests c v (effect.Stop ∷ es) h = ⊎_elim (λ x. inl x) (λ x. inr (x.0, inr x.1)) (requests c v es h)

  puts : (c : ℕ) (es : List Effect) → has_put c es ≡ true → (w : Value) × In (effect.Put c w) es
  puts c [] h = absurd cc
  puts c (effect.Put f w ∷ es) h = at (f == c) refl h (puts c es)
    where
      at : (b : Bool) → (f == c) ≡ b → (b || has_put c es) ≡ true → (has_put c es ≡ true → (u : Value) × In (effect.Put c u) es) → (u : Value) × In (effect.Put c u) (effect.Put f w ∷ es)
      at true i x rest = (w, inl (ap (λ d. effect.Put d w) (sym (eqb-true f c i))))
      at false i x rest = let r = rest x in (r.0, inr r.1)
  puts c (effect.Request f w ∷ es) h = let r = puts c es h in (r.0, inr r.1)
  puts c (effect.Take f ∷ es) h = let r = puts c es h in (r.0, inr r.1)
  puts c (effect.Notify f k ∷ es) h = let r = puts c es h in (r.0, inr r.1)
  puts c (effect.Cancel f ∷ es) h = let r = puts c es h in (r.0, inr r.1)
  puts c (effect.Stop ∷ es) h = let r = puts c es h in (r.0, inr r.1)

  takes : (c : ℕ) (es : List Effect) → has_taken c es ≡ true → In (effect.Take c) es
  takes c [] h = absurd cc
  takes c (effect.Take f ∷ es) h = at (f == c) refl h (takes c es)
    where
      at : (b : Bool) → (f == c) ≡ b → (b || has_taken c es) ≡ true → (has_taken c es ≡ true → In (effect.Take c) es) → In (effect.Take c) (effect.Take f ∷ es)
      at true i x rest = inl (ap (λ d. effect.Take d) (sym (eqb-true f c i)))
      at false i x rest = inr (rest x)
  takes c (effect.Request f w ∷ es) h = inr (takes c es h)
  takes c (effect.Put f w ∷ es) h = inr (takes c es h)
  takes c (effect.Notify f k ∷ es) h = inr (takes c es h)
  takes c (effect.Cancel f ∷ es) h = inr (takes c es h)
  takes c (effect.Stop ∷ es) h = inr (takes c es h)

  of_request : (e c : ℕ) (b : BoundEvent) (es : List Effect) → slice_get events e ≡ Some b → is_of_signal c b ≡ true → is_some (requested c None es) ≡ true → IsCalled es e
  of_request e c b es i p h =
      ⊎_elim (λ x. absurd (let k : false ≡ true = x in cc)) (λ x. record { effect = effect.Request c x.0; among = x.1; calls = record { event = b; is = i; passes = p } })
      (requests c None es h)

  -- an event that is touched by some effects is called by one of them
  pub touched : (s : Stamp) (e : ℕ) (b : BoundEvent) (es : List Effect) → (b ≡ event.Own) ⊎ (slice_get events e ≡ Some b) → touches_by s e b es ≡ true → IsCalled es e
  touched s e event.Own es i h = ⊎_elim (λ x. absurd (let k : false ≡ true = x in cc)) (λ x. x) (own_called s e [] es h)
  touched s e (event.Changed c) es (inl i) h = absurd cc
  touched s e (event.Changed c) es (inr i) h = of_request e c (event.Changed c) es i (eq-eqb c c refl) h
  touched s e (event.Rise c) es (inl i) h = absurd cc
  touched s e (event.Rise c) es (inr i) h = of_request e c (event.Rise c) es i (eq-eqb c c refl) h
  touched s e (event.Fall c) es (inl i) h = absurd cc
  touched s e (event.Fall c) es (inr i) h = of_request e c (event.Fall c) es i (eq-eqb c c refl) h
  touched s e (event.Written c) es (inl i) h = absurd cc
  touched s e (event.Written c) es (inr i) h =
      let x = puts c es h in record { effect = effect.Put c x.0; among = x.1; calls = record { event = event.Written c; is = i; passes = eq-eqb c c refl } }
  touched s e (event.Taken c) es (inl i) h = absurd cc
  touched s e (event.Taken c) es (inr i) h = record { effect = effect.Take c; among = takes c es h; calls = record { event = event.Taken c; is = i; passes = eq-eqb c c refl } }
