-- What a segment's access has is what a node of its process touches, so it is told of.
use Rattle.std.proofs.Common.{◌≡◌, ◌≢◌, ℕ, zero, suc, true, ◌<◌, ◌⊎◌, inl, inr, ⊎_elim, List, [], ◌∷◌, length, Option, Some, None, refl, sym, ◌∙◌, subst, arith}
use Rattle.std.specs.Prelude.{slice_get, Contains, IsSomeAnd}
use Rattle.std.specs.List.{AllByRecursion}
use Rattle.std.proofs.lemmas.List.Elements.{All-contains, Contains-append_right}
use Rattle.ooo_time.specs.declared.time.Time.{Time}
use Rattle.ooo_value.specs.declared.bound.BoundEvent.{BoundEvent}
use Rattle.ooo_value.specs.declared.bound.BoundEvent.TheVariants as event
use Rattle.ooo_code.specs.declared.design.Proc.{Proc}
use Rattle.ooo_code.specs.declared.segment.Segment.{Segment}
use Rattle.ooo_code.specs.Segments.{Accesses, IsSegment, IsSegmentOf, IsNodeOf, InSegment, entries_of}
use Rattle.ooo_code.specs.Sound.{IsSound, IsOwn, FitsProcess, IsOfOne, Uses, scope_of}
use Rattle.ooo_code.specs.Nodes.{entry_node}
use Rattle.ooo_code.specs.Touches.{Touch, Notifies, Cancels, touched_by}
use Rattle.ooo_access.specs.declared.access.Access.{Access}
use Rattle.ooo_access.specs.Access.{IsAccessOf}
use Rattle.ooo_schedules.specs.Model.{In}
use Rattle.ooo_conflicts.specs.Clashes.{Calls}
use Rattle.ooo_segments.specs.Edges.{delay_after}
use Rattle.std.proofs.lemmas.Option.{slice_get_within, get_or_from_slice_get}
use Rattle.ooo_dispatch.specs.Rules.{Rules, calls, waits_on, has, all_edges, process_of, origin_of}
use Rattle.ooo_dispatch.proofs.Calls.{IsThere, calls_there, waits_there, calls_yes}
use Rattle.ooo_dispatch.proofs.Edges.{by_notice}
use Rattle.ooo_dispatch.specs.Boards.{AreRules}
use Rattle.ooo_dispatch.proofs.Own.{own_node, entry_own}
use Rattle.ooo_dispatch.proofs.Ranges.{Exists, exist}
use Rattle.ooo_dispatch.proofs.Telling.{ByChannel, Told, told_by, maker, made_by}

pub contains_in : {A : Type 0} (xs : List A) (x : A) → In x xs → Contains xs x
contains_in [] x i = absurd i
contains_in (y ∷ xs) x (inl e) = (0, omega arith, sym e)
contains_in (y ∷ xs) x (inr j) = Contains-append_right (y ∷ []) xs x (contains_in xs x j)

pub in_contained : {A : Type 0} (xs : List A) (x : A) → Contains xs x → In x xs
in_contained [] x (i, lt, is) = absurd (omega (arith, lt))
in_contained (y ∷ xs) x (zero, lt, is) = inl (sym is)
in_contained (y ∷ xs) x (suc i, lt, is) = inr (in_contained xs x (i, omega (arith, lt), is))

pub each_in : {A : Type 0} (P : A → Type 0) (xs : List A) (x : A) → AllByRecursion P xs → In x xs → P x
each_in P [] x h i = absurd i
each_in P (y ∷ xs) x h (inl e) = subst P (sym e) h.0
each_in P (y ∷ xs) x h (inr j) = each_in P xs x h.1 j

pub contained : {A : Type 0} (xs : List A) (n : ℕ) (x : A) → slice_get xs n ≡ Some x → Contains xs x
contained [] n x e = absurd cc
contained (y ∷ xs) zero x e = (0, omega arith, let s : y ≡ x = cc in s)
contained (y ∷ xs) (suc n) x e = let r = contained xs n x e in Contains-append_right (y ∷ []) xs x r

pub element : {A : Type 0} (xs : List A) (n : ℕ) → n < length xs → (x : A) × (slice_get xs n ≡ Some x)
element [] n lt = absurd (omega (arith, lt))
element (y ∷ xs) zero lt = (y, refl)
element (y ∷ xs) (suc n) lt = element xs n (omega (arith, lt))

pub some_is : {A : Type 0} (a b : A) → Some a ≡ Some b → a ≡ b
some_is a b e = cc

module _ (r : Rules) (rules : AreRules r) (sound : IsSound r.design) where
  -- segment g, with its process and its access
  pub record Here (g : ℕ) : Type 0 where
    pub segment : Segment
    pub process : Proc
    pub access : Access
    pub segment_is : slice_get r.segments g ≡ Some segment
    pub process_is : slice_get r.design.processes segment.process ≡ Some process
    pub access_is : slice_get r.access g ≡ Some access
    pub whole : IsSegmentOf r.design process segment
    pub accesses : IsAccessOf r.design process segment.entry access

  pub fits : (g : ℕ) (h : Here g) → FitsProcess r.design h.process
  fits g h = All-contains (FitsProcess r.design) r.design.processes h.process sound.processes (contained r.design.processes h.segment.process h.process h.process_is)

  -- the nodes of a segment are its process's
  pub own_within : (g : ℕ) (h : Here g) (n : ℕ) → InSegment r.design h.process h.segment.entry n → IsNodeOf h.process n
  own_within g h n within =
      own_node r.design h.process (fits g h) (entry_node r.design h.process h.segment.entry) n
      (entry_own r.design h.process (fits g h) h.segment.entry (in_contained (entries_of r.design h.process) h.segment.entry h.whole.entry)) within

  -- so what it touches, its process uses
  pub use_of : (g : ℕ) (h : Here g) (t : Touch) → Accesses r.design h.process h.segment.entry t → Uses r.design h.segment.process t
  use_of g h t a = record { process = h.process; number = a.number; node = a.node; is = h.process_is; own = own_within g h a.number a.within; node_is = a.is; touches = a.touches }

  -- what it touches is there
  pub exists_of : (g : ℕ) (h : Here g) (t : Touch) → Accesses r.design h.process h.segment.entry t → Exists (scope_of r.design h.process) t
  exists_of g h t a =
      let n = (fits g h).nodes a.number a.node (own_within g h a.number a.within) a.is in
      each_in (Exists (scope_of r.design h.process)) (touched_by r.design.events a.node.kind) t (exist (scope_of r.design h.process) r.design.events a.node.kind n.names)
      (in_contained (touched_by r.design.events a.node.kind) t a.touches)

  -- what it touches is told of
  pub told_of : (g : ℕ) (h : Here g) (t : Touch) (a : Accesses r.design h.process h.segment.entry t) → Told r.design.events a.node.kind t
  told_of g h t a =
      let n = (fits g h).nodes a.number a.node (own_within g h a.number a.within) a.is in
      each_in (Told r.design.events a.node.kind) (touched_by r.design.events a.node.kind) t (told_by r.design.events (scope_of r.design h.process) a.node.kind n.names)
      (in_contained (touched_by r.design.events a.node.kind) t a.touches)

  -- a notification of an event that isn't the model's own is for the next delta cycle
  pub for_next : (g : ℕ) (h : Here g) (e : ℕ) (t : Option Time) → Contains h.access.notified (e, t) → (t ≡ None) ⊎ IsOwn (slice_get r.design.events e)
  for_next g h e t c = ⊎_elim (λ x. inl x.0) (λ y. inr y) (told_of g h (Notifies e t) ((h.accesses.notified e t).0 c))

  -- a cancel is of an event of the model's own
  pub own_cancel : (g : ℕ) (h : Here g) (e : ℕ) → Contains h.access.cancelled e → IsOwn (slice_get r.design.events e)
  own_cancel g h e c = told_of g h (Cancels e) ((h.accesses.cancelled e).0 c)

  here_by : (g : ℕ) (s : Segment) (a : Access) → slice_get r.segments g ≡ Some s → slice_get r.access g ≡ Some a → Here g
  here_by g s a is e =
      at (slice_get r.design.processes s.process) refl (All-contains (IsSegment r.design) r.segments s rules.segments.each (contained r.segments g s is))
      (rules.access g s a is e)
    where
      at : (o : Option Proc) → slice_get r.design.processes s.process ≡ o → IsSomeAnd o (λ q. IsSegmentOf r.design q s) → IsSomeAnd o (λ q. IsAccessOf r.design q s.entry a) → Here g
      at (Some q) k x y = record { segment = s; process = q; access = a; segment_is = is; process_is = k; access_is = e; whole = x; accesses = y }
      at None k x y = absurd x

  -- a segment that has an access is there
  pub here_of : (g : ℕ) (a : Access) → slice_get r.access g ≡ Some a → Here g
  here_of g a e =
      let below : g < length r.segments = subst (λ n. g < n) rules.access_count (slice_get_within r.access g a e) in
      let s = element r.segments g below in
      here_by g s.0 a s.1 e

  -- a segment of the table is there
  pub here_at : (g : ℕ) (s : Segment) → slice_get r.segments g ≡ Some s → Here g
  here_at g s e =
      let below : g < length r.access = subst (λ n. g < n) (sym rules.access_count) (slice_get_within r.segments g s e) in
      let a = element r.access g below in
      here_by g s a.0 e a.1

  -- who calls an event of a channel has an edge of one delta cycle to each segment that waits on it
  pub channel_edge : (a b e : ℕ) → ¬ IsOwn (slice_get r.design.events e) → calls r a e ≡ true → waits_on r b e ≡ true →
      In (record { from = a; delay = delay_after None; to = b }) (all_edges r)
  channel_edge a b e not_own x y = at (subst (λ z. Calls z e) i.same (calls_yes r a e x))
    where
      i : IsThere r a
      i = calls_there r a e x

      j : IsThere r b
      j = waits_there r b e y

      h : Here a
      h = here_of a i.access i.is

      same : i.access ≡ h.access
      same = some_is i.access h.access (sym i.is ∙ h.access_is)

      at : Calls i.access e → In (record { from = a; delay = delay_after None; to = b }) (all_edges r)
      at (inl (t, c)) =
          ⊎_elim
          (λ n. subst (λ u. In (record { from = a; delay = delay_after u; to = b }) (all_edges r)) n
          (by_notice r a b e t i.access j.access i.is j.is (in_contained i.access.notified (e, t) c) (subst (λ z. has z.waited e ≡ true) j.same y)))
          (λ own. absurd (not_own own)) (for_next a h e t (subst (λ z. Contains z.notified (e, t)) same c))
      at (inr c) = absurd (not_own (own_cancel a h e (subst (λ z. Contains z.cancelled e) same c)))

  -- ---- who makes an event

  pub process_at : (g : ℕ) (h : Here g) → process_of r g ≡ h.segment.process
  process_at g h = rw (process_of, h.segment_is) refl

  -- a segment that calls an event is there
  pub record Caller (g e : ℕ) : Type 0 where
    pub here : Here g
    pub calls : Calls here.access e

  pub caller : (g e : ℕ) → calls r g e ≡ true → Caller g e
  caller g e x =
      let i = calls_there r g e x in
      let h = here_of g i.access i.is in
      record { here = h; calls = subst (λ z. Calls z e) (i.same ∙ some_is i.access h.access (sym i.is ∙ h.access_is)) (calls_yes r g e x) }

  -- who makes a channel's event has the channel's touch
  pub record Makes (g e : ℕ) (h : Here g) : Type 0 where
    pub made : BoundEvent
    pub is : slice_get r.design.events e ≡ Some made
    pub channel : made ≢ event.Own
    pub uses : Uses r.design h.segment.process (maker made)

  makes : (g e : ℕ) (h : Here g) (t : Touch) (a : Accesses r.design h.process h.segment.entry t) → ByChannel r.design.events a.node.kind e → Makes g e h
  makes g e h t a x =
      let m = made_by r.design.events a.node.kind e x in
      let u : Uses r.design h.segment.process (maker m.made) =
      use_of g h (maker m.made)
      (record { number = a.number; node = a.node; within = a.within; is = a.is; touches = contains_in (touched_by r.design.events a.node.kind) (maker m.made) m.touches })
      in
      record { made = m.made; is = m.is; channel = m.channel; uses = u }

  -- an event that is called is the model's own, or is made by who has its channel's touch
  pub owner : (g e : ℕ) (h : Here g) → Calls h.access e → Makes g e h ⊎ IsOwn (slice_get r.design.events e)
  owner g e h (inl (t, c)) =
      let a = (h.accesses.notified e t).0 c in
      ⊎_elim (λ x. inl (makes g e h (Notifies e t) a x.1)) (λ y. inr y) (told_of g h (Notifies e t) a)
  owner g e h (inr c) = inr (own_cancel g h e c)

  pub origin_is : (e : ℕ) (b : BoundEvent) → slice_get r.design.events e ≡ Some b → origin_of r e ≡ b
  origin_is e b h = get_or_from_slice_get r.design.events e b event.Own h

  pub own_origin : (e : ℕ) → IsOwn (slice_get r.design.events e) → origin_of r e ≡ event.Own
  own_origin e h = at (slice_get r.design.events e) refl h
    where
      at : (o : Option BoundEvent) → slice_get r.design.events e ≡ o → IsOwn o → origin_of r e ≡ event.Own
      at None k i = absurd i
      at (Some event.Own) k i = origin_is e event.Own k
      at (Some (event.Changed c)) k i = absurd i
      at (Some (event.Rise c)) k i = absurd i
      at (Some (event.Fall c)) k i = absurd i
      at (Some (event.Written c)) k i = absurd i
      at (Some (event.Taken c)) k i = absurd i

  -- what stands for an event of the model's own, and is called, is one
  pub own_called : (g e : ℕ) → origin_of r e ≡ event.Own → calls r g e ≡ true → IsOwn (slice_get r.design.events e)
  own_called g e o x =
      let c = caller g e x in ⊎_elim (λ m. absurd (m.channel (sym (origin_is e m.made m.is) ∙ o))) (λ y. y) (owner g e c.here c.calls)

  one_of : (b : BoundEvent) → b ≢ event.Own → IsOfOne r.design (maker b)
  one_of event.Own n = absurd (n refl)
  one_of (event.Changed c) n = sound.writers c
  one_of (event.Rise c) n = sound.writers c
  one_of (event.Fall c) n = sound.writers c
  one_of (event.Written c) n = sound.writing_ends c
  one_of (event.Taken c) n = sound.reading_ends c

  -- a channel's event is made by one process
  pub one_maker : (a b e : ℕ) → origin_of r e ≢ event.Own → calls r a e ≡ true → calls r b e ≡ true → process_of r a ≡ process_of r b
  one_maker a b e n x y = at (owner a e (caller a e x).here (caller a e x).calls) (owner b e (caller b e y).here (caller b e y).calls)
    where
      at : Makes a e (caller a e x).here ⊎ IsOwn (slice_get r.design.events e) → Makes b e (caller b e y).here ⊎ IsOwn (slice_get r.design.events e) → process_of r a ≡ process_of r b
      at (inl i) (inl j) =
          let h = (caller a e x).here in
          let k = (caller b e y).here in
          let same : j.made ≡ i.made = some_is j.made i.made (sym j.is ∙ i.is) in
          process_at a h ∙ one_of i.made i.channel h.segment.process k.segment.process i.uses (subst (λ m. Uses r.design k.segment.process (maker m)) same j.uses)
          ∙ sym (process_at b k)
      at (inr o) j = absurd (n (own_origin e o))
      at (inl i) (inr o) = absurd (n (own_origin e o))
