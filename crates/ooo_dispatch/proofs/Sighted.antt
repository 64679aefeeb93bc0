-- What the next job of a process sees is what the operations on the board show, and the cells on it.
use Rattle.std.proofs.Common.{◌≡◌, ℕ, suc, ◌+◌, ◌==◌, ◌⊎◌, inl, inr, ⊎_elim, List, [], ◌∷◌, ◌++◌, Bool, true, false, ◌&&◌, ◌||◌, if◌then◌else◌, Some, refl, sym, ap, ◌∙◌, subst, arith}
use Rattle.std.specs.Prelude.{slice_get}
use Rattle.std.proofs.lemmas.Bool.{eq-eqb, eqb-false, eqb-true}
use Rattle.ooo_time.specs.declared.time.Time.{Time}
use Rattle.ooo_time.specs.declared.stamp.Stamp.{Stamp}
use Rattle.ooo_time.specs.Stamps.{IsBefore, is_before}
use Rattle.ooo_value.specs.declared.bound.BoundChannel.{BoundChannel}
use Rattle.ooo_value.specs.declared.bound.ChannelKind.{ChannelKind}
use Rattle.ooo_value.specs.declared.bound.ChannelKind.TheVariants as channel
use Rattle.ooo_code.specs.declared.activation.Effect.{Effect}
use Rattle.ooo_code.specs.declared.activation.Seen.{Seen}
use Rattle.ooo_code.specs.declared.activation.Seen.TheVariants as seen
use Rattle.ooo_code.specs.Channels.{Channel, IsSignal, IsFifo, available, free_slots, is_time}
use Rattle.ooo_code.specs.Expressions.{SignalSeen}
use Rattle.ooo_code.specs.Sound.{IsSound}
use Rattle.ooo_code.specs.Touches.{ReadsSignal, HoldsReading, HoldsWriting}
use Rattle.ooo_access.specs.declared.access.Access.{Access}
use Rattle.ooo_channels.specs.Cycles.{Cycle, acted, channel_before, channel_in, cycle_at, readable, writable}
use Rattle.ooo_channels.specs.Operations.{Operations, is_on}
use Rattle.ooo_schedules.specs.Delays.{NotAfter}
use Rattle.ooo_schedules.specs.Design.{only, sort}
use Rattle.ooo_schedules.specs.Model.{Front, In, job}
use Rattle.ooo_schedules.specs.Program.{Sound}
use Rattle.ooo_schedules.specs.Tables.{EveryScheduleOf, program}
use Rattle.ooo_dispatch.specs.Banks.{IsReadOf, channel_shown, operations_on, sights_by}
use Rattle.ooo_dispatch.specs.Boards.{AreRules, Board, IsAllowed, IsLawful, model}
use Rattle.ooo_dispatch.specs.Enough.{signal_shown}
use Rattle.ooo_dispatch.specs.Rules.{Rules, access_of, clash, deed_of, has, operations_of, process_of, sight_of, sights, tables}
use Rattle.ooo_dispatch.proofs.Accessed.{here_of}
use Rattle.ooo_dispatch.proofs.Acting.{Does}
use Rattle.ooo_dispatch.proofs.Applied.{Puts, Requests, Takes, Touches, UseOf, acts_on, before_is, channel_sorted, cycle, is_early, is_read_fifo, is_read_signal, is_signal, is_written_fifo, kinds_apart, one_on, one_process, puts_clash, requests_clash, same_acting, takes_clash, use_on}
use Rattle.ooo_dispatch.proofs.Calls.{access_is, has_yes, mirrored, or_left, or_right, or_true, there_if}
use Rattle.ooo_dispatch.proofs.Cells.{cells_kept, seen_by}
use Rattle.ooo_dispatch.proofs.Commits.{Activation, Falls, P, Stands, front_owned, front_stands, in_sorted, log_stands, only_falls, only_in, only_only, owned, sorted_falls}
use Rattle.ooo_dispatch.proofs.Enough.{and_yes}
use Rattle.ooo_dispatch.proofs.Shown.{IsOfKind, Parted, channel_kept, put_neutral, shown_same, signal_neutral, take_neutral}
use Rattle.ooo_dispatch.proofs.Stamps.{before_yes, compare, irreflexive, is_yes, transitive}

-- ---- what stands at a stamp or before it

module _ (r : Rules) (c : ℕ) where
  parted : (test : Activation → Bool) (s : Stamp) (ys : List Activation) → Falls ys → ((y : Activation) → In y ys → NotAfter y.stamp s) → Parted r test c s ys
  parted test s [] d b = tt
  parted test s (y ∷ ys) d b =
      ⊎_elim (λ lt. inr (λ z i. ⊎_elim (λ e. subst (λ x. IsBefore x.stamp s) (sym e) lt) (λ j. before z j lt) i))
      (λ e. inl (e, parted test s ys d.1 (λ z i. b z (inr i)))) (b y (inl refl))
    where
      before : (z : Activation) → In z ys → IsBefore y.stamp s → IsBefore z.stamp s
      before z j lt = ⊎_elim (λ k. transitive z.stamp y.stamp s k lt) (λ e. subst (λ x. IsBefore x s) (sym e) lt) (d.0 z j)

  -- where of those that pass a test and act on the channel none is later than a stamp, those at the stamp change nothing of what is
  -- shown, and all before the stamp pass, these alone make what is shown
  shown_before : {X : Type 0} (shown : Channel → X) (s : Stamp) (test : Activation → Bool) (ys : List Activation) → Falls ys →
      ((y : Activation) → In y ys → acts_on r c y ≡ true → test y ≡ true → NotAfter y.stamp s) →
      ((y : Activation) → In y ys → acts_on r c y ≡ true → IsBefore y.stamp s → test y ≡ true) →
      ((y : Activation) → In y ys → y.stamp ≡ s → (f : Effect) → In f (deed_of r y).effects → is_on c f ≡ true → (x : Channel) → shown (acted f x) ≡ shown x) →
      shown (channel_in s (operations_of r (only test ys)) c) ≡ shown (channel_in s (operations_of r (only (is_early r s) ys)) c)
  shown_before {X} shown s test ys falls not_later passes neutral =
      at_stamp (cycle r c (only test ys)) (cycle r c (only both ys)) (same_acting r c test both ys (λ y i h. ap (λ b. b && test y) (sym h)))
      ∙ sym (shown_same r (is_early r s) c shown s (only both ys) (parted (is_early r s) s (only both ys) (only_falls both ys falls) (λ y i. late y (only_in both ys y i))) (λ y i lt f j on. before_yes y.stamp s lt)
      (λ y i e f j on x. neutral y (only_in both ys y i).0 e f j on x))
      ∙ at_stamp (cycle r c (only (is_early r s) (only both ys))) (cycle r c (only (is_early r s) ys)) (ap (cycle r c) (only_only both (is_early r s) ys) ∙ same_acting r c (λ y. both y && is_early r s y) (is_early r s) ys early)
    where
      both : Activation → Bool
      both y = acts_on r c y && test y

      at_stamp : (x y : Cycle) → x ≡ y → shown (cycle_at s x).channel ≡ shown (cycle_at s y).channel
      at_stamp x y e = ap (λ z. shown (cycle_at s z).channel) e

      late : (y : Activation) → In y ys × (both y ≡ true) → NotAfter y.stamp s
      late y h = at (acts_on r c y) (test y) refl refl h.1
        where
          at : (a b : Bool) → acts_on r c y ≡ a → test y ≡ b → (a && b) ≡ true → NotAfter y.stamp s
          at true true k l e = not_later y h.0 k l
          at true false k l e = absurd cc
          at false b k l e = absurd cc

      early : (y : Activation) → In y ys → acts_on r c y ≡ true → (both y && is_early r s y) ≡ is_early r s y
      early y i h = ap (λ b. (b && test y) && is_early r s y) h ∙ at (is_before y.stamp s) refl
        where
          at : (b : Bool) → is_before y.stamp s ≡ b → (test y && b) ≡ b
          at true e = ap (λ t. t && true) (passes y i h (is_yes y.stamp s e))
          at false e = none (test y)
            where
              none : (t : Bool) → (t && false) ≡ false
              none true = refl
              none false = refl

only_true : (xs : List Activation) → only (λ y. true) xs ≡ xs
only_true [] = refl
only_true (x ∷ xs) = ap (λ t. x ∷ t) (only_true xs)

-- ---- what is seen of a channel of a kind

sight_of_signal : (a : Access) (now : Time) (c : ℕ) (x y : Channel) → IsOfKind channel.Signal x → IsOfKind channel.Signal y →
    (has a.signals_read c ≡ true → signal_shown now x ≡ signal_shown now y) → sight_of a now c x ≡ sight_of a now c y
sight_of_signal a now c (IsSignal x) (IsSignal y) i j same = at (has a.signals_read c) same
  where
    at : (b : Bool) → (b ≡ true → signal_shown now (IsSignal x) ≡ signal_shown now (IsSignal y)) →
        (if b then seen.Signal c x.current (is_time now x.changed) ∷ [] else []) ≡ (if b then seen.Signal c y.current (is_time now y.changed) ∷ [] else [])
    at true e = ap {A = SignalSeen} {B = List Seen} (λ z. seen.Signal c z.value z.changed ∷ []) (e refl)
    at false e = refl
sight_of_signal a now c (IsFifo x) y i j same = absurd i
sight_of_signal a now c (IsSignal x) (IsFifo y) i j same = absurd j

sight_of_fifo : (a : Access) (now : Time) (c : ℕ) (x y : Channel) → IsOfKind channel.Fifo x → IsOfKind channel.Fifo y →
    (has a.takes c ≡ true → readable x ≡ readable y) → (has a.puts c ≡ true → writable x ≡ writable y) → sight_of a now c x ≡ sight_of a now c y
sight_of_fifo a now c (IsFifo x) (IsFifo y) i j takes puts = at (has a.takes c) (has a.puts c) takes puts
  where
    at : (t p : Bool) → (t ≡ true → available x ≡ available y) → (p ≡ true → free_slots x ≡ free_slots y) →
        (if t || p then seen.Fifo c (if t then available x else []) (if p then free_slots x else 0) ∷ [] else [])
        ≡ (if t || p then seen.Fifo c (if t then available y else []) (if p then free_slots y else 0) ∷ [] else [])
    at true true e h = rw (e refl, h refl) refl
    at true false e h = ap (λ vs. seen.Fifo c vs 0 ∷ []) (e refl)
    at false true e h = ap (λ n. seen.Fifo c [] n ∷ []) (h refl)
    at false false e h = refl
sight_of_fifo a now c (IsSignal x) y i j takes puts = absurd i
sight_of_fifo a now c (IsFifo x) (IsSignal y) i j takes puts = absurd j

-- ---- the next job of a process that is allowed

module _ (r : Rules) (rules : AreRules r) (sound : IsSound r.design) (does : Does) (every : EveryScheduleOf (tables r)) (acts : Sound (program (tables r))) (b : Board r) (lawful : IsLawful r b) (p : ℕ) (f : Front Stamp) (allowed : IsAllowed r b p f) where
  abbrev g : ℕ
  g = f.segment

  abbrev s : Stamp
  s = f.stamp

  abbrev log : List Activation
  log = b.log

  abbrev places : List Activation
  places = sort (P r) b.log

  abbrev may_see : Activation → Bool
  may_see y = seen_by r p g s y

  own : (y : Activation) → In y log → process_of r y.segment ≡ y.process
  own y i = owned r acts b lawful y (inl i)

  mine : process_of r g ≡ p
  mine = front_owned r acts b lawful p f allowed

  stands : (y : Activation) → In y log → Stands r every (job (model r) b p f) y
  stands y i = front_stands r every b lawful p f allowed y i

  -- ---- none that it conflicts with is later

  not_later : (y : Activation) → In y log → (y.process ≡ p → IsBefore y.stamp s) → (clash r g y.segment false ≡ true) ⊎ (clash r g y.segment true ≡ true) → NotAfter y.stamp s
  not_later y i early c = at (y.process == p) refl
    where
      by : IsBefore s y.stamp → (y.process ≡ p → ⊥) → ⊥
      by lt n = (stands y i).apart (λ e. n (sym e)) (inl lt) (⊎_elim (λ k. inl k) (λ k. inr (lt, k)) c)

      at : (a : Bool) → (y.process == p) ≡ a → NotAfter y.stamp s
      at true e = inl (early (eqb-true y.process p e))
      at false e = ⊎_elim (λ k. inl k) (λ k. ⊎_elim (λ q. inr q) (λ lt. absurd (by lt (eqb-false y.process p e))) k) (compare y.stamp s)

  own_early : (y : Activation) → In y log → y.process ≡ p → IsBefore y.stamp s
  own_early y i e = (stands y i).own e

  -- what it may see isn't later
  seen_not_later : (y : Activation) → In y log → may_see y ≡ true → NotAfter y.stamp s
  seen_not_later y i h = ⊎_elim (λ e. inl (own_early y i (eqb-true y.process p e))) (λ k. other k) (or_true (y.process == p) (clash r y.segment g false || (is_before y.stamp s && clash r y.segment g true)) h)
    where
      early : (a b : Bool) → is_before y.stamp s ≡ a → (a && b) ≡ true → NotAfter y.stamp s
      early true b e k = inl (is_yes y.stamp s e)
      early false b e k = absurd cc

      other : (clash r y.segment g false || (is_before y.stamp s && clash r y.segment g true)) ≡ true → NotAfter y.stamp s
      other k =
          ⊎_elim (λ e. not_later y i (own_early y i) (inl (mirrored r rules y.segment g e))) (λ e. early (is_before y.stamp s) (clash r y.segment g true) refl e)
          (or_true (clash r y.segment g false) (is_before y.stamp s && clash r y.segment g true) k)

  seen_strict : (y : Activation) → IsBefore y.stamp s → clash r y.segment g true ≡ true → may_see y ≡ true
  seen_strict y lt c =
      or_right (y.process == p) (clash r y.segment g false || (is_before y.stamp s && clash r y.segment g true))
      (or_right (clash r y.segment g false) (is_before y.stamp s && clash r y.segment g true)
      (and_yes (is_before y.stamp s) (clash r y.segment g true) (before_yes y.stamp s lt) c))

  seen_own : (y : Activation) → y.process ≡ p → may_see y ≡ true
  seen_own y e = or_left (y.process == p) (clash r y.segment g false || (is_before y.stamp s && clash r y.segment g true)) (eq-eqb y.process p e)

  -- ---- one channel

  module _ (c : ℕ) where
    sorted : (test : Activation → Bool) → cycle r c (only test places) ≡ cycle r c (only test log)
    sorted test = channel_sorted r rules sound c does every test log own (log_stands r every b lawful)

    -- those of a segment that touches what the segment of the front touches alone are of the process
    is_own : (y : Activation) → In y log → process_of r y.segment ≡ process_of r g → y.process ≡ p
    is_own y i e = sym (own y i) ∙ e ∙ mine

    abbrev Use : Activation → Effect → Type 0
    Use y e = UseOf r rules sound c does y.segment e

    use_by : (y : Activation) (e : Effect) → In e (deed_of r y).effects → is_on c e ≡ true → Use y e
    use_by y e i on = use_on r rules sound c does y e i on

    used : (y : Activation) → acts_on r c y ≡ true → (e : Effect) × Use y e
    used y h = let k = one_on r c y h in (k.0, use_by y k.0 k.1 k.2)

    -- a signal that it reads
    module _ (t : Touches r rules sound g (ReadsSignal c)) where
      request_seen : (y : Activation) → acts_on r c y ≡ true → IsBefore y.stamp s → may_see y ≡ true
      request_seen y h lt = at (used y h).1
        where
          at : {e : Effect} → Use y e → may_see y ≡ true
          at (Requests v e u) = seen_strict y lt (requests_clash r rules sound c y.segment g u t)
          at (Puts v e u) = absurd (kinds_apart r rules sound c (is_read_signal r rules sound c g t) (is_written_fifo r rules sound c y.segment u))
          at (Takes e u) = absurd (kinds_apart r rules sound c (is_read_signal r rules sound c g t) (is_read_fifo r rules sound c y.segment u))

      signal_same : signal_shown s.time (channel_in s (operations_of r (only may_see places)) c) ≡ signal_shown s.time (channel_before (operations_of r log) c s)
      signal_same =
          shown_before r c (signal_shown s.time) s may_see places (sorted_falls r log) (λ y i h k. seen_not_later y (in_sorted r log y i) k) (λ y i h lt. request_seen y h lt) (λ y i e k j on x. signal_neutral s.time k x)
          ∙ ap (λ z. signal_shown s.time (cycle_at s z).channel) (sorted (is_early r s)) ∙ ap (λ ops. signal_shown s.time (channel_in s ops c)) (sym (before_is r s log))

    -- one end of a fifo, where those that act on the channel aren't later, are seen if they are before, and those at the stamp are of
    -- the other end
    end_same : {X : Type 0} (shown : Channel → X) → ((y : Activation) → In y log → acts_on r c y ≡ true → NotAfter y.stamp s) →
        ((y : Activation) → In y log → acts_on r c y ≡ true → IsBefore y.stamp s → may_see y ≡ true) →
        ((y : Activation) → In y log → y.stamp ≡ s → (e : Effect) → In e (deed_of r y).effects → is_on c e ≡ true → (x : Channel) → shown (acted e x) ≡ shown x) →
        shown (channel_in s (operations_of r (only may_see places)) c) ≡ shown (channel_in s (operations_of r log) c)
    end_same {X} shown late passes neutral =
        shown_before r c shown s may_see places (sorted_falls r log) (λ y i h k. seen_not_later y (in_sorted r log y i) k) (λ y i h lt. passes y (in_sorted r log y i) h lt) (λ y i. neutral y (in_sorted r log y i))
        ∙ sym (shown_before r c shown s (λ y. true) places (sorted_falls r log) (λ y i h k. late y (in_sorted r log y i) h) (λ y i h lt. refl) (λ y i. neutral y (in_sorted r log y i)))
        ∙ ap (λ z. shown (cycle_at s z).channel) (sorted (λ y. true) ∙ ap (cycle r c) (only_true log))

    none_own : (y : Activation) → In y log → y.stamp ≡ s → y.process ≡ p → ⊥
    none_own y i e o = irreflexive s (subst (λ x. IsBefore x s) e (own_early y i o))

    -- the reading end
    module _ (t : Touches r rules sound g (HoldsReading c)) where
      take_own : (y : Activation) → In y log → Touches r rules sound y.segment (HoldsReading c) → y.process ≡ p
      take_own y i u = is_own y i (one_process r rules sound (HoldsReading c) (sound.reading_ends c) y.segment g u t)

      taken_late : (y : Activation) → In y log → acts_on r c y ≡ true → NotAfter y.stamp s
      taken_late y i h = at (used y h).1
        where
          at : {e : Effect} → Use y e → NotAfter y.stamp s
          at (Requests v e u) = absurd (kinds_apart r rules sound c (is_signal r rules sound c y.segment u) (is_read_fifo r rules sound c g t))
          at (Puts v e u) = not_later y i (own_early y i) (inr (takes_clash r rules sound c g y.segment t u))
          at (Takes e u) = inl (own_early y i (take_own y i u))

      taken_seen : (y : Activation) → In y log → acts_on r c y ≡ true → IsBefore y.stamp s → may_see y ≡ true
      taken_seen y i h lt = at (used y h).1
        where
          at : {e : Effect} → Use y e → may_see y ≡ true
          at (Requests v e u) = absurd (kinds_apart r rules sound c (is_signal r rules sound c y.segment u) (is_read_fifo r rules sound c g t))
          at (Puts v e u) = seen_strict y lt (puts_clash r rules sound c y.segment g u t)
          at (Takes e u) = seen_own y (take_own y i u)

      taken_neutral : (y : Activation) → In y log → y.stamp ≡ s → (e : Effect) → In e (deed_of r y).effects → is_on c e ≡ true → (x : Channel) → readable (acted e x) ≡ readable x
      taken_neutral y i q e j on x = at (use_by y e j on)
        where
          at : Use y e → readable (acted e x) ≡ readable x
          at (Requests v k u) = absurd (kinds_apart r rules sound c (is_signal r rules sound c y.segment u) (is_read_fifo r rules sound c g t))
          at (Puts v k u) = rw k (put_neutral c v x)
          at (Takes k u) = absurd (none_own y i q (take_own y i u))

      takes_same : readable (channel_in s (operations_of r (only may_see places)) c) ≡ readable (channel_in s (operations_of r log) c)
      takes_same = end_same readable taken_late taken_seen taken_neutral

    -- the writing end
    module _ (t : Touches r rules sound g (HoldsWriting c)) where
      put_own : (y : Activation) → In y log → Touches r rules sound y.segment (HoldsWriting c) → y.process ≡ p
      put_own y i u = is_own y i (one_process r rules sound (HoldsWriting c) (sound.writing_ends c) y.segment g u t)

      put_late : (y : Activation) → In y log → acts_on r c y ≡ true → NotAfter y.stamp s
      put_late y i h = at (used y h).1
        where
          at : {e : Effect} → Use y e → NotAfter y.stamp s
          at (Requests v e u) = absurd (kinds_apart r rules sound c (is_signal r rules sound c y.segment u) (is_written_fifo r rules sound c g t))
          at (Takes e u) = not_later y i (own_early y i) (inr (puts_clash r rules sound c g y.segment t u))
          at (Puts v e u) = inl (own_early y i (put_own y i u))

      put_seen : (y : Activation) → In y log → acts_on r c y ≡ true → IsBefore y.stamp s → may_see y ≡ true
      put_seen y i h lt = at (used y h).1
        where
          at : {e : Effect} → Use y e → may_see y ≡ true
          at (Requests v e u) = absurd (kinds_apart r rules sound c (is_signal r rules sound c y.segment u) (is_written_fifo r rules sound c g t))
          at (Takes e u) = seen_strict y lt (takes_clash r rules sound c y.segment g u t)
          at (Puts v e u) = seen_own y (put_own y i u)

      free_neutral : (y : Activation) → In y log → y.stamp ≡ s → (e : Effect) → In e (deed_of r y).effects → is_on c e ≡ true → (x : Channel) → writable (acted e x) ≡ writable x
      free_neutral y i q e j on x = at (use_by y e j on)
        where
          at : Use y e → writable (acted e x) ≡ writable x
          at (Requests v k u) = absurd (kinds_apart r rules sound c (is_signal r rules sound c y.segment u) (is_written_fifo r rules sound c g t))
          at (Takes k u) = rw k (take_neutral c x)
          at (Puts v k u) = absurd (none_own y i q (put_own y i u))

      puts_same : writable (channel_in s (operations_of r (only may_see places)) c) ≡ writable (channel_in s (operations_of r log) c)
      puts_same = end_same writable put_late put_seen free_neutral

  -- ---- all channels

  signal_touched : (c : ℕ) → has (access_of r g).signals_read c ≡ true → Touches r rules sound g (ReadsSignal c)
  signal_touched c h =
      let i = there_if r (λ a. has a.signals_read c) refl g h in
      let k = here_of r rules sound g i.access i.is in
      record { here = k; access = (k.accesses.signals_read c).0 (has_yes k.access.signals_read c (subst (λ a. has a.signals_read c ≡ true) (access_is r g k.access k.access_is) h)) }

  take_touched : (c : ℕ) → has (access_of r g).takes c ≡ true → Touches r rules sound g (HoldsReading c)
  take_touched c h =
      let i = there_if r (λ a. has a.takes c) refl g h in
      let k = here_of r rules sound g i.access i.is in
      record { here = k; access = (k.accesses.takes c).0 (has_yes k.access.takes c (subst (λ a. has a.takes c ≡ true) (access_is r g k.access k.access_is) h)) }

  put_touched : (c : ℕ) → has (access_of r g).puts c ≡ true → Touches r rules sound g (HoldsWriting c)
  put_touched c h =
      let i = there_if r (λ a. has a.puts c) refl g h in
      let k = here_of r rules sound g i.access i.is in
      record { here = k; access = (k.accesses.puts c).0 (has_yes k.access.puts c (subst (λ a. has a.puts c ≡ true) (access_is r g k.access k.access_is) h)) }

  -- what it sees, and what the operations on the board show
  abbrev seen_here : Operations
  seen_here = operations_of r (only may_see places)

  channel_same : (c : ℕ) (x : BoundChannel) → slice_get r.design.channels c ≡ Some x →
      sight_of (access_of r g) s.time c (channel_in s seen_here c) ≡ sight_of (access_of r g) s.time c (channel_shown s (operations_on r b) c x.kind)
  channel_same c x is = at x.kind refl
    where
      kept : (k : ChannelKind) → x.kind ≡ k → (ys : List Activation) → IsOfKind k (channel_in s (operations_of r ys) c)
      kept k e ys = subst (λ n. IsOfKind n (channel_in s (operations_of r ys) c)) e (channel_kept r c x is s ys)

      at : (k : ChannelKind) → x.kind ≡ k → sight_of (access_of r g) s.time c (channel_in s seen_here c) ≡ sight_of (access_of r g) s.time c (channel_shown s (operations_on r b) c k)
      at channel.Signal e =
          sight_of_signal (access_of r g) s.time c (channel_in s seen_here c) (channel_before (operations_on r b) c s) (kept channel.Signal e (only may_see places))
          (subst (λ ops. IsOfKind channel.Signal (channel_in s ops c)) (sym (before_is r s log)) (kept channel.Signal e (only (is_early r s) log)))
          (λ h. signal_same c (signal_touched c h))
      at channel.Fifo e =
          sight_of_fifo (access_of r g) s.time c (channel_in s seen_here c) (channel_in s (operations_on r b) c) (kept channel.Fifo e (only may_see places)) (kept channel.Fifo e log)
          (λ h. takes_same c (take_touched c h)) (λ h. puts_same c (put_touched c h))

  sights_same : (n : ℕ) (xs : List BoundChannel) → ((i c : ℕ) (x : BoundChannel) → c ≡ n + i → slice_get xs i ≡ Some x → slice_get r.design.channels c ≡ Some x) →
      sights (access_of r g) s seen_here n xs ≡ sights_by (access_of r g) s (operations_on r b) n xs
  sights_same n [] are = refl
  sights_same n (x ∷ xs) are =
      ap (λ e. e ++ sights (access_of r g) s seen_here (suc n) xs) (channel_same n x (are 0 n x (omega arith) refl))
      ∙ ap (λ e. sight_of (access_of r g) s.time n (channel_shown s (operations_on r b) n x.kind) ++ e) (sights_same (suc n) xs (λ i c y e is. are (suc i) c y (omega (arith, e)) is))

  pub is_read : IsReadOf r b p f
  is_read = record {
    seen = sights_same 0 r.design.channels (λ i c x e is. let same : c ≡ i = omega (arith, e) in ap (slice_get r.design.channels) same ∙ is);
    cells = λ x u. cells_kept r rules p g s x u places;
  }
