-- How processes start, in the words of segments.
use Rattle.std.proofs.Common.{◌≡◌, ℕ, zero, suc, ◌<◌, inl, List, [], ◌∷◌, length, Bool, true, false, if◌then◌else◌, Option, Some, None, refl, sym, ap, ◌∙◌, arith}
use Rattle.std.specs.Prelude.{slice_get}
use Rattle.ooo_time.specs.declared.stamp.Stamp.{Stamp}
use Rattle.ooo_code.specs.declared.design.Proc.{Proc}
use Rattle.ooo_code.specs.declared.segment.SegmentEntry.TheVariants.{Start}
use Rattle.ooo_meaning.specs.World.{zero_stamp}
use Rattle.ooo_schedules.specs.Design.{Wait}
use Rattle.ooo_schedules.specs.Sequence.{Starts}
use Rattle.ooo_schedules.specs.Tables.{program}
use Rattle.ooo_dispatch.specs.Rules.{Rules, segment_at, process_of, start_wait, start_of, tables}
use Rattle.ooo_dispatch.specs.Boards.{AreRules}
use Rattle.ooo_dispatch.proofs.Segments.{segment_is, process_is}

pub below_length : {A : Type 0} (xs : List A) (n : ℕ) (x : A) → slice_get xs n ≡ Some x → n < length xs
below_length [] n x e = absurd cc
below_length (y ∷ xs) zero x e = omega arith
below_length (y ∷ xs) (suc n) x e = let r = below_length xs n x e in omega (arith, r)

some_same : {A : Type 0} (a b : A) → Some a ≡ Some b → a ≡ b
some_same a b e = cc

-- how a process starts, by whether it is initialized
abbrev pub wait_if : Bool → (g : ℕ) → (sensitive : List ℕ) → Wait Stamp
wait_if b g es =
    if b then record { segment = g; timeout = Some zero_stamp; events = []; since = None }
    else record { segment = g; timeout = None; events = es; since = None }

module _ (r : Rules) (rules : AreRules r) where
  -- a process that starts is there, and begins with its first segment
  pub record StartsAs (q : ℕ) (w : Wait Stamp) : Type 0 where
    pub process : Proc
    pub is : slice_get r.design.processes q ≡ Some process
    pub wait : start_wait (segment_at r q Start) process ≡ w

  pub starts_as : (q : ℕ) (w : Wait Stamp) → start_of r q ≡ Some w → StartsAs q w
  starts_as q w e = at (slice_get r.design.processes q) refl e
    where
      at : (o : Option Proc) → slice_get r.design.processes q ≡ o → (elim o [ None ↦ None | Some x ↦ Some (start_wait (segment_at r q Start) x) ]) ≡ Some w → StartsAs q w
      at None h f = absurd cc
      at (Some x) h f = record { process = x; is = h; wait = some_same (start_wait (segment_at r q Start) x) w f }

  if_segment : (b : Bool) (x y : Wait Stamp) (g : ℕ) → x.segment ≡ g → y.segment ≡ g → (let w : Wait Stamp = if b then x else y in w.segment) ≡ g
  if_segment true x y g h k = h
  if_segment false x y g h k = k

  pub first_segment : (g : ℕ) (x : Proc) → (start_wait g x).segment ≡ g
  first_segment g x = if_segment x.initialize _ _ g refl refl

  pub start_owner : (q : ℕ) (w : Wait Stamp) → start_of r q ≡ Some w → process_of r w.segment ≡ q
  start_owner q w e =
      let s = starts_as q w e in
      ap (process_of r) (sym (ap (λ x. x.segment) s.wait) ∙ first_segment (segment_at r q Start) s.process)
      ∙ process_is r rules q Start (segment_is r rules q s.process Start s.is (inl refl))

  pub starting : (q : ℕ) (w : Wait Stamp) → start_of r q ≡ Some w → q < length r.design.processes
  starting q w e = let s = starts_as q w e in below_length r.design.processes q s.process s.is

  pub since : (q : ℕ) (w : Wait Stamp) → start_of r q ≡ Some w → w.since ≡ None
  since q w e = let s = starts_as q w e in sym (ap (λ x. x.since) s.wait) ∙ at s.process.initialize (segment_at r q Start) s.process.sensitive
    where
      at : (b : Bool) (g : ℕ) (es : List ℕ) → (wait_if b g es).since ≡ None
      at true g es = refl
      at false g es = refl

  pub ready : (q : ℕ) (w : Wait Stamp) (u : Stamp) → start_of r q ≡ Some w → w.timeout ≡ Some u → u ≡ zero_stamp
  ready q w u e h = let s = starts_as q w e in at s.process.initialize (segment_at r q Start) s.process.sensitive (ap (λ x. x.timeout) s.wait ∙ h)
    where
      at : (b : Bool) (g : ℕ) (es : List ℕ) → (wait_if b g es).timeout ≡ Some u → u ≡ zero_stamp
      at true g es k = sym (some_same zero_stamp u k)
      at false g es k = absurd cc

  -- each process is ready at time zero, or waits since before it
  pub are_starting : 0 < r.limits.deltas → Starts (program (tables r))
  are_starting some = record { since = since; ready = ready; limit = some }
