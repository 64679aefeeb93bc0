-- The tables of a sound design are sound.
use Rattle.std.proofs.Common.{◌≡◌, ℕ, inl, inr, Bool, true, false, Some, refl, subst, arith}
use Rattle.std.specs.Prelude.{slice_get}
use Rattle.ooo_time.specs.declared.stamp.Stamp.{Stamp}
use Rattle.ooo_value.specs.declared.bound.ProcessKind.{ProcessKind}
use Rattle.ooo_value.specs.declared.bound.ProcessKind.TheVariants.{Thread, Method}
use Rattle.ooo_code.specs.declared.design.Proc.{Proc}
use Rattle.ooo_code.specs.declared.segment.SegmentEntry.TheVariants.{Start}
use Rattle.ooo_code.specs.Segments.{StartWaitsOn}
use Rattle.ooo_code.specs.Sound.{IsSound}
use Rattle.ooo_schedules.specs.Design.{Wait}
use Rattle.ooo_schedules.specs.Model.{In}
use Rattle.ooo_schedules.specs.Program.{Sound}
use Rattle.ooo_schedules.specs.Tables.{program}
use Rattle.ooo_dispatch.specs.Rules.{Rules, segment_at, start_of, tables, waits_on}
use Rattle.ooo_dispatch.specs.Boards.{AreRules}
use Rattle.ooo_dispatch.proofs.Accessed.{channel_edge, contains_in, one_maker, own_called, own_origin}
use Rattle.ooo_dispatch.proofs.Acting.{Does, leaves, next, next_event, next_process, next_time, next_waits, notified, own_edge}
use Rattle.ooo_dispatch.proofs.Calls.{mirrored, own_clash, wake_clash}
use Rattle.ooo_dispatch.proofs.Following.{entry_waits}
use Rattle.ooo_dispatch.proofs.Segments.{segment_is}
use Rattle.ooo_dispatch.proofs.Starts.{start_owner, starting, starts_as, wait_if}

module _ (r : Rules) (rules : AreRules r) (sound : IsSound r.design) where
  -- a process that isn't initialized waits on its static events, and its first segment's entry does
  start_waits : (q : ℕ) (w : Wait Stamp) (e : ℕ) → start_of r q ≡ Some w → In e w.events → waits_on r w.segment e ≡ true
  start_waits q w e h i =
      let s = starts_as r rules q w h in
      subst (λ x. In e x.events → waits_on r x.segment e ≡ true) s.wait (by s.process s.is s.process.initialize refl) i
    where
      waits : (p : Proc) → slice_get r.design.processes q ≡ Some p → p.initialize ≡ false → In e p.sensitive → waits_on r (segment_at r q Start) e ≡ true
      waits p is f j = entry_waits r rules sound q p Start e is (segment_is r rules q p Start is (inl refl)) (at p.kind)
        where
          at : (k : ProcessKind) → StartWaitsOn r.design p k e
          at Thread = (f, contains_in p.sensitive e j)
          at Method = inl (contains_in p.sensitive e j)

      by : (p : Proc) → slice_get r.design.processes q ≡ Some p → (b : Bool) → p.initialize ≡ b → In e (wait_if b (segment_at r q Start) p.sensitive).events →
          waits_on r (wait_if b (segment_at r q Start) p.sensitive).segment e ≡ true
      by p is true f j = absurd j
      by p is false f j = waits p is f j

  pub are_sound : Does → Sound (program (tables r))
  are_sound does = record {
    notified = λ e x h. notified r rules sound does e x h;
    own_edge = λ x e k b o i w. own_edge r rules sound does x e k b i w;
    channel_edge = λ a e b n x y. (channel_edge r rules sound a b e (λ o. n (own_origin r rules sound e o)) x y, inr (omega arith));
    one_maker = λ a b e n x y. one_maker r rules sound a b e n x y;
    own_clash = λ a b e o x y. own_clash r rules a b e (own_called r rules sound a e o x) x y;
    wake_clash = λ a b e x y. wake_clash r rules a b e x y;
    mirrored = λ a b c. mirrored r rules a b c;
    next = λ x n t es e. next r rules sound does x n t es (leaves r rules sound does x n t es e);
    next_time = λ x n k es e. next_time r rules sound does x n (Some k) es (leaves r rules sound does x n (Some k) es e) k refl;
    next_event = λ x n t es e h i. (next_event r rules sound does x n t es (leaves r rules sound does x n t es h) e i, inr (omega arith));
    next_waits = λ x n t es e h i. next_waits r rules sound does x n t es (leaves r rules sound does x n t es h) e i;
    start_owner = λ q w e. start_owner r rules q w e;
    start_waits = start_waits;
    next_process = λ x n t es e. next_process r rules sound does x n t es (leaves r rules sound does x n t es e);
    starting = λ q w e. starting r rules q w e;
  }
