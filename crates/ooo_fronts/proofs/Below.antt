-- A place is below the cut just where it is before the first break, not after the first stop, and before the limit.
use Rattle.std.proofs.Common.{◌≡◌, ℕ, ◌<◌, ◌≤◌, inl, inr, ⊎_elim, true, List, Option, Some, None, IfSome, refl, sym, ap, ◌∙◌, subst, arith}
use Rattle.ooo_time.specs.declared.stamp.Stamp.{Stamp}
use Rattle.ooo_time.specs.declared.stamp.Place.{Place}
use Rattle.ooo_time.specs.Stamps.{IsBefore, ComesBefore}
use Rattle.ooo_code.specs.declared.activation.JobEnd.{JobEnd}
use Rattle.ooo_code.specs.declared.activation.JobEnd.TheVariants as job
use Rattle.ooo_history.specs.declared.run.End.{End}
use Rattle.ooo_meaning.specs.World.{broken_by, place_of}
use Rattle.ooo_schedules.specs.Model.{Act, Front, In, IsLeast}
use Rattle.ooo_dispatch.specs.declared.reads.Reads.{Reads}
use Rattle.ooo_dispatch.specs.Boards.{Board, IsFront, model}
use Rattle.ooo_dispatch.specs.Least.{IsBelowCut}
use Rattle.ooo_dispatch.specs.Rules.{Rules, breaks_by, outcome_of}
use Rattle.ooo_fronts.specs.declared.cut.Break.{Break}
use Rattle.ooo_fronts.specs.declared.cut.Cut.{Cut}
use Rattle.ooo_fronts.specs.Cuts.{IsBreakOf, IsCutOf, IsFirstBreak, IsFirstStop, IsLeastStamp, IsUncut, breaks, calls_stop}
use Rattle.ooo_fronts.proofs.Leasts.{at_least_stamp, least_front}
use Rattle.ooo_fronts.proofs.Places.{CutsOff, before_by, before_on, cut_off_by, cut_off_on, no_later_time, not_both, not_cut_off, uncut_before}

-- what has an end breaks the run
broken_some : (at : Place) (e : JobEnd) (x : End) → broken_by at e ≡ Some x → breaks_by e ≡ true
broken_some at (job.Waits on) x h = absurd cc
broken_some at job.Ended x h = absurd cc
broken_some at (job.Faulted f line) x h = refl
broken_some at (job.Limit line) x h = refl

module _ (r : Rules) (ys : List (Act Stamp Reads)) (at : Place) where
  -- ---- breaks

  no_break : (o : Option Break) → IsFirstBreak r ys o → IfSome o (λ x. ComesBefore at x.place) → (y : Act Stamp Reads) → In y ys → breaks r y ≡ true → CutsOff (place_of y.stamp y.process) at → ⊥
  no_break None h k y i b c = let f = h y i in absurd cc
  no_break (Some x) h k y i b c = not_cut_off x.place at (cut_off_by x.place (place_of y.stamp y.process) at (h.1 y i b) c) k

  before_break : (o : Option Break) → IsFirstBreak r ys o → ((y : Act Stamp Reads) → In y ys → breaks r y ≡ true → CutsOff (place_of y.stamp y.process) at → ⊥) → IfSome o (λ x. ComesBefore at x.place)
  before_break None h n = tt
  before_break (Some x) h n =
      let w : IsBreakOf r h.0.0 x = h.0.2 in
      subst (ComesBefore at) (sym w.at) (uncut_before (place_of h.0.0.stamp h.0.0.process) at (n h.0.0 h.0.1 (broken_some x.place (outcome_of r h.0.0).deed.end x.end w.how)))

  -- ---- stops

  no_stop : (o : Option Stamp) → IsFirstStop r ys o → IfSome o (λ s. IsBefore s at.stamp → ⊥) → (y : Act Stamp Reads) → In y ys → calls_stop r y ≡ true → IsBefore y.stamp at.stamp → ⊥
  no_stop None h k y i b c = let f = h y i in absurd cc
  no_stop (Some s) h k y i b c = k (before_by s y.stamp at.stamp (h.1 y i b) c)

  before_stop : (o : Option Stamp) → IsFirstStop r ys o → ((y : Act Stamp Reads) → In y ys → calls_stop r y ≡ true → IsBefore y.stamp at.stamp → ⊥) → IfSome o (λ s. IsBefore s at.stamp → ⊥)
  before_stop None h n = tt
  before_stop (Some s) h n = λ c. n h.0.0 h.0.1 h.0.2 (subst (λ t. IsBefore t at.stamp) (sym h.0.3) c)

module _ (r : Rules) (b : Board r) (s : Stamp) (deltas : ℕ) (same : deltas ≡ r.limits.deltas) where
  -- ---- the limit of deltas

  abbrev BeforeLimit : Type 0
  BeforeLimit = (q : ℕ) (g : Front Stamp) → IsFront r b q g → IsLeast (model r) b q g → g.stamp.delta ≡ r.limits.deltas → IsBefore s g.stamp

  to_limit : (o : Option Stamp) → IsLeastStamp r b o → IfSome o (λ t. t.delta ≡ deltas → IsBefore s t) → BeforeLimit
  to_limit None l k q g i least e = let c : None ≡ Some g = sym (l q) ∙ i in absurd cc
  to_limit (Some t) l k q g i least e =
      let x : g.stamp ≡ t = at_least_stamp r b t l q g i least in
      subst (IsBefore s) (sym x) (k (ap (λ u. u.delta) (sym x) ∙ e ∙ sym same))

  from_limit : (o : Option Stamp) → IsLeastStamp r b o → BeforeLimit → IfSome o (λ t. t.delta ≡ deltas → IsBefore s t)
  from_limit None l k = tt
  from_limit (Some t) l k = λ e.
      let x = least_front r b t l in
      subst (IsBefore s) x.at (k x.process x.front x.has x.is_least (ap (λ u. u.delta) x.at ∙ e ∙ same))

module _ (r : Rules) (ys : List (Act Stamp Reads)) (cut : Cut) (c : IsCutOf r ys cut) (at : Place) where
  -- what is asked of the place by the activations
  pub record IsBeforeEnds : Type 0 where
    pub time : at.stamp.time.0 ≤ cut.stop.0
    pub broken : IfSome cut.broken (λ x. ComesBefore at x.place)
    pub stopped : IfSome cut.stopped (λ s. IsBefore s at.stamp → ⊥)

  pub to_uncut : IsBeforeEnds → IsUncut r ys at
  to_uncut w = record {
    in_time = subst (λ t. at.stamp.time.0 ≤ t.0) c.stop w.time;
    uncut = λ y i h.
        ⊎_elim (λ x. no_break r ys at cut.broken c.broken w.broken y i x.0 x.1) (λ x. no_stop r ys at cut.stopped c.stopped w.stopped y i x.0 x.1) h;
  }

  pub from_uncut : IsUncut r ys at → IsBeforeEnds
  from_uncut w = record {
    time = subst (λ t. at.stamp.time.0 ≤ t.0) (sym c.stop) w.in_time;
    broken = before_break r ys at cut.broken c.broken (λ y i k h. w.uncut y i (inl (k, h)));
    stopped = before_stop r ys at cut.stopped c.stopped (λ y i k h. w.uncut y i (inr (k, h)));
  }

module _ (r : Rules) (b : Board r) (at : Place) where
  pub uncut_below : IsBelowCut r b at.stamp at.process → IsUncut r b.log at
  uncut_below h = record { in_time = h.in_time; uncut = h.uncut }

  -- where all fronts are below the limit of deltas, that cuts off nothing
  pub below_uncut : ((q : ℕ) (g : Front Stamp) → IsFront r b q g → g.stamp.delta < r.limits.deltas) → IsUncut r b.log at → IsBelowCut r b at.stamp at.process
  below_uncut none h = record {
    in_time = h.in_time;
    uncut = h.uncut;
    before_limit = λ q g i least e. let l = none q g i in absurd (omega (arith, l, e));
  }

  module _ (cut : Cut) (c : IsCutOf r b.log cut) (first : Option Stamp) (l : IsLeastStamp r b first) where
    pub to_below : IsUncut r b.log at → IfSome first (λ s. s.delta ≡ cut.deltas → IsBefore at.stamp s) → IsBelowCut r b at.stamp at.process
    to_below h k = record {
      in_time = h.in_time;
      uncut = h.uncut;
      before_limit = to_limit r b at.stamp cut.deltas c.deltas first l k;
    }

    pub from_below : IsBelowCut r b at.stamp at.process → IfSome first (λ s. s.delta ≡ cut.deltas → IsBefore at.stamp s)
    from_below h = from_limit r b at.stamp cut.deltas c.deltas first l h.before_limit

-- ---- the cut is closed downwards

-- what comes before a place that is below the cut is below it, too
pub below_before : (r : Rules) (b : Board r) (a c : Place) → ComesBefore a c → IsBelowCut r b c.stamp c.process → IsBelowCut r b a.stamp a.process
below_before r b a c h below =
    let later : ComesBefore c a → ⊥ = λ k. not_both a c h k in
    let n : IsBefore c.stamp a.stamp → ⊥ = λ k. later (inl k) in
    record {
      in_time = let t = no_later_time a.stamp c.stamp n in let u = below.in_time in omega (arith, t, u);
      uncut = λ y k e.
          below.uncut y k
          (⊎_elim (λ x. inl (x.0, cut_off_on (place_of y.stamp y.process) a c x.1 later)) (λ x. inr (x.0, before_on y.stamp a.stamp c.stamp x.1 n)) e);
      before_limit = λ q g i least e. before_by a.stamp c.stamp g.stamp n (below.before_limit q g i least e);
    }
