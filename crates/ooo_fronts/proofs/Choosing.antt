-- Who may run, process by process.
use Rattle.std.proofs.Common.{◌≡◌, ◌≢◌, ◌↔◌, Bool, IsTrue, IfSome, ℕ, ◌+◌, ◌<◌, ◌⊎◌, inl, inr, ⊎_elim, List, length, Option, Some, None, refl, sym, ap, ◌∙◌, subst, arith, slice_index_or}
use Rattle.std.proofs.lemmas.Bool.{cases_eq, cases_lt, cases_order}
use Rattle.std.proofs.lemmas.List.{get_or_past}
use Rattle.ooo_time.specs.declared.stamp.Stamp.{Stamp}
use Rattle.ooo_time.specs.declared.stamp.Place.{Place}
use Rattle.ooo_time.specs.Stamps.{IsBefore, ComesBefore}
use Rattle.ooo_meaning.specs.World.{place_of}
use Rattle.ooo_schedules.specs.Model as board
use Rattle.ooo_dispatch.specs.Boards.{Board, IsFront, model}
use Rattle.ooo_dispatch.specs.Least.{Advance, IsBelowCut, MayRun}
use Rattle.ooo_dispatch.specs.Rules.{Rules}
use Rattle.ooo_dispatch.specs.Schedules.{NoDeadEnd}
use Rattle.ooo_dispatch.specs.Steps.{Replay}
use Rattle.ooo_fronts.specs.declared.choice.Choice.{Choice}
use Rattle.ooo_fronts.specs.declared.choice.State.TheVariants.{Waiting}
use Rattle.ooo_fronts.specs.declared.front.Front.{Front}
use Rattle.ooo_fronts.specs.Fronts.{AreFrontsOf, front_is, maybe_front}
use Rattle.ooo_fronts.specs.Choices.{AllBelowLimit, IsBelowLimit, IsBest, IsBestBelow, IsChoiceOf, IsPick, IsReady, IsReadyAt, MayRunNow, PicksLeast}
use Rattle.ooo_fronts.proofs.Below.{below_before}
use Rattle.ooo_fronts.proofs.Earliest.{earliest, least_on_board}
use Rattle.ooo_fronts.proofs.Leasts.{least_below, not_at_limit, some_is, some_least}
use Rattle.ooo_fronts.proofs.Places.{compare, compare_places, joins, not_both}
use Rattle.ooo_fronts.proofs.Ruling.{kept_is}

-- ---- fronts

module _ (r : Rules) (b : Board r) (fronts : List (Option Front)) (k : AreFrontsOf r b fronts) where
  pub has_front : (p : ℕ) (f : Front) → slice_index_or fronts p None ≡ Some f → IsFront r b p (front_is f)
  has_front p f e = k.each p ∙ ap maybe_front e

  pub no_front : (p : ℕ) (g : board.Front Stamp) → slice_index_or fronts p None ≡ None → IsFront r b p g → ⊥
  no_front p g e i = let c : None ≡ Some g = sym (k.each p ∙ ap maybe_front e) ∙ i in absurd cc

  pub same_front : (p : ℕ) (f : Front) (g : board.Front Stamp) → slice_index_or fronts p None ≡ Some f → IsFront r b p g → g ≡ front_is f
  same_front p f g e i = some_is g (front_is f) (sym i ∙ has_front p f e)

  pub front_within : (p : ℕ) (g : board.Front Stamp) → IsFront r b p g → p < length fronts
  front_within p g i = ⊎_elim (λ h. h) (λ h. absurd (no_front p g (get_or_past fronts p None h) i)) (cases_lt p (length fronts))

-- where each front that is kept is below the limit of deltas, each of the board is
pub all_below : (r : Rules) (least : Advance) (b : Board r) (choice : Choice) → IsChoiceOf r least b choice → AllBelowLimit choice → (q : ℕ) (g : board.Front Stamp) → IsFront r b q g → g.stamp.delta < r.limits.deltas
all_below r least b choice k all q g i =
    let x = kept_is choice.fronts.now q g (sym (k.fronts.each q) ∙ i) in
    subst (λ d. g.stamp.delta < d) k.cut.deltas (subst (λ (y : board.Front Stamp). y.stamp.delta < choice.cut.now.deltas) x.2 (all q x.0 x.1))

-- the front of one process more
pub below_none : (choice : Choice) (p : ℕ) → slice_index_or choice.fronts.now p None ≡ None → IsBelowLimit choice p
below_none choice p none f own = let both : None ≡ Some f = sym none ∙ own in absurd cc

pub below_some : (choice : Choice) (p : ℕ) (f : Front) → slice_index_or choice.fronts.now p None ≡ Some f → f.stamp.delta < choice.cut.now.deltas → IsBelowLimit choice p
below_some choice p f own limit g is =
    let both : Some f ≡ Some g = sym own ∙ is in
    let same : f ≡ g = cc in
    subst (λ (x : Front). x.stamp.delta < choice.cut.now.deltas) same limit

pub below_more : (choice : Choice) (n : ℕ) → ((q : ℕ) → q < n → IsBelowLimit choice q) → IsBelowLimit choice n → (q : ℕ) → q < n + 1 → IsBelowLimit choice q
below_more choice n all one q k =
    ⊎_elim (λ e. subst (IsBelowLimit choice) (sym e) one) (λ d. all q (⊎_elim (λ x. x) (λ x. absurd (d (omega (arith, x, k)))) (cases_lt q n))) (cases_eq q n)

-- ---- the best of those so far

-- the earlier of two places, of those that there are: the first, where the second isn't before it
abbrev pub IsEarlierOf : Option Place → Option Place → Option Place → Type 0
IsEarlierOf None other result = result ≡ other
IsEarlierOf (Some best) None result = result ≡ Some best
IsEarlierOf (Some best) (Some other) result =
    ComesBefore other best × (result ≡ Some other) ⊎ (ComesBefore other best → ⊥) × (result ≡ Some best)

module _ (r : Rules) (least : Advance) (b : Board r) (n : ℕ) where
  under : (q : ℕ) → q < n + 1 → q ≢ n → q < n
  under q k d = ⊎_elim (λ e. absurd (d e)) (λ x. ⊎_elim (λ y. y) (λ y. absurd (omega (arith, y, k))) x) (cases_order q n)

  -- the process at a place, and another front of it
  same_place : (at : Place) (p : ℕ) (f g : board.Front Stamp) → at ≡ place_of f.stamp p → IsReady r least b p f → IsReady r least b p g → at ≡ place_of g.stamp p
  same_place at p f g e m w = e ∙ ap (λ x. place_of x.stamp p) (some_is f g (sym m.front ∙ w.front))

  -- process n is the best then
  is_best : (at : Place) → IsReadyAt r least b n (Some at) → ((q : ℕ) (g : board.Front Stamp) → q < n → IsReady r least b q g → ComesBefore at (place_of g.stamp q)) → IsBest r least b (n + 1) at
  is_best at (f, m, e) h =
      let p : at.process ≡ n = ap (λ x. x.process) e in
      record {
        front = f;
        ready = subst (λ t. IsReady r least b t f) (sym p) m;
        place = e ∙ ap (place_of f.stamp) (sym p);
        below = omega (arith, p);
        first = λ q g k d w. h q g (under q k (λ x. d (x ∙ sym p))) w;
      }

  -- the best so far stays so
  stays_best : (at : Place) → IsBest r least b n at → ((g : board.Front Stamp) → IsReady r least b n g → ComesBefore at (place_of g.stamp n)) → IsBest r least b (n + 1) at
  stays_best at h k = record {
    front = h.front;
    ready = h.ready;
    place = h.place;
    below = let x = h.below in omega (arith, x);
    first = λ q g l d w. ⊎_elim (λ e. subst (λ t. ComesBefore at (place_of g.stamp t)) (sym e) (k g (subst (λ t. IsReady r least b t g) e w))) (λ c. h.first q g (under q l c) d w) (cases_eq q n);
  }

  pub one_more : (best ready next : Option Place) → IsEarlierOf best ready next → IsBestBelow r least b n best → IsReadyAt r least b n ready → IsBestBelow r least b (n + 1) next
  one_more None None next e h i =
      subst (IsBestBelow r least b (n + 1)) (sym e) (λ q g k w. ⊎_elim (λ x. i g (subst (λ t. IsReady r least b t g) x w)) (λ c. h q g (under q k c) w) (cases_eq q n))
  one_more None (Some at) next e h i = subst (IsBestBelow r least b (n + 1)) (sym e) (is_best at i (λ q g k w. absurd (h q g k w)))
  one_more (Some at) None next e h i = subst (IsBestBelow r least b (n + 1)) (sym e) (stays_best at h (λ g w. absurd (i g w)))
  one_more (Some at) (Some other) next e h i =
      ⊎_elim
      (λ x. subst (IsBestBelow r least b (n + 1)) (sym x.1) (is_best other i (λ q g k w.
      ⊎_elim (λ y. let z = same_place at at.process h.front g h.place h.ready (subst (λ t. IsReady r least b t g) y w) in subst (ComesBefore other) (z ∙ ap (place_of g.stamp) (sym y)) x.0)
      (λ c. joins other at (place_of g.stamp q) x.0 (h.first q g k c w)) (cases_eq q at.process))))
      (λ x. subst (IsBestBelow r least b (n + 1)) (sym x.1) (stays_best at h (λ g w.
      let z : other ≡ place_of g.stamp n = same_place other n i.0 g i.2 i.1 w in
      subst (ComesBefore at) z
      (⊎_elim (λ y. y) (λ y. ⊎_elim (λ v. let p : other.process ≡ n = ap (λ t. t.process) z in let u = v.1 in let l = h.below in absurd (omega (arith, p, u, l))) (λ v. absurd (x.0 v)) y) (compare_places at other))))) e

-- a place that is at an earlier stamp is the earlier one
pub taken : (best : Option Place) (at : Place) → IfSome best (λ x. IsBefore at.stamp x.stamp) → IsEarlierOf best (Some at) (Some at)
taken None at h = refl
taken (Some x) at h = inl (inl h, refl)

pub none_taken : (best : Option Place) → IsEarlierOf best None best
none_taken None = refl
none_taken (Some x) = refl

pub still_within : (n : ℕ) (best : Option Place) → IfSome best (λ x. x.process < n) → IfSome best (λ x. x.process < n + 1)
still_within n None h = tt
still_within n (Some x) h = omega (arith, h)

-- ---- which process may run but for the cut

module _ (r : Rules) (least : Advance) (b : Board r) (choice : Choice) (k : IsChoiceOf r least b choice) (p : ℕ) where
  pub ready_place : (f : Front) → slice_index_or choice.fronts.now p None ≡ Some f → p < length choice.states.now → f.stamp.delta < choice.cut.now.deltas →
      slice_index_or choice.states.now p Waiting ≡ Waiting → slice_index_or choice.held.now p 0 ≡ 0 → IsReadyAt r least b p (Some (record { stamp = f.stamp; process = p }))
  ready_place f own in_range limit waits free =
      let i = has_front r b choice.fronts.now k.fronts p f own in (
        front_is f,
        record {
          idle = (k.states.each p in_range).0 waits;
          front = i;
          below_limit = subst (λ d. f.stamp.delta < d) k.cut.deltas limit;
          free = λ q g d j. (k.held p (front_is f) (sym (k.fronts.each p) ∙ i)).0 free q g d (sym (k.fronts.each q) ∙ j);
        },
        refl,
      )

  pub unready_state : p < length choice.states.now → (slice_index_or choice.states.now p Waiting ≡ Waiting → ⊥) → IsReadyAt r least b p None
  unready_state in_range n g m = n ((k.states.each p in_range).1 m.idle)

  pub unready_held : (slice_index_or choice.held.now p 0 ≡ 0 → ⊥) → IsReadyAt r least b p None
  unready_held n g m = n ((k.held p g (sym (k.fronts.each p) ∙ m.front)).1 (λ q h d j. m.free q h d (k.fronts.each q ∙ j)))

  pub unready_limit : (f : Front) → slice_index_or choice.fronts.now p None ≡ Some f → (f.stamp.delta < choice.cut.now.deltas → ⊥) → IsReadyAt r least b p None
  unready_limit f own n g m =
      let same = same_front r b choice.fronts.now k.fronts p f g own m.front in
      n (subst (λ d. f.stamp.delta < d) (sym k.cut.deltas) (subst (λ (x : board.Front Stamp). x.stamp.delta < r.limits.deltas) same m.below_limit))

  -- a front at a stamp that isn't earlier comes after the best so far
  pub not_earlier : (f : Front) → slice_index_or choice.fronts.now p None ≡ Some f → (best : Option Place) → IsBestBelow r least b p best → (IfSome best (λ x. IsBefore f.stamp x.stamp) → ⊥) → IsBestBelow r least b (p + 1) best
  not_earlier f own None h n = absurd (n tt)
  not_earlier f own (Some at) h n = stays_best r least b p at h (λ g w.
      subst (λ (x : board.Front Stamp). ComesBefore at (place_of x.stamp p)) (sym (same_front r b choice.fronts.now k.fronts p f g own w.front)) (elim (compare at.stamp f.stamp) [
        | inl before ↦ inl before
        | inr other ↦ elim other [ inl same ↦ inr (same, h.below) | inr later ↦ absurd (n later) ]
      ]))

  pub unready_none : slice_index_or choice.fronts.now p None ≡ None → IsReadyAt r least b p None
  unready_none none g m = absurd (no_front r b choice.fronts.now k.fronts p g none m.front)

-- who may run may do so but for the cut
ready_where : (r : Rules) (least : Advance) (b : Board r) (p : ℕ) (f : board.Front Stamp) → MayRun r least b p f → IsReady r least b p f
ready_where r least b p f m = record { idle = m.idle; front = m.front; below_limit = m.below_limit; free = m.free }

may_below : (r : Rules) (least : Advance) (b : Board r) (p : ℕ) (f : board.Front Stamp) → IsReady r least b p f → IsBelowCut r b f.stamp p → MayRun r least b p f
may_below r least b p f h c = record { idle = h.idle; front = h.front; below_cut = c; below_limit = h.below_limit; free = h.free }

-- none is left
module _ (r : Rules) (least : Advance) (b : Board r) (n : ℕ) (all : (q : ℕ) (g : board.Front Stamp) → IsFront r b q g → q < n) where
  pub picks_none : IsBestBelow r least b n None → IsPick r least b None
  picks_none h = λ q g w. h q g (all q g w.front) (ready_where r least b q g w)

  -- the first is below the cut
  pub picks : (at : Place) → IsBestBelow r least b n (Some at) → IsBelowCut r b at.stamp at.process → IsPick r least b (Some at.process)
  picks at h c = (
    h.front,
    may_below r least b at.process h.front h.ready (subst (λ x. IsBelowCut r b x.stamp x.process) h.place c),
    λ q g d w. subst (λ x. ComesBefore x (place_of g.stamp q)) h.place (h.first q g (all q g w.front) d (ready_where r least b q g w)),
  )

  -- the first isn't, so none is
  pub picks_cut_off : (at : Place) → IsBestBelow r least b n (Some at) → (IsBelowCut r b at.stamp at.process → ⊥) → IsPick r least b None
  picks_cut_off at h c = λ q g w.
      ⊎_elim
      (λ e.
      let z : at ≡ place_of g.stamp at.process = same_place r least b n at at.process h.front g h.place h.ready (subst (λ t. IsReady r least b t g) e (ready_where r least b q g w)) in
      c (subst (λ x. IsBelowCut r b x.stamp x.process) (sym (z ∙ ap (place_of g.stamp) (sym e))) w.below_cut))
      (λ d. c (below_before r b at (place_of g.stamp q) (h.first q g (all q g w.front) d (ready_where r least b q g w)) w.below_cut)) (cases_eq q at.process)

-- ---- where no process runs

pub picks_least : (r : Rules) (least : Advance) (s : Replay r) → NoDeadEnd r least s → PicksLeast r least s
picks_least r least s law quiet up kept are p h pick k =
    let first = earliest kept in
    let w = some_least r s.board first.0 (least_on_board r s.board kept first.0 are first.1) p h.0 h.1 in
    let x = w.1 in
    let c = least_below r s.board p h.0 h.1 x.process x.front x.has x.is_least h.2 in
    let n = not_at_limit r s.board p h.0 h.1 x.process x.front x.has x.is_least h.2 in
    let d : x.front.stamp.delta < r.limits.deltas = let u = up x.process x.front x.has in ⊎_elim (λ e. absurd (n e)) (λ y. ⊎_elim (λ z. z) (λ z. absurd (omega (arith, u, z))) y) (cases_order x.front.stamp.delta r.limits.deltas) in
    let m : MayRun r least s.board x.process x.front = law quiet x.process x.front x.has x.is_least c d in
    record { process = x.process; front = x.front; has = x.has; is_least = x.is_least; picked = at x.process x.front x.is_least m pick k }
  where
    at : (q : ℕ) (g : board.Front Stamp) → board.IsLeast (model r) s.board q g → MayRun r least s.board q g → (pick : Option ℕ) → IsPick r least s.board pick → pick ≡ Some q
    at q g least_q m None k = absurd (k q g m)
    at q g least_q m (Some o) k =
        ⊎_elim (λ e. ap Some (sym e))
        (λ d. absurd (not_both (place_of k.0.stamp o) (place_of g.stamp q) (k.2 q g d m) (least_q o k.0 (λ x. d (sym x)) k.1.front))) (cases_eq q o)

-- a process that may run but for the cut may run just where its place is below that
pub may_where : (r : Rules) (least : Advance) (b : Board r) (p : ℕ) (at : Place) → IsReadyAt r least b p (Some at) → (t : Bool) → IsTrue t ↔ IsBelowCut r b at.stamp at.process → IsTrue t ↔ MayRunNow r least b p
may_where r least b p at i t k = (
  λ h. (i.0, may_below r least b p i.0 i.1 (subst (λ x. IsBelowCut r b x.stamp x.process) i.2 (k.0 h))),
  λ h. k.1 (subst (λ x. IsBelowCut r b x.stamp x.process) (sym (i.2 ∙ ap (λ (x : board.Front Stamp). place_of x.stamp p) (some_is i.0 h.0 (sym i.1.front ∙ h.1.front)))) h.1.below_cut),
)

pub may_not : (r : Rules) (least : Advance) (b : Board r) (p : ℕ) → IsReadyAt r least b p None → MayRunNow r least b p → ⊥
may_not r least b p i h = i h.0 (ready_where r least b p h.0 h.1)
