-- The histories that a board gives once it is over, and the order of its pieces.
use Rattle.std.proofs.Common.{◌≡◌, ℕ, suc, zero, ◌+◌, ◌<◌, ⊎_elim, List, [], ◌∷◌, ◌++◌, length, get_or, Option, None, Some, is_lt, nat_cmp, refl, sym, ap, ◌∙◌, subst, arith}
use Rattle.std.specs.Prelude.{MatchOption}
use Rattle.std.specs.Ordering.{ordering_then}
use Rattle.std.proofs.lemmas.Bool.Decides.{nat_tests}
use Rattle.std.proofs.lemmas.Bool.{cases_eq}
use Rattle.std.proofs.lemmas.List.{length-append}
use Rattle.ooo_time.specs.declared.stamp.Place.{Place}
use Rattle.ooo_time.specs.declared.stamp.Stamp.{Stamp}
use Rattle.ooo_history.specs.declared.run.Entry.{Entry}
use Rattle.ooo_channels.specs.Conditions.{AreOrdered}
use Rattle.ooo_channels.specs.Cycles.{cycle_of, whole_history}
use Rattle.ooo_channels.specs.Operations.{Operations, operations_before}
use Rattle.ooo_dispatch.specs.ReadOff.{history_by, precedes}
use Rattle.ooo_board.specs.Finishing.{AreHistoriesBy}
use Rattle.std.specs.Prelude.{IfSome, filter}
use Rattle.std.specs.List.Sorted.{IsPermutation, IsSortedBy}
use Rattle.ooo_time.specs.Scales.{greatest_delta}
use Rattle.ooo_code.specs.declared.design.Design.{Design}
use Rattle.ooo_code.specs.declared.limits.Limits.{Limits}
use Rattle.ooo_history.specs.declared.run.Run.{Run}
use Rattle.ooo_meaning.specs.Runs.{Shows as ShowsRun}
use Rattle.ooo_meaning.specs.Sequence.{Result}
use Rattle.ooo_schedules.specs.Model.{Act}
use Rattle.ooo_dispatch.specs.declared.reads.Reads.{Reads}
use Rattle.ooo_dispatch.specs.declared.step.Step.{Step}
use Rattle.ooo_dispatch.specs.Banks.{operations_on}
use Rattle.ooo_dispatch.specs.Boards.{Board}
use Rattle.ooo_dispatch.specs.Least.{rules_of}
use Rattle.ooo_dispatch.specs.ReadOff as read_off
use Rattle.ooo_dispatch.specs.ReadOff.{AreEnds, IsReadOff, ReportsAreReadOff, break_shown, counted_before, end_at, ended_by, is_shown, latest_stamp, stop_shown}
use Rattle.ooo_dispatch.specs.Reports.{run_of_board}
use Rattle.ooo_dispatch.specs.Rules.{Rules}
use Rattle.ooo_tables.specs.declared.tables.Tables.{Tables}
use Rattle.ooo_fronts.specs.declared.cut.Break.{Break}
use Rattle.ooo_fronts.specs.Cuts as cuts
use Rattle.ooo_fronts.specs.Cuts.{IsLeastStamp}
use Rattle.ooo_board.specs.Cores.{after}
use Rattle.ooo_board.specs.Finishing.{IsAskedFor, IsFinished, break_of, ends_of, shows}
use Rattle.ooo_board.specs.Forgetting.{forgetting}
use Rattle.ooo_board.specs.declared.cores.Core.{Core}
use Rattle.ooo_board.proofs.Forgotten.{history_same}
use Rattle.ooo_board.proofs.Handing.{channels_of}

-- ---- one more

get_left : {A : Type 0} (xs : List A) (y : A) (k : ℕ) (d : A) → k < length xs → get_or (xs ++ y ∷ []) k d ≡ get_or xs k d
get_left [] y k d lt = absurd (omega (arith, lt))
get_left (x ∷ xs) y zero d lt = refl
get_left (x ∷ xs) y (suc k) d lt = get_left xs y k d (omega (arith, lt))

get_last : {A : Type 0} (xs : List A) (y : A) (d : A) → get_or (xs ++ y ∷ []) (length xs) d ≡ y
get_last [] y d = refl
get_last (x ∷ xs) y d = get_last xs y d

pub histories_more : (ops : Operations) (before : Option Stamp) (n : ℕ) (made : List (List Entry)) (h : List Entry) → AreHistoriesBy ops before n made → h ≡ history_by ops before n →
    AreHistoriesBy ops before (n + 1) (made ++ h ∷ [])
histories_more ops before n made h are is = record {
  count = length-append made (h ∷ []) ∙ ap (λ k. k + 1) are.count;
  each = λ c lt. ⊎_elim (λ e. last c e) (λ ne. earlier c (omega (arith, lt, ne))) (cases_eq c n);
}
  where
    last : (c : ℕ) → c ≡ n → get_or (made ++ h ∷ []) c [] ≡ history_by ops before c
    last c e =
        ap (λ k. get_or (made ++ h ∷ []) k []) (e ∙ sym are.count) ∙ get_last made h [] ∙ is ∙ ap (history_by ops before) (sym e)

    earlier : (c : ℕ) → c < n → get_or (made ++ h ∷ []) c [] ≡ history_by ops before c
    earlier c lt = get_left made h c [] (let k = are.count in omega (arith, lt, k)) ∙ are.each c lt

pub by_before : (ops : Operations) (before : Option Stamp) (c : ℕ) (h : List Entry) → AreOrdered ops c →
    MatchOption before (h ≡ whole_history (cycle_of ops c)) (λ s. AreOrdered ops c → h ≡ whole_history (cycle_of (operations_before s ops) c)) → h ≡ history_by ops before c
by_before ops None c h ordered m = m
by_before ops (Some s) c h ordered m = m ordered

-- ---- the order of places

-- as the derived comparison has it
pub by_order : (a b : Place) →
    is_lt (ordering_then (ordering_then (nat_cmp a.stamp.time.0 b.stamp.time.0) (nat_cmp a.stamp.delta b.stamp.delta)) (nat_cmp a.process b.process)) ≡ precedes a b
by_order a b = grind (arith, nat_tests)

-- ---- what is kept

abbrev Activation : Type 0
Activation = Act Stamp Reads

first_break : (r : Rules) (ys : List Activation) (o : Option Break) → cuts.IsFirstBreak r ys o → read_off.IsFirstBreak r ys (break_of o)
first_break r ys None h = h
first_break r ys (Some x) h = ((h.0.0, h.0.1, record { at = h.0.2.at; how = h.0.2.how }), h.1)

first_stop : (r : Rules) (ys : List Activation) (o : Option Stamp) → cuts.IsFirstStop r ys o → read_off.IsFirstStop r ys o
first_stop r ys None h = h
first_stop r ys (Some s) h = h

next_stamp : (r : Rules) (b : Board r) (o : Option Stamp) → IsLeastStamp r b o → read_off.IsNextStamp r b o
next_stamp r b None h = h
next_stamp r b (Some s) h = h

-- ---- the run of a board that is over

module _ (design : Design) (limits : Limits) (t : Tables) (steps : List Step) (c : Core) (f : IsFinished design limits t steps c)
    (off : ReportsAreReadOff (rules_of design limits t) t.advance (after design limits t steps)) where
  abbrev r : Rules
  r = rules_of design limits t

  abbrev b : Board (rules_of design limits t)
  b = (after design limits t steps).board

  pub asked : IsAskedFor c.bank (forgetting c.below (operations_on r b))
  asked = record { after = f.has.core.has_bank.applied; ordered = off.ordered }

  pub channels_are : length (operations_on r b).channels ≡ length design.channels
  channels_are = ap length (channels_of r b.log)

  pub stop_low : IfSome c.cut.stopped (λ s. s.delta < greatest_delta)
  stop_low = at c.cut.stopped f.has.core.has_cut.stopped
    where
      at : (o : Option Stamp) → cuts.IsFirstStop r b.log o → IfSome o (λ s. s.delta < greatest_delta)
      at None h = tt
      at (Some s) h =
          let low = off.below_limit h.0.0 h.0.1 in
          let same : h.0.0.stamp.delta ≡ s.delta = ap (λ x. x.delta) h.0.3 in
          let top = f.has.stands.deltas in
          omega (arith, low, same, top)

  -- what a run is made of
  pub record IsMadeOf (next : Option Stamp) (run : Run) : Type 0 where
    pub least : IsLeastStamp r b next
    pub pieces : IsPermutation (filter (λ x. shows c.cut next x.place) c.pieces.items) run.pieces
    pub in_order : IsSortedBy (λ x y. precedes x.place y.place) run.pieces
    pub histories : AreHistoriesBy (forgetting c.below (operations_on r b)) (counted_before c.cut.deltas (ends_of c.cut next)) (length design.channels) run.channels
    pub end :
        run.end
        ≡ ended_by (break_shown c.cut.deltas (ends_of c.cut next) (break_of c.cut.broken)) (stop_shown c.cut.deltas next c.cut.stopped)
        (end_at r (latest_stamp (filter (shows c.cut next) c.places.items)) next)
    pub activations : run.activations ≡ length (filter (shows c.cut next) c.places.items)

  module _ (next : Option Stamp) (run : Run) (m : IsMadeOf next run) where
    abbrev e : read_off.Ends
    e = ends_of c.cut next

    deltas : c.cut.deltas ≡ limits.deltas
    deltas = f.has.core.has_cut.deltas

    is_read_off : IsReadOff r b e run
    is_read_off = record {
      pieces =
          subst (λ n. IsPermutation (filter (λ x. is_shown n e x.place) (read_off.pieces_in r b.log)) run.pieces) deltas
          (subst (λ ps. IsPermutation (filter (λ x. shows c.cut next x.place) ps) run.pieces) f.has.core.has_pieces m.pieces);
      in_order = m.in_order;
      channels = m.histories.count;
      histories = λ n lt. m.histories.each n lt ∙ history_same c.below (operations_on r b) (counted_before c.cut.deltas e) n ∙ ap (λ k. history_by (operations_on r b) (counted_before k e) n) deltas;
      end =
          m.end
          ∙ ap (λ k. ended_by (break_shown k e (break_of c.cut.broken)) (stop_shown k next c.cut.stopped) (end_at r (latest_stamp (filter (is_shown k e) c.places.items)) next)) deltas
          ∙ ap (λ ps. ended_by (break_shown limits.deltas e (break_of c.cut.broken)) (stop_shown limits.deltas next c.cut.stopped) (end_at r (latest_stamp (filter (is_shown limits.deltas e) ps)) next)) f.has.core.has_places;
      activations = m.activations ∙ ap (λ k. length (filter (is_shown k e) c.places.items)) deltas ∙ ap (λ ps. length (filter (is_shown limits.deltas e) ps)) f.has.core.has_places;
    }

    are_ends : AreEnds r b e
    are_ends = record {
      broken = first_break r b.log c.cut.broken f.has.core.has_cut.broken;
      stopped = first_stop r b.log c.cut.stopped f.has.core.has_cut.stopped;
      next = next_stamp r b next m.least;
    }

    pub run_shows : (found : Result) → ShowsRun (run_of_board r b) found → ShowsRun run found
    run_shows found shown = off.read_off e run f.over are_ends is_read_off found shown
