-- The run of a board that is over, computed from what is kept in the order of the commits.
use Rattle.std.proofs.Common.{◌≡◌, ℕ, ◌<◌, ◌⊎◌, inl, inr, ⊎_elim, Bool, true, false, not, ◌&&◌, ◌||◌, if◌then◌else◌, List, [], ◌∷◌, ◌++◌, length, map, Option, Some, None, refl, sym, ap, ◌∙◌, subst}
use Rattle.std.specs.Prelude.{filter, fold}
use Rattle.std.proofs.lemmas.List.Sorted.{Contains-permutation, IsPermutation-sym, sum_by-IsPermutation}
use Rattle.ooo_time.specs.declared.stamp.Place.{Place}
use Rattle.ooo_time.specs.declared.stamp.Stamp.{Stamp}
use Rattle.ooo_time.specs.Stamps.{ComesBefore, IsBefore, is_before}
use Rattle.ooo_code.specs.Sound.{IsSound}
use Rattle.ooo_history.specs.declared.run.End.{End}
use Rattle.ooo_history.specs.declared.run.End.TheVariants as end
use Rattle.ooo_history.specs.declared.run.Piece.{Piece}
use Rattle.ooo_history.specs.declared.run.Run.{Run}
use Rattle.ooo_history.specs.Reporting.{output_text}
use Rattle.ooo_meaning.specs.Runs.{Shows as ShowsRun, numbers_from}
use Rattle.ooo_meaning.specs.Sequence.{Result}
use Rattle.ooo_meaning.specs.World.{broken_by, place_of, zero_stamp}
use Rattle.ooo_channels.specs.Cycles.{cycle_of, history_in, whole_history}
use Rattle.ooo_schedules.specs.Delays.{NotAfter}
use Rattle.ooo_schedules.specs.Design.{only, sort}
use Rattle.ooo_schedules.specs.Model.{Dispatched, In, dispatched}
use Rattle.ooo_schedules.specs.Program.{Program, Sound}
use Rattle.ooo_schedules.specs.Reports.{is_below_limit, is_reported, next_stamp}
use Rattle.ooo_schedules.specs.Tables.{EveryScheduleOf, program}
use Rattle.ooo_dispatch.specs.Banks.{operations_on}
use Rattle.ooo_dispatch.specs.Boards.{AreRules, Board, IsLawful, IsOverBoard, model}
use Rattle.ooo_dispatch.specs.Least.{Advance}
use Rattle.ooo_dispatch.specs.ReadOff.{AreEnds, Ends, IsBreakAt, IsFirstBreak, IsFirstStop, IsReadOff, ReportsAreReadOff, break_shown, calls_stop, counted_before, counted_by, end_at, ended_by, history_by, is_past_break, is_past_stop, is_shown, latest_stamp, limit_reached, pieces_in, places_in, precedes, shown_pieces, shown_places, stop_shown}
use Rattle.ooo_dispatch.specs.Reports.{broken_at_last, end_after, end_before, has_stopped, history_after, last_stamp, piece_of, pieces_after, reported_by, run_of_board}
use Rattle.ooo_dispatch.specs.Rules.{Rules, operations_of, outcome_of, process_of, tables}
use Rattle.ooo_dispatch.specs.declared.step.Step.{Step}
use Rattle.ooo_dispatch.specs.declared.step.Step.TheVariants.{Dispatch, Commit, Abandon}
use Rattle.ooo_dispatch.specs.Steps.{AreLawful, IsLawfulStep, Replay, after_step, committed_as, dispatched_at, job_of, nothing_done, replayed}
use Rattle.ooo_dispatch.proofs.Allowed.{job_out}
use Rattle.ooo_dispatch.proofs.Accessed.{contains_in, in_contained}
use Rattle.ooo_dispatch.proofs.Acting.{Does}
use Rattle.ooo_dispatch.proofs.Applied.{before_is, channel_sorted, is_early, same_acting}
use Rattle.ooo_dispatch.proofs.Commits.{Activation, Falls, P, Stands, WithEarlier, in_sorted, log_stands, only_falls, only_in, only_only, sorted_falls, sorted_in}
use Rattle.ooo_dispatch.proofs.Earlier.{history_before, ordered, zero_first}
use Rattle.ooo_dispatch.proofs.Ends.{end_whole, histories_are, last_whole}
use Rattle.ooo_dispatch.proofs.Nexts.{next_is}
use Rattle.ooo_dispatch.proofs.Owners.{in_without, owned}
use Rattle.ooo_dispatch.proofs.Pieces.{ApartPlaces, Descends, IsOf, at_one_place, counted, in_only, in_pieces, log_apart, only_descends, only_same, output_kept, pieces_ascend, sort_descends, summed}
use Rattle.ooo_dispatch.proofs.Reported.{Parts, any_in, apart, below_back, counts, cut_is, in_any, is_precedes, no_break, not_true, parts, places_compare, precedes_is, shown_by, shown_whole, stamps_of, stop_back}
use Rattle.ooo_dispatch.proofs.Sorting.{one_list, rises}
use Rattle.ooo_dispatch.proofs.Stamps.{before_no, compare, irreflexive, is_no, is_yes, then_not_after, transitive}

in_filter : {A : Type 0} (test : A → Bool) (xs : List A) (x : A) → In x (filter test xs) → In x xs
in_filter test [] x i = absurd i
in_filter test (y ∷ xs) x i = at (test y) i (in_filter test xs x)
  where
    at : (b : Bool) → In x (if b then y ∷ filter test xs else filter test xs) → (In x (filter test xs) → In x xs) → In x (y ∷ xs)
    at true (inl e) rec = inl e
    at true (inr j) rec = inr (rec j)
    at false j rec = inr (rec j)

one_stamp : (s t : Stamp) → NotAfter s t → NotAfter t s → s ≡ t
one_stamp s t (inr e) b = e
one_stamp s t (inl lt) (inr e) = sym e
one_stamp s t (inl lt) (inl gt) = absurd (irreflexive s (transitive s t s lt gt))

-- the last one, where it is at a stamp that none is after
last_at : (zs : List Activation) (t : Stamp) → Falls zs → ((y : Activation) → In y zs → NotAfter y.stamp t) → (z : Activation) → In z zs → z.stamp ≡ t → t ≡ last_stamp zs
last_at [] t falls past z i e = absurd i
last_at (h ∷ zs) t falls past z (inl k) e = sym e ∙ ap (λ y. y.stamp) k
last_at (h ∷ zs) t falls past z (inr i) e = sym (one_stamp h.stamp t (past h (inl refl)) (subst (λ s. NotAfter s h.stamp) e (falls.0 z i)))

-- ---- the latest of some stamps

zero_not_after : (s : Stamp) → NotAfter zero_stamp s
zero_not_after s = ⊎_elim (λ lt. inl lt) (λ h. ⊎_elim (λ e. inr e) (λ gt. absurd (zero_first s gt)) h) (compare zero_stamp s)

joins : (s t u : Stamp) → NotAfter s t → NotAfter t u → NotAfter s u
joins s t u (inl a) b = inl (then_not_after s t u a b)
joins s t u (inr e) b = subst (λ x. NotAfter x u) (sym e) b

abbrev later_of : Stamp → Place → Stamp
later_of s a = if is_before s a.stamp then a.stamp else s

later_both : (s : Stamp) (a : Place) → NotAfter s (later_of s a) × NotAfter a.stamp (later_of s a)
later_both s a = at (is_before s a.stamp) refl
  where
    at : (d : Bool) → is_before s a.stamp ≡ d → NotAfter s (if d then a.stamp else s) × NotAfter a.stamp (if d then a.stamp else s)
    at true e = (inl (is_yes s a.stamp e), inr refl)
    at false e = (inr refl, is_no s a.stamp e)

fold_late : (ps : List Place) (s : Stamp) → NotAfter s (fold later_of s ps) × ((a : Place) → In a ps → NotAfter a.stamp (fold later_of s ps))
fold_late [] s = (inr refl, λ a i. absurd i)
fold_late (x ∷ ps) s =
    let k = fold_late ps (later_of s x) in
    let both = later_both s x in
    let t = fold later_of (later_of s x) ps in
    (joins s (later_of s x) t both.0 k.0, λ a i. ⊎_elim (λ e. joins a.stamp (later_of s x) t (subst (λ u. NotAfter u.stamp (later_of s x)) (sym e) both.1) k.0) (λ j. k.1 a j) i)

fold_from : (ps : List Place) (s : Stamp) → (fold later_of s ps ≡ s) ⊎ ((a : Place) × In a ps × (fold later_of s ps ≡ a.stamp))
fold_from [] s = inl refl
fold_from (x ∷ ps) s = ⊎_elim (λ e. at (is_before s x.stamp) refl e) (λ k. inr (k.0, inr k.1, k.2)) (fold_from ps (later_of s x))
  where
    at : (d : Bool) → is_before s x.stamp ≡ d → fold later_of (later_of s x) ps ≡ later_of s x → (fold later_of (later_of s x) ps ≡ s) ⊎ ((a : Place) × In a (x ∷ ps) × (fold later_of (later_of s x) ps ≡ a.stamp))
    at true e h = inr (x, inl refl, h ∙ ap (λ d. if d then x.stamp else s) e)
    at false e h = inl (h ∙ ap (λ d. if d then x.stamp else s) e)

last_late : (zs : List Activation) → Falls zs → (y : Activation) → In y zs → NotAfter y.stamp (last_stamp zs)
last_late [] falls y i = absurd i
last_late (z ∷ zs) falls y (inl e) = inr (ap (λ x. x.stamp) e)
last_late (z ∷ zs) falls y (inr i) = falls.0 y i

last_by : (zs : List Activation) (t : Stamp) → ((y : Activation) → In y zs → NotAfter y.stamp t) → NotAfter (last_stamp zs) t
last_by [] t h = zero_not_after t
last_by (z ∷ zs) t h = h z (inl refl)

-- ---- places

filter_passes : {A : Type 0} (test : A → Bool) (xs : List A) (x : A) → In x (filter test xs) → test x ≡ true
filter_passes test [] x i = absurd i
filter_passes test (y ∷ xs) x i = at (test y) refl i (filter_passes test xs x)
  where
    at : (b : Bool) → test y ≡ b → In x (if b then y ∷ filter test xs else filter test xs) → (In x (filter test xs) → test x ≡ true) → test x ≡ true
    at true e (inl k) rec = ap test k ∙ e
    at true e (inr j) rec = rec j
    at false e j rec = rec j

filter_has : {A : Type 0} (test : A → Bool) (xs : List A) (x : A) → In x xs → test x ≡ true → In x (filter test xs)
filter_has test [] x i e = absurd i
filter_has test (y ∷ xs) x i e = at (test y) refl i (λ j. filter_has test xs x j e)
  where
    at : (b : Bool) → test y ≡ b → (x ≡ y) ⊎ In x xs → (In x xs → In x (filter test xs)) → In x (if b then y ∷ filter test xs else filter test xs)
    at true k (inl s) rec = inl s
    at true k (inr j) rec = inr (rec j)
    at false k (inl s) rec = absurd (apart (ap test (sym s) ∙ e) k)
    at false k (inr j) rec = rec j

in_end : {A : Type 0} (xs : List A) (y x : A) → In x (xs ++ y ∷ []) → In x xs ⊎ (x ≡ y)
in_end [] y x (inl e) = inr e
in_end [] y x (inr i) = absurd i
in_end (z ∷ xs) y x (inl e) = inl (inl e)
in_end (z ∷ xs) y x (inr i) = ⊎_elim (λ j. inl (inr j)) (λ e. inr e) (in_end xs y x i)

end_in : {A : Type 0} (xs : List A) (y x : A) → In x xs ⊎ (x ≡ y) → In x (xs ++ y ∷ [])
end_in [] y x (inl i) = absurd i
end_in [] y x (inr e) = inl e
end_in (z ∷ xs) y x (inl (inl e)) = inl e
end_in (z ∷ xs) y x (inl (inr i)) = inr (end_in xs y x (inl i))
end_in (z ∷ xs) y x (inr e) = inr (end_in xs y x (inr e))

in_places : (zs : List Activation) (a : Place) → In a (places_in zs) → (y : Activation) × In y zs × (a ≡ place_of y.stamp y.process)
in_places [] a i = absurd i
in_places (z ∷ zs) a i =
    ⊎_elim (λ j. let k = in_places zs a j in (k.0, inr k.1, k.2)) (λ e. (z, inl refl, e)) (in_end (places_in zs) (place_of z.stamp z.process) a i)

places_have : (zs : List Activation) (y : Activation) → In y zs → In (place_of y.stamp y.process) (places_in zs)
places_have [] y i = absurd i
places_have (z ∷ zs) y (inl e) = end_in (places_in zs) (place_of z.stamp z.process) (place_of y.stamp y.process) (inr (ap (λ x. place_of x.stamp x.process) e))
places_have (z ∷ zs) y (inr i) = end_in (places_in zs) (place_of z.stamp z.process) (place_of y.stamp y.process) (inl (places_have zs y i))

-- ---- in order of place

-- the last one in order of place is the first of the list
first : (zs : List Activation) (z : Activation) → In z zs → Descends zs → ((h : Activation) → In h zs → ComesBefore (place_of z.stamp z.process) (place_of h.stamp h.process) → ⊥) → (rest : List Activation) × (zs ≡ z ∷ rest)
first [] z i d none = absurd i
first (h ∷ zs) z (inl e) d none = (zs, ap (λ y. y ∷ zs) (sym e))
first (h ∷ zs) z (inr i) d none = absurd (none h (inl refl) (d.0 z i))

-- ---- the limit of deltas

module _ (r : Rules) (least : Advance) where
  -- each activation is below it
  abbrev AreBelow : Board r → Type 0
  AreBelow b = (y : Activation) → Dispatched (model r) y b → y.stamp.delta < r.limits.deltas

  below_step : (s : Replay r) (step : Step) → IsLawfulStep r least s step → AreBelow s.board → AreBelow (after_step r s step).board
  below_step s (Dispatch p) h below = subst (λ o. AreBelow (dispatched_at r s.board p o)) (sym h.2.front) next
    where
      next : AreBelow (dispatched (model r) s.board p h.1)
      next y (inl i) = below y (inl i)
      next y (inr (inl e)) = subst (λ z. z.stamp.delta < r.limits.deltas) (sym e) h.2.below_limit
      next y (inr (inr i)) = below y (inr i)
  below_step s (Commit p) h below = at (job_of r s p) refl
    where
      put : (k : Activation) → job_of r s p ≡ Some k → AreBelow (committed_as r s.board (Some k))
      put k e y (inl (inl same)) = subst (λ z. z.stamp.delta < r.limits.deltas) (sym same) (below k (inr (job_out r s p k e)))
      put k e y (inl (inr i)) = below y (inl i)
      put k e y (inr i) = below y (inr (in_without k.process s.board.out y i).0)

      at : (o : Option Activation) → job_of r s p ≡ o → AreBelow (committed_as r s.board o)
      at None e = below
      at (Some k) e = put k e
  below_step s (Abandon p) h below = below

  below_on : (s : Replay r) (steps : List Step) → AreLawful r least s steps → AreBelow s.board → AreBelow (replayed r s steps).board
  below_on s [] h below = below
  below_on s (step ∷ steps) h below = below_on (after_step r s step) steps h.1 (below_step s step h.0 below)

  pub below_limit : (steps : List Step) → AreLawful r least (nothing_done r) steps → (y : Activation) → In y (replayed r (nothing_done r) steps).board.log → y.stamp.delta < r.limits.deltas
  below_limit steps h y i = below_on (nothing_done r) steps h (λ z j. ⊎_elim (λ k. absurd k) (λ k. absurd k) j) y (inl i)

module _ (r : Rules) (least : Advance) (rules : AreRules r) (sound : IsSound r.design) (does : Does) (runs : Sound (program (tables r))) (every : EveryScheduleOf (tables r)) (s : Replay r) (lawful : IsLawful r s.board) where
  abbrev b : Board r
  b = s.board

  abbrev p : Program
  p = program (tables r)

  abbrev limit : ℕ
  limit = r.limits.deltas

  stands : WithEarlier (Stands r every) b.log
  stands = log_stands r every b lawful

  places_apart : WithEarlier ApartPlaces b.log
  places_apart = log_apart r every b.log stands

  module _ (e : Ends) (over : IsOverBoard r b) (ends : AreEnds r b e) where
    abbrev test : Place → Bool
    test a = is_shown limit e a

    abbrev shown : Activation → Bool
    shown y = test (place_of y.stamp y.process)

    abbrev sorted : List Activation
    sorted = sort (P r) b.log

    -- the activations that are shown, in order of place
    abbrev ys : List Activation
    ys = only shown sorted

    next : e.next ≡ next_stamp p b
    next = next_is r runs b lawful over.quiet e.next ends.next

    shown_is : (y : Activation) → is_reported p b y ≡ shown y
    shown_is y =
        ap (λ x. not x && is_below_limit limit (next_stamp p b) y.stamp) (cut_is r b.log e ends.broken ends.stopped y)
        ∙ ap (λ o. not (is_past_break e.broken (place_of y.stamp y.process) || is_past_stop e.stopped y.stamp) && is_below_limit limit o y.stamp) (sym next)

    reported_is : reported_by r b ≡ ys
    reported_is = only_same (is_reported p b) shown shown_is sorted

    descends : Descends ys
    descends = only_descends shown sorted (sort_descends r b.log places_apart)

    falls : Falls ys
    falls = only_falls shown sorted (sorted_falls r b.log)

    in_ys : (y : Activation) → In y b.log → shown y ≡ true → In y ys
    in_ys y i = in_only shown sorted y (sorted_in r b.log y i)

    of_ys : (y : Activation) → In y ys → In y b.log × (shown y ≡ true)
    of_ys y i = let k = only_in shown sorted y i in (in_sorted r b.log y k.0, k.1)

    parts_of : (y : Activation) → In y ys → Parts limit e (place_of y.stamp y.process)
    parts_of y i = parts limit e (place_of y.stamp y.process) (of_ys y i).1

    -- ---- what was printed

    own : (q u : Piece) → IsOf r b.log q → IsOf r b.log u → q.place ≡ u.place → q ≡ u
    own q u k l same =
        k.2 ∙ ap (piece_of r) (at_one_place b.log places_apart k.0 l.0 k.1 l.1 (ap (λ x. x.place) (sym k.2) ∙ same ∙ ap (λ x. x.place) l.2)) ∙ sym l.2

    output_is : (run : Run) → IsReadOff r b e run → output_text run.pieces ≡ output_text (pieces_after r ys)
    output_is run h =
        ap output_text
        (one_list (IsOf r b.log) own run.pieces (pieces_in r ys)
        (λ q i. in_pieces r b.log q (in_filter (λ x. test x.place) (pieces_in r b.log) q
        (in_contained (shown_pieces r b e) q (Contains-permutation run.pieces (shown_pieces r b e) q (IsPermutation-sym (shown_pieces r b e) run.pieces h.pieces) (contains_in run.pieces q i)))))
        (λ q i. let k = in_pieces r ys q i in (k.0, (of_ys k.0 k.1).0, k.2))
        (rises run.pieces h.in_order) (pieces_ascend r ys descends)
        (λ f. sum_by-IsPermutation f (shown_pieces r b e) run.pieces h.pieces ∙ sym (summed r test f b.log)))
        ∙ output_kept r ys

    -- ---- the first break, where it is shown

    pub record IsLast (x : Place × End) : Type 0 where
      pub broken : broken_at_last r ys ≡ Some x.1
      pub stamp : last_stamp ys ≡ x.0.stamp

    break_last : (x : Place × End) → e.broken ≡ Some x → test x.0 ≡ true → IsLast x
    break_last x is here = record {
      broken = ap (broken_at_last r) f.1 ∙ ap (λ a. broken_by a (outcome_of r z).deed.end) (sym breaks.at) ∙ breaks.how;
      stamp = ap last_stamp f.1 ∙ ap (λ a. a.stamp) (sym breaks.at);
    }
      where
        by : IsFirstBreak r b.log (Some x)
        by = subst (IsFirstBreak r b.log) is ends.broken

        z : Activation
        z = by.0.0

        breaks : IsBreakAt r z x
        breaks = by.0.2

        f : (rest : List Activation) × (ys ≡ z ∷ rest)
        f =
            first ys z (in_ys z by.0.1 (ap test (sym breaks.at) ∙ here)) descends
            (λ h i c. apart (ap (λ o. is_past_break o (place_of h.stamp h.process)) is ∙ is_precedes x.0 (place_of h.stamp h.process) (subst (λ a. ComesBefore a (place_of h.stamp h.process)) (sym breaks.at) c)) (parts_of h i).break)

    -- what is shown isn't after it
    up_to : (x : Place × End) → e.broken ≡ Some x → (y : Activation) → In y ys → NotAfter y.stamp x.0.stamp
    up_to x is y i =
        ⊎_elim (λ c. absurd (apart (ap (λ o. is_past_break o (place_of y.stamp y.process)) is ∙ is_precedes x.0 (place_of y.stamp y.process) c) (parts_of y i).break))
        (λ k. ⊎_elim (λ same. inr (ap (λ a. a.stamp) (sym same))) (λ c. stamps_of (place_of y.stamp y.process) x.0 c) k) (places_compare x.0 (place_of y.stamp y.process))

    -- and what is before its cycle is shown
    earlier_shown : (x : Place × End) → e.broken ≡ Some x → test x.0 ≡ true → (y : Activation) → is_before y.stamp x.0.stamp ≡ true → shown y ≡ true
    earlier_shown x is here y lt = shown_by limit e (place_of y.stamp y.process) (record {
      break = ap (λ o. is_past_break o (place_of y.stamp y.process)) is ∙ not_true (precedes x.0 (place_of y.stamp y.process)) (λ c. past (stamps_of x.0 (place_of y.stamp y.process) (precedes_is x.0 (place_of y.stamp y.process) c)));
      stop = stop_back e.stopped y.stamp x.0.stamp (inl before) of_x.stop;
      below = below_back limit e.next y.stamp x.0.stamp (inl before) of_x.below;
    })
      where
        before : IsBefore y.stamp x.0.stamp
        before = is_yes y.stamp x.0.stamp lt

        of_x : Parts limit e x.0
        of_x = parts limit e x.0 here

        past : NotAfter x.0.stamp y.stamp → ⊥
        past le = irreflexive y.stamp (then_not_after y.stamp x.0.stamp y.stamp before le)

    some_none : {A : Type 0} (x : A) (t : Bool) → t ≡ true → (if t then Some x else None) ≡ None → ⊥
    some_none x t is h = let c : Some x ≡ None = sym (ap (λ d. if d then Some x else None) is) ∙ h in cc

    none_broken : break_shown limit e e.broken ≡ None → broken_at_last r ys ≡ None
    none_broken none = last_whole r ys (λ y i. not_true (p.breaks y) (λ breaks. at y i breaks e.broken refl none))
      where
        at : (y : Activation) → In y ys → p.breaks y ≡ true → (o : Option (Place × End)) → e.broken ≡ o → break_shown limit e o ≡ None → ⊥
        at y i breaks None is h = apart breaks (subst (IsFirstBreak r b.log) is ends.broken y (of_ys y i).0)
        at y i breaks (Some x) is h =
            ⊎_elim (λ c. apart (ap (λ o. is_past_break o (place_of y.stamp y.process)) is ∙ is_precedes x.0 (place_of y.stamp y.process) c) (parts_of y i).break)
            (λ k. ⊎_elim (λ same. some_none x (test x.0) (ap test same ∙ (of_ys y i).1) h) (λ c. (subst (IsFirstBreak r b.log) is ends.broken).1 y (of_ys y i).0 breaks c) k) (places_compare x.0 (place_of y.stamp y.process))

    -- ---- the first stop, where it is below the limit

    stop_last : break_shown limit e e.broken ≡ None → (t : Stamp) → e.stopped ≡ Some t → is_below_limit limit e.next t ≡ true → (has_stopped r ys ≡ true) × (t ≡ last_stamp ys)
    stop_last none t is below = (
      in_any (calls_stop r) ys z inside by.0.2,
      last_at ys t falls (λ y i. is_no t y.stamp (ap (λ o. is_past_stop o y.stamp) (sym is) ∙ (parts_of y i).stop)) z inside by.0.3,
    )
      where
        by : IsFirstStop r b.log (Some t)
        by = subst (IsFirstStop r b.log) is ends.stopped

        z : Activation
        z = by.0.0

        up : is_past_stop e.stopped z.stamp ≡ false
        up = ap (λ o. is_past_stop o z.stamp) is ∙ before_no t z.stamp (λ lt. irreflexive t (subst (IsBefore t) by.0.3 lt))

        low : is_below_limit limit e.next z.stamp ≡ true
        low = ap (is_below_limit limit e.next) by.0.3 ∙ below

        inside : In z ys
        inside =
            in_ys z by.0.1
            (shown_by limit e (place_of z.stamp z.process) (record { break = no_break limit e none (place_of z.stamp z.process) up low; stop = up; below = low }))

    calm : stop_shown limit e.next e.stopped ≡ None → has_stopped r ys ≡ false
    calm none = not_true (has_stopped r ys) (λ h. let y = any_in (calls_stop r) ys h in at y.0 y.1 y.2 e.stopped refl none)
      where
        at : (y : Activation) → In y ys → calls_stop r y ≡ true → (o : Option Stamp) → e.stopped ≡ o → stop_shown limit e.next o ≡ None → ⊥
        at y i stops None is h = apart stops (subst (IsFirstStop r b.log) is ends.stopped y (of_ys y i).0)
        at y i stops (Some t) is h =
            let first_stop = (subst (IsFirstStop r b.log) is ends.stopped).1 y (of_ys y i).0 stops in
            some_none t (is_below_limit limit e.next t) (below_back limit e.next t y.stamp (is_no y.stamp t (before_no y.stamp t first_stop)) (parts_of y i).below) h

    -- ---- the histories

    own_segment : (y : Activation) → In y b.log → process_of r y.segment ≡ y.process
    own_segment y i = owned r runs lawful y (inl i)

    all_kept : (zs : List Activation) → only (λ y. true) zs ≡ zs
    all_kept [] = refl
    all_kept (y ∷ zs) = ap (λ xs. y ∷ xs) (all_kept zs)

    abbrev both : Stamp → Activation → Bool
    both t y = shown y && is_before y.stamp t

    module _ (c : ℕ) where
      by_break : (x : Place × End) → e.broken ≡ Some x → test x.0 ≡ true → history_in x.0.stamp (operations_of r ys) c ≡ history_by (operations_on r b) (Some x.0.stamp) c
      by_break x is here =
          history_before r x.0.stamp c ys falls (up_to x is)
          ∙ ap (λ zs. whole_history (cycle_of (operations_of r zs) c)) (only_only shown (is_early r x.0.stamp) sorted)
          ∙ ap whole_history (channel_sorted r rules sound c does every (both x.0.stamp) b.log own_segment stands)
          ∙ ap whole_history (same_acting r c (both x.0.stamp) (is_early r x.0.stamp) b.log (λ y i a. at y (is_before y.stamp x.0.stamp) refl))
          ∙ ap (λ ops. whole_history (cycle_of ops c)) (sym (before_is r x.0.stamp b.log))
        where
          at : (y : Activation) (d : Bool) → is_before y.stamp x.0.stamp ≡ d → (shown y && d) ≡ d
          at y true lt = ap (λ g. g && true) (earlier_shown x is here y lt)
          at y false lt = go (shown y)
            where
              go : (g : Bool) → (g && false) ≡ false
              go true = refl
              go false = refl

      by_count : (o : Option Stamp) → whole_history (cycle_of (operations_of r (only (λ y. counts o y.stamp) b.log)) c) ≡ history_by (operations_on r b) o c
      by_count None = ap (λ zs. whole_history (cycle_of (operations_of r zs) c)) (all_kept b.log)
      by_count (Some t) = ap (λ ops. whole_history (cycle_of ops c)) (sym (before_is r t b.log))

      by_others : break_shown limit e e.broken ≡ None → whole_history (cycle_of (operations_of r ys) c) ≡ history_by (operations_on r b) (counted_before limit e) c
      by_others none =
          ap whole_history (channel_sorted r rules sound c does every shown b.log own_segment stands)
          ∙ ap whole_history (same_acting r c shown (λ y. counts (counted_before limit e) y.stamp) b.log (λ y i a. shown_whole limit e none (place_of y.stamp y.process)))
          ∙ by_count (counted_before limit e)

    -- ---- how it ends

    latest_is : latest_stamp (shown_places r b e) ≡ last_stamp ys
    latest_is =
        one_stamp latest (last_stamp ys) (⊎_elim (λ k. subst (λ t. NotAfter t (last_stamp ys)) (sym k) (zero_not_after (last_stamp ys))) (λ k. by k.0 k.1 k.2) (fold_from (shown_places r b e) zero_stamp))
        (last_by ys latest
        (λ y i.
        let k = of_ys y i in
        (fold_late (shown_places r b e) zero_stamp).1 (place_of y.stamp y.process) (filter_has test (places_in b.log) (place_of y.stamp y.process) (places_have b.log y k.0) k.1)))
      where
        latest : Stamp
        latest = latest_stamp (shown_places r b e)

        by : (a : Place) → In a (shown_places r b e) → latest ≡ a.stamp → NotAfter latest (last_stamp ys)
        by a i same =
            let y = in_places b.log a (in_filter test (places_in b.log) a i) in
            subst (λ t. NotAfter t (last_stamp ys)) (sym (same ∙ ap (λ x. x.stamp) y.2))
            (last_late ys falls y.0 (in_ys y.0 y.1 (ap test (sym y.2) ∙ filter_passes test (places_in b.log) a i)))

    abbrev other : End
    other = end_at r (latest_stamp (shown_places r b e)) e.next

    before_at : (zs : List Activation) (o : Option Stamp) → end_before r zs o ≡ end_at r (last_stamp zs) o
    before_at zs None = refl
    before_at zs (Some t) = refl

    end_others : break_shown limit e e.broken ≡ None → end_after r ys e.next ≡ ended_by None (stop_shown limit e.next e.stopped) other
    end_others none = end_whole r ys e.next (none_broken none) ∙ at e.stopped refl
      where
        idle : stop_shown limit e.next e.stopped ≡ None → (if has_stopped r ys then end.Stop (last_stamp ys) else end_before r ys e.next) ≡ other
        idle h =
            ap (λ d. if d then end.Stop (last_stamp ys) else end_before r ys e.next) (calm h) ∙ before_at ys e.next
            ∙ ap (λ t. end_at r t e.next) (sym latest_is)

        stop : (t : Stamp) → e.stopped ≡ Some t → (d : Bool) → is_below_limit limit e.next t ≡ d →
            (if has_stopped r ys then end.Stop (last_stamp ys) else end_before r ys e.next) ≡ ended_by None (if d then Some t else None) other
        stop t is true below =
            let k = stop_last none t is below in
            ap (λ d. if d then end.Stop (last_stamp ys) else end_before r ys e.next) k.0 ∙ ap (λ u. end.Stop u) (sym k.1)
        stop t is false below = idle (ap (stop_shown limit e.next) is ∙ ap (λ d. if d then Some t else None) below)

        at : (o : Option Stamp) → e.stopped ≡ o → (if has_stopped r ys then end.Stop (last_stamp ys) else end_before r ys e.next) ≡ ended_by None (stop_shown limit e.next o) other
        at None is = idle (ap (stop_shown limit e.next) is)
        at (Some t) is = stop t is (is_below_limit limit e.next t) refl

    -- ---- both, by whether the first break is shown

    abbrev stops : Option Stamp
    stops = stop_shown limit e.next e.stopped

    abbrev limited : Option Stamp
    limited = limit_reached limit e.next

    pub record Agrees (o : Option (Place × End)) : Type 0 where
      pub end : end_after r ys e.next ≡ ended_by o stops other
      pub history : (c : ℕ) → history_after r ys c ≡ history_by (operations_on r b) (counted_by o stops limited) c

    by_last : (x : Place × End) → e.broken ≡ Some x → test x.0 ≡ true → Agrees (Some x)
    by_last x is here = record {
      end = ap (λ o. elim o [ Some f ↦ f | None ↦ if has_stopped r ys then end.Stop (last_stamp ys) else end_before r ys e.next ]) l.broken;
      history = λ c.
          ap (λ o. elim o [ Some f ↦ history_in (last_stamp ys) (operations_of r ys) c | None ↦ whole_history (cycle_of (operations_of r ys) c) ]) l.broken
          ∙ ap (λ t. history_in t (operations_of r ys) c) l.stamp ∙ by_break c x is here;
    }
      where
        l : IsLast x
        l = break_last x is here

    by_none : break_shown limit e e.broken ≡ None → Agrees None
    by_none none = record {
      end = end_others none;
      history = λ c.
          ap (λ o. elim o [ Some f ↦ history_in (last_stamp ys) (operations_of r ys) c | None ↦ whole_history (cycle_of (operations_of r ys) c) ]) (none_broken none)
          ∙ by_others c none ∙ ap (λ o. history_by (operations_on r b) (counted_by o stops limited) c) none;
    }

    agrees : Agrees (break_shown limit e e.broken)
    agrees = at e.broken refl
      where
        break : (x : Place × End) → e.broken ≡ Some x → (d : Bool) → test x.0 ≡ d → Agrees (if d then Some x else None)
        break x is true here = by_last x is here
        break x is false here = by_none (ap (break_shown limit e) is ∙ ap (λ d. if d then Some x else None) here)

        at : (o : Option (Place × End)) → e.broken ≡ o → Agrees (break_shown limit e o)
        at None is = by_none (ap (break_shown limit e) is)
        at (Some x) is = break x is (test x.0) refl

    shows : (run : Run) → IsReadOff r b e run → (result : Result) → ShowsRun (run_of_board r b) result → ShowsRun run result
    shows run h result shown_run = record {
      histories =
          sym (histories_are r run.channels (history_after r ys) (record { count = h.channels; each = λ c lt. h.histories c lt ∙ sym (agrees.history c) }))
          ∙ ap (λ zs. map (history_after r zs) (numbers_from 0 (length r.design.channels))) (sym reported_is) ∙ shown_run.histories;
      ending = h.end ∙ sym agrees.end ∙ ap (end_after r ys) next ∙ ap (λ zs. end_after r zs (next_stamp p b)) (sym reported_is) ∙ shown_run.ending;
      activations = h.activations ∙ sym (counted r test b.log) ∙ ap length (sym reported_is) ∙ shown_run.activations;
      output = output_is run h ∙ ap (λ zs. output_text (pieces_after r zs)) (sym reported_is) ∙ shown_run.output;
    }

  pub reports_are_read_off : ((y : Activation) → In y b.log → y.stamp.delta < r.limits.deltas) → ReportsAreReadOff r least s
  reports_are_read_off below = record {
    below_limit = below;
    ordered = λ c. ordered r rules sound does runs every c b lawful;
    read_off = λ e run over ends h result shown_run. shows e over ends run h result shown_run;
  }
