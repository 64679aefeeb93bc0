-- Versions of a signal: their order, what is seen of them, fewer, and one more.
use Rattle.std.proofs.Common.{◌≡◌, ◌⊎◌, inl, inr, ℕ, zero, suc, ◌-◌, ◌<◌, ◌≤◌, ◌++◌, Bool, cond, arith, List, [], ◌∷◌, Option, Some, None, Bor, ap, sym, subst, ◌∙◌, length, length-append, get_or, drop}
use Rattle.std.specs.Prelude.{AllPairs}
use Rattle.std.specs.List.Sorted.{IsPartitionPoint}
use Rattle.std.specs.Option.{option_copied}
use Rattle.std.specs.Slice.{IsItemAt}
use Rattle.std.proofs.Math.ListN.{get_or-append}
use Rattle.std.proofs.Math.Seq.{get_or-append_seam}
use Rattle.std.proofs.lemmas.Bool.{cases_lt}
use Rattle.ooo_time.specs.declared.stamp.Stamp.{Stamp}
use Rattle.ooo_time.specs.declared.time.Time.{Time}
use Rattle.ooo_time.specs.Stamps.{IsBefore}
use Rattle.ooo_value.specs.declared.values.Value.{Value}
use Rattle.ooo_code.specs.Channels.{Channel, IsSignal, IsFifo, requested}
use Rattle.ooo_code.specs.declared.activation.Effect.TheVariants as effect
use Rattle.ooo_channels.specs.declared.version.Version.{Version}
use Rattle.ooo_channels.specs.Operations.{Operation}
use Rattle.ooo_channels.specs.Cycles.{Cycle, cycle_at, cycle_after, IsSeenAs, ShowsAs}
use Rattle.ooo_channels.specs.Versions.{signal_of, version_at, IsEarlier, IsBeforeFirst, IsVersionOf, AreVersionsOf, StartsBy, AreVersionsSince, versions_with, IsContinued}
use Rattle.ooo_channels.proofs.Orders.{Earlier, earlier, not_earlier, earlier_or_not, is_before-yes, is_before-no, IsBefore-irrefl, IsBefore-trans, not_after, not_before-trans, stamps_same}
use Rattle.ooo_channels.proofs.Moves.{channel-cycle_at, cycle_at-here}

module _ (was : Stamp → Channel) where
  -- ---- order

  first_before : (v : Version) (vs : List Version) → AreVersionsOf was (v ∷ vs) → (j : ℕ) (d : Version) → j < length vs → IsBefore v.stamp (get_or vs j d).stamp
  first_before v [] h j d lt = absurd (omega (arith, lt))
  first_before v (w ∷ vs) h zero d lt = h.0
  first_before v (w ∷ vs) h (suc j) d lt = IsBefore-trans v.stamp w.stamp (get_or vs j d).stamp h.0 (first_before w vs h.2 j d (omega (arith, lt)))

  ascending : (vs : List Version) → AreVersionsOf was vs → AllPairs IsEarlier vs
  ascending [] h i j d lt within = absurd (omega (arith, within))
  ascending (v ∷ vs) h zero zero d lt within = absurd (omega (arith, lt))
  ascending (v ∷ vs) h zero (suc j) d lt within = first_before v vs h j d (omega (arith, within))
  ascending (v ∷ vs) h (suc i) zero d lt within = absurd (omega (arith, lt))
  ascending (v ∷ vs) h (suc i) (suc j) d lt within = ascending vs h.2 i j d (omega (arith, lt)) (omega (arith, within))

  pub ascending_front : (vs ws : List Version) → AreVersionsOf was (vs ++ ws) → AllPairs IsEarlier vs
  ascending_front vs ws h i j d lt within =
      subst (λ (v : Version). IsBefore v.stamp (get_or vs j d).stamp) (get_or-append vs ws d i (omega (arith, lt, within)))
      (subst (λ (v : Version). IsBefore (get_or (vs ++ ws) i d).stamp v.stamp) (get_or-append vs ws d j within)
      (ascending (vs ++ ws) h i j d lt (omega (arith, within, length-append vs ws))))

  -- a stamp before the first of some versions is before the last one
  upto_last : (past : List Version) (newest : Version) → AreVersionsOf was (past ++ newest ∷ []) → (t : Stamp) → IsBeforeFirst t (past ++ newest ∷ []) → IsBefore t newest.stamp
  upto_last [] newest h t before = before
  upto_last (v ∷ vs) newest h t before = IsBefore-trans t v.stamp newest.stamp before (upto_last vs newest h.2 v.stamp h.0)

  -- ---- what is seen

  at_index :
      (vs : List Version) (i : ℕ) (d : Version) (at : Stamp) → AreVersionsOf was vs → i < length vs → ¬ IsBefore at (get_or vs i d).stamp →
      (suc i < length vs → IsBefore at (get_or vs (suc i) d).stamp) → ShowsAs at.time (version_at at (get_or vs i d)) (was at)
  at_index [] i d at h lt from upto = absurd (omega (arith, lt))
  at_index (v ∷ []) zero d at h lt from upto = h.1 at from tt
  at_index (v ∷ w ∷ vs) zero d at h lt from upto = h.1 at from (upto (omega arith))
  at_index (v ∷ vs) (suc i) d at h lt from upto = at_index vs i d at h.2 (omega (arith, lt)) from (λ within. upto (omega (arith, within)))

  module _ (past : List Version) (next : Version) (at : Stamp) (count : ℕ) (before : IsBefore at next.stamp) (point : IsPartitionPoint (λ (v : Version). ¬ IsBefore at v.stamp) (λ (v : Version). IsBefore at v.stamp) past count) where
    -- the version that a search finds
    pub found_version : (d : Version) → AreVersionsOf was (past ++ next ∷ []) → 1 ≤ count → count ≤ length past → ShowsAs at.time (version_at at (get_or past (count - 1) d)) (was at)
    found_version d h some le =
        subst (λ (v : Version). ShowsAs at.time (version_at at v) (was at)) (get_or-append past (next ∷ []) d k lt)
        (at_index (past ++ next ∷ []) k d at h (omega (arith, lt, length-append past (next ∷ []))) from upto)
      where
        k : ℕ
        k = count - 1

        lt : k < length past
        lt = omega (arith, some, le)

        from : ¬ IsBefore at (get_or (past ++ next ∷ []) k d).stamp
        from = subst (λ (v : Version). ¬ IsBefore at v.stamp) (sym (get_or-append past (next ∷ []) d k lt)) (point.0 k d (omega arith) (omega (arith, some)))

        upto : suc k < length (past ++ next ∷ []) → IsBefore at (get_or (past ++ next ∷ []) (suc k) d).stamp
        upto within = go (cases_lt (suc k) (length past)) where
          go : (suc k < length past) ⊎ (length past ≤ suc k) → IsBefore at (get_or (past ++ next ∷ []) (suc k) d).stamp
          go (inl low) = subst (λ (v : Version). IsBefore at v.stamp) (sym (get_or-append past (next ∷ []) d (suc k) low)) (point.1 (suc k) d (omega (arith, some)) low)
          go (inr high) =
              let e : suc k ≡ length past = omega (arith, lt, high) in
              subst (λ n. IsBefore at (get_or (past ++ next ∷ []) n d).stamp) (sym e)
              (subst (λ (v : Version). IsBefore at v.stamp) (sym (get_or-append_seam past next [] d)) before)

    -- there is one
    pub some_version : StartsBy at (past ++ next ∷ []) → ¬ (count ≡ 0)
    some_version start none = go past start point where
      go : (vs : List Version) → StartsBy at (vs ++ next ∷ []) → IsPartitionPoint (λ (v : Version). ¬ IsBefore at v.stamp) (λ (v : Version). IsBefore at v.stamp) vs count → ⊥
      go [] start point = start before
      go (v ∷ vs) start point = start (point.1 0 v (omega (arith, none)) (omega arith))

  -- the newest one
  pub last_version : (past : List Version) (newest : Version) → AreVersionsOf was (past ++ newest ∷ []) → IsVersionOf was newest []
  last_version [] newest h = h.1
  last_version (v ∷ vs) newest h = last_version vs newest h.2

  -- ---- fewer

  pub versions_rest : (xs ys : List Version) → AreVersionsOf was (xs ++ ys) → AreVersionsOf was ys
  versions_rest [] ys h = h
  versions_rest (x ∷ xs) ys h = versions_rest xs ys h.2

  pub one_less : (xs ys rest : List Version) → ys ≡ drop 1 xs → AreVersionsOf was (xs ++ rest) → AreVersionsOf was (ys ++ rest)
  one_less [] ys rest is h = subst (λ zs. AreVersionsOf was (zs ++ rest)) (sym is) h
  one_less (x ∷ xs) ys rest is h = subst (λ zs. AreVersionsOf was (zs ++ rest)) (sym is) h.2

-- the version that a look-up finds
pub found_at : (xs : List Version) (i : ℕ) (found : Option (Bor Version)) (w : Version) → IsItemAt xs i found → option_copied found ≡ Some w → (i < length xs) × (w ≡ get_or xs i w)
found_at xs i None w item e = absurd cc
found_at xs i (Some x) w item e = let same : x.now ≡ w = cc in (item.3.0, sym same ∙ item.3.1 w)

-- ---- the first one

pub starts_append : (below : Stamp) (xs ys : List Version) → StartsBy below xs → StartsBy below (xs ++ ys)
starts_append below [] ys h = absurd h
starts_append below (x ∷ xs) ys h = h

-- the first one but one becomes the first
pub second_starts : (below : Stamp) (xs ys : List Version) (w : Version) → ys ≡ drop 1 xs → 1 < length xs → w ≡ get_or xs 1 w → ¬ IsBefore below w.stamp → StartsBy below ys
second_starts below [] ys w is lt at not = absurd (omega (arith, lt))
second_starts below (x ∷ []) ys w is lt at not = absurd (omega (arith, lt))
second_starts below (x ∷ z ∷ xs) ys w is lt at not = subst (StartsBy below) (sym is) (subst (λ (v : Version). ¬ IsBefore below v.stamp) at not)

-- one in place of the newest, whose cycle isn't before its own
pub starts_replaced : (below : Stamp) (past : List Version) (newest new : Version) → ¬ IsBefore newest.stamp new.stamp → StartsBy below (past ++ newest ∷ []) → StartsBy below (past ++ new ∷ [])
starts_replaced below [] newest new not start = not_before-trans new.stamp newest.stamp below not start
starts_replaced below (v ∷ vs) newest new not start = start

-- what starts by a stamp starts by a later one
pub starts_later : (below more : Stamp) → ¬ IsBefore more below → (vs : List Version) → StartsBy below vs → StartsBy more vs
starts_later below more not [] start = start
starts_later below more not (v ∷ vs) start = not_before-trans v.stamp below more start not

-- ---- one more

first_same : (past : List Version) (newest : Version) (ys zs : List Version) (t : Stamp) → IsBeforeFirst t (past ++ newest ∷ ys) → IsBeforeFirst t (past ++ newest ∷ zs)
first_same [] newest ys zs t before = before
first_same (v ∷ vs) newest ys zs t before = before

first_as : (past : List Version) (a b : Version) (t : Stamp) → a.stamp ≡ b.stamp → IsBeforeFirst t (past ++ a ∷ []) → IsBeforeFirst t (past ++ b ∷ [])
first_as [] a b t same before = subst (λ s. IsBefore t s) same before
first_as (v ∷ vs) a b t same before = before

module _ (was next : Stamp → Channel) (newest new : Version) (same : (t : Stamp) → ¬ IsBefore new.stamp t → next t ≡ was t) (here : IsVersionOf next new []) where
  -- before the new one's cycle the same is seen
  before_new : (t : Stamp) (v : Version) → IsBefore t new.stamp → ShowsAs t.time (version_at t v) (was t) → ShowsAs t.time (version_at t v) (next t)
  before_new t v before shows = subst (ShowsAs t.time (version_at t v)) (sym (same t (not_after t new.stamp before))) shows

  more_versions : (past : List Version) → IsBefore newest.stamp new.stamp → AreVersionsOf was (past ++ newest ∷ []) → AreVersionsOf next (past ++ newest ∷ new ∷ [])
  more_versions [] later h = (
    later,
    λ t from upto. before_new t newest upto (h.1 t from tt),
    (tt, here, tt),
  )
  more_versions (v ∷ vs) later h = (
    first_same vs newest [] (new ∷ []) v.stamp h.0,
    λ t from upto.
        let low = first_same vs newest (new ∷ []) [] t upto in
        before_new t v (IsBefore-trans t newest.stamp new.stamp (upto_last was vs newest h.2 t low) later) (h.1 t from low),
    more_versions vs later h.2,
  )

  newest_replaced : (past : List Version) → newest.stamp ≡ new.stamp → AreVersionsOf was (past ++ newest ∷ []) → AreVersionsOf next (past ++ new ∷ [])
  newest_replaced [] is h = (tt, here, tt)
  newest_replaced (v ∷ vs) is h = (
    first_as vs newest new v.stamp is h.0,
    λ t from upto.
        let low = first_as vs new newest t (sym is) upto in
        before_new t v (subst (λ s. IsBefore t s) is (upto_last was vs newest h.2 t low)) (h.1 t from low),
    newest_replaced vs is h.2,
  )

  pub versions_more : (past : List Version) → ¬ IsBefore new.stamp newest.stamp → AreVersionsOf was (past ++ newest ∷ []) → AreVersionsOf next (versions_with past newest new)
  versions_more past order h = go (earlier_or_not newest.stamp new.stamp) where
    go : {b : Bool} → Earlier newest.stamp new.stamp b → AreVersionsOf next (past ++ cond b (newest ∷ new ∷ []) (new ∷ []))
    go (earlier later) = more_versions past later h
    go (not_earlier not) = newest_replaced past (stamps_same newest.stamp new.stamp not order) h

-- the versions once there is a new one, of a later cycle
pub versions_kept : (was : Stamp → Channel) (past : List Version) (newest new : Version) → IsBefore newest.stamp new.stamp → AreVersionsOf was (versions_with past newest new) → AreVersionsOf was (past ++ newest ∷ new ∷ [])
versions_kept was past newest new later h = subst (λ b. AreVersionsOf was (past ++ cond b (newest ∷ new ∷ []) (new ∷ []))) (is_before-yes newest.stamp new.stamp later) h

-- and of the same cycle
pub versions_replaced : (below : Stamp) (was : Stamp → Channel) (past : List Version) (newest new : Version) → ¬ IsBefore newest.stamp new.stamp → StartsBy below (past ++ newest ∷ []) → AreVersionsOf was (versions_with past newest new) → AreVersionsSince below was (past ++ new ∷ [])
versions_replaced below was past newest new not start h = record {
  start = starts_replaced below past newest new not start;
  each = subst (λ b. AreVersionsOf was (past ++ cond b (newest ∷ new ∷ []) (new ∷ []))) (is_before-no newest.stamp new.stamp not) h;
}

-- the same versions in another list
pub versions_moved : (newest : Version) (past more : List Version) (below : Stamp) (was : Stamp → Channel) → more ≡ past → AreVersionsSince below was (past ++ newest ∷ []) → AreVersionsSince below was (more ++ newest ∷ [])
versions_moved newest past more below was same h = subst (λ vs. AreVersionsSince below was (vs ++ newest ∷ [])) (sym same) h

-- where the same was seen
pub AreVersionsOf-same : (was next : Stamp → Channel) → ((t : Stamp) → next t ≡ was t) → (vs : List Version) → AreVersionsOf was vs → AreVersionsOf next vs
AreVersionsOf-same was next same [] h = tt
AreVersionsOf-same was next same (v ∷ vs) h = (
  h.0,
  λ t from upto. subst (ShowsAs t.time (version_at t v)) (sym (same t)) (h.1 t from upto),
  AreVersionsOf-same was next same vs h.2,
)

-- ---- a request

-- a version that is the signal in its cycle goes on as the signal
pub version_same : (v : Version) (y : Cycle) (t : Stamp) → v.stamp ≡ y.stamp → IsSignal (signal_of v) ≡ y.channel → version_at t v ≡ (cycle_at t y).channel
version_same v y t = go v.stamp (IsSignal (signal_of v)) where
  go : (s : Stamp) (x : Channel) → s ≡ y.stamp → x ≡ y.channel → (cycle_at t (record { stamp = s; channel = x; history = [] })).channel ≡ (cycle_at t y).channel
  go s x e f = channel-cycle_at t (record { stamp = s; channel = x; history = [] }) ∙ rw (e, f) (sym (channel-cycle_at t y))

-- nothing is seen of a request in its own cycle
request_unseen : (v : Value) (x : Channel) (now : Time) → ShowsAs now (requested v x) x
request_unseen v (IsSignal s) now seen is = is
request_unseen v (IsFifo f) now seen is = tt

module _ (was next : Stamp → Channel) (newest new : Version) (x : Cycle) (at : Stamp) (v : Value) (c : ℕ) where
  abbrev after_it : Cycle
  after_it = let o : Operation = record { at = at; effect = effect.Request c v } in cycle_after x o

  module _ (stamp : newest.stamp ≡ x.stamp) (channel : IsSignal (signal_of newest) ≡ x.channel) (now : new.stamp ≡ at) (new_stamp : new.stamp ≡ after_it.stamp) (new_channel : IsSignal (signal_of new) ≡ after_it.channel) where
    -- the new version shows the request after its cycle, and before that what the newest one showed
    new_version : ¬ IsBefore at newest.stamp → IsContinued at after_it was next → IsVersionOf was newest [] → IsVersionOf next new []
    new_version order continued last t from upto = go (earlier_or_not at t) where
      own : version_at at new ≡ requested v (cycle_at at x).channel
      own =
          version_same new after_it at new_stamp new_channel
          ∙ ap (λ (y : Cycle). y.channel) (cycle_at-here at after_it (subst (λ s. ¬ IsBefore s at) (sym now ∙ new_stamp) (IsBefore-irrefl at)))

      here : ShowsAs at.time (version_at at new) (was at)
      here seen is =
          last at order tt seen
          (subst (λ y. IsSeenAs y at.time seen) (sym (version_same newest x at stamp channel))
          (request_unseen v (cycle_at at x).channel at.time seen (subst (λ y. IsSeenAs y at.time seen) own is)))

      go : {b : Bool} → Earlier at t b → ShowsAs t.time (version_at t new) (next t)
      go (earlier later) seen is = subst (λ y. IsSeenAs y t.time seen) (version_same new after_it t new_stamp new_channel ∙ sym (continued.later t later)) is
      go (not_earlier not) seen is =
          let same : at ≡ t = stamps_same at t not (subst (λ s. ¬ IsBefore t s) now from) in
          let own : ShowsAs t.time (version_at t new) (was t) = subst (λ s. ShowsAs s.time (version_at s new) (was s)) same here in
          subst (λ y. IsSeenAs y t.time seen) (sym (continued.before t not)) (own seen is)

    -- the versions after a request
    pub requested_versions : (past : List Version) → ¬ IsBefore at newest.stamp → IsContinued at after_it was next → AreVersionsOf was (past ++ newest ∷ []) → AreVersionsOf next (versions_with past newest new)
    requested_versions past order continued h =
        versions_more was next newest new
        (λ t not. continued.before t (subst (λ s. ¬ IsBefore s t) now not))
        (new_version order continued (last_version was past newest h))
        past (subst (λ s. ¬ IsBefore s newest.stamp) (sym now) order) h
