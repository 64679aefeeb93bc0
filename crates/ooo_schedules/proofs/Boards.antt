-- A board goes on until it is over, but not for ever; and one that makes the sequential run is over.
use Rattle.std.proofs.Common.{◌≡◌, ℕ, zero, suc, ◌+◌, ◌*◌, ◌<◌, ◌≤◌, ◌==◌, ◌⊎◌, inl, inr, ⊎_elim, Bool, true, false, List, [], ◌∷◌, Option, Some, None, if◌then◌else◌, refl, sym, ap, ◌∙◌, subst, arith}
use Rattle.std.proofs.Math.Nat.{mul-le-mul_right, suc-mul}
use Rattle.ooo_time.specs.declared.stamp.Stamp.{Stamp}
use Rattle.ooo_time.specs.declared.time.Time.{Time}
use Rattle.ooo_time.specs.Stamps.{IsBefore, is_before, stamp_after}
use Rattle.ooo_meaning.specs.World.{zero_stamp}
use Rattle.ooo_schedules.specs.Model.{Front, Open, front_at, In, count, last, Model, Log, Laws, Ordered, State, Allowed, Lawful, empty, dispatch, commit, committed, Dispatched, Sequential, Kept, IsOver, IsLeast, front_of, job}
use Rattle.ooo_schedules.specs.Design.{Design, DesignLaws, model, slot, sort}
use Rattle.ooo_schedules.specs.Program.{Program, ActIn, Sound, calls_of, design, wait_by}
use Rattle.ooo_schedules.specs.Sequence.{Starts}
use Rattle.ooo_schedules.specs.Slots.{Call, Notify, Event, calls_at, with_pending}
use Rattle.ooo_schedules.proofs.Logs.{if_same, numbered, same_or_not, some_in, some_is, without_in}
use Rattle.ooo_schedules.proofs.Places.{less_or, not_both_earlier}
use Rattle.ooo_schedules.proofs.Walks.{Good, front_of_idle, good}
use Rattle.ooo_schedules.proofs.Steps.{no_dead_end}
use Rattle.ooo_schedules.proofs.Over.{LeastBelow, a_front, always_within, least_below, no_front}
use Rattle.ooo_schedules.proofs.Fronts.{Ends, FrontOf, by_event, by_time, front_ends, front_of as front_of_log}
use Rattle.ooo_schedules.proofs.Slots.{call_source, least_source}
use Rattle.ooo_schedules.proofs.Sorts.{sort_in}
use Rattle.ooo_schedules.proofs.Reaches.{compare, irreflexive, transitive}
use Rattle.ooo_schedules.proofs.Programs.{channel_source, design_laws, is_no, is_own, is_yes, left_is, own_source, program_laws, time_out_is}

-- ---- stamps below a limit, counted

module _ (limit : ℕ) where
  abbrev rank : Stamp → ℕ
  rank s = s.time.0 * limit + s.delta

  -- a later time counts a whole limit more
  row_less : (s t : ℕ) → s < t → s * limit + limit ≤ t * limit
  row_less s t lt = let le = mul-le-mul_right limit (let k : suc s ≤ t = omega (arith, lt) in k) in let e = suc-mul s limit in subst (λ n. n ≤ t * limit) e le

  rank_less : (s t : Stamp) → s.delta < limit → IsBefore s t → rank s < rank t
  rank_less s t below (inl lt) = let row = row_less s.time.0 t.time.0 lt in omega (arith, row, below)
  rank_less s t below (inr (e, lt)) = let same : s.time.0 * limit ≡ t.time.0 * limit = ap (λ n. n * limit) e in omega (arith, same, lt)

  rank_bound : (s : Stamp) (stop : ℕ) → s.time.0 ≤ stop → s.delta < limit → rank s < (stop + 1) * limit
  rank_bound s stop le below = let row = row_less s.time.0 (stop + 1) (omega (arith, le)) in omega (arith, row, below)

-- a stamp after one below the limit is at the limit at most
after_at_most : (limit : ℕ) (s : Stamp) (k : Time) → s.delta < limit → (stamp_after s k).delta ≤ limit
after_at_most limit s k below = at (k.0 == 0)
  where
    at : (b : Bool) → (let t : Stamp = if b then record { time = s.time; delta = s.delta + 1 } else record { time = record { 0 = s.time.0 + k.0 }; delta = 0 } in t.delta) ≤ limit
    at true = omega (arith, below)
    at false = omega arith

-- ---- where the stamp of a front comes from

abbrev All_of : Event Stamp → List Stamp
All_of e = with_pending Stamp is_before e.fired e.pending

calls_source : (s : Stamp) (cs : List (Call Stamp)) (e : Event Stamp) (u : Stamp) → In u (All_of (calls_at Stamp is_before s cs e)) → In u (All_of e) ⊎ In (Notify u) cs
calls_source s [] e u i = inl i
calls_source s (c ∷ cs) e u i =
    ⊎_elim (λ j. ⊎_elim (λ k. inl k) (λ k. inr (inr k)) (calls_source s cs e u j)) (λ k. inr (inl k))
    (call_source Stamp IsBefore is_before irreflexive transitive is_yes is_no s c (calls_at Stamp is_before s cs e) u i)

module _ (p : Program) (h : Sound p) (starts : Starts p) where
  abbrev D : Design
  D = design p

  abbrev DL : DesignLaws (design p)
  DL = design_laws p h

  abbrev M : Model
  M = model (design p)

  abbrev L : Laws M
  L = program_laws p h

  -- a stamp after an activation
  abbrev After : Log M → Stamp → Type 0
  After xs u = (y : ActIn p) × In y xs × ((k : Time) × (u ≡ stamp_after y.stamp k))

  more_after : (x : ActIn p) (xs : Log M) (u : Stamp) → After xs u → After (x ∷ xs) u
  more_after x xs u a = (a.0, inr a.1, a.2)

  slot_source : (e : ℕ) (xs : Log M) (u : Stamp) → In u (All_of (slot D e xs).event) → After xs u
  slot_source e [] u i = absurd i
  slot_source e (x ∷ xs) u i =
      ⊎_elim (λ j. more_after x xs u (slot_source e xs u j)) (λ j. (x, inl refl, made j))
      (calls_source x.stamp (calls_of x.stamp e (p.origin e) (slot D e xs).value (p.act x).effects) (slot D e xs).event u i)
    where
      made : In (Notify u) (calls_of x.stamp e (p.origin e) (slot D e xs).value (p.act x).effects) → (k : Time) × (u ≡ stamp_after x.stamp k)
      made j =
          ⊎_elim
          (λ o. ⊎_elim (λ k. absurd k) (λ f. (f.time, f.stamp)) (own_source x.stamp e u [] (p.act x).effects (subst (λ b. In (Notify u) (calls_of x.stamp e b (slot D e xs).value (p.act x).effects)) o j)))
          (λ o. (record { 0 = 0 }, channel_source x.stamp e (p.origin e) (slot D e xs).value (p.act x).effects u o j))
          (is_own (p.origin e))

  front_source : (xs : Log M) (q : ℕ) (f : Front Stamp) → M.front xs q ≡ Some f → (f.stamp ≡ zero_stamp) ⊎ After xs f.stamp
  front_source xs q f e = at (front_ends D DL xs o.wait f.stamp o.stamp)
    where
      o : FrontOf D DL xs q f
      o = front_of_log D DL xs q f e

      timed : (z : Option (ActIn p)) → last q xs ≡ z → wait_by p q z ≡ Some o.wait → o.wait.timeout ≡ Some f.stamp → (f.stamp ≡ zero_stamp) ⊎ After xs f.stamp
      timed None i w t = inl (starts.ready q o.wait f.stamp w t)
      timed (Some z) i w t =
          let l = left_is z.stamp (p.act z).left o.wait w in
          let k = time_out_is z.stamp l.time f.stamp (sym l.timeout ∙ t) in
          inr (z, (some_in M.Stamp M.Reads q xs z i).0, (k.0, k.2))

      at : Ends D DL o.wait xs f.stamp → (f.stamp ≡ zero_stamp) ⊎ After xs f.stamp
      at (by_time t) = timed (last q xs) refl o.waits t
      at (by_event d i t) =
          let s = slot_source d (sort D xs) f.stamp (least_source Stamp IsBefore is_before irreflexive transitive is_yes is_no o.wait.since (All_of (slot D d (sort D xs)).event) f.stamp t).0 in
          inr (s.0, sort_in D DL xs s.0 s.1, s.2)

  -- the front at which a process may be dispatched is below the limit of deltas where all activations are
  allowed_below : (st : State M) (q : ℕ) (f : Front Stamp) → Allowed M st q f → ((y : ActIn p) → In y st.log → y.stamp.delta < p.limit) → f.stamp.delta < p.limit
  allowed_below st q f a low =
      let le = at_most (front_source st.log q f a.front) in ⊎_elim (λ lt. lt) (λ ge. absurd (a.below (omega (arith, le, ge)))) (less_or f.stamp.delta p.limit)
    where
      at_most : (f.stamp ≡ zero_stamp) ⊎ After st.log f.stamp → f.stamp.delta ≤ p.limit
      at_most (inl e) = let z : f.stamp.delta ≡ 0 = ap (λ t. t.delta) e in omega (arith, z)
      at_most (inr (y, i, k)) = subst (λ t. t.delta ≤ p.limit) (sym k.1) (after_at_most p.limit y.stamp k.0 (low y i))

  still : (st : State M) (j : ActIn p) → In j st.out → (y : ActIn p) → Dispatched M y (committed M st j) → Dispatched M y st
  still st j i y d = ⊎_elim (λ k. ⊎_elim (λ e. inr (subst (λ x. In x st.out) (sym e) i)) (λ k. inl k) k) (λ k. inr (without_in M.Stamp M.Reads j.process st.out y k).0) d

  -- so every activation of a lawful board is
  below_limit : (st : State M) → Lawful M st → (y : ActIn p) → Dispatched M y st → y.stamp.delta < p.limit
  below_limit _ empty = λ y d. ⊎_elim (λ i. absurd i) (λ i. absurd i) d
  below_limit _ (dispatch {st} q f l a) =
      let rec = below_limit st l in
      λ y d.
      ⊎_elim (λ i. rec y (inl i)) (λ i. ⊎_elim (λ e. subst (λ z. z.stamp.delta < p.limit) (sym e) (allowed_below st q f a (λ z k. rec z (inl k)))) (λ j. rec y (inr j)) i) d
  below_limit _ (commit {st} j l i) = λ y d. below_limit st l y (still st j i y d)

  -- ---- how many there are

  -- an activation's number is at most the count of the stamps up to its own
  abbrev Counts : Log M → Type 0
  Counts xs = (y : ActIn p) → In y xs → y.number ≤ rank p.limit y.stamp

  next_counts : (x : ActIn p) (xs : Log M) → Ordered M (x ∷ xs) → ((y : ActIn p) → In y xs → y.stamp.delta < p.limit) → Counts xs → (n : ℕ) → x.number ≡ n → x.number ≤ rank p.limit x.stamp
  next_counts x xs o low rec zero e = omega (arith, e)
  next_counts x xs o low rec (suc n) e =
      let number = o.0.number in
      let w = numbered M xs x.process n o.1 (omega (arith, e, number)) in
      let less = rank_less p.limit w.0.stamp x.stamp (low w.0 w.1) (o.0.later w.0 w.1 w.2) in
      let counted = rec w.0 w.1 in
      let k : w.0.number ≡ n = w.3 in
      omega (arith, e, less, counted, k)

  number_rank : (xs : Log M) → Ordered M xs → ((y : ActIn p) → In y xs → y.stamp.delta < p.limit) → Counts xs
  number_rank [] o low y i = absurd i
  number_rank (x ∷ xs) o low y i =
      let rec = number_rank xs o.1 (λ z j. low z (inr j)) in
      ⊎_elim (λ e. subst (λ z. z.number ≤ rank p.limit z.stamp) (sym e) (next_counts x xs o (λ z j. low z (inr j)) rec x.number refl)) (λ j. rec y j) i

  pub not_for_ever : (st : State M) → Lawful M st → (q : ℕ) → count q st.log ≤ (p.stop.0 + 1) * p.limit
  not_for_ever st l q = at (count q st.log) refl
    where
      ordered : Ordered M st.log
      ordered = (good M L st l).ordered

      at : (n : ℕ) → count q st.log ≡ n → count q st.log ≤ (p.stop.0 + 1) * p.limit
      at zero e = omega (arith, e)
      at (suc n) e =
          let w = numbered M st.log q n ordered (omega (arith, e)) in
          let low = number_rank st.log ordered (λ y i. below_limit st l y (inl i)) w.0 w.1 in
          let bound = rank_bound p.limit w.0.stamp p.stop.0 (always_within M st l w.0 (inl w.1)) (below_limit st l w.0 (inl w.1)) in
          let k : w.0.number ≡ n = w.3 in
          omega (arith, e, low, bound, k)

  -- ---- it is over, or its front of least place is below the cut

  -- an activation cuts a place off, or not
  cut_or_not : (y : ActIn p) (u : Stamp) (q : ℕ) → M.Cuts y u q ⊎ (M.Cuts y u q → ⊥)
  cut_or_not y u q = at (p.breaks y) (p.stops y) refl refl (compare y.stamp u) (less_or q y.process)
    where
      at : (b s : Bool) → p.breaks y ≡ b → p.stops y ≡ s → IsBefore y.stamp u ⊎ ((y.stamp ≡ u) ⊎ IsBefore u y.stamp) → (q < y.process) ⊎ (y.process ≤ q) → M.Cuts y u q ⊎ (M.Cuts y u q → ⊥)
      at true s b k (inl lt) n = inl (inl (b, inl lt))
      at true s b k (inr (inl e)) (inr le) = inl (inl (b, inr (e, le)))
      at true s b k (inr (inl e)) (inl lt) = inr (λ c. ⊎_elim (λ h. ⊎_elim (λ x. irreflexive u (subst (λ t. IsBefore t u) e x)) (λ x. let le = x.1 in omega (arith, le, lt)) h.1) (λ h. irreflexive u (subst (λ t. IsBefore t u) e h.1)) c)
      at true s b k (inr (inr gt)) n = inr (λ c. ⊎_elim (λ h. ⊎_elim (λ x. irreflexive u (transitive u y.stamp u gt x)) (λ x. irreflexive u (subst (IsBefore u) x.0 gt)) h.1) (λ h. irreflexive u (transitive u y.stamp u gt h.1)) c)
      at false true b k (inl lt) n = inl (inr (k, lt))
      at false true b k (inr (inl e)) n = inr (λ c. ⊎_elim (λ h. let f : true ≡ false = sym h.0 ∙ b in cc) (λ h. irreflexive u (subst (λ t. IsBefore t u) e h.1)) c)
      at false true b k (inr (inr gt)) n = inr (λ c. ⊎_elim (λ h. let f : true ≡ false = sym h.0 ∙ b in cc) (λ h. irreflexive u (transitive u y.stamp u gt h.1)) c)
      at false false b k n l = inr (λ c. ⊎_elim (λ h. let f : true ≡ false = sym h.0 ∙ b in cc) (λ h. let f : true ≡ false = sym h.0 ∙ k in cc) c)

  some_cut : (xs : Log M) (u : Stamp) (q : ℕ) → ((y : ActIn p) × In y xs × M.Cuts y u q) ⊎ ((y : ActIn p) → In y xs → M.Cuts y u q → ⊥)
  some_cut [] u q = inr (λ y i c. i)
  some_cut (x ∷ xs) u q =
      ⊎_elim (λ c. inl (x, inl refl, c))
      (λ n. ⊎_elim (λ f. inl (f.0, inr f.1, f.2)) (λ h. inr (λ y i c. ⊎_elim (λ e. n (subst (λ z. M.Cuts z u q) e c)) (λ j. h y j c) i)) (some_cut xs u q))
      (cut_or_not x u q)

  -- the front of least place, with what holds where it is below the cut
  pub record OpenLeast (st : State M) : Type 0 where
    pub process : ℕ
    pub front : Front Stamp
    pub is : front_of M st process ≡ Some front
    pub least : IsLeast M st process front
    pub uncut : Open M st.log front.stamp process
    pub below : front.stamp.delta < p.limit
    pub numbered : process < p.processes

  pub over_or_open : (st : State M) → Lawful M st → st.out ≡ [] → IsOver M st ⊎ OpenLeast st
  over_or_open st l quiet = at (least_below M L st.log M.processes)
    where
      g : Good M st
      g = good M L st l

      front_is : (q : ℕ) → front_of M st q ≡ M.front st.log q
      front_is q = front_of_idle M L st q (ap (last q) quiet)

      at : LeastBelow M L st.log M.processes → IsOver M st ⊎ OpenLeast st
      at (no_front n) = inl (record { quiet = quiet; shut = λ q f e least o. let k = sym (front_is q) ∙ e in n q f (L.numbered st.log q f g.ordered k) k })
      at (a_front a f e b all) =
          ⊎_elim (λ late. inl (shut (λ o. let within = o.within in omega (arith, late, within))))
          (λ within.
          ⊎_elim (λ limit. inl (shut (λ o. o.below limit)))
          (λ low.
          ⊎_elim (λ c. inl (shut (λ o. o.uncut c.0 c.1 c.2)))
          (λ n. inr (record { process = a; front = f; is = front_is a ∙ e; least = least; uncut = record { within = within; below = low; uncut = n }; below = allowed_below st a f (allowed within low) (λ y i. below_limit st l y (inl i)); numbered = b }))
          (some_cut st.log f.stamp a))
          (same_or_not f.stamp.delta p.limit))
          (less_or p.stop.0 f.stamp.time.0)
        where
          least : IsLeast M st a f
          least r c n k = let i = sym (front_is r) ∙ k in all r c (L.numbered st.log r c g.ordered i) n i

          allowed : f.stamp.time.0 ≤ p.stop.0 → (f.stamp.delta ≡ p.limit → ⊥) → Allowed M st a f
          allowed within low = no_dead_end M L st g a f quiet (front_is a ∙ e) least within low

          shut : (Open M st.log f.stamp a → ⊥) → IsOver M st
          shut n = record { quiet = quiet; shut = λ q c k l o. same q c k l o (same_or_not q a) }
            where
              same : (q : ℕ) (c : Front Stamp) → front_of M st q ≡ Some c → IsLeast M st q c → Open M st.log c.stamp q → (q ≡ a) ⊎ (q ≡ a → ⊥) → ⊥
              same q c k l o (inl s) = n (subst (λ t. Open M st.log t a) (ap (λ t. t.stamp) (some_is c f (sym k ∙ ap (front_of M st) s ∙ front_is a ∙ e))) (subst (Open M st.log c.stamp) s o))
              same q c k l o (inr s) = not_both_earlier M L.order f.stamp a c.stamp q (least q c s k) (l a f (λ t. s (sym t)) (front_is a ∙ e))

  -- so it isn't stuck
  pub never_stuck : (st : State M) → Lawful M st → st.out ≡ [] → IsOver M st ⊎ ((q : ℕ) × (f : Front Stamp) × Allowed M st q f)
  never_stuck st l quiet =
      ⊎_elim (λ o. inl o) (λ o. inr (o.process, o.front, no_dead_end M L st (good M L st l) o.process o.front quiet o.is o.least o.uncut.within o.uncut.below)) (over_or_open st l quiet)

  -- ---- the sequential run is a lawful one

  abbrev alone : Log M → State M
  alone xs = record { log = xs; out = [] }

  run_more : (x : ActIn p) (xs : Log M) → Sequential M (x ∷ xs) → Kept M (x ∷ xs) → Lawful M (alone xs) → Lawful M (alone (x ∷ xs))
  run_more x xs q k before = subst (Lawful M) same_state (commit x made (inl refl))
    where
      allowed : Allowed M (alone xs) x.process (front_at x)
      allowed = no_dead_end M L (alone xs) (good M L (alone xs) before) x.process (front_at x) refl q.0.front q.0.least k.0.within k.0.below

      same : job M (alone xs) x.process (front_at x) ≡ x
      same =
          ap (λ n. record { process = x.process; number = n; segment = x.segment; stamp = x.stamp; reads = M.reads xs x.process x.segment x.stamp }) (sym q.0.number)
          ∙ ap (λ t. record { process = x.process; number = x.number; segment = x.segment; stamp = x.stamp; reads = t }) (sym q.0.reads)

      made : Lawful M (record { log = xs; out = x ∷ [] })
      made = subst (λ j. Lawful M (record { log = xs; out = j ∷ [] })) same (dispatch x.process (front_at x) before allowed)

      same_state : committed M (record { log = xs; out = x ∷ [] }) x ≡ alone (x ∷ xs)
      same_state = ap (λ out. record { log = x ∷ xs; out = out }) (if_same x.process x.process [] (x ∷ []) refl)

  pub run_lawful : (zs : Log M) → Sequential M zs → Kept M zs → Lawful M (alone zs)
  run_lawful [] q k = empty
  run_lawful (x ∷ xs) q k = run_more x xs q k (run_lawful xs q.1 k.1)
