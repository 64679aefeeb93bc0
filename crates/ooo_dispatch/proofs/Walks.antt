-- Walks over the edges of the rule are walks over those of the tables, so the least delays decide what is reached.
use Rattle.std.proofs.Common.{◌≡◌, ℕ, suc, ◌+◌, ◌<◌, ◌≤◌, ◌==◌, ◌⊎◌, inl, inr, ⊎_elim, Bool, true, false, if◌then◌else◌, List, [], ◌∷◌, ◌++◌, map, length, Option, Some, None, refl, sym, ap, ◌∙◌, subst, arith}
use Rattle.std.specs.Prelude.{slice_get, Contains, IsSomeAnd}
use Rattle.std.proofs.lemmas.Bool.{cases_order, eqb-false, eqb-true}
use Rattle.std.proofs.lemmas.Option.{slice_get_within}
use Rattle.ooo_time.specs.declared.time.Time.{Time}
use Rattle.ooo_time.specs.declared.stamp.Stamp.{Stamp}
use Rattle.ooo_time.specs.declared.delay.Delay.{Delay}
use Rattle.ooo_time.specs.Stamps.{IsBefore}
use Rattle.ooo_time.specs.Delays.{IsLess, advanced, joined}
use Rattle.ooo_time.specs.Scales.{greatest_time}
use Rattle.ooo_code.specs.declared.design.Design.{Design}
use Rattle.ooo_code.specs.declared.limits.Limits.{Limits}
use Rattle.ooo_code.specs.declared.segment.Segment.{Segment}
use Rattle.ooo_segments.specs.declared.graphs.Edge.{Edge}
use Rattle.ooo_segments.specs.Edges as within
use Rattle.ooo_segments.specs.Edges.{delay_after}
use Rattle.ooo_access.specs.declared.access.Access.{Access}
use Rattle.ooo_advance.specs.Walks.{IsEdge, IsLeast, HasWalk, Walk, edge_of, no_delay, sum_from}
use Rattle.ooo_advance.specs.Rows.{entry_at}
use Rattle.ooo_schedules.specs.Delays as rule
use Rattle.ooo_schedules.specs.Delays.{LeadsTo, NotAfter, Reach, stay, go}
use Rattle.ooo_schedules.specs.Model.{In}
use Rattle.ooo_schedules.specs.Tables.{EdgeRow, edges_of}
use Rattle.ooo_tables.specs.declared.tables.Tables.{Tables}
use Rattle.ooo_tables.specs.Tables.{AreTables}
use Rattle.ooo_dispatch.specs.Least.{rules_of}
use Rattle.ooo_dispatch.specs.Rules.{Rules, all_edges, edges_from, edges_to, has, notice_edges, row_of, tables}
use Rattle.ooo_dispatch.proofs.Accessed.{contains_in}
use Rattle.ooo_dispatch.proofs.Calls.{has_yes}
use Rattle.ooo_dispatch.proofs.Stamps.{then_not_after, transitive}

-- what isn't after what comes before comes before
pub before_by : (x y z : Stamp) → NotAfter x y → IsBefore y z → IsBefore x z
before_by x y z n h = ⊎_elim (λ k. transitive x y z k h) (λ e. subst (λ w. IsBefore w z) (sym e) h) n

joined_stamps : (x y z : Stamp) → NotAfter x y → NotAfter y z → NotAfter x z
joined_stamps x y z p q = ⊎_elim (λ h. inl (then_not_after x y z h q)) (λ e. subst (λ w. NotAfter w z) (sym e) q) p

-- ---- what is in the list of edges

in_either : {A : Type 0} (xs ys : List A) (x : A) → In x (xs ++ ys) → In x xs ⊎ In x ys
in_either [] ys x i = inr i
in_either (z ∷ xs) ys x (inl e) = inl (inl e)
in_either (z ∷ xs) ys x (inr j) = ⊎_elim (λ k. inl (inr k)) (λ k. inr k) (in_either xs ys x j)

in_mapped : {A B : Type 0} (f : A → B) (xs : List A) (y : B) → In y (map f xs) → (x : A) × In x xs × (y ≡ f x)
in_mapped f [] y i = absurd i
in_mapped f (x ∷ xs) y (inl e) = (x, inl refl, e)
in_mapped f (x ∷ xs) y (inr j) = let r = in_mapped f xs y j in (r.0, inr r.1, r.2)

-- an edge by a notification of a segment, number `from`, to another, number `to`
record IsTo (from to : ℕ) (b : Access) (ns : List (ℕ × Option Time)) (row : EdgeRow) : Type 0 where
  pub event : ℕ
  pub time : Option Time
  pub notified : In (event, time) ns
  pub waited : has b.waited event ≡ true
  pub is : row ≡ record { from = from; delay = delay_after time; to = to }

in_to : (from to : ℕ) (b : Access) (ns : List (ℕ × Option Time)) (row : EdgeRow) → In row (edges_to from to b ns) → IsTo from to b ns row
in_to from to b [] row i = absurd i
in_to from to b (n ∷ ns) row i = at (has b.waited n.0) refl i (in_to from to b ns row)
  where
    behind : IsTo from to b ns row → IsTo from to b (n ∷ ns) row
    behind x = record { event = x.event; time = x.time; notified = inr x.notified; waited = x.waited; is = x.is }

    at :
        (c : Bool) → has b.waited n.0 ≡ c → In row (if c then record { from = from; delay = delay_after n.1; to = to } ∷ edges_to from to b ns else edges_to from to b ns) →
        (In row (edges_to from to b ns) → IsTo from to b ns row) → IsTo from to b (n ∷ ns) row
    at true h (inl e) rest = record { event = n.0; time = n.1; notified = inl refl; waited = h; is = e }
    at true h (inr j) rest = behind (rest j)
    at false h j rest = behind (rest j)

-- one from a segment to one of a list, of which the first has the number `to`
record IsFrom (from to : ℕ) (a : Access) (bs : List Access) (row : EdgeRow) : Type 0 where
  pub place : ℕ
  pub after : Access
  pub there : slice_get bs place ≡ Some after
  pub notice : IsTo from (to + place) after a.notified row

in_from : (from to : ℕ) (a : Access) (bs : List Access) (row : EdgeRow) → In row (edges_from from to a bs) → IsFrom from to a bs row
in_from from to a [] row i = absurd i
in_from from to a (b ∷ bs) row i = ⊎_elim here (λ j. behind (in_from from (suc to) a bs row j)) (in_either (edges_to from to b a.notified) (edges_from from (suc to) a bs) row i)
  where
    here : In row (edges_to from to b a.notified) → IsFrom from to a (b ∷ bs) row
    here j = record { place = 0; after = b; there = refl; notice = subst (λ n. IsTo from n b a.notified row) (omega arith) (in_to from to b a.notified row j) }

    behind : IsFrom from (suc to) a bs row → IsFrom from to a (b ∷ bs) row
    behind r =
        record { place = suc r.place; after = r.after; there = r.there; notice = subst (λ n. IsTo from n r.after a.notified row) (omega arith) r.notice }

-- one from a segment of a list, of which the first has the number `first`
record IsAmong (access : List Access) (first : ℕ) (others : List Access) (row : EdgeRow) : Type 0 where
  pub place : ℕ
  pub before : Access
  pub there : slice_get others place ≡ Some before
  pub notice : IsFrom (first + place) 0 before access row

in_among : (access : List Access) (first : ℕ) (others : List Access) (row : EdgeRow) → In row (notice_edges access first others) → IsAmong access first others row
in_among access first [] row i = absurd i
in_among access first (a ∷ others) row i = ⊎_elim here (λ j. behind (in_among access (suc first) others row j)) (in_either (edges_from first 0 a access) (notice_edges access (suc first) others) row i)
  where
    here : In row (edges_from first 0 a access) → IsAmong access first (a ∷ others) row
    here j = record { place = 0; before = a; there = refl; notice = subst (λ n. IsFrom n 0 a access row) (omega arith) (in_from first 0 a access row j) }

    behind : IsAmong access (suc first) others row → IsAmong access first (a ∷ others) row
    behind r =
        record { place = suc r.place; before = r.before; there = r.there; notice = subst (λ n. IsFrom n 0 r.before access row) (omega arith) r.notice }

-- ---- delays

delay_is : (a b : Delay) → a.time.0 ≡ b.time.0 → a.deltas ≡ b.deltas → a ≡ b
delay_is a b e d = ap (λ x. record { time = record { 0 = x }; deltas = a.deltas }) e ∙ ap (λ x. record { time = b.time; deltas = x }) d

-- a stamp advanced by a delay, of which it is known whether it takes time
abbrev advanced_by : Stamp → Bool → Delay → Stamp
advanced_by s b d = if b then record { time = s.time; delta = s.delta + d.deltas } else record { time = record { 0 = s.time.0 + d.time.0 }; delta = d.deltas }

-- a delay after none
alone : (d : Delay) → joined no_delay d ≡ d
alone d = at (d.time.0 == 0) refl
  where
    at : (b : Bool) → (d.time.0 == 0) ≡ b → (if b then record { time = no_delay.time; deltas = no_delay.deltas + d.deltas } else record { time = record { 0 = no_delay.time.0 + d.time.0 }; deltas = d.deltas }) ≡ d
    at true e = delay_is _ _ (sym (eqb-true d.time.0 0 e)) (omega arith)
    at false e = delay_is _ _ (omega arith) refl

-- what isn't less comes no earlier
no_earlier : (s : Stamp) (j k : Delay) → (IsLess k j → ⊥) → NotAfter (advanced s j) (advanced s k)
no_earlier s j k not_less = at (j.time.0 == 0) (k.time.0 == 0) refl refl (cases_order j.time.0 k.time.0) (cases_order j.deltas k.deltas)
  where
    at : (x y : Bool) → (j.time.0 == 0) ≡ x → (k.time.0 == 0) ≡ y → (j.time.0 ≡ k.time.0) ⊎ ((j.time.0 < k.time.0) ⊎ (k.time.0 < j.time.0)) → (j.deltas ≡ k.deltas) ⊎ ((j.deltas < k.deltas) ⊎ (k.deltas < j.deltas)) → NotAfter (advanced_by s x j) (advanced_by s y k)
    at x y e f (inr (inr h)) d = absurd (not_less (inl h))
    at x y e f (inl h) (inr (inr d)) = absurd (not_less (inr (sym h, d)))
    at true true e f (inr (inl h)) (inr (inr d)) = let z = eqb-true k.time.0 0 f in absurd (omega (arith, h, z))
    at true true e f c (inl d) = inr (ap (λ n. record { time = s.time; delta = s.delta + n }) d)
    at true true e f c (inr (inl d)) = inl (inr (refl, omega (arith, d)))
    at true false e f c d = let n = eqb-false k.time.0 0 f in inl (inl (⊎_elim (λ z. absurd (n z)) (λ z. ⊎_elim (λ u. absurd (omega (arith, u))) (λ u. omega (arith, u)) z) (cases_order k.time.0 0)))
    at false true e f (inl h) d = let n = eqb-false j.time.0 0 e in absurd (n (h ∙ eqb-true k.time.0 0 f))
    at false true e f (inr (inl h)) d = let z = eqb-true k.time.0 0 f in absurd (omega (arith, h, z))
    at false false e f (inr (inl h)) d = inl (inl (omega (arith, h)))
    at false false e f (inl h) (inl d) = inr (ap (λ n. record { time = record { 0 = s.time.0 + n.time.0 }; delta = n.deltas }) (delay_is j k h d))
    at false false e f (inl h) (inr (inl d)) = inl (inr (omega (arith, h), d))

-- a stamp that a long delay leads to is late
late : (s : Stamp) (k : Delay) → greatest_time < k.time.0 → greatest_time < (advanced s k).time.0
late s k h = at (k.time.0 == 0) refl
  where
    at : (b : Bool) → (k.time.0 == 0) ≡ b → greatest_time < (advanced_by s b k).time.0
    at true e = let z = eqb-true k.time.0 0 e in absurd (omega (arith, h, z))
    at false e = omega (arith, h)

pub not_later : (s t : Stamp) → NotAfter s t → s.time.0 ≤ t.time.0
not_later s t n = ⊎_elim (λ h. ⊎_elim (λ x. omega (arith, x)) (λ x. let e = x.0 in omega (arith, e)) h) (λ e. let d = ap (λ x. x.time.0) e in omega (arith, d)) n

module _ (design : Design) (limits : Limits) (t : Tables) (are : AreTables design t) where
  abbrev r : Rules
  r = rules_of design limits t

  pub edge : (from to : ℕ) (d : Delay) → In (record { from = from; delay = d; to = to }) (all_edges r) → IsEdge t.graph t.access (edge_of from to d)
  edge from to d i = ⊎_elim own notice (in_either (map row_of r.edges) (notice_edges r.access 0 r.access) (record { from = from; delay = d; to = to }) i)
    where
      own : In (record { from = from; delay = d; to = to }) (map row_of r.edges) → IsEdge t.graph t.access (edge_of from to d)
      own j =
          let x = in_mapped row_of r.edges (record { from = from; delay = d; to = to }) j in
          let same : edge_of from to d ≡ x.0 = ap (λ y. edge_of y.from y.to y.delay) x.2 in
          inl (subst (Contains t.graph.edges) (sym same) (contains_in t.graph.edges x.0 x.1))

      notice : In (record { from = from; delay = d; to = to }) (notice_edges r.access 0 r.access) → IsEdge t.graph t.access (edge_of from to d)
      notice j =
          let x = in_among r.access 0 r.access (record { from = from; delay = d; to = to }) j in
          let y = x.notice in
          let z = y.notice in
          let a : from ≡ 0 + x.place = ap (λ e. e.from) z.is in
          let b : to ≡ 0 + y.place = ap (λ e. e.to) z.is in
          inr (record {
            before = x.before;
            after = y.after;
            from = ap (slice_get t.access) (omega (arith, a)) ∙ x.there;
            to = ap (slice_get t.access) (omega (arith, b)) ∙ y.there;
            notifies = record {
              event = z.event;
              time = z.time;
              notified = contains_in x.before.notified (z.event, z.time) z.notified;
              waited = has_yes y.after.waited z.event z.waited;
              is = ap (λ e. e.delay) z.is;
            };
          })

  -- ---- an edge is between segments that are there

  is_count : length t.access ≡ length t.graph.segments
  is_count = are.access.count

  there_by : {A : Type 0} (P : A → Type 0) (xs : List A) (n : ℕ) → IsSomeAnd (slice_get xs n) P → n < length xs
  there_by P xs n h = at (slice_get xs n) refl h
    where
      at : (o : Option _) → slice_get xs n ≡ o → IsSomeAnd o P → n < length xs
      at None e k = absurd k
      at (Some x) e k = slice_get_within xs n x e

  edge_there : (e : Edge) → IsEdge t.graph t.access e → (e.from < length t.access) × (e.to < length t.access)
  edge_there e (inl c) = at (slice_get t.graph.segments e.from) refl ((are.edges.exact e).0 c)
    where
      at : (o : Option Segment) → slice_get t.graph.segments e.from ≡ o → IsSomeAnd o (λ a. IsSomeAnd (slice_get t.graph.segments e.to) (λ b. within.Follows design e.from e.to a b e.delay)) →
          (e.from < length t.access) × (e.to < length t.access)
      at None k h = absurd h
      at (Some a) k h =
          let from = slice_get_within t.graph.segments e.from a k in
          let to = there_by (λ b. within.Follows design e.from e.to a b e.delay) t.graph.segments e.to h in
          (subst (λ n. e.from < n) (sym is_count) from, subst (λ n. e.to < n) (sym is_count) to)
  edge_there e (inr n) = (slice_get_within t.access e.from n.before n.from, slice_get_within t.access e.to n.after n.to)

  -- ---- walks

  joins : (a b c : ℕ) (es : List Edge) (e : Edge) → Walk t.graph t.access a b es → e.from ≡ b → IsEdge t.graph t.access e → e.to ≡ c → Walk t.graph t.access a c (es ++ e ∷ [])
  joins a b c [] e w f i to = (f ∙ sym w, i, to)
  joins a b c (x ∷ es) e w f i to = (w.0, w.1, joins x.to b c es e w.2 f i to)

  sum_joins : (d : Delay) (es : List Edge) (e : Edge) → sum_from d (es ++ e ∷ []) ≡ joined (sum_from d es) e.delay
  sum_joins d [] e = refl
  sum_joins d (x ∷ es) e = sum_joins (joined d x.delay) es e

  pub walked : (a : ℕ) (k : Delay) (b : ℕ) → rule.Walk (edges_of (tables r)) a k b → HasWalk t.graph t.access a b k
  walked a k b stay = record { edges = []; walk = refl; sum = refl }
  walked a k b (go {k = i} {b = c} j d w h) =
      let x = walked a i c w in
      record {
        edges = x.edges ++ edge_of c b j ∷ [];
        walk = joins a c b x.edges (edge_of c b j) x.walk refl (edge c b j h.0) refl;
        sum = sum_joins no_delay x.edges (edge_of c b j) ∙ ap (λ s. joined s j) x.sum;
      }

  -- a walk to a segment that is there begins at one
  pub begins_there : (a : ℕ) (k : Delay) (b : ℕ) → rule.Walk (edges_of (tables r)) a k b → b < length t.access → a < length t.access
  begins_there a k b stay h = h
  begins_there a k b (go {k = i} {b = c} j d w h) lt = begins_there a i c w (edge_there (edge_of c b j) (edge c b j h.0)).0

  -- where a walk of no more than the greatest time leads to a segment that is there, the table has a delay that leads there no later
  pub walk_leads : (a : ℕ) (s : Stamp) (b : ℕ) (u : Stamp) (reach : Reach (edges_of (tables r)) a s b u) → b < length t.access → reach.0.time.0 ≤ greatest_time →
      (k : Delay) × (entry_at t.advance a b ≡ Some k) × NotAfter (advanced s k) u
  walk_leads a s b u reach lt within = at (entry_at t.advance a b) refl (are.advance.least a b (begins_there a reach.0 b reach.1 lt) lt)
    where
      by : HasWalk t.graph t.access a b reach.0
      by = walked a reach.0 b reach.1

      at : (o : Option Delay) → entry_at t.advance a b ≡ o → IsLeast t.graph t.access a b o → (k : Delay) × (entry_at t.advance a b ≡ Some k) × NotAfter (advanced s k) u
      at None e beyond = let far = subst (λ d. greatest_time < d.time.0) by.sum (beyond by.edges by.walk) in absurd (omega (arith, far, within))
      at (Some k) e least =
          let first = no_earlier s k reach.0 (λ less. least.1 by.edges by.walk (subst (λ d. IsLess d k) (sym by.sum) less)) in
          (k, e, joined_stamps (advanced s k) (advanced s reach.0) u first reach.2)

  -- so it has where one is reached by a stamp within the greatest time
  pub least_leads : (a : ℕ) (s : Stamp) (b : ℕ) (u : Stamp) → Reach (edges_of (tables r)) a s b u → b < length t.access → u.time.0 ≤ greatest_time →
      (k : Delay) × (entry_at t.advance a b ≡ Some k) × NotAfter (advanced s k) u
  least_leads a s b u reach lt within =
      ⊎_elim (λ e. walk_leads a s b u reach lt (omega (arith, e)))
      (λ h. ⊎_elim (λ k. walk_leads a s b u reach lt (omega (arith, k))) (λ k. absurd (beyond k)) h) (cases_order reach.0.time.0 greatest_time)
    where
      beyond : greatest_time < reach.0.time.0 → ⊥
      beyond far =
          let l = late s reach.0 far in
          let n = not_later (advanced s reach.0) u reach.2 in
          omega (arith, l, n, within)

  -- and where an edge of no more than that leads to one
  pub edge_leads : (a : ℕ) (s : Stamp) (b : ℕ) (u : Stamp) (x : LeadsTo (edges_of (tables r)) a s b u) → x.0.time.0 ≤ greatest_time → (k : Delay) × (entry_at t.advance a b ≡ Some k) × NotAfter (advanced s k) u
  edge_leads a s b u x within =
      walk_leads a s b u
      (joined no_delay x.0, go x.0 b stay x.1, subst (λ d. NotAfter (advanced s d) u) (sym (alone x.0)) x.2)
      (edge_there (edge_of a b x.0) (edge a b x.0 x.1.0)).1 (subst (λ d. d.time.0 ≤ greatest_time) (sym (alone x.0)) within)
