-- Tables of the least delays of edges.
use Rattle.std.proofs.Common.{◌≡◌, ℕ, zero, suc, ◌<◌, ◌≤◌, List, [], ◌∷◌, ◌++◌, length, Option, Some, None, refl, sym, ap, ◌∙◌, subst, arith, inl, inr, ◌⊎◌}
use Rattle.std.specs.Prelude.{All, Contains, slice_get, slice_index_or}
use Rattle.std.proofs.lemmas.Bool.{cases_eq}
use Rattle.std.proofs.lemmas.List.{length_push, get_or_append_left, get_or_at}
use Rattle.std.proofs.lemmas.List.Elements.{All-contains, All-from_get_or, Contains-push, Contains-push_cases, Contains-append_left}
use Rattle.std.proofs.lemmas.Option.{slice_get_within}
use Rattle.ooo_lemmas.proofs.Placed.{at_push, inside}
use Rattle.ooo_lemmas.proofs.Contained.{not_in_none}
use Rattle.ooo_time.specs.declared.time.Time.{Time}
use Rattle.ooo_time.specs.declared.delay.Delay.{Delay}
use Rattle.ooo_segments.specs.declared.graphs.Edge.{Edge}
use Rattle.ooo_segments.specs.declared.graphs.Graph.{Graph}
use Rattle.ooo_segments.specs.Edges.{IsLink, IsStep, delay_after}
use Rattle.ooo_access.specs.declared.access.Access.{Access}
use Rattle.ooo_advance.specs.Orders.{AtMost, IsLesser, IsLeastOf}
use Rattle.ooo_advance.specs.Walks.{IsEdge, Notifies, edge_of}
use Rattle.ooo_advance.specs.Rows.{delay_at, entry_at}
use Rattle.ooo_advance.specs.Links.{AreNotices, AreNoticeRows, HasRows, HasSteps, IsAdded, IsLinkTable}
use Rattle.ooo_advance.specs.Turns.{AllLinks}
use Rattle.ooo_advance.proofs.OrderLemmas.{at_most_trans}

-- ---- lists

-- a row has a segment for which it has a delay
pub delay_within : (row : List (Option Delay)) (v : ℕ) (d : Delay) → delay_at row v ≡ Some d → v < length row
delay_within [] v d h = absurd cc
delay_within (x ∷ xs) zero d h = omega arith
delay_within (x ∷ xs) (suc v) d h = let r = delay_within xs v d h in omega arith

-- a table has a row for a segment for which it has a delay
row_within : (links : List (List (Option Delay))) (n v : ℕ) (d : Delay) → entry_at links n v ≡ Some d → n < length links
row_within [] n v d h = absurd cc
row_within (x ∷ xs) zero v d h = omega arith
row_within (x ∷ xs) (suc n) v d h = let r = row_within xs n v d h in omega arith

-- ---- the least of some delays

least_none : (P : Delay → Type 0) → ((d : Delay) → P d → ⊥) → IsLeastOf P None
least_none P out = record { holds = λ d e. absurd cc; at_most = λ d p. absurd (out d p) }

least_same : (P Q : Delay → Type 0) (least : Option Delay) → IsLeastOf P least → ((d : Delay) → P d → Q d) → ((d : Delay) → Q d → P d) → IsLeastOf Q least
least_same P Q least h forth back = record { holds = λ d e. forth d (h.holds d e); at_most = λ d q. h.at_most d (back d q) }

least_more : (P Q : Delay → Type 0) (known : Option Delay) (x r : Delay) → IsLeastOf P known → IsLesser known x r → ((d : Delay) → P d → Q d) → ((d : Delay) → Q d → P d ⊎ (d ≡ x)) → Q x → IsLeastOf Q (Some r)
least_more P Q known x r h l forth back here = record {
  holds = λ d e. let s : r ≡ d = cc in elim l.one_of [
    | inl is ↦ forth d (h.holds d (is ∙ ap Some s))
    | inr is ↦ subst Q (sym is ∙ s) here
  ];
  at_most = λ d q. elim (back d q) [
    | inl p ↦ let m = h.at_most d p in record { has = r; is = refl; at_most = at_most_trans r m.has d (l.first m.has m.is) m.at_most }
    | inr e ↦ record { has = r; is = refl; at_most = subst (λ y. AtMost r y) (sym e) l.second }
  ];
}

-- ---- notifications

abbrev pub Notice : Type 0
Notice = ℕ × Option Time

abbrev pub no_notice : Notice
no_notice = (0, None)

-- an access that notifies this instead
abbrev pub notifying : Access → List Notice → Access
notifying access notices = record access { notified = notices }

pub notices_none : (from to : Access) → IsLeastOf (Notifies (notifying from []) to) None
notices_none from to = least_none (Notifies (notifying from []) to) (λ d h. not_in_none (h.event, h.time) h.notified)

notices_keep : (from to : Access) (ns : List Notice) (x : Notice) (d : Delay) → Notifies (notifying from ns) to d → Notifies (notifying from (ns ++ x ∷ [])) to d
notices_keep from to ns x d h = record {
  event = h.event;
  time = h.time;
  notified = Contains-append_left ns (x ∷ []) (h.event, h.time) h.notified;
  waited = h.waited;
  is = h.is;
}

-- a notification more, on which the other waits
pub notices_more : (from to : Access) (ns : List Notice) (x : Notice) (known : Option Delay) (d r : Delay) → IsLeastOf (Notifies (notifying from ns) to) known → Contains to.waited x.0 → d ≡ delay_after x.1 → IsLesser known d r → IsLeastOf (Notifies (notifying from (ns ++ x ∷ [])) to) (Some r)
notices_more from to ns x known d r h waits by l =
    least_more (Notifies (notifying from ns) to) (Notifies (notifying from (ns ++ x ∷ [])) to) known d r h l (notices_keep from to ns x) back here
  where
    back : (k : Delay) → Notifies (notifying from (ns ++ x ∷ [])) to k → Notifies (notifying from ns) to k ⊎ (k ≡ d)
    back k n = elim (Contains-push_cases ns x (n.event, n.time) n.notified) [
      | inl old ↦ inl (record { event = n.event; time = n.time; notified = old; waited = n.waited; is = n.is })
      | inr e ↦ inr (n.is ∙ ap (λ (m : Notice). delay_after m.1) (sym e) ∙ sym by)
    ]

    here : Notifies (notifying from (ns ++ x ∷ [])) to d
    here = record { event = x.0; time = x.1; notified = Contains-push ns x; waited = waits; is = by }

-- one on which the other doesn't wait
pub notices_other : (from to : Access) (ns : List Notice) (x : Notice) (known : Option Delay) → IsLeastOf (Notifies (notifying from ns) to) known → (Contains to.waited x.0 → ⊥) → IsLeastOf (Notifies (notifying from (ns ++ x ∷ [])) to) known
notices_other from to ns x known h out =
    least_same (Notifies (notifying from ns) to) (Notifies (notifying from (ns ++ x ∷ [])) to) known h (notices_keep from to ns x) back
  where
    back : (k : Delay) → Notifies (notifying from (ns ++ x ∷ [])) to k → Notifies (notifying from ns) to k
    back k n = elim (Contains-push_cases ns x (n.event, n.time) n.notified) [
      | inl old ↦ record { event = n.event; time = n.time; notified = old; waited = n.waited; is = n.is }
      | inr e ↦ absurd (out (subst (λ (m : Notice). Contains to.waited m.0) (sym e) n.waited))
    ]

pub row_none : (from : Access) → AreNotices from [] []
row_none from = record { count = refl; least = λ v to h. absurd cc }

-- a segment more in a row
pub row_more : (from : Access) (access : List Access) (row : List (Option Delay)) (x : Access) (k : Option Delay) → AreNotices from access row → IsLeastOf (Notifies from x) k → AreNotices from (access ++ x ∷ []) (row ++ k ∷ [])
row_more from access row x k h made = record {
  count = let n = h.count in let p = length_push row k in let q = length_push access x in omega arith;
  least = λ v to is. elim (at_push access x to v is) [
    | inl old ↦
        let n = h.count in
        let lt : v < length row = let w = slice_get_within access v to old in omega arith in
        subst (λ z. IsLeastOf (Notifies from to) z) (sym (get_or_append_left row (k ∷ []) None v lt)) (h.least v to old)
    | inr new ↦
        let at : length row ≡ v = h.count ∙ sym new.0 in
        subst (λ z. IsLeastOf (Notifies from to) z) (sym (get_or_at row k [] None v at)) (subst (λ z. IsLeastOf (Notifies from z) k) new.1 made)
  ];
}

pub rows_none : (access : List Access) → AreNoticeRows [] access []
rows_none access = record { count = refl; rows = λ n from h. absurd cc }

-- a row more
pub rows_more : (these access : List Access) (links : List (List (Option Delay))) (x : Access) (row : List (Option Delay)) → AreNoticeRows these access links → AreNotices x access row → AreNoticeRows (these ++ x ∷ []) access (links ++ row ∷ [])
rows_more these access links x row h made = record {
  count = let n = h.count in let p = length_push links row in let q = length_push these x in omega arith;
  rows = λ n from is. elim (at_push these x from n is) [
    | inl old ↦
        let m = h.count in
        let lt : n < length links = let w = slice_get_within these n from old in omega arith in
        subst (λ z. AreNotices from access z) (sym (get_or_append_left links (row ∷ []) [] n lt)) (h.rows n from old)
    | inr new ↦
        let at : length links ≡ n = h.count ∙ sym new.0 in
        subst (λ z. AreNotices from access z) (sym (get_or_at links row [] [] n at)) (subst (λ z. AreNotices z access row) new.1 made)
  ];
}

-- ---- edges

abbrev pub no_edge : Edge
no_edge = edge_of 0 0 (record { time = record { 0 = 0 }; deltas = 0 })

-- a graph with these edges instead
abbrev pub with_edges : Graph → List Edge → Graph
with_edges graph edges = record graph { edges = edges }

same_got : {A : Type 0} (xs : List A) (n : ℕ) (x y : A) → slice_get xs n ≡ Some x → slice_get xs n ≡ Some y → x ≡ y
same_got xs n x y p q = cc

-- the table of the notifications alone
pub table_begins : (graph : Graph) (access : List Access) (links : List (List (Option Delay))) → AreNoticeRows access access links → IsLinkTable (with_edges graph []) access links
table_begins graph access links h = record {
  count = h.count;
  rows = All-from_get_or (λ row. length row ≡ length access) links [] (λ n lt.
      let c = h.count in
      let from = inside access n (omega arith) in
      (h.rows n from.0 from.1).count);
  least = λ n v in_n in_v.
      let from = inside access n in_n in
      let to = inside access v in_v in
      least_same (Notifies from.0 to.0) (λ k. IsEdge (with_edges graph []) access (edge_of n v k)) (entry_at links n v) ((h.rows n from.0 from.1).least v to.0 to.1)
      (λ k m. inr (record { before = from.0; after = to.0; from = from.1; to = to.1; notifies = m }))
      (λ k m. elim m [
        | inl none ↦ absurd (not_in_none (edge_of n v k) none)
        | inr e ↦
            let p = same_got access n e.before from.0 e.from from.1 in
            let q = same_got access v e.after to.0 e.to to.1 in
            subst (λ z. Notifies from.0 z k) q (subst (λ z. Notifies z e.after k) p e.notifies)
      ]);
}

edge_keep : (graph : Graph) (access : List Access) (es : List Edge) (e f : Edge) → IsEdge (with_edges graph es) access f → IsEdge (with_edges graph (es ++ e ∷ [])) access f
edge_keep graph access es e f h = elim h [ inl a ↦ inl (Contains-append_left es (e ∷ []) f a) | inr b ↦ inr b ]

edge_back : (graph : Graph) (access : List Access) (es : List Edge) (e f : Edge) → IsEdge (with_edges graph (es ++ e ∷ [])) access f → IsEdge (with_edges graph es) access f ⊎ (e ≡ f)
edge_back graph access es e f h = elim h [
  | inl a ↦ elim (Contains-push_cases es e f a) [ inl old ↦ inl (inl old) | inr new ↦ inr new ]
  | inr b ↦ inl (inr b)
]

-- at the segments of an edge that was added
added_here : (graph : Graph) (access : List Access) (es : List Edge) (e : Edge) (known : Option Delay) (now : Delay) → IsLeastOf (λ k. IsEdge (with_edges graph es) access (edge_of e.from e.to k)) known → IsLesser known e.delay now → IsLeastOf (λ k. IsEdge (with_edges graph (es ++ e ∷ [])) access (edge_of e.from e.to k)) (Some now)
added_here graph access es e known now h l =
    least_more (λ k. IsEdge (with_edges graph es) access (edge_of e.from e.to k)) (λ k. IsEdge (with_edges graph (es ++ e ∷ [])) access (edge_of e.from e.to k)) known e.delay now h l
    (λ k m. edge_keep graph access es e (edge_of e.from e.to k) m)
    (λ k m. elim (edge_back graph access es e (edge_of e.from e.to k) m) [ inl old ↦ inl old | inr new ↦ inr (sym (ap (λ (f : Edge). f.delay) new)) ])
    (inl (Contains-push es e))

-- and at others
added_there : (graph : Graph) (access : List Access) (es : List Edge) (e : Edge) (n v : ℕ) (known : Option Delay) → ((n ≡ e.from) × (v ≡ e.to) → ⊥) → IsLeastOf (λ k. IsEdge (with_edges graph es) access (edge_of n v k)) known → IsLeastOf (λ k. IsEdge (with_edges graph (es ++ e ∷ [])) access (edge_of n v k)) known
added_there graph access es e n v known out h =
    least_same (λ k. IsEdge (with_edges graph es) access (edge_of n v k)) (λ k. IsEdge (with_edges graph (es ++ e ∷ [])) access (edge_of n v k)) known h
    (λ k m. edge_keep graph access es e (edge_of n v k) m)
    (λ k m. elim (edge_back graph access es e (edge_of n v k) m) [
      | inl old ↦ old
      | inr new ↦ absurd (out (sym (ap (λ (f : Edge). f.from) new), sym (ap (λ (f : Edge). f.to) new)))
    ])

both_or_not : (a b c d : ℕ) → ((a ≡ b) × (c ≡ d)) ⊎ ((a ≡ b) × (c ≡ d) → ⊥)
both_or_not a b c d = elim (cases_eq a b) [
  | inl p ↦ elim (cases_eq c d) [ inl q ↦ inl (p, q) | inr q ↦ inr (λ h. q h.1) ]
  | inr p ↦ inr (λ h. p h.0)
]

-- an edge more
pub table_more : (graph : Graph) (access : List Access) (es : List Edge) (e : Edge) (links links' : List (List (Option Delay))) → IsLinkTable (with_edges graph es) access links → e.from < length access → e.to < length access → IsAdded links e links' → IsLinkTable (with_edges graph (es ++ e ∷ [])) access links'
table_more graph access es e links links' h in_from in_to a = record {
  count = a.count ∙ h.count;
  rows = a.rows (length access) h.rows;
  least = λ n v in_n in_v. elim (both_or_not n e.from v e.to) [
    | inl same ↦
        let here = added_here graph access es e (entry_at links e.from e.to) a.now (h.least e.from e.to in_from in_to) a.lesser in
        let there = subst (λ z. IsLeastOf (λ k. IsEdge (with_edges graph (es ++ e ∷ [])) access (edge_of e.from e.to k)) z) (sym a.here) here in
        let at_v = subst (λ z. IsLeastOf (λ k. IsEdge (with_edges graph (es ++ e ∷ [])) access (edge_of e.from z k)) (entry_at links' e.from z)) (sym same.1) there in
        subst (λ z. IsLeastOf (λ k. IsEdge (with_edges graph (es ++ e ∷ [])) access (edge_of z v k)) (entry_at links' z v)) (sym same.0) at_v
    | inr out ↦
        let there = added_there graph access es e n v (entry_at links n v) out (h.least n v in_n in_v) in
        subst (λ z. IsLeastOf (λ k. IsEdge (with_edges graph (es ++ e ∷ [])) access (edge_of n v k)) z) (sym (a.others n v out)) there
  ];
}

-- ---- the whole table

row_long : (links : List (List (Option Delay))) (count n v : ℕ) (d : Delay) → HasRows count links → entry_at links n v ≡ Some d → v < count
row_long links count n v d rows is =
    let lt = row_within links n v d is in
    let same = rows n [] lt in
    let w = delay_within (slice_index_or links n []) v d is in
    omega arith

edge_within : (graph : Graph) (access : List Access) (e : Edge) → All (IsLink (length access)) graph.edges → IsEdge graph access e → e.to < length access
edge_within graph access e links h = elim h [
  | inl a ↦ (All-contains (IsLink (length access)) graph.edges e links a).to
  | inr b ↦ slice_get_within access e.to b.after b.to
]

-- each row has the links of its segment
pub table_links : (graph : Graph) (access : List Access) (links : List (List (Option Delay))) → All (IsLink (length access)) graph.edges → IsLinkTable graph access links → AllLinks graph access links
table_links graph access links all h = λ n lt.
    let c = h.count in
    let in_n : n < length access = omega arith in
    record {
      edges = λ v k is. (h.least n v in_n (row_long links (length access) n v k h.rows is)).holds k is;
      least = λ e m edge. (h.least n e.to in_n (edge_within graph access e all edge)).at_most e.delay (subst (λ z. IsEdge graph access (edge_of z e.to e.delay)) m edge);
    }

step_short : (d : Delay) → IsStep d → d.deltas ≤ 1
step_short d h = elim h [ inl a ↦ let x = a.1 in omega arith | inr b ↦ let x = b.2 in omega arith ]

after_short : (t : Option Time) → (delay_after t).deltas ≤ 1
after_short None = omega arith
after_short (Some t) = omega arith

edge_short : (graph : Graph) (access : List Access) (e : Edge) → All (IsLink (length access)) graph.edges → IsEdge graph access e → e.delay.deltas ≤ 1
edge_short graph access e all h = elim h [
  | inl a ↦ step_short e.delay (All-contains (IsLink (length access)) graph.edges e all a).delay
  | inr b ↦ subst (λ (z : Delay). z.deltas ≤ 1) (sym b.notifies.is) (after_short b.notifies.time)
]

-- each edge has at most one delta cycle
pub table_steps : (graph : Graph) (access : List Access) (links : List (List (Option Delay))) → All (IsLink (length access)) graph.edges → IsLinkTable graph access links → HasSteps links
table_steps graph access links all h = λ n v k is.
    let c = h.count in
    let in_n : n < length access = let w = row_within links n v k is in omega arith in
    edge_short graph access (edge_of n v k) all ((h.least n v in_n (row_long links (length access) n v k h.rows is)).holds k is)
