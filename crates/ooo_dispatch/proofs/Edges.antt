-- The edges of a design: who notifies an event has one to each segment that waits on it, no longer than the notification.
use Rattle.std.proofs.Common.{◌≡◌, ℕ, zero, suc, ◌+◌, ◌⊎◌, inl, inr, ⊎_elim, List, [], ◌∷◌, ◌++◌, map, Bool, true, false, if◌then◌else◌, Option, Some, refl, sym, ap, ◌∙◌, subst, arith}
use Rattle.std.specs.Prelude.{slice_get}
use Rattle.ooo_time.specs.declared.time.Time.{Time}
use Rattle.ooo_segments.specs.declared.graphs.Edge.{Edge}
use Rattle.ooo_segments.specs.Edges.{delay_after}
use Rattle.ooo_access.specs.declared.access.Access.{Access}
use Rattle.ooo_schedules.specs.Model.{In}
use Rattle.ooo_dispatch.specs.Rules.{Rules, has, edges_to, edges_from, notice_edges, row_of, all_edges}

-- ---- membership

pub in_left : {A : Type 0} (xs ys : List A) (x : A) → In x xs → In x (xs ++ ys)
in_left [] ys x i = absurd i
in_left (z ∷ xs) ys x i = ⊎_elim (λ e. inl e) (λ j. inr (in_left xs ys x j)) i

pub in_right : {A : Type 0} (xs ys : List A) (x : A) → In x ys → In x (xs ++ ys)
in_right [] ys x i = i
in_right (z ∷ xs) ys x i = inr (in_right xs ys x i)

pub in_map : {A B : Type 0} (f : A → B) (xs : List A) (x : A) → In x xs → In (f x) (map f xs)
in_map f [] x i = absurd i
in_map f (y ∷ xs) x i = ⊎_elim (λ e. inl (ap f e)) (λ j. inr (in_map f xs x j)) i

-- what a list has at a place is in it
pub in_at : {A : Type 0} (xs : List A) (n : ℕ) (x : A) → slice_get xs n ≡ Some x → In x xs
in_at [] n x e = absurd cc
in_at (y ∷ xs) zero x e = inl (let f : y ≡ x = cc in sym f)
in_at (y ∷ xs) (suc n) x e = inr (in_at xs n x e)

-- ---- edges by notifications

edge_to : (from to e : ℕ) (t : Option Time) (b : Access) (ns : List (ℕ × Option Time)) → In (e, t) ns → has b.waited e ≡ true →
    In (record { from = from; delay = delay_after t; to = to }) (edges_to from to b ns)
edge_to from to e t b [] i w = absurd i
edge_to from to e t b (n ∷ ns) i w = at (has b.waited n.0) refl i (λ j. edge_to from to e t b ns j w)
  where
    at :
        (c : Bool) → has b.waited n.0 ≡ c → ((e, t) ≡ n) ⊎ In (e, t) ns → (In (e, t) ns → In (record { from = from; delay = delay_after t; to = to }) (edges_to from to b ns)) →
        In (record { from = from; delay = delay_after t; to = to }) (if c then record { from = from; delay = delay_after n.1; to = to } ∷ edges_to from to b ns else edges_to from to b ns)
    at true h (inl k) rest = inl (ap (λ x. record { from = from; delay = delay_after x.1; to = to }) k)
    at true h (inr j) rest = inr (rest j)
    at false h (inl k) rest = absurd (let c : true ≡ false = sym w ∙ ap (λ x. has b.waited x.0) k ∙ h in cc)
    at false h (inr j) rest = rest j

edge_from : (from to g e : ℕ) (t : Option Time) (a b : Access) (bs : List Access) → slice_get bs g ≡ Some b → In (e, t) a.notified → has b.waited e ≡ true →
    In (record { from = from; delay = delay_after t; to = to + g }) (edges_from from to a bs)
edge_from from to g e t a b [] h i w = absurd cc
edge_from from to zero e t a b (c ∷ bs) h i w =
    in_left (edges_to from to c a.notified) (edges_from from (suc to) a bs) _
    (subst (λ n. In (record { from = from; delay = delay_after t; to = n }) (edges_to from to c a.notified)) (omega arith)
    (edge_to from to e t c a.notified i (let same : c ≡ b = cc in subst (λ x. has x.waited e ≡ true) (sym same) w)))
edge_from from to (suc g) e t a b (c ∷ bs) h i w =
    in_right (edges_to from to c a.notified) (edges_from from (suc to) a bs) _
    (subst (λ n. In (record { from = from; delay = delay_after t; to = n }) (edges_from from (suc to) a bs)) (omega arith)
    (edge_from from (suc to) g e t a b bs h i w))

notice_edge : (access : List Access) (first g h e : ℕ) (t : Option Time) (a b : Access) (others : List Access) → slice_get others g ≡ Some a → slice_get access h ≡ Some b →
    In (e, t) a.notified → has b.waited e ≡ true → In (record { from = first + g; delay = delay_after t; to = h }) (notice_edges access first others)
notice_edge access first g h e t a b [] x y i w = absurd cc
notice_edge access first zero h e t a b (c ∷ others) x y i w =
    in_left (edges_from first 0 c access) (notice_edges access (suc first) others) _
    (subst (λ n. In (record { from = n; delay = delay_after t; to = h }) (edges_from first 0 c access)) (omega arith)
    (subst (λ n. In (record { from = first; delay = delay_after t; to = n }) (edges_from first 0 c access)) (omega arith)
    (edge_from first 0 h e t c b access y (let same : c ≡ a = cc in subst (λ z. In (e, t) z.notified) (sym same) i) w)))
notice_edge access first (suc g) h e t a b (c ∷ others) x y i w =
    in_right (edges_from first 0 c access) (notice_edges access (suc first) others) _
    (subst (λ n. In (record { from = n; delay = delay_after t; to = h }) (notice_edges access (suc first) others)) (omega arith)
    (notice_edge access (suc first) g h e t a b others x y i w))

-- who notifies an event has an edge to each segment that waits on it
pub by_notice : (r : Rules) (g h e : ℕ) (t : Option Time) (a b : Access) → slice_get r.access g ≡ Some a → slice_get r.access h ≡ Some b →
    In (e, t) a.notified → has b.waited e ≡ true → In (record { from = g; delay = delay_after t; to = h }) (all_edges r)
by_notice r g h e t a b x y i w =
    in_right (map row_of r.edges) (notice_edges r.access 0 r.access) (record { from = g; delay = delay_after t; to = h })
    (subst (λ n. In (record { from = n; delay = delay_after t; to = h }) (notice_edges r.access 0 r.access)) (omega arith) (notice_edge r.access 0 g h e t a b r.access x y i w))

-- an edge within a process is one
pub edge_in : (r : Rules) (e : Edge) → In e r.edges → In (row_of e) (all_edges r)
edge_in r e i = in_left (map row_of r.edges) (notice_edges r.access 0 r.access) (row_of e) (in_map row_of r.edges e i)
