-- The channels that nodes are shown something of.
use Rattle.std.proofs.Common.{◌≡◌, ℕ, zero, suc, ◌+◌, ◌<◌, ⊎_elim, Some, length-append, Bool, true, false, if◌then◌else◌, arith, List, [], ◌∷◌, ◌++◌, refl, sym, subst, ap, ◌∙◌, length, get_or, take, append-nil, append_assoc}
use Rattle.std.proofs.Math.Dec.{eqb}
use Rattle.std.proofs.lemmas.Bool.{ltb-true, lt-ltb, cases_lt}
use Rattle.std.proofs.lemmas.Grind.{flat_map-append}
use Rattle.std.proofs.lemmas.List.{take_more, get_or_append_left, get_or_push, map-append}
use Rattle.std.proofs.lemmas.Option.{slice_get-get_or}
use Rattle.std.specs.Global.{Vec}
use Rattle.std.proofs.lemmas.List.Elements.{All-append, All-cons, All-nil, All-contains, Contains-append_left, Contains-append_right, Contains-get_or}
use Rattle.std.proofs.lemmas.List.Kept.{AllPairs-from_increasing, Contains-dedup_nat, Contains-from_dedup}
use Rattle.std.proofs.lemmas.List.Sorted.{Contains-permutation, IsPermutation-sym}
use Rattle.std.proofs.lemmas.Map.Keys.{IsStrictlyIncreasing-dedup}
use Rattle.std.specs.Ordering.{nat_cmp}
use Rattle.std.specs.List.{flat_map, dedup}
use Rattle.std.specs.List.Sorted.{IsPermutation, IsSorted}
use Rattle.std.specs.Prelude.{◌⊎◌, nat_lt, slice_get, All, AllPairs, Contains}
use Rattle.ooo_value.specs.declared.bound.BoundEvent.{BoundEvent}
use Rattle.ooo_code.specs.declared.design.Design.{Design}
use Rattle.ooo_code.specs.declared.design.Proc.{Proc}
use Rattle.ooo_code.specs.declared.expression.NodeExpr.{NodeExpr}
use Rattle.ooo_code.specs.declared.node.Node.{Node}
use Rattle.ooo_code.specs.declared.node.NodeKind.{NodeKind}
use Rattle.ooo_code.specs.declared.node.NodeKind.TheVariants as kind
use Rattle.ooo_code.specs.Segments.{nodes_of}
use Rattle.ooo_code.specs.Touches.{Touch, Reads, Writes, ReadsSignal, WritesSignal, HoldsReading, HoldsWriting, Notifies, Cancels, touched_by, notified_next, reads_of, numbers_where, is_of_signal, is_data_read, is_data_written}
use Rattle.ooo_plain.specs.Engine.{AreShownTo, AreShownChannels}
use Rattle.ooo_plain.specs.Schedule.{lists_of}
use Rattle.ooo_plain.specs.Shown.{one_of, shown_by, shown_to, shown_to_nodes}

-- notifications show nothing
pub shown_notified : (count : ℕ) (es : List ℕ) → shown_to count (notified_next es) ≡ []
shown_notified count [] = refl
shown_notified count (e ∷ es) = shown_notified count es

shown_tail : (count : ℕ) (ts : List Touch) (es : List ℕ) → shown_to count (ts ++ notified_next es) ≡ shown_to count ts
shown_tail count ts es =
    flat_map-append (shown_by count) ts (notified_next es) ∙ ap (λ xs. shown_to count ts ++ xs) (shown_notified count es) ∙ append-nil (shown_to count ts)

-- ---- nodes that notify

module _ (count : ℕ) (events : List BoundEvent) (c : ℕ) (k : NodeKind) (old new : List ℕ) where
  pub told_write : (e : NodeExpr) → k ≡ kind.Write c e → new ≡ old ++ shown_to count (reads_of e) → new ≡ old ++ shown_to count (touched_by events k)
  told_write e is h = subst (λ x. new ≡ old ++ shown_to count (touched_by events x)) (sym is) (h ∙ ap (λ xs. old ++ xs) (sym (shown_tail count (reads_of e) (numbers_where (is_of_signal c) 0 events))))

  pub told_take : (n : ℕ) → k ≡ kind.Take c n → new ≡ old ++ one_of count c → new ≡ old ++ shown_to count (touched_by events k)
  told_take n is h =
      subst (λ x. new ≡ old ++ shown_to count (touched_by events x)) (sym is)
      (h ∙ ap (λ xs. old ++ xs) (sym (ap (λ xs. one_of count c ++ xs) (shown_notified count (numbers_where (is_data_read c) 0 events)) ∙ append-nil (one_of count c))))

  pub told_put : (e : NodeExpr) → k ≡ kind.Put c e → (mid : List ℕ) → mid ≡ old ++ one_of count c → new ≡ mid ++ shown_to count (reads_of e) → new ≡ old ++ shown_to count (touched_by events k)
  told_put e is mid h g =
      subst (λ x. new ≡ old ++ shown_to count (touched_by events x)) (sym is)
      (g ∙ ap (λ xs. xs ++ shown_to count (reads_of e)) h ∙ append_assoc old (one_of count c) (shown_to count (reads_of e))
      ∙ ap (λ xs. old ++ (one_of count c ++ xs)) (sym (shown_tail count (reads_of e) (numbers_where (is_data_written c) 0 events))))

-- ---- nodes that are told alike

as_kind : (count : ℕ) (events : List BoundEvent) (k j : NodeKind) (old new : List ℕ) → k ≡ j → new ≡ old ++ shown_to count (touched_by events j) → new ≡ old ++ shown_to count (touched_by events k)
as_kind count events k j old new is h = subst (λ x. new ≡ old ++ shown_to count (touched_by events x)) (sym is) h

-- a node that shows what its expression reads
pub told_reads : (count : ℕ) (events : List BoundEvent) (k : NodeKind) (e : NodeExpr) (old new : List ℕ) → ((x : ℕ) × (k ≡ kind.Set x e)) ⊎ (((x : ℕ) × (k ≡ kind.Test e x)) ⊎ ((k ≡ kind.PrintValue e) ⊎ ((x : ℕ) × (k ≡ kind.Write x e))))
    → new ≡ old ++ shown_to count (reads_of e) → new ≡ old ++ shown_to count (touched_by events k)
told_reads count events k e old new is h =
    ⊎_elim (λ set. as_kind count events k (kind.Set set.0 e) old new set.1 h)
    (⊎_elim (λ test. as_kind count events k (kind.Test e test.0) old new test.1 h)
    (⊎_elim (λ print. as_kind count events k (kind.PrintValue e) old new print h) (λ write. told_write count events write.0 k old new e write.1 h))) is

-- a node that shows a fifo of which an end is held
pub told_end : (count : ℕ) (events : List BoundEvent) (k : NodeKind) (c : ℕ) (old new : List ℕ) → ((x : ℕ) × (k ≡ kind.TestAvailable c x)) ⊎ (((x : ℕ) × (k ≡ kind.TestFree c x)) ⊎ ((x : ℕ) × (k ≡ kind.Take c x)))
    → new ≡ old ++ one_of count c → new ≡ old ++ shown_to count (touched_by events k)
told_end count events k c old new is h =
    let alone : new ≡ old ++ (one_of count c ++ []) = h ∙ ap (λ xs. old ++ xs) (sym (append-nil (one_of count c))) in
    ⊎_elim (λ test. as_kind count events k (kind.TestAvailable c test.0) old new test.1 alone)
    (⊎_elim (λ test. as_kind count events k (kind.TestFree c test.0) old new test.1 alone) (λ take. told_take count events c k old new take.0 take.1 h)) is

-- ---- node by node

nodes_more : (count : ℕ) (events : List BoundEvent) (nodes : List Node) (i : ℕ) (d : Node) → i < length nodes → shown_to_nodes count events (take (i + 1) nodes) ≡ shown_to_nodes count events (take i nodes) ++ shown_to count (touched_by events (get_or nodes i d).kind)
nodes_more count events nodes i d lt =
    ap (shown_to_nodes count events) (take_more nodes i d lt)
    ∙ flat_map-append (λ node. shown_to count (touched_by events node.kind)) (take i nodes) (get_or nodes i d ∷ [])
    ∙ ap (λ xs. shown_to_nodes count events (take i nodes) ++ xs) (append-nil (shown_to count (touched_by events (get_or nodes i d).kind)))

pub nodes_push : (count : ℕ) (events : List BoundEvent) (nodes : List Node) (i : ℕ) (node : Node) (old new : List ℕ) → i < length nodes → node ≡ get_or nodes i node → old ≡ shown_to_nodes count events (take i nodes) → new ≡ old ++ shown_to count (touched_by events node.kind) → new ≡ shown_to_nodes count events (take (i + 1) nodes)
nodes_push count events nodes i node old new lt is h g =
    g ∙ ap (λ xs. xs ++ shown_to count (touched_by events node.kind)) h ∙ ap (λ x. shown_to_nodes count events (take i nodes) ++ shown_to count (touched_by events x.kind)) is ∙ sym (nodes_more count events nodes i node lt)

-- ---- each is one of so many

one_within : (count c : ℕ) → All (λ x. x < count) (one_of count c)
one_within count c = go (nat_lt c count) refl
  where
    go : (b : Bool) → nat_lt c count ≡ b → All (λ x. x < count) (if b then c ∷ [] else [])
    go true e = All-cons (λ x. x < count) c [] (ltb-true c count e) (All-nil (λ x. x < count))
    go false e = All-nil (λ x. x < count)

by_within : (count : ℕ) (t : Touch) → All (λ x. x < count) (shown_by count t)
by_within count (ReadsSignal c) = one_within count c
by_within count (HoldsReading c) = one_within count c
by_within count (HoldsWriting c) = one_within count c
by_within count (Reads x) = All-nil (λ x. x < count)
by_within count (Writes x) = All-nil (λ x. x < count)
by_within count (WritesSignal c) = All-nil (λ x. x < count)
by_within count (Notifies e k) = All-nil (λ x. x < count)
by_within count (Cancels e) = All-nil (λ x. x < count)

to_within : (count : ℕ) (ts : List Touch) → All (λ x. x < count) (shown_to count ts)
to_within count [] = All-nil (λ x. x < count)
to_within count (t ∷ ts) = All-append (λ x. x < count) (shown_by count t) (shown_to count ts) (by_within count t) (to_within count ts)

nodes_within : (count : ℕ) (events : List BoundEvent) (nodes : List Node) → All (λ x. x < count) (shown_to_nodes count events nodes)
nodes_within count events [] = All-nil (λ x. x < count)
nodes_within count events (x ∷ xs) = All-append (λ x. x < count) (shown_to count (touched_by events x.kind)) (shown_to_nodes count events xs) (to_within count (touched_by events x.kind)) (nodes_within count events xs)

-- ---- a touch of a node is told

contains_part : {X A : Type 0} (f : X → List A) (xs : List X) (x : X) (a : A) (k : ℕ) → k < length xs → get_or xs k x ≡ x → Contains (f x) a → Contains (flat_map f xs) a
contains_part f [] x a k lt is h = absurd (omega (arith, lt))
contains_part f (y ∷ ys) x a zero lt is h = Contains-append_left (f y) (flat_map f ys) a (subst (λ z. Contains (f z) a) (sym is) h)
contains_part f (y ∷ ys) x a (suc k) lt is h = Contains-append_right (f y) (flat_map f ys) a (contains_part f ys x a k (omega (arith, lt)) is h)

pub told : (count : ℕ) (events : List BoundEvent) (nodes : List Node) (node : Node) (t : Touch) (c : ℕ) → Contains nodes node → Contains (touched_by events node.kind) t → shown_by count t ≡ one_of count c → c < count → Contains (shown_to_nodes count events nodes) c
told count events nodes node t c in_nodes touches shows lt =
    let one : Contains (one_of count c) c = rw (lt-ltb c count lt) (0, omega arith, refl) in
    let by : Contains (shown_by count t) c = subst (λ xs. Contains xs c) (sym shows) one in
    contains_part (λ x. shown_to count (touched_by events x.kind)) nodes node c in_nodes.0 in_nodes.1 in_nodes.2
    (contains_part (shown_by count) (touched_by events node.kind) t c touches.0 touches.1 touches.2 by)

-- ---- sorted, and each once

pub shown_sorted : (design : Design) (process : Proc) (all sorted names : List ℕ) → all ≡ shown_to_nodes (length design.channels) design.events (nodes_of design process) → IsPermutation all sorted → IsSorted nat_cmp sorted → names ≡ dedup eqb sorted → AreShownTo design process names
shown_sorted design process all sorted names told_is moved in_order is = record {
  ascending = subst (AllPairs (λ a b. a < b)) (sym is) (AllPairs-from_increasing (dedup eqb sorted) (IsStrictlyIncreasing-dedup sorted in_order));
  within = λ k d below. All-contains (λ x. x < length design.channels) (shown_to_nodes (length design.channels) design.events (nodes_of design process)) (get_or names k d) (nodes_within (length design.channels) design.events (nodes_of design process)) (from (get_or names k d) (Contains-get_or names k d below));
  exact = λ c. (from c, to c);
} where
  from : (c : ℕ) → Contains names c → Contains (shown_to_nodes (length design.channels) design.events (nodes_of design process)) c
  from c h = subst (λ xs. Contains xs c) told_is (Contains-permutation sorted all c (IsPermutation-sym all sorted moved) (Contains-from_dedup eqb sorted c (subst (λ xs. Contains xs c) is h)))

  to : (c : ℕ) → Contains (shown_to_nodes (length design.channels) design.events (nodes_of design process)) c → Contains names c
  to c h = subst (λ xs. Contains xs c) (sym is) (Contains-dedup_nat sorted c (Contains-permutation all sorted c moved (subst (λ xs. Contains xs c) (sym told_is) h)))

-- ---- process by process

pub shown_none : (design : Design) → AreShownChannels design 0 []
shown_none design = record { count = refl; each = λ p process lt is. absurd (omega (arith, lt)) }

pub shown_more : (design : Design) (n : ℕ) (process : Proc) (names : List (List ℕ)) (one : List ℕ) → slice_get design.processes n ≡ Some process → AreShownChannels design n names → AreShownTo design process one → AreShownChannels design (n + 1) (names ++ one ∷ [])
shown_more design n process names one at h more = record {
  count = length-append names (one ∷ []) ∙ (let c = h.count in let e : length names + 1 ≡ n + 1 = omega (arith, c) in e);
  each = λ p other lt is. ⊎_elim
      (λ below. subst (AreShownTo design other) (sym (get_or_append_left names (one ∷ []) [] p (let c = h.count in omega (arith, below, c)))) (h.each p other below is))
      (λ le.
      let same : p ≡ n = omega (arith, lt, le) in
      let both : other ≡ process = (let e : Some other ≡ Some process = sym is ∙ ap (slice_get design.processes) same ∙ at in cc) in
      subst (AreShownTo design other) (sym (get_or_push names one [] p (h.count ∙ sym same))) (subst (λ x. AreShownTo design x one) (sym both) more))
      (cases_lt p n);
}

pub shown_push : (design : Design) (p : ℕ) (process : Proc) (processes : List Proc) → processes ≡ design.processes → p < length processes → process ≡ get_or processes p process → (names new : List (Vec ℕ)) (one : Vec ℕ) → new ≡ names ++ one ∷ [] → AreShownChannels design p (lists_of names) → AreShownTo design process one.items → AreShownChannels design (p + 1) (lists_of new)
shown_push design p process processes same lt is names new one e h more =
    subst (AreShownChannels design (p + 1)) (sym (ap lists_of e ∙ map-append (λ v. v.items) names (one ∷ [])))
    (shown_more design p process (lists_of names) one.items
    (slice_get-get_or design.processes p process (let n = ap length same in omega (arith, lt, n)) ∙ ap Some (sym (is ∙ ap (λ xs. get_or xs p process) same))) h more)
