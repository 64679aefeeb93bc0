-- Each port of a text that has a model is bound to a channel in the end.
use Rattle.std.proofs.Common.{◌≡◌, ◌∙◌, refl, sym, ap, subst, arith, ℕ, zero, suc, ◌+◌, ◌<◌, ◌≤◌, List, [], ◌∷◌, length, replicate, slice_set, length-set, Bool, true, false, Option, Some, None, ◌⊎◌, inl, inr}
use Rattle.std.specs.Prelude.{slice_get, not, is_some, nat_lt, ◌==◌, ◌||◌, if◌then◌else◌}
use Rattle.std.proofs.lemmas.Bool.{eq-eqb, eqb-true, or_cases, or_left, or_right, lt-ltb, le-ltb, ltb-true}
use Rattle.std.proofs.lemmas.Bool.Decides.{eqb_tells}
use Rattle.std.proofs.lemmas.Option.{slice_get_within}
use Rattle.ooo_lemmas.proofs.Placed.{replicated, set_cases}
use Rattle.ooo_lemmas.specs.Counting.{one_if}
use Rattle.ooo_lemmas.proofs.Counting.{one_at_most, one_more, some_if, none_if}
use Rattle.ooo_constants.specs.declared.meaning.Meaning.{Meaning}
use Rattle.ooo_constants.specs.declared.meaning.Meaning.TheVariants as meaning
use Rattle.ooo_checked.specs.declared.denotation.Thing.{Thing}
use Rattle.ooo_walk.specs.declared.refusal.ElabBreach.TheVariants as what
use Rattle.ooo_walk.specs.declared.state.Walk.{Walk}
use Rattle.ooo_walk.specs.declared.state.WalkedBinding.{WalkedBinding}
use Rattle.ooo_walk.specs.declared.state.WalkedInstance.{WalkedInstance}
use Rattle.ooo_walk.specs.declared.state.WalkedPort.{WalkedPort}
use Rattle.ooo_walk.specs.Texts.{walk_of}
use Rattle.ooo_elaborate.specs.declared.bindings.Links.{Links}
use Rattle.ooo_elaborate.specs.Bindings.{fits, fits_found_port, is_nothing, is_unbound, linked, linked_found, links_by, links_of, refusal_of, unbound, unbound_from, channel_behind, channels_of}
use Rattle.ooo_sound_model.specs.Whole.{AllPortsEnd}
use Rattle.ooo_sound_model.proofs.Ordered.{IsBefore, Leads, Means}
use Rattle.ooo_sound_model.proofs.Passed.{passed}
use Rattle.ooo_sound_model.proofs.Walks.{walk_leads}

-- ---- ranks of ports

is_port : Meaning → ℕ → Bool
is_port (meaning.Port p) q = p == q
is_port _ q = false

has_port : List Meaning → ℕ → Bool
has_port [] q = false
has_port (m ∷ ms) q = is_port m q || has_port ms q

has_meant : (ms : List Meaning) (q x : ℕ) → slice_get ms x ≡ Some (meaning.Port q) → has_port ms q ≡ true
unfolding has_port is_port
has_meant [] q x h = absurd cc
has_meant (m ∷ ms) q zero h =
    let same : meaning.Port q ≡ m = cc in
    or_left (is_port m q) (has_port ms q) (subst (λ (y : Meaning). is_port y q ≡ true) same (eq-eqb q q refl))
has_meant (m ∷ ms) q (suc x) h = or_right (is_port m q) (has_port ms q) (has_meant ms q x h)

is_meant : (m : Meaning) (q : ℕ) → is_port m q ≡ true → m ≡ meaning.Port q
unfolding is_port
is_meant (meaning.Port p) q h = ap (λ n. meaning.Port n) (eqb-true p q h)
is_meant (meaning.Variable x) q h = absurd cc
is_meant (meaning.Constant v) q h = absurd cc
is_meant (meaning.Channel c) q h = absurd cc
is_meant (meaning.Event e) q h = absurd cc
is_meant (meaning.Instance i) q h = absurd cc
is_meant (meaning.Function f) q h = absurd cc
is_meant meaning.Nothing q h = absurd cc

meant_had : (ms : List Meaning) (q : ℕ) → has_port ms q ≡ true → Means ms q
unfolding has_port
meant_had [] q h = absurd cc
meant_had (m ∷ ms) q h = elim (or_cases (is_port m q) (has_port ms q) h) [
  | inl e ↦ (0, ap Some (is_meant m q e))
  | inr r ↦ let k = meant_had ms q r in (suc k.0, k.1)
]

-- the first instance that has it, or behind the last
rank : List WalkedInstance → ℕ → ℕ
rank [] q = 0
rank (i ∷ is) q = if has_port i.members q then 0 else suc (rank is q)

rank_at_most : (is : List WalkedInstance) (p k : ℕ) (i : WalkedInstance) → slice_get is k ≡ Some i → has_port i.members p ≡ true → rank is p ≤ k
unfolding rank
rank_at_most [] p k i at h = absurd cc
rank_at_most (j ∷ is) p zero i at h =
    let same : i ≡ j = cc in
    let here : has_port j.members p ≡ true = subst (λ (x : WalkedInstance). has_port x.members p ≡ true) same h in
    subst (λ t. (if t then 0 else suc (rank is p)) ≤ 0) (sym here) (omega arith)
rank_at_most (j ∷ is) p (suc k) i at h =
    let r = rank_at_most is p k i at h in
    elim (has_port j.members p) as (λ t. (if t then 0 else suc (rank is p)) ≤ suc k) [ true ↦ omega arith | false ↦ omega (arith, r) ]

rank_more : (is : List WalkedInstance) (q k : ℕ) → k < length is →
    ((n : ℕ) (i : WalkedInstance) → slice_get is n ≡ Some i → has_port i.members q ≡ true → k < n) → k < rank is q
unfolding rank
rank_more [] q k within h = absurd (omega (arith, within))
rank_more (j ∷ is) q k within h = by (has_port j.members q) refl k within h (λ l w g. rank_more is q l w g)
  where
    by : (t : Bool) → has_port j.members q ≡ t → (k : ℕ) → k < length (j ∷ is) →
        ((n : ℕ) (i : WalkedInstance) → slice_get (j ∷ is) n ≡ Some i → has_port i.members q ≡ true → k < n) →
        ((l : ℕ) → l < length is → ((n : ℕ) (i : WalkedInstance) → slice_get is n ≡ Some i → has_port i.members q ≡ true → l < n) → l < rank is q) →
        k < (if t then 0 else suc (rank is q))
    by true of k within h more = absurd (let no = h 0 j refl of in omega (arith, no))
    by false of zero within h more = omega arith
    by false of (suc k) within h more =
        let r = more k (omega (arith, within)) (λ n i at has. let l = h (suc n) i at has in omega (arith, l)) in omega (arith, r)

rises : (is : List WalkedInstance) (p q : ℕ) → IsBefore is p q → rank is p < rank is q
rises is p q h =
    let low = rank_at_most is p h.place h.instance h.there (has_meant h.instance.members p h.has.0 h.has.1) in
    let high = rank_more is q h.place (slice_get_within is h.place h.instance h.there)
    (λ n i at has. h.later n i at (meant_had i.members q has)) in
    omega (arith, low, high)

-- ---- counting

-- how many numbers below one have more
count : (ℕ → ℕ) → ℕ → ℕ → ℕ
count m r zero = 0
count m r (suc n) = one_if (nat_lt r (m n)) + count m r n

count_at_most : (m : ℕ → ℕ) (r n : ℕ) → count m r n ≤ n
unfolding count
count_at_most m r zero = omega arith
count_at_most m r (suc n) = let h = count_at_most m r n in let g = one_at_most (nat_lt r (m n)) in omega (arith, h, g)

count_less : (m : ℕ → ℕ) (r s n : ℕ) → r ≤ s → count m s n ≤ count m r n
unfolding count
count_less m r s zero h = omega arith
count_less m r s (suc n) h =
    let g = count_less m r s n h in
    let o = one_more (nat_lt s (m n)) (nat_lt r (m n)) (λ e. let l = ltb-true s (m n) e in lt-ltb r (m n) (omega (arith, l, h))) in
    omega (arith, g, o)

-- fewer have more than one that has more
count_falls : (m : ℕ → ℕ) (r q n : ℕ) → q < n → r < m q → count m (m q) n < count m r n
unfolding count
count_falls m r q zero within h = absurd (omega (arith, within))
count_falls m r q (suc n) within h = elim (eqb_tells q n) [
  | inl w ↦
      let same = w.1 in
      let high : r < m n = subst (λ k. r < m k) same h in
      let some = some_if (nat_lt r (m n)) (lt-ltb r (m n) high) in
      let e : m q ≡ m n = ap m same in
      let none = none_if (nat_lt (m q) (m n)) (le-ltb (m q) (m n) (omega (arith, e))) in
      let g = count_less m r (m q) n (omega (arith, h)) in omega (arith, some, none, g)
  | inr w ↦
      let o = one_more (nat_lt (m q) (m n)) (nat_lt r (m n)) (λ e. let l = ltb-true (m q) (m n) e in lt-ltb r (m n) (omega (arith, l, h))) in
      let g : count m (m q) n < count m r n = count_falls m r q n (omega (arith, within, w.1)) h in omega (arith, o, g)
]

-- ---- what ports are bound to

-- by a binding, where it fits
record IsBy (w : Walk) (p : ℕ) (m : Meaning) : Type 0 where
  pub place : ℕ
  pub binding : WalkedBinding
  pub there : slice_get w.bindings place ≡ Some binding
  pub port : binding.port ≡ p
  pub to : binding.to ≡ m
  pub form : Thing
  pub good : fits w form m ≡ true

abbrev AreBy : Walk → List Meaning → Type 0
AreBy w ends = (p : ℕ) (m : Meaning) → slice_get ends p ≡ Some m → (m ≡ meaning.Nothing) ⊎ IsBy w p m

-- what is said of the ends so far
record Linked (w : Walk) (l : Links) : Type 0 where
  pub by : AreBy w l.ends
  pub all : length l.ends ≡ length w.ports

set_linked : (w : Walk) (k : ℕ) (b : WalkedBinding) (q : WalkedPort) (l : Links) → slice_get w.bindings k ≡ Some b → fits w q.form b.to ≡ true →
    Linked w l → Linked w (record l { ends = slice_set l.ends b.port b.to })
set_linked w k b q l at good h = record {
  by = λ p m is. elim (set_cases l.ends b.port b.to p m is) [
    | inl old ↦ h.by p m old
    | inr new ↦ inr (record {
      place = k;
      binding = b;
      there = at;
      port = new.0;
      to = new.1;
      form = q.form;
      good = subst (λ x. fits w q.form x ≡ true) new.1 good;
    })
  ];
  all = length-set l.ends b.port b.to ∙ h.all;
}

module _ (w : Walk) (k : ℕ) (b : WalkedBinding) (at : slice_get w.bindings k ≡ Some b) where
  abbrev port_if : (good nothing : Bool) → WalkedPort → Links → Links
  port_if good nothing q l =
      if not good then record l { refusal = refusal_of what.PortKind b.at q.name }
      else (if nothing then record l { ends = slice_set l.ends b.port b.to }
      else record l { refusal = refusal_of what.PortBoundTwice b.at q.name })

  port_by : (good nothing : Bool) (q : WalkedPort) (l : Links) → fits w q.form b.to ≡ good → Linked w l → Linked w (port_if good nothing q l)
  port_by false nothing q l is h = record { by = h.by; all = h.all }
  port_by true true q l is h = set_linked w k b q l at is h
  port_by true false q l is h = record { by = h.by; all = h.all }

  found_linked : (o : Option WalkedPort) (so_far : Option Meaning) (l : Links) → Linked w l → Linked w (linked_found w b o so_far l)
  found_linked (Some q) (Some so_far) l h = port_by (fits w q.form b.to) (is_nothing so_far) q l refl h
  found_linked (Some q) None l h = h
  found_linked None so_far l h = h

  one_linked : (l : Links) → Linked w l → Linked w (linked w b l)
  one_linked l h =
      elim (is_some l.refusal)
      as (λ t. let k : Links = if t then l else linked_found w b (slice_get w.ports b.port) (slice_get l.ends b.port) l in Linked w k)
      [ true ↦ h | false ↦ found_linked (slice_get w.ports b.port) (slice_get l.ends b.port) l h ]

links_linked : (w : Walk) (place : ℕ) (bs : List WalkedBinding) → ((j : ℕ) (b : WalkedBinding) → slice_get bs j ≡ Some b → slice_get w.bindings (place + j) ≡ Some b) →
    (l : Links) → Linked w l → Linked w (links_by w bs l)
links_linked w place [] stand l h = h
links_linked w place (b ∷ bs) stand l h =
    links_linked w (place + 1) bs
    (λ j c at. subst (λ k. slice_get w.bindings k ≡ Some c) (let e : place + suc j ≡ place + 1 + j = omega arith in e) (stand (suc j) c at))
    (linked w b l) (one_linked w (place + 0) b (stand 0 b refl) l h)

replicate_length : (n : ℕ) (x : Meaning) → length (replicate n x) ≡ n
replicate_length zero x = refl
replicate_length (suc n) x = ap suc (replicate_length n x)

all_linked : (w : Walk) → Linked w (links_of w)
all_linked w =
    links_linked w 0 w.bindings (λ j b at. subst (λ k. slice_get w.bindings k ≡ Some b) (let e : j ≡ 0 + j = omega arith in e) at) (unbound (length w.ports))
    (record {
      by = λ p m is. inl (replicated (length w.ports) meaning.Nothing m p is);
      all = replicate_length (length w.ports) meaning.Nothing;
    })

-- ---- ports to which something is bound

bound_at : (ends : List Meaning) (ports : List WalkedPort) (place k p : ℕ) → place + k ≡ p → k < length ports → unbound_from place ports ends ≡ None →
    is_unbound (slice_get ends p) ≡ false
bound_at ends [] place k p sum within none = absurd (omega (arith, within))
bound_at ends (x ∷ xs) place k p sum within none = by (is_unbound (slice_get ends place)) refl none k sum within (λ j s w n. bound_at ends xs (place + 1) j p s w n)
  where
    by : (t : Bool) → is_unbound (slice_get ends place) ≡ t →
        (if t then refusal_of what.PortNotBound x.at x.name else unbound_from (place + 1) xs ends) ≡ None → (k : ℕ) → place + k ≡ p →
        k < length (x ∷ xs) → ((j : ℕ) → place + 1 + j ≡ p → j < length xs → unbound_from (place + 1) xs ends ≡ None → is_unbound (slice_get ends p) ≡ false) →
        is_unbound (slice_get ends p) ≡ false
    by true of none k sum within more = absurd cc
    by false of none zero sum within more = let e : place ≡ p = omega (arith, sum) in subst (λ n. is_unbound (slice_get ends n) ≡ false) e of
    by false of none (suc k) sum within more = more k (omega (arith, sum)) (omega (arith, within)) none

-- ---- channels in the end

module _ (w : Walk) (leads : Leads w.instances w.bindings) (ends : List Meaning) (by : AreBy w ends)
    (bound : (p : ℕ) → p < length w.ports → is_unbound (slice_get ends p) ≡ false) where
  abbrev ranked : ℕ → ℕ
  ranked p = rank w.instances p

  abbrev Ends : ℕ → Option Meaning → Type 0
  Ends left o = (c : ℕ) × (channel_behind left ends o ≡ Some c)

  -- of a port behind which no more ports come than these
  abbrev EndsBehind : ℕ → Type 0
  EndsBehind left = (p : ℕ) → p < length w.ports → count ranked (ranked p) (length w.ports) ≤ left → Ends left (slice_get ends p)

  port_found : (t : Thing) (q : ℕ) (o : Option WalkedPort) → slice_get w.ports q ≡ o → fits_found_port t o ≡ true → q < length w.ports
  port_found t q None at h = absurd cc
  port_found t q (Some x) at h = slice_get_within w.ports q x at

  channel_ends : (left c : ℕ) → Ends left (Some (meaning.Channel c))
  channel_ends zero c = (c, refl)
  channel_ends (suc left) c = (c, refl)

  next_ends : (left p q : ℕ) → ((k : ℕ) → left ≡ suc k → EndsBehind k) → count ranked (ranked p) (length w.ports) ≤ left → q < length w.ports →
      ranked p < ranked q → Ends left (Some (meaning.Port q))
  next_ends zero p q more few within rises =
      let falls = count_falls ranked (ranked p) q (length w.ports) within rises in absurd (omega (arith, falls, few))
  next_ends (suc left) p q more few within rises =
      let falls = count_falls ranked (ranked p) q (length w.ports) within rises in
      more left refl q within (omega (arith, falls, few))

  meant_ends : (left p : ℕ) → ((k : ℕ) → left ≡ suc k → EndsBehind k) → count ranked (ranked p) (length w.ports) ≤ left → (m : Meaning) → IsBy w p m →
      Ends left (Some m)
  meant_ends left p more few (meaning.Channel c) h = channel_ends left c
  meant_ends left p more few (meaning.Port q) h =
      let before : IsBefore w.instances p q =
      subst (λ n. IsBefore w.instances n q) h.port (leads h.place h.binding h.there q h.to) in
      next_ends left p q more few (port_found h.form q (slice_get w.ports q) refl h.good) (rises w.instances p q before)
  meant_ends left p more few (meaning.Variable x) h = absurd (let e = h.good in cc)
  meant_ends left p more few (meaning.Constant v) h = absurd (let e = h.good in cc)
  meant_ends left p more few (meaning.Event e) h = absurd (let e = h.good in cc)
  meant_ends left p more few (meaning.Instance i) h = absurd (let e = h.good in cc)
  meant_ends left p more few (meaning.Function f) h = absurd (let e = h.good in cc)
  meant_ends left p more few meaning.Nothing h = absurd (let e = h.good in cc)

  at_ends : (left p : ℕ) → ((k : ℕ) → left ≡ suc k → EndsBehind k) → count ranked (ranked p) (length w.ports) ≤ left → (o : Option Meaning) →
      slice_get ends p ≡ o → is_unbound o ≡ false → Ends left o
  at_ends left p more few None at is = absurd cc
  at_ends left p more few (Some m) at is = elim (by p m at) [
    | inl nothing ↦ absurd (let e : true ≡ false = ap is_nothing (sym nothing) ∙ is in cc)
    | inr h ↦ meant_ends left p more few m h
  ]

  all_end : (left : ℕ) → EndsBehind left
  all_end zero p within few = at_ends zero p (λ k e. absurd (omega (arith, e))) few (slice_get ends p) refl (bound p within)
  all_end (suc left) p within few =
      at_ends (suc left) p (λ k e. subst EndsBehind (let d : left ≡ k = omega (arith, e) in d) (all_end left)) few (slice_get ends p) refl (bound p within)

channel_of_place : (all ports : List Meaning) (p c : ℕ) → p < length ports → channel_behind (length all) all (slice_get ports p) ≡ Some c →
    slice_get (channels_of all ports) p ≡ Some (Some c)
channel_of_place all [] p c within h = absurd (omega (arith, within))
channel_of_place all (m ∷ ms) zero c within h = ap Some h
channel_of_place all (m ∷ ms) (suc p) c within h = channel_of_place all ms p c (omega (arith, within)) h

pub ports_end : AllPortsEnd
ports_end u b is p port at =
    let w = walk_of u in
    let l = all_linked w in
    let ends = (links_of w).ends in
    let within = slice_get_within w.ports p port at in
    let all = l.all in
    let few = count_at_most (λ q. rank w.instances q) (rank w.instances p) (length w.ports) in
    let r = all_end w (walk_leads u) ends l.by (λ q low. bound_at ends w.ports 0 q q (omega arith) low (passed u b is).all_bound) (length ends) p within
    (omega (arith, few, all)) in
    record { channel = r.0; is = channel_of_place ends ends p r.0 (omega (arith, within, all)) r.1 }
