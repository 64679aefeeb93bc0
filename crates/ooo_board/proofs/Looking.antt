-- What a board looks up: how the lists come about.
use Rattle.std.proofs.Common.{◌≡◌, ◌≢◌, ℕ, ◌+◌, ◌<◌, ◌≤◌, ◌==◌, List, [], ◌∷◌, ◌++◌, Bool, true, false, ◌||◌, Option, Some, None, length, drop, get_or, map, set, refl, sym, ap, subst, ◌∙◌, arith, ⊎_elim, add-one, append-nil, append_assoc, drop-cons, eq-eqb, eqb-true}
use Rattle.std.specs.Prelude.{All, Contains, IsSomeAnd, MatchResult, Result, Ok, Err, is_ok, slice_get}
use Rattle.std.specs.List.{position_or_len}
use Rattle.std.specs.List.Sorted.{IsBinarySearchResult, IsSearchInRange}
use Rattle.std.specs.Ordering.{nat_cmp}
use Rattle.std.proofs.lemmas.Bool.{cases_eq, cases_lt, ne_eqb}
use Rattle.std.proofs.lemmas.List.{drop_all, get_or_default, get_or-set_same, get_or-set_other, get_or-map, length-map, length-set}
use Rattle.std.proofs.lemmas.List.Elements.{All-append, All-cons, All-contains, All-nil, Contains-append_cases, Contains-append_left, Contains-append_right}
use Rattle.std.proofs.lemmas.List.Folds.{list_any_at, list_any_none}
use Rattle.std.proofs.lemmas.List.Sums.{position_or_len_is}
use Rattle.std.proofs.lemmas.List.Sorted.{searched}
use Rattle.std.proofs.lemmas.Option.{get_or_from_slice_get, slice_get_within}
use Rattle.ooo_value.specs.declared.bound.BoundChannel.{BoundChannel}
use Rattle.ooo_value.specs.declared.bound.BoundEvent.{BoundEvent}
use Rattle.ooo_code.specs.declared.design.Design.{Design}
use Rattle.ooo_code.specs.declared.design.Proc.{Proc}
use Rattle.ooo_code.specs.declared.segment.Segment.{Segment}
use Rattle.ooo_code.specs.declared.segment.SegmentEntry.{SegmentEntry}
use Rattle.ooo_code.specs.Segments.{IsSegment, IsSegmentOf}
use Rattle.ooo_channels.specs.Calls.{channel_of}
use Rattle.ooo_access.specs.Access.{AreAscending}
use Rattle.ooo_access.specs.declared.access.Access.{Access}
use Rattle.ooo_dispatch.specs.Rules.{has}
use Rattle.ooo_board.specs.declared.links.Watched.{Watched}
use Rattle.ooo_board.specs.declared.links.Links.{Links}
use Rattle.ooo_board.specs.Links.{Adds, AreChannelEvents, AreWaiters, HasSegment, IsUpTo, begins_at, watched_from, watched_if, watched_of}

-- ---- numbers in ascending lists

-- a number that isn't the next one isn't among them
pub not_next : (numbers : List ℕ) (at c : ℕ) → AreAscending numbers → IsUpTo numbers at c → (at < length numbers → get_or numbers at 0 ≢ c) → has numbers c ≡ false
not_next numbers at c ascending up differs = list_any_none (λ x. x == c) numbers (λ k d lt. ne_eqb (get_or numbers k d) c (other k d lt))
  where
    other : (k : ℕ) (d : ℕ) → k < length numbers → get_or numbers k d ≡ c → ⊥
    other k d lt e =
        let f : get_or numbers k 0 ≡ c = get_or_default numbers k 0 d lt ∙ e in
        ⊎_elim
        (λ below. let l = up.before k below in omega arith)
        (λ above. ⊎_elim
        (λ same. differs (let l : at < length numbers = omega arith in l) (ap (λ i. get_or numbers i 0) (sym same) ∙ f))
        (λ differ.
        let later : at < k = omega arith in
        let l = ascending at k 0 later lt in
        let m = up.after at (omega arith) (omega arith) in
        omega arith)
        (cases_eq k at))
        (cases_lt k at)

-- what a search finds among them
pub found_has : (numbers : List ℕ) (x n : ℕ) (r : Result ℕ ℕ) → AreAscending numbers → IsSearchInRange r n → IsBinarySearchResult (λ y. nat_cmp y x) numbers r → is_ok r ≡ has numbers x
found_has numbers x n r ascending range found = go r (searched numbers x r found rises)
  where
    rises : (i j : ℕ) → i ≤ j → j < length numbers → get_or numbers i 0 ≤ get_or numbers j 0
    rises i j le lt = ⊎_elim (λ e. let f = ap (λ k. get_or numbers k 0) e in omega arith) (λ ne. let l = ascending i j 0 (omega arith) lt in omega arith) (cases_eq i j)

    go : (r : Result ℕ ℕ)
        → MatchResult r (λ i. (i < length numbers) × (get_or numbers i 0 ≡ x)) (λ i. (i ≤ length numbers) × ((k : ℕ) → k < i → get_or numbers k 0 < x) × ((k : ℕ) → i ≤ k → k < length numbers → x < get_or numbers k 0))
        → is_ok r ≡ has numbers x
    go (Ok i) h = sym (list_any_at (λ y. y == x) numbers i 0 h.0 (eq-eqb (get_or numbers i 0) x h.1))
    go (Err i) h = sym (list_any_none (λ y. y == x) numbers (λ k d lt. ne_eqb (get_or numbers k d) x (λ f.
        let g : get_or numbers k 0 ≡ x = get_or_default numbers k 0 d lt ∙ f in
        ⊎_elim (λ below. let l = h.1 k below in omega arith) (λ above. let l = h.2 k above lt in omega arith) (cases_lt k i))))

-- ---- what is watched

-- the channels before c were gone through, and in each list of the access what is before c
pub record IsWatching (a : Access) (channels : List BoundChannel) (c read taken put : ℕ) (all : List Watched) : Type 0 where
  pub same : all ++ watched_from a c (drop c channels) ≡ watched_from a 0 channels
  pub reads : IsUpTo a.signals_read read c
  pub takes : IsUpTo a.takes taken c
  pub puts : IsUpTo a.puts put c

none_passed : (numbers : List ℕ) → IsUpTo numbers 0 0
none_passed numbers = record { within = omega arith; before = λ k below. absurd (omega (arith, below)); after = λ k from lt. omega arith }

-- none of them, one more, and all
pub watching_begins : (a : Access) (channels : List BoundChannel) (all : List Watched) → all ≡ [] → IsWatching a channels 0 0 0 0 all
watching_begins a channels all is = record {
  same = ap (λ l. l ++ watched_from a 0 channels) is;
  reads = none_passed a.signals_read;
  takes = none_passed a.takes;
  puts = none_passed a.puts;
}

pub watching_on : (a : Access) (channels xs : List BoundChannel) (c : ℕ) (d : BoundChannel) (r t p r' t' p' : ℕ) (reads takes puts : Bool) (all all' : List Watched) → xs ≡ channels → c < length xs → reads ≡ has a.signals_read c → takes ≡ has a.takes c → puts ≡ has a.puts c →
    all' ≡ all ++ watched_if reads takes puts c (get_or xs c d).kind → IsUpTo a.signals_read r' (c + 1) → IsUpTo a.takes t' (c + 1) → IsUpTo a.puts p' (c + 1) → IsWatching a channels c r t p all → IsWatching a channels (c + 1) r' t' p' all'
watching_on a channels xs c d r t p r' t' p' reads takes puts all all' are lt reads_is takes_is puts_is pushed up_r up_t up_p h =
    let x : BoundChannel = get_or xs c d in
    let rest = watched_from a (c + 1) (drop (c + 1) xs) in
    let so_far : all ++ watched_from a c (drop c xs) ≡ watched_from a 0 xs = subst (λ ys. all ++ watched_from a c (drop c ys) ≡ watched_from a 0 ys) (sym are) h.same in
    let here : watched_of a c x.kind ++ rest ≡ watched_from a c (drop c xs) =
    ap (λ n. watched_of a c x.kind ++ watched_from a n (drop n xs)) (add-one c) ∙ sym (ap (watched_from a c) (drop-cons xs c d lt)) in
    let same : all' ++ rest ≡ watched_from a 0 xs =
    ap (λ l. l ++ rest) pushed ∙ (λ i. (all ++ watched_if (reads_is i) (takes_is i) (puts_is i) c x.kind) ++ rest) ∙ append_assoc all (watched_of a c x.kind) rest ∙ ap (λ l. all ++ l) here ∙ so_far in
    record {
      same = subst (λ ys. all' ++ watched_from a (c + 1) (drop (c + 1) ys) ≡ watched_from a 0 ys) are same;
      reads = up_r;
      takes = up_t;
      puts = up_p;
    }

pub watching_ends : (a : Access) (channels : List BoundChannel) (c r t p : ℕ) (all : List Watched) → length channels ≤ c → IsWatching a channels c r t p all → all ≡ watched_from a 0 channels
watching_ends a channels c r t p all past h = sym (append-nil all) ∙ ap (λ l. all ++ watched_from a c l) (sym (drop_all c channels past)) ∙ h.same

-- ---- who may wait on an event

single : (x y : ℕ) → Contains (x ∷ []) y → y ≡ x
single x y c = All-contains (λ z. z ≡ x) (x ∷ []) y (All-cons (λ z. z ≡ x) x [] refl (All-nil (λ z. z ≡ x))) c

pub adds_more : (xs : List ℕ) (e n : ℕ) (old mid new : List (List ℕ)) → Adds xs n old mid → Adds (e ∷ []) n mid new → Adds (xs ++ e ∷ []) n old new
adds_more xs e n old mid new a b = record {
  count = b.count ∙ a.count;
  added = λ i c. ⊎_elim (λ f. b.kept i n (a.added i f)) (λ f. b.added i f) (Contains-append_cases xs (e ∷ []) i c);
  kept = λ i m c. b.kept i m (a.kept i m c);
  within = λ bound lt all. b.within bound lt (a.within bound lt all);
}

module _ (at n : ℕ) (old : List (List ℕ)) (list one : List ℕ) (lt : at < length old) (is : one ≡ get_or old at one) (more : list ≡ one ++ n ∷ []) where
  here : get_or (set old at list) at [] ≡ get_or old at [] ++ n ∷ []
  here = get_or-set_same old at list [] lt ∙ more ∙ ap (λ xs. xs ++ n ∷ []) (is ∙ get_or_default old at one [] lt)

  elsewhere : (e : ℕ) → e ≢ at → get_or (set old at list) e [] ≡ get_or old e []
  elsewhere e ne = get_or-set_other old at e list [] ne

  pub adds_pushed : Adds (at ∷ []) n old (set old at list)
  adds_pushed = record {
    count = length-set old at list;
    added = λ e c. subst (λ i. Contains (get_or (set old at list) i []) n) (sym (single at e c)) (subst (λ xs. Contains xs n) (sym here) (Contains-append_right (get_or old at []) (n ∷ []) n (0, omega arith, refl)));
    kept = λ e m c. ⊎_elim
        (λ f. subst (λ i. Contains (get_or (set old at list) i []) m) (sym f) (subst (λ xs. Contains xs m) (sym here) (Contains-append_left (get_or old at []) (n ∷ []) m (subst (λ i. Contains (get_or old i []) m) f c))))
        (λ ne. subst (λ xs. Contains xs m) (sym (elsewhere e ne)) c) (cases_eq e at);
    within = λ bound below all e. ⊎_elim
        (λ f. subst (λ i. All (λ m. m < bound) (get_or (set old at list) i [])) (sym f) (subst (All (λ m. m < bound)) (sym here) (All-append (λ m. m < bound) (get_or old at []) (n ∷ []) (all at) (All-cons (λ m. m < bound) n [] below (All-nil (λ m. m < bound))))))
        (λ ne. subst (All (λ m. m < bound)) (sym (elsewhere e ne)) (all e)) (cases_eq e at);
  }

has_yes : (xs : List ℕ) (n : ℕ) → has xs n ≡ true → Contains xs n
has_yes [] n e = absurd cc
has_yes (x ∷ xs) n e = at (x == n) refl e (has_yes xs n)
  where
    at : (b : Bool) → (x == n) ≡ b → (b || has xs n) ≡ true → (has xs n ≡ true → Contains xs n) → Contains (x ∷ xs) n
    at true h f rest = (0, omega arith, eqb-true x n h)
    at false h f rest = Contains-append_right (x ∷ []) xs n (rest f)

some_same : {A : Type 0} (x y : A) → Some x ≡ Some y → x ≡ y
some_same x y e = cc

-- one more segment
pub waiters_on : (design : Design) (g : ℕ) (segments : List Segment) (access : List Access) (old new : List (List ℕ)) (s : Segment) (a : Access) → slice_get segments g ≡ Some s → slice_get access g ≡ Some a → s.process < length design.processes →
    Adds a.waited s.process old new → AreWaiters design g segments access old → AreWaiters design (g + 1) segments access new
waiters_on design g segments access old new s a at_g of_g lt adds h = record {
  count = adds.count ∙ h.count;
  all = λ f e t b below at_f of_f yes. ⊎_elim
      (λ same.
      let st : s ≡ t = some_same s t (sym at_g ∙ ap (slice_get segments) (sym same) ∙ at_f) in
      let ab : a ≡ b = some_same a b (sym of_g ∙ ap (slice_get access) (sym same) ∙ of_f) in
      subst (λ (x : Segment). Contains (get_or new e []) x.process) st (adds.added e (has_yes a.waited e (ap (λ (x : Access). has x.waited e) ab ∙ yes))))
      (λ ne. adds.kept e t.process (h.all f e t b (let l : f < g = omega arith in l) at_f of_f yes)) (cases_eq f g);
  within = adds.within (length design.processes) lt h.within;
}

-- one more event
pub events_on : (design : Design) (e c : ℕ) (k : BoundEvent) (old new : List (List ℕ)) → slice_get design.events e ≡ Some k → channel_of k ≡ c → Adds (c ∷ []) e old new → AreChannelEvents design e old → AreChannelEvents design (e + 1) new
events_on design e c k old new is of adds h = record {
  count = adds.count ∙ h.count;
  all = λ i j below at ne. ⊎_elim
      (λ same.
      let kj : k ≡ j = some_same k j (sym is ∙ ap (slice_get design.events) (sym same) ∙ at) in
      let there : Contains (get_or new c []) e = adds.added c (0, omega arith, refl) in
      subst (λ b. Contains (get_or new b []) i) (sym of ∙ ap channel_of kj) (subst (Contains (get_or new c [])) (sym same) there))
      (λ differ. adds.kept (channel_of j) i (h.all i j (let l : i < e = omega arith in l) at ne)) (cases_eq i e);
  within = adds.within (length design.events) (slice_get_within design.events e k is) h.within;
}

-- ---- by the tables

-- the process of a segment is there
pub segment_process : (design : Design) (s : Segment) → IsSegment design s → s.process < length design.processes
segment_process design s h = at (slice_get design.processes s.process) refl h
  where
    at : (o : Option Proc) → slice_get design.processes s.process ≡ o → IsSomeAnd o (λ process. IsSegmentOf design process s) → s.process < length design.processes
    at None e k = absurd k
    at (Some x) e k = slice_get_within design.processes s.process x e

-- the lists that were made one for each of these
pub length_mapped : {A B : Type 0} (f : A → B) (xs : List A) (ys : List B) → ys ≡ map f xs → length ys ≡ length xs
length_mapped f xs ys e = ap length e ∙ length-map xs f

pub mapped : {A B : Type 0} (f : A → B) (xs : List A) (ys : List B) (d : B) → ys ≡ map f xs → (g : ℕ) (a : A) → slice_get xs g ≡ Some a → get_or ys g d ≡ f a
mapped f xs ys d e g a is = ap (λ zs. get_or zs g d) e ∙ get_or-map f xs g a d (slice_get_within xs g a is) ∙ ap f (get_or_from_slice_get xs g a a is)

-- ---- where a segment is

-- a segment that begins there, and none before it does
pub first_place : (p : ℕ) (entry : SegmentEntry) (segments : List Segment) (g : ℕ) (s : Segment) → g < length segments → s ≡ get_or segments g s → begins_at p entry s ≡ true → ((k : ℕ) (d : Segment) → k < g → begins_at p entry (get_or segments k d) ≡ false) →
    g ≡ position_or_len (begins_at p entry) segments
first_place p entry segments g s lt is begins before = sym (position_or_len_is (begins_at p entry) segments g s (omega arith) (λ k below. before k s below) (λ h. ap (begins_at p entry) (sym is) ∙ begins))

-- none before the next one does either
pub none_before : (p : ℕ) (entry : SegmentEntry) (segments : List Segment) (g : ℕ) (s : Segment) → g < length segments → s ≡ get_or segments g s → begins_at p entry s ≡ false → ((k : ℕ) (d : Segment) → k < g → begins_at p entry (get_or segments k d) ≡ false) →
    (k : ℕ) (d : Segment) → k < g + 1 → begins_at p entry (get_or segments k d) ≡ false
none_before p entry segments g s lt is fails before k d below =
    ⊎_elim (λ same. ap (λ i. begins_at p entry (get_or segments i d)) same ∙ ap (begins_at p entry) (get_or_default segments g d s lt ∙ sym is) ∙ fails) (λ differ. before k d (omega (arith, below, differ))) (cases_eq k g)

-- somewhere one begins
pub not_past : (l : Links) (segments : List Segment) (p : ℕ) (entry : SegmentEntry) → HasSegment l segments p entry → (g : ℕ) → length segments ≤ g → ((k : ℕ) (d : Segment) → k < g → begins_at p entry (get_or segments k d) ≡ false) → ⊥
not_past l segments p entry h g past before =
    let lt = slice_get_within segments h.number h.segment h.there in
    let no = before h.number h.segment (omega arith) in
    let is = get_or_from_slice_get segments h.number h.segment h.segment h.there in
    let yes : begins_at p entry (get_or segments h.number h.segment) ≡ true = ap (begins_at p entry) is ∙ h.begins in
    let both : true ≡ false = sym yes ∙ no in
    cc
