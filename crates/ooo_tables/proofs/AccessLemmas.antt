-- Segments have one list of accesses.
use Rattle.std.proofs.Common.{◌≡◌, ℕ, ◌+◌, ◌<◌, List, [], ◌∷◌, ◌++◌, length, get_or, ap, sym, ◌∙◌, subst, arith, inl, inr, Option, Some, None}
use Rattle.std.specs.Prelude.{All, Contains, IsSomeAnd, slice_get}
use Rattle.std.proofs.lemmas.List.{same_lists, length_push}
use Rattle.std.proofs.lemmas.List.Elements.{All-push}
use Rattle.std.proofs.lemmas.Option.{slice_get-get_or}
use Rattle.ooo_lemmas.proofs.Placed.{at_push, inside}
use Rattle.ooo_time.specs.declared.time.Time.{Time}
use Rattle.ooo_code.specs.declared.design.Design.{Design}
use Rattle.ooo_code.specs.declared.design.Proc.{Proc}
use Rattle.ooo_code.specs.declared.segment.Segment.{Segment}
use Rattle.ooo_code.specs.Touches.{Touch}
use Rattle.ooo_access.specs.declared.access.Access.{Access}
use Rattle.ooo_access.specs.Access.{AreAscending, AreThose, IsAccess, IsAccessOf, IsInOrder, Lists}
use Rattle.ooo_access.specs.Notices.{IsNoticeBefore, Notice}
use Rattle.ooo_tables.specs.Accesses.{AreAccesses}
use Rattle.ooo_tables.proofs.Ordered.{same_ordered}

-- numbers in order of which one fact says which they are
same_numbers : (P : ℕ → Type 0) (xs ys : List ℕ) → AreThose P xs → AreThose P ys → AreAscending xs → AreAscending ys → xs ≡ ys
same_numbers P xs ys a b up up' =
    same_ordered (λ (m n : ℕ). m < n) (λ m n lt gt. omega arith) xs ys up up' (λ n h. (b n).1 ((a n).0 h)) (λ n h. (a n).1 ((b n).0 h))

-- two notifications can't each come before the other
apart : (x y : Notice) → IsNoticeBefore x y → IsNoticeBefore y x → ⊥
apart x y a b = let e = a.event in let f = b.event in let s = a.sooner (omega arith) in let t = b.sooner (omega arith) in omega arith

same_notices : (P : ℕ → Option Time → Type 0) (x y : Access) → IsInOrder x → IsInOrder y → ((e : ℕ) (t : Option Time) → Contains x.notified (e, t) → P e t) → ((e : ℕ) (t : Option Time) → P e t → Contains x.notified (e, t)) → ((e : ℕ) (t : Option Time) → Contains y.notified (e, t) → P e t) → ((e : ℕ) (t : Option Time) → P e t → Contains y.notified (e, t)) → x.notified ≡ y.notified
same_notices P x y up up' a a' b b' =
    same_ordered IsNoticeBefore apart x.notified y.notified up.notified up'.notified (λ z h. b' z.0 z.1 (a z.0 z.1 h)) (λ z h. a' z.0 z.1 (b z.0 z.1 h))

-- an access by its parts
abbrev access_of : (read written signals_read signals_written takes puts cancelled waited : List ℕ) → List Notice → Access
access_of read written signals_read signals_written takes puts cancelled waited notified = record {
  read = read;
  written = written;
  signals_read = signals_read;
  signals_written = signals_written;
  takes = takes;
  puts = puts;
  cancelled = cancelled;
  waited = waited;
  notified = notified;
}

same_parts : (x y : Access) → x.read ≡ y.read → x.written ≡ y.written → x.signals_read ≡ y.signals_read → x.signals_written ≡ y.signals_written → x.takes ≡ y.takes → x.puts ≡ y.puts → x.cancelled ≡ y.cancelled → x.waited ≡ y.waited → x.notified ≡ y.notified → x ≡ y
same_parts x y r w sr sw t p c wt n =
    ap (λ (k : List ℕ). access_of k x.written x.signals_read x.signals_written x.takes x.puts x.cancelled x.waited x.notified) r
    ∙ ap (λ (k : List ℕ). access_of y.read k x.signals_read x.signals_written x.takes x.puts x.cancelled x.waited x.notified) w
    ∙ ap (λ (k : List ℕ). access_of y.read y.written k x.signals_written x.takes x.puts x.cancelled x.waited x.notified) sr
    ∙ ap (λ (k : List ℕ). access_of y.read y.written y.signals_read k x.takes x.puts x.cancelled x.waited x.notified) sw
    ∙ ap (λ (k : List ℕ). access_of y.read y.written y.signals_read y.signals_written k x.puts x.cancelled x.waited x.notified) t
    ∙ ap (λ (k : List ℕ). access_of y.read y.written y.signals_read y.signals_written y.takes k x.cancelled x.waited x.notified) p
    ∙ ap (λ (k : List ℕ). access_of y.read y.written y.signals_read y.signals_written y.takes y.puts k x.waited x.notified) c
    ∙ ap (λ (k : List ℕ). access_of y.read y.written y.signals_read y.signals_written y.takes y.puts y.cancelled k x.notified) wt
    ∙ ap (λ (k : List Notice). access_of y.read y.written y.signals_read y.signals_written y.takes y.puts y.cancelled y.waited k) n

same_sets : (T : Touch → Type 0) (W : ℕ → Type 0) (x y : Access) → Lists T W x → Lists T W y → IsInOrder x → IsInOrder y → x ≡ y
same_sets T W x y a b up up' =
    same_parts x y
    (same_numbers _ x.read y.read a.read b.read up.read up'.read)
    (same_numbers _ x.written y.written a.written b.written up.written up'.written)
    (same_numbers _ x.signals_read y.signals_read a.signals_read b.signals_read up.signals_read up'.signals_read)
    (same_numbers _ x.signals_written y.signals_written a.signals_written b.signals_written up.signals_written up'.signals_written)
    (same_numbers _ x.takes y.takes a.takes b.takes up.takes up'.takes)
    (same_numbers _ x.puts y.puts a.puts b.puts up.puts up'.puts)
    (same_numbers _ x.cancelled y.cancelled a.cancelled b.cancelled up.cancelled up'.cancelled)
    (same_numbers W x.waited y.waited a.waited b.waited up.waited up'.waited)
    (same_notices (λ e t. Contains x.notified (e, t)) x y up up' (λ e t h. h) (λ e t h. h) (λ e t h. (a.notified e t).1 ((b.notified e t).0 h)) (λ e t h. (b.notified e t).1 ((a.notified e t).0 h)))

same_of : (design : Design) (process : Option Proc) (segment : Segment) (x y : Access) → IsSomeAnd process (λ p. IsAccessOf design p segment.entry x) → IsSomeAnd process (λ p. IsAccessOf design p segment.entry y) → IsInOrder x → IsInOrder y → x ≡ y
same_of design None segment x y a b up up' = absurd a
same_of design (Some p) segment x y a b up up' = same_sets _ _ x y a b up up'

-- a segment has one access
same_access : (design : Design) (segment : Segment) (x y : Access) → IsAccess design segment x → IsAccess design segment y → IsInOrder x → IsInOrder y → x ≡ y
same_access design segment x y a b up up' = same_of design (slice_get design.processes segment.process) segment x y a b up up'

pub same_accesses : (design : Design) (segments : List Segment) (xs ys : List Access) → AreAccesses design segments xs → AreAccesses design segments ys → xs ≡ ys
same_accesses design segments xs ys a b = same_lists xs ys (a.count ∙ sym b.count) at
  where
    at : (k : ℕ) (d : Access) → k < length xs → get_or xs k d ≡ get_or ys k d
    at k d lt =
        let n = a.count in
        let m = b.count in
        let lt' : k < length ys = omega arith in
        let segment = inside segments k (omega arith) in
        same_access design segment.0 (get_or xs k d) (get_or ys k d)
        (a.each k segment.0 (get_or xs k d) segment.1 (slice_get-get_or xs k d lt))
        (b.each k segment.0 (get_or ys k d) segment.1 (slice_get-get_or ys k d lt'))
        (a.in_order k d lt)
        (b.in_order k d lt')

-- ---- how they are made

-- the accesses of the segments below n
pub record AccessesSoFar (design : Design) (segments : List Segment) (n : ℕ) (access : List Access) : Type 0 where
  pub count : length access ≡ n
  pub each : (k : ℕ) (segment : Segment) (one : Access) → slice_get segments k ≡ Some segment → slice_get access k ≡ Some one → IsAccess design segment one
  pub in_order : All IsInOrder access

pub accesses_more : (design : Design) (segments : List Segment) (n : ℕ) (access : List Access) (segment : Segment) (one : Access) → AccessesSoFar design segments n access → slice_get segments n ≡ Some segment → IsAccess design segment one → IsInOrder one → AccessesSoFar design segments (n + 1) (access ++ one ∷ [])
accesses_more design segments n access segment one h is made ordered = record {
  count = let c = h.count in let p = length_push access one in omega arith;
  each = λ k s x a b. elim (at_push access one x k b) [
    | inl e ↦ h.each k s x a e
    | inr e ↦
        let m : k ≡ n = e.0 ∙ h.count in
        let same : segment ≡ s = let r = subst (λ j. slice_get segments j ≡ Some s) m a in cc in
        subst (λ z. IsAccess design s z) e.1 (subst (λ z. IsAccess design z one) same made)
  ];
  in_order = All-push IsInOrder access one h.in_order ordered;
}
