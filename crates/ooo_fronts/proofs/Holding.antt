-- What holds a front up is a segment that clashes strictly with it.
use Rattle.std.proofs.Common.{◌≡◌, ◌≢◌, ◌∙◌, refl, sym, ap, arith, ℕ, ◌<◌, inl, inr, get_or, Bool, true, false, ◌&&◌, if◌then◌else◌, ◌==◌, nat_lt, List, length, Option, None, Some}
use Rattle.std.proofs.lemmas.Bool.{eq-eqb, eqb-false}
use Rattle.std.proofs.lemmas.Bool.Decides.{eqb_tells}
use Rattle.std.proofs.lemmas.Option.{slice_get-get_or}
use Rattle.std.specs.Prelude.{slice_get, is_some, Contains, ◌↔◌, []}
use Rattle.ooo_time.specs.declared.stamp.Stamp.{Stamp}
use Rattle.ooo_time.specs.declared.delay.Delay.{Delay}
use Rattle.ooo_time.specs.Delays.{advanced}
use Rattle.ooo_time.specs.Stamps.{IsBefore, is_before}
use Rattle.ooo_meaning.specs.World.{same_stamp}
use Rattle.ooo_code.specs.declared.segment.Segment.{Segment}
use Rattle.ooo_access.specs.Access.{AreAscending}
use Rattle.ooo_conflicts.specs.declared.kind.ClashKind.{ClashKind}
use Rattle.ooo_conflicts.specs.declared.kind.ClashKind.TheVariants.{Apart, Earlier, Same}
use Rattle.ooo_conflicts.specs.Kinds.{is_clash, kind_at}
use Rattle.ooo_conflicts.specs.Clashing.{ClashesStrictly}
use Rattle.ooo_advance.specs.Rows.{entry_at, IsAddable}
use Rattle.ooo_tables.specs.declared.tables.Tables.{Tables}
use Rattle.ooo_fronts.specs.declared.front.Front.{Front}
use Rattle.ooo_fronts.specs.Fronts.{AreAligned, IsFit, process_in}
use Rattle.ooo_fronts.specs.Holds.{HoldsByNoOther, clashes_at, if_clashing, hold_at, holds_of}
use Rattle.ooo_fronts.specs.Reaching.{CanHoldProcess, IsListOf, IsMetBy, LeadsTo, Meets}
use Rattle.ooo_fronts.proofs.Orders.{before_yes}
use Rattle.ooo_fronts.proofs.Totals.{none_counted}

-- what clashes at all clashes strictly
strictly : (x y z : Bool) (k : ClashKind) → (if x then is_clash k true else y && (z && is_clash k false)) ≡ true → is_clash k true ≡ true
strictly x y z Earlier h = refl
strictly x y z Same h = refl
strictly true y z Apart h = h
strictly false true true Apart h = h
strictly false true false Apart h = h
strictly false false z Apart h = h

-- what is found at a segment is found by its delay, where it isn't of the process and clashes
pub record IsFound (t : Tables) (g : Front) (p : ℕ) (f : Front) (b : ℕ) (s : Stamp) : Type 0 where
  pub other : (process_in t b == p) ≡ false
  pub delay : Delay
  pub leads : entry_at t.advance g.segment b ≡ Some delay
  pub at : s ≡ advanced g.stamp delay
  pub clashes : clashes_at t b s p f ≡ true

pub found_by : (t : Tables) (g : Front) (p : ℕ) (f : Front) (b : ℕ) (s : Stamp) → hold_at t g p f b ≡ Some s → IsFound t g p f b s
unfolding hold_at
found_by t g p f b s h = at (process_in t b == p) (entry_at t.advance g.segment b) refl refl h
  where
    clashing : (d : Delay) (x : Bool) → (process_in t b == p) ≡ false → entry_at t.advance g.segment b ≡ Some d → clashes_at t b (advanced g.stamp d) p f ≡ x →
        (if x then Some (advanced g.stamp d) else None) ≡ Some s → IsFound t g p f b s
    clashing d true a e c i =
        let same : advanced g.stamp d ≡ s = cc in
        record { other = a; delay = d; leads = e; at = sym same; clashes = ap (λ u. clashes_at t b u p f) (sym same) ∙ c }
    clashing d false a e c i = absurd cc

    at : (x : Bool) (o : Option Delay) → (process_in t b == p) ≡ x → entry_at t.advance g.segment b ≡ o →
        (if x then None else elim o [ None ↦ None | Some d ↦ if_clashing t p f b (advanced g.stamp d) ]) ≡ Some s → IsFound t g p f b s
    at true o a e i = absurd cc
    at false None a e i = absurd cc
    at false (Some d) a e i = clashing d (clashes_at t b (advanced g.stamp d) p f) a e refl i

pub by_found : (t : Tables) (g : Front) (p : ℕ) (f : Front) (b : ℕ) (d : Delay) → (process_in t b == p) ≡ false → entry_at t.advance g.segment b ≡ Some d → clashes_at t b (advanced g.stamp d) p f ≡ true →
    hold_at t g p f b ≡ Some (advanced g.stamp d)
unfolding hold_at
by_found t g p f b d a e c = rw (a, e, c) refl

-- ---- by its parts, as they are looked up one after another

pub process_read : (t : Tables) (b : ℕ) (s : Segment) → b < length t.graph.segments → s ≡ get_or t.graph.segments b s → s.process ≡ process_in t b
process_read t b s lt is =
    let there : slice_get t.graph.segments b ≡ Some s = slice_get-get_or t.graph.segments b s lt ∙ ap Some (sym is) in
    sym (ap (λ (o : Option Segment). elim o [ None ↦ 0 | Some x ↦ x.process ]) there)

pub none_own : (t : Tables) (g : Front) (p : ℕ) (f : Front) (b : ℕ) → process_in t b ≡ p → None ≡ hold_at t g p f b
unfolding hold_at
none_own t g p f b e = rw (eq-eqb (process_in t b) p e) refl

other_is : (t : Tables) (p b : ℕ) → process_in t b ≢ p → (process_in t b == p) ≡ false
other_is t p b ne = elim (eqb_tells (process_in t b) p) [ inl w ↦ absurd (ne w.1) | inr w ↦ w.0 ]

pub none_unled : (t : Tables) (g : Front) (p : ℕ) (f : Front) (b : ℕ) → process_in t b ≢ p → entry_at t.advance g.segment b ≡ None → None ≡ hold_at t g p f b
unfolding hold_at
none_unled t g p f b ne e = rw (other_is t p b ne, e) refl

pub none_apart : (t : Tables) (g : Front) (p : ℕ) (f : Front) (b : ℕ) (d : Delay) → process_in t b ≢ p → entry_at t.advance g.segment b ≡ Some d → clashes_at t b (advanced g.stamp d) p f ≡ false → None ≡ hold_at t g p f b
unfolding hold_at
none_apart t g p f b d ne e c = rw (other_is t p b ne, e, c) refl

pub some_clashing : (t : Tables) (g : Front) (p : ℕ) (f : Front) (b : ℕ) (d : Delay) → process_in t b ≢ p → entry_at t.advance g.segment b ≡ Some d → clashes_at t b (advanced g.stamp d) p f ≡ true → Some (advanced g.stamp d) ≡ hold_at t g p f b
some_clashing t g p f b d ne e c = sym (by_found t g p f b d (other_is t p b ne) e c)

-- ---- what holds a front up clashes strictly with it

pub clashing_strictly : (t : Tables) (g : Front) (p : ℕ) (f : Front) (b : ℕ) (s : Stamp) → hold_at t g p f b ≡ Some s → is_clash (kind_at t.clash b f.segment) true ≡ true
clashing_strictly t g p f b s h =
    let r = found_by t g p f b s h in
    strictly (is_before s f.stamp) (same_stamp s f.stamp) (nat_lt (process_in t b) p) (kind_at t.clash b f.segment) r.clashes

-- and is of another process
pub meets_held : (t : Tables) (g : Front) (p : ℕ) (f : Front) (b : ℕ) (s : Stamp) → IsFit t p f → hold_at t g p f b ≡ Some s → Meets t b f.segment
meets_held t g p f b s fit h = (λ same. eqb-false (process_in t b) p (found_by t g p f b s h).other (same ∙ fit.process), clashing_strictly t g p f b s h)

-- ---- whether a segment that meets a front holds it up

-- it is of another process
pub meets_other : (t : Tables) (p : ℕ) (f : Front) (b : ℕ) → IsFit t p f → Meets t b f.segment → process_in t b ≢ p
meets_other t p f b fit m = λ e. m.0 (e ∙ sym fit.process)

pub unled : (t : Tables) (g : Front) (p : ℕ) (f : Front) (b : ℕ) → IsFit t p f → Meets t b f.segment → entry_at t.advance g.segment b ≡ None → false ≡ is_some (hold_at t g p f b)
unled t g p f b fit m e = ap (λ (o : Option Stamp). is_some o) (none_unled t g p f b (meets_other t p f b fit m) e)

pub as_it_clashes : (t : Tables) (g : Front) (p : ℕ) (f : Front) (b : ℕ) (d : Delay) → IsFit t p f → Meets t b f.segment → entry_at t.advance g.segment b ≡ Some d → (x : Bool) → x ≡ clashes_at t b (advanced g.stamp d) p f → x ≡ is_some (hold_at t g p f b)
as_it_clashes t g p f b d fit m e true c = ap (λ (o : Option Stamp). is_some o) (some_clashing t g p f b d (meets_other t p f b fit m) e (sym c))
as_it_clashes t g p f b d fit m e false c = ap (λ (o : Option Stamp). is_some o) (none_apart t g p f b d (meets_other t p f b fit m) e (sym c))

-- at an earlier stamp it does
pub clashes_before : (t : Tables) (b : ℕ) (s : Stamp) (p : ℕ) (f : Front) → IsBefore s f.stamp → Meets t b f.segment → true ≡ clashes_at t b s p f
clashes_before t b s p f early m = rw (before_yes s f.stamp early) (sym m.1)

-- a test of a value that is there
pub is_there : {A : Type 0} (o : Option A) → is_some o ≡ true → (x : A) × (o ≡ Some x)
is_there None h = absurd cc
is_there (Some x) h = (x, refl)

pub is_gone : {A : Type 0} (o : Option A) → is_some o ≡ false → o ≡ None
is_gone None h = refl
is_gone (Some x) h = absurd cc

-- those that clash strictly with a front are all that may hold it up
pub clashing_are_all : (t : Tables) (g : Front) (p : ℕ) (f : Front) (xs : List ℕ) → AreAligned t → ((b : ℕ) → Contains xs b ↔ ClashesStrictly t.clash b f.segment) → AreAscending xs → HoldsByNoOther t g p f xs
clashing_are_all t g p f xs aligned exact up = record {
  ascending = up;
  within = λ b c. let lt = ((exact b).0 c).0 in let n = aligned.clash in omega arith;
  others = λ b lt out. at b lt out (hold_at t g p f b) refl;
}
  where
    at : (b : ℕ) → b < length t.graph.segments → (Contains xs b → ⊥) → (o : Option Stamp) → hold_at t g p f b ≡ o → is_some (hold_at t g p f b) ≡ false
    at b lt out None e = ap (λ (o : Option Stamp). is_some o) e
    at b lt out (Some s) e =
        let n = aligned.clash in
        let below : b < length t.clash = omega arith in
        absurd (out ((exact b).1 (below, clashing_strictly t g p f b s e)))

-- and so are those to which the other front leads
pub leads_are_all : (t : Tables) (g : Front) (p : ℕ) (f : Front) (xs : List ℕ) → IsListOf (LeadsTo t g.segment) xs → HoldsByNoOther t g p f xs
leads_are_all t g p f xs is = record {
  ascending = is.ascending;
  within = λ b c. ((is.exact b).0 c).0;
  others = λ b lt out. at b lt out (hold_at t g p f b) refl;
}
  where
    at : (b : ℕ) → b < length t.graph.segments → (Contains xs b → ⊥) → (o : Option Stamp) → hold_at t g p f b ≡ o → is_some (hold_at t g p f b) ≡ false
    at b lt out None e = ap (λ (o : Option Stamp). is_some o) e
    at b lt out (Some s) e = absurd (out ((is.exact b).1 (lt, ap (λ (o : Option Delay). is_some o) (found_by t g p f b s e).leads)))

-- and those that meet its segment
pub meeting_are_all : (t : Tables) (g : Front) (p : ℕ) (f : Front) (xs : List ℕ) → IsFit t p f → IsListOf (IsMetBy t f.segment) xs → HoldsByNoOther t g p f xs
meeting_are_all t g p f xs fit is = record {
  ascending = is.ascending;
  within = λ b c. ((is.exact b).0 c).0;
  others = λ b lt out. at b lt out (hold_at t g p f b) refl;
}
  where
    at : (b : ℕ) → b < length t.graph.segments → (Contains xs b → ⊥) → (o : Option Stamp) → hold_at t g p f b ≡ o → is_some (hold_at t g p f b) ≡ false
    at b lt out None e = ap (λ (o : Option Stamp). is_some o) e
    at b lt out (Some s) e = absurd (out ((is.exact b).1 (lt, meets_held t g p f b s fit e)))

-- a front that can't hold up the process of another one doesn't
pub cannot_hold : (t : Tables) (g : Front) (p : ℕ) (f : Front) → IsFit t p f → (CanHoldProcess t g.segment p → ⊥) → holds_of t g p f ≡ 0
unfolding holds_of
cannot_hold t g p f fit out = none_counted (λ b. is_some (hold_at t g p f b)) (length t.graph.segments) (λ b lt. at b lt (hold_at t g p f b) refl)
  where
    at : (b : ℕ) → b < length t.graph.segments → (o : Option Stamp) → hold_at t g p f b ≡ o → is_some (hold_at t g p f b) ≡ false
    at b lt None e = ap (λ (o : Option Stamp). is_some o) e
    at b lt (Some s) e =
        let r = found_by t g p f b s e in
        absurd (
        out (
          f.segment,
          fit.segment,
          fit.process,
          record {
            by = b;
            leads = (lt, ap (λ (o : Option Delay). is_some o) r.leads);
            meets = meets_held t g p f b s fit e;
          },
        ))

-- a delay of the table can be added
pub addable_at : (t : Tables) (a b : ℕ) (d : Delay) → AreAligned t → a < length t.graph.segments → entry_at t.advance a b ≡ Some d → IsAddable d
addable_at t a b d aligned lt e = let n = aligned.advance in aligned.addable a [] (omega arith) b d e
