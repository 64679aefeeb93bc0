-- Where segments begin, and what their numbers are.
use Rattle.std.proofs.Common.{◌≡◌, ℕ, zero, suc, ◌+◌, ◌==◌, ◌⊎◌, inl, inr, ⊎_elim, List, [], ◌∷◌, map, Bool, true, false, ◌&&◌, Some, refl, sym, ap, ◌∙◌, subst, arith}
use Rattle.std.specs.Prelude.{slice_get}
use Rattle.std.specs.List.{position_or_len}
use Rattle.std.proofs.lemmas.Bool.{eqb-true, eq-eqb}
use Rattle.ooo_code.specs.declared.design.Design.{Design}
use Rattle.ooo_code.specs.declared.design.Proc.{Proc}
use Rattle.ooo_code.specs.declared.segment.Segment.{Segment}
use Rattle.ooo_code.specs.declared.segment.SegmentEntry.{SegmentEntry}
use Rattle.ooo_code.specs.declared.segment.SegmentEntry.TheVariants.{Start, After}
use Rattle.ooo_code.specs.Segments.{entries_of}
use Rattle.ooo_segments.specs.Beginnings.{beginning_of, beginnings_of, beginnings_from, beginnings}
use Rattle.ooo_schedules.specs.Model.{In}
use Rattle.ooo_dispatch.specs.Rules.{Rules, same_entry, segment_at, process_of}
use Rattle.ooo_dispatch.specs.Boards.{AreRules}
use Rattle.ooo_dispatch.proofs.Edges.{in_left, in_right, in_map}

and_true : (a b : Bool) → (a && b) ≡ true → (a ≡ true) × (b ≡ true)
and_true true b e = (refl, e)
and_true false b e = absurd cc

-- the first that passes a test, where some element does
pub record Found {A : Type 0} (test : A → Bool) (xs : List A) : Type 0 where
  pub item : A
  pub is : slice_get xs (position_or_len test xs) ≡ Some item
  pub passes : test item ≡ true

pub found : {A : Type 0} (test : A → Bool) (xs : List A) (x : A) → In x xs → test x ≡ true → Found test xs
found test [] x i t = absurd i
found {A} test (y ∷ xs) x i t = at (test y) refl i (λ j. found test xs x j t)
  where
    behind : (b : Bool) → test y ≡ b → b ≡ false → position_or_len test (y ∷ xs) ≡ suc (position_or_len test xs)
    behind b h e = rw (h ∙ e) (omega arith)

    at : (b : Bool) → test y ≡ b → (x ≡ y) ⊎ In x xs → (In x xs → Found test xs) → Found test (y ∷ xs)
    at true h j rest = record { item = y; is = rw h refl; passes = h }
    at false h (inl e) rest = absurd (let c : true ≡ false = sym t ∙ ap test e ∙ h in cc)
    at false h (inr j) rest = let f = rest j in record { item = f.item; is = ap (slice_get (y ∷ xs)) (behind false h refl) ∙ f.is; passes = f.passes }

same_entry_refl : (e : SegmentEntry) → same_entry e e ≡ true
same_entry_refl Start = refl
same_entry_refl (After n) = eq-eqb n n refl

-- an element of a mapped list comes from one of the list
record Source {A B : Type 0} (f : A → B) (xs : List A) (y : B) : Type 0 where
  item : A
  among : In item xs
  is : f item ≡ y

source : {A B : Type 0} (f : A → B) (xs : List A) (y : B) → In y (map f xs) → Source f xs y
source f [] y i = absurd i
source f (x ∷ xs) y i = ⊎_elim (λ e. record { item = x; among = inl refl; is = sym e }) (λ j. let s = source f xs y j in record { item = s.item; among = inr s.among; is = s.is }) i

-- where the segments of a process begin is among all beginnings
begins_from : (design : Design) (first p : ℕ) (q : Proc) (entry : SegmentEntry) (qs : List Proc) → slice_get qs p ≡ Some q → In (first + p, entry) (beginnings_of design (first + p) q) →
    In (first + p, entry) (beginnings_from design first qs)
begins_from design first p q entry [] h i = absurd cc
begins_from design first zero q entry (x ∷ qs) h i =
    in_left (beginnings_of design first x) (beginnings_from design (suc first) qs) _
    (let same : x ≡ q = cc in subst (λ z. In (first + 0, entry) (beginnings_of design first z)) (sym same) (subst (λ n. In (first + 0, entry) (beginnings_of design n q)) (omega arith) i))
begins_from design first (suc p) q entry (x ∷ qs) h i =
    in_right (beginnings_of design first x) (beginnings_from design (suc first) qs) _
    (subst (λ n. In (n, entry) (beginnings_from design (suc first) qs)) (omega arith)
    (begins_from design (suc first) p q entry qs h (subst (λ n. In (n, entry) (beginnings_of design n q)) (omega arith) i)))

same_entry_yes : (e f : SegmentEntry) → same_entry e f ≡ true → e ≡ f
same_entry_yes Start Start h = refl
same_entry_yes (After m) (After n) h = ap After (eqb-true m n h)
same_entry_yes Start (After n) h = absurd cc
same_entry_yes (After m) Start h = absurd cc

-- the segment of a process that begins at an entry, by its number
pub record IsSegmentAt (r : Rules) (p : ℕ) (entry : SegmentEntry) : Type 0 where
  pub segment : Segment
  pub is : slice_get r.segments (segment_at r p entry) ≡ Some segment
  pub process : segment.process ≡ p
  pub entry_is : segment.entry ≡ entry

module _ (r : Rules) (rules : AreRules r) where
  -- each process has its segments
  pub segment_is : (p : ℕ) (q : Proc) (entry : SegmentEntry) → slice_get r.design.processes p ≡ Some q → In entry (entries_of r.design q) → IsSegmentAt r p entry
  segment_is p q entry h i =
      record { segment = f.item; is = f.is; process = eqb-true f.item.process p (both f.item f.passes).0; entry_is = same_entry_yes f.item.entry entry (both f.item f.passes).1 }
    where
      begins : In (p, entry) (beginnings r.design)
      begins =
          subst (λ n. In (n, entry) (beginnings r.design)) (omega arith)
          (begins_from r.design 0 p q entry r.design.processes h
          (subst (λ n. In (n, entry) (beginnings_of r.design n q)) (omega arith) (in_map (λ e. (p, e)) (entries_of r.design q) entry i)))

      s : Source beginning_of r.segments (p, entry)
      s = source beginning_of r.segments (p, entry) (subst (In (p, entry)) (sym rules.segments.order) begins)

      test : Segment → Bool
      test x = (x.process == p) && same_entry x.entry entry

      yes : test s.item ≡ true
      yes = rw (eq-eqb s.item.process p (ap (λ x. x.0) s.is), ap (λ x. x.1) s.is) (same_entry_refl entry)

      f : Found test r.segments
      f = found test r.segments s.item s.among yes

      both : (x : Segment) → test x ≡ true → ((x.process == p) ≡ true) × (same_entry x.entry entry ≡ true)
      both x e = and_true (x.process == p) (same_entry x.entry entry) e

  pub process_is : (p : ℕ) (entry : SegmentEntry) → IsSegmentAt r p entry → process_of r (segment_at r p entry) ≡ p
  process_is p entry s = rw (process_of, s.is) s.process
