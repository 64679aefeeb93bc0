-- The earliest stamp of a front, of a board where no job is out.
use Rattle.std.proofs.Common.{◌≡◌, ℕ, zero, suc, ◌+◌, ◌<◌, ◌≤◌, inl, inr, ⊎_elim, Bool, true, false, if◌then◌else◌, List, [], ◌∷◌, length, map, Option, Some, None, refl, sym, ap, ◌∙◌, subst, arith}
use Rattle.std.specs.Prelude.{⊤}
use Rattle.std.proofs.lemmas.Bool.{cases_eq}
use Rattle.ooo_time.specs.declared.stamp.Stamp.{Stamp}
use Rattle.ooo_time.specs.Stamps.{IsBefore, is_before}
use Rattle.ooo_meaning.specs.Runs.{numbers_from}
use Rattle.ooo_schedules.specs.Design.{Wait, front_when, sooner, soonest, sort}
use Rattle.ooo_schedules.specs.Model.{Front, In, front_of, last, running_or}
use Rattle.ooo_schedules.specs.Program.{Left, Waits, Ended, Sound, wait_by, wait_left}
use Rattle.ooo_schedules.specs.Reports.{next_stamp, stamp_of}
use Rattle.ooo_schedules.specs.Tables.{program}
use Rattle.ooo_dispatch.specs.Boards.{Board, IsFront, IsLawful, model}
use Rattle.ooo_dispatch.specs.ReadOff.{IsNextStamp}
use Rattle.ooo_dispatch.specs.Rules.{Rules, deed_of, process_of, tables}
use Rattle.ooo_dispatch.proofs.Allowed.{last_in}
use Rattle.ooo_dispatch.proofs.Commits.{Activation, P}
use Rattle.ooo_dispatch.proofs.Distinct.{mapped_from}
use Rattle.ooo_dispatch.proofs.Edges.{in_map}
use Rattle.ooo_dispatch.proofs.Owners.{last_of, owned}
use Rattle.ooo_dispatch.proofs.Reported.{same_stamps}
use Rattle.ooo_dispatch.proofs.Stamps.{before_no}

in_numbers : (k n q : ℕ) → k ≤ q → q < k + n → In q (numbers_from k n)
in_numbers k zero q le lt = absurd (omega (arith, le, lt))
in_numbers k (suc n) q le lt = ⊎_elim (λ e. inl (sym e)) (λ ne. inr (in_numbers (k + 1) n q (omega (arith, le, ne)) (omega (arith, lt)))) (cases_eq k q)

module _ (r : Rules) where
  -- no stamp, or none before this one
  abbrev Late : Stamp → Option Stamp → Type 0
  Late s None = ⊤
  Late s (Some v) = IsBefore v s → ⊥

  abbrev AllLate : Stamp → List (Option Stamp) → Type 0
  AllLate s ts = (v : Stamp) → In (Some v) ts → IsBefore v s → ⊥

  late_sooner : (s : Stamp) (a b : Option Stamp) → Late s a → Late s b → Late s (sooner (P r) a b)
  late_sooner s None b h k = k
  late_sooner s (Some v) None h k = h
  late_sooner s (Some v) (Some w) h k = at (is_before w v)
    where
      at : (c : Bool) → Late s (if c then Some w else Some v)
      at true = k
      at false = h

  late_option : (s : Stamp) (x : Option Stamp) → ((v : Stamp) → Some v ≡ x → IsBefore v s → ⊥) → Late s x
  late_option s None h = tt
  late_option s (Some v) h = h v refl

  late_soonest : (s : Stamp) (ts : List (Option Stamp)) → AllLate s ts → Late s (soonest (P r) ts)
  late_soonest s [] h = tt
  late_soonest s (x ∷ ts) h = late_sooner s x (soonest (P r) ts) (late_option s x (λ v e. h v (inl e))) (late_soonest s ts (λ v i. h v (inr i)))

  first_sooner : (s : Stamp) (b : Option Stamp) → Late s b → sooner (P r) (Some s) b ≡ Some s
  first_sooner s None h = refl
  first_sooner s (Some v) h = ap (λ c. if c then Some v else Some s) (before_no v s h)

  second_sooner : (s : Stamp) (a : Option Stamp) → Late s a → sooner (P r) a (Some s) ≡ Some s
  second_sooner s None h = refl
  second_sooner s (Some v) h = at (is_before s v) refl
    where
      at : (c : Bool) → is_before s v ≡ c → (if c then Some s else Some v) ≡ Some s
      at true e = refl
      at false e = ap (λ t. Some t) (same_stamps v s (before_no v s h) e)

  soonest_is : (s : Stamp) (ts : List (Option Stamp)) → In (Some s) ts → AllLate s ts → soonest (P r) ts ≡ Some s
  soonest_is s [] i h = absurd i
  soonest_is s (x ∷ ts) (inl e) h = ap (λ y. sooner (P r) y (soonest (P r) ts)) (sym e) ∙ first_sooner s (soonest (P r) ts) (late_soonest s ts (λ v i. h v (inr i)))
  soonest_is s (x ∷ ts) (inr i) h =
      ap (sooner (P r) x) (soonest_is s ts i (λ v j. h v (inr j))) ∙ second_sooner s x (late_option s x (λ v e. h v (inl e)))

  soonest_none : (ts : List (Option Stamp)) → ((x : Option Stamp) → In x ts → x ≡ None) → soonest (P r) ts ≡ None
  soonest_none [] h = refl
  soonest_none (x ∷ ts) h = ap (λ y. sooner (P r) y (soonest (P r) ts)) (h x (inl refl)) ∙ soonest_none ts (λ y i. h y (inr i))

  -- ---- who has a front is a process

  module _ (runs : Sound (program (tables r))) (b : Board r) (lawful : IsLawful r b) (quiet : b.out ≡ []) where
    left_to : (q : ℕ) (z : Activation) (l : Left) (w : Wait Stamp) → last q b.log ≡ Some z → (deed_of r z).left ≡ l → wait_left z.stamp l ≡ Some w → q < length r.design.processes
    left_to q z (Waits n t es) w is e h =
        let owner : process_of r n ≡ q = runs.next z n t es e ∙ owned r runs lawful z (inl (last_in q b.log z is)) ∙ last_of q b.log z is in
        let lt = runs.next_process z n t es e in
        subst (λ k. k < length r.design.processes) owner lt
    left_to q z Ended w is e h = absurd (let c : None ≡ Some w = h in cc)

    waits_there : (q : ℕ) (o : Option Activation) (w : Wait Stamp) → last q b.log ≡ o → wait_by (program (tables r)) q o ≡ Some w → q < length r.design.processes
    waits_there q None w e h = runs.starting q w h
    waits_there q (Some z) w e h = left_to q z (deed_of r z).left w e refl h

    numbered : (q : ℕ) (g : Front Stamp) → IsFront r b q g → q < length r.design.processes
    numbered q g is = at (wait_by (program (tables r)) q (last q b.log)) refl (sym (ap (λ out. running_or (last q out) ((model r).front b.log q)) quiet) ∙ is)
      where
        at : (o : Option (Wait Stamp)) → wait_by (program (tables r)) q (last q b.log) ≡ o → front_when (P r) (sort (P r) b.log) o ≡ Some g → q < length r.design.processes
        at None e h = absurd (let c : None ≡ Some g = h in cc)
        at (Some w) e h = waits_there q (last q b.log) w refl e

    abbrev stamp_at : ℕ → Option Stamp
    stamp_at q = stamp_of (front_of (model r) b q)

    abbrev stamps : List (Option Stamp)
    stamps = map stamp_at (numbers_from 0 (length r.design.processes))

    front_with : (q : ℕ) (o : Option (Front Stamp)) (v : Stamp) → front_of (model r) b q ≡ o → Some v ≡ stamp_of o → (g : Front Stamp) × IsFront r b q g × (g.stamp ≡ v)
    front_with q None v e h = absurd (let c : Some v ≡ None = h in cc)
    front_with q (Some g) v e h = (g, e, let same : g.stamp ≡ v = cc in same)

    pub next_is : (next : Option Stamp) → IsNextStamp r b next → next ≡ next_stamp (program (tables r)) b
    next_is None none = sym (soonest_none stamps (λ x i. let k = mapped_from stamp_at (numbers_from 0 (length r.design.processes)) x i in k.2 ∙ ap stamp_of (none k.0)))
    next_is (Some s) ((q, g, is, same), first) =
        sym (soonest_is s stamps
        (subst (λ x. In x stamps) (ap stamp_of is ∙ ap (λ t. Some t) same) (in_map stamp_at (numbers_from 0 (length r.design.processes)) q (in_numbers 0 (length r.design.processes) q (omega arith) (let lt = numbered q g is in omega (arith, lt)))))
        (λ v i lt.
        let k = mapped_from stamp_at (numbers_from 0 (length r.design.processes)) (Some v) i in
        let f = front_with k.0 (front_of (model r) b k.0) v refl k.2 in
        first k.0 f.0 f.1 (subst (λ t. IsBefore t s) (sym f.2) lt)))
