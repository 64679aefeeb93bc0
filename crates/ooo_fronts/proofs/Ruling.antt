-- What is counted is what the rule counts.
use Rattle.std.proofs.Common.{◌≡◌, ◌≢◌, ◌∙◌, refl, sym, ap, subst, arith, ℕ, ◌<◌, inl, inr, Bool, true, false, ◌&&◌, ◌==◌, nat_lt, if◌then◌else◌, zero, suc, List, ◌∷◌, length, get_or, Option, None, Some}
use Rattle.std.specs.Prelude.{slice_get, ◌↔◌, []}
use Rattle.std.proofs.lemmas.Bool.{cases_lt, eqb-false, lt-ltb, ltb-true}
use Rattle.std.proofs.lemmas.Bool.Decides.{eqb_tells}
use Rattle.std.proofs.lemmas.List.{get_or_past}
use Rattle.ooo_time.specs.declared.stamp.Stamp.{Stamp}
use Rattle.ooo_time.specs.Delays.{advanced}
use Rattle.ooo_time.specs.Stamps.{is_before}
use Rattle.ooo_code.specs.declared.design.Design.{Design}
use Rattle.ooo_code.specs.declared.limits.Limits.{Limits}
use Rattle.ooo_code.specs.declared.segment.Segment.{Segment}
use Rattle.ooo_meaning.specs.World.{same_stamp}
use Rattle.ooo_conflicts.specs.declared.kind.ClashKind.{ClashKind}
use Rattle.ooo_conflicts.specs.declared.kind.ClashKind.TheVariants.{Apart}
use Rattle.ooo_conflicts.specs.Kinds.{is_clash, kind_at}
use Rattle.ooo_schedules.specs.Model as board
use Rattle.ooo_tables.specs.declared.tables.Tables.{Tables}
use Rattle.ooo_tables.specs.Tables.{AreTables}
use Rattle.ooo_dispatch.specs.Least.{HoldsUp, ClashesAt, rules_of}
use Rattle.ooo_dispatch.specs.Rules.{process_of, clash}
use Rattle.ooo_fronts.specs.declared.front.Front.{Front}
use Rattle.ooo_fronts.specs.declared.front.Hold.{Hold}
use Rattle.ooo_fronts.specs.Choices.{CountHolds}
use Rattle.ooo_fronts.specs.Fronts.{AreAligned, front_is, maybe_front, kept_front, process_in}
use Rattle.ooo_fronts.specs.Holds.{clashes_at, AreCounts, IsHold, IsHoldByRule}
use Rattle.ooo_fronts.proofs.Holding.{found_by, by_found}
use Rattle.ooo_fronts.proofs.Counted.{hold_is_counted, none_is_counted}
use Rattle.ooo_fronts.proofs.Orders.{before_yes, is_yes, never_before, same_yes, yes_same}

pub tables_aligned : (design : Design) (t : Tables) → AreTables design t → AreAligned t
tables_aligned design t h = record {
  few = h.few;
  clash = h.clash.count ∙ h.access.count;
  advance = h.advance.count ∙ h.access.count;
  addable = h.addable;
}

-- ---- fronts

-- a front that is kept is one of the list
pub kept_is : (fronts : List (Option Front)) (p : ℕ) (f : board.Front Stamp) → kept_front fronts p ≡ Some f → (x : Front) × (get_or fronts p None ≡ Some x) × (front_is x ≡ f)
kept_is fronts p f e = at (get_or fronts p None) refl e
  where
    at : (o : Option Front) → get_or fronts p None ≡ o → maybe_front o ≡ Some f → (x : Front) × (get_or fronts p None ≡ Some x) × (front_is x ≡ f)
    at None i h = absurd cc
    at (Some x) i h = (x, i, cc)

-- ---- clashes

-- what is below the length is there
slice_get_some : {A : Type 0} (xs : List A) (i : ℕ) → i < length xs → slice_get xs i ≡ None → ⊥
slice_get_some [] i lt e = omega arith
slice_get_some (x ∷ xs) zero lt e = cc
slice_get_some (x ∷ xs) (suc i) lt e = slice_get_some xs i (omega arith) e

module _ (design : Design) (limits : Limits) (t : Tables) where
  -- the process of a segment that there is, by the rule
  process_is : (b : ℕ) → b < length t.graph.segments → process_of (rules_of design limits t) b ≡ process_in t b
  process_is b lt = at (slice_get t.graph.segments b) refl
    where
      at : (o : Option Segment) → slice_get t.graph.segments b ≡ o → process_of (rules_of design limits t) b ≡ process_in t b
      at None e = absurd (slice_get_some t.graph.segments b lt e)
      at (Some s) e =
          let rule : process_of (rules_of design limits t) b ≡ s.process = ap (λ (o : Option Segment). elim o [ None ↦ length design.processes | Some x ↦ x.process ]) e in
          let here : process_in t b ≡ s.process = ap (λ (o : Option Segment). elim o [ None ↦ 0 | Some x ↦ x.process ]) e in
          rule ∙ sym here

  pub clashes_by_rule : (b : ℕ) (s : Stamp) (p : ℕ) (f : Front) → b < length t.graph.segments → clashes_at t b s p f ≡ true → ClashesAt (rules_of design limits t) b s p (front_is f)
  clashes_by_rule b s p f lt h = at (is_before s f.stamp) (same_stamp s f.stamp) (nat_lt (process_in t b) p) (is_clash (kind_at t.clash b f.segment) false) refl refl refl refl h
    where
      at : (x y z w : Bool) → is_before s f.stamp ≡ x → same_stamp s f.stamp ≡ y → nat_lt (process_in t b) p ≡ z → is_clash (kind_at t.clash b f.segment) false ≡ w →
          (if x then is_clash (kind_at t.clash b f.segment) true else y && (z && w)) ≡ true → ClashesAt (rules_of design limits t) b s p (front_is f)
      at true y z w a c d e i = inl (is_yes s f.stamp a, i)
      at false true true true a c d e i = inr (yes_same s f.stamp c, subst (λ q. q < p) (sym (process_is b lt)) (ltb-true (process_in t b) p d), e)
      at false true true false a c d e i = absurd cc
      at false true false w a c d e i = absurd cc
      at false false z w a c d e i = absurd cc

  pub rule_clashes : (b : ℕ) (s : Stamp) (p : ℕ) (f : Front) → b < length t.graph.segments → ClashesAt (rules_of design limits t) b s p (front_is f) → clashes_at t b s p f ≡ true
  rule_clashes b s p f lt h = elim h [
    | inl w ↦ rw (before_yes s f.stamp w.0) w.1
    | inr w ↦
        let lower = lt-ltb (process_in t b) p (subst (λ q. q < p) (process_is b lt) w.1) in
        rw (never_before s f.stamp w.0, same_yes s f.stamp w.0, lower) w.2
  ]

  -- a segment that clashes is one of the table
  within_clash : (b g : ℕ) (strict : Bool) → clash (rules_of design limits t) b g strict ≡ true → b < length t.clash
  within_clash b g strict h = elim (cases_lt b (length t.clash)) [
    | inl below ↦ below
    | inr past ↦
        let none = get_or_past t.clash b [] past in
        absurd (let apart : is_clash Apart strict ≡ true = sym (ap (λ (row : List ClashKind). is_clash (get_or row g Apart) strict) none) ∙ h in cc)
  ]

  clash_within : (b : ℕ) (s : Stamp) (p : ℕ) (f : Front) → ClashesAt (rules_of design limits t) b s p (front_is f) → b < length t.clash
  clash_within b s p f h = elim h [ inl w ↦ within_clash b f.segment true w.1 | inr w ↦ within_clash b f.segment false w.2 ]

  -- ---- holds

  -- by the rule no front of another process holds the front f of process p up
  abbrev pub IsFree : List (Option Front) → (p : ℕ) → (f : board.Front Stamp) → Type 0
  IsFree fronts p f = (q : ℕ) (g : board.Front Stamp) → q ≢ p → kept_front fronts q ≡ Some g → HoldsUp (rules_of design limits t) t.advance g p f → ⊥

  -- what holds a front up by the rule is a hold
  pub hold_found : (fronts : List (Option Front)) (p q : ℕ) (g f : Front) → AreAligned t → q ≢ p → get_or fronts q None ≡ Some g → get_or fronts p None ≡ Some f →
      (up : HoldsUp (rules_of design limits t) t.advance (front_is g) p (front_is f)) → IsHold t fronts p (record { front = q; segment = up.segment; at = advanced g.stamp up.delay })
  hold_found fronts p q g f aligned ne there own up =
      let lt = clash_within up.segment (advanced g.stamp up.delay) p f up.clashes in
      let n = aligned.clash in
      let within : up.segment < length t.graph.segments = omega (arith, lt, n) in
      let other : (process_in t up.segment == p) ≡ false = elim (eqb_tells (process_in t up.segment) p) [
        | inl w ↦ absurd (up.other (process_is up.segment within ∙ w.1))
        | inr w ↦ w.0
      ] in
      record {
        holding = g;
        held = f;
        other = ne;
        front = there;
        own = own;
        within = within;
        at = by_found t g p f up.segment up.delay other up.leads (rule_clashes up.segment (advanced g.stamp up.delay) p f within up.clashes);
      }

  -- by the rule a front is free exactly where nothing of it is counted
  pub free_by_rule : (fronts : List (Option Front)) (p : ℕ) (f : Front) → AreAligned t → get_or fronts p None ≡ Some f →
      ((h : Hold) → IsHold t fronts p h → ⊥) → IsFree fronts p (front_is f)
  free_by_rule fronts p f aligned own none q g ne kept up =
      let x = kept_is fronts q g kept in
      let by : HoldsUp (rules_of design limits t) t.advance (front_is x.0) p (front_is f) = subst (λ y. HoldsUp (rules_of design limits t) t.advance y p (front_is f)) (sym x.2) up in
      none (record { front = q; segment = by.segment; at = advanced x.0.stamp by.delay }) (hold_found fronts p q x.0 f aligned ne x.1 own by)

  pub hold_by_rule : (fronts : List (Option Front)) (p : ℕ) (h : Hold) → (is : IsHold t fronts p h) → IsHoldByRule design limits t p h is.holding is.held
  hold_by_rule fronts p h is =
      let r = found_by t is.holding p is.held h.segment h.at is.at in
      let up : HoldsUp (rules_of design limits t) t.advance (front_is is.holding) p (front_is is.held) = record {
        segment = h.segment;
        other = λ e. eqb-false (process_in t h.segment) p r.other (sym (process_is h.segment is.within) ∙ e);
        delay = r.delay;
        leads = r.leads;
        clashes = subst (λ u. ClashesAt (rules_of design limits t) h.segment u p (front_is is.held)) r.at (clashes_by_rule h.segment h.at p is.held is.within r.clashes);
      } in
      record { up = up; segment = refl; at = sym r.at }

  pub rule_is_free : (fronts : List (Option Front)) (p : ℕ) (f : Front) → get_or fronts p None ≡ Some f → IsFree fronts p (front_is f) → (h : Hold) → IsHold t fronts p h → ⊥
  rule_is_free fronts p f own free h is =
      let same : is.held ≡ f = let e = sym is.own ∙ own in cc in
      let up = (hold_by_rule fronts p h is).up in
      free h.front (front_is is.holding) is.other (ap maybe_front is.front) (subst (λ x. HoldsUp (rules_of design limits t) t.advance (front_is is.holding) p (front_is x)) same up)

pub counts_by_rule : (design : Design) (limits : Limits) (t : Tables) (fronts : List (Option Front)) (counts : List ℕ) → AreTables design t → AreCounts t fronts counts → CountHolds (rules_of design limits t) t.advance fronts counts
counts_by_rule design limits t fronts counts tables h p f kept =
    let aligned = tables_aligned design t tables in
    let x = kept_is fronts p f kept in
    subst (λ y. (get_or counts p 0 ≡ 0) ↔ IsFree design limits t fronts p y) x.2 (
      λ e. free_by_rule design limits t fronts p x.0 aligned x.1 (λ g is. hold_is_counted t fronts p g is (sym (h.each p) ∙ e)),
      λ free. h.each p ∙ none_is_counted t fronts p (rule_is_free design limits t fronts p x.0 x.1 free),
    )
