-- When the events of a wait fire is asked of a bank.
use Rattle.std.proofs.Common.{◌≡◌, ℕ, zero, suc, ◌<◌, ◌≤◌, inl, inr, List, [], ◌∷◌, Option, Some, None, length, map, drop, get_or, refl, sym, ap, subst, ◌∙◌, arith, drop-cons}
use Rattle.std.specs.Prelude.{unwrap_or}
use Rattle.std.proofs.lemmas.List.{drop_all}
use Rattle.ooo_time.specs.declared.stamp.Stamp.{Stamp}
use Rattle.ooo_time.specs.Stamps.{IsBefore}
use Rattle.ooo_events.specs.Firings.{IsFirstAfter}
use Rattle.ooo_channels.specs.Bank.{BankState, IsBankAfter}
use Rattle.ooo_channels.specs.Calls.{FiresAt}
use Rattle.ooo_channels.specs.Conditions.{HasEventAt}
use Rattle.ooo_channels.specs.Operations.{Operations, later_of}
use Rattle.ooo_schedules.specs.Design.{Wait, front_by, sooner, soonest}
use Rattle.ooo_schedules.specs.Model.{In}
use Rattle.ooo_schedules.specs.Program.{design}
use Rattle.ooo_schedules.specs.Tables.{program}
use Rattle.ooo_dispatch.specs.Banks.{first_on, operations_on, since_of}
use Rattle.ooo_dispatch.specs.Boards.{Board}
use Rattle.ooo_dispatch.specs.Rules.{Rules, tables}
use Rattle.ooo_board.specs.Cores.{maybe_wait, wait_is}
use Rattle.ooo_board.specs.Forgetting.{forgetting}
use Rattle.ooo_board.specs.Waking.{IsAsked, IsPastFront, MayAskFront, front_told}
use Rattle.ooo_board.proofs.Forgotten.{has_event}
use Rattle.ooo_board.proofs.Past.{later_past, told_past}
use Rattle.ooo_board.specs.declared.process.Waiting.{Waiting as Kept}

-- ---- the events from the last one on

pub in_at : (xs : List ℕ) (k d : ℕ) → k < length xs → In (get_or xs k d) xs
in_at [] k d lt = absurd (omega arith)
in_at (x ∷ xs) zero d lt = inl refl
in_at (x ∷ xs) (suc k) d lt = inr (in_at xs k d (omega arith))

-- the first stamp is known of the events from number i on
pub record IsAskedFrom (bank : BankState) (events : List ℕ) (from : Stamp) (i : ℕ) (first : Option Stamp) : Type 0 where
  pub within : i ≤ length events
  pub is :
      (r : Rules) (b : Board r) (w : Wait Stamp) → IsAsked r b bank w events from →
      first ≡ soonest (design (program (tables r))) (map (λ e. first_on r b e w.since) (drop i events))

module _ (bank : BankState) (events : List ℕ) (from : Stamp) where
  pub asked_none : (i : ℕ) → i ≡ length events → IsAskedFrom bank events from i None
  asked_none i e = record {
    within = omega arith;
    is = λ r b w h. let past : length events ≤ i = omega arith in ap (λ xs. soonest (design (program (tables r))) (map (λ e. first_on r b e w.since) xs)) (sym (drop_all i events past));
  }

  pub asked_all : (i : ℕ) (first : Option Stamp) → i ≤ 0 → IsAskedFrom bank events from i first → (r : Rules) (b : Board r) (w : Wait Stamp) → IsAsked r b bank w events from → first ≡ soonest (design (program (tables r))) (map (λ e. first_on r b e w.since) w.events)
  asked_all i first none h r b w asked =
      let at : i ≡ 0 = omega arith in
      h.is r b w asked ∙ ap (λ k. soonest (design (program (tables r))) (map (λ e. first_on r b e w.since) (drop k events))) at
      ∙ ap (λ xs. soonest (design (program (tables r))) (map (λ e. first_on r b e w.since) xs)) (sym asked.are_events)

  module _ (i : ℕ) (lt : i < length events) where
    abbrev event : ℕ
    event = get_or events i 0

    named : (r : Rules) (b : Board r) (w : Wait Stamp) → IsAsked r b bank w events from → In event w.events
    named r b w asked = subst (λ xs. In event xs) (sym asked.are_events) (in_at events i 0 lt)

    pub may_ask : ((r : Rules) × (b : Board r) × (w : Wait Stamp) × IsAsked r b bank w events from) → (ops : Operations) × IsBankAfter bank ops × HasEventAt ops event
    may_ask (r, b, w, asked) = (forgetting asked.below (operations_on r b), asked.applied, has_event asked.below (operations_on r b) event (asked.told.there event (named r b w asked)))

    pub asked_more :
        (k : ℕ) (first one next : Option Stamp) → k ≡ suc i → IsAskedFrom bank events from k first →
        ((ops : Operations) → IsBankAfter bank ops → (IsBefore from ops.below → ⊥) → IsFirstAfter (FiresAt ops event) from one) →
        ((r : Rules) → next ≡ sooner (design (program (tables r))) one first) → IsAskedFrom bank events from i next
    asked_more k first one next later h fires sooner_is = record {
      within = omega arith;
      is = λ r b w asked.
          let ops = forgetting asked.below (operations_on r b) in
          let kept : IsBefore from asked.below → ⊥ = subst (λ s. IsBefore s asked.below → ⊥) asked.is_from (later_past (since_of w.since) asked.below) in
          let at : IsFirstAfter (FiresAt ops event) from one = fires ops asked.applied kept in
          let told : one ≡ first_on r b event w.since = told_past r b w asked.told asked.below asked.past event (named r b w asked) one (subst (λ s. IsFirstAfter (FiresAt ops event) s one) (sym asked.is_from) at) in
          let cut : drop k events ≡ drop (suc i) events = ap (λ n. drop n events) later in
          sooner_is r
          ∙ ap (λ o. sooner (design (program (tables r))) o first) told
          ∙ ap (sooner (design (program (tables r))) (first_on r b event w.since)) (h.is r b w asked ∙ ap (λ xs. soonest (design (program (tables r))) (map (λ e. first_on r b e w.since) xs)) cut)
          ∙ ap (λ xs. soonest (design (program (tables r))) (map (λ e. first_on r b e w.since) xs)) (sym (drop-cons events i 0 lt));
    }

-- ---- the front by a wait

since_is : (o : Option Stamp) (zero_is since : Stamp) → (zero_is.time.0 ≡ 0) × (zero_is.delta ≡ 0) → since ≡ unwrap_or o zero_is → since_of o ≡ since
since_is None zero_is since (at, delta) e = (λ i. record { time = record { 0 = sym at i }; delta = sym delta i }) ∙ sym e
since_is (Some s) zero_is since z e = sym e

module _ (bank : BankState) (below : Stamp) (o : Option Kept) (w : Kept) (has : o ≡ Some w) (events : List ℕ) (zero_is since from : Stamp) (are : events ≡ w.events) (z : (zero_is.time.0 ≡ 0) × (zero_is.delta ≡ 0)) (e : since ≡ unwrap_or w.since zero_is) (later : from ≡ later_of since below) where
  pub asked : (r : Rules) (b : Board r) → MayAskFront r b bank below (maybe_wait o) → IsAsked r b bank (wait_is w) events from
  asked r b may = record {
    below = below;
    applied = may.applied;
    told = may.told (wait_is w) (ap maybe_wait has);
    past = subst (λ x. IsPastFront r b below (maybe_wait x)) has may.past;
    are_events = sym are;
    is_from = ap (λ s. later_of s below) (since_is w.since zero_is since z e) ∙ sym later;
  }

  pub told_front :
      (r : Rules) (b : Board r) → MayAskFront r b bank below (maybe_wait o) → (fired stamp : Option Stamp) →
      ((r : Rules) (b : Board r) (v : Wait Stamp) → IsAsked r b bank v events from → fired ≡ soonest (design (program (tables r))) (map (λ e. first_on r b e v.since) v.events)) →
      ((r : Rules) → stamp ≡ sooner (design (program (tables r))) w.timeout fired) → front_by w.segment stamp ≡ front_told r b (maybe_wait o)
  told_front r b may fired stamp fires sooner_is =
      let first = fires r b (wait_is w) (asked r b may) in
      ap (front_by w.segment) (sooner_is r ∙ ap (sooner (design (program (tables r))) w.timeout) first) ∙ ap (λ x. front_told r b (maybe_wait x)) (sym has)
