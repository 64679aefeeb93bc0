-- What processes are chosen from.
use Rattle.std.proofs.Common.{◌≡◌, ◌↔◌, ◌⊎◌, ℕ, suc, ◌<◌, List, [], ◌∷◌, length, Bool, true, false, Option, None, Some, refl, sym, ap, subst, ◌∙◌, arith}
use Rattle.std.specs.Prelude.{slice_index_or}
use Rattle.std.proofs.lemmas.Option.{same_Some}
use Rattle.ooo_time.specs.declared.stamp.Stamp.{Stamp}
use Rattle.ooo_schedules.specs.Model.{Act, Front as Front_of, front_at, last, running_or}
use Rattle.ooo_dispatch.specs.declared.reads.Reads.{Reads}
use Rattle.ooo_dispatch.specs.Boards.{Board, IsFront, model}
use Rattle.ooo_dispatch.specs.Least.{HoldsUp, IsBelowCut}
use Rattle.ooo_time.specs.Delays.{advanced}
use Rattle.ooo_dispatch.specs.Rules.{Rules}
use Rattle.ooo_fronts.specs.declared.choice.Choice.{Choice}
use Rattle.ooo_fronts.specs.Choices.{AreStatesOf, IsChoiceOf}
use Rattle.ooo_fronts.specs.Cuts.{IsCutOf}
use Rattle.ooo_fronts.specs.declared.front.Front.{Front}
use Rattle.ooo_fronts.specs.Fronts.{AreFrontsOf, front_is, kept_front, maybe_front}
use Rattle.ooo_fronts.specs.declared.front.Hold.{Hold}
use Rattle.ooo_fronts.specs.Holds.{IsFirstHold, IsHold, IsSooner, held}
use Rattle.ooo_board.specs.declared.cores.Core.{Core}
use Rattle.ooo_board.specs.Boards.{CouldRun, CouldRunAt, IsFirstHolder, IsHolder, MayBeDispatched, Shown, rules, state}
use Rattle.ooo_board.specs.Laws.{AreLaws, Laws}
use Rattle.ooo_board.proofs.Steps.{IsKept}
use Rattle.ooo_board.proofs.States.{are_states}

-- what a core keeps of the board is what is chosen from
pub is_choice : (b : Shown) (c : Core) → IsKept b c → Laws → (choice : Choice) →
    choice.states.now ≡ c.states.items → choice.fronts.now ≡ c.fronts.fronts → choice.held.now ≡ c.fronts.counts → choice.cut.now ≡ c.cut →
    IsChoiceOf (rules b) b.tables.advance (state b).board choice
is_choice b c has laws choice states fronts held cut = record {
  states = subst (AreStatesOf (rules b) (state b).board) (sym states) (are_states (rules b) (state b) c.states.items has.core.has_states);
  fronts = subst (AreFrontsOf (rules b) (state b).board) (sym fronts) has.core.has_fronts;
  held = rw (fronts, held) ((laws b.design b.limits b.tables has.stands.ready).counts c.fronts.fronts c.fronts.counts has.core.has_kept.counts);
  cut = subst (IsCutOf (rules b) (state b).board.log) (sym cut) has.core.has_cut;
}

-- a test doesn't come out both ways
pub not_both : (b : Bool) → b ≡ true → b ≡ false → ⊥
not_both b holds fails = let e : true ≡ false = sym holds ∙ fails in cc

-- ---- who could run

module _ (b : Shown) (c : Core) (has : IsKept b c) where
  pub front_kept : (p : ℕ) (f : Front) → slice_index_or c.fronts.fronts p None ≡ Some f → IsFront (rules b) (state b).board p (front_is f)
  front_kept p f own = has.core.has_fronts.each p ∙ ap maybe_front own

  module _ (p : ℕ) (f : Front) (own : slice_index_or c.fronts.fronts p None ≡ Some f) where
    pub could : last p (state b).board.out ≡ None → f.stamp.delta < c.cut.deltas → IsBelowCut (rules b) (state b).board f.stamp p → CouldRun b p
    could idle limit below = (
      front_is f,
      record {
        idle = idle;
        front = front_kept p f own;
        below_cut = below;
        below_limit = subst (λ d. f.stamp.delta < d) has.core.has_cut.deltas limit;
      },
    )

    -- at the front that is kept
    pub could_at : CouldRun b p → CouldRunAt b p (front_is f)
    could_at h = let e : Some h.0 ≡ Some (front_is f) = sym h.1.front ∙ front_kept p f own in subst (CouldRunAt b p) (same_Some h.0 (front_is f) e) h.1

    pub within_limit : CouldRun b p → f.stamp.delta < c.cut.deltas
    within_limit h = subst (λ d. f.stamp.delta < d) (sym has.core.has_cut.deltas) (could_at h).below_limit

  -- a job that is out is of a process that there is
  pub out_within : Laws → (p : ℕ) (j : Act Stamp Reads) → last p (state b).board.out ≡ Some j → p < length b.design.processes
  out_within laws p j is =
      ((laws b.design b.limits b.tables has.stands.ready).in_reach b.schedule has.stands.lawful p (front_at j)
      (ap (λ o. running_or o ((model (rules b)).front (state b).board.log p)) is)).within

-- ---- the fronts that are kept

same_maybe : (o k : Option Front) → maybe_front o ≡ maybe_front k → o ≡ k
same_maybe None None e = refl
same_maybe None (Some g) e = absurd cc
same_maybe (Some f) None e = absurd cc
same_maybe (Some f) (Some g) e =
    ap (λ (x : Front_of Stamp). Some (record { segment = x.segment; stamp = x.stamp })) (same_Some (front_is f) (front_is g) e)

same_list : (xs ys : List (Option Front)) → length xs ≡ length ys → ((p : ℕ) → slice_index_or xs p None ≡ slice_index_or ys p None) → xs ≡ ys
same_list [] [] l h = refl
same_list [] (y ∷ ys) l h = absurd (omega arith)
same_list (x ∷ xs) [] l h = absurd (omega arith)
same_list (x ∷ xs) (y ∷ ys) l h =
    let first : x ≡ y = h 0 in
    let rest = same_list xs ys (omega arith) (λ p. h (suc p)) in
    cc

-- the fronts of a board are given by it
pub same_fronts : (r : Rules) (b : Board r) (xs ys : List (Option Front)) → AreFrontsOf r b xs → AreFrontsOf r b ys → xs ≡ ys
same_fronts r b xs ys h k =
    same_list xs ys (h.count ∙ sym k.count) (λ p. same_maybe (slice_index_or xs p None) (slice_index_or ys p None) (sym (h.each p) ∙ k.each p))

-- ---- what holds a process up

kept_is : (fronts : List (Option Front)) (p : ℕ) (f : Front_of Stamp) → kept_front fronts p ≡ Some f → (x : Front) × (slice_index_or fronts p None ≡ Some x) × (front_is x ≡ f)
kept_is fronts p f e = at (slice_index_or fronts p None) refl e
  where
    at : (o : Option Front) → slice_index_or fronts p None ≡ o → maybe_front o ≡ Some f → (x : Front) × (slice_index_or fronts p None ≡ Some x) × (front_is x ≡ f)
    at None i h = absurd cc
    at (Some x) i h = (x, i, cc)

module _ (b : Shown) (c : Core) (has : IsKept b c) (laws : Laws) (none : (state b).abandoned ≡ []) (p : ℕ) where
  abbrev own_laws : AreLaws b.design b.limits b.tables
  own_laws = laws b.design b.limits b.tables has.stands.ready

  -- a process that nothing holds up may be dispatched
  free : CouldRun b p → held b.tables c.fronts.fronts p ≡ 0 → MayBeDispatched b p
  free could nothing =
      let kept : kept_front c.fronts.fronts p ≡ Some could.0 = sym (has.core.has_fronts.each p) ∙ could.1.front in
      let counts = own_laws.counts c.fronts.fronts c.fronts.counts has.core.has_kept.counts p could.0 kept in (
        none,
        could.0,
        record {
          idle = could.1.idle;
          front = could.1.front;
          below_cut = could.1.below_cut;
          below_limit = could.1.below_limit;
          free = λ q g differs is. counts.0 (has.core.has_kept.counts.each p ∙ nothing) q g differs (sym (has.core.has_fronts.each q) ∙ is);
        },
      )

  -- the first hold is the first by the rule
  first : CouldRun b p → (h : Hold) → IsHold b.tables c.fronts.fronts p h → ((g : Hold) → IsHold b.tables c.fronts.fronts p g → IsSooner g h → ⊥) → IsFirstHolder b p h
  first could h is sooner =
      let by = own_laws.holds c.fronts.fronts p h is in
      record {
        could = (front_is is.held, could_at b c has p is.held is.own could);
        holding = front_is is.holding;
        is = front_kept b c has h.front is.holding is.front;
        other = is.other;
        holds = by.up;
        segment = by.segment;
        at = by.at;
        first = λ q g differs front up before.
            let kept = kept_is c.fronts.fronts q g (sym (has.core.has_fronts.each q) ∙ front) in
            subst (λ x. (u : HoldsUp (rules b) b.tables.advance x p (front_is is.held)) → (q < h.front) ⊎ (q ≡ h.front) × (u.segment < h.segment) → ⊥) kept.2
            (λ u. sooner (record { front = q; segment = u.segment; at = advanced kept.0.stamp u.delay }) (own_laws.found c.fronts.fronts p q kept.0 is.held differs kept.1 is.own u)) up before;
      }

  pub is_holder : CouldRun b p → (o : Option Hold) → IsFirstHold b.tables c.fronts.fronts p o → (o ≡ None) ↔ (held b.tables c.fronts.fronts p ≡ 0) → IsHolder b p o
  is_holder could None h k = λ sound again. free could (k.0 refl)
  is_holder could (Some hold) h k = ((λ lost. lost none), first could hold h.0 h.1)
