-- An element that is changed where its variable stands is changed among all variables.
use Rattle.std.proofs.Common.{ℕ, ◌≡◌, ◌<◌, List, slice_set, sym, ap, subst, ◌∙◌, arith}
use Rattle.std.specs.Prelude.{is_some, true}
use Rattle.ooo_code.specs.Expressions.{Sight}
use Rattle.ooo_value.specs.declared.values.Value.{Value}
use Rattle.ooo_interp.specs.Carrying.{all_cells, listed, numbers_of}
use Rattle.ooo_interp.specs.Ports.{all_shown, values_in}
use Rattle.ooo_interp.proofs.Listed.{AreBelow, is_listed, listed_below, stands_in_order, still_below, still_in_order}
use Rattle.ooo_interp.proofs.Placed.{numbers_stay, set_of, set_owned}
use Rattle.ooo_interp.proofs.Searched.{stands_within}
use Rattle.ooo_interp.proofs.job_parts.JobPartsLent.set_cell.Goals as goal

pub set_at-requires : goal.set_at-requires
set_at-requires c =
    let stands = stands_in_order c.args.self.now.owned.items c.args.self.now.first c.args.self.now.in_order c.args.variable c.args.self.now.owned_in_order (omega (arith, c.ranges.variable)) c.if-place-self.true in
    record { ascending = c.args.self.now.owned_ascending; within = stands_within (λ e. e.0) c.args.self.now.owned.items c.args.variable _ stands }

pub returns-then-place-self-clause-sight : goal.returns-then-place-self-clause-sight
returns-then-place-self-clause-sight c =
    let stands = stands_in_order c.args.self.now.owned.items c.args.self.now.first c.args.self.now.in_order c.args.variable c.args.self.now.owned_in_order (omega (arith, c.ranges.variable)) c.if-place-self.true in
    let some : is_some (listed c.args.self.now.owned.items c.args.variable) ≡ true = is_listed c.args.self.now.owned.items c.args.variable _ c.args.self.now.owned_ascending stands in
    let lt : c.args.variable < c.args.self.now.count = listed_below c.args.self.now.owned.items c.args.variable c.args.self.now.count c.args.self.now.owned_below some in
    ap (λ (v : List (List Value)). let s : Sight = record { slots = c.args.self.now.slots; variables = v; seen = all_shown (values_in c.args.self.now.fifos.seen.items) c.args.self.now.ports } in s)
    (ap (λ o. all_cells c.args.self.now.count o c.args.self.now.copied.items) (c.set_at.ensures.listed c.args.variable stands)
    ∙ set_owned c.args.self.now.count c.args.self.now.owned.items c.args.self.now.copied.items c.args.variable c.args.at c.args.v lt some)

pub returns-then-place-self-clause-kept : goal.returns-then-place-self-clause-kept
returns-then-place-self-clause-kept c =
    let stands = stands_in_order c.args.self.now.owned.items c.args.self.now.first c.args.self.now.in_order c.args.variable c.args.self.now.owned_in_order (omega (arith, c.ranges.variable)) c.if-place-self.true in
    ap (λ (ns : List ℕ). (ns, c.args.self.now.count)) (ap numbers_of (c.set_at.ensures.listed c.args.variable stands) ∙ numbers_stay c.args.self.now.owned.items c.args.variable (set_of c.args.at c.args.v))

pub invariant_of-self-clause-owned_in_order : goal.invariant_of-self-clause-owned_in_order
invariant_of-self-clause-owned_in_order c =
    let stands = stands_in_order c.args.self.now.owned.items c.args.self.now.first c.args.self.now.in_order c.args.variable c.args.self.now.owned_in_order (omega (arith, c.ranges.variable)) c.if-place-self.true in
    still_in_order _ c.args.self.now.owned.items c.args.self.now.first c.args.self.now.in_order (ap numbers_of (c.set_at.ensures.listed c.args.variable stands) ∙ numbers_stay c.args.self.now.owned.items c.args.variable (set_of c.args.at c.args.v)) c.args.self.now.owned_in_order

pub invariant_of-self-clause-owned_below : goal.invariant_of-self-clause-owned_below
invariant_of-self-clause-owned_below c =
    let stands = stands_in_order c.args.self.now.owned.items c.args.self.now.first c.args.self.now.in_order c.args.variable c.args.self.now.owned_in_order (omega (arith, c.ranges.variable)) c.if-place-self.true in
    subst (AreBelow c.args.self.now.count) (sym (c.set_at.ensures.listed c.args.variable stands)) (still_below c.args.self.now.owned.items c.args.variable (λ cells. slice_set cells c.args.at c.args.v) c.args.self.now.count c.args.self.now.owned_below)
