-- An element that is changed where its variable stands is changed among all variables.
use Rattle.std.proofs.Common.{◌≡◌, ◌<◌, None, sym, ap, ◌∙◌, arith}
use Rattle.ooo_interp.specs.Carrying.{all_cells, listed, numbers_of}
use Rattle.ooo_interp.proofs.Listed.{listed_below, still_in_order, unlisted}
use Rattle.ooo_interp.proofs.Placed.{not_listed, numbers_stay, set_copied, set_of, set_owned, set_past_all}
use Rattle.ooo_interp.proofs.job_parts.JobParts.set_elsewhere.Goals as goal

pub returns-then-set_by_search-clause-set : goal.returns-then-set_by_search-clause-set
returns-then-set_by_search-clause-set c =
    let lt : c.args.variable < c.args.self.now.count = listed_below c.args.self.now.owned.items c.args.variable c.args.self.now.count c.args.self.now.owned_below (sym c.if-set_by_search.ensures.found) in
    ap (λ o. all_cells c.args.self.now.count o c.args.self.now.copied.items) c.set_by_search.ensures.listed
    ∙ set_owned c.args.self.now.count c.args.self.now.owned.items c.args.self.now.copied.items c.args.variable c.args.at c.args.v.now lt (sym c.if-set_by_search.ensures.found)

pub returns-then-set_by_search-clause-numbers : goal.returns-then-set_by_search-clause-numbers
returns-then-set_by_search-clause-numbers c =
    ap numbers_of c.set_by_search.ensures.listed ∙ numbers_stay c.args.self.now.owned.items c.args.variable (set_of c.args.at c.args.v.now)

pub returns-then-variable-self-clause-set : goal.returns-then-variable-self-clause-set
returns-then-variable-self-clause-set c =
    let none : listed c.args.self.now.owned.items c.args.variable ≡ None = not_listed _ c.if-set_by_search.ensures.found in
    let lt : c.args.variable < c.args.self.now.count = c.if-variable-self.true in
    let owned : c.set_by_search.new.carried.items ≡ c.args.self.now.owned.items = c.set_by_search.ensures.listed ∙ unlisted c.args.self.now.owned.items c.args.variable (set_of c.args.at c.args.v.now) none in
    ap (λ o. all_cells c.args.self.now.count o c.set_by_search-then-variable-self.new.carried.items) owned
    ∙ ap (all_cells c.args.self.now.count c.args.self.now.owned.items) c.set_by_search-then-variable-self.ensures.listed
    ∙ set_copied c.args.self.now.count c.args.self.now.owned.items c.args.self.now.copied.items c.args.variable c.args.at c.args.v.now lt none

pub returns-then-variable-self-clause-numbers : goal.returns-then-variable-self-clause-numbers
returns-then-variable-self-clause-numbers c =
    ap numbers_of c.set_by_search.ensures.listed ∙ numbers_stay c.args.self.now.owned.items c.args.variable (set_of c.args.at c.args.v.now)

pub returns-else-variable-self-clause-set : goal.returns-else-variable-self-clause-set
returns-else-variable-self-clause-set c =
    let none : listed c.args.self.now.owned.items c.args.variable ≡ None = not_listed _ c.if-set_by_search.ensures.found in
    let owned : c.set_by_search.new.carried.items ≡ c.args.self.now.owned.items = c.set_by_search.ensures.listed ∙ unlisted c.args.self.now.owned.items c.args.variable (set_of c.args.at c.args.v.now) none in
    ap (λ o. all_cells c.args.self.now.count o c.args.self.now.copied.items) owned
    ∙ sym (set_past_all c.args.self.now.count c.args.self.now.owned.items c.args.self.now.copied.items c.args.variable _ (omega arith))

pub returns-else-variable-self-clause-numbers : goal.returns-else-variable-self-clause-numbers
returns-else-variable-self-clause-numbers c =
    ap numbers_of c.set_by_search.ensures.listed ∙ numbers_stay c.args.self.now.owned.items c.args.variable (set_of c.args.at c.args.v.now)

pub invariant_of-self-clause-owned_in_order : goal.invariant_of-self-clause-owned_in_order
invariant_of-self-clause-owned_in_order c =
    still_in_order _ c.args.self.now.owned.items c.args.self.now.first c.args.self.now.in_order (ap numbers_of c.set_by_search.ensures.listed ∙ numbers_stay c.args.self.now.owned.items c.args.variable (set_of c.args.at c.args.v.now)) c.args.self.now.owned_in_order

pub invariant_of-self-then-variable-self-clause-owned_in_order : goal.invariant_of-self-then-variable-self-clause-owned_in_order
invariant_of-self-then-variable-self-clause-owned_in_order c =
    still_in_order _ c.args.self.now.owned.items c.args.self.now.first c.args.self.now.in_order (ap numbers_of c.set_by_search.ensures.listed ∙ numbers_stay c.args.self.now.owned.items c.args.variable (set_of c.args.at c.args.v.now)) c.args.self.now.owned_in_order

pub invariant_of-self-else-variable-self-clause-owned_in_order : goal.invariant_of-self-else-variable-self-clause-owned_in_order
invariant_of-self-else-variable-self-clause-owned_in_order c =
    still_in_order _ c.args.self.now.owned.items c.args.self.now.first c.args.self.now.in_order (ap numbers_of c.set_by_search.ensures.listed ∙ numbers_stay c.args.self.now.owned.items c.args.variable (set_of c.args.at c.args.v.now)) c.args.self.now.owned_in_order

pub invariant_of-self-clause-owned_below : goal.invariant_of-self-clause-owned_below
invariant_of-self-clause-owned_below c = c.set_by_search.ensures.below c.args.self.now.count c.args.self.now.owned_below

pub invariant_of-self-then-variable-self-clause-owned_below : goal.invariant_of-self-then-variable-self-clause-owned_below
invariant_of-self-then-variable-self-clause-owned_below c = c.set_by_search.ensures.below c.args.self.now.count c.args.self.now.owned_below

pub invariant_of-self-else-variable-self-clause-owned_below : goal.invariant_of-self-else-variable-self-clause-owned_below
invariant_of-self-else-variable-self-clause-owned_below c = c.set_by_search.ensures.below c.args.self.now.count c.args.self.now.owned_below
