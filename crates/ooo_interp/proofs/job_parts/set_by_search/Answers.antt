-- Where the variable stands it has other elements.
use Rattle.std.proofs.Common.{slice_set, sym, subst}
use Rattle.ooo_interp.proofs.Listed.{AreBelow, StandsAt, is_listed, still_below, unlisted}
use Rattle.ooo_interp.proofs.Searched.{stands_within}
use Rattle.ooo_interp.proofs.job_parts.set_by_search.Goals as goal

pub set_at-requires : goal.set_at-requires
set_at-requires c =
    let stands : StandsAt c.args.carried.now.items c.args.variable c.in-Some.place = rw c.deref.ensures.value at c.in-Some.ensures in
    record { ascending = c.requires; within = stands_within (λ e. e.0) c.args.carried.now.items c.args.variable c.in-Some.place stands }

pub returns-in-Some-clause-listed : goal.returns-in-Some-clause-listed
returns-in-Some-clause-listed c = c.set_at.ensures.listed c.args.variable (rw c.deref.ensures.value at c.in-Some.ensures)

pub returns-in-None-clause-listed : goal.returns-in-None-clause-listed
returns-in-None-clause-listed c = sym (unlisted c.args.carried.now.items c.args.variable _ (rw c.deref.ensures.value at c.in-None.ensures))

pub returns-in-Some-clause-found : goal.returns-in-Some-clause-found
returns-in-Some-clause-found c =
    let stands : StandsAt c.args.carried.now.items c.args.variable c.in-Some.place = rw c.deref.ensures.value at c.in-Some.ensures in
    sym (is_listed c.args.carried.now.items c.args.variable c.in-Some.place c.requires stands)

pub returns-in-Some-clause-below : goal.returns-in-Some-clause-below
returns-in-Some-clause-below c = λ n h.
    subst (AreBelow n) (sym (returns-in-Some-clause-listed c)) (still_below c.args.carried.now.items c.args.variable (λ cells. slice_set cells c.args.at c.args.v.now) n h)
