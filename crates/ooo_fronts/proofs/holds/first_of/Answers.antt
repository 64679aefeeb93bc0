-- Segment by segment.
use Rattle.std.proofs.Common.{◌≡◌, ◌∙◌, ap, sym, Option, None, length, get_or, arith}
use Rattle.std.specs.Prelude.{is_some}
use Rattle.std.proofs.lemmas.List.{get_or_default}
use Rattle.std.proofs.lemmas.List.Elements.{Contains-get_or}
use Rattle.ooo_time.specs.declared.stamp.Stamp.{Stamp}
use Rattle.ooo_fronts.specs.Holds.{hold_at}
use Rattle.ooo_fronts.proofs.Holding.{clashing_are_all, is_gone}
use Rattle.ooo_fronts.proofs.Reached.{none_first, none_more, none_at_all}
use Rattle.ooo_fronts.proofs.holds.first_of.Goals as goal

pub loop-b-init : goal.loop-b-init
loop-b-init c =
    let a = c.args in
    let n = length a.tables.now.graph.segments in
    let xs = c.clashing-clashing.result.now in
    let all = clashing_are_all a.tables.now a.g a.p a.f xs c.requires.aligned c.clashing-clashing.ensures.exact c.clashing-clashing.ensures.ascending in
    none_first (λ b. is_some (hold_at a.tables.now a.g a.p a.f b)) n xs all

pub hold_at-requires-clause-segment : goal.hold_at-requires-clause-segment
hold_at-requires-clause-segment c =
    let a = c.args in
    let xs = c.clashing-clashing.result.now in
    let all = clashing_are_all a.tables.now a.g a.p a.f xs c.requires.aligned c.clashing-clashing.ensures.exact c.clashing-clashing.ensures.ascending in
    all.within (get_or xs c.loop-b.b-index 0) (Contains-get_or xs c.loop-b.b-index 0 c.loop-b-test.true)

pub returns-in-Some : goal.returns-in-Some
returns-in-Some c =
    let a = c.args in
    let n = length a.tables.now.graph.segments in
    let xs = c.clashing-clashing.result.now in
    let i = c.loop-b.b-index in
    let lt = c.loop-b-test.true in
    let all = clashing_are_all a.tables.now a.g a.p a.f xs c.requires.aligned c.clashing-clashing.ensures.exact c.clashing-clashing.ensures.ascending in
    let here = get_or_default xs i 0 n lt in (
      all.within (get_or xs i 0) (Contains-get_or xs i 0 lt),
      sym c.hold_at.ensures ∙ c.in-Some.is,
      λ b below. is_gone (hold_at a.tables.now a.g a.p a.f b) (c.loop-b.invariant b (omega (arith, below, here))),
    )

pub loop-b-preserved : goal.loop-b-preserved
loop-b-preserved c =
    let a = c.args in
    let n = length a.tables.now.graph.segments in
    let xs = c.clashing-clashing.result.now in
    let i = c.loop-b.b-index in
    let lt = c.loop-b-test.true in
    let all = clashing_are_all a.tables.now a.g a.p a.f xs c.requires.aligned c.clashing-clashing.ensures.exact c.clashing-clashing.ensures.ascending in
    let here = get_or_default xs i 0 n lt in
    let gone : hold_at a.tables.now a.g a.p a.f (get_or xs i n) ≡ None = ap (hold_at a.tables.now a.g a.p a.f) (sym here) ∙ sym c.hold_at.ensures ∙ c.in_default.is in
    let none = ap (λ (o : Option Stamp). is_some o) gone in
    none_more (λ b. is_some (hold_at a.tables.now a.g a.p a.f b)) n xs all i lt none c.loop-b.invariant

pub returns : goal.returns
returns c =
    let a = c.args in
    let n = length a.tables.now.graph.segments in
    let xs = c.clashing-clashing.result.now in
    let all = clashing_are_all a.tables.now a.g a.p a.f xs c.requires.aligned c.clashing-clashing.ensures.exact c.clashing-clashing.ensures.ascending in
    λ b lt. is_gone (hold_at a.tables.now a.g a.p a.f b) (none_at_all (λ b. is_some (hold_at a.tables.now a.g a.p a.f b)) n xs all c.loop-b.b-index c.loop-b-test.false c.loop-b.invariant b lt)
