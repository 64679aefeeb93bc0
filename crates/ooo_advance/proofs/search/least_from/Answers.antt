-- Turn by turn.
use Rattle.std.proofs.Common.{◌+◌, ◌<◌, ◌≤◌, ◌∙◌, List, [], true, drop, length, arith, sym, subst, ap, Option, rules}
use Rattle.std.specs.Prelude.{All, IfSome, MatchOption, slice_set}
use Rattle.std.proofs.lemmas.List.{take_at, get_or_default}
use Rattle.ooo_time.specs.declared.delay.Delay.{Delay}
use Rattle.ooo_time.specs.Delays.{greatest_deltas}
use Rattle.ooo_advance.specs.Turns.{HasNone, IsNearest}
use Rattle.ooo_advance.proofs.SearchLemmas.{IsSearch, begins, turns, turn_smaller, links_short, addable, ends}
use Rattle.ooo_advance.proofs.search.least_from.Goals as goal

pub turns-init : goal.turns-init
turns-init c = record {
  search = begins _ _ _ _ c.requires.source (c.in_ok-least.ensures.items_if_clones_equal (λ y h. search rules)) (c.in_ok-done.ensures.items_if_clones_equal (λ y h. h));
  next = rw (c.deref.ensures.value, c.deref-2.ensures.value) at c.nearest-next.ensures;
}

pub relax-next-requires-clause-deltas : goal.relax-next-requires-clause-deltas
relax-next-requires-clause-deltas c =
    let links = c.args.links.now in
    let n = c.in-Some.n in
    let near = rw c.in-Some.is at c.turns.invariant.next in
    let within : n < length links = let lt = near.1 in let e = c.turns.invariant.search.count in omega arith in
    let row = c.as_slice.ensures ∙ c.index-links-n.is ∙ get_or_default links n c.index-links-n.result [] within in
    let short = links_short _ _ _ _ _ _ c.requires.few c.requires.steps c.turns.invariant.search near in
    subst (λ (r : List (Option Delay)). All (λ link. IfSome link (λ k. c.in-Some.delay.deltas + k.deltas ≤ greatest_deltas)) r) (sym row) short

pub turns-smaller : goal.turns-smaller
turns-smaller c =
    let near = rw c.in-Some.is at c.turns.invariant.next in
    turn_smaller _ _ _ _ _ _ c.turns.invariant.search near

pub turns-preserved : goal.turns-preserved
turns-preserved c =
    let links = c.args.links.now in
    let n = c.in-Some.n in
    let near = rw c.in-Some.is at c.turns.invariant.next in
    let within : n < length links = let lt = near.1 in let e = c.turns.invariant.search.count in omega arith in
    let row = c.as_slice.ensures ∙ c.index-links-n.is ∙ get_or_default links n c.index-links-n.result [] within in
    let low = rw (c.deref-in-Some.ensures.value, c.deref_mut.ensures.value, row) at c.relax-next.ensures.lowered in
    let next = rw c.deref-in-Some.ensures.value at c.relax-next.ensures.nearest in
    let long = c.relax-next.auto.least ∙ c.deref_mut.ensures.len in
    let same = c.relax-next.auto.least ∙ ap (λ (r : List (Option Delay)). length r) c.deref_mut.ensures.value in
    let made = turns _ _ _ _ _ _ _ c.requires.steps c.turns.invariant.search near same low in
    let items = take_at c.relax-next.new.least (drop (length c.relax-next.new.least) c.turns.least.items) c.turns.least.len long in
    record {
      search = subst (λ (r : List (Option Delay)). IsSearch links c.args.source r (slice_set c.turns.done.items n true)) (sym items) made;
      next = subst (λ (r : List (Option Delay)). MatchOption c.relax-next.result (HasNone r (slice_set c.turns.done.items n true) (length r)) (λ x. IsNearest r (slice_set c.turns.done.items n true) x.0 x.1 × (x.0 < length r))) (sym items) next;
    }

pub returns-clause-addable : goal.returns-clause-addable
returns-clause-addable c = rw c.from_vec.ensures (addable _ _ _ _ c.requires.few c.turns.invariant.search)

pub returns-clause-settled : goal.returns-clause-settled
returns-clause-settled c =
    let none = rw c.in_default.is at c.turns.invariant.next in
    rw c.from_vec.ensures (ends _ _ _ _ c.turns.invariant.search none)
