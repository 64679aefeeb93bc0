-- Segment by segment.
use Rattle.std.proofs.Common.{◌≡◌, ◌∙◌, ap, sym, ℕ, Bool, length, get_or, arith}
use Rattle.std.specs.Prelude.{is_some}
use Rattle.std.proofs.lemmas.List.{get_or_default}
use Rattle.std.proofs.lemmas.List.Elements.{Contains-get_or}
use Rattle.ooo_lemmas.proofs.Counting.{count_at_most}
use Rattle.ooo_fronts.specs.Holds.{hold_at, holds_of}
use Rattle.ooo_fronts.proofs.Timing.{at_once_are_all}
use Rattle.ooo_fronts.proofs.Reached.{counted_first, counted_yes, counted_no, counted_all}
use Rattle.ooo_fronts.proofs.holds.count_at_once.Goals as goal
use Rattle.ooo_fronts.proofs.holds.count_at_once.Goals.{then-holds_at_once, else-holds_at_once}

pub loop-b-init : goal.loop-b-init
loop-b-init c =
    let a = c.args in
    let t = a.tables.now in
    let xs = a.segments.now in
    let all = at_once_are_all t a.g a.p a.f xs c.requires.same c.requires.all in
    sym (counted_first (λ b. is_some (hold_at t a.g a.p a.f b)) (length t.graph.segments) xs all)

pub holds_at_once-requires-clause-leads : goal.holds_at_once-requires-clause-leads
holds_at_once-requires-clause-leads c =
    let xs = c.args.segments.now in
    (c.requires.all.exact (get_or xs c.loop-b.b-index 0)).0 (Contains-get_or xs c.loop-b.b-index 0 c.loop-b-test.true)

pub overflow_add-count : goal.overflow_add-count
overflow_add-count c =
    let a = c.args in
    let t = a.tables.now in
    let n = length t.graph.segments in
    let xs = a.segments.now in
    let all = at_once_are_all t a.g a.p a.f xs c.requires.same c.requires.all in
    let lt = all.within (get_or xs c.loop-b.b-index n) (Contains-get_or xs c.loop-b.b-index n c.loop-b-test.true) in
    let few = count_at_most (λ b. is_some (hold_at t a.g a.p a.f b)) (get_or xs c.loop-b.b-index n) in
    let aligned = c.requires.aligned.few in
    let is = c.loop-b.invariant in
    omega (arith, lt, few, aligned, is)

pub loop-b-preserved : goal.loop-b-preserved
loop-b-preserved c =
    let a = c.args in
    let t = a.tables.now in
    let n = length t.graph.segments in
    let xs = a.segments.now in
    let i = c.loop-b.b-index in
    let lt = c.loop-b-test.true in
    let all = at_once_are_all t a.g a.p a.f xs c.requires.same c.requires.all in
    let test : ℕ → Bool = λ b. is_some (hold_at t a.g a.p a.f b) in
    let is : c.holds_at_once.result ≡ test (get_or xs i n) = c.holds_at_once.ensures ∙ ap test (get_or_default xs i 0 n lt) in
    elim c.if-holds_at_once.branch [
      | then-holds_at_once w ↦
          let more = counted_yes test n xs all i lt (sym is ∙ w.if-holds_at_once.true) in
          let so_far = c.loop-b.invariant in
          let one = w.count-is in
          omega (arith, more, so_far, one)
      | else-holds_at_once w ↦ w.count-is ∙ c.loop-b.invariant ∙ sym (counted_no test n xs all i lt (sym is ∙ w.if-holds_at_once.false))
    ]

pub returns : goal.returns
unfolding holds_of
returns c =
    let a = c.args in
    let t = a.tables.now in
    let xs = a.segments.now in
    let all = at_once_are_all t a.g a.p a.f xs c.requires.same c.requires.all in
    c.loop-b.invariant ∙ counted_all (λ b. is_some (hold_at t a.g a.p a.f b)) (length t.graph.segments) xs all c.loop-b.b-index c.loop-b-test.false
