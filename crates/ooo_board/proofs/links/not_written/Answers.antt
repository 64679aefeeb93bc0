use Rattle.std.proofs.Common.{◌≡◌, ◌∙◌, ◌+◌, ℕ, Bool, ap, filter, get_or, not, sym, take}
use Rattle.std.proofs.lemmas.List.{get_or_default}
use Rattle.ooo_dispatch.specs.Rules.{has}
use Rattle.ooo_board.proofs.Made.{all_kept, one_kept, one_left_out}
use Rattle.ooo_board.proofs.links.not_written.Goals as goal
use Rattle.ooo_board.proofs.links.not_written.Goals.{then-not-contains+in-Ok, else-not-contains}

pub loop-x-preserved : goal.loop-x-preserved
loop-x-preserved c =
    let p : ℕ → Bool = λ x. not (has c.args.access.now.written x) in
    let xs = c.as_slice-x-items.result.now in
    let i = c.loop-x.x-index in
    let x : ℕ = get_or xs i 0 in
    let is : x ≡ get_or xs i x = get_or_default xs i 0 x c.loop-x-test.true in
    let tells : has c.args.access.now.written x ≡ c.contains.result = ap (λ ws. has ws x) (sym c.as_slice.ensures) ∙ sym c.contains.ensures in
    let so_far : c.loop-x.numbers ≡ filter p (take i xs) = c.loop-x.invariant ∙ ap (λ ys. filter p (take i ys)) (sym c.as_slice-x-items.ensures) in
    let next : c.if-not-contains.numbers ≡ filter p (take (i + 1) xs) = elim c.if-not-contains.branch [
      | then-not-contains+in-Ok w ↦ one_kept p xs i x c.loop-x.numbers c.if-not-contains.numbers c.loop-x-test.true is (ap not (tells ∙ w.if-not-contains.true)) (w.numbers-is ∙ w.in-Ok.ensures.ok) so_far
      | else-not-contains w ↦ one_left_out p xs i x c.loop-x.numbers c.if-not-contains.numbers c.loop-x-test.true is (ap not (tells ∙ w.if-not-contains.false)) w.numbers-is so_far
    ] in
    next ∙ ap (λ ys. filter p (take (i + 1) ys)) c.as_slice-x-items.ensures

pub returns : goal.returns
returns c =
    let p : ℕ → Bool = λ x. not (has c.args.access.now.written x) in
    let xs = c.as_slice-x-items.result.now in
    let i = c.loop-x.x-index in
    all_kept p xs i c.loop-x.numbers c.loop-x-test.false (c.loop-x.invariant ∙ ap (λ ys. filter p (take i ys)) (sym c.as_slice-x-items.ensures)) ∙ ap (filter p) c.as_slice-x-items.ensures
