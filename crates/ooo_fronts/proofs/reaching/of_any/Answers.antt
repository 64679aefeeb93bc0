-- List by list.
use Rattle.std.proofs.Common.{◌≡◌, ◌↔◌, ◌⊎◌, ℕ, List, [], length, get_or, subst, arith}
use Rattle.std.specs.Prelude.{Contains}
use Rattle.ooo_segments.specs.Numbers.{AreNumbersOf, IsIn}
use Rattle.ooo_fronts.specs.Reaching.{IsListOf}
use Rattle.ooo_fronts.proofs.Listing.{Standing, adds_more, if_ok, list_read, numbers_of, standing_all}
use Rattle.ooo_fronts.proofs.reaching.of_any.Goals as goal

pub loop-k-preserved : goal.loop-k-preserved
loop-k-preserved c =
    let lists = c.args.lists.now in
    let places = c.args.places.now in
    let i = c.loop-k.k-index in
    let lt = c.requires i 0 c.loop-k-test.true in
    let read = list_read lists (get_or places i 0) c.index-lists-k.result c.as_slice.result.now lt c.index-lists-k.is c.as_slice.ensures in
    let P : List ℕ → Type 0 = λ xs. (m : ℕ) → IsIn c.add_all.new.set m ↔ (IsIn c.loop-k.set m ⊎ Contains xs m) in
    adds_more [] (Standing lists places) i c.loop-k.set c.add_all.new.set c.loop-k.invariant (subst P read c.in_ok-add_all.ensures)

pub returns : goal.returns
returns c =
    let lists = c.args.lists.now in
    let places = c.args.places.now in
    let Q : ℕ → Type 0 = λ n. (k : ℕ) × Contains places k × Contains (get_or lists k []) n in
    let end : c.loop-k.k-index ≡ length places = let x = c.loop-k-test.false in let y = c.loop-k.auto.k-index-end in omega arith in
    if_ok (AreNumbersOf c.loop-k.set) (IsListOf Q) c.numbers.result
    (λ numbers are. numbers_of (Standing lists places) (length places) c.loop-k.set numbers Q (rw end at c.loop-k.invariant) are (standing_all lists places)) c.numbers.ensures
