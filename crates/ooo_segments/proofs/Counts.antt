-- How many segments there are, process by process.
use Rattle.std.proofs.Common.{◌≡◌, ℕ, suc, ◌+◌, List, ◌∷◌, ◌++◌, length, drop, ap, ◌∙◌, arith, length-append}
use Rattle.std.specs.Prelude.{slice_get, Some, count_by}
use Rattle.std.proofs.lemmas.List.{drop_more, length-map}
use Rattle.std.proofs.lemmas.Option.{slice_get_within, get_or_from_slice_get}
use Rattle.ooo_code.specs.declared.design.Design.{Design}
use Rattle.ooo_code.specs.declared.design.Proc.{Proc}
use Rattle.ooo_code.specs.declared.segment.SegmentEntry.{SegmentEntry}
use Rattle.ooo_code.specs.declared.segment.SegmentEntry.TheVariants.{After}
use Rattle.ooo_code.specs.Segments.{is_wait, nodes_of, entries_of}
use Rattle.ooo_code.specs.Touches.{numbers_where}
use Rattle.ooo_segments.specs.Beginnings.{Beginning, beginnings_of, beginnings_from}
use Rattle.ooo_segments.proofs.Where.{length_where}

-- a process has one segment more than waits
pub count_of : (design : Design) (n : ℕ) (p : Proc) → length (beginnings_of design n p) ≡ count_by is_wait (nodes_of design p) + 1
count_of design n p =
    let a = length-map {B = Beginning} (entries_of design p) (λ e. (n, e)) in
    let b = length-map {B = SegmentEntry} (numbers_where is_wait p.first (nodes_of design p)) After in
    let w = length_where is_wait p.first (nodes_of design p) in
    omega arith

-- what is left of the processes, without its first
pub count_more : (design : Design) (ps : List Proc) (k : ℕ) (p : Proc) → slice_get ps k ≡ Some p → length (beginnings_from design k (drop k ps)) ≡ (count_by is_wait (nodes_of design p) + 1) + length (beginnings_from design (k + 1) (drop (k + 1) ps))
count_more design ps k p is =
    let lt = slice_get_within ps k p is in
    let e : drop k ps ≡ p ∷ drop (k + 1) ps = drop_more ps k p lt ∙ ap (λ q. q ∷ drop (k + 1) ps) (get_or_from_slice_get ps k p p is) in
    let f : suc k ≡ k + 1 = omega arith in
    let l = length-append (beginnings_of design k p) (beginnings_from design (suc k) (drop (k + 1) ps)) in
    let c = count_of design k p in
    let g : length (beginnings_from design k (drop k ps)) ≡ length (beginnings_of design k p ++ beginnings_from design (suc k) (drop (k + 1) ps)) = ap (λ qs. length (beginnings_from design k qs)) e in
    let h : length (beginnings_from design (suc k) (drop (k + 1) ps)) ≡ length (beginnings_from design (k + 1) (drop (k + 1) ps)) = ap (λ m. length (beginnings_from design m (drop (k + 1) ps))) f in
    omega arith
