-- An entry's line goes from what is still to be written to what was.
use Rattle.std.proofs.Common.{◌≡◌, ◌++◌, ◌+◌, ◌<◌, ◌∙◌, ℕ, List, length, get_or, drop, append_assoc, add-one, drop-cons}
use Rattle.std.specs.List.{flat_map}
use Rattle.ooo_history.proofs.reporting.append_history.Goals as goal

moved : {A : Type 0} (line : A → List ℕ) (entries : List A) (i : ℕ) (other : A) (before after whole : List ℕ) → i < length entries
    → after ≡ before ++ line (get_or entries i other) → before ++ flat_map line (drop i entries) ≡ whole → after ++ flat_map line (drop (i + 1) entries) ≡ whole
moved line entries i other before after whole h e g = rw (e, add-one, append_assoc) (rw (drop-cons entries i other h) at g)

pub loop-entry-preserved : goal.loop-entry-preserved
loop-entry-preserved c =
    let start = c.as_slice.ensures.value ∙ c.in_ok-start.ensures in
    let line = c.in_ok-append_entry.ensures _ start in
    moved _ c.args.entries.now c.loop-entry.entry-index _ _ _ _ c.loop-entry-test.true line c.loop-entry.invariant
