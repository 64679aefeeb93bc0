-- What is written number by number.
use Rattle.std.proofs.Common.{◌≡◌, ℕ, ◌+◌, List, ◌++◌, refl, ap, sym, ◌∙◌, append_assoc, add-one, Some}
use Rattle.std.specs.Prelude.{slice_get}
use Rattle.ooo_code.specs.declared.design.Design.{Design}
use Rattle.ooo_code.specs.declared.segment.Segment.{Segment}
use Rattle.ooo_tables.specs.Text.{each_below, segment_line, segment_text}

one_more : (n : ℕ) (write : ℕ → List ℕ) → each_below (n + 1) write ≡ each_below n write ++ write n
one_more n write = rw add-one refl

-- after what is written for the numbers below n, what is written for n
pub each_more : (old now new : List ℕ) (n : ℕ) (write : ℕ → List ℕ) → now ≡ old ++ each_below n write → new ≡ now ++ write n → new ≡ old ++ each_below (n + 1) write
each_more old now new n write h g =
    g ∙ ap (λ text. text ++ write n) h ∙ append_assoc old (each_below n write) (write n) ∙ ap (λ text. old ++ text) (sym (one_more n write))

-- a segment's line is that of its number
pub segment_written : (design : Design) (names : List (List ℕ)) (segments : List Segment) (n : ℕ) (segment : Segment) (now new : List ℕ) → slice_get segments n ≡ Some segment → new ≡ now ++ segment_text design names n segment → new ≡ now ++ segment_line design names n (slice_get segments n)
segment_written design names segments n segment now new e h = h ∙ ap (λ o. now ++ segment_line design names n o) (sym e)
