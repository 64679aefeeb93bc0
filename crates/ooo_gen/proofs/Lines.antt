-- Lines that are written number by number, and texts that are written part by part.
use Rattle.std.proofs.Common.{◌≡◌, ℕ, zero, suc, ◌+◌, List, [], ◌∷◌, ◌++◌, Result, Ok, Err, refl, ap, sym, ◌∙◌, append_assoc, add-one, arith}
use Rattle.std.specs.Prelude.{OnOk}
use Rattle.std.specs.List.{flat_map, range_with_len}
use Rattle.std.proofs.lemmas.List.{flat_map_more}
use Rattle.ooo_gen.specs.Numbers.{number_of, following}

-- one number more at the end of a range
range_more : (first count : ℕ) → range_with_len first (suc count) ≡ range_with_len first count ++ (first + count) ∷ []
range_more first zero = let e : first + 0 ≡ first = omega arith in rw e
range_more first (suc count) =
    let e : first + 1 + count ≡ first + suc count = omega arith in
    ap (λ numbers. first ∷ numbers) (range_more (first + 1) count ∙ rw e)

-- after the lines of the numbers so far, the line of the next
pub line_more : (line : ℕ → List ℕ) (first count next more : ℕ) (old now new : List ℕ) → next ≡ first + count → more ≡ suc count → now ≡ old ++ flat_map line (range_with_len first count) → new ≡ now ++ line next → new ≡ old ++ flat_map line (range_with_len first more)
line_more line first count next more old now new n m h g =
    g ∙ ap (λ k. now ++ line k) n ∙ ap (λ text. text ++ line (first + count)) h
    ∙ flat_map_more line old (range_with_len first count) (first + count)
    ∙ ap (λ numbers. old ++ flat_map line numbers) (sym (range_more first count) ∙ ap (range_with_len first) (sym m))

-- the next number of a seed follows the one before
pub number_more : (seed k : ℕ) → number_of seed (k + 1) ≡ following (number_of seed k)
number_more seed k = rw add-one refl

-- after what was written, one part more
pub part_more : (old now new written part : List ℕ) → now ≡ old ++ written → new ≡ now ++ part → new ≡ old ++ (written ++ part)
part_more old now new written part h g = g ∙ ap (λ text. text ++ part) h ∙ append_assoc old written part

-- the same of a part that was written unless memory ran out
pub last_part : {E : Type 0} (r : Result (Unit {0}) E) (old now new written part : List ℕ) → now ≡ old ++ written → OnOk r (new ≡ now ++ part) → OnOk r (new ≡ old ++ (written ++ part))
last_part (Ok _) old now new written part h g = part_more old now new written part h g
last_part (Err _) old now new written part h g = tt
