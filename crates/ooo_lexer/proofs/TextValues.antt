-- The value of a text, by its parts.
use Rattle.std.proofs.Common.{◌≡◌, ℕ, false, eqb, List, [], ◌∷◌, ◌++◌, map, refl, ap, ◌∙◌}
use Rattle.std.proofs.lemmas.Bool.{cond-false, false≢true}
use Rattle.ooo_lexer.specs.Texts.{Part, Byte, Escape, Stray, written, HasNoStray, AreParts, meant_by, unescaped}
use Rattle.ooo_lexer.proofs.Parts.{text_byte_is_no_backslash}

-- a byte that is no backslash stands for itself, whatever follows it
plain : (b : ℕ) (bs : List ℕ) → eqb b 92 ≡ false → unescaped (b ∷ bs) ≡ b ∷ unescaped bs
plain b [] other = refl
plain b (c ∷ bs) other = cond-false (eqb b 92) _ _ other

pub value_of_parts : (parts : List Part) (rest : List ℕ) → AreParts parts rest → HasNoStray parts → unescaped (written parts ++ rest) ≡ map meant_by parts ++ unescaped rest
value_of_parts [] rest stand clean = refl
value_of_parts (Byte b ∷ ps) rest stand clean = plain b (written ps ++ rest) (text_byte_is_no_backslash b stand.0) ∙ ap (λ bs. b ∷ bs) (value_of_parts ps rest stand.1 clean)
value_of_parts (Escape c ∷ ps) rest stand clean = ap (λ bs. meant_by (Escape c) ∷ bs) (value_of_parts ps rest stand.1 clean)
value_of_parts (Stray ∷ ps) rest stand clean = absurd (false≢true clean)
