-- A text has a byte just where the first place of that byte is before its end.
use Rattle.std.proofs.Common.{◌≡◌, ◌↔◌, ◌<◌, ◌+◌, ◌||◌, ℕ, suc, Bool, true, false, not, List, [], ◌∷◌, length, Option, Some, None, MatchOption, IsNone, Bor, cond, sym, ◌∙◌, refl, arith, rules}
use Rattle.std.proofs.lemmas.Bool.{false≢true}
use Rattle.std.proofs.lemmas.Str.Pattern.{split_once_first}
use Rattle.std.specs.List.{list_any, position_or_len, before_first, after_first}
use Rattle.ooo_words.specs.Reading.{is_equals}
use Rattle.ooo_words.proofs.setting.cut.Goals as goal

lacks_step : (here there : Bool) (place size : ℕ) → (place ≡ size → there ≡ false)
    → cond (not here) (1 + place) 0 ≡ suc size → (here || there) ≡ false
lacks_step true there place size rest at = absurd (omega arith)
lacks_step false there place size rest at = rest (omega arith)

has_step : (here there : Bool) (place size : ℕ) → (place < size → there ≡ true)
    → cond (not here) (1 + place) 0 < suc size → (here || there) ≡ true
has_step true there place size rest at = refl
has_step false there place size rest at = rest (omega arith)

lacks : (word : List ℕ) → position_or_len is_equals word ≡ length word → list_any is_equals word ≡ false
lacks [] at = refl
lacks (byte ∷ word) at = lacks_step (is_equals byte) _ _ _ (lacks word) at

has : (word : List ℕ) → position_or_len is_equals word < length word → list_any is_equals word ≡ true
has [] at = absurd (omega arith)
has (byte ∷ word) at = has_step (is_equals byte) _ _ _ (has word) at

by_place : (word : List ℕ) (parts : Option (Bor (List ℕ) × Bor (List ℕ)))
    → MatchOption parts (position_or_len is_equals word ≡ length word)
    (λ x. (position_or_len is_equals word < length word) × (x.0.now ≡ before_first is_equals word) × (x.1.now ≡ after_first is_equals word))
    → IsNone parts ↔ (list_any is_equals word ≡ false)
by_place word None at = (λ _. lacks word at, λ _. refl)
by_place word (Some parts) at = (λ none. absurd (cc none), λ no. absurd (false≢true (sym no ∙ has word at.0)))

pub returns-clause-none : goal.returns-clause-none
returns-clause-none c =
    by_place c.args.word.now c.split_once.result (split_once_first 61 c.args.word.now c.split_once.result (search rules) (omega arith))
