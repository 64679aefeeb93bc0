-- The words among the terminals are those of the words among the tokens.
use Rattle.std.proofs.Common.{◌≡◌, ℕ, Bool, true, false, not, cond, List, [], ◌∷◌, Some, refl}
use Rattle.std.specs.List.{list_all}
use Rattle.std.specs.Str.{bytes_eq}
use Rattle.std.proofs.lemmas.Bool.{and_parts, not-true}
use Rattle.std.proofs.lemmas.List.Elements.{All-contains}
use Rattle.std.proofs.lemmas.List.Sums.{AllPass-from_list_all}
use Rattle.ooo_lexer.specs.declared.token.TokenKind.TheVariants as kind
use Rattle.ooo_lexer.specs.Forms as forms
use Rattle.ooo_syntax.specs.declared.terminal.Terminal.TheVariants as terminal
use Rattle.ooo_syntax.specs.Words.{Written, short_words, middle_words, long_words, words, signs, written_as, or_else, terminal_of}
use Rattle.ooo_parser.specs.Classes.{is_word}
use Rattle.ooo_parser.specs.SymbolLaws.{WordsAreWords}

written_word : (ws : List Written) (bs : List ℕ) → list_all (λ w. is_word w.terminal) ws ≡ true → is_word (or_else (written_as ws bs) terminal.Word) ≡ true
written_word [] bs e = refl
written_word (w ∷ ws) bs e = at (bytes_eq w.bytes bs) (and_parts (is_word w.terminal) _ e).0 (written_word ws bs (and_parts (is_word w.terminal) _ e).1)
  where
    at : (b : Bool) → is_word w.terminal ≡ true → is_word (or_else (written_as ws bs) terminal.Word) ≡ true → is_word (or_else (cond b (Some w.terminal) (written_as ws bs)) terminal.Word) ≡ true
    at true h others = h
    at false h others = others

words_are : list_all (λ w. is_word w.terminal) words ≡ true
unfolding short_words middle_words long_words
words_are = refl

signs_are : list_all (λ bs. not (is_word (terminal_of kind.Sign bs))) forms.signs ≡ true
unfolding signs
signs_are = refl

pub words_are_words : WordsAreWords
words_are_words kind.Word bs is = written_word words bs words_are
words_are_words kind.Number bs is = refl
words_are_words kind.Text bs is = refl
words_are_words kind.Sign bs is = not-true (is_word (terminal_of kind.Sign bs)) (All-contains (λ bs. not (is_word (terminal_of kind.Sign bs)) ≡ true) forms.signs bs (AllPass-from_list_all (λ bs. not (is_word (terminal_of kind.Sign bs))) forms.signs signs_are) is)
