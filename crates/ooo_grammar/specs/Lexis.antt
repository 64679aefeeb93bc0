-- Words, types and numbers: what is made of one token or of a few.
use Rattle.std.specs.Prelude.{true, false, ℕ, List, [], ◌∷◌, Option, Some, None, refl, take, length, ◌-◌}
use Rattle.ooo_lexer.specs.Texts.{unescaped}
use Rattle.ooo_syntax.specs.declared.terminal.Terminal.TheVariants as terminal
use Rattle.ooo_syntax.specs.declared.symbol.Mark.{Mark}
use Rattle.ooo_syntax.specs.declared.symbol.Symbol.{Symbol}
use Rattle.ooo_syntax.specs.declared.leaves.Word.{Word}
use Rattle.ooo_syntax.specs.declared.leaves.Number.{Number}
use Rattle.ooo_syntax.specs.declared.leaves.Text.{Text}
use Rattle.ooo_syntax.specs.declared.leaves.TypeForm.{TypeForm}
use Rattle.ooo_syntax.specs.declared.leaves.TypeForm.TheVariants as form
use Rattle.ooo_syntax.specs.declared.leaves.TypeName.{TypeName}
use Rattle.ooo_grammar.specs.Names.{names, type_words}
use Rattle.ooo_grammar.specs.Codes.{Code, choice, within}
use Rattle.ooo_grammar.specs.Combinators.{none, always, one_as, quoted, skip, led, to, optional, or}

-- ---- words, numbers and texts

abbrev pub word_of : Symbol → Word
word_of k = record { name = k.text.now; position = k.position }

abbrev pub number_of : Symbol → Number
number_of k = record { value = k.value; position = k.position }

-- what stands between a text's quotes
abbrev pub inside_quotes : List ℕ → List ℕ
inside_quotes [] = []
inside_quotes (b ∷ bs) = take (length bs - 1) bs

abbrev pub text_of : Symbol → Text
text_of k = record { value = unescaped (inside_quotes k.text.now); position = k.position }

-- `notify`, `cancel` and `bind` are words of the model's own where they don't follow a dot
unfoldable pub word : Code Word names none false
word = one_as word_of terminal.Word (terminal.Notify ∷ terminal.Cancel ∷ terminal.Bind ∷ []) (λ _. refl)

-- after a dot, but for what `notify` and `cancel` have of their own
unfoldable pub member_word : Code Word (terminal.Word ∷ terminal.Bind ∷ []) none false
member_word = one_as word_of terminal.Word (terminal.Bind ∷ []) (λ _. refl)

unfoldable pub event_word : Code Word (terminal.Notify ∷ terminal.Cancel ∷ []) none false
event_word = one_as word_of terminal.Notify (terminal.Cancel ∷ []) (λ _. refl)

unfoldable pub literal : Code Number (terminal.Number ∷ []) none false
literal = one_as number_of terminal.Number [] (λ _. refl)

unfoldable pub text : Code Text (terminal.Text ∷ []) none false
text = one_as text_of terminal.Text [] (λ _. refl)

-- ---- types

abbrev pub named_type : Mark → TypeForm → TypeName
named_type k f = record { form = f; position = k.position }

abbrev pub with_int : TypeForm → TypeForm → Option Mark → TypeForm
with_int bare full None = bare
with_int bare full (Some k) = full

-- ["int"]
unfoldable pub int_after : TypeForm → TypeForm → Code TypeForm (terminal.Int ∷ []) (always (terminal.Int ∷ [])) true
int_after bare full = to (with_int bare full) (optional (quoted terminal.Int))

-- "long" ["int"], after the first `long`
unfoldable pub long_after : TypeForm → TypeForm → Code TypeForm (terminal.Long ∷ []) (always (terminal.Int ∷ [])) false
long_after bare full = skip terminal.Long (int_after bare full)

-- "long" "long" ["int"] | ["int"], after `unsigned`
unfoldable pub after_unsigned : Code TypeForm (terminal.Long ∷ terminal.Int ∷ []) (always (terminal.Int ∷ terminal.Long ∷ [])) true
after_unsigned = within _ _ (choice (skip terminal.Long (long_after form.UnsignedLongLong form.UnsignedLongLongInt)) (int_after form.Unsigned form.UnsignedInt) refl) refl (λ _. refl)

-- "bool" | "int"
unfoldable pub plain_type : Code TypeName (terminal.Bool ∷ terminal.Int ∷ []) none false
plain_type = or (to (λ k. named_type k form.Bool) (quoted terminal.Bool)) (to (λ k. named_type k form.Int) (quoted terminal.Int)) refl

-- type = "bool" | "int" | "unsigned" ["int"] | "long" "long" ["int"] | "unsigned" "long" "long" ["int"]
unfoldable pub type_name : Code TypeName type_words (always (terminal.Int ∷ terminal.Long ∷ [])) false
type_name = within _ _ (choice plain_type (choice (led terminal.Unsigned (λ k. to (named_type k) after_unsigned))
    (led terminal.Long (λ k. to (named_type k) (long_after form.LongLong form.LongLongInt))) refl) refl) refl (λ _. refl)
