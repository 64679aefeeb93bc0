-- The lines of EBNF of words and types, written by hand, each beside the code that prints as it.
use Rattle.std.specs.Prelude.{◌≡◌, [], ◌∷◌}
use Rattle.ooo_syntax.specs.declared.terminal.Terminal.TheVariants as terminal
use Rattle.ooo_grammar.specs.Names.{names}
use Rattle.ooo_grammar.specs.Shapes.{Token, shape, t, line, one_of_these, opt}
use Rattle.ooo_grammar.specs.Lexis.{event_word, literal, member_word, text, type_name, word}

abbrev pub WordLine : Type 0
WordLine = shape word ≡ Token names

abbrev pub MemberWordLine : Type 0
MemberWordLine = shape member_word ≡ Token (terminal.Word ∷ terminal.Bind ∷ [])

abbrev pub EventWordLine : Type 0
EventWordLine = shape event_word ≡ Token (terminal.Notify ∷ terminal.Cancel ∷ [])

abbrev pub LiteralLine : Type 0
LiteralLine = shape literal ≡ t terminal.Number

abbrev pub TextLine : Type 0
TextLine = shape text ≡ t terminal.Text

abbrev pub TypeNameLine : Type 0
TypeNameLine = shape type_name ≡ one_of_these (one_of_these (t terminal.Bool ∷ t terminal.Int ∷ []) ∷ line (t terminal.Unsigned ∷ one_of_these (line (t terminal.Long ∷ t terminal.Long ∷ opt (t terminal.Int ∷ []) ∷ []) ∷ opt (t terminal.Int ∷ []) ∷ []) ∷ []) ∷ line (t terminal.Long ∷ t terminal.Long ∷ opt (t terminal.Int ∷ []) ∷ []) ∷ [])

-- each code is the line that stands beside it here
abbrev pub LexisLines : Type 0
LexisLines = WordLine × MemberWordLine × EventWordLine × LiteralLine × TextLine × TypeNameLine
