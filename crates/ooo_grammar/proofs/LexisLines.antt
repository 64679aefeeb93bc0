-- The lines of words and types are what their codes print.
use Rattle.std.proofs.Common.{refl}
use Rattle.ooo_grammar.specs.LexisLines.{WordLine, MemberWordLine, EventWordLine, LiteralLine, TextLine, TypeNameLine, LexisLines}
use Rattle.ooo_grammar.specs.Lexis.{after_unsigned, event_word, int_after, literal, long_after, member_word, plain_type, text, type_name, word}

word_line : WordLine
unfolding word
word_line = refl

member_word_line : MemberWordLine
unfolding member_word
member_word_line = refl

event_word_line : EventWordLine
unfolding event_word
event_word_line = refl

literal_line : LiteralLine
unfolding literal
literal_line = refl

text_line : TextLine
unfolding text
text_line = refl

type_name_line : TypeNameLine
unfolding type_name plain_type after_unsigned long_after int_after
type_name_line = refl

pub lexis_lines : LexisLines
lexis_lines = (word_line, member_word_line, event_word_line, literal_line, text_line, type_name_line)
