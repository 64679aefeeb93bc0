-- The lines of expressions are what their codes print.
use Rattle.std.proofs.Common.{refl}
use Rattle.ooo_grammar.specs.ExpressionsLines.{LevelsLine, IndexLine, ArgumentsLine, MemberCallLine, AfterWordLine, NamedLine, PrefixedLine, ConversionLine, TruthLine, ChosenLine, CastToLine, AfterShortTypeLine, LongCastLine, AfterUnsignedCastLine, ParenthesisLine, AfterOpenLine, BracketedLine, PlainUnaryLine, NumeralLine, UnaryLine, ExpressionsLines}
use Rattle.ooo_grammar.specs.Expressions.{after_open, after_short_type, after_unsigned_cast, after_word, arguments, bracketed, cast_to, chosen, conversion, converted, expressions, index, inner, inner_plain, long_cast, member_call, named, numeral, operand, parenthesis, plain_unary, prefixed, prefixed_by, short_type, some_expressions, truth, unary}
use Rattle.ooo_grammar.specs.Lexis.{int_after, long_after, member_word, plain_type, word}

levels_line : LevelsLine
levels_line = (refl, refl)

index_line : IndexLine
unfolding index inner
index_line = λ a. refl

arguments_line : ArgumentsLine
unfolding arguments expressions some_expressions inner
arguments_line = refl

member_call_line : MemberCallLine
unfolding member_call inner member_word
member_call_line = λ a. refl

after_word_line : AfterWordLine
unfolding after_word
after_word_line = λ a. refl

named_line : NamedLine
unfolding named word
named_line = refl

prefixed_line : PrefixedLine
unfolding prefixed prefixed_by operand
prefixed_line = refl

conversion_line : ConversionLine
unfolding conversion short_type converted inner
conversion_line = refl

truth_line : TruthLine
unfolding truth
truth_line = refl

chosen_line : ChosenLine
unfolding chosen inner
chosen_line = λ a. refl

cast_to_line : CastToLine
unfolding cast_to operand
cast_to_line = λ a b. refl

after_short_type_line : AfterShortTypeLine
unfolding after_short_type
after_short_type_line = λ a b. refl

long_cast_line : LongCastLine
unfolding long_cast long_after int_after cast_to operand
long_cast_line = λ a b c d. refl

after_unsigned_cast_line : AfterUnsignedCastLine
unfolding after_unsigned_cast
after_unsigned_cast_line = λ a b. refl

parenthesis_line : ParenthesisLine
unfolding parenthesis inner_plain
parenthesis_line = λ a. refl

after_open_line : AfterOpenLine
unfolding after_open plain_type
after_open_line = λ a. refl

bracketed_line : BracketedLine
unfolding bracketed
bracketed_line = refl

plain_unary_line : PlainUnaryLine
unfolding plain_unary
plain_unary_line = refl

numeral_line : NumeralLine
unfolding numeral
numeral_line = refl

unary_line : UnaryLine
unfolding unary
unary_line = refl

pub expressions_lines : ExpressionsLines
expressions_lines = (levels_line, index_line, arguments_line, member_call_line, after_word_line, named_line, prefixed_line, conversion_line, truth_line, chosen_line, cast_to_line, after_short_type_line, long_cast_line, after_unsigned_cast_line, parenthesis_line, after_open_line, bracketed_line, plain_unary_line, numeral_line, unary_line)
