-- The lines of EBNF of statements, written by hand, each beside the code that prints as it.
use Rattle.std.specs.Prelude.{◌≡◌, false, [], ◌∷◌, Some, None}
use Rattle.ooo_syntax.specs.declared.terminal.Terminal.TheVariants as terminal
use Rattle.ooo_syntax.specs.declared.leaves.Word.{Word}
use Rattle.ooo_syntax.specs.declared.stat.Target.{Target}
use Rattle.ooo_grammar.specs.Names.{names, expr_name, stat_name, ends_open}
use Rattle.ooo_grammar.specs.Shapes.{Token, Form, value_of, some_value, shape, t, line, one_of_these, opt, rep}
use Rattle.ooo_grammar.specs.Expressions.{inner_value, sum, value}
use Rattle.ooo_grammar.specs.Lexis.{text, type_name, word}
use Rattle.ooo_grammar.specs.Statements.{after_dot, after_first_word, after_target, block_stat, body, break_stat, call_arguments, condition, continue_stat, declarator, do_stat, else_part, empty_stat, for_start, for_stat, if_stat, item, local, local_stat, other_stat, print, return_stat, simple, simple_stat, stat, target, while_stat}
use Rattle.ooo_grammar.specs.Times.{awaiting, timed}

abbrev pub DeclaratorLine : Type 0
DeclaratorLine = shape declarator ≡ line (Token names ∷ opt (t terminal.Assign ∷ shape value ∷ []) ∷ [])

abbrev pub LocalLine : Type 0
LocalLine = shape local ≡ line (shape type_name ∷ shape declarator ∷ rep (t terminal.Comma ∷ shape declarator ∷ []) ∷ [])

abbrev pub AfterTargetLine : Type 0
AfterTargetLine = (x : Target) → shape (after_target x) ≡ one_of_these (t terminal.PlusPlus ∷ t terminal.MinusMinus ∷ line (Token (terminal.Assign ∷ terminal.PlusAssign ∷ terminal.MinusAssign ∷ terminal.TimesAssign ∷ terminal.DivideAssign ∷ terminal.RemainderAssign ∷ terminal.AndAssign ∷ terminal.OrAssign ∷ terminal.XorAssign ∷ terminal.ShiftLeftAssign ∷ terminal.ShiftRightAssign ∷ []) ∷ shape value ∷ []) ∷ [])

abbrev pub AfterDotLine : Type 0
AfterDotLine = (w : Word) → shape (after_dot w) ≡ one_of_these (line (t terminal.Notify ∷ t terminal.Open ∷ shape timed ∷ t terminal.Close ∷ []) ∷ line (t terminal.Cancel ∷ t terminal.Open ∷ t terminal.Close ∷ []) ∷ line (Token (terminal.Word ∷ terminal.Bind ∷ []) ∷ t terminal.Open ∷ opt (Form expr_name ∷ []) ∷ t terminal.Close ∷ []) ∷ [])

abbrev pub CallArgumentsLine : Type 0
CallArgumentsLine = shape call_arguments ≡ line (t terminal.Open ∷ opt (Form expr_name ∷ rep (t terminal.Comma ∷ Form expr_name ∷ []) ∷ []) ∷ t terminal.Close ∷ [])

abbrev pub AfterFirstWordLine : Type 0
AfterFirstWordLine = (w : Word) → shape (after_first_word w) ≡ one_of_these (line (line (t terminal.OpenBracket ∷ Form expr_name ∷ t terminal.CloseBracket ∷ []) ∷ shape (after_target (record { name = w; index = Some (value_of inner_value) })) ∷ []) ∷ shape call_arguments ∷ line (t terminal.Dot ∷ shape (after_dot w) ∷ []) ∷ shape (after_target (record { name = w; index = None })) ∷ [])

abbrev pub TargetLine : Type 0
TargetLine = shape target ≡ line (Token names ∷ opt (t terminal.OpenBracket ∷ Form expr_name ∷ t terminal.CloseBracket ∷ []) ∷ [])

abbrev pub ItemLine : Type 0
ItemLine = shape item ≡ one_of_these (shape text ∷ t terminal.Endl ∷ line (t terminal.ScTimeStamp ∷ t terminal.Open ∷ t terminal.Close ∷ []) ∷ shape sum ∷ [])

abbrev pub PrintLine : Type 0
PrintLine = shape print ≡ line (t terminal.Cout ∷ t terminal.ShiftLeft ∷ shape item ∷ rep (t terminal.ShiftLeft ∷ shape item ∷ []) ∷ [])

abbrev pub SimpleLine : Type 0
SimpleLine = shape simple ≡ one_of_these (line (Token names ∷ shape (after_first_word (value_of word)) ∷ []) ∷ line (t terminal.PlusPlus ∷ shape target ∷ []) ∷ line (t terminal.MinusMinus ∷ shape target ∷ []) ∷ line (t terminal.Wait ∷ shape awaiting ∷ []) ∷ line (t terminal.NextTrigger ∷ shape awaiting ∷ []) ∷ line (t terminal.ScStop ∷ t terminal.Open ∷ t terminal.Close ∷ []) ∷ shape print ∷ [])

abbrev pub BodyLine : Type 0
BodyLine = shape body ≡ line (t terminal.OpenBrace ∷ rep (Form stat_name ∷ []) ∷ t terminal.CloseBrace ∷ [])

abbrev pub OtherStatLine : Type 0
OtherStatLine = shape other_stat ≡ line (t terminal.Else ∷ Form stat_name ∷ [])

abbrev pub ElsePartLine : Type 0
ElsePartLine = shape (else_part false) ≡ opt (t terminal.Else ∷ Form stat_name ∷ [])

abbrev pub ConditionLine : Type 0
ConditionLine = shape condition ≡ line (t terminal.Open ∷ Form expr_name ∷ t terminal.Close ∷ [])

abbrev pub IfStatLine : Type 0
IfStatLine = shape if_stat ≡ line (t terminal.If ∷ shape condition ∷ Form stat_name ∷ shape (else_part (ends_open (some_value stat_name))) ∷ [])

abbrev pub WhileStatLine : Type 0
WhileStatLine = shape while_stat ≡ line (t terminal.While ∷ shape condition ∷ Form stat_name ∷ [])

abbrev pub DoStatLine : Type 0
DoStatLine = shape do_stat ≡ line (t terminal.Do ∷ Form stat_name ∷ t terminal.While ∷ t terminal.Open ∷ Form expr_name ∷ t terminal.Close ∷ t terminal.Semicolon ∷ [])

abbrev pub ForStartLine : Type 0
ForStartLine = shape for_start ≡ one_of_these (shape local ∷ shape simple ∷ [])

abbrev pub ForStatLine : Type 0
ForStatLine = shape for_stat ≡ line (t terminal.For ∷ t terminal.Open ∷ opt (shape for_start ∷ []) ∷ t terminal.Semicolon ∷ opt (shape value ∷ []) ∷ t terminal.Semicolon ∷ opt (shape simple ∷ []) ∷ t terminal.Close ∷ Form stat_name ∷ [])

abbrev pub BlockStatLine : Type 0
BlockStatLine = shape block_stat ≡ line (t terminal.OpenBrace ∷ rep (Form stat_name ∷ []) ∷ t terminal.CloseBrace ∷ [])

abbrev pub ReturnStatLine : Type 0
ReturnStatLine = shape return_stat ≡ line (t terminal.Return ∷ opt (shape value ∷ []) ∷ t terminal.Semicolon ∷ [])

abbrev pub BreakStatLine : Type 0
BreakStatLine = shape break_stat ≡ line (t terminal.Break ∷ t terminal.Semicolon ∷ [])

abbrev pub ContinueStatLine : Type 0
ContinueStatLine = shape continue_stat ≡ line (t terminal.Continue ∷ t terminal.Semicolon ∷ [])

abbrev pub EmptyStatLine : Type 0
EmptyStatLine = shape empty_stat ≡ t terminal.Semicolon

abbrev pub LocalStatLine : Type 0
LocalStatLine = shape local_stat ≡ line (shape local ∷ t terminal.Semicolon ∷ [])

abbrev pub SimpleStatLine : Type 0
SimpleStatLine = shape simple_stat ≡ line (shape simple ∷ t terminal.Semicolon ∷ [])

abbrev pub StatLine : Type 0
StatLine = shape stat ≡ one_of_these (shape block_stat ∷ shape empty_stat ∷ shape break_stat ∷ shape continue_stat ∷ shape return_stat ∷ shape local_stat ∷ shape simple_stat ∷ shape if_stat ∷ shape while_stat ∷ shape do_stat ∷ shape for_stat ∷ [])

-- each code is the line that stands beside it here
abbrev pub StatementsLines : Type 0
StatementsLines = DeclaratorLine × LocalLine × AfterTargetLine × AfterDotLine × CallArgumentsLine × AfterFirstWordLine × TargetLine × ItemLine × PrintLine × SimpleLine × BodyLine × OtherStatLine × ElsePartLine × ConditionLine × IfStatLine × WhileStatLine × DoStatLine × ForStartLine × ForStatLine × BlockStatLine × ReturnStatLine × BreakStatLine × ContinueStatLine × EmptyStatLine × LocalStatLine × SimpleStatLine × StatLine
