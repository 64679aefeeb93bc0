-- The lines of statements are what their codes print.
use Rattle.std.proofs.Common.{refl}
use Rattle.ooo_grammar.specs.StatementsLines.{DeclaratorLine, LocalLine, AfterTargetLine, AfterDotLine, CallArgumentsLine, AfterFirstWordLine, TargetLine, ItemLine, PrintLine, SimpleLine, BodyLine, OtherStatLine, ElsePartLine, ConditionLine, IfStatLine, WhileStatLine, DoStatLine, ForStartLine, ForStatLine, BlockStatLine, ReturnStatLine, BreakStatLine, ContinueStatLine, EmptyStatLine, LocalStatLine, SimpleStatLine, StatLine, StatementsLines}
use Rattle.ooo_grammar.specs.Expressions.{inner, inner_value}
use Rattle.ooo_grammar.specs.Lexis.{member_word, word}
use Rattle.ooo_grammar.specs.Statements.{after_condition, after_do, after_dot, after_first_word, after_target, after_while, block_stat, body, break_stat, call_arguments, condition, continue_stat, declarator, do_stat, else_part, empty_stat, for_body, for_first, for_start, for_stat, for_step, for_test, if_stat, inner_stat, item, local, local_stat, maybe_other, other_stat, parens, print, return_stat, simple, simple_stat, stat, stats, target, while_stat}
use Rattle.ooo_grammar.specs.Times.{named_time, timed}

declarator_line : DeclaratorLine
unfolding declarator word
declarator_line = refl

local_line : LocalLine
unfolding local
local_line = refl

after_target_line : AfterTargetLine
unfolding after_target
after_target_line = λ a. refl

after_dot_line : AfterDotLine
unfolding after_dot member_word inner_value inner timed named_time
after_dot_line = λ a. refl

call_arguments_line : CallArgumentsLine
unfolding call_arguments inner_value inner
call_arguments_line = refl

after_first_word_line : AfterFirstWordLine
unfolding after_first_word inner_value inner
after_first_word_line = λ a. refl

target_line : TargetLine
unfolding target word inner_value inner
target_line = refl

item_line : ItemLine
unfolding item
item_line = refl

print_line : PrintLine
unfolding print
print_line = refl

simple_line : SimpleLine
unfolding simple word
simple_line = refl

body_line : BodyLine
unfolding body stats inner_stat
body_line = refl

other_stat_line : OtherStatLine
unfolding other_stat inner_stat
other_stat_line = refl

else_part_line : ElsePartLine
unfolding else_part maybe_other other_stat inner_stat
else_part_line = refl

condition_line : ConditionLine
unfolding condition parens inner_value inner
condition_line = refl

if_stat_line : IfStatLine
unfolding if_stat condition parens inner_value inner after_condition inner_stat
if_stat_line = refl

while_stat_line : WhileStatLine
unfolding while_stat after_while inner_stat condition parens inner_value inner
while_stat_line = refl

do_stat_line : DoStatLine
unfolding do_stat after_do inner_stat inner_value inner
do_stat_line = refl

for_start_line : ForStartLine
unfolding for_start
for_start_line = refl

for_stat_line : ForStatLine
unfolding for_stat for_first for_test for_step for_body inner_stat
for_stat_line = refl

block_stat_line : BlockStatLine
unfolding block_stat stats inner_stat
block_stat_line = refl

return_stat_line : ReturnStatLine
unfolding return_stat
return_stat_line = refl

break_stat_line : BreakStatLine
unfolding break_stat
break_stat_line = refl

continue_stat_line : ContinueStatLine
unfolding continue_stat
continue_stat_line = refl

empty_stat_line : EmptyStatLine
unfolding empty_stat
empty_stat_line = refl

local_stat_line : LocalStatLine
unfolding local_stat
local_stat_line = refl

simple_stat_line : SimpleStatLine
unfolding simple_stat
simple_stat_line = refl

stat_line : StatLine
unfolding stat
stat_line = refl

pub statements_lines : StatementsLines
statements_lines = (declarator_line, local_line, after_target_line, after_dot_line, call_arguments_line, after_first_word_line, target_line, item_line, print_line, simple_line, body_line, other_stat_line, else_part_line, condition_line, if_stat_line, while_stat_line, do_stat_line, for_start_line, for_stat_line, block_stat_line, return_stat_line, break_stat_line, continue_stat_line, empty_stat_line, local_stat_line, simple_stat_line, stat_line)
