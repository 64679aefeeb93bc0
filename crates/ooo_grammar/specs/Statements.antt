-- Statements.
use Rattle.std.specs.Prelude.{◌≡◌, Bool, true, false, List, [], ◌∷◌, ◌++◌, Option, Some, None, refl}
use Rattle.std.proofs.Common.{ap, ◌∙◌}
use Rattle.ooo_lexer.specs.declared.position.Position.{Position}
use Rattle.ooo_syntax.specs.declared.terminal.Terminal.TheVariants as terminal
use Rattle.ooo_syntax.specs.declared.leaves.Word.{Word}
use Rattle.ooo_syntax.specs.declared.expr.Expr.{Expr}
use Rattle.ooo_syntax.specs.declared.stat.AssignOp.{AssignOp}
use Rattle.ooo_syntax.specs.declared.stat.AssignOp.TheVariants as assign
use Rattle.ooo_syntax.specs.declared.stat.StepOp.TheVariants as step
use Rattle.ooo_syntax.specs.declared.stat.Target.{Target}
use Rattle.ooo_syntax.specs.declared.stat.Declarator.{Declarator}
use Rattle.ooo_syntax.specs.declared.stat.Local.{Local}
use Rattle.ooo_syntax.specs.declared.stat.PrintItem.{PrintItem}
use Rattle.ooo_syntax.specs.declared.stat.PrintItem.TheVariants as item_form
use Rattle.ooo_syntax.specs.declared.stat.Simple.{Simple}
use Rattle.ooo_syntax.specs.declared.stat.Simple.TheVariants as simple_form
use Rattle.ooo_syntax.specs.declared.stat.ForStart.{ForStart}
use Rattle.ooo_syntax.specs.declared.stat.ForStart.TheVariants as start_form
use Rattle.ooo_syntax.specs.declared.stat.Stat.{Stat, the_lemmas}
use Rattle.ooo_syntax.specs.declared.stat.Stat.TheVariants as stat_form
use Rattle.ooo_grammar.specs.Sets.{Terminals, disjoint, subset, join, subset_self}
use Rattle.ooo_grammar.specs.Names.{stat_name, names, type_words, begins_expr, begins_simple, begins_stat, after_sum, after_expr, ends_open, else_if, after_stat}
use Rattle.ooo_grammar.specs.Codes.{Code, after_maybe, nothing, pair, link, choice, maybe, mapped, within, deeper, refer}
use Rattle.ooo_grammar.specs.Combinators.{none, always, quoted, Table, terminals_of, table, skip, led, ended, in_parens, in_braces, in_brackets, to, optional, separated, separated_inside, or_none, repeated, or, loosely}
use Rattle.ooo_grammar.specs.Lexis.{word, member_word, text, type_name}
use Rattle.ooo_grammar.specs.Expressions.{row, value, inner_value, sum}
use Rattle.ooo_grammar.specs.Times.{timed, awaiting}

-- ---- declarations

-- word ["=" expr]
unfoldable pub declarator : Code Declarator names (always (terminal.Assign ∷ after_expr)) false
declarator = within _ _ (pair word (λ w. to (λ e. record { name = w; value = e }) (optional (skip terminal.Assign value))) refl) refl (λ _. refl)

-- local = type word ["=" expr] {"," word ["=" expr]}
unfoldable pub local : Code Local type_words (always (terminal.Comma ∷ terminal.Assign ∷ after_expr)) false
local = pair type_name (λ t. to (λ ds. record { form = t; names = ds }) (separated terminal.Comma declarator refl)) refl

-- ---- statements without a `;`

-- assign = "=" | "+=" | "-=" | "*=" | "/=" | "%=" | "&=" | "|=" | "^=" | "<<=" | ">>="
abbrev pub assigns : Table AssignOp
assigns = record {
  first = row terminal.Assign assign.Set;
  others = row terminal.PlusAssign assign.Add ∷ row terminal.MinusAssign assign.Subtract ∷ row terminal.TimesAssign assign.Multiply ∷ row terminal.DivideAssign assign.Divide ∷ row terminal.RemainderAssign assign.Remainder
      ∷ row terminal.AndAssign assign.And ∷ row terminal.OrAssign assign.Or ∷ row terminal.XorAssign assign.Xor ∷ row terminal.ShiftLeftAssign assign.ShiftLeft ∷ row terminal.ShiftRightAssign assign.ShiftRight ∷ [];
}

-- assign expr | "++" | "--", after the target
unfoldable pub after_target : Target → Code Simple (terminal.PlusPlus ∷ terminal.MinusMinus ∷ terminals_of assigns) (always after_expr) false
after_target t = within _ _ (choice (to (λ _. simple_form.StepAfter t step.Up) (quoted terminal.PlusPlus)) (choice (to (λ _. simple_form.StepAfter t step.Down) (quoted terminal.MinusMinus))
    (pair (table assigns) (λ o. to (λ e. simple_form.Assign t o e) value) refl) refl) refl) refl (λ _. refl)

-- "." word "(" [expr] ")" | "." "notify" "(" time ")" | "." "cancel" "(" ")"
unfoldable pub after_dot : Word → Code Simple (terminal.Notify ∷ terminal.Cancel ∷ terminal.Word ∷ terminal.Bind ∷ []) none false
after_dot w = choice (led terminal.Notify (λ k. to (λ t. simple_form.Notify w k.position t) (in_parens (deeper timed) refl)))
    (choice (led terminal.Cancel (λ k. skip terminal.Open (to (λ _. simple_form.Cancel w k.position) (quoted terminal.Close))))
    (pair member_word (λ m. to (λ e. simple_form.Member w m e) (in_parens (optional inner_value) refl)) refl) refl) refl

-- "(" [expr {"," expr}] ")"
unfoldable pub call_arguments : Code (List Expr) (terminal.Open ∷ []) none false
call_arguments = in_parens (to or_none (optional (separated_inside terminal.Comma inner_value refl))) refl

-- the statements that begin with a word, after the word
unfoldable pub after_first_word : Word → Code Simple (terminal.OpenBracket ∷ terminal.Open ∷ terminal.Dot ∷ terminal.PlusPlus ∷ terminal.MinusMinus ∷ terminals_of assigns) (always after_expr) false
after_first_word w = within _ _
    (choice (pair (in_brackets inner_value refl) (λ e. after_target (record { name = w; index = Some e })) refl)
    (choice (to (λ es. simple_form.Call w es) call_arguments)
    (choice (skip terminal.Dot (after_dot w)) (after_target (record { name = w; index = None })) refl) refl) refl) refl (λ _. refl)

-- target = word ["[" expr "]"]
unfoldable pub target : Code Target names (always (terminal.OpenBracket ∷ [])) false
target = pair word (λ w. to (λ e. record { name = w; index = e }) (optional (in_brackets inner_value refl))) refl

-- item = sum | text | "endl" | "sc_time_stamp" "(" ")"
unfoldable pub item : Code PrintItem (terminal.Text ∷ terminal.Endl ∷ terminal.ScTimeStamp ∷ begins_expr) (always after_sum) false
item = within _ _ (choice (to (λ t. item_form.Text t) text) (choice (to (λ k. item_form.Line k.position) (quoted terminal.Endl))
    (choice (led terminal.ScTimeStamp (λ k. skip terminal.Open (to (λ _. item_form.TimeStamp k.position) (quoted terminal.Close)))) (to (λ e. item_form.Value e) sum) refl) refl) refl) refl (λ _. refl)

-- "cout" "<<" item {"<<" item}
unfoldable pub print : Code Simple (terminal.Cout ∷ []) (always (terminal.ShiftLeft ∷ after_sum)) false
print = led terminal.Cout (λ k. skip terminal.ShiftLeft (to (λ xs. simple_form.Print k.position xs) (separated terminal.ShiftLeft item refl)))

-- simple = target assign expr | target ("++" | "--") | ("++" | "--") target | word "(" [expr {"," expr}] ")" | word "." word "(" [expr] ")"
--     | word "." "notify" "(" time ")" | word "." "cancel" "(" ")" | ("wait" | "next_trigger") "(" [time | time "," events | events] ")" | "sc_stop" "(" ")" | "cout" "<<" item {"<<" item}
unfoldable pub simple : Code Simple begins_simple (always (terminal.OpenBracket ∷ after_expr)) false
simple = within _ _
    (choice (pair word after_first_word refl)
    (choice (led terminal.PlusPlus (λ k. to (λ t. simple_form.StepBefore k.position step.Up t) target))
    (choice (led terminal.MinusMinus (λ k. to (λ t. simple_form.StepBefore k.position step.Down t) target))
    (choice (led terminal.Wait (λ k. to (λ a. simple_form.Wait k.position a) awaiting))
    (choice (led terminal.NextTrigger (λ k. to (λ a. simple_form.NextTrigger k.position a) awaiting))
    (choice (led terminal.ScStop (λ k. skip terminal.Open (to (λ _. simple_form.Stop k.position) (quoted terminal.Close)))) print refl) refl) refl) refl) refl) refl) refl (λ _. refl)

-- ---- statements

-- a statement inside another: one level deeper
unfoldable pub inner_stat : Code Stat begins_stat after_stat false
inner_stat = refer stat_name

-- as far as they can go on, statements are alike: by an `else` at most
pub else_at_most : (b : Bool) → subset (else_if b) (terminal.Else ∷ []) ≡ true
else_at_most true = refl
else_at_most false = refl

-- {stat}
unfoldable pub stats : Code (List Stat) begins_stat (always (begins_stat ++ terminal.Else ∷ [])) true
stats = repeated (within begins_stat (always (terminal.Else ∷ [])) inner_stat refl (λ s. else_at_most (ends_open s))) refl

-- block = "{" {stat} "}"
unfoldable pub body : Code (List Stat) (terminal.OpenBrace ∷ []) none false
body = in_braces stats refl

-- ["else" stat] after a statement that no `else` could still be part of; nothing after any other
abbrev pub begins_else : Bool → Terminals
begins_else true = []
begins_else false = terminal.Else ∷ []

abbrev pub else_goes : (b : Bool) → Option Stat → Terminals
else_goes true o = []
else_goes false o = after_maybe (terminal.Else ∷ []) after_stat o

unfoldable pub other_stat : Code Stat (terminal.Else ∷ []) after_stat false
other_stat = pair (deeper (quoted terminal.Else)) (λ _. inner_stat) refl

unfoldable pub maybe_other : Code (Option Stat) (terminal.Else ∷ []) (after_maybe (terminal.Else ∷ []) after_stat) true
maybe_other = maybe other_stat

unfoldable pub else_part : (ends_open : Bool) → Code (Option Stat) (begins_else ends_open) (else_goes ends_open) true
else_part true = nothing None
else_part false = maybe_other

pub else_apart : (b : Bool) → disjoint (else_if b) (begins_else b) ≡ true
else_apart true = refl
else_apart false = refl

-- "(" expr ")"
unfoldable pub parens : Code Expr (terminal.Open ∷ []) none false
parens = in_parens inner_value refl

-- "(" expr ")" of a control statement
unfoldable pub condition : Code Expr (terminal.Open ∷ []) none false
condition = deeper parens

-- ---- what ends open, by the form of a statement

pub if_open : (p : Position) (e : Expr) (s : Stat) → ends_open (stat_form.If p e s None) ≡ true
unfolding ends_open
if_open p e s = search (the_lemmas)

pub else_open : (p : Position) (e : Expr) (s t : Stat) → ends_open (stat_form.If p e s (Some t)) ≡ ends_open t
unfolding ends_open
else_open p e s t = search (the_lemmas)

pub while_open : (p : Position) (e : Expr) (s : Stat) → ends_open (stat_form.While p e s) ≡ ends_open s
unfolding ends_open
while_open p e s = search (the_lemmas)

pub for_open : (p : Position) (a : Option ForStart) (e : Option Expr) (b : Option Simple) (s : Stat) → ends_open (stat_form.For p a e b s) ≡ ends_open s
unfolding ends_open
for_open p a e b s = search (the_lemmas)

pub same_ends : (b c : Bool) → c ≡ b → subset (else_if b) (else_if c) ≡ true
same_ends b c e = ap (λ c. subset (else_if b) (else_if c)) e ∙ subset_self (else_if b)

-- "if" "(" expr ")" stat ["else" stat]
abbrev pub closing : (ends_open : Bool) → Option Stat → Option Stat
closing true o = None
closing false o = o

pub if_goes : (p : Position) (e : Expr) (so : Stat × Option Stat) → subset (join true (after_stat so.0) (else_goes (ends_open so.0) so.1)) (after_stat (stat_form.If p e so.0 (closing (ends_open so.0) so.1))) ≡ true
if_goes p e so = at (ends_open so.0) so.1
  where
    at : (b : Bool) (o : Option Stat) → subset (join true (else_if b) (else_goes b o)) (after_stat (stat_form.If p e so.0 (closing b o))) ≡ true
    at true o = ap (λ b. subset (terminal.Else ∷ []) (else_if b)) (if_open p e so.0)
    at false None = ap (λ b. subset (terminal.Else ∷ []) (else_if b)) (if_open p e so.0)
    at false (Some t) = ap (λ b. subset (else_if (ends_open t) ++ []) (else_if b)) (else_open p e so.0 t) ∙ with_nothing (ends_open t)
      where
        with_nothing : (b : Bool) → subset (else_if b ++ []) (else_if b) ≡ true
        with_nothing true = refl
        with_nothing false = refl

unfoldable pub after_condition : Position → Expr → Code Stat begins_stat after_stat false
after_condition p e = mapped after_stat (λ so. stat_form.If p e so.0 (closing (ends_open so.0) so.1)) (link inner_stat (λ s. else_part (ends_open s)) (λ s. else_apart (ends_open s))) (if_goes p e)

unfoldable pub if_stat : Code Stat (terminal.If ∷ []) after_stat false
if_stat = led terminal.If (λ k. pair condition (after_condition k.position) refl)

-- "while" "(" expr ")" stat
unfoldable pub after_while : Position → Expr → Code Stat begins_stat after_stat false
after_while p e = mapped after_stat (λ s. stat_form.While p e s) inner_stat (λ s. same_ends (ends_open s) _ (while_open p e s))

unfoldable pub while_stat : Code Stat (terminal.While ∷ []) after_stat false
while_stat = led terminal.While (λ k. pair condition (after_while k.position) refl)

-- "do" stat "while" "(" expr ")" ";"
unfoldable pub after_do : Position → Stat → Code Stat (terminal.While ∷ []) none false
after_do p s = deeper (skip terminal.While (to (λ e. stat_form.Do p s e) (ended terminal.Semicolon (in_parens inner_value refl) refl)))

unfoldable pub do_stat : Code Stat (terminal.Do ∷ []) none false
do_stat = led terminal.Do (λ k. pair (within begins_stat (always (terminal.Else ∷ [])) inner_stat refl (λ s. else_at_most (ends_open s))) (after_do k.position) refl)

-- local | simple
unfoldable pub for_start : Code ForStart (type_words ++ begins_simple) (always (terminal.Comma ∷ terminal.Assign ∷ after_expr)) false
for_start = within _ _ (choice (to (λ l. start_form.Local l) local) (to (λ s. start_form.Simple s) simple) refl) refl (λ _. refl)

-- "(" [local | simple] ";" | [expr] ";" | [simple] ")"
unfoldable pub for_first : Code (Option ForStart) (terminal.Open ∷ []) none false
for_first = deeper (skip terminal.Open (deeper (ended terminal.Semicolon (optional for_start) refl)))

unfoldable pub for_test : Code (Option Expr) (terminal.Semicolon ∷ begins_expr) none false
for_test = within _ _ (deeper (deeper (ended terminal.Semicolon (optional value) refl))) refl (λ _. refl)

unfoldable pub for_step : Code (Option Simple) (terminal.Close ∷ begins_simple) none false
for_step = within _ _ (deeper (ended terminal.Close (deeper (optional simple)) refl)) refl (λ _. refl)

unfoldable pub for_body : Position → Option ForStart → Option Expr → Option Simple → Code Stat begins_stat after_stat false
for_body p a e b = mapped after_stat (λ s. stat_form.For p a e b s) inner_stat (λ s. same_ends (ends_open s) _ (for_open p a e b s))

-- "for" "(" [local | simple] ";" [expr] ";" [simple] ")" stat
unfoldable pub for_stat : Code Stat (terminal.For ∷ []) after_stat false
for_stat = led terminal.For (λ k. pair for_first (λ a. pair for_test (λ e. pair for_step (for_body k.position a e) refl) refl) refl)

unfoldable pub block_stat : Code Stat (terminal.OpenBrace ∷ []) none false
block_stat = led terminal.OpenBrace (λ k. to (λ ss. stat_form.Block k.position ss) (ended terminal.CloseBrace stats refl))

-- "return" [expr] ";"
unfoldable pub return_stat : Code Stat (terminal.Return ∷ []) none false
return_stat = led terminal.Return (λ k. to (λ e. stat_form.Return k.position e) (ended terminal.Semicolon (optional value) refl))

-- "break" ";" | "continue" ";" | ";"
unfoldable pub break_stat : Code Stat (terminal.Break ∷ []) none false
break_stat = led terminal.Break (λ k. to (λ _. stat_form.Break k.position) (quoted terminal.Semicolon))

unfoldable pub continue_stat : Code Stat (terminal.Continue ∷ []) none false
continue_stat = led terminal.Continue (λ k. to (λ _. stat_form.Continue k.position) (quoted terminal.Semicolon))

unfoldable pub empty_stat : Code Stat (terminal.Semicolon ∷ []) none false
empty_stat = to (λ k. stat_form.Empty k.position) (quoted terminal.Semicolon)

unfoldable pub local_stat : Code Stat type_words none false
local_stat = to (λ l. stat_form.Local l) (ended terminal.Semicolon local refl)

unfoldable pub simple_stat : Code Stat begins_simple none false
simple_stat = to (λ s. stat_form.Simple s) (ended terminal.Semicolon simple refl)

-- stat = block | ";" | local ";" | simple ";" | "if" … | "while" … | "do" … | "for" … | "break" ";" | "continue" ";" | "return" [expr] ";"
unfoldable pub stat : Code Stat begins_stat after_stat false
stat = within begins_stat after_stat
    (or (loosely after_stat block_stat)
    (or (loosely after_stat empty_stat)
    (or (loosely after_stat break_stat)
    (or (loosely after_stat continue_stat)
    (or (loosely after_stat return_stat)
    (or (loosely after_stat local_stat)
    (or (loosely after_stat simple_stat)
    (or if_stat (or while_stat (or (loosely after_stat do_stat) for_stat refl) refl) refl) refl) refl) refl) refl) refl) refl) refl) refl (λ s. subset_self (after_stat s))
