-- Parts of statements that the grammar writes in one line with what stands around them.
use Rattle.std.specs.Prelude.{false, [], ◌∷◌, ◌++◌, Option, refl}
use Rattle.ooo_syntax.specs.declared.terminal.Terminal.TheVariants as terminal
use Rattle.ooo_syntax.specs.declared.expr.Expr.{Expr}
use Rattle.ooo_syntax.specs.declared.stat.Simple.{Simple}
use Rattle.ooo_syntax.specs.declared.stat.ForStart.{ForStart}
use Rattle.ooo_grammar.specs.Names.{type_words, begins_expr, begins_simple}
use Rattle.ooo_grammar.specs.Codes.{Code, deeper, pair}
use Rattle.ooo_grammar.specs.Combinators.{none, ended, in_parens, optional, skip, to, always, quoted, led}
use Rattle.ooo_grammar.specs.Expressions.{value, inner_value}
use Rattle.ooo_grammar.specs.Statements.{for_start, simple, target}
use Rattle.ooo_syntax.specs.declared.leaves.Word.{Word}
use Rattle.ooo_syntax.specs.declared.terminal.Terminal.{Terminal}
use Rattle.ooo_syntax.specs.declared.stat.Simple.TheVariants as simple_form
use Rattle.ooo_syntax.specs.declared.stat.StepOp.{StepOp}
use Rattle.ooo_grammar.specs.Lexis.{member_word}
use Rattle.ooo_grammar.specs.Times.{timed, awaiting}

-- [expr] ";"
abbrev pub ended_value : Code (Option Expr) (begins_expr ++ terminal.Semicolon ∷ []) none false
ended_value = ended terminal.Semicolon (optional value) refl

-- [local | simple] ";"
abbrev pub ended_start : Code (Option ForStart) ((type_words ++ begins_simple) ++ terminal.Semicolon ∷ []) none false
ended_start = ended terminal.Semicolon (optional for_start) refl

-- "(" [local | simple] ";"
abbrev pub opened_start : Code (Option ForStart) (terminal.Open ∷ []) none false
opened_start = skip terminal.Open (deeper ended_start)

-- [simple] ")"
abbrev pub closed_step : Code (Option Simple) (begins_simple ++ terminal.Close ∷ []) none false
closed_step = ended terminal.Close (deeper (optional simple)) refl

-- "notify" "(" time ")", after the word and its dot
abbrev pub notify_call : Word → Code Simple (terminal.Notify ∷ []) none false
notify_call w = led terminal.Notify (λ k. to (λ t. simple_form.Notify w k.position t) (in_parens (deeper timed) refl))

-- "cancel" "(" ")"
abbrev pub cancel_call : Word → Code Simple (terminal.Cancel ∷ []) none false
cancel_call w = led terminal.Cancel (λ k. skip terminal.Open (to (λ _. simple_form.Cancel w k.position) (quoted terminal.Close)))

-- word "(" [expr] ")"
abbrev pub member_call : Word → Code Simple (terminal.Word ∷ terminal.Bind ∷ []) none false
member_call w = pair member_word (λ m. to (λ e. simple_form.Member w m e) (in_parens (optional inner_value) refl)) refl

-- "++" target and "--" target
abbrev pub step_before : (K : Terminal) → StepOp → Code Simple (K ∷ []) (always (terminal.OpenBracket ∷ [])) false
step_before K o = led K (λ k. to (λ t. simple_form.StepBefore k.position o t) target)

-- "wait" "(" … ")"
abbrev pub wait_call : Code Simple (terminal.Wait ∷ []) none false
wait_call = led terminal.Wait (λ k. to (λ a. simple_form.Wait k.position a) awaiting)

-- "next_trigger" "(" … ")"
abbrev pub next_trigger_call : Code Simple (terminal.NextTrigger ∷ []) none false
next_trigger_call = led terminal.NextTrigger (λ k. to (λ a. simple_form.NextTrigger k.position a) awaiting)

-- "sc_stop" "(" ")"
abbrev pub stop_call : Code Simple (terminal.ScStop ∷ []) none false
stop_call = led terminal.ScStop (λ k. skip terminal.Open (to (λ _. simple_form.Stop k.position) (quoted terminal.Close)))
