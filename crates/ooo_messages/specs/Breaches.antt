-- What a layer says of a text that it refuses.
use Rattle.std.specs.Prelude.{ℕ, List}
use Rattle.ooo_messages.specs.Reasons.{elab_reason, lexer_reason, parser_reason, types_reason}
use Rattle.ooo_messages.specs.declared.refusal.Breach.{Breach}
use Rattle.ooo_messages.specs.declared.refusal.Breach.TheVariants as breach

-- what is wrong, in words
abbrev pub reason_of : Breach → List ℕ
reason_of (breach.Lexer b) = lexer_reason b
reason_of (breach.Parser b) = parser_reason b
reason_of (breach.Types b) = types_reason b
reason_of (breach.Elaborate b) = elab_reason b
