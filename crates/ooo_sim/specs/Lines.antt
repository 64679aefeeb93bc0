-- The line of a refusal.
use Rattle.std.specs.Prelude.{ℕ, List, [], ◌∷◌, ◌++◌, codes, decimal, unwrap_or}
use Rattle.ooo_lexer.specs.Breaches.{name_of}
use Rattle.ooo_lexer.specs.declared.position.Position.{Position}
use Rattle.ooo_syntax.specs.Breaches.{name_of as parser_name_of}
use Rattle.ooo_checked.specs.Breaches.{name_of as type_name_of}
use Rattle.ooo_walk.specs.Breaches.{name_of as elab_name_of}
use Rattle.ooo_walk.specs.declared.refusal.Refusal.{Refusal as ElabRefusal}
use Rattle.ooo_front.specs.declared.answer.Refused.{Refused}
use Rattle.ooo_front.specs.declared.answer.Refused.TheVariants as refused
use Rattle.ooo_words.specs.Refused.{refusal_line as words_line}
use Rattle.ooo_sim.specs.declared.outcome.Refusal.{Refusal}
use Rattle.ooo_sim.specs.declared.outcome.Refusal.TheVariants as refusal

-- a layer's line without its end: its name, the breach's name, line and column
abbrev pub layer_head : List ℕ → List ℕ → Position → List ℕ
layer_head layer name at =
    codes "refused " ++ layer ++ codes " " ++ name ++ codes " " ++ decimal at.line ++ codes ":" ++ decimal at.column

-- a layer's line
abbrev pub layer_line : List ℕ → List ℕ → Position → List ℕ
layer_line layer name at = layer_head layer name at ++ codes "\n"

-- names, each behind a space
abbrev pub names_text : List (List ℕ) → List ℕ
names_text [] = []
names_text (n ∷ ns) = codes " " ++ n ++ names_text ns

-- the line of elaboration, which names what it is about
abbrev pub elaborate_line : ElabRefusal → List ℕ
elaborate_line r = layer_head (codes "elaborate") (elab_name_of r.what) r.at ++ names_text r.names ++ codes "\n"

-- the line of a text that is refused; want of memory has none
abbrev pub text_line : Refused → List ℕ
text_line (refused.Lexer breach at) = layer_line (codes "lexer") (name_of breach) at
text_line (refused.Parser breach at) = layer_line (codes "parser") (parser_name_of breach) at
text_line (refused.Types breach at) = layer_line (codes "types") (type_name_of breach) at
text_line (refused.Elaborate why) = elaborate_line why
text_line refused.CodeTooLarge = codes "refused lower CodeTooLarge\n"
text_line refused.TooManySegments = codes "refused segments TooManySegments\n"
text_line refused.OutOfMemory = []

-- the line of a refusal; want of memory has none
abbrev pub refusal_line : Refusal → List ℕ
refusal_line (refusal.Words error) = unwrap_or (words_line error) []
refusal_line refusal.TooLong = codes "refused source TooLong\n"
refusal_line (refusal.Text why) = text_line why
refusal_line refusal.StopMissing = codes "refused words StopMissing\n"
