-- What a layer's error is to the front.
use Rattle.ooo_lexer.specs.declared.error.LexError.{LexError}
use Rattle.ooo_lexer.specs.declared.error.LexError.TheVariants as lexer
use Rattle.ooo_syntax.specs.declared.error.ParseError.{ParseError}
use Rattle.ooo_syntax.specs.declared.error.ParseError.TheVariants as parser
use Rattle.ooo_checked.specs.declared.breach.TypeError.{TypeError}
use Rattle.ooo_checked.specs.declared.breach.TypeError.TheVariants as types
use Rattle.ooo_walk.specs.declared.refusal.ElabError.{ElabError}
use Rattle.ooo_walk.specs.declared.refusal.ElabError.TheVariants as elab
use Rattle.ooo_lower.specs.declared.designs.LowerError.{LowerError}
use Rattle.ooo_lower.specs.declared.designs.LowerError.TheVariants as lower
use Rattle.ooo_front.specs.declared.answer.Refused.{Refused}
use Rattle.ooo_front.specs.declared.answer.Refused.TheVariants as refused

abbrev pub refused_by_lexer : LexError → Refused
refused_by_lexer (lexer.Refused breach at) = refused.Lexer breach at
refused_by_lexer lexer.OutOfMemory = refused.OutOfMemory

abbrev pub refused_by_parser : ParseError → Refused
refused_by_parser (parser.Refused breach at) = refused.Parser breach at
refused_by_parser parser.OutOfMemory = refused.OutOfMemory

abbrev pub refused_by_types : TypeError → Refused
refused_by_types (types.Refused breach at) = refused.Types breach at
refused_by_types types.OutOfMemory = refused.OutOfMemory

abbrev pub refused_by_elaboration : ElabError → Refused
refused_by_elaboration (elab.Refused why) = refused.Elaborate why
refused_by_elaboration elab.OutOfMemory = refused.OutOfMemory

abbrev pub refused_by_lowering : LowerError → Refused
refused_by_lowering lower.CodeTooLarge = refused.CodeTooLarge
refused_by_lowering lower.OutOfMemory = refused.OutOfMemory
