-- What kinds of terminals there are.
use Rattle.std.specs.Prelude.{Bool, true, false, not, ◌||◌, ◌&&◌}
use Rattle.ooo_syntax.specs.declared.terminal.Terminal.{Terminal}
use Rattle.ooo_syntax.specs.declared.terminal.Terminal.TheVariants as terminal

-- a sign that is an operator where it stands in an expression; `[` is that of an element, `?` that of a choice
abbrev pub is_operator : Terminal → Bool
is_operator terminal.Plus = true
is_operator terminal.Minus = true
is_operator terminal.Star = true
is_operator terminal.Slash = true
is_operator terminal.Percent = true
is_operator terminal.And = true
is_operator terminal.Or = true
is_operator terminal.Xor = true
is_operator terminal.Tilde = true
is_operator terminal.Not = true
is_operator terminal.Less = true
is_operator terminal.Greater = true
is_operator terminal.LessEqual = true
is_operator terminal.GreaterEqual = true
is_operator terminal.EqualEqual = true
is_operator terminal.NotEqual = true
is_operator terminal.ShiftLeft = true
is_operator terminal.ShiftRight = true
is_operator terminal.AndAnd = true
is_operator terminal.OrOr = true
is_operator terminal.Question = true
is_operator terminal.OpenBracket = true
is_operator _ = false

-- a sign that is none
abbrev pub is_mark : Terminal → Bool
is_mark terminal.ShiftLeftAssign = true
is_mark terminal.ShiftRightAssign = true
is_mark terminal.PlusPlus = true
is_mark terminal.MinusMinus = true
is_mark terminal.PlusAssign = true
is_mark terminal.MinusAssign = true
is_mark terminal.TimesAssign = true
is_mark terminal.DivideAssign = true
is_mark terminal.RemainderAssign = true
is_mark terminal.AndAssign = true
is_mark terminal.OrAssign = true
is_mark terminal.XorAssign = true
is_mark terminal.Scope = true
is_mark terminal.Assign = true
is_mark terminal.Colon = true
is_mark terminal.Semicolon = true
is_mark terminal.Comma = true
is_mark terminal.Dot = true
is_mark terminal.Open = true
is_mark terminal.Close = true
is_mark terminal.OpenBrace = true
is_mark terminal.CloseBrace = true
is_mark terminal.CloseBracket = true
is_mark _ = false

-- a number or a text
abbrev pub is_literal : Terminal → Bool
is_literal terminal.Number = true
is_literal terminal.Text = true
is_literal _ = false

-- a word, reserved or not: no number, no text and no sign
abbrev pub is_word : Terminal → Bool
is_word t = not (is_literal t || is_operator t || is_mark t)

-- a library's name, which `::` may follow
abbrev pub is_library : Terminal → Bool
is_library terminal.Std = true
is_library terminal.ScCore = true
is_library _ = false

abbrev pub is_scope : Terminal → Bool
is_scope terminal.Scope = true
is_scope _ = false

-- a word of a type's name
abbrev pub is_type_word : Terminal → Bool
is_type_word terminal.Bool = true
is_type_word terminal.Int = true
is_type_word terminal.Unsigned = true
is_type_word terminal.Long = true
is_type_word _ = false

-- a symbol counts as an operator: its sign is one, or it is the first word of a type's name, which in a cast stands for the cast
abbrev pub counts : Bool → Terminal → Bool
counts behind_type t = is_operator t || (is_type_word t && not behind_type)
