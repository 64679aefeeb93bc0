-- The words and signs of the grammar, and the words that no name may be (IEEE 1666-2011 and ISO/IEC 14882, [lex.key]). Each table is in the order of length.
use Rattle.std.specs.Prelude.{ℕ, Bool, true, false, not, if◌then◌else◌, List, [], ◌∷◌, ◌++◌, Option, Some, None, codes}
use Rattle.std.specs.Str.{bytes_eq}
use Rattle.ooo_lexer.specs.declared.token.TokenKind.{TokenKind}
use Rattle.ooo_lexer.specs.declared.token.TokenKind.TheVariants as kind
use Rattle.ooo_syntax.specs.declared.terminal.Terminal.{Terminal}
use Rattle.ooo_syntax.specs.declared.terminal.Terminal.TheVariants as terminal

-- bytes, and what they are to the grammar
pub record Written : Type 0 where
  pub bytes : List ℕ
  pub terminal : Terminal

abbrev pub as_is : List ℕ → Terminal → Written
as_is bs t = record { bytes = bs; terminal = t }

-- the words of at most five letters
unfoldable pub short_words : List Written
short_words =
    as_is (codes "do") terminal.Do ∷
    as_is (codes "if") terminal.If ∷
    as_is (codes "for") terminal.For ∷
    as_is (codes "int") terminal.Int ∷
    as_is (codes "new") terminal.Outside ∷
    as_is (codes "std") terminal.Std ∷
    as_is (codes "try") terminal.Outside ∷
    as_is (codes "auto") terminal.Outside ∷
    as_is (codes "bind") terminal.Bind ∷
    as_is (codes "bool") terminal.Bool ∷
    as_is (codes "case") terminal.Outside ∷
    as_is (codes "char") terminal.Char ∷
    as_is (codes "cout") terminal.Cout ∷
    as_is (codes "else") terminal.Else ∷
    as_is (codes "endl") terminal.Endl ∷
    as_is (codes "enum") terminal.Outside ∷
    as_is (codes "goto") terminal.Outside ∷
    as_is (codes "long") terminal.Long ∷
    as_is (codes "this") terminal.Outside ∷
    as_is (codes "true") terminal.True ∷
    as_is (codes "void") terminal.Void ∷
    as_is (codes "wait") terminal.Wait ∷
    as_is (codes "SC_FS") terminal.Outside ∷
    as_is (codes "SC_MS") terminal.ScMs ∷
    as_is (codes "SC_NS") terminal.ScNs ∷
    as_is (codes "SC_PS") terminal.ScPs ∷
    as_is (codes "SC_US") terminal.ScUs ∷
    as_is (codes "break") terminal.Break ∷
    as_is (codes "class") terminal.Outside ∷
    as_is (codes "const") terminal.Const ∷
    as_is (codes "false") terminal.False ∷
    as_is (codes "float") terminal.Outside ∷
    as_is (codes "sc_bv") terminal.Outside ∷
    as_is (codes "sc_dt") terminal.ScDt ∷
    as_is (codes "sc_in") terminal.ScIn ∷
    as_is (codes "sc_lv") terminal.Outside ∷
    as_is (codes "short") terminal.Outside ∷
    as_is (codes "throw") terminal.Outside ∷
    as_is (codes "union") terminal.Outside ∷
    as_is (codes "using") terminal.Using ∷
    as_is (codes "while") terminal.While ∷
    []

-- those of six to eight
unfoldable pub middle_words : List Written
middle_words =
    as_is (codes "SC_SEC") terminal.ScSec ∷
    as_is (codes "cancel") terminal.Cancel ∷
    as_is (codes "delete") terminal.Outside ∷
    as_is (codes "double") terminal.Outside ∷
    as_is (codes "friend") terminal.Outside ∷
    as_is (codes "notify") terminal.Notify ∷
    as_is (codes "public") terminal.Public ∷
    as_is (codes "return") terminal.Return ∷
    as_is (codes "sc_bit") terminal.Outside ∷
    as_is (codes "sc_int") terminal.Outside ∷
    as_is (codes "sc_out") terminal.ScOut ∷
    as_is (codes "signed") terminal.Outside ∷
    as_is (codes "sizeof") terminal.Outside ∷
    as_is (codes "static") terminal.Static ∷
    as_is (codes "struct") terminal.Outside ∷
    as_is (codes "switch") terminal.Outside ∷
    as_is (codes "SC_CTOR") terminal.ScCtor ∷
    as_is (codes "default") terminal.Outside ∷
    as_is (codes "private") terminal.Outside ∷
    as_is (codes "sc_core") terminal.ScCore ∷
    as_is (codes "sc_fifo") terminal.ScFifo ∷
    as_is (codes "sc_main") terminal.ScMain ∷
    as_is (codes "sc_port") terminal.Outside ∷
    as_is (codes "sc_stop") terminal.ScStop ∷
    as_is (codes "sc_time") terminal.ScTime ∷
    as_is (codes "sc_uint") terminal.Outside ∷
    as_is (codes "typedef") terminal.Outside ∷
    as_is (codes "virtual") terminal.Outside ∷
    as_is (codes "continue") terminal.Continue ∷
    as_is (codes "explicit") terminal.Outside ∷
    as_is (codes "operator") terminal.Outside ∷
    as_is (codes "sc_clock") terminal.ScClock ∷
    as_is (codes "sc_event") terminal.ScEvent ∷
    as_is (codes "sc_fixed") terminal.Outside ∷
    as_is (codes "sc_inout") terminal.ScInout ∷
    as_is (codes "sc_logic") terminal.Outside ∷
    as_is (codes "sc_mutex") terminal.Outside ∷
    as_is (codes "sc_spawn") terminal.Outside ∷
    as_is (codes "sc_start") terminal.ScStart ∷
    as_is (codes "sc_trace") terminal.Outside ∷
    as_is (codes "template") terminal.Outside ∷
    as_is (codes "unsigned") terminal.Unsigned ∷
    as_is (codes "volatile") terminal.Outside ∷
    []

-- those of nine or more
unfoldable pub long_words : List Written
long_words =
    as_is (codes "SC_METHOD") terminal.ScMethod ∷
    as_is (codes "SC_MODULE") terminal.ScModule ∷
    as_is (codes "SC_THREAD") terminal.ScThread ∷
    as_is (codes "namespace") terminal.Namespace ∷
    as_is (codes "protected") terminal.Outside ∷
    as_is (codes "sc_bigint") terminal.Outside ∷
    as_is (codes "sc_export") terminal.Outside ∷
    as_is (codes "sc_in_clk") terminal.ScInClk ∷
    as_is (codes "sc_signal") terminal.ScSignal ∷
    as_is (codes "sc_ufixed") terminal.Outside ∷
    as_is (codes "sc_vector") terminal.Outside ∷
    as_is (codes "sensitive") terminal.Sensitive ∷
    as_is (codes "SC_CTHREAD") terminal.Outside ∷
    as_is (codes "sc_biguint") terminal.Outside ∷
    as_is (codes "sc_fifo_in") terminal.ScFifoIn ∷
    as_is (codes "sc_fifo_out") terminal.ScFifoOut ∷
    as_is (codes "static_cast") terminal.Outside ∷
    as_is (codes "SC_ZERO_TIME") terminal.ScZeroTime ∷
    as_is (codes "next_trigger") terminal.NextTrigger ∷
    as_is (codes "sc_interface") terminal.Outside ∷
    as_is (codes "sc_semaphore") terminal.Outside ∷
    as_is (codes "sc_time_stamp") terminal.ScTimeStamp ∷
    as_is (codes "SC_HAS_PROCESS") terminal.ScHasProcess ∷
    as_is (codes "sc_event_queue") terminal.Outside ∷
    as_is (codes "sc_module_name") terminal.ScModuleName ∷
    as_is (codes "SC_MANY_WRITERS") terminal.Outside ∷
    as_is (codes "dont_initialize") terminal.DontInitialize ∷
    as_is (codes "SC_UNCHECKED_WRITERS") terminal.Outside ∷
    as_is (codes "sc_set_time_resolution") terminal.Outside ∷
    []

-- the words of the grammar, and as `Outside` those that C++ or SystemC has and the grammar hasn't
abbrev pub words : List Written
words = short_words ++ middle_words ++ long_words

-- the signs
unfoldable pub signs : List Written
signs =
    as_is (codes ";") terminal.Semicolon ∷
    as_is (codes "(") terminal.Open ∷
    as_is (codes ")") terminal.Close ∷
    as_is (codes "{") terminal.OpenBrace ∷
    as_is (codes "}") terminal.CloseBrace ∷
    as_is (codes ",") terminal.Comma ∷
    as_is (codes "=") terminal.Assign ∷
    as_is (codes ".") terminal.Dot ∷
    as_is (codes "<") terminal.Less ∷
    as_is (codes "+") terminal.Plus ∷
    as_is (codes "-") terminal.Minus ∷
    as_is (codes "*") terminal.Star ∷
    as_is (codes "[") terminal.OpenBracket ∷
    as_is (codes "]") terminal.CloseBracket ∷
    as_is (codes "&") terminal.And ∷
    as_is (codes ">") terminal.Greater ∷
    as_is (codes ":") terminal.Colon ∷
    as_is (codes "!") terminal.Not ∷
    as_is (codes "/") terminal.Slash ∷
    as_is (codes "%") terminal.Percent ∷
    as_is (codes "|") terminal.Or ∷
    as_is (codes "^") terminal.Xor ∷
    as_is (codes "?") terminal.Question ∷
    as_is (codes "~") terminal.Tilde ∷
    as_is (codes "!=") terminal.NotEqual ∷
    as_is (codes "%=") terminal.RemainderAssign ∷
    as_is (codes "&&") terminal.AndAnd ∷
    as_is (codes "&=") terminal.AndAssign ∷
    as_is (codes "*=") terminal.TimesAssign ∷
    as_is (codes "++") terminal.PlusPlus ∷
    as_is (codes "+=") terminal.PlusAssign ∷
    as_is (codes "--") terminal.MinusMinus ∷
    as_is (codes "-=") terminal.MinusAssign ∷
    as_is (codes "/=") terminal.DivideAssign ∷
    as_is (codes "::") terminal.Scope ∷
    as_is (codes "<<") terminal.ShiftLeft ∷
    as_is (codes "<=") terminal.LessEqual ∷
    as_is (codes "==") terminal.EqualEqual ∷
    as_is (codes ">=") terminal.GreaterEqual ∷
    as_is (codes ">>") terminal.ShiftRight ∷
    as_is (codes "^=") terminal.XorAssign ∷
    as_is (codes "|=") terminal.OrAssign ∷
    as_is (codes "||") terminal.OrOr ∷
    as_is (codes "<<=") terminal.ShiftLeftAssign ∷
    as_is (codes ">>=") terminal.ShiftRightAssign ∷
    []

-- what the first row with these bytes says
abbrev pub written_as : List Written → List ℕ → Option Terminal
written_as [] bs = None
written_as (w ∷ ws) bs = if bytes_eq w.bytes bs then Some w.terminal else written_as ws bs

-- what a token is, or another terminal where no row has its bytes
abbrev pub or_else : Option Terminal → Terminal → Terminal
or_else None t = t
or_else (Some s) t = s

-- what a token of this kind and these bytes is to the grammar
abbrev pub terminal_of : TokenKind → List ℕ → Terminal
terminal_of kind.Word bs = or_else (written_as words bs) terminal.Word
terminal_of kind.Number bs = terminal.Number
terminal_of kind.Text bs = terminal.Text
terminal_of kind.Sign bs = or_else (written_as signs bs) terminal.Outside

-- words that the grammar holds only after a dot, where they are names elsewhere
abbrev pub only_follows_dot : Terminal → Bool
only_follows_dot terminal.Notify = true
only_follows_dot terminal.Cancel = true
only_follows_dot terminal.Bind = true
only_follows_dot _ = false

abbrev pub reserves : Option Terminal → Bool
reserves None = false
reserves (Some t) = not (only_follows_dot t)

-- a word that no name may be
abbrev pub is_reserved : List ℕ → Bool
is_reserved bs = reserves (written_as words bs)
