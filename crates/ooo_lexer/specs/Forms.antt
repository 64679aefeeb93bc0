-- What a word, a sign, a comment and a directive are: facts about lists of bytes (ISO/IEC 14882, [lex] and [cpp.include]). `Numbers` and `Texts` have numbers and texts.
use Rattle.std.specs.Prelude.{◌≡◌, ℕ, List, [], ◌∷◌, ◌++◌, ◌⊎◌, IsTrue, Contains, codes}
use Rattle.std.specs.List.{list_all}
use Rattle.ooo_lexer.specs.Bytes.{is_blank, begins_word, is_word_byte, is_line_byte}

-- a letter or `_`, and then letters, digits and `_` ([lex.name])
abbrev pub IsWord : List ℕ → Type 0
IsWord [] = ⊥
IsWord (b ∷ bs) = IsTrue (begins_word b) × IsTrue (list_all is_word_byte bs)

-- the signs, longest first ([lex.operators])
abbrev pub signs : List (List ℕ)
signs = codes "<<=" ∷ codes ">>=" ∷ codes "<<" ∷ codes ">>" ∷ codes "<=" ∷ codes ">=" ∷ codes "==" ∷ codes "!=" ∷ codes "&&" ∷ codes "||" ∷ codes "++" ∷ codes "--"
    ∷ codes "+=" ∷ codes "-=" ∷ codes "*=" ∷ codes "/=" ∷ codes "%=" ∷ codes "&=" ∷ codes "|=" ∷ codes "^=" ∷ codes "::"
    ∷ codes "+" ∷ codes "-" ∷ codes "*" ∷ codes "/" ∷ codes "%" ∷ codes "<" ∷ codes ">" ∷ codes "=" ∷ codes "!" ∷ codes "&" ∷ codes "|" ∷ codes "^" ∷ codes "~" ∷ codes "?" ∷ codes ":"
    ∷ codes ";" ∷ codes "," ∷ codes "." ∷ codes "(" ∷ codes ")" ∷ codes "{" ∷ codes "}" ∷ codes "[" ∷ codes "]" ∷ []

-- one of the signs
abbrev pub IsSign : List ℕ → Type 0
IsSign bs = Contains signs bs

-- what begins a comment ([lex.comment])
abbrev pub comment_marks : List (List ℕ)
comment_marks = codes "//" ∷ codes "/*" ∷ []

-- `//`, and bytes of one line
pub record IsLineComment (bs : List ℕ) : Type 0 where
  pub inside : List ℕ
  pub on_line : IsTrue (list_all is_line_byte inside)
  pub is : bs ≡ codes "//" ++ inside

-- no `*/` stands among the bytes
abbrev pub HasNoEnd : List ℕ → Type 0
HasNoEnd bs = (front back : List ℕ) → bs ≡ front ++ (codes "*/" ++ back) → ⊥

-- from `/*` to the next `*/`
pub record IsBlockComment (bs : List ℕ) : Type 0 where
  pub inside : List ℕ
  pub first : HasNoEnd (inside ++ codes "*")
  pub is : bs ≡ codes "/*" ++ (inside ++ codes "*/")

-- the headers that a model may include, as they are written (IEEE 1666-2011, 5.1, and ISO/IEC 14882, [iostream.objects])
abbrev pub headers : List (List ℕ)
headers = codes "<systemc>" ∷ codes "<systemc.h>" ∷ codes "<iostream>" ∷ codes "\"systemc\"" ∷ codes "\"systemc.h\"" ∷ []

-- `#`, `include` and one of the headers, with blanks before, between and after these, and then a comment to the line's end or nothing ([cpp.include])
pub record IsDirective (bs : List ℕ) : Type 0 where
  pub before : List ℕ
  pub between : List ℕ
  pub header : List ℕ
  pub after : List ℕ
  pub note : List ℕ
  pub blanks_before : IsTrue (list_all is_blank before)
  pub blanks_between : IsTrue (list_all is_blank between)
  pub known : Contains headers header
  pub blanks_after : IsTrue (list_all is_blank after)
  pub ends : (note ≡ []) ⊎ IsLineComment note
  pub is : bs ≡ 35 ∷ (before ++ (codes "include" ++ (between ++ (header ++ (after ++ note)))))
