-- Directives: what the code finds is a directive, and a directive that stands first is found.
use Rattle.std.proofs.Common.{◌≡◌, ℕ, ◌+◌, Bool, true, false, cond, not, eqb, List, [], ◌∷◌, ◌++◌, length, take, drop, Option, Some, None, Result, Ok, Err, ◌⊎◌, inl, inr, ⊎_elim, refl, sym, ap, ◌∙◌, subst, arith, add-one, codes}
use Rattle.std.specs.List.{list_all, list_any, prefix_len, take_while, starts_with, Contains}
use Rattle.std.specs.Str.{bytes_eq}
use Rattle.std.proofs.lemmas.Bool.{and_parts, or_cases, or_left, or_right, false≢true, both_ways, false_from_ne_true, not-true}
use Rattle.std.proofs.lemmas.Bool.Decides.{Decides-eqb}
use Rattle.std.proofs.lemmas.List.{take-append-drop, drop_at}
use Rattle.std.proofs.lemmas.List.Elements.{All-contains, All-from_recursion}
use Rattle.std.proofs.lemmas.List.Folds.{list_all-append}
use Rattle.std.proofs.lemmas.Map.Views.{Contains-from_any}
use Rattle.std.proofs.lemmas.Slice.Eq.{bytes_eq-Decides, starts_is}
use Rattle.ooo_lexer.specs.declared.bytes.Class.TheVariants as class
use Rattle.ooo_lexer.specs.declared.breach.LexBreach.TheVariants as breach
use Rattle.ooo_lexer.specs.declared.flaw.Flaw.{Flaw}
use Rattle.ooo_lexer.specs.declared.heads.Head.{Head}
use Rattle.ooo_lexer.specs.declared.heads.PieceKind.TheVariants as piece
use Rattle.ooo_lexer.specs.Breaches.{directive}
use Rattle.ooo_lexer.specs.Bytes.{is_blank, is_line_byte, StopsBefore}
use Rattle.ooo_lexer.specs.Forms.{headers, IsLineComment, IsDirective}
use Rattle.ooo_lexer.specs.Heads.{flaw, head, header_length, is_note, ends_header, is_include, directive_head}
use Rattle.ooo_lexer.specs.Pieces.{Directive}
use Rattle.ooo_lexer.specs.Runs.{after_run, is_nothing}
use Rattle.ooo_lexer.proofs.Classes.{blank_is_on_line}
use Rattle.ooo_lexer.proofs.Finds.{Finds, passes_each, nothing_is, same_bytes}
use Rattle.ooo_lexer.proofs.Runs.{run_front, run_rest, run_passes, run_stops, run_joins, all_wider, all_append}

-- ---- what the code finds

-- a header that the code finds is one of the list
header_by : (h : List ℕ) (hs : List (List ℕ)) (bs : List ℕ) (n : ℕ) (t : Bool) → starts_with eqb bs h ≡ t → (header_length hs bs ≡ Some n → list_any (bytes_eq (take n bs)) hs ≡ true)
    → cond t (Some (length h)) (header_length hs bs) ≡ Some n → list_any (bytes_eq (take n bs)) (h ∷ hs) ≡ true
header_by h hs bs n true test ih e =
    let i : length h ≡ n = cc in
    let same = (bytes_eq-Decides h (take (length h) bs)).0 test in
    or_left (bytes_eq (take n bs) h) (list_any (bytes_eq (take n bs)) hs) ((bytes_eq-Decides (take n bs) h).1 (ap (λ n. take n bs) (sym i) ∙ sym same))
header_by h hs bs n false test ih e = or_right (bytes_eq (take n bs) h) (list_any (bytes_eq (take n bs)) hs) (ih e)

header_any : (hs : List (List ℕ)) (bs : List ℕ) (n : ℕ) → header_length hs bs ≡ Some n → list_any (bytes_eq (take n bs)) hs ≡ true
header_any [] bs n e = absurd cc
header_any (h ∷ hs) bs n e = header_by h hs bs n (starts_with eqb bs h) refl (header_any hs bs n) e

header_is : (bs : List ℕ) (n : ℕ) → header_length headers bs ≡ Some n → Contains headers (take n bs)
header_is bs n e = Contains-from_any same_bytes (take n bs) headers (header_any headers bs n e)

all_after : (p : ℕ → Bool) (n : ℕ) (xs : List ℕ) → list_all p xs ≡ true → list_all p (drop n xs) ≡ true
all_after p n xs all = (and_parts (list_all p (take n xs)) (list_all p (drop n xs)) (sym (list_all-append p (take n xs) (drop n xs)) ∙ ap (list_all p) (take-append-drop n xs) ∙ all)).1

begins_is_front : (bs front : List ℕ) → starts_with eqb bs front ≡ true → bs ≡ front ++ drop (length front) bs
begins_is_front bs front e = (starts_is Decides-eqb bs front (starts_with eqb bs front) refl).0 e

note_is : (bs : List ℕ) → list_all is_line_byte bs ≡ true → is_note bs ≡ true → (bs ≡ []) ⊎ IsLineComment bs
note_is bs all e = ⊎_elim
    (λ none. inl (nothing_is bs none))
    (λ begins. let is = begins_is_front bs (codes "//") begins in inr (record { inside = drop 2 bs; on_line = all_after is_line_byte 2 bs all; is = is }))
    (or_cases (is_nothing bs) (starts_with eqb bs (codes "//")) e)

-- what follows `include` and blanks, as a directive has it
record Named (bs : List ℕ) : Type 0 where
  pub header : List ℕ
  pub after : List ℕ
  pub note : List ℕ
  pub known : Contains headers header
  pub blanks : list_all is_blank after ≡ true
  pub ends : (note ≡ []) ⊎ IsLineComment note
  pub is : bs ≡ header ++ (after ++ note)

named_by : (bs : List ℕ) (r : Option ℕ) → list_all is_line_byte bs ≡ true → header_length headers bs ≡ r → ends_header r bs ≡ true → Named bs
named_by bs None all found e = absurd (false≢true e)
named_by bs (Some n) all found e =
    let behind = drop n bs in
    let note = after_run class.Blank behind in
    record {
      header = take n bs;
      after = take_while is_blank behind;
      note = note;
      known = header_is bs n found;
      blanks = run_passes is_blank behind;
      ends = note_is note (all_after is_line_byte (prefix_len is_blank behind) behind (all_after is_line_byte n bs all)) e;
      is = sym (take-append-drop n bs) ∙ ap (λ r. take n bs ++ r) (sym (run_joins is_blank behind));
    }

directive_of : (line parts : List ℕ) → line ≡ take_while is_blank line ++ (codes "include" ++ parts) → Named (after_run class.Blank parts) → IsDirective (35 ∷ line)
directive_of line parts begins named = record {
  before = take_while is_blank line;
  between = take_while is_blank parts;
  header = named.header;
  after = named.after;
  note = named.note;
  blanks_before = run_passes is_blank line;
  blanks_between = run_passes is_blank parts;
  known = named.known;
  blanks_after = named.blanks;
  ends = named.ends;
  is = ap (λ bs. 35 ∷ bs) (begins ∙ ap (λ r. take_while is_blank line ++ (codes "include" ++ r)) (sym (run_joins is_blank parts) ∙ ap (λ r. take_while is_blank parts ++ r) named.is));
}

directive_is : (line : List ℕ) → list_all is_line_byte line ≡ true → is_include (after_run class.Blank line) ≡ true → IsDirective (35 ∷ line)
directive_is line all e =
    let parts = after_run class.Blank line in
    let behind = drop 7 parts in
    let named = after_run class.Blank behind in
    let both = and_parts (starts_with eqb parts (codes "include")) (ends_header (header_length headers named) named) e in
    let begins = begins_is_front parts (codes "include") both.0 in
    let on_line = all_after is_line_byte (prefix_len is_blank behind) behind (all_after is_line_byte 7 parts (all_after is_line_byte (prefix_len is_blank line) line all)) in
    directive_of line behind (sym (run_joins is_blank line) ∙ ap (λ r. take_while is_blank line ++ r) begins) (named_by named (header_length headers named) on_line refl both.1)

-- ---- what a directive has

abbrev solid_first : List ℕ → Bool
solid_first [] = false
solid_first (b ∷ bs) = not (is_blank b)

solid_stops : (front rest : List ℕ) → solid_first front ≡ true → StopsBefore is_blank (front ++ rest)
solid_stops [] rest e = absurd (false≢true e)
solid_stops (b ∷ bs) rest e = not-true (is_blank b) e

note_stops : (note : List ℕ) → (note ≡ []) ⊎ IsLineComment note → StopsBefore is_blank note
note_stops note ends = ⊎_elim (λ none. subst (StopsBefore is_blank) (sym none) tt) (λ c. subst (StopsBefore is_blank) (sym c.is) refl) ends

note_on_line : (note : List ℕ) → (note ≡ []) ⊎ IsLineComment note → list_all is_line_byte note ≡ true
note_on_line note ends = ⊎_elim (λ none. ap (list_all is_line_byte) none) (λ c. ap (list_all is_line_byte) c.is ∙ c.on_line) ends

note_passes : (note : List ℕ) → (note ≡ []) ⊎ IsLineComment note → is_note note ≡ true
note_passes note ends = ⊎_elim (λ none. ap is_note none) (λ c. ap is_note c.is) ends

blanks_on_line : (bs : List ℕ) → list_all is_blank bs ≡ true → list_all is_line_byte bs ≡ true
blanks_on_line bs all = all_wider is_blank is_line_byte blank_is_on_line bs all

-- the code finds each header
finds_header : (header rest : List ℕ) → Contains headers header → header_length headers (header ++ rest) ≡ Some (length header)
finds_header header rest known = All-contains (λ h. header_length headers (h ++ rest) ≡ Some (length h)) headers header (All-from_recursion (λ h. header_length headers (h ++ rest) ≡ Some (length h)) headers (refl, (refl, (refl, (refl, (refl, tt)))))) known

ends_complete : (header after note : List ℕ) → Contains headers header → list_all is_blank after ≡ true → (note ≡ []) ⊎ IsLineComment note → ends_header (header_length headers (header ++ (after ++ note))) (header ++ (after ++ note)) ≡ true
ends_complete header after note known blanks ends =
    let last = after ++ note in
    ap (λ r. ends_header r (header ++ last)) (finds_header header last known)
    ∙ ap (λ r. is_note (after_run class.Blank r)) (drop_at header last (length header) refl)
    ∙ ap is_note (run_rest is_blank after note blanks (note_stops note ends))
    ∙ note_passes note ends

line_is : (line : List ℕ) (is : IsDirective (35 ∷ line)) → line ≡ is.before ++ (codes "include" ++ (is.between ++ (is.header ++ (is.after ++ is.note))))
line_is line is = let i = is.is in cc

included : (line : List ℕ) → IsDirective (35 ∷ line) → is_include (after_run class.Blank line) ≡ true
included line is =
    let named = is.header ++ (is.after ++ is.note) in
    let first = run_rest is_blank is.before (codes "include" ++ (is.between ++ named)) is.blanks_before refl in
    let second = run_rest is_blank is.between named is.blanks_between (solid_stops is.header (is.after ++ is.note) (passes_each solid_first headers is.header refl is.known)) in
    ap (λ line. is_include (after_run class.Blank line)) (line_is line is) ∙ ap is_include first ∙ ap (λ r. ends_header (header_length headers r) r) second ∙ ends_complete is.header is.after is.note is.known is.blanks_after is.ends

-- a directive has no line feed
directive_on_line : (line : List ℕ) → IsDirective (35 ∷ line) → list_all is_line_byte line ≡ true
directive_on_line line is =
    let last = all_append is_line_byte is.after is.note (blanks_on_line is.after is.blanks_after) (note_on_line is.note is.ends) in
    let named = all_append is_line_byte is.header (is.after ++ is.note) (passes_each (list_all is_line_byte) headers is.header refl is.known) last in
    let middle = all_append is_line_byte is.between (is.header ++ (is.after ++ is.note)) (blanks_on_line is.between is.blanks_between) named in
    ap (list_all is_line_byte) (line_is line is) ∙ all_append is_line_byte is.before (codes "include" ++ (is.between ++ (is.header ++ (is.after ++ is.note)))) (blanks_on_line is.before is.blanks_before) middle

-- ---- the lemmas

-- by whether the line is a directive
abbrev found_by : Bool → List ℕ → Result Head Flaw
found_by t line = cond t (Ok (head piece.Directive (length line + 1))) (Err (flaw breach.Directive 0))

sound_by : (bs : List ℕ) (t : Bool) → is_include (after_run class.Blank (take_while is_line_byte bs)) ≡ t → Finds (35 ∷ bs) (found_by t (take_while is_line_byte bs))
sound_by bs true test = record {
  piece = Directive (35 ∷ take_while is_line_byte bs);
  rest = drop (prefix_len is_line_byte bs) bs;
  is = ap (λ bs. 35 ∷ bs) (sym (run_joins is_line_byte bs));
  stands = (directive_is (take_while is_line_byte bs) (run_passes is_line_byte bs) test, run_stops is_line_byte bs);
  head = ap (λ n. head piece.Directive n) (add-one (length (take_while is_line_byte bs)));
}
sound_by bs false test = record {
  breach = directive (take_while is_line_byte bs) (drop (prefix_len is_line_byte bs) bs) (run_passes is_line_byte bs) (run_stops is_line_byte bs)
      (λ is. both_ways (is_include (after_run class.Blank (take_while is_line_byte bs))) test (included (take_while is_line_byte bs) is))
      (ap (λ bs. 35 ∷ bs) (sym (run_joins is_line_byte bs)))
      refl refl;
  within = omega arith;
}

pub directive_sound : (bs : List ℕ) → Finds (35 ∷ bs) (directive_head bs)
directive_sound bs = sound_by bs (is_include (after_run class.Blank (take_while is_line_byte bs))) refl

head_by : (line rest : List ℕ) (t : Bool) → list_all is_line_byte line ≡ true → StopsBefore is_line_byte rest → is_include (after_run class.Blank line) ≡ t → directive_head (line ++ rest) ≡ found_by t line
head_by line rest t all stops e = ap (λ line. found_by (is_include (after_run class.Blank line)) line) (run_front is_line_byte line rest all stops) ∙ ap (λ t. found_by t line) e

pub directive_complete : (line rest : List ℕ) → IsDirective (35 ∷ line) → StopsBefore is_line_byte rest → directive_head (line ++ rest) ≡ Ok (head piece.Directive (length line + 1))
directive_complete line rest is stops = head_by line rest true (directive_on_line line is) stops (included line is)

pub directive_bad : (line after : List ℕ) → list_all is_line_byte line ≡ true → StopsBefore is_line_byte after → (IsDirective (35 ∷ line) → ⊥) → directive_head (line ++ after) ≡ Err (flaw breach.Directive 0)
directive_bad line after all stops none =
    let bad = false_from_ne_true (is_include (after_run class.Blank line)) (λ e. none (directive_is line all e)) in
    head_by line after false all stops bad
