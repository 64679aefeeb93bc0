-- The symbols of a source don't depend on where its bytes stand in memory.
use Rattle.std.proofs.Common.{◌≡◌, Result, Ok, Err, IfOk, subst, ℕ, ◌+◌, Bool, true, false, if◌then◌else◌, List, [], ◌∷◌, ◌++◌, Option, Some, None, map, refl, sym, ap, ◌∙◌}
use Rattle.std.proofs.lemmas.List.{map-append}
use Rattle.std.specs.Borrow.{Bor}
use Rattle.std.specs.Option.{option_map, option_to_list}
use Rattle.ooo_lexer.specs.declared.token.Token.{Token}
use Rattle.ooo_syntax.specs.declared.symbol.Symbol.{Symbol}
use Rattle.ooo_grammar.specs.Sets.{anywhere}
use Rattle.ooo_parser.specs.Classes.{is_word, is_type_word, counts}
use Rattle.ooo_parser.specs.Symbols.{single, is_pair, with_pair, behind, joined, one_if, numbered, symbols_of}
use Rattle.ooo_lexer.specs.declared.position.Position.{Position}
use Rattle.ooo_syntax.specs.declared.error.ParseBreach.{ParseBreach}
use Rattle.ooo_syntax.specs.declared.unit.Unit.{Unit as UnitSpec}
use Rattle.ooo_grammar.specs.Roots.{whole_text}
use Rattle.ooo_parser.specs.Anywhere.{IsTreeAnywhere, IsRefusedAnywhere}
use Rattle.ooo_parser.specs.Refusals.{IsTreeOf, IsRefused}
use Rattle.ooo_parser.specs.Sources.{lent, symbols_in}

abbrev on : List Symbol → List Symbol
on ts = map anywhere ts

either_on : (b : Bool) (xs ys us vs : List Symbol) → on xs ≡ us → on ys ≡ vs → on (if b then xs else ys) ≡ (if b then us else vs)
either_on true xs ys us vs e f = e
either_on false xs ys us vs e f = f

behind_on : (p : Option Symbol) (k : Symbol) → on (behind p k) ≡ behind (option_map anywhere p) (anywhere k)
behind_on None k = refl
behind_on (Some p) k = either_on (is_word k.terminal) (record k { first = p.first } ∷ []) (p ∷ k ∷ []) (record (anywhere k) { first = p.first } ∷ []) (anywhere p ∷ anywhere k ∷ []) refl refl

pair_on : (p : Option Symbol) (k l : Symbol) → anywhere (with_pair p k l) ≡ with_pair (option_map anywhere p) (anywhere k) (anywhere l)
pair_on None k l = refl
pair_on (Some p) k l = refl

listed_on : (p : Option Symbol) → on (option_to_list p) ≡ option_to_list (option_map anywhere p)
listed_on None = refl
listed_on (Some p) = refl

joined_on : (p : Option Symbol) (ks : List Symbol) → on (joined p ks) ≡ joined (option_map anywhere p) (on ks)
joined_on p [] = listed_on p
joined_on p (k ∷ []) = behind_on p k
joined_on p (k ∷ l ∷ ks) =
    either_on (is_pair k l) (joined (Some (with_pair p k l)) ks) (behind p k ++ joined None (l ∷ ks))
    (joined (Some (with_pair (option_map anywhere p) (anywhere k) (anywhere l))) (on ks)) (behind (option_map anywhere p) (anywhere k) ++ joined None (on (l ∷ ks)))
    (joined_on (Some (with_pair p k l)) ks ∙ ap (λ q. joined (Some q) (on ks)) (pair_on p k l))
    (map-append anywhere (behind p k) (joined None (l ∷ ks)) ∙ ap (λ xs. xs ++ on (joined None (l ∷ ks))) (behind_on p k) ∙ ap (λ xs. behind (option_map anywhere p) (anywhere k) ++ xs) (joined_on None (l ∷ ks)))

numbered_on : (b : Bool) (n : ℕ) (ks : List Symbol) → on (numbered b n ks) ≡ numbered b n (on ks)
numbered_on b n [] = refl
numbered_on b n (k ∷ ks) =
    ap (λ xs. record (anywhere k) { counts = counts b k.terminal; before = n } ∷ xs) (numbered_on (is_type_word k.terminal) (n + one_if (counts b k.terminal)) ks)

pub symbols_on : (ks : List Symbol) → on (symbols_of ks) ≡ symbols_of (on ks)
symbols_on ks = numbered_on false 0 (joined None ks) ∙ ap (numbered false 0) (joined_on None ks)

singles_on : (source : Bor (List ℕ)) (tokens : List Token) → on (map (single source) tokens) ≡ map (λ t. anywhere (single (lent source.now) t)) tokens
singles_on source [] = refl
singles_on source (t ∷ tokens) = ap (λ xs. anywhere (single source t) ∷ xs) (singles_on source tokens)

pub symbols_anywhere : (source : Bor (List ℕ)) (tokens : List Token) → on (symbols_of (map (single source) tokens)) ≡ symbols_in source.now tokens
symbols_anywhere source tokens = symbols_on (map (single source) tokens) ∙ ap symbols_of (singles_on source tokens)

-- ---- what is said of the symbols that the code makes is said of those of the source

module _ (source : Bor (List ℕ)) (tokens : List Token) (ts : List Symbol) (are : ts ≡ symbols_of (map (single source) tokens)) where
  same : on ts ≡ symbols_in source.now tokens
  same = ap on are ∙ symbols_anywhere source tokens

  pub tree_of_source : IsTreeAnywhere → {E : Type 0} (r : Result UnitSpec E) → IfOk r (IsTreeOf whole_text ts) → IfOk r (IsTreeOf whole_text (symbols_in source.now tokens))
  tree_of_source law (Ok tree) h = subst (λ ts. IsTreeOf whole_text ts tree) same (law whole_text ts tree h)
  tree_of_source law (Err e) h = tt

  pub refusal_of_source : IsRefusedAnywhere → (end : Position) (b : ParseBreach) (p : Position) → IsRefused whole_text ts end b p → IsRefused whole_text (symbols_in source.now tokens) end b p
  refusal_of_source law end b p r = subst (λ ts. IsRefused whole_text ts end b p) same (law whole_text ts end b p r)
