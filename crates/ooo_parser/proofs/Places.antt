-- Each symbol stands, and begins, where some token stands.
use Rattle.std.proofs.Common.{ℕ, ◌+◌, Bool, true, false, cond, List, [], ◌∷◌, Option, Some, None, All, map, length, ◌<◌, arith, subst}
use Rattle.std.specs.List.{Contains}
use Rattle.std.specs.Option.{IfSome}
use Rattle.std.specs.Borrow.{Bor}
use Rattle.std.proofs.lemmas.List.Elements.{All-nil, All-cons, All-head, All-tail, All-append, All-map, All-weaker, All-contains_itself}
use Rattle.std.proofs.lemmas.List.{length-map, get_or-map}
use Rattle.ooo_lexer.specs.declared.token.Token.{Token}
use Rattle.ooo_syntax.specs.declared.symbol.Symbol.{Symbol}
use Rattle.ooo_parser.specs.Classes.{is_word, is_type_word, counts}
use Rattle.ooo_parser.specs.Symbols.{place, single, is_pair, with_pair, behind, joined, one_if, numbered}
use Rattle.ooo_parser.specs.SymbolLaws.{IsPlaceIn, StandsIn, SymbolsStandAtTokens}

module _ (tokens : List Token) where
  choice_stands : (b : Bool) (xs ys : List Symbol) → All (StandsIn tokens) xs → All (StandsIn tokens) ys → All (StandsIn tokens) (cond b xs ys)
  choice_stands true xs ys f g = f
  choice_stands false xs ys f g = g

  pair_stands : (p : Option Symbol) (k l : Symbol) → IfSome p (StandsIn tokens) → StandsIn tokens k → StandsIn tokens l → StandsIn tokens (with_pair p k l)
  pair_stands None k l h i j = record { position = j.position; first = i.position }
  pair_stands (Some p) k l h i j = record { position = j.position; first = h.first }

  one_stands : (k : Symbol) → StandsIn tokens k → All (StandsIn tokens) (k ∷ [])
  one_stands k h = All-cons (StandsIn tokens) k [] h (All-nil (StandsIn tokens))

  behind_stands : (p : Option Symbol) (k : Symbol) → IfSome p (StandsIn tokens) → StandsIn tokens k → All (StandsIn tokens) (behind p k)
  behind_stands None k h i = one_stands k i
  behind_stands (Some p) k h i = choice_stands (is_word k.terminal) _ _
      (one_stands _ (record { position = i.position; first = h.first }))
      (All-cons (StandsIn tokens) p (k ∷ []) h (one_stands k i))

  joined_stands : (p : Option Symbol) (ks : List Symbol) → IfSome p (StandsIn tokens) → All (StandsIn tokens) ks → All (StandsIn tokens) (joined p ks)
  joined_stands None [] h i = All-nil (StandsIn tokens)
  joined_stands (Some p) [] h i = one_stands p h
  joined_stands p (k ∷ []) h i = behind_stands p k h (All-head (StandsIn tokens) k [] i)
  joined_stands p (k ∷ l ∷ ks) h i =
      let at_k = All-head (StandsIn tokens) k (l ∷ ks) i in
      let rest = All-tail (StandsIn tokens) k (l ∷ ks) i in
      choice_stands (is_pair k l) _ _
      (joined_stands (Some (with_pair p k l)) ks (pair_stands p k l h at_k (All-head (StandsIn tokens) l ks rest)) (All-tail (StandsIn tokens) l ks rest))
      (All-append (StandsIn tokens) (behind p k) _ (behind_stands p k h at_k) (joined_stands None (l ∷ ks) tt rest))

  numbered_stands : (t : Bool) (n : ℕ) (ks : List Symbol) → All (StandsIn tokens) ks → All (StandsIn tokens) (numbered t n ks)
  numbered_stands t n [] h = All-nil (StandsIn tokens)
  numbered_stands t n (k ∷ ks) h =
      let at_k = All-head (StandsIn tokens) k ks h in
      All-cons (StandsIn tokens) _ _ (record { position = at_k.position; first = at_k.first })
      (numbered_stands (is_type_word k.terminal) (n + one_if (counts t k.terminal)) ks (All-tail (StandsIn tokens) k ks h))

place_in : (tokens : List Token) → All (λ t. IsPlaceIn tokens (place t)) tokens
place_in tokens k d h =
    let l : k < length (map place tokens) = omega (arith, length-map tokens place) in
    subst (Contains (map place tokens)) (get_or-map place tokens k d (place d) h) (All-contains_itself (map place tokens) k (place d) l)

singles_stand : (source : Bor (List ℕ)) (tokens : List Token) → All (StandsIn tokens) (map (single source) tokens)
singles_stand source tokens = All-map (StandsIn tokens) (single source) tokens (All-weaker (λ t. IsPlaceIn tokens (place t)) (λ t. StandsIn tokens (single source t)) (λ t h. record { position = h; first = h }) tokens (place_in tokens))

pub symbols_stand : SymbolsStandAtTokens
symbols_stand source tokens = numbered_stands tokens false 0 _ (joined_stands tokens None _ tt (singles_stand source tokens))
