-- How single symbols are joined, step by step.
use Rattle.std.proofs.Common.{◌≡◌, Bool, true, false, cond, List, [], ◌∷◌, ◌++◌, Option, Some, None, refl, sym, ap, ◌∙◌, append-nil, append_assoc, map, All, ℕ}
use Rattle.std.proofs.lemmas.Bool.{cond-true, cond-false}
use Rattle.std.proofs.lemmas.List.Elements.{All-rest}
use Rattle.ooo_lexer.specs.declared.token.Token.{Token}
use Rattle.ooo_lexer.specs.Spans.{IsWithin}
use Rattle.ooo_syntax.specs.declared.symbol.Symbol.{Symbol}
use Rattle.ooo_parser.specs.Symbols.{is_pair, begins_pair, with_pair, behind, joined}

pub joined_pair : (p : Option Symbol) (k l : Symbol) (ks : List Symbol) → is_pair k l ≡ true → joined p (k ∷ l ∷ ks) ≡ joined (Some (with_pair p k l)) ks
joined_pair p k l ks e = cond-true (is_pair k l) _ _ e

pub joined_other : (p : Option Symbol) (k : Symbol) (ks : List Symbol) → begins_pair k ks ≡ false → joined p (k ∷ ks) ≡ behind p k ++ joined None ks
joined_other p k [] e = sym (append-nil (behind p k))
joined_other p k (l ∷ ks) e = cond-false (is_pair k l) _ _ e

-- ---- the loop's steps, where `made` are the symbols so far, and the pairs and the tokens are left

pub joins_pair : (made whole : List Symbol) (f : Token → Symbol) (p : Option Symbol) (k l q : Symbol) (t : Token) (rest after others : List Token) → made ++ joined p (map f rest) ≡ whole → rest ≡ t ∷ after → k ≡ f t
    → map f after ≡ l ∷ map f others → is_pair k l ≡ true → q ≡ with_pair p k l → made ++ joined (Some q) (map f others) ≡ whole
joins_pair made whole f p k l q t rest after others h starts is next pair with =
    let seen : map f rest ≡ k ∷ l ∷ map f others = ap (map f) starts ∙ ap (λ x. x ∷ map f after) (sym is) ∙ ap (λ ks. k ∷ ks) next in
    ap (λ q. made ++ joined (Some q) (map f others)) with ∙ ap (λ ks. made ++ ks) (sym (joined_pair p k l (map f others) pair)) ∙ ap (λ ks. made ++ joined p ks) (sym seen) ∙ h

pub joins_other : (made pushed whole : List Symbol) (f : Token → Symbol) (p : Option Symbol) (k : Symbol) (t : Token) (rest after : List Token) → made ++ joined p (map f rest) ≡ whole → rest ≡ t ∷ after → k ≡ f t
    → begins_pair k (map f after) ≡ false → pushed ≡ made ++ behind p k → pushed ++ joined None (map f after) ≡ whole
joins_other made pushed whole f p k t rest after h starts is none push =
    let seen : map f rest ≡ k ∷ map f after = ap (map f) starts ∙ ap (λ x. x ∷ map f after) (sym is) in
    ap (λ ks. ks ++ joined None (map f after)) push ∙ append_assoc made (behind p k) (joined None (map f after)) ∙ ap (λ ks. made ++ ks) (sym (joined_other p k (map f after) none)) ∙ ap (λ ks. made ++ joined p ks) (sym seen) ∙ h

pub within_rest : (source : List ℕ) (t : Token) (rest after : List Token) → All (IsWithin source) rest → rest ≡ t ∷ after → All (IsWithin source) after
within_rest source t rest after h e = All-rest (IsWithin source) t after rest e h
