-- Symbols are not refused in two ways, and not where they have a tree.
use Rattle.std.proofs.Common.{◌≡◌, Bool, true, false, List, [], ◌∷◌, ◌++◌, None, ◌⊎◌, inl, inr, ⊎_elim, Any, refl, sym, ap, ◌∙◌, subst, append_assoc, append-nil}
use Rattle.std.proofs.lemmas.List.{append_cancel_right, same_from_push}
use Rattle.ooo_lexer.specs.declared.position.Position.{Position}
use Rattle.ooo_syntax.specs.declared.symbol.Symbol.{Symbol}
use Rattle.ooo_syntax.specs.declared.terminal.Terminal.{Terminal}
use Rattle.ooo_syntax.specs.declared.error.ParseBreach.{ParseBreach}
use Rattle.ooo_grammar.specs.Roots.{Root, Tree, roots}
use Rattle.ooo_grammar.specs.Gives.{level_limit, room_at}
use Rattle.ooo_grammar.specs.Laws.{Begins, BeginsWithin, Decided, FrontsAreBeginnings, HasNoTree, IsRefusedOnce, Refuses, ExceedsAt}
use Rattle.ooo_parser.specs.Words.{words, opens_word, lacks_word, in_place}
use Rattle.ooo_parser.specs.Refusals.{IsTreeOf, IsWithin, AWordMayFollow, AWordIsWithin, BreachOf, IsAtFirst, StopsAt, IsToldOf, itself, no_word, other_word, word_missing, word_too_deep, IsRefused, ends_early, refused, too_deep}
use Rattle.ooo_parser.proofs.Follows.{before_last, begins_prefix}
use Rattle.ooo_parser.proofs.Stops.{stops_within}

-- two ways to cut a list
abbrev Cuts : List Symbol → List Symbol → List Symbol → List Symbol → Type 0
Cuts xs ys us vs = ((zs : List Symbol) × (us ≡ xs ++ zs) × (ys ≡ zs ++ vs)) ⊎ ((zs : List Symbol) × (xs ≡ us ++ zs) × (vs ≡ zs ++ ys))

cuts : (xs ys us vs : List Symbol) → xs ++ ys ≡ us ++ vs → Cuts xs ys us vs
cuts [] ys us vs e = inl (us, refl, e)
cuts (x ∷ xs) ys [] vs e = inr (x ∷ xs, refl, sym e)
cuts (x ∷ xs) ys (u ∷ us) vs e =
    let i : x ≡ u = cc in
    let j : xs ++ ys ≡ us ++ vs = cc in
    ⊎_elim
    (λ l. inl (l.0, ap (λ x. x ∷ us) (sym i) ∙ ap (λ us. x ∷ us) l.1, l.2))
    (λ l. inr (l.0, ap (λ x. x ∷ xs) i ∙ ap (λ xs. u ∷ xs) l.1, l.2))
    (cuts xs ys us vs j)

-- ---- what is told of one symbol

breach_once : (read : List Symbol) (k : Symbol) (b c : ParseBreach) → BreachOf read k b → BreachOf read k c → b ≡ c
breach_once read k b c (inl h) (inl i) = h.1 ∙ sym i.1
breach_once read k b c (inl h) (inr i) = absurd (i.0 h.0)
breach_once read k b c (inr h) (inl i) = absurd (h.0 i.0)
breach_once read k b c (inr h) (inr i) = h.1 ∙ sym i.1

first_once : (later : List Symbol) (end : Position) (b c : ParseBreach) (p q : Position) → IsAtFirst later end b p → IsAtFirst later end c q → (b ≡ c) × (p ≡ q)
first_once [] end b c p q h i = (h.0 ∙ sym i.0, h.1 ∙ sym i.1)
first_once (k ∷ later) end b c p q h i = (h.0 ∙ sym i.0, h.1 ∙ sym i.1)

split : (b : Bool) → b ≡ true → b ≡ false → ⊥
split b e f = cc

any_weaker : (P Q : Terminal → Type 0) (ws : List Terminal) → ((t : Terminal) → P t → Q t) → Any P ws → Any Q ws
any_weaker P Q ws f a = (a.0, a.1, a.2, a.3, f a.1 a.4)

module _ (decided : Decided) (fronts : FrontsAreBeginnings) (limits : BeginsWithin) (once : IsRefusedOnce) (no_tree : HasNoTree) (x : Root) where
  may_follow : (read : List Symbol) (k : Symbol) → AWordIsWithin x read k → AWordMayFollow x read k
  may_follow read k w = any_weaker (λ t. IsWithin x (read ++ in_place read k t ∷ [])) (λ t. Begins (roots x) (read ++ in_place read k t ∷ [])) words (λ t s. (limits x level_limit (room_at None)).free (read ++ in_place read k t ∷ []) s) w

  told_once : (read : List Symbol) (k : Symbol) (later : List Symbol) (end : Position) (b c : ParseBreach) (p q : Position) → IsToldOf x read k later end b p → IsToldOf x read k later end c q → (b ≡ c) × (p ≡ q)
  told_once read k later end b c p q (itself o h e) (itself o' h' e') = (breach_once read k b c h h', e ∙ sym e')
  told_once read k later end b c p q (itself o h e) (no_word o' n f g) = absurd (split (opens_word k) o' o)
  told_once read k later end b c p q (itself o h e) (other_word o' w l i j) = absurd (split (opens_word k) o' o)
  told_once read k later end b c p q (itself o h e) (word_missing o' w l i) = absurd (split (opens_word k) o' o)
  told_once read k later end b c p q (itself o h e) (word_too_deep o' m n i j) = absurd (split (opens_word k) o' o)
  told_once read k later end b c p q (no_word o n f g) (itself o' h e) = absurd (split (opens_word k) o o')
  told_once read k later end b c p q (no_word o n f g) (no_word o' n' f' g') = (f ∙ sym f', g ∙ sym g')
  told_once read k later end b c p q (no_word o n f g) (other_word o' w l i j) = absurd (n (may_follow read k w))
  told_once read k later end b c p q (no_word o n f g) (word_missing o' w l i) = absurd (n (may_follow read k w))
  told_once read k later end b c p q (no_word o n f g) (word_too_deep o' m n' i j) = absurd (n m)
  told_once read k later end b c p q (other_word o w l i j) (itself o' h e) = absurd (split (opens_word k) o o')
  told_once read k later end b c p q (other_word o w l i j) (no_word o' n f g) = absurd (n (may_follow read k w))
  told_once read k later end b c p q (other_word o w l i j) (other_word o' w' l' i' j') = (breach_once read k b c i i', j ∙ sym j')
  told_once read k later end b c p q (other_word o w l i j) (word_missing o' w' l' i') = absurd (split (lacks_word k) l' l)
  told_once read k later end b c p q (other_word o w l i j) (word_too_deep o' m n i' j') = absurd (n w)
  told_once read k later end b c p q (word_missing o w l i) (itself o' h e) = absurd (split (opens_word k) o o')
  told_once read k later end b c p q (word_missing o w l i) (no_word o' n f g) = absurd (n (may_follow read k w))
  told_once read k later end b c p q (word_missing o w l i) (other_word o' w' l' i' j') = absurd (split (lacks_word k) l l')
  told_once read k later end b c p q (word_missing o w l i) (word_missing o' w' l' i') = first_once later end b c p q i i'
  told_once read k later end b c p q (word_missing o w l i) (word_too_deep o' m n i' j') = absurd (n w)
  told_once read k later end b c p q (word_too_deep o m n i j) (itself o' h e) = absurd (split (opens_word k) o o')
  told_once read k later end b c p q (word_too_deep o m n i j) (no_word o' n' f g) = absurd (n' m)
  told_once read k later end b c p q (word_too_deep o m n i j) (other_word o' w l i' j') = absurd (n w)
  told_once read k later end b c p q (word_too_deep o m n i j) (word_missing o' w l i') = absurd (n w)
  told_once read k later end b c p q (word_too_deep o m n i j) (word_too_deep o' m' n' i' j') = (i ∙ sym i', j ∙ sym j')

  -- ---- where symbols are refused

  prefix : (xs ys : List Symbol) → IsWithin x (xs ++ ys) → IsWithin x xs
  prefix xs ys s = (limits x level_limit (room_at None)).prefix xs ys s

  -- a symbol that is too deep stands before the place where symbols are refused, and a refused one doesn't
  not_deep : (ts rest deep : List Symbol) (read : List Symbol) → ts ≡ read ++ rest → StopsAt x read rest → ExceedsAt level_limit (room_at None) (roots x) ts deep → ⊥
  not_deep ts rest deep read is s d =
      ⊎_elim {C = ⊥}
      (λ l. d.beyond (prefix (d.read ++ d.token ∷ []) l.0 (subst (IsWithin x) l.1 (stops_within x read rest s))))
      (λ l. at l.0 l.1 l.2)
      (cuts (d.read ++ d.token ∷ []) d.later read rest (append_assoc d.read (d.token ∷ []) d.later ∙ sym d.is ∙ is))
    where
      at : (zs : List Symbol) → d.read ++ d.token ∷ [] ≡ read ++ zs → rest ≡ zs ++ d.later → ⊥
      at [] i j = d.beyond (subst (IsWithin x) (sym (i ∙ append-nil read)) (stops_within x read rest s))
      at (k ∷ zs) i j =
          let same : s.refuses.read ≡ read = append_cancel_right s.refuses.read read rest (sym s.refuses.is) in
          s.refuses.refused k (zs ++ d.later) j (subst (λ read. Begins (roots x) (read ++ k ∷ [])) (sym same)
          (begins_prefix decided fronts limits x (read ++ k ∷ []) zs (subst (Begins (roots x)) (i ∙ sym (append_assoc read (k ∷ []) zs)) d.begins)))

  -- two symbols are not both the first that is too deep
  deep_once : (ts r s : List Symbol) (d : ExceedsAt level_limit (room_at None) (roots x) ts r) (e : ExceedsAt level_limit (room_at None) (roots x) ts s) → d.token ≡ e.token
  deep_once ts r s d e =
      ⊎_elim
      (λ l. at d.read d.token d.beyond e.read e.token e.within l.0 l.1)
      (λ l. sym (at e.read e.token e.beyond d.read d.token d.within l.0 l.1))
      (cuts (d.read ++ d.token ∷ []) d.later (e.read ++ e.token ∷ []) e.later (append_assoc d.read (d.token ∷ []) d.later ∙ sym d.is ∙ e.is ∙ sym (append_assoc e.read (e.token ∷ []) e.later)))
    where
      at : (read1 : List Symbol) (k1 : Symbol) → (IsWithin x (read1 ++ k1 ∷ []) → ⊥) → (read2 : List Symbol) (k2 : Symbol) → IsWithin x read2 → (zs : List Symbol) → read2 ++ k2 ∷ [] ≡ (read1 ++ k1 ∷ []) ++ zs → k1 ≡ k2
      at read1 k1 n read2 k2 w [] i = sym (same_from_push read2 read1 k2 k1 (i ∙ append-nil (read1 ++ k1 ∷ []))).1
      at read1 k1 n read2 k2 w (j ∷ zs) i =
          let r = before_last read2 (read1 ++ k1 ∷ []) k2 j zs i in
          absurd (n (prefix (read1 ++ k1 ∷ []) r.0 (subst (IsWithin x) r.1 w)))

  stops_early : (ts : List Symbol) → StopsAt x ts [] → Refuses (roots x) ts []
  stops_early ts s = subst (λ us. Refuses (roots x) us []) (append-nil ts) s.refuses

  stops_there : (ts read rest : List Symbol) → ts ≡ read ++ rest → StopsAt x read rest → Refuses (roots x) ts rest
  stops_there ts read rest i s = subst (λ us. Refuses (roots x) us rest) (sym i) s.refuses

  deep_starts : (ts later : List Symbol) (k : Symbol) (d : ExceedsAt level_limit (room_at None) (roots x) ts (k ∷ later)) → k ≡ d.token
  deep_starts ts later k d = let e = d.starts in cc

  pub refused_once : (ts : List Symbol) (end : Position) (b c : ParseBreach) (p q : Position) → IsRefused x ts end b p → IsRefused x ts end c q → (b ≡ c) × (p ≡ q)
  refused_once ts end b c p q (ends_early s e f) (ends_early s' e' f') = (e ∙ sym e', f ∙ sym f')
  refused_once ts end b c p q (ends_early s e f) (refused read k later i s' t) = let j = once x ts [] (k ∷ later) (stops_early ts s) (stops_there ts read (k ∷ later) i s') in absurd cc
  refused_once ts end b c p q (ends_early s e f) (too_deep k later d g h) = absurd (not_deep ts [] (k ∷ later) ts (sym (append-nil ts)) s d)
  refused_once ts end b c p q (refused read k later i s t) (ends_early s' e f) = let j = once x ts [] (k ∷ later) (stops_early ts s') (stops_there ts read (k ∷ later) i s) in absurd cc
  refused_once ts end b c p q (refused read k later i s t) (refused read' k' later' i' s' t') =
      let j = once x ts (k ∷ later) (k' ∷ later') (stops_there ts read (k ∷ later) i s) (stops_there ts read' (k' ∷ later') i' s') in
      let same_k : k ≡ k' = cc in
      let same_later : later ≡ later' = cc in
      let same_read : read ≡ read' = append_cancel_right read read' (k ∷ later) (sym i ∙ i' ∙ ap (λ r. read' ++ r) (sym j)) in
      told_once read' k' later' end b c p q
      (subst (λ read. IsToldOf x read k' later' end b p) same_read (subst (λ k. IsToldOf x read k later' end b p) same_k (subst (λ later. IsToldOf x read k later end b p) same_later t))) t'
  refused_once ts end b c p q (refused read k later i s t) (too_deep k' later' d g h) = absurd (not_deep ts (k ∷ later) (k' ∷ later') read i s d)
  refused_once ts end b c p q (too_deep k later d g h) (ends_early s e f) = absurd (not_deep ts [] (k ∷ later) ts (sym (append-nil ts)) s d)
  refused_once ts end b c p q (too_deep k later d g h) (refused read k' later' i s t) = absurd (not_deep ts (k' ∷ later') (k ∷ later) read i s d)
  refused_once ts end b c p q (too_deep k later d g h) (too_deep k' later' d' g' h') =
      let same : k ≡ k' = deep_starts ts later k d ∙ deep_once ts (k ∷ later) (k' ∷ later') d d' ∙ sym (deep_starts ts later' k' d') in
      (g ∙ sym g', h ∙ ap (λ k. k.first) same ∙ sym h')

  pub not_refused : (ts : List Symbol) (end : Position) (tree : Tree x) (b : ParseBreach) (p : Position) → IsTreeOf x ts tree → IsRefused x ts end b p → ⊥
  not_refused ts end tree b p t (ends_early s e f) = no_tree x ts [] tree (stops_early ts s) ((limits x level_limit (room_at None)).derives ts tree t.spelled)
  not_refused ts end tree b p t (refused read k later i s told) = no_tree x ts (k ∷ later) tree (stops_there ts read (k ∷ later) i s) ((limits x level_limit (room_at None)).derives ts tree t.spelled)
  not_refused ts end tree b p t (too_deep k later d g h) =
      d.beyond (prefix (d.read ++ d.token ∷ []) d.later (subst (IsWithin x) (d.is ∙ sym (append_assoc d.read (d.token ∷ []) d.later)) ((limits x level_limit (room_at None)).begins ts tree t.spelled)))

  pub tree_once : (ts : List Symbol) (a b : Tree x) → IsTreeOf x ts a → IsTreeOf x ts b → a ≡ b
  tree_once ts a b s t = s.only b ((limits x level_limit (room_at None)).derives ts b t.spelled)
