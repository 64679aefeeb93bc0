-- What a reading of symbols and one more says of that one.
use Rattle.std.proofs.Common.{◌≡◌, ℕ, ◌+◌, ◌<◌, ◌≤◌, List, [], ◌∷◌, ◌++◌, None, length, take, get_or, All, Any, refl, sym, ap, ◌∙◌, subst, arith, append_assoc, append-nil, length-append}
use Rattle.std.proofs.lemmas.List.{take_all, get_or_default}
use Rattle.std.proofs.lemmas.List.Elements.{All-more}
use Rattle.ooo_syntax.specs.declared.symbol.Symbol.{Symbol}
use Rattle.ooo_syntax.specs.declared.terminal.Terminal.{Terminal}
use Rattle.ooo_grammar.specs.Forms.{Outcome, Got, Bad, Deep}
use Rattle.ooo_grammar.specs.Roots.{Root, Tree, roots}
use Rattle.ooo_grammar.specs.Gives.{level_limit, room_at}
use Rattle.ooo_grammar.specs.Laws.{Derives, Begins, BeginsWithin, Decided, FrontsAreBeginnings, whole}
use Rattle.ooo_parser.specs.declared.follow.Follow.{Follow}
use Rattle.ooo_parser.specs.declared.follow.Follow.TheVariants as follow
use Rattle.ooo_parser.specs.Words.{words, in_place}
use Rattle.ooo_parser.specs.Refusals.{IsWithin}
use Rattle.ooo_parser.specs.Reaches.{reads_whole, extent_of, follow_of, FollowsAs, AWordFollowsAs, SoFar}

-- a list that another one and a last symbol begin with
pub before_last : (xs ys : List Symbol) (w l : Symbol) (ls : List Symbol) → xs ++ w ∷ [] ≡ ys ++ l ∷ ls → (zs : List Symbol) × (xs ≡ ys ++ zs)
before_last [] [] w l ls e = ([], refl)
before_last [] (y ∷ ys) w l ls e = absurd (omega (arith, ap length e, length-append ys (l ∷ ls)))
before_last (x ∷ xs) [] w l ls e = (x ∷ xs, refl)
before_last (x ∷ xs) (y ∷ ys) w l ls e =
    let i : x ≡ y = cc in
    let j : xs ++ w ∷ [] ≡ ys ++ l ∷ ls = cc in
    let r = before_last xs ys w l ls j in
    (r.0, ap (λ x. x ∷ xs) i ∙ ap (λ xs. y ∷ xs) r.1)

pub whole_got : {A : Type 0} (o : Outcome A) (a : A) (rest : List Symbol) → whole o ≡ Got a rest → rest ≡ []
whole_got (Got b []) a rest e = cc
whole_got (Got b (k ∷ us)) a rest e = absurd cc
whole_got (Bad r) a rest e = absurd cc
whole_got (Deep r) a rest e = absurd cc

module _ (decided : Decided) (fronts : FrontsAreBeginnings) (limits : BeginsWithin) (x : Root) where
  pub begins_prefix : (xs ys : List Symbol) → Begins (roots x) (xs ++ ys) → Begins (roots x) xs
  begins_prefix xs ys b =
      let g = (fronts x (xs ++ ys)).0 b in
      (fronts x xs).1 (ys ++ g.0, g.1, subst (λ ts. Derives (roots x) ts g.1) (append_assoc xs ys g.0) g.2)

  pub got_within : (ts : List Symbol) (a : Tree x) (rest : List Symbol) → reads_whole x ts ≡ Got a rest → IsWithin x ts
  got_within ts a rest e =
      let nil = whole_got _ a rest e in
      (limits x level_limit (room_at None)).begins ts a ((decided x level_limit (room_at None)).found ts a (e ∙ ap (Got a) nil))

  pub ends_within : (ts : List Symbol) → reads_whole x ts ≡ Bad [] → IsWithin x ts
  ends_within ts e =
      let r = (decided x level_limit (room_at None)).refused ts [] e in
      subst (IsWithin x) (sym (append-nil r.1.read) ∙ sym r.1.is) r.1.within

  pub refused_not : (ts : List Symbol) (k : Symbol) (us : List Symbol) → reads_whole x ts ≡ Bad (k ∷ us) → Begins (roots x) ts → ⊥
  refused_not ts k us e b =
      let r = (decided x level_limit (room_at None)).refused ts (k ∷ us) e in
      r.0.refused k us refl (begins_prefix (r.0.read ++ k ∷ []) us (subst (Begins (roots x)) (r.0.is ∙ sym (append_assoc r.0.read (k ∷ []) us)) b))

  pub deep_last : (read : List Symbol) (w : Symbol) (rest : List Symbol) → IsWithin x read → reads_whole x (read ++ w ∷ []) ≡ Deep rest → Begins (roots x) (read ++ w ∷ []) × (IsWithin x (read ++ w ∷ []) → ⊥)
  deep_last read w rest h e = let d = (decided x level_limit (room_at None)).exceeded (read ++ w ∷ []) rest e in at d.read d.token d.later d.is d.begins d.beyond
    where
      at : (front : List Symbol) (t : Symbol) (later : List Symbol) → read ++ w ∷ [] ≡ front ++ t ∷ later → Begins (roots x) (front ++ t ∷ []) → (IsWithin x (front ++ t ∷ []) → ⊥) → Begins (roots x) (read ++ w ∷ []) × (IsWithin x (read ++ w ∷ []) → ⊥)
      at front t [] i b n = (subst (Begins (roots x)) (sym i) b, λ s. n (subst (IsWithin x) i s))
      at front t (l ∷ ls) i b n =
          let r = before_last read (front ++ t ∷ []) w l ls (i ∙ sym (append_assoc front (t ∷ []) (l ∷ ls))) in
          absurd (n ((limits x level_limit (room_at None)).prefix (front ++ t ∷ []) r.0 (subst (IsWithin x) r.1 h)))

  pub follows_by : (read : List Symbol) (k : Symbol) (t : Terminal) → IsWithin x read → FollowsAs x read k t (follow_of (extent_of (reads_whole x (read ++ in_place read k t ∷ []))))
  follows_by read k t h = at (reads_whole x (read ++ in_place read k t ∷ [])) refl
    where
      at : (o : Outcome (Tree x)) → reads_whole x (read ++ in_place read k t ∷ []) ≡ o → FollowsAs x read k t (follow_of (extent_of o))
      at (Got a rest) e = got_within (read ++ in_place read k t ∷ []) a rest e
      at (Bad []) e = ends_within (read ++ in_place read k t ∷ []) e
      at (Bad (j ∷ us)) e = refused_not (read ++ in_place read k t ∷ []) j us e
      at (Deep rest) e = deep_last read (in_place read k t) rest h e

-- ---- the words one after the other

none_of : (P : Terminal → Type 0) (ws : List Terminal) → All (λ t. P t → ⊥) ws → Any P ws → ⊥
none_of P ws h a = h a.0 a.1 a.2 (subst P (sym a.3) a.4)

module _ (limits : BeginsWithin) (x : Root) (read : List Symbol) (k : Symbol) where
  abbrev MayFollow : Terminal → Type 0
  MayFollow t = Begins (roots x) (read ++ in_place read k t ∷ [])

  abbrev MayFollowWithin : Terminal → Type 0
  MayFollowWithin t = IsWithin x (read ++ in_place read k t ∷ [])

  not_within : (t : Terminal) → (MayFollow t → ⊥) → MayFollowWithin t → ⊥
  not_within t n s = n ((limits x level_limit (room_at None)).free (read ++ in_place read k t ∷ []) s)

  pub any_of : (P : Terminal → Type 0) (ws : List Terminal) (i : ℕ) (d : Terminal) → i < length ws → P (get_or ws i d) → Any P ws
  any_of P ws i d h p = (i, get_or ws i d, h, get_or_default ws i (get_or ws i d) d h, p)

  -- a word that is too deep
  pub deep_more : (ws : List Terminal) (i : ℕ) (d : Terminal) → i < length ws → All (λ t. MayFollowWithin t → ⊥) (take i ws) → FollowsAs x read k (get_or ws i d) follow.TooDeep → All (λ t. MayFollowWithin t → ⊥) (take (i + 1) ws) × Any MayFollow ws
  deep_more ws i d h a f = (All-more (λ t. MayFollowWithin t → ⊥) ws i d h a f.1, any_of MayFollow ws i d h f.0)

  -- a word that may not follow
  pub never_more : (ws : List Terminal) (i : ℕ) (d : Terminal) → i < length ws → All (λ t. MayFollowWithin t → ⊥) (take i ws) → FollowsAs x read k (get_or ws i d) follow.Never → All (λ t. MayFollowWithin t → ⊥) (take (i + 1) ws)
  never_more ws i d h a f = All-more (λ t. MayFollowWithin t → ⊥) ws i d h a (not_within (get_or ws i d) f)

  pub so_far_more : (ws : List Terminal) (i : ℕ) (d : Terminal) → i < length ws → (most : Follow) → SoFar x read k (take i ws) most → FollowsAs x read k (get_or ws i d) follow.Never → SoFar x read k (take (i + 1) ws) most
  so_far_more ws i d h follow.Never s f = All-more (λ t. MayFollow t → ⊥) ws i d h s f
  so_far_more ws i d h follow.TooDeep s f = s
  so_far_more ws i d h follow.Within s f = s

  -- the list of words by another name
  module _ (items : List Terminal) (is : items ≡ words) (i : ℕ) (d : Terminal) (here : i < length items) (most f : Follow) (h : FollowsAs x read k (get_or items i d) f) where
    here_too : i < length words
    here_too = subst (λ ws. i < length ws) is here

    as_found : (g : Follow) → f ≡ g → FollowsAs x read k (get_or words i d) g
    as_found g e = subst (λ f. FollowsAs x read k (get_or words i d) f) e (subst (λ ws. FollowsAs x read k (get_or ws i d) f) is h)

    pub more_deep : f ≡ follow.TooDeep → most ≡ follow.TooDeep → All (λ t. MayFollowWithin t → ⊥) (take i words) → All (λ t. MayFollowWithin t → ⊥) (take (i + 1) words) × SoFar x read k (take (i + 1) words) most
    more_deep e m a = let r = deep_more words i d here_too a (as_found follow.TooDeep e) in (r.0, subst (SoFar x read k (take (i + 1) words)) (sym m) r.1)

    pub more_never : f ≡ follow.Never → (before : Follow) → most ≡ before → All (λ t. MayFollowWithin t → ⊥) (take i words) → SoFar x read k (take i words) before → All (λ t. MayFollowWithin t → ⊥) (take (i + 1) words) × SoFar x read k (take (i + 1) words) most
    more_never e before m a s = let n = as_found follow.Never e in (never_more words i d here_too a n, subst (SoFar x read k (take (i + 1) words)) (sym m) (so_far_more words i d here_too before s n))

  -- all words were tried
  pub at_end : (i : ℕ) (most : Follow) → length words ≤ i → All (λ t. MayFollowWithin t → ⊥) (take i words) → SoFar x read k (take i words) most → AWordFollowsAs x read k most
  at_end i follow.Never h a s = none_of MayFollow words (subst (All (λ t. MayFollow t → ⊥)) (take_all i words h) s)
  at_end i follow.TooDeep h a s = (s, none_of MayFollowWithin words (subst (All (λ t. MayFollowWithin t → ⊥)) (take_all i words h) a))
  at_end i follow.Within h a s = absurd s
