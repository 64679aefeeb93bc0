-- Symbols have a tree or are refused.
use Rattle.std.proofs.Common.{◌≡◌, ℕ, zero, suc, ◌<◌, ◌≤◌, Bool, true, false, List, [], ◌∷◌, ◌++◌, None, ◌⊎◌, inl, inr, ⊎_elim, length, take, get_or, All, refl, sym, ap, ◌∙◌, subst, arith, add-one, append-nil}
use Rattle.std.proofs.lemmas.List.Elements.{All-nil}
use Rattle.ooo_lexer.specs.declared.position.Position.{Position}
use Rattle.ooo_syntax.specs.declared.symbol.Symbol.{Symbol}
use Rattle.ooo_syntax.specs.declared.terminal.Terminal.TheVariants as terminal
use Rattle.ooo_syntax.specs.declared.error.ParseBreach.{ParseBreach}
use Rattle.ooo_syntax.specs.declared.error.ParseBreach.TheVariants as breach
use Rattle.ooo_syntax.specs.declared.leaves.TypeName.{TypeName}
use Rattle.ooo_grammar.specs.Forms.{Outcome, Got, Bad, Deep}
use Rattle.ooo_grammar.specs.Lexis.{type_name}
use Rattle.ooo_grammar.specs.Readings.{reader}
use Rattle.ooo_grammar.specs.Roots.{Root, Tree, roots}
use Rattle.ooo_grammar.specs.Sets.{in_set}
use Rattle.ooo_grammar.specs.Gives.{level_limit, room_at}
use Rattle.ooo_grammar.specs.Laws.{BeginsWithin, Decided, DecidesTypes, FrontsAreBeginnings, Refuses, Keeps, ExceedsAt}
use Rattle.ooo_parser.specs.declared.follow.Follow.{Follow}
use Rattle.ooo_parser.specs.declared.follow.Follow.TheVariants as follow
use Rattle.ooo_parser.specs.Words.{words, opens_word, lacks_word, in_place}
use Rattle.ooo_parser.specs.Refusals.{IsTreeOf, IsWithin, AWordIsWithin, IsType, IsSignalOfType, EndsInSignalOfType, IsForeign, BreachOf, breach_of_first, foreign_words, IsAtFirst, StopsAt, IsToldOf, itself, no_word, other_word, word_missing, word_too_deep, IsRefused, ends_early, refused, too_deep}
use Rattle.ooo_parser.specs.Reaches.{reads_whole, FollowsAs, AWordFollowsAs, SoFar}
use Rattle.ooo_parser.proofs.Follows.{whole_got, follows_by, any_of, deep_more, never_more, so_far_more, at_end}
use Rattle.ooo_parser.proofs.Outcomes.{tree_of}

abbrev pub Decision : Type 0 → Type 0
Decision P = P ⊎ (P → ⊥)

at_bool : (b c : Bool) → Decision (b ≡ c)
at_bool true true = inl refl
at_bool true false = inr (λ e. cc)
at_bool false true = inr (λ e. cc)
at_bool false false = inl refl

both : {P Q : Type 0} → Decision P → Decision Q → Decision (P × Q)
both (inl p) (inl q) = inl (p, q)
both (inl p) (inr q) = inr (λ h. q h.1)
both (inr p) q = inr (λ h. p h.0)

either : {P Q : Type 0} → Decision P → Decision Q → Decision (P ⊎ Q)
either (inl p) q = inl (inl p)
either (inr p) (inl q) = inl (inr q)
either (inr p) (inr q) = inr (λ h. ⊎_elim {C = ⊥} p q h)

-- ---- as what a symbol is refused

module _ (types : DecidesTypes) where
  at_type : (ts : List Symbol) → Decision (IsType ts)
  at_type ts = at (reader level_limit (room_at None) type_name ts) refl
    where
      none : (o : Outcome TypeName) → reader level_limit (room_at None) type_name ts ≡ o → ((t : TypeName) → o ≡ Got t [] → ⊥) → IsType ts → ⊥
      none o e n h = n h.0 (sym e ∙ (types level_limit (room_at None) ts h.0).1 h.1)

      at : (o : Outcome TypeName) → reader level_limit (room_at None) type_name ts ≡ o → Decision (IsType ts)
      at (Got t []) e = inl (t, (types level_limit (room_at None) ts t).0 e)
      at (Got t (k ∷ us)) e = inr (none (Got t (k ∷ us)) e (λ t i. cc))
      at (Bad rest) e = inr (none (Bad rest) e (λ t i. cc))
      at (Deep rest) e = inr (none (Deep rest) e (λ t i. cc))

  at_signal : (ts : List Symbol) → Decision (IsSignalOfType ts)
  at_signal [] = inr (λ h. h)
  at_signal (s ∷ []) = inr (λ h. h)
  at_signal (s ∷ l ∷ ts) = three (at_bool (in_set (terminal.ScSignal ∷ []) s) true) (at_bool (in_set (terminal.Less ∷ []) l) true) (at_type ts)
    where
      three : {P Q R : Type 0} → Decision P → Decision Q → Decision R → Decision (P × Q × R)
      three (inl p) (inl q) (inl r) = inl (p, q, r)
      three (inl p) (inl q) (inr r) = inr (λ h. r h.2)
      three (inl p) (inr q) r = inr (λ h. q h.1)
      three (inr p) q r = inr (λ h. p h.0)

  at_ends : (ts : List Symbol) → Decision (EndsInSignalOfType ts)
  at_ends [] = inr (λ h. at h.0 h.1 h.2 h.3)
    where
      at : (before after : List Symbol) → [] ≡ before ++ after → IsSignalOfType after → ⊥
      at [] after e s = subst IsSignalOfType (sym e) s
      at (k ∷ before) after e s = cc
  at_ends (k ∷ ts) = at (at_signal (k ∷ ts)) (at_ends ts)
    where
      later : (IsSignalOfType (k ∷ ts) → ⊥) → (EndsInSignalOfType ts → ⊥) → (before after : List Symbol) → k ∷ ts ≡ before ++ after → IsSignalOfType after → ⊥
      later n m [] after e s = n (subst IsSignalOfType (sym e) s)
      later n m (j ∷ before) after e s = let i : ts ≡ before ++ after = cc in m (before, after, i, s)

      at : Decision (IsSignalOfType (k ∷ ts)) → Decision (EndsInSignalOfType ts) → Decision (EndsInSignalOfType (k ∷ ts))
      at (inl s) d = inl ([], k ∷ ts, refl, s)
      at (inr n) (inl e) = inl (k ∷ e.0, e.1, ap (λ ts. k ∷ ts) e.2, e.3)
      at (inr n) (inr m) = inr (λ h. later n m h.0 h.1 h.2 h.3)

  pub some_breach : (read : List Symbol) (k : Symbol) → (b : ParseBreach) × BreachOf read k b
  some_breach read k = at (either (at_bool (in_set foreign_words k) true) (both (at_bool (in_set (terminal.Comma ∷ []) k) true) (at_ends read)))
    where
      at : Decision (IsForeign read k) → (b : ParseBreach) × BreachOf read k b
      at (inl h) = (breach.NotInProfile, inl (h, refl))
      at (inr n) = (breach.Syntax, inr (n, refl))

  some_first : (later : List Symbol) (end : Position) → (b : ParseBreach) × (p : Position) × IsAtFirst later end b p
  some_first [] end = (breach.Syntax, end, (refl, refl))
  some_first (k ∷ later) end = (breach_of_first k, k.first, (refl, refl))

  module _ (decided : Decided) (fronts : FrontsAreBeginnings) (limits : BeginsWithin) (x : Root) where
    -- ---- whether some word may follow

    module _ (read : List Symbol) (k : Symbol) (h : IsWithin x read) where
      abbrev Tried : ℕ → Type 0
      Tried i = (most : Follow) × (All (λ t. IsWithin x (read ++ in_place read k t ∷ []) → ⊥) (take i words) × SoFar x read k (take i words) most)

      next_word : (i : ℕ) → i < length words → Tried i → Tried (suc i) ⊎ AWordIsWithin x read k
      next_word i l t = at _ (follows_by decided fronts limits x read k (get_or words i terminal.Word) h)
        where
          at : (f : Follow) → FollowsAs x read k (get_or words i terminal.Word) f → Tried (suc i) ⊎ AWordIsWithin x read k
          at follow.Within f = inr (any_of limits x read k (λ t. IsWithin x (read ++ in_place read k t ∷ [])) words i terminal.Word l f)
          at follow.TooDeep f = let r = deep_more limits x read k words i terminal.Word l t.1.0 f in inl (subst Tried (add-one i) (follow.TooDeep, (r.0, r.1)))
          at follow.Never f = inl (subst Tried (add-one i) (t.0, (never_more limits x read k words i terminal.Word l t.1.0 f, so_far_more limits x read k words i terminal.Word l t.0 t.1.1 f)))

      all_words : (i : ℕ) → i ≤ length words → Tried i ⊎ AWordIsWithin x read k
      all_words zero l = inl (follow.Never, (All-nil _, All-nil _))
      all_words (suc i) l = ⊎_elim (λ t. next_word i (omega arith) t) inr (all_words i (omega arith))

      pub some_follow : (f : Follow) × AWordFollowsAs x read k f
      some_follow = ⊎_elim
          (λ t. (t.0, at_end limits x read k (length words) t.0 (omega arith) t.1.0 t.1.1))
          (λ w. (follow.Within, w))
          (all_words (length words) (omega arith))

    -- ---- what is told

    pub some_told : (read : List Symbol) (k : Symbol) (later : List Symbol) (end : Position) → IsWithin x read → (b : ParseBreach) × (p : Position) × IsToldOf x read k later end b p
    some_told read k later end h = at (opens_word k) refl
      where
        word : opens_word k ≡ true → AWordIsWithin x read k → (l : Bool) → lacks_word k ≡ l → (b : ParseBreach) × (p : Position) × IsToldOf x read k later end b p
        word o w true e = let f = some_first later end in (f.0, f.1, word_missing o w e f.2)
        word o w false e = let b = some_breach read k in (b.0, k.position, other_word o w e b.1 refl)

        opened : opens_word k ≡ true → (f : Follow) → AWordFollowsAs x read k f → (b : ParseBreach) × (p : Position) × IsToldOf x read k later end b p
        opened o follow.Never n = (breach.Syntax, k.first, no_word o n refl refl)
        opened o follow.TooDeep d = (breach.TooDeep, k.first, word_too_deep o d.0 d.1 refl refl)
        opened o follow.Within w = word o w (lacks_word k) refl

        at : (o : Bool) → opens_word k ≡ o → (b : ParseBreach) × (p : Position) × IsToldOf x read k later end b p
        at false e = let b = some_breach read k in (b.0, k.position, itself e b.1 refl)
        at true e = let f = some_follow read k h in opened e f.0 f.1

    abbrev Answered : List Symbol → Position → Type 0
    Answered ts end = ((tree : Tree x) × IsTreeOf x ts tree) ⊎ ((b : ParseBreach) × (p : Position) × IsRefused x ts end b p)

    stopped : (ts : List Symbol) (end : Position) (rest : List Symbol) → Refuses (roots x) ts rest × Keeps level_limit (room_at None) (roots x) ts rest → Answered ts end
    stopped ts end [] r = inr (breach.Syntax, end, ends_early (record { refuses = subst (λ us. Refuses (roots x) us []) (sym (append-nil ts)) r.0; keeps = subst (λ us. Keeps level_limit (room_at None) (roots x) us []) (sym (append-nil ts)) r.1 }) refl refl)
    stopped ts end (k ∷ later) r =
        let s : StopsAt x r.1.read (k ∷ later) = record { refuses = subst (λ us. Refuses (roots x) us (k ∷ later)) r.1.is r.0; keeps = subst (λ us. Keeps level_limit (room_at None) (roots x) us (k ∷ later)) r.1.is r.1 } in
        let t = some_told r.1.read k later end r.1.within in
        inr (t.0, t.1, refused r.1.read k later r.1.is s t.2)

    pub answered : (ts : List Symbol) (end : Position) → ((tree : Tree x) × IsTreeOf x ts tree) ⊎ ((b : ParseBreach) × (p : Position) × IsRefused x ts end b p)
    answered ts end = at (reads_whole x ts) refl
      where
        at : (o : Outcome (Tree x)) → reads_whole x ts ≡ o → ((tree : Tree x) × IsTreeOf x ts tree) ⊎ ((b : ParseBreach) × (p : Position) × IsRefused x ts end b p)
        at (Got a rest) e = inl (a, tree_of decided x ts a (e ∙ ap (Got a) (whole_got _ a rest e)))
        at (Bad rest) e = stopped ts end rest ((decided x level_limit (room_at None)).refused ts rest e)
        at (Deep rest) e =
            let r = (decided x level_limit (room_at None)).exceeded ts rest e in
            inr (breach.TooDeep, r.token.first, too_deep r.token r.later (subst (ExceedsAt level_limit (room_at None) (roots x) ts) r.starts r) refl refl)
