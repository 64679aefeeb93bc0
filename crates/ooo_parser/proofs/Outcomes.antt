-- What a reader's answer says of whole texts.
use Rattle.std.proofs.Common.{◌≡◌, ℕ, ◌-◌, ◌<◌, ◌≤◌, List, [], ◌∷◌, ◌++◌, None, Err, length, get_or, take, drop, refl, sym, ap, ◌∙◌, subst, arith, length-append}
use Rattle.std.proofs.Math.Seq.{drop-append_seam, get_or-append_seam}
use Rattle.std.proofs.lemmas.List.{take-append-drop, append_cancel_right}
use Rattle.ooo_lexer.specs.declared.position.Position.{Position}
use Rattle.ooo_syntax.specs.declared.symbol.Symbol.{Symbol}
use Rattle.ooo_syntax.specs.declared.error.ParseBreach.{ParseBreach}
use Rattle.ooo_syntax.specs.declared.error.ParseBreach.TheVariants as breach
use Rattle.ooo_syntax.specs.declared.error.ParseError.TheVariants as refusal
use Rattle.ooo_grammar.specs.declared.limits.ReadError.{ReadError}
use Rattle.ooo_grammar.specs.declared.limits.ReadError.TheVariants as error
use Rattle.ooo_grammar.specs.Forms.{Outcome, Got, Bad, Deep}
use Rattle.ooo_grammar.specs.Roots.{Root, Tree, roots}
use Rattle.ooo_grammar.specs.Gives.{Stops, answer, level_limit, room_at}
use Rattle.ooo_grammar.specs.Laws.{Begins, BeginsWithin, Decided, ExceedsAt, Keeps, Refuses, whole}
use Rattle.ooo_parser.specs.Refusals.{IsTreeOf, IsPartOf, IsRefused, too_deep, StopsAt}
use Rattle.ooo_parser.specs.Reaches.{reads_at_limits, reads_whole}

-- ---- an answer, and that of whole texts

pub stops_whole : {A : Type 0} (o : Outcome A) (e : ReadError) → Stops o e → Stops (whole o) e
stops_whole o error.OutOfMemory h = tt
stops_whole (Got a rest) (error.Syntax n) h = absurd cc
stops_whole (Bad rest) (error.Syntax n) h = h
stops_whole (Deep rest) (error.Syntax n) h = h
stops_whole (Got a rest) (error.TooDeep n) h = absurd cc
stops_whole (Bad rest) (error.TooDeep n) h = h
stops_whole (Deep rest) (error.TooDeep n) h = h

pub whole_more : {A : Type 0} (a : A) (rest : List Symbol) → (length rest ≡ 0 → ⊥) → whole (Got a rest) ≡ Bad rest
whole_more a [] e = absurd (e refl)
whole_more a (k ∷ us) e = refl

pub whole_all : {A : Type 0} (a : A) (rest : List Symbol) → length rest ≡ 0 → whole (Got a rest) ≡ Got a []
whole_all a [] e = refl
whole_all a (k ∷ us) e = absurd (omega arith)

module _ (decided : Decided) (x : Root) (ts : List Symbol) where
  pub tree_of : (a : Tree x) → reads_whole x ts ≡ Got a [] → IsTreeOf x ts a
  tree_of a e = record { spelled = (decided x level_limit (room_at None)).found ts a e; only = λ b d. (decided x level_limit (room_at None)).one ts a b e d }

  -- ---- where it stops

  bad_of : (o : Outcome (Tree x)) (n : ℕ) → answer o ≡ Err (error.Syntax n) → (rest : List Symbol) × (o ≡ Bad rest) × (n ≡ length rest)
  bad_of (Got a r) n e = absurd cc
  bad_of (Bad r) n e = (r, refl, cc)
  bad_of (Deep r) n e = absurd cc

  deep_of : (o : Outcome (Tree x)) (n : ℕ) → answer o ≡ Err (error.TooDeep n) → (rest : List Symbol) × (o ≡ Deep rest) × (n ≡ length rest)
  deep_of (Got a r) n e = absurd cc
  deep_of (Bad r) n e = absurd cc
  deep_of (Deep r) n e = (r, refl, cc)

  -- a list is cut where so many are left
  cut : (read rest : List Symbol) (n : ℕ) → ts ≡ read ++ rest → n ≡ length rest → drop (length ts - n) ts ≡ rest
  cut read rest n i e =
      let at : length ts - n ≡ length read = omega (arith, ap length i, length-append read rest) in
      ap (λ m. drop m ts) at ∙ ap (drop (length read)) i ∙ drop-append_seam read rest

  is_cut : (read rest : List Symbol) (n : ℕ) → ts ≡ read ++ rest → n ≡ length rest → n ≤ length ts
  is_cut read rest n i e = omega (arith, ap length i, length-append read rest)

  pub left_within : (n : ℕ) → answer (reads_whole x ts) ≡ Err (error.Syntax n) → n ≤ length ts
  left_within n e =
      let b = bad_of (reads_whole x ts) n e in
      let r = (decided x level_limit (room_at None)).refused ts b.0 b.1 in
      is_cut r.1.read b.0 n r.1.is b.2

  pub stops_at : (n : ℕ) → answer (reads_whole x ts) ≡ Err (error.Syntax n) → StopsAt x (take (length ts - n) ts) (drop (length ts - n) ts)
  stops_at n e =
      let b = bad_of (reads_whole x ts) n e in
      let r = (decided x level_limit (room_at None)).refused ts b.0 b.1 in
      let is : drop (length ts - n) ts ≡ b.0 = cut r.1.read b.0 n r.1.is b.2 in
      let all : take (length ts - n) ts ++ drop (length ts - n) ts ≡ ts = take-append-drop (length ts - n) ts in
      let p = subst (λ us. Refuses (roots x) us (drop (length ts - n) ts) × Keeps level_limit (room_at None) (roots x) us (drop (length ts - n) ts)) (sym all)
      (subst (λ rest. Refuses (roots x) ts rest × Keeps level_limit (room_at None) (roots x) ts rest) (sym is) r) in
      record { refuses = p.0; keeps = p.1 }

  pub deep_left : (n : ℕ) → answer (reads_whole x ts) ≡ Err (error.TooDeep n) → (0 < n) × (n ≤ length ts)
  deep_left n e =
      let b = deep_of (reads_whole x ts) n e in
      let r = (decided x level_limit (room_at None)).exceeded ts b.0 b.1 in
      (omega (arith, b.2, ap length r.starts), omega (arith, b.2, ap length r.starts, ap length r.is, length-append r.read (r.token ∷ r.later)))

  pub deep_told : (n : ℕ) (end : Position) (d : Symbol) → answer (reads_whole x ts) ≡ Err (error.TooDeep n) → IsRefused x ts end breach.TooDeep (get_or ts (length ts - n) d).first
  deep_told n end d e =
      let b = deep_of (reads_whole x ts) n e in
      let r = (decided x level_limit (room_at None)).exceeded ts b.0 b.1 in
      let at : length ts - n ≡ length r.read = omega (arith, b.2, ap length r.starts, ap length r.is, length-append r.read (r.token ∷ r.later)) in
      let same : get_or ts (length ts - n) d ≡ r.token = ap (λ m. get_or ts m d) at ∙ ap (λ us. get_or us (length r.read) d) r.is ∙ get_or-append_seam r.read r.token r.later d in
      too_deep r.token r.later (subst (ExceedsAt level_limit (room_at None) (roots x) ts) r.starts r) refl (ap (λ k. k.first) same)

  pub deep_answer : (n : ℕ) (end : Position) (d : Symbol) (b : ParseBreach) (p : Position) → answer (reads_whole x ts) ≡ Err (error.TooDeep n) → refusal.Refused breach.TooDeep (get_or ts (length ts - n) d).first ≡ refusal.Refused b p → IsRefused x ts end b p
  deep_answer n end d b p e i =
      let j : breach.TooDeep ≡ b = cc in
      let k : (get_or ts (length ts - n) d).first ≡ p = cc in
      subst (λ b. IsRefused x ts end b p) j (subst (IsRefused x ts end breach.TooDeep) k (deep_told n end d e))

  -- what a reader finds, and where it ends
  pub part_of : BeginsWithin → (a : Tree x) (rest : List Symbol) → reads_at_limits x ts ≡ Got a rest → IsPartOf x ts a (length rest)
  part_of limits a rest e =
      let f = (limits x level_limit (room_at None)).found ts rest a e in
      record {
        read = f.0;
        rest = rest;
        is = f.1;
        counted = refl;
        spelled = record { spelled = f.2; only = λ b d. (decided x level_limit (room_at None)).one f.0 a b ((decided x level_limit (room_at None)).finds f.0 a f.2) d };
        ended = λ k later i b.
            let r = (decided x level_limit (room_at None)).refused ts (k ∷ later) (ap whole (e ∙ ap (Got a) i)) in
            let same : r.0.read ≡ f.0 = append_cancel_right r.0.read f.0 (k ∷ later) (sym r.0.is ∙ f.1 ∙ ap (λ rest. f.0 ++ rest) i) in
            r.0.refused k later refl (subst (λ read. Begins (roots x) (read ++ k ∷ [])) (sym same) b);
      }
