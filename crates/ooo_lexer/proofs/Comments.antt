-- Comments: what the code finds is a comment, and a comment that stands first is found.
use Rattle.std.proofs.Common.{◌≡◌, ℕ, zero, suc, ◌+◌, Bool, true, false, cond, ◌&&◌, ◌==◌, List, [], ◌∷◌, ◌++◌, length, take, drop, Option, Some, None, Ok, Err, inl, inr, refl, sym, ap, ◌∙◌, subst, arith, add-one, append_assoc, length-append, codes}
use Rattle.std.specs.List.{list_all, prefix_len, take_while}
use Rattle.std.specs.Option.{option_map}
use Rattle.std.proofs.lemmas.Bool.{and_parts, eqb-true, false≢true, false_from_ne_true}
use Rattle.std.proofs.lemmas.List.{length-take, length-drop}
use Rattle.std.proofs.lemmas.List.Sums.{take_while-cons}
use Rattle.ooo_lexer.specs.declared.bytes.Class.TheVariants as class
use Rattle.ooo_lexer.specs.declared.breach.LexBreach.TheVariants as breach
use Rattle.ooo_lexer.specs.declared.heads.PieceKind.TheVariants as piece
use Rattle.ooo_lexer.specs.Breaches.{comment_not_closed}
use Rattle.ooo_lexer.specs.Bytes.{is_line_byte, StopsBefore}
use Rattle.ooo_lexer.specs.Forms.{HasNoEnd}
use Rattle.ooo_lexer.specs.Heads.{flaw, head, close_at, block_head, mark_head}
use Rattle.ooo_lexer.specs.Pieces.{Comment}
use Rattle.ooo_lexer.specs.Runs.{has, begins_with}
use Rattle.ooo_lexer.proofs.Finds.{First, Finds, begins_is}
use Rattle.ooo_lexer.proofs.Runs.{run_front, run_passes, run_stops, run_joins}

-- ---- to the line's end

pub line_sound : (bs : List ℕ) → First (47 ∷ 47 ∷ bs) (head piece.Comment (length (take_while (has class.Line) (47 ∷ bs)) + 1))
line_sound bs = record {
  piece = Comment (47 ∷ 47 ∷ take_while is_line_byte bs);
  rest = drop (prefix_len is_line_byte bs) bs;
  is = ap (λ bs. 47 ∷ 47 ∷ bs) (sym (run_joins is_line_byte bs));
  stands = inl (record { inside = take_while is_line_byte bs; on_line = run_passes is_line_byte bs; is = refl }, run_stops is_line_byte bs);
  head = ap (λ n. head piece.Comment n) (ap (λ bs. length bs + 1) (take_while-cons is_line_byte 47 bs) ∙ add-one (length (47 ∷ take_while is_line_byte bs)));
}

pub line_complete : (inside rest : List ℕ) → list_all is_line_byte inside ≡ true → StopsBefore is_line_byte rest → mark_head 47 (47 ∷ (inside ++ rest)) ≡ Ok (head piece.Comment (length inside + 2))
line_complete inside rest all stops =
    let front = run_front is_line_byte (47 ∷ inside) rest all stops in
    let n : length (47 ∷ inside) + 1 ≡ length inside + 2 = omega arith in
    ap (λ line. Ok (head piece.Comment (length line + 1))) front ∙ ap (λ n. Ok (head piece.Comment n)) n

-- ---- to the next `*/`

no_end_nil : HasNoEnd []
no_end_nil [] back e = cc
no_end_nil (c ∷ front) back e = cc

no_end_star : HasNoEnd (codes "*")
no_end_star [] back e = cc
no_end_star (c ∷ front) back e = no_end_nil front back (cc)

no_end_rest : (b : ℕ) (bs : List ℕ) → HasNoEnd (b ∷ bs) → HasNoEnd bs
no_end_rest b bs h front back e = h (b ∷ front) back (ap (λ bs. b ∷ bs) e)

no_end_more : (b : ℕ) (bs : List ℕ) → (b == 42 && begins_with 47 bs) ≡ false → HasNoEnd bs → HasNoEnd (b ∷ bs)
no_end_more b bs t h [] back e =
    let first : b ≡ 42 = cc in
    let second : bs ≡ 47 ∷ back = cc in
    false≢true (sym t ∙ rw (first, second))
no_end_more b bs t h (c ∷ front) back e = h front back (cc)

-- what the first byte says
none_by : (b : ℕ) (bs : List ℕ) (t : Bool) (r : Option ℕ) → (b == 42 && begins_with 47 bs) ≡ t → (r ≡ None → HasNoEnd bs) → cond t (Some 0) (option_map (λ n. n + 1) r) ≡ None → HasNoEnd (b ∷ bs)
none_by b bs true r test h e = absurd cc
none_by b bs false None test h e = no_end_more b bs test (h refl)
none_by b bs false (Some n) test h e = absurd cc

pub close_none : (bs : List ℕ) → close_at bs ≡ None → HasNoEnd bs
close_none [] e = no_end_nil
close_none (b ∷ bs) e = none_by b bs (b == 42 && begins_with 47 bs) (close_at bs) refl (close_none bs) e

-- bytes up to a `*/`, and that
abbrev IsClosedAt : List ℕ → ℕ → Type 0
IsClosedAt bs n = HasNoEnd (take n bs ++ codes "*") × (bs ≡ take n bs ++ (codes "*/" ++ drop (n + 2) bs))

begins_no_less : (t : Bool) (n : ℕ) (bs : List ℕ) → (t && begins_with 47 bs) ≡ false → (t && begins_with 47 (take n bs ++ codes "*")) ≡ false
begins_no_less false n bs e = refl
begins_no_less true zero bs e = refl
begins_no_less true (suc n) [] e = refl
begins_no_less true (suc n) (b ∷ bs) e = e

closed_here : (b : ℕ) (bs : List ℕ) → (b == 42 && begins_with 47 bs) ≡ true → IsClosedAt (b ∷ bs) 0
closed_here b bs test =
    let both = and_parts (b == 42) (begins_with 47 bs) test in
    let first = eqb-true b 42 both.0 in
    let second = begins_is 47 bs both.1 in
    (no_end_star, cc)

closed_more : (b : ℕ) (bs : List ℕ) (n : ℕ) → (b == 42 && begins_with 47 bs) ≡ false → IsClosedAt bs n → IsClosedAt (b ∷ bs) (n + 1)
closed_more b bs n test h =
    let m : (n + 1) + 2 ≡ suc (n + 2) = omega arith in
    rw (m, add-one) (no_end_more b (take n bs ++ codes "*") (begins_no_less (b == 42) n bs test) h.0, ap (λ bs. b ∷ bs) h.1)

some_by : (b : ℕ) (bs : List ℕ) (n : ℕ) (t : Bool) (r : Option ℕ) → (b == 42 && begins_with 47 bs) ≡ t → ((n : ℕ) → r ≡ Some n → IsClosedAt bs n) → cond t (Some 0) (option_map (λ n. n + 1) r) ≡ Some n → IsClosedAt (b ∷ bs) n
some_by b bs n true r test h e = let i : 0 ≡ n = cc in subst (IsClosedAt (b ∷ bs)) i (closed_here b bs test)
some_by b bs n false None test h e = absurd cc
some_by b bs n false (Some m) test h e = let i : m + 1 ≡ n = cc in subst (IsClosedAt (b ∷ bs)) i (closed_more b bs m test (h m refl))

pub close_some : (bs : List ℕ) (n : ℕ) → close_at bs ≡ Some n → HasNoEnd (take n bs ++ codes "*") × (bs ≡ take n bs ++ (codes "*/" ++ drop (n + 2) bs))
close_some [] n e = absurd cc
close_some (b ∷ bs) n e = some_by b bs n (b == 42 && begins_with 47 bs) (close_at bs) refl (close_some bs) e

-- ---- what the code finds

block_length : (n : ℕ) (bs : List ℕ) → bs ≡ take n bs ++ (codes "*/" ++ drop (n + 2) bs) → n + 4 ≡ length (47 ∷ 42 ∷ (take n bs ++ codes "*/"))
block_length n bs e =
    let whole = ap length e ∙ length-append (take n bs) (codes "*/" ++ drop (n + 2) bs) in
    omega (arith, whole, length-append (take n bs) (codes "*/"), length-take n bs, length-drop (n + 2) bs)

block_by : (bs : List ℕ) (r : Option ℕ) → close_at bs ≡ r → Finds (47 ∷ 42 ∷ bs) (block_head r)
block_by bs None e = record { breach = comment_not_closed bs (close_none bs e) refl refl refl; within = omega arith }
block_by bs (Some n) e =
    let at = close_some bs n e in
    let inside = take n bs in
    record {
      piece = Comment (47 ∷ 42 ∷ (inside ++ codes "*/"));
      rest = drop (n + 2) bs;
      is = ap (λ bs. 47 ∷ 42 ∷ bs) (at.1 ∙ sym (append_assoc inside (codes "*/") (drop (n + 2) bs)));
      stands = inr (record { inside = inside; first = at.0; is = refl });
      head = ap (λ n. head piece.Comment n) (block_length n bs at.1);
    }

pub block_sound : (bs : List ℕ) → Finds (47 ∷ 42 ∷ bs) (block_head (close_at bs))
block_sound bs = block_by bs (close_at bs) refl

-- ---- what the code finds is what stands there

no_end_here : (b : ℕ) (bs : List ℕ) → HasNoEnd (b ∷ bs) → (b == 42 && begins_with 47 bs) ≡ false
no_end_here b bs h = false_from_ne_true (b == 42 && begins_with 47 bs) (λ test. h [] (drop 2 (b ∷ bs)) (closed_here b bs test).1)

begins_no_more : (t : Bool) (bs rest : List ℕ) → (t && begins_with 47 (bs ++ codes "*")) ≡ false → (t && begins_with 47 (bs ++ (codes "*/" ++ rest))) ≡ false
begins_no_more false bs rest e = refl
begins_no_more true [] rest e = refl
begins_no_more true (b ∷ bs) rest e = e

close_is : (inside rest : List ℕ) → HasNoEnd (inside ++ codes "*") → close_at (inside ++ (codes "*/" ++ rest)) ≡ Some (length inside)
close_is [] rest h = refl
close_is (b ∷ bs) rest h =
    let test = begins_no_more (b == 42) bs rest (no_end_here b (bs ++ codes "*") h) in
    let ih = close_is bs rest (no_end_rest b (bs ++ codes "*") h) in
    rw (test, ih) (ap Some (add-one (length bs)))

close_open : (bs : List ℕ) → HasNoEnd bs → close_at bs ≡ None
close_open [] h = refl
close_open (b ∷ bs) h = let test = no_end_here b bs h in let ih = close_open bs (no_end_rest b bs h) in rw (test, ih)

pub block_complete : (inside rest : List ℕ) → HasNoEnd (inside ++ codes "*") → mark_head 47 (42 ∷ (inside ++ (codes "*/" ++ rest))) ≡ Ok (head piece.Comment (length inside + 4))
block_complete inside rest h = ap block_head (close_is inside rest h)

pub block_open : (after : List ℕ) → HasNoEnd after → mark_head 47 (42 ∷ after) ≡ Err (flaw breach.CommentNotClosed 0)
block_open after h = ap block_head (close_open after h)
