-- What the passes that were joined had seen and made.
use Rattle.std.proofs.Common.{◌≡◌, ℕ, zero, suc, ◌+◌, ◌-◌, ◌<◌, List, [], ◌∷◌, ◌++◌, length, refl, sym, ap, ◌∙◌, subst, arith, Option, Some, None, false, append_assoc, slice_get, length-append, option_to_list, IsSome, true}
use mathlib.Core.Option.{some, some-injective}
use lib.ListN.{get_elem?}
use Rattle.atomic_table.specs.Table.{Final, Seen}
use Rattle.atomic_table.specs.Seated.{TableId}
use Rattle.ooo_dispatch.specs.declared.step.Step.{Step}
use Rattle.ooo_board.specs.Boards.{Shown}
use Rattle.ooo_workers.specs.declared.view.View.{View}
use Rattle.ooo_workers.specs.Boards.{Begins, IsQuiet}
use Rattle.ooo_workers.specs.Rule.{total, AllBegin, both_of, Ruled}
use Rattle.ooo_workers.specs.Passes.{PassIs, pass_of, fresh, fresh_from, made_by, Ranged, Closes}
use Rattle.ooo_workers.proofs.Begun.{ended_stays, lawful_on}
use Rattle.ooo_workers.proofs.Keeps.{total-append, leaves}

pub record Gathered (v : View) (joined : List PassIs) : Type 0 where
  pub begins : (b : Shown) → Begins v.known b → AllBegin v.heard b → (k : ℕ) (p : PassIs) → slice_get joined k ≡ Some p → Begins p.known b
  pub made : (f : Step → ℕ) → total f v.made ≡ total (λ p. total f p.made) joined

-- what the seat of the joined passes knows, while the passes before are still to come
pub record Joined (id : TableId) (all rest : List PassIs) (v : View) : Type 0 where
  pub joined : List PassIs
  pub whole : rest ++ joined ≡ all
  pub gathered : Gathered v joined
  pub ranged : Ranged id 0 rest
  pub number : v.number ≡ length rest
  pub parts : v.number + v.parts ≡ length all
  pub some_part : 0 < v.parts
  pub turn : v.turn ≡ false
  pub out : v.out ≡ None

ranged_front : (id : TableId) (n : ℕ) (ps : List PassIs) (q : PassIs) → Ranged id n (ps ++ q ∷ []) → Ranged id n ps
ranged_front id n [] q h = tt
ranged_front id n (p ∷ ps) q h = (h.0, h.1, h.2, ranged_front id (suc n) ps q h.3)

ranged_last : (id : TableId) (n : ℕ) (ps : List PassIs) (q : PassIs) → Ranged id n (ps ++ q ∷ []) → (q.yard ≡ id) × (q.number ≡ n + length ps) × (q.out ≡ None)
ranged_last id n [] q h = (h.0, omega (arith, h.1), h.2)
ranged_last id n (p ∷ ps) q h = let t = ranged_last id (suc n) ps q h.3 in (t.0, omega (arith, t.1), t.2)

first_of : (x p : PassIs) (b : Shown) → Begins x.known b → Some x ≡ Some p → Begins p.known b
first_of x p b h e = let is : x ≡ p = cc in subst (λ (q : PassIs). Begins q.known b) is h

one_begins : (x : PassIs) (b : Shown) → Begins x.known b → (k : ℕ) (p : PassIs) → slice_get (x ∷ []) k ≡ Some p → Begins p.known b
one_begins x b h zero p e = first_of x p b h e
one_begins x b h (suc k) p e = absurd cc

more_begin : (x : PassIs) (xs : List PassIs) (b : Shown) → Begins x.known b → ((k : ℕ) (p : PassIs) → slice_get xs k ≡ Some p → Begins p.known b) → (k : ℕ) (p : PassIs) → slice_get (x ∷ xs) k ≡ Some p → Begins p.known b
more_begin x xs b h hs zero p e = first_of x p b h e
more_begin x xs b h hs (suc k) p e = hs k p e

pub joined_first : (id i : TableId) (all rest : List PassIs) (v : View) → all ≡ rest ++ pass_of i v ∷ [] → Ranged id 0 all → v.parts ≡ 1 → v.turn ≡ false → v.heard ≡ [] → Joined id all rest v
joined_first id i all rest v is ranged one idle alone =
    let q : PassIs = pass_of i v in
    let ranged' : Ranged id 0 (rest ++ q ∷ []) = subst (Ranged id 0) is ranged in
    let t = ranged_last id 0 rest q ranged' in
    record {
      joined = q ∷ [];
      whole = sym is;
      gathered = record { begins = λ b known heard k p e. one_begins q b known k p e; made = λ f. omega arith };
      ranged = ranged_front id 0 rest q ranged';
      number = omega (arith, t.1);
      parts = omega (arith, t.1, ap length is, length-append rest (q ∷ []));
      some_part = omega arith;
      turn = idle;
      out = t.2;
    }

-- what the last of the passes that are still to come is
pub next_is : (id i : TableId) (all rest rest' : List PassIs) (v w : View) → Joined id all rest v → rest ≡ rest' ++ pass_of i w ∷ [] → (i ≡ id) × (v.number ≡ w.number + 1) × (w.out ≡ None) × (w.number ≡ length rest')
next_is id i all rest rest' v w j is =
    let q : PassIs = pass_of i w in
    let t = ranged_last id 0 rest' q (subst (Ranged id 0) is j.ranged) in
    (t.0, omega (arith, t.1, j.number, ap length is, length-append rest' (q ∷ [])), t.2, omega (arith, t.1))

pub joined_more : (id i : TableId) (all rest rest' : List PassIs) (v w : View) → Joined id all rest v → rest ≡ rest' ++ pass_of i w ∷ [] → Joined id all rest' (both_of v w)
joined_more id i all rest rest' v w j is =
    let q : PassIs = pass_of i w in
    let n = next_is id i all rest rest' v w j is in
    record {
      joined = q ∷ j.joined;
      whole = sym (append_assoc rest' (q ∷ []) j.joined) ∙ ap (λ (l : List PassIs). l ++ j.joined) (sym is) ∙ j.whole;
      gathered = record {
        begins = λ b known heard k p e. more_begin q j.joined b heard.0 (λ k' p' e'. j.gathered.begins b known heard.1 k' p' e') k p e;
        made = λ f. omega (arith, total-append f w.made v.made, j.gathered.made f);
      };
      ranged = ranged_front id 0 rest' q (subst (Ranged id 0) is j.ranged);
      number = n.3;
      parts = omega (arith, j.parts, n.1);
      some_part = omega arith;
      turn = j.turn;
      out = j.out;
    }

-- every pass was joined
pub closes : (id : TableId) (all : List PassIs) (v : View) (b : Shown) → Joined id all [] v → Begins v.known b → AllBegin v.heard b → ((f : Step → ℕ) → total f v.made ≡ total f b.schedule) → IsQuiet b → Closes all b
closes id all v b j known heard made quiet = record {
  begins = from;
  counts = λ f. ap (λ (l : List PassIs). total (λ (p : PassIs). total f p.made) l) (sym j.whole) ∙ sym (j.gathered.made f) ∙ made f;
  quiet = quiet;
  over = λ k p e ended. ended_stays p.known b ended (from k p e);
  lawful = λ k p e lawful. lawful_on p.known b (from k p e) lawful;
}
  where
    from : (k : ℕ) (p : PassIs) → slice_get all k ≡ Some p → Begins p.known b
    from k p e = j.gathered.begins b known heard k p (subst (λ (l : List PassIs). slice_get l k ≡ Some p) (sym j.whole) e)

-- one more pass is dealt
pub dealt_more : (id : TableId) (b : Shown) (n m : ℕ) (all whole : List PassIs) (p : PassIs) → 0 < m → all ++ fresh_from id b n m ≡ whole → p ≡ fresh id b n → (all ++ p ∷ []) ++ fresh_from id b (n + 1) (m - 1) ≡ whole
dealt_more id b n zero all whole p more h e = absurd (omega arith)
dealt_more id b n (suc m) all whole p more h e =
    let m' : suc m - 1 ≡ m = omega arith in
    let n' : n + 1 ≡ suc n = omega arith in
    rw (e, m', n') (append_assoc all (fresh id b n ∷ []) (fresh_from id b (suc n) m) ∙ h)

pub fresh_is : (id i : TableId) (b : Shown) (n : ℕ) (v : View) → i ≡ id → v.number ≡ n → v.known ≡ b → v.made ≡ made_by b.schedule n → v.out ≡ None → pass_of i v ≡ fresh id b n
fresh_is id i b n v i_is n_is known made out = λ k. record { yard = i_is k; number = n_is k; known = known k; made = made k; out = out k }

pub popped : (old new : List PassIs) (r : Option PassIs) (x y : PassIs) → old ≡ new ++ option_to_list r → r ≡ Some x → y ≡ x → old ≡ new ++ y ∷ []
popped old new r x y e is same = e ∙ ap (λ (o : Option PassIs). new ++ option_to_list o) is ∙ ap (λ (z : PassIs). new ++ z ∷ []) (sym same)

pub last_yard : (id i : TableId) (all rest : List PassIs) (v : View) → all ≡ rest ++ pass_of i v ∷ [] → Ranged id 0 all → i ≡ id
last_yard id i all rest v is ranged = (ranged_last id 0 rest (pass_of i v) (subst (Ranged id 0) is ranged)).0

pub dealt_last : (id : TableId) (b : Shown) (n m : ℕ) (all whole : List PassIs) (p : PassIs) → m ≡ 1 → all ++ fresh_from id b n m ≡ whole → p ≡ fresh id b n → all ++ p ∷ [] ≡ whole
dealt_last id b n m all whole p one h e = rw e (subst (λ (k : ℕ). all ++ fresh_from id b n k ≡ whole) one h)

pub made_later : (steps : List Step) (n : ℕ) → [] ≡ made_by steps (n + 1)
made_later steps n = let e : n + 1 ≡ suc n = omega arith in rw e refl

nothing_before : (old : List PassIs) → (0 < length old → ⊥) → old ≡ []
nothing_before [] h = refl
nothing_before (x ∷ xs) h = absurd (h (omega arith))

pub no_more : (old : List PassIs) (r : Option PassIs) → r ≡ None → (0 < length old → IsSome r) → old ≡ []
no_more old r e h = nothing_before old (λ lt. let f : false ≡ true = subst (λ (o : Option PassIs). IsSome o) e (h lt) in absurd cc)

-- the board that the closed table has in its slot
pub left_board : (passes id : ℕ) (table : TableId) (all rest : List PassIs) (v : View) (words : List ℕ) (slots : List (Option Shown)) (found : Option Shown) → rest ≡ [] → Joined table all rest v → length all ≡ passes → 0 < passes
    → Final (Seen (Ruled passes) id v) words slots → get_elem? slots 0 ≡ some found → (b : Shown) × (found ≡ Some b) × Closes all b
left_board passes id table all rest v words slots found nil j count some_pass fin at =
    let none_left : length rest ≡ 0 = ap length nil in
    let t = leaves passes id v words slots some_pass (j.number ∙ none_left) (omega (arith, j.parts, j.number, none_left, count)) j.turn j.out fin in (
      t.board,
      some-injective found (Some t.board) (sym at ∙ t.there),
      closes table all v t.board (subst (λ (l : List PassIs). Joined table all l v) nil j) t.known t.heard t.made t.idle,
    )

pub is_it : (o : Option Shown) (a b : Shown) → o ≡ Some a → o ≡ Some b → a ≡ b
is_it o a b e f = let both : Some a ≡ Some b = sym e ∙ f in cc
