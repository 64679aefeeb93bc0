-- Bindings in blocks.
use Rattle.std.specs.Prelude.{◌≡◌, ℕ, zero, suc, ◌+◌, ◌-◌, ◌<◌, ◌≤◌, List, [], ◌∷◌, ◌++◌, length, drop, take, reverse, sum, Some, None, Bool, true, false, cond, refl, is_some}
use Rattle.std.specs.Option.{unwrap_or}
use Rattle.std.specs.Str.{bytes_eq}
use Rattle.std.proofs.Common.{sym, ◌∙◌, ap, arith, get_or, ⊎_elim}
use Rattle.std.specs.List.{slice_get}
use Rattle.std.proofs.lemmas.Option.{slice_get-get_or}
use Rattle.std.proofs.lemmas.List.{length-drop, length-take, reverse-append, take_all}
use Rattle.std.proofs.lemmas.List.Sums.{sum_by-append}
use Rattle.std.proofs.lemmas.Bool.Decides.{leb_tells}
use Rattle.std.proofs.Math.Dec.{leb}
use Rattle.std.proofs.Math.Seq.{take-suc}
use Rattle.ooo_checked.specs.Scopes.{Binding, found_in, left, meaning_of, size_of, unknown}
use Rattle.ooo_checked.specs.declared.denotation.Denotation.{Denotation}
use Rattle.ooo_scopes.specs.Names.{place_in}
use Rattle.ooo_scopes.specs.Blocks.{blocks}
use Rattle.ooo_scopes.proofs.Bindings.{place_lt}

-- a name denotes what the front of the bindings says, or else the rest
found_split : (bs : List Binding) (n : ℕ) (q : List ℕ) (o : Denotation)
    → unwrap_or (found_in (take n bs) q) (unwrap_or (found_in (drop n bs) q) o) ≡ unwrap_or (found_in bs q) o
found_split [] zero q o = refl
found_split [] (suc n) q o = refl
found_split (b ∷ bs) zero q o = refl
found_split (b ∷ bs) (suc n) q o =
    elim (bytes_eq q b.name) as (
    λ t.
    unwrap_or (cond t (Some b.denotes) (found_in (take n bs) q)) (unwrap_or (found_in (drop n bs) q) o)
    ≡ unwrap_or (cond t (Some b.denotes) (found_in bs q)) o
    ) [ true ↦ refl | false ↦ found_split bs n q o ]

-- the bindings outside of the innermost block are in the blocks outside of it
pub outer_full : (n : ℕ) (ns : List ℕ) (bs : List Binding) → sum (n ∷ ns) ≡ length bs → sum ns ≡ length (drop n bs)
outer_full n ns bs h = omega (arith, length-drop n bs, sum_by-append (λ (x : ℕ). x) (n ∷ []) ns)

-- the blocks say of a name what their bindings together say
pub meaning : (ns : List ℕ) (bs : List Binding) (q : List ℕ) → sum ns ≡ length bs → meaning_of (blocks ns bs) q ≡ unwrap_or (found_in bs q) unknown
meaning [] [] q h = refl
meaning [] (b ∷ bs) q h = absurd (omega arith)
meaning (n ∷ ns) bs q h =
    ap (λ m. unwrap_or (found_in (take n bs) q) m) (meaning ns (drop n bs) q (outer_full n ns bs h)) ∙ found_split bs n q unknown

-- the blocks declare as many names as there are bindings
pub size : (ns : List ℕ) (bs : List Binding) → sum ns ≡ length bs → size_of (blocks ns bs) ≡ length bs
size [] bs h = h
size (n ∷ ns) bs h = omega (arith, size ns (drop n bs) (outer_full n ns bs h), length-drop n bs, length-take n bs, h, sum_by-append (λ (x : ℕ). x) (n ∷ []) ns)

-- a name is declared in the innermost block if its place is past the bindings outside of it
pub here : (bs : List Binding) (n : ℕ) (q : List ℕ) (p : ℕ) → place_in bs q ≡ Some p
    → (length bs ≤ p + n → is_some (found_in (take n bs) q) ≡ true) × (p + n < length bs → is_some (found_in (take n bs) q) ≡ false)
here [] n q p h = cc
here (b ∷ bs) zero q p h = (λ l. absurd (omega (arith, place_lt (b ∷ bs) q p h)), λ _. refl)
here (b ∷ bs) (suc n) q p h =
    elim (bytes_eq q b.name) as (
    λ t.
    cond t (Some (length bs)) (place_in bs q) ≡ Some p
    → (length (b ∷ bs) ≤ p + suc n → is_some (cond t (Some b.denotes) (found_in (take n bs) q)) ≡ true)
    × (p + suc n < length (b ∷ bs) → is_some (cond t (Some b.denotes) (found_in (take n bs) q)) ≡ false)
    ) [
      | true ↦ λ e. let same : length bs ≡ p = cc in (λ _. refl, λ l. absurd (omega arith))
      | false ↦ λ e. let rest = here bs n q p e in (λ l. rest.0 (omega arith), λ l. rest.1 (omega arith))
    ] h

-- a name with no place is not declared in the innermost block
pub not_here : (bs : List Binding) (n : ℕ) (q : List ℕ) → place_in bs q ≡ None → found_in (take n bs) q ≡ None
not_here [] zero q h = refl
not_here [] (suc n) q h = refl
not_here (b ∷ bs) zero q h = refl
not_here (b ∷ bs) (suc n) q h =
    elim (bytes_eq q b.name) as (λ t. cond t (Some (length bs)) (place_in bs q) ≡ None → cond t (Some b.denotes) (found_in (take n bs) q) ≡ None)
    [ true ↦ λ e. cc | false ↦ λ e. not_here bs n q e ] h

-- a list from its last number on
pub reversed : (xs : List ℕ) (n : ℕ) → 0 < length xs → n ≡ get_or xs (length xs - 1) n → reverse xs ≡ n ∷ reverse (take (length xs - 1) xs)
reversed xs n h e =
    let j : ℕ = length xs - 1 in
    let parts : xs ≡ take j xs ++ get_or xs j n ∷ [] = sym (take_all (suc j) xs (omega arith)) ∙ take-suc xs j n (omega arith) in
    ap reverse parts ∙ (reverse-append (take j xs) (get_or xs j n ∷ []) ∙ ap (λ (x : ℕ). x ∷ reverse (take j xs)) (sym e))

-- a test of a place, and what it tells
pub tested : (l n p : ℕ) (b : Bool) → (l ≤ p + n → b ≡ true) × (p + n < l → b ≡ false) → leb (l - n) p ≡ b
tested l n p b h = ⊎_elim (λ t. t.0 ∙ sym (h.0 (omega (arith, t.1)))) (λ t. t.0 ∙ sym (h.1 (omega (arith, t.1)))) (leb_tells (l - n) p)

-- the counts of the blocks, from the innermost on
innermost_first : (counts outer : List ℕ) (n : ℕ) → counts ≡ outer ++ n ∷ [] → reverse counts ≡ n ∷ reverse outer
innermost_first counts outer n h = ap reverse h ∙ reverse-append outer (n ∷ [])

-- the blocks once the innermost has ended
pub left_blocks : (counts outer : List ℕ) (n : ℕ) (bs : List Binding) → counts ≡ outer ++ n ∷ [] → left (blocks (reverse counts) bs) ≡ blocks (reverse outer) (drop n bs)
left_blocks counts outer n bs h = ap (λ (l : List ℕ). left (blocks l bs)) (innermost_first counts outer n h)

-- each binding that is left belongs to a block
pub left_full : (counts outer : List ℕ) (n : ℕ) (bs : List Binding) → counts ≡ outer ++ n ∷ [] → sum (reverse counts) ≡ length bs
    → sum (reverse outer) ≡ length (drop n bs)
left_full counts outer n bs h full = outer_full n (reverse outer) bs (sym (ap sum (innermost_first counts outer n h)) ∙ full)

-- what the blocks outside the innermost one say of a name
pub outside : (counts : List ℕ) (n : ℕ) (ns : List ℕ) (bs : List Binding) (q : List ℕ) → counts ≡ n ∷ ns → sum counts ≡ length bs
    → meaning_of (left (blocks counts bs)) q ≡ unwrap_or (found_in (drop n bs) q) unknown
outside counts n ns bs q e h =
    ap (λ (l : List ℕ). meaning_of (left (blocks l bs)) q) e
    ∙ meaning ns (drop n bs) q (outer_full n ns bs (sym (ap sum e) ∙ h))

-- where there is no block, nothing is known outside
pub outside_none : (counts : List ℕ) (bs : List Binding) (q : List ℕ) → counts ≡ [] → sum counts ≡ length bs
    → meaning_of (left (blocks counts bs)) q ≡ unwrap_or (found_in (drop 0 bs) q) unknown
outside_none counts [] q e h = ap (λ (l : List ℕ). meaning_of (left (blocks l [])) q) e
outside_none counts (b ∷ bs) q e h = let none : sum counts ≡ 0 = ap sum e in absurd (omega arith)

-- a list without a last number is empty
pub none_last : (xs : List ℕ) → None ≡ slice_get xs (length xs - 1) → xs ≡ []
none_last [] h = refl
none_last (x ∷ xs) h =
    let there : slice_get (x ∷ xs) (length (x ∷ xs) - 1) ≡ Some (get_or (x ∷ xs) (length (x ∷ xs) - 1) x) =
    slice_get-get_or (x ∷ xs) (length (x ∷ xs) - 1) x (omega arith)
    in
    let never : None ≡ Some (get_or (x ∷ xs) (length (x ∷ xs) - 1) x) = h ∙ there in
    absurd cc
