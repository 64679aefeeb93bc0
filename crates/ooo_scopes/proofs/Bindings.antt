-- Bindings and their places.
use Rattle.std.specs.Prelude.{◌≡◌, ℕ, ◌-◌, ◌<◌, List, [], ◌∷◌, ◌++◌, length, drop, take, reverse, Option, Some, None, true, false, cond, refl, IsSome}
use Rattle.std.specs.BTreeMap.{BTreeMap}
use Rattle.std.specs.Cmp.Lexicographic.{bytes_decides, nat_list_eq_equiv}
use Rattle.std.specs.Str.{bytes_eq}
use Rattle.std.specs.declared.vec.Vec.{Vec}
use Rattle.std.proofs.Common.{sym, ◌∙◌, ap, subst, arith, get_or, ⊎_elim}
use Rattle.std.proofs.Math.ListN.{get_or-append}
use Rattle.std.proofs.Math.Seq.{get_or-append_seam, take-append_seam, drop-append_seam}
use Rattle.std.proofs.lemmas.Bool.{cases_Bool, cond-true, cond-false}
use Rattle.std.proofs.lemmas.Grind.{reverse_onto}
use Rattle.std.proofs.lemmas.List.{length-reverse, length-append, length-drop, reverse-reverse, reverse-append, take_all}
use Rattle.ooo_checked.specs.Scopes.{Binding, found_in}
use Rattle.ooo_scopes.specs.Names.{bindings, place_in, KeepsHidden, IsExact}
use Rattle.ooo_scopes.specs.Places.{place_of, HasPlace}
use Rattle.ooo_scopes.specs.declared.names.Declared.{Declared}

-- there are as many bindings as declarations
pub length-bindings : (text : List ℕ) (ds : List Declared) → length (bindings text ds) ≡ length ds
length-bindings text [] = refl
length-bindings text (d ∷ ds) = omega (arith, length-bindings (take d.from text) ds)

-- the same, with the declarations from the earliest on
pub count : (text : List ℕ) (xs : List Declared) → length (bindings text (reverse xs)) ≡ length xs
count text xs = length-bindings text (reverse xs) ∙ length-reverse xs

-- the latest declaration comes last
pub last_of : (d0 : Declared) (ds : List Declared) (d : Declared) → get_or (reverse (d0 ∷ ds)) (length ds) d ≡ d0
last_of d0 ds d =
    ap (λ l. get_or l (length ds) d) (reverse_onto ds d0 [])
    ∙ (ap (λ n. get_or (reverse ds ++ d0 ∷ []) n d) (sym (length-reverse ds)) ∙ get_or-append_seam (reverse ds) d0 [] d)

-- the earlier declarations keep their places
pub earlier_of : (d0 : Declared) (ds : List Declared) (d : Declared) (p : ℕ) → p < length ds → get_or (reverse (d0 ∷ ds)) p d ≡ get_or (reverse ds) p d
earlier_of d0 ds d p h =
    ap (λ l. get_or l p d) (reverse_onto ds d0 []) ∙ get_or-append (reverse ds) (d0 ∷ []) d p (omega (arith, length-reverse ds))

-- the declaration at the place of a name says what the name denotes
pub found_at : (text : List ℕ) (ds : List Declared) (q : List ℕ) (p : ℕ) (d : Declared) → place_in (bindings text ds) q ≡ Some p
    → (p < length ds) × (found_in (bindings text ds) q ≡ Some (get_or (reverse ds) p d).denotes)
found_at text [] q p d h = cc
found_at text (d0 ∷ ds) q p d h =
    let bs : List Binding = bindings (take d0.from text) ds in
    elim (bytes_eq q (drop d0.from text)) as (
    λ t.
    cond t (Some (length bs)) (place_in bs q) ≡ Some p
    → (p < length (d0 ∷ ds)) × (cond t (Some d0.denotes) (found_in bs q) ≡ Some (get_or (reverse (d0 ∷ ds)) p d).denotes)
    ) [
      | true ↦ λ e.
          let same : length bs ≡ p = cc in
          let at : p ≡ length ds = omega (arith, length-bindings (take d0.from text) ds) in
          (omega arith, ap (λ (x : Declared). Some x.denotes) (sym (last_of d0 ds d) ∙ ap (λ n. get_or (reverse (d0 ∷ ds)) n d) (sym at)))
      | false ↦ λ e.
          let rest = found_at (take d0.from text) ds q p d e in
          (omega (arith, rest.0), rest.1 ∙ ap (λ (x : Declared). Some x.denotes) (sym (earlier_of d0 ds d p rest.0)))
    ] h

-- the same, with the declarations from the earliest on
pub denotes_at : (text : List ℕ) (xs : List Declared) (q : List ℕ) (p : ℕ) (d : Declared) → place_in (bindings text (reverse xs)) q ≡ Some p
    → (p < length xs) × (found_in (bindings text (reverse xs)) q ≡ Some (get_or xs p d).denotes)
denotes_at text xs q p d h =
    let at = found_at text (reverse xs) q p d h in
    (omega (arith, at.0, length-reverse xs), at.1 ∙ ap (λ (l : List Declared). Some (get_or l p d).denotes) (reverse-reverse xs))

-- a name with no place denotes nothing
pub found_none : (bs : List Binding) (q : List ℕ) → place_in bs q ≡ None → found_in bs q ≡ None
found_none [] q h = refl
found_none (b ∷ bs) q h =
    elim (bytes_eq q b.name) as (λ t. cond t (Some (length bs)) (place_in bs q) ≡ None → cond t (Some b.denotes) (found_in bs q) ≡ None)
    [ true ↦ λ e. cc | false ↦ λ e. found_none bs q e ] h

-- a place is one of the bindings
pub place_lt : (bs : List Binding) (q : List ℕ) (p : ℕ) → place_in bs q ≡ Some p → p < length bs
place_lt [] q p h = cc
place_lt (b ∷ bs) q p h =
    elim (bytes_eq q b.name) as (λ t. cond t (Some (length bs)) (place_in bs q) ≡ Some p → p < length (b ∷ bs)) [
      | true ↦ λ e. let same : length bs ≡ p = cc in omega arith
      | false ↦ λ e. omega (arith, place_lt bs q p e)
    ] h

-- the name of the latest binding has a place
pub latest_has_place : (b : Binding) (bs : List Binding) → place_in (b ∷ bs) b.name ≡ Some (length bs)
latest_has_place b bs = cond-true (bytes_eq b.name b.name) _ _ (nat_list_eq_equiv.refl b.name)

-- the map after a name was declared
pub pushed : {Y : Type 0} (m n : BTreeMap (Vec ℕ Y) ℕ) (b : Binding) (bs : List Binding) → ((q : List ℕ) → place_of m q ≡ place_in bs q)
    → HasPlace m n b.name (Some (length bs)) → (q : List ℕ) → place_of n q ≡ place_in (b ∷ bs) q
pushed m n b bs index has q =
    has q ∙ (ap (λ t. cond t (Some (length bs)) (place_of m q)) (nat_list_eq_equiv.symm b.name q) ∙ ap (λ o. cond (bytes_eq q b.name) (Some (length bs)) o) (index q))

-- the map after the latest declaration was forgotten
pub popped : {Y : Type 0} (m n : BTreeMap (Vec ℕ Y) ℕ) (b : Binding) (bs : List Binding) (hides : Option ℕ)
    → ((q : List ℕ) → place_of m q ≡ place_in (b ∷ bs) q) → HasPlace m n b.name hides → hides ≡ place_in bs b.name → (q : List ℕ) → place_of n q ≡ place_in bs q
popped m n b bs hides index has hidden q =
    ⊎_elim
    (λ y. has q ∙ (cond-true (bytes_eq b.name q) hides (place_of m q) y ∙ (hidden ∙ ap (place_in bs) ((bytes_decides b.name q).0 y))))
    (λ e.
    has q
    ∙ (cond-false (bytes_eq b.name q) hides (place_of m q) e
    ∙ (index q ∙ cond-false (bytes_eq q b.name) (Some (length bs)) (place_in bs q) (nat_list_eq_equiv.symm q b.name ∙ e))))
    (cases_Bool (bytes_eq b.name q))

-- the declarations from the latest on, where one is the latest
latest_first : (xs ys : List Declared) (d : Declared) → xs ≡ ys ++ d ∷ [] → reverse xs ≡ d ∷ reverse ys
latest_first xs ys d h = ap reverse h ∙ reverse-append ys (d ∷ [])

-- the name of the latest declaration has a place
pub latest_is_known : {Y : Type 0} (m : BTreeMap (Vec ℕ Y) ℕ) (text : List ℕ) (xs ys : List Declared) (d : Declared) → IsExact m text xs → xs ≡ ys ++ d ∷ []
    → IsSome (place_of m (drop d.from text))
latest_is_known m text xs ys d exact h =
    let name : List ℕ = drop d.from text in
    let bs : List Binding = bindings (take d.from text) (reverse ys) in
    let e : place_of m name ≡ Some (length bs) =
    exact.index name ∙ (ap (λ l. place_in (bindings text l) name) (latest_first xs ys d h) ∙ latest_has_place (record { name = name; denotes = d.denotes }) bs)
    in
    subst (λ (o : Option ℕ). IsSome o) (sym e) refl

-- the latest declaration is taken away
pub exact_popped : {Y : Type 0} (m n : BTreeMap (Vec ℕ Y) ℕ) (text : List ℕ) (xs ys : List Declared) (d : Declared) → IsExact m text xs → xs ≡ ys ++ d ∷ []
    → HasPlace m n (drop d.from text) d.hides → IsExact n (take d.from text) ys
exact_popped m n text xs ys d exact h has =
    let e : reverse xs ≡ d ∷ reverse ys = latest_first xs ys d h in
    let kept : KeepsHidden text (d ∷ reverse ys) = subst (KeepsHidden text) e exact.hidden in
    record {
      index =
          popped m n (record { name = drop d.from text; denotes = d.denotes }) (bindings (take d.from text) (reverse ys)) d.hides
          (λ q. exact.index q ∙ ap (λ l. place_in (bindings text l) q) e) has kept.1;
      hidden = kept.2;
    }

-- a declaration is put last
pub exact_pushed : {Y : Type 0} (m n : BTreeMap (Vec ℕ Y) ℕ) (text name : List ℕ) (xs : List Declared) (d : Declared) → IsExact m text xs → d.from ≡ length text
    → d.hides ≡ place_of m name → HasPlace m n name (Some (length xs)) → IsExact n (text ++ name) (xs ++ d ∷ [])
exact_pushed m n text name xs d exact from hides has =
    let bs : List Binding = bindings text (reverse xs) in
    let e : reverse (xs ++ d ∷ []) ≡ d ∷ reverse xs = latest_first (xs ++ d ∷ []) xs d refl in
    let before : take d.from (text ++ name) ≡ text = ap (λ i. take i (text ++ name)) from ∙ take-append_seam text name in
    let after : drop d.from (text ++ name) ≡ name = ap (λ i. drop i (text ++ name)) from ∙ drop-append_seam text name in
    let b : Binding = record { name = name; denotes = d.denotes } in
    let all : bindings (text ++ name) (reverse (xs ++ d ∷ [])) ≡ b ∷ bs =
    ap (bindings (text ++ name)) e ∙ (λ i. record { name = after i; denotes = d.denotes } ∷ bindings (before i) (reverse xs))
    in
    let place : HasPlace m n name (Some (length bs)) = subst (λ k. HasPlace m n name (Some k)) (sym (count text xs)) has in
    let below : KeepsHidden (take d.from (text ++ name)) (reverse xs) = subst (λ l. KeepsHidden l (reverse xs)) (sym before) exact.hidden in
    let mine : d.hides ≡ place_in (bindings (take d.from (text ++ name)) (reverse xs)) (drop d.from (text ++ name)) =
    hides
    ∙ (exact.index name
    ∙ (ap (λ l. place_in (bindings l (reverse xs)) name) (sym before)
    ∙ ap (λ l. place_in (bindings (take d.from (text ++ name)) (reverse xs)) l) (sym after)))
    in
    let kept : KeepsHidden (text ++ name) (d ∷ reverse xs) = (omega (arith, length-append text name), mine, below) in
    record {
      index = λ q. pushed m n b bs exact.index place q ∙ ap (λ l. place_in l q) (sym all);
      hidden = subst (KeepsHidden (text ++ name)) (sym e) kept;
    }

-- the part of a text from a place on
pub rest_of : (text r : List ℕ) (i : ℕ) → r ≡ text → take (length r - i) (drop i r) ≡ drop i text
rest_of text r i e = take_all (length r - i) (drop i r) (omega (arith, length-drop i r)) ∙ ap (drop i) e

-- the latest declaration is taken away, by its name and what it hides
pub kept_popped : {Y : Type 0} (m n : BTreeMap (Vec ℕ Y) ℕ) (text name : List ℕ) (xs ys : List Declared) (d : Declared) (w : Option ℕ) → IsExact m text xs → xs ≡ ys ++ d ∷ []
    → name ≡ drop d.from text → d.hides ≡ w → HasPlace m n name w → IsExact n (take d.from text) ys
kept_popped m n text name xs ys d w exact h is hides has =
    exact_popped m n text xs ys d exact h (subst (λ (l : List ℕ). HasPlace m n l d.hides) is (subst (λ (o : Option ℕ). HasPlace m n name o) (sym hides) has))

-- a declaration is put last, in a text and a list that are these
pub kept_pushed : {Y : Type 0} (m n : BTreeMap (Vec ℕ Y) ℕ) (text name text' : List ℕ) (xs xs' : List Declared) (d : Declared) (place : ℕ) → IsExact m text xs
    → place ≡ length xs → d.from ≡ length text → d.hides ≡ place_of m name → HasPlace m n name (Some place) → text' ≡ text ++ name → xs' ≡ xs ++ d ∷ []
    → IsExact n text' xs'
kept_pushed m n text name text' xs xs' d place exact at from hides has e f =
    let done : IsExact n (text ++ name) (xs ++ d ∷ []) =
    exact_pushed m n text name xs d exact from hides (subst (λ (p : ℕ). HasPlace m n name (Some p)) at has)
    in
    subst (λ (l : List Declared). IsExact n text' l) (sym f) (subst (λ (t : List ℕ). IsExact n t (xs ++ d ∷ [])) (sym e) done)
