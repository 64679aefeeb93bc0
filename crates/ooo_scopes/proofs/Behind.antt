-- The bindings behind the latest ones, and the places of names among them.
use Rattle.std.specs.Prelude.{◌≡◌, ℕ, zero, suc, ◌+◌, ◌-◌, ◌<◌, ◌≤◌, List, [], ◌∷◌, length, drop, take, reverse, Option, Some, None, Bool, true, false, cond, refl}
use Rattle.std.specs.Str.{bytes_eq}
use Rattle.std.specs.Cmp.Lexicographic.{bytes_decides}
use Rattle.std.proofs.Common.{sym, ◌∙◌, ap, subst, arith, get_or, ⊎_elim}
use Rattle.std.proofs.lemmas.Bool.{cases_lt}
use Rattle.std.proofs.lemmas.List.{drop-drop, drop_all, length-drop, length-reverse, reverse-reverse}
use Rattle.ooo_checked.specs.Scopes.{Binding, found_in}
use Rattle.ooo_scopes.specs.Names.{bindings, place_in, KeepsHidden}
use Rattle.ooo_scopes.specs.declared.names.Declared.{Declared}
use Rattle.ooo_scopes.proofs.Bindings.{earlier_of, last_of, length-bindings, found_at, found_none, place_lt}

-- the place, if any, is that of the name behind as many of the latest bindings as were passed, which are no more than these
pub record Reached (bs : List Binding) (k : ℕ) (q : List ℕ) (place : Option ℕ) : Type 0 where
  pub passed : ℕ
  pub within : passed ≤ k
  pub is : place ≡ place_in (drop passed bs) q

-- how far a place is from there being none
abbrev pub rank : Option ℕ → ℕ
rank None = zero
rank (Some p) = suc p

-- a name without a place has none behind the latest bindings
none_behind : (xs : List Binding) (j : ℕ) (q : List ℕ) → place_in xs q ≡ None → place_in (drop j xs) q ≡ None
none_behind xs zero q h = h
none_behind [] (suc j) q h = refl
none_behind (b ∷ bs) (suc j) q h =
    elim (bytes_eq q b.name) as (λ t. cond t (Some (length bs)) (place_in bs q) ≡ None → place_in (drop j bs) q ≡ None)
    [ true ↦ λ e. cc | false ↦ λ e. none_behind bs j q e ] h

-- a place that isn't among the latest bindings is found behind them
some_behind : (xs : List Binding) (j : ℕ) (q : List ℕ) (p : ℕ) → place_in xs q ≡ Some p → p + j < length xs → place_in (drop j xs) q ≡ Some p
some_behind xs zero q p h lt = h
some_behind [] (suc j) q p h lt = cc
some_behind (b ∷ bs) (suc j) q p h lt =
    elim (bytes_eq q b.name) as (λ t. cond t (Some (length bs)) (place_in bs q) ≡ Some p → place_in (drop j bs) q ≡ Some p) [
      | true ↦ λ e. let same : length bs ≡ p = cc in absurd (omega arith)
      | false ↦ λ e. some_behind bs j q p e (omega arith)
    ] h

-- what is reached is the place behind the latest bindings, where there is none
pub reached_none : (bs : List Binding) (k : ℕ) (q : List ℕ) → Reached bs k q None → place_in (drop k bs) q ≡ None
reached_none bs k q r =
    let rest : ℕ = k - r.passed in
    let all : r.passed + rest ≡ k = omega (arith, r.within) in
    subst (λ (n : ℕ). place_in (drop n bs) q ≡ None) all
    (subst (λ (l : List Binding). place_in l q ≡ None) (drop-drop rest r.passed bs) (none_behind (drop r.passed bs) rest q (sym r.is)))

-- and where it isn't among the latest ones
pub reached_some : (bs : List Binding) (k : ℕ) (q : List ℕ) (p : ℕ) → k ≤ length bs → Reached bs k q (Some p) → p < length bs - k
    → place_in (drop k bs) q ≡ Some p
reached_some bs k q p fits r lt =
    let rest : ℕ = k - r.passed in
    let all : r.passed + rest ≡ k = omega (arith, r.within) in
    let long : p + rest < length (drop r.passed bs) = omega (arith, r.within, length-drop r.passed bs) in
    subst (λ (n : ℕ). place_in (drop n bs) q ≡ Some p) all
    (subst (λ (l : List Binding). place_in l q ≡ Some p) (drop-drop rest r.passed bs)
    (some_behind (drop r.passed bs) rest q p (sym r.is) long))

-- what the latest declaration hides has the place of its name among the bindings before it
hides_latest : (text : List ℕ) (d0 : Declared) (ds : List Declared) (q : List ℕ) (p : ℕ) (d : Declared)
    → d0.hides ≡ place_in (bindings (take d0.from text) ds) (drop d0.from text) → bytes_eq q (drop d0.from text) ≡ true → p ≡ length ds
    → (get_or (reverse (d0 ∷ ds)) p d).hides ≡ place_in (drop (length (d0 ∷ ds) - p) (bindings text (d0 ∷ ds))) q
hides_latest text d0 ds q p d hides is at =
    let same : q ≡ drop d0.from text = (bytes_decides q (drop d0.from text)).0 is in
    let one : length (d0 ∷ ds) - p ≡ suc zero = omega (arith, at) in
    ap (λ n. (get_or (reverse (d0 ∷ ds)) n d).hides) at
    ∙ (ap (λ (x : Declared). x.hides) (last_of d0 ds d)
    ∙ (hides
    ∙ (ap (place_in (bindings (take d0.from text) ds)) (sym same)
    ∙ ap (λ n. place_in (drop n (bindings text (d0 ∷ ds))) q) (sym one))))

-- what an earlier one hides has it among those before that
hides_earlier : (text : List ℕ) (d0 : Declared) (ds : List Declared) (q : List ℕ) (p : ℕ) (d : Declared) → p < length ds
    → (get_or (reverse ds) p d).hides ≡ place_in (drop (length ds - p) (bindings (take d0.from text) ds)) q
    → (get_or (reverse (d0 ∷ ds)) p d).hides ≡ place_in (drop (length (d0 ∷ ds) - p) (bindings text (d0 ∷ ds))) q
hides_earlier text d0 ds q p d lt h =
    let more : suc (length ds - p) ≡ length (d0 ∷ ds) - p = omega (arith, lt) in
    ap (λ (x : Declared). x.hides) (earlier_of d0 ds d p lt)
    ∙ (h ∙ ap (λ n. place_in (drop n (bindings text (d0 ∷ ds))) q) more)

-- what the declaration at the place of a name hides has the place of the name among the bindings before it
hides_at : (text : List ℕ) (ds : List Declared) (q : List ℕ) (p : ℕ) (d : Declared) → KeepsHidden text ds
    → place_in (bindings text ds) q ≡ Some p → (get_or (reverse ds) p d).hides ≡ place_in (drop (length ds - p) (bindings text ds)) q
hides_at text [] q p d keeps h = cc
hides_at text (d0 ∷ ds) q p d keeps h = at (bytes_eq q (drop d0.from text)) refl h (hides_at (take d0.from text) ds q p d keeps.2)
  where
    at : (t : Bool) → bytes_eq q (drop d0.from text) ≡ t
        → cond t (Some (length (bindings (take d0.from text) ds))) (place_in (bindings (take d0.from text) ds) q) ≡ Some p
        → (place_in (bindings (take d0.from text) ds) q ≡ Some p
        → (get_or (reverse ds) p d).hides ≡ place_in (drop (length ds - p) (bindings (take d0.from text) ds)) q)
        → (get_or (reverse (d0 ∷ ds)) p d).hides ≡ place_in (drop (length (d0 ∷ ds) - p) (bindings text (d0 ∷ ds))) q
    at true is e go =
        let same : length (bindings (take d0.from text) ds) ≡ p = cc in
        hides_latest text d0 ds q p d keeps.1 is (sym same ∙ length-bindings (take d0.from text) ds)
    at false is e go =
        hides_earlier text d0 ds q p d (omega (arith, place_lt (bindings (take d0.from text) ds) q p e, length-bindings (take d0.from text) ds)) (go e)

-- the same for the place of a name behind the latest bindings, with what its declaration denotes
pub behind_at : (text : List ℕ) (ds : List Declared) (m : ℕ) (q : List ℕ) (p : ℕ) (d : Declared) → KeepsHidden text ds
    → place_in (drop m (bindings text ds)) q ≡ Some p
    → (p < length ds) × ((get_or (reverse ds) p d).hides ≡ place_in (drop (length ds - p) (bindings text ds)) q)
    × (found_in (drop m (bindings text ds)) q ≡ Some (get_or (reverse ds) p d).denotes)
behind_at text ds zero q p d keeps h = let f = found_at text ds q p d h in (f.0, hides_at text ds q p d keeps h, f.1)
behind_at text [] (suc m) q p d keeps h = cc
behind_at text (d0 ∷ ds) (suc m) q p d keeps h =
    let rest = behind_at (take d0.from text) ds m q p d keeps.2 h in (
      omega (arith, rest.0),
      hides_earlier text d0 ds q p d rest.0 rest.1,
      rest.2 ∙ ap (λ (x : Declared). Some x.denotes) (sym (earlier_of d0 ds d p rest.0)),
    )

-- a step from a place that is among the latest ones to what is hidden there
pub reached_next : (text : List ℕ) (xs : List Declared) (k : ℕ) (q : List ℕ) (p : ℕ) (d : Declared) → KeepsHidden text (reverse xs)
    → Reached (bindings text (reverse xs)) k q (Some p) → length xs ≤ p + k
    → Reached (bindings text (reverse xs)) k q (get_or xs p d).hides
reached_next text xs k q p d keeps r late =
    let at = behind_at text (reverse xs) r.passed q p d keeps (sym r.is) in
    record {
      passed = length (reverse xs) - p;
      within = omega (arith, late, length-reverse xs);
      is = ap (λ (l : List Declared). (get_or l p d).hides) (sym (reverse-reverse xs)) ∙ at.1;
    }

-- a place is below the length
rank_below : (bs : List Binding) (q : List ℕ) (p : ℕ) → length bs ≤ p → rank (place_in bs q) < suc p
rank_below bs q p h = at (place_in bs q) refl where
  at : (o : Option ℕ) → place_in bs q ≡ o → rank (place_in bs q) < suc p
  at None e = rw e (omega arith)
  at (Some j) e = rw e (omega (arith, place_lt bs q j e))

-- the first place
pub reached_first : (bs : List Binding) (k : ℕ) (q : List ℕ) (place : Option ℕ) → place ≡ place_in bs q → Reached bs k q place
reached_first bs k q place h = record { passed = zero; within = omega arith; is = h }

-- the place that a declaration hides is nearer to there being none
pub nearer : (text : List ℕ) (xs : List Declared) (k : ℕ) (q : List ℕ) (p : ℕ) (d : Declared) → KeepsHidden text (reverse xs)
    → Reached (bindings text (reverse xs)) k q (Some p) → rank (get_or xs p d).hides < suc p
nearer text xs k q p d keeps r =
    let at = behind_at text (reverse xs) r.passed q p d keeps (sym r.is) in
    let is : (get_or xs p d).hides ≡ place_in (drop (length (reverse xs) - p) (bindings text (reverse xs))) q =
    ap (λ (l : List Declared). (get_or l p d).hides) (sym (reverse-reverse xs)) ∙ at.1
    in
    subst (λ (o : Option ℕ). rank o < suc p) (sym is)
    (rank_below (drop (length (reverse xs) - p) (bindings text (reverse xs))) q p
    (omega (arith, at.0, length-drop (length (reverse xs) - p) (bindings text (reverse xs)), length-bindings text (reverse xs))))

-- a place that is reached is one of the declarations
pub reached_lt : (text : List ℕ) (xs : List Declared) (k : ℕ) (q : List ℕ) (p : ℕ)
    → Reached (bindings text (reverse xs)) k q (Some p) → p < length xs
reached_lt text xs k q p r =
    let bs : List Binding = bindings text (reverse xs) in
    omega (arith, place_lt (drop r.passed bs) q p (sym r.is), length-drop r.passed bs, length-bindings text (reverse xs), length-reverse xs)

-- where as many of the earliest bindings are kept, what is reached among them is found
pub at_kept : (bs : List Binding) (kept : ℕ) (q : List ℕ) (p : ℕ) → Reached bs (length bs - kept) q (Some p) → p < kept
    → place_in (drop (length bs - kept) bs) q ≡ Some p
at_kept bs kept q p r lt =
    reached_some bs (length bs - kept) q p (omega arith) r
    (omega (arith, lt, place_lt (drop r.passed bs) q p (sym r.is), length-drop r.passed bs))

-- a place that is not among these is among the latest ones
pub late_at : (text : List ℕ) (xs : List Declared) (kept p : ℕ) → kept ≤ p → length xs ≤ p + (length (bindings text (reverse xs)) - kept)
late_at text xs kept p h = omega (arith, h, length-bindings text (reverse xs), length-reverse xs)

-- what is left of the bindings without the latest ones, by how many are kept
same_rest : (bs : List Binding) (latest : ℕ) → drop (length bs - (length bs - latest)) bs ≡ drop latest bs
same_rest bs latest = ⊎_elim
    (λ (h : latest < length bs). let same : length bs - (length bs - latest) ≡ latest = omega (arith, h) in ap (λ n. drop n bs) same)
    (λ (h : length bs ≤ latest). drop_all (length bs - (length bs - latest)) bs (omega (arith, h)) ∙ sym (drop_all latest bs h))
    (cases_lt latest (length bs))

-- the declaration at a place that is found among those kept says what the name denotes without the latest ones
pub before_at : (text : List ℕ) (xs : List Declared) (latest kept : ℕ) (q : List ℕ) (p : ℕ) (d : Declared) → KeepsHidden text (reverse xs)
    → kept ≡ length (bindings text (reverse xs)) - latest
    → place_in (drop (length (bindings text (reverse xs)) - kept) (bindings text (reverse xs))) q ≡ Some p
    → (p < length xs) × (found_in (drop latest (bindings text (reverse xs))) q ≡ Some (get_or xs p d).denotes)
before_at text xs latest kept q p d keeps is h =
    let bs : List Binding = bindings text (reverse xs) in
    let same : drop (length bs - kept) bs ≡ drop latest bs = ap (λ n. drop (length bs - n) bs) is ∙ same_rest bs latest in
    let at = behind_at text (reverse xs) latest q p d keeps (ap (λ l. place_in l q) (sym same) ∙ h) in
    (omega (arith, at.0, length-reverse xs), at.2 ∙ ap (λ (l : List Declared). Some (get_or l p d).denotes) (reverse-reverse xs))

-- and where none is found, it denotes nothing
pub before_none : (text : List ℕ) (xs : List Declared) (latest kept : ℕ) (q : List ℕ)
    → kept ≡ length (bindings text (reverse xs)) - latest
    → place_in (drop (length (bindings text (reverse xs)) - kept) (bindings text (reverse xs))) q ≡ None
    → found_in (drop latest (bindings text (reverse xs))) q ≡ None
before_none text xs latest kept q is h =
    let bs : List Binding = bindings text (reverse xs) in
    let same : drop (length bs - kept) bs ≡ drop latest bs = ap (λ n. drop (length bs - n) bs) is ∙ same_rest bs latest in
    found_none (drop latest bs) q (ap (λ l. place_in l q) (sym same) ∙ h)
