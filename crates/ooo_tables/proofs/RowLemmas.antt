-- Lists and tables that have the same entries are the same.
use Rattle.std.proofs.Common.{◌≡◌, ℕ, ◌<◌, List, [], length, get_or, sym, ◌∙◌, arith}
use Rattle.std.proofs.lemmas.List.{same_lists, get_or_default}
use Rattle.ooo_tables.specs.Tables.{HaveCount}

-- tables of so many rows and columns with the same entries
pub same_rows : {A : Type 0} (count : ℕ) (none : A) (rows others : List (List A)) → length rows ≡ count → length others ≡ count → HaveCount count rows → HaveCount count others → ((a b : ℕ) → a < count → b < count → get_or (get_or rows a []) b none ≡ get_or (get_or others a []) b none) → rows ≡ others
same_rows {A} count none rows others n m wide wide' same = same_lists rows others (n ∙ sym m) row
  where
    row : (a : ℕ) (d : List A) → a < length rows → get_or rows a d ≡ get_or others a d
    row a d lt =
        let lt' : a < length others = omega arith in
        let long = wide a [] lt in
        let long' = wide' a [] lt' in
        get_or_default rows a d [] lt
        ∙ same_lists (get_or rows a []) (get_or others a []) (long ∙ sym long')
        (λ b e below. let below' : b < length (get_or others a []) = omega arith in get_or_default (get_or rows a []) b e none below ∙ same a b (omega arith) (omega arith) ∙ sym (get_or_default (get_or others a []) b e none below'))
        ∙ sym (get_or_default others a d [] lt')
