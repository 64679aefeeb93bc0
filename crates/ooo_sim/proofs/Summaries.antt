-- Sums over parts of lists, and the line that ends a report.
use Rattle.std.proofs.Common.{◌≡◌, ℕ, ◌+◌, ◌%◌, ◌≤◌, List, [], ◌∷◌, ◌++◌, length, drop, refl, sym, ap, ◌∙◌, arith, length-append}
use Rattle.std.specs.Prelude.{codes}
use Rattle.std.proofs.Math.Nat.{mod-add-mod}
use Rattle.std.proofs.lemmas.List.Concat.{flat_map-cons}
use Rattle.std.proofs.lemmas.List.Sums.{sum_by-append, sum_by-cons}
use Rattle.std.specs.List.{sum, sum_by}
use Rattle.ooo_value.specs.declared.naming.Names.{Names}
use Rattle.ooo_history.specs.Reporting.{end_text, histories_text, output_text, report_text}
use Rattle.ooo_history.specs.declared.run.End.{End}
use Rattle.ooo_history.specs.declared.run.Piece.{Piece}

-- no channels have no histories
pub no_histories : (names : List (List ℕ)) → histories_text names [] ≡ []
no_histories [] = refl
no_histories (name ∷ names) = refl

-- the report of a run that printed nothing and has no channels
abbrev bare_report : Names → End → List ℕ
bare_report names e = report_text (record { pieces = []; channels = []; end = e; activations = 0 }) names

bare_is : (names : Names) (e : End) → bare_report names e ≡ codes "== histories\n== end\n" ++ (end_text names.processes e ++ codes "\n")
bare_is names e = rw (no_histories names.channels) refl

pub bare_has : (names : Names) (e : End) (r : List ℕ) → r ≡ bare_report names e → 20 ≤ length r
bare_has names e r is =
    let more = ap length (is ∙ bare_is names e) ∙ length-append (codes "== histories\n== end\n") (end_text names.processes e ++ codes "\n") in
    omega arith

pub bare_ending : (names : Names) (e : End) (r : List ℕ) → r ≡ bare_report names e → drop 20 r ≡ end_text names.processes e ++ codes "\n"
bare_ending names e r is = ap (drop 20) (is ∙ bare_is names e)

-- a sum modulo m goes on by a further number
pub sum_goes_on : (total from sum more m : ℕ) → total ≡ (from + sum) % m → (total + more) % m ≡ (from + (sum + more)) % m
sum_goes_on total from sum more m is =
    ap (λ t. (t + more) % m) is ∙ mod-add-mod (from + sum) m more ∙ ap (λ n. n % m) (omega arith)

-- the bytes of all pieces, piece by piece
pub sum_of_output : (pieces : List Piece) → sum (output_text pieces) ≡ sum_by (λ (p : Piece). sum p.bytes) pieces
sum_of_output [] = refl
sum_of_output (p ∷ ps) =
    ap sum (flat_map-cons (λ (q : Piece). q.bytes) p ps) ∙ sum_by-append (λ x. x) p.bytes (output_text ps)
    ∙ ap (λ n. sum p.bytes + n) (sum_of_output ps) ∙ sym (sum_by-cons (λ (q : Piece). sum q.bytes) p ps)
