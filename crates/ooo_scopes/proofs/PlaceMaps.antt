-- A change of a map at one name, read by the bytes of each name.
use Rattle.std.specs.Prelude.{◌≡◌, ℕ, List, Option, Bool, true, false}
use Rattle.std.specs.BTreeMap.{BTreeMap, UpdatesBy}
use Rattle.std.specs.Cmp.{eq_by_cmp_equiv}
use Rattle.std.specs.Cmp.Lexicographic.{slice_cmp, bytes_decides, nat_list_cmp_total, nat_list_eq_equiv}
use Rattle.std.specs.Map.{KeepsOthers, IsKeyTest, AreApart, lookup}
use Rattle.std.specs.Ordering.{is_eq, nat_cmp}
use Rattle.std.specs.Str.{bytes_eq}
use Rattle.std.specs.declared.vec.Vec.{Vec}
use Rattle.std.proofs.Common.{sym, ◌∙◌, subst, ⊎_elim}
use Rattle.std.proofs.lemmas.Bool.{cases_Bool, cond-true, cond-false}
use Rattle.std.proofs.lemmas.Map.Text.{is_eq-slice_cmp}
use Rattle.ooo_scopes.specs.Places.{place_of, HasPlace}

-- a name that differs from another is not at the keys of that one
apart : (bs cs ks : List ℕ) → bytes_eq bs cs ≡ false → is_eq (slice_cmp nat_cmp bs ks) ≡ true → is_eq (slice_cmp nat_cmp cs ks) ≡ false
apart bs cs ks n y =
    is_eq-slice_cmp cs ks ∙ (nat_list_eq_equiv.symm cs ks ∙ (sym (nat_list_eq_equiv.congr bs ks cs (sym (is_eq-slice_cmp bs ks) ∙ y)) ∙ n))

others_stay : {K X : Type 0} (eq : K → K → Bool) (test : K → Bool) (old new : List (K × X)) → KeepsOthers eq test old new → (other : K → Bool)
    → IsKeyTest eq other → AreApart test other → lookup other new ≡ lookup other old
unfolding KeepsOthers
others_stay eq test old new h = h

pub has_place : {Y : Type 0} (bs : List ℕ) (m n : BTreeMap (Vec ℕ Y) ℕ) (w : Option ℕ)
    → UpdatesBy (λ x y. slice_cmp nat_cmp x.items y.items) (λ k. slice_cmp nat_cmp bs k.items) m n w → HasPlace m n bs w
has_place bs m n w h = λ cs.
    ⊎_elim
    (λ y. subst (λ l. place_of n l ≡ w) ((bytes_decides bs cs).0 y) h.1 ∙ sym (cond-true (bytes_eq bs cs) w (place_of m cs) y))
    (λ e.
    others_stay _ _ _ _ h.3 _ (λ x y. (eq_by_cmp_equiv nat_list_cmp_total).congr cs x.items y.items) (λ k. apart bs cs k.items e)
    ∙ sym (cond-false (bytes_eq bs cs) w (place_of m cs) e))
    (cases_Bool (bytes_eq bs cs))
