-- Of several breaches the one that is told is the least.
use Rattle.std.proofs.Common.{◌≡◌, ◌∙◌, ap, ℕ, get_or, sym, subst, refl, ◌<◌, ◌==◌, Bool, true, false, List, [], ◌∷◌, ◌++◌, Option, Some, None, ◌⊎◌, inl, inr, Contains, append_assoc, arith}
use Rattle.std.specs.Bool.{Decides}
use Rattle.std.proofs.lemmas.Bool.Decides.{Decides-or, Decides-and, Decides-ltb, Decides-eqb, not_from_Decides}
use Rattle.std.proofs.lemmas.List.{append-nil}
use Rattle.std.proofs.lemmas.List.Elements.{Contains-append_left, Contains-push, Contains-push_cases}
use Rattle.ooo_syntax.specs.declared.unit.Unit.{Unit as UnitSpec}
use Rattle.ooo_checked.specs.declared.breach.Breach.{Breach}
use Rattle.ooo_checked.specs.declared.breach.TypeBreach.{TypeBreach}
use Rattle.ooo_checked.specs.declared.breach.TypeBreach.TheVariants as what
use Rattle.ooo_checked.specs.Breaches.{rank_of}
use Rattle.ooo_checked.specs.Notes.{Note, Breaks, Calls, Waits, Triggers}
use Rattle.ooo_bodies.specs.declared.notes.Notes.{Notes}
use Rattle.ooo_bodies.specs.Noting.{noted, precedes, told, with_note}
use Rattle.ooo_types.specs.Told.{HasOneBreach, IsEither, IsLeast, IsNotBoth, IsTold, breaches_in, breaches_of}
use Rattle.ooo_types.specs.Units.{unit_of}

-- ---- the order of breaches

-- a breach is told rather than another
abbrev Precedes : Breach → Breach → Type 0
Precedes a b =
    ((a.at.line < b.at.line) ⊎ ((a.at.line ≡ b.at.line) × (a.at.column < b.at.column)))
    ⊎ (((a.at.line ≡ b.at.line) × (a.at.column ≡ b.at.column)) × (rank_of a.what < rank_of b.what))

decided : (a b : Breach) → Decides (precedes a b) (Precedes a b)
decided a b =
    let line : Decides (a.at.line == b.at.line) (a.at.line ≡ b.at.line) = Decides-eqb a.at.line b.at.line in
    Decides-or _ _ (Decides-or _ _ (Decides-ltb a.at.line b.at.line) (Decides-and _ _ line (Decides-ltb a.at.column b.at.column)))
    (Decides-and _ _ (Decides-and _ _ line (Decides-eqb a.at.column b.at.column)) (Decides-ltb (rank_of a.what) (rank_of b.what)))

-- what is not so is decided as false
no : {b : Bool} {P : Type 0} → Decides b P → ¬ P → b ≡ false
no {b = true} d h = absurd (h (d.0 refl))
no {b = false} d h = refl

irrefl : (a : Breach) → ¬ Precedes a a
irrefl a h = grind arith

trans : (a b c : Breach) → Precedes a b → Precedes b c → Precedes a c
trans a b c h k = grind arith

-- ---- one breach more

-- where the new breach is told, none of the others stands before it
told_new : (b x : Breach) (seen : List Breach) → precedes x b ≡ true → IsLeast b seen → IsLeast x (seen ++ x ∷ [])
told_new b x seen h before = record {
  among = Contains-push seen x;
  least = λ c among. elim (Contains-push_cases seen x c among) [
    | inl a ↦ no (decided c x) (λ k. not_from_Decides _ (decided c b) (before.least c a) (trans c x b k ((decided x b).0 h)))
    | inr e ↦ subst (λ y. precedes y x ≡ false) e (no (decided x x) (irrefl x))
  ];
}

-- where it is not, the one that was told before stands before none
told_old : (b x : Breach) (seen : List Breach) → precedes x b ≡ false → IsLeast b seen → IsLeast b (seen ++ x ∷ [])
told_old b x seen h before = record {
  among = Contains-append_left seen (x ∷ []) b before.among;
  least = λ c among. elim (Contains-push_cases seen x c among) [
    | inl a ↦ before.least c a
    | inr e ↦ subst (λ y. precedes y b ≡ false) e h
  ];
}

no_member : (c : Breach) → ¬ Contains [] c
no_member c a = grind arith

told_first : (x : Breach) → IsLeast x (x ∷ [])
told_first x = record {
  among = Contains-push [] x;
  least = λ c among. elim (Contains-push_cases [] x c among) [
    | inl a ↦ absurd (no_member c a)
    | inr e ↦ subst (λ y. precedes y x ≡ false) e (no (decided x x) (irrefl x))
  ];
}

told_some : (b x : Breach) (seen : List Breach) (r : Bool) → precedes x b ≡ r → IsLeast b seen →
    IsTold (told (Some b) x) (seen ++ x ∷ [])
told_some b x seen true h before = rw h (told_new b x seen h before)
told_some b x seen false h before = rw h (told_old b x seen h before)

told_more : (o : Option Breach) (x : Breach) (seen : List Breach) → IsTold o seen → IsTold (told o x) (seen ++ x ∷ [])
told_more None x seen none = subst (λ bs. IsTold (Some x) (bs ++ x ∷ [])) (sym none) (told_first x)
told_more (Some b) x seen before = told_some b x seen (precedes x b) refl before

-- ---- all breaches

-- of all that is noted the breach is kept that is told of all breaches
pub told_all : (n : Notes) (seen : List Breach) (ns : List Note) → IsTold n.breach seen →
    IsTold (noted n ns).breach (seen ++ breaches_in ns)
told_all n seen [] before = subst (λ bs. IsTold n.breach bs) (sym (append-nil seen)) before
told_all n seen (Breaks what at ∷ ns) before =
    let b : Breach = record { what = what; at = at } in
    subst (λ bs. IsTold (noted (with_note n (Breaks what at)) ns).breach bs) (append_assoc seen (b ∷ []) (breaches_in ns))
    (told_all (with_note n (Breaks what at)) (seen ++ b ∷ []) ns (told_more n.breach b seen before))
told_all n seen (Calls at function ∷ ns) before = told_all (with_note n (Calls at function)) seen ns before
told_all n seen (Waits at ∷ ns) before = told_all (with_note n (Waits at)) seen ns before
told_all n seen (Triggers at ∷ ns) before = told_all (with_note n (Triggers at)) seen ns before

-- where nothing was noted before, the breach that is kept is told of a text
pub told_of : (u : UnitSpec) (n m : Notes) (o : Option Breach) → n ≡ record { breach = None; calls = []; waits = []; triggers = [] } →
    m ≡ noted n (unit_of u).notes → m.breach ≡ o → IsTold o (breaches_of u)
told_of u n m o first is kept =
    subst (λ k. IsTold k (breaches_of u)) kept
    (subst (λ k. IsTold k.breach (breaches_of u)) (sym is)
    (told_all n [] (unit_of u).notes (subst (λ k. IsTold k.breach []) (sym first) refl)))

-- ---- one answer

-- the breach of a rank
abbrev what_of : ℕ → TypeBreach
what_of n = get_or (what.NotConstant ∷ what.UnknownName ∷ what.DeclaredTwice ∷ what.WrongKind ∷ what.WaitInMethod
    ∷ what.WaitInFunction ∷ what.RecursiveCall ∷ what.NotAPort ∷ what.WrongCount ∷ what.EffectInside ∷ []) n what.NotConstant

what_of-rank : (w : TypeBreach) → what_of (rank_of w) ≡ w
what_of-rank what.UnknownName = refl
what_of-rank what.DeclaredTwice = refl
what_of-rank what.WrongKind = refl
what_of-rank what.WaitInMethod = refl
what_of-rank what.WaitInFunction = refl
what_of-rank what.RecursiveCall = refl
what_of-rank what.NotAPort = refl
what_of-rank what.WrongCount = refl
what_of-rank what.EffectInside = refl
what_of-rank what.NotConstant = refl

-- neither number is less
no_less : (m n : ℕ) → ¬ (m < n) → ¬ (n < m) → m ≡ n
no_less m n h k = grind arith

-- neither breach stands before the other
same_breach : (b c : Breach) → ¬ Precedes b c → ¬ Precedes c b → b ≡ c
same_breach b c h k =
    let line : b.at.line ≡ c.at.line =
    no_less b.at.line c.at.line (λ l. h (inl (inl l))) (λ l. k (inl (inl l))) in
    let column : b.at.column ≡ c.at.column =
    no_less b.at.column c.at.column (λ l. h (inl (inr (line, l)))) (λ l. k (inl (inr (sym line, l)))) in
    let rank : rank_of b.what ≡ rank_of c.what =
    no_less (rank_of b.what) (rank_of c.what) (λ l. h (inr ((line, column), l))) (λ l. k (inr ((sym line, sym column), l))) in
    let what : b.what ≡ c.what = sym (what_of-rank b.what) ∙ ap what_of rank ∙ what_of-rank c.what in
    ap (λ l. record { what = b.what; at = record { line = l; column = b.at.column } }) line
    ∙ ap (λ m. record { what = b.what; at = record { line = c.at.line; column = m } }) column
    ∙ ap (λ w. record { what = w; at = c.at }) what

pub one_least : HasOneBreach
one_least u b c first second =
    same_breach b c (not_from_Decides _ (decided b c) (second.least b first.among))
    (not_from_Decides _ (decided c b) (first.least c second.among))

pub not_both : IsNotBoth
not_both u b some none = no_member b (subst (λ bs. Contains bs b) none some.among)

pub either : IsEither
either u = go (noted nothing (unit_of u).notes).breach refl where
  nothing : Notes
  nothing = record { breach = None; calls = []; waits = []; triggers = [] }

  go : (o : Option Breach) → (noted nothing (unit_of u).notes).breach ≡ o →
      (breaches_of u ≡ []) ⊎ ((b : Breach) × IsLeast b (breaches_of u))
  go None kept = inl (told_of u nothing (noted nothing (unit_of u).notes) None refl refl kept)
  go (Some b) kept = inr (b, told_of u nothing (noted nothing (unit_of u).notes) (Some b) refl refl kept)
