-- What accesses call, one after another.
use Rattle.std.proofs.Common.{◌≡◌, ℕ, ◌+◌, List, [], ◌∷◌, ◌++◌, length, get_or, refl, sym, ◌∙◌, subst, arith, inl, inr, ◌⊎◌, ◌↔◌, Bool, Option, Some}
use Rattle.std.specs.Prelude.{Contains, slice_get, All}
use Rattle.std.proofs.lemmas.List.{length_push}
use Rattle.std.proofs.lemmas.Option.{slice_get_within, slice_get-get_or}
use Rattle.ooo_lemmas.proofs.Placed.{at_push}
use Rattle.ooo_time.specs.declared.time.Time.{Time}
use Rattle.ooo_value.specs.declared.bound.BoundEvent.{BoundEvent}
use Rattle.ooo_code.specs.Sound.{IsOwn}
use Rattle.ooo_segments.specs.Numbers.{IsIn, AreNumbersOf}
use Rattle.ooo_access.specs.declared.access.Access.{Access}
use Rattle.ooo_conflicts.specs.declared.called.Called.{Called}
use Rattle.ooo_conflicts.specs.declared.kind.ClashKind.{ClashKind}
use Rattle.ooo_conflicts.specs.declared.kind.ClashKind.TheVariants.{Apart, Earlier, Same}
use Rattle.ooo_conflicts.specs.Clashes.{Share, Calls, ShareVariable, ShareEvent, CallsWaited, WritesRead, ShareFifo}
use Rattle.ooo_conflicts.specs.Kinds.{AreCalled, AreListed, AllCalled, IsKindOf, IsRow, IsTable}

nothing : (empty : List Bool) (e : ℕ) → empty ≡ [] → IsIn empty e → ⊥
nothing xs e q y = let z = subst (λ ys. IsIn ys e) q y in cc

-- what one access calls, by the sets that were made
pub called_is : (events : List BoundEvent) (a : Access) (empty first both own : List Bool) (all owned : List ℕ) → empty ≡ [] →
    ((e : ℕ) → IsIn first e ↔ (IsIn empty e ⊎ ((t : Option Time) × Contains a.notified (e, t)))) →
    ((e : ℕ) → IsIn both e ↔ (IsIn first e ⊎ Contains a.cancelled e)) → AreNumbersOf both all →
    ((e : ℕ) → IsIn own e ↔ (Contains all e × IsOwn (slice_get events e))) → AreNumbersOf own owned →
    AreCalled events a (record { all = all; own = owned })
called_is events a empty first both own all owned none f g n h m = record { all = calls; own = own_calls }
  where
    calls : (e : ℕ) → Contains all e ↔ Calls a e
    calls e = (
      λ w. elim ((g e).0 ((n.same e).0 w)) [
        | inl x ↦ elim ((f e).0 x) [ inl y ↦ absurd (nothing empty e none y) | inr y ↦ inl y ]
        | inr x ↦ inr x
      ],
      λ w. (n.same e).1 ((g e).1 (elim w [ inl x ↦ inl ((f e).1 (inr x)) | inr x ↦ inr x ])),
    )

    own_calls : (e : ℕ) → Contains owned e ↔ (Calls a e × IsOwn (slice_get events e))
    own_calls e = (
      λ w. let r = (h e).0 ((m.same e).0 w) in ((calls e).0 r.0, r.1),
      λ w. (m.same e).1 ((h e).1 ((calls e).1 w.0, w.1)),
    )

-- what the accesses so far call
pub record CalledSoFar (events : List BoundEvent) (access : List Access) (i : ℕ) (called : List Called) : Type 0 where
  pub count : length called ≡ i
  pub each : (k : ℕ) (x : Access) (c : Called) → slice_get access k ≡ Some x → slice_get called k ≡ Some c → AreCalled events x c
  pub listed : (k : ℕ) (c : Called) → slice_get called k ≡ Some c → AreListed c

pub so_far_none : (events : List BoundEvent) (access : List Access) → CalledSoFar events access 0 []
so_far_none events access = record { count = refl; each = λ k x c a b. absurd cc; listed = λ k c b. absurd cc }

pub so_far_more : (events : List BoundEvent) (access : List Access) (i : ℕ) (called : List Called) (x : Access) (c : Called) → CalledSoFar events access i called → slice_get access i ≡ Some x → AreCalled events x c → AreListed c → CalledSoFar events access (i + 1) (called ++ c ∷ [])
so_far_more events access i called x c h is made listed = record {
  count = let n = h.count in let m = length_push called c in omega arith;
  each = λ k y d a b. elim (at_push called c d k b) [
    | inl e ↦ h.each k y d a e
    | inr e ↦
        let n : k ≡ i = e.0 ∙ h.count in
        let s : x ≡ y = let r = subst (λ j. slice_get access j ≡ Some y) n a in cc in
        subst (λ z. AreCalled events y z) e.1 (subst (λ z. AreCalled events z c) s made)
  ];
  listed = λ k d b. elim (at_push called c d k b) [ inl e ↦ h.listed k d e | inr e ↦ subst (λ z. AreListed z) e.1 listed ];
}

-- ---- kinds

own_shared : (events : List BoundEvent) (b g : Access) (x y : Called) → AreCalled events b x → AreCalled events g y → Share x.own y.own ↔ ShareEvent events b g
own_shared events b g x y p q = (
  λ s. let l = (p.own s.0).0 s.1 in let r = (q.own s.0).0 s.2 in (s.0, l.1, l.0, r.0),
  λ s. (s.0, (p.own s.0).1 (s.2, s.1), (q.own s.0).1 (s.3, s.1)),
)

waited_shared : (events : List BoundEvent) (b g : Access) (x : Called) → AreCalled events b x → Share x.all g.waited ↔ CallsWaited b g
waited_shared events b g x p = (
  λ s. (s.0, (p.all s.0).0 s.1, s.2),
  λ s. (s.0, (p.all s.0).1 s.1, s.2),
)

-- a clash at one stamp is one at all
pub same_kind : (events : List BoundEvent) (b g : Access) (x y : Called) → AreCalled events b x → AreCalled events g y → ShareVariable b g ⊎ Share x.own y.own → IsKindOf events b g Same
same_kind events b g x y p q h = λ strict. (
  λ _. inl (elim h [ inl a ↦ inl a | inr s ↦ inr ((own_shared events b g x y p q).0 s) ]),
  λ _. refl,
)

-- a clash where the first comes earlier
pub earlier_kind : (events : List BoundEvent) (b g : Access) (x y : Called) → AreCalled events b x → AreCalled events g y → (ShareVariable b g ⊎ Share x.own y.own → ⊥) → Share x.all g.waited ⊎ (WritesRead b g ⊎ ShareFifo b g) → IsKindOf events b g Earlier
earlier_kind events b g x y p q out h = λ strict. (
  λ e. inr (e, elim h [ inl s ↦ inl ((waited_shared events b g x p).0 s) | inr s ↦ inr s ]),
  λ w. elim w [
    | inl s ↦ absurd (out (elim s [ inl a ↦ inl a | inr a ↦ inr ((own_shared events b g x y p q).1 a) ]))
    | inr s ↦ s.0
  ],
)

-- no clash
pub apart_kind : (events : List BoundEvent) (b g : Access) (x y : Called) → AreCalled events b x → AreCalled events g y → (ShareVariable b g ⊎ Share x.own y.own → ⊥) → (Share x.all g.waited ⊎ (WritesRead b g ⊎ ShareFifo b g) → ⊥) → IsKindOf events b g Apart
apart_kind events b g x y p q out none = λ strict. (
  λ e. absurd cc,
  λ w. absurd (elim w [
    | inl s ↦ out (elim s [ inl a ↦ inl a | inr a ↦ inr ((own_shared events b g x y p q).1 a) ])
    | inr s ↦ none (elim s.1 [ inl a ↦ inl ((waited_shared events b g x p).1 a) | inr a ↦ inr a ])
  ]),
)

-- ---- rows

-- the kinds of a row so far
pub record RowSoFar (events : List BoundEvent) (b : Access) (access : List Access) (i : ℕ) (row : List ClashKind) : Type 0 where
  pub count : length row ≡ i
  pub kinds : (g : ℕ) (y : Access) (k : ClashKind) → slice_get access g ≡ Some y → slice_get row g ≡ Some k → IsKindOf events b y k

pub row_none : (events : List BoundEvent) (b : Access) (access : List Access) → RowSoFar events b access 0 []
row_none events b access = record { count = refl; kinds = λ g y k a c. absurd cc }

pub row_more : (events : List BoundEvent) (b : Access) (access : List Access) (i : ℕ) (row : List ClashKind) (x : Access) (k : ClashKind) → RowSoFar events b access i row → slice_get access i ≡ Some x → IsKindOf events b x k → RowSoFar events b access (i + 1) (row ++ k ∷ [])
row_more events b access i row x k h is made = record {
  count = let n = h.count in let m = length_push row k in omega arith;
  kinds = λ g y j a c. elim (at_push row k j g c) [
    | inl e ↦ h.kinds g y j a e
    | inr e ↦
        let n : g ≡ i = e.0 ∙ h.count in
        let s : x ≡ y = let r = subst (λ m. slice_get access m ≡ Some y) n a in cc in
        subst (λ z. IsKindOf events b y z) e.1 (subst (λ z. IsKindOf events b z k) s made)
  ];
}

pub row_end : (events : List BoundEvent) (b : Access) (access : List Access) (i : ℕ) (row : List ClashKind) → i ≡ length access → RowSoFar events b access i row → IsRow events b access row
row_end events b access i row e h = record {
  count = h.count ∙ e;
  kinds = λ g y a.
      let lt = slice_get_within access g y a in
      let n = h.count in
      h.kinds g y (get_or row g Apart) a (slice_get-get_or row g Apart (omega arith));
}

-- the rows so far
pub record RowsSoFar (events : List BoundEvent) (access : List Access) (i : ℕ) (rows : List (List ClashKind)) : Type 0 where
  pub count : length rows ≡ i
  pub each : (b : ℕ) (x : Access) (row : List ClashKind) → slice_get access b ≡ Some x → slice_get rows b ≡ Some row → IsRow events x access row
  pub long : (b : ℕ) (row : List ClashKind) → slice_get rows b ≡ Some row → length row ≡ length access

pub rows_none : (events : List BoundEvent) (access : List Access) → RowsSoFar events access 0 []
rows_none events access = record { count = refl; each = λ b x row a c. absurd cc; long = λ b row c. absurd cc }

pub rows_more : (events : List BoundEvent) (access : List Access) (i : ℕ) (rows : List (List ClashKind)) (x : Access) (row : List ClashKind) → RowsSoFar events access i rows → slice_get access i ≡ Some x → IsRow events x access row → RowsSoFar events access (i + 1) (rows ++ row ∷ [])
rows_more events access i rows x row h is made = record {
  count = let n = h.count in let m = length_push rows row in omega arith;
  each = λ b y other a c. elim (at_push rows row other b c) [
    | inl e ↦ h.each b y other a e
    | inr e ↦
        let n : b ≡ i = e.0 ∙ h.count in
        let s : x ≡ y = let r = subst (λ m. slice_get access m ≡ Some y) n a in cc in
        subst (λ z. IsRow events y access z) e.1 (subst (λ z. IsRow events z access row) s made)
  ];
  long = λ b other c. elim (at_push rows row other b c) [ inl e ↦ h.long b other e | inr e ↦ subst (λ z. length z ≡ length access) e.1 made.count ];
}

pub rows_end : (events : List BoundEvent) (access : List Access) (i : ℕ) (rows : List (List ClashKind)) → i ≡ length access → RowsSoFar events access i rows → IsTable events access rows
rows_end events access i rows e h = record {
  count = h.count ∙ e;
  kinds = λ b g x y p q.
      let lt = slice_get_within access b x p in
      let n = h.count in
      (h.each b x (get_or rows b []) p (slice_get-get_or rows b [] (omega arith))).kinds g y q;
}

-- each row has an entry for each access
pub rows_wide : (events : List BoundEvent) (access : List Access) (i : ℕ) (rows : List (List ClashKind)) → RowsSoFar events access i rows → All (λ row. length row ≡ length access) rows
rows_wide events access i rows h = λ k d lt. h.long k (get_or rows k d) (slice_get-get_or rows k d lt)

pub rows_long : (events : List BoundEvent) (access : List Access) (i : ℕ) (rows : List (List ClashKind)) → i ≡ length access → RowsSoFar events access i rows → All (λ row. length row ≡ length rows) rows
rows_long events access i rows e h = λ k d lt. h.long k (get_or rows k d) (slice_get-get_or rows k d lt) ∙ sym (h.count ∙ e)

-- what is called is listed in order
pub all_listed : (events : List BoundEvent) (access : List Access) (called : List Called) → AllCalled events access called → All AreListed called
all_listed events access called h = λ k d lt. h.listed k (get_or called k d) (slice_get-get_or called k d lt)
