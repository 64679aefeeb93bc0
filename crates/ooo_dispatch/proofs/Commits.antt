-- What is done in the order of the commits is what is done in order of place, where what stands out of order commutes.
use Rattle.std.proofs.Common.{◌≡◌, ◌≢◌, ℕ, ◌<◌, ◌⊎◌, inl, inr, ⊎_elim, Bool, true, false, not, ◌&&◌, ◌||◌, nat_lt, if◌then◌else◌, ◌==◌, List, [], ◌∷◌, Option, Some, None, refl, sym, ap, ◌∙◌, subst, arith, ltb-false}
use Rattle.std.specs.Prelude.{⊤}
use Rattle.std.proofs.lemmas.Bool.{cases_order, eqb-true}
use Rattle.ooo_time.specs.declared.stamp.Stamp.{Stamp}
use Rattle.ooo_time.specs.Stamps.{IsBefore, is_before}
use Rattle.ooo_schedules.specs.Delays.{NotAfter}
use Rattle.ooo_schedules.specs.Design as order
use Rattle.ooo_schedules.specs.Design.{Wait, front_by, only, sort}
use Rattle.ooo_schedules.specs.Model.{Act, Conflict, Dispatched, Front, In, IsEarlier, commit, dispatch, dispatched, empty, job, last, without}
use Rattle.ooo_schedules.specs.Program.{Left, Waits, Ended, Sound, design, wait_by, wait_left}
use Rattle.ooo_schedules.specs.Tables.{EveryScheduleOf, program}
use Rattle.ooo_dispatch.specs.declared.reads.Reads.{Reads}
use Rattle.ooo_dispatch.specs.Boards.{Board, IsAllowed, IsLawful, model}
use Rattle.ooo_dispatch.specs.Rules.{Rules, process_of, tables}
use Rattle.ooo_dispatch.proofs.Allowed.{last_in}
use Rattle.ooo_dispatch.proofs.Stamps.{before_yes, compare, is_no, is_yes, transitive}

abbrev pub Activation : Type 0
Activation = Act Stamp Reads

-- a fact of each activation with each that was committed before it
abbrev pub WithEarlier : (Activation → Activation → Type 0) → List Activation → Type 0
WithEarlier F [] = ⊤
WithEarlier F (x ∷ xs) = ((y : Activation) → In y xs → F x y) × WithEarlier F xs

pub each_with : (F G : Activation → Activation → Type 0) (xs : List Activation) → ((x y : Activation) → In x xs → In y xs → F x y → G x y) → WithEarlier F xs → WithEarlier G xs
each_with F G [] by h = tt
each_with F G (x ∷ xs) by h = (λ y i. by x y (inl refl) (inr i) (h.0 y i), each_with F G xs (λ y z i j. by y z (inr i) (inr j)) h.1)

-- activations, each at its stamp or before the one that stands before it in the list
abbrev pub Falls : List Activation → Type 0
Falls [] = ⊤
Falls (y ∷ ys) = ((z : Activation) → In z ys → NotAfter z.stamp y.stamp) × Falls ys

-- ---- picking by a test

pub only_in : (test : Activation → Bool) (xs : List Activation) (x : Activation) → In x (only test xs) → In x xs × (test x ≡ true)
only_in test [] x i = absurd i
only_in test (y ∷ ys) x i = at (only_in test ys x) (test y) refl i
  where
    at : (In x (only test ys) → In x ys × (test x ≡ true)) → (b : Bool) → test y ≡ b → In x (if b then y ∷ only test ys else only test ys) → In x (y ∷ ys) × (test x ≡ true)
    at rec true e i = ⊎_elim (λ h. (inl h, ap test h ∙ e)) (λ h. let k = rec h in (inr k.0, k.1)) i
    at rec false e i = let k = rec i in (inr k.0, k.1)

pub only_falls : (test : Activation → Bool) (xs : List Activation) → Falls xs → Falls (only test xs)
only_falls test [] h = tt
only_falls test (x ∷ xs) h = at (only_falls test xs h.1) (test x)
  where
    at : Falls (only test xs) → (b : Bool) → Falls (if b then x ∷ only test xs else only test xs)
    at rec true = (λ z i. h.0 z (only_in test xs z i).0, rec)
    at rec false = rec

pub only_only : (first second : Activation → Bool) (xs : List Activation) → only second (only first xs) ≡ only (λ y. first y && second y) xs
only_only first second [] = refl
only_only first second (x ∷ xs) = at (first x) (second x) refl (only_only first second xs)
  where
    at : (a b : Bool) → second x ≡ b → only second (only first xs) ≡ only (λ y. first y && second y) xs →
        only second (if a then x ∷ only first xs else only first xs) ≡ (if a && b then x ∷ only (λ y. first y && second y) xs else only (λ y. first y && second y) xs)
    at true true e rec = ap (λ b. if b then x ∷ only second (only first xs) else only second (only first xs)) e ∙ ap (λ t. x ∷ t) rec
    at true false e rec = ap (λ b. if b then x ∷ only second (only first xs) else only second (only first xs)) e ∙ rec
    at false b e rec = rec

module _ (r : Rules) where
  abbrev pub P : order.Design
  P = design (program (tables r))

  -- the first was committed later than the second, and doesn't stand after it
  abbrev pub OutOfOrder : Activation → Activation → Type 0
  OutOfOrder x y = order.is_earlier P y x ≡ false

  -- ---- a log in order of place has the same activations

  pub in_insert : (x : Activation) (ys : List Activation) (y : Activation) → In y (order.insert P x ys) → (y ≡ x) ⊎ In y ys
  in_insert x [] y i = i
  in_insert x (z ∷ ys) y i = at (order.is_earlier P z x) i (in_insert x ys y)
    where
      at : (b : Bool) → In y (if b then x ∷ z ∷ ys else z ∷ order.insert P x ys) → (In y (order.insert P x ys) → (y ≡ x) ⊎ In y ys) → (y ≡ x) ⊎ In y (z ∷ ys)
      at true j rest = j
      at false (inl e) rest = inr (inl e)
      at false (inr j) rest = ⊎_elim (λ e. inl e) (λ k. inr (inr k)) (rest j)

  insert_in : (x : Activation) (ys : List Activation) (y : Activation) → (y ≡ x) ⊎ In y ys → In y (order.insert P x ys)
  insert_in x [] y i = i
  insert_in x (z ∷ ys) y i = at (order.is_earlier P z x) i (insert_in x ys y)
    where
      at : (b : Bool) → (y ≡ x) ⊎ In y (z ∷ ys) → ((y ≡ x) ⊎ In y ys → In y (order.insert P x ys)) → In y (if b then x ∷ z ∷ ys else z ∷ order.insert P x ys)
      at true j rest = j
      at false (inl e) rest = inr (rest (inl e))
      at false (inr j) rest = ⊎_elim (λ e. inl e) (λ k. inr (rest (inr k))) j

  pub in_sorted : (xs : List Activation) (y : Activation) → In y (sort P xs) → In y xs
  in_sorted [] y i = i
  in_sorted (x ∷ xs) y i = ⊎_elim (λ e. inl e) (λ j. inr (in_sorted xs y j)) (in_insert x (sort P xs) y i)

  pub sorted_in : (xs : List Activation) (y : Activation) → In y xs → In y (sort P xs)
  sorted_in [] y i = i
  sorted_in (x ∷ xs) y i = insert_in x (sort P xs) y (⊎_elim (λ e. inl e) (λ j. inr (sorted_in xs y j)) i)

  -- ---- it is in order

  earlier_not_after : (x y : Activation) → order.is_earlier P x y ≡ true → NotAfter x.stamp y.stamp
  earlier_not_after x y e = at (is_before x.stamp y.stamp) (is_before y.stamp x.stamp) refl refl e
    where
      at : (a b : Bool) → is_before x.stamp y.stamp ≡ a → is_before y.stamp x.stamp ≡ b → (a || (not b && nat_lt x.process y.process)) ≡ true → NotAfter x.stamp y.stamp
      at true b p q h = inl (is_yes x.stamp y.stamp p)
      at false true p q h = absurd cc
      at false false p q h = is_no y.stamp x.stamp q

  later_not_before : (x y : Activation) → OutOfOrder x y → is_before y.stamp x.stamp ≡ false
  later_not_before x y e = at (is_before y.stamp x.stamp) e
    where
      at : (a : Bool) → (a || (not (is_before x.stamp y.stamp) && nat_lt y.process x.process)) ≡ false → a ≡ false
      at true h = absurd cc
      at false h = refl

  not_after_joins : (s t u : Stamp) → NotAfter s t → NotAfter t u → NotAfter s u
  not_after_joins s t u (inl a) (inl b) = inl (transitive s t u a b)
  not_after_joins s t u (inl a) (inr e) = inl (subst (IsBefore s) e a)
  not_after_joins s t u (inr e) b = subst (λ v. NotAfter v u) (sym e) b

  insert_falls : (x : Activation) (ys : List Activation) → Falls ys → Falls (order.insert P x ys)
  insert_falls x [] h = (λ z i. absurd i, tt)
  insert_falls x (y ∷ ys) h = at (order.is_earlier P y x) refl (insert_falls x ys h.1)
    where
      at : (b : Bool) → order.is_earlier P y x ≡ b → Falls (order.insert P x ys) → Falls (if b then x ∷ y ∷ ys else y ∷ order.insert P x ys)
      at true e rec =
          let le = earlier_not_after y x e in
          (λ z i. ⊎_elim (λ k. subst (λ t. NotAfter t.stamp x.stamp) (sym k) le) (λ k. not_after_joins z.stamp y.stamp x.stamp (h.0 z k) le) i, h)
      at false e rec =
          let le = is_no y.stamp x.stamp (later_not_before x y e) in
          (λ z i. ⊎_elim (λ k. subst (λ t. NotAfter t.stamp y.stamp) (sym k) le) (λ k. h.0 z k) (in_insert x ys z i), rec)

  pub sorted_falls : (xs : List Activation) → Falls (sort P xs)
  sorted_falls [] = tt
  sorted_falls (x ∷ xs) = insert_falls x (sort P xs) (sorted_falls xs)

  -- ---- what is picked of it

  -- two that pass a test aren't out of order
  abbrev pub Passes : (Activation → Bool) → Activation → Activation → Type 0
  Passes test x y = OutOfOrder x y → test x ≡ true → test y ≡ true → ⊥

  only_inserted : (test : Activation → Bool) (x : Activation) (ys : List Activation) → ((y : Activation) → In y ys → Passes test x y) →
      only test (order.insert P x ys) ≡ only test (x ∷ ys)
  only_inserted test x [] none = refl
  only_inserted test x (y ∷ ys) none = at (order.is_earlier P y x) refl (only_inserted test x ys (λ z i. none z (inr i)))
    where
      behind : (p q : Bool) → test x ≡ p → test y ≡ q → OutOfOrder x y → (zs : List Activation) → zs ≡ (if p then x ∷ only test ys else only test ys) →
          (if q then y ∷ zs else zs) ≡ (if p then x ∷ (if q then y ∷ only test ys else only test ys) else (if q then y ∷ only test ys else only test ys))
      behind true true e f h zs k = absurd (none y (inl refl) h e f)
      behind true false e f h zs k = k
      behind false true e f h zs k = ap (λ t. y ∷ t) k
      behind false false e f h zs k = k

      at : (b : Bool) → order.is_earlier P y x ≡ b → only test (order.insert P x ys) ≡ only test (x ∷ ys) → only test (if b then x ∷ y ∷ ys else y ∷ order.insert P x ys) ≡ only test (x ∷ y ∷ ys)
      at true h rec = refl
      at false h rec = behind (test x) (test y) refl refl h (only test (order.insert P x ys)) rec

  -- of a log and of the log in order of place a test picks the same list, if no two that pass it are out of order
  pub only_sorted : (test : Activation → Bool) (xs : List Activation) → WithEarlier (Passes test) xs → only test (sort P xs) ≡ only test xs
  only_sorted test [] h = refl
  only_sorted test (x ∷ xs) h =
      only_inserted test x (sort P xs) (λ y i. h.0 y (in_sorted xs y i)) ∙ ap (λ zs. if test x then x ∷ zs else zs) (only_sorted test xs h.1)

  -- ---- what is made by it

  module _ {C : Type 0} (start : C) (put : Activation → C → C) where
    -- what activations make of a thing, one after the other, the last first
    abbrev pub made : List Activation → C
    made [] = start
    made (x ∷ xs) = put x (made xs)

    -- what two that are out of order make of the thing is the same in either order
    abbrev pub Commutes : (Activation → Bool) → Activation → Activation → Type 0
    Commutes test x y = OutOfOrder x y → test x ≡ true → test y ≡ true → (w : C) → put y (put x w) ≡ put x (put y w)

    made_inserted : (test : Activation → Bool) (x : Activation) (ys : List Activation) → ((y : Activation) → In y ys → Commutes test x y) →
        made (only test (order.insert P x ys)) ≡ made (only test (x ∷ ys))
    made_inserted test x [] commutes = refl
    made_inserted test x (y ∷ ys) commutes = at (order.is_earlier P y x) refl (made_inserted test x ys (λ z i. commutes z (inr i)))
      where
        behind : (p q : Bool) → test x ≡ p → test y ≡ q → OutOfOrder x y → (zs : List Activation) → made zs ≡ made (if p then x ∷ only test ys else only test ys) →
            made (if q then y ∷ zs else zs) ≡ made (if p then x ∷ (if q then y ∷ only test ys else only test ys) else (if q then y ∷ only test ys else only test ys))
        behind true true e f h zs k = ap (put y) k ∙ commutes y (inl refl) h e f (made (only test ys))
        behind true false e f h zs k = k
        behind false true e f h zs k = ap (put y) k
        behind false false e f h zs k = k

        at : (b : Bool) → order.is_earlier P y x ≡ b → made (only test (order.insert P x ys)) ≡ made (only test (x ∷ ys)) →
            made (only test (if b then x ∷ y ∷ ys else y ∷ order.insert P x ys)) ≡ made (only test (x ∷ y ∷ ys))
        at true h rec = refl
        at false h rec = behind (test x) (test y) refl refl h (only test (order.insert P x ys)) rec

    -- what those of a log that pass a test make, in order of place, is what they make in the order of their commits, where two of
    -- them that are out of order make the same in either order
    pub made_sorted : (test : Activation → Bool) (xs : List Activation) → WithEarlier (Commutes test) xs → made (only test (sort P xs)) ≡ made (only test xs)
    made_sorted test [] h = refl
    made_sorted test (x ∷ xs) h = made_inserted test x (sort P xs) (λ y i. h.0 y (in_sorted xs y i)) ∙ at (test x) (made_sorted test xs h.1)
      where
        at : (b : Bool) → made (only test (sort P xs)) ≡ made (only test xs) → made (if b then x ∷ only test (sort P xs) else only test (sort P xs)) ≡ made (if b then x ∷ only test xs else only test xs)
        at true rec = ap (put x) rec
        at false rec = rec

-- ---- in which order activations are committed

module _ (r : Rules) (every : EveryScheduleOf (tables r)) where
  -- an activation stands after each of its process that was committed before it, and conflicts with no later one of those of others
  pub record Stands (x y : Activation) : Type 0 where
    pub own : y.process ≡ x.process → IsBefore y.stamp x.stamp
    pub apart : x.process ≢ y.process → IsEarlier (model r) x y → Conflict (model r) x.stamp x.segment y.stamp y.segment → ⊥

  -- a job, to those of the log
  pub job_stands : (b : Board r) → IsLawful r b → (j : Activation) → In j b.out → (y : Activation) → In y b.log → Stands j y
  job_stands b lawful j i y k = record { own = λ e. every.own_before b lawful j y i k e; apart = λ n e c. every.no_conflict b lawful j y i (inl k) n e c }

  -- those of the log, to those committed before them
  pub log_stands : (b : Board r) → IsLawful r b → WithEarlier Stands b.log
  log_stands _ empty = tt
  log_stands _ (dispatch {st} p f h a) = log_stands st h
  log_stands _ (commit {st} j h i) = (λ y k. job_stands st h j i y k, log_stands st h)

  -- what a process that is allowed would run, to those of the log
  pub front_stands : (b : Board r) → IsLawful r b → (p : ℕ) (f : Front Stamp) → IsAllowed r b p f → (y : Activation) → In y b.log → Stands (job (model r) b p f) y
  front_stands b lawful p f a y k = job_stands (dispatched (model r) b p f) (dispatch p f lawful a) (job (model r) b p f) (inl refl) y k

  -- what is out of order is of another process, and stands before
  pub is_out_of_order : (x y : Activation) → Stands x y → OutOfOrder r x y → (x.process ≢ y.process) × IsEarlier (model r) x y
  is_out_of_order x y h late = (λ e. same (sym e), later (compare y.stamp x.stamp))
    where
      not_before : IsBefore y.stamp x.stamp → ⊥
      not_before k = let c : true ≡ false = sym (before_yes y.stamp x.stamp k) ∙ later_not_before r x y late in absurd cc

      same : y.process ≡ x.process → ⊥
      same e = not_before (h.own e)

      at : (a b c : Bool) → is_before y.stamp x.stamp ≡ a → is_before x.stamp y.stamp ≡ b → nat_lt y.process x.process ≡ c → (a || (not b && c)) ≡ false → (b ≡ true) ⊎ (c ≡ false)
      at a true c p q s k = inl refl
      at a b false p q s k = inr refl
      at true false true p q s k = absurd cc
      at false false true p q s k = absurd cc

      not_lower : y.stamp ≡ x.stamp → (is_before x.stamp y.stamp ≡ true) ⊎ (nat_lt y.process x.process ≡ false) → y.process < x.process → ⊥
      not_lower e (inl k) lt = not_before (subst (λ s. IsBefore s x.stamp) (sym e) (subst (IsBefore x.stamp) e (is_yes x.stamp y.stamp k)))
      not_lower e (inr k) lt = let le = ltb-false y.process x.process k in omega (arith, le, lt)

      lower : y.stamp ≡ x.stamp → x.process < y.process
      lower e =
          ⊎_elim (λ k. absurd (same k))
          (λ k. ⊎_elim (λ lt. absurd (not_lower e (at (is_before y.stamp x.stamp) (is_before x.stamp y.stamp) (nat_lt y.process x.process) refl refl refl late) lt)) (λ gt. gt) k)
          (cases_order y.process x.process)

      later : IsBefore y.stamp x.stamp ⊎ ((y.stamp ≡ x.stamp) ⊎ IsBefore x.stamp y.stamp) → IsEarlier (model r) x y
      later (inl k) = absurd (not_before k)
      later (inr (inl e)) = inr (sym e, lower e)
      later (inr (inr k)) = inl k

-- ---- of which process a segment is

module _ (r : Rules) (sound : Sound (program (tables r))) where
  abbrev pub IsOwned : Activation → Type 0
  IsOwned y = process_of r y.segment ≡ y.process

  last_of : (q : ℕ) (xs : List Activation) (x : Activation) → last q xs ≡ Some x → x.process ≡ q
  last_of q [] x e = absurd cc
  last_of q (y ∷ xs) x e = at (y.process == q) refl e (last_of q xs x)
    where
      at : (b : Bool) → (y.process == q) ≡ b → (if b then Some y else last q xs) ≡ Some x → (last q xs ≡ Some x → x.process ≡ q) → x.process ≡ q
      at true h k rest = let same : y ≡ x = cc in subst (λ z. z.process ≡ q) same (eqb-true y.process q h)
      at false h k rest = rest k

  -- where a wait goes on is of its process
  wait_owner : (q : ℕ) (o : Option Activation) (w : Wait Stamp) → ((x : Activation) → o ≡ Some x → process_of r x.segment ≡ q) → wait_by (program (tables r)) q o ≡ Some w → process_of r w.segment ≡ q
  wait_owner q None w own e = sound.start_owner q w e
  wait_owner q (Some z) w own e = at ((tables r).act z).left refl e
    where
      at : (l : Left) → ((tables r).act z).left ≡ l → wait_left z.stamp l ≡ Some w → process_of r w.segment ≡ q
      at Ended k h = absurd cc
      at (Waits n t es) k h = let same : n ≡ w.segment = cc in ap (process_of r) (sym same) ∙ sound.next z n t es k ∙ own z refl

  front_owner : (b : Board r) (p : ℕ) (f : Front Stamp) → ((y : Activation) → In y b.log → IsOwned y) → (model r).front b.log p ≡ Some f → process_of r f.segment ≡ p
  front_owner b p f own e = at (wait_by (program (tables r)) p (last p b.log)) refl e
    where
      of_front : (w : Wait Stamp) (o : Option Stamp) → front_by w.segment o ≡ Some f → w.segment ≡ f.segment
      of_front w None h = absurd cc
      of_front w (Some s) h = cc

      at : (o : Option (Wait Stamp)) → wait_by (program (tables r)) p (last p b.log) ≡ o → order.front_when (P r) (sort (P r) b.log) o ≡ Some f → process_of r f.segment ≡ p
      at None k h = absurd cc
      at (Some w) k h =
          ap (process_of r) (sym (of_front w (order.soonest (P r) (order.times (P r) w (sort (P r) b.log))) h))
          ∙ wait_owner p (last p b.log) w (λ x l. own x (last_in p b.log x l) ∙ last_of p b.log x l) k

  in_without : (q : ℕ) (xs : List Activation) (y : Activation) → In y (without q xs) → In y xs
  in_without q [] y i = i
  in_without q (x ∷ xs) y i = at (x.process == q) i (in_without q xs y)
    where
      at : (b : Bool) → In y (if b then without q xs else x ∷ without q xs) → (In y (without q xs) → In y xs) → In y (x ∷ xs)
      at true j rest = inr (rest j)
      at false (inl e) rest = inl e
      at false (inr j) rest = inr (rest j)

  -- each activation of a lawful board is of its segment's process
  pub owned : (b : Board r) → IsLawful r b → (y : Activation) → Dispatched (model r) y b → IsOwned y
  owned _ empty y i = ⊎_elim (λ j. absurd j) (λ j. absurd j) i
  owned _ (dispatch {st} p f h a) y i =
      let log : (z : Activation) → In z st.log → IsOwned z = λ z j. owned st h z (inl j) in
      ⊎_elim (λ j. log y j)
      (λ j. ⊎_elim (λ e. subst (λ z. process_of r z.segment ≡ z.process) (sym e) (front_owner st p f log a.front)) (λ k. owned st h y (inr k)) j) i
  owned _ (commit {st} j h i) y k =
      ⊎_elim (λ l. ⊎_elim (λ e. subst (λ z. process_of r z.segment ≡ z.process) (sym e) (owned st h j (inr i))) (λ l. owned st h y (inl l)) l)
      (λ l. owned st h y (inr (in_without j.process st.out y l))) k

  -- the front of a process that is allowed is of a segment of the process
  pub front_owned : (b : Board r) → IsLawful r b → (p : ℕ) (f : Front Stamp) → IsAllowed r b p f → process_of r f.segment ≡ p
  front_owned b lawful p f a = front_owner b p f (λ y i. owned b lawful y (inl i)) a.front
