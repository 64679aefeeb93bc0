-- The worked schedule, computed.
use Rattle.std.proofs.Common.{◌≡◌, ◌≢◌, ℕ, zero, suc, ◌<◌, ◌≤◌, ◌++◌, inl, inr, ⊎_elim, Bool, true, false, if◌then◌else◌, ◌==◌, List, [], ◌∷◌, Option, Some, None, refl, sym, ap, ◌∙◌, subst, arith}
use Rattle.std.specs.Prelude.{⊤}
use Rattle.std.proofs.lemmas.Bool.{eqb-true}
use Rattle.std.specs.Fmt.{digits}
use Rattle.std.specs.Int.{int_wrap}
use Rattle.ooo_time.specs.declared.stamp.Stamp.{Stamp}
use Rattle.ooo_code.specs.Nodes.{steps as nodes_done}
use Rattle.ooo_meaning.specs.Rows.{ns}
use Rattle.ooo_schedules.specs.Model.{Act, Front, In, front_of, last}
use Rattle.ooo_dispatch.specs.declared.reads.Reads.{Reads}
use Rattle.ooo_dispatch.specs.declared.step.Step.{Step}
use Rattle.ooo_dispatch.specs.Boards.{Board, IsFront, model}
use Rattle.ooo_dispatch.specs.Least.{HoldsUp, MayRun}
use Rattle.ooo_dispatch.specs.Rules.{clash, process_of, tables}
use Rattle.ooo_dispatch.specs.Worked.{WorkedSchedule, least, reached, rules, runs, steps}
use Rattle.ooo_dispatch.proofs.Accessed.{some_is}

-- no segment of the second thread clashes with another one
apart : (s g : ℕ) (strict : Bool) → process_of rules s ≢ 0 → clash rules s g strict ≡ true → ⊥
apart zero g strict n e = n refl
apart (suc zero) g strict n e = n refl
apart (suc (suc zero)) g strict n e = n refl
apart (suc (suc (suc zero))) g strict n e = at g e
  where
    at : (g : ℕ) → clash rules 3 g strict ≡ true → ⊥
    at zero h = absurd cc
    at (suc zero) h = absurd cc
    at (suc (suc zero)) h = absurd cc
    at (suc (suc (suc zero))) h = absurd cc
    at (suc (suc (suc (suc zero)))) h = absurd cc
    at (suc (suc (suc (suc (suc g))))) h = absurd cc
apart (suc (suc (suc (suc zero)))) g strict n e = at g e
  where
    at : (g : ℕ) → clash rules 4 g strict ≡ true → ⊥
    at zero h = absurd cc
    at (suc zero) h = absurd cc
    at (suc (suc zero)) h = absurd cc
    at (suc (suc (suc zero))) h = absurd cc
    at (suc (suc (suc (suc zero)))) h = absurd cc
    at (suc (suc (suc (suc (suc g))))) h = absurd cc
apart (suc (suc (suc (suc (suc s))))) g strict n e = absurd cc

-- and none clashes with the second thread's start
begins : (s : ℕ) (strict : Bool) → clash rules s 3 strict ≡ true → ⊥
begins zero strict e = absurd cc
begins (suc zero) strict e = absurd cc
begins (suc (suc zero)) strict e = absurd cc
begins (suc (suc (suc zero))) strict e = absurd cc
begins (suc (suc (suc (suc zero)))) strict e = absurd cc
begins (suc (suc (suc (suc (suc s))))) strict e = absurd cc

-- what holds the first thread up is a segment of the second, and none of those clashes
first_free : (g f : Front Stamp) → HoldsUp rules least g 0 f → ⊥
first_free g f h = ⊎_elim (λ x. apart h.segment f.segment true h.other x.1) (λ x. apart h.segment f.segment false h.other x.2) h.clashes

start_free : (g : Front Stamp) (s : Stamp) → HoldsUp rules least g 1 (record { segment = 3; stamp = s }) → ⊥
start_free g s h = ⊎_elim (λ x. begins h.segment true x.1) (λ x. begins h.segment false x.2) h.clashes

-- no front stands at the limit of ten delta cycles
abbrev IsLow : Option (Front Stamp) → Type 0
IsLow None = ⊤
IsLow (Some g) = g.stamp.delta < 10

low_of : (o : Option (Front Stamp)) (g : Front Stamp) → IsLow o → o ≡ Some g → g.stamp.delta < 10
low_of None g l e = absurd cc
low_of (Some f) g l e = subst (λ x. x.stamp.delta < 10) (some_is f g e) l

-- no activation breaks or stops, and each is of one of the two processes
record IsPlain (y : Act Stamp Reads) : Type 0 where
  pub whole : (tables rules).breaks y ≡ false
  pub goes : (tables rules).stops y ≡ false
  pub process : y.process < 2

abbrev Goes : List (Act Stamp Reads) → Type 0
Goes log = (y : Act Stamp Reads) → In y log → IsPlain y

goes_on : (x : Act Stamp Reads) (log : List (Act Stamp Reads)) → (tables rules).breaks x ≡ false → (tables rules).stops x ≡ false → x.process < 2 → Goes log → Goes (x ∷ log)
goes_on x log a b p h y (inl e) =
    record { whole = ap (tables rules).breaks e ∙ a; goes = ap (tables rules).stops e ∙ b; process = subst (λ z. z.process < 2) (sym e) p }
goes_on x log a b p h y (inr i) = h y i

no_last : (q : ℕ) (xs : List (Act Stamp Reads)) → Goes xs → last (suc (suc q)) xs ≡ None
no_last q [] h = refl
no_last q (x ∷ xs) h = at (x.process == suc (suc q)) refl (no_last q xs (λ y i. h y (inr i)))
  where
    at : (b : Bool) → (x.process == suc (suc q)) ≡ b → last (suc (suc q)) xs ≡ None → (if b then Some x else last (suc (suc q)) xs) ≡ None
    at true e rest = let p = (h x (inl refl)).process in let n = eqb-true x.process (suc (suc q)) e in absurd (omega (arith, p, n))
    at false e rest = rest

-- there is no third process
third : (b : Board rules) → b.out ≡ [] → Goes b.log → (q : ℕ) → front_of (model rules) b (suc (suc q)) ≡ None
third b out goes q = rw (out, no_last q b.log goes) refl

-- the fronts of a board of two processes
record Fronts (b : Board rules) (first second : Option (Front Stamp)) : Type 0 where
  pub first_is : front_of (model rules) b 0 ≡ first
  pub second_is : front_of (model rules) b 1 ≡ second
  pub no_third : (q : ℕ) → front_of (model rules) b (suc (suc q)) ≡ None
  pub first_low : IsLow first
  pub second_low : IsLow second

low : (b : Board rules) (x y : Option (Front Stamp)) → Fronts b x y → (q : ℕ) (g : Front Stamp) → IsFront rules b q g → g.stamp.delta < 10
low b x y h zero g e = low_of x g h.first_low (sym h.first_is ∙ e)
low b x y h (suc zero) g e = low_of y g h.second_low (sym h.second_is ∙ e)
low b x y h (suc (suc q)) g e = let c : None ≡ Some g = sym (h.no_third q) ∙ e in absurd cc

not_yes : (b : Bool) → b ≡ false → b ≡ true → ⊥
not_yes b e f = let c : false ≡ true = sym e ∙ f in absurd cc

may :
    (b : Board rules) (p : ℕ) (f : Front Stamp) (x y : Option (Front Stamp)) → Fronts b x y → Goes b.log → last p b.out ≡ None → IsFront rules b p f → f.stamp.time.0 ≤ 100000 → f.stamp.delta < 10 →
    ((q : ℕ) (g : Front Stamp) → q ≢ p → IsFront rules b q g → HoldsUp rules least g p f → ⊥) → MayRun rules least b p f
may b p f x y fronts goes idle front in_time below free = record {
  idle = idle;
  front = front;
  below_cut = record {
    in_time = in_time;
    uncut = λ z i c. ⊎_elim (λ k. not_yes ((tables rules).breaks z) (goes z i).whole k.0) (λ k. not_yes ((tables rules).stops z) (goes z i).goes k.0) c;
    before_limit = λ q g is m e. let l = low b x y fronts q g is in absurd (omega (arith, e, l));
  };
  below_limit = below;
  free = free;
}

-- the second thread alone is left
last_free : (b : Board rules) (y : Option (Front Stamp)) → Fronts b None y → (f : Front Stamp) (q : ℕ) (g : Front Stamp) → q ≢ 1 → IsFront rules b q g → HoldsUp rules least g 1 f → ⊥
last_free b y h f zero g n e held = let c : None ≡ Some g = sym h.first_is ∙ e in absurd cc
last_free b y h f (suc zero) g n e held = n refl
last_free b y h f (suc (suc q)) g n e held = let c : None ≡ Some g = sym (h.no_third q) ∙ e in absurd cc

abbrev at : (segment n delta : ℕ) → Front Stamp
at segment n delta = record { segment = segment; stamp = record { time = ns n; delta = delta } }

abbrev board : List Step → Board rules
board xs = (reached xs).board

goes_0 : Goes (board []).log
goes_0 y i = absurd i

goes_1 : Goes (board (runs 0)).log
unfolding digits int_wrap nodes_done
goes_1 = goes_on _ (board []).log refl refl (omega arith) goes_0

goes_2 : Goes (board (runs 0 ++ runs 1)).log
unfolding digits int_wrap nodes_done
goes_2 = goes_on _ (board (runs 0)).log refl refl (omega arith) goes_1

goes_3 : Goes (board (runs 0 ++ runs 1 ++ runs 0)).log
unfolding digits int_wrap nodes_done
goes_3 = goes_on _ (board (runs 0 ++ runs 1)).log refl refl (omega arith) goes_2

goes_4 : Goes (board (runs 0 ++ runs 1 ++ runs 0 ++ runs 0)).log
unfolding digits int_wrap nodes_done
goes_4 = goes_on _ (board (runs 0 ++ runs 1 ++ runs 0)).log refl refl (omega arith) goes_3

goes_5 : Goes (board (runs 0 ++ runs 1 ++ runs 0 ++ runs 0 ++ runs 1)).log
unfolding digits int_wrap nodes_done
goes_5 = goes_on _ (board (runs 0 ++ runs 1 ++ runs 0 ++ runs 0)).log refl refl (omega arith) goes_4

fronts_0 : Fronts (board []) (Some (at 0 0 0)) (Some (at 3 0 0))
unfolding digits int_wrap nodes_done
fronts_0 = record { first_is = refl; second_is = refl; no_third = third (board []) refl goes_0; first_low = omega arith; second_low = omega arith }

fronts_1 : Fronts (board (runs 0)) (Some (at 1 15 0)) (Some (at 3 0 0))
unfolding digits int_wrap nodes_done
fronts_1 = record { first_is = refl; second_is = refl; no_third = third (board (runs 0)) refl goes_1; first_low = omega arith; second_low = omega arith }

fronts_2 : Fronts (board (runs 0 ++ runs 1)) (Some (at 1 15 0)) (Some (at 4 10 0))
unfolding digits int_wrap nodes_done
fronts_2 = record { first_is = refl; second_is = refl; no_third = third (board (runs 0 ++ runs 1)) refl goes_2; first_low = omega arith; second_low = omega arith }

fronts_3 : Fronts (board (runs 0 ++ runs 1 ++ runs 0)) (Some (at 2 20 0)) (Some (at 4 10 0))
unfolding digits int_wrap nodes_done
fronts_3 = record { first_is = refl; second_is = refl; no_third = third (board (runs 0 ++ runs 1 ++ runs 0)) refl goes_3; first_low = omega arith; second_low = omega arith }

fronts_4 : Fronts (board (runs 0 ++ runs 1 ++ runs 0 ++ runs 0)) None (Some (at 4 10 0))
unfolding digits int_wrap nodes_done
fronts_4 = record { first_is = refl; second_is = refl; no_third = third (board (runs 0 ++ runs 1 ++ runs 0 ++ runs 0)) refl goes_4; first_low = tt; second_low = omega arith }

fronts_5 : Fronts (board (runs 0 ++ runs 1 ++ runs 0 ++ runs 0 ++ runs 1)) None (Some (at 4 15 1))
unfolding digits int_wrap nodes_done
fronts_5 = record { first_is = refl; second_is = refl; no_third = third (board (runs 0 ++ runs 1 ++ runs 0 ++ runs 0 ++ runs 1)) refl goes_5; first_low = tt; second_low = omega arith }

may_0 : MayRun rules least (board []) 0 (at 0 0 0)
unfolding digits int_wrap nodes_done
may_0 = may (board []) 0 (at 0 0 0) (Some (at 0 0 0)) (Some (at 3 0 0)) fronts_0 goes_0 refl fronts_0.first_is (omega arith) (omega arith) (λ q g n e h. first_free g (at 0 0 0) h)

may_1 : MayRun rules least (board (runs 0)) 1 (at 3 0 0)
unfolding digits int_wrap nodes_done
may_1 = may (board (runs 0)) 1 (at 3 0 0) (Some (at 1 15 0)) (Some (at 3 0 0)) fronts_1 goes_1 refl fronts_1.second_is (omega arith) (omega arith) (λ q g n e h. start_free g (record { time = ns 0; delta = 0 }) h)

may_2 : MayRun rules least (board (runs 0 ++ runs 1)) 0 (at 1 15 0)
unfolding digits int_wrap nodes_done
may_2 = may (board (runs 0 ++ runs 1)) 0 (at 1 15 0) (Some (at 1 15 0)) (Some (at 4 10 0)) fronts_2 goes_2 refl fronts_2.first_is (omega arith) (omega arith) (λ q g n e h. first_free g (at 1 15 0) h)

may_3 : MayRun rules least (board (runs 0 ++ runs 1 ++ runs 0)) 0 (at 2 20 0)
unfolding digits int_wrap nodes_done
may_3 = may (board (runs 0 ++ runs 1 ++ runs 0)) 0 (at 2 20 0) (Some (at 2 20 0)) (Some (at 4 10 0)) fronts_3 goes_3 refl fronts_3.first_is (omega arith) (omega arith) (λ q g n e h. first_free g (at 2 20 0) h)

may_4 : MayRun rules least (board (runs 0 ++ runs 1 ++ runs 0 ++ runs 0)) 1 (at 4 10 0)
unfolding digits int_wrap nodes_done
may_4 = may (board (runs 0 ++ runs 1 ++ runs 0 ++ runs 0)) 1 (at 4 10 0) None (Some (at 4 10 0)) fronts_4 goes_4 refl fronts_4.second_is (omega arith) (omega arith) (last_free (board (runs 0 ++ runs 1 ++ runs 0 ++ runs 0)) (Some (at 4 10 0)) fronts_4 (at 4 10 0))

may_5 : MayRun rules least (board (runs 0 ++ runs 1 ++ runs 0 ++ runs 0 ++ runs 1)) 1 (at 4 15 1)
unfolding digits int_wrap nodes_done
may_5 = may (board (runs 0 ++ runs 1 ++ runs 0 ++ runs 0 ++ runs 1)) 1 (at 4 15 1) None (Some (at 4 15 1)) fronts_5 goes_5 refl fronts_5.second_is (omega arith) (omega arith) (last_free (board (runs 0 ++ runs 1 ++ runs 0 ++ runs 0 ++ runs 1)) (Some (at 4 15 1)) fronts_5 (at 4 15 1))

goes_6 : Goes (board steps).log
unfolding digits int_wrap nodes_done
goes_6 = goes_on _ (board (runs 0 ++ runs 1 ++ runs 0 ++ runs 0 ++ runs 1)).log refl refl (omega arith) goes_5

over : (p : ℕ) → front_of (model rules) (board steps) p ≡ None
unfolding digits int_wrap nodes_done
over zero = refl
over (suc zero) = refl
over (suc (suc p)) = third (board steps) refl goes_6 p

pub worked : WorkedSchedule
unfolding digits int_wrap nodes_done
worked = record {
  lawful =
      ((refl, at 0 0 0, may_0), (refl, ((refl, at 3 0 0, may_1), (refl, ((refl, at 1 15 0, may_2), (refl, ((refl, at 2 20 0, may_3), (refl, ((refl, at 4 10 0, may_4), (refl, ((refl, at 4 15 1, may_5), (refl, tt))))))))))));
  ended = fronts_4.first_is;
  waits = fronts_4.second_is;
  over = record { quiet = refl; shut = λ p f e first is. let c : None ≡ Some f = sym (over p) ∙ e in absurd cc };
  prints = refl;
}
