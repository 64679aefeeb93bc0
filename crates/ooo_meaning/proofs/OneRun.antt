-- A run has one result.
use Rattle.std.proofs.Common.{◌≡◌, ℕ, zero, suc, ◌≤◌, List, Option, Some, arith, ⊎_elim}
use Rattle.std.proofs.lemmas.Bool.{cases_lt}
use Rattle.ooo_code.specs.declared.limits.Limits.{Limits}
use Rattle.ooo_code.specs.Outcomes.{Activate}
use Rattle.ooo_meaning.specs.World.{Progress, Over, Goes, settle, notified}
use Rattle.ooo_meaning.specs.Sequence.{State, Result, evaluate, finish, run, run_whole, IsWholeRun}

module _ (K : Type 0) (activate : Activate K) (order : List ℕ) (limits : Limits) where
  -- what is over stays over
  finish_longer : (places : List K) (x : Progress) (f g : State K → Option Result) (r : Result) → ((t : State K) → f t ≡ Some r → g t ≡ Some r) → finish places x f ≡ Some r → finish places x g ≡ Some r
  finish_longer places (Over w e) f g r h is = is
  finish_longer places (Goes w) f g r h is = h _ is

  longer : (m n : ℕ) (s : State K) (r : Result) → m ≤ n → run activate order limits m s ≡ Some r → run activate order limits n s ≡ Some r
  unfolding run
  longer zero n s r le is = absurd cc
  longer (suc m) zero s r le is = absurd (omega arith)
  longer (suc m) (suc n) s r le is =
      finish_longer (evaluate activate order s).places (settle limits (evaluate activate order s).world) _ _ r (λ t e. longer m n t r (omega arith) e) is

  whole_longer : (m n : ℕ) (s : State K) (r : Result) → m ≤ n → run_whole activate order limits m s ≡ Some r → run_whole activate order limits n s ≡ Some r
  unfolding run_whole
  whole_longer m n s r le is = finish_longer s.places (notified limits s.world) _ _ r (λ t e. longer m n t r le e) is

  pub one_run : (s : State K) (r q : Result) → IsWholeRun activate order limits s r → IsWholeRun activate order limits s q → r ≡ q
  one_run s r q a b =
      ⊎_elim
      (λ lt. let e = whole_longer a.cycles b.cycles s r (omega arith) a.is in let f = b.is in cc)
      (λ le. let e = whole_longer b.cycles a.cycles s q le b.is in let f = a.is in cc)
      (cases_lt a.cycles b.cycles)
