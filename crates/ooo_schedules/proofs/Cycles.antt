-- The run by cycles takes the fronts of least place.
use Rattle.std.proofs.Common.{◌≡◌, ◌≢◌, ℕ, suc, ◌<◌, ◌≤◌, inl, inr, ⊎_elim, Some, refl, sym, ap, ◌∙◌, subst, arith}
use Rattle.ooo_schedules.specs.Model.{Front, Model, Log, Earlier, Next, Sequential, Laws}
use Rattle.ooo_schedules.specs.Cycles.{act_at, Turn, runs, waits, Turns, no_more, one, FromPlace}
use Rattle.ooo_schedules.proofs.Places.{less_or}
use Rattle.ooo_schedules.proofs.Run.{run_of, ahead_next}

module _ (m : Model) (l : Laws m) where
  later : (n r : ℕ) → n ≤ r → r ≢ n → n < r
  later n r h k = ⊎_elim (λ x. x) (λ x. absurd (k (omega (arith, x, h)))) (less_or n r)

  pub turn_next : (s : m.Stamp) (p : ℕ) (xs ys : Log m) → Sequential m xs → FromPlace m s p xs → Turn m s p xs ys → Sequential m ys × FromPlace m s (suc p) ys
  turn_next s p xs _ q from (waits h) = (q, λ r f e. ⊎_elim (λ b. inl b) (λ b. inr (b.0, later p r b.1 (λ k. h f (ap (m.front xs) (sym k) ∙ e) (sym b.0)))) (from r f e))
  turn_next s p xs _ q from (runs f e k) =
      let least : (r : ℕ) (g : Front m.Stamp) → r ≢ p → m.front xs r ≡ Some g → Earlier m f.stamp p g.stamp r = λ r g n w. subst (λ t. Earlier m t p g.stamp r) (sym k) (⊎_elim (λ b. inl b) (λ b. inr (b.0, later p r b.1 n)) (from r g w)) in
      let next : Next m (act_at m xs p f) xs = record { front = e; number = refl; reads = refl; least = least } in
      ((next, q), λ r g w. ⊎_elim (λ b. inl (subst (λ t. m.before t g.stamp) k b)) (λ b. inr (sym k ∙ b.0, b.1)) (ahead_next m l (act_at m xs p f) xs next (run_of m l xs q) r g w))

  pub turns_next : (s : m.Stamp) (p n : ℕ) (xs ys : Log m) → Sequential m xs → FromPlace m s p xs → Turns m s p n xs ys → Sequential m ys × FromPlace m s n ys
  turns_next s p n xs ys q from no_more = (q, from)
  turns_next s p n xs zs q from (one ys t ts) = let r = turn_next s p xs ys q from t in turns_next s (suc p) n ys zs r.0 r.1 ts

  -- a whole cycle leaves only later fronts
  pub cycle_next : (s : m.Stamp) (xs ys : Log m) → Sequential m xs → FromPlace m s 0 xs → Turns m s 0 m.processes xs ys → Sequential m ys × ((r : ℕ) (f : Front m.Stamp) → m.front ys r ≡ Some f → m.before s f.stamp)
  cycle_next s xs ys q from t =
      let r = turns_next s 0 m.processes xs ys q from t in
      (r.0, λ p f e. ⊎_elim (λ b. b) (λ b. let k = l.numbered ys p f (run_of m l ys r.0).ordered e in let n = b.1 in absurd (omega (arith, k, n))) (r.1 p f e))
