-- What a board was once, and what follows from that.
use Rattle.std.proofs.Common.{◌≡◌, ℕ, List, [], ◌∷◌, ◌++◌, Bool, true, false, if◌then◌else◌, Option, Some, None, refl, sym, ap, ◌∙◌, subst, append_assoc, append-nil}
use Rattle.std.specs.Prelude.{IsSome}
use Rattle.ooo_dispatch.specs.declared.step.Step.{Step}
use Rattle.ooo_dispatch.specs.declared.step.Step.TheVariants.{Abandon, Commit, Dispatch}
use Rattle.ooo_dispatch.specs.Least.{Advance}
use Rattle.ooo_dispatch.specs.Rules.{Rules, has}
use Rattle.ooo_dispatch.specs.Steps.{AreLawful, Replay, after_step, job_of, nothing_done, replayed}
use Rattle.ooo_schedules.specs.Model.{last}
use Rattle.ooo_board.specs.Boards.{IsOver, Shown, rules, state, with_step}
use Rattle.ooo_workers.specs.Boards.{AreLawfulOn, Begins, HasEnded, HasLawful, IsLawfulOn, with_steps}
use Rattle.ooo_workers.specs.Rule.{AllBegin}

replayed-append : (r : Rules) (s : Replay r) (xs ys : List Step) → replayed r s (xs ++ ys) ≡ replayed r (replayed r s xs) ys
replayed-append r s [] ys = refl
replayed-append r s (x ∷ xs) ys = replayed-append r (after_step r s x) xs ys

lawful-append : (r : Rules) (least : Advance) (s : Replay r) (xs ys : List Step) → AreLawful r least s xs → AreLawful r least (replayed r s xs) ys → AreLawful r least s (xs ++ ys)
lawful-append r least s [] ys a b = b
lawful-append r least s (x ∷ xs) ys a b = (a.0, lawful-append r least (after_step r s x) xs ys a.1 b)

-- what further steps lead to
state_after : (b : Shown) (xs : List Step) → state (with_steps b xs) ≡ replayed (rules b) (state b) xs
state_after b xs = replayed-append (rules b) (nothing_done (rules b)) b.schedule xs

pub one_more : (b : Shown) (x : Step) → state (with_step b x) ≡ after_step (rules b) (state b) x
one_more b x = state_after b (x ∷ [])

pub begins_refl : (b : Shown) → Begins b b
begins_refl b = record { more = []; lawful = tt; is = ap (λ l. record b { schedule = l }) (sym (append-nil b.schedule)) }

pub begins_after : (b : Shown) (x : Step) → IsLawfulOn b x → Begins b (with_step b x)
begins_after b x lawful = record { more = x ∷ []; lawful = (lawful, tt); is = refl }

pub begins_trans : (a b c : Shown) → Begins a b → Begins b c → Begins a c
begins_trans a b c p q = record {
  more = p.more ++ q.more;
  lawful =
      let on : AreLawfulOn (with_steps a p.more) q.more = subst (λ k. AreLawfulOn k q.more) p.is q.lawful in
      lawful-append (rules a) a.tables.advance (state a) p.more q.more p.lawful (subst (λ s. AreLawful (rules a) a.tables.advance s q.more) (state_after a p.more) on);
  is = q.is ∙ ap (λ k. with_steps k q.more) p.is ∙ ap (λ l. record a { schedule = l }) (append_assoc a.schedule p.more q.more);
}

pub all_begin_trans : (ks : List Shown) (b c : Shown) → AllBegin ks b → Begins b c → AllBegin ks c
all_begin_trans [] b c h q = tt
all_begin_trans (k ∷ ks) b c h q = (begins_trans k b c h.0 q, all_begin_trans ks b c h.1 q)

-- where the steps of the one are lawful, so are those of the other
pub lawful_on : (k b : Shown) → Begins k b → HasLawful k → HasLawful b
lawful_on k b h all = subst HasLawful (sym h.is) (lawful-append (rules k) k.tables.advance (nothing_done (rules k)) k.schedule h.more all h.lawful)

-- ---- the end

no_some : {A : Type 0} (o : Option A) → o ≡ None → IsSome o → ⊥
no_some None e k = absurd cc
no_some (Some x) e k = absurd cc

none_out : (b : Shown) → IsOver b → (p : ℕ) → IsSome (job_of (rules b) (state b) p) → ⊥
none_out b over p some = at (has (state b).abandoned p) (ap (last p) over.1.quiet) some
  where
    at : (t : Bool) → last p (state b).board.out ≡ None → IsSome (if t then None else last p (state b).board.out) → ⊥
    at true e k = absurd cc
    at false e k = no_some (last p (state b).board.out) e k

-- no step is lawful on a board that has ended
final : (b : Shown) → HasEnded b → (x : Step) → IsLawfulOn b x → ⊥
final b end (Dispatch p) may = end.none p may.1 may.2
final b end (Commit p) some = none_out b end.over p some
final b end (Abandon p) some = none_out b end.over p some

no_more : (b : Shown) → HasEnded b → (more : List Step) → AreLawfulOn b more → more ≡ []
no_more b end [] lawful = refl
no_more b end (x ∷ more) lawful = absurd (final b end x lawful.0)

-- a board that has ended stays so
pub ended_stays : (k b : Shown) → HasEnded k → Begins k b → IsOver b
ended_stays k b end h =
    let same : k ≡ b = ap (λ l. record k { schedule = l }) (sym (append-nil k.schedule)) ∙ ap (with_steps k) (sym (no_more k end h.more h.lawful)) ∙ sym h.is in
    subst IsOver same end.over
