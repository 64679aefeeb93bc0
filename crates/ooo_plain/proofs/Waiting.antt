-- A process begins its wait.
use Rattle.std.proofs.Common.{◌≡◌, ◌≢◌, ℕ, suc, ◌<◌, ◌==◌, true, arith, List, [], ◌∷◌, Option, sym, subst, ap, ◌∙◌, set, get_or, length, refl, ⊎_elim, eqb-true}
use Rattle.std.proofs.lemmas.Bool.{cases_eq, or_cases}
use Rattle.std.proofs.lemmas.List.{get_or-set_same, get_or-set_other, length-set, set-get_or, set-set}
use Rattle.std.specs.Prelude.{All, Contains}
use Rattle.std.specs.List.{list_any}
use Rattle.ooo_time.specs.declared.stamp.Stamp.{Stamp}
use Rattle.ooo_channels.specs.Bank.{BankState}
use Rattle.ooo_plain.specs.declared.schedule.Awaited.{Awaited}
use Rattle.ooo_plain.specs.declared.schedule.Schedule.{Schedule}
use Rattle.ooo_plain.specs.Schedule.{nothing_awaited, awaited_at, waits_on, waiting_on, KnowsWaiters, Joined, Listens, IsAsked, Waits, awaited_for}
use Rattle.ooo_plain.proofs.Asking.{awaited_is}
use Rattle.ooo_plain.proofs.Joining.{joined_same}

any_contains : (i : ℕ) (es : List ℕ) → list_any (λ x. x == i) es ≡ true → Contains es i
any_contains i [] e = absurd cc
any_contains i (x ∷ es) e =
    ⊎_elim
    (λ here. (0, omega arith, eqb-true x i here))
    (λ there. let c = any_contains i es there in (suc c.0, (let l = c.1 in omega (arith, l)), c.2))
    (or_cases _ _ e)

module _ (p : ℕ) (h : Awaited) (bank : BankState) (now : Stamp) (old mid new : Schedule) (due : Option Stamp)
    (lt : p < length old.awaited.items) (knows : KnowsWaiters old) (joined : Joined p h.events old mid)
    (rest : new ≡ record mid { agenda = new.agenda; awaited = new.awaited })
    (items : new.awaited.items ≡ set mid.awaited.items p h) (agenda : new.agenda ≡ set mid.agenda p due) where
  awaited : new.awaited.items ≡ set old.awaited.items p h
  awaited = items ∙ ap {A = Schedule} (λ s. set s.awaited.items p h) joined.rest

  dues : new.agenda ≡ set old.agenda p due
  dues = agenda ∙ ap {A = Schedule} (λ s. set s.agenda p due) joined.rest

  lists : (i : ℕ) → waiting_on new i ≡ waiting_on mid i
  lists i = ap {A = Schedule} (λ s. waiting_on s i) rest

  count : length new.awaited.items ≡ length old.awaited.items
  count = ap length awaited ∙ length-set old.awaited.items p h

  at_p : awaited_at new.awaited.items p ≡ h
  at_p = ap (λ xs. awaited_at xs p) awaited ∙ get_or-set_same old.awaited.items p h nothing_awaited lt

  at_other : (q : ℕ) → q ≢ p → awaited_at new.awaited.items q ≡ awaited_at old.awaited.items q
  at_other q ne = ap (λ xs. awaited_at xs q) awaited ∙ get_or-set_other old.awaited.items p q h nothing_awaited ne

  knows_new : KnowsWaiters new
  knows_new = record {
    count = ap length dues ∙ length-set old.agenda p due ∙ knows.count ∙ sym count;
    all = λ q i y. subst (λ xs. Contains xs q) (sym (lists i))
        (⊎_elim
        (λ e. subst (λ x. Contains (waiting_on mid i) x) (sym e) (joined.added i (any_contains i h.events (sym (ap (waits_on i) (ap (awaited_at new.awaited.items) e ∙ at_p)) ∙ y))))
        (λ ne. joined.kept i q (knows.all q i (sym (ap (waits_on i) (at_other q ne)) ∙ y)))
        (cases_eq q p));
    within = λ i. subst (All (λ q. q < length new.awaited.items)) (sym (lists i))
        (subst (λ n. All (λ q. q < n) (waiting_on mid i)) (sym count) (joined.within (length old.awaited.items) lt knows.within i));
  }

  pub waits : IsAsked bank now h due → Waits p h bank now old new
  waits asked = record {
    awaited = awaited;
    due = due;
    agenda = dues;
    asked = asked;
    knows = knows_new;
    count = ap {A = Schedule} (λ s. length s.waiters.items) rest ∙ joined.count;
  }

-- ---- who waits on other events than before

pub listens_same : (old : Schedule) (p : ℕ) (x : Awaited) (es : List ℕ) → KnowsWaiters old → p < length old.awaited.items → x ≡ get_or old.awaited.items p x → x.events ≡ es → Listens p es old old
listens_same old p x es knows lt is same =
    let at : awaited_at old.awaited.items p ≡ x = awaited_is old.awaited.items p x lt is in
    let events : (awaited_at old.awaited.items p).events ≡ es = ap {A = Awaited} (λ h. h.events) at ∙ same in
    record {
      rest = refl;
      joined = joined_same old p x es knows at same;
      awaited = sym (set-get_or old.awaited.items p nothing_awaited) ∙ ap {A = List ℕ} (λ ys. set old.awaited.items p (awaited_for ys (awaited_at old.awaited.items p).timeout)) events;
    }

pub listens_anew : (p : ℕ) (old mid new : Schedule) (x : Awaited) (es fs : List ℕ) → p < length old.awaited.items → Joined p es old mid → new ≡ record mid { awaited = new.awaited } → x ≡ get_or mid.awaited.items p x
    → new.awaited.items ≡ set mid.awaited.items p (awaited_for fs x.timeout) → fs ≡ es → Listens p es old new
listens_anew p old mid new x es fs lt joined rest is items same =
    let at : awaited_at old.awaited.items p ≡ x = awaited_is old.awaited.items p x lt (is ∙ ap {A = Schedule} (λ s. get_or s.awaited.items p x) joined.rest) in
    subst (Listens p es old) (sym rest) (record {
      rest = ap {A = Schedule} (λ s. record s { awaited = new.awaited }) joined.rest;
      joined = subst (Joined p es old) joined.rest joined;
      awaited = items ∙ ap {A = Schedule} (λ s. set s.awaited.items p (awaited_for fs x.timeout)) joined.rest ∙ ap {A = List ℕ} (λ ys. set old.awaited.items p (awaited_for ys x.timeout)) same ∙ ap {A = Awaited} (λ h. set old.awaited.items p (awaited_for es h.timeout)) (sym at);
    })

pub waits_listening : (p : ℕ) (es : List ℕ) (timeout : Option Stamp) (bank : BankState) (now : Stamp) (old mid new : Schedule) (x : Awaited) (due : Option Stamp) → p < length old.awaited.items → KnowsWaiters old → Listens p es old mid
    → new ≡ record mid { agenda = new.agenda; awaited = new.awaited } → x ≡ get_or mid.awaited.items p x → new.awaited.items ≡ set mid.awaited.items p (awaited_for x.events timeout) → new.agenda ≡ set mid.agenda p due
    → IsAsked bank now (awaited_for es timeout) due → Waits p (awaited_for es timeout) bank now old new
waits_listening p es timeout bank now old mid new x due lt knows listens rest is items agenda asked =
    waits p (awaited_for es timeout) bank now old (record old { waiters = mid.waiters }) new due lt knows listens.joined
    (rest ∙ ap {A = Schedule} (λ s. record s { agenda = new.agenda; awaited = new.awaited }) listens.rest)
    (items ∙ ap {A = List ℕ} (λ ys. set mid.awaited.items p (awaited_for ys timeout)) events ∙ ap {A = List Awaited} (λ hs. set hs p (awaited_for es timeout)) listens.awaited ∙ set-set old.awaited.items p _ _)
    (agenda ∙ ap {A = Schedule} (λ s. set s.agenda p due) listens.rest)
    asked where
      at_p : awaited_at mid.awaited.items p ≡ awaited_for es (awaited_at old.awaited.items p).timeout
      at_p = ap {A = List Awaited} (λ hs. awaited_at hs p) listens.awaited ∙ get_or-set_same old.awaited.items p _ nothing_awaited lt

      lt_mid : p < length mid.awaited.items
      lt_mid = let n = ap length listens.awaited ∙ length-set old.awaited.items p _ in omega (arith, lt, n)

      events : x.events ≡ es
      events = ap {A = Awaited} (λ h. h.events) (sym (awaited_is mid.awaited.items p x lt_mid is) ∙ at_p)
