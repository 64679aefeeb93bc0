-- What several looks at the board tell together.
use Rattle.std.proofs.Common.{◌≡◌, ℕ, refl, sym, ap, ◌∙◌, subst, Option, Some, None, Result, Ok, Err, IfOk, IfSome, OnErr, List, [], ◌∷◌, ◌++◌, append-nil, append_assoc, inl, inr, ⊎_elim, false}
use Rattle.std.specs.declared.alloc.AllocError.{AllocError}
use Rattle.atomic_table.specs.Seated.{TableId}
use Rattle.ooo_interp.specs.declared.job.Job.{Job}
use Rattle.ooo_dispatch.specs.declared.step.Step.{Step}
use Rattle.ooo_dispatch.specs.declared.step.Step.TheVariants.{Abandon, Commit, Dispatch}
use Rattle.ooo_dispatch.specs.Steps.{IsLost}
use Rattle.ooo_board.specs.Boards.{Shown, state, with_step}
use Rattle.ooo_workers.specs.declared.view.View.{View}
use Rattle.ooo_workers.specs.declared.turn.Turn.{Turn}
use Rattle.ooo_workers.specs.declared.turn.Turn.TheVariants as turn
use Rattle.ooo_workers.specs.declared.turn.Worked.{Worked}
use Rattle.ooo_workers.specs.declared.turn.Worked.TheVariants as worked
use Rattle.ooo_workers.specs.Boards.{Begins, HasEnded, IsGivenOn, NoneGivenUp}
use Rattle.ooo_workers.specs.Rule.{KeepsJob, seized}
use Rattle.ooo_workers.specs.Passes.{Acted, EndedBy, GaveAndTook, Goes, GoesAndAbandons, PassIs, Rested, RoundIs, Stepped, TurnIs, WorkedIs, job_or_end, pass_of}
use Rattle.ooo_workers.proofs.Begun.{begins_refl, begins_trans}

-- ---- one look at the board

pub rest_of : (id : TableId) (v w : View) (b : Shown) → Begins v.known b → KeepsJob v b → w ≡ record (seized v b) { turn = false } → Rested (pass_of id v) (pass_of id w)
rest_of id v w b begins same e = record {
  yard = refl;
  number = ap (λ (u : View). u.number) e;
  begins = subst (λ (k : Shown). Begins v.known k) (sym (ap (λ (u : View). u.known) e)) begins;
  made = ap (λ (u : View). u.made) e;
  out = ap (λ (u : View). u.out) e;
  job = λ done out given. subst (λ (k : Shown). IsGivenOn k done) (sym (ap (λ (u : View). u.known) e)) (same done out given);
}

pub turned : (id : TableId) (v w : View) (b : Shown) (t : Turn) → Begins v.known b → KeepsJob v b → Acted (seized v b) w t → TurnIs (pass_of id v) (pass_of id w) t
turned id v w b (turn.Job job) begins same h =
    let known : w.known ≡ with_step b (Dispatch job.process) = ap (λ (u : View). u.known) h.0 in
    record {
      step = record {
        yard = refl;
        number = ap (λ (u : View). u.number) h.0;
        before = b;
        begins = begins;
        goes_on = subst (λ (k : Shown). Begins v.known k) (sym known) (begins_trans v.known b (with_step b (Dispatch job.process)) begins h.2);
        known = known;
        made = ap (λ (u : View). u.made) h.0;
        out_is = ap (λ (u : View). u.out) h.0;
      };
      is = h.1;
    }
turned id v w b turn.Over begins same h = (rest_of id v w b begins same h.0, subst (λ (k : Shown). HasEnded k) (sym (ap (λ (u : View). u.known) h.0)) h.1)
turned id v w b turn.Lost begins same h = (rest_of id v w b begins same h.0, subst (λ (k : Shown). IsLost (state k)) (sym (ap (λ (u : View). u.known) h.0)) h.1)

turned_some : (id : TableId) (v w : View) (b : Shown) (r : Result (Option Turn) AllocError) → Begins v.known b → KeepsJob v b → IfOk r (λ o. IfSome o (Acted (seized v b) w)) → IfOk r (λ o. IfSome o (TurnIs (pass_of id v) (pass_of id w)))
turned_some id v w b (Ok (Some t)) begins same h = turned id v w b t begins same h
turned_some id v w b (Ok None) begins same h = tt
turned_some id v w b (Err e) begins same h = tt

pub turned_all : (id id' : TableId) (v v' w : View) (b : Shown) (r : Result (Option Turn) AllocError) (p : PassIs) → p ≡ pass_of id v → id' ≡ id → v' ≡ seized v b → Begins v.known b → KeepsJob v b → IfOk r (λ o. IfSome o (Acted v' w))
    → IfOk r (λ o. IfSome o (TurnIs p (pass_of id' w)))
turned_all id id' v v' w b r p p_is id_is v_is begins same h =
    subst (λ (q : PassIs). IfOk r (λ o. IfSome o (TurnIs q (pass_of id' w)))) (sym p_is)
    (subst (λ (i : TableId). IfOk r (λ o. IfSome o (TurnIs (pass_of id v) (pass_of i w)))) (sym id_is)
    (turned_some id v w b r begins same (subst (λ (u : View). IfOk r (λ o. IfSome o (Acted u w))) v_is h)))

-- ---- looks and steps, one after the other

pub rested_refl : (p : PassIs) → Rested p p
rested_refl p = record { yard = refl; number = refl; begins = begins_refl p.known; made = refl; out = refl; job = λ done e given. given }

pub rested_trans : (p q r : PassIs) → Rested p q → Rested q r → Rested p r
rested_trans p q r a b = record {
  yard = b.yard ∙ a.yard;
  number = b.number ∙ a.number;
  begins = begins_trans p.known q.known r.known a.begins b.begins;
  made = b.made ∙ a.made;
  out = b.out ∙ a.out;
  job = λ done e given. b.job done (a.out ∙ e) (a.job done e given);
}

pub rested_step : (p q r : PassIs) (x : Step) (o : Option ℕ) → Rested p q → Stepped x o q r → Stepped x o p r
rested_step p q r x o a h = record {
  yard = h.yard ∙ a.yard;
  number = h.number ∙ a.number;
  before = h.before;
  begins = begins_trans p.known q.known h.before a.begins h.begins;
  goes_on = begins_trans p.known q.known r.known a.begins h.goes_on;
  known = h.known;
  made = h.made ∙ ap (λ (l : List Step). l ++ x ∷ []) a.made;
  out_is = h.out_is;
}

pub rested_turn : (p q r : PassIs) (t : Turn) → Rested p q → TurnIs q r t → TurnIs p r t
unfolding rested_step
rested_turn p q r (turn.Job job) a h = record { step = rested_step p q r (Dispatch job.process) (Some job.process) a h.step; is = h.is }
rested_turn p q r turn.Over a h = (rested_trans p q r a h.0, h.1)
rested_turn p q r turn.Lost a h = (rested_trans p q r a h.0, h.1)

pub on_err : {T E : Type 0} (r : Result T E) (P : Type 0) → P → OnErr r P
on_err (Ok x) P p = tt
on_err (Err e) P p = p

-- the job that was refused is given up
pub refused_then : (p q r : PassIs) (n : ℕ) → p.out ≡ Some n → Rested p q → IfSome q.out (λ m. Stepped (Abandon m) None q r) → Stepped (Abandon n) None p r
refused_then p q r n e a h = rested_step p q r (Abandon n) None a (subst (λ (o : Option ℕ). IfSome o (λ m. Stepped (Abandon m) None q r)) (a.out ∙ e) h)

pub given_up : (p r : PassIs) (n : ℕ) → p.out ≡ Some n → IfSome p.out (λ m. Stepped (Abandon m) None p r) → Stepped (Abandon n) None p r
given_up p r n e h = subst (λ (o : Option ℕ). IfSome o (λ m. Stepped (Abandon m) None p r)) e h

-- ---- rounds

none-append : (xs ys : List Step) → NoneGivenUp xs → NoneGivenUp ys → NoneGivenUp (xs ++ ys)
none-append [] ys a b = b
none-append (Dispatch p ∷ xs) ys a b = none-append xs ys a b
none-append (Commit p ∷ xs) ys a b = none-append xs ys a b
none-append (Abandon p ∷ xs) ys a b = absurd a

pub goes_refl : (p : PassIs) → Goes p p
goes_refl p = record { yard = refl; number = refl; begins = begins_refl p.known; more = []; made = sym (append-nil p.made); clean = tt }

pub goes_trans : (p q r : PassIs) → Goes p q → Goes q r → Goes p r
goes_trans p q r a b = record {
  yard = b.yard ∙ a.yard;
  number = b.number ∙ a.number;
  begins = begins_trans p.known q.known r.known a.begins b.begins;
  more = a.more ++ b.more;
  made = b.made ∙ ap (λ (l : List Step). l ++ b.more) a.made ∙ append_assoc p.made a.more b.more;
  clean = none-append a.more b.more a.clean b.clean;
}

rested_goes : (p q : PassIs) → Rested p q → Goes p q
rested_goes p q a = record { yard = a.yard; number = a.number; begins = a.begins; more = []; made = a.made ∙ sym (append-nil p.made); clean = tt }

step_goes : (x : Step) (o : Option ℕ) (p q : PassIs) → NoneGivenUp (x ∷ []) → Stepped x o p q → Goes p q
step_goes x o p q clean h = record { yard = h.yard; number = h.number; begins = h.goes_on; more = x ∷ []; made = h.made; clean = clean }

-- a turn that was had: the round goes on with its job, or work ends
turn_goes : (p q : PassIs) (t : Turn) → p.out ≡ None → TurnIs p q t → RoundIs p q (job_or_end t)
turn_goes p q (turn.Job job) none h = (
  step_goes (Dispatch job.process) (Some job.process) p q tt h.step,
  (h.step.out_is, h.is.hands.fits, λ done of. subst (λ (k : Shown). IsGivenOn k done) (sym h.step.known) (h.is.gives done of)),
)
turn_goes p q turn.Over none h = record { idle = h.0.out ∙ none; ended = (rested_goes p q h.0, h.1) }
turn_goes p q turn.Lost none h = record { idle = h.0.out ∙ none; ended = (rested_goes p q h.0, h.1) }

goes_abandons : (p q r : PassIs) → Goes p q → GoesAndAbandons q r → GoesAndAbandons p r
goes_abandons p q r a b = record {
  yard = b.yard ∙ a.yard;
  number = b.number ∙ a.number;
  begins = begins_trans p.known q.known r.known a.begins b.begins;
  more = a.more ++ b.more;
  process = b.process;
  made = b.made ∙ ap (λ (l : List Step). l ++ (b.more ++ Abandon b.process ∷ [])) a.made ∙ append_assoc p.made a.more (b.more ++ Abandon b.process ∷ [])
      ∙ ap (λ (l : List Step). p.made ++ l) (sym (append_assoc a.more b.more (Abandon b.process ∷ [])));
  clean = none-append a.more b.more a.clean b.clean;
}

ended_from : (p q r : PassIs) (w : Worked) → Goes p q → EndedBy q r w → EndedBy p r w
ended_from p q r worked.Over a h = (goes_trans p q r a h.0, h.1)
ended_from p q r worked.Lost a h = (goes_trans p q r a h.0, h.1)
ended_from p q r worked.NoMemory a h = ⊎_elim (λ g. inl (goes_trans p q r a g)) (λ g. inr (goes_abandons p q r a g)) h

pub worked_from : (p q r : PassIs) (w : Worked) → Goes p q → WorkedIs q r w → WorkedIs p r w
worked_from p q r w a h = record { idle = h.idle; ended = ended_from p q r w a h.ended }

round_from : (p q r : PassIs) (o : Result (Option Job) Worked) → Goes p q → RoundIs q r o → RoundIs p r o
round_from p q r (Ok had) a h = (goes_trans p q r a h.0, h.1)
round_from p q r (Err w) a h = worked_from p q r w a h

-- a round that takes a job
pub round_taken : (p q : PassIs) (t : Turn) → p.out ≡ None → TurnIs p q t → RoundIs p q (job_or_end t)
round_taken p q t none h = turn_goes p q t none h

pub round_refused : (p q : PassIs) → p.out ≡ None → Rested p q → WorkedIs p q worked.NoMemory
round_refused p q none h = record { idle = h.out ∙ none; ended = inl (rested_goes p q h) }

-- a round that hands one in
pub round_alone : (p q : PassIs) (n : ℕ) → GaveAndTook n None p q → RoundIs p q (Ok None)
round_alone p q n h = (
  goes_trans p h.between q (step_goes (Commit n) None p h.between tt h.gave) (rested_goes h.between q h.took),
  h.took.out ∙ h.gave.out_is,
)

pub round_on : (p q : PassIs) (n : ℕ) (t : Turn) → GaveAndTook n (Some t) p q → RoundIs p q (job_or_end t)
round_on p q n t h = round_from p h.between q (job_or_end t) (step_goes (Commit n) None p h.between tt h.gave) (turn_goes h.between q t h.gave.out_is h.took)

pub round_lost : (p q : PassIs) (n : ℕ) → Stepped (Abandon n) None p q → WorkedIs p q worked.NoMemory
round_lost p q n h = record {
  idle = h.out_is;
  ended = inr (record { yard = h.yard; number = h.number; begins = h.goes_on; more = []; process = n; made = h.made; clean = tt });
}
