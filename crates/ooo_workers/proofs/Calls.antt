-- One call of the board, and what the pass or the view is after it.
use Rattle.std.proofs.Common.{◌≡◌, ℕ, zero, suc, ◌<◌, refl, sym, ap, ◌∙◌, subst, arith, Option, Some, None, Result, Ok, Err, IfOk, IfSome, OnErr, List, [], ◌∷◌, false, true}
use Rattle.std.specs.Prelude.{IfNone}
use Rattle.std.specs.Result.{result_unwrap_or}
use mathlib.Core.Option.{some, some-injective, some-ne-none}
use lib.ListN.{get_elem?}
use Rattle.std.specs.declared.alloc.AllocError.{AllocError}
use Rattle.atomic_table.specs.Seated.{TableId}
use Rattle.atomic_table.specs.Table.{opening}
use Rattle.ooo_interp.specs.declared.job.Done.{Done}
use Rattle.ooo_interp.specs.declared.job.Job.{Job}
use Rattle.ooo_dispatch.specs.declared.step.Step.{Step}
use Rattle.ooo_dispatch.specs.declared.step.Step.TheVariants.{Commit, Dispatch}
use Rattle.ooo_dispatch.specs.Steps.{IsLost}
use Rattle.ooo_fronts.specs.Choices.{IsPick}
use Rattle.ooo_board.specs.Boards.{HandsOut, IsDoneFor, LeavesOthers, MayBeDispatched, ReadsAsInRun, Shown, rules, state, with_step}
use Rattle.ooo_workers.specs.declared.view.View.{View}
use Rattle.ooo_workers.specs.declared.view.Origin.{Origin}
use Rattle.ooo_workers.specs.declared.turn.Turn.{Turn}
use Rattle.ooo_workers.specs.declared.turn.Turn.TheVariants as turn
use Rattle.ooo_workers.specs.Boards.{Begins, HasEnded, IsGivenOn, IsLawfulOn, IsQuiet, flag, process_of}
use Rattle.ooo_workers.specs.Rule.{AllBegin, Fits, IsOwn, KeepsJob, May, Ruled, first_view, noted, out_after, seized, spans, stepped, total}
use Rattle.ooo_workers.specs.Passes.{Acted, EndIs, GaveAndTook, IsJobOn, MayHaveTurned, PassIs, Rested, Stepped, TurnIs, pass_of}
use Rattle.ooo_workers.proofs.Begun.{begins_after, begins_refl, begins_trans}
use Rattle.ooo_workers.proofs.Turns.{rest_of, turned}

-- ---- a pass after one step, or none

stepped_here : (id : TableId) (v : View) (b : Shown) (x : Step) (n : Option ℕ) → n ≡ out_after x → Begins v.known b → IsLawfulOn b x → Stepped x n (pass_of id v) (pass_of id (stepped (seized v b) x))
stepped_here id v b x n e begins lawful = record {
  yard = refl;
  number = refl;
  before = b;
  begins = begins;
  goes_on = begins_trans v.known b (with_step b x) begins (begins_after b x lawful);
  known = refl;
  made = refl;
  out_is = sym e;
}

pub stepped_pass : (id id' : TableId) (v v' w : View) (b : Shown) (x : Step) (n : Option ℕ) (p : PassIs) → n ≡ out_after x → p ≡ pass_of id v → id' ≡ id → v' ≡ seized v b → Begins v.known b → IsLawfulOn b x → w ≡ stepped v' x → Stepped x n p (pass_of id' w)
stepped_pass id id' v v' w b x n p e p_is id_is v_is begins lawful w_is =
    subst (λ (q : PassIs). Stepped x n q (pass_of id' w)) (sym p_is)
    (subst (λ (i : TableId). Stepped x n (pass_of id v) (pass_of i w)) (sym id_is)
    (subst (λ (u : View). Stepped x n (pass_of id v) (pass_of id u)) (sym (w_is ∙ ap (λ (u : View). stepped u x) v_is)) (stepped_here id v b x n e begins lawful)))

pub rested_pass : (id id' : TableId) (v v' w : View) (b : Shown) (p : PassIs) → p ≡ pass_of id v → id' ≡ id → v' ≡ seized v b → Begins v.known b → KeepsJob v b → w ≡ record v' { turn = false } → Rested p (pass_of id' w)
rested_pass id id' v v' w b p p_is id_is v_is begins same w_is =
    subst (λ (q : PassIs). Rested q (pass_of id' w)) (sym p_is)
    (subst (λ (i : TableId). Rested (pass_of id v) (pass_of i w)) (sym id_is)
    (rest_of id v w b begins same (w_is ∙ ap (λ (u : View). record u { turn = false }) v_is)))

pub if_it_is : (o : Option ℕ) (n : ℕ) (Q : ℕ → Type 0) → o ≡ Some n → Q n → IfSome o Q
if_it_is o n Q e q = subst (λ (k : Option ℕ). IfSome k Q) (sym e) q

-- ---- a look at the board

none_lost : (ps : List ℕ) → ((ps ≡ [] → ⊥) → ⊥) → ps ≡ []
none_lost [] h = refl
none_lost (p ∷ ps) h = absurd (h (λ e. absurd cc))

-- what is picked may be dispatched
pub may_dispatch : (b : Shown) (p : ℕ) (o : Option ℕ) → o ≡ Some p → (IsLost (state b) → o ≡ None) → (¬ IsLost (state b) → IsPick (rules b) b.tables.advance (state b).board o) → MayBeDispatched b p
may_dispatch b p o is lost pick =
    let kept : ¬ IsLost (state b) = λ gone. let none : Some p ≡ None = sym is ∙ lost gone in absurd cc in
    let t = subst (IsPick (rules b) b.tables.advance (state b).board) is (pick kept) in
    (none_lost (state b).abandoned kept, t.0, t.1)

pub is_picked : (b : Shown) (p : ℕ) (o : Option ℕ) → o ≡ Some p → (IsLost (state b) → o ≡ None) → (¬ IsLost (state b) → IsPick (rules b) b.tables.advance (state b).board o) → IsPick (rules b) b.tables.advance (state b).board (Some p)
is_picked b p o is lost pick =
    subst (IsPick (rules b) b.tables.advance (state b).board) is (pick (λ gone. let none : Some p ≡ None = sym is ∙ lost gone in absurd cc))

-- the job that was handed out
module _ (b new : Shown) (p : ℕ) (job : Job) (hands : HandsOut b p job) (new_is : new ≡ with_step b (Dispatch p)) where
  pub own_process : job.process ≡ p
  own_process = hands.is_job.process

  pub job_on : IsPick (rules b) b.tables.advance (state b).board (Some p) → ReadsAsInRun new → ((done : Done) → IsDoneFor job done → IsGivenOn new done) → IsJobOn b job
  job_on pick reads gives =
      let e = own_process in
      let now : with_step b (Dispatch job.process) ≡ new = ap (λ q. with_step b (Dispatch q)) e ∙ sym new_is in
      record {
        pick = subst (λ q. IsPick (rules b) b.tables.advance (state b).board (Some q)) (sym e) pick;
        hands = subst (λ q. HandsOut b q job) (sym e) hands;
        reads = subst ReadsAsInRun (sym now) reads;
        gives = λ done of. subst (λ k. IsGivenOn k done) (sym now) (gives done of);
      }

-- the view after it
pub acted_job : (v w : View) (b new : Shown) (p : ℕ) (job : Job) → v.known ≡ b → HandsOut b p job → new ≡ with_step b (Dispatch p) → MayBeDispatched b p → IsPick (rules b) b.tables.advance (state b).board (Some p) → ReadsAsInRun new → ((done : Done) → IsDoneFor job done → IsGivenOn new done) →
    w ≡ stepped v (Dispatch p) → Acted v w (turn.Job job)
acted_job v w b new p job same hands new_is may pick reads gives w_is =
    let e = own_process b new p job hands new_is in (
      w_is ∙ ap (λ q. stepped v (Dispatch q)) (sym e),
      subst (λ k. IsJobOn k job) (sym same) (job_on b new p job hands new_is pick reads gives),
      subst (λ k. Begins k (with_step k (Dispatch job.process))) (sym same) (begins_after b (Dispatch job.process) (subst (λ q. MayBeDispatched b q) (sym e) may)),
    )

-- the view where there is no job, for good
pub acted_end : (v w : View) (b : Shown) (o : Option ℕ) (t : Option Turn) → v.known ≡ b → o ≡ None → w ≡ record v { turn = false } → (¬ IsLost (state b) → IsPick (rules b) b.tables.advance (state b).board o) → IfSome t (EndIs b) → IfSome t (Acted v w)
acted_end v w b o None same none w_is pick end = tt
acted_end v w b o (Some (turn.Job job)) same none w_is pick end = absurd end
acted_end v w b o (Some turn.Over) same none w_is pick end =
    (w_is, subst HasEnded (sym same) (record { over = end; none = subst (IsPick (rules b) b.tables.advance (state b).board) none (pick end.0) }))
acted_end v w b o (Some turn.Lost) same none w_is pick end = (w_is, subst (λ k. IsLost (state k)) (sym same) end)

-- a step that a view may make
pub may_be_made : (v : View) (b new : Shown) (x : Step) (n : ℕ) → v.known ≡ b → new ≡ with_step b x → IsLawfulOn b x → IsOwn v x → LeavesOthers b new n → n ≡ process_of x → (new ≡ with_step v.known x) × May v x
may_be_made v b new x n same new_is lawful own others whose = (
  new_is ∙ ap (λ k. with_step k x) (sym same),
  record {
    lawful = subst (λ k. IsLawfulOn k x) (sym same) lawful;
    own = own;
    others = subst (λ k. LeavesOthers k (with_step k x) (process_of x)) (sym same) (subst (λ k. LeavesOthers b k (process_of x)) new_is (subst (LeavesOthers b new) whose others));
  },
)

-- ---- a job handed in, and the next one

same_seized : (u : View) → u.turn ≡ true → u ≡ seized u u.known
same_seized u e = ap (λ t. record u { turn = t }) e

none_rests : (id id' : TableId) (u w : View) → id' ≡ id → w ≡ record u { turn = false } → Rested (pass_of id u) (pass_of id' w)
none_rests id id' u w id_is w_is =
    subst (λ (i : TableId). Rested (pass_of id u) (pass_of i w)) (sym id_is) (rest_of id u w u.known (begins_refl u.known) (λ done out given. given) w_is)

some_turned : (id id' : TableId) (u w : View) (t : Turn) → id' ≡ id → u.turn ≡ true → Acted u w t → TurnIs (pass_of id u) (pass_of id' w) t
some_turned id id' u w t id_is on acted =
    subst (λ (i : TableId). TurnIs (pass_of id u) (pass_of i w) t) (sym id_is)
    (turned id u w u.known t (begins_refl u.known) (λ done out given. given) (subst (λ (k : View). Acted k w t) (same_seized u on) acted))

turned_or_not : (id id' : TableId) (u w : View) (r : Result (Option Turn) AllocError) (had : Option Turn) → id' ≡ id → u.turn ≡ true → IfOk r (λ o. IfSome o (Acted u w)) → IfOk r (λ o. IfNone o (w ≡ record u { turn = false })) →
    OnErr r (w ≡ record u { turn = false }) → had ≡ result_unwrap_or r None → MayHaveTurned (pass_of id u) (pass_of id' w) had
turned_or_not id id' u w (Ok (Some t)) had id_is on acts rests fails is = subst (MayHaveTurned (pass_of id u) (pass_of id' w)) (sym is) (some_turned id id' u w t id_is on acts)
turned_or_not id id' u w (Ok None) had id_is on acts rests fails is = subst (MayHaveTurned (pass_of id u) (pass_of id' w)) (sym is) (none_rests id id' u w id_is rests)
turned_or_not id id' u w (Err e) had id_is on acts rests fails is = subst (MayHaveTurned (pass_of id u) (pass_of id' w)) (sym is) (none_rests id id' u w id_is fails)

pub gave_and_took : (id id' : TableId) (v v' u w : View) (b : Shown) (n : ℕ) (p : PassIs) (r : Result (Option Turn) AllocError) (had : Option Turn) → p ≡ pass_of id v → id' ≡ id → v' ≡ seized v b → Begins v.known b → IsLawfulOn b (Commit n) → u ≡ noted v' (Commit n) →
    IfOk r (λ o. IfSome o (Acted u w)) → IfOk r (λ o. IfNone o (w ≡ record u { turn = false })) → OnErr r (w ≡ record u { turn = false }) → had ≡ result_unwrap_or r None → GaveAndTook n had p (pass_of id' w)
gave_and_took id id' v v' u w b n p r had p_is id_is v_is begins lawful u_is acts rests fails is =
    let u_now : u ≡ noted (seized v b) (Commit n) = u_is ∙ ap (λ (k : View). noted k (Commit n)) v_is in
    let between : PassIs = pass_of id (noted (seized v b) (Commit n)) in
    record {
      between = between;
      gave = subst (λ (q : PassIs). Stepped (Commit n) None q between) (sym p_is) (stepped_here id v b (Commit n) None refl begins lawful);
      took = subst (λ (k : View). MayHaveTurned (pass_of id k) (pass_of id' w) had) u_now
          (turned_or_not id id' u w r had id_is (ap (λ (k : View). k.turn) u_now) acts rests fails is);
    }

-- ---- a yard as it starts

fits_first : (b : Shown) (v : View) → 0 < v.parts → v.known ≡ b → v.heard ≡ [] → Fits b v
fits_first b v some_part known heard = record {
  known = λ h. subst (λ k. Begins k b) (sym known) (begins_refl b);
  heard = subst (λ ks. AllBegin ks b) (sym heard) tt;
  turn = λ e. known;
  job = λ done out given. subst (λ k. IsGivenOn k done) known given;
  spent = λ e. absurd (omega (arith, e, some_part));
}

pub opens : (passes : ℕ) (key : Origin) (b : Shown) (slots : List (Option Shown)) → key.passes ≡ passes → key.board.value ≡ b → 0 < passes → IsQuiet b → slots ≡ Some b ∷ [] → Ruled passes (opening (0 ∷ []) slots (first_view key))
opens passes key b slots counted same some_pass quiet slots_are = subst (λ l. Ruled passes (opening (0 ∷ []) l (first_view key))) (sym slots_are) (record {
  board = b;
  wide = refl;
  home = λ e. refl;
  turns = refl;
  each = one;
  outs = λ p. ap flag (sym (quiet p));
  made = λ f. let m : total f key.board.value.schedule ≡ total f b.schedule = ap (λ (k : Shown). total f k.schedule) same in omega (arith, m);
  owned = λ x. let m : spans x 0 key.passes ≡ spans x 0 passes = ap (spans x 0) counted in omega (arith, m);
})
  where
    one : (id : ℕ) (v : View) → get_elem? (first_view key ∷ []) id ≡ some v → Fits b v
    one zero v e = let is : first_view key ≡ v = some-injective (first_view key) v e in subst (Fits b) is (fits_first b (first_view key) (let l = some_pass in omega (arith, l, counted)) same refl)
    one (suc id) v e = absurd (some-ne-none v (sym e))
