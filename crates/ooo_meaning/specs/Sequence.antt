-- The sequential scheduler, over any definition of an activation and in any order of the processes (IEEE 1666-2011, 4.2.1).
use Rattle.std.specs.Prelude.{◌≡◌, ℕ, zero, suc, ◌==◌, List, fold, filter, if◌then◌else◌, Option, Some, None, slice_get, slice_set}
use Rattle.std.specs.List.{flat_map}
use Rattle.ooo_code.specs.declared.limits.Limits.{Limits}
use Rattle.ooo_code.specs.Outcomes.{View, Outcome, Activate}
use Rattle.ooo_history.specs.declared.run.Entry.{Entry}
use Rattle.ooo_history.specs.declared.run.End.{End}
use Rattle.ooo_meaning.specs.World.{World, Made, Progress, Over, Goes, view_of, after_deed, runs_now, settle, notified}

-- the world, and the place of each process in its code
pub record State (K : Type 0) : Type 0 where
  pub world : World
  pub places : List K

-- a state, of its two parts
abbrev pub state_of : {K : Type 0} → World → List K → State K
state_of w places = record { world = w; places = places }

-- ---- the evaluation phase (4.2.1.2)

-- process p after what it did
abbrev pub after_turn : {K : Type 0} → ℕ → State K → Outcome K → State K
after_turn p s o = state_of (after_deed p s.world o.deed) (slice_set s.places p o.next)

-- process p runs from its place, if there is one
abbrev pub turn_at : {K : Type 0} → Activate K → State K → ℕ → Option K → State K
turn_at activate s p None = s
turn_at activate s p (Some k) = after_turn p s (activate p k (view_of p s.world))

-- process p has its turn: it runs if it is runnable
unfoldable pub turn : {K : Type 0} → Activate K → State K → ℕ → State K
turn activate s p = if runs_now p s.world then turn_at activate s p (slice_get s.places p) else s

-- each process of a list has its turn
unfoldable pub evaluate : {K : Type 0} → Activate K → List ℕ → State K → State K
evaluate activate order s = fold (turn activate) s order

-- ---- a run

-- what a run gives: the history of each channel, the activations in order, and how it ended
pub record Result : Type 0 where
  pub histories : List (List Entry)
  pub made : List Made
  pub end : End

-- what was printed: the outputs of the activations, one after the other
abbrev pub output_of : Result → List ℕ
output_of r = flat_map (λ m. m.deed.output) r.made

-- what a run has given where it ends in this world
abbrev pub result_of : World → End → Result
result_of w e = record { histories = w.histories; made = w.made; end = e }

-- a run that is over has its result; one that goes on has what follows
abbrev pub finish : {K : Type 0} → List K → Progress → (State K → Option Result) → Option Result
finish places (Over w e) go = Some (result_of w e)
finish places (Goes w) go = go (state_of w places)

-- what the run gives from a state on, if it is over after at most n cycles: the processes have their turns, and the rest
-- of the cycle follows
unfoldable pub run : {K : Type 0} → Activate K → List ℕ → Limits → ℕ → State K → Option Result
run activate order limits zero s = None
run activate order limits (suc n) s =
    let t = evaluate activate order s in finish t.places (settle limits t.world) (run activate order limits n)

-- the same from initialization on (4.2.1.1), which has the end of a cycle: some process is runnable, or time moves on
unfoldable pub run_whole : {K : Type 0} → Activate K → List ℕ → Limits → ℕ → State K → Option Result
run_whole activate order limits n s = finish s.places (notified limits s.world) (run activate order limits n)

-- the run from a state on gives this
pub record IsRunFrom {K : Type 0} (activate : Activate K) (order : List ℕ) (limits : Limits) (s : State K) (r : Result) : Type 0 where
  pub cycles : ℕ
  pub is : run activate order limits cycles s ≡ Some r

-- the whole run from a state as it stands before initialization gives this
pub record IsWholeRun {K : Type 0} (activate : Activate K) (order : List ℕ) (limits : Limits) (s : State K) (r : Result) : Type 0 where
  pub cycles : ℕ
  pub is : run_whole activate order limits cycles s ≡ Some r

-- ---- what an activation reads

-- the activations of process p, in order
abbrev pub made_by : ℕ → List Made → List Made
made_by p made = filter (λ m. m.place.process == p) made

-- process p's activation number k, counted from 0, if the run makes it
abbrev pub activation_of : (p k : ℕ) → Result → Option Made
activation_of p k r = slice_get (made_by p r.made) k

-- in this run, process p's activation number k is made and reads this
pub record Reads (p k : ℕ) (r : Result) (v : View) : Type 0 where
  pub made : Made
  pub is : activation_of p k r ≡ Some made
  pub view : made.view ≡ v
