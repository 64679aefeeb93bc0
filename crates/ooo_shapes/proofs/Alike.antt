-- A sound model and its design: activations, worlds and runs.
use Rattle.std.proofs.Common.{◌≡◌, ℕ, zero, suc, ◌+◌, inl, List, [], ◌∷◌, length, map, Option, Some, None, refl, sym, ap, ap₂, ◌∙◌, subst}
use Rattle.std.specs.Prelude.{slice_get, option_map}
use Rattle.std.proofs.lemmas.Option.{slice_get-map}
use Rattle.ooo_code.specs.declared.activation.Frame.{Frame as NodeFrame}
use Rattle.ooo_code.specs.declared.limits.Limits.{Limits}
use Rattle.ooo_code.specs.declared.segment.SegmentEntry.{SegmentEntry}
use Rattle.ooo_code.specs.declared.segment.SegmentEntry.TheVariants as from
use Rattle.ooo_code.specs.Nodes.{entry_node, first_frame, run_found, by_nodes}
use Rattle.ooo_code.specs.Outcomes.{View, Outcome}
use Rattle.ooo_bound.specs.declared.model.Bound.{Bound}
use Rattle.ooo_bound.specs.declared.model.BoundProcess.{BoundProcess}
use Rattle.ooo_activation.specs.Activations.{Place, act_found, by_statements, course_at, first_place}
use Rattle.ooo_activation.specs.Runs as text
use Rattle.ooo_activation.specs.Sound.{IsSound, FitsProcess}
use Rattle.ooo_meaning.specs.World.{Wait, wait_at}
use Rattle.ooo_meaning.specs.Runs.{first_wait, first_world, numbers_from}
use Rattle.ooo_meaning.specs.Runs as code
use Rattle.ooo_meaning.specs.Sequence.{run_whole}
use Rattle.ooo_shapes.specs.Designs.{process_size, process_at, processes_from, design_of}
use Rattle.ooo_shapes.proofs.Places.{Stands}
use Rattle.ooo_shapes.proofs.Same.{Rests, entry_at}
use Rattle.ooo_shapes.proofs.Agree.{steps_same}
use Rattle.ooo_shapes.proofs.Found.{all_at, process_found}
use Rattle.ooo_shapes.proofs.Start.{slots_of, first_from, all_nodes, end_of, starts, starts_so}
use Rattle.ooo_shapes.proofs.Holders.{same_channels}
use Rattle.ooo_shapes.proofs.Waking.{WhereWaits, DoAlike, RelatedOrNever, SameSoFar, whole_same}

-- ---- the processes of the design

-- process p of the design
pub processes_at : (b : Bound) (at : ℕ) (ps : List BoundProcess) (p : ℕ) → slice_get (processes_from b at ps) p ≡ option_map (λ x. process_at b x (first_from b at ps p)) (slice_get ps p)
processes_at b at [] p = refl
processes_at b at (x ∷ xs) zero = refl
processes_at b at (x ∷ xs) (suc p) = processes_at b (at + process_size b x) xs p

processes_count : (b : Bound) (at : ℕ) (ps : List BoundProcess) → length (processes_from b at ps) ≡ length ps
processes_count b at [] = refl
processes_count b at (x ∷ xs) = ap suc (processes_count b (at + process_size b x) xs)

-- what the processes wait for as a run starts
processes_wait : (b : Bound) (at : ℕ) (ps : List BoundProcess) → map (λ process. first_wait process.initialize process.sensitive) ps ≡ map (λ process. first_wait process.initialize process.sensitive) (processes_from b at ps)
processes_wait b at [] = refl
processes_wait b at (x ∷ xs) = ap (λ ws. first_wait x.initialize x.sensitive ∷ ws) (processes_wait b (at + process_size b x) xs)

-- ---- one activation

-- process p, if there is it, waits at the same place
abbrev pub RestsIn : Bound → Option BoundProcess → (first : ℕ) → Place → NodeFrame → Type 0
RestsIn b None first place frame = Unit {0}
RestsIn b (Some process) first place frame = Rests b process (slots_of b process) (all_nodes b) first place frame

-- the places of process p
abbrev pub StandsAlike : Bound → ℕ → Place → NodeFrame → Type 0
StandsAlike b p place frame = RestsIn b (slice_get b.processes p) (first_from b 0 b.processes p) place frame

-- the same deed, and where it waits the same place
pub record Step (b : Bound) (o : Option BoundProcess) (first : ℕ) (x : Outcome Place) (y : Outcome NodeFrame) : Type 0 where
  pub deed : x.deed ≡ y.deed
  pub next : WhereWaits x.deed.end (RestsIn b o first x.next y.next)

module _ (b : Bound) (sound : IsSound b) where
  entry_is : (process : BoundProcess) (first : ℕ) (entry : SegmentEntry) → entry_node (design_of b) (process_at b process first) entry ≡ entry_at b process (slots_of b process) (all_nodes b) first entry
  entry_is process first from.Start = refl
  entry_is process first (from.After wait) = refl

  -- an activation of a process that is looked up
  step_in : (n p : ℕ) (o : Option BoundProcess) (place : Place) (frame : NodeFrame) (v : View) → slice_get b.processes p ≡ o → RestsIn b o (first_from b 0 b.processes p) place frame → Step b o (first_from b 0 b.processes p) (act_found b n o place v) (run_found (design_of b) n (option_map (λ x. process_at b x (first_from b 0 b.processes p)) o) frame v)
  step_in n p None place frame v e r = record { deed = refl; next = tt }
  step_in n p (Some process) place frame v e r =
      let first = first_from b 0 b.processes p in
      let found = process_found b sound.ranked sound.functions process (all_at (FitsProcess b) b.processes p process sound.processes e) in
      let at_entry = subst (λ q. Stands b process (slots_of b process) (all_nodes b) place.items place.locals frame.slots q) (sym (entry_is process first frame.entry)) r.stands in
      let s = steps_same b process (slots_of b process) (all_nodes b) first frame.entry v.stamp (end_of b process p e found) (starts b process p e found) n place.items place.locals frame.slots (entry_node (design_of b) (process_at b process first) frame.entry) (course_at v) at_entry r.count in
      record { deed = s.deed; next = s.next }

  -- an activation of process p
  pub step_alike : (n p : ℕ) (place : Place) (frame : NodeFrame) (v : View) → StandsAlike b p place frame → Step b (slice_get b.processes p) (first_from b 0 b.processes p) (by_statements b n p place v) (by_nodes (design_of b) n p frame v)
  step_alike n p place frame v r =
      subst (λ o. Step b (slice_get b.processes p) (first_from b 0 b.processes p) (by_statements b n p place v) (run_found (design_of b) n o frame v)) (sym (processes_at b 0 b.processes p))
      (step_in n p (slice_get b.processes p) place frame v refl r)

  -- the activations of a sound model and of its design are alike where they wait
  pub alike : (n : ℕ) → DoAlike (StandsAlike b) (by_statements b n) (by_nodes (design_of b) n)
  alike n = record {
    deed = λ p k l v r. (step_alike n p k l v r).deed;
    next = λ p k l v r. (step_alike n p k l v r).next;
  }

  -- ---- as a run starts

  -- where a process that is looked up starts
  start_in : (p : ℕ) (x : Wait) (o : Option BoundProcess) → slice_get b.processes p ≡ o → RelatedOrNever (RestsIn b o (first_from b 0 b.processes p)) x (option_map first_place o) (option_map first_frame (option_map (λ y. process_at b y (first_from b 0 b.processes p)) o))
  start_in p x None e = tt
  start_in p x (Some process) e =
      let found = process_found b sound.ranked sound.functions process (all_at (FitsProcess b) b.processes p process sound.processes e) in
      inl (starts_so b process p e found)

  -- where process p starts
  start_at : (p : ℕ) (x : Wait) → RelatedOrNever (StandsAlike b p) x (slice_get (map first_place b.processes) p) (slice_get (map first_frame (processes_from b 0 b.processes)) p)
  start_at p x =
      let ks = slice_get-map first_place b.processes p in
      let ls = slice_get-map first_frame (processes_from b 0 b.processes) p ∙ ap (option_map first_frame) (processes_at b 0 b.processes p) in
      subst (λ k. RelatedOrNever (StandsAlike b p) x k (slice_get (map first_frame (processes_from b 0 b.processes)) p)) (sym ks)
      (subst (λ l. RelatedOrNever (StandsAlike b p) x (option_map first_place (slice_get b.processes p)) l) (sym ls) (start_in p x (slice_get b.processes p) refl))

  -- the runs are the same
  pub runs_same : (limits : Limits) (n : ℕ) → text.sequential_run b limits n ≡ code.sequential_run (design_of b) limits n
  runs_same limits n =
      let world = ap₂ (λ ws cs. first_world ws b.variables b.events cs) (processes_wait b 0 b.processes) (same_channels b sound) in
      let start : SameSoFar (StandsAlike b) (text.start_of b) (code.start_of (design_of b)) = record { world = world; places = λ p. start_at p (wait_at (text.start_of b).world.waits p) } in
      whole_same Place NodeFrame (StandsAlike b) (by_statements b limits.statements) (by_nodes (design_of b) limits.statements) (alike limits.statements) (text.ascending b) limits n (text.start_of b) (code.start_of (design_of b)) start
      ∙ ap (λ order. run_whole (by_nodes (design_of b) limits.statements) order limits n (code.start_of (design_of b))) (ap (numbers_from 0) (sym (processes_count b 0 b.processes)))
