-- The processes of a walk are registered by the constructors of their instances' modules.
use Rattle.std.proofs.Common.{◌≡◌, ◌∙◌, refl, sym, ap, subst, ◌⊎◌, arith, ℕ, zero, suc, ◌+◌, ◌/◌, ◌%◌, List, [], ◌∷◌, ◌++◌, length, true, false, Some, None, inl, inr}
use Rattle.std.specs.Prelude.{◌==◌, ◌||◌, nat_lt, if◌then◌else◌, slice_get, Result, Ok, Err}
use Rattle.ooo_lemmas.proofs.Placed.{kept_at, behind_at}
use Rattle.ooo_time.specs.declared.time.Time.{Time}
use Rattle.ooo_lexer.specs.declared.position.Position.{Position}
use Rattle.ooo_value.specs.declared.bound.ChannelKind.TheVariants as channel
use Rattle.ooo_value.specs.declared.bound.ProcessKind.{ProcessKind}
use Rattle.ooo_value.specs.declared.bound.ProcessKind.TheVariants as process
use Rattle.ooo_value.specs.declared.kinds.Kind.TheVariants as kind
use Rattle.ooo_syntax.specs.declared.leaves.Word.{Word}
use Rattle.ooo_checked.specs.declared.denotation.Resolved.{Resolved}
use Rattle.ooo_checked.specs.declared.denotation.Thing.TheVariants as thing
use Rattle.ooo_checked.specs.declared.denotation.Direction.TheVariants as direction
use Rattle.ooo_checked.specs.declared.stat.CheckedTime.{CheckedTime}
use Rattle.ooo_checked.specs.declared.module.CheckedMember.{CheckedMember}
use Rattle.ooo_checked.specs.declared.module.CheckedMember.TheVariants as member
use Rattle.ooo_checked.specs.declared.module.CheckedPart.{CheckedPart}
use Rattle.ooo_checked.specs.declared.module.CheckedSetup.{CheckedSetup}
use Rattle.ooo_checked.specs.declared.module.CheckedSetup.TheVariants as setup
use Rattle.ooo_checked.specs.declared.unit.CheckedMainItem.{CheckedMainItem}
use Rattle.ooo_checked.specs.declared.unit.CheckedMainItem.TheVariants as main_item
use Rattle.ooo_checked.specs.Exprs.{kind_written}
use Rattle.ooo_constants.specs.declared.meaning.Meaning.{Meaning}
use Rattle.ooo_constants.specs.declared.meaning.Meaning.TheVariants as meaning
use Rattle.ooo_constants.specs.declared.times.TimeBreach.{TimeBreach}
use Rattle.ooo_constants.specs.Times.{time_of}
use Rattle.ooo_walk.specs.declared.refusal.ElabBreach.TheVariants as what
use Rattle.ooo_walk.specs.declared.state.Evaluated.{Evaluated}
use Rattle.ooo_walk.specs.declared.state.ProcessForm.TheVariants.{Clock, Registered}
use Rattle.ooo_walk.specs.declared.state.Walk.{Walk}
use Rattle.ooo_walk.specs.declared.state.WalkedInstance.{WalkedInstance}
use Rattle.ooo_walk.specs.States.{refused, after_answer, full_name, known_here, evaluated, option_evaluated, most_processes, with_object, with_process, with_channel, in_order}
use Rattle.ooo_walk.specs.Members.{statics_of, value_among, args_given}
use Rattle.ooo_walk.specs.Setups.{after_times, process_told, process_of, setup_of, setups_from}
use Rattle.ooo_walk.specs.Instances.{Inside, after_args, entered, instance_with, child_of, port_form, member_of, inside_of, args_evaluated, values_from, counting}
use Rattle.ooo_walk.specs.Plans.{Filed, Viewed, view_at, init_args}
use Rattle.ooo_walk.specs.Texts.{at_first, item_of, clock_with, clock_timed, after_room, clock_of, main_item_of, start_of, file_of}
use Rattle.ooo_walk.specs.declared.state.WalkedProcess.{WalkedProcess}
use Rattle.ooo_sound_model.specs.Bodies.{IsRegistered, IsRegistration}
use Rattle.ooo_sound_model.specs.Whole.{ProcessesAreRegistered}
use Rattle.ooo_sound_model.proofs.Kept.{At, Keeps, at_kept, at_quiet, refused_keeps, unless_keeps, in_order_keeps, answer_keeps, object_keeps, set_keeps, bind_keeps, times_keep, args_keep, room_keeps, start_form_keeps, meant_keeps, fixed_keeps, field_keeps, statics_keep, constant_keeps, word_keeps, part_keeps, port_keeps, event_keeps, item_keeps}

split_one : (xs : List WalkedProcess) (x : WalkedProcess) (k : ℕ) (y : WalkedProcess) → slice_get (xs ++ x ∷ []) k ≡ Some y →
    (slice_get xs k ≡ Some y) ⊎ (x ≡ y)
split_one [] x zero y h = inr cc
split_one [] x (suc k) y h = absurd cc
split_one (z ∷ xs) x zero y h = inl h
split_one (z ∷ xs) x (suc k) y h = split_one xs x k y h

module _ (f : Filed) where
  -- each process is registered in an instance that is over
  abbrev RP : List WalkedProcess → List WalkedInstance → Type 0
  RP ps is = (p : ℕ) (x : WalkedProcess) (k : ProcessKind) (i place function : ℕ) → slice_get ps p ≡ Some x →
      x.form ≡ Registered k i place function → IsRegistered f is k i place function

  -- the process is one of the instance that is walked
  abbrev IsHere : ℕ → List WalkedInstance → ProcessKind → (i place function : ℕ) → Type 0
  IsHere n is k i place function = (length is ≡ i) × IsRegistration k function (slice_get (view_at f n).setups place)

  -- each process is, or is one of the instance of module n that is walked
  abbrev RQ : ℕ → List WalkedProcess → List WalkedInstance → Type 0
  RQ n ps is = (p : ℕ) (x : WalkedProcess) (k : ProcessKind) (i place function : ℕ) → slice_get ps p ≡ Some x →
      x.form ≡ Registered k i place function → IsRegistered f is k i place function ⊎ IsHere n is k i place function

  begun : (n : ℕ) (ps : List WalkedProcess) (is : List WalkedInstance) → RP ps is → RQ n ps is
  begun n ps is h p x k i place function at of = inl (h p x k i place function at of)

  with_clock : (ps : List WalkedProcess) (is : List WalkedInstance) (c : ℕ) (half : Time) (line : ℕ) (name : List ℕ) → RP ps is →
      RP (ps ++ record { form = Clock c half line; name = name } ∷ []) is
  with_clock ps is c half line name h p x k i place function at of =
      elim (split_one ps (record { form = Clock c half line; name = name }) p x at) [
        | inl old ↦ h p x k i place function old of
        | inr new ↦ let e : Clock c half line ≡ Registered k i place function = ap (λ (z : WalkedProcess). z.form) new ∙ of in absurd cc
      ]

  -- a process of the instance that is walked
  with_registered : (n : ℕ) (ps : List WalkedProcess) (is : List WalkedInstance) (j : ProcessKind) (there function : ℕ) (name : List ℕ) →
      IsRegistration j function (slice_get (view_at f n).setups there) → RQ n ps is →
      RQ n (ps ++ record { form = Registered j (length is) there function; name = name } ∷ []) is
  with_registered n ps is j there function name by h p x k i place other at of =
      elim (split_one ps (record { form = Registered j (length is) there function; name = name }) p x at) [
        | inl old ↦ h p x k i place other old of
        | inr new ↦
            let e : Registered j (length is) there function ≡ Registered k i place other = ap (λ (z : WalkedProcess). z.form) new ∙ of in
            let kind : j ≡ k = cc in
            let number : length is ≡ i = cc in
            let placed : there ≡ place = cc in
            let named : function ≡ other = cc in
            inr (
              number,
              subst (λ l. IsRegistration l other (slice_get (view_at f n).setups place)) kind
                  (subst (λ y. IsRegistration j y (slice_get (view_at f n).setups place)) named
                  (subst (λ q. IsRegistration j function (slice_get (view_at f n).setups q)) placed by)),
            )
      ]

  -- the instance is over
  over : (n : ℕ) (ps : List WalkedProcess) (is : List WalkedInstance) (ms : List Meaning) → RQ n ps is →
      RP ps (is ++ record { module_number = n; members = ms } ∷ [])
  over n ps is ms h p x k i place function at of = elim (h p x k i place function at of) [
    | inl old ↦ record {
      instance = old.instance;
      there = kept_at is (record { module_number = n; members = ms } ∷ []) i old.instance old.there;
      by = old.by;
    }
    | inr new ↦
        let number = new.0 in record {
          instance = record { module_number = n; members = ms };
          there = behind_at is (record { module_number = n; members = ms } ∷ []) 0 i (omega (arith, number));
          by = new.1;
        }
  ]

  -- ---- constructors

  registered_keeps : (n : ℕ) (j : ProcessKind) (place function : ℕ) → IsRegistration j function (slice_get (view_at f n).setups place) →
      (at : Position) (name : List ℕ) (w : Walk) → At (RQ n) w → At (RQ n) (with_process (Registered j (length w.instances) place function) at name w)
  registered_keeps n j place function by at name w h =
      elim (nat_lt (length w.processes) most_processes)
      as (λ t. At (RQ n) (if t
      then record w { processes = w.processes ++ record { form = Registered j (length w.instances) place function; name = name } ∷ [] }
      else refused what.TooManyProcesses at name w)) [
        | true ↦ with_registered n w.processes w.instances j place function name by h
        | false ↦ refused_keeps (At (RQ n)) (at_quiet (RQ n)) what.TooManyProcesses at name w h
      ]

  process_keeps : (n : ℕ) (v : Viewed) (j : ProcessKind) (place : ℕ) (r : Resolved) →
      IsRegistration j r.denotes.number (slice_get (view_at f n).setups place) → Keeps (At (RQ n)) (process_of v j place r)
  process_keeps n v j place r by w h =
      let told = process_told v (known_here w) r.denotes.number in
      let name = full_name w r.word.name in
      unless_keeps (At (RQ n)) (at_quiet (RQ n)) (after_times told name) (times_keep (At (RQ n)) (at_quiet (RQ n)) told name) _
      (registered_keeps n j place r.denotes.number by r.word.position name w h)

  setup_keeps : (n : ℕ) (v : Viewed) (place : ℕ) (x : CheckedSetup) → slice_get (view_at f n).setups place ≡ Some x →
      Keeps (At (RQ n)) (setup_of v place x)
  setup_keeps n v place (setup.Thread at r) is w h =
      process_keeps n v process.Thread place r (subst (IsRegistration process.Thread r.denotes.number) (sym is) (refl, refl)) w h
  setup_keeps n v place (setup.Method at r) is w h =
      process_keeps n v process.Method place r (subst (IsRegistration process.Method r.denotes.number) (sym is) (refl, refl)) w h
  setup_keeps n v place (setup.Sensitive at es) is w h = h
  setup_keeps n v place (setup.DontInitialize at) is w h = h
  setup_keeps n v place (setup.Bind b) is w h = bind_keeps (At (RQ n)) (at_quiet (RQ n)) _ b w h
  setup_keeps n v place (setup.Set r e) is w h = let a = evaluated (known_here w) e in
      set_keeps (At (RQ n)) (at_quiet (RQ n)) (slice_get w.here.members r.denotes.number) a.answer
      (after_answer a.answer a.at (full_name w r.word.name) w)
      (answer_keeps (At (RQ n)) (at_quiet (RQ n)) a.answer a.at (full_name w r.word.name) w h)

  setups_keep : (n : ℕ) (v : Viewed) (place : ℕ) (xs : List CheckedSetup) →
      ((j : ℕ) (x : CheckedSetup) → slice_get xs j ≡ Some x → slice_get (view_at f n).setups (place + j) ≡ Some x) →
      Keeps (At (RQ n)) (setups_from v place xs)
  setups_keep n v place [] stand w h = h
  setups_keep n v place (x ∷ xs) stand w h =
      let here : slice_get (view_at f n).setups place ≡ Some x =
      subst (λ k. slice_get (view_at f n).setups k ≡ Some x) (let e : place + 0 ≡ place = omega arith in e) (stand 0 x refl) in
      setups_keep n v (place + 1) xs
      (λ j y at. subst (λ k. slice_get (view_at f n).setups k ≡ Some y) (let e : place + suc j ≡ place + 1 + j = omega arith in e) (stand (suc j) y at)) _
      (unless_keeps (At (RQ n)) (at_quiet (RQ n)) (setup_of v place x) (setup_keeps n v place x here) w h)

  -- ---- instances

  abbrev Each : Inside → Type 0
  Each inside = (n : ℕ) (w : Walk) → At RP w → At (RQ n) (inside n w)

  instance_keeps : (inside : Inside) → Each inside → (child : Viewed) (n : ℕ) (word : Word)
      (declared initial : List Evaluated) → Keeps (At RP) (instance_with inside child n word declared initial)
  instance_keeps inside each child n word declared initial w h =
      let name = full_name w word.name in
      let w1 = after_args name initial (after_args name declared (with_object word.position name w)) in
      let known = entered name (values_from child.params 0 (counting declared initial)) in
      let inner = inside n (record w1 { here = known }) in
      over n inner.processes inner.instances inner.here.members (each n (record w1 { here = known })
      (args_keep (At RP) (at_quiet RP) name initial (after_args name declared (with_object word.position name w))
      (args_keep (At RP) (at_quiet RP) name declared (with_object word.position name w) (object_keeps (At RP) (at_quiet RP) word.position name w h))))

  child_keeps : (inside : Inside) → Each inside → (v : Viewed) (n : ℕ) (p : CheckedPart) →
      Keeps (At RP) (child_of inside f v n p)
  child_keeps inside each v n p w h =
      let c = known_here w in
      instance_keeps inside each (view_at f n) n p.name.word (args_evaluated c (args_given p.args))
      (args_evaluated c (init_args v (length w.here.members))) w h

  member_keeps : (inside : Inside) → Each inside → (v : Viewed) (m : CheckedMember) →
      Keeps (At RP) (member_of inside f v m)
  member_keeps inside each v member.Public w h = h
  member_keeps inside each v (member.Constant c) w h = constant_keeps (At RP) (at_kept RP) v c w h
  member_keeps inside each v (member.HasProcess name) w h = h
  member_keeps inside each v (member.Fields x) w h =
      in_order_keeps (At RP) (at_quiet RP) _ (field_keeps (At RP) (at_kept RP) v x.is_const (kind_written x.form.form)) x.fields w h
  member_keeps inside each v (member.Ports p) w h =
      in_order_keeps (At RP) (at_quiet RP) _ (port_keeps (At RP) (at_kept RP) (port_form p.port (kind_written p.form.form))) p.names w h
  member_keeps inside each v (member.Clocks names) w h =
      in_order_keeps (At RP) (at_quiet RP) _ (port_keeps (At RP) (at_kept RP) (thing.SignalPort direction.In kind.Bool)) names w h
  member_keeps inside each v (member.Channels c) w h =
      in_order_keeps (At RP) (at_quiet RP) _ (part_keeps (At RP) (at_kept RP) v c.channel (kind_written c.form.form)) c.parts w h
  member_keeps inside each v (member.Events names) w h = in_order_keeps (At RP) (at_quiet RP) _ (event_keeps (At RP) (at_kept RP)) names w h
  member_keeps inside each v (member.Children c) w h =
      in_order_keeps (At RP) (at_quiet RP) _ (child_keeps inside each v c.module_name.denotes.number) c.parts w h
  member_keeps inside each v (member.Function x) w h = meant_keeps (At RP) (at_kept RP) meaning.Nothing tt w h
  member_keeps inside each v (member.Constructor c) w h = h

  inside_keeps : (levels : ℕ) → Each (inside_of levels f)
  inside_keeps zero n w h = begun n w.processes w.instances h
  inside_keeps (suc levels) n w h =
      let v = view_at f n in
      let w1 = in_order (member_of (inside_of levels f) f v) v.members (statics_of v v.members w) in
      setups_keep n v 0 v.setups (λ j x at. subst (λ k. slice_get v.setups k ≡ Some x) (let e : j ≡ 0 + j = omega arith in e) at) w1
      (begun n w1.processes w1.instances
      (in_order_keeps (At RP) (at_quiet RP) _ (member_keeps (inside_of levels f) (inside_keeps levels) v) v.members _ (statics_keep (At RP) (at_kept RP) v v.members w h)))

  -- ---- texts

  clock_keeps : (at : Position) (r : Resolved) (t : Time) → Keeps (At RP) (clock_with at r t)
  clock_keeps at r t w h =
      elim (t.0 == 0 || t.0 % 2 == 1)
      as (λ b. At RP (if b then refused what.OddClock r.word.position r.word.name w
      else with_channel (record { kind = channel.Signal; value = kind.Bool; size = 0 }) true r.word.position r.word.name
      (with_process (Clock (length w.channels) (record { 0 = t.0 / 2 }) at.line) r.word.position r.word.name w))) [
        | true ↦ refused_keeps (At RP) (at_quiet RP) what.OddClock r.word.position r.word.name w h
        | false ↦ elim (nat_lt (length w.processes) most_processes)
            as (λ b. At RP (if b then record w {
              processes = w.processes
                  ++ record { form = Clock (length w.channels) (record { 0 = t.0 / 2 }) at.line; name = r.word.name } ∷ [];
            } else refused what.TooManyProcesses r.word.position r.word.name w)) [
              | true ↦ with_clock w.processes w.instances (length w.channels) (record { 0 = t.0 / 2 }) at.line r.word.name h
              | false ↦ refused_keeps (At RP) (at_quiet RP) what.TooManyProcesses r.word.position r.word.name w h
            ]
      ]

  timed_keeps : (at : Position) (r : Resolved) (period : CheckedTime) (t : Result Time TimeBreach) → Keeps (At RP) (clock_timed at r period t)
  timed_keeps at r period (Ok t) w h = clock_keeps at r t w h
  timed_keeps at r period (Err breach) w h = refused_keeps (At RP) (at_quiet RP) _ _ _ w h

  clock_item_keeps : (at : Position) (r : Resolved) (period : CheckedTime) → Keeps (At RP) (clock_of at r period)
  clock_item_keeps at r period w h =
      let t = time_of (known_here w) period in
      let roomy = after_room r.word.position r.word.name w in
      let w1 = with_object r.word.position r.word.name roomy in
      unless_keeps (At RP) (at_quiet RP) (clock_timed at r period t) (timed_keeps at r period t) w1
      (object_keeps (At RP) (at_quiet RP) r.word.position r.word.name roomy (room_keeps (At RP) (at_quiet RP) r.word.position r.word.name w h))

  main_item_keeps : (x : CheckedMainItem) → Keeps (At RP) (main_item_of f x)
  main_item_keeps (main_item.Constant c) w h =
      fixed_keeps (At RP) (at_kept RP) (kind_written c.form.form) c.name.word (Some (evaluated (known_here w) c.value)) None w h
  main_item_keeps (main_item.Channel c) w h =
      word_keeps (At RP) (at_kept RP) c.channel (kind_written c.form.form) c.name.word
      (option_evaluated (known_here w) (value_among (args_given c.args))) None w h
  main_item_keeps (main_item.Clock at r text period) w h = clock_item_keeps at r period w h
  main_item_keeps (main_item.Instance m r args) w h =
      instance_keeps (inside_of (length f.plans) f) (inside_keeps (length f.plans)) (view_at f m.denotes.number) m.denotes.number
      r.word (args_evaluated (known_here w) args) [] w h
  main_item_keeps (main_item.Bind b) w h = bind_keeps (At RP) (at_quiet RP) _ b w h

pub processes_are_registered : ProcessesAreRegistered
processes_are_registered u =
    let f = file_of u in
    let w0 = in_order item_of u.items at_first in
    let w1 = in_order (main_item_of f) u.main.items w0 in
    unless_keeps (At (RP f)) (at_quiet (RP f)) (start_of u.main.start) (start_form_keeps (At (RP f)) (at_quiet (RP f)) u.main.start) w1
    (in_order_keeps (At (RP f)) (at_quiet (RP f)) (main_item_of f) (main_item_keeps f) u.main.items w0
    (in_order_keeps (At (RP f)) (at_quiet (RP f)) item_of (item_keeps (At (RP f)) (at_kept (RP f))) u.items at_first
    (λ p x k i place function at of. absurd cc)))
