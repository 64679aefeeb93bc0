-- A module that is read without breaches has the bodies, names and calls that a sound model needs.
use Rattle.std.proofs.Common.{◌≡◌, ◌∙◌, refl, sym, subst, arith, ℕ, zero, suc, ◌-◌, ◌<◌, List, [], ◌∷◌, ◌++◌, length, Bool, true, false, Option, Some, None}
use Rattle.std.specs.Prelude.{All, Contains, IsSome, slice_get}
use Rattle.std.proofs.lemmas.List.Elements.{All-contains, All-weaker}
use Rattle.ooo_lemmas.proofs.Each.{first_part, then_part}
use Rattle.ooo_lexer.specs.declared.position.Position.{Position}
use Rattle.ooo_value.specs.declared.bound.ProcessKind.{ProcessKind}
use Rattle.ooo_value.specs.declared.bound.ProcessKind.TheVariants as process
use Rattle.ooo_syntax.specs.declared.module.Function.{Function}
use Rattle.ooo_syntax.specs.declared.module.Member.{Member}
use Rattle.ooo_syntax.specs.declared.module.Member.TheVariants as written_member
use Rattle.ooo_syntax.specs.declared.module.Module.{Module}
use Rattle.ooo_checked.specs.declared.module.CheckedFunction.{CheckedFunction}
use Rattle.ooo_checked.specs.declared.module.CheckedMember.{CheckedMember}
use Rattle.ooo_checked.specs.declared.module.CheckedSetup.{CheckedSetup}
use Rattle.ooo_checked.specs.declared.module.CheckedSetup.TheVariants as setup
use Rattle.ooo_checked.specs.declared.stat.CheckedEvent.{CheckedEvent}
use Rattle.ooo_checked.specs.Scopes.{Scope, entered, size_of}
use Rattle.ooo_checked.specs.Stats.{stats_of}
use Rattle.ooo_constants.specs.Bodies.{body_calls}
use Rattle.ooo_members.specs.declared.known.Sofar.{Sofar}
use Rattle.ooo_members.specs.Bodies.{function_of, function_context, params_of}
use Rattle.ooo_members.specs.Declarations.{members_names}
use Rattle.ooo_members.specs.Known.{Modules}
use Rattle.ooo_members.specs.Members.{member_of, members_of, functions_of}
use Rattle.ooo_types.specs.Modules.{at_first, initialised_by}
use Rattle.ooo_types.specs.Processes.{all_edges, functions_notes}
use Rattle.ooo_walk.specs.Plans.{Viewed, function_at}
use Rattle.ooo_walk.specs.Reach.{has}
use Rattle.ooo_elaborate.specs.Functions.{functions_in}
use Rattle.ooo_sound_walk.specs.Names.{things_of}
use Rattle.ooo_sound_model.specs.Noted.{CallsAreNoted}
use Rattle.ooo_sound_walk.specs.Reached.{ReachedAreLeast}
use Rattle.ooo_sound_model.specs.Bodies.{HasOrder, IsRegistration, is_thread}
use Rattle.ooo_sound_model.specs.Texts.{AllStand, AreEvents, FitsText, IsText, no_calls}
use Rattle.ooo_sound_text.specs.Modules.{IsFileScope, IsRead, names_of, scope_of, view_of}
use Rattle.ooo_sound_text.specs.Right.{IsRight, AreRight}
use Rattle.ooo_sound_text.specs.Calls.{CallsAreOfScope}
use Rattle.ooo_sound_text.specs.Names.{FunctionsAreOfText, FunctionsAreThere, IsFunctionOf, NamesStand}
use Rattle.ooo_sound_text.specs.Parts.{BodiesAreInside, EventsAreOfText, body_scope}
use Rattle.ooo_sound_text.specs.Waiting.{CalledDontWait, CallsAreEdges, MethodsDontWait, NoCallOnCycle, called_by, edges_of, known_of}
use Rattle.ooo_sound.proofs.Callers.{reached_called}
use Rattle.ooo_sound.proofs.Names.{AllStandIn, all_stand, functions_among, number_is, numbers_below, part_among}
use Rattle.ooo_sound.proofs.Rights.{events_noted, leave_of, noted, then_called, then_waits, written}

-- ---- notes of members

-- the notes of a function among members are among theirs
among_members : (ms : Modules) (name : List ℕ) (initialised s : Scope) (xs : List Member) (before : Sofar) (f : Function) →
    AreRight (members_of ms name initialised s xs before).notes → Contains xs (written_member.Function f) → AreRight (function_of f s).notes
among_members ms name initialised s [] before f right (j, within, is) = absurd (omega (arith, within))
among_members ms name initialised s (x ∷ xs) before f right (zero, within, is) =
    let first = member_of ms name initialised s x before in
    let here : AreRight first.notes = first_part IsRight first.notes (members_of ms name initialised s xs first.behind).notes right in
    subst (λ (m : Member). AreRight (member_of ms name initialised s m before).notes) is here
among_members ms name initialised s (x ∷ xs) before f right (suc j, within, is) =
    let first = member_of ms name initialised s x before in
    among_members ms name initialised s xs first.behind f
    (then_part IsRight first.notes (members_of ms name initialised s xs first.behind).notes right) (j, omega (arith, within), is)

-- the laws that modules need
pub record Laws : Type 0 where
  pub calls : CallsAreOfScope
  pub names : NamesStand
  pub members : FunctionsAreThere
  pub functions : FunctionsAreOfText
  pub noted : CallsAreNoted
  pub least : ReachedAreLeast
  pub edges : CallsAreEdges
  pub no_cycle : NoCallOnCycle
  pub called : CalledDontWait
  pub methods : MethodsDontWait
  pub bodies : BodiesAreInside
  pub events : EventsAreOfText

module _ (laws : Laws) (file : Scope) (m : Module) (ms : List CheckedMember) (filed : IsFileScope file) (read : IsRead file m ms) where
  abbrev v : Viewed
  v = view_of ms

  abbrev s : Scope
  s = scope_of m file

  -- nothing is wrong with a function
  function_right : (f : Function) → Contains m.members (written_member.Function f) → AreRight (function_of f s).notes
  function_right f among =
      let declared = (members_names (size_of file) m.members (entered file)).notes in
      let initialised = initialised_by m.members (entered []) in
      let first = at_first (size_of s - size_of file) in
      let members = members_of read.modules m.name.name initialised s m.members first in
      let functions = functions_of m.members s in
      let hung = functions_notes (all_edges functions) members.behind.registered functions in
      among_members read.modules m.name.name initialised s m.members first f
      (then_part IsRight declared members.notes (first_part IsRight (declared ++ members.notes) hung read.right)) among

  -- nor with its body
  body_right : (f : Function) → Contains m.members (written_member.Function f) →
      AreRight (stats_of f.body (function_context f s) (body_scope f s)).notes
  body_right f among =
      then_part IsRight (params_of (size_of s) f.params (entered s)).notes
      (stats_of f.body (function_context f s) (body_scope f s)).notes (function_right f among)

  names_stand : AllStandIn (things_of ms) s
  names_stand = laws.names file m ms filed read

  body_stands : (f : Function) → AllStand v (body_scope f s)
  body_stands f = all_stand v (body_scope f s) s names_stand (laws.bodies f s)

  -- a body calls functions of the module
  body_calls_functions : (f : Function) → Contains m.members (written_member.Function f) →
      All (λ x. IsSome (function_at v x)) (body_calls (function_of f s).tree.body)
  body_calls_functions f among =
      let numbers = numbers_below v (length v.places) in
      All-weaker (Contains numbers) (λ x. IsSome (function_at v x)) (λ y c. number_is v (length v.places) y c)
      (body_calls (function_of f s).tree.body)
      (laws.calls numbers (body_scope f s) (function_context f s) f.body
      (part_among numbers (body_scope f s) s (functions_among v s (λ x params at. laws.members ms x params at) names_stand) (laws.bodies f s))
      (body_right f among))

  -- a function's body is that of the text
  text_of : (waits : Bool) (f : Function) → Contains m.members (written_member.Function f) →
      (waits ≡ false → (known_of m file f).waits ≡ []) → IsText v waits (function_of f s).tree.body
  text_of waits f among none = record {
    scope = body_scope f s;
    context = function_context f s;
    text = f.body;
    outside = refl;
    is = refl;
    notes =
        written waits (stats_of f.body (function_context f s) (body_scope f s)).notes (body_right f among)
        (λ e. then_waits (params_of (size_of s) f.params (entered s)).notes _ (none e));
    stand = body_stands f;
    calls = body_calls_functions f among;
  }

  read_as : (waits : Bool) (x : ℕ) (f : CheckedFunction) → (r : IsFunctionOf file m x f) →
      (waits ≡ false → (known_of m file r.function).waits ≡ []) → IsText v waits f.body
  read_as waits x f r none = subst (λ (g : CheckedFunction). IsText v waits g.body) r.is (text_of waits r.function r.among none)

  -- ---- calls

  -- what a function's body calls is noted of it
  noted_calls : (f : Function) → Contains m.members (written_member.Function f) →
      (y : ℕ) → Contains (body_calls (function_of f s).tree.body) y → Contains (called_by (known_of m file f)) y
  noted_calls f among y c =
      let params = (params_of (size_of s) f.params (entered s)).notes in
      let body = stats_of f.body (function_context f s) (body_scope f s) in
      let all = called_by (known_of m file f) in
      All-contains (Contains all) (body_calls body.tree) y
      (laws.noted (leave_of all) (body_scope f s) (function_context f s) f.body
      (noted all body.notes (body_right f among) (λ z d. then_called params body.notes z d))) c

  noted_of : (x : ℕ) (f : CheckedFunction) → (r : IsFunctionOf file m x f) → (y : ℕ) → Contains (body_calls f.body) y →
      Contains (called_by (known_of m file r.function)) y
  noted_of x f r y c =
      noted_calls r.function r.among y (subst (λ (g : CheckedFunction). Contains (body_calls g.body) y) (sym r.is) c)

  -- a function that the processes reach doesn't wait
  reached_waits : (x : ℕ) (f : CheckedFunction) → (r : IsFunctionOf file m x f) → has (functions_in v) x ≡ true →
      (known_of m file r.function).waits ≡ []
  reached_waits x f r reached =
      let by = reached_called laws.least v x reached in
      let caller = laws.functions file m ms read by.caller by.function by.at in
      laws.called file m ms read caller.function r.function caller.among r.among
      (subst (λ n. Contains (called_by (known_of m file caller.function)) n) (sym r.number) (noted_of by.caller by.function caller x by.calls))

  -- ---- processes

  process_waits : (k : ProcessKind) (place x : ℕ) (f : CheckedFunction) (r : IsFunctionOf file m x f) (o : Option CheckedSetup) →
      slice_get v.setups place ≡ o → IsRegistration k x o → is_thread k ≡ false → (known_of m file r.function).waits ≡ []
  process_waits k place x f r None at is waits = absurd is
  process_waits k place x f r (Some (setup.Thread p q)) at is waits = absurd (thread k is.0 waits)
    where
      thread : (k : ProcessKind) → k ≡ process.Thread → is_thread k ≡ false → ⊥
      thread process.Thread e h = cc
      thread process.Method e h = cc
  process_waits k place x f r (Some (setup.Method p q)) at is waits =
      laws.methods file m ms read place p q r.function at r.among (r.number ∙ sym is.1) (subst (λ n. n < names_of m file) (sym is.1) r.within)
  process_waits k place x f r (Some (setup.Sensitive p es)) at is waits = absurd is
  process_waits k place x f r (Some (setup.DontInitialize p)) at is waits = absurd is
  process_waits k place x f r (Some (setup.Bind b)) at is waits = absurd is
  process_waits k place x f r (Some (setup.Set q e)) at is waits = absurd is

  -- ---- the module

  events_of : (place : ℕ) (at : Position) (es : List CheckedEvent) → slice_get v.setups place ≡ Some (setup.Sensitive at es) → AreEvents v es
  events_of place at es is =
      let r = laws.events file m ms read place at es is in record {
        scope = r.scope;
        text = r.text;
        is = r.is;
        notes = events_noted true (no_calls false) r.text r.scope r.right;
        stand = all_stand v r.scope s names_stand r.inside;
      }

  order : HasOrder v
  order = record {
    calls = edges_of m file;
    all = λ x y f at c.
        let r = laws.functions file m ms read x f at in
        subst (λ n. Contains (edges_of m file) (record { from = n; to = y })) r.number
        (laws.edges file m r.function y r.among (noted_of x f r y c));
    no_cycle = laws.no_cycle file m ms read;
  }

  pub module_fits : FitsText v
  module_fits = record {
    functions = λ x f reached at.
        let r = laws.functions file m ms read x f at in
        read_as false x f r (λ e. reached_waits x f r reached);
    processes = λ k place x f is at.
        let r = laws.functions file m ms read x f at in
        read_as (is_thread k) x f r (λ e. process_waits k place x f r (slice_get v.setups place) refl is e);
    sensitive = events_of;
    order = order;
  }
