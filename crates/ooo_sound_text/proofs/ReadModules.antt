-- What is so of each module that is read without breaches.
use Rattle.std.proofs.Common.{◌≡◌, ◌∙◌, sym, subst, ℕ, ◌<◌, List, [], ◌++◌, length, true, Some, None}
use Rattle.std.specs.Prelude.{slice_get}
use Rattle.std.proofs.lemmas.List.{length-replicate}
use Rattle.ooo_lexer.specs.declared.position.Position.{Position}
use Rattle.ooo_syntax.specs.declared.module.Module.{Module}
use Rattle.ooo_syntax.specs.declared.module.Setup.{Setup}
use Rattle.ooo_syntax.specs.declared.module.Setup.TheVariants as text
use Rattle.ooo_checked.specs.declared.denotation.Resolved.{Resolved}
use Rattle.ooo_checked.specs.declared.module.CheckedMember.{CheckedMember}
use Rattle.ooo_checked.specs.declared.module.CheckedSetup.{CheckedSetup}
use Rattle.ooo_checked.specs.declared.module.CheckedSetup.TheVariants as setup
use Rattle.ooo_checked.specs.declared.stat.CheckedEvent.{CheckedEvent}
use Rattle.ooo_checked.specs.Notes.{Note, all_notes, trees}
use Rattle.ooo_checked.specs.Scopes.{Scope, entered, size_of}
use Rattle.ooo_checked.specs.Stats.{events_of}
use Rattle.ooo_members.specs.declared.known.FunctionFacts.{FunctionFacts}
use Rattle.ooo_members.specs.declared.known.Sofar.{Sofar}
use Rattle.ooo_members.specs.Constructors.{after_process, in_module, setup_of}
use Rattle.ooo_members.specs.Declarations.{members_names}
use Rattle.ooo_members.specs.Known.{Modules, not_registered, with_process}
use Rattle.ooo_members.specs.Members.{functions_of, members_of}
use Rattle.ooo_members.specs.Turns.{Turn}
use Rattle.ooo_types.specs.Modules.{at_first, initialised_by}
use Rattle.ooo_types.specs.Processes.{functions_notes}
use Rattle.ooo_value.specs.declared.bound.ProcessKind.TheVariants as process
use Rattle.ooo_walk.specs.Plans.{constructor_from}
use Rattle.ooo_sound_text.specs.Modules.{IsInside, IsRead, names_of, scope_of, view_of}
use Rattle.ooo_sound_text.specs.Right.{AreRight}
use Rattle.ooo_sound_text.specs.Parts.{AreEventsOf, EventsAreOfText}
use Rattle.ooo_sound_text.specs.Waiting.{CalledDontWait, CallsAreEdges, MethodsDontWait, NoCallOnCycle, edges_of, known_of}
use Rattle.ooo_sound_text.proofs.Notes.{first_right, then_right}
use Rattle.ooo_sound_text.proofs.Setups.{IsSetUp, set_up}
use Rattle.ooo_sound_text.proofs.Turns.{IsMethod, members_lead, method_is, setup_leads}
use Rattle.ooo_sound_text.proofs.Waiting.{called_there, called_waits, each_right, edge, edges_acyclic, has_edge, has_edges, has_function, method_waits}

-- ---- a module that is read

-- its members
abbrev read_of : Modules → Module → (file : Scope) → Turn Sofar (List CheckedMember)
read_of modules m file =
    members_of modules m.name.name (initialised_by m.members (entered [])) (scope_of m file) m.members
    (at_first (names_of m file))

-- its functions
abbrev facts_in : Module → (file : Scope) → List FunctionFacts
facts_in m file = functions_of m.members (scope_of m file)

module _ (file : Scope) (m : Module) (ms : List CheckedMember) (read : IsRead file m ms) where
  abbrev members : Turn Sofar (List CheckedMember)
  members = read_of read.modules m file

  abbrev names_notes : List Note
  names_notes = (members_names (size_of file) m.members (entered file)).notes

  abbrev hanging : List Note
  hanging = functions_notes (edges_of m file) members.behind.registered (facts_in m file)

  members_right : AreRight members.notes
  members_right = then_right names_notes members.notes (first_right (names_notes ++ members.notes) hanging read.right)

  functions_right : AreRight hanging
  functions_right = then_right (names_notes ++ members.notes) hanging read.right

  -- what its constructor sets up
  set_up_here : (place : ℕ) (x : CheckedSetup) → slice_get (view_of ms).setups place ≡ Some x →
      IsSetUp read.modules (scope_of m file) members.behind.registered x
  set_up_here place x at =
      set_up read.modules m.name.name (initialised_by m.members (entered [])) (scope_of m file) m.members
      (at_first (names_of m file))
      members_right (constructor_from None 0 members.tree) place x
      (subst (λ cs. slice_get (view_of cs).setups place ≡ Some x) (sym read.is) at)

  -- each name has a registration
  registered_long : length members.behind.registered ≡ names_of m file
  registered_long =
      sym (members_lead read.modules m.name.name (initialised_by m.members (entered [])) (scope_of m file) m.members
      (at_first (names_of m file))).long
      ∙ length-replicate (names_of m file) not_registered

-- ---- calls

pub calls_are_edges : CallsAreEdges
calls_are_edges file m f y has calls =
    let known = known_of m file f in
    has_edges (facts_in m file) known (edge known.number y) (has_function m.members (scope_of m file) f has)
    (has_edge known.number known.calls y calls)

pub no_call_on_cycle : NoCallOnCycle
no_call_on_cycle file m ms read c has =
    edges_acyclic (edges_of m file) (members file m ms read).behind.registered (facts_in m file) c
    (functions_right file m ms read) has

-- ---- waits

pub called_dont_wait : CalledDontWait
called_dont_wait file m ms read f g has_f has_g calls =
    let es = edges_of m file in
    let rs = (members file m ms read).behind.registered in
    let known = known_of m file g in
    called_waits es rs known
    (each_right es rs (facts_in m file) known (functions_right file m ms read) (has_function m.members (scope_of m file) g has_g))
    (called_there es (known_of m file f).number known.number (calls_are_edges file m f known.number has_f calls))

same_method : (at at' : Position) (q r : Resolved) → setup.Method at q ≡ setup.Method at' r → q ≡ r
same_method at at' q r h = cc

-- a method that is set up is registered behind it
method_registered : (modules : Modules) (scope : Scope) (x : Setup) (before : Sofar) (at : Position) (r : Resolved) →
    (setup_of modules scope x before).tree ≡ setup.Method at r → AreRight (setup_of modules scope x before).notes →
    r.denotes.number < length before.registered → IsMethod (setup_of modules scope x before).behind.registered r.denotes.number
method_registered modules scope (text.Method at' w) before at r is right low =
    let same : in_module scope w ≡ r = same_method at' at (in_module scope w) r is in
    subst (λ (q : Resolved). q.denotes.number < length before.registered →
    IsMethod (with_process before.registered process.Method (in_module scope w).denotes) q.denotes.number) same
    (method_is before.registered (in_module scope w) right) low
method_registered modules scope _ before at r is right low = absurd cc

pub methods_dont_wait : MethodsDontWait
methods_dont_wait file m ms read place at r f there has same low =
    let es = edges_of m file in
    let rs = (members file m ms read).behind.registered in
    let known = known_of m file f in
    let x = set_up_here file m ms read place (setup.Method at r) there in
    let step = setup_leads read.modules x.scope x.text x.before in
    let long : length x.before.registered ≡ names_of m file = step.long ∙ x.leads.long ∙ registered_long file m ms read in
    let here : IsMethod rs r.denotes.number = x.leads.keeps r.denotes.number
    (method_registered read.modules x.scope x.text x.before at r x.is x.right
    (subst (λ n. r.denotes.number < n) (sym long) low)) in
    method_waits es rs known
    (each_right es rs (facts_in m file) known (functions_right file m ms read) (has_function m.members (scope_of m file) f has))
    (subst (IsMethod rs) (sym same) here)

-- ---- events

same_events : (at at' : Position) (xs ys : List CheckedEvent) → setup.Sensitive at xs ≡ setup.Sensitive at' ys → xs ≡ ys
same_events at at' xs ys h = cc

events_by : (file : Scope) (m : Module) (modules : Modules) (scope : Scope) (x : Setup) (before : Sofar) (at : Position)
    (es : List CheckedEvent) → IsInside scope (scope_of m file) → (setup_of modules scope x before).tree ≡ setup.Sensitive at es →
    AreRight (setup_of modules scope x before).notes → AreEventsOf file m es
events_by file m modules scope (text.Sensitive at' xs) before at es inside is right = record {
  scope = scope;
  text = xs;
  is = same_events at' at (trees (events_of true xs scope)) es is;
  right = then_right (after_process before at') (all_notes (events_of true xs scope)) right;
  inside = inside;
}
events_by file m modules scope _ before at es inside is right = absurd cc

pub events_are_of_text : EventsAreOfText
events_are_of_text file m ms read place at es there =
    let x = set_up_here file m ms read place (setup.Sensitive at es) there in
    events_by file m read.modules x.scope x.text x.before at es x.inside x.is x.right
