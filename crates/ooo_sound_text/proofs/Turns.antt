-- How processes are registered, one part of a module after the other: what is registered as a method stays so.
use Rattle.std.proofs.Common.{◌≡◌, ◌∙◌, refl, sym, ap, subst, ℕ, ◌<◌, List, [], ◌∷◌, length, true, None, inl, inr}
use Rattle.std.specs.Prelude.{◌==◌, slice_set, if◌then◌else◌}
use Rattle.std.proofs.lemmas.Bool.{cases_eq, cases_lt}
use Rattle.std.proofs.lemmas.List.{get_or-set_same, get_or-set_other, length-set, set_past}
use Rattle.std.proofs.lemmas.Option.{unwrap_or-slice_get}
use Rattle.ooo_value.specs.declared.bound.ProcessKind.{ProcessKind}
use Rattle.ooo_value.specs.declared.bound.ProcessKind.TheVariants as process
use Rattle.ooo_syntax.specs.declared.module.Constructor.{Constructor}
use Rattle.ooo_syntax.specs.declared.module.Constructor.TheVariants as constructor
use Rattle.ooo_syntax.specs.declared.module.Member.{Member}
use Rattle.ooo_syntax.specs.declared.module.Member.TheVariants as member
use Rattle.ooo_syntax.specs.declared.module.Setup.{Setup}
use Rattle.ooo_syntax.specs.declared.module.Setup.TheVariants as setup
use Rattle.ooo_checked.specs.declared.breach.TypeBreach.TheVariants as what
use Rattle.ooo_checked.specs.declared.denotation.Denotation.{Denotation}
use Rattle.ooo_checked.specs.declared.denotation.Resolved.{Resolved}
use Rattle.ooo_checked.specs.declared.denotation.Thing.{Thing}
use Rattle.ooo_checked.specs.declared.denotation.Thing.TheVariants as thing
use Rattle.ooo_checked.specs.Notes.{Note, Breaks, breach_when}
use Rattle.ooo_checked.specs.Scopes.{Scope, entered}
use Rattle.ooo_members.specs.declared.known.Registration.{Registration}
use Rattle.ooo_members.specs.declared.known.Sofar.{Sofar}
use Rattle.ooo_members.specs.Constructors.{constructor_of, head_of, in_module, process_notes, setup_of, setups_of}
use Rattle.ooo_members.specs.Known.{Modules, Registered, not_registered, is_process, registered_as, registration_at, with_process}
use Rattle.ooo_members.specs.Members.{member_of, members_of}
use Rattle.ooo_sound_text.specs.Right.{AreRight}

-- ---- registrations

-- the function of this number is registered as a method
abbrev pub IsMethod : Registered → ℕ → Type 0
IsMethod rs n = (registration_at rs n).as_method ≡ true

-- registrations lead to others: of the same names, and what is a method stays one
pub record Leads (rs qs : Registered) : Type 0 where
  pub keeps : (n : ℕ) → IsMethod rs n → IsMethod qs n
  pub long : length rs ≡ length qs

pub stays : (rs : Registered) → Leads rs rs
stays rs = record { keeps = λ n h. h; long = refl }

pub leads_on : (rs qs ps : Registered) → Leads rs qs → Leads qs ps → Leads rs ps
leads_on rs qs ps a b = record { keeps = λ n h. b.keeps n (a.keeps n h); long = a.long ∙ b.long }

-- ---- one registration more

-- how a function is registered that was registered now
at_set : (rs : Registered) (n : ℕ) (r : Registration) → n < length rs → registration_at (slice_set rs n r) n ≡ r
at_set rs n r low = unwrap_or-slice_get (slice_set rs n r) n not_registered ∙ get_or-set_same rs n r not_registered low

-- another one is registered as before
at_other : (rs : Registered) (n k : ℕ) (r : Registration) → (k ≡ n → ⊥) →
    registration_at (slice_set rs n r) k ≡ registration_at rs k
at_other rs n k r other =
    unwrap_or-slice_get (slice_set rs n r) k not_registered ∙ get_or-set_other rs n k r not_registered other
    ∙ sym (unwrap_or-slice_get rs k not_registered)

-- a method stays one by one word more
still : (k : ProcessKind) (r : Registration) → r.as_method ≡ true → (registered_as k r).as_method ≡ true
still process.Thread r h = h
still process.Method r h = refl

module _ (rs : Registered) (k : ProcessKind) (n : ℕ) where
  -- with the function of this number
  abbrev more : Registered
  more = slice_set rs n (registered_as k (registration_at rs n))

  same_keeps : IsMethod rs n → IsMethod more n
  same_keeps h = elim (cases_lt n (length rs)) [
    | inl low ↦ ap (λ (r : Registration). r.as_method) (at_set rs n (registered_as k (registration_at rs n)) low)
        ∙ still k (registration_at rs n) h
    | inr high ↦ ap (λ qs. (registration_at qs n).as_method) (set_past rs n (registered_as k (registration_at rs n)) high) ∙ h
  ]

  more_leads : Leads rs more
  more_leads = record {
    keeps = λ i h. elim (cases_eq i n) [
      | inl same ↦ subst (IsMethod more) (sym same) (same_keeps (subst (IsMethod rs) same h))
      | inr other ↦ ap (λ (r : Registration). r.as_method) (at_other rs n i (registered_as k (registration_at rs n)) other) ∙ h
    ];
    long = sym (length-set rs n (registered_as k (registration_at rs n)));
  }

-- by what its name denotes
abbrev with_process_by : Registered → ProcessKind → ℕ → Thing → Registered
with_process_by rs k n t = elim t [
  | thing.Function gives params ↦ slice_set rs n (registered_as k (registration_at rs n))
  | _ ↦ rs
]

by_thing : (rs : Registered) (k : ProcessKind) (n : ℕ) (t : Thing) → Leads rs (with_process_by rs k n t)
by_thing rs k n (thing.Function gives params) = more_leads rs k n
by_thing rs k n _ = stays rs

pub process_leads : (rs : Registered) (k : ProcessKind) (d : Denotation) → Leads rs (with_process rs k d)
process_leads rs k d = by_thing rs k d.number d.thing

-- what is noted of a process, by what its name denotes
abbrev process_notes_by : Registered → Resolved → Thing → List Note
process_notes_by rs r t = elim t [
  | thing.Nothing ↦ Breaks what.UnknownName r.word.position ∷ []
  | thing.Function None params ↦ if params == 0
      then breach_when (is_process (registration_at rs r.denotes.number)) what.DeclaredTwice r.word.position
      else Breaks what.WrongKind r.word.position ∷ []
  | _ ↦ Breaks what.WrongKind r.word.position ∷ []
]

method_by : (rs : Registered) (r : Resolved) (t : Thing) → AreRight (process_notes_by rs r t) → r.denotes.number < length rs →
    IsMethod (with_process_by rs process.Method r.denotes.number t) r.denotes.number
method_by rs r (thing.Function gives params) h low =
    ap (λ (q : Registration). q.as_method)
    (at_set rs r.denotes.number (registered_as process.Method (registration_at rs r.denotes.number)) low)
method_by rs r _ h low = absurd h.0

-- what is registered as a method is one
pub method_is : (rs : Registered) (r : Resolved) → AreRight (process_notes rs r) → r.denotes.number < length rs →
    IsMethod (with_process rs process.Method r.denotes) r.denotes.number
method_is rs r h low = method_by rs r r.denotes.thing h low

-- ---- parts

module _ (ms : Modules) where
  pub setup_leads : (inside : Scope) (x : Setup) (before : Sofar) →
      Leads before.registered (setup_of ms inside x before).behind.registered
  setup_leads inside (setup.Thread at w) before = process_leads before.registered process.Thread (in_module inside w).denotes
  setup_leads inside (setup.Method at w) before = process_leads before.registered process.Method (in_module inside w).denotes
  setup_leads inside _ before = stays before.registered

  pub setups_lead : (inside : Scope) (xs : List Setup) (before : Sofar) →
      Leads before.registered (setups_of ms inside xs before).behind.registered
  setups_lead inside [] before = stays before.registered
  setups_lead inside (x ∷ xs) before =
      let first = (setup_of ms inside x before).behind in
      leads_on before.registered first.registered (setups_of ms inside xs first).behind.registered (setup_leads inside x before)
      (setups_lead inside xs first)

module _ (ms : Modules) (module_name : List ℕ) (initialised s : Scope) where
  pub constructor_leads : (c : Constructor) (before : Sofar) →
      Leads before.registered (constructor_of ms module_name s c before).behind.registered
  constructor_leads (constructor.Named w inits xs) before = setups_lead ms (entered s) xs before
  constructor_leads (constructor.Written w own_name params inits xs) before =
      setups_lead ms (head_of own_name params s).scope xs before

  pub member_leads : (m : Member) (before : Sofar) →
      Leads before.registered (member_of ms module_name initialised s m before).behind.registered
  member_leads (member.Constructor c) before = constructor_leads c before
  member_leads _ before = stays before.registered

  pub members_lead : (members : List Member) (before : Sofar) →
      Leads before.registered (members_of ms module_name initialised s members before).behind.registered
  members_lead [] before = stays before.registered
  members_lead (m ∷ members) before =
      let first = (member_of ms module_name initialised s m before).behind in
      leads_on before.registered first.registered (members_of ms module_name initialised s members first).behind.registered
      (member_leads m before) (members_lead members first)
