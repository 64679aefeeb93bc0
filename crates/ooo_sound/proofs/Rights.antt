-- What is noted of a text without breaches.
use Rattle.std.proofs.Common.{◌≡◌, refl, arith, ℕ, List, [], ◌∷◌, ◌++◌, map, Bool, true, false, Option, Some, None}
use Rattle.std.specs.Prelude.{Contains, not, if◌then◌else◌}
use Rattle.std.proofs.lemmas.List.Elements.{Contains-append_right}
use Rattle.ooo_lemmas.proofs.Each.{first_part, then_part}
use Rattle.ooo_lexer.specs.declared.position.Position.{Position}
use Rattle.ooo_syntax.specs.declared.leaves.Word.{Word}
use Rattle.ooo_syntax.specs.declared.stat.Event.{Event}
use Rattle.ooo_checked.specs.declared.breach.TypeBreach.{TypeBreach}
use Rattle.ooo_checked.specs.declared.breach.TypeBreach.TheVariants as what
use Rattle.ooo_checked.specs.declared.denotation.Resolved.{Resolved}
use Rattle.ooo_checked.specs.declared.denotation.Thing.{Thing}
use Rattle.ooo_checked.specs.declared.denotation.Thing.TheVariants as thing
use Rattle.ooo_checked.specs.Exprs.{name_notes, resolved}
use Rattle.ooo_checked.specs.Notes.{Note, Breaks, Calls, Waits, Triggers, breach_when, all_notes}
use Rattle.ooo_checked.specs.Scopes.{Scope}
use Rattle.ooo_checked.specs.Stats.{event_call_notes, event_meant, event_notes, event_of, events_of, is_call_of}
use Rattle.ooo_checked.specs.Things.{is_event, is_known}
use Rattle.ooo_bodies.specs.declared.notes.Call.{Call}
use Rattle.ooo_members.specs.Known.{calls_in, waits_in}
use Rattle.ooo_types.specs.Told.{breaches_in}
use Rattle.ooo_sound_model.specs.Naming.{Leave, MayAllBeNoted}
use Rattle.ooo_sound_model.specs.Written.{MayAllBeWritten}
use Rattle.ooo_sound_model.specs.Texts.{no_calls}
use Rattle.ooo_sound_text.specs.Right.{IsRight, AreRight}

-- a text without breaches is right
pub right : (ns : List Note) → breaches_in ns ≡ [] → AreRight ns
right [] none = tt
right (Breaks w at ∷ ns) none = absurd (some none)
  where
    some : record { what = w; at = at } ∷ breaches_in ns ≡ [] → ⊥
    some e = cc
right (Calls at f ∷ ns) none = (tt, right ns none)
right (Waits at ∷ ns) none = (tt, right ns none)
right (Triggers at ∷ ns) none = (tt, right ns none)

-- ---- bodies

-- what is noted may be written, where no wait is noted of what may not wait
pub written : (waits : Bool) (ns : List Note) → AreRight ns → (waits ≡ false → waits_in ns ≡ []) → MayAllBeWritten (no_calls waits) ns
written waits [] h none = tt
written waits (Breaks w at ∷ ns) h none = absurd h.0
written waits (Calls at f ∷ ns) h none = (tt, written waits ns h.1 none)
written true (Waits at ∷ ns) h none = (refl, written true ns h.1 (λ e. absurd cc))
written false (Waits at ∷ ns) h none = absurd (some (none refl))
  where
    some : at ∷ waits_in ns ≡ [] → ⊥
    some e = cc
written waits (Triggers at ∷ ns) h none = (tt, written waits ns h.1 none)

-- where the waits of two parts are none, so are those of the second
pub then_waits : (ms ns : List Note) → waits_in (ms ++ ns) ≡ [] → waits_in ns ≡ []
then_waits [] ns h = h
then_waits (Breaks w at ∷ ms) ns h = then_waits ms ns h
then_waits (Calls at f ∷ ms) ns h = then_waits ms ns h
then_waits (Waits at ∷ ms) ns h = absurd (some h)
  where
    some : at ∷ waits_in (ms ++ ns) ≡ [] → ⊥
    some e = cc
then_waits (Triggers at ∷ ms) ns h = then_waits ms ns h

-- the numbers of functions whose calls are noted
abbrev pub called_in : List Note → List ℕ
called_in ns = map (λ (c : Call). c.function) (calls_in ns)

abbrev pub leave_of : List ℕ → Leave
leave_of calls = record { calls = calls; functions = []; waits = true }

-- the calls that are noted may be noted where these functions may be called
pub noted : (all : List ℕ) (ns : List Note) → AreRight ns → ((y : ℕ) → Contains (called_in ns) y → Contains all y) →
    MayAllBeNoted (leave_of all) ns
noted all [] h among = tt
noted all (Breaks w at ∷ ns) h among = absurd h.0
noted all (Calls at f ∷ ns) h among =
    (among f (0, omega arith, refl), noted all ns h.1 (λ y c. among y (later f (called_in ns) y c)))
  where
    later : (x : ℕ) (xs : List ℕ) (y : ℕ) → Contains xs y → Contains (x ∷ xs) y
    later x xs y c = Contains-append_right (x ∷ []) xs y c
noted all (Waits at ∷ ns) h among = (refl, noted all ns h.1 among)
noted all (Triggers at ∷ ns) h among = (tt, noted all ns h.1 among)

-- the calls of a second part are among those of both
pub then_called : (ms ns : List Note) (y : ℕ) → Contains (called_in ns) y → Contains (called_in (ms ++ ns)) y
then_called [] ns y c = c
then_called (Breaks w at ∷ ms) ns y c = then_called ms ns y c
then_called (Calls at f ∷ ms) ns y c = Contains-append_right (f ∷ []) (called_in (ms ++ ns)) y (then_called ms ns y c)
then_called (Waits at ∷ ms) ns y c = then_called ms ns y c
then_called (Triggers at ∷ ms) ns y c = then_called ms ns y c

-- ---- events

-- only breaches are noted
abbrev Silent : List Note → Type 0
Silent ns = (l : Leave) → AreRight ns → MayAllBeNoted l ns

of_both : (l : Leave) (xs ys : List Note) → MayAllBeNoted l xs → MayAllBeNoted l ys → MayAllBeNoted l (xs ++ ys)
of_both l [] ys h g = g
of_both l (x ∷ xs) ys h g = (h.0, of_both l xs ys h.1 g)

when_silent : (b : Bool) (w : TypeBreach) (at : Position) → Silent (breach_when b w at)
when_silent true w at l h = absurd h.0
when_silent false w at l h = tt

name_silent : (t : Thing) (passes : Bool) (at : Position) → Silent (name_notes t passes at)
name_silent thing.Nothing passes at l h = absurd h.0
name_silent _ passes at l h = when_silent (not passes) what.WrongKind at l h

call_silent : (meant called : Bool) (at : Position) → Silent (event_call_notes meant called at)
call_silent true called at l h = tt
call_silent false true at l h = absurd h.0
call_silent false false at l h = absurd h.0

choice_silent : (b : Bool) (xs ys : List Note) → Silent xs → Silent ys → Silent (if b then xs else ys)
choice_silent true xs ys f g = f
choice_silent false xs ys f g = g

event_silent : (s : Bool) (r : Resolved) (call : Option Word) → Silent (event_notes s r call)
event_silent s r None = name_silent r.denotes.thing (is_event (event_meant s r.denotes.thing None)) r.word.position
event_silent s r (Some w) =
    choice_silent (is_known r.denotes.thing)
    (event_call_notes (is_event (event_meant s r.denotes.thing (Some w))) (is_call_of r.denotes.thing w.name) w.position)
    (Breaks what.UnknownName r.word.position ∷ [])
    (call_silent (is_event (event_meant s r.denotes.thing (Some w))) (is_call_of r.denotes.thing w.name) w.position)
    (λ l h. absurd h.0)

-- of events nothing but breaches is noted
pub events_noted : (s : Bool) (l : Leave) (es : List Event) (scope : Scope) → AreRight (all_notes (events_of s es scope)) →
    MayAllBeNoted l (all_notes (events_of s es scope))
events_noted s l [] scope h = tt
events_noted s l (e ∷ es) scope h =
    let here = (event_of s e scope).notes in
    let others = all_notes (events_of s es scope) in
    of_both l here others (event_silent s (resolved scope e.name) e.call l (first_part IsRight here others h))
    (events_noted s l es scope (then_part IsRight here others h))
