-- What is kept of the calls, waits and `next_trigger`s of one function.
use Rattle.std.proofs.Common.{◌≡◌, ◌∙◌, ap, sym, refl, ℕ, List, [], ◌∷◌, ◌++◌, drop, length, append_assoc}
use Rattle.std.proofs.lemmas.List.{append-nil}
use Rattle.std.proofs.Math.Seq.{drop-append_seam}
use Rattle.ooo_syntax.specs.declared.module.Function.{Function}
use Rattle.ooo_checked.specs.Notes.{Note, Breaks, Calls, Waits, Triggers}
use Rattle.ooo_checked.specs.Scopes.{Scope, meaning_of}
use Rattle.ooo_bodies.specs.declared.notes.Notes.{Notes}
use Rattle.ooo_bodies.specs.Noting.{noted, with_note}
use Rattle.ooo_members.specs.declared.known.FunctionFacts.{FunctionFacts}
use Rattle.ooo_members.specs.Bodies.{facts_of, function_of}
use Rattle.ooo_members.specs.Known.{calls_in, triggers_in, waits_in}

noted-calls : (n : Notes) (ns : List Note) → (noted n ns).calls ≡ n.calls ++ calls_in ns
noted-calls n [] = sym (append-nil n.calls)
noted-calls n (Breaks what at ∷ ns) = noted-calls (with_note n (Breaks what at)) ns
noted-calls n (Calls at function ∷ ns) =
    noted-calls (with_note n (Calls at function)) ns ∙ append_assoc n.calls (record { at = at; function = function } ∷ []) (calls_in ns)
noted-calls n (Waits at ∷ ns) = noted-calls (with_note n (Waits at)) ns
noted-calls n (Triggers at ∷ ns) = noted-calls (with_note n (Triggers at)) ns

noted-waits : (n : Notes) (ns : List Note) → (noted n ns).waits ≡ n.waits ++ waits_in ns
noted-waits n [] = sym (append-nil n.waits)
noted-waits n (Breaks what at ∷ ns) = noted-waits (with_note n (Breaks what at)) ns
noted-waits n (Calls at function ∷ ns) = noted-waits (with_note n (Calls at function)) ns
noted-waits n (Waits at ∷ ns) = noted-waits (with_note n (Waits at)) ns ∙ append_assoc n.waits (at ∷ []) (waits_in ns)
noted-waits n (Triggers at ∷ ns) = noted-waits (with_note n (Triggers at)) ns

noted-triggers : (n : Notes) (ns : List Note) → (noted n ns).triggers ≡ n.triggers ++ triggers_in ns
noted-triggers n [] = sym (append-nil n.triggers)
noted-triggers n (Breaks what at ∷ ns) = noted-triggers (with_note n (Breaks what at)) ns
noted-triggers n (Calls at function ∷ ns) = noted-triggers (with_note n (Calls at function)) ns
noted-triggers n (Waits at ∷ ns) = noted-triggers (with_note n (Waits at)) ns
noted-triggers n (Triggers at ∷ ns) =
    noted-triggers (with_note n (Triggers at)) ns ∙ append_assoc n.triggers (at ∷ []) (triggers_in ns)

-- what is behind a list is left of both
behind : {A : Type 0} (xs ys zs : List A) (n : ℕ) → n ≡ length xs → zs ≡ xs ++ ys → drop n zs ≡ ys
behind xs ys zs n e is = rw (e, is) (drop-append_seam xs ys)

-- what is noted since a function began is what has to be known of it
pub facts_known : (f : Function) (s : Scope) (n m : Notes) (number calls waits triggers : ℕ) (facts : FunctionFacts) →
    number ≡ (meaning_of s f.name.name).number → calls ≡ length n.calls → waits ≡ length n.waits →
    triggers ≡ length n.triggers → m ≡ noted n (function_of f s).notes → facts ≡ record {
      number = number;
      calls = drop calls m.calls;
      waits = drop waits m.waits;
      triggers = drop triggers m.triggers;
    } → facts ≡ facts_of f s
facts_known f s n m number calls waits triggers facts same is_calls is_waits is_triggers is made =
    let ns : List Note = (function_of f s).notes in
    rw (
      made,
      same,
      behind n.calls (calls_in ns) m.calls calls is_calls (ap (λ k. k.calls) is ∙ noted-calls n ns),
      behind n.waits (waits_in ns) m.waits waits is_waits (ap (λ k. k.waits) is ∙ noted-waits n ns),
      behind n.triggers (triggers_in ns) m.triggers triggers is_triggers (ap (λ k. k.triggers) is ∙ noted-triggers n ns),
    )
    refl
