-- Which requests take workers.
use Rattle.std.proofs.Common.{◌≡◌, true, false, Result, Ok, Err, refl, sym, ap, ◌∙◌}
use Rattle.ooo_words.specs.declared.command.Command.{Command}
use Rattle.ooo_words.specs.declared.command.Command.TheVariants as command
use Rattle.ooo_words.specs.declared.refused.WordsError.{WordsError}
use Rattle.ooo_sim.specs.declared.request.Request.{Request}
use Rattle.ooo_sim.specs.Requests.{needs_workers, request_for, takes_workers}

needs_as_taken : (r : Result Command WordsError) → needs_workers (request_for r) ≡ takes_workers r
needs_as_taken (Err e) = refl
needs_as_taken (Ok (command.Plain options)) = refl
needs_as_taken (Ok (command.Run options workers)) = refl
needs_as_taken (Ok command.Check) = refl
needs_as_taken (Ok command.Tables) = refl
needs_as_taken (Ok (command.Bench stages items seed workers)) = refl

-- the command takes workers of which the request does
pub taken_as_needed : (r : Result Command WordsError) (q : Request) → q ≡ request_for r → needs_workers q ≡ true → takes_workers r ≡ true
taken_as_needed r q is needs = sym (needs_as_taken r) ∙ sym (ap needs_workers is) ∙ needs

-- what a command asks for that takes workers, only such a command does
pub not_alone : (r : Result Command WordsError) (q : Request) → q ≡ request_for r → needs_workers q ≡ false → takes_workers r ≡ true → ⊥
not_alone r q is none taken =
    let both : true ≡ false = sym taken ∙ sym (needs_as_taken r) ∙ sym (ap needs_workers is) ∙ none in absurd cc
