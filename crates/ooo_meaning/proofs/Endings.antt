-- The sequential run of a design has a history for each channel, and its ending speaks of no process but those of the design.
use Rattle.std.proofs.Common.{◌≡◌, ℕ, zero, suc, ◌+◌, ◌≤◌, List, [], ◌∷◌, length, refl, ap, ◌∙◌, arith, replicate}
use Rattle.std.proofs.lemmas.List.{length-replicate}
use Rattle.ooo_value.specs.declared.bound.BoundChannel.{BoundChannel}
use Rattle.ooo_code.specs.declared.activation.Frame.{Frame}
use Rattle.ooo_code.specs.declared.design.Design.{Design}
use Rattle.ooo_code.specs.declared.limits.Limits.{Limits}
use Rattle.ooo_code.specs.Nodes.{by_nodes}
use Rattle.ooo_history.specs.declared.run.Entry.{Entry}
use Rattle.ooo_meaning.specs.Runs.{first_channels, start_of, numbers_from, ascending, IsSequentialRun}
use Rattle.ooo_meaning.specs.Sequence.{Result}
use Rattle.ooo_meaning.specs.Endings.{RunsHaveHistories, EndingsAreNamed}
use Rattle.ooo_meaning.proofs.Named.{AllBelow, Good, GoodResult, whole_good}

-- as a run starts, there are as many channels as the design has
as_many_channels : (design : Design) (c : ℕ) (xs : List BoundChannel) → length (first_channels design c xs) ≡ length xs
as_many_channels design c [] = refl
as_many_channels design c (x ∷ xs) = ap suc (as_many_channels design (c + 1) xs)

-- so many numbers from p on are below what p and their count reach
numbers_below : (m p n : ℕ) → p + n ≤ m → AllBelow m (numbers_from p n)
numbers_below m p zero le = tt
numbers_below m p (suc n) le = (omega arith, numbers_below m (p + 1) n (omega arith))

start_good : (design : Design) (names : List (List ℕ)) → Good names (length design.channels) (start_of design).world
start_good design names =
    let channels = first_channels design 0 design.channels in
    let as_many = as_many_channels design 0 design.channels in
    record { histories = length-replicate {A = List Entry} (length channels) [] ∙ as_many; broken = tt }

run_is_good : (design : Design) (limits : Limits) (r : Result) (names : List (List ℕ)) → IsSequentialRun design limits r →
    length names ≡ length design.processes → GoodResult names (length design.channels) r
run_is_good design limits r names h same =
    let below = numbers_below (length names) 0 (length design.processes) (omega arith) in
    whole_good Frame (by_nodes design limits.statements) names (length design.channels) (ascending design) limits below
    h.cycles (start_of design) r (start_good design names) h.is

pub runs_have_histories : RunsHaveHistories
runs_have_histories design limits r h =
    let n = length design.processes in
    (run_is_good design limits r (replicate n []) h (length-replicate {A = List ℕ} n [])).histories

pub endings_are_named : EndingsAreNamed
endings_are_named design limits r names h same = (run_is_good design limits r names h same).ending
