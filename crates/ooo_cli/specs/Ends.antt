-- With which number the program ends.
use Rattle.std.specs.Prelude.{◌≡◌, ℕ, List}
use Rattle.ooo_sim.specs.Replies.{IsReply}
use Rattle.ooo_sim.specs.declared.outcome.Outcome.{Outcome}
use Rattle.ooo_sim.specs.declared.outcome.Outcome.TheVariants.{Replied}
use Rattle.ooo_sim.specs.declared.outcome.Verdict.{Verdict}
use Rattle.ooo_sim.specs.declared.reply.Reply.{Reply}

-- an outcome that is no failure is what a reply to the words, from some bytes, comes to
abbrev pub IsOfReply : List (List ℕ) → Outcome → Type 0
IsOfReply words outcome = (v : Verdict) → outcome ≡ Replied v
    → (read : List ℕ) × (r : Reply) × IsReply words read r × (v ≡ r.verdict)
