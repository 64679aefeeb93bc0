-- What a call reads and writes.
use Rattle.std.specs.Prelude.{◌≡◌, ◌≢◌, ℕ, List, Option}
use Rattle.std.specs.Io.KnownBytes.{Appends}
use Rattle.ooo_sim.specs.declared.outcome.Failure.TheVariants as failure
use Rattle.ooo_sim.specs.declared.outcome.Outcome.{Outcome}
use Rattle.ooo_sim.specs.declared.outcome.Outcome.TheVariants.{Replied, Failed}
use Rattle.ooo_sim.specs.declared.outcome.Refusal.{Refusal}
use Rattle.ooo_sim.specs.declared.outcome.Verdict.{Verdict}
use Rattle.ooo_sim.specs.declared.outcome.Verdict.TheVariants.{Refused}
use Rattle.ooo_sim.specs.declared.reply.Reply.{Reply}
use Rattle.ooo_sim.specs.declared.request.Request.{Request}
use Rattle.ooo_sim.specs.Lines.{refusal_line}
use Rattle.ooo_sim.specs.Pumps.{AreFirst, GaveFirst, AppendsPrefix}
use Rattle.ooo_sim.specs.Replies.{IsReplyTo}
use Rattle.ooo_sim.specs.Requests.{bytes_wanted}

-- there are bytes that the request has read, which are the source's where it tells its bytes; a call that replied wrote a reply to the request from them, and says what that comes to; what any other wrote is a prefix of each such reply
pub record Wrote (request : Request) (rest : Option (List ℕ)) (outcome : Outcome) (old new : Option (List ℕ)) : Type 0 where
  pub read : List ℕ
  pub told : AreFirst (bytes_wanted request) rest read
  pub whole : (v : Verdict) → outcome ≡ Replied v → (r : Reply) × IsReplyTo request read r × (v ≡ r.verdict) × Appends old new r.text
  pub prefix : (r : Reply) → IsReplyTo request read r → AppendsPrefix old new r.text

-- a refusal that the call tells is the one whose line it wrote
abbrev pub TellsWhy : Outcome → (old new : Option (List ℕ)) → Type 0
TellsWhy outcome old new = (why : Refusal) → outcome ≡ Replied (Refused why) → Appends old new (refusal_line why)

-- a request that reads nothing leaves the source as it was; others take as much as they read, unless it failed or memory ran out
pub record Took {S : Type 0} (rest : S → Option (List ℕ)) (request : Request) (outcome : Outcome) (old new : S) : Type 0 where
  pub untouched : bytes_wanted request ≡ 0 → new ≡ old
  pub given : outcome ≢ Failed failure.Source → outcome ≢ Failed failure.OutOfMemory → GaveFirst (bytes_wanted request) (rest old) (rest new)
