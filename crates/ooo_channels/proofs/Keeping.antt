-- Events that forget.
use Rattle.std.proofs.Common.{◌≡◌, Option, List, [], ◌∷◌, ◌++◌, refl, ap, sym, ◌∙◌}
use Rattle.ooo_time.specs.declared.stamp.Stamp.{Stamp}
use Rattle.ooo_time.specs.Stamps.{IsBefore}
use Rattle.ooo_events.specs.declared.call.Call.{Call}
use Rattle.ooo_events.specs.declared.call.Call.TheVariants.{Notify, Cancel}
use Rattle.ooo_events.specs.Events.{EventState, IsEventAfter, Remembers, event_after_call}
use Rattle.ooo_events.specs.Firings.{Fires, IsFirstAfter}
use Rattle.ooo_channels.specs.Kept.{IsEventKept}

-- no call forgets a firing
forgotten-after_call : (e : EventState) (c : Call) → (event_after_call e c).forgotten ≡ e.forgotten
forgotten-after_call e (Notify at delay) = refl
forgotten-after_call e (Cancel at) = refl

-- an event that forgets, and then has one more call, which forgets nothing
pub more_kept :
    (below : Stamp) (old mid new : EventState) (c : Call) (calls : List Call) → IsEventKept below old calls →
    IsEventAfter mid calls → ((s : Stamp) → Remembers old s → ¬ IsBefore s below → Remembers mid s) →
    (IsEventAfter mid calls → IsEventAfter new (calls ++ c ∷ [])) → new.forgotten ≡ mid.forgotten →
    IsEventKept below new (calls ++ c ∷ [])
more_kept below old mid new c calls kept after remembers more same = record {
  after = more after;
  remembers = λ s later f e. remembers s (kept.remembers s later) later f (sym same ∙ e);
}

-- the same, where the event is known exactly
pub call_kept :
    (below : Stamp) (old mid new : EventState) (c : Call) (calls : List Call) → IsEventKept below old calls →
    IsEventAfter mid calls → ((s : Stamp) → Remembers old s → ¬ IsBefore s below → Remembers mid s) →
    (IsEventAfter mid calls → IsEventAfter new (calls ++ c ∷ [])) →
    new ≡ (let made = event_after_call mid c in record made { spare = new.spare }) →
    IsEventKept below new (calls ++ c ∷ [])
call_kept below old mid new c calls kept after remembers more exact =
    more_kept below old mid new c calls kept after remembers more (ap (λ e. e.forgotten) exact ∙ forgotten-after_call mid c)

-- what an event that forgot answers
pub first_kept :
    (below : Stamp) (x : EventState) (calls : List Call) (since : Stamp) (first : Option Stamp) → IsEventKept below x calls → ¬ IsBefore since below →
    ((cs : List Call) → IsEventAfter x cs → Remembers x since → IsFirstAfter (Fires cs) since first) → IsFirstAfter (Fires calls) since first
first_kept below x calls since first kept later answers = answers calls kept.after (kept.remembers since later)
