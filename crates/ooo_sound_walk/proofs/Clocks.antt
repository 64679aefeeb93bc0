-- The processes of clocks write a signal of bool.
use Rattle.std.proofs.Common.{◌≡◌, ◌∙◌, refl, ap, subst, ℕ, zero, suc, ◌≤◌, List, [], ◌∷◌, ◌++◌, length, true, Some, ◌⊎◌, inl, inr}
use Rattle.std.specs.Prelude.{slice_get}
use Rattle.ooo_lemmas.proofs.Placed.{kept_at, at_end}
use Rattle.ooo_time.specs.declared.time.Time.{Time}
use Rattle.ooo_time.specs.Scales.{greatest_time}
use Rattle.ooo_value.specs.declared.bound.ChannelKind.TheVariants.{Signal}
use Rattle.ooo_value.specs.declared.kinds.Kind.TheVariants.{Bool}
use Rattle.ooo_walk.specs.declared.state.ProcessForm.TheVariants.{Clock}
use Rattle.ooo_walk.specs.declared.state.Walk.{Walk}
use Rattle.ooo_walk.specs.declared.state.WalkedChannel.{WalkedChannel}
use Rattle.ooo_walk.specs.declared.state.WalkedProcess.{WalkedProcess}
use Rattle.ooo_sound_walk.specs.Clocks.{IsClock, ClocksAreRight}
use Rattle.ooo_sound_walk.proofs.Walked.{IsKept, IsKeptBehind, walked}

abbrev AreClocks : List WalkedProcess → List WalkedChannel → Type 0
AreClocks ps cs = (p : ℕ) (x : WalkedProcess) (c : ℕ) (half : Time) (line : ℕ) → slice_get ps p ≡ Some x → x.form ≡ Clock c half line →
    IsClock cs c half

still_clock : (cs ds : List WalkedChannel) (c : ℕ) (half : Time) → IsClock cs c half → IsClock (cs ++ ds) c half
still_clock cs ds c half h = record {
  channel = h.channel;
  there = kept_at cs ds c h.channel h.there;
  is_signal = h.is_signal;
  of_bool = h.of_bool;
  within = h.within;
}

split_at : (xs : List WalkedProcess) (x : WalkedProcess) (k : ℕ) (y : WalkedProcess) → slice_get (xs ++ x ∷ []) k ≡ Some y →
    (slice_get xs k ≡ Some y) ⊎ (x ≡ y)
split_at [] x zero y h = inr cc
split_at [] x (suc k) y h = absurd cc
split_at (z ∷ xs) x zero y h = inl h
split_at (z ∷ xs) x (suc k) y h = split_at xs x k y h

-- a process more
with_one : (ps : List WalkedProcess) (cs : List WalkedChannel) (x : WalkedProcess) →
    ((c : ℕ) (half : Time) (line : ℕ) → x.form ≡ Clock c half line → IsClock cs c half) → AreClocks ps cs → AreClocks (ps ++ x ∷ []) cs
with_one ps cs x own h p y c half line at is = elim (split_at ps x p y at) [
  | inl old ↦ h p y c half line old is
  | inr new ↦ own c half line (ap (λ (z : WalkedProcess). z.form) new ∙ is)
]

more_channels : (ps : List WalkedProcess) (cs ds : List WalkedChannel) → AreClocks ps cs → AreClocks ps (cs ++ ds)
more_channels ps cs ds h p x c half line at is = still_clock cs ds c half (h p x c half line at is)

new_clock : (cs : List WalkedChannel) (d : WalkedChannel) (half other : Time) (c : ℕ) → length cs ≡ c → half ≡ other →
    d.bound.kind ≡ Signal → d.bound.value ≡ Bool → half.0 ≤ greatest_time → IsClock (cs ++ d ∷ []) c other
new_clock cs d half other c place same is_signal of_bool within = record {
  channel = d;
  there = subst (λ n. slice_get (cs ++ d ∷ []) n ≡ Some d) place (at_end cs d);
  is_signal = is_signal;
  of_bool = of_bool;
  within = subst (λ (t : Time). t.0 ≤ greatest_time) same within;
}

abbrev Right : Walk → Type 0
Right w = AreClocks w.processes w.channels

clocks_kept : IsKept Right
clocks_kept = record {
  quiet = record {
    refusal = λ w r h. h;
    objects = λ w n h. h;
    cells = λ w n h. h;
    file = λ w ms h. h;
    stop = λ w t h. h;
    opens_process = λ w k place function name h. with_one w.processes w.channels _ (λ c half line is. absurd cc) h;
    resets = λ w x b v at of h. h;
    binding = λ w b h. h;
  };
  here = λ w i h. h;
  variable = λ w x fits h. h;
  opens_channel = λ w b is_clock at name fits h. more_channels w.processes w.channels _ h;
  clock = λ w half line at name within h.
      let d : WalkedChannel = record {
        bound = record { kind = Signal; value = Bool; size = 0 };
        is_clock = true;
        first_event = length w.events;
        name = name;
        at = at;
      } in
      with_one w.processes (w.channels ++ d ∷ []) (record { form = Clock (length w.channels) half line; name = name }) (λ c other line' is.
      let place : length w.channels ≡ c = cc in
      let same : half ≡ other = cc in new_clock w.channels d half other c place same refl refl within) (more_channels w.processes w.channels (d ∷ []) h);
  port = λ w t at name h. h;
  opens_event = λ w h. h;
}

clocks_behind : IsKeptBehind Right
clocks_behind w i h = h

pub clocks_are_right : ClocksAreRight
clocks_are_right u = walked Right clocks_kept clocks_behind (λ p x c half line at is. absurd cc) u
