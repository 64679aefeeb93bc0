-- The world after a deed.
use Rattle.std.proofs.Common.{◌≡◌, ℕ, zero, suc, ◌+◌, Bool, true, false, ◌||◌, List, [], ◌∷◌, ◌++◌, refl, ap, ◌∙◌, get_or, map, set, length, length-append, append-nil}
use Rattle.std.proofs.lemmas.List.Sums.{fold-append}
use Rattle.std.proofs.lemmas.Grind.{flat_map-append}
use Rattle.std.specs.List.{list_any}
use Rattle.ooo_time.specs.declared.stamp.Stamp.{Stamp}
use Rattle.ooo_value.specs.declared.values.Value.{Value}
use Rattle.ooo_code.specs.declared.activation.Effect.{Effect}
use Rattle.ooo_code.specs.declared.activation.Effect.TheVariants as effect
use Rattle.ooo_code.specs.Channels.{Channel, IsSignal, IsFifo, requested, put_into, taken_from}
use Rattle.ooo_code.specs.Outcomes.{Deed}
use Rattle.ooo_meaning.specs.World.{World, Made, no_channel, apply, apply_all, after_deed, wait_after, broken_by, place_of, view_of, last_stamp, zero_stamp}
use Rattle.ooo_plain.specs.Seeing.{ends_of}
use Rattle.ooo_plain.specs.Engine.{outputs_of, is_stop}

-- ---- effects

same_end : {A B : Type 0} (f : A → B) (g : A → A) → ((x : A) → f (g x) ≡ f x) → (xs : List A) (i : ℕ) (d : A) → map f (set xs i (g (get_or xs i d))) ≡ map f xs
same_end f g h [] i d = refl
same_end f g h (x ∷ xs) zero d = ap (λ y. y ∷ map f xs) (h x)
same_end f g h (x ∷ xs) (suc i) d = ap (λ ys. f x ∷ ys) (same_end f g h xs i d)

request_end : (v : Value) (x : Channel) → ends_of (requested v x) ≡ ends_of x
request_end v (IsSignal s) = refl
request_end v (IsFifo f) = refl

put_end : (v : Value) (x : Channel) → ends_of (put_into v x) ≡ ends_of x
put_end v (IsSignal s) = refl
put_end v (IsFifo f) = refl

take_end : (x : Channel) → ends_of (taken_from x) ≡ ends_of x
take_end (IsSignal s) = refl
take_end (IsFifo f) = refl

pub record Same (w v : World) : Type 0 where
  pub stamp : v.stamp ≡ w.stamp
  pub waits : v.waits ≡ w.waits
  pub made : v.made ≡ w.made
  pub ends : map ends_of v.channels ≡ map ends_of w.channels

apply_same : (w : World) (f : Effect) → Same w (apply w f)
apply_same w (effect.Request c v) = record { stamp = refl; waits = refl; made = refl; ends = same_end ends_of (requested v) (request_end v) w.channels c no_channel }
apply_same w (effect.Put c v) = record { stamp = refl; waits = refl; made = refl; ends = same_end ends_of (put_into v) (put_end v) w.channels c no_channel }
apply_same w (effect.Take c) = record { stamp = refl; waits = refl; made = refl; ends = same_end ends_of taken_from take_end w.channels c no_channel }
apply_same w (effect.Notify e k) = record { stamp = refl; waits = refl; made = refl; ends = refl }
apply_same w (effect.Cancel e) = record { stamp = refl; waits = refl; made = refl; ends = refl }
apply_same w effect.Stop = record { stamp = refl; waits = refl; made = refl; ends = refl }

all_same : (w : World) (fs : List Effect) → Same w (apply_all w fs)
all_same w [] = record { stamp = refl; waits = refl; made = refl; ends = refl }
all_same w (f ∷ fs) =
    let a = apply_same w f in
    let b = all_same (apply w f) fs in
    record { stamp = b.stamp ∙ a.stamp; waits = b.waits ∙ a.waits; made = b.made ∙ a.made; ends = b.ends ∙ a.ends }

or_same : (a b c : Bool) → (a || b || c) ≡ (a || (b || c))
or_same true b c = refl
or_same false b c = refl

or_false : (a : Bool) → a ≡ (a || false)
or_false true = refl
or_false false = refl

or_true : (a b : Bool) → (true || b) ≡ (a || (true || b))
or_true true b = refl
or_true false b = refl

stop_one : (w : World) (f : Effect) → (apply w f).stopped ≡ (w.stopped || is_stop f)
stop_one w (effect.Request c v) = or_false w.stopped
stop_one w (effect.Put c v) = or_false w.stopped
stop_one w (effect.Take c) = or_false w.stopped
stop_one w (effect.Notify e k) = or_false w.stopped
stop_one w (effect.Cancel e) = or_false w.stopped
stop_one w effect.Stop = go w.stopped where
  go : (b : Bool) → true ≡ (b || true)
  go true = refl
  go false = refl

stop_all : (w : World) (fs : List Effect) → (apply_all w fs).stopped ≡ (w.stopped || list_any is_stop fs)
stop_all w [] = or_false w.stopped
stop_all w (f ∷ fs) = stop_all (apply w f) fs ∙ ap (λ b. b || list_any is_stop fs) (stop_one w f) ∙ or_same w.stopped (is_stop f) (list_any is_stop fs)

-- ---- a deed

module _ (p : ℕ) (w : World) (d : Deed) where
  abbrev pub after : World
  after = after_deed p w d

  pub stamp_after : after.stamp ≡ w.stamp
  unfolding after_deed
  stamp_after = (all_same w d.effects).stamp

  pub waits_after : after.waits ≡ set w.waits p (wait_after w.stamp d.end)
  unfolding after_deed
  waits_after = refl

  pub variables_after : after.variables ≡ d.variables
  unfolding after_deed
  variables_after = refl

  pub broken_after : after.broken ≡ broken_by (place_of w.stamp p) d.end
  unfolding after_deed
  broken_after = refl

  pub stopped_after : after.stopped ≡ (w.stopped || list_any is_stop d.effects)
  unfolding after_deed
  stopped_after = stop_all w d.effects

  pub ends_after : map ends_of after.channels ≡ map ends_of w.channels
  unfolding after_deed
  ends_after = (all_same w d.effects).ends

  abbrev pub made_now : Made
  made_now = record { place = place_of w.stamp p; view = view_of p w; deed = d }

  made_after : after.made ≡ w.made ++ made_now ∷ []
  unfolding after_deed
  made_after = refl

  pub output_after : outputs_of after.made ≡ outputs_of w.made ++ d.output
  output_after = ap outputs_of made_after ∙ flat_map-append (λ (m : Made). m.deed.output) w.made (made_now ∷ []) ∙ ap (λ xs. outputs_of w.made ++ xs) (append-nil d.output)

  pub count_after : length after.made ≡ length w.made + 1
  count_after = ap length made_after ∙ length-append w.made (made_now ∷ [])

  pub last_after : last_stamp after.made ≡ w.stamp
  last_after = ap last_stamp made_after ∙ fold-append (λ (s : Stamp) (m : Made). m.place.stamp) zero_stamp w.made (made_now ∷ [])
