use Rattle.std.proofs.Common.{◌≡◌, ℕ, zero, suc, ◌<◌, ◌⊎◌, inl, inr, ⊎_elim, Bool, true, false, ◌&&◌, ◌||◌, ◌==◌, List, [], ◌∷◌, Option, Some, None, if◌then◌else◌, refl, sym, ap, ◌∙◌, subst, arith}
use Rattle.std.proofs.lemmas.Bool.{eqb-true, eq-eqb}
use Rattle.ooo_schedules.specs.Model.{In}
use Rattle.ooo_time.specs.declared.stamp.Stamp.{Stamp}
use Rattle.ooo_schedules.specs.Design.{Wait}
use Rattle.ooo_schedules.specs.Slots.{Notify}
use Rattle.ooo_time.specs.declared.time.Time.{Time}
use Rattle.ooo_time.specs.Stamps.{stamp_after}
use Rattle.ooo_code.specs.declared.activation.Effect.TheVariants as effect
use Rattle.ooo_meaning.specs.World.{zero_stamp}
use Rattle.ooo_schedules.specs.Delays.{one_delta}
use Rattle.ooo_schedules.specs.Program.{Program, Waits, own_calls, is_any, IsEdgeFor, Sound}
use Rattle.ooo_schedules.specs.Sequence.{Starts}
use Rattle.ooo_schedules.specs.Tables.{program}
use Rattle.ooo_schedules.specs.Example.{effects_of, left_of, process_of, start_of, example}
use Rattle.ooo_schedules.proofs.law.example_is_sound.Goals as goal

abbrev P : Program
P = program example

abbrev two : Time
two = record { 0 = 2 }

both : (a b : Bool) → (a && b) ≡ true → (a ≡ true) × (b ≡ true)
both true b e = (refl, e)
both false b e = absurd cc

either : (a b : Bool) → (a || b) ≡ true → (a ≡ true) ⊎ (b ≡ true)
either true b e = inl refl
either false b e = inr e

notified : (s : Stamp) (e g : ℕ) → is_any (own_calls s e [] (effects_of g)) ≡ true → ((g == 0) && (e == 0)) ≡ true
notified s e zero h = at (0 == e) refl h
  where
    at : (b : Bool) → (0 == e) ≡ b → is_any (if b then Notify (stamp_after s two) ∷ [] else []) ≡ true → ((0 == 0) && (e == 0)) ≡ true
    at true k h = eq-eqb e 0 (sym (eqb-true 0 e k))
    at false k h = absurd cc
notified s e (suc g) h = absurd cc

noted_is : (a : ℕ) (b : Time) (c : ℕ) (d : Time) → effect.Notify a b ≡ effect.Notify c d → (a ≡ c) × (b ≡ d)
noted_is a b c d e = (cc, cc)

own_edge : (s : Stamp) (g e : ℕ) (k : Time) (b : ℕ) → In (effect.Notify e k) (effects_of g) → ((b == 2) && (e == 0)) ≡ true → IsEdgeFor P g s k b
own_edge s zero e k b i w =
    ⊎_elim
    (λ h.
    let x = noted_is e k 0 two h in
    let y = eqb-true b 2 (both (b == 2) (e == 0) w).0 in
    subst (λ t. IsEdgeFor P 0 s t b) (sym x.1) (subst (IsEdgeFor P 0 s two) (sym y) (record { time = two; deltas = 0 }, (inl refl, inl (omega arith)), inr refl)))
    (λ h. absurd h) i
own_edge s (suc g) e k b i w = absurd i

is_zero : (a e : ℕ) → ((a == 0) && (e == 0)) ≡ true → a ≡ 0
is_zero a e h = eqb-true a 0 (both (a == 0) (e == 0) h).0

is_two : (a e : ℕ) → ((a == 2) && (e == 0)) ≡ true → a ≡ 2
is_two a e h = eqb-true a 2 (both (a == 2) (e == 0) h).0

mirrored : (a b : ℕ) → P.clash a b false ≡ true → P.clash b a false ≡ true
mirrored a b h =
    ⊎_elim
    (λ k. let x = both (a == 0) (b == 0) k in subst (λ t. P.clash t a false ≡ true) (sym (eqb-true b 0 x.1)) (subst (λ t. P.clash 0 t false ≡ true) (sym (eqb-true a 0 x.0)) refl))
    (λ k. absurd cc) (either ((a == 0) && (b == 0)) (false && ((a == 0) && (b == 2))) h)

next : (g n : ℕ) (t : Option Time) (es : List ℕ) → left_of g ≡ Waits n t es → (g ≡ 1) × (n ≡ 2) × (t ≡ None) × (es ≡ 0 ∷ [])
next zero n t es h = absurd cc
next (suc zero) n t es h = (refl, cc, cc, cc)
next (suc (suc g)) n t es h = absurd cc

start : (q : ℕ) (w : Wait Stamp) → start_of q ≡ Some w → (process_of w.segment ≡ q) × (w.events ≡ []) × (q < 2) × (w.since ≡ None) × (w.timeout ≡ Some zero_stamp)
start zero w h = let k = ap_some _ w h in (ap (λ x. process_of x.segment) (sym k), ap (λ x. x.events) (sym k), omega arith, ap (λ x. x.since) (sym k), ap (λ x. x.timeout) (sym k))
  where
    ap_some : (a b : Wait Stamp) → Some a ≡ Some b → a ≡ b
    ap_some a b e = cc
start (suc zero) w h = let k = ap_some _ w h in (ap (λ x. process_of x.segment) (sym k), ap (λ x. x.events) (sym k), omega arith, ap (λ x. x.since) (sym k), ap (λ x. x.timeout) (sym k))
  where
    ap_some : (a b : Wait Stamp) → Some a ≡ Some b → a ≡ b
    ap_some a b e = cc
start (suc (suc q)) w h = absurd cc

sound : Sound P
sound = record {
  notified = λ e x h. notified x.stamp e x.segment h;
  own_edge = λ x e k b o i w. own_edge x.stamp x.segment e k b i w;
  channel_edge = λ a e b n. absurd (n refl);
  one_maker = λ a b e n. absurd (n refl);
  own_clash = λ a b e o x y. subst (λ t. P.clash t b false ≡ true) (sym (is_zero a e x)) (subst (λ t. P.clash 0 t false ≡ true) (sym (is_zero b e y)) refl);
  wake_clash = λ a b e x y. subst (λ t. P.clash t b true ≡ true) (sym (is_zero a e x)) (subst (λ t. P.clash 0 t true ≡ true) (sym (is_two b e y)) refl);
  mirrored = mirrored;
  next = λ x n t es h. let k = next x.segment n t es h in ap process_of k.1 ∙ ap process_of (sym k.0);
  next_time = λ x n k es h. let y = next x.segment n (Some k) es h in let c : Some k ≡ None = y.2 in absurd cc;
  next_event = λ x n t es e h i. let y = next x.segment n t es h in subst (λ g. P.edges.Edge g (one_delta) n) (sym y.0) (subst (P.edges.Edge 1 (one_delta)) (sym y.1) (inr (inl refl), inr (omega arith)));
  next_waits = λ x n t es e h i. let y = next x.segment n t es h in subst (λ b. P.waits_on b e) (sym y.1) (⊎_elim (λ k. subst (P.waits_on 2) (sym k) refl) (λ k. absurd k) (subst (In e) y.3 i));
  start_owner = λ q w h. (start q w h).0;
  start_waits = λ q w e h i. let c : In e [] = subst (In e) (start q w h).1 i in absurd c;
  next_process = λ x n t es h. let y = next x.segment n t es h in subst (λ b. process_of b < 2) (sym y.1) (omega arith);
  starting = λ q w h. (start q w h).2;
}

starts : Starts P
starts = record {
  since = λ q w h. (start q w h).3;
  ready = λ q w u h t. let c : Some zero_stamp ≡ Some u = sym (start q w h).4 ∙ t in cc;
  limit = omega arith;
}

pub returns : goal.returns
returns c = record { sound = sound; starts = starts }
