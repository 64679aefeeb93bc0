-- The process of a clock fits its model, and its body calls nothing.
use Rattle.std.proofs.Common.{◌≡◌, ◌∙◌, refl, sym, ap, subst, ℕ, zero, suc, ◌<◌, ◌≤◌, List, [], ◌∷◌, ◌++◌, map, length, Bool, true, false, Some, None}
use Rattle.std.specs.Prelude.{All, IsSome, slice_get}
use Rattle.std.proofs.lemmas.List.Elements.{All-cons, All-nil}
use Rattle.ooo_time.specs.declared.time.Time.{Time}
use Rattle.ooo_time.specs.Scales.{greatest_time}
use Rattle.ooo_value.specs.declared.bound.ChannelKind.{ChannelKind}
use Rattle.ooo_value.specs.declared.bound.ChannelKind.TheVariants as channel
use Rattle.ooo_value.specs.declared.values.Value.{Value}
use Rattle.ooo_value.specs.declared.values.Value.TheVariants as value
use Rattle.ooo_code.specs.Sound.{Typed, signal_kind}
use Rattle.ooo_bound.specs.declared.expr.BoundExpr.{BoundExpr, fold-roll-BoundExpr}
use Rattle.ooo_bound.specs.declared.expr.BoundExpr.TheOpen as layer
use Rattle.ooo_bound.specs.declared.expr.BoundExpr.TheVariants as bound
use Rattle.ooo_bound.specs.declared.model.Bound.{Bound}
use Rattle.ooo_bound.specs.declared.stat.BoundStat.{BoundStat, BoundStat-F, map-BoundStat, roll-BoundStat, fold-roll-BoundStat}
use Rattle.ooo_bound.specs.declared.stat.BoundStat.TheOpen as opened
use Rattle.ooo_bound.specs.declared.stat.BoundStat.TheVariants as stat
use Rattle.ooo_bound.specs.declared.stat.LinedSimple.{LinedSimple}
use Rattle.ooo_walk.specs.declared.state.ProcessForm.TheVariants.{Clock}
use Rattle.ooo_walk.specs.declared.state.WalkedChannel.{WalkedChannel}
use Rattle.ooo_walk.specs.declared.state.WalkedInstance.{WalkedInstance}
use Rattle.ooo_walk.specs.declared.state.WalkedProcess.{WalkedProcess}
use Rattle.ooo_walk.specs.Plans.{Filed}
use Rattle.ooo_walk.specs.Texts.{file_of, walk_of}
use Rattle.ooo_elaborate.specs.declared.processes.Model.{Model}
use Rattle.ooo_elaborate.specs.Bindings.{links_of}
use Rattle.ooo_elaborate.specs.Elaborated.{assembled, bound_channels, model_of}
use Rattle.ooo_elaborate.specs.Functions.{numbered}
use Rattle.ooo_elaborate.specs.Processes.{clock_body, clock_wait, clock_write, process_of, processes_of}
use Rattle.ooo_activation.specs.Kinds.{expression_kind, kind_step, joined, simples_step, simples_of, values_step, values_of, jumps_step, jumps_out, simples_in, values_in, calls_of, some_jumps_out}
use Rattle.ooo_activation.specs.Sound.{FitsExpr, FitsSimple, FitsBody, FitsProcess}
use Rattle.ooo_sound_walk.specs.Clocks.{IsClock, ClocksAreRight}
use Rattle.ooo_sound_model.specs.Clocks.{ClocksFit}
use Rattle.ooo_sound_model.proofs.Parts.{channel_at}
use Rattle.ooo_sound_model.proofs.Passed.{passed}

constant_fits : (b : Bound) (v : Value) → FitsExpr b (bound.Constant v)
unfolding expression_kind
constant_fits b v =
    subst IsSome (sym (ap (expression_kind b) (sym (bound.rolls-Constant v)) ∙ fold-roll-BoundExpr Typed (kind_step b) (layer.Constant v))) refl

-- ---- the forms of a clock's body

simples_at : (y : BoundStat-F BoundStat) (x : BoundStat) → roll-BoundStat y ≡ x →
    simples_of x ≡ simples_step (map-BoundStat BoundStat (List LinedSimple) simples_of y)
unfolding simples_of
simples_at y x is = ap simples_of (sym is) ∙ fold-roll-BoundStat (List LinedSimple) simples_step y

values_at : (y : BoundStat-F BoundStat) (x : BoundStat) → roll-BoundStat y ≡ x →
    values_of x ≡ values_step (map-BoundStat BoundStat (List BoundExpr) values_of y)
unfolding values_of
values_at y x is = ap values_of (sym is) ∙ fold-roll-BoundStat (List BoundExpr) values_step y

jumps_at : (y : BoundStat-F BoundStat) (x : BoundStat) → roll-BoundStat y ≡ x → jumps_out x ≡ jumps_step (map-BoundStat BoundStat Bool jumps_out y)
unfolding jumps_out
jumps_at y x is = ap jumps_out (sym is) ∙ fold-roll-BoundStat Bool jumps_step y

simple_is : (x : LinedSimple) → simples_of (stat.Simple x) ≡ x ∷ []
simple_is x = simples_at (opened.Simple x) _ (stat.rolls-Simple x)

no_values : (x : LinedSimple) → values_of (stat.Simple x) ≡ []
no_values x = values_at (opened.Simple x) _ (stat.rolls-Simple x)

joined_simples : (xs : List LinedSimple) → joined (map simples_of (map (λ x. stat.Simple x) xs)) ≡ xs
joined_simples [] = refl
joined_simples (x ∷ xs) = ap (λ ys. ys ++ joined (map simples_of (map (λ x. stat.Simple x) xs))) (simple_is x) ∙ ap (λ ys. x ∷ ys) (joined_simples xs)

joined_values : (xs : List LinedSimple) → joined (map values_of (map (λ x. stat.Simple x) xs)) ≡ []
joined_values [] = refl
joined_values (x ∷ xs) = ap (λ ys. ys ++ joined (map values_of (map (λ x. stat.Simple x) xs))) (no_values x) ∙ joined_values xs

-- a loop of simple statements
module _ (line : ℕ) (xs : List LinedSimple) (e : BoundExpr) where
  loop_simples : simples_in (stat.Do line (stat.Block (map (λ x. stat.Simple x) xs)) e ∷ []) ≡ xs ++ []
  loop_simples =
      let ss : List BoundStat = map (λ x. stat.Simple x) xs in
      ap (λ ys. ys ++ []) (simples_at (opened.Do line (stat.Block ss) e) _ (stat.rolls-Do line (stat.Block ss) e)
      ∙ simples_at (opened.Block ss) _ (stat.rolls-Block ss) ∙ joined_simples xs)

  loop_values : values_in (stat.Do line (stat.Block (map (λ x. stat.Simple x) xs)) e ∷ []) ≡ e ∷ []
  loop_values =
      let ss : List BoundStat = map (λ x. stat.Simple x) xs in
      ap (λ ys. ys ++ []) (values_at (opened.Do line (stat.Block ss) e) _ (stat.rolls-Do line (stat.Block ss) e)
      ∙ ap (λ ys. ys ++ e ∷ []) (values_at (opened.Block ss) _ (stat.rolls-Block ss) ∙ joined_values xs))

  loop_jumps : some_jumps_out (stat.Do line (stat.Block (map (λ x. stat.Simple x) xs)) e ∷ []) ≡ false
  loop_jumps =
      let ss : List BoundStat = map (λ x. stat.Simple x) xs in
      rw (jumps_at (opened.Do line (stat.Block ss) e) _ (stat.rolls-Do line (stat.Block ss) e)) refl

  loop_fits : (b : Bound) → All (λ x. FitsSimple b x.simple) (xs ++ []) → FitsExpr b e →
      FitsBody b (stat.Do line (stat.Block (map (λ x. stat.Simple x) xs)) e ∷ [])
  loop_fits b simples value = record {
    simples = subst (All (λ (x : LinedSimple). FitsSimple b x.simple)) (sym loop_simples) simples;
    values = subst (All (FitsExpr b)) (sym loop_values) (All-cons (FitsExpr b) e [] value (All-nil (FitsExpr b)));
    jumps = loop_jumps;
  }

-- ---- clocks

-- a clock's body, whose channel is a signal
body_fits : (b : Bound) (c : ℕ) (half : Time) (line : ℕ) → IsSome (signal_kind (slice_get b.channels c)) → half.0 ≤ greatest_time →
    FitsBody b (clock_body c half line)
body_fits b c half line signal within =
    let write : Bool → LinedSimple = λ up. record { line = line; simple = clock_write c up } in
    let wait : LinedSimple = record { line = line; simple = clock_wait half } in
    let P : LinedSimple → Type 0 = λ x. FitsSimple b x.simple in
    let waits : FitsSimple b (clock_wait half) = record { time = within; events_are = All-nil (λ (e : ℕ). e < length b.events) } in
    loop_fits line (write true ∷ wait ∷ write false ∷ wait ∷ []) (bound.Constant (value.Bool true)) b
    (All-cons P (write true) (wait ∷ write false ∷ wait ∷ []) (signal, constant_fits b _)
    (All-cons P wait (write false ∷ wait ∷ []) waits
    (All-cons P (write false) (wait ∷ []) (signal, constant_fits b _) (All-cons P wait [] waits (All-nil P)))))
    (constant_fits b _)

pub clock_calls : (c : ℕ) (half : Time) (line : ℕ) → calls_of (simples_in (clock_body c half line)) ≡ []
clock_calls c half line =
    let up : LinedSimple = record { line = line; simple = clock_write c true } in
    let down : LinedSimple = record { line = line; simple = clock_write c false } in
    let wait : LinedSimple = record { line = line; simple = clock_wait half } in
    ap calls_of (loop_simples line (up ∷ wait ∷ down ∷ wait ∷ []) (bound.Constant (value.Bool true)))

process_at : (f : Filed) (m : Model) (is : List WalkedInstance) (ps : List WalkedProcess) (p : ℕ) (x : WalkedProcess) → slice_get ps p ≡ Some x →
    slice_get (processes_of f m is ps) p ≡ Some (process_of f m is x.form)
process_at f m is [] p x h = absurd cc
process_at f m is (y ∷ ps) zero x h = let same : y ≡ x = cc in ap (λ (z : WalkedProcess). Some (process_of f m is z.form)) same
process_at f m is (y ∷ ps) (suc p) x h = process_at f m is ps p x h

is_a_signal : (cs : List WalkedChannel) (c : ℕ) (half : Time) → IsClock cs c half → IsSome (signal_kind (slice_get (bound_channels cs) c))
is_a_signal cs c half h =
    let d = h.channel in
    let k : signal_kind (Some d.bound) ≡ Some d.bound.value =
    ap (λ (j : ChannelKind). let t : Typed = elim j [ channel.Signal ↦ Some d.bound.value | channel.Fifo ↦ None ] in t) h.is_signal in
    subst IsSome (sym (ap signal_kind (channel_at cs c d h.there) ∙ k)) refl

pub clocks_fit : ClocksAreRight → ClocksFit
clocks_fit clocks u b is p x c half line process at form of =
    let w = walk_of u in
    let f = file_of u in
    let n = numbered f w.instances in
    let m = model_of w (links_of w) in
    let made = assembled f w (links_of w) n in
    let same : made ≡ b = (passed u b is).is in
    let clock = clocks u p x c half line at form in
    let there : slice_get made.processes p ≡ Some process = ap (λ (z : Bound). slice_get z.processes p) same ∙ of in
    let found : process_of f m n.instances (Clock c half line) ≡ process =
    let e : Some (process_of f m n.instances (Clock c half line)) ≡ Some process =
    sym (process_at f m n.instances w.processes p x at ∙ ap (λ g. Some (process_of f m n.instances g)) form) ∙ there in cc in
    subst (λ (z : Bound). FitsProcess z process) same
    (subst (FitsProcess made) found (record {
      body = body_fits made c half line (is_a_signal w.channels c half clock) clock.within;
      waits = λ e. absurd cc;
      events = All-nil (λ (e : ℕ). e < length made.events);
    }))
