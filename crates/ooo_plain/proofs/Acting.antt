-- A process runs from where it is.
use Rattle.std.proofs.Common.{◌≡◌, ℕ, ◌-◌, ◌==◌, eq-eqb, subst, [], ◌<◌, ◌≤◌, true, false, arith, List, Some, refl, sym, ap, ◌∙◌, get_or, map, set, length, ⊎_elim}
use Rattle.std.proofs.lemmas.List.{length-map, get_or-map, map-set, set-set}
use Rattle.std.proofs.lemmas.Option.{slice_get-get_or, slice_get_within, get_or_from_slice_get}
use Rattle.std.proofs.lemmas.List.Folds.{list_any_at}
use Rattle.std.proofs.lemmas.Bool.{cases_lt}
use Rattle.std.specs.Prelude.{slice_get, Contains}
use Rattle.std.specs.Global.{Vec}
use Rattle.ooo_value.specs.declared.values.Value.{Value}
use Rattle.ooo_code.specs.declared.activation.Frame.{Frame}
use Rattle.ooo_code.specs.declared.design.Design.{Design}
use Rattle.ooo_code.specs.declared.design.Proc.{Proc}
use Rattle.ooo_time.specs.declared.stamp.Stamp.{Stamp}
use Rattle.ooo_code.specs.declared.activation.Seen.{Seen}
use Rattle.ooo_code.specs.declared.segment.SegmentEntry.{SegmentEntry}
use Rattle.ooo_code.specs.Nodes.{by_nodes, entry_node}
use Rattle.ooo_code.specs.Outcomes.{Outcome}
use Rattle.ooo_code.specs.Segments.{Accesses, IsNodeOf, nodes_of}
use Rattle.ooo_code.specs.Sound.{IsSound, FitsProcess}
use Rattle.ooo_code.specs.Touches.{Touch}
use Rattle.ooo_interp.specs.declared.port.Port.{Port}
use Rattle.ooo_interp.specs.declared.doing.Emitted.{Emitted}
use Rattle.ooo_interp.specs.declared.doing.Halt.{Halt}
use Rattle.ooo_interp.specs.Acting.{entry_after, job_end}
use Rattle.ooo_interp.specs.Jobs.{activation_of, comes_to}
use Rattle.ooo_interp.specs.Ports.{all_shown}
use Rattle.ooo_meaning.specs.World.{World, view_of}
use Rattle.ooo_channels.specs.Operations.{Operations}
use Rattle.ooo_plain.specs.declared.engine.Process.{Process}
use Rattle.ooo_plain.specs.declared.engine.Engine.{Engine}
use Rattle.ooo_plain.specs.Laws.{Laws}
use Rattle.ooo_plain.specs.Seeing.{all_open}
use Rattle.ooo_plain.specs.Opening.{IsSeenIn, OpenFifos, readable_by}
use Rattle.ooo_plain.specs.Engine.{AreShownTo, Mirrors, Acts, frame_of, frames_of, no_frame, outcome_at}
use Rattle.ooo_plain.proofs.Seen.{is_named}
use Rattle.ooo_plain.specs.Shown.{one_of, shown_by}
use Rattle.ooo_plain.proofs.Holders.{entry_own, reach_own, node_at}
use Rattle.ooo_plain.proofs.Telling.{told}
use Rattle.ooo_plain.proofs.Viewing.{same_activation}
use Rattle.ooo_plain.proofs.Opening.{an_element}

pub seen_in : (design : Design) (e : Engine) (ops : Operations) (w : World) → Mirrors design e ops w → IsSeenIn design e.bank e.stamp ops w
seen_in design e ops w m = record { channels = m.of.channels; bank_is = m.bank; agrees = m.agrees; stamp = m.stamp; ends = m.stands.ends }

module _ (laws : Laws) (design : Design) (sound : IsSound design) (statements p : ℕ) (old : Engine) (lt : p < length design.processes) where
  pub process : Proc
  process = get_or design.processes p (an_element design.processes p lt)

  pub at_p : slice_get design.processes p ≡ Some process
  unfolding process
  at_p = slice_get-get_or design.processes p (an_element design.processes p lt) lt

  pub fits : FitsProcess design process
  unfolding process
  fits = sound.processes p (an_element design.processes p lt) lt

  module _ (w : World) (ops : Operations) (m : Mirrors design old ops w) where
    pub count : length old.processes.items ≡ length design.processes
    count = sym (length-map old.processes.items frame_of) ∙ m.stands.frames_count

    pub frame_at : (x : Process) → x ≡ get_or old.processes.items p x → get_or (frames_of old) p no_frame ≡ frame_of x
    frame_at x is = get_or-map frame_of old.processes.items p x no_frame (let c = count in omega (arith, c, lt)) ∙ ap frame_of (sym is)

    -- the names of the process's channels
    pub known : (names : Vec ℕ) → names ≡ get_or old.shown_channels.items p names → AreShownTo design process names.items
    known names is =
        subst (AreShownTo design process) (get_or-map (λ v. v.items) old.shown_channels.items p names [] (let c = m.shown_channels.count in let l = length-map old.shown_channels.items (λ v. v.items) in omega (arith, c, l, lt)) ∙ ap (λ v. v.items) (sym is))
        (m.shown_channels.each p process lt at_p)

    missing : (names : List ℕ) → AreShownTo design process names → (entry : SegmentEntry) → IsNodeOf process (entry_node design process entry)
        → (c : ℕ) (t : Touch) → Accesses design process entry t → shown_by (length design.channels) t ≡ one_of (length design.channels) c → is_named w.stamp.time w.channels c names ≡ false → length w.channels ≤ c
    missing names h entry own c t a shows e =
        ⊎_elim
        (λ below.
        let mine : IsNodeOf process a.number = reach_own design process fits (entry_node design process entry) a.number own a.within in
        let at : slice_get (nodes_of design process) (a.number - process.first) ≡ Some a.node = node_at design process a.number mine ∙ a.is in
        let one : Contains (nodes_of design process) a.node = (a.number - process.first, slice_get_within (nodes_of design process) (a.number - process.first) a.node at, get_or_from_slice_get (nodes_of design process) (a.number - process.first) a.node a.node at) in
        let n : Contains names c = (h.exact c).1 (told (length design.channels) design.events (nodes_of design process) a.node t c one a.touches shows below) in
        let yes : is_named w.stamp.time w.channels c names ≡ true = list_any_at (λ d. c == d) names n.0 c n.1 (eq-eqb c (get_or names n.0 c) (sym n.2)) in
        absurd (let no : true ≡ false = sym yes ∙ e in cc))
        (λ le. let a = m.agrees.channel_count in let b = ap length m.of.channels in omega (arith, le, a, b))
        (cases_lt c (length design.channels))

    -- what is lent is what the process sees
    pub lent_is : (x : Process) → x ≡ get_or old.processes.items p x → (names : Vec ℕ) → names ≡ get_or old.shown_channels.items p names → (ports : List Port) → all_shown (readable_by old.bank old.stamp) ports ≡ all_open w names.items
        → outcome_at design statements p (frames_of old) w ≡ activation_of design (record { process = p; entry = x.entry; stamp = old.stamp; statements = statements }) (record { slots = x.slots.items; variables = old.variables.items; seen = all_shown (readable_by old.bank old.stamp) ports })
    lent_is x is names named ports shows =
        let frame : Frame = frame_of x in
        let same : get_or (frames_of old) p no_frame ≡ frame = frame_at x is in
        let fits_entry = m.stands.entries p process frame at_p (slice_get-get_or (frames_of old) p no_frame (let a = m.stands.frames_count in omega (arith, a, lt)) ∙ ap Some same) in
        let own = entry_own design process fits frame.entry fits_entry in
        let opens = same_activation design sound p process at_p fits frame own w m.stands.ends names.items (missing names.items (known names named) frame.entry own) statements
        (λ a b agree. laws.reads design statements p process frame a b at_p agree) (λ a. laws.changes design statements p process frame a at_p) in
        ap (λ f. by_nodes design statements p f (view_of p w)) same ∙ opens
        ∙ view_same w.stamp old.stamp m.stamp w.variables old.variables.items m.variables (all_open w names.items) (all_shown (readable_by old.bank old.stamp) ports) (sym shows) frame frame refl
      where
        view_same : (s t : Stamp) → s ≡ t → (v u : List (List Value)) → v ≡ u → (a b : List Seen) → a ≡ b → (f g : Frame) → f ≡ g
            → by_nodes design statements p f (record { stamp = s; variables = v; seen = a }) ≡ by_nodes design statements p g (record { stamp = t; variables = u; seen = b })
        view_same s t e v u h a b k f g l = rw (e, h, k, l) refl

  -- ---- the engine after it

  module _ (x z : Process) (is : x ≡ get_or old.processes.items p x) (names : Vec ℕ) (named : names ≡ get_or old.shown_channels.items p names) (ports : List Port)
      (shows : (w : World) (ops : Operations) → IsSeenIn design old.bank old.stamp ops w → all_shown (readable_by old.bank old.stamp) ports ≡ all_open w names.items)
      (slots : Vec Value) (slots_is : slots ≡ x.slots) (variables : Vec (List Value)) (variables_is : variables ≡ old.variables) (lent_ports : List Port) (ports_is : lent_ports ≡ ports)
      (fifos : OpenFifos) (fifos_is : fifos ≡ record { bank = old.bank; at = old.stamp })
      (after_slots : Vec Value) (after_variables : Vec (List Value)) (after_seen : List Seen) (emitted : Emitted) (halt : Halt) (entry : SegmentEntry) (entry_is : entry ≡ entry_after x.entry halt)
      (does : activation_of design (record { process = p; entry = x.entry; stamp = old.stamp; statements = statements }) (record { slots = slots.items; variables = variables.items; seen = all_shown (readable_by fifos.bank fifos.at) lent_ports })
      ≡ comes_to x.entry emitted halt (record { slots = after_slots.items; variables = after_variables.items; seen = after_seen }))
      (new : Engine) (rest : new ≡ record old { processes = new.processes; variables = new.variables; ports = new.ports })
      (items : new.processes.items ≡ set (set old.processes.items p z) p (record { entry = entry; slots = after_slots })) (variables_new : new.variables ≡ after_variables) where
    came : List (List Value) → SegmentEntry → Outcome Frame
    came vs entry = record { deed = record { output = emitted.output.items; variables = vs; effects = emitted.effects.items; end = job_end halt }; next = record { entry = entry; slots = after_slots.items } }

    opened : OpenFifos
    opened = record { bank = old.bank; at = old.stamp }

    lent_by : Vec Value → Vec (List Value) → List Port → OpenFifos → Outcome Frame
    lent_by ss vs ps fs = activation_of design (record { process = p; entry = x.entry; stamp = old.stamp; statements = statements }) (record { slots = ss.items; variables = vs.items; seen = all_shown (readable_by fs.bank fs.at) ps })

    same : lent_by x.slots old.variables ports opened ≡ lent_by slots variables lent_ports fifos
    unfolding opened
    same =
        ap (λ ss. lent_by ss old.variables ports opened) (sym slots_is) ∙ ap (λ vs. lent_by slots vs ports opened) (sym variables_is) ∙ ap (λ ps. lent_by slots variables ps opened) (sym ports_is)
        ∙ ap (lent_by slots variables lent_ports) (sym fifos_is)

    pub acts : Acts design statements p old new emitted halt
    unfolding came lent_by opened
    acts = record {
      rest = rest;
      frame = record { entry = entry; slots = after_slots.items };
      frames = ap (map frame_of) (items ∙ set-set old.processes.items p z (record { entry = entry; slots = after_slots })) ∙ map-set frame_of old.processes.items p (record { entry = entry; slots = after_slots });
      does = λ w ops m.
          lent_is w ops m x is names named ports (shows w ops (seen_in design old ops w m))
          ∙ same ∙ does ∙ ap (λ vs. came vs (entry_after x.entry halt)) (ap (λ v. v.items) (sym variables_new)) ∙ ap (came new.variables.items) (sym entry_is);
    }
