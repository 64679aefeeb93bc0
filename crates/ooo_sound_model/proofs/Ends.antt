-- One writer of each signal, and one holder of each end of a fifo, where no channel is refused.
use Rattle.std.proofs.Common.{◌≡◌, ◌∙◌, refl, ap, sym, subst, arith, ℕ, zero, suc, ◌+◌, ◌<◌, List, [], ◌∷◌, length, replicate, Option, Some, None, inl, inr}
use Rattle.std.specs.Prelude.{slice_get, ⊤}
use Rattle.std.specs.List.{AllByRecursion}
use Rattle.std.proofs.lemmas.List.Elements.{All-from_recursion, recursion_from_All, All-contains}
use Rattle.std.proofs.lemmas.Option.{slice_get_within}
use Rattle.ooo_lemmas.proofs.Placed.{inside}
use Rattle.ooo_lemmas.proofs.Each.{first_part, then_part}
use Rattle.ooo_code.specs.Touches.{Touch, WritesSignal, HoldsReading, HoldsWriting}
use Rattle.ooo_bound.specs.declared.model.Bound.{Bound}
use Rattle.ooo_bound.specs.declared.model.BoundFunction.{BoundFunction}
use Rattle.ooo_bound.specs.declared.model.BoundProcess.{BoundProcess}
use Rattle.ooo_bound.specs.declared.stat.BoundStat.{BoundStat}
use Rattle.ooo_bound.specs.declared.stat.LinedSimple.{LinedSimple}
use Rattle.ooo_constants.specs.declared.meaning.Meaning.{Meaning}
use Rattle.ooo_constants.specs.declared.meaning.Meaning.TheVariants as meaning
use Rattle.ooo_walk.specs.declared.refusal.ElabBreach.{ElabBreach}
use Rattle.ooo_walk.specs.declared.refusal.ElabBreach.TheVariants as what
use Rattle.ooo_walk.specs.declared.refusal.Refusal.{Refusal}
use Rattle.ooo_walk.specs.declared.state.ProcessForm.{ProcessForm}
use Rattle.ooo_walk.specs.declared.state.Walk.{Walk}
use Rattle.ooo_walk.specs.declared.state.WalkedChannel.{WalkedChannel}
use Rattle.ooo_walk.specs.declared.state.WalkedInstance.{WalkedInstance}
use Rattle.ooo_walk.specs.declared.state.WalkedProcess.{WalkedProcess}
use Rattle.ooo_walk.specs.Plans.{Filed}
use Rattle.ooo_elaborate.specs.declared.functions.Numbered.{Numbered}
use Rattle.ooo_elaborate.specs.declared.holders.Held.{Held}
use Rattle.ooo_elaborate.specs.declared.holders.Holders.{Holders}
use Rattle.ooo_elaborate.specs.Elaborated.{held_in, own_holds, process_functions, process_holds, process_members, processes_hold}
use Rattle.ooo_elaborate.specs.Ends.{body_holds}
use Rattle.ooo_elaborate.specs.Holders.{found_holds, functions_hold, meant_holds, first_of, channel_refusal, holders_refusal, name_in, refusal_at, refusal_by}
use Rattle.ooo_elaborate.specs.Holding.{not_held}
use Rattle.ooo_activation.specs.Kinds.{simples_in, calls_of, simple_calls}
use Rattle.ooo_activation.specs.Sound.{Uses}
use Rattle.ooo_activation.specs.Touches.{Called, Callees, body_touches, called_by, callees_within, process_touches}
use Rattle.ooo_sound_model.specs.Ends.{IsMeant, CallsMeant, IsClosed, AreClosed, EndsAreOfOne}
use Rattle.ooo_sound_model.proofs.Grown.{Among, Covered, Grows, HoldsReader, HoldsWriter, stays, grows_on}
use Rattle.ooo_sound_model.proofs.Collected.{body_step}

-- ---- lists

all_trivial : {A : Type 0} (xs : List A) → AllByRecursion (λ x. ⊤) xs
all_trivial [] = tt
all_trivial (x ∷ xs) = (tt, all_trivial xs)

all_calls_trivial : (xs : List LinedSimple) → AllByRecursion (λ x. AllByRecursion (λ g. ⊤) (simple_calls x.simple)) xs
all_calls_trivial [] = tt
all_calls_trivial (x ∷ xs) = (all_trivial (simple_calls x.simple), all_calls_trivial xs)

split_calls : (I : ℕ → Type 0) (xs : List LinedSimple) → AllByRecursion I (calls_of xs) →
    AllByRecursion (λ x. AllByRecursion I (simple_calls x.simple)) xs
split_calls I [] h = tt
split_calls I (x ∷ xs) h =
    (first_part I (simple_calls x.simple) (calls_of xs) h, split_calls I xs (then_part I (simple_calls x.simple) (calls_of xs) h))

-- a body more is collected
body_grows : (p : ℕ) (xs : List BoundStat) (hs : List Held) → Grows hs (body_holds p xs hs)
body_grows p xs hs =
    (body_step p (λ fs. ⊤) [] (λ g. None) (λ g. ⊤) (λ fs k g i f is. absurd cc) xs (all_calls_trivial (simples_in xs)) hs).grows

-- ---- the functions that a process reaches

module _ (p : ℕ) (functions : List BoundFunction) (ms : List Meaning) where
  found_grows : (o : Option BoundFunction) (hs : List Held) → Grows hs (found_holds p o hs)
  found_grows None hs = stays hs
  found_grows (Some f) hs = body_grows p f.body hs

  meant_grows : (m : Option Meaning) (hs : List Held) → Grows hs (meant_holds p functions m hs)
  meant_grows (Some (meaning.Function g)) hs = found_grows (slice_get functions g) hs
  meant_grows (Some (meaning.Variable x)) hs = stays hs
  meant_grows (Some (meaning.Constant v)) hs = stays hs
  meant_grows (Some (meaning.Channel c)) hs = stays hs
  meant_grows (Some (meaning.Event e)) hs = stays hs
  meant_grows (Some (meaning.Port q)) hs = stays hs
  meant_grows (Some (meaning.Instance i)) hs = stays hs
  meant_grows (Some meaning.Nothing) hs = stays hs
  meant_grows None hs = stays hs

  functions_grow : (names : List ℕ) (hs : List Held) → Grows hs (functions_hold p functions ms names hs)
  functions_grow [] hs = stays hs
  functions_grow (x ∷ xs) hs =
      grows_on hs (meant_holds p functions (slice_get ms x) hs) _ (meant_grows (slice_get ms x) hs) (functions_grow xs _)

  collected : (names : List ℕ) (hs : List Held) (place name g : ℕ) (f : BoundFunction) → slice_get names place ≡ Some name →
      slice_get ms name ≡ Some (meaning.Function g) → slice_get functions g ≡ Some f →
      (h : List Held) × Grows (body_holds p f.body h) (functions_hold p functions ms names hs)
  collected [] hs place name g f at means is = absurd cc
  collected (x ∷ xs) hs zero name g f at means is =
      let here : x ≡ name = cc in
      let same : meant_holds p functions (slice_get ms x) hs ≡ body_holds p f.body hs =
      ap (λ n. meant_holds p functions (slice_get ms n) hs) here ∙ ap (λ m. meant_holds p functions m hs) means
      ∙ ap (λ o. found_holds p o hs) is in
      (hs, subst (λ gs. Grows gs (functions_hold p functions ms (x ∷ xs) hs)) same (functions_grow xs (meant_holds p functions (slice_get ms x) hs)))
  collected (x ∷ xs) hs (suc place) name g f at means is = collected xs _ place name g f at means is

-- ---- the code of a process

module _ (b : Bound) (p : ℕ) (ms : List Meaning) (names : List ℕ) (process : BoundProcess) (closed : IsClosed b ms names process) where
  -- the bodies of all functions that these names mean are among what is collected
  abbrev AreCollected : List Held → Type 0
  AreCollected fs = (g : ℕ) → IsMeant ms names g → (f : BoundFunction) → slice_get b.functions g ≡ Some f →
      (h : List Held) × Grows (body_holds p f.body h) fs

  calls_split : (body : List BoundStat) → CallsMeant ms names body →
      AllByRecursion (λ x. AllByRecursion (IsMeant ms names) (simple_calls x.simple)) (simples_in body)
  calls_split body h = split_calls (IsMeant ms names) (simples_in body) (recursion_from_All (IsMeant ms names) _ h)

  -- what is known of the functions that may be called
  abbrev IsKnown : Callees → Type 0
  IsKnown callees = (fs : List Held) → AreCollected fs → (g : ℕ) → IsMeant ms names g → (c : Called) → callees g ≡ Some c →
      AllByRecursion (Covered p fs) c.touched

  known_at : (callees : Callees) → IsKnown callees → (fs : List Held) → AreCollected fs → (g : ℕ) → IsMeant ms names g → (c : Called) →
      (o : Option BoundFunction) → slice_get b.functions g ≡ o → called_by (body_touches b.events callees) o ≡ Some c →
      AllByRecursion (Covered p fs) c.touched
  known_at callees known fs k g i c None of is = absurd cc
  known_at callees known fs k g i c (Some f) of is =
      let same : record { function = f; touched = body_touches b.events callees f.body } ≡ c = cc in
      let h = k g i f of in
      subst (λ (c : Called). AllByRecursion (Covered p fs) c.touched) same
      ((body_step p AreCollected b.events callees (IsMeant ms names) known f.body
      (calls_split f.body (closed.others g f i of)) h.0).covers fs h.1 k)

  known_within : (depth : ℕ) → IsKnown (callees_within depth b.events b.functions)
  known_within zero fs k g i c is = absurd cc
  known_within (suc depth) fs k g i c is =
      known_at (callees_within depth b.events b.functions) (known_within depth) fs k g i c (slice_get b.functions g) refl is

  -- all that its code touches is covered
  code_covered : (hs fs : List Held) → Grows (functions_hold p b.functions ms names (body_holds p process.body hs)) fs →
      AllByRecursion (Covered p fs) (process_touches b process)
  code_covered hs fs more =
      let own = body_holds p process.body hs in
      let all = functions_hold p b.functions ms names own in
      (body_step p AreCollected b.events (callees_within (length b.functions) b.events b.functions) (IsMeant ms names)
      (known_within (length b.functions)) process.body (calls_split process.body closed.own) hs).covers fs
      (grows_on own all fs (functions_grow p b.functions ms names own) more)
      (λ g i f is. let h = collected p b.functions ms names own i.place i.name g f i.listed i.means is in (h.0, grows_on _ all fs h.1 more))

-- ---- all processes

module _ (f : Filed) (is : List WalkedInstance) (b : Bound) where
  own_grows : (p : ℕ) (o : Option BoundProcess) (hs : List Held) → Grows hs (own_holds p o hs)
  own_grows p None hs = stays hs
  own_grows p (Some x) hs = body_grows p x.body hs

  process_grows : (p : ℕ) (form : ProcessForm) (hs : List Held) → Grows hs (process_holds f is b p form hs)
  process_grows p form hs =
      grows_on hs (own_holds p (slice_get b.processes p) hs) _ (own_grows p (slice_get b.processes p) hs)
      (functions_grow p b.functions (process_members is form) (process_functions f is form) _)

  processes_grow : (p : ℕ) (xs : List WalkedProcess) (hs : List Held) → Grows hs (processes_hold f is b p xs hs)
  processes_grow p [] hs = stays hs
  processes_grow p (x ∷ xs) hs = grows_on hs (process_holds f is b p x.form hs) _ (process_grows p x.form hs) (processes_grow (p + 1) xs _)

  process_at : (xs : List WalkedProcess) (p k q : ℕ) (hs : List Held) (x : WalkedProcess) → p + k ≡ q → slice_get xs k ≡ Some x →
      (h : List Held) × Grows (process_holds f is b q x.form h) (processes_hold f is b p xs hs)
  process_at [] p k q hs x sum at = absurd cc
  process_at (y ∷ xs) p zero q hs x sum at =
      let here : y ≡ x = cc in
      let same : p ≡ q = omega (arith, sum) in (
        hs,
        subst (λ (z : WalkedProcess). Grows (process_holds f is b q z.form hs) (processes_hold f is b p (y ∷ xs) hs)) here
            (subst (λ r. Grows (process_holds f is b r y.form hs) (processes_hold f is b p (y ∷ xs) hs)) same
            (processes_grow (p + 1) xs (process_holds f is b p y.form hs))),
      )
  process_at (y ∷ xs) p (suc k) q hs x sum at = process_at xs (p + 1) k q _ x (omega (arith, sum)) at

  -- what process q touches
  process_covered : (ps : List WalkedProcess) (hs : List Held) (q : ℕ) (x : WalkedProcess) (process : BoundProcess) → slice_get ps q ≡ Some x →
      slice_get b.processes q ≡ Some process → IsClosed b (process_members is x.form) (process_functions f is x.form) process →
      AllByRecursion (Covered q (processes_hold f is b 0 ps hs)) (process_touches b process)
  process_covered ps hs q x process at of closed =
      let h = process_at ps 0 q q hs x (omega arith) at in
      code_covered b q (process_members is x.form) (process_functions f is x.form) process closed h.0 (processes_hold f is b 0 ps hs)
      (subst (λ o. Grows (functions_hold q b.functions (process_members is x.form) (process_functions f is x.form) (own_holds q o h.0))
      (processes_hold f is b 0 ps hs)) of h.1)

-- ---- refusals

none_first : (a c : Option Refusal) → first_of a c ≡ None → a ≡ None
none_first None c h = refl
none_first (Some r) c h = h

none_other : (a c : Option Refusal) → first_of a c ≡ None → c ≡ None
none_other None c h = h
none_other (Some r) c h = absurd cc

not_two : (breach : ElabBreach) (ps : List WalkedProcess) (c : WalkedChannel) (h : Holders) (x y : ℕ) → h.first ≡ Some x →
    h.second ≡ Some y → refusal_by breach ps c h ≡ None → ⊥
not_two breach ps c h x y one two none =
    let r : refusal_by breach ps c h ≡ Some (record {
      what = breach;
      at = c.at;
      names = c.name ∷ name_in (slice_get ps x) ∷ name_in (slice_get ps y) ∷ [];
    }) = rw (one, two) refl in
    let e : None ≡ Some (record {
      what = breach;
      at = c.at;
      names = c.name ∷ name_in (slice_get ps x) ∷ name_in (slice_get ps y) ∷ [];
    }) = sym none ∙ r in cc

one_holds : (breach : ElabBreach) (ps : List WalkedProcess) (c : WalkedChannel) (h : Holders) (p q : ℕ) → refusal_by breach ps c h ≡ None →
    Among p h → Among q h → p ≡ q
one_holds breach ps c h p q none (inl a) (inl d) = let e : Some p ≡ Some q = sym a ∙ d in cc
one_holds breach ps c h p q none (inr a) d = absurd (not_two breach ps c h a.0 a.1 a.2 a.3 none)
one_holds breach ps c h p q none (inl a) (inr d) = absurd (not_two breach ps c h d.0 d.1 d.2 d.3 none)

channel_at : (ps : List WalkedProcess) (cs : List WalkedChannel) (place c q : ℕ) (hs : List Held) (h : Held) → place + c ≡ q → c < length cs →
    slice_get hs q ≡ Some h → holders_refusal ps place cs hs ≡ None → (d : WalkedChannel) × (channel_refusal ps d h ≡ None)
channel_at ps [] place c q hs h sum within at none = absurd (omega (arith, within))
channel_at ps (d ∷ cs) place zero q hs h sum within at none =
    let same : place ≡ q = omega (arith, sum) in
    (d, sym (ap (refusal_at ps d) (ap (λ i. slice_get hs i) same ∙ at)) ∙ none_first (refusal_at ps d (slice_get hs place)) _ none)
channel_at ps (d ∷ cs) place (suc c) q hs h sum within at none =
    channel_at ps cs (place + 1) c q hs h (omega (arith, sum)) (omega (arith, within)) at
    (none_other (refusal_at ps d (slice_get hs place)) _ none)

-- ---- at a channel

module _ (ps : List WalkedProcess) (cs : List WalkedChannel) (hs : List Held) (none : holders_refusal ps 0 cs hs ≡ None) (c : ℕ)
    (within : c < length cs) where
  same_held : (h g : Held) → slice_get hs c ≡ Some h → slice_get hs c ≡ Some g → h ≡ g
  same_held h g a d = let e : Some h ≡ Some g = sym a ∙ d in cc

  one_writer : (p q : ℕ) → HoldsWriter p c hs → HoldsWriter q c hs → p ≡ q
  one_writer p q a d =
      let h = a.held in
      let r = channel_at ps cs 0 c c hs h (omega arith) within a.is none in
      one_holds what.TwoWriters ps r.0 h.writers p q (none_first _ _ r.1) a.among
      (subst (λ (g : Held). Among q g.writers) (sym (same_held h d.held a.is d.is)) d.among)

  one_reader : (p q : ℕ) → HoldsReader p c hs → HoldsReader q c hs → p ≡ q
  one_reader p q a d =
      let h = a.held in
      let r = channel_at ps cs 0 c c hs h (omega arith) within a.is none in
      one_holds what.TwoReaders ps r.0 h.readers p q (none_other (refusal_by what.TwoWriters ps r.0 h.writers) _ r.1) a.among
      (subst (λ (g : Held). Among q g.readers) (sym (same_held h d.held a.is d.is)) d.among)

replicated : (n : ℕ) (h : Held) → length (replicate n h) ≡ n
replicated zero h = refl
replicated (suc n) h = ap suc (replicated n h)

module _ (f : Filed) (w : Walk) (n : Numbered) (b : Bound) (lengths : length b.processes ≡ length w.processes)
    (closed : AreClosed f n.instances w.processes b) (c : ℕ) (within : c < length w.channels) where
  all_length : c < length (held_in f w n b)
  all_length =
      let more = processes_grow f n.instances b 0 w.processes (replicate (length w.channels) not_held) in
      let all = more.all in
      let many = replicated (length w.channels) not_held in omega (arith, within, all, many)

  touched_covered : (p : ℕ) (t : Touch) → Uses b p t → Covered p (held_in f w n b) t
  touched_covered p t u =
      let x = inside w.processes p (subst (λ m. p < m) lengths (slice_get_within b.processes p u.process u.is)) in
      All-contains (Covered p (held_in f w n b)) (process_touches b u.process) t
      (All-from_recursion (Covered p (held_in f w n b)) _
      (process_covered f n.instances b w.processes (replicate (length w.channels) not_held) p x.0 u.process x.1 u.is
      (closed p x.0 u.process x.1 u.is))) u.touches

pub ends_of_one : EndsAreOfOne
ends_of_one f w n b lengths closed none c within =
    let all = all_length f w n b lengths closed c within in
    let covered = touched_covered f w n b lengths closed c within in record {
      writer = λ p q a d. one_writer w.processes w.channels (held_in f w n b) none c within p q
          (covered p (WritesSignal c) a all) (covered q (WritesSignal c) d all);
      reading = λ p q a d. one_reader w.processes w.channels (held_in f w n b) none c within p q
          (covered p (HoldsReading c) a all) (covered q (HoldsReading c) d all);
      writing = λ p q a d. one_writer w.processes w.channels (held_in f w n b) none c within p q
          (covered p (HoldsWriting c) a all) (covered q (HoldsWriting c) d all);
    }
