-- A job is handed out: what it is lent, and what is kept then.
use Rattle.std.proofs.Common.{◌≡◌, ℕ, zero, suc, ◌+◌, ◌<◌, ◌==◌, ◌||◌, if◌then◌else◌, List, [], ◌∷◌, length, Bool, true, false, not, Option, Some, None, refl, sym, ap, subst, ◌∙◌, arith, add-zero}
use Rattle.std.specs.Prelude.{vec_len, filter, slice_get, slice_index_or, All, IsSomeAnd}
use Rattle.std.proofs.lemmas.Bool.{eqb-true, eq-eqb}
use Rattle.std.proofs.lemmas.List.{get_or_default, get_or-map, length-map}
use Rattle.std.proofs.lemmas.List.Elements.{All-filter, All-map, Contains-get_or}
use Rattle.std.proofs.lemmas.List.Kept.{AllPairs-filter}
use Rattle.std.proofs.lemmas.Option.{slice_get-get_or}
use Rattle.ooo_lemmas.proofs.Placed.{inside, read_is as read_is_at}
use Rattle.ooo_time.specs.declared.stamp.Stamp.{Stamp}
use Rattle.ooo_value.specs.declared.bound.BoundVariable.{BoundVariable}
use Rattle.ooo_value.specs.declared.values.Value.{Value}
use Rattle.ooo_code.specs.declared.activation.Effect.{Effect}
use Rattle.ooo_code.specs.declared.design.Design.{Design}
use Rattle.ooo_code.specs.declared.design.Proc.{Proc}
use Rattle.ooo_code.specs.declared.limits.Limits.{Limits}
use Rattle.ooo_code.specs.declared.segment.Segment.{Segment}
use Rattle.ooo_code.specs.declared.segment.SegmentEntry.TheVariants.{Start}
use Rattle.ooo_access.specs.declared.access.Access.{Access}
use Rattle.ooo_access.specs.Access.{AreAscending, IsAccessOf, IsInOrder}
use Rattle.ooo_channels.specs.Bank.{BankState}
use Rattle.ooo_channels.specs.Operations.{Operations, after_effect, after_effects}
use Rattle.ooo_schedules.specs.Model.{Act, job}
use Rattle.ooo_schedules.specs.Design.{only, sort}
use Rattle.ooo_schedules.specs.Program.{design as order, sees}
use Rattle.ooo_schedules.specs.Tables.{program}
use Rattle.ooo_tables.specs.declared.tables.Tables.{Tables}
use Rattle.ooo_interp.specs.declared.job.Job.{Job}
use Rattle.ooo_interp.specs.Carrying.{Carried, IsAscending}
use Rattle.ooo_interp.specs.Jobs.{Fits, IsFew, SeenAscend}
use Rattle.ooo_fronts.specs.declared.front.Front.{Front}
use Rattle.ooo_fronts.specs.Fronts.{front_is}
use Rattle.ooo_dispatch.specs.declared.reads.Reads.{Reads}
use Rattle.ooo_dispatch.specs.declared.step.Step.{Step}
use Rattle.ooo_dispatch.specs.declared.step.Step.TheVariants.{Dispatch}
use Rattle.ooo_dispatch.specs.Banks.{operations_on}
use Rattle.ooo_dispatch.specs.Boards.{Board, model}
use Rattle.ooo_dispatch.specs.Least.{rules_of}
use Rattle.ooo_dispatch.specs.Rules.{Rules, access_of, cells_after, deed_of, entry_of, has, no_access, operations_of, tables, uses, variables_for}
use Rattle.ooo_dispatch.specs.Steps.{after_step}
use Rattle.ooo_board.specs.declared.cores.Core.{Core}
use Rattle.ooo_board.specs.declared.cores.Parts.{Parts}
use Rattle.ooo_board.specs.declared.links.Links.{Links}
use Rattle.ooo_board.specs.declared.process.Process.{Process}
use Rattle.ooo_board.specs.declared.links.Watched.{Watched}
use Rattle.ooo_board.specs.Carrying.{bare, carried_from, taken_from}
use Rattle.ooo_board.specs.Jobs.{IsJobOf}
use Rattle.ooo_board.specs.Cores.{AreVariables, HasCore, IsCore, IsDispatched, MayDispatch, Stands, after}
use Rattle.ooo_board.specs.Forgetting.{HasBank, forgetting}
use Rattle.ooo_board.specs.Lending.{AreAtHand, ArePartsOf}
use Rattle.ooo_board.specs.Links.{AreLinks, only_read, watched_from}
use Rattle.ooo_board.specs.Seeing.{IsAskedAt, MayAsk, sights_of}
use Rattle.ooo_board.proofs.Forgotten.{sights_same}
use Rattle.ooo_board.proofs.Moving.{taken_bare}
use Rattle.ooo_board.proofs.Parts.{carries}
use Rattle.ooo_board.proofs.Past.{front_kept}
use Rattle.ooo_board.proofs.Watching.{sights_watched, watched_within}

-- ---- of lists

-- what is carried is the same of variables that agree on the numbers
carried_alike : (vs ws : List (List Value)) (ns : List ℕ) → ((x : ℕ) → has ns x ≡ true → slice_index_or vs x [] ≡ slice_index_or ws x []) → carried_from vs ns ≡ carried_from ws ns
carried_alike vs ws [] same = refl
carried_alike vs ws (n ∷ ns) same =
    let rest = carried_alike vs ws ns (λ x h. same x (later (n == x) (has ns x) h)) in
    λ i. (n, same n (first (n == n) (has ns n) (eq-eqb n n refl)) i) ∷ rest i
  where
    later : (a b : Bool) → b ≡ true → (a || b) ≡ true
    later true b h = refl
    later false b h = h

    first : (a b : Bool) → a ≡ true → (a || b) ≡ true
    first true b h = refl
    first false b h = absurd cc

-- what holds of all numbers holds of one that is found there
all_has : (P : ℕ → Type 0) (ns : List ℕ) (x : ℕ) → All P ns → has ns x ≡ true → P x
all_has P [] x all h = absurd cc
all_has P (n ∷ ns) x all h = at (n == x) refl h (all_has P ns x (λ k d lt. all (suc k) d (omega (arith, lt))))
  where
    at : (same : Bool) → (n == x) ≡ same → (same || has ns x) ≡ true → (has ns x ≡ true → P x) → P x
    at true e h rest = subst P (eqb-true n x e) (all 0 n (omega arith))
    at false e h rest = rest h

-- a number of those that a test keeps is one of them
has_kept : (test : ℕ → Bool) (ns : List ℕ) (x : ℕ) → has (filter test ns) x ≡ true → has ns x ≡ true
has_kept test [] x h = h
has_kept test (n ∷ ns) x h = at (test n) (n == x) refl h (has_kept test ns x)
  where
    or_else : (b c d : Bool) → (b || c) ≡ true → (c ≡ true → d ≡ true) → (b || d) ≡ true
    or_else true c d k rest = refl
    or_else false c d k rest = rest k

    at : (c b : Bool) → (n == x) ≡ b → has (if c then n ∷ filter test ns else filter test ns) x ≡ true → (has (filter test ns) x ≡ true → has ns x ≡ true) → (b || has ns x) ≡ true
    at c true e k rest = refl
    at true false e k rest = subst (λ b. (b || has ns x) ≡ true) e (or_else (n == x) (has (filter test ns) x) (has ns x) k rest)
    at false false e k rest = rest k

-- the numbers ascend, so what is carried does
carried_ascends : (vs : List (List Value)) (ns : List ℕ) → AreAscending ns → IsAscending (carried_from vs ns)
carried_ascends vs ns ascending i j d lt within =
    let one : ℕ → Carried = λ x. (x, slice_index_or vs x []) in
    let n = length-map ns one in
    let below : j < length ns = omega arith in
    let sooner : i < length ns = omega arith in
    let a = ap (λ (c : Carried). c.0) (get_or-map one ns i 0 d sooner) in
    let b = ap (λ (c : Carried). c.0) (get_or-map one ns j 0 d below) in
    let ordered = ascending i j 0 lt below in
    omega arith

-- what segment g uses of variables
variables_at : (r : Rules) (g x n : ℕ) (vs : List BoundVariable) (ys : List (Act Stamp Reads)) → n < length vs → uses r g (x + n) ≡ true → slice_index_or (variables_for r g x vs ys) n [] ≡ cells_after r (x + n) ys
variables_at r g x n [] ys lt used = absurd (omega (arith, lt))
variables_at r g x zero (v ∷ vs) ys lt used =
    let here : uses r g x ≡ true = subst (λ n. uses r g n ≡ true) (add-zero x) used in
    rw (here) (ap (λ n. cells_after r n ys) (sym (add-zero x)))
variables_at r g x (suc n) (v ∷ vs) ys lt used =
    let next : suc x + n ≡ x + suc n = omega arith in
    variables_at r g (suc x) n vs ys (omega (arith, lt)) (subst (λ m. uses r g m ≡ true) (sym next) used) ∙ ap (λ m. cells_after r m ys) next

-- the same from the first variable on
variables_first : (r : Rules) (g x : ℕ) (vs : List BoundVariable) (ys : List (Act Stamp Reads)) → x < length vs → uses r g x ≡ true → slice_index_or (variables_for r g 0 vs ys) x [] ≡ cells_after r x ys
variables_first r g x vs ys lt used =
    let same : 0 + x ≡ x = omega arith in
    variables_at r g 0 x vs ys lt (subst (λ n. uses r g n ≡ true) (sym same) used) ∙ ap (λ n. cells_after r n ys) same

length_variables : (r : Rules) (g x : ℕ) (vs : List BoundVariable) (ys : List (Act Stamp Reads)) → length (variables_for r g x vs ys) ≡ length vs
length_variables r g x [] ys = refl
length_variables r g x (v ∷ vs) ys = ap suc (length_variables r g (suc x) vs ys)

-- ---- of operations

channels_same : (at : Stamp) (fs : List Effect) (ops : Operations) → (after_effects at ops fs).channels ≡ ops.channels
channels_same at [] ops = refl
channels_same at (f ∷ fs) ops = channels_same at fs (after_effect at ops f)

pub channels_of : (r : Rules) (log : List (Act Stamp Reads)) → (operations_of r log).channels ≡ r.design.channels
channels_of r [] = refl
channels_of r (y ∷ ys) = channels_same y.stamp (deed_of r y).effects (operations_of r ys) ∙ channels_of r ys

-- ---- what is lent

-- what the law says of a process that may be dispatched
abbrev pub FindsAll : Type 0
FindsAll =
    (design : Design) (limits : Limits) (t : Tables) (steps : List Step) (p : ℕ) (f : Front) → Stands design limits t steps →
    MayDispatch design limits t steps p f → AreAtHand design limits t steps p f

-- some process may be dispatched at this front, and what its job is lent is at hand
pub record IsAllowedAt (design : Design) (t : Tables) (c : Core) (f : Front) : Type 0 where
  pub limits : Limits
  pub steps : List Step
  pub p : ℕ
  pub core : HasCore design limits t steps c
  pub may : MayDispatch design limits t steps p f
  pub hand : AreAtHand design limits t steps p f

pub allowed_at :
    (design : Design) (t : Tables) (c : Core) (f : Front) → FindsAll →
    ((limits : Limits) × (steps : List Step) × (p : ℕ) × HasCore design limits t steps c × MayDispatch design limits t steps p f) →
    IsAllowedAt design t c f
allowed_at design t c f law (limits, steps, p, core, may) =
    record { limits = limits; steps = steps; p = p; core = core; may = may; hand = law design limits t steps p f core.stands may }

-- the parts that were made, of the design that is shared
pub parts_shared :
    (d design : Design) (limits : Limits) (t : Tables) (steps : List Step) (p : ℕ) (f : Front) (c : Core) (parts : Parts) → d ≡ design →
    ((limits : Limits) (steps : List Step) (p : ℕ) → HasCore d limits t steps c → MayDispatch d limits t steps p f → ArePartsOf d limits t steps p f c.variables.items parts) →
    HasCore design limits t steps c → MayDispatch design limits t steps p f → ArePartsOf design limits t steps p f c.variables.items parts
parts_shared d design limits t steps p f c parts same made core may =
    subst (λ e. HasCore e limits t steps c → MayDispatch e limits t steps p f → ArePartsOf e limits t steps p f c.variables.items parts) same (made limits steps p) core may

module _ (design : Design) (limits : Limits) (t : Tables) (steps : List Step) (p : ℕ) (f : Front) (stands : Stands design limits t steps) (hand : AreAtHand design limits t steps p f) where
  abbrev r : Rules
  r = rules_of design limits t

  abbrev b : Board r
  b = (after design limits t steps).board

  abbrev a : Access
  a = access_of r f.segment

  abbrev j : Act Stamp Reads
  j = job (model r) b p (front_is f)

  -- the segment's access
  pub access_within : f.segment < length t.access
  access_within =
      let n = stands.ready.tables.access.count in
      let lt : f.segment < length t.graph.segments = hand.reach.segment in
      omega (arith, n, lt)

  pub access_there : slice_get t.access f.segment ≡ Some a
  access_there = slice_get-get_or t.access f.segment no_access access_within

  pub access_is : (xs : List Access) (x : Access) → xs ≡ t.access → x ≡ slice_index_or xs f.segment x → x ≡ a
  access_is xs x same is = is ∙ ap (λ all. slice_index_or all f.segment x) same ∙ get_or_default t.access f.segment x no_access access_within

  in_order : IsInOrder a
  in_order = stands.ready.tables.access.in_order f.segment no_access access_within

  -- what it touches is there
  pub written_within : All (λ x. x < length design.variables) a.written
  written_within k d lt = (hand.inside f.segment a access_there).written (slice_index_or a.written k d) (Contains-get_or a.written k d lt)

  all_read_within : All (λ x. x < length design.variables) a.read
  all_read_within k d lt = (hand.inside f.segment a access_there).read (slice_index_or a.read k d) (Contains-get_or a.read k d lt)

  pub read_within : All (λ x. x < length design.variables) (only_read a)
  read_within = All-filter (λ x. not (has a.written x)) (λ x. x < length design.variables) a.read all_read_within

  pub written_ascends : AreAscending a.written
  written_ascends = in_order.written

  pub read_ascends : AreAscending (only_read a)
  read_ascends = AllPairs-filter (λ m n. m < n) (λ x. not (has a.written x)) a.read in_order.read

  -- ---- by the look-ups

  module _ (l : Links) (links : AreLinks design t l) where
    pub read_there : f.segment < vec_len l.only_read
    read_there =
        let n = links.read_count in
        let e = l.only_read.ok.0 in
        let lt = access_within in
        omega (arith, n, e, lt)

    pub watched_there : f.segment < vec_len l.watched
    watched_there =
        let n = links.watched_count in
        let e = l.watched.ok.0 in
        let lt = access_within in
        omega (arith, n, e, lt)

    pub read_is : (numbers : List ℕ) → numbers ≡ slice_index_or l.only_read.items f.segment numbers → numbers ≡ only_read a
    read_is numbers is =
        let n = links.read_count in
        let lt = access_within in
        is ∙ get_or_default l.only_read.items f.segment numbers [] (omega (arith, n, lt)) ∙ links.only_read f.segment a access_there

    pub watched_is : (watched : List Watched) → watched ≡ slice_index_or l.watched.items f.segment watched → watched ≡ watched_from a 0 design.channels
    watched_is watched is =
        let n = links.watched_count in
        let lt = access_within in
        is ∙ get_or_default l.watched.items f.segment watched [] (omega (arith, n, lt)) ∙ links.watched f.segment a access_there

  -- ---- what the job sees

  abbrev ops : Operations
  ops = operations_on r b

  module _ (may : MayDispatch design limits t steps p f) (bank : BankState) (below : Stamp) (has : HasBank r b bank below) where
    pub asked : IsAskedAt design bank f.stamp (forgetting below ops)
    asked = record { bank = has.applied; channels = channels_of r b.log; kept = front_kept r b below p (front_is f) has.past may.may.front }

    pub may_ask : MayAsk design bank f.stamp (watched_from a 0 design.channels)
    may_ask = record { ops = forgetting below ops; asked = asked; there = watched_within a design.channels }

  pub seen_is : (below : Stamp) → sights_of f.stamp (forgetting below ops) design.channels (watched_from a 0 design.channels) ≡ j.reads.seen
  seen_is below =
      sights_watched (forgetting below ops) f.stamp a design.channels (channels_of r b.log)
      ∙ sights_same below ops a f.stamp 0 design.channels ∙ sym hand.reads.seen

  -- ---- what the job carries

  -- a number that is used is that of a variable
  used_within : (x : ℕ) → uses r f.segment x ≡ true → x < length design.variables
  used_within x = at (has a.read x) refl
    where
      at : (reads : Bool) → has a.read x ≡ reads → (reads || has a.written x) ≡ true → x < length design.variables
      at true e used = all_has (λ n. n < length design.variables) a.read x all_read_within e
      at false e used = all_has (λ n. n < length design.variables) a.written x written_within used

  -- what is kept of a variable that the segment uses is what the job reads
  kept_is : (variables : List (List Value)) → AreVariables r b variables → (x : ℕ) → uses r f.segment x ≡ true → slice_index_or variables x [] ≡ slice_index_or j.reads.variables x []
  kept_is variables are x used =
      let seen = only (sees (program (tables r)) p f.segment f.stamp) (sort (order (program (tables r))) b.log) in
      are.home x (hand.home x used) ∙ sym (hand.reads.cells x used)
      ∙ sym (variables_first r f.segment x design.variables seen (used_within x used) used)

  written_used : (x : ℕ) → has a.written x ≡ true → uses r f.segment x ≡ true
  written_used x h = at (has a.read x) h
    where
      at : (c : Bool) → has a.written x ≡ true → (c || has a.written x) ≡ true
      at true h = refl
      at false h = h

  read_used : (x : ℕ) → has (only_read a) x ≡ true → uses r f.segment x ≡ true
  read_used x h = rw (has_kept (λ n. not (has a.written n)) a.read x h) refl

  -- the places of those that it owns are of variables
  pub places_within : (variables : List (List Value)) → length variables ≡ length design.variables → All (λ (c : Carried). c.0 < length variables) (bare a.written)
  places_within variables count = All-map (λ (c : Carried). c.0 < length variables) (λ x. (x, [])) a.written (subst (λ n. All (λ x. x < n) a.written) (sym count) written_within)

  pub owned_is : (variables out : List (List Value)) (owned : List Carried) → AreVariables r b variables → taken_from variables (bare a.written) ≡ (out, owned) → owned ≡ carried_from j.reads.variables a.written
  owned_is variables out owned are taken =
      sym (ap (λ (x : List (List Value) × List Carried). x.1) taken) ∙ taken_bare variables a.written written_ascends
      ∙ carried_alike variables j.reads.variables a.written (λ x h. kept_is variables are x (written_used x h))

  pub copied_is : (variables : List (List Value)) → AreVariables r b variables → carried_from variables (only_read a) ≡ carried_from j.reads.variables (only_read a)
  copied_is variables are = carried_alike variables j.reads.variables (only_read a) (λ x h. kept_is variables are x (read_used x h))

  -- ---- the segment

  pub segment_there : (x : Segment) → x ≡ slice_index_or t.graph.segments f.segment x → slice_get t.graph.segments f.segment ≡ Some x
  segment_there x is = read_is_at t.graph.segments f.segment x hand.reach.segment is

  pub entry_is : (x : Segment) → slice_get t.graph.segments f.segment ≡ Some x → x.entry ≡ entry_of r f.segment
  entry_is x there = sym (ap (λ (o : Option Segment). elim o [ None ↦ Start | Some s ↦ s.entry ]) there)

  process_is : (x : Segment) → slice_get t.graph.segments f.segment ≡ Some x → x.process ≡ p
  process_is x there = sym (ap (λ (o : Option Segment). elim o [ None ↦ length design.processes | Some s ↦ s.process ]) there) ∙ hand.reach.process

  -- its process, of which this is the access
  pub record HasProcess : Type 0 where
    pub process : Proc
    pub is : slice_get design.processes p ≡ Some process
    pub access : IsAccessOf design process (entry_of r f.segment) a

  pub has_process : HasProcess
  has_process =
      let segment = inside t.graph.segments f.segment hand.reach.segment in
      of segment.0 segment.1
    where
      at : (x : Segment) → x.process ≡ p → x.entry ≡ entry_of r f.segment → (o : Option Proc) → slice_get design.processes x.process ≡ o → IsSomeAnd o (λ process. IsAccessOf design process x.entry a) → HasProcess
      at x own entry None e h = absurd h
      at x own entry (Some process) e h = record {
        process = process;
        is = ap (slice_get design.processes) (sym own) ∙ e;
        access = subst (λ n. IsAccessOf design process n a) entry h;
      }

      of : (x : Segment) → slice_get t.graph.segments f.segment ≡ Some x → HasProcess
      of x there = at x (process_is x there) (entry_is x there) (slice_get design.processes x.process) refl (stands.ready.tables.access.each f.segment x a there access_there)

  -- ---- the job fits

  carried_within : (vs : List (List Value)) (ns : List ℕ) → All (λ x. x < length design.variables) ns → All (λ (c : Carried). c.0 < length design.variables) (carried_from vs ns)
  carried_within vs ns within = All-map (λ (c : Carried). c.0 < length design.variables) (λ x. (x, slice_index_or vs x [])) ns within

  pub fits : (out : Job) → IsJobOf r j out → All IsFew out.seen.items → SeenAscend out.seen.items → Fits out
  fits out is few ascending =
      let q = has_process in
      let wide = length_variables r f.segment 0 design.variables (only (sees (program (tables r)) p f.segment f.stamp) (sort (order (program (tables r))) b.log)) in
      record {
        variables = carries r j out is wide q.process q.access q.is;
        owned = rw (is.design, is.owned) (carried_within j.reads.variables a.written written_within);
        copied = rw (is.design, is.copied) (carried_within j.reads.variables (only_read a) read_within);
        few = few;
        owned_ascends = rw (is.owned) (carried_ascends j.reads.variables a.written written_ascends);
        copied_ascends = rw (is.copied) (carried_ascends j.reads.variables (only_read a) read_ascends);
        seen_ascends = ascending;
      }

  -- so it is dispatched
  pub dispatched_so : {c : Core} {out : Job} → IsCore design limits t (after_step r (after design limits t steps) (Dispatch p)) c → IsJobOf r j out → All IsFew out.seen.items → SeenAscend out.seen.items → IsDispatched design limits t steps p f c out
  dispatched_so {c} {out} core is few ascending = record { core = core; is_job = is; fits = fits out is few ascending }

  -- its process is there
  pub process_there : (c : Core) → IsCore design limits t (after design limits t steps) c → (x : Process) → x ≡ slice_index_or c.processes.items p x → slice_get c.processes.items p ≡ Some x
  process_there c core x is =
      let n = core.has_processes.counted in
      let lt = hand.reach.within in
      read_is_at c.processes.items p x (omega (arith, n, lt)) is
