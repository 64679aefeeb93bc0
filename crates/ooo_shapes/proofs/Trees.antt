-- The nodes of an item as a tree: which way they go, what they touch, and where they wait.
use Rattle.std.proofs.Common.{◌≡◌, ℕ, zero, suc, ◌<◌, ◌⊎◌, inl, inr, ⊎_elim, List, [], ◌∷◌, Bool, true, false, Some, refl, sym, ap, ◌∙◌, subst, arith}
use Rattle.std.specs.Prelude.{slice_get, slice_index_or, ◌||◌, Contains}
use Rattle.std.specs.List.{list_any}
use Rattle.std.proofs.lemmas.Bool.{or_left, or_right}
use Rattle.ooo_lemmas.proofs.Contained.{not_in_none, one_is}
use Rattle.ooo_code.specs.declared.node.Node.{Node}
use Rattle.ooo_code.specs.declared.node.NodeKind.{NodeKind}
use Rattle.ooo_code.specs.declared.node.NodeKind.TheVariants as kind
use Rattle.ooo_code.specs.Segments.{leads_to, successors, is_wait, trigger_events, Reaches, here, further}
use Rattle.ooo_code.specs.Touches.{Touch, touched_by}
use Rattle.ooo_bound.specs.declared.model.Bound.{Bound}
use Rattle.ooo_bound.specs.declared.model.BoundProcess.{BoundProcess}
use Rattle.ooo_activation.specs.Items.{Item}
use Rattle.ooo_shapes.specs.Segments.{no_values, goes_to, first_touches, Pause, first_triggers, first_pauses, WaitsFor}
use Rattle.ooo_shapes.specs.Designs.{home_of}
use Rattle.ooo_shapes.proofs.Places.{Stands}
use Rattle.ooo_shapes.proofs.Touching.{or_assoc, nodes_some}

-- ---- elements of short lists

at_one : {A : Type 0} (a y : A) (k : ℕ) → k < 1 → slice_index_or (a ∷ []) k y ≡ y → a ≡ y
at_one a y zero lt e = e
at_one a y (suc k) lt e = absurd (omega (arith, lt))

pub in_one : {A : Type 0} (a y : A) → a ≡ y → Contains (a ∷ []) y
in_one a y e = (0, omega arith, e)

at_two : {A : Type 0} (a c y : A) (k : ℕ) → k < 2 → slice_index_or (a ∷ c ∷ []) k y ≡ y → (a ≡ y) ⊎ (c ≡ y)
at_two a c y zero lt e = inl e
at_two a c y (suc zero) lt e = inr e
at_two a c y (suc (suc k)) lt e = absurd (omega (arith, lt))

pub two_of : {A : Type 0} (a c y : A) → Contains (a ∷ c ∷ []) y → (a ≡ y) ⊎ (c ≡ y)
two_of a c y h = let lt = h.1 in at_two a c y h.0 (omega (arith, lt)) h.2

pub in_two : {A : Type 0} (a c y : A) → (a ≡ y) ⊎ (c ≡ y) → Contains (a ∷ c ∷ []) y
in_two a c y s = ⊎_elim (λ e. (0, omega arith, e)) (λ e. (1, omega arith, e)) s

or_either : (x y : Bool) → (x || y) ≡ true → (x ≡ true) ⊎ (y ≡ true)
or_either true y h = inl refl
or_either false y h = inr h

-- ---- ways

-- a node that leads to this one and no other
pub record OneWay (ms : List ℕ) (q : ℕ) : Type 0 where
  pub there : Contains ms q
  pub only : (m : ℕ) → Contains ms m → q ≡ m

-- a node that leads to these two and no other
pub record TwoWays (ms : List ℕ) (q r : ℕ) : Type 0 where
  pub first : Contains ms q
  pub second : Contains ms r
  pub only : (m : ℕ) → Contains ms m → (q ≡ m) ⊎ (r ≡ m)

pub one_way : (q : ℕ) → OneWay (q ∷ []) q
one_way q = record { there = in_one q q refl; only = λ m c. one_is q m c }

pub way_twice : (q : ℕ) → OneWay (q ∷ q ∷ []) q
way_twice q = record { there = in_two q q q (inl refl); only = λ m c. ⊎_elim (λ e. e) (λ e. e) (two_of q q m c) }

pub two_ways : (q r : ℕ) → TwoWays (q ∷ r ∷ []) q r
two_ways q r = record { first = in_two q r q (inl refl); second = in_two q r r (inr refl); only = λ m c. two_of q r m c }

-- a wait leads nowhere within its segment
waits_end : (k : NodeKind) (next m : ℕ) (pause : Pause) → WaitsFor k pause → Contains (leads_to k next) m → ⊥
waits_end (kind.Wait w) next m pause h c = not_in_none m c
waits_end _ next m pause h c = h

-- ---- nodes that are neither a wait nor a trigger

abbrev pub marked_kind : NodeKind → Bool
marked_kind k = elim k [ kind.Wait w ↦ true | kind.Trigger w ↦ true | _ ↦ false ]

no_wait_kind : (k : NodeKind) → marked_kind k ≡ false → elim k [ kind.Wait w ↦ true | _ ↦ false ] ≡ false
no_wait_kind (kind.Wait w) h = h
no_wait_kind _ h = refl

no_wait : (i : Node) → marked_kind i.kind ≡ false → is_wait i ≡ false
no_wait i h = no_wait_kind i.kind h

no_trigger : (k : NodeKind) → marked_kind k ≡ false → trigger_events k ≡ []
no_trigger (kind.Trigger w) h = absurd cc
no_trigger _ h = refl

-- a wait is no trigger
wait_triggers : (k : NodeKind) (pause : Pause) → WaitsFor k pause → trigger_events k ≡ []
wait_triggers (kind.Wait w) pause h = refl
wait_triggers _ pause h = absurd h

-- ---- trees

-- what remains stands there; the end; a wait; a trigger; another node with one way; a node with two ways
pub data Tree : Type 0 where
  Out : List Item → Tree
  Ends : Node → Tree
  Waits : Node → Pause → Tree
  Sets : Node → Tree → Tree
  Goes : Node → Tree → Tree
  Forks : Node → Tree → Tree → Tree

-- it begins with a node
abbrev pub IsHeaded : Tree → Type 0
IsHeaded (Out items) = ⊥
IsHeaded _ = Unit {0}

-- this may remain
abbrev pub HasOut : Tree → List Item → Type 0
HasOut (Out items) y = items ≡ y
HasOut (Ends i) y = ⊥
HasOut (Waits i pause) y = ⊥
HasOut (Sets i a) y = HasOut a y
HasOut (Goes i a) y = HasOut a y
HasOut (Forks i a c) y = HasOut a y ⊎ HasOut c y

abbrev pub HasPause : Tree → Pause → Type 0
HasPause (Out items) p = ⊥
HasPause (Ends i) p = ⊥
HasPause (Waits i pause) p = pause ≡ p
HasPause (Sets i a) p = HasPause a p
HasPause (Goes i a) p = HasPause a p
HasPause (Forks i a c) p = HasPause a p ⊎ HasPause c p

-- an event is named by a trigger
abbrev pub HasTrigger : Tree → ℕ → Type 0
HasTrigger (Out items) e = ⊥
HasTrigger (Ends i) e = ⊥
HasTrigger (Waits i pause) e = ⊥
HasTrigger (Sets i a) e = Contains (trigger_events i.kind) e ⊎ HasTrigger a e
HasTrigger (Goes i a) e = HasTrigger a e
HasTrigger (Forks i a c) e = HasTrigger a e ⊎ HasTrigger c e

-- ---- nodes one after the other

-- nodes that lead each to the next one, and then to a tree
abbrev pub chain : List Node → Tree → Tree
chain [] a = a
chain (i ∷ is) a = Goes i (chain is a)

pub chain_out : (is : List Node) (a : Tree) (y : List Item) → HasOut (chain is a) y → HasOut a y
chain_out [] a y h = h
chain_out (i ∷ is) a y h = chain_out is a y h

pub out_chain : (is : List Node) (a : Tree) (y : List Item) → HasOut a y → HasOut (chain is a) y
out_chain [] a y h = h
out_chain (i ∷ is) a y h = out_chain is a y h

pub chain_pause : (is : List Node) (a : Tree) (p : Pause) → HasPause (chain is a) p → HasPause a p
chain_pause [] a p h = h
chain_pause (i ∷ is) a p h = chain_pause is a p h

pub chain_trigger : (is : List Node) (a : Tree) (e : ℕ) → HasTrigger (chain is a) e → HasTrigger a e
chain_trigger [] a e h = h
chain_trigger (i ∷ is) a e h = chain_trigger is a e h

module _ (b : Bound) (process : BoundProcess) (total : ℕ) (code : List Node) where
  -- what remains stands at the node, without values
  abbrev pub StandsAt : List Item → ℕ → Type 0
  StandsAt items pc = Stands b process total code items no_values [] pc

  -- a node there that is neither a wait nor a trigger
  pub record Passes (pc : ℕ) (i : Node) : Type 0 where
    pub is : slice_get code pc ≡ Some i
    pub on : marked_kind i.kind ≡ false

  -- a node there that is no wait
  pub record TriggersAt (pc : ℕ) (i : Node) : Type 0 where
    pub is : slice_get code pc ≡ Some i
    pub on : is_wait i ≡ false

  -- a wait there
  pub record WaitsAt (pc : ℕ) (i : Node) (pause : Pause) : Type 0 where
    pub is : slice_get code pc ≡ Some i
    pub line : i.line ≡ pause.line
    pub waits : WaitsFor i.kind pause
    pub behind : StandsAt pause.behind i.next

  -- the nodes from pc on are as the tree says
  abbrev pub Rooted : Tree → ℕ → Type 0
  Rooted (Out items) pc = StandsAt items pc
  Rooted (Ends i) pc = Passes pc i × ((m : ℕ) → Contains (successors i) m → ⊥)
  Rooted (Waits i pause) pc = WaitsAt pc i pause
  Rooted (Sets i a) pc = TriggersAt pc i × (q : ℕ) × OneWay (successors i) q × Rooted a q
  Rooted (Goes i a) pc = Passes pc i × (q : ℕ) × OneWay (successors i) q × Rooted a q
  Rooted (Forks i a c) pc = Passes pc i × (q : ℕ) × (r : ℕ) × TwoWays (successors i) q r × Rooted a q × Rooted c r

  -- something is touched that passes the test
  abbrev pub node_some : (Touch → Bool) → Node → Bool
  node_some test i = list_any test (touched_by b.events i.kind)

  abbrev pub tree_some : (Touch → Bool) → Tree → Bool
  tree_some test (Out items) = false
  tree_some test (Ends i) = node_some test i
  tree_some test (Waits i pause) = node_some test i
  tree_some test (Sets i a) = node_some test i || tree_some test a
  tree_some test (Goes i a) = node_some test i || tree_some test a
  tree_some test (Forks i a c) = node_some test i || (tree_some test a || tree_some test c)

  -- the nodes from pc on lead to these, touch these, name these events in triggers, and wait so
  pub record Does (to : List (List Item)) (touched : List Touch) (named : List ℕ) (paused : List Pause) (pc : ℕ) : Type 0 where
    pub tree : Tree
    pub headed : IsHeaded tree
    pub rooted : Rooted tree pc
    pub outs : (y : List Item) → HasOut tree y → Contains to y
    pub ways : (y : List Item) → Contains to y → HasOut tree y
    pub touches : (test : Touch → Bool) → tree_some test tree ≡ list_any test touched
    pub names : (e : ℕ) → HasTrigger tree e → Contains named e
    pub triggers : (e : ℕ) → Contains named e → HasTrigger tree e
    pub waits : (p : Pause) → HasPause tree p → Contains paused p
    pub pauses : (p : Pause) → Contains paused p → HasPause tree p

  -- the nodes of the first item: they lead where it leads, touch what it touches, and wait as it waits
  abbrev pub Block : List Item → ℕ → Type 0
  Block items pc = Does (goes_to b items) (first_touches b items) (first_triggers process items) (first_pauses b process items) pc

  pub chain_some : (test : Touch → Bool) (is : List Node) (a : Tree) → tree_some test (chain is a) ≡ (nodes_some (home_of b process) test is || tree_some test a)
  chain_some test [] a = refl
  chain_some test (i ∷ is) a =
      ap (λ x. node_some test i || x) (chain_some test is a) ∙ or_assoc (node_some test i) (nodes_some (home_of b process) test is) (tree_some test a)

  -- ---- what is reached from the root

  pub reach_on : (a c d : ℕ) → Reaches code a c → Reaches code c d → Reaches code a d
  reach_on a c d r here = r
  reach_on a c d r (further s is m) = further (reach_on a c _ r s) is m

  pub record OutReached (start : ℕ) (y : List Item) : Type 0 where
    pub at : ℕ
    pub reached : Reaches code start at
    pub stands : StandsAt y at

  pub record PauseReached (start : ℕ) (pause : Pause) : Type 0 where
    pub at : ℕ
    pub node : Node
    pub reached : Reaches code start at
    pub waits : WaitsAt at node pause

  pub record TriggerReached (start event : ℕ) : Type 0 where
    pub at : ℕ
    pub node : Node
    pub reached : Reaches code start at
    pub is : slice_get code at ≡ Some node
    pub names : Contains (trigger_events node.kind) event

  pub record TouchReached (start : ℕ) (test : Touch → Bool) : Type 0 where
    pub at : ℕ
    pub node : Node
    pub reached : Reaches code start at
    pub is : slice_get code at ≡ Some node
    pub touches : node_some test node ≡ true

  pub out_reached : (a : Tree) (start n : ℕ) (y : List Item) → Reaches code start n → Rooted a n → HasOut a y → OutReached start y
  out_reached (Out items) start n y r h o = record { at = n; reached = r; stands = subst (λ z. StandsAt z n) o h }
  out_reached (Ends i) start n y r h o = absurd o
  out_reached (Waits i pause) start n y r h o = absurd o
  out_reached (Sets i a) start n y r h o = out_reached a start h.1 y (further r h.0.is h.2.there) h.3 o
  out_reached (Goes i a) start n y r h o = out_reached a start h.1 y (further r h.0.is h.2.there) h.3 o
  out_reached (Forks i a c) start n y r h o =
      ⊎_elim (λ o. out_reached a start h.1 y (further r h.0.is h.3.first) h.4 o)
      (λ o. out_reached c start h.2 y (further r h.0.is h.3.second) h.5 o) o

  pub pause_reached : (a : Tree) (start n : ℕ) (p : Pause) → Reaches code start n → Rooted a n → HasPause a p → PauseReached start p
  pause_reached (Out items) start n p r h o = absurd o
  pause_reached (Ends i) start n p r h o = absurd o
  pause_reached (Waits i pause) start n p r h o = subst (λ p. PauseReached start p) o (record { at = n; node = i; reached = r; waits = h })
  pause_reached (Sets i a) start n p r h o = pause_reached a start h.1 p (further r h.0.is h.2.there) h.3 o
  pause_reached (Goes i a) start n p r h o = pause_reached a start h.1 p (further r h.0.is h.2.there) h.3 o
  pause_reached (Forks i a c) start n p r h o =
      ⊎_elim (λ o. pause_reached a start h.1 p (further r h.0.is h.3.first) h.4 o)
      (λ o. pause_reached c start h.2 p (further r h.0.is h.3.second) h.5 o) o

  pub trigger_reached : (a : Tree) (start n e : ℕ) → Reaches code start n → Rooted a n → HasTrigger a e → TriggerReached start e
  trigger_reached (Out items) start n e r h o = absurd o
  trigger_reached (Ends i) start n e r h o = absurd o
  trigger_reached (Waits i pause) start n e r h o = absurd o
  trigger_reached (Sets i a) start n e r h o =
      ⊎_elim (λ c. record { at = n; node = i; reached = r; is = h.0.is; names = c })
      (λ o. trigger_reached a start h.1 e (further r h.0.is h.2.there) h.3 o) o
  trigger_reached (Goes i a) start n e r h o = trigger_reached a start h.1 e (further r h.0.is h.2.there) h.3 o
  trigger_reached (Forks i a c) start n e r h o =
      ⊎_elim (λ o. trigger_reached a start h.1 e (further r h.0.is h.3.first) h.4 o)
      (λ o. trigger_reached c start h.2 e (further r h.0.is h.3.second) h.5 o) o

  touched_here : (i : Node) (start n : ℕ) (test : Touch → Bool) → Reaches code start n → slice_get code n ≡ Some i → node_some test i ≡ true → TouchReached start test
  touched_here i start n test r is t = record { at = n; node = i; reached = r; is = is; touches = t }

  pub touch_reached : (a : Tree) (start n : ℕ) (test : Touch → Bool) → Reaches code start n → Rooted a n → tree_some test a ≡ true → TouchReached start test
  touch_reached (Out items) start n test r h t = absurd cc
  touch_reached (Ends i) start n test r h t = touched_here i start n test r h.0.is t
  touch_reached (Waits i pause) start n test r h t = touched_here i start n test r h.is t
  touch_reached (Sets i a) start n test r h t =
      ⊎_elim (λ t. touched_here i start n test r h.0.is t)
      (λ t. touch_reached a start h.1 test (further r h.0.is h.2.there) h.3 t)
      (or_either (node_some test i) (tree_some test a) t)
  touch_reached (Goes i a) start n test r h t =
      ⊎_elim (λ t. touched_here i start n test r h.0.is t)
      (λ t. touch_reached a start h.1 test (further r h.0.is h.2.there) h.3 t)
      (or_either (node_some test i) (tree_some test a) t)
  touch_reached (Forks i a c) start n test r h t =
      ⊎_elim (λ t. touched_here i start n test r h.0.is t)
      (λ t.
      ⊎_elim (λ t. touch_reached a start h.1 test (further r h.0.is h.3.first) h.4 t)
      (λ t. touch_reached c start h.2 test (further r h.0.is h.3.second) h.5 t)
      (or_either (tree_some test a) (tree_some test c) t))
      (or_either (node_some test i) (tree_some test a || tree_some test c) t)

  -- ---- a part of a tree

  -- a tree does no more than the first of these items
  pub record Inside (items : List Item) (a : Tree) : Type 0 where
    pub outs : (y : List Item) → HasOut a y → Contains (goes_to b items) y
    pub touches : (test : Touch → Bool) → tree_some test a ≡ true → list_any test (first_touches b items) ≡ true
    pub names : (e : ℕ) → HasTrigger a e → Contains (first_triggers process items) e
    pub waits : (p : Pause) → HasPause a p → Contains (first_pauses b process items) p

  -- node n begins a part of the nodes of the first of these items
  pub record Part (items : List Item) (n : ℕ) : Type 0 where
    pub tree : Tree
    pub headed : IsHeaded tree
    pub rooted : Rooted tree n
    pub inside : Inside items tree

  pub part_of : (items : List Item) (n : ℕ) → Block items n → Part items n
  part_of items n x = record {
    tree = x.tree;
    headed = x.headed;
    rooted = x.rooted;
    inside = record { outs = x.outs; touches = λ test t. sym (x.touches test) ∙ t; names = x.names; waits = x.waits };
  }

  -- ---- where a node of a part leads

  -- what remains behind an item stands there
  pub record OutAt (items : List Item) (m : ℕ) : Type 0 where
    pub later : List Item
    pub goes : Contains (goes_to b items) later
    pub stands : StandsAt later m

  -- to a part, or to what remains behind the item
  abbrev pub Led : List Item → ℕ → Type 0
  Led items m = Part items m ⊎ OutAt items m

  abbrev part_at : (items : List Item) (m : ℕ) (a : Tree) → IsHeaded a → Rooted a m → Inside items a → Led items m
  part_at items m a d h x = inl (record { tree = a; headed = d; rooted = h; inside = x })

  branch : (items : List Item) (m : ℕ) (a : Tree) → Rooted a m → Inside items a → Led items m
  branch items m (Out y) h x = inr (record { later = y; goes = x.outs y refl; stands = h })
  branch items m (Ends i) h x = part_at items m (Ends i) tt h x
  branch items m (Waits i pause) h x = part_at items m (Waits i pause) tt h x
  branch items m (Sets i a) h x = part_at items m (Sets i a) tt h x
  branch items m (Goes i a) h x = part_at items m (Goes i a) tt h x
  branch items m (Forks i a c) h x = part_at items m (Forks i a c) tt h x

  same_node : (n : ℕ) (i j : Node) → slice_get code n ≡ Some i → slice_get code n ≡ Some j → i ≡ j
  same_node n i j e f = let g : Some i ≡ Some j = sym e ∙ f in cc

  -- a smaller tree is inside what the whole is inside of
  inside_goes : (items : List Item) (i : Node) (a : Tree) → Inside items (Goes i a) → Inside items a
  inside_goes items i a x = record {
    outs = x.outs;
    touches = λ test s. x.touches test (or_right (node_some test i) (tree_some test a) s);
    names = x.names;
    waits = x.waits;
  }

  inside_sets : (items : List Item) (i : Node) (a : Tree) → Inside items (Sets i a) → Inside items a
  inside_sets items i a x = record {
    outs = x.outs;
    touches = λ test s. x.touches test (or_right (node_some test i) (tree_some test a) s);
    names = λ e s. x.names e (inr s);
    waits = x.waits;
  }

  inside_first : (items : List Item) (i : Node) (a c : Tree) → Inside items (Forks i a c) → Inside items a
  inside_first items i a c x = record {
    outs = λ y s. x.outs y (inl s);
    touches = λ test s.
        x.touches test (or_right (node_some test i) (tree_some test a || tree_some test c) (or_left (tree_some test a) (tree_some test c) s));
    names = λ e s. x.names e (inl s);
    waits = λ p s. x.waits p (inl s);
  }

  inside_second : (items : List Item) (i : Node) (a c : Tree) → Inside items (Forks i a c) → Inside items c
  inside_second items i a c x = record {
    outs = λ y s. x.outs y (inr s);
    touches = λ test s.
        x.touches test (or_right (node_some test i) (tree_some test a || tree_some test c) (or_right (tree_some test a) (tree_some test c) s));
    names = λ e s. x.names e (inr s);
    waits = λ p s. x.waits p (inr s);
  }

  led : (items : List Item) (n m : ℕ) (i : Node) (a : Tree) → IsHeaded a → Rooted a n → Inside items a → slice_get code n ≡ Some i → Contains (successors i) m → Led items m
  led items n m i (Out y) d h x e c = absurd d
  led items n m i (Ends j) d h x e c =
      absurd (h.1 m (subst (λ (i : Node). Contains (successors i) m) (same_node n i j e h.0.is) c))
  led items n m i (Waits j pause) d h x e c =
      absurd (waits_end j.kind j.next m pause h.waits (subst (λ (i : Node). Contains (successors i) m) (same_node n i j e h.is) c))
  led items n m i (Sets j a) d h x e c =
      let same = h.2.only m (subst (λ (i : Node). Contains (successors i) m) (same_node n i j e h.0.is) c) in
      branch items m a (subst (λ q. Rooted a q) same h.3) (inside_sets items j a x)
  led items n m i (Goes j a) d h x e c =
      let same = h.2.only m (subst (λ (i : Node). Contains (successors i) m) (same_node n i j e h.0.is) c) in
      branch items m a (subst (λ q. Rooted a q) same h.3) (inside_goes items j a x)
  led items n m i (Forks j a f) d h x e c =
      ⊎_elim (λ same. branch items m a (subst (λ q. Rooted a q) same h.4) (inside_first items j a f x))
      (λ same. branch items m f (subst (λ q. Rooted f q) same h.5) (inside_second items j a f x))
      (h.3.only m (subst (λ (i : Node). Contains (successors i) m) (same_node n i j e h.0.is) c))

  -- where a node of a part leads within its segment
  pub part_leads : (items : List Item) (n m : ℕ) (i : Node) → Part items n → slice_get code n ≡ Some i → Contains (successors i) m → Led items m
  part_leads items n m i x e c = led items n m i x.tree x.headed x.rooted x.inside e c

  -- ---- what the first node of a part does

  -- what it touches
  first_some : (n : ℕ) (i : Node) (test : Touch → Bool) (a : Tree) → IsHeaded a → Rooted a n → slice_get code n ≡ Some i → node_some test i ≡ true → tree_some test a ≡ true
  first_some n i test (Out y) d h e t = absurd d
  first_some n i test (Ends j) d h e t = subst (λ (i : Node). node_some test i ≡ true) (same_node n i j e h.0.is) t
  first_some n i test (Waits j pause) d h e t = subst (λ (i : Node). node_some test i ≡ true) (same_node n i j e h.is) t
  first_some n i test (Sets j a) d h e t =
      or_left (node_some test j) (tree_some test a) (subst (λ (i : Node). node_some test i ≡ true) (same_node n i j e h.0.is) t)
  first_some n i test (Goes j a) d h e t =
      or_left (node_some test j) (tree_some test a) (subst (λ (i : Node). node_some test i ≡ true) (same_node n i j e h.0.is) t)
  first_some n i test (Forks j a c) d h e t =
      or_left (node_some test j) (tree_some test a || tree_some test c) (subst (λ (i : Node). node_some test i ≡ true) (same_node n i j e h.0.is) t)

  pub part_touches : (items : List Item) (n : ℕ) (i : Node) (test : Touch → Bool) → Part items n → slice_get code n ≡ Some i → node_some test i ≡ true → list_any test (first_touches b items) ≡ true
  part_touches items n i test x e t = x.inside.touches test (first_some n i test x.tree x.headed x.rooted e t)

  -- which events it names in a trigger
  none_named : (n : ℕ) (i j : Node) (e : ℕ) → slice_get code n ≡ Some i → slice_get code n ≡ Some j → trigger_events j.kind ≡ [] → Contains (trigger_events i.kind) e → ⊥
  none_named n i j e is at none c =
      not_in_none e (subst (λ es. Contains es e) none (subst (λ (i : Node). Contains (trigger_events i.kind) e) (same_node n i j is at) c))

  first_names : (n : ℕ) (i : Node) (e : ℕ) (a : Tree) → IsHeaded a → Rooted a n → slice_get code n ≡ Some i → Contains (trigger_events i.kind) e → HasTrigger a e
  first_names n i e (Out y) d h is c = absurd d
  first_names n i e (Ends j) d h is c = absurd (none_named n i j e is h.0.is (no_trigger j.kind h.0.on) c)
  first_names n i e (Waits j pause) d h is c = absurd (none_named n i j e is h.is (wait_triggers j.kind pause h.waits) c)
  first_names n i e (Sets j a) d h is c = inl (subst (λ (i : Node). Contains (trigger_events i.kind) e) (same_node n i j is h.0.is) c)
  first_names n i e (Goes j a) d h is c = absurd (none_named n i j e is h.0.is (no_trigger j.kind h.0.on) c)
  first_names n i e (Forks j a f) d h is c = absurd (none_named n i j e is h.0.is (no_trigger j.kind h.0.on) c)

  pub part_names : (items : List Item) (n : ℕ) (i : Node) (e : ℕ) → Part items n → slice_get code n ≡ Some i → Contains (trigger_events i.kind) e → Contains (first_triggers process items) e
  part_names items n i e x is c = x.inside.names e (first_names n i e x.tree x.headed x.rooted is c)

  -- how it waits
  pub record PauseAt (items : List Item) (n : ℕ) : Type 0 where
    pub pause : Pause
    pub node : Node
    pub pauses : Contains (first_pauses b process items) pause
    pub waits : WaitsAt n node pause

  no_pause : (n : ℕ) (i j : Node) → slice_get code n ≡ Some i → slice_get code n ≡ Some j → is_wait j ≡ false → is_wait i ≡ true → ⊥
  no_pause n i j e f on w = let u : is_wait j ≡ true = subst (λ (i : Node). is_wait i ≡ true) (same_node n i j e f) w in absurd cc

  first_waits : (items : List Item) (n : ℕ) (i : Node) (a : Tree) → IsHeaded a → Rooted a n → Inside items a → slice_get code n ≡ Some i → is_wait i ≡ true → PauseAt items n
  first_waits items n i (Out y) d h x e t = absurd d
  first_waits items n i (Ends j) d h x e t = absurd (no_pause n i j e h.0.is (no_wait j h.0.on) t)
  first_waits items n i (Waits j pause) d h x e t = record { pause = pause; node = j; pauses = x.waits pause refl; waits = h }
  first_waits items n i (Sets j a) d h x e t = absurd (no_pause n i j e h.0.is h.0.on t)
  first_waits items n i (Goes j a) d h x e t = absurd (no_pause n i j e h.0.is (no_wait j h.0.on) t)
  first_waits items n i (Forks j a c) d h x e t = absurd (no_pause n i j e h.0.is (no_wait j h.0.on) t)

  pub part_waits : (items : List Item) (n : ℕ) (i : Node) → Part items n → slice_get code n ≡ Some i → is_wait i ≡ true → PauseAt items n
  part_waits items n i x e t = first_waits items n i x.tree x.headed x.rooted x.inside e t
