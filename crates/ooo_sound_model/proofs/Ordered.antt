-- In a walk each binding leads from a port of an instance to one of an instance that is over later.
use Rattle.std.proofs.Common.{◌≡◌, ◌∙◌, refl, sym, ap, subst, arith, ℕ, ◌+◌, ◌<◌, List, [], ◌∷◌, ◌++◌, length, length-append, Option, Some, None, ◌⊎◌, inl, inr}
use Rattle.std.specs.Prelude.{slice_get}
use Rattle.std.proofs.lemmas.Option.{slice_get_within}
use Rattle.ooo_lemmas.proofs.Placed.{kept_at, at_push}
use Rattle.ooo_checked.specs.declared.denotation.Denotation.{Denotation}
use Rattle.ooo_checked.specs.declared.denotation.Thing.{Thing}
use Rattle.ooo_checked.specs.declared.denotation.Thing.TheVariants as thing
use Rattle.ooo_constants.specs.declared.meaning.Meaning.{Meaning}
use Rattle.ooo_constants.specs.declared.meaning.Meaning.TheVariants as meaning
use Rattle.ooo_walk.specs.declared.state.Walk.{Walk}
use Rattle.ooo_walk.specs.declared.state.WalkedBinding.{WalkedBinding}
use Rattle.ooo_walk.specs.declared.state.WalkedInstance.{WalkedInstance}
use Rattle.ooo_walk.specs.Setups.{end_of, end_meant, port_in}
use Rattle.ooo_sound_model.proofs.Kept.{IsNoPort, IsQuiet, IsKept}

-- ---- ports in lists

-- some name means the port
abbrev pub Means : List Meaning → ℕ → Type 0
Means ms q = (x : ℕ) × (slice_get ms x ≡ Some (meaning.Port q))

-- an instance has it
pub record IsIn (is : List WalkedInstance) (q : ℕ) : Type 0 where
  pub place : ℕ
  pub instance : WalkedInstance
  pub there : slice_get is place ≡ Some instance
  pub has : Means instance.members q

-- an instance has the one, and none up to it the other
pub record IsBefore (is : List WalkedInstance) (p q : ℕ) : Type 0 where
  pub place : ℕ
  pub instance : WalkedInstance
  pub there : slice_get is place ≡ Some instance
  pub has : Means instance.members p
  pub later : (k : ℕ) (i : WalkedInstance) → slice_get is k ≡ Some i → Means i.members q → place < k

-- each binding of a port to a port leads on
abbrev pub Leads : List WalkedInstance → List WalkedBinding → Type 0
Leads is bs = (k : ℕ) (b : WalkedBinding) → slice_get bs k ≡ Some b → (q : ℕ) → b.to ≡ meaning.Port q → IsBefore is b.port q

means_one : (ms : List Meaning) (m : Meaning) (q : ℕ) → Means (ms ++ m ∷ []) q → Means ms q ⊎ (m ≡ meaning.Port q)
means_one ms m q h = elim (at_push ms m (meaning.Port q) h.0 h.1) [ inl old ↦ inl (h.0, old) | inr new ↦ inr new.1 ]

no_port : (m : Meaning) (q : ℕ) → IsNoPort m → m ≡ meaning.Port q → ⊥
no_port m q none is = subst IsNoPort is none

in_one : (is : List WalkedInstance) (i : WalkedInstance) (q : ℕ) → IsIn (is ++ i ∷ []) q → IsIn is q ⊎ Means i.members q
in_one is i q h = elim (at_push is i h.instance h.place h.there) [
  | inl old ↦ inl (record { place = h.place; instance = h.instance; there = old; has = h.has })
  | inr new ↦ inr (subst (λ (j : WalkedInstance). Means j.members q) (sym new.1) h.has)
]

before_one : (is : List WalkedInstance) (i : WalkedInstance) (p q : ℕ) → IsBefore is p q → IsBefore (is ++ i ∷ []) p q
before_one is i p q h = record {
  place = h.place;
  instance = h.instance;
  there = kept_at is (i ∷ []) h.place h.instance h.there;
  has = h.has;
  later = λ k j at has. elim (at_push is i j k at) [
    | inl old ↦ h.later k j old has
    | inr new ↦ let within = slice_get_within is h.place h.instance h.there in let e = new.0 in omega (arith, within, e)
  ];
}

-- ---- the order

-- of the ports that others have, of the instances that are over, of the bindings, and of the names that are walked
pub record Order (S : ℕ → Type 0) (n : ℕ) (is : List WalkedInstance) (bs : List WalkedBinding) (ms : List Meaning) : Type 0 where
  pub apart : (q : ℕ) → S q → IsIn is q → ⊥
  pub away : (q : ℕ) → S q → Means ms q → ⊥
  pub fresh : (q : ℕ) → Means ms q → IsIn is q → ⊥
  pub low_others : (q : ℕ) → S q → q < n
  pub low_over : (q : ℕ) → IsIn is q → q < n
  pub low_here : (q : ℕ) → Means ms q → q < n
  pub leads : Leads is bs

module _ (S : ℕ → Type 0) (n : ℕ) (is : List WalkedInstance) (bs : List WalkedBinding) (ms : List Meaning) (h : Order S n is bs ms) where
  old_name : (m : Meaning) → IsNoPort m → (q : ℕ) → Means (ms ++ m ∷ []) q → Means ms q
  old_name m none q at = elim (means_one ms m q at) [ inl old ↦ old | inr new ↦ absurd (no_port m q none new) ]

  pub name_more : (m : Meaning) → IsNoPort m → Order S n is bs (ms ++ m ∷ [])
  name_more m none = record {
    apart = h.apart;
    away = λ q s at. h.away q s (old_name m none q at);
    fresh = λ q at. h.fresh q (old_name m none q at);
    low_others = h.low_others;
    low_over = h.low_over;
    low_here = λ q at. h.low_here q (old_name m none q at);
    leads = h.leads;
  }

  number_is : (q : ℕ) → meaning.Port n ≡ meaning.Port q → n ≡ q
  number_is q e = cc

  pub port_more : (k : ℕ) → n + 1 ≡ k → Order S k is bs (ms ++ meaning.Port n ∷ [])
  port_more k more = record {
    apart = h.apart;
    away = λ q s at. elim (means_one ms (meaning.Port n) q at) [
      | inl old ↦ h.away q s old
      | inr new ↦ let same = number_is q new in let low = h.low_others q s in absurd (omega (arith, same, low))
    ];
    fresh = λ q at i. elim (means_one ms (meaning.Port n) q at) [
      | inl old ↦ h.fresh q old i
      | inr new ↦ let same = number_is q new in let low = h.low_over q i in absurd (omega (arith, same, low))
    ];
    low_others = λ q s. let low = h.low_others q s in omega (arith, low, more);
    low_over = λ q i. let low = h.low_over q i in omega (arith, low, more);
    low_here = λ q at. elim (means_one ms (meaning.Port n) q at) [
      | inl old ↦ let low = h.low_here q old in omega (arith, low, more)
      | inr new ↦ let same = number_is q new in omega (arith, same, more)
    ];
    leads = h.leads;
  }

  -- a binding of a port of an instance that is over, to a name that is walked
  pub binding_more : (b : WalkedBinding) → IsIn is b.port → ((q : ℕ) → b.to ≡ meaning.Port q → Means ms q) → Order S n is (bs ++ b ∷ []) ms
  binding_more b over named = record {
    apart = h.apart;
    away = h.away;
    fresh = h.fresh;
    low_others = h.low_others;
    low_over = h.low_over;
    low_here = h.low_here;
    leads = λ k c at q to. elim (at_push bs b c k at) [
      | inl old ↦ h.leads k c old q to
      | inr new ↦ subst (λ (d : WalkedBinding). IsBefore is d.port q) new.1 (record {
        place = over.place;
        instance = over.instance;
        there = over.there;
        has = over.has;
        later = λ j i there has. absurd (h.fresh q (named q (ap (λ (d : WalkedBinding). d.to) new.1 ∙ to))
            (record { place = j; instance = i; there = there; has = has }));
      })
    ];
  }

  -- an instance begins: the names that were walked are those of others
  pub begins : Order (λ q. S q ⊎ Means ms q) n is bs []
  begins = record {
    apart = λ q s i. elim s [ inl other ↦ h.apart q other i | inr own ↦ h.fresh q own i ];
    away = λ q s at. absurd (let e = at.1 in cc);
    fresh = λ q at i. absurd (let e = at.1 in cc);
    low_others = λ q s. elim s [ inl other ↦ h.low_others q other | inr own ↦ h.low_here q own ];
    low_over = h.low_over;
    low_here = λ q at. absurd (let e = at.1 in cc);
    leads = h.leads;
  }

-- it is over
pub ends : (S : ℕ → Type 0) (n k : ℕ) (is : List WalkedInstance) (bs : List WalkedBinding) (ms inner : List Meaning) (module_number : ℕ) →
    ((q : ℕ) → S q → Means ms q → ⊥) → Order (λ q. S q ⊎ Means ms q) n is bs inner →
    Order S n (is ++ record { module_number = module_number; members = inner } ∷ []) bs ms
ends S n k is bs ms inner module_number apart h =
    let made : WalkedInstance = record { module_number = module_number; members = inner } in record {
      apart = λ q s i. elim (in_one is made q i) [ inl old ↦ h.apart q (inl s) old | inr new ↦ h.away q (inl s) new ];
      away = apart;
      fresh = λ q at i. elim (in_one is made q i) [ inl old ↦ h.apart q (inr at) old | inr new ↦ h.away q (inr at) new ];
      low_others = λ q s. h.low_others q (inl s);
      low_over = λ q i. elim (in_one is made q i) [ inl old ↦ h.low_over q old | inr new ↦ h.low_here q new ];
      low_here = λ q at. h.low_others q (inr at);
      leads = λ j b at q to. before_one is made b.port q (h.leads j b at q to);
    }

-- ---- walks

abbrev pub Ordered : (ℕ → Type 0) → Walk → Type 0
Ordered S w = Order S (length w.ports) w.instances w.bindings w.here.members

end_is : (o : Option Meaning) (q : ℕ) → end_meant o ≡ meaning.Port q → o ≡ Some (meaning.Port q)
end_is None q h = absurd cc
end_is (Some m) q h = ap Some h

end_named : (d : Denotation) (w : Walk) (q : ℕ) → end_of d w ≡ meaning.Port q → Means w.here.members q
end_named d w q h = (d.number, end_is (slice_get w.here.members d.number) q (by d.thing h))
  where
    by : (t : Thing) → (let m : Meaning = elim t [
      | thing.Clock ↦ end_meant (slice_get w.here.members d.number)
      | thing.Signal k ↦ end_meant (slice_get w.here.members d.number)
      | thing.Fifo k ↦ end_meant (slice_get w.here.members d.number)
      | thing.SignalPort direction k ↦ end_meant (slice_get w.here.members d.number)
      | thing.FifoIn k ↦ end_meant (slice_get w.here.members d.number)
      | thing.FifoOut k ↦ end_meant (slice_get w.here.members d.number)
      | _ ↦ meaning.Nothing
    ] in m) ≡ meaning.Port q → end_meant (slice_get w.here.members d.number) ≡ meaning.Port q
    by thing.Clock h = h
    by (thing.Signal k) h = h
    by (thing.Fifo k) h = h
    by (thing.SignalPort direction k) h = h
    by (thing.FifoIn k) h = h
    by (thing.FifoOut k) h = h
    by _ h = absurd cc

port_over : (is : List WalkedInstance) (i name p : ℕ) (o : Option WalkedInstance) → slice_get is i ≡ o → port_in o name ≡ Some (meaning.Port p) → IsIn is p
port_over is i name p None at h = absurd cc
port_over is i name p (Some j) at h = record { place = i; instance = j; there = at; has = (name, h) }

pub ordered_quiet : (S : ℕ → Type 0) → IsQuiet (Ordered S)
ordered_quiet S = record {
  refusal = λ w r h. h;
  objects = λ w n h. h;
  cells = λ w n h. h;
  file = λ w ms h. h;
  stop = λ w t within h. h;
  resets = λ w x b v is h. h;
  binding = λ w i name p d at is h. binding_more S (length w.ports) w.instances w.bindings w.here.members h
      (record { port = p; to = end_of d w; at = at }) (port_over w.instances i name p (slice_get w.instances i) refl is) (end_named d w);
}

pub ordered_kept : (S : ℕ → Type 0) → IsKept (Ordered S)
ordered_kept S = record {
  quiet = ordered_quiet S;
  named = λ w m none h. name_more S (length w.ports) w.instances w.bindings w.here.members h m none;
  statics = λ w ms h. h;
  variable = λ w x h. h;
  opens_channel = λ w b is_clock at name h. h;
  port = λ w t at name h. port_more S (length w.ports) w.instances w.bindings w.here.members h
      (length (w.ports ++ record { form = t; name = name; at = at } ∷ [])) (sym (length-append w.ports _));
  opens_event = λ w h. h;
}
