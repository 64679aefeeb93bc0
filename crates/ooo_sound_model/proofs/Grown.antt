-- Who holds the ends of channels, as processes are added: who holds one goes on to hold it.
use Rattle.std.proofs.Common.{◌≡◌, ◌∙◌, refl, ap, sym, subst, arith, ℕ, zero, suc, ◌<◌, List, [], ◌∷◌, length, length-set, slice_set, Bool, true, false, Option, Some, None, ◌⊎◌, inl, inr}
use Rattle.std.specs.Prelude.{◌==◌, slice_get, if◌then◌else◌, ⊤}
use Rattle.std.proofs.lemmas.Bool.{eqb-true}
use Rattle.ooo_code.specs.Touches.{Touch, Reads, Writes, ReadsSignal, WritesSignal, HoldsReading, HoldsWriting, Notifies, Cancels}
use Rattle.ooo_elaborate.specs.declared.holders.End.{End}
use Rattle.ooo_elaborate.specs.declared.holders.End.TheVariants.{Reading, Writing}
use Rattle.ooo_elaborate.specs.declared.holders.Held.{Held}
use Rattle.ooo_elaborate.specs.declared.holders.Holders.{Holders}
use Rattle.ooo_elaborate.specs.Holding.{holds, holds_writing, holds_reading, with_holder, with_second}

-- ---- one end

-- a process holds it, or two others do
abbrev pub Among : ℕ → Holders → Type 0
Among p h = (h.first ≡ Some p) ⊎ ((q : ℕ) × (r : ℕ) × (h.first ≡ Some q) × (h.second ≡ Some r))

-- who holds it goes on to hold it
abbrev pub Keeps : Holders → Holders → Type 0
Keeps h g = (p : ℕ) → Among p h → Among p g

second_keeps : (first p : ℕ) (h : Holders) → Keeps h (with_second first p h)
second_keeps first p h q a =
    elim (first == p) as (λ t. Among q (if t then h else elim (h.second) [ None ↦ record h { second = Some p } | Some r ↦ h ])) [
      | true ↦ a
      | false ↦ at (h.second) refl
    ]
  where
    at : (o : Option ℕ) → h.second ≡ o → Among q (elim o [ None ↦ record h { second = Some p } | Some r ↦ h ])
    at (Some r) is = a
    at None is = elim a [ inl w ↦ inl w | inr w ↦ inr (w.0, p, w.2, refl) ]

holder_keeps : (p : ℕ) (h : Holders) → Keeps h (with_holder p h)
holder_keeps p h q a = at (h.first) refl
  where
    at : (o : Option ℕ) → h.first ≡ o → Among q (elim o [ None ↦ record h { first = Some p } | Some first ↦ with_second first p h ])
    at (Some first) is = second_keeps first p h q a
    at None is = elim a [ inl w ↦ absurd cc | inr w ↦ absurd cc ]

second_holds : (first p : ℕ) (h : Holders) → h.first ≡ Some first → Among p (with_second first p h)
second_holds first p h is = same (first == p) refl
  where
    at : (o : Option ℕ) → h.second ≡ o → Among p (elim o [ None ↦ record h { second = Some p } | Some r ↦ h ])
    at None of = inr (first, p, is, refl)
    at (Some r) of = inr (first, r, is, of)

    same : (t : Bool) → (first == p) ≡ t →
        Among p (if t then h else elim (h.second) [ None ↦ record h { second = Some p } | Some r ↦ h ])
    same true of = inl (is ∙ ap Some (eqb-true first p of))
    same false of = at (h.second) refl

-- a process that is added holds it
holder_holds : (p : ℕ) (h : Holders) → Among p (with_holder p h)
holder_holds p h = at (h.first) refl
  where
    at : (o : Option ℕ) → h.first ≡ o → Among p (elim o [ None ↦ record h { first = Some p } | Some first ↦ with_second first p h ])
    at None is = inl refl
    at (Some first) is = second_holds first p h is

-- ---- all ends

-- the same of both ends of a channel
pub record Improves (h g : Held) : Type 0 where
  pub writers : Keeps h.writers g.writers
  pub readers : Keeps h.readers g.readers

pub same_improves : (h : Held) → Improves h h
same_improves h = record { writers = λ p a. a; readers = λ p a. a }

-- and of each channel
pub record Grows (hs gs : List Held) : Type 0 where
  pub all : length gs ≡ length hs
  pub at : (c : ℕ) (h : Held) → slice_get hs c ≡ Some h → (g : Held) × (slice_get gs c ≡ Some g) × Improves h g

pub stays : (hs : List Held) → Grows hs hs
stays hs = record { all = refl; at = λ c h is. (h, is, same_improves h) }

pub grows_on : (hs gs fs : List Held) → Grows hs gs → Grows gs fs → Grows hs fs
grows_on hs gs fs a b = record {
  all = b.all ∙ a.all;
  at = λ c h is.
      let one = a.at c h is in
      let two = b.at c one.0 one.1 in (
        two.0,
        two.1,
        record {
          writers = λ p k. two.2.writers p (one.2.writers p k);
          readers = λ p k. two.2.readers p (one.2.readers p k);
        },
      );
}

set_at : (hs : List Held) (c d : ℕ) (h g k : Held) → slice_get hs c ≡ Some h → Improves h g → slice_get hs d ≡ Some k →
    (k' : Held) × (slice_get (slice_set hs c g) d ≡ Some k') × Improves k k'
set_at [] c d h g k is more of = absurd cc
set_at (x ∷ hs) zero zero h g k is more of =
    let same : h ≡ k = cc in (g, refl, subst (λ z. Improves z g) same more)
set_at (x ∷ hs) zero (suc d) h g k is more of = (k, of, same_improves k)
set_at (x ∷ hs) (suc c) zero h g k is more of = (k, of, same_improves k)
set_at (x ∷ hs) (suc c) (suc d) h g k is more of = set_at hs c d h g k is more of

set_itself : (hs : List Held) (c : ℕ) (h g : Held) → slice_get hs c ≡ Some h → slice_get (slice_set hs c g) c ≡ Some g
set_itself [] c h g is = absurd cc
set_itself (x ∷ hs) zero h g is = refl
set_itself (x ∷ hs) (suc c) h g is = set_itself hs c h g is

set_grows : (hs : List Held) (c : ℕ) (h g : Held) → slice_get hs c ≡ Some h → Improves h g → Grows hs (slice_set hs c g)
set_grows hs c h g is more = record { all = length-set hs c g; at = λ d k of. set_at hs c d h g k is more of }

writing_grows : (p c : ℕ) (o : Option Held) (hs : List Held) → slice_get hs c ≡ o → Grows hs (holds_writing p c o hs)
writing_grows p c None hs is = stays hs
writing_grows p c (Some h) hs is =
    set_grows hs c h _ is (record { writers = holder_keeps p h.writers; readers = λ q a. a })

reading_grows : (p c : ℕ) (o : Option Held) (hs : List Held) → slice_get hs c ≡ o → Grows hs (holds_reading p c o hs)
reading_grows p c None hs is = stays hs
reading_grows p c (Some h) hs is =
    set_grows hs c h _ is (record { writers = λ q a. a; readers = holder_keeps p h.readers })

pub holds_grows : (p : ℕ) (e : End) (hs : List Held) → Grows hs (holds p e hs)
holds_grows p (Writing c) hs = writing_grows p c (slice_get hs c) hs refl
holds_grows p (Reading c) hs = reading_grows p c (slice_get hs c) hs refl

-- ---- what is touched

-- an end is held by a process, if there is its channel
pub record HoldsWriter (p c : ℕ) (hs : List Held) : Type 0 where
  pub held : Held
  pub is : slice_get hs c ≡ Some held
  pub among : Among p held.writers

pub record HoldsReader (p c : ℕ) (hs : List Held) : Type 0 where
  pub held : Held
  pub is : slice_get hs c ≡ Some held
  pub among : Among p held.readers

abbrev pub Covered : ℕ → List Held → Touch → Type 0
Covered p hs (Reads x) = ⊤
Covered p hs (Writes x) = ⊤
Covered p hs (ReadsSignal c) = ⊤
Covered p hs (WritesSignal c) = c < length hs → HoldsWriter p c hs
Covered p hs (HoldsReading c) = c < length hs → HoldsReader p c hs
Covered p hs (HoldsWriting c) = c < length hs → HoldsWriter p c hs
Covered p hs (Notifies e t) = ⊤
Covered p hs (Cancels e) = ⊤

pub writer_goes_on : (p c : ℕ) (hs gs : List Held) → Grows hs gs → (c < length hs → HoldsWriter p c hs) → c < length gs → HoldsWriter p c gs
writer_goes_on p c hs gs more h within =
    let k = h (subst (λ m. c < m) more.all within) in
    let g = more.at c k.held k.is in record { held = g.0; is = g.1; among = g.2.writers p k.among }

pub reader_goes_on : (p c : ℕ) (hs gs : List Held) → Grows hs gs → (c < length hs → HoldsReader p c hs) → c < length gs → HoldsReader p c gs
reader_goes_on p c hs gs more h within =
    let k = h (subst (λ m. c < m) more.all within) in
    let g = more.at c k.held k.is in record { held = g.0; is = g.1; among = g.2.readers p k.among }

found : (hs : List Held) (c : ℕ) → c < length hs → (h : Held) × (slice_get hs c ≡ Some h)
found [] c within = absurd (omega (arith, within))
found (h ∷ hs) zero within = (h, refl)
found (h ∷ hs) (suc c) within = found hs c (omega (arith, within))

writing_at : (p c : ℕ) (o : Option Held) (hs : List Held) → slice_get hs c ≡ o → c < length hs → HoldsWriter p c (holds_writing p c o hs)
writing_at p c None hs is within = absurd (let h = found hs c within in let e : None ≡ Some h.0 = sym is ∙ h.1 in cc)
writing_at p c (Some h) hs is within =
    record { held = record h { writers = with_holder p h.writers }; is = set_itself hs c h _ is; among = holder_holds p h.writers }

reading_at : (p c : ℕ) (o : Option Held) (hs : List Held) → slice_get hs c ≡ o → c < length hs → HoldsReader p c (holds_reading p c o hs)
reading_at p c None hs is within = absurd (let h = found hs c within in let e : None ≡ Some h.0 = sym is ∙ h.1 in cc)
reading_at p c (Some h) hs is within =
    record { held = record h { readers = with_holder p h.readers }; is = set_itself hs c h _ is; among = holder_holds p h.readers }

pub writing_holds : (p c : ℕ) (hs : List Held) → c < length (holds p (Writing c) hs) → HoldsWriter p c (holds p (Writing c) hs)
writing_holds p c hs within =
    writing_at p c (slice_get hs c) hs refl (subst (λ m. c < m) (holds_grows p (Writing c) hs).all within)

pub reading_holds : (p c : ℕ) (hs : List Held) → c < length (holds p (Reading c) hs) → HoldsReader p c (holds p (Reading c) hs)
reading_holds p c hs within =
    reading_at p c (slice_get hs c) hs refl (subst (λ m. c < m) (holds_grows p (Reading c) hs).all within)
