-- Of each name that members declare, the place of its member.
use Rattle.std.proofs.Common.{◌≡◌, ◌∙◌, refl, sym, ap, subst, arith, ℕ, suc, ◌+◌, ◌<◌, List, [], ◌∷◌, length, Bool, true, false, Some, None, inl, inr}
use Rattle.std.proofs.lemmas.List.{length-map, length-replicate}
use Rattle.std.proofs.lemmas.Option.{slice_get_within}
use Rattle.std.specs.Prelude.{slice_get, replicate, IsSome}
use Rattle.std.specs.List.{AllZip}
use Rattle.ooo_lemmas.proofs.Placed.{behind_at, replicated_or}
use Rattle.ooo_value.specs.declared.kinds.Kind.{Kind}
use Rattle.ooo_syntax.specs.declared.module.ChannelWord.{ChannelWord}
use Rattle.ooo_syntax.specs.declared.module.ChannelWord.TheVariants as channel_word
use Rattle.ooo_syntax.specs.declared.module.Member.{Member}
use Rattle.ooo_syntax.specs.declared.module.PortWord.{PortWord}
use Rattle.ooo_syntax.specs.declared.module.PortWord.TheVariants as port_word
use Rattle.ooo_checked.specs.declared.denotation.Thing.{Thing}
use Rattle.ooo_checked.specs.declared.denotation.Thing.TheVariants as thing
use Rattle.ooo_checked.specs.declared.module.CheckedFieldForm.{CheckedFieldForm}
use Rattle.ooo_checked.specs.declared.module.CheckedFieldForm.TheVariants as form
use Rattle.ooo_checked.specs.declared.module.CheckedMember.{CheckedMember}
use Rattle.ooo_checked.specs.declared.module.CheckedMember.TheVariants as member
use Rattle.ooo_checked.specs.Exprs.{kind_written}
use Rattle.ooo_checked.specs.Scopes.{Scope}
use Rattle.ooo_walk.specs.Instances.{port_form}
use Rattle.ooo_walk.specs.Plans.{as_function, member_placed, names_in, places_from}
use Rattle.ooo_sound_walk.specs.Names.{channel_thing, field_thing, things_in, things_of}
use Rattle.ooo_sound_text.specs.Names.{FunctionsAreThere}
use Rattle.ooo_sound_text.proofs.Entries.{Entry, entries_in, entries_of}
use Rattle.ooo_sound_text.proofs.Lists.{before_at, first_or, mapped_at, only_at, replicated_at}
use Rattle.ooo_sound_text.proofs.Members.{IsReadAs, things_read}

-- a member declares as many things as names
pub as_many : (m : CheckedMember) → length (things_in m) ≡ names_in m
as_many member.Public = refl
as_many (member.Constant c) = refl
as_many (member.HasProcess w) = refl
as_many (member.Fields x) = length-map x.fields _
as_many (member.Ports p) = length-map p.names _
as_many (member.Clocks names) = length-map names _
as_many (member.Channels c) = length-map c.parts _
as_many (member.Events names) = length-map names _
as_many (member.Children c) = length-map c.parts _
as_many (member.Function f) = refl
as_many (member.Constructor c) = refl

-- ---- the member of a thing

-- the thing at a place is one of this member's
record IsPlaced (ms : List CheckedMember) (place x : ℕ) (t : Thing) : Type 0 where
  place_of : ℕ
  at : slice_get (places_from place ms) x ≡ Some (place + place_of)
  declares : CheckedMember
  there : slice_get ms place_of ≡ Some declares
  among : ℕ
  is : slice_get (things_in declares) among ≡ Some t

placed : (ms : List CheckedMember) (place x : ℕ) (t : Thing) → slice_get (things_of ms) x ≡ Some t → IsPlaced ms place x t
placed [] place x t h = absurd cc
placed (m ∷ ms) place x t h = elim (first_or (things_in m) (things_of ms) x t h) [
  | inl here ↦
      let within = slice_get_within (things_in m) x t here in
      let many = as_many m in
      let same : place ≡ place + 0 = omega arith in record {
        place_of = 0;
        at =
            replicated_at (names_in m) place (places_from (place + 1) ms) x (omega (arith, within, many))
            ∙ ap (λ (n : ℕ). Some n) same;
        declares = m;
        there = refl;
        among = x;
        is = here;
      }
  | inr more ↦
      let r = placed ms (place + 1) more.0 t more.2 in
      let many = as_many m in
      let sum = more.1 in
      let long = length-replicate (names_in m) place in
      let same : place + 1 + r.place_of ≡ place + suc r.place_of = omega arith in record {
        place_of = suc r.place_of;
        at =
            behind_at (replicate (names_in m) place) (places_from (place + 1) ms) more.0 x (omega (arith, many, sum, long))
            ∙ r.at ∙ ap (λ (n : ℕ). Some n) same;
        declares = r.declares;
        there = r.there;
        among = r.among;
        is = r.is;
      }
]

-- ---- functions

no_field : (is_const : Bool) (k : Kind) (x : CheckedFieldForm) (params : ℕ) →
    field_thing is_const k x ≡ thing.Function None params → ⊥
no_field true k form.Plain params h = absurd cc
no_field true k (form.Length e) params h = absurd cc
no_field true k (form.Value e) params h = absurd cc
no_field false k form.Plain params h = absurd cc
no_field false k (form.Length e) params h = absurd cc
no_field false k (form.Value e) params h = absurd cc

no_port : (p : PortWord) (k : Kind) (params : ℕ) → port_form p k ≡ thing.Function None params → ⊥
no_port port_word.In k params h = absurd cc
no_port port_word.Out k params h = absurd cc
no_port port_word.Inout k params h = absurd cc
no_port port_word.FifoIn k params h = absurd cc
no_port port_word.FifoOut k params h = absurd cc

no_channel : (c : ChannelWord) (k : Kind) (params : ℕ) → channel_thing c k ≡ thing.Function None params → ⊥
no_channel channel_word.Signal k params h = absurd cc
no_channel channel_word.Fifo k params h = absurd cc

-- only a function declares a function
function_thing : (m : CheckedMember) (i params : ℕ) → slice_get (things_in m) i ≡ Some (thing.Function None params) →
    IsSome (as_function (Some m))
function_thing member.Public i params h = absurd cc
function_thing (member.Constant c) i params h =
    let e : thing.Fixed (kind_written c.form.form) c.is_static ≡ thing.Function None params = only_at _ _ i h in absurd cc
function_thing (member.HasProcess w) i params h = absurd cc
function_thing (member.Fields x) i params h =
    let r = mapped_at _ x.fields i _ h in absurd (no_field x.is_const (kind_written x.form.form) r.0.form params r.1)
function_thing (member.Ports p) i params h =
    let r = mapped_at _ p.names i _ h in absurd (no_port p.port (kind_written p.form.form) params r.1)
function_thing (member.Clocks names) i params h = let r = mapped_at _ names i _ h in let e = r.1 in absurd cc
function_thing (member.Channels c) i params h =
    let r = mapped_at _ c.parts i _ h in absurd (no_channel c.channel (kind_written c.form.form) params r.1)
function_thing (member.Events names) i params h = let r = mapped_at _ names i _ h in let e = r.1 in absurd cc
function_thing (member.Children c) i params h = let r = mapped_at _ c.parts i _ h in let e = r.1 in absurd cc
function_thing (member.Function f) i params h = refl
function_thing (member.Constructor c) i params h = absurd cc

pub functions_are_there : FunctionsAreThere
functions_are_there ms x params h =
    let p = placed ms 0 x (thing.Function None params) h in
    let same : 0 + p.place_of ≡ p.place_of = omega arith in
    let at : member_placed ms (slice_get (places_from 0 ms) x) ≡ Some p.declares =
    ap (λ o. member_placed ms o) p.at ∙ ap (λ n. slice_get ms n) same ∙ p.there in
    subst (λ o. IsSome (as_function o)) (sym at) (function_thing p.declares p.among params p.is)

-- ---- the member of an entry

-- the entry at a place, whose member has this place, is one of a written member that is read as the member there
pub record IsOf (s : Scope) (ms : List Member) (cs : List CheckedMember) (place x k : ℕ) : Type 0 where
  pub number : ℕ
  pub place_is : place + number ≡ k
  pub written : Member
  pub there : slice_get ms number ≡ Some written
  pub checked : CheckedMember
  pub there_too : slice_get cs number ≡ Some checked
  pub read : IsReadAs s written checked
  pub among : ℕ
  pub within : among < names_in checked
  pub at : slice_get (entries_of s ms) x ≡ slice_get (entries_in s written) among

as_many_entries : (s : Scope) (m : Member) (c : CheckedMember) → IsReadAs s m c → length (entries_in s m) ≡ names_in c
as_many_entries s m c r =
    sym (length-map (entries_in s m) (λ (e : Entry). e.thing)) ∙ ap length (sym (things_read s m c r)) ∙ as_many c

pub entry_placed : (s : Scope) (ms : List Member) (cs : List CheckedMember) → AllZip (IsReadAs s) ms cs → (place x k : ℕ) →
    slice_get (places_from place cs) x ≡ Some k → IsOf s ms cs place x k
entry_placed s [] [] h place x k at = absurd cc
entry_placed s [] (c ∷ cs) h place x k at = absurd h
entry_placed s (m ∷ ms) [] h place x k at = absurd h
entry_placed s (m ∷ ms) (c ∷ cs) h place x k at = elim (replicated_or (names_in c) place (places_from (place + 1) cs) x k at) [
  | inl here ↦
      let many = as_many_entries s m c h.0 in
      let within = here.0 in
      let same = here.1 in record {
        number = 0;
        place_is = omega (arith, same);
        written = m;
        there = refl;
        checked = c;
        there_too = refl;
        read = h.0;
        among = x;
        within = within;
        at = before_at (entries_in s m) (entries_of s ms) x (omega (arith, within, many));
      }
  | inr more ↦
      let r = entry_placed s ms cs h.1 (place + 1) more.0 k more.2 in
      let many = as_many_entries s m c h.0 in
      let sum = more.1 in
      let same = r.place_is in record {
        number = suc r.number;
        place_is = omega (arith, same);
        written = r.written;
        there = r.there;
        checked = r.checked;
        there_too = r.there_too;
        read = r.read;
        among = r.among;
        within = r.within;
        at = behind_at (entries_in s m) (entries_of s ms) more.0 x (omega (arith, many, sum)) ∙ r.at;
      }
]
