-- What the names of a module mean that is read without breaches.
use Rattle.std.proofs.Common.{◌≡◌, ◌∙◌, refl, sym, ap, subst, arith, ℕ, ◌+◌, ◌-◌, ◌<◌, List, length, map, Option, Some, None}
use Rattle.std.proofs.lemmas.Option.{slice_get_within}
use Rattle.std.specs.List.{AllZip}
use Rattle.std.specs.Option.{unwrap_or}
use Rattle.std.specs.Prelude.{Contains, slice_get}
use Rattle.ooo_lemmas.proofs.Contained.{contains_place, contains_at}
use Rattle.ooo_lemmas.proofs.Each.{first_part}
use Rattle.ooo_lexer.specs.declared.position.Position.{Position}
use Rattle.ooo_syntax.specs.declared.module.Function.{Function}
use Rattle.ooo_syntax.specs.declared.module.Member.{Member}
use Rattle.ooo_syntax.specs.declared.module.Member.TheVariants as written
use Rattle.ooo_checked.specs.declared.denotation.Denotation.{Denotation}
use Rattle.ooo_checked.specs.declared.denotation.Thing.{Thing}
use Rattle.ooo_checked.specs.declared.denotation.Thing.TheVariants as thing
use Rattle.ooo_checked.specs.declared.module.CheckedChildren.{CheckedChildren}
use Rattle.ooo_checked.specs.declared.module.CheckedFunction.{CheckedFunction}
use Rattle.ooo_checked.specs.declared.module.CheckedMember.{CheckedMember}
use Rattle.ooo_checked.specs.declared.module.CheckedMember.TheVariants as member
use Rattle.ooo_checked.specs.Exprs.{name_notes}
use Rattle.ooo_checked.specs.Notes.{all_notes}
use Rattle.ooo_checked.specs.Scopes.{Scope, found_in, meaning_of, size_of}
use Rattle.ooo_members.specs.Bodies.{function_of}
use Rattle.ooo_members.specs.Declarations.{instance_thing, is_module}
use Rattle.ooo_members.specs.Members.{child_of, children_of, params_of_module}
use Rattle.ooo_walk.specs.Plans.{as_function, member_placed, names_in, places_from}
use Rattle.ooo_sound_walk.specs.Names.{things_of}
use Rattle.ooo_sound_text.specs.Modules.{IsFileScope, IsOfFile, scope_of}
use Rattle.ooo_sound_text.specs.Right.{AreRight, IsRight}
use Rattle.ooo_sound_text.specs.Names.{ChildrenStandBefore, FunctionsAreOfText, NamesStand, StandsIn}
use Rattle.ooo_sound_text.proofs.Blocks.{IsAs, IsNumbered, IsOn}
use Rattle.ooo_sound_text.proofs.Entries.{Entry, entries_in, entries_of, entry, things_by}
use Rattle.ooo_sound_text.proofs.Lists.{image_at, zip_back}
use Rattle.ooo_sound_text.proofs.Members.{IsReadAs, all_things, members_read, names_read}
use Rattle.ooo_sound_text.proofs.Places.{IsOf, entry_placed}

-- ---- names

-- a name stands as the thing that it is declared to be
as_stands : (ts : List Thing) (d : Denotation) (u t : Thing) → slice_get ts d.number ≡ Some t → IsAs u t → StandsIn ts d u
as_stands ts d (thing.Variable k) t at is = at ∙ ap (λ (x : Thing). Some x) (sym is)
as_stands ts d (thing.Array k) t at is = at ∙ ap (λ (x : Thing). Some x) (sym is)
as_stands ts d (thing.FixedArray k) t at is = at ∙ ap (λ (x : Thing). Some x) (sym is)
as_stands ts d (thing.Signal k) t at is = at ∙ ap (λ (x : Thing). Some x) (sym is)
as_stands ts d (thing.SignalPort direction k) t at is = at ∙ ap (λ (x : Thing). Some x) (sym is)
as_stands ts d (thing.Fifo k) t at is = at ∙ ap (λ (x : Thing). Some x) (sym is)
as_stands ts d (thing.FifoIn k) t at is = at ∙ ap (λ (x : Thing). Some x) (sym is)
as_stands ts d (thing.FifoOut k) t at is = at ∙ ap (λ (x : Thing). Some x) (sym is)
as_stands ts d thing.Event t at is = at ∙ ap (λ (x : Thing). Some x) (sym is)
as_stands ts d (thing.Function gives params) t at is = at ∙ ap (λ (x : Thing). Some x) (sym is)
as_stands ts d _ t at is = tt

-- what the file declares stands nowhere among a module's names
file_stands : (ts : List Thing) (d : Denotation) (n : ℕ) (t : Thing) → IsOfFile n d t → StandsIn ts d t
file_stands ts d n (thing.Module params) h = tt
file_stands ts d n (thing.FileConstant k) h = tt
file_stands ts d n thing.Nothing h = tt
file_stands ts d n _ h = absurd h

name_stands : (file s : Scope) (ts : List Thing) (es : List Entry) → IsFileScope file → IsOn file s es → ts ≡ things_by es →
    (name : List ℕ) → let d = meaning_of s name in StandsIn ts d d.thing
name_stands file s ts es is_file on things name =
    subst (λ (z : Scope). let d = meaning_of z name in StandsIn ts d d.thing) (sym on.is) (by (found_in on.block name) refl)
  where
    by : (o : Option Denotation) → found_in on.block name ≡ o →
        let d = unwrap_or o (meaning_of file name) in StandsIn ts d d.thing
    by None at = let d = meaning_of file name in file_stands ts d (size_of file) d.thing (is_file name)
    by (Some d) at =
        let r = on.stands name d at in
        as_stands ts d d.thing r.found.thing
        (ap (λ us. slice_get us d.number) things ∙ image_at (λ (e : Entry). e.thing) es d.number r.found r.at) r.is

pub names_stand : NamesStand
names_stand file m cs is_file read =
    let s = scope_of m file in
    name_stands file s (things_of cs) (entries_of s m.members) is_file (names_read file m cs read)
    (all_things s m.members cs (members_read file m cs read))

-- ---- functions

function_same : (f g : CheckedFunction) → member.Function f ≡ member.Function g → f ≡ g
function_same f g h = cc

-- a member that is read as a function is one
record IsWritten (s : Scope) (m : Member) (f : CheckedFunction) : Type 0 where
  function : Function
  is : m ≡ written.Function function
  tree : (function_of function s).tree ≡ f

function_written : (s : Scope) (m : Member) (f : CheckedFunction) → IsReadAs s m (member.Function f) → IsWritten s m f
function_written s written.Public f r = let e = r.is in absurd cc
function_written s (written.Constant c) f r = let e = r.is in absurd cc
function_written s (written.HasProcess w) f r = let e = r.is in absurd cc
function_written s (written.Fields x) f r = let e = r.is in absurd cc
function_written s (written.Ports p) f r = let e = r.is in absurd cc
function_written s (written.Clocks ws) f r = let e = r.is in absurd cc
function_written s (written.Channels c) f r = let e = r.is in absurd cc
function_written s (written.Events ws) f r = let e = r.is in absurd cc
function_written s (written.Children c) f r = let e = r.is in absurd cc
function_written s (written.Function x) f r =
    let e : member.Function f ≡ member.Function (function_of x s).tree = r.is in
    record { function = x; is = refl; tree = sym (function_same f (function_of x s).tree e) }
function_written s (written.Constructor c) f r = let e = r.is in absurd cc

as_function_is : (m : CheckedMember) (f : CheckedFunction) → as_function (Some m) ≡ Some f → m ≡ member.Function f
as_function_is member.Public f h = absurd cc
as_function_is (member.Constant c) f h = absurd cc
as_function_is (member.HasProcess w) f h = absurd cc
as_function_is (member.Fields x) f h = absurd cc
as_function_is (member.Ports p) f h = absurd cc
as_function_is (member.Clocks names) f h = absurd cc
as_function_is (member.Channels c) f h = absurd cc
as_function_is (member.Events names) f h = absurd cc
as_function_is (member.Children c) f h = absurd cc
as_function_is (member.Function g) f h = let same : g ≡ f = cc in ap (λ (x : CheckedFunction). member.Function x) same
as_function_is (member.Constructor c) f h = absurd cc

-- the place of the member that declares a name, where it is a function
function_place : (cs : List CheckedMember) (o : Option ℕ) (f : CheckedFunction) → as_function (member_placed cs o) ≡ Some f →
    (k : ℕ) × (o ≡ Some k) × (slice_get cs k ≡ Some (member.Function f))
function_place cs None f h = absurd cc
function_place cs (Some k) f h = by (slice_get cs k) refl h
  where
    by : (o : Option CheckedMember) → slice_get cs k ≡ o → as_function o ≡ Some f →
        (j : ℕ) × (Some k ≡ Some j) × (slice_get cs j ≡ Some (member.Function f))
    by None at is = absurd cc
    by (Some c) at is = (k, refl, at ∙ ap (λ (x : CheckedMember). Some x) (as_function_is c f is))

-- the function of a member, its name, and that name's number
record IsFound (file s : Scope) (ms : List Member) (x : ℕ) (f : CheckedFunction) : Type 0 where
  function : Function
  among : Contains ms (written.Function function)
  is : (function_of function s).tree ≡ f
  number : (meaning_of s function.name.name).number ≡ x
  within : x < size_of s - size_of file

module _ (file s : Scope) (ms : List Member) (cs : List CheckedMember) (on : IsOn file s (entries_of s ms))
    (read : AllZip (IsReadAs s) ms cs) where
  numbered_here : (name : List ℕ) (x : ℕ) → IsNumbered on.block name x → (meaning_of s name).number ≡ x
  numbered_here name x q =
      ap (λ (z : Scope). (meaning_of z name).number) on.is
      ∙ ap (λ (o : Option Denotation). (unwrap_or o (meaning_of file name)).number) q.found ∙ q.number

  within_names : (x : ℕ) (e : Entry) → slice_get (entries_of s ms) x ≡ Some e → x < size_of s - size_of file
  within_names x e at =
      let few = slice_get_within (entries_of s ms) x e at in
      let size = on.size in
      let all : size_of s ≡ length on.block + size_of file = ap size_of on.is in
      omega (arith, few, size, all)

  function_there : (x : ℕ) (f : CheckedFunction) →
      (r : (k : ℕ) × IsOf s ms cs 0 x k × (slice_get cs k ≡ Some (member.Function f))) →
      IsFound file s ms x f
  function_there x f (k, r, there) =
      let place = r.place_is in
      let same : r.number ≡ k = omega (arith, place) in
      let both : slice_get cs k ≡ Some r.checked = subst (λ n. slice_get cs n ≡ Some r.checked) same r.there_too in
      let checked : r.checked ≡ member.Function f = cc in
      let w = function_written s r.written f (subst (IsReadAs s r.written) checked r.read) in
      let few : r.among < 1 = subst (λ (c : CheckedMember). r.among < names_in c) checked r.within in
      let first : r.among ≡ 0 = omega (arith, few) in
      let e = entry w.function.name (thing.Function None (length w.function.params)) in
      let at : slice_get (entries_of s ms) x ≡ Some e =
      r.at ∙ ap (λ n. slice_get (entries_in s r.written) n) first ∙ ap (λ (y : Member). slice_get (entries_in s y) 0) w.is in
      record {
        function = w.function;
        among = contains_at ms r.number (written.Function w.function) (r.there ∙ ap (λ (y : Member). Some y) w.is);
        is = w.tree;
        number = numbered_here w.function.name.name x (on.numbered x e at);
        within = within_names x e at;
      }

  function_found : (x : ℕ) (f : CheckedFunction) → as_function (member_placed cs (slice_get (places_from 0 cs) x)) ≡ Some f →
      IsFound file s ms x f
  function_found x f at =
      let p = function_place cs (slice_get (places_from 0 cs) x) f at in
      function_there x f (p.0, entry_placed s ms cs read 0 x p.0 p.1, p.2)

pub functions_are_of_text : FunctionsAreOfText
functions_are_of_text file m cs read x f at =
    let r = function_found file (scope_of m file) m.members cs (names_read file m cs read) (members_read file m cs read) x f at in
    record { function = r.function; among = r.among; is = r.is; number = r.number; within = r.within }

-- ---- children

-- the name of a module, where nothing is wrong with it
right_module : (t : Thing) (at : Position) → AreRight (name_notes t (is_module t) at) → (params : ℕ) × (t ≡ thing.Module params)
right_module (thing.Module params) at right = (params, refl)
right_module thing.Nothing at right = absurd right.0
right_module _ at right = absurd right.0

no_module : (t : Thing) (params : ℕ) (u : Thing) → t ≡ thing.Module params → IsAs t u → ⊥
no_module t params u is h = subst (λ (v : Thing). IsAs v u) is h

module_before : (d : Denotation) (params n : ℕ) (t : Thing) → t ≡ thing.Module params → IsOfFile n d t → d.number < n
module_before d params n t is h = subst (λ (v : Thing). IsOfFile n d v) is h

-- it is one of the file's
module_number : (file s : Scope) (es : List Entry) → IsFileScope file → IsOn file s es → (name : List ℕ) (params : ℕ) →
    (meaning_of s name).thing ≡ thing.Module params → (meaning_of s name).number < size_of file
module_number file s es is_file on name params =
    subst (λ (z : Scope). let d = meaning_of z name in d.thing ≡ thing.Module params → d.number < size_of file) (sym on.is)
    (by (found_in on.block name) refl)
  where
    by : (o : Option Denotation) → found_in on.block name ≡ o → let d = unwrap_or o (meaning_of file name) in
        d.thing ≡ thing.Module params → d.number < size_of file
    by None found is = let d = meaning_of file name in module_before d params (size_of file) d.thing is (is_file name)
    by (Some d) found is = let r = on.stands name d found in absurd (no_module d.thing params r.found.thing is r.is)

children_same : (c d : CheckedChildren) → member.Children c ≡ member.Children d → c ≡ d
children_same c d h = cc

child_below : (file s : Scope) (es : List Entry) → IsFileScope file → IsOn file s es → (m : Member) (c : CheckedChildren) →
    IsReadAs s m (member.Children c) → c.module_name.denotes.number < size_of file
child_below file s es is_file on written.Public c r = let e = r.is in absurd cc
child_below file s es is_file on (written.Constant x) c r = let e = r.is in absurd cc
child_below file s es is_file on (written.HasProcess w) c r = let e = r.is in absurd cc
child_below file s es is_file on (written.Fields x) c r = let e = r.is in absurd cc
child_below file s es is_file on (written.Ports p) c r = let e = r.is in absurd cc
child_below file s es is_file on (written.Clocks ws) c r = let e = r.is in absurd cc
child_below file s es is_file on (written.Channels x) c r = let e = r.is in absurd cc
child_below file s es is_file on (written.Events ws) c r = let e = r.is in absurd cc
child_below file s es is_file on (written.Children x) c r =
    let d = meaning_of s x.module_name.name in
    let e : member.Children c ≡ member.Children (children_of r.initialised x s).tree = r.is in
    let parts = map (λ p. child_of r.initialised (instance_thing d s) (params_of_module d.thing) p s) x.parts in
    let right = first_part IsRight (name_notes d.thing (is_module d.thing) x.module_name.position) (all_notes parts) r.right in
    let is = right_module d.thing x.module_name.position right in
    subst (λ (y : CheckedChildren). y.module_name.denotes.number < size_of file)
    (sym (children_same c (children_of r.initialised x s).tree e))
    (module_number file s es is_file on x.module_name.name is.0 is.1)
child_below file s es is_file on (written.Function f) c r = let e = r.is in absurd cc
child_below file s es is_file on (written.Constructor x) c r = let e = r.is in absurd cc

pub children_stand_before : ChildrenStandBefore
children_stand_before file m cs is_file read c among =
    let s = scope_of m file in
    let p = contains_place cs (member.Children c) among in
    let r = zip_back (IsReadAs s) m.members cs (members_read file m cs read) p.0 (member.Children c) p.1 in
    child_below file s (entries_of s m.members) is_file (names_read file m cs read) r.0 c r.2
