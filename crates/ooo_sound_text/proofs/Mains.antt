-- The modules of the instances in `sc_main` are among the names of the file, where nothing is wrong with the text.
use Rattle.std.proofs.Common.{◌≡◌, ℕ, ◌<◌, subst, List, [], ◌∷◌, ◌++◌, length, Option, Some, None, arith}
use Rattle.std.specs.Prelude.{not, ⊤}
use Rattle.std.specs.List.{AllByRecursion}
use Rattle.std.proofs.lemmas.List.Elements.{All-contains, All-from_recursion}
use Rattle.ooo_lexer.specs.declared.position.Position.{Position}
use Rattle.ooo_value.specs.declared.kinds.Kind.{Kind}
use Rattle.ooo_syntax.specs.declared.leaves.Word.{Word}
use Rattle.ooo_syntax.specs.declared.module.Arg.{Arg}
use Rattle.ooo_syntax.specs.declared.module.ChannelWord.{ChannelWord}
use Rattle.ooo_syntax.specs.declared.module.ChannelWord.TheVariants as channel
use Rattle.ooo_syntax.specs.declared.unit.Main.{Main}
use Rattle.ooo_syntax.specs.declared.unit.MainItem.{MainItem}
use Rattle.ooo_syntax.specs.declared.unit.MainItem.TheVariants as main_item
use Rattle.ooo_syntax.specs.declared.unit.MainValues.{MainValues}
use Rattle.ooo_syntax.specs.declared.unit.MainValues.TheVariants as main_values
use Rattle.ooo_checked.specs.declared.breach.TypeBreach.TheVariants as what
use Rattle.ooo_checked.specs.declared.denotation.Denotation.{Denotation}
use Rattle.ooo_checked.specs.declared.denotation.Thing.{Thing}
use Rattle.ooo_checked.specs.declared.denotation.Thing.TheVariants as thing
use Rattle.ooo_checked.specs.declared.unit.CheckedMainItem.{CheckedMainItem}
use Rattle.ooo_checked.specs.declared.unit.CheckedMainItem.TheVariants as checked
use Rattle.ooo_checked.specs.Exprs.{kind_written, name_notes, resolved}
use Rattle.ooo_checked.specs.Notes.{all_notes, breach_when}
use Rattle.ooo_checked.specs.Scopes.{Scope, entered, meaning_of, size_of}
use Rattle.ooo_members.specs.Args.{args_of, is_instance_form}
use Rattle.ooo_members.specs.Declarations.{channel_thing, denotation_of, instance_thing, is_module, name_of}
use Rattle.ooo_members.specs.Known.{Modules}
use Rattle.ooo_members.specs.Members.{params_of_module}
use Rattle.ooo_types.specs.Units.{at_first, form_notes, items_of, main_item_of, main_items_of, main_of, option_start_form_of, parameter_of, values_of}
use Rattle.ooo_walk.specs.Plans.{plans_from}
use Rattle.ooo_sound_text.specs.Modules.{IsOfFile}
use Rattle.ooo_sound_text.specs.Right.{AreRight}
use Rattle.ooo_sound_text.specs.Files.{InstancesAreFiled}
use Rattle.ooo_sound_text.proofs.Files.{File, counted, no_names}
use Rattle.ooo_sound_text.proofs.Notes.{first_right, then_right}
use Rattle.ooo_sound_text.proofs.Scopes.{Means, means_named}

-- a module has a number below this one
abbrev IsBelow : ℕ → Denotation → Thing → Type 0
IsBelow n d (thing.Module params) = d.number < n
IsBelow n d _ = ⊤

-- so has the module of an instance
abbrev IsFiled : ℕ → CheckedMainItem → Type 0
IsFiled n (checked.Instance m r args) = m.denotes.number < n
IsFiled n _ = ⊤

-- so it is of the names of a file
below_of_file : (n : ℕ) (d : Denotation) (t : Thing) → IsOfFile n d t → IsBelow n d t
below_of_file n d (thing.Module params) h = h
below_of_file n d _ h = tt

-- what stands where a module has to stand is one
module_below : (n : ℕ) (d : Denotation) (t : Thing) (at : Position) → AreRight (name_notes t (is_module t) at) → IsBelow n d t →
    d.number < n
module_below n d (thing.Module params) at right h = h
module_below n d _ at right h = absurd right.0

channel_below : (n : ℕ) (d : Denotation) (c : ChannelWord) (k : Kind) → IsBelow n d (channel_thing c k)
channel_below n d channel.Signal k = tt
channel_below n d channel.Fifo k = tt

module _ (n : ℕ) where
  abbrev AllBelow : Scope → Type 0
  AllBelow s = Means (λ d. IsBelow n d d.thing) s

  named : (outside : ℕ) (t : Thing) (w : Word) (s : Scope) → IsBelow n (denotation_of outside t s) t → AllBelow s →
      AllBelow (name_of outside t w s).scope
  named outside t w s new h = means_named (λ d. IsBelow n d d.thing) w (denotation_of outside t s) s new h

  -- ---- the parameters of `sc_main`

  parameter_below : (outside : ℕ) (o : Option Word) (s : Scope) → AllBelow s → AllBelow (parameter_of outside o s).scope
  parameter_below outside None s h = h
  parameter_below outside (Some w) s h = named outside thing.MainArgument w s tt h

  values_below : (outside : ℕ) (x : MainValues) (s : Scope) → AllBelow s → AllBelow (values_of outside x s).scope
  values_below outside (main_values.Array o) s h = parameter_below outside o s h
  values_below outside (main_values.Pointer o) s h = parameter_below outside o s h

  -- ---- its declarations

  item_below : (ms : Modules) (outside : ℕ) (x : MainItem) (s : Scope) → AllBelow s → AllBelow (main_item_of ms outside x s).scope
  item_below ms outside (main_item.Constant c) s h = named outside (thing.MainConstant (kind_written c.form.form)) c.name s tt h
  item_below ms outside (main_item.Channel c) s h =
      let t = channel_thing c.channel (kind_written c.form.form) in
      named outside t c.name s (channel_below n (denotation_of outside t s) c.channel (kind_written c.form.form)) h
  item_below ms outside (main_item.Clock at w t period) s h = named outside thing.Clock w s tt h
  item_below ms outside (main_item.Instance m w args) s h = named outside (instance_thing (meaning_of s m.name) s) w s tt h
  item_below ms outside (main_item.Bind b) s h = h

  instance_filed : (m w : Word) (args : List Arg) (s : Scope) → AreRight (form_notes (resolved s m) w args) → AllBelow s →
      (meaning_of s m.name).number < n
  instance_filed m w args s right h =
      let d = meaning_of s m.name in
      let form = breach_when (not (is_instance_form (params_of_module d.thing) args)) what.WrongCount w.position in
      module_below n d d.thing m.position
      (first_right (name_notes d.thing (is_module d.thing) m.position) form right) (h m.name)

  item_filed : (ms : Modules) (outside : ℕ) (x : MainItem) (s : Scope) → AreRight (main_item_of ms outside x s).notes →
      AllBelow s → IsFiled n (main_item_of ms outside x s).tree
  item_filed ms outside (main_item.Constant c) s right h = tt
  item_filed ms outside (main_item.Channel c) s right h = tt
  item_filed ms outside (main_item.Clock at w t period) s right h = tt
  item_filed ms outside (main_item.Instance m w args) s right h =
      let form = form_notes (resolved s m) w args in
      let given = all_notes (args_of args s) in
      let name = name_of outside (instance_thing (meaning_of s m.name) s) w s in
      instance_filed m w args s (first_right form given (first_right (form ++ given) name.notes right)) h
  item_filed ms outside (main_item.Bind b) s right h = tt

  items_filed : (ms : Modules) (outside : ℕ) (xs : List MainItem) (s : Scope) → AreRight (main_items_of ms outside xs s).notes →
      AllBelow s → AllByRecursion (IsFiled n) (main_items_of ms outside xs s).tree
  items_filed ms outside [] s right h = tt
  items_filed ms outside (x ∷ xs) s right h =
      let first = main_item_of ms outside x s in
      let others = main_items_of ms outside xs first.scope in (
        item_filed ms outside x s (first_right first.notes others.notes right) h,
        items_filed ms outside xs first.scope (then_right first.notes others.notes right) (item_below ms outside x s h),
      )

  main_filed : (m : Main) (file : File) → AreRight (main_of m file).notes → AllBelow file.scope →
      AllByRecursion (IsFiled n) (main_of m file).tree.items
  main_filed m file right h =
      let count = parameter_of (size_of file.scope) m.count (entered file.scope) in
      let values = values_of (size_of file.scope) m.values count.scope in
      let items = main_items_of file.modules (size_of values.scope) m.items (entered values.scope) in
      let begins = option_start_form_of m.start items.scope in
      items_filed file.modules (size_of values.scope) m.items (entered values.scope)
      (then_right (count.notes ++ values.notes) items.notes
      (first_right (count.notes ++ values.notes ++ items.notes) begins.notes right))
      (values_below (size_of file.scope) m.values count.scope
      (parameter_below (size_of file.scope) m.count (entered file.scope) h))

-- ---- texts

pub instances_are_filed : InstancesAreFiled
instances_are_filed t right m r args at =
    let items = items_of t.items at_first in
    let main = main_of t.main items.behind in
    let plans = length (plans_from 0 items.tree) in
    let all = counted t.items at_first 0 (first_right items.notes main.notes right) no_names in
    let same : size_of items.behind.scope ≡ plans = omega (arith, all.size) in
    let below : AllBelow plans items.behind.scope =
    subst (λ n. AllBelow n items.behind.scope) same
    (λ name. let d = meaning_of items.behind.scope name in
    below_of_file (size_of items.behind.scope) d d.thing (all.names name)) in
    All-contains (IsFiled plans) main.tree.items (checked.Instance m r args)
    (All-from_recursion (IsFiled plans) main.tree.items
    (main_filed plans t.main items.behind (then_right items.notes main.notes right) below)) at
