-- The members of a module, and their parts, are what they are checked to be, without additions.
use Rattle.std.proofs.Common.{◌≡◌, refl, ap, ℕ, List, [], ◌∷◌, map, true, Option, Some, None}
use Rattle.std.proofs.Math.Path.{ap₂}
use Rattle.std.proofs.lemmas.Bool.{cond_both}
use Rattle.std.specs.Option.{option_map}
use Rattle.ooo_syntax.specs.declared.leaves.Word.{Word}
use Rattle.ooo_syntax.specs.declared.module.Arg.{Arg}
use Rattle.ooo_syntax.specs.declared.module.Arg.TheVariants as arg
use Rattle.ooo_syntax.specs.declared.module.Constant.{Constant}
use Rattle.ooo_syntax.specs.declared.module.FieldForm.{FieldForm}
use Rattle.ooo_syntax.specs.declared.module.FieldForm.TheVariants as field
use Rattle.ooo_syntax.specs.declared.module.Field.{Field}
use Rattle.ooo_syntax.specs.declared.module.Fields.{Fields}
use Rattle.ooo_syntax.specs.declared.module.Part.{Part}
use Rattle.ooo_syntax.specs.declared.module.Channels.{Channels}
use Rattle.ooo_syntax.specs.declared.module.Children.{Children}
use Rattle.ooo_syntax.specs.declared.module.Param.{Param}
use Rattle.ooo_syntax.specs.declared.module.Function.{Function}
use Rattle.ooo_syntax.specs.declared.module.Init.{Init}
use Rattle.ooo_syntax.specs.declared.module.Setup.{Setup}
use Rattle.ooo_syntax.specs.declared.module.Setup.TheVariants as setup
use Rattle.ooo_syntax.specs.declared.module.Constructor.{Constructor}
use Rattle.ooo_syntax.specs.declared.module.Constructor.TheVariants as constructor
use Rattle.ooo_syntax.specs.declared.module.Member.{Member}
use Rattle.ooo_syntax.specs.declared.module.Member.TheVariants as member
use Rattle.ooo_checked.specs.declared.denotation.Denotation.{Denotation}
use Rattle.ooo_checked.specs.declared.denotation.Thing.{Thing}
use Rattle.ooo_checked.specs.declared.module.CheckedInit.{CheckedInit}
use Rattle.ooo_checked.specs.Exprs.{kind_written, resolved}
use Rattle.ooo_checked.specs.Notes.{Checked, trees}
use Rattle.ooo_checked.specs.Scopes.{Scope, entered, size_of}
use Rattle.ooo_erasure.specs.Laws.{ErasesExprs, ErasesSimples, ErasesStats}
use Rattle.ooo_erasure.specs.Modules.{erased_arg, erased_channels, erased_children, erased_constant, erased_constructor, erased_field, erased_field_form, erased_fields, erased_function, erased_init, erased_member, erased_names, erased_param, erased_part, erased_setup}
use Rattle.ooo_members.specs.declared.known.Sofar.{Sofar}
use Rattle.ooo_members.specs.Args.{arg_of, args_of}
use Rattle.ooo_members.specs.Bodies.{function_context, function_of, param_of, params_of}
use Rattle.ooo_members.specs.Constructors.{constructor_of, head_of, init_of, inits_of, inits_with, is_own_name, setup_of, setups_of}
use Rattle.ooo_members.specs.Declarations.{channel_thing, instance_thing}
use Rattle.ooo_members.specs.Known.{Modules}
use Rattle.ooo_members.specs.Members.{channels_of, child_of, children_of, constant_named, field_form_of, field_of, fields_of, member_of, members_of, names_of, option_args, params_of_module, part_of}
use Rattle.ooo_erasure.specs.Parts.{all_trees, ordered_trees}
use Rattle.ooo_types.proofs.ErasedLists.{turned_trees}

-- ---- names and parameters

names_same : (ws : List Word) (s : Scope) → erased_names (names_of ws s) ≡ ws
names_same [] s = refl
names_same (w ∷ ws) s = ap (λ others. w ∷ others) (names_same ws s)

params_same : (outside : ℕ) (ps : List Param) (s : Scope) → map erased_param (params_of outside ps s).tree ≡ ps
params_same outside ps s = ordered_trees (λ p s. param_of outside p s) erased_param (λ p s. refl) ps s

module _ (exprs : ErasesExprs) (simples : ErasesSimples) where
  -- ---- arguments and constants

  arg_same : (x : Arg) (s : Scope) → erased_arg (arg_of x s).tree ≡ x
  arg_same (arg.Text t) s = refl
  arg_same (arg.Time t) s = ap arg.Time (simples.time t s)
  arg_same (arg.Value e) s = ap arg.Value (exprs.expr e s)

  pub args_same : (xs : List Arg) (s : Scope) → map erased_arg (trees (args_of xs s)) ≡ xs
  args_same xs s = all_trees (λ x. arg_of x s) erased_arg (λ x. arg_same x s) xs

  pub option_args_same : (o : Option (List Arg)) (s : Scope) → option_map (map erased_arg) (option_args o s) ≡ o
  option_args_same None s = refl
  option_args_same (Some xs) s = ap Some (args_same xs s)

  -- whatever its name denotes
  pub constant_same : (c : Constant) (s : Scope) →
      erased_constant (constant_named (resolved s c.name) c s).tree ≡ c
  constant_same c s =
      ap {B = Constant} (λ v. record { is_static = c.is_static; form = c.form; name = c.name; value = v })
      (exprs.expr c.value s)

  -- ---- variables, channels and children

  field_form_same : (x : FieldForm) (s : Scope) → erased_field_form (field_form_of x s).tree ≡ x
  field_form_same field.Plain s = refl
  field_form_same (field.Length e) s = ap field.Length (exprs.expr e s)
  field_form_same (field.Value e) s = ap field.Value (exprs.expr e s)

  field_same : (x : Field) (s : Scope) → erased_field (field_of x s).tree ≡ x
  field_same x s = ap {B = Field} (λ form. record { name = x.name; form = form }) (field_form_same x.form s)

  fields_same : (f : Fields) (s : Scope) → erased_fields (fields_of f s).tree ≡ f
  fields_same f s =
      ap {B = Fields} (λ xs. record { is_const = f.is_const; form = f.form; fields = xs })
      (all_trees (λ x. field_of x s) erased_field (λ x. field_same x s) f.fields)

  part_same : (t : Thing) (params : Option ℕ) (p : Part) (s : Scope) → erased_part (part_of t params p s).tree ≡ p
  part_same t params p s = ap {B = Part} (λ args. record { name = p.name; args = args }) (option_args_same p.args s)

  channels_same : (c : Channels) (s : Scope) → erased_channels (channels_of c s).tree ≡ c
  channels_same c s =
      let t = channel_thing c.channel (kind_written c.form.form) in
      ap {B = Channels} (λ ps. record { channel = c.channel; form = c.form; parts = ps })
      (all_trees (λ p. part_of t None p s) erased_part (λ p. part_same t None p s) c.parts)

  children_same : (initialised : Scope) (c : Children) (s : Scope) →
      erased_children (children_of initialised c s).tree ≡ c
  children_same initialised c s =
      let d = (resolved s c.module_name).denotes in
      let t = instance_thing d s in
      let params = params_of_module d.thing in
      ap {B = Children} (λ ps. record { module_name = c.module_name; parts = ps })
      (all_trees (λ p. child_of initialised t params p s) erased_part (λ p. part_same t params p s) c.parts)

  -- ---- constructors

  init_same : (ms : Modules) (d : Denotation) (i : Init) (s : Scope) → erased_init (init_of ms d i s).tree ≡ i
  init_same ms d i s =
      let same = ap {B = Init} (λ args. record { name = i.name; args = args }) (args_same i.args s) in
      cond_both (is_own_name i.name) _ _ (λ (c : Checked CheckedInit). erased_init c.tree ≡ i) (λ _. same) (λ _. same)

  inits_with_same : (ms : Modules) (f : Init → Denotation) (is : List Init) (s : Scope) →
      map erased_init (trees (inits_with ms (map f is) is s)) ≡ is
  inits_with_same ms f [] s = refl
  inits_with_same ms f (i ∷ is) s = ap₂ (λ y ys. y ∷ ys) (init_same ms (f i) i s) (inits_with_same ms f is s)

  inits_same : (ms : Modules) (is : List Init) (inside s : Scope) →
      map erased_init (trees (inits_of ms is inside s)) ≡ is
  inits_same ms is inside s = inits_with_same ms _ is inside

  setup_same : (ms : Modules) (s : Scope) (x : Setup) (before : Sofar) → erased_setup (setup_of ms s x before).tree ≡ x
  setup_same ms s (setup.Thread at w) before = refl
  setup_same ms s (setup.Method at w) before = refl
  setup_same ms s (setup.Sensitive at es) before = ap (setup.Sensitive at) (simples.events true es s)
  setup_same ms s (setup.DontInitialize at) before = refl
  setup_same ms s (setup.Bind b) before = refl
  setup_same ms s (setup.Set w e) before = ap (setup.Set w) (exprs.right e s)

  setups_same : (ms : Modules) (s : Scope) (xs : List Setup) (before : Sofar) →
      map erased_setup (setups_of ms s xs before).tree ≡ xs
  setups_same ms s xs before =
      turned_trees (λ x before. setup_of ms s x before) erased_setup (setup_same ms s) xs before

  constructor_same : (ms : Modules) (module_name : List ℕ) (s : Scope) (c : Constructor) (before : Sofar) →
      erased_constructor (constructor_of ms module_name s c before).tree ≡ c
  constructor_same ms module_name s (constructor.Named w inits xs) before =
      ap₂ (constructor.Named w) (inits_same ms inits (entered s) s) (setups_same ms (entered s) xs before)
  constructor_same ms module_name s (constructor.Written w own_name params inits xs) before =
      let inside = (head_of own_name params s).scope in
      rw (params_same (size_of s) params _, inits_same ms inits inside s, setups_same ms inside xs before) refl

  module _ (stats : ErasesStats) where
    -- ---- members

    function_same : (f : Function) (s : Scope) → erased_function (function_of f s).tree ≡ f
    function_same f s =
        ap₂ {C = Function} (λ ps xs. record { result = f.result; name = f.name; params = ps; body = xs })
        (params_same (size_of s) f.params (entered s)) (stats.stats f.body (function_context f s) _)

    member_same : (ms : Modules) (module_name : List ℕ) (initialised s : Scope) (m : Member) (before : Sofar) →
        erased_member (member_of ms module_name initialised s m before).tree ≡ m
    member_same ms module_name initialised s member.Public before = refl
    member_same ms module_name initialised s (member.Constant c) before = ap member.Constant (constant_same c s)
    member_same ms module_name initialised s (member.HasProcess w) before = refl
    member_same ms module_name initialised s (member.Fields f) before = ap member.Fields (fields_same f s)
    member_same ms module_name initialised s (member.Ports p) before =
        ap (λ names. member.Ports (record { port = p.port; form = p.form; names = names })) (names_same p.names s)
    member_same ms module_name initialised s (member.Clocks ws) before = ap member.Clocks (names_same ws s)
    member_same ms module_name initialised s (member.Channels c) before = ap member.Channels (channels_same c s)
    member_same ms module_name initialised s (member.Events ws) before = ap member.Events (names_same ws s)
    member_same ms module_name initialised s (member.Children c) before =
        ap member.Children (children_same initialised c s)
    member_same ms module_name initialised s (member.Function f) before = ap member.Function (function_same f s)
    member_same ms module_name initialised s (member.Constructor c) before =
        ap member.Constructor (constructor_same ms module_name s c before)

    pub members_same : (ms : Modules) (module_name : List ℕ) (initialised s : Scope) (xs : List Member) (before : Sofar) →
        map erased_member (members_of ms module_name initialised s xs before).tree ≡ xs
    members_same ms module_name initialised s xs before =
        turned_trees (λ m before. member_of ms module_name initialised s m before) erased_member
        (member_same ms module_name initialised s) xs before
