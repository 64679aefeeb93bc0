-- A text without breaches has the bodies, names and calls that a sound model needs.
use Rattle.std.proofs.Common.{◌≡◌, sym, subst, arith, ℕ, ◌<◌, [], ◌⊎◌, inl, inr}
use Rattle.std.specs.Prelude.{Contains}
use Rattle.ooo_calls.specs.declared.call.Call.{Call}
use Rattle.ooo_checked.specs.declared.module.CheckedChildren.{CheckedChildren}
use Rattle.ooo_checked.specs.declared.module.CheckedMember.TheVariants as member
use Rattle.ooo_types.specs.Units.{unit_of}
use Rattle.ooo_walk.specs.Plans.{Viewed, empty_view, view_at}
use Rattle.ooo_walk.specs.Texts.{file_of}
use Rattle.ooo_sound_model.specs.Texts.{FitsText}
use Rattle.ooo_sound_model.specs.Whole.{SoundByParts}
use Rattle.ooo_sound_text.specs.Right.{AreRight}
use Rattle.ooo_sound_text.specs.Names.{ChildrenStandBefore}
use Rattle.ooo_sound_text.specs.Files.{InstancesAreFiled, IsReadAt, ModulesAreRead}
use Rattle.ooo_sound.specs.Sound.{ModelsAreSound, TextsFit}
use Rattle.ooo_sound.proofs.Modules.{Laws, module_fits}
use Rattle.ooo_sound.proofs.Rights.{right}

-- what is no module has no bodies
empty_fits : FitsText empty_view
empty_fits = record {
  functions = λ x f reached at. absurd cc;
  processes = λ k place x f is at. absurd cc;
  sensitive = λ place at es is. absurd cc;
  order = record {
    calls = [];
    all = λ x y f at c. absurd cc;
    no_cycle = λ (c : Call) h. absurd (omega (arith, h.1));
  };
}

module _ (laws : Laws) (children : ChildrenStandBefore) (modules : ModulesAreRead) (instances : InstancesAreFiled) where
  fits_at : (n : ℕ) (v : Viewed) → (v ≡ empty_view) ⊎ IsReadAt n v → FitsText v
  fits_at n v (inl none) = subst (λ (w : Viewed). FitsText w) (sym none) empty_fits
  fits_at n v (inr r) = subst (λ (w : Viewed). FitsText w) r.is (module_fits laws r.file r.m r.members r.names r.read)

  children_at : (n : ℕ) (v : Viewed) → (v ≡ empty_view) ⊎ IsReadAt n v → (c : CheckedChildren) → Contains v.members (member.Children c) →
      c.module_name.denotes.number < n
  children_at n v (inl none) c among =
      none_there (subst (λ (w : Viewed). Contains w.members (member.Children c)) none among)
    where
      none_there : Contains [] (member.Children c) → c.module_name.denotes.number < n
      none_there h = absurd (omega (arith, h.1))
  children_at n v (inr r) c among =
      subst (λ k. c.module_name.denotes.number < k) r.size
      (children r.file r.m r.members r.names r.read c (subst (λ (w : Viewed). Contains w.members (member.Children c)) (sym r.is) among))

  pub texts_fit : TextsFit
  texts_fit t none =
      let well : AreRight (unit_of t).notes = right (unit_of t).notes none in record {
        before = record {
          children = λ n c among. children_at n (view_at (file_of (unit_of t).tree) n) (modules t well n) c among;
          main = λ m r args among. instances t well m r args among;
        };
        modules = λ n. fits_at n (view_at (file_of (unit_of t).tree) n) (modules t well n);
      }

pub models_sound : TextsFit → SoundByParts → ModelsAreSound
models_sound fit sound t b none is = sound (unit_of t).tree b is (fit t none)
