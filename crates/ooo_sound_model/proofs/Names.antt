-- Each process and each channel of a model has a name.
use Rattle.std.proofs.Common.{◌≡◌, refl, ap, subst, suc, List, [], ◌∷◌, length}
use Rattle.ooo_walk.specs.declared.state.WalkedChannel.{WalkedChannel}
use Rattle.ooo_walk.specs.declared.state.WalkedInstance.{WalkedInstance}
use Rattle.ooo_walk.specs.declared.state.WalkedProcess.{WalkedProcess}
use Rattle.ooo_walk.specs.Plans.{Filed}
use Rattle.ooo_walk.specs.Texts.{file_of, walk_of}
use Rattle.ooo_elaborate.specs.Bindings.{links_of}
use Rattle.ooo_elaborate.specs.declared.processes.Model.{Model}
use Rattle.ooo_elaborate.specs.Elaborated.{assembled, bound_channels, channel_names, model_of, process_names}
use Rattle.ooo_elaborate.specs.Functions.{numbered}
use Rattle.ooo_elaborate.specs.Processes.{processes_of}
use Rattle.ooo_sound_model.specs.Reports.{AllHaveNames, HasNames}
use Rattle.ooo_sound_model.proofs.Passed.{passed}

processes_named : (f : Filed) (m : Model) (is : List WalkedInstance) (ps : List WalkedProcess) →
    length (process_names ps) ≡ length (processes_of f m is ps)
processes_named f m is [] = refl
processes_named f m is (p ∷ ps) = ap suc (processes_named f m is ps)

channels_named : (cs : List WalkedChannel) → length (channel_names cs) ≡ length (bound_channels cs)
channels_named [] = refl
channels_named (c ∷ cs) = ap suc (channels_named cs)

pub all_have_names : AllHaveNames
all_have_names u b is =
    let f = file_of u in
    let w = walk_of u in
    let n = numbered f w.instances in
    let made : HasNames (assembled f w (links_of w) n) = record {
      processes = processes_named f (model_of w (links_of w)) n.instances w.processes;
      channels = channels_named w.channels;
    } in subst HasNames (passed u b is).is made
