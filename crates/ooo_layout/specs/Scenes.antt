-- What code is made of: the model, and the static events of the process.
use Rattle.ooo_layout.specs.declared.scene.Scene.{Scene}
use Rattle.ooo_shapes.specs.Simples.{Home}

-- a scene, as it is lent
abbrev pub home_at : Scene → Home
home_at s = record { model = s.known.model.now; sensitive = s.sensitive.now }
