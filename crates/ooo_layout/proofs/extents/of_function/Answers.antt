use Rattle.std.proofs.Common.{◌∙◌, ap, arith}
use Rattle.ooo_layout.proofs.Measured.{same_measures}
use Rattle.ooo_shapes.specs.Shapes.{Callees, body_shape}
use Rattle.ooo_shapes.specs.Simples.{Home}
use Rattle.ooo_layout.proofs.extents.of_function.Goals as goal

pub returns : goal.returns
returns c =
    let model = c.args.known.model.now in
    let same = λ (h : Home) (cs : Callees). (c.bare.ensures.shape_is h cs).size_is ∙ ap (λ xs. (body_shape h cs xs).size) c.as_slice.ensures in
    let body = same_measures model c.in_ok-body.body (λ h cs. (body_shape h cs c.bare.result.now).size) (λ h cs. (body_shape h cs c.args.function.now.body).size) same c.in_ok-body.ensures in
    record {
      extent_is = λ s d le. omega (arith, c.in_ok-nodes.ensures, c.in_ok-behind.ensures, c.in_ok-own.ensures, c.in_ok-last.ensures, body s d le);
      widths_are = c.in_ok-widths.ensures;
    }
