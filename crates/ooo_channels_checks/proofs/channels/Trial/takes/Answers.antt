use Rattle.std.proofs.Common.{refl}
use Rattle.ooo_channels_checks.proofs.channels.Trial.takes.Goals as goal

pub act-requires : goal.act-requires
act-requires c = record {
  trial = c.requires;
  fits = c.if-not-fits.ensures refl;
  later = λ h. absurd (cc (c.if-is_before.ensures.1 h));
  countable = c.if-not-is_countable.ensures refl;
  place = c.if-not-has_place.ensures c.requires refl;
}
