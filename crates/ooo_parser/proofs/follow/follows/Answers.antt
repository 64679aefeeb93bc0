use Rattle.std.proofs.Common.{◌≡◌, [], ◌∷◌, ◌++◌, sym, ap, ◌∙◌, subst}
use Rattle.ooo_parser.specs.Words.{in_place}
use Rattle.ooo_parser.specs.Reaches.{FollowsAs, extent_of, follow_of, reads_whole, root_of}
use Rattle.ooo_parser.proofs.Follows.{follows_by}
use Rattle.ooo_parser.proofs.follow.follows.Goals as goal

pub returns : goal.returns
returns c =
    let x = root_of c.args.start in
    let pushed : c.as_slice.result.now ≡ c.args.read.now ++ in_place c.args.read.now c.args.symbol c.args.word ∷ [] = cc (c.in_ok-push.ensures.items, c.in_ok-trial.ensures.items, c.as_slice.ensures.value, c.in_place.ensures) in
    subst (FollowsAs x c.args.read.now c.args.symbol c.args.word)
    (sym (c.follow_of.ensures ∙ ap follow_of (c.in_ok-reach.ensures ∙ ap (λ ts. extent_of (reads_whole x ts)) pushed)))
    (follows_by c.readers.ensures c.beginnings.ensures c.beginnings_within.ensures x c.args.read.now c.args.symbol c.args.word c.requires)
