use Rattle.std.proofs.Common.{length, ◌+◌, ◌≤◌, [], ◌∷◌, ◌++◌, All, take, ap, arith}
use Rattle.ooo_syntax.specs.declared.terminal.Terminal.TheVariants as terminal
use Rattle.ooo_parser.specs.Words.{words, in_place}
use Rattle.ooo_parser.specs.Refusals.{IsWithin}
use Rattle.ooo_parser.specs.Reaches.{SoFar, root_of}
use Rattle.ooo_parser.proofs.Follows.{more_deep, more_never, at_end}
use Rattle.ooo_parser.proofs.follow.a_word_follows.Goals as goal
use Rattle.ooo_parser.proofs.follow.a_word_follows.Goals.{in-TooDeep, in-Never}

pub loop-word-preserved : goal.loop-word-preserved
loop-word-preserved c =
    let r : All (λ t. IsWithin (root_of c.args.start) (c.args.read.now ++ in_place c.args.read.now c.args.symbol t ∷ []) → ⊥) (take (c.loop-word.word-index + 1) words) × SoFar (root_of c.args.start) c.args.read.now c.args.symbol (take (c.loop-word.word-index + 1) words) c.match-branch-2.most = elim c.match-branch-2.branch [
      | in-TooDeep w ↦ more_deep c.beginnings_within.ensures (root_of c.args.start) c.args.read.now c.args.symbol c.words-word-items.result.now c.words-word-items.ensures c.loop-word.word-index terminal.Word c.loop-word-test.true c.match-branch-2.most c.in_ok-follows.field-0 c.in_ok-follows.ensures
          w.in-TooDeep.is w.most-is c.loop-word.invariant.none
      | in-Never w ↦ more_never c.beginnings_within.ensures (root_of c.args.start) c.args.read.now c.args.symbol c.words-word-items.result.now c.words-word-items.ensures c.loop-word.word-index terminal.Word c.loop-word-test.true c.match-branch-2.most c.in_ok-follows.field-0 c.in_ok-follows.ensures
          w.in-Never.is c.loop-word.most w.most-is c.loop-word.invariant.none c.loop-word.invariant.most
    ] in
    record { list = c.words-word-items.ensures; none = r.0; most = r.1 }

pub returns : goal.returns
returns c =
    let past : length words ≤ c.loop-word.word-index = omega (arith, ap length c.words-word-items.ensures) in
    at_end c.beginnings_within.ensures (root_of c.args.start) c.args.read.now c.args.symbol c.loop-word.word-index c.loop-word.most past c.loop-word.invariant.none c.loop-word.invariant.most
