use Rattle.std.proofs.Common.{◌≡◌, [], ◌∷◌, ◌++◌, All, take}
use Rattle.ooo_parser.specs.Words.{words, in_place}
use Rattle.ooo_parser.specs.Refusals.{IsWithin}
use Rattle.ooo_parser.specs.Reaches.{SoFar, root_of}
use Rattle.ooo_parser.proofs.follow.a_word_follows.Given as goal

abbrev pub invariant-loop-word : goal.invariant-loop-word
invariant-loop-word l = record {
  list : l.word-items ≡ words;
  none : All (λ t. IsWithin (root_of l.start) (l.read ++ in_place l.read l.symbol t ∷ []) → ⊥) (take l.word-index words);
  most : SoFar (root_of l.start) l.read l.symbol (take l.word-index words) l.most;
}
