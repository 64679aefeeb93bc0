use Rattle.ooo_parser.proofs.Anywhere.{tree_anywhere, refused_anywhere}
use Rattle.ooo_parser.proofs.law.anywhere.Goals as goal

pub returns-clause-tree : goal.returns-clause-tree
returns-clause-tree c = tree_anywhere c.anywhere.ensures.texts

pub returns-clause-refused : goal.returns-clause-refused
returns-clause-refused c = refused_anywhere c.anywhere.ensures.texts c.anywhere.ensures.types
