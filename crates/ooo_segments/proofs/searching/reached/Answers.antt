-- Each step of the search by its lemma.
use Rattle.std.proofs.Common.{◌≡◌, [], arith, ◌∙◌, sym}
use Rattle.std.proofs.lemmas.List.{length-replicate, nil_from_length}
use Rattle.ooo_code.specs.Segments.{here}
use Rattle.ooo_segments.proofs.SearchLemmas.{begins, goes_on, passes, follows_within, ends}
use Rattle.ooo_segments.proofs.searching.reached.Goals as goal

pub find-requires : goal.find-requires
find-requires c = rw (c.in_ok-found.ensures, length-replicate) (c.requires c.args.entry here)

pub nodes-init : goal.nodes-init
nodes-init c =
    let f = rw (c.in_ok-found.ensures, c.new-left.ensures.items) at c.in_ok-find.ensures in
    record {
      count = f.count ∙ length-replicate _ _;
      search = begins _ _ _ _ _ f;
    }

pub follow-requires : goal.follow-requires
follow-requires c =
    follows_within _ _ _ _ _ c.in-Some.number c.in-Some-at.node.now c.requires c.nodes.invariant.count (rw c.in-Some.ensures.items at c.nodes.invariant.search) (sym c.in-Some-at.ensures)

pub nodes-preserved-in-Continue-branch-3 : goal.nodes-preserved-in-Continue-branch-3
nodes-preserved-in-Continue-branch-3 c = record {
  count = c.in_ok-follow.ensures.count ∙ c.nodes.invariant.count;
  search = goes_on _ _ _ _ c.in-Some.number c.in-Some-at.node.now _ _ (rw c.in-Some.ensures.items at c.nodes.invariant.search) (sym c.in-Some-at.ensures) c.in_ok-follow.ensures;
}

pub nodes-preserved : goal.nodes-preserved
nodes-preserved c = record {
  count = c.nodes.invariant.count;
  search = passes _ _ _ _ _ (rw c.in-Some.ensures.items at c.nodes.invariant.search) (sym c.in_default-at.ensures);
}

pub returns : goal.returns
returns c =
    let none : c.nodes.left.items ≡ [] = let z = c.in_default.ensures.cases in nil_from_length _ (omega arith) in
    ends _ _ _ (rw none at c.nodes.invariant.search)
