use Rattle.std.specs.Prelude.{◌≡◌, ℕ, List, drop, length, reverse, sum}
use Rattle.std.proofs.Common.{sym, ◌∙◌, ap, arith}
use Rattle.std.proofs.lemmas.List.{drop-drop}
use Rattle.ooo_checked.specs.Scopes.{Binding, Scope, left}
use Rattle.ooo_scopes.specs.Blocks.{blocks}
use Rattle.ooo_scopes.proofs.InBlocks.{left_blocks, left_full}
use Rattle.ooo_scopes.proofs.scopes.Scopes.leave.Goals as goal

pub invariant_of-self : goal.invariant_of-self
invariant_of-self c =
    let a = c.self.inside in
    let b = c.loop-forgotten.self-inside in
    let all : c.loop-forgotten._forgotten ≡ c.in-Some.count = omega arith in
    let names : b.names ≡ drop c.in-Some.count a.names = c.loop-forgotten.invariant.0 ∙ ap (λ (i : ℕ). drop i a.names) all in
    let counts : b.counts.items ≡ c.pop.new.self.items = ap (λ v. v.items) c.loop-forgotten.invariant.1 in
    ap (λ (l : List ℕ). sum (reverse l)) counts
    ∙ (left_full a.counts.items c.pop.new.self.items c.in-Some.count a.names c.in-Some.ensures.items c.self.invariant
    ∙ ap (λ (l : List Binding). length l) (sym names))

pub loop-forgotten-preserved : goal.loop-forgotten-preserved
loop-forgotten-preserved c = (
  c.pop-in-loop-forgotten.ensures
      ∙ (ap (λ (l : List Binding). drop 1 l) c.loop-forgotten.invariant.0 ∙ drop-drop 1 c.loop-forgotten._forgotten c.self.inside.names),
  c.loop-forgotten.invariant.1,
)

pub returns-after-loop-forgotten : goal.returns-after-loop-forgotten
returns-after-loop-forgotten c =
    let a = c.self.inside in
    let b = c.loop-forgotten.self-inside in
    let all : c.loop-forgotten._forgotten ≡ c.in-Some.count = omega arith in
    let names : b.names ≡ drop c.in-Some.count a.names = c.loop-forgotten.invariant.0 ∙ ap (λ (i : ℕ). drop i a.names) all in
    let counts : b.counts.items ≡ c.pop.new.self.items = ap (λ v. v.items) c.loop-forgotten.invariant.1 in
    ap (λ (l : List ℕ). blocks (reverse l) b.names) counts
    ∙ (ap (λ (l : List Binding). blocks (reverse c.pop.new.self.items) l) names
    ∙ (sym (left_blocks a.counts.items c.pop.new.self.items c.in-Some.count a.names c.in-Some.ensures.items)
    ∙ ap (λ (s : Scope). left s) c.self.view_is))
