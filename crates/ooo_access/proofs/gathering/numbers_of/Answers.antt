use Rattle.ooo_access.proofs.gathering.numbers_of.Goals as goal

pub returns-clause-members : goal.returns-clause-members
returns-clause-members c = λ n. (
  λ h. (c.in_ok-set.ensures n).0 ((c.in_ok-numbers.ensures.same n).0 h),
  λ h. (c.in_ok-numbers.ensures.same n).1 ((c.in_ok-set.ensures n).1 h),
)
