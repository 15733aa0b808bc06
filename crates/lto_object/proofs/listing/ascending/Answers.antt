use Rattle.std.proofs.Common.{sym}
use Rattle.std.specs.Prelude.{nat_eq}
use Rattle.std.proofs.lemmas.List.Sorted.{IsNonDecreasingBy-from_sort, list_any-IsPermutation}
use Rattle.lto_object.proofs.listing.ascending.Goals as goal

pub returns-clause-ascends : goal.returns-clause-ascends
returns-clause-ascends c = IsNonDecreasingBy-from_sort (λ x. x) _ c.sort_unstable.ensures.sorted

pub returns-clause-same : goal.returns-clause-same
returns-clause-same c x = sym (list_any-IsPermutation (nat_eq x) _ _ c.sort_unstable.ensures.permutation)
