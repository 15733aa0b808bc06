-- What follows what follows a run follows the run.
use Rattle.std.proofs.Common.{ℕ, List, ◌++◌, ap, ◌∙◌, subst, append_assoc}
use Rattle.gimple_meaning.specs.Laws.{Grows}
use Rattle.gimple_meaning.specs.Shown.{Shown, Goes, Ends, Fails, Covers, FollowsOn}

grows_on : (xs ys zs : List ℕ) → Grows xs ys → Grows ys zs → Grows xs zs
grows_on xs ys zs (a, p) (b, q) = (a ++ b, q ∙ ap (λ l. l ++ b) p ∙ append_assoc xs a b)

covers_on : (low middle high : Shown) → Covers low middle → Covers middle high → Covers low high
covers_on low middle Fails c d = tt
covers_on low Fails (Goes whole) c d = absurd d
covers_on low Fails (Ends status whole) c d = absurd d
covers_on (Goes x) (Goes y) (Goes z) c d = grows_on x y z c d
covers_on (Goes x) (Goes y) (Ends status z) c d = grows_on x y z c d
covers_on (Goes x) (Ends code y) (Goes z) c d = absurd d
covers_on (Goes x) (Ends code y) (Ends status z) c d = subst (λ (l : List ℕ). Grows x l) d.1 c
covers_on (Ends code x) (Goes y) (Goes z) c d = absurd c
covers_on (Ends code x) (Goes y) (Ends status z) c d = absurd c
covers_on (Ends code x) (Ends other y) (Goes z) c d = absurd d
covers_on (Ends code x) (Ends other y) (Ends status z) c d = (c.0 ∙ d.0, c.1 ∙ d.1)
covers_on Fails (Goes y) (Goes z) c d = absurd c
covers_on Fails (Goes y) (Ends status z) c d = absurd c
covers_on Fails (Ends code y) (Goes z) c d = absurd c
covers_on Fails (Ends code y) (Ends status z) c d = absurd c

pub follows_on : FollowsOn
follows_on low middle high a b = record {
  goes_on = λ n output is. let m = b.goes_on n output is in a.goes_on m.0 output m.1;
  ends = λ n status output is. let m = b.ends n status output is in a.ends m.0 status output m.1;
  no_more = λ k.
      let m = a.no_more k in
      let n = b.no_more m.0 in
      (n.0, covers_on (low k) (middle m.0) (high n.0) m.1 n.1);
}
