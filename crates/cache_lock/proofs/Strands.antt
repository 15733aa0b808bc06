-- The entries at the places of a strand, as the history grows.
use Rattle.std.proofs.Common.{◌≡◌, ℕ, zero, suc, ◌<◌, List, [], ◌∷◌, ◌++◌, length, append_assoc, append-nil, refl, sym, ap, ◌∙◌, arith, map}
use mathlib.Core.List.{IsPrefix}
use Rattle.list_counts.specs.Counts.{Ascends, AllAscend}
use Rattle.cache_lock.specs.Sequential.{entry_at, entries_at}

below_high : (low high k : ℕ) (ks : List ℕ) → Ascends low high (k ∷ ks) → k < high
below_high low high k [] a = let b = a.1 in omega arith
below_high low high k (j ∷ ks) a = let b = below_high (suc k) high j ks a.1 in let c = a.1.0 in omega arith

module _ {E : Type 0} where
  entry_more : (es more : List E) (k : ℕ) → k < length es → entry_at (es ++ more) k ≡ entry_at es k
  entry_more [] more k h = absurd (omega arith)
  entry_more (e ∷ es) more zero h = refl
  entry_more (e ∷ es) more (suc k) h = entry_more es more k (omega arith)

  entry_last : (es : List E) (e : E) → entry_at (es ++ e ∷ []) (length es) ≡ e ∷ []
  entry_last [] e = refl
  entry_last (x ∷ es) e = entry_last es e

  pub entries_more : (es more : List E) (low : ℕ) (ks : List ℕ) → Ascends low (length es) ks → entries_at (es ++ more) ks ≡ entries_at es ks
  entries_more es more low [] a = refl
  entries_more es more low (k ∷ ks) a = λ i. entry_more es more k (below_high low (length es) k ks a) i ++ entries_more es more (suc k) ks a.1 i

  -- the entries of a strand stay as the history grows
  pub entries_stay : (es longer : List E) (low : ℕ) (ks : List ℕ) → IsPrefix es longer → Ascends low (length es) ks → entries_at longer ks ≡ entries_at es ks
  entries_stay es longer low ks p a = sym (ap (λ l. entries_at l ks) p.1) ∙ entries_more es p.0 low ks a

  entries_snoc : (es : List E) (ks : List ℕ) (k : ℕ) → entries_at es (ks ++ k ∷ []) ≡ entries_at es ks ++ entry_at es k
  entries_snoc es [] k = append-nil (entry_at es k)
  entries_snoc es (j ∷ ks) k = ap (λ l. entry_at es j ++ l) (entries_snoc es ks k) ∙ sym (append_assoc (entry_at es j) (entries_at es ks) (entry_at es k))

  -- one entry more at the end, whose place ends the strand
  pub entries_called : (es between : List E) (e : E) (ks : List ℕ) → Ascends 0 (length es) ks
      → entries_at ((es ++ between) ++ e ∷ []) (ks ++ length (es ++ between) ∷ []) ≡ entries_at es ks ++ e ∷ []
  entries_called es between e ks a =
      entries_snoc ((es ++ between) ++ e ∷ []) ks (length (es ++ between))
      ∙ (λ i. entries_stay es ((es ++ between) ++ e ∷ []) 0 ks (between ++ e ∷ [], sym (append_assoc es between (e ∷ []))) a i ++ entry_last (es ++ between) e i)

  -- the entries of several strands stay
  pub all_stay : (es longer : List E) (ls : List (List ℕ)) → IsPrefix es longer → AllAscend (length es) ls → map (entries_at longer) ls ≡ map (entries_at es) ls
  all_stay es longer [] p a = refl
  all_stay es longer (l ∷ ls) p a = λ i. entries_stay es longer 0 l p a.0 i ∷ all_stay es longer ls p a.1 i
