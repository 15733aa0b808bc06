-- What the loops keep: sums, ends of calls, ranges.
use Rattle.std.proofs.Common.{◌≡◌, ℕ, zero, suc, ◌+◌, ◌<◌, ◌≤◌, Bool, true, false, ◌&&◌, cond, List, [], ◌∷◌, ◌++◌, length, sum, take, get_or, set, count_by, nat_eq, refl, sym, ◌∙◌, ap, ap₂, subst, arith, append_assoc, append-nil, length-append, eq-eqb, inl, inr}
use Rattle.std.specs.Int.{div_ceil}
use Rattle.std.proofs.lemmas.Bool.{cases_lt, cases_eq}
use Rattle.std.proofs.lemmas.Bool.Decides.{eqb_tells}
use Rattle.std.proofs.lemmas.List.{length-set, get_or-set_same, get_or-set_other, get_or_append_left, get_or_push, get_or_read, take_more}
use Rattle.std.proofs.lemmas.List.Sums.{sum_by_more, sum_by_push}
use Rattle.balanced_partition.specs.declared.range.Range.{Range}
use Rattle.balanced_partition.specs.Cuts.{cut_of, cuts_from, cuts_of}
use Rattle.balanced_partition.specs.Tables.{AreSums, AreEnds, calls_with}
use Rattle.balanced_partition.proofs.Crossing.{one_if}
use Rattle.balanced_partition.proofs.Counting.{cut_of-IsCut, cuts_from-more, cuts_from-end}

-- the sums before the first places, and the last of them
pub record AreSumsTo (sizes sums : List ℕ) (i total : ℕ) : Type 0 where
  pub long : length sums ≡ i + 1
  pub each : (place : ℕ) → place ≤ i → get_or sums place 0 ≡ sum (take place sizes)
  pub total_is : total ≡ sum (take i sizes)

pub sums_begin : (sizes : List ℕ) → AreSumsTo sizes (0 ∷ []) 0 0
sums_begin sizes = record {
  long = refl;
  each = λ place h. let is : place ≡ 0 = omega arith in subst (λ p. get_or (0 ∷ []) p 0 ≡ sum (take p sizes)) (sym is) refl;
  total_is = refl;
}

pub sums_more : (sizes sums : List ℕ) (i total d : ℕ) → i < length sizes → AreSumsTo sizes sums i total → AreSumsTo sizes (sums ++ (total + get_or sizes i d) ∷ []) (i + 1) (total + get_or sizes i d)
sums_more sizes sums i total d h s =
    let next = total + get_or sizes i d in
    let is : next ≡ sum (take (i + 1) sizes) = ap (λ t. t + get_or sizes i d) s.total_is ∙ sym (sum_by_more (λ x. x) sizes i d h) in
    let len = s.long in
    record {
      long = let more = length-append sums (next ∷ []) in omega (arith, more, len);
      each = λ place below.
          elim (cases_lt place (i + 1)) [
            | inl before ↦ get_or_append_left sums (next ∷ []) 0 place (omega (arith, before, len)) ∙ s.each place (omega (arith, before))
            | inr last ↦
                let at : i + 1 ≡ place = omega (arith, last, below) in
                get_or_push sums next 0 place (len ∙ at) ∙ is ∙ ap (λ p. sum (take p sizes)) at
          ];
      total_is = is;
    }

pub sums_all : (sizes sums : List ℕ) (total : ℕ) → AreSumsTo sizes sums (length sizes) total → AreSums sizes sums
sums_all sizes sums total s = record { long = s.long; each = s.each }

-- what is read at a place
pub sum_at : (sizes sums : List ℕ) (place seen : ℕ) → AreSums sizes sums → place ≤ length sizes → seen ≡ get_or sums place seen → seen ≡ sum (take place sizes)
sum_at sizes sums place seen s h read = let len = s.long in get_or_read sums place seen (omega (arith, len, h)) read 0 ∙ s.each place h

-- one more number in one of the lists
one_more : (lists : List (List ℕ)) (at o v : ℕ) (test : ℕ → Bool) → at < length lists → count_by test (get_or (set lists at (get_or lists at [] ++ o ∷ [])) v []) ≡ count_by test (get_or lists v []) + one_if (nat_eq at v && test o)
one_more lists at o v test h =
    let new = get_or lists at [] ++ o ∷ [] in
    elim (cases_eq v at) [
      | inl is ↦
          let here : get_or (set lists at new) at [] ≡ new = get_or-set_same lists at new [] h in
          let more : count_by test new ≡ count_by test (get_or lists at []) + one_if (test o) = sum_by_push (λ x. cond (test x) 1 0) (get_or lists at []) o in
          let tells : nat_eq at at ≡ true = eq-eqb at at refl in
          subst (λ w. count_by test (get_or (set lists at new) w []) ≡ count_by test (get_or lists w []) + one_if (nat_eq at w && test o)) (sym is) (ap (count_by test) here ∙ more ∙ ap (λ b. count_by test (get_or lists at []) + one_if (b && test o)) (sym tells))
      | inr apart ↦
          let tells : nat_eq at v ≡ false = elim (eqb_tells at v) [ inl same ↦ absurd (apart (sym same.1)) | inr other ↦ other.0 ] in
          ap (count_by test) (get_or-set_other lists at v new [] apart) ∙ omega arith ∙ ap (λ b. count_by test (get_or lists v []) + one_if (b && test o)) (sym tells)
    ]

calls_with-more : (calls : List (ℕ × ℕ)) (call : ℕ × ℕ) (v : ℕ) (test : ℕ → Bool) → calls_with (calls ++ call ∷ []) v test ≡ calls_with calls v test + one_if (nat_eq call.0 v && test call.1) + one_if (nat_eq call.1 v && test call.0)
unfolding calls_with
calls_with-more calls call v test =
    let a = sum_by_push (λ x. cond (nat_eq x.0 v && test x.1) 1 0) calls call in
    let b = sum_by_push (λ x. cond (nat_eq x.1 v && test x.0) 1 0) calls call in
    omega (arith, a, b)

pub empties_more : (count : ℕ) (lists : List (List ℕ)) → AreEnds [] count lists → AreEnds [] (count + 1) (lists ++ [] ∷ [])
unfolding calls_with
empties_more count lists e =
    let len = e.long in
    record {
      long = let more = length-append lists ([] ∷ []) in omega (arith, more, len);
      each = λ v test h.
          elim (cases_lt v count) [
            | inl before ↦ ap (count_by test) (get_or_append_left lists ([] ∷ []) [] v (omega (arith, before, len))) ∙ e.each v test before
            | inr last ↦ ap (count_by test) (get_or_push lists [] [] v (omega (arith, last, h, len)))
          ];
    }

pub ends_more : (calls : List (ℕ × ℕ)) (i count a b : ℕ) (d : ℕ × ℕ) (lists first second : List (List ℕ)) → i < length calls → a < count → b < count → a ≡ (get_or calls i d).0 → b ≡ (get_or calls i d).1 → first ≡ set lists a (get_or lists a [] ++ b ∷ []) → second ≡ set first b (get_or first b [] ++ a ∷ []) → AreEnds (take i calls) count lists → AreEnds (take (i + 1) calls) count second
ends_more calls i count a b d lists first second h a_in b_in a_is b_is one two e =
    let call = get_or calls i d in
    let len = e.long in
    let len_one : length first ≡ count = ap length one ∙ length-set lists a (get_or lists a [] ++ b ∷ []) ∙ len in
    let len_two : length second ≡ count = ap length two ∙ length-set first b (get_or first b [] ++ a ∷ []) ∙ len_one in
    record {
      long = len_two;
      each = λ v test v_in.
          let p = one_more lists a b v test (omega (arith, a_in, len)) in
          let q = one_more first b a v test (omega (arith, b_in, len_one)) in
          let p' : count_by test (get_or first v []) ≡ count_by test (get_or lists v []) + one_if (nat_eq a v && test b) = ap (λ l. count_by test (get_or l v [])) one ∙ p in
          let q' : count_by test (get_or second v []) ≡ count_by test (get_or first v []) + one_if (nat_eq b v && test a) = ap (λ l. count_by test (get_or l v [])) two ∙ q in
          let more : calls_with (take (i + 1) calls) v test ≡ calls_with (take i calls) v test + one_if (nat_eq a v && test b) + one_if (nat_eq b v && test a) =
          ap (λ cs. calls_with cs v test) (take_more calls i d h) ∙ calls_with-more (take i calls) call v test ∙ ap₂ (λ x y. calls_with (take i calls) v test + one_if (nat_eq x v && test y) + one_if (nat_eq y v && test x)) (sym a_is) (sym b_is) in
          let was = e.each v test v_in in
          omega (arith, p', q', more, was);
    }

-- the ranges so far, with those that are left, are all of them
pub record AreRangesTo (sizes : List ℕ) (calls : List (ℕ × ℕ)) (aim : ℕ) (ranges : List Range) (from : ℕ) : Type 0 where
  pub left : ℕ
  pub within : from ≤ length sizes
  pub enough : length sizes ≤ from + left
  pub all : ranges ++ cuts_from sizes calls aim left from ≡ cuts_from sizes calls aim (length sizes) 0

pub ranges_begin : (sizes : List ℕ) (calls : List (ℕ × ℕ)) (aim : ℕ) → AreRangesTo sizes calls aim [] 0
ranges_begin sizes calls aim = record { left = length sizes; within = omega arith; enough = omega arith; all = refl }

step : (sizes : List ℕ) (calls : List (ℕ × ℕ)) (aim left : ℕ) (ranges : List Range) (from to : ℕ) → from < length sizes → to ≡ cut_of sizes aim from calls → length sizes ≤ from + left → ranges ++ cuts_from sizes calls aim left from ≡ cuts_from sizes calls aim (length sizes) 0 → AreRangesTo sizes calls aim (ranges ++ record { from = from; to = to } ∷ []) to
step sizes calls aim zero ranges from to h is enough all = absurd (omega (arith, h, enough))
step sizes calls aim (suc left) ranges from to h is enough all =
    let cut = cut_of-IsCut sizes calls aim from h in
    let after = cut.after in
    let within = cut.within in
    let rest : cuts_from sizes calls aim (suc left) from ≡ record { from = from; to = to } ∷ cuts_from sizes calls aim left to = cuts_from-more sizes calls aim left from h ∙ ap (λ c. record { from = from; to = c } ∷ cuts_from sizes calls aim left c) (sym is) in
    record {
      left = left;
      within = omega (arith, is, within);
      enough = omega (arith, enough, is, after);
      all = append_assoc ranges (record { from = from; to = to } ∷ []) (cuts_from sizes calls aim left to) ∙ ap (λ xs. ranges ++ xs) (sym rest) ∙ all;
    }

pub ranges_more : (sizes : List ℕ) (calls : List (ℕ × ℕ)) (aim : ℕ) (ranges : List Range) (from to : ℕ) → from < length sizes → to ≡ cut_of sizes aim from calls → AreRangesTo sizes calls aim ranges from → AreRangesTo sizes calls aim (ranges ++ record { from = from; to = to } ∷ []) to
ranges_more sizes calls aim ranges from to h is r = step sizes calls aim r.left ranges from to h is r.enough r.all

pub ranges_all : (sizes sizes' : List ℕ) (calls calls' : List (ℕ × ℕ)) (aim wanted : ℕ) (ranges : List Range) (from : ℕ) → sizes' ≡ sizes → calls' ≡ calls → aim ≡ div_ceil (sum sizes) wanted → length sizes' ≤ from → AreRangesTo sizes' calls' aim ranges from → ranges ≡ cuts_of sizes calls wanted
unfolding cuts_of
ranges_all sizes sizes' calls calls' aim wanted ranges from sizes_is calls_is aim_is h r =
    let none = cuts_from-end sizes' calls' aim r.left from h in
    let whole : cuts_from sizes' calls' aim (length sizes') 0 ≡ cuts_from sizes calls (div_ceil (sum sizes) wanted) (length sizes) 0 =
    ap (λ s. cuts_from s calls' aim (length s) 0) sizes_is ∙ ap (λ cs. cuts_from sizes cs aim (length sizes) 0) calls_is ∙ ap (λ a. cuts_from sizes calls a (length sizes) 0) aim_is in
    sym (append-nil ranges) ∙ ap (λ xs. ranges ++ xs) (sym none) ∙ r.all ∙ whole
