-- Each step keeps the rule of the claims.
use Rattle.std.proofs.Common.{◌≡◌, ◌≢◌, ℕ, zero, suc, ◌+◌, ◌-◌, ◌%◌, ◌^◌, ◌<◌, ◌≤◌, min, List, [], ◌∷◌, length, set, get_or, Bool, true, false, true≢false, cond, ◌||◌, refl, sym, ap, ◌∙◌, subst, ⊎_elim, arith}
use Rattle.std.proofs.lemmas.Bool.Decides.{nat_tests}
use lib.Seq.{set-get_or}
use mathlib.Core.Option.{none, some, some-injective, some-ne-none}
use mathlib.Core.Logic.{dite}
use native.Mathlib.Decide.{dec_lt}
use lib.ListN.{get_elem?}
use Rattle.atomic_table.specs.Table.{State, Me, step, keeps, stepped, Allows, Splits, Joins}
use Rattle.atomic_table.proofs.Lists.{at_set, set_again, at_snoc}
use Rattle.worker_gate.specs.declared.view.SeatView.{SeatView}
use Rattle.list_counts.specs.Counts.{total, same, times, once_below, Ascends}
use Rattle.worker_gate.specs.Claims.{held, fresh, keeping, given, joined, spent_view, drew, ended, IsSound}
use Rattle.worker_gate.specs.Steps.{open_share, share_of, Fits, IsKept, Drawn, Looked}
use Rattle.list_counts.proofs.Sums.{total_set, total_snoc, total_append, part, alone, times_snoc, once_more, ascends_on, ascends_below, ascends_few, set_at}

abbrev St : Type 0
St = State (Unit {0}) SeatView

abbrev M : Type 0
M = Me (Unit {0}) SeatView

-- what the rule says of each view, after one has changed
all_set : (F : SeatView → Type 0) (views : List SeatView) (id : ℕ) (w : SeatView) → F w → ((j : ℕ) (u : SeatView) → j ≢ id → get_elem? views j ≡ some u → F u)
    → (j : ℕ) (u : SeatView) → get_elem? (set views id w) j ≡ some u → F u
all_set F views id w mine others j u e =
    ⊎_elim
    (λ (t : (j ≡ id) × (w ≡ u)). subst F t.1 mine)
    (λ (t : (j ≢ id) × (get_elem? views j ≡ some u)). others j u t.0 t.1)
    (at_set views id j w u e)

has_none : (x : ℕ) (u : SeatView) → (u.own ≡ []) × (u.lists ≡ []) → held x u ≡ 0
has_none x u k = ap (λ l. times x l + total (times x) u.lists) k.0 ∙ ap (λ l. times x [] + total (times x) l) k.1

-- a view of the rule is sound
pub sound_of : (limit : ℕ) (s : St) (r : IsKept limit s) (id : ℕ) (v : SeatView) → get_elem? s.views id ≡ some v → 0 < v.share → IsSound v
sound_of limit s r id v at live =
    let f = r.fits id v at in
    let c : v.count ≡ limit = f.count live in
    let own = f.own in
    let most : v.share ≤ 65 = let p = part share_of s.views id v at in let q = r.shares in omega arith in
    record {
      live = live;
      own = subst (λ n. Ascends 0 n v.own) (sym c) (ascends_below 0 (min r.word limit) limit v.own (omega arith) own);
      apart = λ x. let p = part (held x) s.views id v at in let o = r.once x in grind (arith, nat_tests);
      all = λ over whole x.
          let late = f.late over in
          let o = r.once x in
          let q = r.shares in
          let same_all : total (held x) s.views ≡ held x v = alone share_of (held x) s.views id v at (λ j u e none. has_none x u ((r.fits j u e).spent none)) (omega arith) in
          grind (arith, nat_tests);
      share = most;
    }

pub begins : (limit : ℕ) → IsKept limit record { words = 0 ∷ []; homes = []; views = fresh limit ∷ [] }
begins limit = record {
  word = 0;
  words = refl;
  once = λ x. grind (arith, nat_tests);
  shares = refl;
  few = omega arith;
  fits = one;
}
  where
    one : (j : ℕ) (v : SeatView) → get_elem? (fresh limit ∷ []) j ≡ some v → Fits limit 0 v
    one zero v e = subst (Fits limit 0) (some-injective (fresh limit) v e) record { count = λ _. refl; own = omega arith; late = λ x. absurd (true≢false (sym x)); spent = λ x. absurd (omega arith) }
    one (suc j) v e = absurd (some-ne-none v (sym e))

-- the word after a step is a step's word
words_of : (s : St) (word n : ℕ) → s.words ≡ word ∷ [] → set s.words 0 n ≡ n ∷ []
words_of s word n e = ap (λ l. set l 0 n) e

pub looks : (limit slots id : ℕ) (me : M) → 0 < me.0.share → Allows (IsKept limit) slots id me 0 (λ n. n) (Looked (step slots 0 0 0 none) me)
looks limit slots id me live s r _ at _ = (
  me.0,
  keeps,
  tt,
  subst (λ ws. IsKept limit record { words = ws; homes = s.homes; views = set s.views id me.0 }) (sym (set-get_or s.words 0 0))
      (subst (λ vs. IsKept limit record { words = s.words; homes = s.homes; views = vs }) (sym (set_again s.views id me.0 at)) r),
  (refl, sound_of limit s r id me.0 at live),
)

-- what fits goes on to fit where the word grows
fits_on : (limit word : ℕ) (u : SeatView) → Fits limit word u → Fits limit (suc word) u
fits_on limit word u f = let late = f.late in record {
  count = f.count;
  own = ascends_below 0 (min word limit) (min (suc word) limit) u.own (omega arith) f.own;
  late = λ e. let l = late e in omega arith;
  spent = f.spent;
}

module _ (limit id : ℕ) (v : SeatView) (s : St) (r : IsKept limit s) (at : get_elem? s.views id ≡ some v) (live : 0 < v.share) (n : ℕ) (is : n ≡ r.word) where
  abbrev after : ℕ → SeatView → St
  after k w = record { words = set s.words 0 k; homes = s.homes; views = set s.views id w }

  draws_one : (k : ℕ) → k ≡ suc n → n < limit → IsKept limit (after k (drew n v))
  draws_one k more new =
      let f = r.fits id v at in
      let w : SeatView = drew n v in
      let before : min r.word limit ≡ n = omega arith in
      let now : min (suc r.word) limit ≡ suc n = omega arith in
      let few = r.few in
      record {
        word = suc r.word;
        words = ap (λ l. set l 0 k) r.words ∙ ap (λ (m : ℕ). m ∷ []) (more ∙ ap suc is);
        once = λ x.
            let a = total_set (held x) s.views id v w at in
            let b = times_snoc x n v.own in
            let c = r.once x in
            let d = once_more x n in
            let e : once_below x (min r.word limit) ≡ once_below x n = ap (once_below x) before in
            let g : once_below x (min (suc r.word) limit) ≡ once_below x (suc n) = ap (once_below x) now in
            omega arith;
        shares = let a = total_set share_of s.views id v w at in let b = r.shares in omega arith;
        few = let a = total_set open_share s.views id v w at in omega arith;
        fits = all_set (Fits limit (suc r.word)) s.views id w
            record {
              count = f.count;
              own = subst (λ m. Ascends 0 m w.own) (sym now) (ascends_on 0 n v.own (subst (λ m. Ascends 0 m v.own) before f.own));
              late = λ e. let l = f.late e in omega arith;
              spent = λ none. absurd (omega arith);
            }
            (λ j u other e. fits_on limit r.word u (r.fits j u e));
      }

  draws_none : (k : ℕ) → k ≡ suc n → limit ≤ n → v.ended ≡ false → IsKept limit (after k (ended v))
  draws_none k more late still =
      let f = r.fits id v at in
      let w : SeatView = ended v in
      let same_top : min r.word limit ≡ min (suc r.word) limit = omega arith in
      let few = r.few in
      let may : open_share v ≡ v.share = ap (λ b. cond b 0 v.share) still in
      record {
        word = suc r.word;
        words = ap (λ l. set l 0 k) r.words ∙ ap (λ (m : ℕ). m ∷ []) (more ∙ ap suc is);
        once = λ x. let a = total_set (held x) s.views id v w at in let c = r.once x in let e = ap (once_below x) same_top in omega arith;
        shares = let a = total_set share_of s.views id v w at in let b = r.shares in omega arith;
        few = let a = total_set open_share s.views id v w at in omega arith;
        fits = all_set (Fits limit (suc r.word)) s.views id w
            record {
              count = f.count;
              own = ascends_below 0 (min r.word limit) (min (suc r.word) limit) v.own (omega arith) f.own;
              late = λ e. omega arith;
              spent = f.spent;
            }
            (λ j u other e. fits_on limit r.word u (r.fits j u e));
      }

pub draws : (limit slots id : ℕ) (me : M) → limit ≤ 513 → 0 < me.0.share → me.0.ended ≡ false → Allows (IsKept limit) slots id me 0 (λ n. (n + 1) % 2 ^ 64) (Drawn (step slots 0 1 0 none) me)
draws limit slots id me small live still s r _ at low =
    let v : SeatView = me.0 in
    let n : ℕ = get_or s.words 0 0 in
    let is : n ≡ r.word = ap (λ l. get_or l 0 0) r.words in
    let f = r.fits id v at in
    let own = f.own in
    let count : v.count ≡ limit = f.count live in
    let few = r.few in
    let more : (n + 1) % 2 ^ 64 ≡ suc n = omega arith in
    dite (dec_lt n limit)
    (λ new.
    let w : SeatView = drew n v in
    let r' = draws_one limit id v s r at live n is ((n + 1) % 2 ^ 64) more new in
    let before : min r.word limit ≡ n = omega arith in (
      w,
      keeps,
      tt,
      r',
      (refl, sound_of limit (stepped s 0 ((n + 1) % 2 ^ 64) id me.1 w keeps) r' id w (set_at s.views id v w at) live, (λ _. (refl, subst (λ m. Ascends 0 m v.own) before own)), (λ late. absurd (omega arith))),
    ))
    (λ past.
    let w : SeatView = ended v in
    let r' = draws_none limit id v s r at live n is ((n + 1) % 2 ^ 64) more (omega arith) still in (
      w,
      keeps,
      tt,
      r',
      (refl, sound_of limit (stepped s 0 ((n + 1) % 2 ^ 64) id me.1 w keeps) r' id w (set_at s.views id v w at) live, (λ new. absurd (past (omega arith))), (λ _. refl)),
    ))

open_split : (e : Bool) (n : ℕ) → 1 ≤ n → cond e 0 (n - 1) + cond e 0 1 ≡ cond e 0 n
open_split true n h = refl
open_split false n h = omega arith

open_join : (e f : Bool) (a b : ℕ) → cond (e || f) 0 (a + b) ≤ cond e 0 a + cond f 0 b
open_join true f a b = omega arith
open_join false true a b = omega arith
open_join false false a b = omega arith

either_ended : (P : Type 0) (e f : Bool) → (e ≡ true → P) → (f ≡ true → P) → (e || f) ≡ true → P
either_ended P true f one two h = one refl
either_ended P false f one two h = two h

pub splits : (limit id : ℕ) (v : SeatView) → 2 ≤ v.share → Splits (IsKept limit) id v (keeping v) (given v)
splits limit id v enough s r at =
    let f = r.fits id v at in
    let l : SeatView = keeping v in
    let g : SeatView = given v in
    let vs : List SeatView = set s.views id l in
    let few = r.few in
    record {
      word = r.word;
      words = r.words;
      once = λ x. let a = total_set (held x) s.views id v l at in let b = total_snoc (held x) vs g in let c = r.once x in omega arith;
      shares = let a = total_set share_of s.views id v l at in let b = total_snoc share_of vs g in let c = r.shares in omega arith;
      few = let a = total_set open_share s.views id v l at in let b = total_snoc open_share vs g in let c = open_split v.ended v.share (omega arith) in omega arith;
      fits = λ j u e. ⊎_elim
          (all_set (Fits limit r.word) s.views id l record { count = λ _. f.count (omega arith); own = f.own; late = f.late; spent = λ none. absurd (omega arith) } (λ i x other e'. r.fits i x e') j u)
          (λ (t : g ≡ u). subst (Fits limit r.word) t record { count = λ _. f.count (omega arith); own = omega arith; late = f.late; spent = λ none. absurd (omega arith) })
          (at_snoc vs g u j e);
    }

pub joins : (limit id : ℕ) (v : SeatView) (other : ℕ) (w : SeatView) → 0 < v.share → 0 < w.share → Joins (IsKept limit) id v other w (joined v w) spent_view
joins limit id v other w live live' s r at apart there =
    let f = r.fits id v at in
    let both : SeatView = joined v w in
    let vs : List SeatView = set s.views id both in
    let was : get_elem? s.views other ≡ some w = ⊎_elim (λ (t : (other ≡ id) × (both ≡ w)). absurd (apart t.0)) (λ (t : (other ≢ id) × (get_elem? s.views other ≡ some w)). t.1) (at_set s.views id other both w there) in
    let g = r.fits other w was in
    let few = r.few in
    record {
      word = r.word;
      words = r.words;
      once = λ x. let a = total_set (held x) s.views id v both at in let b = total_set (held x) vs other w spent_view there in let c = r.once x in let d = total_append (times x) v.lists (w.own ∷ w.lists) in omega arith;
      shares = let a = total_set share_of s.views id v both at in let b = total_set share_of vs other w spent_view there in let c = r.shares in omega arith;
      few = let a = total_set open_share s.views id v both at in let b = total_set open_share vs other w spent_view there in let c = open_join v.ended w.ended v.share w.share in omega arith;
      fits = all_set (Fits limit r.word) vs other spent_view
          record { count = λ none. absurd (omega arith); own = omega arith; late = λ x. absurd (true≢false (sym x)); spent = λ _. (refl, refl) }
          (λ j u _ e. all_set (Fits limit r.word) s.views id both
          record { count = λ _. f.count live; own = f.own; late = either_ended (limit ≤ r.word) v.ended w.ended f.late g.late; spent = λ none. absurd (omega arith) }
          (λ i x _ e'. r.fits i x e') j u e);
    }

-- a number that was drawn stood nowhere in the seat before
pub new_number : (n : ℕ) (v w : SeatView) → w ≡ drew n v → IsSound w → held n v ≡ 0
new_number n v w is sound =
    let a : held n w ≤ once_below n w.count = sound.apart n in
    let b : held n w ≡ held n (drew n v) = ap (held n) is in
    let c = times_snoc n n v.own in
    let d : same n n ≡ 1 = grind (arith, nat_tests) in
    let e : once_below n w.count ≤ 1 = grind (arith, nat_tests) in
    omega arith

-- the seat has room in its list for the number
pub room_left : (n cap : ℕ) (v : SeatView) → Ascends 0 n v.own → n < v.count → v.count ≤ cap → length v.own < cap
room_left n cap v own new room = let a = ascends_few 0 n v.own own in omega arith

pub sound_given : (v : SeatView) → IsSound (given v)
sound_given v = record { live = omega arith; own = omega arith; apart = λ x. omega arith; all = λ _ e. absurd (omega arith); share = omega arith }
