-- Each step keeps the rule of the cell.
use Rattle.std.proofs.Common.{Bool, cond, ltb, ◌≡◌, ◌≢◌, ℕ, zero, suc, ◌+◌, ◌*◌, ◌%◌, ◌^◌, ◌<◌, ◌≤◌, List, [], ◌∷◌, ◌++◌, length, set, get_or, true, false, true≢false, eqb, Option, Some, None, refl, sym, ap, ◌∙◌, subst, ⊎_elim, inl, inr, arith, length-append, map}
use Rattle.std.specs.Prelude.{vec_capacity}
use Rattle.std.proofs.lemmas.Bool.Decides.{nat_tests}
use lib.Seq.{set-get_or}
use mathlib.Core.Option.{none, some, some-injective, some-ne-none}
use mathlib.Core.List.{IsPrefix, map-append}
use prog.Atomic.{either}
use lib.ListN.{get_elem?}
use Rattle.atomic_table.specs.Table.{State, Me, Act, step, keeps, takes, gives, stepped, Valid, carried_after, Allows, Splits, Joins, Final, Seen, rest}
use Rattle.atomic_table.proofs.Lists.{at_set, set_again, at_snoc, at_longer, set_else, exchanged}
use Rattle.cache_lock.specs.declared.view.View.{View}
use Rattle.cache_lock.specs.declared.view.Held.{Held}
use Rattle.cache_lock.specs.declared.view.Origin.{Origin}
use Rattle.list_counts.specs.Counts.{total, same, times, once_below, Ascends}
use Rattle.cache_lock.specs.Sequential.{IsLegal, state_after, entries_at}
use Rattle.cache_lock.specs.Locking.{made, count_of, allowance_of, longer, shorter, first_view, view_keeping, view_given, view_joined, spent_view, view_turning, view_called, Fits, Knows, journal_of, AtHome, IsOut, Kept, Looked, IsFound, Took, Committed, IsReady}
use Rattle.list_counts.proofs.Sums.{total_set, total_snoc, total_append, part, two_parts, alone, total_plus, total_le, times_few, times_snoc, once_more, ascends_on, ascends_below, set_at}
use Rattle.cache_lock.proofs.Strands.{entries_called, all_stay}
use Rattle.cache_lock.proofs.Prefixes.{prefix_refl, prefix_is, prefix_trans, prefix_more, prefix_length, shorter_begins, longer_fits, longer_left, longer_right, all_below, all_append, legal_prefix, legal_snoc, state_snoc}

module _ {S E : Type 0} where
  -- what the rule says of each view, after one has changed
  pub all_set : (F : ℕ → View S E → Type 0) (views : List (View S E)) (id : ℕ) (w : View S E) → F id w → ((j : ℕ) (u : View S E) → j ≢ id → get_elem? views j ≡ some u → F j u)
      → (j : ℕ) (u : View S E) → get_elem? (set views id w) j ≡ some u → F j u
  all_set F views id w mine others j u e =
      ⊎_elim
      (λ (t : (j ≡ id) × (w ≡ u)). subst (λ (y : ℕ × View S E). F y.0 y.1) (λ i. (sym t.0 i, t.1 i)) mine)
      (λ (t : (j ≢ id) × (get_elem? views j ≡ some u)). others j u t.0 t.1)
      (at_set views id j w u e)

  -- what fits a history fits a longer one
  fits_on : (start : S) (room : ℕ) (log more : List E) (v : View S E) → Fits start room log v → Fits start room (log ++ more) v
  fits_on start room log more v f = record { origin = f.origin; seen = prefix_more v.seen log more f.seen; told = f.told; own = f.own; others = f.others; turn = f.turn }

off : false ≡ true → ⊥
off e = true≢false (sym e)

once_most : (x n : ℕ) → once_below x n ≤ 1
once_most x n = grind (arith, nat_tests)

module _ {S E : Type 0} (possible : S → E → Type 0) (after : S → E → S) (key : Origin S) where
  abbrev D : Type 0
  D = Option (Held S E)

  abbrev V : Type 0
  V = View S E

  abbrev St : Type 0
  St = State D V

  abbrev M : Type 0
  M = Me D V

  abbrev Rule : St → Type 0
  Rule = Kept possible after key

  abbrev fit : List E → V → Type 0
  fit = Fits key.first.value key.calls

  knows_of : (s : St) (r : Rule s) (id : ℕ) (v : V) → get_elem? s.views id ≡ some v → Knows v
  knows_of s r id v at = let f = r.fits id v at in record {
    told = f.told;
    own = f.own;
    others = f.others;
    apart = λ x. let p = part (made x) s.views id v at in let o = r.once x in let m = once_most x (length r.log) in omega arith;
  }

  pub begins : (d : Held S E) → d.state ≡ key.first.value → d.journal.items ≡ [] → key.calls ≤ vec_capacity d.journal
      → Rule record { words = 0 ∷ []; homes = some (Some d) ∷ []; views = first_view key ∷ [] }
  begins d state journal room = record {
    log = [];
    legal = tt;
    place = inl record { held = d; words = refl; homes = refl; state = state; journal = journal; room = room; none_turns = one_off };
    once = λ x. grind (arith, nat_tests);
    number = refl;
    room = omega arith;
    fits = one;
  }
    where
      one_off : (j : ℕ) (v : V) → get_elem? (first_view key ∷ []) j ≡ some v → v.turn ≢ true
      one_off zero v e = subst (λ (u : V). u.turn ≢ true) (some-injective (first_view key) v e) off
      one_off (suc j) v e = absurd (some-ne-none v (sym e))

      one : (j : ℕ) (v : V) → get_elem? (first_view key ∷ []) j ≡ some v → fit [] v
      one zero v e = subst (fit []) (some-injective (first_view key) v e)
          record { origin = λ x e'. ((let s : key.first.value ≡ x = cc in sym s), refl); seen = prefix_refl []; told = prefix_refl []; own = omega arith; others = tt; turn = λ t. absurd (off t) }
      one (suc j) v e = absurd (some-ne-none v (sym e))

  -- a step that changes nothing
  unmoved : (s : St) (id : ℕ) (v : V) → get_elem? s.views id ≡ some v → Rule s → Rule record { words = set s.words 0 (get_or s.words 0 0); homes = s.homes; views = set s.views id v }
  unmoved s id v at r =
      subst (λ ws. Rule record { words = ws; homes = s.homes; views = set s.views id v }) (sym (set-get_or s.words 0 0))
      (subst (λ vs. Rule record { words = s.words; homes = s.homes; views = vs }) (sym (set_again s.views id v at)) r)

  pub looks : (slots id : ℕ) (me : M) → Allows Rule slots id me 0 (λ n. n) (Looked possible after (step slots 0 0 0 none) me)
  looks slots id me s r _ at _ =
      let f = r.fits id me.0 at in (
        me.0,
        keeps,
        tt,
        unmoved s id me.0 at r,
        (
          refl,
          knows_of s r id me.0 at,
          (λ x is. subst (λ (y : S). IsLegal possible after y me.0.seen) (sym (f.origin x is).0) (legal_prefix possible after key.first.value me.0.seen r.log f.seen r.legal)),
        ),
      )

  -- the turn is taken
  module _ (s : St) (r : Rule s) (id : ℕ) (v : V) (at : get_elem? s.views id ≡ some v) (may : 0 < v.allowance) (h : AtHome possible after key r.log s) where
    abbrev w : V
    w = view_turning h.held.journal.items v

    taken : (n : ℕ) → n ≡ suc (2 * length r.log) → Rule record { words = set s.words 0 n; homes = set s.homes 0 none; views = set s.views id w }
    taken n is =
        let f = r.fits id v at in
        let longer_now : length v.seen ≤ length h.held.journal.items = let a = prefix_length v.seen r.log f.seen in let b = ap length h.journal in omega arith in
        let seen : IsPrefix v.seen h.held.journal.items = subst (IsPrefix v.seen) (sym h.journal) f.seen in
        record {
          log = r.log;
          legal = r.legal;
          place = inr record {
            holder = id;
            view = w;
            words = ap (λ l. set l 0 n) h.words ∙ ap (λ (m : ℕ). m ∷ []) is;
            homes = ap (λ l. set l 0 none) h.homes;
            here = set_at s.views id v w at;
            turns = refl;
            only = all_set (λ j u. u.turn ≡ true → (j ≡ id) × (u.seen ≡ r.log)) s.views id w (λ _. (refl, h.journal)) (λ j u other e t. absurd (h.none_turns j u e t));
          };
          once = λ x. let a = total_set (made x) s.views id v w at in let b = r.once x in omega arith;
          number = let a = total_set count_of s.views id v w at in let b = r.number in omega arith;
          room = let a = total_set allowance_of s.views id v w at in let b = r.room in omega arith;
          fits = all_set (λ _ u. fit r.log u) s.views id w
              record {
                origin = f.origin;
                seen = prefix_is h.held.journal.items r.log h.journal;
                told = prefix_trans v.told v.seen h.held.journal.items f.told seen;
                own = ascends_below 0 (length v.seen) (length h.held.journal.items) v.own longer_now f.own;
                others = all_below (length v.seen) (length h.held.journal.items) v.others longer_now f.others;
                turn = λ _. may;
              }
              (λ j u _ e. r.fits j u e);
        }

    held_known : IsFound possible after v h.held
    held_known =
        let f = r.fits id v at in record {
          seen = subst (IsPrefix v.seen) (sym h.journal) f.seen;
          state = λ x is. subst (λ (y : S). h.held.state ≡ state_after after y h.held.journal.items) (sym (f.origin x is).0) (h.state ∙ ap (state_after after key.first.value) (sym h.journal));
          legal = λ x is. subst (λ (y : S). IsLegal possible after y h.held.journal.items) (sym (f.origin x is).0) (subst (IsLegal possible after key.first.value) (sym h.journal) r.legal);
          number = λ x is. let c = (f.origin x is).1 in let p = part allowance_of s.views id v at in let q = r.room in let e = ap length h.journal in omega arith;
          room = λ x is. let c = (f.origin x is).1 in let q = h.room in omega arith;
        }

  even_not_odd : (n : ℕ) → n % 2 ≡ 0 → (m : ℕ) → n ≡ suc (2 * m) → ⊥
  even_not_odd n even m is = omega arith

  odd_not_even : (n : ℕ) → n % 2 ≡ 1 → (m : ℕ) → n ≡ 2 * m → ⊥
  odd_not_even n odd m is = omega arith

  pub takes_turn : (slots id : ℕ) (me : M) (old new : ℕ) → old % 2 ≡ 0 → new ≡ old + 1 → 0 < me.0.allowance → me.1 ≡ []
      → Allows Rule slots id me 0 (λ n. either (eqb n old) new n) (Took possible after (step slots 0 old new none) me)
  takes_turn slots id me old new even next may empty s r _ at _ =
      let n : ℕ = get_or s.words 0 0 in
      exchanged n old new (λ m. (w : V) × (a : Act D) × Valid s.homes me.1 a × Rule (stepped s 0 m id me.1 w a) × Took possible after (step slots 0 old new none) me n (w, carried_after me.1 a))
      (λ hit. ⊎_elim
      (λ (h : AtHome possible after key r.log s).
      let word : n ≡ 2 * length r.log = ap (λ l. get_or l 0 0) h.words in (
        view_turning h.held.journal.items me.0,
        takes 0 (Some h.held),
        ap (λ l. get_elem? l 0) h.homes,
        taken s r id me.0 at may h new (omega arith),
        ((λ _. (h.held, refl, refl, held_known s r id me.0 at may h)), (λ not. absurd (not hit))),
      ))
      (λ (h : IsOut possible after key r.log s). absurd (even_not_odd old even (length r.log) (sym hit ∙ ap (λ l. get_or l 0 0) h.words)))
      r.place)
      (λ miss. (me.0, keeps, tt, unmoved s id me.0 at r, ((λ hit. absurd (miss hit)), (λ _. refl))))

  -- the slot comes back with one entry more
  module _ (s : St) (r : Rule s) (id : ℕ) (v : V) (at : get_elem? s.views id ≡ some v) (turn : v.turn ≡ true) (may : 0 < v.allowance) (x : S) (origin : v.first ≡ Some x)
      (d : Held S E) (e : E) (items : d.journal.items ≡ v.seen ++ e ∷ []) (fits_in : possible (state_after after x v.seen) e) (state : d.state ≡ after (state_after after x v.seen) e) (cap : v.calls ≤ vec_capacity d.journal) (h : IsOut possible after key r.log s) where
    abbrev y : V
    y = view_called d.journal.items v

    committed : (n : ℕ) → n ≡ suc (suc (2 * length r.log)) → Rule record { words = set s.words 0 n; homes = set s.homes 0 (some (Some d)); views = set s.views id y }
    committed n is =
        let f = r.fits id v at in
        let mine = h.only id v at turn in
        let same_first = (f.origin x origin).0 in
        let log : List E = r.log ++ e ∷ [] in
        let grown : d.journal.items ≡ log = items ∙ ap (λ l. l ++ e ∷ []) mine.1 in
        let more : length log ≡ suc (length r.log) = omega (arith, length-append r.log (e ∷ [])) in
        let here : length v.seen ≡ length r.log = ap length mine.1 in
        let now : length d.journal.items ≡ suc (length v.seen) = let a = ap length grown in omega arith in
        let first_log : state_after after x v.seen ≡ state_after after key.first.value r.log = λ k. state_after after (same_first k) (mine.1 k) in
        record {
          log = log;
          legal = legal_snoc possible after key.first.value r.log e r.legal (subst (λ (z : S). possible z e) first_log fits_in);
          place = inl record {
            held = d;
            words = ap (λ l. set l 0 n) h.words ∙ ap (λ (m : ℕ). m ∷ []) (let t : n ≡ 2 * length log = omega arith in t);
            homes = ap (λ l. set l 0 (some (Some d))) h.homes;
            state = state ∙ ap (λ (z : S). after z e) first_log ∙ sym (state_snoc possible after key.first.value r.log e);
            journal = grown;
            room = let c = (f.origin x origin).1 in omega arith;
            none_turns = all_set (λ j u. u.turn ≢ true) s.views id y off (λ j u other e' t. other ((h.only j u e' t).0 ∙ sym mine.0));
          };
          once = λ z.
              let a = total_set (made z) s.views id v y at in
              let b = r.once z in
              let c = times_snoc z (length v.seen) v.own in
              let g = once_more z (length r.log) in
              let i : once_below z (length log) ≡ once_below z (suc (length r.log)) = ap (once_below z) more in
              let j : same z (length v.seen) ≡ same z (length r.log) = ap (same z) here in
              omega arith;
          number =
              let a = total_set count_of s.views id v y at in
              let b = r.number in
              let c = length-append v.own (length v.seen ∷ []) in
              omega arith;
          room = let a = total_set allowance_of s.views id v y at in let b = r.room in omega arith;
          fits = all_set (λ _ u. fit log u) s.views id y
              record {
                origin = f.origin;
                seen = prefix_is d.journal.items log grown;
                told = prefix_trans v.told v.seen d.journal.items f.told (e ∷ [], sym items);
                own = subst (λ m. Ascends 0 m y.own) (sym now) (ascends_on 0 (length v.seen) v.own f.own);
                others = all_below (length v.seen) (length d.journal.items) v.others (omega arith) f.others;
                turn = λ t. absurd (off t);
              }
              (λ j u _ e'. fits_on key.first.value key.calls r.log (e ∷ []) u (r.fits j u e'));
        }

  pub commits : (slots id : ℕ) (me : M) (x : S) (d : Held S E) (e : E) → me.0.turn ≡ true → 0 < me.0.allowance → me.0.first ≡ Some x → me.1 ≡ (0, Some d) ∷ []
      → d.journal.items ≡ me.0.seen ++ e ∷ [] → possible (state_after after x me.0.seen) e → d.state ≡ after (state_after after x me.0.seen) e → me.0.calls ≤ vec_capacity d.journal → me.0.calls < 2 ^ 32
      → Allows Rule slots id me 0 (λ n. (n + 1) % 2 ^ 64) (Committed (step slots 0 1 0 none) me)
  commits slots id me x d e turn may origin carried items fits_in state cap small s r _ at _ =
      ⊎_elim
      (λ (h : AtHome possible after key r.log s). absurd (h.none_turns id me.0 at turn))
      (λ (h : IsOut possible after key r.log s).
      let n : ℕ = get_or s.words 0 0 in
      let word : n ≡ suc (2 * length r.log) = ap (λ l. get_or l 0 0) h.words in
      let room = r.room in
      let c = (r.fits id me.0 at).origin x origin in
      let count : me.0.calls ≡ key.calls = c.1 in
      let next : (n + 1) % 2 ^ 64 ≡ suc (suc (2 * length r.log)) = omega arith in
      let r' = committed s r id me.0 at turn may x origin d e items fits_in state cap h ((n + 1) % 2 ^ 64) next in
      let j : journal_of me.1 ≡ d.journal.items = ap journal_of carried in
      let P : List (ℕ × D) → Type 0 = λ l. (w : V) × (a : Act D) × Valid s.homes l a × Rule (stepped s 0 ((n + 1) % 2 ^ 64) id l w a) × Committed (step slots 0 1 0 none) (me.0, l) n (w, carried_after l a) in
      let now : P ((0, Some d) ∷ []) = (
        view_called d.journal.items me.0,
        gives,
        tt,
        r',
        (refl, refl, knows_of _ r' id (view_called d.journal.items me.0) (set_at s.views id me.0 (view_called d.journal.items me.0) at)),
      ) in
      subst P (sym carried) now)
      r.place

  pub splits : (id : ℕ) (v : V) (n : ℕ) → n ≤ v.allowance → v.turn ≡ false → Splits Rule id v (view_keeping n v) (view_given n v)
  splits id v n enough still s r at =
      let f = r.fits id v at in
      let l : V = view_keeping n v in
      let g : V = view_given n v in
      let vs : List V = set s.views id l in
      let not_turn : v.turn ≢ true = λ t. off (sym still ∙ t) in
      let Off : (ℕ → V → Type 0) = λ j u. u.turn ≢ true in
      record {
        log = r.log;
        legal = r.legal;
        place = ⊎_elim
            (λ (h : AtHome possible after key r.log s). inl record {
              held = h.held;
              words = h.words;
              homes = h.homes;
              state = h.state;
              journal = h.journal;
              room = h.room;
              none_turns = λ j u e. ⊎_elim (all_set Off s.views id l not_turn (λ i y _ e'. h.none_turns i y e') j u) (λ (t : g ≡ u). subst (λ (z : V). z.turn ≢ true) t off) (at_snoc vs g u j e);
            })
            (λ (h : IsOut possible after key r.log s). inr record {
              holder = h.holder;
              view = h.view;
              words = h.words;
              homes = h.homes;
              here = at_longer vs (g ∷ []) h.holder h.view (set_else s.views id h.holder l (λ same. not_turn (let e : v ≡ h.view = some-injective v h.view (sym at ∙ ap (get_elem? s.views) (sym same) ∙ h.here) in ap (λ (z : V). z.turn) e ∙ h.turns)) ∙ h.here);
              turns = h.turns;
              only = λ j u e. ⊎_elim
                  (all_set (λ i y. y.turn ≡ true → (i ≡ h.holder) × (y.seen ≡ r.log)) s.views id l (λ t. absurd (not_turn t)) (λ i y _ e'. h.only i y e') j u)
                  (λ (t : g ≡ u). subst (λ (z : V). z.turn ≡ true → (j ≡ h.holder) × (z.seen ≡ r.log)) t (λ on. absurd (off on)))
                  (at_snoc vs g u j e);
            })
            r.place;
        once = λ x. let a = total_set (made x) s.views id v l at in let b = total_snoc (made x) vs g in let c = r.once x in omega arith;
        number = let a = total_set count_of s.views id v l at in let b = total_snoc count_of vs g in let c = r.number in omega arith;
        room = let a = total_set allowance_of s.views id v l at in let b = total_snoc allowance_of vs g in let c = r.room in omega arith;
        fits = λ j u e. ⊎_elim
            (all_set (λ _ y. fit r.log y) s.views id l record { origin = f.origin; seen = f.seen; told = f.told; own = f.own; others = f.others; turn = λ t. absurd (not_turn t) } (λ i y _ e'. r.fits i y e') j u)
            (λ (t : g ≡ u). subst (fit r.log) t record { origin = f.origin; seen = f.seen; told = (v.seen, refl); own = omega arith; others = tt; turn = λ on. absurd (off on) })
            (at_snoc vs g u j e);
      }

  pub joins : (id : ℕ) (v : V) (other : ℕ) (w : V) → v.turn ≡ false → w.turn ≡ false → Joins Rule id v other w (view_joined v w) spent_view
  joins id v other w still still' s r at apart there =
      let f = r.fits id v at in
      let both : V = view_joined v w in
      let vs : List V = set s.views id both in
      let was : get_elem? s.views other ≡ some w = ⊎_elim (λ (t : (other ≡ id) × (both ≡ w)). absurd (apart t.0)) (λ (t : (other ≢ id) × (get_elem? s.views other ≡ some w)). t.1) (at_set s.views id other both w there) in
      let g = r.fits other w was in
      let not_turn : v.turn ≢ true = λ t. off (sym still ∙ t) in
      let not_turn' : w.turn ≢ true = λ t. off (sym still' ∙ t) in
      let top : ℕ = length (longer v.seen w.seen) in
      let left : length v.seen ≤ top = longer_left v.seen w.seen in
      let right : length w.seen ≤ top = longer_right v.seen w.seen in
      record {
        log = r.log;
        legal = r.legal;
        place = ⊎_elim
            (λ (h : AtHome possible after key r.log s). inl record {
              held = h.held;
              words = h.words;
              homes = h.homes;
              state = h.state;
              journal = h.journal;
              room = h.room;
              none_turns = all_set (λ j u. u.turn ≢ true) vs other spent_view off (λ j u _ e. all_set (λ j' u'. u'.turn ≢ true) s.views id both not_turn (λ i y _ e'. h.none_turns i y e') j u e);
            })
            (λ (h : IsOut possible after key r.log s).
            let away : h.holder ≢ id = λ same. not_turn (let e : v ≡ h.view = some-injective v h.view (sym at ∙ ap (get_elem? s.views) (sym same) ∙ h.here) in ap (λ (z : V). z.turn) e ∙ h.turns) in
            let away' : h.holder ≢ other = λ same. not_turn' (let e : w ≡ h.view = some-injective w h.view (sym was ∙ ap (get_elem? s.views) (sym same) ∙ h.here) in ap (λ (z : V). z.turn) e ∙ h.turns) in
            inr record {
              holder = h.holder;
              view = h.view;
              words = h.words;
              homes = h.homes;
              here = set_else vs other h.holder spent_view away' ∙ set_else s.views id h.holder both away ∙ h.here;
              turns = h.turns;
              only = all_set (λ i y. y.turn ≡ true → (i ≡ h.holder) × (y.seen ≡ r.log)) vs other spent_view (λ t. absurd (off t))
                  (λ j u _ e. all_set (λ i y. y.turn ≡ true → (i ≡ h.holder) × (y.seen ≡ r.log)) s.views id both (λ t. absurd (not_turn t)) (λ i y _ e'. h.only i y e') j u e);
            })
            r.place;
        once = λ x. let a = total_set (made x) s.views id v both at in let b = total_set (made x) vs other w spent_view there in let c = r.once x in let d = total_append (times x) v.others (w.own ∷ w.others) in omega arith;
        number = let a = total_set count_of s.views id v both at in let b = total_set count_of vs other w spent_view there in let c = r.number in let d = total_append (λ (l : List ℕ). length l) v.others (w.own ∷ w.others) in omega arith;
        room = let a = total_set allowance_of s.views id v both at in let b = total_set allowance_of vs other w spent_view there in let c = r.room in omega arith;
        fits = all_set (λ _ y. fit r.log y) vs other spent_view
            record { origin = λ x e. absurd (cc); seen = (r.log, refl); told = ([], refl); own = omega arith; others = tt; turn = λ t. absurd (off t) }
            (λ j u _ e. all_set (λ _ y. fit r.log y) s.views id both
            record {
              origin = f.origin;
              seen = longer_fits (λ l. IsPrefix l r.log) v.seen w.seen f.seen g.seen;
              told = shorter_begins v.seen w.seen r.log f.seen g.seen;
              own = ascends_below 0 (length v.seen) top v.own left f.own;
              others = all_append top v.others (w.own ∷ w.others) (all_below (length v.seen) top v.others left f.others) (ascends_below 0 (length w.seen) top w.own right g.own, all_below (length w.seen) top w.others right g.others);
              turn = λ t. absurd (not_turn t);
            }
            (λ i y _ e'. r.fits i y e') j u e);
      }

  pub commits_as : (slots id : ℕ) (me : M) (v : V) (x : S) (d : Held S E) (e : E) → me ≡ (v, (0, Some d) ∷ []) → v.turn ≡ true → 0 < v.allowance → v.first ≡ Some x
      → d.journal.items ≡ v.seen ++ e ∷ [] → possible (state_after after x v.seen) e → d.state ≡ after (state_after after x v.seen) e → v.calls ≤ vec_capacity d.journal → v.calls < 2 ^ 32
      → Allows Rule slots id me 0 (λ n. (n + 1) % 2 ^ 64) (Committed (step slots 0 1 0 none) me)
  commits_as slots id me v x d e is turn may origin items fits_in state cap small =
      subst (λ (m : M). Allows Rule slots id m 0 (λ n. (n + 1) % 2 ^ 64) (Committed (step slots 0 1 0 none) m)) (sym is)
      (commits slots id (v, (0, Some d) ∷ []) x d e turn may origin refl items fits_in state cap small)

  -- what the slot holds at the end
  pub record IsLast (v : V) (d : Held S E) : Type 0 where
    pub legal : IsLegal possible after key.first.value d.journal.items
    pub state : d.state ≡ state_after after key.first.value d.journal.items
    pub seen : IsPrefix v.seen d.journal.items
    pub strands : (z : ℕ) → made z v ≡ once_below z (length d.journal.items)

  abbrev both_of : V → ℕ
  both_of u = allowance_of u + count_of u

  made_few : (z : ℕ) (u : V) → made z u ≤ both_of u
  made_few z u = let a = times_few z u.own in let b = total_le (times z) (λ (l : List ℕ). length l) u.others (times_few z) in omega arith

  pub closes : (words : List ℕ) (xs : List D) (id : ℕ) (v : V) → v.turn ≡ false → both_of v ≡ key.calls → Final (Seen Rule id v) words xs → (r : D) → get_elem? xs 0 ≡ some r
      → (d : Held S E) × (r ≡ Some d) × IsLast v d
  closes words xs id v still whole final r is =
      let s = final.0 in
      let k = final.1.0 in
      let at = final.1.1 in
      let all : total both_of s.views ≡ both_of v = let a = total_plus allowance_of count_of s.views in let b = k.number in let c = k.room in omega arith in
      ⊎_elim
      (λ (h : AtHome possible after key k.log s).
      let d = h.held in
      let there : get_elem? xs 0 ≡ some (Some d) = final.4 0 (Some d) (ap (λ l. get_elem? l 0) h.homes) in (
        d,
        some-injective r (Some d) (sym is ∙ there),
        record {
          legal = subst (IsLegal possible after key.first.value) (sym h.journal) k.legal;
          state = h.state ∙ ap (state_after after key.first.value) (sym h.journal);
          seen = subst (IsPrefix v.seen) (sym h.journal) (k.fits id v at).seen;
          strands = λ z. sym (alone both_of (made z) s.views id v at (λ j u e none. let m = made_few z u in omega arith) all) ∙ k.once z ∙ ap (λ l. once_below z (length l)) (sym h.journal);
        },
      ))
      (λ (h : IsOut possible after key k.log s).
      let away : id ≢ h.holder = λ same. off (sym still ∙ (let e : v ≡ h.view = some-injective v h.view (sym at ∙ ap (get_elem? s.views) same ∙ h.here) in ap (λ (z : V). z.turn) e) ∙ h.turns) in
      let may : 0 < h.view.allowance = (k.fits h.holder h.view h.here).turn h.turns in
      let two = two_parts both_of s.views id h.holder v h.view away at h.here in
      absurd (omega arith))
      k.place

  pub closes_at : (words : List ℕ) (xs : List D) (id : ℕ) (v : V) → v.turn ≡ false → both_of v ≡ key.calls → Final (Seen Rule id v) words xs → (r : D) → get_elem? xs 0 ≡ some r
      → (f : Held S E) → r ≡ Some f → IsLast v f
  closes_at words xs id v still whole final r is f was =
      let last = closes words xs id v still whole final r is in
      let same : last.0 ≡ f = ap (held_or f) (sym last.1 ∙ was) in
      subst (IsLast v) same last.2
    where
      held_or : Held S E → D → Held S E
      held_or d None = d
      held_or d (Some e) = e

-- one slot is held
pub held_one : {D : Type 0} (l : List (ℕ × D)) (k : ℕ) (d : D) → l ≡ (k, d) ∷ [] → (old : D) × (l ≡ (k, old) ∷ rest l)
held_one l k d e = (d, e ∙ ap (λ r. (k, d) ∷ rest r) (sym e))

first_slot : {D : Type 0} → D → List (ℕ × D) → D
first_slot x [] = x
first_slot x (y ∷ ys) = y.1

some_or : {A : Type 0} → A → Option A → A
some_or x None = x
some_or x (Some y) = y

-- what was taken out of the slot is what the seat held there
pub same_taken : {A : Type 0} (l : List (ℕ × Option A)) (d e : A) (r : Option A) → l ≡ (0, Some d) ∷ [] → l ≡ (0, r) ∷ rest l → r ≡ Some e → e ≡ d
unfolding first_slot some_or
same_taken l d e r a b is = ap (λ m. some_or d (first_slot None m)) (ap (λ q. (0, q) ∷ rest l) (sym is) ∙ sym b ∙ a)

-- after the value was taken out of the slot, and another was put in
pub put_back_in : {D V : Type 0} (m m1 m2 : Me D V) (a b x : D) → m1 ≡ (m.0, (0, a) ∷ rest m.1) → m2 ≡ (m1.0, (0, b) ∷ rest m1.1) → m.1 ≡ (0, x) ∷ [] → m2 ≡ (m.0, (0, b) ∷ [])
put_back_in {D} {V} m m1 m2 a b x e f g = f ∙ ap (λ (n : Me D V). (n.0, (0, b) ∷ rest n.1)) e ∙ ap (λ (l : List (ℕ × D)). (m.0, (0, b) ∷ rest l)) g

module _ {S E : Type 0} (possible : S → E → Type 0) (after : S → E → S) where
  pub ready_of : (v w : View S E) (l : List (ℕ × Option (Held S E))) (d : Held S E) (x : S) → l ≡ (0, Some d) ∷ [] → w ≡ view_turning d.journal.items v → IsFound possible after v d
      → v.first ≡ Some x → 0 < v.allowance → v.calls < 2 ^ 32 → IsReady after (w, l)
  ready_of v w l d x carried is known origin may small =
      let n = known.number x origin in
      let r = known.room x origin in
      let calls = ap (λ (u : View S E). u.calls) is in
      let allowance = ap (λ (u : View S E). u.allowance) is in
      let seen = ap (λ (u : View S E). u.seen) is in
      record {
        held = d;
        first = x;
        carried = carried;
        origin = ap (λ (u : View S E). u.first) is ∙ origin;
        journal = sym seen;
        state = known.state x origin ∙ ap (state_after after x) (sym seen);
        next = omega arith;
        room = omega arith;
        turn = ap (λ (u : View S E). u.turn) is;
        may = omega arith;
        small = omega arith;
      }

  pub legal_now : (v w u : View S E) (d : Held S E) (x : S) (e : E) → w ≡ view_turning d.journal.items v → IsFound possible after v d → v.first ≡ Some x
      → ((y : S) → w.first ≡ Some y → possible (state_after after y w.seen) e) → u ≡ view_called (w.seen ++ e ∷ []) w → IsLegal possible after x u.seen
  legal_now v w u d x e is known origin may done =
      let seen = ap (λ (z : View S E). z.seen) is in
      let first : w.first ≡ Some x = ap (λ (z : View S E). z.first) is ∙ origin in
      let before : IsLegal possible after x w.seen = subst (IsLegal possible after x) (sym seen) (known.legal x origin) in
      subst (λ (z : View S E). IsLegal possible after x z.seen) (sym done) (legal_snoc possible after x w.seen e before (may x first))

pub reserved_joined : {S E : Type 0} (v w : View S E) → count_of (view_joined v w) + (view_joined v w).allowance ≡ (count_of v + v.allowance) + (count_of w + w.allowance)
reserved_joined v w = let d = total_append (λ (l : List ℕ). length l) v.others (w.own ∷ w.others) in omega arith

pub knows_given : {S E : Type 0} (n : ℕ) (v : View S E) → Knows (view_given n v)
knows_given n v = record { told = (v.seen, refl); own = omega arith; others = tt; apart = λ x. omega arith }

pub entry_of : {S E : Type 0} (v w u : View S E) (d : Held S E) (e : E) → w ≡ view_turning d.journal.items v → IsPrefix v.seen d.journal.items → Ascends 0 (length v.seen) v.own
    → u ≡ view_called (w.seen ++ e ∷ []) w → (between : List E) × (w.seen ≡ v.seen ++ between) × (u.seen ≡ (v.seen ++ between) ++ e ∷ []) × (entries_at u.seen u.own ≡ entries_at v.seen v.own ++ e ∷ [])
entry_of {S} {E} v w u d e is p own done =
    let ws : w.seen ≡ v.seen ++ p.0 = ap (λ (z : View S E). z.seen) is ∙ sym p.1 in
    let wo : w.own ≡ v.own = ap (λ (z : View S E). z.own) is in
    let s : u.seen ≡ (v.seen ++ p.0) ++ e ∷ [] = ap (λ (z : View S E). z.seen) done ∙ ap (λ l. l ++ e ∷ []) ws in
    let o : u.own ≡ v.own ++ length (v.seen ++ p.0) ∷ [] = ap (λ (z : View S E). z.own) done ∙ (λ i. wo i ++ length (ws i) ∷ []) in
    (p.0, ws, s, (λ i. entries_at (s i) (o i)) ∙ entries_called v.seen p.0 e v.own own)

prefix_both : {E : Type 0} (xs ys : List E) → IsPrefix (shorter xs ys) (longer xs ys) → IsPrefix xs (longer xs ys) × IsPrefix ys (longer xs ys)
prefix_both {E} xs ys = both (ltb (length xs) (length ys))
  where
    both : (t : Bool) → IsPrefix (cond t xs ys) (cond t ys xs) → IsPrefix xs (cond t ys xs) × IsPrefix ys (cond t ys xs)
    both true p = (p, prefix_refl ys)
    both false p = (prefix_refl xs, p)

pub entries_joined : {S E : Type 0} (v w u : View S E) → u ≡ view_joined v w → Knows v → Knows w → Knows u
    → map (entries_at u.seen) (u.own ∷ u.others) ≡ map (entries_at v.seen) (v.own ∷ v.others) ++ map (entries_at w.seen) (w.own ∷ w.others)
entries_joined {S} {E} v w u is kv kw ku =
    let told : IsPrefix (shorter v.seen w.seen) (longer v.seen w.seen) = (subst Knows is ku).told in
    let p = prefix_both v.seen w.seen told in
    let l : List E = longer v.seen w.seen in
    ap (λ (z : View S E). map (entries_at z.seen) (z.own ∷ z.others)) is
    ∙ map-append (entries_at l) (v.own ∷ v.others) (w.own ∷ w.others)
    ∙ (λ i. all_stay v.seen l (v.own ∷ v.others) p.0 (kv.own, kv.others) i ++ all_stay w.seen l (w.own ∷ w.others) p.1 (kw.own, kw.others) i)
