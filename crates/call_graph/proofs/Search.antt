-- The search for live functions marks these and no others.
use Rattle.std.proofs.Common.{◌≡◌, ◌⊎◌, ℕ, zero, suc, ◌+◌, ◌<◌, Bool, true, false, cond, List, [], ◌∷◌, ◌++◌, Some, length, get_or, set, map, slice_get, Contains, All, refl, sym, ap, subst, ◌∙◌, inl, inr, arith}
use Rattle.std.specs.List.{Any, AllByRecursion}
use Rattle.std.proofs.lemmas.List.{get_or-set_same, get_or-set_other, length-set, length-append, length-map}
use Rattle.std.proofs.lemmas.Bool.{cases_eq}
use Rattle.std.proofs.lemmas.List.Elements.{Contains-push, Contains-push_cases, Contains-append_left, recursion_from_All}
use Rattle.gimple_ir.specs.declared.merged.Merged.{Merged}
use Rattle.gimple_ir.specs.declared.merged.MergedFunction.{MergedFunction}
use Rattle.gimple_ir.specs.declared.summary.Edge.{Edge}
use Rattle.call_graph.specs.Live.{IsLive, IsReached, IsExported, IsFunction, Calls, marked, HasCallees, MarksLive}
use Rattle.call_graph.specs.Marking.{mark_one, mark_all, places_of}
use Rattle.call_graph.proofs.Places.{places_of-marked, places_of-has, marked_below}

abbrev State : Type 0
State = List Bool × List ℕ

-- how many are not marked
pub unmarked : List Bool → ℕ
unmarked [] = 0
unmarked (true ∷ bs) = unmarked bs
unmarked (false ∷ bs) = suc (unmarked bs)

unmarked-set : (live : List Bool) (n : ℕ) → n < length live → get_or live n false ≡ false → unmarked (set live n true) + 1 ≡ unmarked live
unfolding unmarked
unmarked-set [] n lt is = absurd (omega arith)
unmarked-set (true ∷ bs) zero lt is = cc
unmarked-set (false ∷ bs) zero lt is = omega arith
unmarked-set (true ∷ bs) (suc n) lt is = unmarked-set bs n (omega arith) is
unmarked-set (false ∷ bs) (suc n) lt is = let rest = unmarked-set bs n (omega arith) is in omega arith

abbrev pub IsMarked : List Bool → ℕ → Type 0
IsMarked live n = marked live n ≡ true

-- what a turn leaves; each number that it marks has P, and waits
pub record Grows (P : ℕ → Type 0) (live new : List Bool) (waiting more : List ℕ) : Type 0 where
  pub same_length : length new ≡ length live
  pub kept : (k : ℕ) → IsMarked live k → IsMarked new k
  pub waiting_kept : (k : ℕ) → Contains waiting k → Contains more k
  pub fresh : (k : ℕ) → IsMarked new k → IsMarked live k ⊎ (Contains more k × P k)
  pub waitinged : (k : ℕ) → Contains more k → Contains waiting k ⊎ IsMarked new k
  pub work : unmarked new + length more ≡ unmarked live + length waiting

pub grows_not : (P : ℕ → Type 0) (live : List Bool) (waiting : List ℕ) → Grows P live live waiting waiting
grows_not P live waiting = record {
  same_length = refl;
  kept = λ k h. h;
  waiting_kept = λ k h. h;
  fresh = λ k h. inl h;
  waitinged = λ k h. inl h;
  work = refl;
}

pub grows_twice : (P : ℕ → Type 0) (a b c : List Bool) (s t u : List ℕ) → Grows P a b s t → Grows P b c t u → Grows P a c s u
grows_twice P a b c s t u g h = record {
  same_length = h.same_length ∙ g.same_length;
  kept = λ k m. h.kept k (g.kept k m);
  waiting_kept = λ k m. h.waiting_kept k (g.waiting_kept k m);
  fresh = λ k m. elim (h.fresh k m) [ inl old ↦ elim (g.fresh k old) [ inl older ↦ inl older | inr new ↦ inr (h.waiting_kept k new.0, new.1) ] | inr new ↦ inr new ];
  waitinged = λ k m. elim (h.waitinged k m) [ inl old ↦ elim (g.waitinged k old) [ inl older ↦ inl older | inr new ↦ inr (h.kept k new) ] | inr new ↦ inr new ];
  work = h.work ∙ g.work;
}

pub grows_weaker : (P Q : ℕ → Type 0) (a b : List Bool) (s t : List ℕ) → ((k : ℕ) → P k → Q k) → Grows P a b s t → Grows Q a b s t
grows_weaker P Q a b s t f g = record {
  same_length = g.same_length;
  kept = g.kept;
  waiting_kept = g.waiting_kept;
  fresh = λ k m. elim (g.fresh k m) [ inl old ↦ inl old | inr new ↦ inr (new.0, f k new.1) ];
  waitinged = g.waitinged;
  work = g.work;
}

kept_by_set : (live : List Bool) (n k : ℕ) → n < length live → IsMarked live k → IsMarked (set live n true) k
kept_by_set live n k lt m = grind (arith, get_or-set_same {A = Bool}, get_or-set_other {A = Bool}, cases_eq k n)

fresh_by_set : (live : List Bool) (n k : ℕ) → n < length live → IsMarked (set live n true) k → IsMarked live k ⊎ (n ≡ k)
fresh_by_set live n k lt m = grind (arith, get_or-set_same {A = Bool}, get_or-set_other {A = Bool}, cases_eq k n)

one_new : (n : ℕ) (live : List Bool) (waiting : List ℕ) → n < length live → marked live n ≡ false → Grows (λ k. n ≡ k) live (set live n true) waiting (waiting ++ n ∷ [])
one_new n live waiting lt is = record {
  same_length = length-set live n true;
  kept = λ k m. kept_by_set live n k lt m;
  waiting_kept = λ k m. Contains-append_left waiting (n ∷ []) k m;
  fresh = λ k m. elim (fresh_by_set live n k lt m) [ inl old ↦ inl old | inr e ↦ inr (subst (λ j. Contains (waiting ++ n ∷ []) j) e (Contains-push waiting n), e) ];
  waitinged = λ k m. elim (Contains-push_cases waiting n k m) [ inl old ↦ inl old | inr e ↦ inr (subst (λ j. IsMarked (set live n true) j) e (get_or-set_same live n true false lt)) ];
  work = let fewer = unmarked-set live n lt is in omega (arith, length-append {A = ℕ} waiting (n ∷ []));
}

one_by : (b : Bool) (n : ℕ) (live : List Bool) (waiting : List ℕ) → n < length live → marked live n ≡ b
    → let t = cond {A = State} b (live, waiting) (set live n true, waiting ++ n ∷ []) in Grows (λ k. n ≡ k) live t.0 waiting t.1 × IsMarked t.0 n
one_by true n live waiting lt is = (grows_not _ live waiting, is)
one_by false n live waiting lt is = (one_new n live waiting lt is, get_or-set_same live n true false lt)

pub one_grows : (n : ℕ) (live : List Bool) (waiting : List ℕ) → n < length live → let t = mark_one n (live, waiting) in Grows (λ k. n ≡ k) live t.0 waiting t.1 × IsMarked t.0 n
one_grows n live waiting lt = one_by (marked live n) n live waiting lt refl

abbrev pub IsAmong : List Edge → ℕ → Type 0
IsAmong [] k = ⊥
IsAmong (e ∷ es) k = (e.callee ≡ k) ⊎ IsAmong es k

abbrev pub InRange : ℕ → List Edge → Type 0
InRange n es = AllByRecursion (λ e. e.callee < n) es

-- a whole turn: what it leaves, and each callee is marked
pub all_grow : (es : List Edge) (live : List Bool) (waiting : List ℕ) → InRange (length live) es
    → let t = mark_all es (live, waiting) in Grows (IsAmong es) live t.0 waiting t.1 × ((k : ℕ) → IsAmong es k → IsMarked t.0 k)
all_grow [] live waiting h = (grows_not _ live waiting, λ k no_edge. absurd no_edge)
all_grow (e ∷ es) live waiting h =
    let one = one_grows e.callee live waiting h.0 in
    let s = mark_one e.callee (live, waiting) in
    let range : InRange (length s.0) es = subst (λ n. InRange n es) (sym one.0.same_length) h.1 in
    let rest = all_grow es s.0 s.1 range in
    let t = mark_all es s in (
      grows_twice (IsAmong (e ∷ es)) live s.0 t.0 waiting s.1 t.1 (grows_weaker _ _ _ _ _ _ (λ k m. inl m) one.0) (grows_weaker _ _ _ _ _ _ (λ k m. inr m) rest.0),
      λ k m. elim m [ inl first ↦ rest.0.kept k (subst (IsMarked s.0) first one.1) | inr later ↦ rest.1 k later ],
    )

among_from_any : (es : List Edge) (m k : ℕ) (e : Edge) → k < length es → get_or es k e ≡ e → e.callee ≡ m → IsAmong es m
among_from_any [] m k e lt is h = absurd (omega arith)
among_from_any (x ∷ es) m zero e lt is h = inl (ap (λ (y : Edge). y.callee) is ∙ h)
among_from_any (x ∷ es) m (suc k) e lt is h = inr (among_from_any es m k e (omega arith) is h)

any_from_among : (es : List Edge) (m : ℕ) → IsAmong es m → Any (λ e. e.callee ≡ m) es
any_from_among [] m h = absurd h
any_from_among (x ∷ es) m h = elim h [ inl first ↦ (0, x, omega arith, refl, first) | inr later ↦ let rest = any_from_among es m later in (suc rest.0, rest.1, (let lt = rest.2 in omega arith), rest.3, rest.4) ]

-- the state of a search: marked functions are live, exported ones are marked, and so are the callees of each marked one that is not waiting
pub record IsSearch (merged : Merged) (live : List Bool) (waiting : List ℕ) : Type 0 where
  pub sized : length live ≡ length merged.functions
  pub sound : (k : ℕ) → IsMarked live k → IsLive merged k
  pub started : (k : ℕ) → IsExported merged k → IsMarked live k
  pub closed : (k : ℕ) → IsMarked live k → Contains waiting k ⊎ ((m : ℕ) → Calls merged k m → IsMarked live m)
  pub waitinged : (k : ℕ) → Contains waiting k → IsMarked live k

pub flag_is : {X : Type 0} (flag : X → Bool) (xs : List X) (k : ℕ) → get_or (map flag xs) k false ≡ true → (x : X) × (slice_get xs k ≡ Some x) × (flag x ≡ true)
flag_is flag [] k h = absurd cc
flag_is flag (x ∷ xs) zero h = (x, refl, h)
flag_is flag (x ∷ xs) (suc k) h = flag_is flag xs k h

pub flag_of : {X : Type 0} (flag : X → Bool) (xs : List X) (k : ℕ) (x : X) → slice_get xs k ≡ Some x → flag x ≡ true → get_or (map flag xs) k false ≡ true
flag_of flag [] k x is h = absurd cc
flag_of flag (y ∷ xs) zero x is h = let same : y ≡ x = cc in ap flag same ∙ h
flag_of flag (y ∷ xs) (suc k) x is h = flag_of flag xs k x is h

pub begins : (merged : Merged) (live : List Bool) (waiting : List ℕ) → live ≡ map (λ f. f.exported) merged.functions → waiting ≡ places_of live → IsSearch merged live waiting
begins merged live waiting is places = record {
  sized = rw is (length-map merged.functions (λ f. f.exported));
  sound = λ k m. let found = flag_is (λ (f : MergedFunction). f.exported) merged.functions k (rw is at m) in (0, (found.0, found.1, found.2));
  started = λ k e. rw is (flag_of (λ (f : MergedFunction). f.exported) merged.functions k e.0 e.1 e.2);
  closed = λ k m. inl (rw places (places_of-has live k m));
  waitinged = λ k c. places_of-marked live k (rw places at c);
}

pub all_at : (P : MergedFunction → Type 0) (fs : List MergedFunction) (k : ℕ) (f : MergedFunction) → AllByRecursion P fs → slice_get fs k ≡ Some f → P f
all_at P [] k f h is = absurd cc
all_at P (g ∷ fs) zero f h is = let same : g ≡ f = cc in subst P same h.0
all_at P (g ∷ fs) (suc k) f h is = all_at P fs k f h.1 is

some_same : (f g : MergedFunction) → Some f ≡ Some g → f ≡ g
some_same f g h = cc

-- each edge of a function is in range
edges_in_range : (merged : Merged) (n : ℕ) (f : MergedFunction) → HasCallees merged → IsFunction merged n f → InRange (length merged.functions) f.summary.edges
edges_in_range merged n f h is =
    let range = all_at (λ (g : MergedFunction). All (λ (e : Edge). e.callee < length merged.functions) g.summary.edges) merged.functions n f (recursion_from_All _ merged.functions h) is in
    recursion_from_All _ f.summary.edges range

pub goes_on : (merged : Merged) (live : List Bool) (rest : List ℕ) (n : ℕ) (f : MergedFunction) → HasCallees merged → IsFunction merged n f → IsSearch merged live (rest ++ n ∷ [])
    → let t = mark_all f.summary.edges (live, rest) in IsSearch merged t.0 t.1
goes_on merged live rest n f callees is s =
    let t = mark_all f.summary.edges (live, rest) in
    let range : InRange (length live) f.summary.edges = subst (λ k. InRange k f.summary.edges) (sym s.sized) (edges_in_range merged n f callees is) in
    let turn = all_grow f.summary.edges live rest range in
    let its_own : (m : ℕ) → Calls merged n m → IsMarked t.0 m = λ m call.
    let same : f ≡ call.0 = some_same f call.0 (sym is ∙ call.1) in
    turn.1 m (subst (λ (g : MergedFunction). IsAmong g.summary.edges m) (sym same) (among_from_any call.0.summary.edges m call.2.0 call.2.1 call.2.2 call.2.3 call.2.4)) in
    let n_live : IsLive merged n = s.sound n (s.waitinged n (Contains-push rest n)) in
    record {
      sized = turn.0.same_length ∙ s.sized;
      sound = λ k m. elim (turn.0.fresh k m) [ inl old ↦ s.sound k old | inr new ↦ (suc n_live.0, (n, n_live.1, (f, is, any_from_among f.summary.edges k new.1))) ];
      started = λ k e. turn.0.kept k (s.started k e);
      closed = λ k m. elim (turn.0.fresh k m) [
        | inl old ↦ elim (s.closed k old) [
          | inl there ↦ elim (Contains-push_cases rest n k there) [
            | inl below ↦ inl (turn.0.waiting_kept k below)
            | inr top ↦ inr (subst (λ j. (m : ℕ) → Calls merged j m → IsMarked t.0 m) top its_own)
          ]
          | inr done ↦ inr (λ m call. turn.0.kept m (done m call))
        ]
        | inr new ↦ inl new.0
      ];
      waitinged = λ k c. elim (turn.0.waitinged k c) [ inl old ↦ turn.0.kept k (s.waitinged k (Contains-append_left rest (n ∷ []) k old)) | inr new ↦ new ];
    }

reached_marked : (merged : Merged) (live : List Bool) → IsSearch merged live [] → (steps k : ℕ) → IsReached merged k steps → IsMarked live k
reached_marked merged live s zero k h = s.started k h
reached_marked merged live s (suc steps) k h =
    elim (s.closed h.0 (reached_marked merged live s steps h.0 h.1)) [ inl there ↦ absurd (let lt = there.1 in omega arith) | inr done ↦ done k h.2 ]

pub ends : (merged : Merged) (live : List Bool) → IsSearch merged live [] → MarksLive merged live
ends merged live s = record {
  one_each = s.sized;
  exact = λ n. (λ m. s.sound n m, λ h. reached_marked merged live s h.0 n h.1);
}

-- the work that is left falls
pub falls : (live : List Bool) (rest : List ℕ) (n : ℕ) (es : List Edge) → InRange (length live) es
    → let t = mark_all es (live, rest) in unmarked t.0 + length t.1 < unmarked live + length (rest ++ n ∷ [])
falls live rest n es range = let work = (all_grow es live rest range).0.work in omega (arith, length-append {A = ℕ} rest (n ∷ []))

-- the last that waits is a function
pub top_below : (merged : Merged) (live : List Bool) (rest : List ℕ) (n : ℕ) → IsSearch merged live (rest ++ n ∷ []) → n < length merged.functions
top_below merged live rest n s = let below = marked_below live n (s.waitinged n (Contains-push rest n)) in let sized = s.sized in omega arith

-- its callees are in range
pub callees_below : (merged : Merged) (live : List Bool) (waiting : List ℕ) (n : ℕ) (f : MergedFunction) → HasCallees merged → IsFunction merged n f → IsSearch merged live waiting → InRange (length live) f.summary.edges
callees_below merged live waiting n f callees is s = subst (λ k. InRange k f.summary.edges) (sym s.sized) (edges_in_range merged n f callees is)

pub none_left : (xs : List ℕ) → length xs ≡ 0 → xs ≡ []
none_left [] h = refl
none_left (x ∷ xs) h = absurd (omega arith)
