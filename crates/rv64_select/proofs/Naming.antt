-- Names, each once, and their places; relocations name them in their order.
use Rattle.std.proofs.Common.{◌≡◌, ℕ, zero, suc, get_or, drop, ◌+◌, ◌<◌, ◌≤◌, Bool, true, false, cond, not, ◌||◌, eqb, nat_lt, List, [], ◌∷◌, ◌++◌, length, Option, Some, None, refl, sym, ap, ◌∙◌, subst, arith, append_assoc}
use Rattle.std.specs.Prelude.{position, fold, map, ◌==◌}
use Rattle.std.specs.List.{list_any, position_or_len}
use Rattle.std.specs.Str.{bytes_eq}
use Rattle.std.specs.Ordering.{nat_cmp}
use Rattle.std.specs.Cmp.{nat_eq_equiv}
use Rattle.std.specs.Cmp.Lexicographic.{slice_cmp, lists_equiv}
use Rattle.std.specs.BTreeMap.{BTreeMap, UpdatesBy, get_by}
use Rattle.std.proofs.lemmas.Map.Text.{btree_map_updates_str}
use Rattle.std.specs.Option.{option_map_or}
use Rattle.std.proofs.lemmas.Bool.{or_parts, or_from, le-ltb, eq-eqb}
use Rattle.std.proofs.lemmas.Bool.Decides.{nat_tests}
use Rattle.std.proofs.lemmas.List.{length_push, append-nil}
use Rattle.std.proofs.lemmas.List.Folds.{position_or_len_push}
use Rattle.std.proofs.lemmas.List.Sums.{prefix_len-le-length}
use Rattle.std.proofs.lemmas.Slice.Eq.{bytes_eq-Decides}
use denote.Ref.{Bor}
use Rattle.elf_container.specs.declared.relocatable.Reloc.{Reloc}
use Rattle.elf_container.specs.Relocatable.{after, named_in_order}
use Rattle.gimple_ir.specs.Names.{is_among, repeats, repeats_after}
use Rattle.gimple_ir.specs.declared.versioned.VersionedFunction.{VersionedFunction}
use Rattle.rv64_select.specs.declared.references.Reference.{Reference}
use Rattle.rv64_select.specs.Code.{symbol_name}
use Rattle.rv64_select.specs.Assembly.{assembly_of}
use Rattle.rv64_select.specs.Selected.{with_name, with_reference, place_of, relocation_of, references, names_of_code, relocations_of_code}
use Rattle.rv64_select.specs.Placed.{IsPlaced}

-- ---- the first place

place_le : {X : Type 0} (p : X → Bool) (xs : List X) → position_or_len p xs ≤ length xs
place_le p xs = prefix_len-le-length (λ x. not (p x)) xs

among_by : (b a : Bool) (n m : ℕ) → a ≡ nat_lt n m → (b || a) ≡ nat_lt (cond (not b) (1 + n) 0) (suc m)
among_by true a n m e = grind (arith, nat_tests)
among_by false a n m e = grind (arith, nat_tests)

among_place : {X : Type 0} (p : X → Bool) (xs : List X) → list_any p xs ≡ nat_lt (position_or_len p xs) (length xs)
among_place p [] = refl
among_place p (x ∷ xs) = among_by (p x) (list_any p xs) (position_or_len p xs) (length xs) (among_place p xs)

found_true : (b : Bool) (n i : ℕ) → cond b (Some n) None ≡ Some i → (b ≡ true) × (n ≡ i)
found_true true n i e = (refl, cc)
found_true false n i e = cc

found_false : (b : Bool) (n : ℕ) → cond b (Some n) None ≡ None → b ≡ false
found_false true n e = cc
found_false false n e = refl

push_other : (n m : ℕ) → n ≤ m → cond (nat_lt (cond (eqb n m) (m + 1) n) (m + 1)) (Some (cond (eqb n m) (m + 1) n)) None ≡ cond (nat_lt n m) (Some n) None
push_other n m h = grind (arith, nat_tests)

push_here : (n m : ℕ) → n ≤ m → nat_lt n m ≡ false → cond (nat_lt (cond (eqb n m) (m + 0) n) (m + 1)) (Some (cond (eqb n m) (m + 0) n)) None ≡ Some m
push_here n m h e = grind (arith, nat_tests)

push_at : (n m : ℕ) → n ≤ m → nat_lt n m ≡ false → cond (eqb n m) (m + 0) n ≡ m
push_at n m h e = grind (arith, nat_tests)

push_kept : (n m k : ℕ) → nat_lt n m ≡ true → cond (eqb n m) k n ≡ n
push_kept n m k e = grind (arith, nat_tests)

-- another element behind
position_other : {X : Type 0} (p : X → Bool) (xs : List X) (y : X) → p y ≡ false → position p (xs ++ y ∷ []) ≡ position p xs
position_other p xs y e = rw (position_or_len_push p xs y, length_push xs y, e) (push_other (position_or_len p xs) (length xs) (place_le p xs))

-- the first one of its kind behind
position_here : {X : Type 0} (p : X → Bool) (xs : List X) (y : X) → p y ≡ true → position p xs ≡ None → position p (xs ++ y ∷ []) ≡ Some (length xs)
position_here p xs y e none =
    let new = found_false (nat_lt (position_or_len p xs) (length xs)) (position_or_len p xs) none in
    rw (position_or_len_push p xs y, length_push xs y, e) (push_here (position_or_len p xs) (length xs) (place_le p xs) new)

same_name : (name : List ℕ) → bytes_eq name name ≡ true
same_name name = (bytes_eq-Decides name name).1 refl

-- ---- a name and its place

pub with_found : (names : List (List ℕ)) (name : List ℕ) (i : ℕ) → position (bytes_eq name) names ≡ Some i → (with_name names name ≡ names) × (place_of names name ≡ i)
with_found names name i e =
    let p = bytes_eq name in
    let found = found_true (nat_lt (position_or_len p names) (length names)) (position_or_len p names) i e in
    (ap (λ (b : Bool). cond b names (names ++ name ∷ [])) (among_place p names ∙ found.0), found.1)

pub with_new : (names : List (List ℕ)) (name : List ℕ) → position (bytes_eq name) names ≡ None → with_name names name ≡ names ++ name ∷ []
with_new names name e =
    let p = bytes_eq name in
    let new = found_false (nat_lt (position_or_len p names) (length names)) (position_or_len p names) e in
    ap (λ (b : Bool). cond b names (names ++ name ∷ [])) (among_place p names ∙ new)

pub place_new : (names : List (List ℕ)) (name : List ℕ) → position (bytes_eq name) names ≡ None → place_of (names ++ name ∷ []) name ≡ length names
place_new names name e =
    let p = bytes_eq name in
    let new = found_false (nat_lt (position_or_len p names) (length names)) (position_or_len p names) e in
    rw (position_or_len_push p names name, same_name name) (push_at (position_or_len p names) (length names) (place_le p names) new)

placed_by : (b : Bool) (name q : List ℕ) (names : List (List ℕ)) (old : Option ℕ) → bytes_eq name q ≡ b → position (bytes_eq name) names ≡ None → old ≡ position (bytes_eq q) names
    → cond b (Some (length names)) old ≡ position (bytes_eq q) (names ++ name ∷ [])
placed_by true name q names old e none here =
    let same : name ≡ q = (bytes_eq-Decides name q).0 e in
    subst (λ (r : List ℕ). Some (length names) ≡ position (bytes_eq r) (names ++ name ∷ [])) same (sym (position_here (bytes_eq name) names name (same_name name) none))
placed_by false name q names old e none here =
    let other : bytes_eq q name ≡ false = (lists_equiv nat_eq_equiv).symm q name ∙ e in
    here ∙ sym (position_other (bytes_eq q) names name other)

pub placed_new : (name : List ℕ) (names : List (List ℕ)) (place : ℕ) (old new : BTreeMap (Bor (List ℕ)) ℕ) → place ≡ length names → position (bytes_eq name) names ≡ None → IsPlaced old names
    → UpdatesBy (λ x y. slice_cmp nat_cmp x.now y.now) (λ k. slice_cmp nat_cmp name k.now) old new (Some place)
    → IsPlaced new (names ++ name ∷ [])
placed_new name names place old new last none placed updates q =
    btree_map_updates_str name old new (Some place) updates q
    ∙ ap (λ (n : ℕ). cond (bytes_eq name q) (Some n) (get_by (λ k. slice_cmp nat_cmp q k.now) old)) last
    ∙ placed_by (bytes_eq name q) name q names (get_by (λ k. slice_cmp nat_cmp q k.now) old) refl none (placed q)

-- ---- names that come later change no place

more : (n m : ℕ) → nat_lt n m ≡ true → nat_lt n (m + 1) ≡ true
more n m e = grind (arith, nat_tests)

last : (n : ℕ) → nat_lt n (n + 1) ≡ true
last n = grind (arith, nat_tests)

kept_by : (b : Bool) (names : List (List ℕ)) (n q : List ℕ) → nat_lt (place_of names q) (length names) ≡ true
    → (place_of (cond b names (names ++ n ∷ [])) q ≡ place_of names q) × (nat_lt (place_of (cond b names (names ++ n ∷ [])) q) (length (cond b names (names ++ n ∷ []))) ≡ true)
kept_by true names n q e = (refl, e)
kept_by false names n q e =
    let p = bytes_eq q in
    let same : place_of (names ++ n ∷ []) q ≡ place_of names q = position_or_len_push p names n ∙ push_kept (position_or_len p names) (length names) (length names + cond (p n) 0 1) e in
    (same, rw (same, length_push names n) (more (place_of names q) (length names) e))

place_kept : (f : VersionedFunction) (rs : List Reference) (names : List (List ℕ)) (q : List ℕ) → nat_lt (place_of names q) (length names) ≡ true
    → place_of (fold (with_reference f) names rs) q ≡ place_of names q
place_kept f [] names q e = refl
place_kept f (r ∷ rs) names q e =
    let name = symbol_name f r.symbol in
    let one = kept_by (is_among names name) names name q e in
    place_kept f rs (with_name names name) q one.1 ∙ one.0

placed_in : (b : Bool) (names : List (List ℕ)) (name : List ℕ) → nat_lt (place_of names name) (length names) ≡ b
    → nat_lt (place_of (with_name names name) name) (length (with_name names name)) ≡ true
placed_in true names name e =
    let is : with_name names name ≡ names = ap (λ (b : Bool). cond b names (names ++ name ∷ [])) (among_place (bytes_eq name) names ∙ e) in
    rw is e
placed_in false names name e =
    let is : with_name names name ≡ names ++ name ∷ [] = ap (λ (b : Bool). cond b names (names ++ name ∷ [])) (among_place (bytes_eq name) names ∙ e) in
    let at : place_of (names ++ name ∷ []) name ≡ length names = rw (position_or_len_push (bytes_eq name) names name, same_name name) (push_at (place_of names name) (length names) (place_le (bytes_eq name) names) e) in
    rw (is, at, length_push names name) (last (length names))

-- a name that was added has a place
placed_here : (names : List (List ℕ)) (name : List ℕ) → nat_lt (place_of (with_name names name) name) (length (with_name names name)) ≡ true
placed_here names name = placed_in (nat_lt (place_of names name) (length names)) names name refl

-- the relocation of a reference is the same under the names of all
pub relocation_kept : (f : VersionedFunction) (final names new : List (List ℕ)) (r : Reference) (rs : List Reference) (place : ℕ) → fold (with_reference f) names (r ∷ rs) ≡ final
    → new ≡ with_name names (symbol_name f r.symbol) → place ≡ place_of new (symbol_name f r.symbol) → relocation_of f final r ≡ record { offset = r.offset; kind = r.kind; symbol = place }
relocation_kept f final names new r rs place e is at =
    let name = symbol_name f r.symbol in
    let found : place_of final name ≡ place =
    ap (λ (ns : List (List ℕ)). place_of ns name) (sym e) ∙ place_kept f rs (with_name names name) name (placed_here names name)
    ∙ sym (at ∙ ap (λ (ns : List (List ℕ)). place_of ns name) is) in
    let made : ℕ → Reloc = λ n. record { offset = r.offset; kind = r.kind; symbol = n } in
    ap made found

-- ---- relocations name the names in their order

after_last : (n : ℕ) → after n n ≡ Some (n + 1)
after_last n = ap (λ (b : Bool). cond b (Some n) (cond (n == n) (Some (n + 1)) None)) (le-ltb n n (omega arith)) ∙ ap (λ (b : Bool). cond b (Some (n + 1)) None) (eq-eqb n n refl)

-- a reference names a name that stands, or the one that it puts behind them
after_by : (b : Bool) (names : List (List ℕ)) (name : List ℕ) → nat_lt (place_of names name) (length names) ≡ b
    → after (length names) (place_of (with_name names name) name) ≡ Some (length (with_name names name))
after_by true names name e =
    let is : with_name names name ≡ names = ap (λ (b : Bool). cond b names (names ++ name ∷ [])) (among_place (bytes_eq name) names ∙ e) in
    rw (is, e) refl
after_by false names name e =
    let is : with_name names name ≡ names ++ name ∷ [] = ap (λ (b : Bool). cond b names (names ++ name ∷ [])) (among_place (bytes_eq name) names ∙ e) in
    let at : place_of (names ++ name ∷ []) name ≡ length names = rw (position_or_len_push (bytes_eq name) names name, same_name name) (push_at (place_of names name) (length names) (place_le (bytes_eq name) names) e) in
    rw (is, at, length_push names name) (after_last (length names))

named_from : (f : VersionedFunction) (rs : List Reference) (names final : List (List ℕ)) → fold (with_reference f) names rs ≡ final
    → named_in_order (length names) (length final) (map (relocation_of f final) rs) ≡ true
named_from f [] names final e = eq-eqb (length names) (length final) (ap length e)
named_from f (r ∷ rs) names final e =
    let name = symbol_name f r.symbol in
    let new = with_name names name in
    let behind : ℕ → Bool = λ later. named_in_order later (length final) (map (relocation_of f final) rs) in
    let at : place_of final name ≡ place_of new name = ap (λ (ns : List (List ℕ)). place_of ns name) (sym e) ∙ place_kept f rs new name (placed_here names name) in
    ap (λ (n : ℕ). option_map_or behind (after (length names) n) false) at
    ∙ ap (λ (o : Option ℕ). option_map_or behind o false) (after_by (nat_lt (place_of names name) (length names)) names name refl)
    ∙ named_from f rs new final e

pub whole_in_order : (f : VersionedFunction) (names : List (List ℕ)) (relocations : List Reloc) → names ≡ names_of_code f → relocations ≡ relocations_of_code f
    → named_in_order 0 (length names) relocations ≡ true
unfolding names_of_code relocations_of_code
whole_in_order f names relocations e g =
    ap (λ (ns : List (List ℕ)). named_in_order 0 (length ns) relocations) e ∙ ap (named_in_order 0 (length (names_of_code f))) g
    ∙ named_from f (references (assembly_of f)) [] (names_of_code f) refl

-- ---- no name stands twice

push_once : (before names : List (List ℕ)) (name : List ℕ) → repeats_after before names ≡ false → is_among (before ++ names) name ≡ false → repeats_after before (names ++ name ∷ []) ≡ false
push_once before [] name h e = or_from _ _ (ap (λ (ns : List (List ℕ)). is_among ns name) (sym (append-nil before)) ∙ e) refl
push_once before (n ∷ ns) name h e =
    let parts = or_parts (is_among before n) (repeats_after (before ++ n ∷ []) ns) h in
    or_from _ _ parts.0 (push_once (before ++ n ∷ []) ns name parts.1 (ap (λ (ms : List (List ℕ)). is_among ms name) (append_assoc before (n ∷ []) ns) ∙ e))

with_once : (b : Bool) (names : List (List ℕ)) (name : List ℕ) → is_among names name ≡ b → repeats names ≡ false → repeats (cond b names (names ++ name ∷ [])) ≡ false
with_once true names name e h = h
with_once false names name e h = push_once [] names name h e

once_from : (f : VersionedFunction) (rs : List Reference) (names : List (List ℕ)) → repeats names ≡ false → repeats (fold (with_reference f) names rs) ≡ false
once_from f [] names h = h
once_from f (r ∷ rs) names h =
    let name = symbol_name f r.symbol in
    once_from f rs (with_name names name) (with_once (is_among names name) names name refl h)

pub whole_once : (f : VersionedFunction) (names : List (List ℕ)) → names ≡ names_of_code f → repeats names ≡ false
unfolding names_of_code
whole_once f names e = ap repeats e ∙ once_from f (references (assembly_of f)) [] refl

-- ---- lists

pub drop_more : {X : Type 0} (xs : List X) (i : ℕ) (d : X) → i < length xs → drop i xs ≡ get_or xs i d ∷ drop (i + 1) xs
drop_more [] i d h = absurd (omega arith)
drop_more (x ∷ xs) zero d h = grind arith
drop_more (x ∷ xs) (suc i) d h = let e : suc i + 1 ≡ suc (i + 1) = omega arith in rw e (drop_more xs i d (omega arith))

with_by : (b : Bool) (names : List (List ℕ)) (name : List ℕ) → length (cond b names (names ++ name ∷ [])) ≤ length names + 1
with_by true names name = omega arith
with_by false names name = omega (arith, length_push names name)

pub with_short : (names : List (List ℕ)) (name : List ℕ) → length (with_name names name) ≤ length names + 1
with_short names name = with_by (is_among names name) names name
