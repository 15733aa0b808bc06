-- The names of a function's references stand in its list, each at its place.
use Rattle.std.proofs.Common.{◌≡◌, ℕ, suc, ◌+◌, Bool, true, false, cond, not, ◌||◌, List, [], ◌∷◌, ◌++◌, Option, Some, refl, sym, ap, ◌∙◌, arith}
use Rattle.std.specs.Prelude.{slice_get, fold}
use Rattle.std.specs.Option.{option_map_or}
use Rattle.std.specs.List.{AllByRecursion, position_or_len}
use Rattle.std.specs.Str.{bytes_eq}
use Rattle.std.proofs.lemmas.Bool.{or_left, or_right}
use Rattle.std.proofs.lemmas.List.Folds.{list_any-append}
use Rattle.std.proofs.lemmas.Slice.Eq.{bytes_eq-Decides}
use Rattle.gimple_ir.specs.Names.{is_among}
use Rattle.gimple_ir.specs.declared.versioned.VersionedFunction.{VersionedFunction}
use Rattle.rv64_select.specs.declared.references.Reference.{Reference}
use Rattle.rv64_select.specs.Assembly.{assembly_of}
use Rattle.rv64_select.specs.Code.{symbol_name}
use Rattle.rv64_select.specs.Selected.{references, with_name, with_reference, place_of, names_of_code, relocations_of_code}
use Rattle.follow_laws.specs.Patched.{NamesStand, PlaceHasName, OwnNamesPatched}
use Rattle.follow_laws.proofs.PatchLaws.{patched_is_direct}

at_next : (n : List ℕ) (ns : List (List ℕ)) (k : ℕ) → slice_get (n ∷ ns) (1 + k) ≡ slice_get ns k
at_next n ns k = let e : 1 + k ≡ suc k = omega arith in ap (slice_get (n ∷ ns)) e

place_by : (b : Bool) (n : List ℕ) (ns : List (List ℕ)) (name : List ℕ) → bytes_eq name n ≡ b → (b || is_among ns name) ≡ true
    → (is_among ns name ≡ true → slice_get ns (position_or_len (bytes_eq name) ns) ≡ Some name)
    → slice_get (n ∷ ns) (cond (not b) (1 + position_or_len (bytes_eq name) ns) 0) ≡ Some name
place_by true n ns name e h behind = ap Some (sym ((bytes_eq-Decides name n).0 e))
place_by false n ns name e h behind = at_next n ns (position_or_len (bytes_eq name) ns) ∙ behind h

pub place_has_name : PlaceHasName
place_has_name [] name h = cc
place_has_name (n ∷ ns) name h = place_by (bytes_eq name n) n ns name refl h (place_has_name ns name)

among_kept : (b : Bool) (names : List (List ℕ)) (n name : List ℕ) → is_among names name ≡ true → is_among (cond b names (names ++ n ∷ [])) name ≡ true
among_kept true names n name h = h
among_kept false names n name h = list_any-append (bytes_eq name) names (n ∷ []) ∙ or_left (is_among names name) (is_among (n ∷ []) name) h

names_kept : (f : VersionedFunction) (rs : List Reference) (names : List (List ℕ)) (name : List ℕ) → is_among names name ≡ true → is_among (fold (with_reference f) names rs) name ≡ true
names_kept f [] names name h = h
names_kept f (r ∷ rs) names name h =
    let n = symbol_name f r.symbol in
    names_kept f rs (with_name names n) name (among_kept (is_among names n) names n name h)

among_here : (b : Bool) (names : List (List ℕ)) (name : List ℕ) → is_among names name ≡ b → is_among (cond b names (names ++ name ∷ [])) name ≡ true
among_here true names name e = e
among_here false names name e =
    list_any-append (bytes_eq name) names (name ∷ [])
    ∙ or_right (is_among names name) (is_among (name ∷ []) name) (or_left (bytes_eq name name) false ((bytes_eq-Decides name name).1 refl))

stand_from : (f : VersionedFunction) (rs : List Reference) (names : List (List ℕ)) → AllByRecursion (λ r. is_among (fold (with_reference f) names rs) (symbol_name f r.symbol) ≡ true) rs
stand_from f [] names = tt
stand_from f (r ∷ rs) names =
    let name = symbol_name f r.symbol in
    let new = with_name names name in
    (names_kept f rs new name (among_here (is_among names name) names name refl), stand_from f rs new)

pub names_stand : NamesStand
unfolding names_of_code
names_stand f = stand_from f (references (assembly_of f)) []

all_then : {X : Type 0} (P Q : X → Type 0) → ((x : X) → P x → Q x) → (xs : List X) → AllByRecursion P xs → AllByRecursion Q xs
all_then P Q g [] h = tt
all_then P Q g (x ∷ xs) h = (g x h.0, all_then P Q g xs h.1)

pub own_names_patched : OwnNamesPatched
unfolding relocations_of_code
own_names_patched f addresses at =
    let names = names_of_code f in
    let address_of : ℕ → ℕ = λ k. option_map_or addresses (slice_get names k) 0 in
    let stands : Reference → Type 0 = λ r. is_among names (symbol_name f r.symbol) ≡ true in
    let has : Reference → Type 0 = λ r. address_of (place_of names (symbol_name f r.symbol)) ≡ addresses (symbol_name f r.symbol) in
    let found : (r : Reference) → stands r → has r = λ r h. ap (λ (o : Option (List ℕ)). option_map_or addresses o 0) (place_has_name names (symbol_name f r.symbol) h) in
    patched_is_direct f names address_of addresses at (all_then stands has found (references (assembly_of f)) (names_stand f))
