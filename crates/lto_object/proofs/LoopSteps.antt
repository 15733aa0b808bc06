-- Loops that put what each element of a list gives after what those before it gave.
use Rattle.std.proofs.Common.{◌≡◌, ◌+◌, ◌<◌, ℕ, List, [], ◌∷◌, ◌++◌, length, take, drop, get_or, map, cond, sym, ap, ap₂, ◌∙◌, append_assoc}
use Rattle.std.specs.Prelude.{slice_get, unwrap_or}
use Rattle.std.specs.List.{flat_map}
use Rattle.std.proofs.lemmas.Grind.{flat_map-append}
use Rattle.std.proofs.lemmas.List.{flat_map_more, get_or_default, map-append}
use Rattle.std.proofs.lemmas.List.Elements.{filter-append}
use Rattle.gimple_ir.specs.declared.types.Function.{Function}
use Rattle.gimple_ir.specs.declared.types.Statement.{Statement}
use Rattle.gimple_checks.proofs.Lists.{take_here, slice_get_at}
use Rattle.lto_object.specs.Bounds.{is_defined, defined_of}
use Rattle.lto_object.specs.BodyStream.{bodies_of, stored_body_of, bodies_bytes}
use Rattle.lto_object.specs.ObjectReading.{with_body, filled}
use Rattle.lto_object.proofs.LoopLaws.{filled_here}

-- the elements up to and with one
taken : {X : Type 0} (xs : List X) (i : ℕ) (x : X) → i < length xs → x ≡ get_or xs i x → take (i + 1) xs ≡ take i xs ++ x ∷ []
taken xs i x lt is = take_here xs i x (slice_get_at xs i x lt is)

-- what it gives comes at the end
pub put_more : {X A : Type 0} (f : X → List A) (front now new : List A) (xs : List X) (i : ℕ) (x : X) → i < length xs → x ≡ get_or xs i x → now ≡ front ++ flat_map f (take i xs) → new ≡ now ++ f x
    → new ≡ front ++ flat_map f (take (i + 1) xs)
put_more f front now new xs i x lt is before put =
    put ∙ ap (λ ys. ys ++ f x) before ∙ flat_map_more f front (take i xs) x ∙ ap (λ ys. front ++ flat_map f ys) (sym (taken xs i x lt is))

pub put_more_at : {X A : Type 0} (f : X → List A) (front now new : List A) (xs : List X) (i : ℕ) (d : X) → i < length xs → now ≡ front ++ flat_map f (take i xs) → new ≡ now ++ f (get_or xs i d)
    → new ≡ front ++ flat_map f (take (i + 1) xs)
put_more_at f front now new xs i d lt before put =
    put_more f front now new xs i (get_or xs i d) lt (get_or_default xs i d (get_or xs i d) lt) before put

-- a copy of it comes at the end
pub copied_more : {X : Type 0} (now new xs : List X) (i : ℕ) (x y : X) → i < length xs → x ≡ get_or xs i x → now ≡ take i xs → new ≡ now ++ y ∷ [] → y ≡ x → new ≡ take (i + 1) xs
copied_more now new xs i x y lt is before push same =
    push ∙ ap₂ (λ ys z. ys ++ z ∷ []) before same ∙ sym (taken xs i x lt is)

-- one comes at the end that is seen as it is seen
pub mapped_more : {X Y Z : Type 0} (g : Y → Z) (h : X → Z) (now new : List Y) (xs : List X) (i : ℕ) (x : X) (y : Y) → i < length xs → x ≡ get_or xs i x → map g now ≡ map h (take i xs) → new ≡ now ++ y ∷ []
    → g y ≡ h x → map g new ≡ map h (take (i + 1) xs)
mapped_more g h now new xs i x y lt is before push same =
    ap (map g) push ∙ map-append g now (y ∷ []) ∙ ap₂ (λ ys z. ys ++ z ∷ []) before same ∙ sym (ap (map h) (taken xs i x lt is) ∙ map-append h (take i xs) (x ∷ []))

-- ---- functions that have a body

defined_taken : (fs : List Function) (i : ℕ) (f : Function) → i < length fs → f ≡ get_or fs i f → defined_of (take (i + 1) fs) ≡ defined_of (take i fs) ++ defined_of (f ∷ [])
defined_taken fs i f lt is = ap defined_of (taken fs i f lt is) ∙ filter-append is_defined (take i fs) (f ∷ [])

pub defined_more : {Y : Type 0} (g : Function → Y) (now new : List Y) (fs : List Function) (i : ℕ) (f : Function) → i < length fs → f ≡ get_or fs i f → now ≡ map g (defined_of (take i fs))
    → new ≡ now ++ map g (defined_of (f ∷ [])) → new ≡ map g (defined_of (take (i + 1) fs))
defined_more g now new fs i f lt is before put =
    put ∙ ap (λ ys. ys ++ map g (defined_of (f ∷ []))) before
    ∙ sym (ap (map g) (defined_taken fs i f lt is) ∙ map-append g (defined_of (take i fs)) (defined_of (f ∷ [])))

pub bodies_more : (now new : List ℕ) (fs : List Function) (i : ℕ) (f : Function) → i < length fs → f ≡ get_or fs i f → now ≡ bodies_bytes (bodies_of (take i fs)) → new ≡ now ++ bodies_bytes (bodies_of (f ∷ []))
    → new ≡ bodies_bytes (bodies_of (take (i + 1) fs))
bodies_more now new fs i f lt is before put =
    let all : bodies_of (take (i + 1) fs) ≡ bodies_of (take i fs) ++ bodies_of (f ∷ []) =
    ap (map (λ (g : Function). g.body)) (defined_taken fs i f lt is) ∙ map-append (λ (g : Function). g.body) (defined_of (take i fs)) (defined_of (f ∷ [])) in
    put ∙ ap (λ ys. ys ++ bodies_bytes (bodies_of (f ∷ []))) before
    ∙ sym (ap bodies_bytes all ∙ flat_map-append stored_body_of (bodies_of (take i fs)) (bodies_of (f ∷ [])))

-- a function with its body comes at the end
pub filled_more : (fs : List Function) (i : ℕ) (f made : Function) (body : List Statement) (bodies rest : List (List Statement)) (all new whole : List Function) → i < length fs → f ≡ get_or fs i f
    → body ≡ cond (is_defined f) (unwrap_or (slice_get bodies 0) []) [] → rest ≡ cond (is_defined f) (drop 1 bodies) bodies → made ≡ with_body f body → new ≡ all ++ made ∷ []
    → all ++ filled (drop i fs) bodies ≡ whole → new ++ filled (drop (i + 1) fs) rest ≡ whole
filled_more fs i f made body bodies rest all new whole lt is value left given push before =
    let own = with_body f (cond (is_defined f) (unwrap_or (slice_get bodies 0) []) []) in
    let more = filled (drop (i + 1) fs) (cond (is_defined f) (drop 1 bodies) bodies) in
    ap₂ (λ gs r. gs ++ filled (drop (i + 1) fs) r) (push ∙ ap (λ g. all ++ g ∷ []) (given ∙ ap (with_body f) value)) left
    ∙ append_assoc all (own ∷ []) more ∙ ap (λ gs. all ++ gs) (sym (filled_here fs bodies i f (slice_get_at fs i f lt is))) ∙ before
