-- The definition that prevails under a name: it stands in its object, it is kept, and it has the types of all symbols of the name.
use Rattle.std.proofs.Common.{◌≡◌, ◌⊎◌, inl, inr, ℕ, List, [], ◌∷◌, map, Bool, true, false, Some, None, refl, sym, ap, ap₂, ◌∙◌, arith, subst}
use Rattle.std.specs.Prelude.{◌&&◌, not, if◌then◌else◌, Option, slice_get, nat_eq}
use Rattle.std.specs.Str.{bytes_eq}
use Rattle.std.specs.Cmp.Lexicographic.{pointwise}
use Rattle.std.proofs.lemmas.Option.{cond_some}
use Rattle.gimple_ir.specs.declared.types.Linkage.{Linkage}
use Rattle.gimple_ir.specs.declared.types.Linkage.TheVariants.{Extern, Strong, Weak, Static}
use Rattle.gimple_ir.specs.declared.types.ScalarType.{ScalarType}
use Rattle.gimple_ir.specs.declared.types.ElementType.{ElementType}
use Rattle.gimple_ir.specs.declared.types.ElementType.TheVariants as element
use Rattle.gimple_ir.specs.declared.types.ResultType.{ResultType}
use Rattle.gimple_ir.specs.declared.types.ResultType.TheVariants as returned
use Rattle.gimple_ir.specs.declared.types.Variable.{Variable}
use Rattle.gimple_ir.specs.declared.types.Array.{Array}
use Rattle.gimple_ir.specs.declared.types.Function.{Function}
use Rattle.gimple_ir.specs.Lattices.{same_type}
use Rattle.gimple_ir.specs.Checks.{is_extern}
use Rattle.func_summary.proofs.Checked.{both-true, same_type-is}
use Rattle.lto_object.specs.declared.symbol.Symbol.{Symbol}
use Rattle.lto_object.specs.Objects.{ObjectData, IsObject, symbols_of}
use Rattle.lto_object.proofs.FormLaws.{same_bytes}
use Rattle.resolution_text.specs.declared.resolution.Word.{Word}
use Rattle.resolution_text.specs.declared.resolution.Word.TheVariants.{PreemptedIr}
use Rattle.resolution_text.specs.declared.resolution.Resolved.{Resolved}
use Rattle.symbol_resolution.specs.declared.marks.Mark.{Mark}
use Rattle.symbol_resolution.specs.Groups.{of_name}
use Rattle.symbol_resolution.specs.LineFaults.{is_prevailing, is_misplaced}
use Rattle.symbol_resolution.specs.Marks.{mark_of, prevails, prevailing_mark}
use Rattle.symbol_resolution.specs.NameFaults.{same_result, same_element, same_components, same_sort, is_at, names_fault}
use Rattle.symbol_resolution.specs.Kept.{kept_if, kept_as, is_exported}
use Rattle.symbol_resolution.specs.Numbers.{is_static}
use Rattle.symbol_resolution.proofs.Membership.{Has, found_has, named_has, equal_numbers, bytes-itself}
use Rattle.symbol_resolution.proofs.ListedSymbols.{IsArraySymbol, IsFunctionSymbol, symbol_from}
use Rattle.symbol_resolution.proofs.MarkFacts.{IsMark, at_itself}
use Rattle.symbol_resolution.proofs.StatementKinds.{types_of}

-- what is known of the objects of a link and the marks of their symbols, where no line and no name has a fault
pub record IsLink (objects : List ObjectData) (marks : List (List ℕ × Mark)) : Type 0 where
  pub real : (i : ℕ) (o : ObjectData) → slice_get objects i ≡ Some o → IsObject o
  pub marked : (i : ℕ) (e : List ℕ × Mark) → slice_get marks i ≡ Some e → IsMark 0 objects e
  pub has_mark : (i : ℕ) (o : ObjectData) (s : Symbol) → slice_get objects i ≡ Some o → Has o.symbols s → (w : Resolved) × Has marks (s.name, mark_of i s w)
  pub names : names_fault objects marks marks ≡ None

-- ---- tests

pub bytes-same : (xs ys : List ℕ) → xs ≡ ys → bytes_eq xs ys ≡ true
bytes-same xs ys e = ap (bytes_eq xs) (sym e) ∙ bytes-itself xs

pub sorts : (a b : Bool) → same_sort a b ≡ true → b ≡ a
sorts true b h = h
sorts false true h = cc
sorts false false h = refl

pub at_mark : (function : Bool) (object place : ℕ) (m : Mark) → is_at function object place m ≡ true → (m.function ≡ function) × (object ≡ m.object) × (place ≡ m.place)
at_mark function object place m h =
    let two = both-true (same_sort function m.function && nat_eq object m.object) (nat_eq place m.place) h in
    let one = both-true (same_sort function m.function) (nat_eq object m.object) two.0 in
    (sorts function m.function one.0, equal_numbers object m.object one.1, equal_numbers place m.place two.1)

pub static_places : (s l a b : Bool) → s ≡ true → (if s then l && a && b else not l) ≡ true → (a ≡ true) × (b ≡ true)
static_places true l a b e h = let two = both-true (l && a) b h in ((both-true l a two.0).1, two.1)
static_places false l a b e h = cc

pub open_sees : (s l a b : Bool) → s ≡ false → (if s then l && a && b else not l) ≡ true → l ≡ false
open_sees true l a b e h = cc
open_sees false true a b e h = cc
open_sees false false a b e h = refl

pub static_so : (s l a b : Bool) → s ≡ true → l ≡ true → a ≡ true → b ≡ true → (if s then l && a && b else not l) ≡ true
static_so true true true true e l a b = refl
static_so true true true false e l a b = cc
static_so true true false y e l a b = cc
static_so true false x y e l a b = cc
static_so false k x y e l a b = cc

pub open_so : (s l a b : Bool) → s ≡ false → l ≡ false → (if s then l && a && b else not l) ≡ true
open_so true l a b e h = cc
open_so false true a b e h = cc
open_so false false a b e h = refl

-- ---- what keeps a definition

pub static_kept : (marks : List (List ℕ × Mark)) (function : Bool) (object place : ℕ) (l : Linkage) (name : List ℕ) → is_static l ≡ true → kept_as marks function object place l name ≡ Some false
static_kept marks function object place Extern name h = cc
static_kept marks function object place Strong name h = cc
static_kept marks function object place Weak name h = cc
static_kept marks function object place Static name h = refl

pub open_kept : (marks : List (List ℕ × Mark)) (function : Bool) (object place : ℕ) (l : Linkage) (name : List ℕ) → is_static l ≡ false → is_extern l ≡ false
    → kept_as marks function object place l name ≡ kept_if function object place name (prevailing_mark name marks)
open_kept marks function object place Extern name h k = cc
open_kept marks function object place Strong name h k = refl
open_kept marks function object place Weak name h k = refl
open_kept marks function object place Static name h k = cc

pub kept_defined : (marks : List (List ℕ × Mark)) (function : Bool) (object place : ℕ) (l : Linkage) (name : List ℕ) (e : Bool) → kept_as marks function object place l name ≡ Some e → is_extern l ≡ false
kept_defined marks function object place Extern name e h = cc
kept_defined marks function object place Strong name e h = refl
kept_defined marks function object place Weak name e h = refl
kept_defined marks function object place Static name e h = refl

-- the symbol that keeps a definition which others see
pub record IsKeptBy (marks : List (List ℕ × Mark)) (function : Bool) (object place : ℕ) (name : List ℕ) (exported : Bool) : Type 0 where
  pub mark : Mark
  pub found : prevailing_mark name marks ≡ Some mark
  pub at : is_at function object place mark ≡ true
  pub exports : exported ≡ is_exported name mark.word

pub kept_by : (marks : List (List ℕ × Mark)) (function : Bool) (object place : ℕ) (name : List ℕ) (e : Bool) (o : Option Mark) → prevailing_mark name marks ≡ o → kept_if function object place name o ≡ Some e
    → IsKeptBy marks function object place name e
kept_by marks function object place name e None is h = cc
kept_by marks function object place name e (Some m) is h =
    let both = cond_some (is_at function object place m) (is_exported name m.word) e h in
    record { mark = m; found = is; at = both.0; exports = sym both.1 }

pub seen_kept_by : (marks : List (List ℕ × Mark)) (function : Bool) (object place : ℕ) (l : Linkage) (name : List ℕ) (e : Bool) → is_static l ≡ false → kept_as marks function object place l name ≡ Some e
    → IsKeptBy marks function object place name e
seen_kept_by marks function object place l name e seen h =
    kept_by marks function object place name e (prevailing_mark name marks) refl (sym (open_kept marks function object place l name seen (kept_defined marks function object place l name e h)) ∙ h)

pub placed_open : (l : Linkage) (w : Word) → is_misplaced l w ≡ false → is_prevailing w ≡ true → is_extern l ≡ false
placed_open Extern PreemptedIr h k = cc
placed_open Extern w h k = cc
placed_open Strong w h k = refl
placed_open Weak w h k = refl
placed_open Static w h k = refl

-- the symbol of a mark that prevails under a name
pub record IsDefined (objects : List ObjectData) (marks : List (List ℕ × Mark)) (name : List ℕ) (m : Mark) : Type 0 where
  pub owner : ObjectData
  pub symbol : Symbol
  pub owner_is : slice_get objects m.object ≡ Some owner
  pub has : Has (symbols_of owner.source) symbol
  pub named : name ≡ symbol.name
  pub place : m.place ≡ symbol.place
  pub sort : m.function ≡ symbol.function
  pub kept : is_static symbol.linkage ≡ false → kept_as marks m.function m.object m.place symbol.linkage symbol.name ≡ Some (is_exported symbol.name m.word)

pub defined : (objects : List ObjectData) (marks : List (List ℕ × Mark)) (name : List ℕ) (m : Mark) → IsLink objects marks → prevailing_mark name marks ≡ Some m → IsDefined objects marks name m
defined objects marks name m link found =
    let has = found_has prevails (of_name name marks) m found in
    let entry = named_has name marks m has.0.0 has.0.1 in
    let its = link.marked entry.1.0 entry.0 entry.1.1 in
    let object = link.real its.index its.owner its.owner_is in
    let named : name ≡ its.symbol.name = same_bytes name entry.0.0 entry.2 ∙ its.name in
    let at : m.object ≡ its.index = sym (ap (λ (m : Mark). m.object) entry.3) ∙ its.object ∙ omega arith in
    let open_linkage = placed_open its.symbol.linkage m.word (sym (ap (λ (m : Mark). is_misplaced its.symbol.linkage m.word) entry.3) ∙ its.placed) has.1 in
    record {
      owner = its.owner;
      symbol = its.symbol;
      owner_is = ap (slice_get objects) at ∙ its.owner_is;
      has = subst (λ (ss : List Symbol). Has ss its.symbol) object.symbols its.has;
      named = named;
      place = sym (ap (λ (m : Mark). m.place) entry.3) ∙ its.place;
      sort = sym (ap (λ (m : Mark). m.function) entry.3) ∙ its.sort;
      kept = λ seen.
          open_kept marks m.function m.object m.place its.symbol.linkage its.symbol.name seen open_linkage
          ∙ ap (λ (s : List ℕ). kept_if m.function m.object m.place its.symbol.name (prevailing_mark s marks)) (sym named)
          ∙ ap (kept_if m.function m.object m.place its.symbol.name) found
          ∙ ap (λ (b : Bool). if b then Some (is_exported its.symbol.name m.word) else None) (at_itself m);
    }

pub record IsDefinedFunction (objects : List ObjectData) (marks : List (List ℕ × Mark)) (name : List ℕ) (m : Mark) : Type 0 where
  pub owner : ObjectData
  pub owner_is : slice_get objects m.object ≡ Some owner
  pub item : Function
  pub here : slice_get owner.source.functions m.place ≡ Some item
  pub named : name ≡ item.name
  pub seen : is_static item.linkage ≡ false
  pub kept : kept_as marks true m.object m.place item.linkage item.name ≡ Some (is_exported item.name m.word)

pub defined_function : (objects : List ObjectData) (marks : List (List ℕ × Mark)) (name : List ℕ) (m : Mark) → IsLink objects marks → prevailing_mark name marks ≡ Some m → m.function ≡ true
    → IsDefinedFunction objects marks name m
defined_function objects marks name m link found sort = by (defined objects marks name m link found)
  where
    from : (it : IsDefined objects marks name m) → IsArraySymbol it.owner.source it.symbol ⊎ IsFunctionSymbol it.owner.source it.symbol → IsDefinedFunction objects marks name m
    from it (inl a) = let wrong : true ≡ false = sym sort ∙ it.sort ∙ a.sort in cc
    from it (inr f) =
        let seen : is_static it.symbol.linkage ≡ false = ap is_static f.linkage ∙ f.seen in
        record {
          owner = it.owner;
          owner_is = it.owner_is;
          item = f.item;
          here = ap (slice_get it.owner.source.functions) it.place ∙ f.here;
          named = it.named ∙ f.name;
          seen = f.seen;
          kept =
              ap₂ (λ (l : Linkage) (s : List ℕ). kept_as marks true m.object m.place l s) (sym f.linkage) (sym f.name)
              ∙ ap (λ (b : Bool). kept_as marks b m.object m.place it.symbol.linkage it.symbol.name) (sym sort) ∙ it.kept seen
              ∙ ap (λ (s : List ℕ). Some (is_exported s m.word)) f.name;
        }

    by : IsDefined objects marks name m → IsDefinedFunction objects marks name m
    by it = from it (symbol_from it.owner.source it.symbol it.has)

pub record IsDefinedArray (objects : List ObjectData) (marks : List (List ℕ × Mark)) (name : List ℕ) (m : Mark) : Type 0 where
  pub owner : ObjectData
  pub owner_is : slice_get objects m.object ≡ Some owner
  pub item : Array
  pub here : slice_get owner.source.arrays m.place ≡ Some item
  pub named : name ≡ item.name
  pub seen : is_static item.linkage ≡ false
  pub kept : kept_as marks false m.object m.place item.linkage item.name ≡ Some (is_exported item.name m.word)

pub defined_array : (objects : List ObjectData) (marks : List (List ℕ × Mark)) (name : List ℕ) (m : Mark) → IsLink objects marks → prevailing_mark name marks ≡ Some m → m.function ≡ false
    → IsDefinedArray objects marks name m
defined_array objects marks name m link found sort = by (defined objects marks name m link found)
  where
    from : (it : IsDefined objects marks name m) → IsArraySymbol it.owner.source it.symbol ⊎ IsFunctionSymbol it.owner.source it.symbol → IsDefinedArray objects marks name m
    from it (inr f) = let wrong : false ≡ true = sym sort ∙ it.sort ∙ f.sort in cc
    from it (inl a) =
        let seen : is_static it.symbol.linkage ≡ false = ap is_static a.linkage ∙ a.seen in
        record {
          owner = it.owner;
          owner_is = it.owner_is;
          item = a.item;
          here = ap (slice_get it.owner.source.arrays) it.place ∙ a.here;
          named = it.named ∙ a.name;
          seen = a.seen;
          kept =
              ap₂ (λ (l : Linkage) (s : List ℕ). kept_as marks false m.object m.place l s) (sym a.linkage) (sym a.name)
              ∙ ap (λ (b : Bool). kept_as marks b m.object m.place it.symbol.linkage it.symbol.name) (sym sort) ∙ it.kept seen
              ∙ ap (λ (s : List ℕ). Some (is_exported s m.word)) a.name;
        }

    by : IsDefined objects marks name m → IsDefinedArray objects marks name m
    by it = from it (symbol_from it.owner.source it.symbol it.has)

-- ---- types

pub pointwise_is : (xs ys : List ScalarType) → pointwise same_type xs ys ≡ true → xs ≡ ys
pointwise_is [] [] h = refl
pointwise_is [] (y ∷ ys) h = cc
pointwise_is (x ∷ xs) [] h = cc
pointwise_is (x ∷ xs) (y ∷ ys) h =
    let two = both-true (same_type x y) (pointwise same_type xs ys) h in
    ap₂ (λ a b. a ∷ b) (same_type-is x y two.0) (pointwise_is xs ys two.1)

pub parameters_are : (vs ws : List Variable) → pointwise same_components vs ws ≡ true → map types_of vs ≡ map types_of ws
parameters_are [] [] h = refl
parameters_are [] (w ∷ ws) h = cc
parameters_are (v ∷ vs) [] h = cc
parameters_are (v ∷ vs) (w ∷ ws) h =
    let two = both-true (same_components v w) (pointwise same_components vs ws) h in
    ap₂ (λ a b. a ∷ b) (pointwise_is v.types w.types two.0) (parameters_are vs ws two.1)

pub result_is : (a b : ResultType) → same_result a b ≡ true → a ≡ b
result_is returned.Void returned.Void h = refl
result_is returned.Void (returned.Scalar b) h = cc
result_is (returned.Scalar a) returned.Void h = cc
result_is (returned.Scalar a) (returned.Scalar b) h = ap returned.Scalar (same_type-is a b h)

pub element_is : (a b : ElementType) → same_element a b ≡ true → a ≡ b
element_is element.UnsignedChar element.UnsignedChar h = refl
element_is element.UnsignedChar (element.Scalar b) h = cc
element_is (element.Scalar a) element.UnsignedChar h = cc
element_is (element.Scalar a) (element.Scalar b) h = ap element.Scalar (same_type-is a b h)

pub functions_matched : (m n f a : Bool) → (if m then n && f else not n && a) ≡ true → n ≡ true → (m ≡ true) × (f ≡ true)
functions_matched true n f a h e = (refl, (both-true n f h).1)
functions_matched false true f a h e = cc
functions_matched false false f a h e = cc

pub arrays_matched : (m n f a : Bool) → (if m then n && f else not n && a) ≡ true → n ≡ false → (m ≡ false) × (a ≡ true)
arrays_matched true true f a h e = cc
arrays_matched true false f a h e = cc
arrays_matched false n f a h e = (refl, (both-true (not n) a h).1)
