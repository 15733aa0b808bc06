-- The object of a version is a part.
use Rattle.std.proofs.Common.{◌≡◌, ℕ, suc, ◌-◌, ◌*◌, ◌^◌, ◌<◌, ◌≤◌, true, false, List, ◌∷◌, length, map, sym, ap, ap₂, subst, ◌∙◌, arith}
use Rattle.std.specs.Prelude.{nat_lt, count_by, All}
use Rattle.std.specs.List.{AllByRecursion}
use Rattle.std.proofs.lemmas.List.Elements.{All-from_recursion}
use Rattle.std.proofs.lemmas.Bool.Decides.{nat_tests}
use Rattle.std.proofs.lemmas.List.{length-map}
use Rattle.gimple_ir.specs.Names.{repeats}
use Rattle.gimple_ir.specs.declared.versioned.VersionedFunction.{VersionedFunction}
use Rattle.elf_container.specs.declared.relocatable.RelSymbol.{RelSymbol}
use Rattle.elf_container.specs.declared.relocatable.Reloc.{Reloc}
use Rattle.elf_container.specs.declared.relocatable.RelocObject.{RelocObject}
use Rattle.elf_container.specs.Relocatable.{is_defined, fill_from, relocs_from, named_in_order, SymbolFits}
use Rattle.gimple_meaning.specs.Versioned.{IsVersioned, bound_of}
use Rattle.rv64_select.specs.Assembly.{assembly_of}
use Rattle.rv64_select.specs.Selected.{words_of_code, names_of_code, relocations_of_code, references, place_of, relocation_of}
use Rattle.final_link.specs.Members.{HasFrame}
use Rattle.program_link.specs.Known.{IsPart}
use Rattle.program_link.specs.Objects.{defined_symbol, own_symbol, other_symbol, others, other_names, object_names, placed, object_of}
use Rattle.program_link.proofs.OwnFirst.{distinct, own_first_once, own_first_count, next_place}
use Rattle.program_link.proofs.PartForm.{relocs_placed, named_placed, named_below, relocations_placed, names_again, one_defined, fill_own, strings_short, names_few, relocations_fit}
use Rattle.program_link.proofs.PartFrame.{has_frame}
use Rattle.rv64_select.proofs.FewSlots.{few_slots}

-- what is known of a version's code
pub record IsKnownCode (f : VersionedFunction) : Type 0 where
  pub versioned : IsVersioned f
  pub bound : 4 * length (words_of_code f) ≤ bound_of f
  pub fills : relocs_from 0 (words_of_code f) (relocations_of_code f) ≡ true
  pub named : named_in_order 0 (length (names_of_code f)) (relocations_of_code f) ≡ true
  pub once : repeats (names_of_code f) ≡ false

pub known : (f : VersionedFunction) (words : List ℕ) (names : List (List ℕ)) (rs : List Reloc) → IsVersioned f → words ≡ words_of_code f → names ≡ names_of_code f → rs ≡ relocations_of_code f
    → 4 * length words ≤ bound_of f → relocs_from 0 words rs ≡ true → named_in_order 0 (length names) rs ≡ true → repeats names ≡ false → IsKnownCode f
known f words names rs versioned w n r bound fills named once = record {
  versioned = versioned;
  bound = subst (λ (ws : List ℕ). 4 * length ws ≤ bound_of f) w bound;
  fills = sym (ap₂ (λ (ws : List ℕ) (xs : List Reloc). relocs_from 0 ws xs) w r) ∙ fills;
  named = sym (ap₂ (λ (ns : List (List ℕ)) (xs : List Reloc). named_in_order 0 (length ns) xs) n r) ∙ named;
  once = sym (ap (λ (ns : List (List ℕ)). repeats ns) n) ∙ once;
}

pub symbols_are : (f : VersionedFunction) (symbols : List RelSymbol) (size : ℕ) (names : List (List ℕ)) → symbols ≡ defined_symbol f.symbol size ∷ map other_symbol (others f.symbol names)
    → size ≡ 4 * length (words_of_code f) → names ≡ names_of_code f → symbols ≡ own_symbol f ∷ map other_symbol (other_names f)
symbols_are f symbols size names e s n = e ∙ ap₂ (λ (m : ℕ) (ns : List (List ℕ)). defined_symbol f.symbol m ∷ map other_symbol (others f.symbol ns)) s n

abbrev own_of : VersionedFunction → ℕ
own_of f = place_of (names_of_code f) f.symbol

long_enough : (f : VersionedFunction) → IsKnownCode f → 4 * length (words_of_code f) ≤ 2 ^ 19
long_enough f k = omega (arith, k.bound, k.versioned.bound)

pub few_names : (f : VersionedFunction) (names : List (List ℕ)) → IsKnownCode f → names ≡ names_of_code f → length names < 2 ^ 32
few_names f names k e =
    omega (arith, ap length e, (names_few (words_of_code f) (length (names_of_code f)) (relocations_of_code f) (long_enough f k) k.fills k.named).0)

pub small_places : (f : VersionedFunction) (rs : List Reloc) → IsKnownCode f → rs ≡ relocations_of_code f → All (λ r. r.symbol < 2 ^ 32 - 1) rs
small_places f rs k e =
    subst (λ (xs : List Reloc). All (λ r. r.symbol < 2 ^ 32 - 1) xs) (sym e)
    (All-from_recursion (λ r. r.symbol < 2 ^ 32 - 1) (relocations_of_code f) (names_few (words_of_code f) (length (names_of_code f)) (relocations_of_code f) (long_enough f k) k.fills k.named).1)

-- the relocations are those of the code, sent to the object's places
pub placed_is : (f : VersionedFunction) → IsKnownCode f → map (placed (own_of f)) (relocations_of_code f) ≡ map (relocation_of f (object_names f)) (references (assembly_of f))
unfolding relocations_of_code
placed_is f k =
    relocations_placed f f.symbol (names_of_code f) (references (assembly_of f)) (distinct (names_of_code f) k.once) (named_below 0 (length (names_of_code f)) (relocations_of_code f) k.named).2

pub relocations_are : (f : VersionedFunction) (found given : List Reloc) (own : ℕ) (names : List (List ℕ)) → found ≡ map (placed own) given → own ≡ place_of names f.symbol
    → names ≡ names_of_code f → given ≡ relocations_of_code f → found ≡ map (placed (own_of f)) (relocations_of_code f)
relocations_are f found given own names e o n g = e ∙ ap₂ (λ (m : ℕ) (rs : List Reloc). map (placed m) rs) (o ∙ ap (λ (ns : List (List ℕ)). place_of ns f.symbol) n) g

pub object_is : (f : VersionedFunction) (o : RelocObject) → IsKnownCode f
    → o.symbols ≡ own_symbol f ∷ map other_symbol (other_names f) → o.words ≡ words_of_code f → o.relocations ≡ map (placed (own_of f)) (relocations_of_code f) → o ≡ object_of f
unfolding object_of
object_is f o k symbols words relocations =
    let made : List RelSymbol → List ℕ → List Reloc → RelocObject = λ s w r. record { symbols = s; words = w; relocations = r } in
    ap (λ s. made s o.words o.relocations) symbols
    ∙ ap (λ w. made (own_symbol f ∷ map other_symbol (other_names f)) w o.relocations) words
    ∙ ap (made (own_symbol f ∷ map other_symbol (other_names f)) (words_of_code f)) (relocations ∙ placed_is f k)

small : (n : ℕ) → n ≤ 2 ^ 18 → nat_lt n (2 ^ 32) ≡ true
small n h = grind (arith, nat_tests)

first_place : (own : ℕ) → next_place own 0 ≡ 1
first_place own = grind (arith, nat_tests)

pub part_is : (f : VersionedFunction) (o : RelocObject) → IsKnownCode f
    → o.symbols ≡ own_symbol f ∷ map other_symbol (other_names f) → o.words ≡ words_of_code f → o.relocations ≡ map (placed (own_of f)) (relocations_of_code f)
    → AllByRecursion SymbolFits o.symbols → AllByRecursion (λ w. w < 2 ^ 32) o.words → IsPart o
part_is f o k symbols words relocations fits short =
    let names = other_names f in
    let own = own_of f in
    let code = relocations_of_code f in
    let number : length o.symbols ≡ suc (length names) = ap length symbols ∙ ap (λ n. suc n) (length-map names other_symbol) in
    let count : next_place own (length (names_of_code f)) ≡ length o.symbols = own_first_count f.symbol (names_of_code f) (distinct (names_of_code f) k.once) ∙ sym number in
    let fill : relocs_from 0 o.words o.relocations ≡ true =
    ap₂ (λ (ws : List ℕ) (rs : List Reloc). relocs_from 0 ws rs) words relocations ∙ relocs_placed own 0 (words_of_code f) code ∙ k.fills
    in
    let first : count_by is_defined o.symbols ≡ 1 = ap (count_by is_defined) symbols ∙ one_defined f.symbol (4 * length (words_of_code f)) names in
    let named : named_in_order 1 (length o.symbols) o.relocations ≡ true =
    ap₂ (λ (n : ℕ) (rs : List Reloc). named_in_order 1 n rs) (sym count) relocations
    ∙ ap (λ (next : ℕ). named_in_order next (next_place own (length (names_of_code f))) (map (placed own) code)) (sym (first_place own))
    ∙ named_placed own 0 (length (names_of_code f)) code k.named
    in
    let long : 4 * length o.words ≤ 2 ^ 19 = omega (arith, ap length words, k.bound, k.versioned.bound) in
    let fit = relocations_fit o.words (length o.symbols) o.relocations long fill named in
    record {
      object = record {
        few = small (length o.symbols) fit.0;
        differ =
            ap (λ (ss : List RelSymbol). repeats (map (λ (s : RelSymbol). s.name) ss)) symbols ∙ ap (λ (ns : List (List ℕ)). repeats (f.symbol ∷ ns)) (names_again names)
            ∙ own_first_once f.symbol (names_of_code f) k.once;
        members = ap₂ (λ (ws : List ℕ) (ss : List RelSymbol). fill_from 0 (4 * length ws) ss) words symbols ∙ fill_own f.symbol (length (words_of_code f)) names;
        relocations = fill;
        uses = ap (λ n. named_in_order n (length o.symbols) o.relocations) first ∙ named;
      };
      fits = record {
        symbols = fits;
        words = short;
        relocations = fit.1;
        strings = omega (arith, strings_short o.symbols fits, fit.0);
      };
      frame = subst HasFrame (sym words) (has_frame f (few_slots f k.versioned));
    }
