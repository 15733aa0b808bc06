-- The code of a whole function.
use Rattle.std.proofs.Common.{◌≡◌, ℕ, ◌+◌, ◌*◌, ◌-◌, ◌^◌, ◌<◌, ◌≤◌, List, [], ◌∷◌, length, map, refl, sym, ap, ◌∙◌, subst, arith, length-append}
use Rattle.std.specs.Prelude.{slice_index}
use Rattle.std.specs.List.{AllByRecursion}
use Rattle.std.proofs.Math.Path.{fun_ext}
use Rattle.std.proofs.lemmas.List.{length-map}
use Rattle.elf_container.specs.declared.relocatable.Reloc.{Reloc}
use Rattle.gimple_ir.specs.declared.versioned.VersionedFunction.{VersionedFunction}
use Rattle.rv64_isa.specs.Words.{InRange, word_of}
use Rattle.rv64_select.specs.declared.item.Item.{Item}
use Rattle.rv64_select.specs.declared.item.Item.TheVariants as item
use Rattle.rv64_select.specs.declared.references.Reference.{Reference}
use Rattle.rv64_select.specs.Assembly.{assembly_of}
use Rattle.rv64_select.specs.Code.{words_of, words_in, laid, blank, label_offset, unfilled}
use Rattle.rv64_select.specs.Selected.{words_of_code, names_of_code, relocations_of_code, reference_of, references, names_of, relocation_of}
use Rattle.rv64_select.specs.Items.{LabelBelow, SymbolFits}
use Rattle.gimple_meaning.specs.Versioned.{IsVersioned, bound_of}
use Rattle.rv64_select.proofs.FewSlots.{few_slots}
use Rattle.rv64_select.proofs.Laying.{words-cons, length-laid, length-blank}
use Rattle.rv64_select.proofs.Bounds.{assembly-short}
use Rattle.rv64_select.proofs.Fits.{AllFit, assembly_fits, labels_below, references_fit, assembly_encodes}

-- ---- what is asked of its items

pub whole_short : (f : VersionedFunction) (items : List Item) → IsVersioned f → items ≡ assembly_of f → 4 * words_in items ≤ 2 ^ 19
whole_short f items h e =
    let bound = assembly-short f (few_slots f h) in
    let limit = h.bound in
    let same = ap words_in e in
    omega (arith, bound, limit, same)

whole_fits : (f : VersionedFunction) (items : List Item) → IsVersioned f → items ≡ assembly_of f → AllFit f items
whole_fits f items h e = subst (AllFit f) (sym e) (assembly_fits f h)

pub whole_below : (f : VersionedFunction) (items : List Item) → IsVersioned f → items ≡ assembly_of f → AllByRecursion (LabelBelow f.labels) items
whole_below f items h e = labels_below f items (whole_fits f items h e)

offsets_are : (offsets : List ℕ) (items : List Item) → ((l : ℕ) → slice_index offsets l ≡ label_offset items l) → slice_index offsets ≡ label_offset items
offsets_are offsets items same = fun_ext same

pub whole_encodes : (f : VersionedFunction) (offsets : List ℕ) (items : List Item) → IsVersioned f → items ≡ assembly_of f → ((l : ℕ) → slice_index offsets l ≡ label_offset items l)
    → AllByRecursion InRange (laid (blank (slice_index offsets)) 0 items)
whole_encodes f offsets items h e same =
    subst (λ (labels : ℕ → ℕ). AllByRecursion InRange (laid (blank labels) 0 items)) (sym (offsets_are offsets items same))
    (assembly_encodes f items (whole_short f items h e) (whole_fits f items h e))

reference_few : (at : ℕ) (i : Item) → length (reference_of at i) ≤ words_of i
reference_few at (item.Plain i) = omega arith
reference_few at (item.Label l) = omega arith
reference_few at (item.Jump l) = omega arith
reference_few at (item.Call s) = omega arith
reference_few at (item.Upper rd s) = omega arith
reference_few at (item.Load element rd rs1 s) = omega arith
reference_few at (item.Store element rs1 rs2 s) = omega arith

references_few : (at : ℕ) (items : List Item) → length (laid reference_of at items) ≤ words_in items
references_few at [] = omega arith
references_few at (i ∷ is) =
    let next = at + 4 * words_of i in
    omega (arith, length-append (reference_of at i) (laid reference_of next is), reference_few at i, references_few next is, words-cons i is)

pub whole_few : (f : VersionedFunction) (refs : List Reference) → IsVersioned f → refs ≡ references (assembly_of f) → length refs < 2 ^ 32 - 1
whole_few f refs h e =
    let few = references_few 0 (assembly_of f) in
    let short = whole_short f (assembly_of f) h refl in
    omega (arith, few, short, ap length e)

pub whole_named : (f : VersionedFunction) (refs : List Reference) → IsVersioned f → refs ≡ references (assembly_of f) → AllByRecursion (λ r. SymbolFits f r.symbol) refs
whole_named f refs h e = subst (AllByRecursion (λ (r : Reference). SymbolFits f r.symbol)) (sym e) (references_fit f 0 (assembly_of f) (assembly_fits f h))

-- ---- what its parts are

pub whole_words : (f : VersionedFunction) (offsets : List ℕ) (items : List Item) (words : List ℕ) → items ≡ assembly_of f → ((l : ℕ) → slice_index offsets l ≡ label_offset items l)
    → words ≡ map word_of (laid (blank (slice_index offsets)) 0 items) → words ≡ words_of_code f
unfolding words_of_code
whole_words f offsets items words e same is =
    is ∙ ap (λ (labels : ℕ → ℕ). map word_of (laid (blank labels) 0 items)) (offsets_are offsets items same) ∙ ap (λ (is : List Item). map word_of (unfilled is)) e

pub whole_bound : (f : VersionedFunction) (words : List ℕ) → IsVersioned f → words ≡ words_of_code f → 4 * length words ≤ bound_of f
unfolding words_of_code
whole_bound f words h e =
    let items = assembly_of f in
    let bound = assembly-short f (few_slots f h) in
    let long : length (unfilled items) ≡ words_in items = length-laid (blank (label_offset items)) (length-blank (label_offset items)) 0 items in
    omega (arith, bound, long, ap length e, length-map (unfilled items) word_of)

pub whole_names : (f : VersionedFunction) (refs : List Reference) (names : List (List ℕ)) → refs ≡ references (assembly_of f) → names ≡ names_of f refs → names ≡ names_of_code f
unfolding names_of_code
whole_names f refs names e is = is ∙ ap (names_of f) e

pub whole_relocations : (f : VersionedFunction) (refs : List Reference) (relocations : List Reloc) → refs ≡ references (assembly_of f)
    → relocations ≡ map (relocation_of f (names_of f refs)) refs → relocations ≡ relocations_of_code f
unfolding names_of_code relocations_of_code
whole_relocations f refs relocations e is = is ∙ ap (λ (rs : List Reference). map (relocation_of f (names_of f rs)) rs) e
