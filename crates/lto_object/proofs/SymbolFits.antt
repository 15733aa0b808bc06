-- The symbols of a checked module have a spelling, and its sections are those of a file.
use Rattle.std.proofs.Common.{◌≡◌, ◌+◌, ◌^◌, ◌<◌, ◌≤◌, ℕ, suc, List, [], ◌∷◌, ◌++◌, length, map, Bool, true, false, cond, Option, Some, None, refl, sym, ap, ◌∙◌, lit<, lit≤, length-append, arith}
use Rattle.std.specs.Prelude.{All, slice_get, nat_eq, codes, IfSome}
use Rattle.std.specs.List.{list_any, filter_map, enumerate_from}
use Rattle.std.proofs.lemmas.List.{length-map}
use Rattle.std.proofs.lemmas.List.Elements.{All-nil, All-cons, All-append}
use Rattle.gimple_ir.specs.declared.types.Array.{Array}
use Rattle.gimple_ir.specs.declared.types.Function.{Function}
use Rattle.gimple_ir.specs.declared.types.Module.{Module}
use Rattle.gimple_ir.specs.Names.{IsName}
use Rattle.gimple_ir.specs.Programs.{IsStatedArray, IsStatedFunction, IsChecked}
use Rattle.module_stream.proofs.NameLaws.{name_from_identifier}
use Rattle.elf_container.specs.declared.sections.OwnSection.{OwnSection}
use Rattle.elf_container.specs.Container.{IsPlain, IsSection, IsContainer}
use Rattle.elf_container.proofs.NameLaws.{is_name}
use Rattle.func_summary.proofs.Checked.{all-from_places, all_at}
use Rattle.lto_object.specs.declared.symbol.Symbol.{Symbol}
use Rattle.lto_object.specs.declared.symbols.StoredSymbol.{StoredSymbol}
use Rattle.module_stream.specs.Declarations.{decls_of}
use Rattle.lto_object.specs.BodyStream.{bodies_of, bodies_bytes}
use Rattle.lto_object.specs.SummaryStream.{summaries_bytes}
use Rattle.lto_object.specs.SymbolStream.{stored_of, symbols_bytes, FitSymbols}
use Rattle.lto_object.specs.Objects.{is_listed, array_symbol, function_symbol, array_symbols, function_symbols, named_arrays, named_functions, summaries_of, symbols_of, section_of, sections_with, sections_of}
use Rattle.lto_object.proofs.Elements.{all_listed}

abbrev Named : Symbol → Type 0
Named s = IsName s.name

listed_named : (b : Bool) (s : Symbol) → IsName s.name → IfSome (cond b (Some s) None) Named
listed_named true s h = h
listed_named false s h = tt

arrays_named : (m : Module) → IsChecked m → All Named (array_symbols (named_arrays m.functions) m.arrays) × (length (array_symbols (named_arrays m.functions) m.arrays) ≤ length m.arrays)
arrays_named m checked =
    all_listed Named (array_symbol (named_arrays m.functions)) 0 m.arrays
    (λ i a here. listed_named (is_listed a.linkage (list_any (nat_eq (0 + i)) (named_arrays m.functions))) (record { name = a.name; function = false; linkage = a.linkage; place = 0 + i }) (name_from_identifier a.name (all_at IsStatedArray m.arrays checked.stated.arrays i a here).name))

functions_named : (m : Module) → IsChecked m → All Named (function_symbols (named_functions m.functions) m.functions) × (length (function_symbols (named_functions m.functions) m.functions) ≤ length m.functions)
functions_named m checked =
    all_listed Named (function_symbol (named_functions m.functions)) 0 m.functions
    (λ i f here. listed_named (is_listed f.linkage (list_any (nat_eq (0 + i)) (named_functions m.functions))) (record { name = f.name; function = true; linkage = f.linkage; place = 0 + i }) (name_from_identifier f.name (all_at (IsStatedFunction m.structs) m.functions checked.stated.functions i f here).name))

stored_named : (ss : List Symbol) → All Named ss → All (λ (s : StoredSymbol). IsName s.name) (map stored_of ss)
stored_named [] h = All-nil (λ (s : StoredSymbol). IsName s.name)
stored_named (s ∷ ss) h =
    All-cons (λ (t : StoredSymbol). IsName t.name) (stored_of s) (map stored_of ss) (all_at Named (s ∷ ss) h 0 s refl) (stored_named ss (all-from_places Named ss (λ i t here. all_at Named (s ∷ ss) h (suc i) t here)))

pub few_symbols : (m : Module) → IsChecked m → length (symbols_of m) ≤ length m.arrays + length m.functions
few_symbols m checked =
    omega (arith, length-append (array_symbols (named_arrays m.functions) m.arrays) (function_symbols (named_functions m.functions) m.functions), (arrays_named m checked).1, (functions_named m checked).1)

pub symbols_fit : (m : Module) → IsChecked m → FitSymbols (map stored_of (symbols_of m))
symbols_fit m checked = (
  omega (arith, length-map (symbols_of m) stored_of, few_symbols m checked, checked.stated.items),
  stored_named (symbols_of m) (All-append Named (array_symbols (named_arrays m.functions) m.arrays) (function_symbols (named_functions m.functions) m.functions) (arrays_named m checked).0 (functions_named m checked).0),
)

-- ---- the file

plain : (name bytes : List ℕ) → IsPlain (section_of name bytes)
plain name bytes = record { least = lit≤ tt; most = lit≤ tt; uncompressed = refl }

of_file : (name bytes : List ℕ) → IsName name → IsSection (section_of name bytes)
of_file name bytes named = record {
  plain = plain name bytes;
  name = named;
  fields = record { flags = lit< tt; link = lit< tt; info = lit< tt; entry_size = lit< tt };
}

all_five : (P : OwnSection → Type 0) → ((name bytes : List ℕ) → IsName name → P (section_of name bytes)) → (v d b s y : List ℕ) → All P (sections_with v d b s y)
all_five P h v d b s y =
    let last = section_of (codes ".gnu.lto_.symbols") y ∷ [] in
    let fourth = section_of (codes ".gnu.lto_.summaries") s ∷ last in
    let third = section_of (codes ".gnu.lto_.bodies") b ∷ fourth in
    let second = section_of (codes ".gnu.lto_.decls") d ∷ third in
    All-cons P (section_of (codes ".gnu.lto_.version") v) second (h (codes ".gnu.lto_.version") v (is_name (codes ".gnu.lto_.version") refl))
    (All-cons P (section_of (codes ".gnu.lto_.decls") d) third (h (codes ".gnu.lto_.decls") d (is_name (codes ".gnu.lto_.decls") refl))
    (All-cons P (section_of (codes ".gnu.lto_.bodies") b) fourth (h (codes ".gnu.lto_.bodies") b (is_name (codes ".gnu.lto_.bodies") refl))
    (All-cons P (section_of (codes ".gnu.lto_.summaries") s) last (h (codes ".gnu.lto_.summaries") s (is_name (codes ".gnu.lto_.summaries") refl))
    (All-cons P (section_of (codes ".gnu.lto_.symbols") y) [] (h (codes ".gnu.lto_.symbols") y (is_name (codes ".gnu.lto_.symbols") refl)) (All-nil P)))))

pub plain_sections : (v d b s y : List ℕ) → All IsPlain (sections_with v d b s y)
plain_sections v d b s y = all_five IsPlain (λ name bytes named. plain name bytes) v d b s y

pub container : (v d b s y : List ℕ) → IsContainer (sections_with v d b s y)
container v d b s y = record { few = lit≤ tt; sections = all_five IsSection of_file v d b s y }

pub module_plain : (m : Module) → All IsPlain (sections_of m)
unfolding sections_of
module_plain m = plain_sections (1 ∷ []) (decls_of m) (bodies_bytes (bodies_of m.functions)) (summaries_bytes (summaries_of m)) (symbols_bytes (map stored_of (symbols_of m)))

pub module_few : (m : Module) → length (sections_of m) ≤ 65000
unfolding sections_of
module_few m = lit≤ tt
