-- Symbols: what is read is spelled so, and what is spelled so is read.
use Rattle.std.proofs.Common.{◌≡◌, ℕ, ◌^◌, ◌<◌, ◌≤◌, Bool, true, false, cond, List, [], ◌∷◌, ◌++◌, length, Option, Some, None, Result, Ok, Err, refl, sym, ap, ap₂, subst, ◌∙◌, arith}
use Rattle.std.specs.Prelude.{IfOk, map}
use Rattle.std.specs.List.{flat_map}
use Rattle.std.proofs.lemmas.List.{length-map}
use Rattle.std.proofs.lemmas.List.Concat.{flat_map-cons}
use Rattle.cursors.specs.Leb128.{uleb_of}
use Rattle.cursors.specs.Cursor.{Cursor, at, offset_of}
use Rattle.cursors.proofs.Leb128Laws.{IsBytes}
use Rattle.cursors.proofs.Fields.{Took}
use Rattle.gimple_ir.specs.Names.{IsName}
use Rattle.gimple_ir.specs.declared.types.Linkage.{Linkage}
use Rattle.module_stream.specs.declared.fault.StreamError.{StreamError}
use Rattle.module_stream.specs.Codes.{linkage_table, linkage_code, flag_table, flag_code}
use Rattle.module_stream.specs.Fields.{counted_of, text_of}
use Rattle.module_stream.specs.Readers.{◌>>=◌, GivesAll, known, text, counted}
use Rattle.module_stream.proofs.Exact.{Exact, ok_is, bind_ok, known_ok, text_exact, coded_exact, both_exact, made_exact, counted_exact, whole_found, whole_again}
use Rattle.module_stream.proofs.Tables.{linkage_rows, flag_rows}
use Rattle.module_stream.proofs.Inside.{Inside, stays_then, known_stays, offset_le, text_inside, coded_inside, made_inside, both_inside, counted_inside, faults_within}
use Rattle.elf_container.specs.Reading.{is_name_of, named}
use Rattle.elf_container.proofs.NameLaws.{is_name, named_is}
use Rattle.lto_object.specs.declared.symbol.Symbol.{Symbol}
use Rattle.lto_object.specs.declared.symbols.StoredSymbol.{StoredSymbol}
use Rattle.lto_object.specs.SymbolStream.{stored_of, symbol_bytes, symbols_bytes, FitSymbols, symbol_name_at, symbol_at, read_symbols}

-- ---- names

abbrev some : List ℕ → Option (List ℕ)
some x = Some x

some_is : (x y : List ℕ) → some x ≡ some y → x ≡ y
some_is x y e = cc

named_by : (b : Bool) (bytes name : List ℕ) → is_name_of bytes ≡ b → cond b (some bytes) None ≡ Some name → (bytes ≡ name) × IsName name
named_by true bytes name e f = let same = some_is bytes name f in (same, subst IsName same (is_name bytes e))
named_by false bytes name e f = absurd cc

name_takes : (c d : Cursor) (t : List ℕ) → IsBytes c.rest → symbol_name_at c ≡ Ok (t, d) → Took c (text_of t) d × IsName t
unfolding symbol_name_at
name_takes c d t fits e =
    let a = bind_ok (text c) (λ x. known (offset_of c) (named x.0) x.1) (t, d) e in
    let b = known_ok (offset_of c) (named a.0.0) a.0.1 (t, d) a.2 in
    let n = named_by (is_name_of a.0.0) a.0.0 t refl b.0 in
    let s = (text_exact.takes c a.0.1 a.0.0 fits a.1).0 in
    (subst (λ (z : Cursor). Took c (text_of t) z) b.1 (subst (λ (z : List ℕ). Took c (text_of z) a.0.1) n.0 s), n.1)

name_again : (t : List ℕ) (end : ℕ) (rest : List ℕ) → IsName t → symbol_name_at (at end (text_of t ++ rest)) ≡ Ok (t, at end rest)
unfolding symbol_name_at
name_again t end rest h =
    let fits : length t < 2 ^ 64 = omega (arith, h.bounded) in
    rw (text_exact.again t end rest fits, named_is t h) refl

symbol_name_exact : Exact text_of IsName symbol_name_at
symbol_name_exact = record { takes = name_takes; again = name_again }

-- ---- symbols

symbol_exact : Exact symbol_bytes (λ s. IsName s.name) symbol_at
unfolding symbol_at
symbol_exact = made_exact (λ (x : Bool × (Linkage × List ℕ)). record { name = x.1.1; function = x.0; linkage = x.1.0 }) symbol_bytes (λ s. IsName s.name) (λ s. (s.function, (s.linkage, s.name)))
    (both_exact (coded_exact flag_code flag_table flag_rows) (both_exact (coded_exact linkage_code linkage_table linkage_rows) symbol_name_exact))
    (record { spelled = λ x h. refl; fits = λ x h. h.1.1; parts = λ s h. (tt, (tt, h)); back = λ s h. refl })

symbols_exact : Exact symbols_bytes FitSymbols (counted symbol_at)
symbols_exact = counted_exact symbol_exact

-- symbols as they are stored, and with their places
same_bytes : (ss : List Symbol) → flat_map (λ s. symbol_bytes (stored_of s)) ss ≡ flat_map symbol_bytes (map stored_of ss)
same_bytes [] = refl
same_bytes (s ∷ ss) =
    flat_map-cons (λ s. symbol_bytes (stored_of s)) s ss ∙ ap (λ t. symbol_bytes (stored_of s) ++ t) (same_bytes ss) ∙ sym (flat_map-cons symbol_bytes (stored_of s) (map stored_of ss))

pub symbols_spelled : (ss : List Symbol) → counted_of (λ s. symbol_bytes (stored_of s)) ss ≡ symbols_bytes (map stored_of ss)
symbols_spelled ss = ap₂ (λ n t. uleb_of n ++ t) (sym (length-map ss stored_of)) (same_bytes ss)

-- What is read is spelled so.
pub symbols_found : (bytes : List ℕ) (r : Result (List StoredSymbol) StreamError) → IsBytes bytes → GivesAll r (read_symbols bytes) → IfOk r (λ ss. FitSymbols ss × (bytes ≡ symbols_bytes ss))
unfolding read_symbols
symbols_found bytes r fits h = whole_found symbols_exact bytes r fits h

-- What is spelled so is read.
pub symbols_again : (ss : List StoredSymbol) → FitSymbols ss → read_symbols (symbols_bytes ss) ≡ Ok ss
unfolding read_symbols
symbols_again ss h = whole_again symbols_exact ss h

-- ---- faults lie within the bytes

name_inside : Inside symbol_name_at
unfolding symbol_name_at
name_inside = record {
  stays = λ c le. stays_then c (text c) (λ t. known (offset_of c) (named t.0) t.1) (text_inside.stays c le) (λ t p. known_stays (offset_of c) (named t.0) c t.1 (offset_le c) p);
}

symbol_inside : Inside symbol_at
unfolding symbol_at
symbol_inside = made_inside _ (both_inside (coded_inside flag_table) (both_inside (coded_inside linkage_table) name_inside))

pub symbols_faults : (bytes : List ℕ) (e : ℕ) → read_symbols bytes ≡ Err e → e ≤ length bytes
unfolding read_symbols
symbols_faults bytes e h = faults_within (counted_inside symbol_inside) bytes e h
