-- The marks and the faults of lists in a row.
use Rattle.std.proofs.Common.{◌≡◌, ℕ, ◌+◌, ◌<◌, List, [], ◌∷◌, ◌++◌, length, get_or, drop, Option, Some, None, refl, sym, ap, ◌∙◌}
use Rattle.std.proofs.lemmas.List.{at_drop_more}
use Rattle.std.specs.Option.{option_or}
use Rattle.lto_object.specs.Objects.{ObjectData}
use Rattle.resolution_text.specs.declared.resolution.ResolvedFile.{ResolvedFile}
use Rattle.resolution_text.specs.declared.fault.ResolutionError.{ResolutionError}
use Rattle.symbol_resolution.specs.declared.marks.Mark.{Mark}
use Rattle.symbol_resolution.specs.Marks.{marks_in, marks_from}
use Rattle.symbol_resolution.specs.NameFaults.{mark_fault, names_fault}

or_assoc : (a b c : Option ResolutionError) → option_or a (option_or b c) ≡ option_or (option_or a b) c
or_assoc None b c = refl
or_assoc (Some e) b c = refl

names_fault-append : (objects : List ObjectData) (all xs ys : List (List ℕ × Mark)) → names_fault objects all (xs ++ ys) ≡ option_or (names_fault objects all xs) (names_fault objects all ys)
names_fault-append objects all [] ys = refl
names_fault-append objects all (x ∷ xs) ys =
    ap (option_or (mark_fault objects all x.0 x.1)) (names_fault-append objects all xs ys)
    ∙ or_assoc (mark_fault objects all x.0 x.1) (names_fault objects all xs) (names_fault objects all ys)

-- the marks of the objects from one on: its own, and then those of the objects after it
pub marks_of_next : (n : ℕ) (os : List ObjectData) (fs : List ResolvedFile) (o : ObjectData) (f : ResolvedFile) → n < length os → n < length fs → o ≡ get_or os n o → f ≡ get_or fs n f
    → marks_from n (drop n os) (drop n fs) ≡ marks_in n o.symbols f.words ++ marks_from (n + 1) (drop (n + 1) os) (drop (n + 1) fs)
marks_of_next n os fs o f h k o_is f_is =
    at_drop_more (λ rest. marks_from n rest (drop n fs)) os n o h
    ∙ ap (λ (x : ObjectData). marks_from n (x ∷ drop (n + 1) os) (drop n fs)) (sym o_is)
    ∙ at_drop_more (λ rest. marks_from n (o ∷ drop (n + 1) os) rest) fs n f k
    ∙ ap (λ (x : ResolvedFile). marks_from n (o ∷ drop (n + 1) os) (x ∷ drop (n + 1) fs)) (sym f_is)

-- the fault of the names from an object on: that of its own symbols, or that of the objects after it
pub fault_of_next : (objects : List ObjectData) (all : List (List ℕ × Mark)) (n : ℕ) (os : List ObjectData) (fs : List ResolvedFile) (o : ObjectData) (f : ResolvedFile)
    → n < length os → n < length fs → o ≡ get_or os n o → f ≡ get_or fs n f
    → names_fault objects all (marks_from n (drop n os) (drop n fs))
    ≡ option_or (names_fault objects all (marks_in n o.symbols f.words)) (names_fault objects all (marks_from (n + 1) (drop (n + 1) os) (drop (n + 1) fs)))
fault_of_next objects all n os fs o f h k o_is f_is =
    ap (names_fault objects all) (marks_of_next n os fs o f h k o_is f_is)
    ∙ names_fault-append objects all (marks_in n o.symbols f.words) (marks_from (n + 1) (drop (n + 1) os) (drop (n + 1) fs))
