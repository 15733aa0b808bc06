-- Where no line has a fault, each object has as many words as symbols.
use Rattle.std.proofs.Common.{◌≡◌, ℕ, zero, suc, ◌+◌, ◌<◌, ◌≤◌, ◌^◌, List, [], ◌∷◌, drop, get_or, sum_by, Option, Some, None, Bool, true, false, not, cond, length, slice_get, refl, sym, ap, ◌∙◌, arith}
use Rattle.std.specs.Prelude.{nat_eq}
use Rattle.std.specs.Option.{option_or}
use Rattle.std.specs.Str.{bytes_eq}
use Rattle.std.proofs.lemmas.Bool.Decides.{nat_tests}
use Rattle.lto_object.specs.Objects.{ObjectData}
use Rattle.resolution_text.specs.declared.resolution.ResolvedFile.{ResolvedFile}
use Rattle.resolution_text.specs.declared.resolution.Resolution.{Resolution}
use Rattle.resolution_text.specs.declared.fault.ResolutionKind.{ResolutionKind}
use Rattle.resolution_text.specs.declared.fault.ResolutionError.{ResolutionError}
use Rattle.symbol_resolution.specs.LineFaults.{files_fault, file_fault, header_fault, at_line, words_fault, line_fault, line_after}
use Rattle.std.proofs.lemmas.List.{at_drop_more}
use Rattle.std.proofs.lemmas.List.Sums.{sum_by-cons, sum_by-drop_more}
use Rattle.symbol_resolution.specs.Lines.{HaveWords, lines_of}
use Rattle.symbol_resolution.specs.Merging.{AreFew}

or_none : (a b : Option ResolutionError) → option_or a b ≡ None → (a ≡ None) × (b ≡ None)
or_none None b h = (refl, h)
or_none (Some e) b h = absurd cc

pub at_none : (line : ℕ) (kind : Option ResolutionKind) (next : Option ResolutionError) → at_line line kind next ≡ None → kind ≡ None
at_none line None next h = refl
at_none line (Some kind) next h = absurd cc

by_tests : (a b : Bool) (x y : ResolutionKind) → cond a (Some x) (cond b None (Some y)) ≡ None → b ≡ true
by_tests true b x y h = absurd cc
by_tests false true x y h = refl
by_tests false false x y h = absurd cc

same_from_test : (m n : ℕ) → nat_eq m n ≡ true → m ≡ n
same_from_test m n h = grind (arith, nat_tests)

pub same_count : (name : List ℕ) (o : ObjectData) (f : ResolvedFile) → header_fault name o f ≡ None → length o.symbols ≡ length f.words
same_count name o f h = same_from_test _ _ (by_tests (not (bytes_eq name f.name)) (nat_eq (length o.symbols) (length f.words)) _ _ h)

some_is : {A : Type 0} (a b : A) → Some a ≡ Some b → a ≡ b
some_is a b h = cc

have : (line : ℕ) (names : List (List ℕ)) (os : List ObjectData) (fs : List ResolvedFile) → length names ≡ length fs → files_fault line names os fs ≡ None
    → (k : ℕ) (o : ObjectData) (f : ResolvedFile) → slice_get os k ≡ Some o → slice_get fs k ≡ Some f → length o.symbols ≡ length f.words
have line names [] fs n h k o f is at = absurd cc
have line names (x ∷ os) [] n h k o f is at = absurd cc
have line [] (x ∷ os) (g ∷ fs) n h k o f is at = absurd (omega arith)
have line (name ∷ names) (x ∷ os) (g ∷ fs) n h zero o f is at =
    let parts = or_none (file_fault line name x g) (files_fault (line_after line g) names os fs) h in
    let same = same_count name x g (at_none line (header_fault name x g) (words_fault (line + 1) x.symbols g.words) parts.0) in
    ap (λ (y : ObjectData). length y.symbols) (some_is o x (sym is)) ∙ same ∙ ap (λ (y : ResolvedFile). length y.words) (some_is g f at)
have line (name ∷ names) (x ∷ os) (g ∷ fs) n h (suc k) o f is at =
    let parts = or_none (file_fault line name x g) (files_fault (line_after line g) names os fs) h in
    have (line_after line g) names os fs (omega arith) parts.1 k o f is at

by_count : (b : Bool) (e : ResolutionError) (rest : Option ResolutionError) → cond b rest (Some e) ≡ None → (b ≡ true) × (rest ≡ None)
by_count true e rest h = (refl, h)
by_count false e rest h = absurd cc

pub no_line_fault : (objects : List ObjectData) (names : List (List ℕ)) (r : Resolution) → length names ≡ length objects → line_fault objects names r ≡ None → (length objects ≡ length r.files) × HaveWords objects r.files
no_line_fault objects names r n h =
    let parts = by_count (nat_eq (length r.files) (length objects)) _ (files_fault 2 names objects r.files) h in
    let same = same_from_test (length r.files) (length objects) parts.0 in
    (sym same, have 2 names objects r.files (n ∙ sym same) parts.1)

-- a file without a fault has a word for each symbol
pub file_counts : (line : ℕ) (name : List ℕ) (o : ObjectData) (f : ResolvedFile) → file_fault line name o f ≡ None → length o.symbols ≡ length f.words
file_counts line name o f h = same_count name o f (at_none line (header_fault name o f) (words_fault (line + 1) o.symbols f.words) h)

-- the lines of the files from one on: its own, and then those of the files after it
pub lines_of_next : (line n : ℕ) (names : List (List ℕ)) (os : List ObjectData) (fs : List ResolvedFile) (name : List ℕ) (o : ObjectData) (f : ResolvedFile)
    → n < length names → n < length os → n < length fs → name ≡ get_or names n name → o ≡ get_or os n o → f ≡ get_or fs n f
    → files_fault line (drop n names) (drop n os) (drop n fs) ≡ option_or (file_fault line name o f) (files_fault (line_after line f) (drop (n + 1) names) (drop (n + 1) os) (drop (n + 1) fs))
lines_of_next line n names os fs name o f h k m name_is o_is f_is =
    at_drop_more (λ rest. files_fault line rest (drop n os) (drop n fs)) names n name h
    ∙ ap (λ (x : List ℕ). files_fault line (x ∷ drop (n + 1) names) (drop n os) (drop n fs)) (sym name_is)
    ∙ at_drop_more (λ rest. files_fault line (name ∷ drop (n + 1) names) rest (drop n fs)) os n o k
    ∙ ap (λ (x : ObjectData). files_fault line (name ∷ drop (n + 1) names) (x ∷ drop (n + 1) os) (drop n fs)) (sym o_is)
    ∙ at_drop_more (λ rest. files_fault line (name ∷ drop (n + 1) names) (o ∷ drop (n + 1) os) rest) fs n f m
    ∙ ap (λ (x : ResolvedFile). files_fault line (name ∷ drop (n + 1) names) (o ∷ drop (n + 1) os) (x ∷ drop (n + 1) fs)) (sym f_is)

-- one file more has its lines within those that are left
pub room_for : (line n : ℕ) (os : List ObjectData) (o : ObjectData) → n < length os → o ≡ get_or os n o → length o.symbols ≤ length o.source.arrays + length o.source.functions
    → line + sum_by lines_of (drop n os) < 2 ^ 32 → line + (1 + length o.symbols) + sum_by lines_of (drop (n + 1) os) < 2 ^ 32
room_for line n os o h o_is few room =
    let more = sum_by-drop_more lines_of os n o h in
    let here = ap lines_of o_is in
    omega (arith, more, here, few, room)

-- few objects have few lines
pub lines_sum : (os : List ObjectData) → sum_by lines_of os ≡ length os + sum_by (λ o. length o.source.arrays) os + sum_by (λ o. length o.source.functions) os
lines_sum [] = refl
lines_sum (o ∷ os) =
    omega (arith, lines_sum os, sum_by-cons lines_of o os, sum_by-cons (λ (x : ObjectData). length x.source.arrays) o os, sum_by-cons (λ (x : ObjectData). length x.source.functions) o os)

pub few_lines : (os : List ObjectData) → AreFew os → 2 + sum_by lines_of os < 2 ^ 32
few_lines os few = omega (arith, lines_sum os, few.files, few.functions, few.arrays)
