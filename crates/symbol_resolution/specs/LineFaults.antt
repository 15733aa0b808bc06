-- What a resolution says that the objects do not have, line by line: the first line is the count of the files, and each file has a
-- line with its name and its count of symbols, and one for each symbol.
use Rattle.std.specs.Prelude.{ℕ, ◌+◌, List, [], ◌∷◌, length, Option, Some, None, Bool, true, false, not, nat_eq, if◌then◌else◌}
use Rattle.std.specs.Option.{option_or}
use Rattle.std.specs.Str.{bytes_eq}
use Rattle.gimple_ir.specs.declared.types.Linkage.{Linkage}
use Rattle.gimple_ir.specs.declared.types.Linkage.TheVariants.{Extern, Strong, Weak, Static}
use Rattle.lto_object.specs.declared.symbol.Symbol.{Symbol}
use Rattle.lto_object.specs.Objects.{ObjectData}
use Rattle.resolution_text.specs.declared.resolution.Word.{Word}
use Rattle.resolution_text.specs.declared.resolution.Word.TheVariants.{Unknown, Undef, PrevailingDef, PrevailingDefIronly, PrevailingDefIronlyExp, PreemptedReg, PreemptedIr, ResolvedIr, ResolvedExec, ResolvedDyn}
use Rattle.resolution_text.specs.declared.resolution.Resolved.{Resolved}
use Rattle.resolution_text.specs.declared.resolution.ResolvedFile.{ResolvedFile}
use Rattle.resolution_text.specs.declared.resolution.Resolution.{Resolution}
use Rattle.resolution_text.specs.declared.fault.ResolutionKind.{ResolutionKind}
use Rattle.resolution_text.specs.declared.fault.ResolutionKind.TheVariants.{FileCount, FileName, SymbolCount, SymbolName, NativeWord, WordKind}
use Rattle.resolution_text.specs.declared.fault.ResolutionError.{ResolutionError}
use Rattle.resolution_text.specs.declared.fault.ResolutionError.TheVariants.{AtLine}

-- the definition stands for its name in the whole link
abbrev pub is_prevailing : Word → Bool
is_prevailing PrevailingDef = true
is_prevailing PrevailingDefIronly = true
is_prevailing PrevailingDefIronlyExp = true
is_prevailing _ = false

-- the word speaks of files that are no objects of this link
abbrev pub is_native : Word → Bool
is_native Unknown = true
is_native Undef = true
is_native PreemptedReg = true
is_native ResolvedExec = true
is_native ResolvedDyn = true
is_native _ = false

-- a word of definitions on a declaration, or that of declarations on a definition
abbrev pub is_misplaced : Linkage → Word → Bool
is_misplaced Extern PreemptedIr = true
is_misplaced Extern word = is_prevailing word
is_misplaced Strong ResolvedIr = true
is_misplaced Weak ResolvedIr = true
is_misplaced Static ResolvedIr = true
is_misplaced _ word = false

abbrev pub word_fault : Symbol → Resolved → Option ResolutionKind
word_fault s w =
    if not (bytes_eq s.name w.name) then Some SymbolName
    else if is_native w.word then Some NativeWord
    else if is_misplaced s.linkage w.word then Some WordKind
    else None

abbrev pub at_line : ℕ → Option ResolutionKind → Option ResolutionError → Option ResolutionError
at_line line None next = next
at_line line (Some kind) next = Some (AtLine kind line)

-- the lines of a file's symbols, from a line on
abbrev pub words_fault : ℕ → List Symbol → List Resolved → Option ResolutionError
words_fault line [] ws = None
words_fault line (s ∷ ss) [] = None
words_fault line (s ∷ ss) (w ∷ ws) = at_line line (word_fault s w) (words_fault (line + 1) ss ws)

abbrev pub header_fault : List ℕ → ObjectData → ResolvedFile → Option ResolutionKind
header_fault name o f =
    if not (bytes_eq name f.name) then Some FileName
    else if nat_eq (length o.symbols) (length f.words) then None
    else Some SymbolCount

abbrev pub file_fault : ℕ → List ℕ → ObjectData → ResolvedFile → Option ResolutionError
file_fault line name o f = at_line line (header_fault name o f) (words_fault (line + 1) o.symbols f.words)

-- the line after a file
abbrev pub line_after : ℕ → ResolvedFile → ℕ
line_after line f = line + 1 + length f.words

-- the lines of files, from a line on
abbrev pub files_fault : ℕ → List (List ℕ) → List ObjectData → List ResolvedFile → Option ResolutionError
files_fault line (name ∷ names) (o ∷ os) (f ∷ fs) = option_or (file_fault line name o f) (files_fault (line_after line f) names os fs)
files_fault line _ _ _ = None

-- the fault of the first line that has one
abbrev pub line_fault : List ObjectData → List (List ℕ) → Resolution → Option ResolutionError
line_fault objects names r = if nat_eq (length r.files) (length objects) then files_fault 2 names objects r.files else Some (AtLine FileCount 1)
