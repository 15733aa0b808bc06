-- How many lines a file can have, and files that have as many words as their objects have symbols.
use Rattle.std.specs.Prelude.{◌≡◌, ℕ, ◌+◌, List, length, Some, slice_get}
use Rattle.lto_object.specs.Objects.{ObjectData}
use Rattle.resolution_text.specs.declared.resolution.ResolvedFile.{ResolvedFile}

-- each symbol is one of an array or a function
abbrev pub lines_of : ObjectData → ℕ
lines_of o = 1 + length o.source.arrays + length o.source.functions

abbrev pub HaveWords : List ObjectData → List ResolvedFile → Type 0
HaveWords objects files = (k : ℕ) (o : ObjectData) (f : ResolvedFile) → slice_get objects k ≡ Some o → slice_get files k ≡ Some f → length o.symbols ≡ length f.words
