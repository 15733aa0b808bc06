-- The symbols of a link with the words that a resolution has for them.
use Rattle.std.specs.Prelude.{ℕ, ◌+◌, List, [], ◌∷◌, ◌++◌, Option, Bool}
use Rattle.std.specs.List.{find}
use Rattle.lto_object.specs.declared.symbol.Symbol.{Symbol}
use Rattle.lto_object.specs.Objects.{ObjectData}
use Rattle.resolution_text.specs.declared.resolution.Resolved.{Resolved}
use Rattle.resolution_text.specs.declared.resolution.ResolvedFile.{ResolvedFile}
use Rattle.resolution_text.specs.declared.resolution.Resolution.{Resolution}
use Rattle.symbol_resolution.specs.declared.marks.Mark.{Mark}
use Rattle.symbol_resolution.specs.Groups.{of_name}
use Rattle.symbol_resolution.specs.LineFaults.{is_prevailing}

abbrev pub mark_of : ℕ → Symbol → Resolved → Mark
mark_of object s w = record { object = object; place = s.place; function = s.function; word = w.word }

abbrev pub marks_in : ℕ → List Symbol → List Resolved → List (List ℕ × Mark)
marks_in object (s ∷ ss) (w ∷ ws) = (s.name, mark_of object s w) ∷ marks_in object ss ws
marks_in object _ _ = []

-- those of objects, numbered from an object on
abbrev pub marks_from : ℕ → List ObjectData → List ResolvedFile → List (List ℕ × Mark)
marks_from object (o ∷ os) (f ∷ fs) = marks_in object o.symbols f.words ++ marks_from (object + 1) os fs
marks_from object _ _ = []

-- all of them, in order, under their names
abbrev pub marks_of : List ObjectData → Resolution → List (List ℕ × Mark)
marks_of objects r = marks_from 0 objects r.files

abbrev pub prevails : Mark → Bool
prevails m = is_prevailing m.word

-- the symbol that prevails under a name
abbrev pub prevailing_mark : List ℕ → List (List ℕ × Mark) → Option Mark
prevailing_mark name marks = find prevails (of_name name marks)
