-- What is said where files can't be read, or are no objects that have a resolution.
use Rattle.std.specs.Prelude.{◌≡◌, ℕ, List, [], ◌∷◌, IfSome, Option, Result, Ok, Err, Vec}
use Rattle.std.specs.declared.alloc.Global.{Global}
use Rattle.outer_files.specs.Outside.{Contents, Rose}
use Rattle.lto_object.specs.declared.fault.ObjectFault.{ObjectFault}
use Rattle.lto_object.specs.Objects.{ObjectData}
use Rattle.whopr_top.specs.declared.reads.ReadsFault.{ReadsFault}
use Rattle.whopr_top.specs.declared.reads.ReadsFault.TheVariants as reads
use Rattle.whopr_top.specs.declared.resolving.ObjectsFault.{ObjectsFault}
use Rattle.whopr_top.specs.declared.resolving.ObjectsFault.TheVariants as objects
use Rattle.whopr_top.specs.declared.resolving.ResolveFault.{ResolveFault}
use Rattle.whopr_top.specs.declared.resolving.ResolveFault.TheVariants as resolving
use Rattle.whopr_top.specs.Reads.{IsOverLimit, IsReached}
use Rattle.whopr_top.specs.Lines.{object_line, resolution_line}
use Rattle.whopr_top.specs.Judgements.{Refuses, Gives, resolve_by}

-- why files could not be read one after the other
abbrev pub IsReadsFault : ℕ → List (List ℕ) → Option Contents → ℕ → ℕ → ReadsFault → Type 0
IsReadsFault limit names held before now (reads.Failed name) = Rose before now × IfSome held (λ files. IsReached limit files names name)
IsReadsFault limit names held before now reads.TooLong = IfSome held (λ files. IsOverLimit limit files names)
IsReadsFault limit names held before now reads.NoMemory = Unit {0}

-- this file could not be read, unless memory ran out
abbrev pub IsFailureAt : List ℕ → ReadsFault → Type 0
IsFailureAt name (reads.Failed failed) = failed ≡ name
IsFailureAt name reads.TooLong = ⊥
IsFailureAt name reads.NoMemory = Unit {0}

-- the objects, or the first fault, unless memory ran out
abbrev pub GivesObjects : Result (Vec ObjectData Global) ObjectsFault → Result (List ObjectData) (ℕ × ObjectFault) → Type 0
GivesObjects (Ok found) defined = defined ≡ Ok found.items
GivesObjects (Err (objects.Object number fault)) defined = defined ≡ Err (number, fault)
GivesObjects (Err objects.NoMemory) defined = Unit {0}

-- the text of the objects' resolution, or the first fault, unless memory ran out
abbrev pub GivesResolution : Result (Vec ℕ Global) ResolveFault → List (List ℕ) → Result (List ObjectData) (ℕ × ObjectFault) → Type 0
GivesResolution (Ok text) names found = (output : List ℕ) → Gives ((output, text.items) ∷ []) [] ≡ resolve_by output names found
GivesResolution (Err (resolving.Object number fault)) names found = (output : List ℕ) → Refuses 3 (object_line number fault) ≡ resolve_by output names found
GivesResolution (Err (resolving.Resolution kind place)) names found = (output : List ℕ) → Refuses 8 (resolution_line kind place) ≡ resolve_by output names found
GivesResolution (Err resolving.NoMemory) names found = Unit {0}
