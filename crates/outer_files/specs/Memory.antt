-- A store and a sink in memory as values: what they hold, which calls fail, how many calls there were and how many
-- faults. The first file of a name counts.
use Rattle.std.specs.Prelude.{◌≡◌, ℕ, ◌==◌, option_map, List, [], ◌∷◌, map, Bool, if◌then◌else◌, None, Some, string_bytes}
use Rattle.std.specs.List.{list_any}
use Rattle.std.specs.Str.{bytes_eq}
use Rattle.std.specs.declared.alloc.Global.{Global}
use Rattle.std.specs.Prelude.{String, Vec}
use Rattle.outer_files.specs.Outside.{Contents, Known, OthersStand}

-- the files in order, the numbers of the calls that fail, the calls so far and the faults so far
pub record StoreState : Type 0 where
  pub files : List (List ℕ × List ℕ)
  pub fail : List ℕ
  pub calls : ℕ
  pub faults : ℕ

-- the bytes taken, the numbers of the puts that fail, the puts so far and the faults so far
pub record SinkState : Type 0 where
  pub taken : List ℕ
  pub fail : List ℕ
  pub calls : ℕ
  pub faults : ℕ

-- the names and the bytes of these files
abbrev pub files_of : List (String Global × Vec ℕ Global) → List (List ℕ × List ℕ)
files_of entries = map (λ e. (string_bytes e.0, e.1.items)) entries

-- a sink in memory tells the bytes taken; it does not keep where one piece ends and the next begins
abbrev pub known_of : SinkState → Known
known_of s = record { taken = Some s.taken; pieces = None; puts = s.calls; faults = s.faults }

-- the bytes of the first file of this name
abbrev pub held_in : List (List ℕ × List ℕ) → Contents
held_in [] name = None
held_in (file ∷ rest) name = if bytes_eq file.0 name then Some file.1 else held_in rest name

-- whether the call with this number fails
abbrev pub fails_at : List ℕ → ℕ → Bool
fails_at fail call = list_any (λ n. n == call) fail

-- the name is held with no bytes if it was held, and every other file stands
pub record Empties (name : List ℕ) (old new : Contents) : Type 0 where
  pub emptied : new name ≡ option_map (λ bytes. []) (old name)
  pub others : OthersStand name old new
