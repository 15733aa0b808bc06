-- The commands: which words are one. STEPS and SEED are decimals of a u64 without leading zeros, COUNT one from 1 to 4,000, and
-- PREFIX has 1 to 200 bytes; all other words are file names.
use Rattle.std.specs.Prelude.{◌≡◌, ℕ, ◌&&◌, List, [], ◌∷◌, length, map, nat_le, nat_lt, codes, Bool, true, if◌then◌else◌, Option, None, Some, String, string_bytes}
use Rattle.std.specs.List.{list_all}
use Rattle.std.specs.Str.{bytes_eq}
use Rattle.std.specs.declared.alloc.Global.{Global}
use Rattle.cursors.specs.Decimals.{decimal_value}
use Rattle.whopr_words.specs.WordReading.{◌>>=◌, when, number_within}

-- the words as bytes
abbrev pub words_of : List (String Global) → List (List ℕ)
words_of words = map (λ w. string_bytes w) words

-- a byte from 0x21 to 0x7e
abbrev pub is_printable : ℕ → Bool
is_printable b = nat_le 0x21 b && nat_le b 0x7e

-- 1 to 255 bytes from 0x21 to 0x7e
abbrev pub is_file_name : List ℕ → Bool
is_file_name bytes = nat_lt 0 (length bytes) && nat_le (length bytes) 255 && list_all is_printable bytes

-- 1 to 200 bytes from 0x21 to 0x7e
abbrev pub is_prefix : List ℕ → Bool
is_prefix bytes = nat_lt 0 (length bytes) && nat_le (length bytes) 200 && list_all is_printable bytes

-- 1 to 256 file names
abbrev pub are_objects : List (List ℕ) → Bool
are_objects words = nat_lt 0 (length words) && nat_le (length words) 256 && list_all is_file_name words

-- a command with its words
pub data Spoken : Type 0 where
  -- the text that is compiled, and the image that is written
  Cc : (input output : List ℕ) → Spoken
  -- the text of a module, and the object that is written
  Lgen : (input output : List ℕ) → Spoken
  -- the object whose module is printed
  Show : (object : List ℕ) → Spoken
  -- the job file of the link whose program is run, the most steps, the file that is its input, and the one that its output is
  -- written to
  Interp : (jobs : List ℕ) (steps : ℕ) (input output : List ℕ) → Spoken
  -- the image that is run, the most steps, the file that is its input, and the one that its output is written to
  Run : (image : List ℕ) (steps : ℕ) (input output : List ℕ) → Spoken
  -- the resolution that is written, and the objects that it is of
  Resolve : (output : List ℕ) (objects : List (List ℕ)) → Spoken
  -- the job file whose links are made one after the other
  Link : (jobs : List ℕ) → Spoken
  -- the job file whose links are made at once, and the trace that is written
  Batch : (jobs trace : List ℕ) → Spoken
  -- the job file whose links are made by a schedule, the schedule, and the trace that is written
  Replay : (jobs schedule trace : List ℕ) → Spoken
  -- where the draws of the program that is made begin, how many functions it has, and what its files' names begin with
  Gen : (seed count : ℕ) (prefix : List ℕ) → Spoken

-- ---- by how many words follow the verb

abbrev pub of_one : (verb file : List ℕ) → Option Spoken
of_one verb file =
    if bytes_eq verb (codes "show") then Some (Show file)
    else if bytes_eq verb (codes "link") then Some (Link file)
    else None

-- the command from one file to another
abbrev pub made_from : (verb input output : List ℕ) → Option Spoken
made_from verb input output =
    if bytes_eq verb (codes "cc") then Some (Cc input output)
    else if bytes_eq verb (codes "lgen") then Some (Lgen input output)
    else if bytes_eq verb (codes "batch") then Some (Batch input output)
    else None

abbrev pub gen_of : (seed count prefix : List ℕ) → Option Spoken
gen_of seed count prefix =
    decimal_value seed >>= λ start. number_within 1 4000 count >>= λ functions. when (is_prefix prefix) (Some (Gen start functions prefix))

abbrev pub of_three : (verb first second third : List ℕ) → Option Spoken
of_three verb first second third =
    if bytes_eq verb (codes "gen") then gen_of first second third
    else when (bytes_eq verb (codes "replay") && is_file_name first && is_file_name second && is_file_name third) (Some (Replay first second third))

-- the command that runs a program for so many steps
abbrev pub run_by : (verb program : List ℕ) (steps : ℕ) (input output : List ℕ) → Option Spoken
run_by verb program steps input output =
    if bytes_eq verb (codes "run") then Some (Run program steps input output)
    else if bytes_eq verb (codes "interp") then Some (Interp program steps input output)
    else None

abbrev pub resolve_of : List (List ℕ) → Option Spoken
resolve_of [] = None
resolve_of (output ∷ objects) = when (is_file_name output && are_objects objects) (Some (Resolve output objects))

abbrev pub command_by : List ℕ → List (List ℕ) → Option Spoken
command_by verb (file ∷ []) = if is_file_name file then of_one verb file else None
command_by verb (input ∷ output ∷ []) = if is_file_name input && is_file_name output then made_from verb input output else None
command_by verb (first ∷ second ∷ third ∷ []) = of_three verb first second third
command_by verb (program ∷ steps ∷ input ∷ output ∷ []) =
    if is_file_name program && is_file_name input && is_file_name output then decimal_value steps >>= (λ n. run_by verb program n input output) else None
command_by verb words = None

-- the command that the words are
abbrev pub command_of : List (List ℕ) → Option Spoken
command_of [] = None
command_of (verb ∷ words) = if bytes_eq verb (codes "resolve") then resolve_of words else command_by verb words

-- the objects of a command that links or resolves them are 1 to 256 files; `cc` links the object of its text alone, under that one's name
abbrev pub HasObjects : Spoken → Type 0
HasObjects (Cc input output) = is_file_name input ≡ true
HasObjects (Resolve output objects) = are_objects objects ≡ true
HasObjects command = Unit {0}
