-- An image that is built of code and arrays: it can be loaded, and the machine finds its segments, its stubs, its code and its data
-- in it.
use Rattle.std.specs.Prelude.{◌≡◌, ℕ, ◌+◌, ◌-◌, ◌*◌, ◌^◌, ◌≤◌, List, ◌++◌, length, replicate, None}
use Rattle.rv64_isa.specs.declared.instr.Instr.{Instr}
use Rattle.rv64_meaning.specs.Machine.{Segments}
use Rattle.rv64_meaning.specs.Loading.{segments_of, load_fault_of, data_of}
use Rattle.final_link.specs.Stubs.{start_address, stubs}
use Rattle.final_link.specs.Image.{AllInRange, code_bytes, round_up, text_with, data_address, scratch_behind, top_behind, image_with}
use Rattle.follow_laws.specs.Relation.{StandsAt}

-- what an image is built of
pub record Parts : Type 0 where
  -- the address of `main`, and the size of the largest frame
  pub main : ℕ
  pub frame : ℕ
  pub code : List Instr
  -- the bytes of the arrays that are stored, and how many bytes those have that are all zero
  pub stored : List ℕ
  pub zeroed : ℕ

abbrev pub arrays_in : Parts → ℕ
arrays_in x = length x.stored + x.zeroed

abbrev pub scratch_in : Parts → ℕ
scratch_in x = scratch_behind (arrays_in x) (code_bytes x.code)

abbrev pub top_in : Parts → ℕ
top_in x = top_behind (arrays_in x) x.frame (code_bytes x.code)

abbrev pub start_in : Parts → ℕ
start_in x = data_address (code_bytes x.code)

abbrev pub image_in : Parts → List ℕ
image_in x = image_with x.main x.frame (code_bytes x.code) x.stored x.zeroed

-- the text, and where the data begin and end
abbrev pub segments_in : Parts → Segments
segments_in x = record { text = text_with (arrays_in x) x.main x.frame (code_bytes x.code); data_start = start_in x; data_end = top_in x }

-- the stored bytes, and zeros up to the stack's top
abbrev pub data_in : Parts → List ℕ
data_in x = x.stored ++ replicate (top_in x - start_in x - length x.stored) 0

-- text and data are as small as an image that can be loaded has them
pub record PartsFit (x : Parts) : Type 0 where
  pub text : 100 + 4 * length x.code ≤ 2 ^ 27
  pub room : round_up 16 (arrays_in x) + 16 + 4096 * x.frame ≤ 2 ^ 28

abbrev pub PartsLoad : Type 0
PartsLoad = (x : Parts) → PartsFit x → load_fault_of (image_in x) ≡ None

abbrev pub PartsHaveSegments : Type 0
PartsHaveSegments = (x : Parts) → PartsFit x → segments_of (image_in x) ≡ segments_in x

abbrev pub PartsHaveData : Type 0
PartsHaveData = (x : Parts) → PartsFit x → data_of (image_in x) ≡ data_in x

abbrev pub PartsHaveCode : Type 0
PartsHaveCode = (x : Parts) → AllInRange x.code → StandsAt (segments_in x) start_address (stubs (top_in x) (scratch_in x) x.main ++ x.code)
