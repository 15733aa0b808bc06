-- The form of an image that can be loaded, the offset of its first fault, and the machine at its start: an ELF-64 executable
-- (System V ABI, chapters 4 and 5; psABI for RISC-V, chapter 8) of one header, two program headers, the text at offset 0x1000 and
-- the data at the page behind it, with zero bytes between. Here are whole lists; the code looks field by field.
use Rattle.std.specs.Prelude.{ℕ, ◌+◌, ◌-◌, ◌*◌, ◌/◌, ◌%◌, ◌^◌, Bool, not, List, [], ◌∷◌, ◌++◌, length, take, drop, replicate, Option, Some, None, option_map, slice_index, if◌then◌else◌, ◌==◌, nat_lt, nat_le, ◌&&◌}
use Rattle.std.specs.List.{find, position}
use Rattle.std.specs.Option.{option_or}
use Rattle.rv64_meaning.specs.Machine.{Segments, State, Outcome, load, exec}

-- the number in a field of n bytes at an offset, least first
abbrev pub number_at : List ℕ → ℕ → ℕ → ℕ
number_at image at n = load n (slice_index image) at

-- what the header says: the text's size, the data's bytes in the file and in memory
abbrev pub text_size : List ℕ → ℕ
text_size image = number_at image 96 8

abbrev pub stored_size : List ℕ → ℕ
stored_size image = number_at image 152 8

abbrev pub data_size : List ℕ → ℕ
data_size image = number_at image 160 8

-- the least multiple of 4096 that is not below the text's end, and that place in the file
abbrev pub data_start : List ℕ → ℕ
data_start image = 0x10000 + (text_size image + 4095) / 4096 * 4096

abbrev pub data_offset : List ℕ → ℕ
data_offset image = data_start image - 0xf000

abbrev pub file_size : List ℕ → ℕ
file_size image = data_offset image + stored_size image

-- a field at an offset, and whether it is as stated
abbrev pub Field : Type 0
Field = ℕ × Bool

abbrev pub is : List ℕ → ℕ → ℕ → ℕ → Field
is image at n value = (at, number_at image at n == value)

-- the 16 bytes of identification, each a field of its own
abbrev pub identification : List ℕ → List Field
identification image =
    is image 0 1 0x7f ∷ is image 1 1 0x45 ∷ is image 2 1 0x4c ∷ is image 3 1 0x46 ∷ is image 4 1 2 ∷ is image 5 1 1 ∷ is image 6 1 1 ∷ is image 7 1 0
    ∷ is image 8 1 0 ∷ is image 9 1 0 ∷ is image 10 1 0 ∷ is image 11 1 0 ∷ is image 12 1 0 ∷ is image 13 1 0 ∷ is image 14 1 0 ∷ is image 15 1 0 ∷ []

-- type, machine, version, entry, phoff, shoff, flags, ehsize, phentsize, phnum, shentsize, shnum, shstrndx
abbrev pub file_header : List ℕ → List Field
file_header image =
    is image 16 2 2 ∷ is image 18 2 243 ∷ is image 20 4 1 ∷ is image 24 8 0x10000 ∷ is image 32 8 64 ∷ is image 40 8 0 ∷ is image 48 4 0
    ∷ is image 52 2 64 ∷ is image 54 2 56 ∷ is image 56 2 2 ∷ is image 58 2 0 ∷ is image 60 2 0 ∷ is image 62 2 0 ∷ []

-- of each segment type, flags, offset, vaddr, paddr, filesz, memsz, align
abbrev pub text_header : List ℕ → List Field
text_header image =
    let size = text_size image in
    is image 64 4 1 ∷ is image 68 4 5 ∷ is image 72 8 0x1000 ∷ is image 80 8 0x10000 ∷ is image 88 8 0x10000
    ∷ (96, size % 4 == 0 && nat_le 4 size && nat_le size (2 ^ 27)) ∷ is image 104 8 size ∷ is image 112 8 0x1000 ∷ []

abbrev pub data_header : List ℕ → List Field
data_header image =
    is image 120 4 1 ∷ is image 124 4 6 ∷ is image 128 8 (data_offset image) ∷ is image 136 8 (data_start image) ∷ is image 144 8 (data_start image)
    ∷ (160, nat_le (stored_size image) (data_size image) && nat_le (data_size image) (2 ^ 28)) ∷ is image 168 8 0x1000 ∷ []

-- the first field that is not as stated
abbrev pub first_wrong : List Field → Option ℕ
first_wrong fields = option_map (λ f. f.0) (find (λ f. not f.1) fields)

abbrev pub header_fault_of : List ℕ → Option ℕ
header_fault_of image = first_wrong (identification image ++ file_header image ++ text_header image ++ data_header image)

-- the first byte of a stretch that is present and not 0
abbrev pub first_nonzero : List ℕ → ℕ → ℕ → Option ℕ
first_nonzero image from to = option_map (λ k. from + k) (position (λ b. not (b == 0)) (take (to - from) (drop from image)))

abbrev pub padding_fault_of : List ℕ → Option ℕ
padding_fault_of image = option_or (first_nonzero image 176 0x1000) (first_nonzero image (0x1000 + text_size image) (data_offset image))

abbrev pub length_fault_of : List ℕ → Option ℕ
length_fault_of image =
    if nat_lt (length image) (file_size image) then Some (length image)
    else if nat_lt (file_size image) (length image) then Some (file_size image)
    else None

-- the offset of the first fault; None for an image that can be loaded
abbrev pub load_fault_of : List ℕ → Option ℕ
load_fault_of image =
    if nat_lt (length image) 176 then Some (length image)
    else option_or (header_fault_of image) (option_or (padding_fault_of image) (length_fault_of image))

-- ---- the machine at its start

abbrev pub text_of : List ℕ → List ℕ
text_of image = take (text_size image) (drop 0x1000 image)

-- the stored bytes, and zero bytes up to the segment's end
abbrev pub data_of : List ℕ → List ℕ
data_of image = take (stored_size image) (drop (data_offset image) image) ++ replicate (data_size image - stored_size image) 0

abbrev pub segments_of : List ℕ → Segments
segments_of image = record { text = text_of image; data_start = data_start image; data_end = data_start image + data_size image }

-- memory over two lists of bytes
abbrev pub memory_of : List ℕ → ℕ → List ℕ → ℕ → ℕ
memory_of text data_start bytes a = if nat_le data_start a then slice_index bytes (a - data_start) else slice_index text (a - 0x10000)

abbrev pub start_of : List ℕ → List ℕ → State
start_of image input = record { reg = λ r. 0; pc = 0x10000; mem = memory_of (text_of image) (data_start image) (data_of image); input = input; output = [] }

-- the run of an image: the machine after at most n steps
abbrev pub run_of : List ℕ → List ℕ → ℕ → Outcome
run_of image input n = exec (segments_of image) n (start_of image input)
