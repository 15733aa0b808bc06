-- The image: an ELF-64 executable (System V gABI, "ELF Header" and "Program Header") of two segments, the text and the
-- data. The text is the stubs and the functions' code; the data are the arrays, the scratch byte's 16 bytes and the
-- stack. Arrays that are all zero come last, so that the file ends before them.
use Rattle.std.specs.Prelude.{ℕ, ◌+◌, ◌-◌, ◌*◌, ◌/◌, List, [], ◌∷◌, ◌++◌, length, replicate}
use Rattle.std.specs.List.{flat_map}
use Rattle.std.specs.Int.{w16, w32, w64, to_le_bytes}
use Rattle.rv64_isa.specs.declared.instr.Instr.{Instr}
use Rattle.rv64_isa.specs.Words.{InRange, word_of}
use Rattle.final_link.specs.Stubs.{start_address, stubs}

-- the bytes of instructions, each a word whose low byte is first
unfoldable pub word_bytes : Instr → List ℕ
word_bytes i = to_le_bytes w32 (word_of i)

unfoldable pub code_bytes : List Instr → List ℕ
code_bytes code = flat_map word_bytes code

-- each instruction has its registers and its immediate in range
abbrev pub AllInRange : List Instr → Type 0
AllInRange [] = Unit {0}
AllInRange (i ∷ is) = InRange i × AllInRange is

-- ---- the layout

-- the least multiple of a number that is not below another
abbrev pub round_up : ℕ → ℕ → ℕ
round_up multiple n = (n + (multiple - 1)) / multiple * multiple

-- the text's size: the stubs, and the code of the functions
abbrev pub text_size : List ℕ → ℕ
text_size code = 100 + length code

-- where the data segment begins
abbrev pub data_address : List ℕ → ℕ
data_address code = round_up 4096 (start_address + text_size code)

-- the scratch byte, behind arrays of so many bytes
abbrev pub scratch_behind : ℕ → List ℕ → ℕ
scratch_behind arrays code = round_up 16 (data_address code + arrays)

-- the stack's top, above 4096 frames of the largest size
abbrev pub top_behind : ℕ → ℕ → List ℕ → ℕ
top_behind arrays frame code = scratch_behind arrays code + 16 + 4096 * frame

-- ---- the file

-- the fields of ELF-64: Elf64_Half, Elf64_Word, and Elf64_Xword, Elf64_Addr and Elf64_Off, least byte first
unfoldable pub half : ℕ → List ℕ
half n = to_le_bytes w16 n

unfoldable pub word : ℕ → List ℕ
word n = to_le_bytes w32 n

unfoldable pub xword : ℕ → List ℕ
xword n = to_le_bytes w64 n

-- class ELFCLASS64, data ELFDATA2LSB, version EV_CURRENT
abbrev pub identification : List ℕ
identification = 0x7f ∷ 0x45 ∷ 0x4c ∷ 0x46 ∷ 2 ∷ 1 ∷ 1 ∷ replicate 9 0

-- type ET_EXEC and machine EM_RISCV; entry; the program headers follow, and there are no section headers; no flags; the
-- sizes and counts of headers
unfoldable pub elf_header : List ℕ
elf_header =
    identification ++ (half 2 ++ (half 243 ++ (word 1
    ++ (xword start_address ++ (xword 64 ++ (xword 0 ++ (word 0
    ++ (half 64 ++ (half 56 ++ (half 2 ++ (half 0 ++ (half 0 ++ half 0))))))))))))

-- A segment of type PT_LOAD: its flags, its place in the file, its address, and its sizes in the file and in memory. It
-- is aligned to a page.
abbrev pub program_header : ℕ → ℕ → ℕ → ℕ → ℕ → List ℕ
program_header flags offset address file_size memory_size =
    word 1 ++ (word flags ++ flat_map xword (offset ∷ address ∷ address ∷ file_size ∷ memory_size ∷ 4096 ∷ []))

-- the headers: the text is readable and executable (PF_R, PF_X), the data readable and writable (PF_R, PF_W), of which
-- so many bytes are stored in the file
abbrev pub headers_with : ℕ → ℕ → ℕ → List ℕ → List ℕ
headers_with stored arrays frame code =
    elf_header
    ++ (program_header 5 0x1000 start_address (text_size code) (text_size code)
    ++ program_header 6 (data_address code - 0xf000) (data_address code) stored (top_behind arrays frame code - data_address code))

-- the stubs, and the code of the functions at 0x10064
abbrev pub text_with : ℕ → ℕ → ℕ → List ℕ → List ℕ
text_with arrays main frame code = code_bytes (stubs (top_behind arrays frame code) (scratch_behind arrays code) main) ++ code

-- The file for the code of all functions, of which `main` begins at this address and the largest frame has this size,
-- for the bytes of the arrays that are stored, and for all-zero arrays of so many bytes. What lies between the headers,
-- the text and the data's place in the file is zero.
abbrev pub image_with : ℕ → ℕ → List ℕ → List ℕ → ℕ → List ℕ
image_with main frame code stored zeroed =
    let arrays = length stored + zeroed in
    headers_with (length stored) arrays frame code ++ (replicate (0x1000 - 176) 0
    ++ (text_with arrays main frame code ++ (replicate (data_address code - start_address - text_size code) 0 ++ stored)))

-- ---- the image of a program without arrays

abbrev pub scratch_address : List ℕ → ℕ
scratch_address code = scratch_behind 0 code

abbrev pub stack_top : ℕ → List ℕ → ℕ
stack_top frame code = top_behind 0 frame code

abbrev pub headers : ℕ → List ℕ → List ℕ
headers frame code = headers_with 0 0 frame code

abbrev pub text_of : ℕ → ℕ → List ℕ → List ℕ
text_of main frame code = text_with 0 main frame code

abbrev pub image_of : ℕ → ℕ → List ℕ → List ℕ
image_of main frame code = image_with main frame code [] 0
