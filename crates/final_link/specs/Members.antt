-- The members of the parts: which part defines a version, and what its words and its relocations there are.
use Rattle.std.specs.Prelude.{◌≡◌, ℕ, ◌+◌, ◌-◌, ◌*◌, ◌/◌, ◌%◌, ◌^◌, ◌≤◌, ℤ, pos, neg_ℤ, ◌+ℤ◌, ◌*ℤ◌, unsigned_abs, Bool, ◌&&◌, ◌==◌, nat_le, nat_lt, if◌then◌else◌, List, [], ◌∷◌, ◌++◌, length, map, filter, take, drop, max, slice_get, slice_index, Option, Some, None}
use Rattle.std.specs.List.{fold}
use Rattle.std.specs.Option.{option_map_or}
use Rattle.rv64_isa.specs.declared.instr.Instr.{Instr}
use Rattle.rv64_isa.specs.declared.instr.Instr.TheVariants.{Lui, Addi, Addiw, Add}
use Rattle.rv64_isa.specs.Format.{signed}
use Rattle.rv64_isa.specs.Words.{word_of}
use Rattle.rv64_abi.specs.Offsets.{lo, upper_of}
use Rattle.rv64_abi.specs.Registers.{sp, t0}
use Rattle.elf_container.specs.declared.relocatable.RelocObject.{RelocObject}
use Rattle.elf_container.specs.declared.relocatable.RelSymbol.{RelSymbol}
use Rattle.elf_container.specs.declared.relocatable.Reloc.{Reloc}
use Rattle.gimple_ir.specs.declared.plan.Version.{Version}
use Rattle.final_link.specs.declared.members.Member.{Member}
use Rattle.final_link.specs.Names.{value_of}

-- ---- which part defines a name

abbrev pub before_members : ℕ → RelSymbol → Option ℕ → List (List ℕ × Member) → List (List ℕ × Member)
before_members part s None rest = rest
before_members part s (Some start) rest = (s.name, record { part = part; start = start; size = s.size }) ∷ rest

-- the functions that a part defines
abbrev pub members_in : ℕ → List RelSymbol → List (List ℕ × Member)
members_in part [] = []
members_in part (s ∷ ss) = before_members part s s.start (members_in part ss)

-- the functions that parts define, which have numbers from this one on
abbrev pub members_from : ℕ → List RelocObject → List (List ℕ × Member)
members_from part [] = []
members_from part (o ∷ os) = members_in part o.symbols ++ members_from (part + 1) os

-- the member with this symbol; an empty one where there is none
abbrev pub member_in : List (List ℕ × Member) → List ℕ → Member
member_in members symbol = value_of (record { part = 0; start = 0; size = 0 }) symbol members

abbrev pub version_size : List (List ℕ × Member) → Version → ℕ
version_size members v = (member_in members v.symbol).size

-- ---- what a member is made of

abbrev pub words_in : List RelocObject → ℕ → List ℕ
words_in parts part = option_map_or (λ o. o.words) (slice_get parts part) []

abbrev pub relocations_in : List RelocObject → ℕ → List Reloc
relocations_in parts part = option_map_or (λ o. o.relocations) (slice_get parts part) []

abbrev pub symbols_in : List RelocObject → ℕ → List RelSymbol
symbols_in parts part = option_map_or (λ o. o.symbols) (slice_get parts part) []

-- whole words of its part
pub record Fits (parts : List RelocObject) (m : Member) : Type 0 where
  pub start : m.start % 4 ≡ 0
  pub size : m.size % 4 ≡ 0
  pub within : m.start + m.size ≤ 4 * length (words_in parts m.part)

-- its words, with their relocated fields as the part has them
abbrev pub member_words : List RelocObject → Member → List ℕ
member_words parts m = take (m.size / 4) (drop (m.start / 4) (words_in parts m.part))

abbrev pub lies_in : Member → Reloc → Bool
lies_in m r = nat_le m.start r.offset && nat_lt (r.offset - m.start) m.size

abbrev pub counted_from : ℕ → Reloc → Reloc
counted_from start r = record { offset = r.offset - start; kind = r.kind; symbol = r.symbol }

-- the relocations that lie in it, by their offsets in it
abbrev pub member_relocations : List RelocObject → Member → List Reloc
member_relocations parts m = map (counted_from m.start) (filter (lies_in m) (relocations_in parts m.part))

-- ---- the frame

-- the first instructions of a member with a frame of this size, which take it from the stack pointer
abbrev pub frame_constant : ℕ → List Instr
frame_constant size =
    let c = neg_ℤ (pos size) in
    if nat_le size 2048 then Addi t0 0 c ∷ [] else Lui t0 (upper_of c) ∷ Addiw t0 t0 (lo c) ∷ []

abbrev pub frame_code : ℕ → List Instr
frame_code size = frame_constant size ++ (Add sp sp t0 ∷ [])

-- a member with a frame
pub record HasFrame (words : List ℕ) : Type 0 where
  pub size : ℕ
  pub rest : List ℕ
  pub begins : words ≡ map word_of (frame_code size) ++ rest
  pub least : 16 ≤ size
  pub most : size ≤ 8720
  pub even : size % 16 ≡ 0

-- the immediates of `addi` or `addiw`, and of `lui`
abbrev pub lower_immediate : ℕ → ℤ
lower_immediate w = signed (2 ^ 12) (w / 2 ^ 20)

abbrev pub upper_immediate : ℕ → ℤ
upper_immediate w = pos (2 ^ 12) *ℤ signed (2 ^ 20) (w / 2 ^ 12)

-- the constant of the first words: of `addi`, or of `lui` and `addiw`
abbrev pub constant_of : List ℕ → ℤ
constant_of words =
    if slice_index words 0 % 2 ^ 7 == 0x13 then lower_immediate (slice_index words 0)
    else upper_immediate (slice_index words 0) +ℤ lower_immediate (slice_index words 1)

-- the size of the frame that a member's first words make
unfoldable pub frame_size : List ℕ → ℕ
frame_size words = unsigned_abs (constant_of words)

abbrev pub version_frame : List RelocObject → List (List ℕ × Member) → Version → ℕ
version_frame parts members v = frame_size (member_words parts (member_in members v.symbol))

-- the largest frame of the versions
abbrev pub largest_frame : List RelocObject → List (List ℕ × Member) → List Version → ℕ
largest_frame parts members versions = fold (λ largest v. max largest (version_frame parts members v)) 0 versions
