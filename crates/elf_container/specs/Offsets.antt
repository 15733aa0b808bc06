-- Where the sections of a laid out file stand, in bytes from its start, by the list of the sections alone: each begins at the next
-- multiple of 8 behind the one before it, the first at 64; so does `.shstrtab` behind the last, and the table of section headers
-- behind `.shstrtab`.
use Rattle.std.specs.Prelude.{ℕ, ◌+◌, ◌*◌, List, length, take, sum_by}
use Rattle.std.specs.List.{fold}
use Rattle.elf_container.specs.declared.sections.OwnSection.{OwnSection}
use Rattle.elf_container.specs.Layout.{gap, shstrtab_name}

-- the least multiple of 8 that is not below n
abbrev pub aligned : ℕ → ℕ
aligned n = n + gap n

-- the end of a section behind one that ends there
abbrev pub end_after : ℕ → OwnSection → ℕ
end_after end s = aligned end + length s.bytes

-- the end of the last section
abbrev pub end_of : List OwnSection → ℕ
end_of ss = fold end_after 64 ss

-- where the bytes of the section at a place begin; behind the last section those of `.shstrtab`
abbrev pub offset_of : List OwnSection → ℕ → ℕ
offset_of ss place = aligned (end_of (take place ss))

-- `.shstrtab` is a zero byte and each name with a zero byte, the last its own
abbrev pub names_size : List OwnSection → ℕ
names_size ss = 1 + sum_by (λ s. length s.name + 1) ss + (length shstrtab_name + 1)

abbrev pub table_of : List OwnSection → ℕ
table_of ss = aligned (offset_of ss (length ss) + names_size ss)

-- where the header of the section at a place begins; header 0 is no section's
abbrev pub header_of : List OwnSection → ℕ → ℕ
header_of ss place = table_of ss + 64 * (place + 1)

-- the size of the file, whose last is the table, of header 0, those of the sections, and that of `.shstrtab`
abbrev pub size_of : List OwnSection → ℕ
size_of ss = table_of ss + 64 * (length ss + 2)
