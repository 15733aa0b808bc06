-- The word of an instruction, and the instruction of a word.
-- `word_of` says what a word means; `instr_of` is its inverse in a form that computes, which `decode` shows by its clauses.
use Rattle.std.specs.Prelude.{ℕ, Option, option_and_then}
use Rattle.rv64_isa.specs.declared.instr.Instr.{Instr}
use Rattle.rv64_isa.specs.Format.{word_of_fields, fields_of_word, fields_of_format, format_of_fields, Fits}
use Rattle.rv64_isa.specs.Table.{format_of, instr_of_format}

-- the registers are below 32, and the immediate is one that the format can hold
abbrev pub InRange : Instr → Type 0
InRange i = Fits (format_of i)

abbrev pub word_of : Instr → ℕ
word_of i = word_of_fields (fields_of_format (format_of i))

abbrev pub instr_of : ℕ → Option Instr
instr_of w = option_and_then instr_of_format (format_of_fields (fields_of_word w))
