-- The laws of words: an instruction comes back from its word, and a word from its instruction.
use Rattle.std.proofs.Common.{◌≡◌, ℕ, ◌^◌, ◌<◌, Option, Some, None, true, sym, ap, ◌∙◌, subst, arith}
use Rattle.std.specs.Prelude.{option_and_then, option_map, nat_lt, ◌&&◌}
use Rattle.std.proofs.lemmas.Bool.{and_parts}
use borrow.Author.Tests.{ltb-true}
use Rattle.rv64_isa.specs.declared.instr.Instr.{Instr}
use Rattle.rv64_isa.specs.Format.{Format, RType, IType, Shift6, Shift5, SType, BType, UType, JType, Whole, Shape, InFields, word_of_fields, fields_of_word, fields_of_format, format_of_fields, read, Fits, shape_of}
use Rattle.rv64_isa.specs.Table.{format_of, instr_of_format}
use Rattle.rv64_isa.specs.Words.{InRange, word_of, instr_of}
use Rattle.rv64_isa.proofs.FormatLaws.{residue_lt, read-fields_of_format, fields-word, word-fields, in_fields, spells}
use Rattle.rv64_isa.proofs.TableLaws.{row, is_small, format_of-instr_of_format}

-- the fields of a format with small numbers are in their ranges
fields_fit : (m : Format) → Fits m → is_small m ≡ true → InFields (fields_of_format m)
fields_fit (RType opcode funct3 funct7 rd rs1 rs2) h t =
    let a = and_parts (nat_lt opcode 128 && nat_lt funct3 8) (nat_lt funct7 128) t in
    let b = and_parts (nat_lt opcode 128) (nat_lt funct3 8) a.0 in
    record { opcode = ltb-true opcode 128 b.0; rd = h.0; funct3 = ltb-true funct3 8 b.1; rs1 = h.1; rs2 = h.2; funct7 = ltb-true funct7 128 a.1 }
fields_fit (IType opcode funct3 rd rs1 imm) h t =
    let b = and_parts (nat_lt opcode 128) (nat_lt funct3 8) t in
    let l = residue_lt (2 ^ 12) imm (omega arith) in
    record { opcode = ltb-true opcode 128 b.0; rd = h.0; funct3 = ltb-true funct3 8 b.1; rs1 = h.1; rs2 = omega arith; funct7 = omega arith }
fields_fit (Shift6 opcode funct3 top rd rs1 imm) h t =
    let a = and_parts (nat_lt opcode 128 && nat_lt funct3 8) (nat_lt top 64) t in
    let b = and_parts (nat_lt opcode 128) (nat_lt funct3 8) a.0 in
    let l = residue_lt (2 ^ 6) imm (omega arith) in
    let k = ltb-true top 64 a.1 in
    record { opcode = ltb-true opcode 128 b.0; rd = h.0; funct3 = ltb-true funct3 8 b.1; rs1 = h.1; rs2 = omega arith; funct7 = omega arith }
fields_fit (Shift5 opcode funct3 top rd rs1 imm) h t =
    let a = and_parts (nat_lt opcode 128 && nat_lt funct3 8) (nat_lt top 128) t in
    let b = and_parts (nat_lt opcode 128) (nat_lt funct3 8) a.0 in
    record { opcode = ltb-true opcode 128 b.0; rd = h.0; funct3 = ltb-true funct3 8 b.1; rs1 = h.1; rs2 = residue_lt (2 ^ 5) imm (omega arith); funct7 = ltb-true top 128 a.1 }
fields_fit (SType opcode funct3 rs1 rs2 imm) h t =
    let b = and_parts (nat_lt opcode 128) (nat_lt funct3 8) t in
    let l = residue_lt (2 ^ 12) imm (omega arith) in
    record { opcode = ltb-true opcode 128 b.0; rd = omega arith; funct3 = ltb-true funct3 8 b.1; rs1 = h.0; rs2 = h.1; funct7 = omega arith }
fields_fit (BType opcode funct3 rs1 rs2 imm) h t =
    let b = and_parts (nat_lt opcode 128) (nat_lt funct3 8) t in
    let l = residue_lt (2 ^ 13) imm (omega arith) in
    record { opcode = ltb-true opcode 128 b.0; rd = omega arith; funct3 = ltb-true funct3 8 b.1; rs1 = h.0; rs2 = h.1; funct7 = omega arith }
fields_fit (UType opcode rd imm) h t =
    let l = residue_lt (2 ^ 20) imm (omega arith) in
    record { opcode = ltb-true opcode 128 t; rd = h.0; funct3 = omega arith; rs1 = omega arith; rs2 = omega arith; funct7 = omega arith }
fields_fit (JType opcode rd imm) h t =
    let l = residue_lt (2 ^ 21) imm (omega arith) in
    record { opcode = ltb-true opcode 128 t; rd = h.0; funct3 = omega arith; rs1 = omega arith; rs2 = omega arith; funct7 = omega arith }
fields_fit (Whole word) h t = in_fields word (ltb-true word 4294967296 t)

pub word_of_lt : (i : Instr) → InRange i → word_of i < 2 ^ 32
word_of_lt i h = let f = fields_fit (format_of i) h (row i).small in omega (arith, f.opcode, f.rd, f.funct3, f.rs1, f.rs2, f.funct7)

format_of_fields-word : (i : Instr) → InRange i → format_of_fields (fields_of_word (word_of i)) ≡ Some (format_of i)
format_of_fields-word i h =
    let f = fields_of_format (format_of i) in
    ap format_of_fields (fields-word f (fields_fit (format_of i) h (row i).small))
    ∙ ap (option_map (λ s. read s f)) (row i).told
    ∙ ap Some (read-fields_of_format (format_of i) h)

pub instr_of-word_of : (i : Instr) → InRange i → instr_of (word_of i) ≡ Some i
instr_of-word_of i h = ap (option_and_then instr_of_format) (format_of_fields-word i h) ∙ (row i).back

pub record IsWordOf (i : Instr) (w : ℕ) : Type 0 where
  pub in_range : InRange i
  pub same : word_of i ≡ w

found_at : (w : ℕ) (i : Instr) (o : Option Shape) → w < 2 ^ 32 → option_and_then instr_of_format (option_map (λ s. read s (fields_of_word w)) o) ≡ Some i → IsWordOf i w
found_at w i None h e = cc
found_at w i (Some s) h e =
    let f = fields_of_word w in
    let t = spells s f (in_fields w h) in
    let q = format_of-instr_of_format (read s f) i e in
    record { in_range = subst Fits (sym q) t.fits; same = ap (λ m. word_of_fields (fields_of_format m)) q ∙ ap word_of_fields t.spelled ∙ word-fields w }

pub word_of-instr_of : (w : ℕ) (i : Instr) → w < 2 ^ 32 → instr_of w ≡ Some i → IsWordOf i w
word_of-instr_of w i h e = found_at w i (shape_of (fields_of_word w).opcode (fields_of_word w).funct3) h e
