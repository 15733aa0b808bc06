-- Items are no more than the bytes that spell them, and a section's bytes no more than its file's.
use Rattle.std.proofs.Common.{◌≡◌, ℕ, ◌+◌, ◌%◌, ◌/◌, ◌≤◌, List, [], ◌∷◌, ◌++◌, length, Bool, true, false, cond, Option, Some, None, refl, ap, length-append, take, drop, arith}
use Rattle.std.specs.Prelude.{slice_get, nat_lt}
use Rattle.std.proofs.lemmas.List.{length-take, length-drop}
use Rattle.cursors.specs.Leb128.{uleb_of, uleb_by}
use Rattle.gimple_ir.specs.declared.types.StructDef.{StructDef}
use Rattle.gimple_ir.specs.declared.types.Array.{Array}
use Rattle.gimple_ir.specs.declared.types.Function.{Function}
use Rattle.gimple_ir.specs.declared.types.Module.{Module}
use Rattle.module_stream.specs.Fields.{counted_of, text_of}
use Rattle.module_stream.specs.Declarations.{field_of, struct_of, array_of, function_of, decls_of}
use Rattle.elf_container.specs.declared.sections.OwnSection.{OwnSection}
use Rattle.elf_container.specs.Layout.{layout_of}
use Rattle.elf_container.specs.Offsets.{offset_of, size_of}
use Rattle.elf_container.specs.ObjectReading.{part, bytes_by}
use Rattle.elf_container.proofs.OffsetLaws.{section_at_offset, size_at}
use Rattle.lto_object.proofs.BoundLaws.{counted_longer}

some_byte : (n : ℕ) → 1 ≤ length (uleb_of n)
unfolding uleb_of
some_byte n = by (nat_lt n 128)
  where
    by : (b : Bool) → 1 ≤ length (cond b (n ∷ []) ((128 + n % 128) ∷ uleb_by 9 (n / 128)))
    by true = omega arith
    by false = omega arith

some_struct : (s : StructDef) → 1 ≤ length (struct_of s)
some_struct s =
    omega (arith, some_byte (length s.name), length-append (uleb_of (length s.name)) s.name, length-append (text_of s.name) (counted_of field_of s.fields))

some_array : (a : Array) → 1 ≤ length (array_of a)
some_array a = omega arith

some_function : (f : Function) → 1 ≤ length (function_of f)
some_function f = omega arith

pub few_items : (m : Module) → length m.structs + length m.arrays + length m.functions ≤ length (decls_of m)
few_items m =
    omega (arith, length-append (counted_of struct_of m.structs) (counted_of array_of m.arrays ++ counted_of function_of m.functions), length-append (counted_of array_of m.arrays) (counted_of function_of m.functions), counted_longer struct_of some_struct m.structs, counted_longer array_of some_array m.arrays, counted_longer function_of some_function m.functions)

pub section_small : (ss : List OwnSection) (place : ℕ) (s : OwnSection) → slice_get ss place ≡ Some s → length s.bytes ≤ length (layout_of ss)
section_small ss place s here =
    let back = drop (offset_of ss place) (layout_of ss) in
    omega (arith, ap length (section_at_offset ss place s here), length-take (length s.bytes) back, length-drop (offset_of ss place) (layout_of ss))

pub part_small : (ss : List OwnSection) (place : ℕ) → length (part place ss) ≤ size_of ss
part_small ss place = by (slice_get ss place) refl
  where
    by : (o : Option OwnSection) → slice_get ss place ≡ o → length (bytes_by o) ≤ size_of ss
    by None e = omega arith
    by (Some s) e = omega (arith, section_small ss place s e, size_at ss)
