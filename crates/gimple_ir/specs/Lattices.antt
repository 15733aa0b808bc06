-- The meet of two facts about a component: the greatest one below both.
use Rattle.std.specs.Prelude.{Bool, true, false, ◌&&◌, if◌then◌else◌}
use Rattle.std.specs.Ordering.{int_eq}
use Rattle.gimple_ir.specs.declared.types.ScalarType.{ScalarType}
use Rattle.gimple_ir.specs.declared.types.ScalarType.TheVariants.{Int, UnsignedInt, LongInt, LongUnsignedInt}
use Rattle.gimple_ir.specs.declared.types.Value.{Value}
use Rattle.gimple_ir.specs.declared.lattice.Lattice.{Lattice}
use Rattle.gimple_ir.specs.declared.lattice.Lattice.TheVariants.{Top, Const, Bottom}

abbrev pub same_type : ScalarType → ScalarType → Bool
same_type Int Int = true
same_type UnsignedInt UnsignedInt = true
same_type LongInt LongInt = true
same_type LongUnsignedInt LongUnsignedInt = true
same_type _ _ = false

abbrev pub same_value : Value → Value → Bool
same_value a b = same_type a.ty b.ty && int_eq a.num b.num

-- the greatest value below both
abbrev pub meet_of : Lattice → Lattice → Lattice
meet_of Top b = b
meet_of a Top = a
meet_of (Const a) (Const b) = if same_value a b then Const a else Bottom
meet_of _ _ = Bottom
