-- The instructions of the templates have registers and immediates in range, so each has a word.
use Rattle.std.specs.Prelude.{ℕ, ℤ, List, ◌++◌}
use Rattle.rv64_isa.specs.declared.instr.Instr.{Instr}
use Rattle.rv64_abi.specs.Offsets.{call}
use Rattle.rv64_isa.specs.Format.{IsRegister}
use Rattle.rv64_select.specs.Templates.{constant, load_slot, store_slot}
use Rattle.rv64_select.specs.Assembly.{enter_code, leave_code}
use Rattle.final_link.specs.Stubs.{stubs}
use Rattle.final_link.specs.Image.{AllInRange}

abbrev pub ConstantEncodes : Type 0
ConstantEncodes = (r : ℕ) (c : ℤ) → IsRegister r → AllInRange (constant r c)

abbrev pub LoadEncodes : Type 0
LoadEncodes = (r slot : ℕ) → IsRegister r → AllInRange (load_slot r slot)

abbrev pub StoreEncodes : Type 0
StoreEncodes = (r slot : ℕ) → IsRegister r → AllInRange (store_slot r slot)

abbrev pub CallEncodes : Type 0
CallEncodes = (from to : ℕ) → AllInRange (call from to)

abbrev pub EnterEncodes : Type 0
EnterEncodes = (size slot : ℕ) → AllInRange (enter_code size slot)

abbrev pub LeaveEncodes : Type 0
LeaveEncodes = (size slot : ℕ) → AllInRange (leave_code size slot)

abbrev pub StubsEncode : Type 0
StubsEncode = (top scratch main : ℕ) → AllInRange (stubs top scratch main)

abbrev pub BothEncode : Type 0
BothEncode = (front back : List Instr) → AllInRange front → AllInRange back → AllInRange (front ++ back)
