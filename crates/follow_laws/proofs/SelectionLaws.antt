-- Where steps stand, and what operands leave.
use Rattle.std.proofs.Common.{◌≡◌, ℕ, zero, suc, ◌+◌, ◌-◌, ◌*◌, ◌^◌, ◌<◌, ◌≤◌, ℤ, pos, negsuc, Bool, true, false, cond, List, [], ◌∷◌, length, Some, refl, ap, subst, arith, length-append}
use Rattle.std.specs.Prelude.{nat_lt}
use Rattle.std.proofs.lemmas.Bool.Decides.{nat_tests}
use Rattle.gimple_ir.specs.declared.types.ScalarType.{ScalarType}
use Rattle.gimple_ir.specs.declared.types.ScalarType.TheVariants.{Int, UnsignedInt, LongInt, LongUnsignedInt}
use Rattle.gimple_ir.specs.declared.types.Operand.TheVariants.{Component, Literal}
use Rattle.gimple_ir.specs.declared.versioned.Step.{Step}
use Rattle.gimple_ir.specs.declared.versioned.VersionedFunction.{VersionedFunction}
use Rattle.rv64_isa.specs.Format.{IsSigned, residue}
use Rattle.rv64_isa.proofs.FormatLaws.{residue_lt}
use Rattle.rv64_meaning.specs.Machine.{Segments}
use Rattle.rv64_frame.specs.Frames.{component_slot}
use Rattle.rv64_select.specs.Templates.{machine_form}
use Rattle.rv64_select.specs.Code.{Places, step_code, steps_code}
use Rattle.rv64_select.proofs.Laying.{steps-cons}
use Rattle.follow_laws.specs.Relation.{StandsAt}
use Rattle.follow_laws.specs.Selections.{address_of, StepStands, StepsStand, OperandSets, OperandEncodes}
use Rattle.follow_laws.proofs.WayLaws.{stands_front, stands_back}
use Rattle.follow_laws.proofs.TemplateLaws.{constant_sets, load_sets}
use Rattle.follow_laws.proofs.EncodingLaws.{constant_encodes, load_encodes}

-- ---- steps

some_step : (x y : Step) → Some x ≡ Some y → x ≡ y
some_step x y e = cc

first_stands : (m : Segments) (places : Places) (f : VersionedFunction) (at : ℕ) (step : Step) (steps : List Step) → StandsAt m at (steps_code places f at (step ∷ steps)) → StepStands m places f at (step ∷ steps) zero step
first_stands m places f at step steps has =
    let first = step_code places f at step in
    let behind = at + 4 * length first in
    let rest = steps_code places f behind steps in
    let start = address_start places f behind steps in
    let parts = steps-cons places f at step steps in
    record {
      code = stands_front m at first rest (subst (StandsAt m at) parts has);
      next = start;
      within = omega (arith, start, ap length parts, length-append first rest);
      aligned = refl;
    }
  where
    address_start : (places : Places) (f : VersionedFunction) (at : ℕ) (steps : List Step) → address_of places f at steps zero ≡ at
    address_start places f at [] = refl
    address_start places f at (step ∷ steps) = refl

pub steps_stand : StepsStand
steps_stand m places f at [] place step e has = cc
steps_stand m places f at (first ∷ steps) zero step e has = subst (StepStands m places f at (first ∷ steps) zero) (some_step first step e) (first_stands m places f at first steps has)
steps_stand m places f at (first ∷ steps) (suc place) step e has =
    let code = step_code places f at first in
    let behind = at + 4 * length code in
    let rest = steps_code places f behind steps in
    let parts = steps-cons places f at first steps in
    let r = steps_stand m places f behind steps place step e (stands_back m at code rest (subst (StandsAt m at) parts has)) in
    record { code = r.code; next = r.next; within = omega (arith, r.within, ap length parts, length-append code rest); aligned = omega (arith, r.aligned) }

-- ---- operands

form_in : (b : Bool) (half n : ℕ) → half ≤ 2 ^ 63 → n < half + half → nat_lt n half ≡ b → IsSigned (2 ^ 64) (cond b (pos n) (negsuc (half + half - 1 - n)))
form_in true half n h l e = grind (arith, nat_tests)
form_in false half n h l e = grind (arith, nat_tests)

pub form_fits : (type : ScalarType) (number : ℤ) → IsSigned (2 ^ 64) (machine_form type number)
form_fits Int z = let n = residue (2 ^ 32) z in form_in (nat_lt n (2 ^ 31)) (2 ^ 31) n (omega arith) (residue_lt (2 ^ 32) z (omega arith)) refl
form_fits UnsignedInt z = let n = residue (2 ^ 32) z in form_in (nat_lt n (2 ^ 31)) (2 ^ 31) n (omega arith) (residue_lt (2 ^ 32) z (omega arith)) refl
form_fits LongInt z = let n = residue (2 ^ 64) z in form_in (nat_lt n (2 ^ 63)) (2 ^ 63) n (omega arith) (residue_lt (2 ^ 64) z (omega arith)) refl
form_fits LongUnsignedInt z = let n = residue (2 ^ 64) z in form_in (nat_lt n (2 ^ 63)) (2 ^ 63) n (omega arith) (residue_lt (2 ^ 64) z (omega arith)) refl

pub operand_sets : OperandSets
operand_sets m s f r (Component c) r_is apart can has = load_sets m s r (component_slot f c) r_is apart can.0 can.1 can.2 has
operand_sets m s f r (Literal v) r_is apart can has = constant_sets m s r (machine_form v.ty v.num) (form_fits v.ty v.num) r_is has

pub operand_encodes : OperandEncodes
operand_encodes f r (Component c) h = load_encodes r (component_slot f c) h
operand_encodes f r (Literal v) h = constant_encodes r (machine_form v.ty v.num) h
