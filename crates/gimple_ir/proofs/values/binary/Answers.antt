use Rattle.std.proofs.Common.{ap, ◌∙◌, arith}
use Rattle.std.proofs.lemmas.Int.{ints}
use Rattle.std.specs.Int.Bits.{or_lt, xor_lt}
use Rattle.gimple_ir.specs.Values.{result_of, width}
use Rattle.gimple_ir.proofs.Ranges.{InRange-fits, InRange-sum, InRange-difference}
use Rattle.gimple_ir.proofs.values.binary.Goals as goal

pub from_residue-requires-in-Or : goal.from_residue-requires-in-Or
from_residue-requires-in-Or c = or_lt (width c.args.left.ty) _ _ c.residue-in-Or.ensures.bound c.residue-in-Or-2.ensures.bound

pub from_residue-requires-in-Xor : goal.from_residue-requires-in-Xor
from_residue-requires-in-Xor c = xor_lt (width c.args.left.ty) _ _ c.residue-in-Xor.ensures.bound c.residue-in-Xor-2.ensures.bound

pub returns-in-Add : goal.returns-in-Add
returns-in-Add c =
    let left = InRange-fits c.args.left.ty c.args.left.num c.requires.left in
    let right = InRange-fits c.args.right.ty c.args.right.num c.requires.right in
    let whole = InRange-sum c.args.left.ty c.args.left.num c.args.right.num c.requires.left (rw (← rw c.in-Add.is at c.requires.fits) at c.requires.right) in
    rw c.in-Add.is (c.result_of.ensures ∙ ap (result_of c.args.left.ty) (omega (arith, ints)))

pub returns-in-Sub : goal.returns-in-Sub
returns-in-Sub c =
    let left = InRange-fits c.args.left.ty c.args.left.num c.requires.left in
    let right = InRange-fits c.args.right.ty c.args.right.num c.requires.right in
    let whole = InRange-difference c.args.left.ty c.args.left.num c.args.right.num c.requires.left (rw (← rw c.in-Sub.is at c.requires.fits) at c.requires.right) in
    rw c.in-Sub.is (c.result_of-in-Sub.ensures ∙ ap (result_of c.args.left.ty) (omega (arith, ints)))
