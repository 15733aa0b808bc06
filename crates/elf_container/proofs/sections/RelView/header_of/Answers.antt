use Rattle.std.proofs.Common.{◌<◌, ◌^◌, arith}
use Rattle.elf_container.specs.Offsets.{size_of}
use Rattle.elf_container.proofs.sections.RelView.header_of.Goals as goal

pub overflow_add-result : goal.overflow_add-result
overflow_add-result c =
    let fits : size_of c.args.self.now < 2 ^ 64 = c.table.ensures.within in
    omega (arith, fits, c.requires)

pub overflow_mul-result : goal.overflow_mul-result
overflow_mul-result c =
    let fits : size_of c.args.self.now < 2 ^ 64 = c.table.ensures.within in
    omega (arith, fits, c.requires)

pub overflow_add-result-2 : goal.overflow_add-result-2
overflow_add-result-2 c =
    let fits : size_of c.args.self.now < 2 ^ 64 = c.table.ensures.within in
    omega (arith, fits, c.requires, c.table.ensures.value)
