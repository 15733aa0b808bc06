use Rattle.std.proofs.Common.{sym, subst}
use Rattle.gimple_ir.specs.declared.types.Program.{Program}
use Rattle.func_summary.specs.Summarised.{IsSummarised}
use Rattle.plain_link.proofs.linking.link_one.Goals as goal

pub link_program-requires : goal.link_program-requires
link_program-requires c =
    let merged = c.in_ok-merged.merged in
    let few = c.are_few.ensures.0 c.if-not-are_few.false in
    subst (λ (p : Program). IsSummarised p merged) (sym c.in_ok-program.ensures.exact)
    (c.merged_programs.ensures.summarised c.args.objects.now c.args.names.now c.args.resolution.now merged c.all_are_objects.ensures few c.requires.names c.in_ok-merged.ensures.exact)
