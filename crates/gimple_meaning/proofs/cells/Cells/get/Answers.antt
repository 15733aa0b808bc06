use Rattle.std.proofs.Common.{None, ◌∙◌, ap, le_refl, slice_index_or}
use Rattle.gimple_meaning.proofs.Parts.{cell-get_or}
use Rattle.gimple_meaning.proofs.cells.Cells.get.Goals as goal

pub returns-in-Some-clause-value : goal.returns-in-Some-clause-value
returns-in-Some-clause-value c =
    c.in-Some.ensures.lookup.4 (le_refl c.args.place) None ∙ ap (λ xs. slice_index_or xs c.args.place None) (c.deref.ensures.value ∙ c.self.view_is)
    ∙ cell-get_or c.args.self.now c.args.place

pub returns-in-None-clause-value : goal.returns-in-None-clause-value
returns-in-None-clause-value c =
    c.in-None.ensures.lookup.4 (le_refl c.args.place) None ∙ ap (λ xs. slice_index_or xs c.args.place None) (c.deref.ensures.value ∙ c.self.view_is)
    ∙ cell-get_or c.args.self.now c.args.place
