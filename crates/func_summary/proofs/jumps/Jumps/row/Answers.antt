use Rattle.std.proofs.Common.{◌<◌, length, ap, ◌∙◌, arith, rules}
use Rattle.gimple_ir.specs.CodeBound.{components_in}
use Rattle.func_summary.specs.JumpFunctions.{assignments_to, assignments_of}
use Rattle.func_summary.specs.Tables.{assigned_of}
use Rattle.func_summary.proofs.Keyed.{rows_at, length-rows}
use Rattle.func_summary.proofs.jumps.Jumps.row.Goals as goal

pub index-requires : goal.index-requires
index-requires c =
    let f = c.self.inside.layout.now in
    let long = length-rows (λ a. a.to) assigned_of (components_in f.variables) (assignments_of f) c.self.inside.assigned.items c.self.invariant in
    let inside : c.args.component < length c.self.inside.assigned.items = omega (arith, long, c.requires, ap (λ g. components_in g.variables) c.self.view_is) in
    search rules

pub returns : goal.returns
returns c =
    let f = c.self.inside.layout.now in
    let rows = c.self.inside.assigned.items in
    let long = length-rows (λ a. a.to) assigned_of (components_in f.variables) (assignments_of f) rows c.self.invariant in
    let inside : c.args.component < length rows = omega (arith, long, c.requires, ap (λ g. components_in g.variables) c.self.view_is) in
    c.index.ensures
    ∙ rows_at (λ a. a.to) assigned_of (components_in f.variables) (assignments_of f) rows c.args.component c.index.result.now c.self.invariant inside
    ∙ ap (λ g. assigned_of (assignments_to c.args.component (assignments_of g))) c.self.view_is
