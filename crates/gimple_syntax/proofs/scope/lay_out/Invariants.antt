use Rattle.std.proofs.Common.{◌≡◌, ◌++◌, length, take, drop}
use Rattle.std.specs.List.{flat_map}
use Rattle.gimple_syntax.specs.Places.{types_of}
use Rattle.gimple_syntax.specs.Layouts.{firsts_from}
use Rattle.gimple_syntax.proofs.scope.lay_out.Given as goal

abbrev pub invariant-loop-variable : goal.invariant-loop-variable
invariant-loop-variable l = record {
  begun : l.firsts.items ++ firsts_from l.items.structs (length l.types.items) (drop l.variable-index l.variables)
      ≡ firsts_from l.items.structs 0 l.variables;
  typed : l.types.items ≡ flat_map (λ d. types_of l.items.structs d.ty) (take l.variable-index l.variables);
}
