-- Summaries and bodies with the numbers of the merged program in the place of those of an object.
use Rattle.std.specs.Prelude.{ℕ, List, map, length, nat_eq}
use Rattle.std.specs.List.{filter, list_any, range_with_len}
use Rattle.gimple_ir.specs.declared.types.Function.{Function}
use Rattle.gimple_ir.specs.declared.types.Module.{Module}
use Rattle.gimple_ir.specs.declared.types.Statement.{Statement}
use Rattle.gimple_ir.specs.declared.types.Statement.TheVariants.{Load, Store, Call}
use Rattle.gimple_ir.specs.declared.summary.Edge.{Edge}
use Rattle.gimple_ir.specs.declared.summary.Summary.{Summary}
use Rattle.symbol_resolution.specs.declared.numbers.Numbered.{Numbered}
use Rattle.symbol_resolution.specs.Numbers.{function_number, array_number}

-- ---- summaries

abbrev pub linked_edge : List (List ℕ × Numbered) → ℕ → Module → Edge → Edge
linked_edge functions object source e =
    record { statement = e.statement; callee = function_number functions object source e.callee; assigns = e.assigns; args = e.args }

-- those of the merged program's arrays that are named, ascending
abbrev pub linked_arrays : List (List ℕ × Numbered) → ℕ → Module → List ℕ → List ℕ
linked_arrays arrays object source named =
    filter (λ n. list_any (nat_eq n) (map (array_number arrays object source) named)) (range_with_len 0 (length arrays))

abbrev pub linked_summary : (functions arrays : List (List ℕ × Numbered)) → ℕ → Module → Summary → Summary
linked_summary functions arrays object source s =
    record {
      code_bound = s.code_bound;
      params = s.params;
      arrays = linked_arrays arrays object source s.arrays;
      edges = map (linked_edge functions object source) s.edges;
    }

-- ---- bodies

abbrev pub linked_statement : (functions arrays : List (List ℕ × Numbered)) → ℕ → Module → Statement → Statement
linked_statement functions arrays object source (Load to array index) = Load to (array_number arrays object source array) index
linked_statement functions arrays object source (Store array index from) = Store (array_number arrays object source array) index from
linked_statement functions arrays object source (Call to f args) = Call to (function_number functions object source f) args
linked_statement functions arrays object source s = s

abbrev pub linked_function : (functions arrays : List (List ℕ × Numbered)) → ℕ → Module → Function → Function
linked_function functions arrays object source f =
    record {
      name = f.name;
      linkage = f.linkage;
      result = f.result;
      parameters = f.parameters;
      variables = f.variables;
      labels = f.labels;
      body = map (linked_statement functions arrays object source) f.body;
    }
