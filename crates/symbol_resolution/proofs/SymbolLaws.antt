-- How many symbols a module has.
use Rattle.std.proofs.Common.{◌+◌, ◌≤◌, ℕ, List, [], ◌∷◌, length, Option, Some, None, arith}
use Rattle.std.specs.List.{filter_map, enumerate_from, cons_option}
use Rattle.std.proofs.lemmas.List.{length-append}
use Rattle.gimple_ir.specs.declared.types.Module.{Module}
use Rattle.lto_object.specs.Objects.{symbols_of, named_arrays, named_functions, array_symbol, function_symbol, array_symbols, function_symbols}

at_most_one : {Y : Type 0} (found : Option Y) (rest : List Y) (n : ℕ) → length rest ≤ n → length (cons_option found rest) ≤ 1 + n
at_most_one None rest n h = omega (arith, h)
at_most_one (Some y) rest n h = omega (arith, h)

few_found : {X Y : Type 0} (g : ℕ → X → Option Y) (n : ℕ) (xs : List X) → length (filter_map (λ pair. g pair.0 pair.1) (enumerate_from n xs)) ≤ length xs
few_found g n [] = omega arith
few_found g n (x ∷ xs) =
    let most = at_most_one (g n x) (filter_map (λ pair. g pair.0 pair.1) (enumerate_from (n + 1) xs)) (length xs) (few_found g (n + 1) xs) in
    omega (arith, most)

-- each is of an array or of a function
pub few_symbols : (m : Module) → length (symbols_of m) ≤ length m.arrays + length m.functions
few_symbols m =
    let arrays = few_found (array_symbol (named_arrays m.functions)) 0 m.arrays in
    let functions = few_found (function_symbol (named_functions m.functions)) 0 m.functions in
    omega (arith, arrays, functions, length-append (array_symbols (named_arrays m.functions) m.arrays) (function_symbols (named_functions m.functions) m.functions))
