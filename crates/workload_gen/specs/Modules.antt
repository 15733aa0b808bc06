-- Where each function stands. Fifty functions make a module, with `main` last in module 0. A module declares the functions
-- of other modules that it calls, by number, before its own.
use Rattle.std.specs.Prelude.{ℕ, ◌+◌, ◌*◌, ◌/◌, ◌%◌, List, [], ◌∷◌, ◌++◌, length, map, filter, take, drop, max, Bool, false, not, ◌&&◌, ◌||◌, if◌then◌else◌, nat_eq}
use Rattle.std.specs.List.{range_with_len, list_any}
use Rattle.std.specs.Int.{div_ceil}
use Rattle.std.specs.Option.{option_map_or}
use Rattle.gimple_ir.specs.declared.types.Function.{Function}
use Rattle.gimple_ir.specs.declared.types.Module.{Module}
use Rattle.workload_gen.specs.declared.choices.Choice.{Choice}
use Rattle.workload_gen.specs.Choices.{choices_of, start}
use Rattle.workload_gen.specs.Functions.{declaration, definition, main_of}

abbrev pub calls_function : ℕ → Choice → Bool
calls_function number choice = option_map_or (λ call. nat_eq call.callee number) choice.call false

-- one module, by its own functions as they were drawn, and its number
module _ (own : List Choice) (module_number : ℕ) where
  abbrev pub is_own : ℕ → Bool
  is_own number = nat_eq (number / 50) module_number

  -- one of its functions calls the function of this number, or `main` does
  abbrev pub has_call_to : ℕ → Bool
  has_call_to number =
      list_any (calls_function number) own || (nat_eq module_number 0 && nat_eq (number % 10) 0)

  abbrev pub is_declared : ℕ → Bool
  is_declared number = has_call_to number && not (is_own number)

  -- the declared functions below a number, by number
  unfoldable pub declared_below : ℕ → List ℕ
  declared_below number = filter is_declared (range_with_len 0 number)

  -- the place of a function in the module's list, if there are so many functions in all
  unfoldable pub place_of : ℕ → ℕ → ℕ
  place_of count number =
      if is_own number then length (declared_below count) + number % 50 else length (declared_below number)

-- the definitions of these functions, of which the first has the number
unfoldable pub definitions_from : (ℕ → ℕ) → ℕ → List Choice → List Function
definitions_from place number [] = []
definitions_from place number (choice ∷ rest) =
    definition place number choice ∷ definitions_from place (number + 1) rest

abbrev pub own_choices : List Choice → ℕ → List Choice
own_choices choices module_number = take 50 (drop (50 * module_number) choices)

abbrev pub place_in : List Choice → ℕ → ℕ → ℕ
place_in choices module_number = place_of (own_choices choices module_number) module_number (length choices)

-- `main`, which is drawn from the state after all functions, where the module is the first
unfoldable pub main_in : List Choice → ℕ → ℕ → List Function
main_in choices state module_number =
    if nat_eq module_number 0 then main_of (place_in choices module_number) (length choices) state ∷ [] else []

unfoldable pub functions_of : List Choice → ℕ → ℕ → List Function
functions_of choices state module_number =
    let own = own_choices choices module_number in
    map declaration (declared_below own module_number (length choices))
    ++ (definitions_from (place_in choices module_number) (50 * module_number) own
    ++ main_in choices state module_number)

unfoldable pub module_of : List Choice → ℕ → ℕ → Module
module_of choices state module_number =
    record { structs = []; arrays = []; functions = functions_of choices state module_number }

-- the modules of so many functions, one at least
unfoldable pub modules_of : ℕ → ℕ → List Module
modules_of seed count =
    map (module_of (choices_of seed count) (start seed count count)) (range_with_len 0 (max 1 (div_ceil count 50)))
