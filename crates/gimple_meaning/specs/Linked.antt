-- A whole program as the back end has it: versions of functions in which arrays and calls go by symbols, and what each symbol
-- names. As a system it is that of its steps, with numbers for the symbols.
use Rattle.std.specs.Prelude.{ℕ, ◌-◌, Bool, List, [], ◌∷◌, length, map, slice_get, Option, None}
use Rattle.std.specs.Option.{option_map_or, option_and_then}
use Rattle.gimple_ir.specs.declared.types.Array.{Array}
use Rattle.gimple_ir.specs.declared.types.ScalarType.{ScalarType}
use Rattle.gimple_ir.specs.declared.versioned.Step.{Step}
use Rattle.gimple_ir.specs.declared.versioned.Step.TheVariants.{Load, Store}
use Rattle.gimple_ir.specs.declared.versioned.VersionedFunction.{VersionedFunction}
use Rattle.gimple_meaning.specs.Systems.{System, Frame, Machine, State, start_in}
use Rattle.gimple_meaning.specs.Run.{run}
use Rattle.gimple_meaning.specs.Steps.{Code, Codes, system_of}

pub record LinkedProgram : Type 0 where
  pub arrays : List Array
  pub functions : List VersionedFunction
  -- the number of the function at which a run begins
  pub main : ℕ
  -- the numbers of the function and of the array that a symbol names
  pub function_named : List ℕ → ℕ
  pub array_named : List ℕ → ℕ
  -- whether the image has the array with this number
  pub is_kept : ℕ → Bool
  -- the type of what a function gives, where it gives something
  pub result_type : ℕ → ScalarType

-- ---- numbers for symbols; what names nothing has a number past the end

abbrev pub array_number : LinkedProgram → VersionedFunction → ℕ → ℕ
array_number p f array = option_map_or (λ u. p.array_named u.symbol) (slice_get f.arrays array) (length p.arrays)

abbrev pub callee_number : LinkedProgram → VersionedFunction → ℕ → ℕ
callee_number p f call = option_map_or p.function_named (slice_get f.calls call) (length p.functions)

abbrev pub linked_step : LinkedProgram → VersionedFunction → Step → Step
linked_step p f (Load to array index) = Load to (array_number p f array) index
linked_step p f (Store array index from) = Store (array_number p f array) index from
linked_step p f step = step

abbrev pub linked_code : LinkedProgram → VersionedFunction → Code
linked_code p f = record { types = f.types; bindings = f.bindings; calls = map p.function_named f.calls; body = map (linked_step p f) f.body }

abbrev pub linked_codes : LinkedProgram → Codes
linked_codes p = record { arrays = p.arrays; functions = map (linked_code p) p.functions }

abbrev pub linked_system : LinkedProgram → System
linked_system p = system_of (linked_codes p)

-- ---- where a run is

-- the step at the place of the newest of these frames
abbrev pub step_in : LinkedProgram → List Frame → Option Step
step_in p [] = None
step_in p (frame ∷ older) = option_and_then (λ f. slice_get f.body frame.place) (slice_get p.functions frame.function)

abbrev pub step_now : LinkedProgram → Machine → Option Step
step_now p q = step_in p q.frames

-- how many steps of the newest frame's function stand from its place on
abbrev pub steps_left_in : LinkedProgram → List Frame → ℕ
steps_left_in p [] = 0
steps_left_in p (frame ∷ older) = option_map_or (λ f. length f.body - frame.place) (slice_get p.functions frame.function) 0

abbrev pub steps_left : LinkedProgram → Machine → ℕ
steps_left p q = steps_left_in p q.frames

-- ---- runs

-- one frame, of the first function, at its first step
abbrev pub linked_start : LinkedProgram → List ℕ → State
linked_start p input = start_in (linked_system p) p.arrays p.main input

-- on an input, after at most n steps
abbrev pub linked_run : LinkedProgram → List ℕ → ℕ → State
linked_run p input n = run (linked_system p) (linked_start p input) n
