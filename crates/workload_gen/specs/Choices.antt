-- What is drawn for each function, in this order: the operator of the first statement, its number, the operator of the
-- second, and, unless the function is the last, which later function it calls and whether it passes `b` or a number.
use Rattle.std.specs.Prelude.{ℕ, ◌+◌, ◌-◌, zero, suc, pos, List, map, min, if◌then◌else◌, nat_eq, nat_lt, Option, Some, None}
use Rattle.std.specs.List.{range_with_len}
use Rattle.gimple_ir.specs.declared.types.ScalarType.TheVariants.{UnsignedInt}
use Rattle.gimple_ir.specs.declared.types.BinaryOp.{BinaryOp}
use Rattle.gimple_ir.specs.declared.types.BinaryOp.TheVariants.{Add, Sub, Mul, Xor}
use Rattle.gimple_ir.specs.declared.types.Operand.{Operand}
use Rattle.gimple_ir.specs.declared.types.Operand.TheVariants.{Component, Literal}
use Rattle.workload_gen.specs.declared.choices.Choice.{Choice}
use Rattle.workload_gen.specs.declared.choices.Call.{Call}
use Rattle.workload_gen.specs.Draws.{after, draw}

abbrev pub operator_of : ℕ → BinaryOp
operator_of number =
    if nat_eq number 0 then Add else (if nat_eq number 1 then Sub else (if nat_eq number 2 then Mul else Xor))

abbrev pub unsigned : ℕ → Operand
unsigned number = Literal (record { ty = UnsignedInt; num = pos number })

-- the parameter `b` where the next draw of two is 1, else the number that is drawn after it
unfoldable pub argument_of : ℕ → Operand
argument_of state = if nat_eq (draw state 0 2) 1 then Component 1 else unsigned (draw state 1 4)

unfoldable pub after_argument : ℕ → ℕ
after_argument state = if nat_eq (draw state 0 2) 1 then after 1 state else after 2 state

-- the function of this number, of so many, as it is drawn from a state on
module _ (count number : ℕ) where
  -- one of the next seven functions, as far as there are so many
  unfoldable pub call_of : ℕ → Call
  call_of state =
      record { callee = number + 1 + draw state 0 (min 7 (count - 1 - number)); argument = argument_of (after 1 state) }

  unfoldable pub calls_of : ℕ → Option Call
  calls_of state = if nat_lt (number + 1) count then Some (call_of state) else None

  unfoldable pub choice_of : ℕ → Choice
  choice_of state =
      record {
        first = operator_of (draw state 0 4);
        constant = draw state 1 1000;
        second = operator_of (draw state 2 4);
        call = calls_of (after 3 state);
      }

  unfoldable pub after_calls : ℕ → ℕ
  after_calls state = if nat_lt (number + 1) count then after_argument (after 1 state) else state

  unfoldable pub after_choice : ℕ → ℕ
  after_choice state = after_calls (after 3 state)

-- the state from which a function is drawn, the first one from the seed
unfoldable pub start : ℕ → ℕ → ℕ → ℕ
start seed count zero = seed
start seed count (suc number) = after_choice count number (start seed count number)

unfoldable pub choices_of : ℕ → ℕ → List Choice
choices_of seed count = map (λ number. choice_of count number (start seed count number)) (range_with_len 0 count)
