-- Runs in parts, ends that stay, and output that only grows.
use Rattle.std.proofs.Common.{◌≡◌, ℕ, zero, suc, ◌+◌, Bool, true, false, List, [], ◌∷◌, ◌++◌, Option, Some, None, refl, ap, ◌∙◌, append_assoc, arith}
use Rattle.std.specs.Prelude.{length, nat_lt}
use Rattle.gimple_ir.specs.declared.types.Value.{Value}
use Rattle.gimple_meaning.specs.Acts.{Act, Fault, Goes, Calls, Leaves, Exits}
use Rattle.gimple_meaning.specs.Systems.{System, Frame, Machine, State, Running, Ended, Undefined, most_frames, entered, left, applied, next, step, store_of}
use Rattle.gimple_meaning.specs.Run.{run, output_of}
use Rattle.gimple_meaning.specs.Laws.{IsOver, Grows}

pub run-add : (system : System) (first : State) (n k : ℕ) → run system first (n + k) ≡ run system (run system first n) k
run-add system first n zero = let e : n + 0 ≡ n = omega arith in ap (run system first) e
run-add system first n (suc k) =
    let e : n + suc k ≡ suc (n + k) = omega arith in
    ap (run system first) e ∙ ap (step system) (run-add system first n k)

step_over : (system : System) (s : State) → IsOver s → step system s ≡ s
step_over system (Running m) h = absurd h
step_over system (Ended m status) h = refl
step_over system (Undefined m function place) h = refl

pub stays : (system : System) (s : State) → IsOver s → (k : ℕ) → run system s k ≡ s
stays system s h zero = refl
stays system s h (suc k) = ap (step system) (stays system s h k) ∙ step_over system s h

pub run_over : (system : System) (first : State) (n k : ℕ) → IsOver (run system first n) → run system first (n + k) ≡ run system first n
run_over system first n k h = run-add system first n k ∙ stays system (run system first n) h k

append_none : (xs : List ℕ) → xs ≡ xs ++ []
append_none [] = refl
append_none (x ∷ xs) = ap (λ ys. x ∷ ys) (append_none xs)

grows_here : (xs : List ℕ) → Grows xs xs
grows_here xs = ([], append_none xs)

grows_on : (xs ys zs : List ℕ) → Grows xs ys → Grows ys zs → Grows xs zs
grows_on xs ys zs p q = (p.0 ++ q.0, q.1 ∙ ap (λ ws. ws ++ q.0) p.1 ∙ append_assoc xs p.0 q.0)

entered_grows : (m : Machine) (frame : Frame) (rest : List Frame) (function : ℕ) (room : Bool) (cells : Option (List (Option Value)))
    → Grows m.output (output_of (entered m frame rest function room cells))
entered_grows m frame rest function true (Some cells) = grows_here m.output
entered_grows m frame rest function true None = grows_here m.output
entered_grows m frame rest function false cells = grows_here m.output

left_grows : (system : System) (m : Machine) (rest : List Frame) (value : Option Value) → Grows m.output (output_of (left system m rest value))
left_grows system m [] value = grows_here m.output
left_grows system m (caller ∷ older) value = grows_here m.output

applied_grows : (system : System) (m : Machine) (frame : Frame) (rest : List Frame) (act : Act) → Grows m.output (output_of (applied system m frame rest act))
applied_grows system m frame rest Fault = grows_here m.output
applied_grows system m frame rest (Goes place store written) = (written, refl)
applied_grows system m frame rest (Calls function arguments) =
    entered_grows m frame rest function (nat_lt (length (frame ∷ rest)) most_frames) (system.enters function arguments)
applied_grows system m frame rest (Leaves value) = left_grows system m rest value
applied_grows system m frame rest (Exits status) = grows_here m.output

next_grows : (system : System) (m : Machine) (frames : List Frame) → Grows m.output (output_of (next system m frames))
next_grows system m [] = grows_here m.output
next_grows system m (frame ∷ rest) = applied_grows system m frame rest (system.acts frame.function frame.place (store_of m frame))

step_grows : (system : System) (s : State) → Grows (output_of s) (output_of (step system s))
step_grows system (Running m) = next_grows system m m.frames
step_grows system (Ended m status) = grows_here m.output
step_grows system (Undefined m function place) = grows_here m.output

grows_from : (system : System) (s : State) (k : ℕ) → Grows (output_of s) (output_of (run system s k))
grows_from system s zero = grows_here (output_of s)
grows_from system s (suc k) = grows_on _ _ _ (grows_from system s k) (step_grows system (run system s k))

pub run_grows : (system : System) (first : State) (n k : ℕ) → Grows (output_of (run system first n)) (output_of (run system first (n + k)))
run_grows system first n k =
    let e = run-add system first n k in
    let P : State → Type 0 = λ s. Grows (output_of (run system first n)) (output_of s) in
    rw e (grows_from system (run system first n) k)
