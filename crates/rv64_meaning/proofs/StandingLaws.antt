-- Output in front of what a step writes, and how the machine stands behind a step of its hart.
use Rattle.std.proofs.Common.{◌≡◌, ℕ, ◌+◌, ◌-◌, ◌≤◌, Bool, true, false, cond, List, [], ◌∷◌, ◌++◌, Option, Some, None, refl, sym, ap, ◌∙◌, subst, append_assoc, arith}
use Rattle.std.specs.Prelude.{◌%◌, ◌^◌, ◌==◌, ◌&&◌, ◌||◌, if◌then◌else◌, min, length, take, drop}
use Rattle.rv64_isa.specs.declared.instr.Instr.{Instr}
use Rattle.rv64_isa.specs.declared.instr.Instr.TheVariants.{Lb, Lh, Lw, Ld, Lbu, Lhu, Lwu, Sb, Sh, Sw, Sd, Ecall}
use Rattle.rv64_meaning.specs.declared.hart.Hart.{Hart}
use Rattle.rv64_meaning.specs.declared.event.Event.{Event}
use Rattle.rv64_meaning.specs.declared.event.Event.TheVariants.{Quiet, Wrote, Ended, Trapped}
use Rattle.rv64_meaning.specs.Machine.{Segments, State, Next, Go, End, Trap, Standing, At, EndedWith, TrappedAt, effect, step, follow, next, after, outcome_of, bytes_from, load, store, store_bytes, read_reg, set_at, put, in_text, in_data, can_load, can_store, load_to, store_from, read_input, write_output, service}
use Rattle.rv64_meaning.specs.Arithmetic.{plus, of_word, sign_extended}
use Rattle.rv64_meaning.specs.View.{segments_of_hart, state_of, Does}
use Rattle.rv64_meaning.specs.declared.event.MachineState.{MachineState}
use Rattle.rv64_meaning.specs.declared.event.MachineState.TheVariants as states
use Rattle.rv64_meaning.specs.Laws.{IsOver}
use Rattle.rv64_meaning.specs.Standings.{standing_by, state_after, output_by, outcome_by, is_over}
use Rattle.rv64_meaning.proofs.RunLaws.{after-add, stays}

-- a state, and what a step leads to, with more output in front
abbrev pub with : List ℕ → State → State
with out s = record s { output = out ++ s.output }

abbrev pub behind : List ℕ → Next → Next
behind out (Go t) = Go (with out t)
behind out (End status) = End status
behind out Trap = Trap

behind_if : (b : Bool) (out : List ℕ) (n o n2 o2 : Next) → n2 ≡ behind out n → o2 ≡ behind out o → cond b n2 o2 ≡ behind out (cond b n o)
behind_if true out n o n2 o2 h k = h
behind_if false out n o n2 o2 h k = k

load_behind : (m : Segments) (s : State) (out : List ℕ) (rd n a : ℕ) (extend : ℕ → ℕ) → load_to m (with out s) rd n a extend ≡ behind out (load_to m s rd n a extend)
load_behind m s out rd n a extend = behind_if (can_load m a n) out (Go (put s rd (extend (load n s.mem a)))) Trap _ _ refl refl

store_behind : (m : Segments) (s : State) (out : List ℕ) (n a v : ℕ) → store_from m (with out s) n a v ≡ behind out (store_from m s n a v)
store_behind m s out n a v = behind_if (can_store m a n) out (Go (record s { mem = store n s.mem a v; pc = s.pc + 4 })) Trap _ _ refl refl

read_behind : (m : Segments) (s : State) (out : List ℕ) (a n : ℕ) → read_input m (with out s) a n ≡ behind out (read_input m s a n)
read_behind m s out a n =
    behind_if (n == 0 || in_data m a n) out (Go (record s { reg = set_at s.reg 10 n; pc = s.pc + 4; mem = store_bytes (take n s.input) s.mem a; input = drop n s.input })) Trap _ _ refl refl

write_behind : (m : Segments) (s : State) (out : List ℕ) (a n : ℕ) → write_output m (with out s) a n ≡ behind out (write_output m s a n)
write_behind m s out a n =
    behind_if (n == 0 || in_text m a n || in_data m a n) out (Go (record s { reg = set_at s.reg 10 n; pc = s.pc + 4; output = s.output ++ bytes_from n s.mem a })) Trap _ _
    (ap (λ o. Go (record s { reg = set_at s.reg 10 n; pc = s.pc + 4; output = o })) (append_assoc out s.output (bytes_from n s.mem a))) refl

service_behind : (m : Segments) (s : State) (out : List ℕ) → service m (with out s) ≡ behind out (service m s)
service_behind m s out =
    let a0 = read_reg s 10 in
    let a1 = read_reg s 11 in
    let a2 = read_reg s 12 in
    let a7 = read_reg s 17 in
    let rest = if a7 == 93 then End (a0 % 256) else Trap in
    let write = if a7 == 64 && a0 == 1 then write_output m s a1 a2 else rest in
    behind_if (a7 == 63 && a0 == 0) out (read_input m s a1 (min a2 (length s.input))) write _ _ (read_behind m s out a1 (min a2 (length s.input)))
    (behind_if (a7 == 64 && a0 == 1) out (write_output m s a1 a2) rest _ _ (write_behind m s out a1 a2)
    (behind_if (a7 == 93) out (End (a0 % 256)) Trap _ _ refl refl))

effect_behind : (m : Segments) (i : Instr) (s : State) (out : List ℕ) → effect m i (with out s) ≡ behind out (effect m i s)
effect_behind m (Lb rd rs1 imm) s out = load_behind m s out rd 1 (plus (read_reg s rs1) imm) (sign_extended (2 ^ 8))
effect_behind m (Lh rd rs1 imm) s out = load_behind m s out rd 2 (plus (read_reg s rs1) imm) (sign_extended (2 ^ 16))
effect_behind m (Lw rd rs1 imm) s out = load_behind m s out rd 4 (plus (read_reg s rs1) imm) of_word
effect_behind m (Ld rd rs1 imm) s out = load_behind m s out rd 8 (plus (read_reg s rs1) imm) (λ v. v)
effect_behind m (Lbu rd rs1 imm) s out = load_behind m s out rd 1 (plus (read_reg s rs1) imm) (λ v. v)
effect_behind m (Lhu rd rs1 imm) s out = load_behind m s out rd 2 (plus (read_reg s rs1) imm) (λ v. v)
effect_behind m (Lwu rd rs1 imm) s out = load_behind m s out rd 4 (plus (read_reg s rs1) imm) (λ v. v)
effect_behind m (Sb rs1 rs2 imm) s out = store_behind m s out 1 (plus (read_reg s rs1) imm) (read_reg s rs2)
effect_behind m (Sh rs1 rs2 imm) s out = store_behind m s out 2 (plus (read_reg s rs1) imm) (read_reg s rs2)
effect_behind m (Sw rs1 rs2 imm) s out = store_behind m s out 4 (plus (read_reg s rs1) imm) (read_reg s rs2)
effect_behind m (Sd rs1 rs2 imm) s out = store_behind m s out 8 (plus (read_reg s rs1) imm) (read_reg s rs2)
effect_behind m Ecall s out = service_behind m s out
effect_behind m _ s out = refl

pub step_behind : (m : Segments) (fetched : Option Instr) (s : State) (out : List ℕ) → step m fetched (with out s) ≡ behind out (step m fetched s)
step_behind m None s out = refl
step_behind m (Some i) s out = effect_behind m i s out

append_none : (xs : List ℕ) → xs ++ [] ≡ xs
append_none [] = refl
append_none (x ∷ xs) = ap (λ ys. x ∷ ys) (append_none xs)

-- the bytes that an event says were written
abbrev pub bytes_of : Hart → Event → List ℕ
bytes_of h Quiet = []
bytes_of h (Wrote address n) = bytes_from n (state_of h).mem address
bytes_of h (Ended status) = []
bytes_of h (Trapped address) = []

pub does_write : (n : Next) (event : Event) (old new : Hart) → Does n event old new → bytes_of new event ≡ output_by n
does_write (Go t) Quiet old new d = ap (λ s. s.output) d.0
does_write (Go t) (Wrote a n) old new d = ap (λ s. s.output) d.0
does_write (Go t) (Ended status) old new d = absurd d
does_write (Go t) (Trapped a) old new d = absurd d
does_write (End status) (Ended s) old new d = refl
does_write (End status) Quiet old new d = absurd d
does_write (End status) (Wrote a n) old new d = absurd d
does_write (End status) (Trapped a) old new d = absurd d
does_write Trap (Trapped a) old new d = refl
does_write Trap Quiet old new d = absurd d
does_write Trap (Wrote a n) old new d = absurd d
does_write Trap (Ended status) old new d = absurd d

does_stand : (n : Next) (event : Event) (old new : Hart) (out : List ℕ) → Does n event old new → standing_by (state_after event) (state_of new) (out ++ bytes_of new event) ≡ follow (behind out n) (with out (state_of old))
does_stand (Go t) Quiet old new out d = ap (λ s. At (with out s)) d.0
does_stand (Go t) (Wrote a n) old new out d = ap (λ s. At (with out s)) d.0
does_stand (Go t) (Ended status) old new out d = absurd d
does_stand (Go t) (Trapped a) old new out d = absurd d
does_stand (End status) (Ended s) old new out d = ap (λ v. EndedWith v (out ++ [])) d.0
does_stand (End status) Quiet old new out d = absurd d
does_stand (End status) (Wrote a n) old new out d = absurd d
does_stand (End status) (Trapped a) old new out d = absurd d
does_stand Trap (Trapped a) old new out d = ap (λ v. TrappedAt v (out ++ [])) d.0
does_stand Trap Quiet old new out d = absurd d
does_stand Trap (Wrote a n) old new out d = absurd d
does_stand Trap (Ended status) old new out d = absurd d

pub does_move : (m : Segments) (fetched : Option Instr) (event : Event) (old new : Hart) (out : List ℕ) → Does (step m fetched (state_of old)) event old new → let s = record (state_of old) { output = out } in standing_by (state_after event) (state_of new) (out ++ bytes_of new event) ≡ follow (step m fetched s) s
does_move m fetched event old new out d =
    does_stand (step m fetched (state_of old)) event old new out d
    ∙ ap (λ n. follow n (with out (state_of old))) (sym (step_behind m fetched (state_of old) out))
    ∙ ap (λ o. let s = record (state_of old) { output = o } in follow (step m fetched s) s) (append_none out)

-- a step of the hart keeps the segments
pub does_keep : (n : Next) (event : Event) (old new : Hart) → Does n event old new → segments_of_hart new ≡ segments_of_hart old
does_keep (Go t) Quiet old new d = d.1
does_keep (Go t) (Wrote a n) old new d = d.1
does_keep (Go t) (Ended status) old new d = absurd d
does_keep (Go t) (Trapped a) old new d = absurd d
does_keep (End status) (Ended s) old new d = ap segments_of_hart d.1
does_keep (End status) Quiet old new d = absurd d
does_keep (End status) (Wrote a n) old new d = absurd d
does_keep (End status) (Trapped a) old new d = absurd d
does_keep Trap (Trapped a) old new d = ap segments_of_hart d.1
does_keep Trap Quiet old new d = absurd d
does_keep Trap (Wrote a n) old new d = absurd d
does_keep Trap (Ended status) old new d = absurd d

-- one step more
pub after_one : (m : Segments) (n : ℕ) (p : Standing) → after m (n + 1) p ≡ next m (after m n p)
after_one m n p = after-add m n 1 p

-- a machine that is over stands as it will after any number of steps
over_by : (state : MachineState) (s : State) (out : List ℕ) → is_over state ≡ true → IsOver (outcome_of (standing_by state s out))
over_by states.Running s out h = let e : false ≡ true = h in let never : ⊥ = cc in absurd never
over_by (states.Ended status) s out h = tt
over_by (states.Trapped address) s out h = tt

pub over_after : (m : Segments) (made n : ℕ) (p : Standing) (state : MachineState) (s : State) (out : List ℕ) → made ≤ n → is_over state ≡ true → standing_by state s out ≡ after m made p → standing_by state s out ≡ after m n p
over_after m made n p state s out h over e =
    let rest : made + (n - made) ≡ n = omega arith in
    e ∙ sym (stays m (n - made) (after m made p) (subst (λ q. IsOver (outcome_of q)) e (over_by state s out over))) ∙ sym (after-add m made (n - made) p) ∙ ap (λ k. after m k p) rest

-- what a run shows is its state and output
pub outcome_stands : (state : MachineState) (s : State) (out : List ℕ) → outcome_by state out ≡ outcome_of (standing_by state s out)
outcome_stands states.Running s out = refl
outcome_stands (states.Ended status) s out = refl
outcome_stands (states.Trapped address) s out = refl
