-- Runs in parts, ends that stay, and output that only grows.
use Rattle.std.proofs.Common.{◌≡◌, ℕ, zero, suc, ◌+◌, Bool, true, false, cond, List, [], ◌∷◌, ◌++◌, Option, Some, None, refl, sym, ap, ◌∙◌, subst, append_assoc, arith}
use Rattle.std.specs.Prelude.{◌%◌, ◌^◌, ◌==◌, ◌&&◌, ◌||◌, if◌then◌else◌, min, length, take, drop}
use Rattle.rv64_isa.specs.declared.instr.Instr.{Instr}
use Rattle.rv64_isa.specs.declared.instr.Instr.TheVariants.{Lb, Lh, Lw, Ld, Lbu, Lhu, Lwu, Sb, Sh, Sw, Sd, Ecall}
use Rattle.rv64_meaning.specs.Machine.{Segments, State, Next, Go, End, Trap, Standing, At, EndedWith, TrappedAt, effect, fetch, step, follow, next, after, outcome_of, exec, bytes_from, load, store, store_bytes, read_reg, set_at, put, in_text, in_data, can_load, can_store, load_to, store_from, read_input, write_output, service}
use Rattle.rv64_meaning.specs.Arithmetic.{plus, of_word, sign_extended}
use Rattle.rv64_meaning.specs.Laws.{IsOver, Grows, output_of}

pub after-add : (m : Segments) (n k : ℕ) (p : Standing) → after m (n + k) p ≡ after m k (after m n p)
after-add m zero k p = let e : 0 + k ≡ k = omega arith in ap (λ j. after m j p) e
after-add m (suc n) k p =
    let e : suc n + k ≡ suc (n + k) = omega arith in
    ap (λ j. after m j p) e ∙ after-add m n k (next m p)

-- a standing that is over
pub stays : (m : Segments) (k : ℕ) (p : Standing) → IsOver (outcome_of p) → after m k p ≡ p
stays m k (At s) h = absurd h
stays m zero (EndedWith status output) h = refl
stays m (suc k) (EndedWith status output) h = stays m k (EndedWith status output) h
stays m zero (TrappedAt address output) h = refl
stays m (suc k) (TrappedAt address output) h = stays m k (TrappedAt address output) h

pub exec_over : (m : Segments) (n k : ℕ) (s : State) → IsOver (exec m n s) → exec m (n + k) s ≡ exec m n s
exec_over m n k s h = ap outcome_of (after-add m n k (At s) ∙ stays m k (after m n (At s)) h)

append_none : (xs : List ℕ) → xs ≡ xs ++ []
append_none [] = refl
append_none (x ∷ xs) = ap (λ ys. x ∷ ys) (append_none xs)

grows_here : (xs : List ℕ) → Grows xs xs
grows_here xs = ([], append_none xs)

grows_on : (xs ys zs : List ℕ) → Grows xs ys → Grows ys zs → Grows xs zs
grows_on xs ys zs p q = (p.0 ++ q.0, q.1 ∙ ap (λ ws. ws ++ q.0) p.1 ∙ append_assoc xs p.0 q.0)

-- an instruction adds to the output or leaves it
abbrev GrowsBy : List ℕ → Next → Type 0
GrowsBy out (Go t) = Grows out t.output
GrowsBy out (End status) = Unit {0}
GrowsBy out Trap = Unit {0}

grows_if : (b : Bool) (out : List ℕ) (n o : Next) → GrowsBy out n → GrowsBy out o → GrowsBy out (cond b n o)
grows_if true out n o h k = h
grows_if false out n o h k = k

load_grows : (m : Segments) (s : State) (rd n a : ℕ) (extend : ℕ → ℕ) → GrowsBy s.output (load_to m s rd n a extend)
load_grows m s rd n a extend = grows_if (can_load m a n) s.output (Go (put s rd (extend (load n s.mem a)))) Trap (grows_here s.output) tt

store_grows : (m : Segments) (s : State) (n a v : ℕ) → GrowsBy s.output (store_from m s n a v)
store_grows m s n a v = grows_if (can_store m a n) s.output (Go (record s { mem = store n s.mem a v; pc = s.pc + 4 })) Trap (grows_here s.output) tt

read_grows : (m : Segments) (s : State) (a n : ℕ) → GrowsBy s.output (read_input m s a n)
read_grows m s a n =
    grows_if (n == 0 || in_data m a n) s.output (Go (record s { reg = set_at s.reg 10 n; pc = s.pc + 4; mem = store_bytes (take n s.input) s.mem a; input = drop n s.input })) Trap (grows_here s.output) tt

write_grows : (m : Segments) (s : State) (a n : ℕ) → GrowsBy s.output (write_output m s a n)
write_grows m s a n =
    grows_if (n == 0 || in_text m a n || in_data m a n) s.output (Go (record s { reg = set_at s.reg 10 n; pc = s.pc + 4; output = s.output ++ bytes_from n s.mem a })) Trap (bytes_from n s.mem a, refl) tt

service_grows : (m : Segments) (s : State) → GrowsBy s.output (service m s)
service_grows m s =
    let a0 = read_reg s 10 in
    let a1 = read_reg s 11 in
    let a2 = read_reg s 12 in
    let a7 = read_reg s 17 in
    let rest = if a7 == 93 then End (a0 % 256) else Trap in
    let write = if a7 == 64 && a0 == 1 then write_output m s a1 a2 else rest in
    grows_if (a7 == 63 && a0 == 0) s.output (read_input m s a1 (min a2 (length s.input))) write (read_grows m s a1 (min a2 (length s.input)))
    (grows_if (a7 == 64 && a0 == 1) s.output (write_output m s a1 a2) rest (write_grows m s a1 a2)
    (grows_if (a7 == 93) s.output (End (a0 % 256)) Trap tt tt))

effect_grows : (m : Segments) (i : Instr) (s : State) → GrowsBy s.output (effect m i s)
effect_grows m (Lb rd rs1 imm) s = load_grows m s rd 1 (plus (read_reg s rs1) imm) (sign_extended (2 ^ 8))
effect_grows m (Lh rd rs1 imm) s = load_grows m s rd 2 (plus (read_reg s rs1) imm) (sign_extended (2 ^ 16))
effect_grows m (Lw rd rs1 imm) s = load_grows m s rd 4 (plus (read_reg s rs1) imm) of_word
effect_grows m (Ld rd rs1 imm) s = load_grows m s rd 8 (plus (read_reg s rs1) imm) (λ v. v)
effect_grows m (Lbu rd rs1 imm) s = load_grows m s rd 1 (plus (read_reg s rs1) imm) (λ v. v)
effect_grows m (Lhu rd rs1 imm) s = load_grows m s rd 2 (plus (read_reg s rs1) imm) (λ v. v)
effect_grows m (Lwu rd rs1 imm) s = load_grows m s rd 4 (plus (read_reg s rs1) imm) (λ v. v)
effect_grows m (Sb rs1 rs2 imm) s = store_grows m s 1 (plus (read_reg s rs1) imm) (read_reg s rs2)
effect_grows m (Sh rs1 rs2 imm) s = store_grows m s 2 (plus (read_reg s rs1) imm) (read_reg s rs2)
effect_grows m (Sw rs1 rs2 imm) s = store_grows m s 4 (plus (read_reg s rs1) imm) (read_reg s rs2)
effect_grows m (Sd rs1 rs2 imm) s = store_grows m s 8 (plus (read_reg s rs1) imm) (read_reg s rs2)
effect_grows m Ecall s = service_grows m s
effect_grows m _ s = grows_here s.output

step_grows : (m : Segments) (o : Option Instr) (s : State) → GrowsBy s.output (step m o s)
step_grows m None s = tt
step_grows m (Some i) s = effect_grows m i s

follow_grows : (n : Next) (s : State) → GrowsBy s.output n → Grows s.output (output_of (outcome_of (follow n s)))
follow_grows (Go t) s h = h
follow_grows (End status) s h = grows_here s.output
follow_grows Trap s h = grows_here s.output

next_grows : (m : Segments) (p : Standing) → Grows (output_of (outcome_of p)) (output_of (outcome_of (next m p)))
next_grows m (At s) = follow_grows (step m (fetch m s.pc) s) s (step_grows m (fetch m s.pc) s)
next_grows m (EndedWith status output) = grows_here output
next_grows m (TrappedAt address output) = grows_here output

after_grows : (m : Segments) (k : ℕ) (p : Standing) → Grows (output_of (outcome_of p)) (output_of (outcome_of (after m k p)))
after_grows m zero p = grows_here (output_of (outcome_of p))
after_grows m (suc k) p = grows_on _ _ _ (next_grows m p) (after_grows m k (next m p))

pub exec_grows : (m : Segments) (n k : ℕ) (s : State) → Grows (output_of (exec m n s)) (output_of (exec m (n + k) s))
exec_grows m n k s =
    subst (λ p. Grows (output_of (exec m n s)) (output_of (outcome_of p))) (sym (after-add m n k (At s))) (after_grows m k (after m n (At s)))
