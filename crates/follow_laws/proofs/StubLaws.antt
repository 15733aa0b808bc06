-- What the stubs do.
use Rattle.std.proofs.Common.{◌≡◌, ℕ, ◌+◌, ◌-◌, ◌*◌, ◌/◌, ◌%◌, ◌^◌, ◌<◌, pos, negsuc, true, List, [], ◌∷◌, ◌++◌, length, refl, sym, ap, ◌∙◌, subst, arith}
use Rattle.std.specs.Prelude.{min, take, drop, slice_index}
use Rattle.std.proofs.lemmas.Bool.{cond-true, and_parts, and_from, or_right, le-leb, lt-ltb}
use Rattle.rv64_isa.specs.declared.instr.Instr.TheVariants.{Lui, Jalr, Beq, Lbu, Sb, Addi, Ecall}
use Rattle.rv64_meaning.specs.Arithmetic.{plus, upper}
use Rattle.rv64_meaning.specs.Machine.{Segments, State, Go, Trap, set_at, load, store, store_bytes, bytes_from, in_text, in_data, can_load, can_store, put, goto, load_to, store_from, read_input, effect, step, follow, after}
use Rattle.rv64_meaning.proofs.MemoryLaws.{bytes_from_one, byte_same}
use Rattle.rv64_abi.specs.Offsets.{lo, upper_of, call}
use Rattle.final_link.specs.Stubs.{start_stub, getchar_stub}
use Rattle.follow_laws.specs.Relation.{StandsAt, ComesTo}
use Rattle.follow_laws.specs.Effects.{AfterGetchar, next_byte, called, StartCalls, ExitEnds, PutcharWrites, GetcharReads}
use Rattle.follow_laws.proofs.WayLaws.{one, then, stands_front}
use Rattle.follow_laws.proofs.NumberLaws.{address_parts}
use Rattle.follow_laws.proofs.TemplateLaws.{call_goes}

plus_zero : (v : ℕ) → v < 2 ^ 64 → plus v (pos 0) ≡ v
plus_zero v h = omega arith

back_to : (v : ℕ) → v < 2 ^ 64 → v % 2 ≡ 0 → plus v (pos 0) / 2 * 2 ≡ v
back_to v h even = omega arith

pub start_calls : StartCalls
start_calls m s top main at_is small near even has =
    let here = subst (λ n. StandsAt m n (start_stub top main)) (sym at_is) has in
    let ending = Addi 17 0 (pos 93) ∷ Ecall ∷ [] in
    let t = put s 2 (upper (upper_of (pos top))) in
    let u = put t 2 top in
    let place : s.pc + 4 + 4 ≡ 0x10008 = omega (arith, at_is) in
    let there = subst (λ n. StandsAt m n (call n main)) (sym place) (subst (λ n. StandsAt m n (call 0x10008 main)) place (stands_front m u.pc (call 0x10008 main) ending here.1.1)) in
    record {
      state = called u main;
      leads = then m s t (called u main) (Lui 2 (upper_of (pos top))) here.0 refl
          (then m t u (called u main) (Addi 2 2 (lo (pos top))) here.1.0 (ap (λ v. Go (put t 2 v)) (address_parts top small)) (call_goes m u main (omega (arith, at_is)) near even there));
      holds = record { place = refl; stack = refl; back = omega (arith, at_is); mem = refl; input = refl; output = refl };
    }

pub exit_ends : ExitEnds
exit_ends m s has =
    let t = put s 17 93 in
    let first = one m s t (Addi 17 0 (pos 93)) has.0 refl in
    record {
      steps = 2;
      ends = ap (λ o. after m 1 (follow (step m o s) s)) has.0 ∙ ap (λ o. follow (step m o t) t) has.1.0;
    }

pub putchar_writes : PutcharWrites
putchar_writes m s scratch small can ra even has =
    let s1 = put s 11 (upper (upper_of (pos scratch))) in
    let s2 = put s1 11 scratch in
    let s3 = record s2 { mem = store 1 s.mem scratch (s.reg 10); pc = s2.pc + 4 } in
    let s4 = put s3 10 1 in
    let s5 = put s4 12 1 in
    let s6 = put s5 17 64 in
    let s7 = record s6 { reg = set_at s6.reg 10 1; pc = s6.pc + 4; output = s.output ++ bytes_from 1 s3.mem scratch } in
    let s8 = goto (put s7 0 (s7.pc + 4)) (s.reg 1) in
    let stored : effect m (Sb 11 10 (pos 0)) s2 ≡ Go s3 =
    ap (λ a. store_from m s2 1 a (s.reg 10)) (plus_zero scratch (omega arith)) ∙ cond-true (can_store m scratch 1) (Go s3) Trap can in
    let inside = or_right (in_text m scratch 1) (in_data m scratch 1) (and_parts _ (in_data m scratch 1) can).1 in
    let written : effect m Ecall s6 ≡ Go s7 = cond-true _ _ _ inside in
    record {
      state = s8;
      leads = then m s s1 s8 (Lui 11 (upper_of (pos scratch))) has.0 refl
          (then m s1 s2 s8 (Addi 11 11 (lo (pos scratch))) has.1.0 (ap (λ v. Go (put s1 11 v)) (address_parts scratch small))
          (then m s2 s3 s8 (Sb 11 10 (pos 0)) has.1.1.0 stored
          (then m s3 s4 s8 (Addi 10 0 (pos 1)) has.1.1.1.0 refl
          (then m s4 s5 s8 (Addi 12 0 (pos 1)) has.1.1.1.1.0 refl
          (then m s5 s6 s8 (Addi 17 0 (pos 64)) has.1.1.1.1.1.0 refl
          (then m s6 s7 s8 Ecall has.1.1.1.1.1.1.0 written
          (one m s7 s8 (Jalr 0 1 (pos 0)) has.1.1.1.1.1.1.1.0 (ap (λ a. Go (goto (put s7 0 (s7.pc + 4)) a)) (back_to (s.reg 1) ra even)))))))));
      holds = record { place = refl; stack = refl; mem = refl; input = refl; output = ap (λ x. s.output ++ x) (bytes_from_one s3.mem scratch ∙ ap (λ x. x ∷ []) (byte_same s.mem scratch (s.reg 10))) };
    }

-- ---- getchar

-- the byte that was stored
none_more : (n : ℕ) → n + 256 * 0 ≡ n
none_more n = omega arith

load_one : (mem : ℕ → ℕ) (b a : ℕ) → load 1 (store_bytes (b ∷ []) mem a) a ≡ b
unfolding load store_bytes
load_one mem b a =
    let z : a - a ≡ 0 = omega arith in
    let byte : store_bytes (b ∷ []) mem a a ≡ b = cond-true _ _ _ (and_from _ _ (le-leb a a (omega arith)) (lt-ltb a (a + 1) (omega arith))) ∙ ap (slice_index (b ∷ [])) z in
    none_more (store_bytes (b ∷ []) mem a a) ∙ byte

one_read : (b : ℕ) (more : List ℕ) → min 1 (length (b ∷ more)) ≡ 1
one_read b more = omega arith

-- by what is left of the input
getchar_by : (input : List ℕ) (m : Segments) (s : State) (scratch : ℕ) → s.input ≡ input → scratch < 2 ^ 31 - 2 ^ 11 → can_store m scratch 1 ≡ true → s.pc < 2 ^ 30 → s.reg 1 < 2 ^ 64 → s.reg 1 % 2 ≡ 0
    → StandsAt m s.pc (getchar_stub scratch) → ComesTo m s (AfterGetchar scratch s)
getchar_by [] m s scratch e small can near ra even has =
    let s1 = put s 11 (upper (upper_of (pos scratch))) in
    let s2 = put s1 11 scratch in
    let s3 = put s2 10 0 in
    let s4 = put s3 12 1 in
    let s5 = put s4 17 63 in
    let s6 = record s5 { reg = set_at s5.reg 10 0; pc = s5.pc + 4; mem = store_bytes (take 0 s.input) s.mem scratch; input = drop 0 s.input } in
    let s7 = goto s6 (s6.pc + 4 + 4 + 4) in
    let s8 = put s7 10 (2 ^ 64 - 1) in
    let s9 = goto (put s8 0 (s8.pc + 4)) (s.reg 1) in
    let none : effect m Ecall s5 ≡ Go s6 = ap (λ (l : List ℕ). read_input m s5 scratch (min 1 (length l))) e in
    let ahead : plus s6.pc (pos 12) ≡ s6.pc + 4 + 4 + 4 = omega arith in
    record {
      state = s9;
      leads = then m s s1 s9 (Lui 11 (upper_of (pos scratch))) has.0 refl
          (then m s1 s2 s9 (Addi 11 11 (lo (pos scratch))) has.1.0 (ap (λ v. Go (put s1 11 v)) (address_parts scratch small))
          (then m s2 s3 s9 (Addi 10 0 (pos 0)) has.1.1.0 refl
          (then m s3 s4 s9 (Addi 12 0 (pos 1)) has.1.1.1.0 refl
          (then m s4 s5 s9 (Addi 17 0 (pos 63)) has.1.1.1.1.0 refl
          (then m s5 s6 s9 Ecall has.1.1.1.1.1.0 none
          (then m s6 s7 s9 (Beq 10 0 (pos 12)) has.1.1.1.1.1.1.0 (ap (λ a. Go (goto s6 a)) ahead)
          (then m s7 s8 s9 (Addi 10 0 (negsuc 0)) has.1.1.1.1.1.1.1.1.1.0 refl
          (one m s8 s9 (Jalr 0 1 (pos 0)) has.1.1.1.1.1.1.1.1.1.1.0 (ap (λ a. Go (goto (put s8 0 (s8.pc + 4)) a)) (back_to (s.reg 1) ra even))))))))));
      holds = record {
        place = refl;
        stack = refl;
        value = ap next_byte (sym e);
        mem = ap (λ (l : List ℕ). store_bytes (take 0 l) s.mem scratch) e ∙ ap (λ (l : List ℕ). store_bytes (take 1 l) s.mem scratch) (sym e);
        input = ap (drop 0) e ∙ ap (drop 1) (sym e);
        output = refl;
      };
    }
getchar_by (b ∷ more) m s scratch e small can near ra even has =
    let s1 = put s 11 (upper (upper_of (pos scratch))) in
    let s2 = put s1 11 scratch in
    let s3 = put s2 10 0 in
    let s4 = put s3 12 1 in
    let s5 = put s4 17 63 in
    let s6 = record s5 { reg = set_at s5.reg 10 1; pc = s5.pc + 4; mem = store_bytes (take 1 s.input) s.mem scratch; input = drop 1 s.input } in
    let s7 = goto s6 (s6.pc + 4) in
    let s8 = put s7 10 b in
    let s9 = goto (put s8 0 (s8.pc + 4)) (s.reg 1) in
    let in_there = (and_parts _ (in_data m scratch 1) can).1 in
    let loadable : can_load m scratch 1 ≡ true = and_from _ _ (and_parts _ (in_data m scratch 1) can).0 (or_right (in_text m scratch 1) (in_data m scratch 1) in_there) in
    let got : effect m Ecall s5 ≡ Go s6 =
    ap (λ (n : ℕ). read_input m s5 scratch n) (ap (λ (l : List ℕ). min 1 (length l)) e ∙ one_read b more) ∙ cond-true (in_data m scratch 1) (Go s6) Trap in_there in
    let value : load 1 (store_bytes (take 1 s.input) s.mem scratch) scratch ≡ b = ap (λ (l : List ℕ). load 1 (store_bytes (take 1 l) s.mem scratch) scratch) e ∙ load_one s.mem b scratch in
    let read : effect m (Lbu 10 11 (pos 0)) s7 ≡ Go s8 =
    ap (λ a. load_to m s7 10 1 a (λ v. v)) (plus_zero scratch (omega arith)) ∙ cond-true (can_load m scratch 1) (Go (put s7 10 (load 1 s7.mem scratch))) Trap loadable ∙ ap (λ v. Go (put s7 10 v)) value in
    record {
      state = s9;
      leads = then m s s1 s9 (Lui 11 (upper_of (pos scratch))) has.0 refl
          (then m s1 s2 s9 (Addi 11 11 (lo (pos scratch))) has.1.0 (ap (λ v. Go (put s1 11 v)) (address_parts scratch small))
          (then m s2 s3 s9 (Addi 10 0 (pos 0)) has.1.1.0 refl
          (then m s3 s4 s9 (Addi 12 0 (pos 1)) has.1.1.1.0 refl
          (then m s4 s5 s9 (Addi 17 0 (pos 63)) has.1.1.1.1.0 refl
          (then m s5 s6 s9 Ecall has.1.1.1.1.1.0 got
          (then m s6 s7 s9 (Beq 10 0 (pos 12)) has.1.1.1.1.1.1.0 refl
          (then m s7 s8 s9 (Lbu 10 11 (pos 0)) has.1.1.1.1.1.1.1.0 read
          (one m s8 s9 (Jalr 0 1 (pos 0)) has.1.1.1.1.1.1.1.1.0 (ap (λ a. Go (goto (put s8 0 (s8.pc + 4)) a)) (back_to (s.reg 1) ra even))))))))));
      holds = record { place = refl; stack = refl; value = ap next_byte (sym e); mem = refl; input = refl; output = refl };
    }

pub getchar_reads : GetcharReads
getchar_reads m s scratch small can near ra even has = getchar_by s.input m s scratch refl small can near ra even has
