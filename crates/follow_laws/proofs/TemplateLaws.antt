-- What the templates do, each from one state to one state.
use Rattle.std.proofs.Common.{◌≡◌, ℕ, zero, suc, ◌+◌, ◌-◌, ◌*◌, ◌/◌, ◌%◌, ◌^◌, ◌<◌, ◌≤◌, ℤ, pos, negsuc, ◌-ℤ◌, Bool, true, false, cond, List, [], ◌∷◌, ◌++◌, length, refl, sym, ap, ◌∙◌, subst, arith, length-append}
use Rattle.std.specs.Prelude.{◌==◌, nat_le, neg_ℤ}
use Rattle.std.proofs.Math.Path.{fun_ext}
use Rattle.std.proofs.lemmas.Bool.{cond-true, cond-false, eq-eqb, lt-ltb}
use Rattle.rv64_isa.specs.declared.instr.Instr.{Instr}
use Rattle.rv64_isa.specs.declared.instr.Instr.TheVariants.{Lui, Auipc, Jalr, Ld, Sd, Addi, Addiw, Add, Slli}
use Rattle.rv64_isa.specs.Format.{IsSigned}
use Rattle.rv64_meaning.specs.Arithmetic.{plus, of_word, upper, add, bits64}
use Rattle.rv64_meaning.specs.Machine.{Segments, State, Go, Trap, read_reg, set_at, load, store, can_load, can_store, put, goto, load_to, store_from}
use Rattle.rv64_abi.specs.Offsets.{hi, lo, upper_of}
use Rattle.rv64_select.specs.Templates.{is_signed_in, long_constant, constant_in, constant, load_slot, store_slot}
use Rattle.follow_laws.specs.Relation.{StandsAt, Leads, ComesTo}
use Rattle.follow_laws.specs.Effects.{Differ, with_register, Stored, ConstantSets, LoadSets, StoreStores, CallGoes, EnterMakesFrame, LeaveReturns}
use Rattle.follow_laws.proofs.WayLaws.{one, then, leads_as, leads_twice, stands_front, stands_back}
use Rattle.follow_laws.proofs.NumberLaws.{offset_parts, word_parts, shifted_parts, from_zero, distance, signed_32, hi_43, hi_54, hi_64}

-- ---- registers

one_of : (b : Bool) (w v x : ℕ) → cond b w (cond b v x) ≡ cond b w x
one_of true w v x = refl
one_of false w v x = refl

-- the second of two writes at one place stays
pub set_twice : (f : ℕ → ℕ) (a v w : ℕ) → set_at (set_at f a v) a w ≡ set_at f a w
set_twice f a v w = fun_ext (λ q. one_of (q == a) w v (f q))

pub read_same : (s : State) (r v : ℕ) → Differ r 0 → read_reg (put s r v) r ≡ v
read_same s r v h = cond-false (r == 0) 0 (set_at s.reg r v r) h ∙ cond-true (r == r) v (s.reg r) (eq-eqb r r refl)

pub set_other : (f : ℕ → ℕ) (a v q : ℕ) → Differ q a → set_at f a v q ≡ f q
set_other f a v q h = cond-false (q == a) v (f q) h

-- ---- constants

-- the three forms of a constant
abbrev constant_by : Bool → Bool → ℕ → ℤ → List Instr → List Instr
constant_by true b r c more = Addi r 0 c ∷ []
constant_by false true r c more = long_constant r c
constant_by false false r c more = more ++ (Slli r r (pos 12) ∷ Addi r r (lo c) ∷ [])

constant_forms : (a b : Bool) (r : ℕ) (c : ℤ) (more : List Instr) → cond a (Addi r 0 c ∷ []) (cond b (long_constant r c) (more ++ (Slli r r (pos 12) ∷ Addi r r (lo c) ∷ []))) ≡ constant_by a b r c more
constant_forms true b r c more = refl
constant_forms false true r c more = refl
constant_forms false false r c more = refl

-- that these instructions set the register to the constant
abbrev Sets : Segments → State → ℕ → ℤ → List Instr → Type 0
Sets m s r c code = StandsAt m s.pc code → Leads m s (with_register s r (bits64 c) (length code))

constant_by_sets : (a b : Bool) (m : Segments) (s : State) (r : ℕ) (c : ℤ) (more : List Instr) → Differ r 0 → IsSigned (2 ^ 64) c → (b ≡ true → IsSigned (2 ^ 32) c) → (b ≡ false → Sets m s r (hi c) more) → Sets m s r c (constant_by a b r c more)
constant_by_sets true b m s r c more r_is fits word ih has = one m s _ (Addi r 0 c) has.0 (ap (λ v. Go (put s r v)) (from_zero c))
constant_by_sets false true m s r c more r_is fits word ih has =
    let t = put s r (upper (upper_of c)) in
    let last = put t r (bits64 c) in
    let e = ap (λ x. Go (put t r (of_word (plus x (lo c))))) (read_same s r (upper (upper_of c)) r_is) ∙ ap (λ v. Go (put t r v)) (word_parts c (word refl)) in
    let place : s.pc + 4 + 4 ≡ s.pc + 4 * 2 = omega arith in
    let same = ap (λ g. record s { reg = g; pc = s.pc + 4 + 4 }) (set_twice s.reg r (upper (upper_of c)) (bits64 c)) ∙ ap (λ p. record s { reg = set_at s.reg r (bits64 c); pc = p }) place in
    leads_as m s last _ same (then m s t last (Lui r (upper_of c)) has.0 refl (one m t last (Addiw r r (lo c)) has.1.0 e))
constant_by_sets false false m s r c more r_is fits word ih has =
    let last_two = Slli r r (pos 12) ∷ Addi r r (lo c) ∷ [] in
    let high = bits64 (hi c) in
    let up = high * 4096 % 2 ^ 64 in
    let t = with_register s r high (length more) in
    let u = put t r up in
    let w = put u r (bits64 c) in
    let back = stands_back m s.pc more last_two has in
    let read_t : read_reg t r ≡ high = cond-false (r == 0) 0 (set_at s.reg r high r) r_is ∙ cond-true (r == r) high (s.reg r) (eq-eqb r r refl) in
    let e = ap (λ x. Go (put t r (x * 4096 % 2 ^ 64))) read_t in
    let f = ap (λ x. Go (put u r (plus x (lo c)))) (read_same t r up r_is) ∙ ap (λ v. Go (put u r v)) (shifted_parts c fits) in
    let place : s.pc + 4 * length more + 4 + 4 ≡ s.pc + 4 * length (more ++ last_two) = omega (arith, length-append more last_two) in
    let same = ap (λ g. record s { reg = g; pc = s.pc + 4 * length more + 4 + 4 }) (set_twice (set_at s.reg r high) r up (bits64 c) ∙ set_twice s.reg r high (bits64 c))
    ∙ ap (λ p. record s { reg = set_at s.reg r (bits64 c); pc = p }) place in
    leads_as m s w _ same
    (leads_twice m s t w (ih refl (stands_front m s.pc more last_two has)) (then m t u w (Slli r r (pos 12)) back.0 e (one m u w (Addi r r (lo c)) back.1.0 f)))

constant_more : (n : ℕ) (m : Segments) (s : State) (r : ℕ) (c : ℤ) → Differ r 0 → IsSigned (2 ^ 64) c → (is_signed_in 32 c ≡ false → Sets m s r (hi c) (constant_in n r (hi c))) → Sets m s r c (constant_in (suc n) r c)
unfolding constant_in
constant_more n m s r c r_is fits ih =
    subst (Sets m s r c) (sym (constant_forms (is_signed_in 12 c) (is_signed_in 32 c) r c (constant_in n r (hi c))))
    (constant_by_sets (is_signed_in 12 c) (is_signed_in 32 c) m s r c (constant_in n r (hi c)) r_is fits (signed_32 c) ih)

word_is : (c : ℤ) → IsSigned (2 ^ 32) c → is_signed_in 32 c ≡ true
word_is (pos k) h = lt-ltb k (2 ^ 31) (omega arith)
word_is (negsuc k) h = lt-ltb k (2 ^ 31) (omega arith)

pub wide_32 : (c : ℤ) → IsSigned (2 ^ 32) c → IsSigned (2 ^ 64) c
wide_32 (pos k) h = omega arith
wide_32 (negsuc k) h = omega arith

wide_43 : (c : ℤ) → IsSigned (2 ^ 43) c → IsSigned (2 ^ 64) c
wide_43 (pos k) h = omega arith
wide_43 (negsuc k) h = omega arith

wide_54 : (c : ℤ) → IsSigned (2 ^ 54) c → IsSigned (2 ^ 64) c
wide_54 (pos k) h = omega arith
wide_54 (negsuc k) h = omega arith

never : {A : Type 0} (b : Bool) → b ≡ true → b ≡ false → A
never b e f = cc

pub constant_sets : ConstantSets
unfolding constant
constant_sets m s r c fits r_is has =
    let c1 = hi c in
    let c2 = hi c1 in
    let c3 = hi c2 in
    let f1 = hi_64 c fits in
    let f2 = hi_54 c1 f1 in
    let f3 = hi_43 c2 f2 in
    let none : is_signed_in 32 c3 ≡ false → Sets m s r (hi c3) (constant_in 0 r (hi c3)) = λ e. never (is_signed_in 32 c3) (word_is c3 f3) e in
    constant_more 3 m s r c r_is fits
    (λ _. constant_more 2 m s r c1 r_is (wide_54 c1 f1) (λ _. constant_more 1 m s r c2 r_is (wide_43 c2 f2) (λ _. constant_more 0 m s r c3 r_is (wide_32 c3 f3) none))) has

-- ---- slots

slot_at : (v slot : ℕ) → v + slot < 2 ^ 64 → plus v (pos slot) ≡ v + slot
slot_at v slot h = omega arith

loads : (m : Segments) (s : State) (r a b : ℕ) → a ≡ b → can_load m b 8 ≡ true → load_to m s r 8 a (λ v. v) ≡ Go (put s r (load 8 s.mem b))
loads m s r a b e can = ap (λ x. load_to m s r 8 x (λ v. v)) e ∙ cond-true (can_load m b 8) (Go (put s r (load 8 s.mem b))) Trap can

load_by : (b : Bool) (m : Segments) (s : State) (r slot : ℕ) → Differ r 0 → Differ 2 r → slot < 2 ^ 31 - 2 ^ 11 → s.reg 2 + slot < 2 ^ 64 → can_load m (s.reg 2 + slot) 8 ≡ true
    → (code : List Instr) → cond b (Ld r 2 (pos slot) ∷ []) (Lui r (upper_of (pos slot)) ∷ Add r r 2 ∷ Ld r r (lo (pos slot)) ∷ []) ≡ code → StandsAt m s.pc code
    → Leads m s (with_register s r (load 8 s.mem (s.reg 2 + slot)) (length code))
load_by true m s r slot r_is apart small fits can code e =
    subst (λ l. StandsAt m s.pc l → Leads m s (with_register s r (load 8 s.mem (s.reg 2 + slot)) (length l))) e
    (λ has. one m s _ (Ld r 2 (pos slot)) has.0 (loads m s r _ _ (slot_at (s.reg 2) slot fits) can))
load_by false m s r slot r_is apart small fits can code e =
    let up = upper (upper_of (pos slot)) in
    let sum = add up (s.reg 2) in
    let value = load 8 s.mem (s.reg 2 + slot) in
    let t = put s r up in
    let u = put t r sum in
    let w = put u r value in
    let added = ap (λ x. Go (put t r (add x (read_reg t 2)))) (read_same s r up r_is) ∙ ap (λ x. Go (put t r (add up x))) (set_other s.reg r up 2 apart) in
    let address = ap (λ x. plus x (lo (pos slot))) (read_same t r sum r_is) ∙ offset_parts slot (s.reg 2) small fits in
    let place : s.pc + 4 + 4 + 4 ≡ s.pc + 4 * 3 = omega arith in
    let same = ap (λ g. record s { reg = g; pc = s.pc + 4 + 4 + 4 }) (set_twice (set_at s.reg r up) r sum value ∙ set_twice s.reg r up value)
    ∙ ap (λ p. record s { reg = set_at s.reg r value; pc = p }) place in
    subst (λ l. StandsAt m s.pc l → Leads m s (with_register s r value (length l))) e
    (λ has. leads_as m s w _ same
    (then m s t w (Lui r (upper_of (pos slot))) has.0 refl (then m t u w (Add r r 2) has.1.0 added (one m u w (Ld r r (lo (pos slot))) has.1.1.0 (loads m u r _ _ address can)))))

pub load_sets : LoadSets
load_sets m s r slot r_is apart small fits can has = load_by (nat_le slot 2047) m s r slot r_is apart small fits can _ refl has

stores : (m : Segments) (s : State) (a b v : ℕ) → a ≡ b → can_store m b 8 ≡ true → store_from m s 8 a v ≡ Go (record s { mem = store 8 s.mem b v; pc = s.pc + 4 })
stores m s a b v e can = ap (λ x. store_from m s 8 x v) e ∙ cond-true (can_store m b 8) (Go (record s { mem = store 8 s.mem b v; pc = s.pc + 4 })) Trap can

read_past : (s : State) (r q v n : ℕ) → Differ r q → read_reg (record s { reg = set_at s.reg q v; pc = n }) r ≡ read_reg s r
read_past s r q v n h = ap (λ x. cond (r == 0) 0 x) (set_other s.reg q v r h)

store_by : (b : Bool) (m : Segments) (s : State) (r slot : ℕ) → Differ r 28 → slot < 2 ^ 31 - 2 ^ 11 → s.reg 2 + slot < 2 ^ 64 → can_store m (s.reg 2 + slot) 8 ≡ true
    → (code : List Instr) → cond b (Sd 2 r (pos slot) ∷ []) (Lui 28 (upper_of (pos slot)) ∷ Add 28 28 2 ∷ Sd 28 r (lo (pos slot)) ∷ []) ≡ code → StandsAt m s.pc code
    → ComesTo m s (Stored (length code) r slot s)
store_by true m s r slot apart small fits can code e =
    let t = record s { mem = store 8 s.mem (s.reg 2 + slot) (read_reg s r); pc = s.pc + 4 } in
    subst (λ l. StandsAt m s.pc l → ComesTo m s (Stored (length l) r slot s)) e
    (λ has. record {
      state = t;
      leads = one m s t (Sd 2 r (pos slot)) has.0 (stores m s _ _ (read_reg s r) (slot_at (s.reg 2) slot fits) can);
      holds = record { place = refl; mem = refl; others = λ q h. refl; input = refl; output = refl };
    })
store_by false m s r slot apart small fits can code e =
    let up = upper (upper_of (pos slot)) in
    let sum = add up (s.reg 2) in
    let t = put s 28 up in
    let u = put t 28 sum in
    let w = record u { mem = store 8 s.mem (s.reg 2 + slot) (read_reg u r); pc = u.pc + 4 } in
    let past = read_past t r 28 sum (t.pc + 4) apart ∙ read_past s r 28 up (s.pc + 4) apart in
    subst (λ l. StandsAt m s.pc l → ComesTo m s (Stored (length l) r slot s)) e
    (λ has. record {
      state = w;
      leads = then m s t w (Lui 28 (upper_of (pos slot))) has.0 refl
          (then m t u w (Add 28 28 2) has.1.0 refl
          (one m u w (Sd 28 r (lo (pos slot))) has.1.1.0 (stores m u _ _ (read_reg u r) (offset_parts slot (s.reg 2) small fits) can)));
      holds = record {
        place = omega arith;
        mem = ap (store 8 s.mem (s.reg 2 + slot)) past;
        others = λ q h. set_other t.reg 28 sum q h ∙ set_other s.reg 28 up q h;
        input = refl;
        output = refl;
      };
    })

pub store_stores : StoreStores
store_stores m s r slot apart small fits can has = store_by (nat_le slot 2047) m s r slot apart small fits can _ refl has

-- ---- calls

pub call_goes : CallGoes
call_goes m s to h k even has =
    let d = pos to -ℤ pos s.pc in
    let t = put s 1 (add s.pc (upper (upper_of d))) in
    let there : to / 2 * 2 ≡ to = omega arith in
    let e = ap (λ a. Go (goto (put t 1 (t.pc + 4)) (a / 2 * 2))) (distance s.pc to h k) ∙ ap (λ a. Go (goto (put t 1 (t.pc + 4)) a)) there in
    let place : s.pc + 4 + 4 ≡ s.pc + 8 = omega arith in
    let same = ap (λ g. record s { reg = g; pc = to }) (set_twice s.reg 1 (add s.pc (upper (upper_of d))) (s.pc + 4 + 4)) ∙ ap (λ p. record s { reg = set_at s.reg 1 p; pc = to }) place in
    leads_as m s _ _ same (then m s t (goto (put t 1 (t.pc + 4)) to) (Auipc 1 (upper_of d)) has.0 refl (one m t (goto (put t 1 (t.pc + 4)) to) (Jalr 1 1 (lo d)) has.1.0 e))

-- ---- frames

-- a size taken from the stack pointer, as a constant
down_fits : (size : ℕ) → size ≤ 2 ^ 63 → IsSigned (2 ^ 64) (neg_ℤ (pos size))
down_fits zero h = omega arith
down_fits (suc size) h = omega arith

down : (v size : ℕ) → v < 2 ^ 63 → size ≤ v → add v (bits64 (neg_ℤ (pos size))) ≡ v - size
down v zero h l = omega arith
down v (suc size) h l = omega arith

up : (v size : ℕ) → v < 2 ^ 63 → size < 2 ^ 63 → add v (bits64 (pos size)) ≡ v + size
up v size h l = omega arith

pub enter_makes_frame : EnterMakesFrame
enter_makes_frame m s size slot high deep small can has =
    let k = constant 5 (neg_ℤ (pos size)) in
    let save = store_slot 1 slot in
    let after = stands_back m s.pc k (Add 2 2 5 ∷ save) has in
    let t = with_register s 5 (bits64 (neg_ℤ (pos size))) (length k) in
    let u = put t 2 (s.reg 2 - size) in
    let q = store_stores m u 1 slot refl small (omega arith) can after.1 in
    let w = q.state in
    let to_t = constant_sets m s 5 (neg_ℤ (pos size)) (down_fits size (omega arith)) refl (stands_front m s.pc k (Add 2 2 5 ∷ save) has) in
    let len = length-append k (Add 2 2 5 ∷ save) in
    record {
      state = w;
      leads = leads_twice m s t w to_t (then m t u w (Add 2 2 5) after.0 (ap (λ x. Go (put t 2 x)) (down (s.reg 2) size high deep)) q.leads);
      holds = record {
        place = q.holds.place ∙ omega arith;
        stack = q.holds.others 2 refl;
        mem = q.holds.mem;
        others = λ r a b c. q.holds.others r c ∙ set_other t.reg 2 (s.reg 2 - size) r a ∙ set_other s.reg 5 (bits64 (neg_ℤ (pos size))) r b;
        input = q.holds.input;
        output = q.holds.output;
      };
    }

pub leave_returns : LeaveReturns
leave_returns m s size slot high big small can back even has =
    let ret = load 8 s.mem (s.reg 2 + slot) in
    let fetched = load_slot 1 slot in
    let k = constant 5 (pos size) in
    let last = Add 2 2 5 ∷ Jalr 0 1 (pos 0) ∷ [] in
    let after = stands_back m s.pc fetched (k ++ last) has in
    let t = with_register s 1 ret (length fetched) in
    let u = with_register t 5 (bits64 (pos size)) (length k) in
    let v = put u 2 (s.reg 2 + size) in
    let w = goto (put v 0 (v.pc + 4)) ret in
    let end = stands_back m t.pc k last after in
    let there : plus ret (pos 0) / 2 * 2 ≡ ret = omega arith in
    record {
      state = w;
      leads = leads_twice m s t w (load_sets m s 1 slot refl refl small (omega arith) can (stands_front m s.pc fetched (k ++ last) has))
          (leads_twice m t u w (constant_sets m t 5 (pos size) (omega arith) refl (stands_front m t.pc k last after))
          (then m u v w (Add 2 2 5) end.0 (ap (λ x. Go (put u 2 x)) (up (s.reg 2) size high big))
          (one m v w (Jalr 0 1 (pos 0)) end.1.0 (ap (λ a. Go (goto (put v 0 (v.pc + 4)) a)) there))));
      holds = record {
        place = refl;
        stack = refl;
        mem = refl;
        others = λ r a b c d. set_other v.reg 0 (v.pc + 4) r a ∙ set_other u.reg 2 (s.reg 2 + size) r c ∙ set_other t.reg 5 (bits64 (pos size)) r d ∙ set_other s.reg 1 ret r b;
        input = refl;
        output = refl;
      };
    }
