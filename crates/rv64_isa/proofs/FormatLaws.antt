-- Words, fields and formats, both ways.
use Rattle.std.proofs.Common.{◌≡◌, ℕ, ◌≤◌, ◌-◌, ◌+◌, ◌*◌, ◌/◌, ◌%◌, ◌^◌, ◌<◌, ℤ, pos, negsuc, Some, ◌⊎◌, inl, inr, refl, sym, ap, subst, ◌∙◌, arith}
use Rattle.std.proofs.Math.Nat.{mod-eq_of_lt}
use Rattle.std.proofs.lemmas.Nat.{mod_below}
use Rattle.std.proofs.lemmas.Bool.{cases_lt}
use Rattle.std.proofs.lemmas.Bool.Decides.{nat_tests}
use Rattle.rv64_isa.specs.declared.fields.Fields.{Fields}
use Rattle.rv64_isa.specs.Format.{InFields, word_of_fields, fields_of_word, residue, signed, IsSigned, IsUnsigned, IsEven, Fits, Format, RType, IType, Shift6, Shift5, SType, BType, UType, JType, Whole, Shape, R, I, Sh6, Sh5, S, B, U, J, W, read, fields_of_format}

made : ℕ → ℕ → ℕ → ℕ → ℕ → ℕ → Fields
made a b c d e h = record { opcode = a; rd = b; funct3 = c; rs1 = d; rs2 = e; funct7 = h }

made_again : (a a' b b' c c' d d' e e' h h' : ℕ) → a ≡ a' → b ≡ b' → c ≡ c' → d ≡ d' → e ≡ e' → h ≡ h' → made a b c d e h ≡ made a' b' c' d' e' h'
made_again a a' b b' c c' d d' e e' h h' p q r s t u = cc

same_fields : (f g : Fields) → f.opcode ≡ g.opcode → f.rd ≡ g.rd → f.funct3 ≡ g.funct3 → f.rs1 ≡ g.rs1 → f.rs2 ≡ g.rs2 → f.funct7 ≡ g.funct7 → f ≡ g
unfolding made
same_fields f g a b c d e h = made_again f.opcode g.opcode f.rd g.rd f.funct3 g.funct3 f.rs1 g.rs1 f.rs2 g.rs2 f.funct7 g.funct7 a b c d e h

pub fields-word : (f : Fields) → InFields f → fields_of_word (word_of_fields f) ≡ f
fields-word f i = same_fields (fields_of_word (word_of_fields f)) f (omega arith) (omega arith) (omega arith) (omega arith) (omega arith) (omega arith)

pub word-fields : (w : ℕ) → word_of_fields (fields_of_word w) ≡ w
word-fields w = omega arith

pub in_fields : (w : ℕ) → w < 2 ^ 32 → InFields (fields_of_word w)
in_fields w h = record { opcode = omega arith; rd = omega arith; funct3 = omega arith; rs1 = omega arith; rs2 = omega arith; funct7 = omega arith }

-- an immediate in m values comes back from its residue, and a residue from the number of either sign
residue_pos : (m n : ℕ) → n < m → residue m (pos n) ≡ n
residue_pos m n h = mod-eq_of_lt h

residue_neg : (m n : ℕ) → n < m → residue m (negsuc n) ≡ m - 1 - n
residue_neg m n h = ap (λ k. m - 1 - k) (mod-eq_of_lt h)

signed_low : (m n : ℕ) → n < m / 2 → signed m n ≡ pos n
signed_low m n h = grind (arith, nat_tests)

signed_high : (m n : ℕ) → m / 2 ≤ n → signed m n ≡ negsuc (m - 1 - n)
signed_high m n h = grind (arith, nat_tests)

pub signed-residue : (m : ℕ) (z : ℤ) → m % 2 ≡ 0 → IsSigned m z → signed m (residue m z) ≡ z
signed-residue m (pos n) even h =
    ap (signed m) (residue_pos m n (omega (arith, h))) ∙ signed_low m n h
signed-residue m (negsuc n) even h =
    let back : m - 1 - (m - 1 - n) ≡ n = omega (arith, h) in
    ap (signed m) (residue_neg m n (omega (arith, h))) ∙ signed_high m (m - 1 - n) (omega (arith, h, even)) ∙ ap negsuc back

residue-signed_at : (m n : ℕ) → n < m → (n < m / 2) ⊎ (m / 2 ≤ n) → residue m (signed m n) ≡ n
residue-signed_at m n h (inl low) = ap (residue m) (signed_low m n low) ∙ residue_pos m n h
residue-signed_at m n h (inr high) =
    let back : m - 1 - (m - 1 - n) ≡ n = omega (arith, h) in
    ap (residue m) (signed_high m n high) ∙ residue_neg m (m - 1 - n) (omega (arith, h)) ∙ back

pub residue-signed : (m n : ℕ) → n < m → residue m (signed m n) ≡ n
residue-signed m n h = residue-signed_at m n h (cases_lt n (m / 2))

signed_fits_at : (m n : ℕ) → m % 2 ≡ 0 → n < m → (n < m / 2) ⊎ (m / 2 ≤ n) → IsSigned m (signed m n)
signed_fits_at m n even h (inl low) = subst (IsSigned m) (sym (signed_low m n low)) low
signed_fits_at m n even h (inr high) = subst (IsSigned m) (sym (signed_high m n high)) (omega (arith, h, high, even))

pub signed_fits : (m n : ℕ) → m % 2 ≡ 0 → n < m → IsSigned m (signed m n)
signed_fits m n even h = signed_fits_at m n even h (cases_lt n (m / 2))

-- an offset is even exactly where its residue is
residue_even : (m : ℕ) (z : ℤ) → m % 2 ≡ 0 → IsSigned m z → IsEven z → residue m z % 2 ≡ 0
residue_even m (pos n) even h e = ap (λ k. k % 2) (residue_pos m n (omega (arith, h))) ∙ e
residue_even m (negsuc n) even h e = ap (λ k. k % 2) (residue_neg m n (omega (arith, h))) ∙ omega (arith, h, even, e)

signed_even_at : (m n : ℕ) → m % 2 ≡ 0 → n < m → n % 2 ≡ 0 → (n < m / 2) ⊎ (m / 2 ≤ n) → IsEven (signed m n)
signed_even_at m n even h e (inl low) = subst IsEven (sym (signed_low m n low)) e
signed_even_at m n even h e (inr high) = subst IsEven (sym (signed_high m n high)) (omega (arith, h, even, e))

signed_even : (m n : ℕ) → m % 2 ≡ 0 → n < m → n % 2 ≡ 0 → IsEven (signed m n)
signed_even m n even h e = signed_even_at m n even h e (cases_lt n (m / 2))

residue_small : (m : ℕ) (z : ℤ) → IsUnsigned m z → pos (residue m z) ≡ z
residue_small m (pos n) h = ap pos (mod-eq_of_lt h)
residue_small m (negsuc n) h = absurd h

-- the format of a format
abbrev pub shape : Format → Shape
shape (RType opcode funct3 funct7 rd rs1 rs2) = R
shape (IType opcode funct3 rd rs1 imm) = I
shape (Shift6 opcode funct3 top rd rs1 imm) = Sh6
shape (Shift5 opcode funct3 top rd rs1 imm) = Sh5
shape (SType opcode funct3 rs1 rs2 imm) = S
shape (BType opcode funct3 rs1 rs2 imm) = B
shape (UType opcode rd imm) = U
shape (JType opcode rd imm) = J
shape (Whole word) = W

-- an immediate's bits, put into fields and read again
pub residue_lt : (k : ℕ) (z : ℤ) → 0 < k → residue k z < k
residue_lt k (pos n) h = mod_below n k h
residue_lt k (negsuc n) h = omega arith

joined : (v : ℕ) → v % 2 ^ 5 + v / 2 ^ 5 * 2 ^ 5 ≡ v
joined v = omega arith

b_joined : (v a c : ℕ) → v % 2 ≡ 0 → a ≡ v / 2 ^ 11 % 2 + v / 2 % 2 ^ 4 * 2 → c ≡ v / 2 ^ 5 % 2 ^ 6 + v / 2 ^ 12 * 2 ^ 6 → a / 2 * 2 + c % 2 ^ 6 * 2 ^ 5 + a % 2 * 2 ^ 11 + c / 2 ^ 6 * 2 ^ 12 ≡ v
b_joined v a c h p q = omega arith

u_joined : (v : ℕ) → v % 2 ^ 3 + v / 2 ^ 3 % 2 ^ 5 * 2 ^ 3 + v / 2 ^ 8 % 2 ^ 5 * 2 ^ 8 + v / 2 ^ 13 * 2 ^ 13 ≡ v
u_joined v = omega arith

j_joined : (v a c : ℕ) → v % 2 ≡ 0 → a ≡ v / 2 ^ 11 % 2 + v / 2 % 2 ^ 4 * 2 → c ≡ v / 2 ^ 5 % 2 ^ 6 + v / 2 ^ 20 * 2 ^ 6 → a / 2 * 2 + c % 2 ^ 6 * 2 ^ 5 + a % 2 * 2 ^ 11 + v / 2 ^ 12 % 2 ^ 3 * 2 ^ 12 + v / 2 ^ 15 % 2 ^ 5 * 2 ^ 15 + c / 2 ^ 6 * 2 ^ 20 ≡ v
j_joined v a c h p q = omega arith

-- what a format spells is read as that format
pub read-fields_of_format : (m : Format) → Fits m → read (shape m) (fields_of_format m) ≡ m
read-fields_of_format (RType opcode funct3 funct7 rd rs1 rs2) h = refl
read-fields_of_format (IType opcode funct3 rd rs1 imm) h =
    ap (λ z. IType opcode funct3 rd rs1 z) (ap (signed (2 ^ 12)) (joined (residue (2 ^ 12) imm)) ∙ signed-residue (2 ^ 12) imm refl h.2)
read-fields_of_format (Shift6 opcode funct3 top rd rs1 imm) h =
    let v = residue (2 ^ 6) imm in
    let t : (v / 2 ^ 5 + top * 2) / 2 ≡ top = omega (arith, residue_lt (2 ^ 6) imm (omega arith)) in
    let e : v % 2 ^ 5 + (v / 2 ^ 5 + top * 2) % 2 * 2 ^ 5 ≡ v = omega (arith, residue_lt (2 ^ 6) imm (omega arith)) in
    ap (λ n. (Shift6 opcode funct3 n rd rs1 (pos (v % 2 ^ 5 + (v / 2 ^ 5 + top * 2) % 2 * 2 ^ 5)))) t
    ∙ ap (λ z. Shift6 opcode funct3 top rd rs1 z) (ap pos e ∙ residue_small (2 ^ 6) imm h.2)
read-fields_of_format (Shift5 opcode funct3 top rd rs1 imm) h =
    ap (λ z. Shift5 opcode funct3 top rd rs1 z) (residue_small (2 ^ 5) imm h.2)
read-fields_of_format (SType opcode funct3 rs1 rs2 imm) h =
    ap (λ z. SType opcode funct3 rs1 rs2 z) (ap (signed (2 ^ 12)) (joined (residue (2 ^ 12) imm)) ∙ signed-residue (2 ^ 12) imm refl h.2)
read-fields_of_format (BType opcode funct3 rs1 rs2 imm) h =
    ap (λ z. BType opcode funct3 rs1 rs2 z) (ap (signed (2 ^ 13)) (b_joined (residue (2 ^ 13) imm) _ _ (residue_even (2 ^ 13) imm refl h.2 h.3) refl refl) ∙ signed-residue (2 ^ 13) imm refl h.2)
read-fields_of_format (UType opcode rd imm) h =
    ap (λ z. UType opcode rd z) (ap pos (u_joined (residue (2 ^ 20) imm)) ∙ residue_small (2 ^ 20) imm h.1)
read-fields_of_format (JType opcode rd imm) h =
    ap (λ z. JType opcode rd z) (ap (signed (2 ^ 21)) (j_joined (residue (2 ^ 21) imm) _ _ (residue_even (2 ^ 21) imm refl h.1 h.2) refl refl) ∙ signed-residue (2 ^ 21) imm refl h.1)
read-fields_of_format (Whole word) h = ap Whole (word-fields word)

pub some_inj : {A : Type 0} (x y : A) → Some x ≡ Some y → x ≡ y
some_inj x y e = cc

-- a format that has these fields, and operands that fit
pub record Spells (m : Format) (f : Fields) : Type 0 where
  pub spelled : fields_of_format m ≡ f
  pub fits : Fits m

-- fields read from an immediate v of a value
b_fields : (a c v : ℕ) → a < 2 ^ 5 → c < 2 ^ 7 → v ≡ a / 2 * 2 + c % 2 ^ 6 * 2 ^ 5 + a % 2 * 2 ^ 11 + c / 2 ^ 6 * 2 ^ 12 → (v / 2 ^ 11 % 2 + v / 2 % 2 ^ 4 * 2 ≡ a) × (v / 2 ^ 5 % 2 ^ 6 + v / 2 ^ 12 * 2 ^ 6 ≡ c) × (v < 2 ^ 13) × (v % 2 ≡ 0)
b_fields a c v p q e = (omega arith, omega arith, omega arith, omega arith)

j_fields : (a c g d v : ℕ) → a < 2 ^ 5 → c < 2 ^ 7 → g < 2 ^ 3 → d < 2 ^ 5 → v ≡ a / 2 * 2 + c % 2 ^ 6 * 2 ^ 5 + a % 2 * 2 ^ 11 + g * 2 ^ 12 + d * 2 ^ 15 + c / 2 ^ 6 * 2 ^ 20 → (v / 2 ^ 11 % 2 + v / 2 % 2 ^ 4 * 2 ≡ a) × (v / 2 ^ 5 % 2 ^ 6 + v / 2 ^ 20 * 2 ^ 6 ≡ c) × (v / 2 ^ 12 % 2 ^ 3 ≡ g) × (v / 2 ^ 15 % 2 ^ 5 ≡ d) × (v < 2 ^ 21) × (v % 2 ≡ 0)
j_fields a c g d v p q r s e = (omega arith, omega arith, omega arith, omega arith, omega arith, omega arith)

-- what is read from fields has these fields
pub spells : (s : Shape) (f : Fields) → InFields f → Spells (read s f) f
spells R f h = record { spelled = refl; fits = (h.rd, h.rs1, h.rs2) }
spells I f h =
    let small : f.rs2 + f.funct7 * 2 ^ 5 < 2 ^ 12 = omega arith in
    let r = residue-signed (2 ^ 12) (f.rs2 + f.funct7 * 2 ^ 5) small in
    record { spelled = same_fields _ f refl refl refl refl (ap (λ v. v % 2 ^ 5) r ∙ omega arith) (ap (λ v. v / 2 ^ 5) r ∙ omega arith); fits = (h.rd, h.rs1, signed_fits (2 ^ 12) _ refl small) }
spells Sh6 f h =
    let v = f.rs2 + f.funct7 % 2 * 2 ^ 5 in
    let small : v < 2 ^ 6 = omega (arith, h.rs2) in
    let r : v % 2 ^ 6 ≡ v = omega arith in
    record { spelled = same_fields _ f refl refl refl refl (ap (λ n. n % 2 ^ 5) r ∙ omega (arith, h.rs2)) (ap (λ n. n / 2 ^ 5 + f.funct7 / 2 * 2) r ∙ omega (arith, h.rs2)); fits = (h.rd, h.rs1, small) }
spells Sh5 f h =
    record { spelled = same_fields _ f refl refl refl refl (mod-eq_of_lt h.rs2) refl; fits = (h.rd, h.rs1, h.rs2) }
spells S f h =
    let small : f.rd + f.funct7 * 2 ^ 5 < 2 ^ 12 = omega arith in
    let r = residue-signed (2 ^ 12) (f.rd + f.funct7 * 2 ^ 5) small in
    record { spelled = same_fields _ f refl (ap (λ v. v % 2 ^ 5) r ∙ omega arith) refl refl refl (ap (λ v. v / 2 ^ 5) r ∙ omega arith); fits = (h.rs1, h.rs2, signed_fits (2 ^ 12) _ refl small) }
spells B f h =
    let v = f.rd / 2 * 2 + f.funct7 % 2 ^ 6 * 2 ^ 5 + f.rd % 2 * 2 ^ 11 + f.funct7 / 2 ^ 6 * 2 ^ 12 in
    let b = b_fields f.rd f.funct7 v h.rd h.funct7 refl in
    let r = residue-signed (2 ^ 13) v b.2 in
    record { spelled = same_fields _ f refl (ap (λ v. v / 2 ^ 11 % 2 + v / 2 % 2 ^ 4 * 2) r ∙ b.0) refl refl refl (ap (λ v. v / 2 ^ 5 % 2 ^ 6 + v / 2 ^ 12 * 2 ^ 6) r ∙ b.1); fits = (h.rs1, h.rs2, signed_fits (2 ^ 13) _ refl b.2, signed_even (2 ^ 13) _ refl b.2 b.3) }
spells U f h =
    let v = f.funct3 + f.rs1 * 2 ^ 3 + f.rs2 * 2 ^ 8 + f.funct7 * 2 ^ 13 in
    let small : v < 2 ^ 20 = omega arith in
    let r : v % 2 ^ 20 ≡ v = omega arith in
    record { spelled = same_fields _ f refl refl (ap (λ v. v % 2 ^ 3) r ∙ omega arith) (ap (λ v. v / 2 ^ 3 % 2 ^ 5) r ∙ omega arith) (ap (λ v. v / 2 ^ 8 % 2 ^ 5) r ∙ omega arith) (ap (λ v. v / 2 ^ 13) r ∙ omega arith); fits = (h.rd, small) }
spells J f h =
    let v = f.rs2 / 2 * 2 + f.funct7 % 2 ^ 6 * 2 ^ 5 + f.rs2 % 2 * 2 ^ 11 + f.funct3 * 2 ^ 12 + f.rs1 * 2 ^ 15 + f.funct7 / 2 ^ 6 * 2 ^ 20 in
    let b = j_fields f.rs2 f.funct7 f.funct3 f.rs1 v h.rs2 h.funct7 h.funct3 h.rs1 refl in
    let r = residue-signed (2 ^ 21) v b.4 in
    record { spelled = same_fields _ f refl refl (ap (λ v. v / 2 ^ 12 % 2 ^ 3) r ∙ b.2) (ap (λ v. v / 2 ^ 15 % 2 ^ 5) r ∙ b.3) (ap (λ v. v / 2 ^ 11 % 2 + v / 2 % 2 ^ 4 * 2) r ∙ b.0) (ap (λ v. v / 2 ^ 5 % 2 ^ 6 + v / 2 ^ 20 * 2 ^ 6) r ∙ b.1); fits = (h.rd, signed_fits (2 ^ 21) _ refl b.4, signed_even (2 ^ 21) _ refl b.4 b.5) }
spells W f h = record { spelled = fields-word f h; fits = tt }
