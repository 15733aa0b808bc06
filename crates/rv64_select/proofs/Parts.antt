-- A constant by at most n parts.
use Rattle.std.proofs.Common.{◌≡◌, ℕ, zero, suc, ◌-◌, ◌<◌, ℤ, pos, negsuc, true, false, List, [], ◌∷◌, ◌++◌, refl, sym, ap, ap₂, ◌∙◌, arith, append_assoc}
use Rattle.std.specs.Prelude.{Result, Ok, Err, OnOk, FitsSigned}
use Rattle.std.specs.Int.{w32}
use Rattle.std.proofs.lemmas.List.{map-append}
use Rattle.std.proofs.lemmas.Int.{ints}
use borrow.Author.Tests.{ltb-true}
use Rattle.rv64_isa.specs.declared.instr.Instr.{Instr}
use Rattle.rv64_isa.specs.declared.instr.Instr.TheVariants.{Addi, Slli}
use Rattle.rv64_abi.specs.Offsets.{hi, lo}
use Rattle.rv64_select.specs.declared.item.Item.{Item}
use Rattle.rv64_select.specs.declared.item.Item.TheVariants.{Plain}
use Rattle.rv64_select.specs.Assembly.{plain}
use Rattle.rv64_select.specs.Templates.{is_signed_in, long_constant, constant_in}

pub parts_none : (n r : ℕ) (c : ℤ) → n ≡ 0 → constant_in n r c ≡ []
unfolding constant_in
parts_none n r c e = rw e refl

pub parts_short : (n r : ℕ) (c : ℤ) → 0 < n → is_signed_in 12 c ≡ true → constant_in n r c ≡ Addi r 0 c ∷ []
unfolding constant_in
parts_short zero r c h e = absurd (omega arith)
parts_short (suc n) r c h e = rw e refl

pub parts_word : (n r : ℕ) (c : ℤ) → 0 < n → is_signed_in 12 c ≡ false → is_signed_in 32 c ≡ true → constant_in n r c ≡ long_constant r c
unfolding constant_in
parts_word zero r c h e f = absurd (omega arith)
parts_word (suc n) r c h e f = rw (e, f) refl

pub parts_more : (n r : ℕ) (c : ℤ) → 0 < n → is_signed_in 12 c ≡ false → is_signed_in 32 c ≡ false
    → constant_in n r c ≡ constant_in (n - 1) r (hi c) ++ (Slli r r (pos 12) ∷ Addi r r (lo c) ∷ [])
unfolding constant_in
parts_more zero r c h e f = absurd (omega arith)
parts_more (suc n) r c h e f =
    let less : n ≡ suc n - 1 = omega arith in
    rw (e, f) (ap (λ (m : ℕ). constant_in m r (hi c) ++ (Slli r r (pos 12) ∷ Addi r r (lo c) ∷ [])) less)

pub on_ok : {T E : Type 0} (r : Result T E) (P Q : Type 0) → (P → Q) → OnOk r P → OnOk r Q
on_ok (Ok x) P Q f p = f p
on_ok (Err e) P Q f p = p

pub short_fits : (c : ℤ) → is_signed_in 12 c ≡ true → FitsSigned w32 c
short_fits (pos n) e = let h = ltb-true n 2048 e in omega (arith, ints, h)
short_fits (negsuc n) e = let h = ltb-true n 2048 e in omega (arith, ints, h)

-- the parts of the upper part, and the lower one
pub parts_joined : (old mid new : List Item) (n r : ℕ) (c h l : ℤ) → 0 < n → is_signed_in 12 c ≡ false → is_signed_in 32 c ≡ false → h ≡ hi c → l ≡ lo c
    → mid ≡ old ++ plain (constant_in (n - 1) r h) → new ≡ mid ++ plain (Slli r r (pos 12) ∷ Addi r r l ∷ []) → new ≡ old ++ plain (constant_in n r c)
parts_joined old mid new n r c h l some e f g k before after =
    let upper = constant_in (n - 1) r h in
    let last : List Instr = Slli r r (pos 12) ∷ Addi r r l ∷ [] in
    let same : constant_in (n - 1) r (hi c) ++ (Slli r r (pos 12) ∷ Addi r r (lo c) ∷ []) ≡ upper ++ last =
    ap₂ (λ (z w : ℤ). constant_in (n - 1) r z ++ (Slli r r (pos 12) ∷ Addi r r w ∷ [])) (sym g) (sym k) in
    after ∙ ap (λ (is : List Item). is ++ plain last) before ∙ append_assoc old (plain upper) (plain last)
    ∙ ap (λ (is : List Item). old ++ is) (sym (map-append Plain upper last))
    ∙ ap (λ (is : List Instr). old ++ plain is) (sym (parts_more n r c some e f ∙ same))
