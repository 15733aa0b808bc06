-- Relocations change words, and not how many there are.
use Rattle.std.proofs.Common.{◌≡◌, ℕ, ◌+◌, ◌/◌, Bool, true, false, cond, List, [], ◌∷◌, length, refl, ◌∙◌}
use Rattle.std.specs.Prelude.{◌==◌, pos, ◌-ℤ◌, slice_index}
use Rattle.std.proofs.lemmas.List.{length-set}
use Rattle.elf_container.specs.declared.relocatable.Reloc.{Reloc}
use Rattle.elf_container.specs.declared.format.TheConstants.{R_RISCV_CALL_PLT, R_RISCV_HI20, R_RISCV_LO12_I, R_RISCV_LO12_S}
use Rattle.final_link.specs.Filling.{with_upper, with_lower, with_store_lower, changed_at, filled_by, filled}

length-changed : (place : ℕ) (change : ℕ → ℕ) (words : List ℕ) → length (changed_at place change words) ≡ length words
length-changed place change words = length-set words place (change (slice_index words place))

either_long : (b : Bool) (xs ys : List ℕ) (n : ℕ) → length xs ≡ n → length ys ≡ n → length (cond b xs ys) ≡ n
either_long true xs ys n h g = h
either_long false xs ys n h g = g

length-filled_by : (kind place from to : ℕ) (words : List ℕ) → length (filled_by kind place from to words) ≡ length words
unfolding filled_by
length-filled_by kind place from to words =
    let d = pos to -ℤ pos from in
    let n = length words in
    either_long (kind == R_RISCV_CALL_PLT) _ _ n
    (length-changed (place + 1) (with_lower d) (changed_at place (with_upper d) words) ∙ length-changed place (with_upper d) words)
    (either_long (kind == R_RISCV_HI20) _ _ n (length-changed place (with_upper (pos to)) words)
    (either_long (kind == R_RISCV_LO12_I) _ _ n (length-changed place (with_lower (pos to)) words)
    (either_long (kind == R_RISCV_LO12_S) _ _ n (length-changed place (with_store_lower (pos to)) words) refl)))

pub length-filled : (rs : List Reloc) (address_of : ℕ → ℕ) (at : ℕ) (words : List ℕ) → length (filled rs address_of at words) ≡ length words
length-filled [] address_of at words = refl
length-filled (r ∷ rs) address_of at words =
    length-filled rs address_of at (filled_by r.kind (r.offset / 4) (at + r.offset) (address_of r.symbol) words)
    ∙ length-filled_by r.kind (r.offset / 4) (at + r.offset) (address_of r.symbol) words
