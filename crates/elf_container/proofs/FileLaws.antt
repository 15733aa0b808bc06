-- The numbers of a laid out file's header pass the tests.
use Rattle.std.proofs.Common.{◌≡◌, ℕ, ◌+◌, ◌-◌, ◌*◌, ◌^◌, ◌<◌, ◌≤◌, true, false, eqb, List, ◌++◌, length, None, refl, sym, ap, ◌∙◌, length-append, arith}
use Rattle.std.specs.Prelude.{nat_lt, position}
use Rattle.std.specs.List.{list_any}
use Rattle.std.proofs.lemmas.Bool.Decides.{nat_tests}
use Rattle.cursors.specs.Fixed.{le16, le32}
use Rattle.elf_container.specs.declared.headers.Header.{Header}
use Rattle.elf_container.specs.Format.{file_header}
use Rattle.elf_container.specs.Reading.{number, not_elf, wrong_class, wrong_machine, form_fault, shoff, shnum, shstrndx, table_end, header_fault, passes, is_compressed}
use Rattle.elf_container.proofs.FormSteps.{position_none}
use Rattle.elf_container.proofs.HeaderLaws.{file_shoff, file_shnum, file_shstrndx, file_header_len}

elf : (table count : ℕ) (rest : List ℕ) → not_elf (file_header table count ++ rest) ≡ None
unfolding not_elf file_header
elf table count rest = refl

class : (table count : ℕ) (rest : List ℕ) → wrong_class (file_header table count ++ rest) ≡ None
unfolding wrong_class file_header
class table count rest = refl

machine : (table count : ℕ) (rest : List ℕ) → wrong_machine (file_header table count ++ rest) ≡ None
unfolding wrong_machine number file_header le16 le32
machine table count rest = refl

not_below : (a b : ℕ) → b ≤ a → nat_lt a b ≡ false
not_below a b h = grind (arith, nat_tests)

equal : (a b : ℕ) → a ≡ b → eqb a b ≡ true
equal a b e = grind (arith, nat_tests)

-- a file with this header, whose table fills the file to its end
pub record HasHeader (bytes : List ℕ) (table count : ℕ) : Type 0 where
  pub rest : List ℕ
  pub is : bytes ≡ file_header table count ++ rest
  pub table_small : table < 2 ^ 64
  pub count_least : 2 ≤ count
  pub count_small : count < 2 ^ 16
  pub end : table + 64 * count ≡ length bytes

pub table_is : (bytes : List ℕ) (table count : ℕ) → HasHeader bytes table count → shoff bytes ≡ table
table_is bytes table count h = ap shoff h.is ∙ file_shoff table count h.rest h.table_small

pub count_is : (bytes : List ℕ) (table count : ℕ) → HasHeader bytes table count → shnum bytes ≡ count
count_is bytes table count h = ap shnum h.is ∙ file_shnum table count h.rest h.count_small

index_is : (bytes : List ℕ) (table count : ℕ) → HasHeader bytes table count → shstrndx bytes ≡ count - 1
index_is bytes table count h = ap shstrndx h.is ∙ file_shstrndx table count h.rest h.count_small

end_is : (bytes : List ℕ) (table count : ℕ) → HasHeader bytes table count → table_end bytes ≡ length bytes
end_is bytes table count h = omega (arith, table_is bytes table count h, count_is bytes table count h, h.end)

room : (bytes : List ℕ) (table count : ℕ) → HasHeader bytes table count → 64 ≤ length bytes
room bytes table count h = omega (arith, ap length h.is, length-append (file_header table count) h.rest, file_header_len table count)

pub form_good : (bytes : List ℕ) (table count : ℕ) → HasHeader bytes table count → form_fault bytes ≡ None
unfolding form_fault
form_good bytes table count h =
    let a : not_elf bytes ≡ None = ap not_elf h.is ∙ elf table count h.rest in
    let b : nat_lt (length bytes) 64 ≡ false = not_below (length bytes) 64 (room bytes table count h) in
    let c : wrong_class bytes ≡ None = ap wrong_class h.is ∙ class table count h.rest in
    let d : wrong_machine bytes ≡ None = ap wrong_machine h.is ∙ machine table count h.rest in
    let e : nat_lt (length bytes) (table_end bytes) ≡ false = not_below (length bytes) (table_end bytes) (omega (arith, end_is bytes table count h)) in
    rw (a, b, c, d, e) refl

pub headers_good : (bytes : List ℕ) (table count : ℕ) (hs : List Header) → HasHeader bytes table count → list_any (passes (length bytes)) hs ≡ false → list_any is_compressed hs ≡ false → header_fault bytes hs ≡ None
unfolding header_fault
headers_good bytes table count hs h within plain =
    let n : shnum bytes ≡ count = count_is bytes table count h in
    let b : nat_lt (table_end bytes) (length bytes) ≡ false = not_below (table_end bytes) (length bytes) (omega (arith, end_is bytes table count h)) in
    let c : position is_compressed hs ≡ None = position_none is_compressed hs plain in
    let d : nat_lt (shnum bytes) 2 ≡ false = not_below (shnum bytes) 2 (omega (arith, n, h.count_least)) in
    let e : eqb (shstrndx bytes) (shnum bytes - 1) ≡ true = equal (shstrndx bytes) (shnum bytes - 1) (index_is bytes table count h ∙ ap (λ k. k - 1) (sym n)) in
    rw (within, b, c, d, e) refl
