-- The headers of an image, whatever its code and its arrays are: each field is as an image that can be loaded has it.
use Rattle.std.proofs.Common.{◌≡◌, ℕ, ◌+◌, ◌-◌, ◌*◌, ◌/◌, ◌%◌, ◌^◌, ◌<◌, ◌≤◌, true, cond, List, [], ◌∷◌, ◌++◌, length, Some, None, refl, sym, ap, ◌∙◌, arith}
use Rattle.std.specs.Prelude.{not, ◌==◌, ◌&&◌, nat_le}
use Rattle.std.specs.List.{find}
use Rattle.std.specs.Option.{option_map}
use Rattle.std.proofs.lemmas.Bool.{and_from, le-leb, eq-eqb}
use Rattle.rv64_meaning.specs.Machine.{load}
use Rattle.rv64_meaning.specs.Loading.{Field, number_at, identification, file_header, text_header, data_header, first_wrong}
use Rattle.rv64_meaning.specs.Loading as loading
use Rattle.final_link.specs.Image.{half, word, xword, elf_header, headers_with, text_size, data_address, top_behind}
use Rattle.follow_laws.proofs.ImageLaws.{eight_bytes, same_start}

abbrev AllRight : List Field → Type 0
AllRight [] = Unit {0}
AllRight (f ∷ fs) = (f.1 ≡ true) × AllRight fs

none_wrong : (fields : List Field) → AllRight fields → first_wrong fields ≡ None
none_wrong [] h = refl
none_wrong (f ∷ fs) h = ap (λ b. option_map (λ (g : Field). g.0) (cond (not b) (Some f) (find (λ (g : Field). not g.1) fs))) h.0 ∙ none_wrong fs h.1

right_append : (xs ys : List Field) → AllRight xs → AllRight ys → AllRight (xs ++ ys)
right_append [] ys h k = k
right_append (x ∷ xs) ys h k = (h.0, right_append xs ys h.1 k)

text_size_right : (n : ℕ) → n % 4 ≡ 0 → 100 ≤ n → n ≤ 2 ^ 27 → (n % 4 == 0 && nat_le 4 n && nat_le n (2 ^ 27)) ≡ true
text_size_right n even least most = and_from _ _ (and_from _ _ (eq-eqb (n % 4) 0 even) (le-leb 4 n (omega arith))) (le-leb n (2 ^ 27) most)

data_size_right : (stored size : ℕ) → stored ≤ size → size ≤ 2 ^ 28 → (nat_le stored size && nat_le size (2 ^ 28)) ≡ true
data_size_right stored size less most = and_from _ _ (le-leb stored size less) (le-leb size (2 ^ 28) most)

module _ (stored arrays frame : ℕ) (code rest : List ℕ) where
  abbrev image : List ℕ
  image = headers_with stored arrays frame code ++ rest

  pub length-headers : length (headers_with stored arrays frame code) ≡ 176
  unfolding half word xword elf_header
  length-headers = refl

  -- ---- sizes

  pub text_field : text_size code < 2 ^ 64 → loading.text_size image ≡ text_size code
  unfolding load half word xword elf_header
  text_field h = eight_bytes (text_size code) h

  pub stored_field : stored < 2 ^ 64 → loading.stored_size image ≡ stored
  unfolding load half word xword elf_header
  stored_field h = eight_bytes stored h

  pub data_field : top_behind arrays frame code - data_address code < 2 ^ 64 → loading.data_size image ≡ top_behind arrays frame code - data_address code
  unfolding load half word xword elf_header
  data_field h = eight_bytes (top_behind arrays frame code - data_address code) h

  pub start_field : text_size code < 2 ^ 64 → loading.data_start image ≡ data_address code
  start_field h = ap (λ n. 0x10000 + (n + 4095) / 4096 * 4096) (text_field h) ∙ same_start (text_size code)

  -- ---- all fields

  identification_right : AllRight (identification image)
  unfolding load half word xword elf_header
  identification_right = (refl, (refl, (refl, (refl, (refl, (refl, (refl, (refl, (refl, (refl, (refl, (refl, (refl, (refl, (refl, (refl, tt))))))))))))))))

  file_header_right : AllRight (file_header image)
  unfolding load half word xword elf_header
  file_header_right = (refl, (refl, (refl, (refl, (refl, (refl, (refl, (refl, (refl, (refl, (refl, (refl, (refl, tt)))))))))))))

  text_field_again : text_size code < 2 ^ 64 → number_at image 104 8 ≡ text_size code
  unfolding load half word xword elf_header
  text_field_again h = eight_bytes (text_size code) h

  text_header_right : text_size code % 4 ≡ 0 → text_size code ≤ 2 ^ 27 → AllRight (text_header image)
  unfolding load half word xword elf_header
  text_header_right even most =
      let size = text_field (omega (arith, most)) in
      let sized = ap (λ n. n % 4 == 0 && nat_le 4 n && nat_le n (2 ^ 27)) size ∙ text_size_right (text_size code) even (omega arith) most in
      let again = eq-eqb (number_at image 104 8) (loading.text_size image) (text_field_again (omega (arith, most)) ∙ sym size) in
      (refl, (refl, (refl, (refl, (refl, (sized, (again, (refl, tt))))))))

  offset_field : data_address code < 2 ^ 64 → number_at image 128 8 ≡ data_address code - 0xf000
  unfolding load half word xword elf_header
  offset_field h = eight_bytes (data_address code - 0xf000) (omega (arith, h))

  address_field : data_address code < 2 ^ 64 → number_at image 136 8 ≡ data_address code
  unfolding load half word xword elf_header
  address_field h = eight_bytes (data_address code) h

  address_field_again : data_address code < 2 ^ 64 → number_at image 144 8 ≡ data_address code
  unfolding load half word xword elf_header
  address_field_again h = eight_bytes (data_address code) h

  data_header_right : text_size code ≤ 2 ^ 27 → stored ≤ top_behind arrays frame code - data_address code → top_behind arrays frame code - data_address code ≤ 2 ^ 28 → AllRight (data_header image)
  unfolding load half word xword elf_header
  data_header_right most less room =
      let small : data_address code < 2 ^ 64 = omega (arith, most) in
      let start = start_field (omega (arith, most)) in
      let size = data_field (omega (arith, room)) in
      let kept = stored_field (omega (arith, less, room)) in
      let offset = eq-eqb (number_at image 128 8) (loading.data_offset image) (offset_field small ∙ ap (λ n. n - 0xf000) (sym start)) in
      let address = eq-eqb (number_at image 136 8) (loading.data_start image) (address_field small ∙ sym start) in
      let again = eq-eqb (number_at image 144 8) (loading.data_start image) (address_field_again small ∙ sym start) in
      let sized = data_size_right (loading.stored_size image) (loading.data_size image) (omega (arith, size, kept, less)) (omega (arith, size, room)) in
      (refl, (refl, (offset, (address, (again, (sized, (refl, tt)))))))

  pub header_right : text_size code % 4 ≡ 0 → text_size code ≤ 2 ^ 27 → stored ≤ top_behind arrays frame code - data_address code → top_behind arrays frame code - data_address code ≤ 2 ^ 28
      → loading.header_fault_of image ≡ None
  header_right even most less room =
      let last = text_header image ++ data_header image in
      let more = file_header image ++ last in
      none_wrong (identification image ++ more)
      (right_append (identification image) more identification_right
      (right_append (file_header image) last file_header_right
      (right_append (text_header image) (data_header image) (text_header_right even most) (data_header_right most less room))))
