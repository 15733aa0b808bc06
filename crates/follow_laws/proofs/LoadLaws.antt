-- An image that is built of code and arrays can be loaded, and what the machine finds in it.
use Rattle.std.proofs.Common.{◌≡◌, ℕ, zero, suc, ◌+◌, ◌-◌, ◌*◌, ◌%◌, ◌^◌, ◌≤◌, false, List, [], ◌++◌, length, take, drop, Some, None, refl, sym, ap, ◌∙◌, arith, append_assoc, append-nil, length-append}
use Rattle.std.specs.Prelude.{replicate, not, ◌==◌, nat_lt}
use Rattle.std.specs.List.{position, prefix_len}
use Rattle.std.proofs.Math.Seq.{drop-append_seam, take-append_seam}
use Rattle.std.proofs.lemmas.List.{length-replicate}
use Rattle.std.proofs.lemmas.Bool.{le-ltb, cond-false}
use Rattle.std.specs.Option.{option_map, option_or}
use Rattle.rv64_meaning.specs.Machine.{Segments}
use Rattle.rv64_meaning.specs.Loading.{first_nonzero, load_fault_of}
use Rattle.rv64_meaning.specs.Loading as loading
use Rattle.final_link.specs.Stubs.{stubs}
use Rattle.final_link.specs.Image.{code_bytes, round_up, headers_with, text_size, text_with, data_address, top_behind}
use Rattle.final_link.proofs.CodeLaws.{code_bytes-append}
use Rattle.follow_laws.proofs.ImageLaws.{length-code_bytes, stands_in}
use Rattle.follow_laws.proofs.EncodingLaws.{all_append, stubs_encode}
use Rattle.follow_laws.specs.Images.{Parts, PartsFit, arrays_in, scratch_in, top_in, segments_in, PartsLoad, PartsHaveSegments, PartsHaveData, PartsHaveCode}
use Rattle.follow_laws.proofs.HeaderLaws.{length-headers, text_field, stored_field, data_field, start_field, header_right}

-- ---- zeros

zeros_long : (n : ℕ) → prefix_len (λ (b : ℕ). not (not (b == 0))) (replicate n 0) ≡ n
zeros_long zero = refl
zeros_long (suc n) = let e : 1 + n ≡ suc n = omega arith in ap (λ k. 1 + k) (zeros_long n) ∙ e

zeros_pass : (n : ℕ) → position (λ (b : ℕ). not (b == 0)) (replicate n 0) ≡ None
zeros_pass n =
    let zeros : List ℕ = replicate n 0 in
    let passed = prefix_len (λ (b : ℕ). not (not (b == 0))) zeros in
    cond-false (nat_lt passed (length zeros)) (Some passed) None (le-ltb passed (length zeros) (omega (arith, zeros_long n, length-replicate {A = ℕ} n 0)))

no_nonzero : (image : List ℕ) (from to n : ℕ) → take (to - from) (drop from image) ≡ replicate n 0 → first_nonzero image from to ≡ None
no_nonzero image from to n e =
    ap (λ (l : List ℕ). option_map (λ k. from + k) (position (λ (b : ℕ). not (b == 0)) l)) e ∙ ap (option_map (λ k. from + k)) (zeros_pass n)

-- a part, taken from behind what lies in front of it
part_found : (front part rest : List ℕ) (k n : ℕ) → length front ≡ k → length part ≡ n → take n (drop k (front ++ (part ++ rest))) ≡ part
part_found front part rest k n e f =
    ap (λ j. take n (drop j (front ++ (part ++ rest)))) (sym e) ∙ ap (take n) (drop-append_seam front (part ++ rest))
    ∙ ap (λ j. take j (part ++ rest)) (sym f) ∙ take-append_seam part rest

abbrev segments : List ℕ → ℕ → ℕ → Segments
segments text start end = record { text = text; data_start = start; data_end = end }

segments_at : (text text' : List ℕ) (a a' b b' : ℕ) → text ≡ text' → a ≡ a' → b ≡ b' → segments text a b ≡ segments text' a' b'
segments_at text text' a a' b b' e f g = ap (λ t. segments t a b) e ∙ ap (λ n. segments text' n b) f ∙ ap (λ n. segments text' a' n) g

-- ---- the pieces of the file, of which the text has its size

module _ (stored : List ℕ) (arrays frame : ℕ) (code text : List ℕ) where
  abbrev pad : ℕ
  pad = data_address code - 0x10000 - text_size code

  abbrev zeros : List ℕ
  zeros = replicate pad 0

  abbrev headers : List ℕ
  headers = headers_with (length stored) arrays frame code

  abbrev rest : List ℕ
  rest = replicate 3920 0 ++ (text ++ (zeros ++ stored))

  abbrev file : List ℕ
  file = headers ++ rest

  -- what lies in front of the text, and in front of the data
  before : List ℕ
  before = headers ++ replicate 3920 0

  front : List ℕ
  front = before ++ text

  length-before : length before ≡ 4096
  unfolding before
  length-before = omega (arith, length-append headers (replicate 3920 0), length-headers (length stored) arrays frame code [], length-replicate {A = ℕ} 3920 0)

  before_is : file ≡ before ++ (text ++ (zeros ++ stored))
  unfolding before
  before_is = sym (append_assoc headers (replicate 3920 0) (text ++ (zeros ++ stored)))

  front_is : file ≡ front ++ (zeros ++ stored)
  unfolding front
  front_is = before_is ∙ sym (append_assoc before text (zeros ++ stored))

  record Sized : Type 0 where
    whole : length text ≡ text_size code
    even : text_size code % 4 ≡ 0
    most : text_size code ≤ 2 ^ 27
    within : length stored ≤ top_behind arrays frame code - data_address code
    room : top_behind arrays frame code - data_address code ≤ 2 ^ 28

  length-front : Sized → length front ≡ 4096 + text_size code
  unfolding front
  length-front h = omega (arith, length-append before text, length-before, h.whole)

  length-file : Sized → length file ≡ 4096 + text_size code + pad + length stored
  length-file h = omega (arith, ap length front_is, length-append front (zeros ++ stored), length-append zeros stored, length-replicate {A = ℕ} pad 0, length-front h)

  size_is : Sized → loading.text_size file ≡ text_size code
  size_is h = text_field (length stored) arrays frame code rest (omega (arith, h.most))

  start_is : Sized → loading.data_start file ≡ data_address code
  start_is h = start_field (length stored) arrays frame code rest (omega (arith, h.most))

  stored_is : Sized → loading.stored_size file ≡ length stored
  stored_is h = stored_field (length stored) arrays frame code rest (omega (arith, h.within, h.room))

  room_is : Sized → loading.data_size file ≡ top_behind arrays frame code - data_address code
  room_is h = data_field (length stored) arrays frame code rest (omega (arith, h.room))

  -- zeros in front of the text, and between the text and the data
  first_zeros : first_nonzero file 176 0x1000 ≡ None
  first_zeros = no_nonzero file 176 0x1000 3920 (part_found headers (replicate 3920 0) (text ++ (zeros ++ stored)) 176 3920 (length-headers (length stored) arrays frame code []) (length-replicate {A = ℕ} 3920 0))

  second_zeros : Sized → first_nonzero file (0x1000 + loading.text_size file) (loading.data_offset file) ≡ None
  second_zeros h =
      let start = start_is h in
      let from : 0x1000 + loading.text_size file ≡ 4096 + text_size code = ap (λ n. 0x1000 + n) (size_is h) in
      let many : loading.data_offset file - (4096 + text_size code) ≡ pad = omega (arith, start) in
      ap (λ k. first_nonzero file k (loading.data_offset file)) from
      ∙ no_nonzero file (4096 + text_size code) (loading.data_offset file) pad
      (ap (λ k. take k (drop (4096 + text_size code) file)) many ∙ ap (λ (l : List ℕ). take pad (drop (4096 + text_size code) l)) front_is
      ∙ part_found front zeros stored (4096 + text_size code) pad (length-front h) (length-replicate {A = ℕ} pad 0))

  loads : Sized → load_fault_of file ≡ None
  loads h =
      let all = length-file h in
      let start = start_is h in
      let kept = stored_is h in
      let end : loading.file_size file ≡ length file = omega (arith, start, kept, all) in
      let long : nat_lt (length file) 176 ≡ false = le-ltb (length file) 176 (omega (arith, all)) in
      let not_short : nat_lt (length file) (loading.file_size file) ≡ false = le-ltb (length file) (loading.file_size file) (omega (arith, end)) in
      let not_long : nat_lt (loading.file_size file) (length file) ≡ false = le-ltb (loading.file_size file) (length file) (omega (arith, end)) in
      let ends : loading.length_fault_of file ≡ None = cond-false _ _ _ not_short ∙ cond-false _ _ _ not_long in
      cond-false _ _ _ long
      ∙ ap (λ o. option_or o (option_or (loading.padding_fault_of file) (loading.length_fault_of file))) (header_right (length stored) arrays frame code rest h.even h.most h.within h.room)
      ∙ ap (λ o. option_or (option_or o (first_nonzero file (0x1000 + loading.text_size file) (loading.data_offset file))) (loading.length_fault_of file)) first_zeros
      ∙ ap (λ o. option_or o (loading.length_fault_of file)) (second_zeros h)
      ∙ ends

  text_is : Sized → loading.text_of file ≡ text
  text_is h =
      ap (λ n. take n (drop 4096 file)) (size_is h) ∙ ap (λ (l : List ℕ). take (text_size code) (drop 4096 l)) before_is
      ∙ part_found before text (zeros ++ stored) 4096 (text_size code) length-before h.whole

  end_is : Sized → loading.data_start file + loading.data_size file ≡ top_behind arrays frame code
  end_is h = ap (λ n. n + loading.data_size file) (start_is h) ∙ ap (λ n. data_address code + n) (room_is h) ∙ omega arith

  -- the bytes at the data's place in the file are those that are stored
  stored_found : Sized → take (loading.stored_size file) (drop (loading.data_offset file) file) ≡ stored
  stored_found h =
      let start = start_is h in
      let at : loading.data_offset file ≡ length (front ++ zeros) = omega (arith, start, length-append front zeros, length-front h, length-replicate {A = ℕ} pad 0) in
      let whole : file ≡ (front ++ zeros) ++ (stored ++ []) = front_is ∙ sym (append_assoc front zeros stored) ∙ ap (λ (l : List ℕ). (front ++ zeros) ++ l) (sym (append-nil stored)) in
      ap (λ n. take n (drop (loading.data_offset file) file)) (stored_is h) ∙ ap (λ n. take (length stored) (drop n file)) at
      ∙ ap (λ (l : List ℕ). take (length stored) (drop (length (front ++ zeros)) l)) whole ∙ part_found (front ++ zeros) stored [] (length (front ++ zeros)) (length stored) refl refl

  data_is : Sized → loading.data_of file ≡ stored ++ replicate (top_behind arrays frame code - data_address code - length stored) 0
  data_is h =
      ap (λ (l : List ℕ). l ++ replicate (loading.data_size file - loading.stored_size file) 0) (stored_found h)
      ∙ ap (λ n. stored ++ replicate (n - loading.stored_size file) 0) (room_is h) ∙ ap (λ n. stored ++ replicate (top_behind arrays frame code - data_address code - n) 0) (stored_is h)

-- ---- images of parts

text_in : Parts → List ℕ
text_in x = text_with (arrays_in x) x.main x.frame (code_bytes x.code)

length-text : (x : Parts) → length (text_in x) ≡ text_size (code_bytes x.code)
unfolding text_in
length-text x =
    let front = code_bytes (stubs (top_in x) (scratch_in x) x.main) in
    omega (arith, length-append front (code_bytes x.code), length-code_bytes (stubs (top_in x) (scratch_in x) x.main))

-- the room behind the arrays does not depend on where the data begin, at a whole page
room_rounds : (n arrays frame : ℕ) → round_up 16 (round_up 4096 n + arrays) + 16 + 4096 * frame - round_up 4096 n ≡ round_up 16 arrays + 16 + 4096 * frame
room_rounds n arrays frame = omega arith

sized : (x : Parts) → PartsFit x → Sized x.stored (arrays_in x) x.frame (code_bytes x.code) (text_in x)
sized x fit =
    let len = length-code_bytes x.code in
    let room = room_rounds (0x10000 + text_size (code_bytes x.code)) (arrays_in x) x.frame in
    record {
      whole = length-text x;
      even = omega (arith, len);
      most = omega (arith, len, fit.text);
      within = omega (arith, room);
      room = omega (arith, room, fit.room);
    }

pub parts_load : PartsLoad
unfolding text_in
parts_load x fit = loads x.stored (arrays_in x) x.frame (code_bytes x.code) (text_in x) (sized x fit)

pub parts_have_segments : PartsHaveSegments
unfolding text_in
parts_have_segments x fit =
    let bytes = code_bytes x.code in
    let h = sized x fit in
    segments_at _ _ _ _ _ _ (text_is x.stored (arrays_in x) x.frame bytes (text_in x) h) (start_is x.stored (arrays_in x) x.frame bytes (text_in x) h) (end_is x.stored (arrays_in x) x.frame bytes (text_in x) h)

pub parts_have_data : PartsHaveData
unfolding text_in
parts_have_data x fit = data_is x.stored (arrays_in x) x.frame (code_bytes x.code) (text_in x) (sized x fit)

pub parts_have_code : PartsHaveCode
parts_have_code x h =
    let bytes = code_bytes x.code in
    let front = stubs (top_in x) (scratch_in x) x.main in
    let same : text_with (arrays_in x) x.main x.frame bytes ≡ code_bytes (front ++ x.code) ++ [] = sym (code_bytes-append front x.code) ∙ sym (append-nil (code_bytes (front ++ x.code))) in
    stands_in (segments_in x) (front ++ x.code) [] [] same refl (all_append front x.code (stubs_encode (top_in x) (scratch_in x) x.main) h)
