-- The printed text of a resolution is read back as that resolution.
use Rattle.std.proofs.Common.{◌≡◌, ℕ, suc, ◌+◌, ◌^◌, ◌<◌, ◌==◌, true, false, List, [], ◌∷◌, ◌++◌, length, Option, Some, Ok, decimal, All, refl, ap, ◌∙◌, append_assoc, arith}
use Rattle.std.specs.List.{flat_map}
use Rattle.std.specs.Fmt.{digits}
use Rattle.std.proofs.lemmas.Bool.Decides.{nat_tests}
use Rattle.std.proofs.lemmas.List.Elements.{All-cons, All-append, All-head, All-tail, All-weaker}
use Rattle.cursors.specs.Lines.{IsNoNewline, lines_of}
use Rattle.cursors.specs.Decimals.{decimal_value}
use Rattle.text_lines.specs.Lines.{Lines}
use Rattle.text_lines.specs.Words.{words_of, name_of}
use Rattle.text_lines.specs.Reading.{line_by, line_from, taken, counted, in_front, at_end, ◌then◌}
use Rattle.text_lines.proofs.Names.{name_of-name}
use Rattle.text_lines.proofs.Spelled.{IsVisible, no_newline, words_of-then, words_of-last, lines_of-then}
use Rattle.resolution_text.specs.declared.resolution.Resolved.{Resolved}
use Rattle.resolution_text.specs.declared.resolution.ResolvedFile.{ResolvedFile}
use Rattle.resolution_text.specs.declared.resolution.Resolution.{Resolution}
use Rattle.resolution_text.specs.declared.resolution.Word.{Word}
use Rattle.resolution_text.specs.Fields.{id_of, word_of, spelling}
use Rattle.resolution_text.specs.Reading.{◌>>=◌, when, is_number, resolved_of, resolved_at, header_of, header_at, resolved_by, file_by, file_at, with_kind, resolution_in}
use Rattle.resolution_text.specs.Printing.{word_line, word_lines, file_text, text_of, IsResolved, IsResolvedFile, IsResolution}
use Rattle.resolution_text.proofs.Spellings.{decimal_value-decimal, id_of-digits, word_of-spelling, visible-decimal, visible-digits, visible-name, visible-spelling}

-- the lines of a text, from a number on
abbrev at : ℕ → List ℕ → Lines
at n text = record { number = n; rest = lines_of text }

abbrev front : {A : Type 0} → A → List A → List A
front a xs = a ∷ xs

line_gives : {A : Type 0} (read : List ℕ → Option A) (n : ℕ) (line text : List ℕ) (a : A) → All IsNoNewline line → read line ≡ Some a
    → line_by read (at n (line ++ 10 ∷ text)) ≡ Ok (a, at (n + 1) text)
line_gives read n line text a h is = ap (line_from read n) (lines_of-then line text h) ∙ ap (taken n (lines_of text)) is

plain : (word : List ℕ) → All IsVisible word → All IsNoNewline word
plain word h = All-weaker IsVisible IsNoNewline no_newline word h

spaced : (word rest : List ℕ) → All IsVisible word → All IsNoNewline rest → All IsNoNewline (word ++ 32 ∷ rest)
spaced word rest h k = All-append IsNoNewline word (32 ∷ rest) (plain word h) (All-cons IsNoNewline 32 rest (λ e. absurd (omega arith)) k)

itself : (n : ℕ) → (n == n) ≡ true
itself n = grind (arith, nat_tests)

-- ---- the line SLOT ID WORD NAME

resolved_is : (slot : ℕ) (number id : Option ℕ) (word : Option Word) (name : Option (List ℕ)) (w : Resolved)
    → number ≡ Some slot → id ≡ Some w.id → word ≡ Some w.word → name ≡ Some w.name
    → when (is_number slot number) (id >>= λ i. word >>= λ k. name >>= λ n. Some (record { word = k; name = n; id = i })) ≡ Some w
resolved_is slot number id word name w p q r s = rw (p, q, r, s, itself slot) refl

body : ℕ → Resolved → List ℕ
body slot w = decimal slot ++ 32 ∷ (digits 16 false w.id ++ 32 ∷ (spelling w.word ++ 32 ∷ w.name))

body-words : (slot : ℕ) (w : Resolved) → slot < 2 ^ 64 → IsResolved w
    → words_of (body slot w) ≡ decimal slot ∷ digits 16 false w.id ∷ spelling w.word ∷ w.name ∷ []
unfolding body
body-words slot w lt h =
    words_of-then (decimal slot) (digits 16 false w.id ++ 32 ∷ (spelling w.word ++ 32 ∷ w.name)) (visible-decimal slot lt)
    ∙ ap (front (decimal slot)) (words_of-then (digits 16 false w.id) (spelling w.word ++ 32 ∷ w.name) (visible-digits w.id h.id)
    ∙ ap (front (digits 16 false w.id)) (words_of-then (spelling w.word) w.name (visible-spelling w.word)
    ∙ ap (front (spelling w.word)) (words_of-last w.name (visible-name w.name h.name))))

body-line : (slot : ℕ) (w : Resolved) → slot < 2 ^ 64 → IsResolved w → All IsNoNewline (body slot w)
unfolding body
body-line slot w lt h =
    spaced (decimal slot) (digits 16 false w.id ++ 32 ∷ (spelling w.word ++ 32 ∷ w.name)) (visible-decimal slot lt)
    (spaced (digits 16 false w.id) (spelling w.word ++ 32 ∷ w.name) (visible-digits w.id h.id)
    (spaced (spelling w.word) w.name (visible-spelling w.word) (plain w.name (visible-name w.name h.name))))

body-resolved : (slot : ℕ) (w : Resolved) → slot < 2 ^ 64 → IsResolved w → resolved_at slot (body slot w) ≡ Some w
body-resolved slot w lt h =
    ap (resolved_of slot) (body-words slot w lt h)
    ∙ resolved_is slot (decimal_value (decimal slot)) (id_of (digits 16 false w.id)) (word_of (spelling w.word)) (name_of w.name) w
    (decimal_value-decimal slot lt) (id_of-digits w.id h.id) (word_of-spelling w.word) (name_of-name w.name h.name)

word_line-shape : (slot : ℕ) (w : Resolved) (text : List ℕ) → word_line slot w ++ text ≡ body slot w ++ 10 ∷ text
unfolding body
word_line-shape slot w text = simp append_assoc

word_read : (slot n : ℕ) (w : Resolved) (text : List ℕ) → slot < 2 ^ 64 → IsResolved w → resolved_by slot (at n (word_line slot w ++ text)) ≡ Ok (w, at (n + 1) text)
word_read slot n w text lt h =
    ap (λ t. line_by (resolved_at slot) (at n t)) (word_line-shape slot w text)
    ∙ line_gives (resolved_at slot) n (body slot w) text w (body-line slot w lt h) (body-resolved slot w lt h)

words_read : (ws : List Resolved) (slot n : ℕ) (text : List ℕ) → All IsResolved ws → slot + length ws < 2 ^ 64
    → (m : ℕ) × (counted resolved_by (length ws) slot (at n (word_lines slot ws ++ text)) ≡ Ok (ws, at m text))
words_read [] slot n text h lt = (n, refl)
words_read (w ∷ ws) slot n text h lt =
    let first = word_read slot n w (word_lines (slot + 1) ws ++ text) (omega arith) (All-head IsResolved w ws h) in
    let rest = words_read ws (slot + 1) (n + 1) text (All-tail IsResolved w ws h) (omega arith) in (
      rest.0,
      ap (λ t. counted resolved_by (suc (length ws)) slot (at n t)) (append_assoc (word_line slot w) (word_lines (slot + 1) ws) text)
          ∙ ap (λ r. r then (λ one. in_front one.0 (counted resolved_by (length ws) (slot + 1) one.1))) first
          ∙ ap (in_front w) rest.1,
    )

-- ---- a file

header_is : (number : Option ℕ) (name : Option (List ℕ)) (n : ℕ) (word : List ℕ) → number ≡ Some n → name ≡ Some word
    → ◌>>=◌ {B = List ℕ × ℕ} number (λ k. ◌>>=◌ {B = List ℕ × ℕ} name (λ w. Some (w, k))) ≡ Some (word, n)
header_is number name n word p q = rw (p, q) refl

header-read : (file : ResolvedFile) → IsResolvedFile file → header_at (file.name ++ 32 ∷ decimal (length file.words)) ≡ Some (file.name, length file.words)
header-read file h =
    let count = length file.words in
    ap header_of (words_of-then file.name (decimal count) (visible-name file.name h.name) ∙ ap (front file.name) (words_of-last (decimal count) (visible-decimal count h.count)))
    ∙ header_is (decimal_value (decimal count)) (name_of file.name) count file.name (decimal_value-decimal count h.count) (name_of-name file.name h.name)

file_text-shape : (file : ResolvedFile) (text : List ℕ) → file_text file ++ text ≡ (file.name ++ 32 ∷ decimal (length file.words)) ++ 10 ∷ (word_lines 0 file.words ++ text)
file_text-shape file text = simp append_assoc

file_read : (file : ResolvedFile) (n : ℕ) (text : List ℕ) → IsResolvedFile file → (m : ℕ) × (file_by (at n (file_text file ++ text)) ≡ Ok (file, at m text))
file_read file n text h =
    let line = file.name ++ 32 ∷ decimal (length file.words) in
    let lines = word_lines 0 file.words ++ text in
    let header = line_gives header_at n line lines (file.name, length file.words)
    (spaced file.name (decimal (length file.words)) (visible-name file.name h.name) (plain (decimal (length file.words)) (visible-decimal (length file.words) h.count))) (header-read file h) in
    let words = words_read file.words 0 (n + 1) text h.words (let count = h.count in omega arith) in (
      words.0,
      ap (λ t. file_by (at n t)) (file_text-shape file text)
          ∙ ap (λ r. r then (λ head. counted resolved_by head.0.1 0 head.1 then (λ ws. Ok (record { name = head.0.0; words = ws.0 }, ws.1)))) header
          ∙ ap (λ r. r then (λ ws. Ok (record { name = file.name; words = ws.0 }, ws.1))) words.1,
    )

files_read : (files : List ResolvedFile) (place n : ℕ) → All IsResolvedFile files
    → (m : ℕ) × (counted file_at (length files) place (at n (flat_map file_text files)) ≡ Ok (files, at m []))
files_read [] place n h = (n, refl)
files_read (file ∷ files) place n h =
    let first = file_read file n (flat_map file_text files) (All-head IsResolvedFile file files h) in
    let rest = files_read files (place + 1) first.0 (All-tail IsResolvedFile file files h) in (
      rest.0,
      ap (λ r. r then (λ one. in_front one.0 (counted file_at (length files) (place + 1) one.1))) first.1 ∙ ap (in_front file) rest.1,
    )

-- ---- the whole

text_of-shape : (r : Resolution) → text_of r ≡ decimal (length r.files) ++ 10 ∷ flat_map file_text r.files
text_of-shape r = simp append_assoc

pub text_of-read : (r : Resolution) → IsResolution r → resolution_in (text_of r) ≡ Ok r
text_of-read r h =
    let count = length r.files in
    let first = line_gives decimal_value 1 (decimal count) (flat_map file_text r.files) count (plain (decimal count) (visible-decimal count h.count)) (decimal_value-decimal count h.count) in
    let files = files_read r.files 0 2 h.files in
    ap resolution_in (text_of-shape r)
    ∙ ap (λ x. with_kind (x then (λ c. counted file_at c.0 0 c.1 then (λ fs. at_end (record { files = fs.0 }) fs.1)))) first
    ∙ ap (λ x. with_kind (x then (λ fs. at_end (record { files = fs.0 }) fs.1))) files.1
