-- Initial values and arrays are read as they are written.
use Rattle.std.proofs.Common.{◌≡◌, ℕ, ◌+◌, ◌<◌, ◌^◌, ℤ, pos, negsuc, Bool, true, false, Some, List, [], ◌∷◌, ◌++◌, map, refl, sym, ap, ◌∙◌, append_assoc, arith}
use Rattle.std.specs.Prelude.{codes, decimal}
use Rattle.std.specs.List.{join_by, AllByRecursion}
use Rattle.std.specs.Fmt.{signed_decimal}
use Rattle.std.proofs.lemmas.Int.{ints}
use Rattle.std.proofs.lemmas.List.{append-nil}
use Rattle.std.proofs.lemmas.Bool.{lt-ltb}
use Rattle.gimple_ir.specs.declared.types.ScalarType.TheVariants.{Int, UnsignedInt, LongInt, LongUnsignedInt}
use Rattle.gimple_ir.specs.declared.types.ElementType.{ElementType}
use Rattle.gimple_ir.specs.declared.types.ElementType.TheVariants as element
use Rattle.gimple_ir.specs.declared.types.Linkage.{Linkage}
use Rattle.gimple_ir.specs.declared.types.Linkage.TheVariants.{Extern, Strong, Weak, Static}
use Rattle.gimple_ir.specs.declared.types.Array.{Array}
use Rattle.gimple_ir.specs.Checks.{is_extern}
use Rattle.gimple_ir.specs.Programs.{IsIdentifier, IsElement}
use Rattle.gimple_tokens.specs.declared.token.Mark.TheVariants as mark
use Rattle.gimple_tokens.specs.declared.token.Suffix.TheVariants.{Plain}
use Rattle.gimple_tokens.specs.declared.numbers.NumberPlace.TheVariants.{Initial}
use Rattle.gimple_tokens.specs.Tokens.{Number, Sign, tokens_from}
use Rattle.gimple_grammar.specs.Grammar.{Expected, Only, chain_spelling}
use Rattle.gimple_grammar.specs.Pieces.{array_length, literal}
use Rattle.gimple_grammar.specs.Items.{initial, initials, array_rest, defined, external, item}
use Rattle.gimple_grammar.specs.declared.syntax.Literal.{Literal}
use Rattle.gimple_grammar.specs.declared.syntax.Item.TheVariants as items
use Rattle.gimple_print.specs.Words.{element_text, linkage_text}
use Rattle.gimple_print.specs.Canonical.{initial_text, array_text}
use Rattle.text_laws.specs.Syntax.{initial_of, array_of, array_item}
use Rattle.text_laws.proofs.Spaced.{number}
use Rattle.text_laws.proofs.Pieces.{MayStand, signed_read}
use Rattle.text_laws.proofs.Joined.{Anything, NoWord, Reads, one, joined, word_joined, as_text, as_tokens, spaced, sign_first, sign_spaced, sign_alone, ended}
use Rattle.text_laws.proofs.DeclaredTexts.{chain_read}
use Rattle.text_laws.proofs.HeadTexts.{element_spelling, element_read, linkage_spelling, linkage_read}

-- ---- initial values

initial-stands : (e : ElementType) (z : ℤ) → IsElement e z → MayStand (Initial e) z Plain
initial-stands (element.Scalar Int) (pos n) h = record { below = grind (arith, ints, h.below); fits = omega (arith, ints, h.below) }
initial-stands (element.Scalar Int) (negsuc n) h = record { below = grind (arith, ints, h.above); fits = omega (arith, ints, h.above) }
initial-stands (element.Scalar UnsignedInt) (pos n) h = record { below = grind (arith, ints, h.below); fits = omega (arith, ints, h.below) }
initial-stands (element.Scalar UnsignedInt) (negsuc n) h = absurd (omega (arith, ints, h.above))
initial-stands (element.Scalar LongInt) (pos n) h = record { below = grind (arith, ints, h.below); fits = omega (arith, ints, h.below) }
initial-stands (element.Scalar LongInt) (negsuc n) h = record { below = grind (arith, ints, h.above); fits = omega (arith, ints, h.above) }
initial-stands (element.Scalar LongUnsignedInt) (pos n) h = record { below = grind (arith, ints, h.below); fits = omega (arith, ints, h.below) }
initial-stands (element.Scalar LongUnsignedInt) (negsuc n) h = absurd (omega (arith, ints, h.above))
initial-stands element.UnsignedChar (pos n) h = record { below = grind (arith, ints, h.1); fits = omega (arith, ints, h.1) }
initial-stands element.UnsignedChar (negsuc n) h = absurd (omega (arith, ints, h.0))

initial_read : (e : ElementType) (z : ℤ) (line : ℕ) → IsElement e z → Reads NoWord ((literal (Initial e)).spelling (initial_of z)) line (signed_decimal z) line
initial_read e z line h =
    as_text NoWord ((literal (Initial e)).spelling (initial_of z)) line line (signed_decimal z ++ []) (signed_decimal z) (sym (append-nil (signed_decimal z)))
    (λ r stop. (signed_read (Initial e) z Plain (initial-stands e z h) line r stop).begins)

initials_read : (e : ElementType) (zs : List ℤ) (line : ℕ) → AllByRecursion (IsElement e) zs → Reads Anything ((initials e).spelling (map initial_of zs)) line (initial_text zs ++ (59 ∷ 10 ∷ [])) (line + 1)
unfolding initials initial
initials_read e [] line h = ended line
initials_read e (z ∷ zs) line h =
    let values = chain_spelling (initial e) (map initial_of (z ∷ zs)) in
    let es = values ++ Only (Sign mark.Semicolon) ∷ [] in
    let list = join_by signed_decimal (codes ", ") (z ∷ zs) ++ (125 ∷ []) in
    let text = list ++ (59 ∷ 10 ∷ []) in
    let inner = joined Anything values (Only (Sign mark.Semicolon) ∷ []) line line (line + 1) list (59 ∷ 10 ∷ [])
    (chain_read (literal (Initial e)) mark.CloseCurly initial_of signed_decimal (IsElement e) line tt (λ r. refl) (λ y k. initial_read e y line k) z zs h.0 h.1) (ended line) in
    spaced Anything (Only (Sign mark.Equals) ∷ Only (Sign mark.OpenCurly) ∷ es) line (line + 1) (61 ∷ 32 ∷ 123 ∷ text)
    (sign_spaced Anything mark.Equals (Only (Sign mark.OpenCurly) ∷ es) line (line + 1) (123 ∷ text)
    (sign_first Anything mark.OpenCurly es line (line + 1) text tt inner))

-- ---- arrays

digits_read : (n line : ℕ) → n < 2 ^ 64 → Reads NoWord (Only (Number (Some n) Plain) ∷ []) line (decimal n) line
digits_read n line h = λ r stop. one (Number (Some n) Plain) line [] (tokens_from line 0 (decimal n ++ r)) (tokens_from line 0 r) (tokens_from line 0 r) (number line n Plain r h stop) refl

-- the length and the bracket that closes
length_read : (n line : ℕ) → n < 2 ^ 32 → Reads Anything (array_length.spelling n ++ Only (Sign mark.CloseSquare) ∷ []) line (decimal n ++ (93 ∷ [])) line
unfolding array_length
length_read n line h =
    rw (lt-ltb n (2 ^ 32) h)
    (word_joined Anything (Only (Number (Some n) Plain) ∷ []) (Only (Sign mark.CloseSquare) ∷ []) line line (decimal n) (93 ∷ []) (digits_read n line (omega arith)) (λ r. refl) (sign_alone mark.CloseSquare line tt))

defined-array : (l : Linkage) (e : ElementType) (n : List ℕ) (size : ℕ) (ls : List Literal) → is_extern l ≡ false → item.spelling (array_item l (record { element = e; name = n; length = size; initial = ls })) ≡ linkage_spelling l ++ (element_spelling e n ++ (array_rest e).spelling (size, ls))
unfolding item defined
defined-array Extern e n size ls h = absurd cc
defined-array Strong (element.Scalar ty) n size ls h = refl
defined-array Strong element.UnsignedChar n size ls h = refl
defined-array Weak (element.Scalar ty) n size ls h = refl
defined-array Weak element.UnsignedChar n size ls h = refl
defined-array Static (element.Scalar ty) n size ls h = refl
defined-array Static element.UnsignedChar n size ls h = refl

extern-array : (e : ElementType) (n : List ℕ) (size : ℕ) → item.spelling (items.ExternArray (record { element = e; name = n; length = size; initial = [] })) ≡ linkage_spelling Extern ++ (element_spelling e n ++ ((array_length.spelling size ++ Only (Sign mark.CloseSquare) ∷ []) ++ Only (Sign mark.Semicolon) ∷ []))
unfolding item external
extern-array (element.Scalar ty) n size = refl
extern-array element.UnsignedChar n size = refl

-- the text up to the bracket, and the rest
array-parts : (l t n d x : List ℕ) → l ++ (t ++ (32 ∷ ((n ++ (91 ∷ d)) ++ x))) ≡ l ++ ((t ++ (32 ∷ (n ++ (91 ∷ [])))) ++ (d ++ x))
array-parts l t n d x =
    ap (λ (s : List ℕ). l ++ s)
    (ap (λ (s : List ℕ). t ++ (32 ∷ s)) (append_assoc n (91 ∷ d) x ∙ sym (append_assoc n (91 ∷ []) (d ++ x))) ∙ sym (append_assoc t (32 ∷ (n ++ (91 ∷ []))) (d ++ x)))

-- an array whose rest is read so
headed_array : (l : Linkage) (e : ElementType) (n d x : List ℕ) (es : List Expected) (line : ℕ) → IsIdentifier n → Reads Anything es line (d ++ x) (line + 1)
    → Reads Anything (linkage_spelling l ++ (element_spelling e n ++ es)) line (linkage_text l ++ (element_text e ++ (32 ∷ ((n ++ (91 ∷ d)) ++ x)))) (line + 1)
headed_array l e n d x es line h p =
    let head = element_text e ++ (32 ∷ (n ++ (91 ∷ []))) in
    as_text Anything (linkage_spelling l ++ (element_spelling e n ++ es)) line (line + 1) (linkage_text l ++ (head ++ (d ++ x))) (linkage_text l ++ (element_text e ++ (32 ∷ ((n ++ (91 ∷ d)) ++ x)))) (array-parts (linkage_text l) (element_text e) n d x)
    (linkage_read l (element_spelling e n ++ es) line (line + 1) (head ++ (d ++ x)) (joined Anything (element_spelling e n) es line line (line + 1) head (d ++ x) (element_read e n line h) p))

array_by : (l : Linkage) (e : ElementType) (n : List ℕ) (size : ℕ) (zs : List ℤ) (line : ℕ) → IsIdentifier n → size < 2 ^ 32 → AllByRecursion (IsElement e) zs → (b : Bool) → is_extern l ≡ b → (b ≡ true → zs ≡ [])
    → Reads Anything (item.spelling (array_item l (record { element = e; name = n; length = size; initial = map initial_of zs }))) line
    (linkage_text l ++ (element_text e ++ (32 ∷ ((n ++ (91 ∷ (decimal size ++ (93 ∷ [])))) ++ (initial_text zs ++ (59 ∷ 10 ∷ [])))))) (line + 1)
unfolding array_rest
array_by l e n size zs line h fits values false is empty =
    let d = decimal size ++ (93 ∷ []) in
    let x = initial_text zs ++ (59 ∷ 10 ∷ []) in
    let es = (array_rest e).spelling (size, map initial_of zs) in
    as_tokens Anything (linkage_spelling l ++ (element_spelling e n ++ es)) (item.spelling (array_item l (record { element = e; name = n; length = size; initial = map initial_of zs }))) line (line + 1)
    (linkage_text l ++ (element_text e ++ (32 ∷ ((n ++ (91 ∷ d)) ++ x)))) (defined-array l e n size (map initial_of zs) is)
    (headed_array l e n d x es line h
    (joined Anything (array_length.spelling size ++ Only (Sign mark.CloseSquare) ∷ []) ((initials e).spelling (map initial_of zs)) line line (line + 1) d x (length_read size line fits) (initials_read e zs line values)))
array_by Extern e n size [] line h fits values true is empty =
    let d = decimal size ++ (93 ∷ []) in
    let x = 59 ∷ 10 ∷ [] in
    let first = array_length.spelling size ++ Only (Sign mark.CloseSquare) ∷ [] in
    let es = first ++ Only (Sign mark.Semicolon) ∷ [] in
    as_tokens Anything (linkage_spelling Extern ++ (element_spelling e n ++ es)) (item.spelling (array_item Extern (record { element = e; name = n; length = size; initial = [] }))) line (line + 1)
    (linkage_text Extern ++ (element_text e ++ (32 ∷ ((n ++ (91 ∷ d)) ++ x)))) (extern-array e n size)
    (headed_array Extern e n d x es line h (joined Anything first (Only (Sign mark.Semicolon) ∷ []) line line (line + 1) d x (length_read size line fits) (ended line)))
array_by Extern e n size (z ∷ zs) line h fits values true is empty = absurd (let none = empty refl in cc)
array_by Strong e n size zs line h fits values true is empty = absurd cc
array_by Weak e n size zs line h fits values true is empty = absurd cc
array_by Static e n size zs line h fits values true is empty = absurd cc

pub record IsWritten (a : Array) : Type 0 where
  pub name : IsIdentifier a.name
  pub fits : a.length < 2 ^ 32
  pub values : AllByRecursion (IsElement a.element) a.initial
  pub declared : is_extern a.linkage ≡ true → a.initial ≡ []

pub array_read : (a : Array) (line : ℕ) → IsWritten a → Reads Anything (item.spelling (array_item a.linkage (array_of a))) line (array_text a) (line + 1)
array_read a line h = array_by a.linkage a.element a.name a.length a.initial line h.name h.fits h.values (is_extern a.linkage) refl h.declared
