-- The pieces of statements are read back from their texts: numbers, literals, places, operands, types and arguments.
use Rattle.std.proofs.Common.{◌≡◌, ℕ, suc, ℤ, pos, negsuc, ◌<◌, ◌^◌, Bool, true, false, List, [], ◌∷◌, ◌++◌, Option, Some, None, refl, ap, subst, ◌∙◌, arith, append_assoc}
use Rattle.std.specs.Prelude.{map, nat_lt, int_lt, unsigned_abs, decimal, codes}
use Rattle.std.specs.List.{flat_map, join_by, AllByRecursion}
use Rattle.std.specs.Fmt.{signed_decimal}
use Rattle.std.proofs.lemmas.List.Concat.{flat_map-cons}
use Rattle.std.proofs.lemmas.Int.{ints}
use Rattle.gimple_ir.specs.declared.types.ScalarType.{ScalarType}
use Rattle.gimple_ir.specs.declared.types.ScalarType.TheVariants.{Int, UnsignedInt, LongInt, LongUnsignedInt}
use Rattle.gimple_ir.specs.declared.types.BinaryOp.{BinaryOp}
use Rattle.gimple_ir.specs.declared.types.BinaryOp.TheVariants.{Add, Sub, Mul, Div, Rem, And, Or, Xor, Shl, Shr, Eq, Ne, Lt, Le, Gt, Ge}
use Rattle.gimple_ir.specs.declared.types.Value.{Value}
use Rattle.gimple_ir.specs.Values.{InRange, IsValue}
use Rattle.gimple_ir.specs.Programs.{IsIdentifier}
use Rattle.gimple_tokens.specs.declared.token.Keyword.{Keyword}
use Rattle.gimple_tokens.specs.declared.token.Keyword.TheVariants as keyword
use Rattle.gimple_tokens.specs.declared.token.Mark.{Mark}
use Rattle.gimple_tokens.specs.declared.token.Mark.TheVariants as mark
use Rattle.gimple_tokens.specs.declared.token.Suffix.{Suffix}
use Rattle.gimple_tokens.specs.declared.numbers.NumberPlace.{NumberPlace}
use Rattle.gimple_tokens.specs.declared.numbers.NumberPlace.TheVariants as places
use Rattle.gimple_tokens.specs.Tokens.{Lexeme, Name, Word, Number, Sign, Placed, placed, is_word_byte, tokens_from}
use Rattle.gimple_tokens.specs.Numbers.{limit_of}
use Rattle.gimple_tokens.specs.Operators.{mark_of}
use Rattle.gimple_grammar.specs.Grammar.{Expected, Only, Begins, chain_spelling}
use Rattle.gimple_grammar.specs.Pieces.{name, number as number_grammar, operator, literal, field_spelling, place, operand, one_of, argument, arguments, long, int_or_long, scalar}
use Rattle.gimple_grammar.specs.declared.syntax.Operand.{Operand}
use Rattle.gimple_grammar.specs.declared.syntax.Operand.TheVariants as operands
use Rattle.gimple_grammar.proofs.Laws.{begins-append}
use Rattle.gimple_print.specs.Words.{scalar_text, binary_text, literal_text}
use Rattle.text_laws.specs.Written.{suffix_text}
use Rattle.text_laws.specs.Syntax.{suffix_of, number_of, literal_of}
use Rattle.text_laws.proofs.Spaced.{first_is, space, IsAlone, sign_text, sign_space, sign, number}
use Rattle.text_laws.proofs.Names.{name_read, keyword_text, keyword_read}

-- ---- one token and then others

-- the tokens of the text in this line begin with what is expected, and end follows
pub record Reads (es : List Expected) (line : ℕ) (text : List ℕ) (end : List Placed) : Type 0 where
  pub begins : Begins es (tokens_from line 0 text) end

pub done : (line : ℕ) (r : List ℕ) → Reads [] line r (tokens_from line 0 r)
done line r = record { begins = refl }

pub token_then : {es : List Expected} {end : List Placed} (t : Lexeme) (line : ℕ) (text r : List ℕ) → tokens_from line 0 text ≡ placed t line ∷ tokens_from line 0 r → Reads es line r end → Reads (Only t ∷ es) line text end
token_then t line text r e h = record { begins = rw e (refl, h.begins) }

pub space_then : {es : List Expected} {end : List Placed} (line : ℕ) (r : List ℕ) → Reads es line r end → Reads es line (32 ∷ r) end
space_then line r h = record { begins = rw (space line r) h.begins }

pub sign_then : {es : List Expected} {end : List Placed} (line : ℕ) (m : Mark) (r : List ℕ) → IsAlone m → Reads es line r end → Reads (Only (Sign m) ∷ es) line (sign_text m ++ r) end
sign_then line m r alone h = token_then (Sign m) line (sign_text m ++ r) r (sign line m r alone) h

-- a sign and a space
pub sign_space_then : {es : List Expected} {end : List Placed} (line : ℕ) (m : Mark) (r : List ℕ) → Reads es line r end → Reads (Only (Sign m) ∷ es) line (sign_text m ++ (32 ∷ r)) end
sign_space_then line m r h = token_then (Sign m) line (sign_text m ++ (32 ∷ r)) r (sign_space line m r) h

pub keyword_then : {es : List Expected} {end : List Placed} (line : ℕ) (k : Keyword) (r : List ℕ) → first_is is_word_byte r ≡ false → Reads es line r end → Reads (Only (Word k) ∷ es) line (keyword_text k ++ r) end
keyword_then line k r stop h = token_then (Word k) line (keyword_text k ++ r) r (keyword_read line k r stop) h

pub name_then : {es : List Expected} {end : List Placed} (line : ℕ) (n r : List ℕ) → IsIdentifier n → first_is is_word_byte r ≡ false → Reads es line r end → Reads (Only (Name n) ∷ es) line (n ++ r) end
name_then line n r h stop after = token_then (Name n) line (n ++ r) r (name_read line n r h stop) after

-- ---- parts that end before what is no letter or digit

-- the text is read as what is expected
abbrev pub IsReadAs : List Expected → List ℕ → Type 0
IsReadAs es text = (line : ℕ) (r : List ℕ) → first_is is_word_byte r ≡ false → Reads es line (text ++ r) (tokens_from line 0 r)

pub part_then : {fs : List Expected} {end : List Placed} (line : ℕ) (es : List Expected) (text r : List ℕ) → IsReadAs es text → first_is is_word_byte r ≡ false → Reads fs line r end → Reads (es ++ fs) line (text ++ r) end
part_then {fs = fs} {end = end} line es text r h stop after = record { begins = begins-append es fs (tokens_from line 0 (text ++ r)) (tokens_from line 0 r) end (h line r stop).begins after.begins }

-- ---- literals

abbrev pub minus_text : Bool → List ℕ
minus_text true = 45 ∷ []
minus_text false = []

pub literal_parts : (at : NumberPlace) (negative : Bool) (n : ℕ) (s : Suffix) → nat_lt n (limit_of at negative s) ≡ true → n < 2 ^ 64
    → (line : ℕ) (r : List ℕ) → first_is is_word_byte r ≡ false
    → Reads ((literal at).spelling (record { negative = negative; number = n; suffix = s })) line (minus_text negative ++ (decimal n ++ (suffix_text s ++ r))) (tokens_from line 0 r)
unfolding literal number_grammar
literal_parts at true n s below fits line r stop = rw below (sign_then line mark.Minus (decimal n ++ (suffix_text s ++ r)) tt (token_then (Number (Some n) s) line (decimal n ++ (suffix_text s ++ r)) r (number line n s r fits stop) (done line r)))
literal_parts at false n s below fits line r stop = rw below (token_then (Number (Some n) s) line (decimal n ++ (suffix_text s ++ r)) r (number line n s r fits stop) (done line r))

-- a number with a sign, at a place where it may stand
pub record MayStand (at : NumberPlace) (z : ℤ) (s : Suffix) : Type 0 where
  pub below : nat_lt (unsigned_abs z) (limit_of at (int_lt z (pos 0)) s) ≡ true
  pub fits : unsigned_abs z < 2 ^ 64

not-below : (n : ℕ) → int_lt (pos n) (pos 0) ≡ false
not-below n = grind (arith, ints)

pub signed_read : (at : NumberPlace) (z : ℤ) (s : Suffix) → MayStand at z s → IsReadAs ((literal at).spelling (number_of z s)) (signed_decimal z ++ suffix_text s)
signed_read at (pos n) s h line r stop =
    rw (append_assoc (decimal n) (suffix_text s) r)
    (subst (λ b. Reads ((literal at).spelling (number_of (pos n) s)) line (minus_text b ++ (decimal n ++ (suffix_text s ++ r))) (tokens_from line 0 r)) (not-below n)
    (literal_parts at (int_lt (pos n) (pos 0)) n s h.below h.fits line r stop))
signed_read at (negsuc n) s h line r stop = rw (append_assoc (decimal (suc n)) (suffix_text s) r) (literal_parts at true (suc n) s h.below h.fits line r stop)

value-stands : (ty : ScalarType) (z : ℤ) → InRange ty z → MayStand places.Literal z (suffix_of ty)
value-stands Int (pos n) h = record { below = grind (arith, ints, h.below); fits = omega (arith, ints, h.below) }
value-stands Int (negsuc n) h = record { below = grind (arith, ints, h.above); fits = omega (arith, ints, h.above) }
value-stands UnsignedInt (pos n) h = record { below = grind (arith, ints, h.below); fits = omega (arith, ints, h.below) }
value-stands UnsignedInt (negsuc n) h = absurd (omega (arith, ints, h.above))
value-stands LongInt (pos n) h = record { below = grind (arith, ints, h.below); fits = omega (arith, ints, h.below) }
value-stands LongInt (negsuc n) h = record { below = grind (arith, ints, h.above); fits = omega (arith, ints, h.above) }
value-stands LongUnsignedInt (pos n) h = record { below = grind (arith, ints, h.below); fits = omega (arith, ints, h.below) }
value-stands LongUnsignedInt (negsuc n) h = absurd (omega (arith, ints, h.above))

typed_read : (ty : ScalarType) (z : ℤ) → InRange ty z → IsReadAs ((literal places.Literal).spelling (literal_of (record { ty = ty; num = z }))) (literal_text (record { ty = ty; num = z }))
typed_read Int z h = signed_read places.Literal z (suffix_of Int) (value-stands Int z h)
typed_read UnsignedInt z h = signed_read places.Literal z (suffix_of UnsignedInt) (value-stands UnsignedInt z h)
typed_read LongInt z h = signed_read places.Literal z (suffix_of LongInt) (value-stands LongInt z h)
typed_read LongUnsignedInt z h = signed_read places.Literal z (suffix_of LongUnsignedInt) (value-stands LongUnsignedInt z h)

pub literal_read : (v : Value) → IsValue v → IsReadAs ((literal places.Literal).spelling (literal_of v)) (literal_text v)
literal_read v h = typed_read v.ty v.num h

-- ---- places and operands

abbrev pub place_text : List ℕ → Option (List ℕ) → List ℕ
place_text n None = n
place_text n (Some f) = n ++ (46 ∷ f)

abbrev pub IsField : Option (List ℕ) → Type 0
IsField None = Unit {0}
IsField (Some f) = IsIdentifier f

pub place_then : {es : List Expected} {end : List Placed} (line : ℕ) (n : List ℕ) (field : Option (List ℕ)) (r : List ℕ) → IsIdentifier n → IsField field → first_is is_word_byte r ≡ false
    → Reads es line r end → Reads (name.spelling n ++ (field_spelling field ++ es)) line (place_text n field ++ r) end
unfolding name
place_then line n None r h f stop after = name_then line n r h stop after
place_then line n (Some field) r h f stop after =
    rw (append_assoc n (46 ∷ field) r) (name_then line n (46 ∷ (field ++ r)) h refl (sign_then line mark.Dot (field ++ r) tt (name_then line field r f stop after)))

pub place_read : (n : List ℕ) (field : Option (List ℕ)) → IsIdentifier n → IsField field → IsReadAs (operand.spelling (operands.Place (record { name = n; field = field }))) (place_text n field)
unfolding name place operand
place_read n None h f line r stop = name_then line n r h stop (done line r)
place_read n (Some field) h f line r stop = place_then line n (Some field) r h f stop (done line r)

pub operand_literal : (v : Value) → IsValue v → IsReadAs (operand.spelling (operands.Literal (literal_of v))) (literal_text v)
unfolding operand
operand_literal v h = literal_read v h

-- ---- arguments

more_is : {X : Type 0} (text : X → List ℕ) (x : X) (xs : List X) (r : List ℕ)
    → flat_map (λ y. codes ", " ++ text y) (x ∷ xs) ++ r ≡ 44 ∷ 32 ∷ (text x ++ (flat_map (λ y. codes ", " ++ text y) xs ++ r))
more_is text x xs r = ap (λ (l : List ℕ). l ++ r) (flat_map-cons (λ y. codes ", " ++ text y) x xs) ∙ append_assoc (codes ", " ++ text x) (flat_map (λ y. codes ", " ++ text y) xs) r

more_stops : {X : Type 0} (text : X → List ℕ) (xs : List X) (r : List ℕ) → first_is is_word_byte (flat_map (λ y. codes ", " ++ text y) xs ++ (41 ∷ r)) ≡ false
more_stops text [] r = refl
more_stops text (x ∷ xs) r = ap (first_is is_word_byte) (more_is text x xs (41 ∷ r))

abbrev pub AreRead : {X : Type 0} → (X → Operand) → (X → List ℕ) → List X → Type 0
AreRead op text xs = AllByRecursion (λ x. IsReadAs (operand.spelling (op x)) (text x)) xs

chain_read : {X : Type 0} (op : X → Operand) (text : X → List ℕ) (x : X) (xs : List X) (line : ℕ) (r : List ℕ) → AreRead op text (x ∷ xs)
    → Reads (chain_spelling argument (op x ∷ map op xs)) line (text x ++ (flat_map (λ y. codes ", " ++ text y) xs ++ (41 ∷ r))) (tokens_from line 0 r)
unfolding argument one_of
chain_read op text x [] line r h = part_then line (operand.spelling (op x)) (text x) (41 ∷ r) h.0 refl (sign_then line mark.CloseRound r tt (done line r))
chain_read op text x (y ∷ ys) line r h =
    let rest = text y ++ (flat_map (λ z. codes ", " ++ text z) ys ++ (41 ∷ r)) in
    rw (more_is text y ys (41 ∷ r), append_assoc (operand.spelling (op x)) (Only (Sign mark.Comma) ∷ []) (chain_spelling argument (op y ∷ map op ys)))
    (part_then line (operand.spelling (op x)) (text x) (44 ∷ 32 ∷ rest) h.0 refl (sign_space_then line mark.Comma rest (chain_read op text y ys line r h.1)))

pub arguments_read : {X : Type 0} (op : X → Operand) (text : X → List ℕ) (xs : List X) (line : ℕ) (r : List ℕ) → AreRead op text xs
    → Reads (arguments.spelling (map op xs)) line (join_by text (codes ", ") xs ++ (41 ∷ r)) (tokens_from line 0 r)
unfolding arguments
arguments_read op text [] line r h = sign_then line mark.CloseRound r tt (done line r)
arguments_read op text (x ∷ xs) line r h =
    rw (append_assoc (text x) (flat_map (λ y. codes ", " ++ text y) xs) (41 ∷ r)) (chain_read op text x xs line r h)

-- ---- types and operators

pub scalar_read : (ty : ScalarType) → IsReadAs (scalar.spelling ty) (scalar_text ty)
unfolding scalar int_or_long long
scalar_read Int line r stop = keyword_then line keyword.Int r stop (done line r)
scalar_read UnsignedInt line r stop = keyword_then line keyword.Unsigned (codes " int" ++ r) refl (space_then line (codes "int" ++ r) (keyword_then line keyword.Int r stop (done line r)))
scalar_read LongInt line r stop = keyword_then line keyword.Long (codes " int" ++ r) refl (space_then line (codes "int" ++ r) (keyword_then line keyword.Int r stop (done line r)))
scalar_read LongUnsignedInt line r stop =
    keyword_then line keyword.Long (codes " unsigned int" ++ r) refl (space_then line (codes "unsigned int" ++ r)
    (keyword_then line keyword.Unsigned (codes " int" ++ r) refl (space_then line (codes "int" ++ r) (keyword_then line keyword.Int r stop (done line r)))))

operator_is : (op : BinaryOp) → operator.spelling op ≡ Only (Sign (mark_of op)) ∷ []
unfolding operator
operator_is Add = refl
operator_is Sub = refl
operator_is Mul = refl
operator_is Div = refl
operator_is Rem = refl
operator_is And = refl
operator_is Or = refl
operator_is Xor = refl
operator_is Shl = refl
operator_is Shr = refl
operator_is Eq = refl
operator_is Ne = refl
operator_is Lt = refl
operator_is Le = refl
operator_is Gt = refl
operator_is Ge = refl

binary_is : (op : BinaryOp) → binary_text op ≡ sign_text (mark_of op)
binary_is Add = refl
binary_is Sub = refl
binary_is Mul = refl
binary_is Div = refl
binary_is Rem = refl
binary_is And = refl
binary_is Or = refl
binary_is Xor = refl
binary_is Shl = refl
binary_is Shr = refl
binary_is Eq = refl
binary_is Ne = refl
binary_is Lt = refl
binary_is Le = refl
binary_is Gt = refl
binary_is Ge = refl

-- an operator and a space
pub operator_then : {es : List Expected} {end : List Placed} (line : ℕ) (op : BinaryOp) (r : List ℕ) → Reads es line r end → Reads (operator.spelling op ++ es) line (binary_text op ++ (32 ∷ r)) end
operator_then line op r h = rw (operator_is op, binary_is op) (sign_space_then line (mark_of op) r h)
