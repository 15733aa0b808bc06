-- The laws of the grammars of arguments, types and variables.
use Rattle.std.proofs.Common.{◌≡◌, ℕ, Bool, false, List, [], ◌∷◌, Some, None, refl, sym, ap}
use Rattle.gimple_ir.specs.declared.types.ScalarType.{ScalarType}
use Rattle.gimple_ir.specs.declared.types.ScalarType.TheVariants as scalars
use Rattle.gimple_tokens.specs.declared.token.Keyword.TheVariants as word
use Rattle.gimple_tokens.specs.declared.token.Mark.TheVariants.{Comma, Dot, CloseRound}
use Rattle.gimple_tokens.specs.Tokens.{Name, Word, Sign, placed}
use Rattle.gimple_grammar.specs.Grammar.{Grammar, ◌▷◌, ◌then◌, only, just, chain, chain_spelling}
use Rattle.gimple_grammar.specs.Pieces.{name, number, literal, place, operand, one_of, nil, nil_of, argument, arguments, long_int_of, long_unsigned_of, long, int_of, int_or_long, unsigned_of, scalar, struct_made, struct_type, struct_parts, scalar_made, scalar_type, scalar_parts, variable}
use Rattle.gimple_grammar.specs.declared.syntax.Operand.TheVariants as operands
use Rattle.gimple_grammar.specs.declared.syntax.«Type».{«Type» as TheType}
use Rattle.gimple_grammar.specs.declared.syntax.«Type».TheVariants as types
use Rattle.gimple_grammar.proofs.Laws.{HasNever, IsPart}
use Rattle.gimple_grammar.proofs.Lists.{Last}
use Rattle.gimple_grammar.proofs.Sound.{Sound, just-sound, before-sound, then-sound, only-sound, either-sound, begins_other, chain-sound}
use Rattle.gimple_grammar.proofs.TokenLaws.{some-is, name-sound, one_of-sound}
use Rattle.gimple_grammar.proofs.Operands.{operand-sound}

-- ---- arguments

nil-made : {A : Type 0} (xs : List A) (x : Unit {0}) → nil_of xs ≡ Some x → nil x ≡ xs
nil-made [] x e = refl
nil-made (y ∷ ys) x e = absurd cc

pub nil-part : {A : Type 0} → IsPart (nil {A = A}) nil_of
nil-part {A = A} = record { back = λ x. refl; made = nil-made }

-- a chain has one value at least
pub nil-values : {A : Type 0} (g : Grammar (A × Bool)) (xs : List A) (x : Unit {0}) → nil_of xs ≡ Some x → HasNever (chain_spelling g xs)
nil-values g [] x e = tt
nil-values g (y ∷ ys) x e = absurd cc

comma-sound : Sound (one_of (Sign Comma) (Sign CloseRound))
comma-sound = one_of-sound (Sign Comma) (Sign CloseRound) refl refl refl

comma-first : (one_of (Sign Comma) (Sign CloseRound)).first (Sign Dot) ≡ false
unfolding one_of
comma-first = refl

pub argument-sound : Sound argument
unfolding argument
argument-sound = operand-sound (one_of (Sign Comma) (Sign CloseRound)) comma-first comma-sound

-- "a" ")"
argument-last : Last argument
unfolding argument operand place name one_of
argument-last = record {
  value = operands.Place (record { name = 97 ∷ []; field = None });
  more = placed (Name (97 ∷ [])) 0 ∷ placed (Sign CloseRound) 0 ∷ [];
  spelled = λ w. (refl, (refl, refl));
}

arguments-first : (chain argument).first (Sign CloseRound) ≡ false
unfolding argument operand place name literal number
arguments-first = refl

pub arguments-sound : Sound arguments
unfolding arguments
arguments-sound =
    either-sound (just (Sign CloseRound)) nil nil_of (chain argument) nil-part
    (begins_other (Sign CloseRound) (chain argument) arguments-first) (nil-values argument)
    (just-sound (Sign CloseRound) refl)
    (chain-sound argument argument-last argument-sound)

-- ---- types

long-int-made : (t : ScalarType) (x : Unit {0}) → long_int_of t ≡ Some x → scalars.LongInt ≡ t
long-int-made scalars.LongInt x e = refl
long-int-made t x e = absurd cc

long-unsigned-made : (t : ScalarType) (x : Unit {0}) → long_unsigned_of t ≡ Some x → scalars.LongUnsignedInt ≡ t
long-unsigned-made scalars.LongUnsignedInt x e = refl
long-unsigned-made t x e = absurd cc

long-values : (t : ScalarType) (x : Unit {0}) → long_int_of t ≡ Some x → HasNever ((only (Word word.Unsigned ▷ just (Word word.Int)) (λ y. scalars.LongUnsignedInt) long_unsigned_of).spelling t)
long-values scalars.LongInt x e = tt
long-values t x e = absurd cc

pub long-sound : Sound long
unfolding long
long-sound =
    either-sound (just (Word word.Int)) (λ x. scalars.LongInt) long_int_of (only (Word word.Unsigned ▷ just (Word word.Int)) (λ x. scalars.LongUnsignedInt) long_unsigned_of)
    (record { back = λ x. refl; made = long-int-made })
    (begins_other (Word word.Int) (only (Word word.Unsigned ▷ just (Word word.Int)) (λ x. scalars.LongUnsignedInt) long_unsigned_of) refl) long-values
    (just-sound (Word word.Int) refl)
    (only-sound (Word word.Unsigned ▷ just (Word word.Int)) (λ x. scalars.LongUnsignedInt) long_unsigned_of (record { back = λ x. refl; made = long-unsigned-made }) (before-sound (Word word.Unsigned) (just (Word word.Int)) refl (just-sound (Word word.Int) refl)))

int-made : (t : ScalarType) (x : Unit {0}) → int_of t ≡ Some x → scalars.Int ≡ t
int-made scalars.Int x e = refl
int-made t x e = absurd cc

int-values : (t : ScalarType) (x : Unit {0}) → int_of t ≡ Some x → HasNever ((Word word.Long ▷ long).spelling t)
unfolding long
int-values scalars.Int x e = tt
int-values t x e = absurd cc

pub int_or_long-sound : Sound int_or_long
unfolding int_or_long
int_or_long-sound =
    either-sound (just (Word word.Int)) (λ x. scalars.Int) int_of (Word word.Long ▷ long) (record { back = λ x. refl; made = int-made })
    (begins_other (Word word.Int) (Word word.Long ▷ long) refl) int-values
    (just-sound (Word word.Int) refl)
    (before-sound (Word word.Long) long refl long-sound)

unsigned-made : (t : ScalarType) (x : Unit {0}) → unsigned_of t ≡ Some x → scalars.UnsignedInt ≡ t
unsigned-made scalars.UnsignedInt x e = refl
unsigned-made t x e = absurd cc

unsigned-values : (t : ScalarType) (x : Unit {0}) → unsigned_of t ≡ Some x → HasNever (int_or_long.spelling t)
unfolding int_or_long long
unsigned-values scalars.UnsignedInt x e = tt
unsigned-values t x e = absurd cc

int_or_long-first : int_or_long.first (Word word.Unsigned) ≡ false
unfolding int_or_long
int_or_long-first = refl

pub scalar-sound : Sound scalar
unfolding scalar
scalar-sound =
    either-sound (Word word.Unsigned ▷ just (Word word.Int)) (λ x. scalars.UnsignedInt) unsigned_of int_or_long (record { back = λ x. refl; made = unsigned-made })
    (begins_other (Word word.Unsigned) int_or_long int_or_long-first) unsigned-values
    (before-sound (Word word.Unsigned) (just (Word word.Int)) refl (just-sound (Word word.Int) refl))
    int_or_long-sound

-- ---- variables

struct-type-made : (t : TheType) (n : List ℕ) (x : List ℕ × List ℕ) → struct_type t n ≡ Some x → struct_made x ≡ record { ty = t; name = n }
struct-type-made (types.Struct s) n x e = sym (ap struct_made (some-is {A = List ℕ × List ℕ} (s, n) x e))
struct-type-made (types.Scalar t) n x e = absurd cc

scalar-type-made : (t : TheType) (n : List ℕ) (x : ScalarType × List ℕ) → scalar_type t n ≡ Some x → scalar_made x ≡ record { ty = t; name = n }
scalar-type-made (types.Struct s) n x e = absurd cc
scalar-type-made (types.Scalar t) n x e = sym (ap scalar_made (some-is {A = ScalarType × List ℕ} (t, n) x e))

struct-type-values : (t : TheType) (n : List ℕ) (x : List ℕ × List ℕ) → struct_type t n ≡ Some x → HasNever ((only (scalar then name) scalar_made scalar_parts).spelling (record { ty = t; name = n }))
struct-type-values (types.Struct s) n x e = tt
struct-type-values (types.Scalar t) n x e = absurd cc

scalar-first : (only (scalar then name) scalar_made scalar_parts).first (Word word.Struct) ≡ false
unfolding scalar int_or_long
scalar-first = refl

pub variable-sound : Sound variable
unfolding variable
variable-sound =
    either-sound (Word word.Struct ▷ (name then name)) struct_made struct_parts (only (scalar then name) scalar_made scalar_parts)
    (record { back = λ x. refl; made = λ d x e. struct-type-made d.ty d.name x e })
    (begins_other (Word word.Struct) (only (scalar then name) scalar_made scalar_parts) scalar-first) (λ d x e. struct-type-values d.ty d.name x e)
    (before-sound (Word word.Struct) (name then name) refl (then-sound name name name-sound name-sound))
    (only-sound (scalar then name) scalar_made scalar_parts (record { back = λ x. refl; made = λ d x e. scalar-type-made d.ty d.name x e }) (then-sound scalar name scalar-sound name-sound))
