-- The laws of the grammars of items, and of the whole text.
use Rattle.std.proofs.Common.{◌≡◌, ℕ, Bool, true, false, List, [], ◌∷◌, Some, refl, sym, ap, ◌∙◌}
use Rattle.std.specs.Prelude.{if◌then◌else◌}
use Rattle.gimple_ir.specs.declared.types.ElementType.{ElementType}
use Rattle.gimple_ir.specs.declared.types.ElementType.TheVariants as elements
use Rattle.gimple_ir.specs.declared.types.ResultType.TheVariants as results
use Rattle.gimple_ir.specs.declared.types.ScalarType.{ScalarType}
use Rattle.gimple_ir.specs.declared.types.ScalarType.TheVariants as scalars
use Rattle.gimple_ir.specs.declared.types.Linkage.{Linkage}
use Rattle.gimple_ir.specs.declared.types.Linkage.TheVariants as linkages
use Rattle.gimple_tokens.specs.declared.token.Keyword.TheVariants as word
use Rattle.gimple_tokens.specs.declared.token.Mark.TheVariants.{Semicolon, Comma, Equals, OpenRound, CloseRound, OpenSquare, CloseSquare, OpenCurly, CloseCurly}
use Rattle.gimple_tokens.specs.declared.token.Suffix.TheVariants.{Plain}
use Rattle.gimple_tokens.specs.declared.numbers.NumberPlace.TheVariants as places
use Rattle.gimple_tokens.specs.Tokens.{Lexeme, Name, Number, Word, Sign, End, placed}
use Rattle.gimple_grammar.specs.Grammar.{Grammar, just, ◌▷◌, ◌◁◌, ◌then◌, then_by, only, choice, either, many, chain, located}
use Rattle.gimple_grammar.specs.Pieces.{name, number, array_length, literal, one_of, nil, nil_of, int_or_long, long, scalar, variable, no_type}
use Rattle.gimple_grammar.specs.Statements.{form, statement, statements}
use Rattle.gimple_grammar.specs.Items.{field_made, field_parts, field_text, fields, struct_made, struct_parts, struct_text, headed, scalar_head, scalar_head_of, unsigned_head_made, unsigned_head_of, char_head, char_head_of, bracket, unsigned_head, is_unsigned, void_head, void_head_of, head, initial, initials, array_rest, parameter, none_of, void_of, some_of, parameters, local, body_made, body_parts, body, function_rest, DefinedRest, defined_rest, defined_by, defined_made, defined_parts, defined, ExternRest, extern_rest, extern_by, extern_made, extern_array, extern_parts, external, struct_of, is_extern, same_linkage, with_linkage, if_some, linked_of, item, item_made, item_parts, item_line, module_text}
use Rattle.gimple_grammar.specs.declared.syntax.Literal.{Literal}
use Rattle.gimple_grammar.specs.declared.syntax.«Type».TheVariants as types
use Rattle.gimple_grammar.specs.declared.syntax.Declared.{Declared}
use Rattle.gimple_grammar.specs.declared.syntax.FieldText.{FieldText}
use Rattle.gimple_grammar.specs.declared.syntax.StructText.{StructText}
use Rattle.gimple_grammar.specs.declared.syntax.Parameters.{Parameters}
use Rattle.gimple_grammar.specs.declared.syntax.Parameters.TheVariants as parameter_texts
use Rattle.gimple_grammar.specs.declared.syntax.Line.{Line}
use Rattle.gimple_grammar.specs.declared.syntax.Body.{Body}
use Rattle.gimple_grammar.specs.declared.syntax.Item.{Item}
use Rattle.gimple_grammar.specs.declared.syntax.Item.TheVariants as items
use Rattle.gimple_grammar.specs.declared.syntax.ItemLine.{ItemLine}
use Rattle.gimple_grammar.specs.declared.parts.Head.{Head}
use Rattle.gimple_grammar.specs.declared.parts.Head.TheVariants as heads
use Rattle.gimple_grammar.specs.declared.parts.Defined.{Defined}
use Rattle.gimple_grammar.specs.declared.parts.Defined.TheVariants as defineds
use Rattle.gimple_grammar.proofs.Laws.{HasNever, IsPart}
use Rattle.gimple_grammar.proofs.Lists.{Last}
use Rattle.gimple_grammar.proofs.Sound.{Sound, just-sound, before-sound, after-sound, then-sound, by-sound, only-sound, choice-sound, either-sound, begins_other, located-sound, many-sound, until-sound, chain-sound}
use Rattle.gimple_grammar.proofs.TokenLaws.{some-is, name-sound, length-sound, literal-sound, one_of-sound, zero-fits}
use Rattle.gimple_grammar.proofs.PieceLaws.{nil-part, int_or_long-sound, scalar-sound, variable-sound}
use Rattle.gimple_grammar.proofs.StatementLaws.{statements-sound}

-- ---- structs

field-made : (f : FieldText) (x : ScalarType × List ℕ) → field_parts f ≡ Some x → field_made x ≡ f
field-made f x e = sym (ap field_made (some-is {A = ScalarType × List ℕ} (f.ty, f.name) x e))

pub field_text-sound : Sound field_text
unfolding field_text
field_text-sound =
    only-sound (scalar then name ◁ Sign Semicolon) field_made field_parts (record { back = λ x. refl; made = field-made })
    (then-sound scalar (name ◁ Sign Semicolon) scalar-sound (after-sound name (Sign Semicolon) refl name-sound))

field-first : field_text.first (Sign CloseCurly) ≡ false
unfolding field_text scalar int_or_long
field-first = refl

pub fields-sound : Sound fields
unfolding fields
fields-sound = until-sound (Sign CloseCurly) field_text refl field-first field_text-sound

struct-made : (s : StructText) (x : List ℕ × List FieldText) → struct_parts s ≡ Some x → struct_made x ≡ s
struct-made s x e = sym (ap struct_made (some-is {A = List ℕ × List FieldText} (s.name, s.fields) x e))

pub struct_text-sound : Sound struct_text
unfolding struct_text
struct_text-sound =
    only-sound (name ◁ Sign OpenCurly then fields ◁ Sign Semicolon) struct_made struct_parts (record { back = λ x. refl; made = struct-made })
    (then-sound (name ◁ Sign OpenCurly) (fields ◁ Sign Semicolon) (after-sound name (Sign OpenCurly) refl name-sound) (after-sound fields (Sign Semicolon) refl fields-sound))

-- ---- heads

pub bracket-sound : Sound bracket
unfolding bracket
bracket-sound = one_of-sound (Sign OpenSquare) (Sign OpenRound) refl refl refl

char-made : (h : Head) (n : List ℕ) → char_head_of h ≡ Some n → char_head n ≡ h
char-made (heads.Array elements.UnsignedChar m) n e = ap char_head (sym (some-is m n e))
char-made h n e = absurd cc

unsigned-back : (n : List ℕ) (b : Bool) → unsigned_head_of (headed scalars.UnsignedInt n b) ≡ Some (n, b)
unsigned-back n true = refl
unsigned-back n false = refl

unsigned-made : (h : Head) (x : List ℕ × Bool) → unsigned_head_of h ≡ Some x → unsigned_head_made x ≡ h
unsigned-made (heads.Array (elements.Scalar scalars.UnsignedInt) n) x e = sym (ap unsigned_head_made (some-is {A = List ℕ × Bool} (n, true) x e))
unsigned-made (heads.Function (results.Scalar scalars.UnsignedInt) n) x e = sym (ap unsigned_head_made (some-is {A = List ℕ × Bool} (n, false) x e))
unsigned-made h x e = absurd cc

abbrev unsigned_int : Grammar Head
unsigned_int = only (Word word.Int ▷ (name then bracket)) unsigned_head_made unsigned_head_of

char-values : (h : Head) (n : List ℕ) → char_head_of h ≡ Some n → HasNever (unsigned_int.spelling h)
char-values (heads.Array elements.UnsignedChar m) n e = tt
char-values h n e = absurd cc

pub unsigned_head-sound : Sound unsigned_head
unfolding unsigned_head
unsigned_head-sound =
    either-sound (Word word.Char ▷ name ◁ Sign OpenSquare) char_head char_head_of unsigned_int (record { back = λ x. refl; made = char-made })
    (begins_other (Word word.Char) unsigned_int refl) char-values
    (before-sound (Word word.Char) (name ◁ Sign OpenSquare) refl (after-sound name (Sign OpenSquare) refl name-sound))
    (only-sound (Word word.Int ▷ (name then bracket)) unsigned_head_made unsigned_head_of (record { back = λ x. unsigned-back x.0 x.1; made = unsigned-made })
    (before-sound (Word word.Int) (name then bracket) refl (then-sound name bracket name-sound bracket-sound)))

abbrev HeadParts : Type 0
HeadParts = ScalarType × (List ℕ × Bool)

scalar-back : (t : ScalarType) (n : List ℕ) (b : Bool) → scalar_head_of (headed t n b) ≡ Some (t, (n, b))
scalar-back t n true = refl
scalar-back t n false = refl

scalar-made : (h : Head) (x : HeadParts) → scalar_head_of h ≡ Some x → scalar_head x ≡ h
scalar-made (heads.Array (elements.Scalar t) n) x e = sym (ap scalar_head (some-is {A = HeadParts} (t, (n, true)) x e))
scalar-made (heads.Function (results.Scalar t) n) x e = sym (ap scalar_head (some-is {A = HeadParts} (t, (n, false)) x e))
scalar-made h x e = absurd cc

void-made : (h : Head) (n : List ℕ) → void_head_of h ≡ Some n → void_head n ≡ h
void-made (heads.Function results.Void m) n e = ap void_head (sym (some-is m n e))
void-made h n e = absurd cc

abbrev head_scalar : Grammar Head
head_scalar = only (int_or_long then (name then bracket)) scalar_head scalar_head_of

abbrev head_unsigned : Grammar Head
head_unsigned = choice (Word word.Unsigned ▷ unsigned_head) is_unsigned head_scalar

void-values : (h : Head) (n : List ℕ) → void_head_of h ≡ Some n → HasNever (head_unsigned.spelling h)
void-values (heads.Function results.Void m) n e = tt
void-values h n e = absurd cc

signed-values : (h : Head) → is_unsigned h ≡ false → HasNever ((Word word.Unsigned ▷ unsigned_head).spelling h)
unfolding unsigned_head
signed-values (heads.Array elements.UnsignedChar n) e = absurd cc
signed-values (heads.Array (elements.Scalar scalars.UnsignedInt) n) e = absurd cc
signed-values (heads.Array (elements.Scalar scalars.Int) n) e = tt
signed-values (heads.Array (elements.Scalar scalars.LongInt) n) e = tt
signed-values (heads.Array (elements.Scalar scalars.LongUnsignedInt) n) e = tt
signed-values (heads.Function results.Void n) e = tt
signed-values (heads.Function (results.Scalar scalars.UnsignedInt) n) e = absurd cc
signed-values (heads.Function (results.Scalar scalars.Int) n) e = tt
signed-values (heads.Function (results.Scalar scalars.LongInt) n) e = tt
signed-values (heads.Function (results.Scalar scalars.LongUnsignedInt) n) e = tt

unsigned-values : (h : Head) → is_unsigned h ≡ true → HasNever (head_scalar.spelling h)
unfolding int_or_long long
unsigned-values (heads.Array elements.UnsignedChar n) e = tt
unsigned-values (heads.Array (elements.Scalar scalars.UnsignedInt) n) e = tt
unsigned-values (heads.Function (results.Scalar scalars.UnsignedInt) n) e = tt
unsigned-values h e = absurd cc

head-scalar-first : head_scalar.first (Word word.Unsigned) ≡ false
unfolding int_or_long
head-scalar-first = refl

head-unsigned-first : head_unsigned.first (Word word.Void) ≡ false
unfolding int_or_long
head-unsigned-first = refl

pub head-sound : Sound head
unfolding head
head-sound =
    either-sound (Word word.Void ▷ name ◁ Sign OpenRound) void_head void_head_of head_unsigned (record { back = λ x. refl; made = void-made })
    (begins_other (Word word.Void) head_unsigned head-unsigned-first) void-values
    (before-sound (Word word.Void) (name ◁ Sign OpenRound) refl (after-sound name (Sign OpenRound) refl name-sound))
    (choice-sound (Word word.Unsigned ▷ unsigned_head) is_unsigned head_scalar (record { first = begins_other (Word word.Unsigned) head_scalar head-scalar-first; left = signed-values; right = unsigned-values })
    (before-sound (Word word.Unsigned) unsigned_head refl unsigned_head-sound)
    (only-sound (int_or_long then (name then bracket)) scalar_head scalar_head_of (record { back = λ x. scalar-back x.0 x.1.0 x.1.1; made = scalar-made })
    (then-sound int_or_long (name then bracket) int_or_long-sound (then-sound name bracket name-sound bracket-sound))))

-- ---- arrays

pub initial-sound : (element : ElementType) → Sound (initial element)
unfolding initial
initial-sound element =
    then-sound (literal (places.Initial element)) (one_of (Sign Comma) (Sign CloseCurly)) (literal-sound (places.Initial element)) (one_of-sound (Sign Comma) (Sign CloseCurly) refl refl refl)

-- "0" "}"
initial-last : (element : ElementType) → Last (initial element)
unfolding initial literal number one_of
initial-last element = record {
  value = record { negative = false; number = 0; suffix = Plain };
  more = placed (Number (Some 0) Plain) 0 ∷ placed (Sign CloseCurly) 0 ∷ [];
  spelled = λ w. rw (zero-fits (places.Initial element) false) (refl, (refl, refl));
}

abbrev some_initials : ElementType → Grammar (List Literal)
some_initials element = Sign Equals ▷ Sign OpenCurly ▷ chain (initial element) ◁ Sign Semicolon

initials-values : (element : ElementType) (xs : List Literal) (x : Unit {0}) → nil_of xs ≡ Some x → HasNever ((some_initials element).spelling xs)
initials-values element [] x e = tt
initials-values element (y ∷ ys) x e = absurd cc

pub initials-sound : (element : ElementType) → Sound (initials element)
unfolding initials
initials-sound element =
    either-sound (just (Sign Semicolon)) nil nil_of (some_initials element) nil-part
    (begins_other (Sign Semicolon) (some_initials element) refl) (initials-values element)
    (just-sound (Sign Semicolon) refl)
    (before-sound (Sign Equals) (Sign OpenCurly ▷ chain (initial element) ◁ Sign Semicolon) refl
    (before-sound (Sign OpenCurly) (chain (initial element) ◁ Sign Semicolon) refl
    (after-sound (chain (initial element)) (Sign Semicolon) refl (chain-sound (initial element) (initial-last element) (initial-sound element)))))

pub array_rest-sound : (element : ElementType) → Sound (array_rest element)
unfolding array_rest
array_rest-sound element = then-sound (array_length ◁ Sign CloseSquare) (initials element) (after-sound array_length (Sign CloseSquare) refl length-sound) (initials-sound element)

-- ---- functions

pub parameter-sound : Sound parameter
unfolding parameter
parameter-sound = then-sound variable (one_of (Sign Comma) (Sign CloseRound)) variable-sound (one_of-sound (Sign Comma) (Sign CloseRound) refl refl refl)

-- "int" "a" ")"
parameter-last : Last parameter
unfolding parameter variable scalar int_or_long name one_of
parameter-last = record {
  value = record { ty = types.Scalar scalars.Int; name = 97 ∷ [] };
  more = placed (Word word.Int) 0 ∷ placed (Name (97 ∷ [])) 0 ∷ placed (Sign CloseRound) 0 ∷ [];
  spelled = λ w. (refl, (refl, (refl, refl)));
}

none-made : (p : Parameters) (x : Unit {0}) → none_of p ≡ Some x → parameter_texts.None ≡ p
none-made parameter_texts.None x e = refl
none-made p x e = absurd cc

void-parameters-made : (p : Parameters) (x : Unit {0}) → void_of p ≡ Some x → parameter_texts.Void ≡ p
void-parameters-made parameter_texts.Void x e = refl
void-parameters-made p x e = absurd cc

some-made : (p : Parameters) (x : List Declared) → some_of p ≡ Some x → parameter_texts.Some x ≡ p
some-made (parameter_texts.Some list) x e = ap parameter_texts.Some (sym (some-is list x e))
some-made p x e = absurd cc

abbrev some_parameters : Grammar Parameters
some_parameters = only (chain parameter) parameter_texts.Some some_of

abbrev void_parameters : Grammar Parameters
void_parameters = either (Word word.Void ▷ just (Sign CloseRound)) (λ x. parameter_texts.Void) void_of some_parameters

void-parameters-values : (p : Parameters) (x : Unit {0}) → void_of p ≡ Some x → HasNever (some_parameters.spelling p)
void-parameters-values parameter_texts.Void x e = tt
void-parameters-values p x e = absurd cc

none-values : (p : Parameters) (x : Unit {0}) → none_of p ≡ Some x → HasNever (void_parameters.spelling p)
none-values parameter_texts.None x e = tt
none-values p x e = absurd cc

some-parameters-first : some_parameters.first (Word word.Void) ≡ false
unfolding parameter variable scalar int_or_long
some-parameters-first = refl

void-parameters-first : void_parameters.first (Sign CloseRound) ≡ false
unfolding parameter variable scalar int_or_long
void-parameters-first = refl

pub parameters-sound : Sound parameters
unfolding parameters
parameters-sound =
    either-sound (just (Sign CloseRound)) (λ x. parameter_texts.None) none_of void_parameters (record { back = λ x. refl; made = none-made })
    (begins_other (Sign CloseRound) void_parameters void-parameters-first) none-values
    (just-sound (Sign CloseRound) refl)
    (either-sound (Word word.Void ▷ just (Sign CloseRound)) (λ x. parameter_texts.Void) void_of some_parameters (record { back = λ x. refl; made = void-parameters-made })
    (begins_other (Word word.Void) some_parameters some-parameters-first) void-parameters-values
    (before-sound (Word word.Void) (just (Sign CloseRound)) refl (just-sound (Sign CloseRound) refl))
    (only-sound (chain parameter) parameter_texts.Some some_of (record { back = λ x. refl; made = some-made }) (chain-sound parameter parameter-last parameter-sound)))

pub local-sound : Sound local
unfolding local
local-sound = after-sound variable (Sign Semicolon) refl variable-sound

-- a local begins with a type
local-goes : (t : Lexeme) → local.first t ≡ true → no_type t ≡ false
unfolding local variable scalar int_or_long
local-goes (Word word.Int) e = refl
local-goes (Word word.Unsigned) e = refl
local-goes (Word word.Long) e = refl
local-goes (Word word.Struct) e = refl
local-goes t e = absurd cc

-- and a statement does not
statements-stop : (t : Lexeme) → statements.first t ≡ true → no_type t ≡ true
unfolding statements statement form name
statements-stop (Word word.Int) e = absurd cc
statements-stop (Word word.Unsigned) e = absurd cc
statements-stop (Word word.Long) e = absurd cc
statements-stop (Word word.Struct) e = absurd cc
statements-stop t e = refl

pub no_type-is : (b : Bool) → b ≡ true → (if b then false else true) ≡ false
no_type-is true e = refl
no_type-is false e = absurd cc

pub type-is : (b : Bool) → b ≡ false → (if b then false else true) ≡ true
type-is true e = absurd cc
type-is false e = refl

body-is : (b : Body) (x : List Declared × List Line) → body_parts b ≡ Some x → body_made x ≡ b
body-is b x e = sym (ap body_made (some-is {A = List Declared × List Line} (b.locals, b.lines) x e))

pub body-sound : Sound body
unfolding body
body-sound =
    only-sound (many no_type local then statements) body_made body_parts (record { back = λ x. refl; made = body-is })
    (many-sound no_type local statements (record { goes = local-goes; stops = statements-stop }) local-sound statements-sound)

pub function_rest-sound : Sound function_rest
unfolding function_rest
function_rest-sound = then-sound (parameters ◁ Sign OpenCurly) body (after-sound parameters (Sign OpenCurly) refl parameters-sound) body-sound

-- ---- definitions

defined_rest-sound : (h : Head) → Sound (defined_rest h)
defined_rest-sound (heads.Array e n) = array_rest-sound e
defined_rest-sound (heads.Function r n) = function_rest-sound

abbrev DefinedParts : Type 0
DefinedParts = (h : Head) × DefinedRest h

defined-back : (h : Head) (x : DefinedRest h) → defined_parts (defined_by h x) ≡ Some (h, x)
defined-back (heads.Array e n) x = refl
defined-back (heads.Function r n) x = refl

defined-made : (d : Defined) (x : DefinedParts) → defined_parts d ≡ Some x → defined_made x ≡ d
defined-made (defineds.Array a) x e = sym (ap defined_made (some-is {A = DefinedParts} (heads.Array a.element a.name, (a.length, a.initial)) x e))
defined-made (defineds.Function f b) x e = sym (ap defined_made (some-is {A = DefinedParts} (heads.Function f.result f.name, (f.parameters, b)) x e))

pub defined-sound : Sound defined
unfolding defined
defined-sound =
    only-sound (then_by head defined_rest) defined_made defined_parts (record { back = λ x. defined-back x.0 x.1; made = defined-made })
    (by-sound head defined_rest head-sound defined_rest-sound)

-- ---- declarations

extern_rest-sound : (h : Head) → Sound (extern_rest h)
extern_rest-sound (heads.Array e n) = after-sound (array_length ◁ Sign CloseSquare) (Sign Semicolon) refl (after-sound array_length (Sign CloseSquare) refl length-sound)
extern_rest-sound (heads.Function r n) = after-sound parameters (Sign Semicolon) refl parameters-sound

abbrev ExternParts : Type 0
ExternParts = (h : Head) × ExternRest h

extern-back : (h : Head) (x : ExternRest h) → extern_parts (extern_by h x) ≡ Some (h, x)
extern-back (heads.Array e n) x = refl
extern-back (heads.Function r n) x = refl

extern-array-made : (e : ElementType) (n : List ℕ) (count : ℕ) (ls : List Literal) (x : ExternParts) → extern_array (record { element = e; name = n; length = count; initial = ls }) ls ≡ Some x → extern_made x ≡ items.ExternArray (record { element = e; name = n; length = count; initial = ls })
extern-array-made e n count [] x f = sym (ap extern_made (some-is {A = ExternParts} (heads.Array e n, count) x f))
extern-array-made e n count (l ∷ ls) x f = absurd cc

extern-made : (i : Item) (x : ExternParts) → extern_parts i ≡ Some x → extern_made x ≡ i
extern-made (items.ExternArray a) x e = extern-array-made a.element a.name a.length a.initial x e
extern-made (items.ExternFunction f) x e = sym (ap extern_made (some-is {A = ExternParts} (heads.Function f.result f.name, f.parameters) x e))
extern-made i x e = absurd cc

pub external-sound : Sound external
unfolding external
external-sound =
    only-sound (then_by head extern_rest) extern_made extern_parts (record { back = λ x. extern-back x.0 x.1; made = extern-made })
    (by-sound head extern_rest head-sound extern_rest-sound)

-- ---- items

if-some-true : {A : Type 0} (b : Bool) (x : A) → b ≡ true → if_some b x ≡ Some x
if-some-true true x e = refl
if-some-true false x e = absurd cc

if-some-is : {A : Type 0} (b : Bool) (x y : A) → if_some b x ≡ Some y → (b ≡ true) × (x ≡ y)
if-some-is true x y e = (refl, cc)
if-some-is false x y e = absurd cc

linkage-is : (l k : Linkage) → same_linkage l k ≡ true → l ≡ k
linkage-is linkages.Strong linkages.Strong e = refl
linkage-is linkages.Weak linkages.Weak e = refl
linkage-is linkages.Static linkages.Static e = refl
linkage-is l k e = absurd cc

linked-back : (l : Linkage) → same_linkage l l ≡ true → (d : Defined) → linked_of l (with_linkage l d) ≡ Some d
linked-back l s (defineds.Array a) = if-some-true (same_linkage l l) (defineds.Array a) s
linked-back l s (defineds.Function f b) = if-some-true (same_linkage l l) (defineds.Function f b) s

linked-made : (l : Linkage) (i : Item) (d : Defined) → linked_of l i ≡ Some d → with_linkage l d ≡ i
linked-made l (items.Array k a) d e =
    let i = if-some-is (same_linkage l k) (defineds.Array a) d e in
    ap (with_linkage l) (sym i.1) ∙ ap (λ (m : Linkage). items.Array m a) (linkage-is l k i.0)
linked-made l (items.Function k f b) d e =
    let i = if-some-is (same_linkage l k) (defineds.Function f b) d e in
    ap (with_linkage l) (sym i.1) ∙ ap (λ (m : Linkage). items.Function m f b) (linkage-is l k i.0)
linked-made l i d e = absurd cc

linked-part : (l : Linkage) → same_linkage l l ≡ true → IsPart (with_linkage l) (linked_of l)
linked-part l s = record { back = linked-back l s; made = linked-made l }

struct-is : (i : Item) (s : StructText) → struct_of i ≡ Some s → items.Struct s ≡ i
struct-is (items.Struct t) s e = ap items.Struct (sym (some-is t s e))
struct-is i s e = absurd cc

abbrev item_strong : Grammar Item
item_strong = only defined (with_linkage linkages.Strong) (linked_of linkages.Strong)

abbrev item_weak : Grammar Item
item_weak = either (Word word.Weak ▷ defined) (with_linkage linkages.Weak) (linked_of linkages.Weak) item_strong

abbrev item_static : Grammar Item
item_static = either (Word word.Static ▷ defined) (with_linkage linkages.Static) (linked_of linkages.Static) item_weak

abbrev item_extern : Grammar Item
item_extern = choice (Word word.Extern ▷ external) is_extern item_static

weak-values : (i : Item) (d : Defined) → linked_of linkages.Weak i ≡ Some d → HasNever (item_strong.spelling i)
weak-values (items.Array linkages.Weak a) d e = tt
weak-values (items.Function linkages.Weak f b) d e = tt
weak-values i d e = absurd cc

static-values : (i : Item) (d : Defined) → linked_of linkages.Static i ≡ Some d → HasNever (item_weak.spelling i)
static-values (items.Array linkages.Static a) d e = tt
static-values (items.Function linkages.Static f b) d e = tt
static-values i d e = absurd cc

no-extern-values : (i : Item) → is_extern i ≡ false → HasNever ((Word word.Extern ▷ external).spelling i)
unfolding external
no-extern-values (items.ExternArray a) e = absurd cc
no-extern-values (items.ExternFunction f) e = absurd cc
no-extern-values i e = tt

extern-values : (i : Item) → is_extern i ≡ true → HasNever (item_static.spelling i)
extern-values (items.ExternArray a) e = tt
extern-values (items.ExternFunction f) e = tt
extern-values i e = absurd cc

struct-values : (i : Item) (s : StructText) → struct_of i ≡ Some s → HasNever (item_extern.spelling i)
struct-values (items.Struct t) s e = tt
struct-values i s e = absurd cc

strong-first : item_strong.first (Word word.Weak) ≡ false
unfolding defined head int_or_long
strong-first = refl

weak-first : item_weak.first (Word word.Static) ≡ false
unfolding defined head int_or_long
weak-first = refl

static-first : item_static.first (Word word.Extern) ≡ false
unfolding defined head int_or_long
static-first = refl

extern-first : item_extern.first (Word word.Struct) ≡ false
unfolding defined head int_or_long
extern-first = refl

pub item-sound : Sound item
unfolding item
item-sound =
    either-sound (Word word.Struct ▷ struct_text) items.Struct struct_of item_extern (record { back = λ x. refl; made = struct-is })
    (begins_other (Word word.Struct) item_extern extern-first) struct-values
    (before-sound (Word word.Struct) struct_text refl struct_text-sound)
    (choice-sound (Word word.Extern ▷ external) is_extern item_static (record { first = begins_other (Word word.Extern) item_static static-first; left = no-extern-values; right = extern-values })
    (before-sound (Word word.Extern) external refl external-sound)
    (either-sound (Word word.Static ▷ defined) (with_linkage linkages.Static) (linked_of linkages.Static) item_weak (linked-part linkages.Static refl)
    (begins_other (Word word.Static) item_weak weak-first) static-values
    (before-sound (Word word.Static) defined refl defined-sound)
    (either-sound (Word word.Weak ▷ defined) (with_linkage linkages.Weak) (linked_of linkages.Weak) item_strong (linked-part linkages.Weak refl)
    (begins_other (Word word.Weak) item_strong strong-first) weak-values
    (before-sound (Word word.Weak) defined refl defined-sound)
    (only-sound defined (with_linkage linkages.Strong) (linked_of linkages.Strong) (linked-part linkages.Strong refl) defined-sound))))

item-made : (l : ItemLine) (x : ℕ × Item) → item_parts l ≡ Some x → item_made x ≡ l
item-made l x e = sym (ap item_made (some-is {A = ℕ × Item} (l.line, l.item) x e))

pub item_line-sound : Sound item_line
unfolding item_line
item_line-sound = only-sound (located item) item_made item_parts (record { back = λ x. refl; made = item-made }) (located-sound item item-sound)

item-first : item_line.first End ≡ false
unfolding item_line item defined head int_or_long
item-first = refl

pub module-sound : Sound module_text
unfolding module_text
module-sound = until-sound End item_line refl item-first item_line-sound
