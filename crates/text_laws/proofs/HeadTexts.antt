-- Structs, and the heads of arrays and functions, are read as they are written.
use Rattle.std.proofs.Common.{◌≡◌, ℕ, ◌+◌, Bool, true, false, List, [], ◌∷◌, ◌++◌, map, refl, append_assoc}
use Rattle.std.specs.Prelude.{codes}
use Rattle.std.specs.List.{flat_map, AllByRecursion}
use Rattle.gimple_ir.specs.declared.types.ScalarType.{ScalarType}
use Rattle.gimple_ir.specs.declared.types.ScalarType.TheVariants.{Int, UnsignedInt, LongInt, LongUnsignedInt}
use Rattle.gimple_ir.specs.declared.types.ElementType.{ElementType}
use Rattle.gimple_ir.specs.declared.types.ElementType.TheVariants as element
use Rattle.gimple_ir.specs.declared.types.ResultType.{ResultType}
use Rattle.gimple_ir.specs.declared.types.ResultType.TheVariants as returned
use Rattle.gimple_ir.specs.declared.types.Linkage.{Linkage}
use Rattle.gimple_ir.specs.declared.types.Linkage.TheVariants.{Extern, Strong, Weak, Static}
use Rattle.gimple_ir.specs.declared.types.Field.{Field}
use Rattle.gimple_ir.specs.declared.types.StructDef.{StructDef}
use Rattle.gimple_ir.specs.Programs.{IsIdentifier}
use Rattle.gimple_tokens.specs.declared.token.Keyword.TheVariants as keyword
use Rattle.gimple_tokens.specs.declared.token.Mark.TheVariants as mark
use Rattle.gimple_tokens.specs.Tokens.{Name, Word, Sign}
use Rattle.gimple_grammar.specs.Grammar.{Expected, Only, spellings}
use Rattle.gimple_grammar.specs.Pieces.{name, scalar, int_or_long, long, one_of}
use Rattle.gimple_grammar.specs.Items.{field_text, fields, struct_text, bracket, unsigned_head, head, headed, void_head, char_head, item}
use Rattle.gimple_grammar.specs.declared.syntax.Item.TheVariants as items
use Rattle.gimple_print.specs.Words.{scalar_text, element_text, result_text, linkage_text}
use Rattle.gimple_print.specs.Canonical.{field_text as written_field, struct_text as written_struct}
use Rattle.text_laws.specs.Syntax.{field_of, struct_of}
use Rattle.text_laws.proofs.Joined.{Anything, Reads, Stops, joined, word_joined, as_tokens, spaced, sign_first, sign_alone, ended, keyword_spaced, name_first}
use Rattle.text_laws.proofs.DeclaredTexts.{scalar_is_read, name_is_read}

-- ---- structs

field_read : (f : Field) (line : ℕ) → IsIdentifier f.name → Reads Anything (field_text.spelling (field_of f)) line (written_field f) line
unfolding field_text name
field_read f line h =
    let es = Only (Name f.name) ∷ Only (Sign mark.Semicolon) ∷ [] in
    let text = f.name ++ (59 ∷ []) in
    spaced Anything (scalar.spelling f.ty ++ es) line line (scalar_text f.ty ++ (32 ∷ text))
    (word_joined Anything (scalar.spelling f.ty) es line line (scalar_text f.ty) (32 ∷ text) (scalar_is_read f.ty line) (λ r. refl)
    (spaced Anything es line line text (name_first Anything f.name (Only (Sign mark.Semicolon) ∷ []) line line (59 ∷ []) h (λ r. refl) (sign_alone mark.Semicolon line tt))))

fields_read : (fs : List Field) (line : ℕ) → AllByRecursion (λ f. IsIdentifier f.name) fs → Reads Anything (spellings field_text (map field_of fs)) line (flat_map written_field fs) line
fields_read [] line h = λ r c. refl
fields_read (f ∷ fs) line h =
    joined Anything (field_text.spelling (field_of f)) (spellings field_text (map field_of fs)) line line line (written_field f) (flat_map written_field fs) (field_read f line h.0) (fields_read fs line h.1)

pub struct_read : (s : StructDef) (line : ℕ) → IsIdentifier s.name → AllByRecursion (λ f. IsIdentifier f.name) s.fields → Reads Anything (item.spelling (items.Struct (struct_of s))) line (written_struct s) (line + 1)
unfolding item struct_text fields name
struct_read s line h hs =
    let fs = spellings field_text (map field_of s.fields) in
    let end = Only (Sign mark.CloseCurly) ∷ Only (Sign mark.Semicolon) ∷ [] in
    let text = flat_map written_field s.fields ++ (32 ∷ 125 ∷ 59 ∷ 10 ∷ []) in
    let closed = sign_first Anything mark.CloseCurly (Only (Sign mark.Semicolon) ∷ []) line (line + 1) (59 ∷ 10 ∷ []) tt (ended line) in
    let inner : Reads Anything ((fs ++ Only (Sign mark.CloseCurly) ∷ []) ++ Only (Sign mark.Semicolon) ∷ []) line text (line + 1) =
    as_tokens Anything (fs ++ end) ((fs ++ Only (Sign mark.CloseCurly) ∷ []) ++ Only (Sign mark.Semicolon) ∷ []) line (line + 1) text (append_assoc fs (Only (Sign mark.CloseCurly) ∷ []) (Only (Sign mark.Semicolon) ∷ []))
    (joined Anything fs end line line (line + 1) (flat_map written_field s.fields) (32 ∷ 125 ∷ 59 ∷ 10 ∷ []) (fields_read s.fields line hs) (spaced Anything end line (line + 1) (125 ∷ 59 ∷ 10 ∷ []) closed)) in
    let all = (fs ++ Only (Sign mark.CloseCurly) ∷ []) ++ Only (Sign mark.Semicolon) ∷ [] in
    keyword_spaced Anything keyword.Struct (Only (Name s.name) ∷ Only (Sign mark.OpenCurly) ∷ all) line (line + 1) (s.name ++ (32 ∷ 123 ∷ text))
    (name_first Anything s.name (Only (Sign mark.OpenCurly) ∷ all) line (line + 1) (32 ∷ 123 ∷ text) h (λ r. refl)
    (spaced Anything (Only (Sign mark.OpenCurly) ∷ all) line (line + 1) (123 ∷ text) (sign_first Anything mark.OpenCurly all line (line + 1) text tt inner)))

-- ---- heads

-- the bracket that follows the name: "[" of an array, "(" of a function, before which a space stands
abbrev pub bracket_text : Bool → List ℕ
bracket_text true = 91 ∷ []
bracket_text false = 32 ∷ 40 ∷ []

bracket_read : (b : Bool) (line : ℕ) → Reads Anything (bracket.spelling b) line (bracket_text b) line
unfolding bracket one_of
bracket_read true line = sign_alone mark.OpenSquare line tt
bracket_read false line = spaced Anything (Only (Sign mark.OpenRound) ∷ []) line line (40 ∷ []) (sign_alone mark.OpenRound line tt)

bracket_stops : (b : Bool) → Stops (bracket_text b)
bracket_stops true = λ r. refl
bracket_stops false = λ r. refl

headed-is : (ty : ScalarType) (n : List ℕ) (b : Bool) → head.spelling (headed ty n b) ≡ scalar.spelling ty ++ (name.spelling n ++ bracket.spelling b)
unfolding head unsigned_head scalar int_or_long long
headed-is Int n true = refl
headed-is Int n false = refl
headed-is UnsignedInt n true = refl
headed-is UnsignedInt n false = refl
headed-is LongInt n true = refl
headed-is LongInt n false = refl
headed-is LongUnsignedInt n true = refl
headed-is LongUnsignedInt n false = refl

headed_read : (ty : ScalarType) (n : List ℕ) (b : Bool) (line : ℕ) → IsIdentifier n → Reads Anything (head.spelling (headed ty n b)) line (scalar_text ty ++ (32 ∷ (n ++ bracket_text b))) line
headed_read ty n b line h =
    let text = n ++ bracket_text b in
    let es = name.spelling n ++ bracket.spelling b in
    as_tokens Anything (scalar.spelling ty ++ es) (head.spelling (headed ty n b)) line line (scalar_text ty ++ (32 ∷ text)) (headed-is ty n b)
    (word_joined Anything (scalar.spelling ty) es line line (scalar_text ty) (32 ∷ text) (scalar_is_read ty line) (λ r. refl)
    (spaced Anything es line line text (word_joined Anything (name.spelling n) (bracket.spelling b) line line n (bracket_text b) (name_is_read n line h) (bracket_stops b) (bracket_read b line))))

abbrev pub result_spelling : ResultType → List ℕ → List Expected
result_spelling returned.Void n = head.spelling (void_head n)
result_spelling (returned.Scalar ty) n = head.spelling (headed ty n false)

abbrev pub element_spelling : ElementType → List ℕ → List Expected
element_spelling element.UnsignedChar n = head.spelling (char_head n)
element_spelling (element.Scalar ty) n = head.spelling (headed ty n true)

pub result_read : (result : ResultType) (n : List ℕ) (line : ℕ) → IsIdentifier n → Reads Anything (result_spelling result n) line (result_text result ++ (32 ∷ (n ++ (32 ∷ 40 ∷ [])))) line
unfolding head name
result_read returned.Void n line h =
    let es = Only (Sign mark.OpenRound) ∷ [] in
    keyword_spaced Anything keyword.Void (Only (Name n) ∷ es) line line (n ++ (32 ∷ 40 ∷ []))
    (name_first Anything n es line line (32 ∷ 40 ∷ []) h (λ r. refl) (spaced Anything es line line (40 ∷ []) (sign_alone mark.OpenRound line tt)))
result_read (returned.Scalar ty) n line h = headed_read ty n false line h

pub element_read : (e : ElementType) (n : List ℕ) (line : ℕ) → IsIdentifier n → Reads Anything (element_spelling e n) line (element_text e ++ (32 ∷ (n ++ (91 ∷ [])))) line
unfolding head unsigned_head name
element_read element.UnsignedChar n line h =
    let es = Only (Sign mark.OpenSquare) ∷ [] in
    keyword_spaced Anything keyword.Unsigned (Only (Word keyword.Char) ∷ Only (Name n) ∷ es) line line (codes "char" ++ (32 ∷ (n ++ (91 ∷ []))))
    (keyword_spaced Anything keyword.Char (Only (Name n) ∷ es) line line (n ++ (91 ∷ []))
    (name_first Anything n es line line (91 ∷ []) h (λ r. refl) (sign_alone mark.OpenSquare line tt)))
element_read (element.Scalar ty) n line h = headed_read ty n true line h

-- ---- linkages

abbrev pub linkage_spelling : Linkage → List Expected
linkage_spelling Extern = Only (Word keyword.Extern) ∷ []
linkage_spelling Strong = []
linkage_spelling Weak = Only (Word keyword.Weak) ∷ []
linkage_spelling Static = Only (Word keyword.Static) ∷ []

pub linkage_read : (l : Linkage) (es : List Expected) (line after : ℕ) (t : List ℕ) → Reads Anything es line t after → Reads Anything (linkage_spelling l ++ es) line (linkage_text l ++ t) after
linkage_read Extern es line after t p = keyword_spaced Anything keyword.Extern es line after t p
linkage_read Strong es line after t p = p
linkage_read Weak es line after t p = keyword_spaced Anything keyword.Weak es line after t p
linkage_read Static es line after t p = keyword_spaced Anything keyword.Static es line after t p
