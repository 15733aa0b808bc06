-- Types, variables and lists of them are read as they are written.
use Rattle.std.proofs.Common.{◌≡◌, ℕ, ◌+◌, List, [], ◌∷◌, ◌++◌, length, map, refl, subst, append_assoc, arith}
use Rattle.std.specs.Prelude.{codes}
use Rattle.std.specs.List.{flat_map, join_by, AllByRecursion}
use Rattle.gimple_ir.specs.declared.types.ScalarType.{ScalarType}
use Rattle.gimple_ir.specs.declared.types.VarType.{VarType}
use Rattle.gimple_ir.specs.declared.types.VarType.TheVariants as variable_type
use Rattle.gimple_ir.specs.declared.types.StructDef.{StructDef}
use Rattle.gimple_ir.specs.declared.types.Variable.{Variable}
use Rattle.gimple_ir.specs.Programs.{IsIdentifier}
use Rattle.gimple_tokens.specs.declared.token.Keyword.TheVariants as keyword
use Rattle.gimple_tokens.specs.declared.token.Mark.{Mark}
use Rattle.gimple_tokens.specs.declared.token.Mark.TheVariants as mark
use Rattle.gimple_tokens.specs.Tokens.{Sign}
use Rattle.gimple_grammar.specs.Grammar.{Grammar, Only, spellings, chain_spelling, ◌then◌}
use Rattle.gimple_grammar.specs.Pieces.{name, scalar, variable, one_of}
use Rattle.gimple_grammar.specs.Items.{local, parameter, parameters}
use Rattle.gimple_print.specs.Words.{scalar_text}
use Rattle.gimple_print.specs.Places.{type_text, declaration_text}
use Rattle.gimple_print.specs.Canonical.{local_text, parameters_text}
use Rattle.text_laws.specs.Syntax.{struct_name, type_of, declared_of, some_parameters}
use Rattle.text_laws.proofs.Spaced.{sign_text, IsAlone}
use Rattle.text_laws.proofs.Pieces.{scalar_read}
use Rattle.text_laws.proofs.Joined.{Anything, NoWord, Reads, Stops, joined, word_joined, as_text, as_tokens, spaced, sign_first, sign_alone, ended, keyword_spaced, name_alone}

-- ---- types

pub scalar_is_read : (ty : ScalarType) (line : ℕ) → Reads NoWord (scalar.spelling ty) line (scalar_text ty) line
scalar_is_read ty line = λ r stop. (scalar_read ty line r stop).begins

pub name_is_read : (n : List ℕ) (line : ℕ) → IsIdentifier n → Reads NoWord (name.spelling n) line n line
unfolding name
name_is_read n line h = name_alone n line h

-- ---- variables

-- a struct's number names a struct
abbrev pub HasName : List StructDef → VarType → Type 0
HasName structs (variable_type.Scalar ty) = Unit {0}
HasName structs (variable_type.Struct n) = IsIdentifier (struct_name structs n)

abbrev pub IsDeclared : List StructDef → Variable → Type 0
IsDeclared structs v = IsIdentifier v.name × HasName structs v.ty

typed_read : (structs : List StructDef) (ty : VarType) (n : List ℕ) (line : ℕ) → IsIdentifier n → HasName structs ty → Reads NoWord (variable.spelling (record { ty = type_of structs ty; name = n })) line (type_text structs ty ++ (32 ∷ n)) line
unfolding variable
typed_read structs (variable_type.Scalar ty) n line h named =
    word_joined NoWord (scalar.spelling ty) (name.spelling n) line line (scalar_text ty) (32 ∷ n) (scalar_is_read ty line) (λ r. refl) (spaced NoWord (name.spelling n) line line n (name_is_read n line h))
typed_read structs (variable_type.Struct k) n line h named =
    let s = struct_name structs k in
    keyword_spaced NoWord keyword.Struct (name.spelling s ++ name.spelling n) line line (s ++ (32 ∷ n))
    (word_joined NoWord (name.spelling s) (name.spelling n) line line s (32 ∷ n) (name_is_read s line named) (λ r. refl) (spaced NoWord (name.spelling n) line line n (name_is_read n line h)))

pub variable_read : (structs : List StructDef) (v : Variable) (line : ℕ) → IsDeclared structs v → Reads NoWord (variable.spelling (declared_of structs v)) line (declaration_text structs v) line
variable_read structs v line h = typed_read structs v.ty v.name line h.0 h.1

-- ---- locals

local_read : (structs : List StructDef) (v : Variable) (line : ℕ) → IsDeclared structs v → Reads Anything (local.spelling (declared_of structs v)) line (local_text structs v) (line + 1)
unfolding local
local_read structs v line h =
    let es = variable.spelling (declared_of structs v) ++ Only (Sign mark.Semicolon) ∷ [] in
    let text = declaration_text structs v ++ (59 ∷ 10 ∷ []) in
    let read = word_joined Anything (variable.spelling (declared_of structs v)) (Only (Sign mark.Semicolon) ∷ []) line (line + 1) (declaration_text structs v) (59 ∷ 10 ∷ []) (variable_read structs v line h) (λ r. refl) (ended line) in
    spaced Anything es line (line + 1) (32 ∷ text) (spaced Anything es line (line + 1) text read)

pub locals_read : (structs : List StructDef) (vs : List Variable) (line : ℕ) → AllByRecursion (IsDeclared structs) vs → Reads Anything (spellings local (map (declared_of structs) vs)) line (flat_map (local_text structs) vs) (line + length vs)
locals_read structs [] line h = subst (λ (k : ℕ). Reads Anything [] line [] k) (omega arith) (λ r c. refl)
locals_read structs (v ∷ vs) line h =
    let es = local.spelling (declared_of structs v) in
    let fs = spellings local (map (declared_of structs) vs) in
    let last : line + 1 + length vs ≡ line + length (v ∷ vs) = omega arith in
    subst (λ (k : ℕ). Reads Anything (es ++ fs) line (local_text structs v ++ flat_map (local_text structs) vs) k) last
    (joined Anything es fs line (line + 1) (line + 1 + length vs) (local_text structs v) (flat_map (local_text structs) vs) (local_read structs v line h.0) (locals_read structs vs (line + 1) h.1))

-- ---- values with a comma between each two, and a sign after the last

abbrev pub more_text : {A : Type 0} → (A → List ℕ) → List A → List ℕ
more_text text xs = flat_map (λ y. codes ", " ++ text y) xs

pub chain_read : {A X : Type 0} (g : Grammar X) (m : Mark) (f : A → X) (text : A → List ℕ) (P : A → Type 0) (line : ℕ) → IsAlone m → Stops (sign_text m) → ((a : A) → P a → Reads NoWord (g.spelling (f a)) line (text a) line)
    → (x : A) (xs : List A) → P x → AllByRecursion P xs
    → Reads Anything (chain_spelling (g then one_of (Sign mark.Comma) (Sign m)) (map f (x ∷ xs))) line (join_by text (codes ", ") (x ∷ xs) ++ sign_text m) line
unfolding one_of
chain_read g m f text P line alone stops reads x [] p ps =
    as_text Anything (g.spelling (f x) ++ Only (Sign m) ∷ []) line line (text x ++ sign_text m) ((text x ++ []) ++ sign_text m) (append_assoc (text x) [] (sign_text m))
    (word_joined Anything (g.spelling (f x)) (Only (Sign m) ∷ []) line line (text x) (sign_text m) (reads x p) stops (sign_alone m line alone))
chain_read g m f text P line alone stops reads x (y ∷ ys) p ps =
    let later = chain_spelling (g then one_of (Sign mark.Comma) (Sign m)) (map f (y ∷ ys)) in
    let rest = join_by text (codes ", ") (y ∷ ys) ++ sign_text m in
    let es = g.spelling (f x) ++ (Only (Sign mark.Comma) ∷ later) in
    let read = word_joined Anything (g.spelling (f x)) (Only (Sign mark.Comma) ∷ later) line line (text x) (44 ∷ 32 ∷ rest) (reads x p) (λ r. refl)
    (sign_first Anything mark.Comma later line line (32 ∷ rest) tt (spaced Anything later line line rest (chain_read g m f text P line alone stops reads y ys ps.0 ps.1))) in
    as_tokens Anything es ((g.spelling (f x) ++ Only (Sign mark.Comma) ∷ []) ++ later) line line ((text x ++ more_text text (y ∷ ys)) ++ sign_text m) (append_assoc (g.spelling (f x)) (Only (Sign mark.Comma) ∷ []) later)
    (as_text Anything es line line (text x ++ (44 ∷ 32 ∷ rest)) ((text x ++ more_text text (y ∷ ys)) ++ sign_text m) (append_assoc (text x) (more_text text (y ∷ ys)) (sign_text m)) read)

-- ---- parameters

-- what stands between the brackets, and the bracket that closes
pub parameters_read : (structs : List StructDef) (vs : List Variable) (line : ℕ) → AllByRecursion (IsDeclared structs) vs → Reads Anything (parameters.spelling (some_parameters (map (declared_of structs) vs))) line (parameters_text structs vs ++ (41 ∷ [])) line
unfolding parameters parameter
parameters_read structs [] line h = sign_alone mark.CloseRound line tt
parameters_read structs (v ∷ vs) line h =
    chain_read variable mark.CloseRound (declared_of structs) (declaration_text structs) (IsDeclared structs) line tt (λ r. refl) (λ w k. variable_read structs w line k) v vs h.0 h.1
