-- Functions are read as they are written, once the lines of their bodies are.
use Rattle.std.proofs.Common.{◌≡◌, ℕ, ◌+◌, Bool, true, false, List, [], ◌∷◌, ◌++◌, length, map, take, refl, sym, ap, subst, ◌∙◌, append_assoc, arith}
use Rattle.std.specs.Prelude.{codes, if◌then◌else◌}
use Rattle.std.specs.List.{flat_map, AllByRecursion}
use Rattle.gimple_ir.specs.declared.types.ResultType.{ResultType}
use Rattle.gimple_ir.specs.declared.types.ResultType.TheVariants as returned
use Rattle.gimple_ir.specs.declared.types.Linkage.{Linkage}
use Rattle.gimple_ir.specs.declared.types.Linkage.TheVariants.{Extern, Strong, Weak, Static}
use Rattle.gimple_ir.specs.declared.types.StructDef.{StructDef}
use Rattle.gimple_ir.specs.declared.types.Function.{Function}
use Rattle.gimple_ir.specs.declared.types.Module.{Module}
use Rattle.gimple_ir.specs.Checks.{is_extern}
use Rattle.gimple_ir.specs.Programs.{IsIdentifier}
use Rattle.gimple_tokens.specs.declared.token.Mark.TheVariants as mark
use Rattle.gimple_tokens.specs.Tokens.{Sign, Placed, tokens_from}
use Rattle.gimple_grammar.specs.Grammar.{Expected, Only, Begins, spellings}
use Rattle.gimple_grammar.specs.Statements.{statement, statements}
use Rattle.gimple_grammar.specs.Items.{local, parameters, body, function_rest, defined, external, item}
use Rattle.gimple_grammar.specs.declared.syntax.Parameters.{Parameters}
use Rattle.gimple_grammar.specs.declared.syntax.Body.{Body}
use Rattle.gimple_print.specs.Words.{result_text, linkage_text}
use Rattle.gimple_print.specs.Statements.{line_text, names_in as printed_names}
use Rattle.gimple_print.specs.Canonical.{local_text, parameters_text, head_text, body_text, function_text}
use Rattle.text_laws.specs.Syntax.{names_in, lines_from, declared_of, some_parameters, locals_of, body_of, function_by, function_item, height_of}
use Rattle.text_laws.proofs.Spaced.{newline}
use Rattle.text_laws.proofs.Joined.{Anything, Reads, seen, joined, as_text, as_tokens, lined, sign_first, ended}
use Rattle.text_laws.proofs.DeclaredTexts.{IsDeclared, locals_read, parameters_read}
use Rattle.text_laws.proofs.HeadTexts.{result_spelling, result_read, linkage_spelling, linkage_read}

-- ---- bodies

-- the lines of the function's body, from this line on, and the brace that closes
abbrev pub LinesRead : Module → Function → ℕ → Type 0
LinesRead m f line =
    (r : List ℕ)
    → Begins (spellings statement (lines_from (names_in m f) line f.body) ++ Only (Sign mark.CloseCurly) ∷ []) (tokens_from line 0 (flat_map (line_text (printed_names m f)) f.body ++ (125 ∷ r))) (tokens_from (line + length f.body) 0 r)

lines_ended : (m : Module) (f : Function) (line : ℕ) → LinesRead m f line
    → Reads Anything (spellings statement (lines_from (names_in m f) line f.body) ++ Only (Sign mark.CloseCurly) ∷ []) line (flat_map (line_text (printed_names m f)) f.body ++ (125 ∷ 10 ∷ [])) (line + length f.body + 1)
lines_ended m f line p = λ r c.
    let es = spellings statement (lines_from (names_in m f) line f.body) ++ Only (Sign mark.CloseCurly) ∷ [] in
    let text = flat_map (line_text (printed_names m f)) f.body in
    seen es (tokens_from line 0 ((text ++ (125 ∷ 10 ∷ [])) ++ r)) (tokens_from line 0 (text ++ (125 ∷ 10 ∷ r))) (tokens_from (line + length f.body + 1) 0 r) (ap (tokens_from line 0) (append_assoc text (125 ∷ 10 ∷ []) r))
    (subst (λ (ts : List Placed). Begins es (tokens_from line 0 (text ++ (125 ∷ 10 ∷ r))) ts) (newline (line + length f.body) r) (p (10 ∷ r)))

-- how many lines a definition takes
abbrev lines_in : Function → ℕ
lines_in f = 3 + length (locals_of f) + length f.body

body_read : (m : Module) (f : Function) (line : ℕ) → AllByRecursion (IsDeclared m.structs) (locals_of f) → LinesRead m f (line + 2 + length (locals_of f))
    → Reads Anything (Only (Sign mark.OpenCurly) ∷ body.spelling (body_of m line f)) line (body_text m f) (line + lines_in f)
unfolding body statements
body_read m f line h p =
    let first = line + 2 + length (locals_of f) in
    let after = first + length f.body + 1 in
    let ls = spellings local (map (declared_of m.structs) (locals_of f)) in
    let ss = spellings statement (lines_from (names_in m f) first f.body) ++ Only (Sign mark.CloseCurly) ∷ [] in
    let lt = flat_map (local_text m.structs) (locals_of f) in
    let st = flat_map (line_text (printed_names m f)) f.body ++ (125 ∷ 10 ∷ []) in
    let inner : Reads Anything (ls ++ ss) (line + 2) (lt ++ st) after = joined Anything ls ss (line + 2) first after lt st (locals_read m.structs (locals_of f) (line + 2) h) (lines_ended m f first p) in
    let two : line + 2 ≡ line + 1 + 1 = omega arith in
    let last : after ≡ line + lines_in f = omega arith in
    let whole : Reads Anything (Only (Sign mark.OpenCurly) ∷ (ls ++ ss)) line (10 ∷ 123 ∷ 10 ∷ (lt ++ st)) after =
    lined Anything (Only (Sign mark.OpenCurly) ∷ (ls ++ ss)) line after (123 ∷ 10 ∷ (lt ++ st))
    (sign_first Anything mark.OpenCurly (ls ++ ss) (line + 1) after (10 ∷ (lt ++ st)) tt
    (lined Anything (ls ++ ss) (line + 1) after (lt ++ st) (subst (λ (k : ℕ). Reads Anything (ls ++ ss) k (lt ++ st) after) two inner))) in
    subst (λ (k : ℕ). Reads Anything (Only (Sign mark.OpenCurly) ∷ (ls ++ ss)) line (10 ∷ 123 ∷ 10 ∷ (lt ++ st)) k) last whole

-- ---- heads

-- the text up to the bracket, and the rest
head-parts : (l t n q x : List ℕ) → (l ++ (t ++ (32 ∷ (n ++ (32 ∷ 40 ∷ q))))) ++ x ≡ l ++ ((t ++ (32 ∷ (n ++ (32 ∷ 40 ∷ [])))) ++ (q ++ x))
head-parts l t n q x =
    append_assoc l (t ++ (32 ∷ (n ++ (32 ∷ 40 ∷ q)))) x
    ∙ ap (λ (s : List ℕ). l ++ s)
    (append_assoc t (32 ∷ (n ++ (32 ∷ 40 ∷ q))) x
    ∙ ap (λ (s : List ℕ). t ++ (32 ∷ s)) (append_assoc n (32 ∷ 40 ∷ q) x ∙ sym (append_assoc n (32 ∷ 40 ∷ []) (q ++ x)))
    ∙ sym (append_assoc t (32 ∷ (n ++ (32 ∷ 40 ∷ []))) (q ++ x)))

-- a function whose rest is read so
headed_function : (l : Linkage) (result : ResultType) (n q x : List ℕ) (es : List Expected) (line after : ℕ) → IsIdentifier n → Reads Anything es line (q ++ x) after
    → Reads Anything (linkage_spelling l ++ (result_spelling result n ++ es)) line ((linkage_text l ++ (result_text result ++ (32 ∷ (n ++ (32 ∷ 40 ∷ q))))) ++ x) after
headed_function l result n q x es line after h p =
    let head = result_text result ++ (32 ∷ (n ++ (32 ∷ 40 ∷ []))) in
    as_text Anything (linkage_spelling l ++ (result_spelling result n ++ es)) line after (linkage_text l ++ (head ++ (q ++ x))) ((linkage_text l ++ (result_text result ++ (32 ∷ (n ++ (32 ∷ 40 ∷ q))))) ++ x)
    (head-parts (linkage_text l) (result_text result) n q x)
    (linkage_read l (result_spelling result n ++ es) line after (head ++ (q ++ x)) (joined Anything (result_spelling result n) es line line after head (q ++ x) (result_read result n line h) p))

-- ---- functions

defined-function : (l : Linkage) (result : ResultType) (n : List ℕ) (ps : Parameters) (b : Body) → is_extern l ≡ false
    → item.spelling (function_by l (record { result = result; name = n; parameters = ps }) b) ≡ linkage_spelling l ++ (result_spelling result n ++ function_rest.spelling (ps, b))
unfolding item defined
defined-function Extern result n ps b h = absurd cc
defined-function Strong returned.Void n ps b h = refl
defined-function Strong (returned.Scalar ty) n ps b h = refl
defined-function Weak returned.Void n ps b h = refl
defined-function Weak (returned.Scalar ty) n ps b h = refl
defined-function Static returned.Void n ps b h = refl
defined-function Static (returned.Scalar ty) n ps b h = refl

extern-function : (l : Linkage) (result : ResultType) (n : List ℕ) (ps : Parameters) (b : Body) → is_extern l ≡ true
    → item.spelling (function_by l (record { result = result; name = n; parameters = ps }) b) ≡ linkage_spelling l ++ (result_spelling result n ++ (parameters.spelling ps ++ Only (Sign mark.Semicolon) ∷ []))
unfolding item external
extern-function Extern returned.Void n ps b h = refl
extern-function Extern (returned.Scalar ty) n ps b h = refl
extern-function Strong result n ps b h = absurd cc
extern-function Weak result n ps b h = absurd cc
extern-function Static result n ps b h = absurd cc

pub record IsWrittenFunction (structs : List StructDef) (f : Function) : Type 0 where
  pub name : IsIdentifier f.name
  pub parameters : AllByRecursion (IsDeclared structs) (take f.parameters f.variables)
  pub locals : AllByRecursion (IsDeclared structs) (locals_of f)

abbrev parameters_of : Module → Function → Parameters
parameters_of m f = some_parameters (map (declared_of m.structs) (take f.parameters f.variables))

rest_read : (m : Module) (f : Function) (line : ℕ) → IsWrittenFunction m.structs f → LinesRead m f (line + 2 + length (locals_of f))
    → Reads Anything (function_rest.spelling (parameters_of m f, body_of m line f)) line ((parameters_text m.structs (take f.parameters f.variables) ++ (41 ∷ [])) ++ body_text m f) (line + lines_in f)
unfolding function_rest
rest_read m f line h p =
    let ps = parameters.spelling (parameters_of m f) in
    let bs = body.spelling (body_of m line f) in
    let q = parameters_text m.structs (take f.parameters f.variables) ++ (41 ∷ []) in
    as_tokens Anything (ps ++ (Only (Sign mark.OpenCurly) ∷ bs)) ((ps ++ Only (Sign mark.OpenCurly) ∷ []) ++ bs) line (line + lines_in f) (q ++ body_text m f) (append_assoc ps (Only (Sign mark.OpenCurly) ∷ []) bs)
    (joined Anything ps (Only (Sign mark.OpenCurly) ∷ bs) line line (line + lines_in f) q (body_text m f) (parameters_read m.structs (take f.parameters f.variables) line h.parameters) (body_read m f line h.locals p))

function_by_read : (m : Module) (f : Function) (line : ℕ) (b : Bool) → is_extern f.linkage ≡ b → IsWrittenFunction m.structs f → (b ≡ false → (k : ℕ) → LinesRead m f k)
    → Reads Anything (item.spelling (function_item m line f)) line (head_text m.structs f ++ (if b then codes ";\n" else body_text m f)) (line + (if b then 1 else lines_in f))
function_by_read m f line true is h p =
    let q = parameters_text m.structs (take f.parameters f.variables) ++ (41 ∷ []) in
    let ps = parameters.spelling (parameters_of m f) in
    let es = ps ++ Only (Sign mark.Semicolon) ∷ [] in
    as_tokens Anything (linkage_spelling f.linkage ++ (result_spelling f.result f.name ++ es)) (item.spelling (function_item m line f)) line (line + 1) (head_text m.structs f ++ (59 ∷ 10 ∷ []))
    (extern-function f.linkage f.result f.name (parameters_of m f) (body_of m line f) is)
    (headed_function f.linkage f.result f.name q (59 ∷ 10 ∷ []) es line (line + 1) h.name
    (joined Anything ps (Only (Sign mark.Semicolon) ∷ []) line line (line + 1) q (59 ∷ 10 ∷ []) (parameters_read m.structs (take f.parameters f.variables) line h.parameters) (ended line)))
function_by_read m f line false is h p =
    let q = parameters_text m.structs (take f.parameters f.variables) ++ (41 ∷ []) in
    let es = function_rest.spelling (parameters_of m f, body_of m line f) in
    as_tokens Anything (linkage_spelling f.linkage ++ (result_spelling f.result f.name ++ es)) (item.spelling (function_item m line f)) line (line + lines_in f) (head_text m.structs f ++ body_text m f)
    (defined-function f.linkage f.result f.name (parameters_of m f) (body_of m line f) is)
    (headed_function f.linkage f.result f.name q (body_text m f) es line (line + lines_in f) h.name (rest_read m f line h (p refl (line + 2 + length (locals_of f)))))

pub function_read : (m : Module) (f : Function) (line : ℕ) → IsWrittenFunction m.structs f → (is_extern f.linkage ≡ false → (k : ℕ) → LinesRead m f k) → Reads Anything (item.spelling (function_item m line f)) line (function_text m f) (line + height_of f)
function_read m f line h p = function_by_read m f line (is_extern f.linkage) refl h p
