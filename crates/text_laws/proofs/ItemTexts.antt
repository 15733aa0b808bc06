-- The canonical text of a module is read as the module's items, once the lines of its functions are.
use Rattle.std.proofs.Common.{◌≡◌, ℕ, ◌+◌, true, false, Some, List, [], ◌∷◌, ◌++◌, length, take, refl, sym, ap, subst, ◌∙◌, append_assoc, arith}
use Rattle.std.specs.Prelude.{slice_get, codes, if◌then◌else◌}
use Rattle.std.specs.List.{flat_map, AllByRecursion}
use Rattle.std.proofs.lemmas.List.{append-nil}
use Rattle.gimple_ir.specs.declared.types.ScalarType.{ScalarType}
use Rattle.gimple_ir.specs.declared.types.ScalarType.TheVariants.{Int, UnsignedInt, LongInt, LongUnsignedInt}
use Rattle.gimple_ir.specs.declared.types.ElementType.{ElementType}
use Rattle.gimple_ir.specs.declared.types.ElementType.TheVariants as element
use Rattle.gimple_ir.specs.declared.types.ResultType.{ResultType}
use Rattle.gimple_ir.specs.declared.types.ResultType.TheVariants as returned
use Rattle.gimple_ir.specs.declared.types.Linkage.{Linkage}
use Rattle.gimple_ir.specs.declared.types.Linkage.TheVariants.{Extern, Strong, Weak, Static}
use Rattle.gimple_ir.specs.declared.types.StructDef.{StructDef}
use Rattle.gimple_ir.specs.declared.types.Array.{Array}
use Rattle.gimple_ir.specs.declared.types.Function.{Function}
use Rattle.gimple_ir.specs.declared.types.Module.{Module}
use Rattle.gimple_ir.specs.Checks.{is_extern}
use Rattle.gimple_ir.specs.Programs.{IsChecked}
use Rattle.gimple_tokens.specs.Tokens.{End, is_letter, piece_at, word_at, tokens_from, tokens_of}
use Rattle.gimple_tokens.specs.Reading.{line_of}
use Rattle.gimple_grammar.specs.Grammar.{Grammar, Expected, Only, Begins, spellings, at_line}
use Rattle.gimple_grammar.specs.Items.{item, item_line, module_text}
use Rattle.gimple_grammar.specs.Texts.{Spells}
use Rattle.gimple_grammar.specs.declared.syntax.Item.{Item}
use Rattle.gimple_grammar.specs.declared.syntax.Item.TheVariants as items
use Rattle.gimple_grammar.proofs.Laws.{begins-append, at-line}
use Rattle.gimple_print.specs.Words.{scalar_text, element_text, result_text, linkage_text}
use Rattle.gimple_print.specs.Canonical.{struct_text, initial_text, declarator_text, array_text, parameters_text, head_text, body_text, function_text, text_of}
use Rattle.text_laws.specs.Syntax.{struct_of, array_of, array_item, function_item, height_of, structs_from, arrays_from, functions_from, syntax_of}
use Rattle.text_laws.proofs.Spaced.{first_is, letter_space, letter_bad}
use Rattle.text_laws.proofs.Joined.{Anything, Reads, seen, joined}
use Rattle.text_laws.proofs.HeadTexts.{struct_read}
use Rattle.text_laws.proofs.ArrayTexts.{IsWritten, array_read}
use Rattle.text_laws.proofs.FunctionTexts.{LinesRead, IsWrittenFunction, function_read}
use Rattle.text_laws.proofs.CheckedItems.{by_place, IsWrittenStruct, written_structs, written_arrays, written_functions}

-- ---- the line in which an item begins

first_line : (line : ℕ) (text r : List ℕ) → first_is is_letter text ≡ true → line_of (tokens_from line 0 (text ++ r)) ≡ line
unfolding tokens_from piece_at word_at
first_line line [] r h = cc
first_line line (b ∷ bs) r h = rw (letter_bad b h, letter_space b h, h) refl

scalar-first : (ty : ScalarType) (x : List ℕ) → first_is is_letter (scalar_text ty ++ x) ≡ true
scalar-first Int x = refl
scalar-first UnsignedInt x = refl
scalar-first LongInt x = refl
scalar-first LongUnsignedInt x = refl

element-first : (e : ElementType) (x : List ℕ) → first_is is_letter (element_text e ++ x) ≡ true
element-first (element.Scalar ty) x = scalar-first ty x
element-first element.UnsignedChar x = refl

result-first : (result : ResultType) (x : List ℕ) → first_is is_letter (result_text result ++ x) ≡ true
result-first returned.Void x = refl
result-first (returned.Scalar ty) x = scalar-first ty x

linkage-first : (l : Linkage) (x : List ℕ) → first_is is_letter x ≡ true → first_is is_letter (linkage_text l ++ x) ≡ true
linkage-first Extern x h = refl
linkage-first Strong x h = h
linkage-first Weak x h = refl
linkage-first Static x h = refl

longer-first : (s x : List ℕ) → first_is is_letter s ≡ true → first_is is_letter (s ++ x) ≡ true
longer-first [] x h = cc
longer-first (b ∷ bs) x h = h

array-first : (a : Array) → first_is is_letter (array_text a) ≡ true
array-first a =
    let rest = 32 ∷ (declarator_text a ++ (initial_text a.initial ++ (59 ∷ 10 ∷ []))) in
    linkage-first a.linkage (element_text a.element ++ rest) (element-first a.element rest)

function-first : (m : Module) (f : Function) → first_is is_letter (function_text m f) ≡ true
function-first m f =
    let rest = 32 ∷ (f.name ++ (32 ∷ 40 ∷ (parameters_text m.structs (take f.parameters f.variables) ++ (41 ∷ [])))) in
    longer-first (head_text m.structs f) (if is_extern f.linkage then codes ";\n" else body_text m f)
    (linkage-first f.linkage (result_text f.result ++ rest) (result-first f.result rest))

item_read : (x : Item) (line after : ℕ) (text : List ℕ) → first_is is_letter text ≡ true → Reads Anything (item.spelling x) line text after → Reads Anything (item_line.spelling (record { line = line; item = x })) line text after
unfolding item_line
item_read x line after text first p = λ r c.
    subst (λ (k : ℕ). Begins (at_line k (item.spelling x)) (tokens_from line 0 (text ++ r)) (tokens_from after 0 r)) (first_line line text r first)
    (at-line (item.spelling x) (tokens_from line 0 (text ++ r)) (tokens_from after 0 r) (p r c))

-- ---- items, one after the other

structs_read : (ss : List StructDef) (line : ℕ) → AllByRecursion IsWrittenStruct ss → Reads Anything (spellings item_line (structs_from line ss)) line (flat_map struct_text ss) (line + length ss)
structs_read [] line h = subst (λ (k : ℕ). Reads Anything [] line [] k) (omega arith) (λ r c. refl)
structs_read (s ∷ ss) line h =
    let es = item_line.spelling (record { line = line; item = items.Struct (struct_of s) }) in
    let fs = spellings item_line (structs_from (line + 1) ss) in
    let last : line + 1 + length ss ≡ line + length (s ∷ ss) = omega arith in
    subst (λ (k : ℕ). Reads Anything (es ++ fs) line (struct_text s ++ flat_map struct_text ss) k) last
    (joined Anything es fs line (line + 1) (line + 1 + length ss) (struct_text s) (flat_map struct_text ss)
    (item_read (items.Struct (struct_of s)) line (line + 1) (struct_text s) refl (struct_read s line h.0.0 h.0.1)) (structs_read ss (line + 1) h.1))

arrays_read : (list : List Array) (line : ℕ) → AllByRecursion IsWritten list → Reads Anything (spellings item_line (arrays_from line list)) line (flat_map array_text list) (line + length list)
arrays_read [] line h = subst (λ (k : ℕ). Reads Anything [] line [] k) (omega arith) (λ r c. refl)
arrays_read (a ∷ more) line h =
    let x = array_item a.linkage (array_of a) in
    let es = item_line.spelling (record { line = line; item = x }) in
    let fs = spellings item_line (arrays_from (line + 1) more) in
    let last : line + 1 + length more ≡ line + length (a ∷ more) = omega arith in
    subst (λ (k : ℕ). Reads Anything (es ++ fs) line (array_text a ++ flat_map array_text more) k) last
    (joined Anything es fs line (line + 1) (line + 1 + length more) (array_text a) (flat_map array_text more)
    (item_read x line (line + 1) (array_text a) (array-first a) (array_read a line h.0)) (arrays_read more (line + 1) h.1))

-- the lines of the function's body are read, wherever they stand
abbrev pub HasLines : Module → Function → Type 0
HasLines m f = is_extern f.linkage ≡ false → (line : ℕ) → LinesRead m f line

-- the line after the functions
abbrev line_after : ℕ → List Function → ℕ
line_after line [] = line
line_after line (f ∷ fs) = line_after (line + height_of f) fs

functions_read : (m : Module) (fs : List Function) (line : ℕ) → AllByRecursion (IsWrittenFunction m.structs) fs → AllByRecursion (HasLines m) fs
    → Reads Anything (spellings item_line (functions_from m line fs)) line (flat_map (function_text m) fs) (line_after line fs)
functions_read m [] line h p = λ r c. refl
functions_read m (f ∷ fs) line h p =
    let x = function_item m line f in
    let es = item_line.spelling (record { line = line; item = x }) in
    let rest = spellings item_line (functions_from m (line + height_of f) fs) in
    joined Anything es rest line (line + height_of f) (line_after (line + height_of f) fs) (function_text m f) (flat_map (function_text m) fs)
    (item_read x line (line + height_of f) (function_text m f) (function-first m f) (function_read m f line h.0 p.0)) (functions_read m fs (line + height_of f) h.1 p.1)

-- ---- modules

spellings-append : {A : Type 0} (g : Grammar A) (xs ys : List A) → spellings g (xs ++ ys) ≡ spellings g xs ++ spellings g ys
spellings-append g [] ys = refl
spellings-append g (x ∷ xs) ys = ap (λ (es : List Expected). g.spelling x ++ es) (spellings-append g xs ys) ∙ sym (append_assoc (g.spelling x) (spellings g xs) (spellings g ys))

end_of_text : (line : ℕ) → Begins (Only End ∷ []) (tokens_from line 0 []) []
unfolding tokens_from
end_of_text line = (refl, refl)

pub printed_by_lines : (m : Module) → IsChecked m → ((i : ℕ) (f : Function) → slice_get m.functions i ≡ Some f → HasLines m f) → Spells (tokens_of (text_of m)) (syntax_of m)
unfolding module_text
printed_by_lines m c lines =
    let arrays_at = 1 + length m.structs in
    let functions_at = 1 + length m.structs + length m.arrays in
    let end = line_after functions_at m.functions in
    let ss = structs_from 1 m.structs in
    let aa = arrays_from arrays_at m.arrays in
    let ff = functions_from m functions_at m.functions in
    let es = spellings item_line ss in
    let fs = spellings item_line aa in
    let gs = spellings item_line ff in
    let st = flat_map struct_text m.structs in
    let at = flat_map array_text m.arrays in
    let ft = flat_map (function_text m) m.functions in
    let later : Reads Anything (fs ++ gs) arrays_at (at ++ ft) end =
    joined Anything fs gs arrays_at functions_at end at ft (arrays_read m.arrays arrays_at (written_arrays m c))
    (functions_read m m.functions functions_at (written_functions m c) (by_place (HasLines m) m.functions lines)) in
    let all : Reads Anything (es ++ (fs ++ gs)) 1 (st ++ (at ++ ft)) end = joined Anything es (fs ++ gs) 1 arrays_at end st (at ++ ft) (structs_read m.structs 1 (written_structs m c)) later in
    let is : spellings item_line (ss ++ (aa ++ ff)) ≡ es ++ (fs ++ gs) = spellings-append item_line ss (aa ++ ff) ∙ ap (λ (l : List Expected). es ++ l) (spellings-append item_line aa ff) in
    let whole : Begins (es ++ (fs ++ gs)) (tokens_from 1 0 (st ++ (at ++ ft))) (tokens_from end 0 []) =
    seen (es ++ (fs ++ gs)) (tokens_from 1 0 (st ++ (at ++ ft))) (tokens_from 1 0 ((st ++ (at ++ ft)) ++ [])) (tokens_from end 0 []) (ap (tokens_from 1 0) (sym (append-nil (st ++ (at ++ ft))))) (all [] tt) in
    subst (λ (l : List Expected). Begins (l ++ Only End ∷ []) (tokens_from 1 0 (st ++ (at ++ ft))) []) (sym is)
    (begins-append (es ++ (fs ++ gs)) (Only End ∷ []) (tokens_from 1 0 (st ++ (at ++ ft))) (tokens_from end 0 []) [] whole (end_of_text end))
