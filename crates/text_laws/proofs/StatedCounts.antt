-- How many items a text has at most, and how many parameters a declaration in it.
use Rattle.std.proofs.Common.{◌≡◌, ℕ, suc, ◌+◌, ◌≤◌, List, [], ◌∷◌, ◌++◌, length, length-append, refl, arith}
use Rattle.std.specs.Prelude.{All, true, false}
use Rattle.std.specs.List.{cons_option}
use Rattle.std.proofs.lemmas.List.Elements.{All-nil, All-cons, All-weaker}
use Rattle.gimple_ir.specs.declared.types.ResultType.{ResultType}
use Rattle.gimple_ir.specs.declared.types.ResultType.TheVariants as results
use Rattle.gimple_tokens.specs.declared.token.Mark.TheVariants.{Semicolon}
use Rattle.gimple_tokens.specs.Tokens.{Sign, End, tokens_of}
use Rattle.gimple_tokens.proofs.Counts.{few-from}
use Rattle.gimple_grammar.specs.Grammar.{Grammar, Expected, Only, At, Never, spellings, chain_spelling, at_line}
use Rattle.gimple_grammar.specs.Items.{headed, void_head, head, parameter, parameters, external, item, item_line, module_text}
use Rattle.gimple_grammar.specs.Texts.{Spells}
use Rattle.gimple_grammar.specs.declared.syntax.Declared.{Declared}
use Rattle.gimple_grammar.specs.declared.syntax.FunctionText.{FunctionText}
use Rattle.gimple_grammar.specs.declared.syntax.Parameters.{Parameters}
use Rattle.gimple_grammar.specs.declared.syntax.Parameters.TheVariants as parameter_texts
use Rattle.gimple_grammar.specs.declared.syntax.Item.{Item}
use Rattle.gimple_grammar.specs.declared.syntax.Item.TheVariants as items
use Rattle.gimple_grammar.specs.declared.syntax.ItemLine.{ItemLine}
use Rattle.gimple_grammar.proofs.Laws.{Law, begins-length}
use Rattle.gimple_grammar.proofs.ItemLaws.{parameter-sound, item_line-sound}
use Rattle.gimple_syntax.specs.Items.{LinkedArray, LinkedFunction, struct_in, array_in, function_in, structs_in, arrays_in, functions_in, parameters_of}
use Rattle.gimple_grammar.specs.declared.syntax.StructText.{StructText}

-- ---- spellings

abbrev IsShort : {A : Type 0} → Grammar A → ℕ → A → Type 0
IsShort g n x = length (g.spelling x) ≤ n

longer : {A : Type 0} (g : Grammar A) (n k : ℕ) → n ≤ k → (x : A) → IsShort g n x → IsShort g k x
longer g n k le x h = omega arith

each-short : {A : Type 0} (g : Grammar A) (xs : List A) → All (IsShort g (length (spellings g xs))) xs
each-short g [] = All-nil (IsShort g 0)
each-short g (x ∷ xs) =
    let n = length (spellings g (x ∷ xs)) in
    let whole = length-append (g.spelling x) (spellings g xs) in
    All-cons (IsShort g n) x xs (omega arith) (All-weaker (IsShort g (length (spellings g xs))) (IsShort g n) (longer g (length (spellings g xs)) n (omega arith)) xs (each-short g xs))

-- each has a token at least
each-some : {A : Type 0} (g : Grammar A) → Law g → (xs : List A) → length xs ≤ length (spellings g xs)
each-some g law [] = omega arith
each-some g law (x ∷ xs) = omega (arith, length-append (g.spelling x) (spellings g xs), law.uses x, each-some g law xs)

items-length : (text : List ℕ) (is : List ItemLine) → Spells (tokens_of text) is → length (spellings item_line is) ≤ length text
unfolding module_text
items-length text is s =
    omega (arith, few-from 1 0 text, begins-length (spellings item_line is ++ Only End ∷ []) (tokens_of text) [] s, length-append (spellings item_line is) (Only End ∷ []))

pub items-few : (text : List ℕ) (is : List ItemLine) → Spells (tokens_of text) is → length is ≤ length text
items-few text is s = omega (arith, each-some item_line item_line-sound.law is, items-length text is s)

-- an item has no more tokens than this
abbrev pub IsShortItem : ℕ → ItemLine → Type 0
IsShortItem n i = length (item_line.spelling i) ≤ n

pub items-short : (text : List ℕ) (is : List ItemLine) (n : ℕ) → Spells (tokens_of text) is → length text ≤ n → All (IsShortItem n) is
items-short text is n s few =
    let most = items-length text is s in
    All-weaker (IsShortItem (length (spellings item_line is))) (IsShortItem n) (longer item_line (length (spellings item_line is)) n (omega arith)) is (each-short item_line is)

-- ---- items by sort

sorted : (x : Item) (a : List StructText) (b : List LinkedArray) (c : List LinkedFunction) (n : ℕ) → length a + length b + length c ≤ n
    → length (cons_option (struct_in x) a) + length (cons_option (array_in x) b) + length (cons_option (function_in x) c) ≤ suc n
sorted (items.Struct s) a b c n h = omega arith
sorted (items.ExternArray t) a b c n h = omega arith
sorted (items.ExternFunction f) a b c n h = omega arith
sorted (items.Array l t) a b c n h = omega arith
sorted (items.Function l f t) a b c n h = omega arith

pub sorts-few : (is : List ItemLine) → length (structs_in is) + length (arrays_in is) + length (functions_in is) ≤ length is
sorts-few [] = omega arith
sorts-few (i ∷ is) = sorted i.item (structs_in is) (arrays_in is) (functions_in is) (length is) (sorts-few is)

pub structs-few : (is : List ItemLine) → length (structs_in is) ≤ length is
structs-few is = omega (arith, sorts-few is)

-- ---- parameters

chain-length : (ps : List Declared) → length ps ≤ length (chain_spelling parameter ps)
chain-length [] = omega arith
chain-length (d ∷ []) = omega (arith, parameter-sound.law.uses (d, false))
chain-length (d ∷ (e ∷ more)) =
    omega (arith, parameter-sound.law.uses (d, true), length-append (parameter.spelling (d, true)) (chain_spelling parameter (e ∷ more)), chain-length (e ∷ more))

parameters-length : (p : Parameters) → length (parameters_of p) ≤ length (parameters.spelling p)
unfolding parameters
parameters-length parameter_texts.None = omega arith
parameters-length parameter_texts.Void = omega arith
parameters-length (parameter_texts.Some ps) = chain-length ps

ended-length : (es : List Expected) (p : Parameters) → length (parameters_of p) ≤ length (es ++ (parameters.spelling p ++ Only (Sign Semicolon) ∷ []))
ended-length es p =
    omega (arith, parameters-length p, length-append es (parameters.spelling p ++ Only (Sign Semicolon) ∷ []), length-append (parameters.spelling p) (Only (Sign Semicolon) ∷ []))

external-length : (r : ResultType) (w : List ℕ) (p : Parameters) → length (parameters_of p) ≤ length (external.spelling (items.ExternFunction (record { result = r; name = w; parameters = p })))
unfolding external
external-length (results.Scalar t) w p = ended-length (head.spelling (headed t w false)) p
external-length results.Void w p = ended-length (head.spelling (void_head w)) p

item-length : (f : FunctionText) → length (parameters_of f.parameters) ≤ length (item.spelling (items.ExternFunction f))
unfolding item
item-length f = omega (arith, external-length f.result f.name f.parameters)

line-length : (line : ℕ) (es : List Expected) → length (at_line line es) ≡ length es
line-length line [] = refl
line-length line (Only t ∷ es) = refl
line-length line (At t other ∷ es) = refl
line-length line (Never ∷ es) = refl

pub declared-length : (line : ℕ) (f : FunctionText) (n : ℕ) → IsShortItem n (record { line = line; item = items.ExternFunction f }) → length (parameters_of f.parameters) ≤ n
unfolding item_line
declared-length line f n h = omega (arith, item-length f, line-length line (item.spelling (items.ExternFunction f)))
