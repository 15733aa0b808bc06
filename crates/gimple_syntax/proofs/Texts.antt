-- What reading gives of a text, in terms of what the text spells.
use Rattle.std.proofs.Common.{◌≡◌, ℕ, ◌+◌, List, [], ◌∷◌, length, Option, Result, Ok, Err, Some, None, refl, arith, ap, sym, subst, ◌∙◌, inl, inr, IfOk}
use Rattle.std.proofs.lemmas.List.{length-map}
use Rattle.gimple_ir.specs.declared.types.Module.{Module}
use Rattle.gimple_ir.specs.declared.fault.TypeFault.{TypeFault}
use Rattle.gimple_ir.specs.Checks.{fault_of}
use Rattle.gimple_tokens.specs.Tokens.{tokens_of}
use Rattle.gimple_tokens.specs.Reading.{line_of}
use Rattle.gimple_grammar.specs.declared.syntax.Item.{Item}
use Rattle.gimple_grammar.specs.declared.syntax.Item.TheVariants as item
use Rattle.gimple_grammar.specs.declared.syntax.ItemLine.{ItemLine}
use Rattle.gimple_grammar.specs.declared.text.SyntaxError.{SyntaxError}
use Rattle.gimple_grammar.specs.declared.text.SyntaxError.TheVariants as syntax_error
use Rattle.gimple_grammar.specs.Items.{module_text}
use Rattle.gimple_grammar.specs.Texts.{Spells, GivesText, IsFirstFault, IsOrMemory}
use Rattle.gimple_grammar.specs.Texts.{IfFault as IfSyntaxFault}
use Rattle.gimple_syntax.specs.declared.text.TextFault.{TextFault}
use Rattle.gimple_syntax.specs.declared.text.TextError.{TextError}
use Rattle.gimple_syntax.specs.declared.text.TextError.TheVariants.{Fault, NoMemory}
use Rattle.gimple_syntax.specs.Items.{structs_in, arrays_in, functions_in, module_of}
use Rattle.gimple_syntax.specs.Reading.{checked, checked_by, read_items, read_of, SpellsModule, HasFault, GivesModule, IsModuleOrMemory, IfFault, Finishes, syntax_fault}

-- ---- how many items there are

abbrev counts : List ItemLine → ℕ
counts items = length (structs_in items) + length (arrays_in items) + length (functions_in items)

abbrev line_of_item : Item → ℕ → ItemLine
line_of_item x line = record { line = line; item = x }

by_item : (x : Item) (line : ℕ) (rest : List ItemLine) → counts (line_of_item x line ∷ rest) ≡ counts rest + 1
by_item (item.Struct s) line rest = omega arith
by_item (item.ExternArray a) line rest = omega arith
by_item (item.ExternFunction f) line rest = omega arith
by_item (item.Array linkage a) line rest = omega arith
by_item (item.Function linkage f body) line rest = omega arith

-- each item is of one sort
pub all_counted : (items : List ItemLine) → counts items ≡ length items
all_counted [] = refl
all_counted (i ∷ rest) =
    let here = by_item i.item i.line rest in
    let more = all_counted rest in
    omega (arith, here, more)

pub length-module_of : (items : List ItemLine) (m : Module) → m ≡ module_of items
    → length m.structs + length m.arrays + length m.functions ≡ length items
unfolding module_of
length-module_of items m e =
    let all = all_counted items in
    let a = ap (λ (x : Module). length x.structs) e ∙ length-map (structs_in items) _ in
    let b = ap (λ (x : Module). length x.arrays) e ∙ length-map (arrays_in items) _ in
    let c = ap (λ (x : Module). length x.functions) e ∙ length-map (functions_in items) _ in
    omega (arith, all, a, b, c)

-- ---- reading

-- what was read by the grammar and passes the checks
abbrev read_as : Module → Result Module TextFault
read_as m = Ok m

Ok-injective : (x y : Module) → read_as x ≡ read_as y → x ≡ y
Ok-injective x y e = cc e

-- what was read by the grammar and passes the checks
by_checks : (items : List ItemLine) (o : Option TypeFault) (m : Module) → fault_of (module_of items) ≡ o → checked_by items o ≡ Ok m
    → (module_of items ≡ m) × (fault_of m ≡ None)
by_checks items None m e h =
    let same : module_of items ≡ m = Ok-injective (module_of items) m h in
    (same, sym (ap fault_of same) ∙ e)
by_checks items (Some fault) m e h = absurd (cc h)

checked-ok : (items : List ItemLine) (m : Module) → checked items ≡ Ok m → (module_of items ≡ m) × (fault_of m ≡ None)
unfolding checked
checked-ok items m h = by_checks items (fault_of (module_of items)) m refl h

pub checked-again : (items : List ItemLine) (m : Module) → module_of items ≡ m → fault_of m ≡ None → checked items ≡ Ok m
unfolding checked
checked-again items m is none = ap (checked_by items) (ap fault_of is ∙ none) ∙ ap (λ x. Ok x) is

pub is_found : (text : List ℕ) (result : Result Module TextError) (read : Result (List ItemLine) SyntaxError) → Finishes result read
    → IfOk read (λ items. Spells (tokens_of text) items) → IfOk result (λ m. SpellsModule text m)
is_found text (Ok m) (Ok items) h spelled =
    let both = checked-ok items m h in
    record { items = items; spelled = spelled; numbered = both.0; faultless = both.1 }
is_found text (Err e) read h spelled = tt
is_found text (Ok m) (Err syntax_error.NoMemory) h spelled = absurd (cc h)
is_found text (Ok m) (Err (syntax_error.Fault fault)) h spelled = absurd (cc h)

gives_only : (result : Result Module TextError) (items : List ItemLine) (m : Module) → GivesModule result (checked items) → checked items ≡ Ok m
    → IsModuleOrMemory result m
gives_only (Ok found) items m h e = Ok-injective found m (sym h ∙ e)
gives_only (Err NoMemory) items m h e = tt
gives_only (Err (Fault fault)) items m h e = absurd (cc (h, e))

pub is_only : (text : List ℕ) (result : Result Module TextError) (read : Result (List ItemLine) SyntaxError) → Finishes result read
    → ((items : List ItemLine) → Spells (tokens_of text) items → IsOrMemory read items)
    → (m : Module) → SpellsModule text m → IsModuleOrMemory result m
is_only text result (Ok items) h only m s =
    let same = only s.items s.spelled in
    gives_only result items m h (checked-again items m (ap module_of same ∙ s.numbered) s.faultless)
is_only text result (Err syntax_error.NoMemory) h only m s = subst (λ r. IsModuleOrMemory r m) (sym h) tt
is_only text result (Err (syntax_error.Fault fault)) h only m s = absurd (only s.items s.spelled)

pub is_first : (text : List ℕ) (result : Result Module TextError) (read : Result (List ItemLine) SyntaxError) → Finishes result read
    → IfOk read (λ items. Spells (tokens_of text) items) → IfSyntaxFault read (λ fault. IsFirstFault (tokens_of text) fault)
    → IfFault result (λ fault. HasFault text fault)
is_first text (Ok m) read h spelled first = tt
is_first text (Err NoMemory) read h spelled first = tt
is_first text (Err (Fault fault)) (Ok items) h spelled first = inr (record { items = items; spelled = spelled; first = h })
is_first text (Err (Fault fault)) (Err syntax_error.NoMemory) h spelled first = absurd (cc h)
is_first text (Err (Fault fault)) (Err (syntax_error.Fault f)) h spelled first = inl (record { found = f; same = cc h; first = first })

pub is_exact : (text : List ℕ) (result : Result Module TextError) (read : Result (List ItemLine) SyntaxError) → Finishes result read
    → GivesText read (module_text.read (tokens_of text)) → GivesModule result (read_of text)
unfolding read_of
is_exact text result (Ok items) h exact = subst (λ r. GivesModule result (read_items r)) (sym exact) h
is_exact text result (Err syntax_error.NoMemory) h exact = subst (λ r. GivesModule r (read_items (module_text.read (tokens_of text)))) (sym h) tt
is_exact text result (Err (syntax_error.Fault f)) h exact =
    let s = exact.0 in
    let same : syntax_fault (line_of s.rest) s.kind ≡ syntax_fault f.line f.kind = cc (exact.2, exact.3) in
    subst (λ r. GivesModule r (read_items (module_text.read (tokens_of text)))) (sym h) (ap read_items exact.1 ∙ ap (λ x. Err x) same)
