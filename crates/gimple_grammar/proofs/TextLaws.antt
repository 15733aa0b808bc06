-- What the laws of the whole grammar say of a text.
use Rattle.std.proofs.Common.{◌≡◌, ℕ, ◌+◌, ◌-◌, ◌^◌, ◌<◌, ◌≤◌, length, length-append, arith, List, [], ◌∷◌, ◌++◌, drop, Result, Ok, Err, refl, sym, ap, subst, ◌∙◌}
use Rattle.std.proofs.lemmas.List.{append-nil}
use Rattle.std.specs.Prelude.{IfOk}
use Rattle.gimple_tokens.specs.declared.token.TextKind.{TextKind}
use Rattle.gimple_tokens.specs.Tokens.{End, Placed}
use Rattle.gimple_tokens.specs.Reading.{first_of, line_of, same}
use Rattle.gimple_grammar.specs.Grammar.{Grammar, Only, many, spellings}
use Rattle.gimple_grammar.specs.Items.{item_line, module_text}
use Rattle.gimple_grammar.specs.Texts.{Spells, GivesText, IsOrMemory, IfFault, IsFirstFault}
use Rattle.gimple_grammar.specs.declared.syntax.ItemLine.{ItemLine}
use Rattle.gimple_grammar.specs.declared.text.SyntaxError.{SyntaxError}
use Rattle.gimple_grammar.specs.declared.text.SyntaxError.TheVariants.{Fault, NoMemory}
use Rattle.gimple_grammar.proofs.Laws.{Law, first-is, begins-length}
use Rattle.gimple_grammar.proofs.ItemLaws.{item_line-sound, module-sound}

pub is_found : (r : Result (List ItemLine) SyntaxError) (ts : List Placed) → GivesText r (module_text.read ts) → IfOk r (λ items. Spells ts items)
is_found (Ok items) ts g = module-sound.law.takes ts [] items g
is_found (Err e) ts g = tt

pub is_only : (r : Result (List ItemLine) SyntaxError) (ts : List Placed) (items : List ItemLine) → GivesText r (module_text.read ts) → Spells ts items → IsOrMemory r items
is_only (Ok found) ts items g s = first-is found items [] [] (sym g ∙ module-sound.law.again items ts [] s)
is_only (Err NoMemory) ts items g s = tt
is_only (Err (Fault f)) ts items g s = absurd (let e = sym g.1 ∙ module-sound.law.again items ts [] s in cc)

pub is_first : (r : Result (List ItemLine) SyntaxError) (ts : List Placed) → GivesText r (module_text.read ts) → IfFault r (λ f. IsFirstFault ts f)
is_first (Ok items) ts g = tt
is_first (Err NoMemory) ts g = tt
is_first (Err (Fault f)) ts g =
    let reached = module-sound.viable.reaches ts g.0 g.1 in
    let at = first_of g.0.rest in
    let after = drop 1 g.0.rest in
    let parts : ts ≡ reached.front ++ at ∷ after = reached.parts ∙ ap (λ (l : List Placed). reached.front ++ l) g.4 in
    record {
      front = reached.front;
      at = at;
      after = after;
      parts = parts;
      line = g.3 ∙ ap line_of g.4;
      begins = (reached.text.value, reached.text.more, subst (λ (l : List Placed). Spells (reached.front ++ l) reached.text.value) (append-nil reached.text.more) (reached.text.spelled []));
      ends = λ other items h. module-sound.viable.blocks reached.front after other [] at g.0 g.4 (ap module_text.read (sym parts) ∙ g.1) items h;
    }

-- where reading the items stops, so does reading the text
pub text-fault : (k : TextKind) (line : ℕ) (ts after : List Placed) → (many (same End) item_line).read ts ≡ Err (record { kind = k; rest = after }) → line ≡ line_of after → after ≡ first_of after ∷ drop 1 after
    → GivesText (Err (Fault (record { line = line; kind = k }))) (module_text.read ts)
unfolding module_text
text-fault k line ts after e l s = (record { kind = k; rest = after }, rw e refl, refl, l, s)

-- each value has a token at least
many-length : {A : Type 0} (g : Grammar A) → Law g → (xs : List A) → length xs ≤ length (spellings g xs)
many-length g law [] = omega arith
many-length g law (x ∷ xs) = omega (arith, length-append (g.spelling x) (spellings g xs), law.uses x, many-length g law xs)

text-length : (items : List ItemLine) (ts : List Placed) → Spells ts items → length items ≤ length ts
unfolding module_text
text-length items ts s =
    omega (arith, begins-length (spellings item_line items ++ Only End ∷ []) ts [] s, length-append (spellings item_line items) (Only End ∷ []), many-length item_line item_line-sound.law items)

pub is_few : (r : Result (List ItemLine) SyntaxError) (ts : List Placed) (n : ℕ) → GivesText r (module_text.read ts) → length ts ≤ n + 1 → n < 2 ^ 32 - 1 → IfOk r (λ items. length items < 2 ^ 32)
is_few (Ok items) ts n g few short = omega (arith, text-length items ts (is_found (Ok items) ts g))
is_few (Err e) ts n g few short = tt
