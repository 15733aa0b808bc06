-- Passing over the items of a text one by one, for their outlines.
use Rattle.std.proofs.Common.{◌≡◌, ◌≤◌, ◌<◌, ◌+◌, ◌-◌, ℕ, List, [], ◌∷◌, ◌++◌, length, map, Bool, true, false, Result, Ok, Err, refl, ap, sym, ◌∙◌, append_assoc, arith}
use Rattle.std.proofs.lemmas.List.{append-nil}
use Rattle.gimple_tokens.specs.Tokens.{Placed, tokens_of}
use Rattle.gimple_tokens.specs.Stops.{past}
use Rattle.gimple_grammar.specs.declared.syntax.ItemLine.{ItemLine}
use Rattle.gimple_grammar.specs.Grammar.{many_at}
use Rattle.gimple_grammar.specs.Items.{module_text}
use Rattle.gimple_grammar.specs.Streams.{outline_of}
use Rattle.gimple_syntax.specs.Passes.{outlines_of, items_read, IsAdded, AddsOutline, Outlined}

-- What is found of these items so far: the outlines of all, or of those before the others, each of which has a token at least.
abbrev pub FoundSo : List ItemLine → Bool → ℕ → List ItemLine → List Placed → Type 0
FoundSo items true left found ts =
    (others : List ItemLine) × (module_text.read ts ≡ Ok (others, [])) × (found ++ outlines_of others ≡ outlines_of items) × (length ts ≤ left)
FoundSo items false left found ts = found ≡ outlines_of items

abbrev pub Outlining : List ℕ → Bool → ℕ → List ItemLine → List Placed → Type 0
Outlining text more left found ts = (items : List ItemLine) → items_read text ≡ Ok (items, []) → FoundSo items more left found ts

pub begins : (text : List ℕ) (left : ℕ) (found : List ItemLine) (ts : List Placed) → found ≡ [] → ts ≡ tokens_of text → length ts ≤ left
    → Outlining text true left found ts
begins text left found ts none e few items read =
    (items, ap module_text.read e ∙ read, ap (λ (os : List ItemLine). os ++ outlines_of items) none, few)

moved : (items others : List ItemLine) (more : Bool) (left : ℕ) (found new : List ItemLine) (ts after : List Placed)
    → found ++ outlines_of others ≡ outlines_of items → length ts ≤ left → IsAdded {E = Unit {0}} (Ok more) others found new [] ts after
    → FoundSo items more (left - 1) new after
moved items others true left found new ts after so_far few added =
    let i = added.0 in
    let rest = added.1 in
    let joined : new ++ outlines_of rest ≡ outlines_of items =
    ap (λ (os : List ItemLine). os ++ outlines_of rest) added.3
    ∙ append_assoc found (outline_of i ∷ []) (outlines_of rest)
    ∙ ap (λ (os : List ItemLine). found ++ outlines_of os) (sym added.2)
    ∙ so_far in
    (rest, added.4, joined, omega (arith, added.5, few))
moved items others false left found new ts after so_far few added =
    added.1 ∙ sym (append-nil found) ∙ ap (λ (os : List ItemLine). found ++ outlines_of os) (sym added.0) ∙ so_far

pub goes_on : (text : List ℕ) (before more : Bool) (left fewer : ℕ) (found new : List ItemLine) (ts after : List Placed)
    → before ≡ true → fewer ≡ left - 1 → AddsOutline {E = Unit {0}} (Ok more) found new ts after → Outlining text before left found ts
    → Outlining text more fewer new after
goes_on text true more left fewer found new ts after t less added so_far items read =
    let now = so_far items read in
    rw less (moved items now.0 more left found new ts after now.2 now.3 (added now.0 [] now.1))
goes_on text false more left fewer found new ts after t less added so_far items read = absurd cc

-- the end of a text is a token
none-read : (others : List ItemLine) (ts : List Placed) → length ts ≤ 0 → module_text.read ts ≡ Ok (others, []) → ⊥
unfolding module_text many_at past
none-read others [] few read = absurd (cc read)
none-read others (p ∷ ts) few read = absurd (omega arith)

found-by : (items : List ItemLine) (more : Bool) (left : ℕ) (found : List ItemLine) (ts : List Placed) → (more ≡ true → left ≤ 0) → FoundSo items more left found ts → found ≡ outlines_of items
found-by items true left found ts ended so_far = absurd (none-read so_far.0 ts (omega (arith, ended refl, so_far.3)) so_far.1)
found-by items false left found ts ended so_far = so_far

pub is_done : (text : List ℕ) (more : Bool) (left : ℕ) (found : List ItemLine) (ts : List Placed) → (more ≡ true → left ≤ 0)
    → Outlining text more left found ts → Outlined text found
is_done text more left found ts ended so_far items read = found-by items more left found ts ended (so_far items read)
