-- Reading the items of a text one by one, and those without the bodies of functions.
use Rattle.std.proofs.Common.{◌≡◌, ◌<◌, ℕ, List, [], ◌∷◌, length, false, Some, None, Result, Ok, Err, refl, ap, sym, subst, ◌∙◌}
use Rattle.gimple_tokens.specs.declared.token.TextKind.{TextKind}
use Rattle.gimple_tokens.specs.Tokens.{End, Placed, placed}
use Rattle.gimple_tokens.specs.Reading.{head_of, same}
use Rattle.gimple_tokens.specs.Stops.{Stuck, past, GivesOr}
use Rattle.gimple_tokens.specs.declared.failure.Failure.{Failure}
use Rattle.gimple_tokens.specs.declared.failure.Failure.TheVariants.{Fault}
use Rattle.gimple_grammar.specs.Grammar.{◌>>=◌, got, many, many_at}
use Rattle.gimple_grammar.specs.Items.{item_line, module_text}
use Rattle.gimple_grammar.specs.Streams.{with_item, outline_of, GivesOutline, IfLeft, GivesShort}
use Rattle.gimple_grammar.specs.declared.syntax.ItemLine.{ItemLine}
use Rattle.gimple_grammar.proofs.Laws.{bind_ok, first-is, rest-is}
use Rattle.gimple_grammar.proofs.ItemLaws.{item_line-sound}
use Rattle.gimple_grammar.proofs.Loops.{many-first, shorter}

-- no item is left where the text ends
pub text-end : (ts : List Placed) (line : ℕ) → ts ≡ placed End line ∷ [] → module_text.read ts ≡ Ok ([], [])
unfolding module_text many_at past
text-end ts line e = rw e refl

-- the items, and then the end
abbrev ended : Result (List ItemLine × List Placed) Stuck → Result (List ItemLine × List Placed) Stuck
ended read = read >>= λ a. past End a.1 >>= λ rest. Ok (a.0, rest)

by-end : (item : ItemLine) (xs : List ItemLine) (read : Result (List Placed) Stuck)
    → (read >>= λ rest. Ok (item ∷ xs, rest)) ≡ with_item item (read >>= λ rest. Ok (xs, rest))
by-end item xs (Ok rest) = refl
by-end item xs (Err s) = refl

ended-first : (item : ItemLine) (read : Result (List ItemLine × List Placed) Stuck)
    → ended (read >>= λ more. Ok (item ∷ more.0, more.1)) ≡ with_item item (ended read)
ended-first item (Ok x) = by-end item x.0 (past End x.1)
ended-first item (Err s) = refl

-- an item is read, and then the others
pub text-item : (ts mid : List Placed) (item : ItemLine) → same End (head_of ts) ≡ false → item_line.read ts ≡ Ok (item, mid)
    → module_text.read ts ≡ with_item item (module_text.read mid)
unfolding module_text
text-item ts mid item more e =
    ap ended (many-first (same End) item_line item_line-sound.law ts mid item more e)
    ∙ ended-first item ((many (same End) item_line).read mid)

-- an item is not read
pub items-fault : (k : TextKind) (ts after : List Placed) → same End (head_of ts) ≡ false → item_line.read ts ≡ Err (record { kind = k; rest = after })
    → (many (same End) item_line).read ts ≡ Err (record { kind = k; rest = after })
unfolding many_at
items-fault k ts after more e = rw (more, e) refl

-- ---- the items without the bodies of functions

-- the first of the items that are read, and what is read after it
pub record FirstItem (ts : List Placed) (items : List ItemLine) (rest : List Placed) : Type 0 where
  pub item : ItemLine
  pub more : List ItemLine
  pub mid : List Placed
  pub parts : items ≡ item ∷ more
  pub read : item_line.read ts ≡ Ok (item, mid)
  pub others : module_text.read mid ≡ Ok (more, rest)

text-stuck : (ts : List Placed) (s : Stuck) → (many (same End) item_line).read ts ≡ Err s → module_text.read ts ≡ Err s
unfolding module_text
text-stuck ts s e = rw e refl

first-cases : (ts : List Placed) (items : List ItemLine) (rest : List Placed) → same End (head_of ts) ≡ false → module_text.read ts ≡ Ok (items, rest)
    → (r : Result (ItemLine × List Placed) Stuck) → item_line.read ts ≡ r → FirstItem ts items rest
first-cases ts items rest other e (Ok x) f =
    let m = bind_ok (module_text.read x.1) (λ more. got {A = List ItemLine} (x.0 ∷ more.0) more.1) (items, rest) (sym (text-item ts x.1 x.0 other f) ∙ e) in
    record {
      item = x.0;
      more = m.0.0;
      mid = x.1;
      parts = sym (first-is {A = List ItemLine} (x.0 ∷ m.0.0) items m.0.1 rest m.2);
      read = f;
      others = m.1 ∙ ap (λ (l : List Placed). got m.0.0 l) (rest-is {A = List ItemLine} (x.0 ∷ m.0.0) items m.0.1 rest m.2);
    }
first-cases ts items rest other e (Err s) f = absurd (let none = sym (text-stuck ts s (items-fault s.kind ts s.rest other f)) ∙ e in cc)

first-item : (ts : List Placed) (items : List ItemLine) (rest : List Placed) → same End (head_of ts) ≡ false → module_text.read ts ≡ Ok (items, rest) → FirstItem ts items rest
first-item ts items rest other e = first-cases ts items rest other e (item_line.read ts) refl

-- the end is left after the last item
no-end : (items : List ItemLine) (rest : List Placed) → module_text.read [] ≡ Ok (items, rest) → ⊥
unfolding module_text many_at past
no-end items rest e = absurd cc

left-over : (mid : List Placed) (items : List ItemLine) (rest : List Placed) (P : Type 0) → module_text.read mid ≡ Ok (items, rest) → IfLeft mid P → P
left-over [] items rest P e x = absurd (no-end items rest e)
left-over (p ∷ ts) items rest P e x = x

first-outline : (r : Result ItemLine Failure) (before after rest : List Placed) (items : List ItemLine) (f : FirstItem before items rest) → GivesShort outline_of r after (item_line.read before) → GivesOr r after (got (outline_of f.item) f.mid)
first-outline r before after rest items f g =
    left-over f.mid f.more rest (GivesOr r after (got (outline_of f.item) f.mid)) f.others
    (subst (λ (read : Result (ItemLine × List Placed) Stuck). GivesShort outline_of r after read) f.read g)

pub no-outline : (before after : List Placed) (line : ℕ) → before ≡ placed End line ∷ [] → GivesOutline (Ok None) before after
no-outline before after line is items rest e = first-is items [] rest [] (sym e ∙ text-end before line is)

pub next-outline : (o : ItemLine) (before after : List Placed) → same End (head_of before) ≡ false → GivesShort outline_of (Ok o) after (item_line.read before) → GivesOutline (Ok (Some o)) before after
next-outline o before after other g items rest e =
    let f = first-item before items rest other e in
    let found = first-outline (Ok o) before after rest items f g in
    let left : f.mid ≡ after = rest-is (outline_of f.item) o f.mid after found in (
      f.item,
      f.more,
      f.parts,
      sym (first-is (outline_of f.item) o f.mid after found),
      subst (λ (l : List Placed). module_text.read l ≡ Ok (f.more, rest)) left f.others,
      subst (λ (l : List Placed). length l < length before) left (shorter item_line item_line-sound.law before f.mid f.item f.read),
    )

pub no-fault-outline : (k : TextKind) (before after : List Placed) → same End (head_of before) ≡ false → GivesShort outline_of (Err (Fault k)) after (item_line.read before)
    → (items : List ItemLine) (rest : List Placed) → module_text.read before ≡ Ok (items, rest) → ⊥
no-fault-outline k before after other g items rest e = absurd (let found = first-outline (Err (Fault k)) before after rest items (first-item before items rest other e) g in cc)
