-- The marks of a link: each is that of a symbol of an object, each symbol has one, and of each name one prevails that all match.
use Rattle.std.proofs.Common.{◌≡◌, ◌⊎◌, inl, inr, ◌+◌, ℕ, zero, suc, List, [], ◌∷◌, length, Bool, true, false, Some, None, refl, sym, ap, ap₂, ◌∙◌, arith, subst}
use Rattle.std.specs.Prelude.{◌&&◌, ◌||◌, not, if◌then◌else◌, Option, slice_get, nat_eq, nat_lt, count_by}
use Rattle.std.specs.List.{list_any}
use Rattle.std.specs.Option.{option_or}
use Rattle.std.specs.Str.{bytes_eq}
use Rattle.lto_object.specs.declared.symbol.Symbol.{Symbol}
use Rattle.lto_object.specs.Objects.{ObjectData}
use Rattle.lto_object.proofs.FormLaws.{same_bytes}
use Rattle.resolution_text.specs.declared.resolution.Resolved.{Resolved}
use Rattle.resolution_text.specs.declared.resolution.ResolvedFile.{ResolvedFile}
use Rattle.resolution_text.specs.declared.fault.ResolutionKind.{ResolutionKind}
use Rattle.resolution_text.specs.declared.fault.ResolutionKind.TheVariants.{TwoPrevailing, TypeMismatch, SymbolName, NativeWord, WordKind, FileName, SymbolCount}
use Rattle.resolution_text.specs.declared.fault.ResolutionError.{ResolutionError}
use Rattle.symbol_resolution.specs.declared.marks.Mark.{Mark}
use Rattle.symbol_resolution.specs.Groups.{of_name}
use Rattle.symbol_resolution.specs.LineFaults.{is_native, is_misplaced, word_fault, at_line, words_fault, header_fault, file_fault, line_after, files_fault}
use Rattle.symbol_resolution.specs.Marks.{mark_of, marks_in, marks_from, prevails, prevailing_mark}
use Rattle.symbol_resolution.specs.NameFaults.{types_match, prevailing_fault, group_fault, same_sort, is_at, is_first, at_name, mark_fault, names_fault}
use Rattle.symbol_resolution.proofs.Membership.{Has, later, has_left, has_right, has_either, named_has, equal_numbers, number-itself}

-- ---- no fault

at_line-none : (line : ℕ) (kind : Option ResolutionKind) (next : Option ResolutionError) → at_line line kind next ≡ None → (kind ≡ None) × (next ≡ None)
at_line-none line None next h = (refl, h)
at_line-none line (Some kind) next h = cc

or-none : (a b : Option ResolutionError) → option_or a b ≡ None → (a ≡ None) × (b ≡ None)
or-none None b h = (refl, h)
or-none (Some e) b h = cc

not_misplaced : (a b c : Bool) → (if not a then Some SymbolName else if b then Some NativeWord else if c then Some WordKind else None) ≡ None → c ≡ false
not_misplaced true true c h = cc
not_misplaced true false true h = cc
not_misplaced true false false h = refl
not_misplaced false b c h = cc

as_many_words : (a b : Bool) → (if not a then Some FileName else if b then None else Some SymbolCount) ≡ None → b ≡ true
as_many_words true true h = refl
as_many_words true false h = cc
as_many_words false b h = cc

-- ---- a mark is that of a symbol

pub record IsMark (n : ℕ) (os : List ObjectData) (e : List ℕ × Mark) : Type 0 where
  pub index : ℕ
  pub owner : ObjectData
  pub symbol : Symbol
  pub owner_is : slice_get os index ≡ Some owner
  pub object : e.1.object ≡ n + index
  pub has : Has owner.symbols symbol
  pub name : e.0 ≡ symbol.name
  pub place : e.1.place ≡ symbol.place
  pub sort : e.1.function ≡ symbol.function
  pub placed : is_misplaced symbol.linkage e.1.word ≡ false

record IsWord (n : ℕ) (ss : List Symbol) (e : List ℕ × Mark) : Type 0 where
  symbol : Symbol
  has : Has ss symbol
  object : e.1.object ≡ n
  name : e.0 ≡ symbol.name
  place : e.1.place ≡ symbol.place
  sort : e.1.function ≡ symbol.function
  placed : is_misplaced symbol.linkage e.1.word ≡ false

word_at : (n line : ℕ) (ss : List Symbol) (ws : List Resolved) (e : List ℕ × Mark) (i : ℕ) → slice_get (marks_in n ss ws) i ≡ Some e → words_fault line ss ws ≡ None → IsWord n ss e
word_at n line [] ws e i h none = cc
word_at n line (s ∷ ss) [] e i h none = cc
word_at n line (s ∷ ss) (w ∷ ws) e zero h none =
    let same : (s.name, mark_of n s w) ≡ e = cc in
    let two = at_line-none line (word_fault s w) (words_fault (line + 1) ss ws) none in
    let placed = not_misplaced (bytes_eq s.name w.name) (is_native w.word) (is_misplaced s.linkage w.word) two.0 in
    record {
      symbol = s;
      has = (zero, refl);
      object = sym (ap (λ (e : List ℕ × Mark). e.1.object) same);
      name = sym (ap (λ (e : List ℕ × Mark). e.0) same);
      place = sym (ap (λ (e : List ℕ × Mark). e.1.place) same);
      sort = sym (ap (λ (e : List ℕ × Mark). e.1.function) same);
      placed = sym (ap (λ (e : List ℕ × Mark). is_misplaced s.linkage e.1.word) same) ∙ placed;
    }
word_at n line (s ∷ ss) (w ∷ ws) e (suc i) h none =
    let two = at_line-none line (word_fault s w) (words_fault (line + 1) ss ws) none in
    let rest = word_at n (line + 1) ss ws e i h two.1 in
    record { symbol = rest.symbol; has = later s ss rest.symbol rest.has; object = rest.object; name = rest.name; place = rest.place; sort = rest.sort; placed = rest.placed }

pub mark_at : (n line : ℕ) (names : List (List ℕ)) (os : List ObjectData) (fs : List ResolvedFile) (e : List ℕ × Mark) (i : ℕ)
    → slice_get (marks_from n os fs) i ≡ Some e → length names ≡ length os → files_fault line names os fs ≡ None → IsMark n os e
mark_at n line names [] fs e i h long none = cc
mark_at n line names (o ∷ os) [] e i h long none = cc
mark_at n line [] (o ∷ os) (f ∷ fs) e i h long none = absurd (omega (arith, long))
mark_at n line (name ∷ names) (o ∷ os) (f ∷ fs) e i h long none =
    let two = or-none (file_fault line name o f) (files_fault (line_after line f) names os fs) none in
    let words = (at_line-none line (header_fault name o f) (words_fault (line + 1) o.symbols f.words) two.0).1 in
    by words (λ j k. mark_at (n + 1) (line_after line f) names os fs e j k (omega (arith, long)) two.1) (has_either (marks_in n o.symbols f.words) (marks_from (n + 1) os fs) e i h)
  where
    by : words_fault (line + 1) o.symbols f.words ≡ None → ((j : ℕ) → slice_get (marks_from (n + 1) os fs) j ≡ Some e → IsMark (n + 1) os e)
        → Has (marks_in n o.symbols f.words) e ⊎ Has (marks_from (n + 1) os fs) e → IsMark n (o ∷ os) e
    by words rest (inl here) =
        let w = word_at n (line + 1) o.symbols f.words e here.0 here.1 words in
        record { index = 0; owner = o; symbol = w.symbol; owner_is = refl; object = w.object ∙ omega arith; has = w.has; name = w.name; place = w.place; sort = w.sort; placed = w.placed }
    by words rest (inr there) =
        let m = rest there.0 there.1 in
        record { index = suc m.index; owner = m.owner; symbol = m.symbol; owner_is = m.owner_is; object = m.object ∙ omega arith; has = m.has; name = m.name; place = m.place; sort = m.sort; placed = m.placed }

-- ---- a symbol has a mark

word_of_symbol : (n : ℕ) (ss : List Symbol) (ws : List Resolved) (s : Symbol) (i : ℕ) → slice_get ss i ≡ Some s → length ss ≡ length ws
    → (w : Resolved) × Has (marks_in n ss ws) (s.name, mark_of n s w)
word_of_symbol n [] ws s i h long = cc
word_of_symbol n (t ∷ ss) [] s i h long = absurd (omega (arith, long))
word_of_symbol n (t ∷ ss) (w ∷ ws) s zero h long =
    let same : t ≡ s = cc in
    (w, (zero, ap (λ (t : Symbol). let e : List ℕ × Mark = (t.name, mark_of n t w) in Some e) same))
word_of_symbol n (t ∷ ss) (w ∷ ws) s (suc i) h long =
    let rest = word_of_symbol n ss ws s i h (omega (arith, long)) in
    (rest.0, later (t.name, mark_of n t w) (marks_in n ss ws) (s.name, mark_of n s rest.0) rest.1)

pub mark_of_symbol : (n line : ℕ) (names : List (List ℕ)) (os : List ObjectData) (fs : List ResolvedFile) (i j : ℕ) (o : ObjectData) (s : Symbol)
    → n + i ≡ j → slice_get os i ≡ Some o → Has o.symbols s → length names ≡ length os → length fs ≡ length os → files_fault line names os fs ≡ None
    → (w : Resolved) × Has (marks_from n os fs) (s.name, mark_of j s w)
mark_of_symbol n line names [] fs i j o s e h has long files none = cc
mark_of_symbol n line names (p ∷ os) [] i j o s e h has long files none = absurd (omega (arith, files))
mark_of_symbol n line [] (p ∷ os) (f ∷ fs) i j o s e h has long files none = absurd (omega (arith, long))
mark_of_symbol n line (name ∷ names) (p ∷ os) (f ∷ fs) zero j o s e h has long files none =
    let same : o ≡ p = cc in
    let at : n ≡ j = omega (arith, e) in
    let two = or-none (file_fault line name p f) (files_fault (line_after line f) names os fs) none in
    let header = (at_line-none line (header_fault name p f) (words_fault (line + 1) p.symbols f.words) two.0).0 in
    let count = equal_numbers (length p.symbols) (length f.words) (as_many_words (bytes_eq name f.name) (nat_eq (length p.symbols) (length f.words)) header) in
    let its = subst (λ (o : ObjectData). Has o.symbols s) same has in
    let found = word_of_symbol n p.symbols f.words s its.0 its.1 count in (
      found.0,
      has_left (marks_in n p.symbols f.words) (marks_from (n + 1) os fs) (s.name, mark_of j s found.0)
          (subst (λ (k : ℕ). Has (marks_in n p.symbols f.words) (s.name, mark_of k s found.0)) at found.1),
    )
mark_of_symbol n line (name ∷ names) (p ∷ os) (f ∷ fs) (suc i) j o s e h has long files none =
    let two = or-none (file_fault line name p f) (files_fault (line_after line f) names os fs) none in
    let rest = mark_of_symbol (n + 1) (line_after line f) names os fs i j o s (omega (arith, e)) h has (omega (arith, long)) (omega (arith, files)) two.1 in
    (rest.0, has_right (marks_in n p.symbols f.words) (marks_from (n + 1) os fs) (s.name, mark_of j s rest.0) rest.1)

-- ---- names

name_checked : (objects : List ObjectData) (all marks : List (List ℕ × Mark)) (e : List ℕ × Mark) (i : ℕ) → names_fault objects all marks ≡ None → slice_get marks i ≡ Some e
    → mark_fault objects all e.0 e.1 ≡ None
name_checked objects all [] e i none h = cc
name_checked objects all (d ∷ marks) e zero none h =
    let same : d ≡ e = cc in
    sym (ap (λ (d : List ℕ × Mark). mark_fault objects all d.0 d.1) same) ∙ (or-none (mark_fault objects all d.0 d.1) (names_fault objects all marks) none).0
name_checked objects all (d ∷ marks) e (suc i) none h =
    name_checked objects all marks e i (or-none (mark_fault objects all d.0 d.1) (names_fault objects all marks) none).1 h

first_of_some : {X : Type 0} (xs : List X) (x : X) (i : ℕ) → slice_get xs i ≡ Some x → (y : X) × (slice_get xs 0 ≡ Some y)
first_of_some [] x i h = cc
first_of_some (y ∷ xs) x i h = (y, refl)

pub sort-itself : (b : Bool) → same_sort b b ≡ true
sort-itself true = refl
sort-itself false = refl

pub at_itself : (m : Mark) → is_at m.function m.object m.place m ≡ true
at_itself m = ap₂ (λ a b. a && b) (ap₂ (λ a b. a && b) (sort-itself m.function) (number-itself m.object)) (number-itself m.place)

first_is : (m : Mark) (xs : List Mark) → slice_get xs 0 ≡ Some m → is_first m xs ≡ true
first_is m [] h = cc
first_is m (x ∷ xs) h = let same : x ≡ m = cc in ap (is_at m.function m.object m.place) same ∙ at_itself m

at_name-none : (name : List ℕ) (kind : Option ResolutionKind) → at_name name kind ≡ None → kind ≡ None
at_name-none name None h = refl
at_name-none name (Some kind) h = cc

group_checked : (objects : List ObjectData) (all : List (List ℕ × Mark)) (name : List ℕ) (x : Mark) (i : ℕ) → names_fault objects all all ≡ None
    → slice_get (of_name name all) i ≡ Some x → group_fault objects (of_name name all) ≡ None
group_checked objects all name x i none h =
    let first = first_of_some (of_name name all) x i h in
    let entry = named_has name all first.0 0 first.1 in
    let checked = name_checked objects all all entry.0 entry.1.0 none entry.1.1 in
    let same = same_bytes name entry.0.0 entry.2 in
    let said : mark_fault objects all name first.0 ≡ None = ap (λ (s : List ℕ). mark_fault objects all s first.0) same ∙ sym (ap (mark_fault objects all entry.0.0) entry.3) ∙ checked in
    at_name-none name (group_fault objects (of_name name all))
    (sym (ap (λ (b : Bool). if b then at_name name (group_fault objects (of_name name all)) else None) (first_is first.0 (of_name name all) first.1)) ∙ said)

none_any : {X : Type 0} (p : X → Bool) (xs : List X) (x : X) (i : ℕ) → slice_get xs i ≡ Some x → list_any p xs ≡ false → p x ≡ false
none_any p [] x i h none = cc
none_any p (y ∷ xs) x zero h none = let same : x ≡ y = cc in ap p same ∙ first (p y) (list_any p xs) none
  where
    first : (a b : Bool) → (a || b) ≡ false → a ≡ false
    first true b h = cc
    first false b h = refl
none_any p (y ∷ xs) x (suc i) h none = none_any p xs x i h (second (p y) (list_any p xs) none)
  where
    second : (a b : Bool) → (a || b) ≡ false → b ≡ false
    second true b h = cc
    second false b h = h

-- a symbol of the name prevails, and all of the name match it
pub record IsSettled (objects : List ObjectData) (all : List (List ℕ × Mark)) (name : List ℕ) : Type 0 where
  pub mark : Mark
  pub found : prevailing_mark name all ≡ Some mark
  pub same : (n : Mark) (i : ℕ) → slice_get (of_name name all) i ≡ Some n → types_match objects mark n ≡ true

matched : (b : Bool) → not b ≡ false → b ≡ true
matched true h = refl
matched false h = cc

settled_by : (objects : List ObjectData) (all : List (List ℕ × Mark)) (name : List ℕ) (o : Option Mark) → prevailing_mark name all ≡ o
    → prevailing_fault objects (of_name name all) o ≡ None → IsSettled objects all name
settled_by objects all name None is h = cc
settled_by objects all name (Some m) is h =
    record {
      mark = m;
      found = is;
      same = λ n i at. matched (types_match objects m n) (none_any (λ n. not (types_match objects m n)) (of_name name all) n i at (no_mismatch (list_any (λ n. not (types_match objects m n)) (of_name name all)) h));
    }
  where
    no_mismatch : (b : Bool) → (if b then Some TypeMismatch else None) ≡ None → b ≡ false
    no_mismatch true h = cc
    no_mismatch false h = refl

second_kind : (b : Bool) (kind : Option ResolutionKind) → (if b then Some TwoPrevailing else kind) ≡ None → kind ≡ None
second_kind true kind h = cc
second_kind false kind h = h

pub settled : (objects : List ObjectData) (all : List (List ℕ × Mark)) (name : List ℕ) (x : Mark) (i : ℕ) → names_fault objects all all ≡ None
    → slice_get (of_name name all) i ≡ Some x → IsSettled objects all name
settled objects all name x i none h =
    settled_by objects all name (prevailing_mark name all) refl
    (second_kind (nat_lt 1 (count_by prevails (of_name name all))) (prevailing_fault objects (of_name name all) (prevailing_mark name all)) (group_checked objects all name x i none h))
