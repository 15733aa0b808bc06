-- The image of parts, each the object of one function, is the image with no relocation in it.
use Rattle.std.proofs.Common.{◌≡◌, ℕ, zero, suc, ◌+◌, ◌-◌, ◌*◌, ◌/◌, ◌%◌, ◌<◌, ◌≤◌, Bool, true, false, cond, List, [], ◌∷◌, ◌++◌, length, map, filter, take, Option, Some, None, refl, sym, ap, ap₂, ◌∙◌, subst, arith, append_assoc, eqb-true, ltb-true}
use Rattle.std.specs.Prelude.{not, nat_le, nat_lt, ◌==◌, ◌&&◌, slice_get, unwrap_or, max, count_by}
use Rattle.std.specs.List.{AllByRecursion, flat_map, fold}
use Rattle.std.specs.Option.{option_map_or}
use Rattle.std.specs.Str.{bytes_eq}
use Rattle.std.proofs.lemmas.Bool.{and_parts}
use Rattle.std.proofs.lemmas.Bool.Decides.{nat_tests}
use Rattle.std.proofs.lemmas.List.{take_all, length-map}
use Rattle.std.proofs.lemmas.Grind.{flat_map-append}
use Rattle.std.proofs.lemmas.Slice.Eq.{bytes_eq-Decides}
use Rattle.std.proofs.lemmas.List.Elements.{recursion_from_All}
use Rattle.rv64_isa.specs.declared.instr.Instr.{Instr}
use Rattle.rv64_isa.specs.Words.{word_of}
use Rattle.elf_container.specs.declared.relocatable.RelocObject.{RelocObject}
use Rattle.elf_container.specs.declared.relocatable.RelSymbol.{RelSymbol}
use Rattle.elf_container.specs.declared.relocatable.Reloc.{Reloc}
use Rattle.elf_container.specs.Relocatable.{IsObject, fills, fills_by, reach, relocs_from, named_in_order, is_defined}
use Rattle.gimple_ir.specs.declared.merged.Merged.{Merged}
use Rattle.gimple_ir.specs.declared.plan.Plan.{Plan}
use Rattle.gimple_ir.specs.declared.plan.Version.{Version}
use Rattle.gimple_ir.specs.declared.versioned.VersionedFunction.{VersionedFunction}
use Rattle.rv64_frame.specs.Frames as frames
use Rattle.rv64_select.specs.declared.references.Reference.{Reference}
use Rattle.rv64_select.specs.Assembly.{assembly_of}
use Rattle.rv64_select.specs.Code.{words_in, code_of, symbol_name, unfilled, blank, label_offset}
use Rattle.rv64_select.specs.Selected.{words_of_code, references, relocation_of, place_of}
use Rattle.rv64_select.proofs.Laying.{length-laid, length-blank}
use Rattle.final_link.specs.declared.members.Member.{Member}
use Rattle.final_link.specs.Stubs.{functions_address}
use Rattle.final_link.specs.Image.{word, word_bytes, code_bytes, image_with}
use Rattle.final_link.specs.Names.{of_name, value_of}
use Rattle.final_link.specs.Arrays.{size_of, bytes_of, stored_arrays, zeroed_arrays}
use Rattle.final_link.specs.Members.{members_in, members_from, member_in, version_size, symbols_in, member_words, member_relocations, lies_in, counted_from, frame_size, version_frame, largest_frame}
use Rattle.final_link.specs.Symbols.{end_of, places_of, stub_symbols, array_symbols, symbols_of, address_in}
use Rattle.final_link.specs.Filling.{filled}
use Rattle.final_link.specs.Placing.{placed_words, code_from, main_address, placed_image, IsPlaceable}
use Rattle.follow_laws.specs.Direct.{code_size, direct_symbols, address_of, direct_code, direct_image}
use Rattle.follow_laws.specs.Patched.{NamesHaveAddresses, PatchedIsDirect}
use Rattle.program_link.specs.Objects.{own_symbol, other_symbol, other_names, object_names, object_of}

-- ---- the members of objects

abbrev pub member_at : ℕ → VersionedFunction → Member
member_at part f = record { part = part; start = 0; size = 4 * length (words_of_code f) }

abbrev pub entry_at : ℕ → VersionedFunction → List ℕ × Member
entry_at part f = (f.symbol, member_at part f)

abbrev pub entries_from : ℕ → List VersionedFunction → List (List ℕ × Member)
entries_from part [] = []
entries_from part (f ∷ fs) = entry_at part f ∷ entries_from (part + 1) fs

no_members : (part : ℕ) (names : List (List ℕ)) → members_in part (map other_symbol names) ≡ []
no_members part [] = refl
no_members part (name ∷ names) = no_members part names

one_member : (part : ℕ) (f : VersionedFunction) → members_in part (object_of f).symbols ≡ entry_at part f ∷ []
unfolding object_of
one_member part f = ap (λ (es : List (List ℕ × Member)). entry_at part f ∷ es) (no_members part (other_names f))

pub members_are : (part : ℕ) (fs : List VersionedFunction) → members_from part (map object_of fs) ≡ entries_from part fs
members_are part [] = refl
members_are part (f ∷ fs) = ap₂ (λ (a b : List (List ℕ × Member)). a ++ b) (one_member part f) (members_are (part + 1) fs)

entries_split : (part n : ℕ) (before : List VersionedFunction) (f : VersionedFunction) (behind : List VersionedFunction) → part + length before ≡ n
    → entries_from part (before ++ f ∷ behind) ≡ entries_from part before ++ entry_at n f ∷ entries_from (n + 1) behind
entries_split part n [] f behind e = let same : part ≡ n = omega (arith, e) in ap (λ (k : ℕ). entry_at k f ∷ entries_from (k + 1) behind) same
entries_split part n (g ∷ gs) f behind e =
    ap (λ (es : List (List ℕ × Member)). entry_at part g ∷ es) (entries_split (part + 1) n gs f behind (omega (arith, e)))

-- ---- what stands once under a name

same_name : (name : List ℕ) → bytes_eq name name ≡ true
same_name name = (bytes_eq-Decides name name).1 refl

kept_long : {T : Type 0} (b : Bool) (e : List ℕ × T) (es : List (List ℕ × T)) → 1 ≤ length (map (λ x. x.1) es) → 1 ≤ length (map (λ x. x.1) (cond b (e ∷ es) es))
kept_long true e es h = omega arith
kept_long false e es h = h

some_stand : {T : Type 0} (name : List ℕ) (value : T) (before behind : List (List ℕ × T)) → 1 ≤ length (of_name name (before ++ (name, value) ∷ behind))
some_stand {T} name value [] behind =
    let rest = filter (λ (e : List ℕ × T). bytes_eq name e.0) behind in
    let long : 1 ≤ length (map (λ (x : List ℕ × T). x.1) ((name, value) ∷ rest)) = omega arith in
    subst (λ (b : Bool). 1 ≤ length (map (λ (x : List ℕ × T). x.1) (cond b ((name, value) ∷ rest) rest))) (sym (same_name name)) long
some_stand {T} name value (e ∷ es) behind =
    kept_long (bytes_eq name e.0) e (filter (λ (e : List ℕ × T). bytes_eq name e.0) (es ++ (name, value) ∷ behind)) (some_stand name value es behind)

first_by : {T : Type 0} (b : Bool) (other value : T) (e : List ℕ × T) (es : List (List ℕ × T)) → 1 ≤ length (map (λ x. x.1) es) → length (map (λ x. x.1) (cond b (e ∷ es) es)) ≡ 1
    → (length (map (λ x. x.1) es) ≡ 1 → unwrap_or (slice_get (map (λ x. x.1) es) 0) other ≡ value)
    → unwrap_or (slice_get (map (λ x. x.1) (cond b (e ∷ es) es)) 0) other ≡ value
first_by true other value e es some once f = absurd (omega (arith, some, once))
first_by false other value e es some once f = f once

value_once : {T : Type 0} (other value : T) (name : List ℕ) (before behind : List (List ℕ × T)) → length (of_name name (before ++ (name, value) ∷ behind)) ≡ 1
    → value_of other name (before ++ (name, value) ∷ behind) ≡ value
value_once {T} other value name [] behind once =
    let rest = filter (λ (e : List ℕ × T). bytes_eq name e.0) behind in
    ap (λ (b : Bool). unwrap_or (slice_get (map (λ (x : List ℕ × T). x.1) (cond b ((name, value) ∷ rest) rest)) 0) other) (same_name name)
value_once {T} other value name (e ∷ es) behind once =
    first_by (bytes_eq name e.0) other value e (filter (λ (e : List ℕ × T). bytes_eq name e.0) (es ++ (name, value) ∷ behind)) (some_stand name value es behind) once
    (λ h. value_once other value name es behind h)

-- ---- the part of a version

-- a version whose part is the object of a function
pub record Stands (parts : List RelocObject) (v : Version) (f : VersionedFunction) : Type 0 where
  pub part : ℕ
  pub symbol : v.symbol ≡ f.symbol
  pub found : slice_get parts part ≡ Some (object_of f)
  pub member : member_in (members_from 0 parts) v.symbol ≡ member_at part f
  pub object : IsObject (object_of f)
  pub frame : frame_size (words_of_code f) ≡ frames.frame_size f

abbrev pub AllStand : List RelocObject → List Version → List VersionedFunction → Type 0
AllStand parts [] [] = Unit {0}
AllStand parts [] (f ∷ fs) = ⊥
AllStand parts (v ∷ vs) [] = ⊥
AllStand parts (v ∷ vs) (f ∷ fs) = Stands parts v f × AllStand parts vs fs

get_behind : {X Y : Type 0} (g : X → Y) (before : List X) (x : X) (behind : List X) → slice_get (map g (before ++ x ∷ behind)) (length before) ≡ Some (g x)
get_behind g [] x behind = refl
get_behind g (y ∷ ys) x behind = get_behind g ys x behind

heads : {X : Type 0} (x y : X) (xs ys : List X) → x ∷ xs ≡ y ∷ ys → (x ≡ y) × (xs ≡ ys)
heads x y xs ys e = (cc, cc)

member_once : (before behind : List VersionedFunction) (f : VersionedFunction) (symbol : List ℕ) → symbol ≡ f.symbol
    → length (of_name symbol (members_from 0 (map object_of (before ++ f ∷ behind)))) ≡ 1
    → member_in (members_from 0 (map object_of (before ++ f ∷ behind))) symbol ≡ member_at (length before) f
member_once before behind f symbol same once =
    let n = length before in
    let split = members_are 0 (before ++ f ∷ behind) ∙ entries_split 0 n before f behind (omega arith) in
    let other : Member = record { part = 0; start = 0; size = 0 } in
    ap₂ (λ (name : List ℕ) (es : List (List ℕ × Member)). value_of other name es) same split
    ∙ value_once other (member_at n f) f.symbol (entries_from 0 before) (entries_from (n + 1) behind)
    (sym (ap₂ (λ (name : List ℕ) (es : List (List ℕ × Member)). length (of_name name es)) same split) ∙ once)

pub all_stand : (before fs : List VersionedFunction) (vs : List Version) (parts : List RelocObject) → parts ≡ map object_of (before ++ fs)
    → map (λ v. v.symbol) vs ≡ map (λ f. f.symbol) fs
    → AllByRecursion (λ v. length (of_name v.symbol (members_from 0 parts)) ≡ 1) vs
    → AllByRecursion IsObject (map object_of fs) → AllByRecursion (λ f. frame_size (words_of_code f) ≡ frames.frame_size f) fs
    → AllStand parts vs fs
all_stand before [] [] parts is same once objects framed = tt
all_stand before [] (v ∷ vs) parts is same once objects framed = absurd (omega (arith, ap length same))
all_stand before (f ∷ fs) [] parts is same once objects framed = absurd (omega (arith, ap length same))
all_stand before (f ∷ fs) (v ∷ vs) parts is same once objects framed =
    let both = heads v.symbol f.symbol (map (λ (v : Version). v.symbol) vs) (map (λ (f : VersionedFunction). f.symbol) fs) same in (
      record {
        part = length before;
        symbol = both.0;
        found = ap (λ (os : List RelocObject). slice_get os (length before)) is ∙ get_behind object_of before f fs;
        member = ap (λ (os : List RelocObject). member_in (members_from 0 os) v.symbol) is ∙ member_once before fs f v.symbol both.0 (sym (ap (λ (os : List RelocObject). length (of_name v.symbol (members_from 0 os))) is) ∙ once.0);
        object = objects.0;
        frame = framed.0;
      },
      all_stand (before ++ f ∷ []) fs vs parts (is ∙ ap (λ (gs : List VersionedFunction). map object_of gs) (sym (append_assoc before (f ∷ []) fs))) both.1 once.1 objects.1 framed.1,
    )

-- ---- its words and its relocations

pub length-words : (f : VersionedFunction) → length (words_of_code f) ≡ words_in (assembly_of f)
unfolding words_of_code
length-words f =
    length-map (unfilled (assembly_of f)) word_of
    ∙ length-laid (blank (label_offset (assembly_of f))) (length-blank (label_offset (assembly_of f))) 0 (assembly_of f)

object_words : (f : VersionedFunction) → (object_of f).words ≡ words_of_code f
unfolding object_of
object_words f = refl

object_relocations : (f : VersionedFunction) → (object_of f).relocations ≡ map (relocation_of f (object_names f)) (references (assembly_of f))
unfolding object_of
object_relocations f = refl

object_symbols : (f : VersionedFunction) → (object_of f).symbols ≡ own_symbol f ∷ map other_symbol (other_names f)
unfolding object_of
object_symbols f = refl

abbrev words_by : Option RelocObject → ℕ → List ℕ
words_by part size = take (size / 4) (option_map_or (λ o. o.words) part [])

whole_words : (f : VersionedFunction) (ws : List ℕ) → ws ≡ words_of_code f → take (4 * length (words_of_code f) / 4) ws ≡ words_of_code f
whole_words f ws e = take_all (4 * length (words_of_code f) / 4) ws (omega (arith, ap length e)) ∙ e

pub words_same : (parts : List RelocObject) (part : ℕ) (f : VersionedFunction) → slice_get parts part ≡ Some (object_of f) → member_words parts (member_at part f) ≡ words_of_code f
words_same parts part f found =
    ap (λ (o : Option RelocObject). words_by o (4 * length (words_of_code f))) found ∙ whole_words f (object_of f).words (object_words f)

fills_within : (kind : ℕ) (found next : Option ℕ) → fills_by kind found next ≡ true → found ≡ None → ⊥
fills_within kind None next h e = cc
fills_within kind (Some w) next h e = cc

got_within : {X : Type 0} (xs : List X) (k : ℕ) → (slice_get xs k ≡ None → ⊥) → k < length xs
got_within [] k h = absurd (h refl)
got_within (x ∷ xs) zero h = omega arith
got_within (x ∷ xs) (suc k) h = omega (arith, got_within xs k h)

fills_place : (kind place : ℕ) (words : List ℕ) → fills kind place words ≡ true → place < length words
unfolding fills
fills_place kind place words h = got_within words place (fills_within kind (slice_get words place) (slice_get words (place + 1)) h)

both_true : (b c : Bool) → cond b c false ≡ true → (b ≡ true) × (c ≡ true)
both_true true c h = (refl, h)
both_true false c h = cc

offsets_within : (least : ℕ) (words : List ℕ) (rs : List Reloc) → relocs_from least words rs ≡ true → AllByRecursion (λ r. r.offset < 4 * length words) rs
offsets_within least words [] h = tt
offsets_within least words (r ∷ rs) h =
    let test = nat_le least r.offset && r.offset % 4 == 0 && fills r.kind (r.offset / 4) words in
    let both = both_true test (relocs_from (r.offset + reach r.kind) words rs) h in
    let here = and_parts (nat_le least r.offset && r.offset % 4 == 0) (fills r.kind (r.offset / 4) words) both.0 in
    let whole = eqb-true (r.offset % 4) 0 (and_parts (nat_le least r.offset) (r.offset % 4 == 0) here.0).1 in
    (omega (arith, whole, fills_place r.kind (r.offset / 4) words here.1), offsets_within (r.offset + reach r.kind) words rs both.1)

lies_by : (b : Bool) (r : Reloc) (rs all : List Reloc) → b ≡ true → map (counted_from 0) rs ≡ all → map (counted_from 0) (cond b (r ∷ rs) rs) ≡ r ∷ all
lies_by true r rs all h e =
    let same : r.offset - 0 ≡ r.offset = omega arith in
    let made : ℕ → Reloc = λ n. record { offset = n; kind = r.kind; symbol = r.symbol } in
    ap₂ (λ (a : Reloc) (l : List Reloc). a ∷ l) (ap made same) e
lies_by false r rs all h e = cc

lies_true : (offset size : ℕ) → offset < size → (nat_le 0 offset && nat_lt (offset - 0) size) ≡ true
lies_true offset size h = grind (arith, nat_tests)

all_lie : (m : Member) (rs : List Reloc) → m.start ≡ 0 → AllByRecursion (λ r. r.offset < m.size) rs → map (counted_from 0) (filter (lies_in m) rs) ≡ rs
all_lie m [] zero_start h = refl
all_lie m (r ∷ rs) zero_start h =
    lies_by (lies_in m r) r (filter (lies_in m) rs) rs
    (ap (λ (n : ℕ). nat_le n r.offset && nat_lt (r.offset - n) m.size) zero_start ∙ lies_true r.offset m.size h.0) (all_lie m rs zero_start h.1)

relocations_same : (parts : List RelocObject) (part : ℕ) (f : VersionedFunction) → slice_get parts part ≡ Some (object_of f) → IsObject (object_of f)
    → member_relocations parts (member_at part f) ≡ map (relocation_of f (object_names f)) (references (assembly_of f))
relocations_same parts part f found object =
    let o = object_of f in
    let m = member_at part f in
    let within = subst (λ (words : List ℕ). AllByRecursion (λ (r : Reloc). r.offset < 4 * length words) o.relocations) (object_words f) (offsets_within 0 o.words o.relocations object.relocations) in
    ap (λ (x : Option RelocObject). map (counted_from 0) (filter (lies_in m) (option_map_or (λ (o : RelocObject). o.relocations) x []))) found
    ∙ all_lie m o.relocations refl within ∙ object_relocations f

symbols_same : (parts : List RelocObject) (part : ℕ) (f : VersionedFunction) → slice_get parts part ≡ Some (object_of f) → symbols_in parts part ≡ own_symbol f ∷ map other_symbol (other_names f)
symbols_same parts part f found = ap (λ (x : Option RelocObject). option_map_or (λ (o : RelocObject). o.symbols) x []) found ∙ object_symbols f

-- ---- the names that its references have

named_by : (b c : Bool) (next symbol : ℕ) (count : ℕ) (rs : List Reloc)
    → nat_lt symbol next ≡ b → (symbol == next) ≡ c
    → ((later : ℕ) → named_in_order later count rs ≡ true → (later ≤ count) × AllByRecursion (λ r. r.symbol < count) rs)
    → option_map_or (λ later. named_in_order later count rs) (cond b (Some next) (cond c (Some (next + 1)) None)) false ≡ true
    → (next ≤ count) × ((symbol < count) × AllByRecursion (λ r. r.symbol < count) rs)
named_by true c next symbol count rs before here more h =
    let all = more next h in (all.0, (omega (arith, all.0, ltb-true symbol next before), all.1))
named_by false true next symbol count rs before here more h =
    let all = more (next + 1) h in (omega (arith, all.0), (omega (arith, all.0, eqb-true symbol next here), all.1))
named_by false false next symbol count rs before here more h = cc

named_within : (next count : ℕ) (rs : List Reloc) → named_in_order next count rs ≡ true → (next ≤ count) × AllByRecursion (λ r. r.symbol < count) rs
named_within next count [] h = (omega (arith, eqb-true next count h), tt)
named_within next count (r ∷ rs) h = named_by (nat_lt r.symbol next) (r.symbol == next) next r.symbol count rs refl refl (λ later. named_within later count rs) h

place_by : (b : Bool) (name x : List ℕ) (n k : ℕ) (xs : List (List ℕ)) → bytes_eq name x ≡ b → (n < length xs → slice_get xs n ≡ Some name)
    → cond (not b) (1 + n) 0 ≡ k → k < suc (length xs) → slice_get (x ∷ xs) k ≡ Some name
place_by true name x n k xs is more e within =
    subst (λ (j : ℕ). slice_get (x ∷ xs) j ≡ Some name) e (ap (λ (l : List ℕ). Some l) (sym ((bytes_eq-Decides name x).0 is)))
place_by false name x n k xs is more e within =
    let next : suc n ≡ k = omega (arith, e) in
    subst (λ (j : ℕ). slice_get (x ∷ xs) j ≡ Some name) next (more (omega (arith, next, within)))

pub named_there : (names : List (List ℕ)) (name : List ℕ) → place_of names name < length names → slice_get names (place_of names name) ≡ Some name
named_there [] name h = absurd (omega (arith, h))
named_there (x ∷ xs) name h = place_by (bytes_eq name x) name x (place_of xs name) (place_of (x ∷ xs) name) xs refl (named_there xs name) refl h

symbol_there : (symbols : List (List ℕ × ℕ)) (ss : List RelSymbol) (k : ℕ) (name : List ℕ) → slice_get (map (λ s. s.name) ss) k ≡ Some name → address_in symbols ss k ≡ value_of 0 name symbols
symbol_there symbols [] k name e = cc
symbol_there symbols (s ∷ ss) zero name e =
    ap (λ (l : List ℕ). value_of 0 l symbols) (ap (λ (o : Option (List ℕ)). unwrap_or o s.name) e)
symbol_there symbols (s ∷ ss) (suc k) name e = symbol_there symbols ss k name e

names_are : (names : List (List ℕ)) → map (λ s. s.name) (map other_symbol names) ≡ names
names_are [] = refl
names_are (name ∷ names) = ap (λ (l : List (List ℕ)). name ∷ l) (names_are names)

addresses_from : (f : VersionedFunction) (names : List (List ℕ)) (symbols : List (List ℕ × ℕ)) (ss : List RelSymbol) (count : ℕ) (refs : List Reference)
    → map (λ s. s.name) ss ≡ names → count ≡ length names → AllByRecursion (λ r. r.symbol < count) (map (relocation_of f names) refs)
    → AllByRecursion (λ r. address_in symbols ss (place_of names (symbol_name f r.symbol)) ≡ value_of 0 (symbol_name f r.symbol) symbols) refs
addresses_from f names symbols ss count [] are long h = tt
addresses_from f names symbols ss count (r ∷ refs) are long h =
    let name = symbol_name f r.symbol in
    let there = named_there names name (omega (arith, h.0, long)) in (
      symbol_there symbols ss (place_of names name) name (ap (λ (l : List (List ℕ)). slice_get l (place_of names name)) are ∙ there),
      addresses_from f names symbols ss count refs are long h.1,
    )

names_have : (f : VersionedFunction) (symbols : List (List ℕ × ℕ)) → IsObject (object_of f)
    → NamesHaveAddresses f (object_names f) (address_in symbols (own_symbol f ∷ map other_symbol (other_names f))) (address_of symbols)
names_have f symbols object =
    let o = object_of f in
    let ss = own_symbol f ∷ map other_symbol (other_names f) in
    let named = named_within (count_by is_defined o.symbols) (length o.symbols) o.relocations object.uses in
    let count : length o.symbols ≡ length (object_names f) = ap length (object_symbols f) ∙ omega (arith, length-map (other_names f) other_symbol) in
    addresses_from f (object_names f) symbols ss (length o.symbols) (references (assembly_of f))
    (ap (λ (l : List (List ℕ)). f.symbol ∷ l) (names_are (other_names f))) count
    (subst (λ (rs : List Reloc). AllByRecursion (λ (r : Reloc). r.symbol < length o.symbols) rs) (object_relocations f) named.1)

-- ---- the words of a version in the image

placed_same : (patched : PatchedIsDirect) (parts : List RelocObject) (symbols : List (List ℕ × ℕ)) (at : ℕ) (v : Version) (f : VersionedFunction) → Stands parts v f
    → placed_words parts symbols at (member_in (members_from 0 parts) v.symbol) ≡ map word_of (code_of (address_of symbols) f at)
placed_same patched parts symbols at v f h =
    let m = member_at h.part f in
    let ss = own_symbol f ∷ map other_symbol (other_names f) in
    ap (placed_words parts symbols at) h.member
    ∙ ap (λ (rs : List Reloc). filled rs (address_in symbols (symbols_in parts h.part)) at (member_words parts m)) (relocations_same parts h.part f h.found h.object)
    ∙ ap₂ (λ (s : List RelSymbol) (ws : List ℕ). filled (map (relocation_of f (object_names f)) (references (assembly_of f))) (address_in symbols s) at ws) (symbols_same parts h.part f h.found) (words_same parts h.part f h.found)
    ∙ patched f (object_names f) (address_in symbols ss) (address_of symbols) at (names_have f symbols h.object)

bytes_same : (code : List Instr) → flat_map word (map word_of code) ≡ code_bytes code
unfolding word word_bytes code_bytes
bytes_same [] = refl
bytes_same (i ∷ is) = ap (λ (bs : List ℕ). word_bytes i ++ bs) (bytes_same is)

size_same : (parts : List RelocObject) (v : Version) (f : VersionedFunction) → Stands parts v f → version_size (members_from 0 parts) v ≡ code_size f
size_same parts v f h = ap (λ (m : Member). m.size) h.member ∙ ap (λ (n : ℕ). 4 * n) (length-words f)

code_same : (patched : PatchedIsDirect) (parts : List RelocObject) (symbols : List (List ℕ × ℕ)) (at : ℕ) (vs : List Version) (fs : List VersionedFunction) → AllStand parts vs fs
    → flat_map word (code_from parts (members_from 0 parts) symbols at vs) ≡ direct_code symbols at fs
code_same patched parts symbols at [] [] h = refl
code_same patched parts symbols at [] (f ∷ fs) h = absurd h
code_same patched parts symbols at (v ∷ vs) [] h = absurd h
code_same patched parts symbols at (v ∷ vs) (f ∷ fs) h =
    let members = members_from 0 parts in
    let words = placed_words parts symbols at (member_in members v.symbol) in
    let rest = code_from parts members symbols (at + version_size members v) vs in
    flat_map-append word words rest
    ∙ ap₂ (λ (a b : List ℕ). a ++ b)
    (ap (flat_map word) (placed_same patched parts symbols at v f h.0) ∙ bytes_same (code_of (address_of symbols) f at))
    (ap (λ (n : ℕ). flat_map word (code_from parts members symbols (at + n) vs)) (size_same parts v f h.0) ∙ code_same patched parts symbols (at + code_size f) vs fs h.1)

-- ---- the symbols

pub ends_same : (parts : List RelocObject) (at : ℕ) (vs : List Version) (fs : List VersionedFunction) → AllStand parts vs fs
    → end_of (version_size (members_from 0 parts)) at vs ≡ end_of code_size at fs
ends_same parts at [] [] h = refl
ends_same parts at [] (f ∷ fs) h = absurd h
ends_same parts at (v ∷ vs) [] h = absurd h
ends_same parts at (v ∷ vs) (f ∷ fs) h =
    ap (λ (n : ℕ). end_of (version_size (members_from 0 parts)) (at + n) vs) (size_same parts v f h.0) ∙ ends_same parts (at + code_size f) vs fs h.1

places_same : (parts : List RelocObject) (at : ℕ) (vs : List Version) (fs : List VersionedFunction) → AllStand parts vs fs
    → places_of (λ v. v.symbol) (version_size (members_from 0 parts)) at vs ≡ places_of (λ f. f.symbol) code_size at fs
places_same parts at [] [] h = refl
places_same parts at [] (f ∷ fs) h = absurd h
places_same parts at (v ∷ vs) [] h = absurd h
places_same parts at (v ∷ vs) (f ∷ fs) h =
    ap₂ (λ (name : List ℕ) (es : List (List ℕ × ℕ)). (name, at) ∷ es) h.0.symbol
    (ap (λ (n : ℕ). places_of (λ (v : Version). v.symbol) (version_size (members_from 0 parts)) (at + n) vs) (size_same parts v f h.0)
    ∙ places_same parts (at + code_size f) vs fs h.1)

all_symbols_same : (parts : List RelocObject) (vs : List Version) (fs : List VersionedFunction) (merged : Merged) (kept : List ℕ) → AllStand parts vs fs
    → symbols_of (members_from 0 parts) vs merged kept ≡ direct_symbols fs merged kept
unfolding symbols_of direct_symbols
all_symbols_same parts vs fs merged kept h =
    ap₂ (λ (versions : List (List ℕ × ℕ)) (text_end : ℕ). stub_symbols ++ (versions ++ array_symbols merged kept text_end))
    (places_same parts functions_address vs fs h) (ends_same parts functions_address vs fs h)

-- ---- the frames

frames_same : (parts : List RelocObject) (largest : ℕ) (vs : List Version) (fs : List VersionedFunction) → AllStand parts vs fs
    → fold (λ n v. max n (version_frame parts (members_from 0 parts) v)) largest vs ≡ fold (λ n f. max n (frames.frame_size f)) largest fs
frames_same parts largest [] [] h = refl
frames_same parts largest [] (f ∷ fs) h = absurd h
frames_same parts largest (v ∷ vs) [] h = absurd h
frames_same parts largest (v ∷ vs) (f ∷ fs) h =
    let one : version_frame parts (members_from 0 parts) v ≡ frames.frame_size f =
    ap (λ (m : Member). frame_size (member_words parts m)) h.0.member ∙ ap frame_size (words_same parts h.0.part f h.0.found) ∙ h.0.frame in
    ap (λ (n : ℕ). fold (λ (n : ℕ) (v : Version). max n (version_frame parts (members_from 0 parts) v)) (max largest n) vs) one
    ∙ frames_same parts (max largest (frames.frame_size f)) vs fs h.1

-- ---- the image

image_same : (patched : PatchedIsDirect) (plan : Plan) (merged : Merged) (parts : List RelocObject) (fs : List VersionedFunction) → AllStand parts plan.versions fs
    → placed_image plan merged parts ≡ direct_image plan merged fs
unfolding placed_image direct_image
image_same patched plan merged parts fs h =
    let kept = plan.arrays in
    let vs = plan.versions in
    let members = members_from 0 parts in
    let stored = flat_map (bytes_of merged) (stored_arrays merged kept) in
    let zeroed = end_of (size_of merged) 0 (zeroed_arrays merged kept) in
    ap (λ (s : List (List ℕ × ℕ)). image_with (main_address s merged.main vs) (largest_frame parts members vs) (flat_map word (code_from parts members s functions_address vs)) stored zeroed) (all_symbols_same parts vs fs merged kept h)
    ∙ ap₂ (λ (frame : ℕ) (code : List ℕ). image_with (main_address (direct_symbols fs merged kept) merged.main vs) frame code stored zeroed)
    (frames_same parts 0 vs fs h) (code_same patched parts (direct_symbols fs merged kept) functions_address vs fs h)

-- The image of a plan that can be placed, whose versions have the symbols of functions in order, and whose parts are the objects of
-- these functions.
pub placed_is_direct : (patched : PatchedIsDirect) (plan : Plan) (merged : Merged) (fs : List VersionedFunction) → IsPlaceable plan merged (map object_of fs)
    → map (λ v. v.symbol) plan.versions ≡ map (λ f. f.symbol) fs → AllByRecursion (λ f. frame_size (words_of_code f) ≡ frames.frame_size f) fs
    → placed_image plan merged (map object_of fs) ≡ direct_image plan merged fs
placed_is_direct patched plan merged fs placeable same framed =
    let parts = map object_of fs in
    image_same patched plan merged parts fs
    (all_stand [] fs plan.versions parts refl same (recursion_from_All (λ (v : Version). length (of_name v.symbol (members_from 0 parts)) ≡ 1) plan.versions placeable.once)
    (recursion_from_All IsObject parts placeable.objects) framed)
