-- What is kept of a name after all symbols is what they come to.
use Rattle.std.proofs.Common.{◌≡◌, ℕ, ◌+◌, List, [], ◌∷◌, fold, drop, length, ◌≤◌, Bool, true, false, cond, ◌&&◌, ◌||◌, Option, Some, None, nat_lt, unwrap_or, refl, sym, ap, ◌∙◌, arith, rules}
use Rattle.std.specs.Prelude.{count_by}
use Rattle.std.specs.List.{find}
use Rattle.std.specs.Option.{option_map, option_or, is_some}
use Rattle.std.specs.Str.{bytes_eq}
use Rattle.std.specs.Cmp.{nat_eq_equiv}
use Rattle.std.specs.Cmp.Lexicographic.{lists_equiv}
use Rattle.std.specs.HashMap.{UpdatesBy, get_by}
use Rattle.std.proofs.lemmas.Grind.{common_steps}
use Rattle.std.proofs.lemmas.Bool.Decides.{nat_tests}
use Rattle.std.proofs.lemmas.List.Sums.{sum_by-cons}
use Rattle.std.proofs.lemmas.Map.Text.{hash_map_updates_str}
use Rattle.std.proofs.lemmas.Slice.Eq.{bytes_eq-Decides}
use Rattle.gimple_ir.specs.declared.types.Linkage.{Linkage}
use Rattle.gimple_ir.specs.declared.types.Linkage.TheVariants.{Extern, Strong, Weak, Static}
use Rattle.symbol_resolution.specs.declared.definitions.SymbolPlace.{SymbolPlace}
use Rattle.symbol_resolution.specs.declared.definitions.Definitions.{Definitions}
use Rattle.lto_object.specs.Objects.{ObjectData}
use Rattle.symbol_resolution.specs.Symbols.{LinkSymbol, symbols_from, is_strong, is_weak, defines, first_of}
use Rattle.symbol_resolution.specs.Definitions.{Table, kept, no_definitions, definitions_of, with_linkage, with_symbol}

-- what two lists of symbols in a row come to
abbrev joined : Definitions → Definitions → Definitions
joined d e = record { strong = option_or d.strong e.strong; weak = option_or d.weak e.weak; doubled = d.doubled || (is_some d.strong && is_some e.strong) || e.doubled }

or_none : {A : Type 0} (a : Option A) → option_or a None ≡ a
or_none None = refl
or_none (Some x) = refl

first_kept : {A : Type 0} (a b c : Option A) → is_some b ≡ true → option_or (option_or a b) c ≡ option_or a b
first_kept None (Some y) c h = refl
first_kept None None c h = absurd cc
first_kept (Some x) b c h = refl

nothing_joined : (d b : Bool) → (d || (b && false) || false) ≡ d
nothing_joined true b = refl
nothing_joined false true = refl
nothing_joined false false = refl

none_more : (n : ℕ) → nat_lt 0 n ≡ false → nat_lt 1 n ≡ nat_lt 1 (1 + n)
none_more n h = grind (arith, nat_tests, h)

some_more : (n : ℕ) → nat_lt 0 n ≡ true → true ≡ nat_lt 1 (1 + n)
some_more n h = grind (arith, nat_tests, h)

second_strong : (d : Bool) (a : Option SymbolPlace) (at : SymbolPlace) (f : Option LinkSymbol) (n : ℕ) → is_some f ≡ nat_lt 0 n
    → ((d || is_some a) || (is_some (option_or a (Some at)) && is_some (option_map (λ (s : LinkSymbol). s.at) f)) || nat_lt 1 n) ≡ (d || (is_some a && true) || nat_lt 1 (1 + n))
second_strong true a at f n h = refl
second_strong false (Some x) at f n h = refl
second_strong false None at None n h = none_more n (sym h)
second_strong false None at (Some s) n h = some_more n (sym h)

next : (d : Definitions) (b : Bool) (l : Linkage) (s : LinkSymbol) (f g : Option LinkSymbol) (n : ℕ) → is_some f ≡ nat_lt 0 n
    → joined (cond b (with_linkage d s.at l) d) (record { strong = option_map (λ s. s.at) f; weak = option_map (λ s. s.at) g; doubled = nat_lt 1 n })
    ≡ joined d (record { strong = option_map (λ s. s.at) (cond (b && is_strong l) (Some s) f); weak = option_map (λ s. s.at) (cond (b && is_weak l) (Some s) g); doubled = nat_lt 1 (cond (b && is_strong l) (1 + n) n) })
next d false l s f g n h = refl
next d true Extern s f g n h = refl
next d true Static s f g n h = refl
next d true Weak s f g n h =
    ap (λ (w : Option SymbolPlace). record { strong = option_or d.strong (option_map (λ s. s.at) f); weak = w; doubled = d.doubled || (is_some d.strong && is_some (option_map (λ (s : LinkSymbol). s.at) f)) || nat_lt 1 n })
    (first_kept d.weak (Some s.at) (option_map (λ s. s.at) g) refl)
next d true Strong s f g n h =
    ap (λ (w : Option SymbolPlace). record { strong = w; weak = option_or d.weak (option_map (λ s. s.at) g); doubled = (d.doubled || is_some d.strong) || (is_some (option_or d.strong (Some s.at)) && is_some (option_map (λ (s : LinkSymbol). s.at) f)) || nat_lt 1 n })
    (first_kept d.strong (Some s.at) (option_map (λ s. s.at) f) refl)
    ∙ ap (λ (w : Bool). record { strong = option_or d.strong (Some s.at); weak = option_or d.weak (option_map (λ s. s.at) g); doubled = w })
    (second_strong d.doubled d.strong s.at f n h)

counted : (p : LinkSymbol → Bool) (ss : List LinkSymbol) → is_some (find p ss) ≡ nat_lt 0 (count_by p ss)
counted p [] = refl
counted p (s ∷ ss) =
    one_more (p s) s (find p ss) (count_by p ss) (counted p ss)
    ∙ ap (nat_lt 0) (sym (sum_by-cons (λ (x : LinkSymbol). cond (p x) 1 0) s ss))
  where
    one_more : (b : Bool) (s : LinkSymbol) (f : Option LinkSymbol) (n : ℕ) → is_some f ≡ nat_lt 0 n → is_some (cond b (Some s) f) ≡ nat_lt 0 (cond b 1 0 + n)
    one_more true s f n h = grind (arith, nat_tests)
    one_more false s f n h = h ∙ ap (nat_lt 0) (let e : n ≡ 0 + n = omega arith in e)

one_counted : (b : Bool) (n : ℕ) → cond b (1 + n) n ≡ cond b 1 0 + n
one_counted true n = refl
one_counted false n = omega arith

folded : (name : List ℕ) (d : Definitions) (ss : List LinkSymbol) → fold (with_symbol name) d ss ≡ joined d (definitions_of name ss)
folded name d [] =
    sym (ap (λ (a : Option SymbolPlace). record { strong = a; weak = option_or d.weak None; doubled = d.doubled || (is_some d.strong && false) || false }) (or_none d.strong)
    ∙ ap (λ (a : Option SymbolPlace). record { strong = d.strong; weak = a; doubled = d.doubled || (is_some d.strong && false) || false }) (or_none d.weak)
    ∙ ap (λ (a : Bool). record { strong = d.strong; weak = d.weak; doubled = a }) (nothing_joined d.doubled (is_some d.strong)))
folded name d (s ∷ ss) =
    folded name (with_symbol name d s) ss
    ∙ next d (bytes_eq name s.symbol.name) s.symbol.linkage s (find (defines is_strong name) ss) (find (defines is_weak name) ss) (count_by (defines is_strong name) ss) (counted (defines is_strong name) ss)
    ∙ ap (λ (n : ℕ). joined d (record { strong = first_of is_strong name (s ∷ ss); weak = first_of is_weak name (s ∷ ss); doubled = nat_lt 1 n }))
    (one_counted (defines is_strong name s) (count_by (defines is_strong name) ss) ∙ sym (sum_by-cons (λ (x : LinkSymbol). cond (defines is_strong name x) 1 0) s ss))

-- what is kept after all symbols is what they come to
pub all_noted : (name : List ℕ) (ss : List LinkSymbol) → fold (with_symbol name) no_definitions ss ≡ definitions_of name ss
all_noted name ss = folded name no_definitions ss

-- ---- a table after one more symbol

kept_by : {S : Type 0} (b : Bool) (name q : List ℕ) (old : Table S) (at : SymbolPlace) (l : Linkage) → bytes_eq name q ≡ b
    → unwrap_or (cond b (Some (with_linkage (kept old name) at l)) (get_by (λ k. bytes_eq q k.now) old)) no_definitions ≡ cond b (with_linkage (kept old q) at l) (kept old q)
kept_by true name q old at l e = ap (λ (n : List ℕ). with_linkage (kept old n) at l) (let is : name ≡ q = search (rules, bytes_eq-Decides name q, e) in is)
kept_by false name q old at l e = refl

pub kept_noted : {S : Type 0} (old new : Table S) (name : List ℕ) (s : LinkSymbol) (d : Definitions) → name ≡ s.symbol.name → d ≡ with_linkage (kept old name) s.at s.symbol.linkage
    → UpdatesBy (λ x y. bytes_eq x.now y.now) (λ k. bytes_eq name k.now) old new (Some d)
    → (q : List ℕ) → kept new q ≡ with_symbol q (kept old q) s
kept_noted old new name s d is made updates q =
    ap (λ (o : Option Definitions). unwrap_or o no_definitions) (hash_map_updates_str name old new (Some d) updates q)
    ∙ ap (λ (e : Definitions). unwrap_or (cond (bytes_eq name q) (Some e) (get_by (λ k. bytes_eq q k.now) old)) no_definitions) made
    ∙ kept_by (bytes_eq name q) name q old s.at s.symbol.linkage refl
    ∙ ap (λ (b : Bool). cond b (with_linkage (kept old q) s.at s.symbol.linkage) (kept old q)) ((lists_equiv nat_eq_equiv).symm name q)
    ∙ ap (λ (n : List ℕ). cond (bytes_eq q n) (with_linkage (kept old q) s.at s.symbol.linkage) (kept old q)) is

-- behind the last object nothing is left to note
pub none_left : {S : Type 0} (name : List ℕ) (table : Table S) (n : ℕ) (os : List ObjectData) → length os ≤ n
    → kept table name ≡ fold (with_symbol name) (kept table name) (symbols_from n (drop n os))
none_left name table n os h = grind (arith, common_steps)
