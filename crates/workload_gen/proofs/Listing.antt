-- Lists of functions and statements, one element after the other.
use Rattle.std.proofs.Common.{◌≡◌, ℕ, suc, ◌+◌, ◌*◌, ◌%◌, ◌<◌, List, [], ◌∷◌, ◌++◌, length, take, Bool, true, ◌||◌, ◌&&◌, nat_eq, Option, Some, None, refl, arith, add-one, eq-eqb, sym, ap, ◌∙◌, append_assoc, map, max}
use Rattle.std.specs.List.{slice_index_or, range_with_len, flat_map, list_any}
use Rattle.std.specs.Option.{IfSome}
use Rattle.std.proofs.lemmas.List.{take_more, length-take-le}
use Rattle.std.proofs.lemmas.List.Folds.{list_any_at}
use Rattle.std.proofs.lemmas.Grind.{flat_map-append}
use Rattle.std.proofs.Math.Bool.{or-true}
use Rattle.gimple_ir.specs.declared.types.Function.{Function}
use Rattle.gimple_ir.specs.declared.types.Statement.{Statement}
use Rattle.workload_gen.specs.declared.choices.Choice.{Choice}
use Rattle.workload_gen.specs.declared.choices.Call.{Call}
use Rattle.std.specs.Int.{div_ceil}
use Rattle.gimple_ir.specs.declared.types.BinaryOp.TheVariants.{Xor}
use Rattle.gimple_ir.specs.declared.types.Operand.TheVariants.{Component}
use Rattle.gimple_ir.specs.declared.types.Statement.TheVariants.{Binary, Copy}
use Rattle.workload_gen.specs.Draws.{next, after, draw}
use Rattle.std.proofs.lemmas.List.FromFn.{map-range_with_len_more, length-map-range_with_len}
use Rattle.gimple_ir.specs.declared.types.Module.{Module}
use Rattle.workload_gen.specs.Choices.{unsigned, start, choices_of}
use Rattle.workload_gen.specs.Functions.{call_to, declaration, definition, round, rounds, main_end, main_body}
use Rattle.workload_gen.specs.Modules.{declared_below, place_in, main_in, functions_of, module_of, modules_of, definitions_from, calls_function, own_choices}
use Rattle.workload_gen.specs.Places.{AreForward, IsCalled}
use Rattle.workload_gen.proofs.Declaring.{range_with_len-more}
use Rattle.workload_gen.proofs.Calling.{length-own_choices, get_or-own_choices}

-- ---- what a module calls

calls_itself : (call : Call) (x : Choice) → x.call ≡ Some call → calls_function call.callee x ≡ true
calls_itself call x e = rw e (eq-eqb call.callee call.callee refl)

called_by_some : (a b : Bool) → a ≡ true → (a || b) ≡ true
called_by_some a b e = ap (λ x. x || b) e

-- the call of one of a module's functions
own_calls : (choices : List Choice) (m i : ℕ) (d : Choice) (call : Call) → AreForward choices → i < length (own_choices choices m)
    → (slice_index_or (own_choices choices m) i d).call ≡ Some call → IsCalled choices m call.callee
own_calls choices m i d call forward inside is =
    let own = own_choices choices m in
    let long = length-own_choices choices m in
    let small : i < 50 = omega (arith, inside, long) in
    let all = sym (get_or-own_choices choices m i d small) in
    let goes = forward (50 * m + i) d (omega (arith, inside, long)) call (ap (λ (c : Choice). c.call) all ∙ is) in
    let some = list_any_at (calls_function call.callee) own i d inside (calls_itself call (slice_index_or own i d) is) in
    record {
      called = called_by_some (list_any (calls_function call.callee) own) (nat_eq m 0 && nat_eq (call.callee % 10) 0) some;
      there = goes.2;
    }

if_some : (P : Call → Type 0) (o : Option Call) → ((call : Call) → o ≡ Some call → P call) → IfSome o P
if_some P None h = tt
if_some P (Some call) h = h call refl

pub own_called : (choices items : List Choice) (m i : ℕ) (d : Choice) → AreForward choices → items ≡ own_choices choices m → i < length items
    → IfSome (slice_index_or items i d).call (λ call. IsCalled choices m call.callee)
own_called choices items m i d forward are inside =
    let within : i < length (own_choices choices m) = omega (arith, ap length are, inside) in
    if_some (λ (call : Call). IsCalled choices m call.callee) (slice_index_or items i d).call
    (λ call is. own_calls choices m i d call forward within (ap (λ (xs : List Choice). (slice_index_or xs i d).call) (sym are) ∙ is))

-- `main` calls each tenth function
pub main_called : (choices : List Choice) (m n : ℕ) → m ≡ 0 → 10 * n < length choices → IsCalled choices m (10 * n)
main_called choices m n first inside =
    let tenth : nat_eq (10 * n % 10) 0 ≡ true = eq-eqb (10 * n % 10) 0 (omega arith) in
    let zeroth : nat_eq m 0 ≡ true = eq-eqb m 0 first in
    record {
      called = rw (zeroth, tenth) (or-true _);
      there = inside;
    }

-- ---- one more

definitions_from-append : (place : ℕ → ℕ) (n : ℕ) (xs : List Choice) (x : Choice)
    → definitions_from place n (xs ++ x ∷ []) ≡ definitions_from place n xs ++ definition place (n + length xs) x ∷ []
unfolding definitions_from
definitions_from-append place n [] x = ap (λ (k : ℕ). definition place k x ∷ []) (omega arith)
definitions_from-append place n (y ∷ ys) x =
    let e : n + 1 + length ys ≡ n + suc (length ys) = omega arith in
    ap (λ rest. definition place n y ∷ rest)
    (definitions_from-append place (n + 1) ys x ∙ ap (λ (k : ℕ). definitions_from place (n + 1) ys ++ definition place k x ∷ []) e)

-- the definitions of the first functions of a list, after those that stand before
pub definitions_more : (place : ℕ → ℕ) (n i number : ℕ) (own items : List Choice) (d : Choice) (before made after : List Function)
    → items ≡ own → i < length items → number ≡ n + i
    → made ≡ before ++ definitions_from place n (take i own) → after ≡ made ++ definition place number (slice_index_or items i d) ∷ []
    → after ≡ before ++ definitions_from place n (take (i + 1) own)
definitions_more place n i number own items d before made after are inside is is_made is_after =
    let same = ap length are in
    let long = length-take-le i own (omega (arith, inside, same)) in
    let taken = take_more own i d (omega (arith, inside, same)) ∙ ap (λ xs. take i own ++ slice_index_or xs i d ∷ []) (sym are) in
    let x = slice_index_or items i d in
    let counted : n + length (take i own) ≡ number = omega (arith, long, is) in
    let more = ap (definitions_from place n) taken ∙ definitions_from-append place n (take i own) x
    ∙ ap (λ (k : ℕ). definitions_from place n (take i own) ++ definition place k x ∷ []) counted in
    is_after ∙ ap (λ xs. xs ++ definition place number x ∷ []) is_made
    ∙ append_assoc before (definitions_from place n (take i own)) (definition place number x ∷ [])
    ∙ ap (λ xs. before ++ xs) (sym more)

pub definitions_none : (place : ℕ → ℕ) (n : ℕ) (own : List Choice) → definitions_from place n (take 0 own) ≡ []
unfolding definitions_from
definitions_none place n own = refl

pub rounds-none : (place : ℕ → ℕ) (state : ℕ) → rounds place state 0 ≡ []
unfolding rounds
rounds-none place state = refl

pub rounds-more : (place : ℕ → ℕ) (state n : ℕ) → rounds place state (n + 1) ≡ rounds place state n ++ round place (10 * n) (draw state n 3)
unfolding rounds
rounds-more place state n =
    let f = λ (tenth : ℕ). round place (10 * tenth) (draw state tenth 3) in
    ap (flat_map f) (range_with_len-more n) ∙ flat_map-append f (range_with_len 0 n) (n ∷ [])

pub after-none : (state : ℕ) → after 0 state ≡ state
unfolding after
after-none state = refl

pub after-next : (state n : ℕ) → after (n + 1) state ≡ next (after n state)
unfolding after
after-next state n = rw add-one refl

-- the statements of one more round, after the first statement and the rounds before
pub rounds_more : (place : ℕ → ℕ) (state n function drawn_here : ℕ) (first : Statement) (made after_it : List Statement)
    → function ≡ place (10 * n) → drawn_here ≡ draw state n 3 → made ≡ first ∷ rounds place state n
    → after_it ≡ made ++ (call_to function 1 (unsigned (10 * n)) (unsigned drawn_here) ∷ Binary 0 Xor (Component 0) (Component 1) ∷ [])
    → after_it ≡ first ∷ rounds place state (n + 1)
rounds_more place state n function drawn_here first made after_it at is is_made is_after =
    is_after ∙ ap (λ xs. xs ++ (call_to function 1 (unsigned (10 * n)) (unsigned drawn_here) ∷ Binary 0 Xor (Component 0) (Component 1) ∷ [])) is_made
    ∙ ap (λ (f : ℕ). first ∷ (rounds place state n ++ (call_to f 1 (unsigned (10 * n)) (unsigned drawn_here) ∷ Binary 0 Xor (Component 0) (Component 1) ∷ []))) at
    ∙ ap (λ (d : ℕ). first ∷ (rounds place state n ++ round place (10 * n) d)) is
    ∙ ap (λ xs. first ∷ xs) (sym (rounds-more place state n))

-- the whole of `main`
pub main_whole : (place : ℕ → ℕ) (state count n : ℕ) (made whole : List Statement) → n ≡ div_ceil count 10
    → made ≡ Copy 0 (unsigned 0) ∷ rounds place state n → whole ≡ made ++ main_end → whole ≡ main_body place count state
unfolding main_body
main_whole place state count n made whole all is_made is_whole =
    is_whole ∙ ap (λ xs. xs ++ main_end) is_made ∙ ap (λ (k : ℕ). Copy 0 (unsigned 0) ∷ (rounds place state k ++ main_end)) all

-- ---- whole modules

-- all functions of a module, as they were appended
pub functions_whole : (choices given : List Choice) (state m number : ℕ) (numbers : List ℕ) (none made more whole : List Function)
    → given ≡ choices → number ≡ m → numbers ≡ declared_below (own_choices given number) number (length given) → none ≡ []
    → made ≡ none ++ map declaration numbers
    → more ≡ made ++ definitions_from (place_in given number) (50 * number) (own_choices given number)
    → whole ≡ more ++ main_in given state number → whole ≡ functions_of choices state m
unfolding functions_of
functions_whole choices given state m number numbers none made more whole are is listed empty is_made is_more is_whole =
    let front : made ≡ map declaration (declared_below (own_choices given number) number (length given)) =
    is_made ∙ ap (λ xs. xs ++ map declaration numbers) empty ∙ ap (map declaration) listed in
    let e : whole ≡ functions_of given state number =
    is_whole ∙ ap (λ xs. xs ++ main_in given state number) (is_more ∙ ap (λ xs. xs ++ definitions_from (place_in given number) (50 * number) (own_choices given number)) front)
    ∙ append_assoc (map declaration (declared_below (own_choices given number) number (length given))) (definitions_from (place_in given number) (50 * number) (own_choices given number)) (main_in given state number) in
    e ∙ ap (λ (xs : List Choice). functions_of xs state number) are ∙ ap (functions_of choices state) is

-- the first modules
abbrev pub first_modules : List Choice → ℕ → ℕ → List Module
first_modules choices state many = map (module_of choices state) (range_with_len 0 many)

pub first_modules_more : (choices : List Choice) (state n : ℕ) (one : Module) (made after_it : List Module)
    → one ≡ module_of choices state n → made ≡ first_modules choices state n → after_it ≡ made ++ one ∷ []
    → after_it ≡ first_modules choices state (n + 1)
first_modules_more choices state n one made after_it is is_made is_after =
    is_after ∙ ap (λ xs. xs ++ one ∷ []) is_made ∙ ap (λ (x : Module). first_modules choices state n ++ x ∷ []) is
    ∙ sym (map-range_with_len_more (module_of choices state) 0 n n (omega arith))

pub first_modules_all : (seed count many state : ℕ) (choices : List Choice) (made : List Module)
    → many ≡ max 1 (div_ceil count 50) → state ≡ start seed count count → choices ≡ choices_of seed count
    → made ≡ first_modules choices state many → made ≡ modules_of seed count
unfolding modules_of
first_modules_all seed count many state choices made all is are is_made =
    is_made ∙ ap (first_modules choices state) all ∙ ap (λ (s : ℕ). first_modules choices s (max 1 (div_ceil count 50))) is
    ∙ ap (λ (xs : List Choice). first_modules xs (start seed count count) (max 1 (div_ceil count 50))) are

pub length-choices_of : (seed count : ℕ) → length (choices_of seed count) ≡ count
unfolding choices_of
length-choices_of seed count = length-map-range_with_len _ 0 count

pub length-first_modules : (choices : List Choice) (state many : ℕ) → length (first_modules choices state many) ≡ many
length-first_modules choices state many = length-map-range_with_len (module_of choices state) 0 many
