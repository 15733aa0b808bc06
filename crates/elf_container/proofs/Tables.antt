-- Tables: items written one behind the other, and entries read one behind the other.
use Rattle.std.proofs.Common.{◌≡◌, ℕ, suc, ◌+◌, ◌-◌, ◌*◌, ◌<◌, ◌≤◌, List, [], ◌∷◌, ◌++◌, length, get_or, take, drop, refl, sym, ap, ◌∙◌, append_assoc, length-append, arith}
use Rattle.std.specs.List.{flat_map, AllByRecursion}
use Rattle.std.proofs.lemmas.List.{append-nil, take_all, take_more, drop_at, flat_map_more}
use Rattle.elf_container.specs.Entries.{entries}

-- ---- writing

pub put_more : {X : Type 0} (f : X → List ℕ) (first out new : List ℕ) (xs : List X) (i : ℕ) (x : X) → i < length xs → x ≡ get_or xs i x
    → out ≡ first ++ flat_map f (take i xs) → new ≡ out ++ f x → new ≡ first ++ flat_map f (take (i + 1) xs)
put_more f first out new xs i x lt is so_far e =
    let next : take (i + 1) xs ≡ take i xs ++ x ∷ [] = take_more xs i x lt ∙ ap (λ y. take i xs ++ y ∷ []) (sym is) in
    e ∙ ap (λ t. t ++ f x) so_far ∙ flat_map_more f first (take i xs) x ∙ ap (λ ys. first ++ flat_map f ys) (sym next)

pub put_done : {X : Type 0} (f : X → List ℕ) (first out : List ℕ) (xs : List X) (i : ℕ) → length xs ≤ i → out ≡ first ++ flat_map f (take i xs) → out ≡ first ++ flat_map f xs
put_done f first out xs i le so_far = so_far ∙ ap (λ ys. first ++ flat_map f ys) (take_all i xs le)

-- ---- reading

one_more : (size n : ℕ) → size * suc n ≡ size + size * n
one_more size n = grind arith

-- one more entry is there, and those after it
pub room : (size count i len : ℕ) → i < count → size * (count - i) ≤ len → (size ≤ len) × (size * (count - (i + 1)) ≤ len - size)
room size count i len lt within =
    let k : count - i ≡ suc (count - (i + 1)) = omega arith in
    let e : size * (count - i) ≡ size + size * (count - (i + 1)) = ap (λ n. size * n) k ∙ one_more size (count - (i + 1)) in
    (omega (arith, e, within), omega (arith, e, within))

pub entries_go : {A : Type 0} (size : ℕ) (read : List ℕ → A) (found : List A) (count i : ℕ) (rest : List ℕ) (all : List A) → i < count → found ++ entries size read (count - i) rest ≡ all
    → (found ++ read rest ∷ []) ++ entries size read (count - (i + 1)) (drop size rest) ≡ all
entries_go size read found count i rest all lt so_far =
    let k : count - i ≡ suc (count - (i + 1)) = omega arith in
    append_assoc found (read rest ∷ []) (entries size read (count - (i + 1)) (drop size rest)) ∙ sym (ap (λ n. found ++ entries size read n rest) k) ∙ so_far

pub entries_end : {A : Type 0} (size : ℕ) (read : List ℕ → A) (found : List A) (count i : ℕ) (rest : List ℕ) (all : List A) → count ≤ i → found ++ entries size read (count - i) rest ≡ all → found ≡ all
entries_end size read found count i rest all le so_far =
    let k : count - i ≡ 0 = omega arith in
    sym (append-nil found) ∙ sym (ap (λ n. found ++ entries size read n rest) k) ∙ so_far

-- entries that were written are read again, whatever follows
pub entries_again : {A : Type 0} (Good : A → Type 0) (size : ℕ) (read : List ℕ → A) (spell : A → List ℕ) → ((x : A) → length (spell x) ≡ size) → ((x : A) (rest : List ℕ) → Good x → read (spell x ++ rest) ≡ x)
    → (xs : List A) (rest : List ℕ) → AllByRecursion Good xs → entries size read (length xs) (flat_map spell xs ++ rest) ≡ xs
entries_again Good size read spell len again [] rest good = refl
entries_again Good size read spell len again (x ∷ xs) rest good =
    let text : flat_map spell (x ∷ xs) ++ rest ≡ spell x ++ (flat_map spell xs ++ rest) = append_assoc (spell x) (flat_map spell xs) rest in
    let first : read (flat_map spell (x ∷ xs) ++ rest) ≡ x = ap read text ∙ again x (flat_map spell xs ++ rest) good.0 in
    let behind : drop size (flat_map spell (x ∷ xs) ++ rest) ≡ flat_map spell xs ++ rest = ap (drop size) text ∙ drop_at (spell x) (flat_map spell xs ++ rest) size (len x) in
    let more : entries size read (length xs) (drop size (flat_map spell (x ∷ xs) ++ rest)) ≡ xs = ap (entries size read (length xs)) behind ∙ entries_again Good size read spell len again xs rest good.1 in
    rw (first, more) refl

pub flat_len : {A : Type 0} (size : ℕ) (spell : A → List ℕ) → ((x : A) → length (spell x) ≡ size) → (xs : List A) → length (flat_map spell xs) ≡ size * length xs
flat_len size spell len [] = grind arith
flat_len size spell len (x ∷ xs) =
    length-append (spell x) (flat_map spell xs) ∙ ap (λ n. n + length (flat_map spell xs)) (len x) ∙ ap (λ n. size + n) (flat_len size spell len xs) ∙ sym (one_more size (length xs))
