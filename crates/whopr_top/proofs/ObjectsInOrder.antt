-- Objects that are read one after the other, up to the first that has a fault.
use Rattle.std.proofs.Common.{◌≡◌, ℕ, ◌+◌, ◌<◌, List, [], ◌∷◌, ◌++◌, Result, Ok, Err, refl, sym, ◌∙◌, ap, length, drop, get_or, Vec, false, ◌-◌, ◌≤◌, arith}
use Rattle.std.specs.declared.alloc.Global.{Global}
use Rattle.std.proofs.lemmas.List.{append_assoc, at_drop_more}
use Rattle.std.proofs.lemmas.List.Sums.{sum_by-cons}
use Rattle.std.proofs.lemmas.Bool.Decides.{nat_tests}
use Rattle.std.specs.Prelude.{Bool, nat_le, sum_by, All}
use Rattle.std.proofs.lemmas.List.Elements.{All-append}
use Rattle.gimple_ir.specs.declared.types.Module.{Module}
use Rattle.lto_object.specs.declared.fault.ObjectFault.{ObjectFault}
use Rattle.lto_object.specs.Objects.{ObjectData, IsObject}
use Rattle.lto_object.specs.ObjectReading.{read_of}
use Rattle.whopr_top.specs.Reads.{contents_of}
use Rattle.whopr_top.specs.Judgements.{data_of, object_before, objects_from}

abbrev pub Found : Type 0
Found = Result (List ObjectData) (ℕ × ObjectFault)

-- the objects that are read before those that are left
abbrev pub after_these : List ObjectData → Found → Found
after_these done (Ok more) = Ok (done ++ more)
after_these done (Err refused) = Err refused

-- an object is what is seen of its module
pub data_is : (o : ObjectData) → IsObject o → o ≡ data_of o.source
data_is o is = rw (← is.summaries, ← is.symbols, ← is.bodies) refl

next_of : (n : ℕ) (cs : List (Vec ℕ Global)) (c : Vec ℕ Global) → n < length cs → c ≡ get_or cs n c
    → objects_from n (contents_of (drop n cs)) ≡ object_before n (read_of c.items) (objects_from (n + 1) (contents_of (drop (n + 1) cs)))
next_of n cs c lt is = at_drop_more (λ rest. objects_from n (contents_of rest)) cs n c lt ∙ rw (← is) refl

one_more : (done : List ObjectData) (n : ℕ) (m : Module) (more : Found) → after_these done (object_before n (Ok m) more) ≡ after_these (done ++ data_of m ∷ []) more
one_more done n m (Ok more) = ap Ok (sym (append_assoc done (data_of m ∷ []) more))
one_more done n m (Err refused) = refl

pub object_read : (done : List ObjectData) (n : ℕ) (cs : List (Vec ℕ Global)) (c : Vec ℕ Global) (o : ObjectData) (whole : Found) → n < length cs → c ≡ get_or cs n c
    → IsObject o → read_of c.items ≡ Ok o.source → after_these done (objects_from n (contents_of (drop n cs))) ≡ whole
    → after_these (done ++ o ∷ []) (objects_from (n + 1) (contents_of (drop (n + 1) cs))) ≡ whole
object_read done n cs c o whole lt is object read h =
    let rest = objects_from (n + 1) (contents_of (drop (n + 1) cs)) in
    ap (λ d. after_these (done ++ d ∷ []) rest) (data_is o object)
    ∙ sym (one_more done n o.source rest)
    ∙ ap (λ r. after_these done (object_before n r rest)) (sym read)
    ∙ ap (after_these done) (sym (next_of n cs c lt is))
    ∙ h

pub object_refused : (done : List ObjectData) (n : ℕ) (cs : List (Vec ℕ Global)) (c : Vec ℕ Global) (fault : ObjectFault) (whole : Found) → n < length cs → c ≡ get_or cs n c
    → read_of c.items ≡ Err fault → after_these done (objects_from n (contents_of (drop n cs))) ≡ whole → whole ≡ Err (n, fault)
object_refused done n cs c fault whole lt is read h =
    sym h
    ∙ ap (after_these done) (next_of n cs c lt is)
    ∙ ap (λ r. after_these done (object_before n r (objects_from (n + 1) (contents_of (drop (n + 1) cs))))) read

-- ---- how large files are together

sum_next : (n : ℕ) (cs : List (Vec ℕ Global)) (c : Vec ℕ Global) → n < length cs → c ≡ get_or cs n c
    → sum_by length (contents_of (drop n cs)) ≡ length c.items + sum_by length (contents_of (drop (n + 1) cs))
sum_next n cs c lt is = at_drop_more (λ rest. sum_by length (contents_of rest)) cs n c lt ∙ rw (← is) (sum_by-cons length c.items (contents_of (drop (n + 1) cs)))

le_less : (size more left : ℕ) → size ≤ left → nat_le (size + more) left ≡ nat_le more (left - size)
le_less size more left fits = grind (arith, nat_tests, fits)

le_over : (size more left : ℕ) → left < size → nat_le (size + more) left ≡ false
le_over size more left over = grind (arith, nat_tests, over)

pub size_taken : (n left : ℕ) (cs : List (Vec ℕ Global)) (c : Vec ℕ Global) (whole : Bool) → n < length cs → c ≡ get_or cs n c → length c.items ≤ left
    → nat_le (sum_by length (contents_of (drop n cs))) left ≡ whole → nat_le (sum_by length (contents_of (drop (n + 1) cs))) (left - length c.items) ≡ whole
size_taken n left cs c whole lt is fits h =
    sym (le_less (length c.items) (sum_by length (contents_of (drop (n + 1) cs))) left fits) ∙ ap (λ s. nat_le s left) (sym (sum_next n cs c lt is)) ∙ h

pub size_over : (n left : ℕ) (cs : List (Vec ℕ Global)) (c : Vec ℕ Global) (whole : Bool) → n < length cs → c ≡ get_or cs n c → left < length c.items
    → nat_le (sum_by length (contents_of (drop n cs))) left ≡ whole → whole ≡ false
size_over n left cs c whole lt is over h =
    sym h ∙ ap (λ s. nat_le s left) (sum_next n cs c lt is) ∙ le_over (length c.items) (sum_by length (contents_of (drop (n + 1) cs))) left over

-- ---- one element more

all_of_one : {A : Type 0} (P : A → Type 0) (x : A) → P x → All P (x ∷ [])
all_of_one P x one = grind (arith, one)

pub all_push : {A : Type 0} (P : A → Type 0) (xs : List A) (x : A) → All P xs → P x → All P (xs ++ x ∷ [])
all_push P xs x all one = All-append P xs (x ∷ []) all (all_of_one P x one)
