-- Files that are read one after the other, up to the first that can't be.
use Rattle.std.proofs.Common.{◌≡◌, ℕ, suc, ◌<◌, ◌≤◌, List, [], ◌∷◌, ◌++◌, Option, Some, None, sym, ◌∙◌, ap, inl, inr, refl, arith, ◌+◌, length, take, drop, get_or, subst}
use Rattle.std.specs.Prelude.{IfSome}
use Rattle.std.proofs.lemmas.List.{take_more, take-append-drop}
use Rattle.std.proofs.Math.Seq.{drop-cons}
use Rattle.outer_files.specs.Outside.{Contents, IsLonger, Rose}
use Rattle.whopr_top.specs.declared.reads.ReadsFault.{ReadsFault}
use Rattle.whopr_top.specs.declared.reads.ReadsFault.TheVariants as reads
use Rattle.whopr_top.specs.ReadFaults.{IsReadsFault, IsFailureAt}
use Rattle.whopr_top.specs.Reads.{AreHeld, IsWithin, IsOverLimit, IsAbsent, IsReached}

pub within_of : (limit : ℕ) (file : Option (List ℕ)) (bytes : List ℕ) → file ≡ Some bytes → length bytes ≤ limit → IsWithin limit file
within_of limit file bytes is within = subst (IsWithin limit) (sym is) within

-- ---- by what is held

pub held_more : (limit : ℕ) (held : Contents) (names cs : List (List ℕ)) (name bytes : List ℕ) → AreHeld limit held names cs → held name ≡ Some bytes → length bytes ≤ limit
    → AreHeld limit held (names ++ name ∷ []) (cs ++ bytes ∷ [])
held_more limit held [] [] name bytes read is within = (is, within, tt)
held_more limit held [] (c ∷ cs) name bytes read is within = absurd read
held_more limit held (n ∷ names) [] name bytes read is within = absurd read
held_more limit held (n ∷ names) (c ∷ cs) name bytes read is within = (read.0, read.1, held_more limit held names cs name bytes read.2 is within)

pub reached_at : (limit : ℕ) (held : Contents) (before cs : List (List ℕ)) (name : List ℕ) (rest : List (List ℕ)) → AreHeld limit held before cs → IsReached limit held (before ++ name ∷ rest) name
reached_at limit held [] [] name rest read = inl refl
reached_at limit held [] (c ∷ cs) name rest read = absurd read
reached_at limit held (n ∷ before) [] name rest read = absurd read
reached_at limit held (n ∷ before) (c ∷ cs) name rest read = inr (within_of limit (held n) c read.0 read.1, reached_at limit held before cs name rest read.2)

pub over_at : (limit : ℕ) (held : Contents) (before cs : List (List ℕ)) (name : List ℕ) (rest : List (List ℕ)) → AreHeld limit held before cs → IsLonger limit (held name)
    → IsOverLimit limit held (before ++ name ∷ rest)
over_at limit held [] [] name rest read long = inl long
over_at limit held [] (c ∷ cs) name rest read long = absurd read
over_at limit held (n ∷ before) [] name rest read long = absurd read
over_at limit held (n ∷ before) (c ∷ cs) name rest read long = inr (within_of limit (held n) c read.0 read.1, over_at limit held before cs name rest read.2 long)

-- ---- by what is told

pub told_more : (limit : ℕ) (old between : Option Contents) (names cs : List (List ℕ)) (name bytes : List ℕ) → between ≡ old → IfSome old (λ held. AreHeld limit held names cs)
    → IfSome between (λ held. held name ≡ Some bytes) → length bytes ≤ limit → IfSome old (λ held. AreHeld limit held (names ++ name ∷ []) (cs ++ bytes ∷ []))
told_more limit None between names cs name bytes same read is within = tt
told_more limit (Some held) between names cs name bytes same read is within =
    held_more limit held names cs name bytes read (subst (λ (o : Option Contents). IfSome o (λ held. held name ≡ Some bytes)) same is) within

pub told_reached : (limit : ℕ) (old : Option Contents) (before cs : List (List ℕ)) (name called : List ℕ) (rest all : List (List ℕ)) → called ≡ name → all ≡ before ++ name ∷ rest
    → IfSome old (λ held. AreHeld limit held before cs) → IfSome old (λ held. IsReached limit held all called)
told_reached limit None before cs name called rest all is split read = tt
told_reached limit (Some held) before cs name called rest all is split read =
    subst (λ (n : List ℕ). IsReached limit held all n) (sym is)
    (subst (λ (names : List (List ℕ)). IsReached limit held names name) (sym split) (reached_at limit held before cs name rest read))

pub told_over : (limit : ℕ) (old between : Option Contents) (before cs : List (List ℕ)) (name : List ℕ) (rest all : List (List ℕ)) → between ≡ old → all ≡ before ++ name ∷ rest
    → IfSome old (λ held. AreHeld limit held before cs) → IfSome between (λ held. IsLonger limit (held name)) → IfSome old (λ held. IsOverLimit limit held all)
told_over limit None between before cs name rest all same split read long = tt
told_over limit (Some held) between before cs name rest all same split read long =
    subst (λ (names : List (List ℕ)). IsOverLimit limit held names) (sym split)
    (over_at limit held before cs name rest read (subst (λ (o : Option Contents). IfSome o (λ held. IsLonger limit (held name))) same long))

-- ---- the names up to the next one, and with those behind it

pub names_more : {A : Type 0} (xs : List A) (i : ℕ) (x : A) → i < length xs → x ≡ get_or xs i x → take (i + 1) xs ≡ take i xs ++ x ∷ []
names_more xs i x lt is = take_more xs i x lt ∙ ap (λ y. take i xs ++ y ∷ []) (sym is)

pub names_split : {A : Type 0} (xs : List A) (i : ℕ) (x : A) → i < length xs → x ≡ get_or xs i x → xs ≡ take i xs ++ x ∷ drop (suc i) xs
names_split xs i x lt is =
    sym (take-append-drop i xs) ∙ ap (λ t. take i xs ++ t) (drop-cons xs i x lt ∙ ap (λ h. h ∷ drop (suc i) xs) (sym is))

-- ---- a file that could not be read

pub failure_is : (limit : ℕ) (names : List (List ℕ)) (held : Option Contents) (before now : ℕ) (name : List ℕ) (fault : ReadsFault) → IsFailureAt name fault → Rose before now
    → IfSome held (λ files. IsReached limit files names name) → IsReadsFault limit names held before now fault
failure_is limit names held before now name (reads.Failed called) is rose reached =
    (rose, subst (λ (n : List ℕ). IfSome held (λ files. IsReached limit files names n)) (sym is) reached)
failure_is limit names held before now name reads.TooLong is rose reached = absurd is
failure_is limit names held before now name reads.NoMemory is rose reached = tt

-- ---- what can't be read is not absent, and the other way round

within_not_long : (limit : ℕ) (file : Option (List ℕ)) → IsWithin limit file → IsLonger limit file → ⊥
within_not_long limit None within long = absurd within
within_not_long limit (Some bytes) within long = grind (arith, within, long.1, long.2)

pub over_not_absent : (limit : ℕ) (held : Contents) (names : List (List ℕ)) → IsOverLimit limit held names → IsAbsent limit held names → ⊥
over_not_absent limit held [] over absent = absurd over
over_not_absent limit held (name ∷ names) (inl long) (inl none) = grind (arith, long.1, none)
over_not_absent limit held (name ∷ names) (inl long) (inr more) = within_not_long limit (held name) more.0 long
over_not_absent limit held (name ∷ names) (inr more) (inl none) = absurd (subst (IsWithin limit) none more.0)
over_not_absent limit held (name ∷ names) (inr more) (inr less) = over_not_absent limit held names more.1 less.1

pub held_not_absent : (limit : ℕ) (held : Contents) (names cs : List (List ℕ)) → AreHeld limit held names cs → IsAbsent limit held names → ⊥
held_not_absent limit held [] [] read absent = absurd absent
held_not_absent limit held [] (c ∷ cs) read absent = absurd read
held_not_absent limit held (name ∷ names) [] read absent = absurd read
held_not_absent limit held (name ∷ names) (c ∷ cs) read (inl none) = grind (arith, read.0, none)
held_not_absent limit held (name ∷ names) (c ∷ cs) read (inr more) = held_not_absent limit held names cs read.2 more.1
