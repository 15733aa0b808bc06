-- What a list of files holds where one is changed, added or not there.
use Rattle.std.proofs.Common.{◌≡◌, ◌<◌, ◌≤◌, ℕ, List, [], ◌∷◌, ◌++◌, length, cond, Bool, position, slice_set, slice_index_or, string_bytes, Some, None, Option, unwrap_or, option_map, arith, refl, String, Vec}
use Rattle.std.proofs.lemmas.Slice.Eq.{bytes_eq-Decides}
use Rattle.std.proofs.lemmas.Grind.{common_steps}
use Rattle.std.specs.Str.{bytes_eq}
use Rattle.std.specs.List.{position_or_len}
use Rattle.std.specs.declared.alloc.Global.{Global}
use Rattle.outer_files.specs.Memory.{files_of, held_in, Empties}
use Rattle.outer_files.specs.Outside.{Contents, Writes, WritesPrefix}
use Rattle.std.proofs.lemmas.List.Sums.{passes_at_first}

abbrev pub Entry : Type 0
Entry = String Global × Vec ℕ Global

abbrev pub is_named : List ℕ → Entry → Bool
is_named name e = bytes_eq (string_bytes e.0) name

pub position_parts : (es : List Entry) (name : List ℕ) (i : ℕ) → Some i ≡ position (is_named name) es → (i ≡ position_or_len (is_named name) es) × (i < length es)
position_parts es name i e = grind arith

not_among : (es : List Entry) (name : List ℕ) → length es ≤ position_or_len (is_named name) es → held_in (files_of es) name ≡ None
not_among [] name h = refl
not_among (e ∷ es) name h = grind (arith, not_among es name)

-- no file of this name
pub not_held : (es : List Entry) (name : List ℕ) → None ≡ position (is_named name) es → held_in (files_of es) name ≡ None
not_held es name e = not_among es name (grind (arith, common_steps))

-- the first file of this name
pub held_at : (es : List Entry) (name : List ℕ) (d : Entry) → position_or_len (is_named name) es < length es → held_in (files_of es) name ≡ Some (slice_index_or es (position_or_len (is_named name) es) d).1.items
held_at [] name d h = absurd (omega arith)
held_at (e ∷ es) name d h = grind (arith, common_steps, held_at es name d)

pub held_after_set : (es : List Entry) (name other : List ℕ) (new : Entry) → string_bytes new.0 ≡ name → position_or_len (is_named name) es < length es
    → held_in (files_of (slice_set es (position_or_len (is_named name) es) new)) other ≡ cond (bytes_eq name other) (Some new.1.items) (held_in (files_of es) other)
held_after_set [] name other new named h = absurd (omega arith)
held_after_set (e ∷ es) name other new named h = grind (arith, common_steps, held_after_set es name other new named, bytes_eq-Decides)

pub held_after_push : (es : List Entry) (name other : List ℕ) (new : Entry) → string_bytes new.0 ≡ name → held_in (files_of es) name ≡ None
    → held_in (files_of (es ++ new ∷ [])) other ≡ cond (bytes_eq name other) (Some new.1.items) (held_in (files_of es) other)
held_after_push [] name other new named h = grind arith
held_after_push (e ∷ es) name other new named h = grind (arith, held_after_push es name other new named, bytes_eq-Decides)

pub writes_in_place : (es : List Entry) (name bytes : List ℕ) (i : ℕ) (was new : Entry) → Some i ≡ position (is_named name) es → was ≡ slice_index_or es i was
    → new.0 ≡ was.0 → new.1.items ≡ bytes → Writes name bytes (held_in (files_of es)) (held_in (files_of (slice_set es i new)))
writes_in_place es name bytes i was new found is_at same_name has =
    let parts : (i ≡ position_or_len (is_named name) es) × (i < length es) = position_parts es name i found in
    let named : string_bytes new.0 ≡ name = grind (arith, passes_at_first (is_named name) es was, bytes_eq-Decides) in
    let after = λ (other : List ℕ). held_after_set es name other new named (omega arith) in
    record {
      written = grind (arith, after name, bytes_eq-Decides name name);
      others = λ other different. grind (arith, after other, bytes_eq-Decides name other);
    }

pub writes_behind : (es : List Entry) (name bytes : List ℕ) (new : Entry) → None ≡ position (is_named name) es → string_bytes new.0 ≡ name → new.1.items ≡ bytes
    → Writes name bytes (held_in (files_of es)) (held_in (files_of (es ++ new ∷ [])))
writes_behind es name bytes new none named has =
    let after = λ (other : List ℕ). held_after_push es name other new named (not_held es name none) in
    record {
      written = grind (arith, after name, bytes_eq-Decides name name);
      others = λ other different. grind (arith, after other, bytes_eq-Decides name other);
    }

-- a file that is left with no bytes
pub empties_held : (name was : List ℕ) (old new : Contents) → old name ≡ Some was → Writes name [] old new → Empties name old new
empties_held name was old new held w = record { emptied = rw (held, w.written) refl; others = w.others }

-- a name that stays not held
pub empties_not_held : (name : List ℕ) (files : Contents) → files name ≡ None → Empties name files files
empties_not_held name files none = record { emptied = rw none refl; others = λ other different. refl }

no_bytes : (was : Option (List ℕ)) → unwrap_or {T = List ℕ} (option_map (λ bytes. []) was) [] ≡ []
no_bytes None = refl
no_bytes (Some bytes) = refl

-- both count as holding the empty prefix
pub empties_is_prefix : (name bytes : List ℕ) (old new : Contents) → Empties name old new → WritesPrefix name bytes old new
empties_is_prefix name bytes old new e = record { prefix = (0, rw e.emptied (no_bytes (old name))); others = e.others }
