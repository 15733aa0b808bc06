-- The definitions of a merged program: of each name the one that prevails, and all static ones, by object and then by place.
use Rattle.std.specs.Prelude.{ℕ, ◌+◌, List, [], ◌∷◌, ◌++◌, Option, Some, None, Bool, true, false, ◌||◌, codes, if◌then◌else◌}
use Rattle.std.specs.Str.{bytes_eq}
use Rattle.gimple_ir.specs.declared.types.Linkage.{Linkage}
use Rattle.gimple_ir.specs.declared.types.Linkage.TheVariants.{Extern, Strong, Weak, Static}
use Rattle.gimple_ir.specs.declared.types.Array.{Array}
use Rattle.gimple_ir.specs.declared.types.Function.{Function}
use Rattle.gimple_ir.specs.declared.types.Module.{Module}
use Rattle.lto_object.specs.Objects.{ObjectData}
use Rattle.resolution_text.specs.declared.resolution.Word.{Word}
use Rattle.resolution_text.specs.declared.resolution.Word.TheVariants.{PrevailingDef, PrevailingDefIronlyExp}
use Rattle.symbol_resolution.specs.declared.marks.Mark.{Mark}
use Rattle.symbol_resolution.specs.Marks.{prevailing_mark}
use Rattle.symbol_resolution.specs.NameFaults.{is_at}

-- a function that is kept, with the module that it stands in
pub record KeptFunction : Type 0 where
  pub object : ℕ
  pub place : ℕ
  pub exported : Bool
  pub source : Module
  pub function : Function

pub record KeptArray : Type 0 where
  pub object : ℕ
  pub place : ℕ
  pub exported : Bool
  pub item : Array

-- the word of a definition that others than the objects may name
abbrev pub is_exporting : Word → Bool
is_exporting PrevailingDef = true
is_exporting PrevailingDefIronlyExp = true
is_exporting _ = false

-- `main` is exported whatever its word
abbrev pub is_exported : List ℕ → Word → Bool
is_exported name word = is_exporting word || bytes_eq name (codes "main")

-- a definition that others can see is kept where it prevails
abbrev pub kept_if : Bool → ℕ → ℕ → List ℕ → Option Mark → Option Bool
kept_if function object place name None = None
kept_if function object place name (Some m) = if is_at function object place m then Some (is_exported name m.word) else None

-- whether the definition is exported, or None where it is not kept
abbrev pub kept_as : List (List ℕ × Mark) → Bool → ℕ → ℕ → Linkage → List ℕ → Option Bool
kept_as marks function object place Extern name = None
kept_as marks function object place Strong name = kept_if function object place name (prevailing_mark name marks)
kept_as marks function object place Weak name = kept_if function object place name (prevailing_mark name marks)
kept_as marks function object place Static name = Some false

abbrev pub with_kept : {A : Type 0} → Option Bool → (Bool → A) → List A → List A
with_kept None kept rest = rest
with_kept (Some exported) kept rest = kept exported ∷ rest

-- ---- functions

abbrev pub kept_function : ℕ → Module → ℕ → Function → Bool → KeptFunction
kept_function object source place f exported = record { object = object; place = place; exported = exported; source = source; function = f }

-- those of an object's functions, numbered from a place on
abbrev pub kept_functions_in : List (List ℕ × Mark) → ℕ → Module → ℕ → List Function → List KeptFunction
kept_functions_in marks object source place [] = []
kept_functions_in marks object source place (f ∷ fs) =
    with_kept (kept_as marks true object place f.linkage f.name) (kept_function object source place f) (kept_functions_in marks object source (place + 1) fs)

-- those of objects, numbered from an object on
abbrev pub kept_functions : List (List ℕ × Mark) → ℕ → List ObjectData → List KeptFunction
kept_functions marks object [] = []
kept_functions marks object (o ∷ os) = kept_functions_in marks object o.source 0 o.source.functions ++ kept_functions marks (object + 1) os

-- ---- arrays

abbrev pub kept_array : ℕ → ℕ → Array → Bool → KeptArray
kept_array object place a exported = record { object = object; place = place; exported = exported; item = a }

abbrev pub kept_arrays_in : List (List ℕ × Mark) → ℕ → ℕ → List Array → List KeptArray
kept_arrays_in marks object place [] = []
kept_arrays_in marks object place (a ∷ items) =
    with_kept (kept_as marks false object place a.linkage a.name) (kept_array object place a) (kept_arrays_in marks object (place + 1) items)

abbrev pub kept_arrays : List (List ℕ × Mark) → ℕ → List ObjectData → List KeptArray
kept_arrays marks object [] = []
kept_arrays marks object (o ∷ os) = kept_arrays_in marks object 0 o.source.arrays ++ kept_arrays marks (object + 1) os
