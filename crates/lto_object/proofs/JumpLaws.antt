-- Jump functions and sources: what is read is spelled so, and what is spelled so is read.
use Rattle.std.proofs.Common.{◌≡◌, ℕ, ◌+◌, ◌-◌, ◌<◌, Bool, true, false, cond, eqb, List, [], ◌∷◌, ◌++◌, Option, Some, None, Result, Ok, Err, refl, ap, ◌∙◌, length, arith}
use Rattle.std.proofs.lemmas.Bool.Decides.{nat_tests}
use Rattle.cursors.specs.Cursor.{Cursor, at}
use Rattle.cursors.specs.Leb128.{uleb_of}
use Rattle.cursors.proofs.Leb128Laws.{IsBytes}
use Rattle.gimple_ir.specs.declared.types.ScalarType.{ScalarType}
use Rattle.gimple_ir.specs.declared.summary.JumpFunction.{JumpFunction}
use Rattle.gimple_ir.specs.declared.summary.JumpFunction.TheVariants as jump
use Rattle.module_stream.specs.declared.bounds.BodyBounds.{BodyBounds}
use Rattle.module_stream.specs.Codes.{type_table, type_code, unary_table, unary_code, binary_table, binary_code}
use Rattle.module_stream.specs.Bodies.{component_count}
use Rattle.module_stream.specs.Readers.{Reader, ◌>>=◌, pick, coded, made}
use Rattle.module_stream.proofs.Exact.{Exact, IsTable, number_exact, coded_exact, both_exact, made_again, made_exact}
use Rattle.module_stream.proofs.Tagged.{TookForm, form_takes, bare_takes, tagged_exact}
use Rattle.module_stream.proofs.Tables.{type_rows, unary_rows, binary_rows}
use Rattle.module_stream.proofs.OperandLaws.{component_exact, typed_value_exact}
use Rattle.module_stream.proofs.Inside.{Inside, moved, stays_then, after_fits, number_inside, coded_inside, nothing_inside, made_inside, both_inside}
use Rattle.module_stream.proofs.FaultLaws.{component_inside, typed_value_inside}
use Rattle.lto_object.specs.declared.jump_codes.JumpKind.{JumpKind}
use Rattle.lto_object.specs.declared.jump_codes.JumpKind.TheVariants as kind
use Rattle.lto_object.specs.JumpCodes.{jump_table, jump_code, kind_of}
use Rattle.lto_object.specs.SummaryStream.{jump_fields_of, jump_bytes, source_number, FitsJump, FitsSource, jump_fields_at, jump_at, source_from, source_at}

-- ---- kinds

jump_found : (k : JumpKind) → pick (jump_code k) jump_table ≡ Some k
jump_found kind.Unknown = refl
jump_found kind.Const = refl
jump_found kind.Pass = refl
jump_found kind.Unary = refl
jump_found kind.Convert = refl
jump_found kind.Left = refl
jump_found kind.Right = refl

jump_rows : IsTable jump_code jump_table
jump_rows = record { rows = (refl, (refl, (refl, (refl, (refl, (refl, (refl, tt))))))); found = jump_found }

-- ---- what stands after a kind

abbrev scalar_type : Exact (λ x. type_code x ∷ []) (λ x. Unit {0}) (coded type_table)
scalar_type = coded_exact type_code type_table type_rows

abbrev unary_op : Exact (λ x. unary_code x ∷ []) (λ x. Unit {0}) (coded unary_table)
unary_op = coded_exact unary_code unary_table unary_rows

abbrev binary_op : Exact (λ x. binary_code x ∷ []) (λ x. Unit {0}) (coded binary_table)
binary_op = coded_exact binary_code binary_table binary_rows

form : {A : Type 0} {w : A → List ℕ} {F : A → Type 0} {r : Reader A} (b : BodyBounds) (k : JumpKind) (make : A → JumpFunction) → Exact w F r
    → ((x : A) → jump_fields_of (make x) ≡ w x) → ((x : A) → kind_of (make x) ≡ k) → ((x : A) → F x → FitsJump b (make x))
    → (c d : Cursor) (j : JumpFunction) → IsBytes c.rest → made make r c ≡ Ok (j, d) → TookForm kind_of jump_fields_of (FitsJump b) k c d j
form b k make law spells names fit = form_takes kind_of jump_fields_of (FitsJump b) k make law spells names fit

fields_take : (b : BodyBounds) (k : JumpKind) (c d : Cursor) (j : JumpFunction) → IsBytes c.rest → jump_fields_at b k c ≡ Ok (j, d) → TookForm kind_of jump_fields_of (FitsJump b) k c d j
unfolding jump_fields_at
fields_take b kind.Unknown = bare_takes kind_of jump_fields_of (FitsJump b) kind.Unknown jump.Unknown refl refl tt
fields_take b kind.Const = form b kind.Const (λ v. jump.Const v) typed_value_exact (λ x. refl) (λ x. refl) (λ x h. h)
fields_take b kind.Pass = form b kind.Pass (λ x. jump.Pass x) (component_exact b) (λ x. refl) (λ x. refl) (λ x h. h)
fields_take b kind.Unary = form b kind.Unary (λ x. jump.Unary x.0 x.1) (both_exact unary_op (component_exact b)) (λ x. refl) (λ x. refl) (λ x h. h.1)
fields_take b kind.Convert = form b kind.Convert (λ x. jump.Convert x.0 x.1) (both_exact scalar_type (component_exact b)) (λ x. refl) (λ x. refl) (λ x h. h.1)
fields_take b kind.Left = form b kind.Left (λ x. jump.Left x.0 x.1.0 x.1.1) (both_exact binary_op (both_exact (component_exact b) typed_value_exact)) (λ x. refl) (λ x. refl) (λ x h. h.1)
fields_take b kind.Right = form b kind.Right (λ x. jump.Right x.0 x.1.0 x.1.1) (both_exact binary_op (both_exact typed_value_exact (component_exact b))) (λ x. refl) (λ x. refl) (λ x h. h.1)

fields_again : (b : BodyBounds) (j : JumpFunction) (end : ℕ) (rest : List ℕ) → FitsJump b j → jump_fields_at b (kind_of j) (at end (jump_fields_of j ++ rest)) ≡ Ok (j, at end rest)
unfolding jump_fields_at
fields_again b jump.Unknown end rest h = refl
fields_again b (jump.Const v) end rest h = made_again typed_value_exact (λ v. jump.Const v) v end rest h
fields_again b (jump.Pass x) end rest h = made_again (component_exact b) (λ x. jump.Pass x) x end rest h
fields_again b (jump.Unary op x) end rest h = made_again (both_exact unary_op (component_exact b)) (λ x. jump.Unary x.0 x.1) (op, x) end rest (tt, h)
fields_again b (jump.Convert ty x) end rest h = made_again (both_exact scalar_type (component_exact b)) (λ x. jump.Convert x.0 x.1) (ty, x) end rest (tt, h)
fields_again b (jump.Left op x v) end rest h = made_again (both_exact binary_op (both_exact (component_exact b) typed_value_exact)) (λ x. jump.Left x.0 x.1.0 x.1.1) (op, (x, v)) end rest (tt, h)
fields_again b (jump.Right op v x) end rest h = made_again (both_exact binary_op (both_exact typed_value_exact (component_exact b))) (λ x. jump.Right x.0 x.1.0 x.1.1) (op, (v, x)) end rest (tt, h)

pub jump_exact : (b : BodyBounds) → Exact jump_bytes (FitsJump b) (jump_at b)
unfolding jump_at
jump_exact b = tagged_exact jump_code jump_table kind_of jump_fields_of (FitsJump b) (jump_fields_at b) jump_rows (fields_take b) (fields_again b)

-- ---- sources

number_back : (t : Bool) (n : ℕ) → eqb n 0 ≡ t → source_number (cond t None (Some (n - 1))) ≡ n
number_back true n e = grind (arith, nat_tests)
number_back false n e = grind (arith, nat_tests)

-- the numbers of sources, where there are so many components
not_zero : (n : ℕ) → eqb n 0 ≡ false → 0 < n
not_zero n e = grind (arith, nat_tests)

one_less : (count n : ℕ) → 0 < n → n < count + 1 → n - 1 < count
one_less count n some lt = omega arith

zero_below : (count : ℕ) → 0 < count + 1
zero_below count = omega arith

one_more : (count n : ℕ) → n < count → n + 1 < count + 1
one_more count n lt = omega arith

source_fits : (b : BodyBounds) (t : Bool) (n : ℕ) → eqb n 0 ≡ t → n < component_count b + 1 → FitsSource b (cond t None (Some (n - 1)))
source_fits b true n e lt = tt
source_fits b false n e lt = one_less (component_count b) n (not_zero n e) lt

number_fits : (b : BodyBounds) (s : Option ℕ) → FitsSource b s → source_number s < component_count b + 1
number_fits b None h = zero_below (component_count b)
number_fits b (Some x) h = one_more (component_count b) x h

some_number : (x : ℕ) (t : Bool) → eqb (x + 1) 0 ≡ t → cond t None (Some (x + 1 - 1)) ≡ Some x
some_number x true e = absurd (grind (arith, nat_tests))
some_number x false e = let same : x + 1 - 1 ≡ x = omega arith in ap (λ n. Some n) same

source_back : (s : Option ℕ) → source_from (source_number s) ≡ s
source_back None = refl
source_back (Some x) = some_number x (eqb (x + 1) 0) refl

pub source_exact : (b : BodyBounds) → Exact (λ s. uleb_of (source_number s)) (FitsSource b) (source_at b)
unfolding source_at
source_exact b = made_exact source_from (λ s. uleb_of (source_number s)) (FitsSource b) source_number (number_exact (component_count b + 1) (omega arith))
    (record {
      spelled = λ n h. ap uleb_of (number_back (eqb n 0) n refl);
      fits = λ n h. source_fits b (eqb n 0) n refl h;
      parts = λ s h. number_fits b s h;
      back = λ s h. source_back s;
    })

-- ---- faults lie within the bytes

fields_inside : (b : BodyBounds) (k : JumpKind) → Inside (jump_fields_at b k)
unfolding jump_fields_at
fields_inside b kind.Unknown = nothing_inside jump.Unknown
fields_inside b kind.Const = made_inside (λ v. jump.Const v) typed_value_inside
fields_inside b kind.Pass = made_inside (λ x. jump.Pass x) (component_inside b)
fields_inside b kind.Unary = made_inside (λ x. jump.Unary x.0 x.1) (both_inside (coded_inside unary_table) (component_inside b))
fields_inside b kind.Convert = made_inside (λ x. jump.Convert x.0 x.1) (both_inside (coded_inside type_table) (component_inside b))
fields_inside b kind.Left = made_inside (λ x. jump.Left x.0 x.1.0 x.1.1) (both_inside (coded_inside binary_table) (both_inside (component_inside b) typed_value_inside))
fields_inside b kind.Right = made_inside (λ x. jump.Right x.0 x.1.0 x.1.1) (both_inside (coded_inside binary_table) (both_inside typed_value_inside (component_inside b)))

pub jump_inside : (b : BodyBounds) → Inside (jump_at b)
unfolding jump_at
jump_inside b = record {
  stays = λ c le. stays_then c (coded jump_table c) (λ k. jump_fields_at b k.0 k.1) ((coded_inside jump_table).stays c le)
      (λ k p. moved c k.1 (jump_fields_at b k.0 k.1) p ((fields_inside b k.0).stays k.1 (after_fits c k.1 le p)));
}

pub source_inside : (b : BodyBounds) → Inside (source_at b)
unfolding source_at
source_inside b = made_inside source_from (number_inside (component_count b + 1))
