use Rattle.std.proofs.Common.{ℕ, List, sym, subst, ap, ap₂, ◌∙◌, arith}
use Rattle.std.specs.List.{AllByRecursion}
use Rattle.std.proofs.lemmas.List.Elements.{recursion_from_All}
use Rattle.gimple_ir.specs.declared.plan.Version.{Version}
use Rattle.final_link.specs.declared.members.Member.{Member}
use Rattle.final_link.specs.Members.{members_from, member_words, Fits, HasFrame, largest_frame}
use Rattle.final_link.specs.Arrays.{size_of, stored_arrays, zeroed_arrays}
use Rattle.final_link.specs.Symbols.{end_of, code_end}
use Rattle.final_link.proofs.MemberLaws.{objects_fit}
use Rattle.final_link.proofs.FrameLaws.{largest_small}
use Rattle.final_link.proofs.ArrayLaws.{kept_small}
use Rattle.final_link.proofs.PlacingLaws.{on_value, placed-is}
use Rattle.final_link.proofs.placing.place.Goals as goal

pub code_end-requires : goal.code_end-requires
code_end-requires c = omega (arith, c.requires.text, ap₂ (λ (m : List (List ℕ × Member)) (v : List Version). code_end m v) c.in_ok-members.ensures c.as_slice-versions.ensures)

pub array_symbols-requires-clause-text : goal.array_symbols-requires-clause-text
array_symbols-requires-clause-text c =
    omega (arith, c.code_end.ensures, c.requires.text, ap₂ (λ (m : List (List ℕ × Member)) (v : List Version). code_end m v) c.in_ok-members.ensures c.as_slice-versions.ensures)

pub array_symbols-requires-clause-size : goal.array_symbols-requires-clause-size
array_symbols-requires-clause-size c =
    let merged = c.args.merged.now in
    omega (
      arith,
      c.requires.size,
      kept_small merged c.args.plan.now.arrays c.requires.ascending c.requires.arrays,
      ap (λ (k : List ℕ). end_of (size_of merged) 0 (stored_arrays merged k)) c.as_slice-kept.ensures,
      ap (λ (k : List ℕ). end_of (size_of merged) 0 (zeroed_arrays merged k)) c.as_slice-kept.ensures,
    )

pub symbols_of-requires : goal.symbols_of-requires
symbols_of-requires c = omega (arith, c.requires.text, ap₂ (λ (m : List (List ℕ × Member)) (v : List Version). code_end m v) c.in_ok-members.ensures c.as_slice-versions.ensures)

pub largest_frame-frame-requires : goal.largest_frame-frame-requires
largest_frame-frame-requires c = subst (λ (m : List (List ℕ × Member)). AllByRecursion (λ e. Fits c.args.parts.now e.1) m) (sym c.in_ok-members.ensures) (objects_fit c.args.parts.now c.requires.objects)

pub overflow_cast-frame : goal.overflow_cast-frame
overflow_cast-frame c =
    let parts = c.args.parts.now in
    omega (
      arith,
      c.largest_frame-frame.ensures,
      ap₂ (λ (m : List (List ℕ × Member)) (v : List Version). largest_frame parts m v) c.in_ok-members.ensures c.as_slice-versions.ensures,
      largest_small parts (members_from 0 parts) c.args.plan.now.versions (recursion_from_All (λ (e : List ℕ × Member). HasFrame (member_words parts e.1)) (members_from 0 parts) c.requires.frames),
    )

pub code_of-requires-clause-objects : goal.code_of-requires-clause-objects
code_of-requires-clause-objects c = c.requires.objects

pub code_of-requires-clause-fits : goal.code_of-requires-clause-fits
code_of-requires-clause-fits c = subst (λ (m : List (List ℕ × Member)). AllByRecursion (λ e. Fits c.args.parts.now e.1) m) (sym c.in_ok-members.ensures) (objects_fit c.args.parts.now c.requires.objects)

pub code_of-requires-clause-text : goal.code_of-requires-clause-text
code_of-requires-clause-text c = omega (arith, c.requires.text, ap₂ (λ (m : List (List ℕ × Member)) (v : List Version). code_end m v) c.in_ok-members.ensures c.as_slice-versions.ensures)

pub stored_bytes-requires : goal.stored_bytes-requires
stored_bytes-requires c = c.requires.defined

pub zeroed_size-requires : goal.zeroed_size-requires
zeroed_size-requires c =
    let merged = c.args.merged.now in
    omega (
      arith,
      c.requires.size,
      kept_small merged c.args.plan.now.arrays c.requires.ascending c.requires.arrays,
      ap (λ (k : List ℕ). end_of (size_of merged) 0 (zeroed_arrays merged k)) c.as_slice-kept.ensures,
    )

pub make_image-requires-clause-code : goal.make_image-requires-clause-code
make_image-requires-clause-code c =
    omega (
      arith,
      c.requires.text,
      c.as_slice-2.ensures.len,
      c.in_ok-code.ensures.len,
      ap₂ (λ (m : List (List ℕ × Member)) (v : List Version). code_end m v) c.in_ok-members.ensures c.as_slice-versions.ensures,
    )

pub make_image-requires-clause-frame : goal.make_image-requires-clause-frame
make_image-requires-clause-frame c =
    let parts = c.args.parts.now in
    omega (
      arith,
      c.largest_frame-frame.ensures,
      ap₂ (λ (m : List (List ℕ × Member)) (v : List Version). largest_frame parts m v) c.in_ok-members.ensures c.as_slice-versions.ensures,
      largest_small parts (members_from 0 parts) c.args.plan.now.versions (recursion_from_All (λ (e : List ℕ × Member). HasFrame (member_words parts e.1)) (members_from 0 parts) c.requires.frames),
    )

pub make_image-requires-clause-arrays : goal.make_image-requires-clause-arrays
make_image-requires-clause-arrays c =
    let merged = c.args.merged.now in
    omega (
      arith,
      c.requires.size,
      c.as_slice-3.ensures.len,
      c.in_ok-stored.ensures.len,
      c.in_ok-zeroed.ensures,
      kept_small merged c.args.plan.now.arrays c.requires.ascending c.requires.arrays,
      ap (λ (k : List ℕ). end_of (size_of merged) 0 (stored_arrays merged k)) c.as_slice-kept.ensures,
      ap (λ (k : List ℕ). end_of (size_of merged) 0 (zeroed_arrays merged k)) c.as_slice-kept.ensures,
    )

pub returns : goal.returns
returns c =
    let same = placed-is c.args.plan.now c.args.merged.now c.args.parts.now c.in_ok-members.members c.as_slice-versions.result.now c.as_slice-kept.result.now c.code_end.result
    c.as_slice.result.now c.in_ok-symbols.symbols c.as_slice-2.result.now c.as_slice-3.result.now c.in_ok-zeroed.zeroed c.main_address-main.result c.largest_frame-frame.result
    c.in_ok-members.ensures c.as_slice-versions.ensures c.as_slice-kept.ensures c.code_end.ensures (c.as_slice.ensures.value ∙ c.in_ok-arrays.ensures) c.in_ok-symbols.ensures
    (c.as_slice-2.ensures.value ∙ c.in_ok-code.ensures.bytes) (c.as_slice-3.ensures.value ∙ c.in_ok-stored.ensures.bytes) c.in_ok-zeroed.ensures c.main_address-main.ensures c.largest_frame-frame.ensures in
    on_value c.make_image.result _ _ (λ x e. e ∙ same) c.make_image.ensures
