-- The image of a plan, put together from its parts.
use Rattle.std.proofs.Common.{◌≡◌, ℕ, List, ◌++◌, refl, ap, ◌∙◌}
use Rattle.std.specs.Prelude.{Result, Ok, Err, IfOk}
use Rattle.std.specs.List.{flat_map}
use Rattle.elf_container.specs.declared.relocatable.RelocObject.{RelocObject}
use Rattle.gimple_ir.specs.declared.merged.Merged.{Merged}
use Rattle.gimple_ir.specs.declared.plan.Plan.{Plan}
use Rattle.gimple_ir.specs.declared.plan.Version.{Version}
use Rattle.final_link.specs.Stubs.{functions_address}
use Rattle.final_link.specs.Image.{word, image_with}
use Rattle.final_link.specs.declared.members.Member.{Member}
use Rattle.final_link.specs.Members.{members_from, largest_frame}
use Rattle.final_link.specs.Arrays.{size_of, bytes_of, stored_arrays, zeroed_arrays}
use Rattle.final_link.specs.Symbols.{end_of, code_end, stub_symbols, version_symbols, array_symbols, symbols_of}
use Rattle.final_link.specs.Placing.{code_from, main_address, placed_image}

pub on_value : {T E : Type 0} (r : Result T E) (P Q : T → Type 0) → ((x : T) → P x → Q x) → IfOk r P → IfOk r Q
on_value (Ok x) P Q f p = f x p
on_value (Err e) P Q f p = p

abbrev all_symbols : List (List ℕ × Member) → List Version → Merged → List ℕ → List (List ℕ × ℕ)
all_symbols members versions merged kept = stub_symbols ++ (version_symbols members versions ++ array_symbols merged kept (code_end members versions))

abbrev image_by : Merged → List RelocObject → List (List ℕ × Member) → List Version → List ℕ → List ℕ
image_by merged parts members versions kept =
    image_with (main_address (all_symbols members versions merged kept) merged.main versions) (largest_frame parts members versions)
    (flat_map word (code_from parts members (all_symbols members versions merged kept) functions_address versions))
    (flat_map (bytes_of merged) (stored_arrays merged kept)) (end_of (size_of merged) 0 (zeroed_arrays merged kept))

unfolded : (plan : Plan) (merged : Merged) (parts : List RelocObject) → image_by merged parts (members_from 0 parts) plan.versions plan.arrays ≡ placed_image plan merged parts
unfolding placed_image symbols_of
unfolded plan merged parts = refl

pub placed-is : (plan : Plan) (merged : Merged) (parts : List RelocObject) (members : List (List ℕ × Member)) (versions : List Version) (kept : List ℕ) (text_end : ℕ)
    (arrays symbols : List (List ℕ × ℕ)) (code stored : List ℕ) (zeroed main frame : ℕ)
    → members ≡ members_from 0 parts → versions ≡ plan.versions → kept ≡ plan.arrays → text_end ≡ code_end members versions
    → arrays ≡ array_symbols merged kept text_end → symbols ≡ stub_symbols ++ (version_symbols members versions ++ arrays)
    → code ≡ flat_map word (code_from parts members symbols functions_address versions) → stored ≡ flat_map (bytes_of merged) (stored_arrays merged kept)
    → zeroed ≡ end_of (size_of merged) 0 (zeroed_arrays merged kept) → main ≡ main_address symbols merged.main versions → frame ≡ largest_frame parts members versions
    → image_with main frame code stored zeroed ≡ placed_image plan merged parts
placed-is plan merged parts members versions kept text_end arrays symbols code stored zeroed main frame em ev ek et ea es ec est ez emain ef =
    let s = all_symbols members versions merged kept in
    let whole : symbols ≡ s = es ∙ ap (λ (a : List (List ℕ × ℕ)). stub_symbols ++ (version_symbols members versions ++ a)) (ea ∙ ap (array_symbols merged kept) et) in
    let main' = main_address s merged.main versions in
    let frame' = largest_frame parts members versions in
    let code' = flat_map word (code_from parts members s functions_address versions) in
    let stored' = flat_map (bytes_of merged) (stored_arrays merged kept) in
    ap (λ (x : ℕ). image_with x frame code stored zeroed) (emain ∙ ap (λ (x : List (List ℕ × ℕ)). main_address x merged.main versions) whole)
    ∙ ap (λ (x : ℕ). image_with main' x code stored zeroed) ef
    ∙ ap (λ (x : List ℕ). image_with main' frame' x stored zeroed) (ec ∙ ap (λ (x : List (List ℕ × ℕ)). flat_map word (code_from parts members x functions_address versions)) whole)
    ∙ ap (λ (x : List ℕ). image_with main' frame' code' x zeroed) est
    ∙ ap (λ (x : ℕ). image_with main' frame' code' stored' x) ez
    ∙ ap (λ (m : List (List ℕ × Member)). image_by merged parts m versions kept) em
    ∙ ap (λ (v : List Version). image_by merged parts (members_from 0 parts) v kept) ev
    ∙ ap (λ (k : List ℕ). image_by merged parts (members_from 0 parts) plan.versions k) ek
    ∙ unfolded plan merged parts
