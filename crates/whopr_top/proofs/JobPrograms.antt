-- The program of a job by the bytes of its files, from what its steps answer.
use Rattle.std.proofs.Common.{◌≡◌, ◌≢◌, ℕ, List, [], ◌∷◌, Option, Some, None, Result, Ok, Err, true, false, refl, sym, ◌∙◌, ap, inl, inr, arith, length, take, get_or, subst, zero, suc, Vec}
use Rattle.std.specs.Prelude.{All, ◌^◌, nat_le, sum_by, slice_get}
use Rattle.std.specs.declared.alloc.Global.{Global}
use Rattle.std.proofs.lemmas.List.Elements.{All-weaker}
use Rattle.gimple_ir.specs.declared.types.Array.{Array}
use Rattle.gimple_ir.specs.declared.types.Function.{Function}
use Rattle.gimple_ir.specs.declared.types.Program.{Program}
use Rattle.gimple_ir.specs.declared.merged.Merged.{Merged}
use Rattle.gimple_ir.specs.Programs.{IsProgram, IsProgramArray, IsProgramFunction}
use Rattle.gimple_meaning.specs.Held.{HasInitial, HasLiterals}
use Rattle.lto_object.specs.declared.fault.ObjectFault.{ObjectFault}
use Rattle.lto_object.specs.Objects.{ObjectData, IsObject}
use Rattle.resolution_text.specs.Answers.{Answers as Resolves}
use Rattle.resolution_text.specs.declared.fault.ResolutionError.{ResolutionError}
use Rattle.resolution_text.specs.declared.fault.ResolutionError.TheVariants as errors
use Rattle.resolution_text.specs.declared.resolution.Resolution.{Resolution}
use Rattle.symbol_resolution.specs.Merging.{merged_of, program_of, AreFew}
use Rattle.symbol_resolution.specs.Laws.{MergedLaw}
use Rattle.program_link.specs.declared.fault.LimitFault.{LimitFault}
use Rattle.program_link.specs.Linking.{limits_of, first_passed}
use Rattle.whopr_words.specs.declared.job_file.Job.{Job}
use Rattle.whopr_top.specs.declared.refusal.Refusal.{Refusal}
use Rattle.whopr_top.specs.declared.refusal.Refusal.TheVariants.{Object, TooMuch, Limit}
use Rattle.whopr_top.specs.Reads.{contents_of}
use Rattle.whopr_top.specs.Lines.{jobs_line}
use Rattle.whopr_top.specs.Judgements.{Refuses, only_of, objects_from, program_within, program_merged, program_under, program_by, job_program}
use Rattle.whopr_top.specs.Interpreting.{of_resolution, Answers}

-- ---- the only job

pub not_one : (jobs : List Job) → length jobs ≢ 1 → only_of jobs ≡ Err (Refuses 10 (jobs_line 1))
not_one [] other = refl
not_one (job ∷ []) other = absurd (other refl)
not_one (job ∷ next ∷ more) other = refl

pub the_one : (jobs : List Job) (job : Job) → length jobs ≡ 1 → slice_get jobs 0 ≡ Some job → only_of jobs ≡ Ok job
the_one [] job one here = absurd (grind (arith, one))
the_one (first ∷ []) job one here = grind (arith, here)
the_one (first ∷ next ∷ more) job one here = absurd (grind (arith, one))

-- ---- the program of objects

-- the resolution has a fault
pub not_resolved : (names : List (List ℕ)) (objects : List ObjectData) (defined : Result Resolution ResolutionError) (fault : ResolutionError) (refusal : Refusal) → refusal ≡ of_resolution fault
    → Resolves (Err fault) defined → Answers {A = Program} (Err refusal) (program_under names objects defined)
not_resolved names objects defined (errors.AtLine kind number) refusal same (inl is) = rw (same, is) refl
not_resolved names objects defined (errors.AtLine kind number) refusal same (inr wrong) = absurd (grind (arith, wrong))
not_resolved names objects defined (errors.AtName kind name) refusal same (inl is) = rw (same, is) refl
not_resolved names objects defined (errors.AtName kind name) refusal same (inr wrong) = absurd (grind (arith, wrong))
not_resolved names objects defined errors.NoMemory refusal same is = rw same tt

merging : (objects : List ObjectData) (merges : Result Merged ResolutionError) (fault : ResolutionError) (refusal : Refusal) → refusal ≡ of_resolution fault
    → Resolves (Err fault) merges → Answers {A = Program} (Err refusal) (program_merged objects merges)
merging objects merges (errors.AtLine kind number) refusal same (inl is) = rw (same, is) refl
merging objects merges (errors.AtLine kind number) refusal same (inr wrong) = absurd (grind (arith, wrong))
merging objects merges (errors.AtName kind name) refusal same (inl is) = rw (same, is) refl
merging objects merges (errors.AtName kind name) refusal same (inr wrong) = absurd (grind (arith, wrong))
merging objects merges errors.NoMemory refusal same is = rw same tt

-- the objects do not merge under it
pub not_merged : (names : List (List ℕ)) (objects : List ObjectData) (defined : Result Resolution ResolutionError) (resolution : Resolution) (fault : ResolutionError) (refusal : Refusal)
    → refusal ≡ of_resolution fault → defined ≡ Ok resolution → Resolves (Err fault) (merged_of objects names resolution)
    → Answers {A = Program} (Err refusal) (program_under names objects defined)
not_merged names objects defined resolution fault refusal same is merges =
    subst (λ (r : Result Resolution ResolutionError). Answers {A = Program} (Err refusal) (program_under names objects r)) (sym is)
    (merging objects (merged_of objects names resolution) fault refusal same merges)

program_is : (names : List (List ℕ)) (objects : List ObjectData) (defined : Result Resolution ResolutionError) (resolution : Resolution) (merged : Merged) (limit : Option LimitFault)
    → defined ≡ Ok resolution → merged_of objects names resolution ≡ Ok merged → first_passed (limits_of merged) ≡ limit
    → program_under names objects defined ≡ program_within limit (program_of objects merged)
program_is names objects defined resolution merged limit is merges within =
    ap (program_under names objects) is ∙ ap (program_merged objects) merges ∙ ap (λ l. program_within l (program_of objects merged)) within

-- their program passes a limit
pub limit_passed : (names : List (List ℕ)) (objects : List ObjectData) (defined : Result Resolution ResolutionError) (resolution : Resolution) (merged : Merged) (passed : LimitFault)
    → defined ≡ Ok resolution → merged_of objects names resolution ≡ Ok merged → first_passed (limits_of merged) ≡ Some passed
    → Answers {A = Program} (Err (Limit passed)) (program_under names objects defined)
limit_passed names objects defined resolution merged passed = program_is names objects defined resolution merged (Some passed)

pub program_found : (names : List (List ℕ)) (objects : List ObjectData) (defined : Result Resolution ResolutionError) (resolution : Resolution) (merged : Merged) (program : Program)
    → defined ≡ Ok resolution → merged_of objects names resolution ≡ Ok merged → first_passed (limits_of merged) ≡ None → program ≡ program_of objects merged
    → program_under names objects defined ≡ Ok program
program_found names objects defined resolution merged program is merges within same =
    program_is names objects defined resolution merged None is merges within ∙ ap Ok (sym same)

pub program_sound : (names : List (List ℕ)) (objects : List ObjectData) (resolution : Resolution) (merged : Merged) (program : Program) → MergedLaw → All IsObject objects → AreFew objects
    → length names ≡ length objects → merged_of objects names resolution ≡ Ok merged → program ≡ program_of objects merged → IsProgram program
program_sound names objects resolution merged program law all few count merges same = rw same (law objects names resolution merged all few count merges).program

-- ---- the program of a job

pub job_small : (job : Job) (files : List (List ℕ)) (objects : List (List ℕ)) (resolution : List ℕ) → nat_le (sum_by length files) (2 ^ 28) ≡ true → take (length job.objects) files ≡ objects
    → get_or files (length job.objects) [] ≡ resolution → job_program job files ≡ program_by job.objects (objects_from 0 objects) resolution
job_small job files objects resolution within front last = rw (within, front, last) refl

take_contents : (n : ℕ) (cs : List (Vec ℕ Global)) → take n (contents_of cs) ≡ contents_of (take n cs)
take_contents zero cs = refl
take_contents (suc n) [] = refl
take_contents (suc n) (c ∷ cs) = ap (λ rest. c.items ∷ rest) (take_contents n cs)

pub front_of : (count n : ℕ) (cs : List (Vec ℕ Global)) → count ≡ n → take n (contents_of cs) ≡ contents_of (take count cs)
front_of count n cs same = take_contents n cs ∙ ap (λ k. contents_of (take k cs)) (sym same)

pub not_objects : (job : Job) (files objects : List (List ℕ)) (number : ℕ) (fault : ObjectFault) → nat_le (sum_by length files) (2 ^ 28) ≡ true → take (length job.objects) files ≡ objects
    → objects_from 0 objects ≡ Err (number, fault) → Answers {A = Program} (Err (Object number fault)) (job_program job files)
not_objects job files objects number fault within front is = rw (within, front, is) refl

pub job_large : (job : Job) (files : List (List ℕ)) → nat_le (sum_by length files) (2 ^ 28) ≡ false → Answers {A = Program} (Err TooMuch) (job_program job files)
job_large job files over = rw over refl

-- ---- what a run asks of a program

pub have_initial : (program : Program) → IsProgram program → All HasInitial program.arrays
have_initial program is = All-weaker IsProgramArray HasInitial (λ (a : Array) (h : IsProgramArray a). h.initial) program.arrays is.arrays

pub have_literals : (program : Program) → IsProgram program → All HasLiterals program.functions
have_literals program is = All-weaker (IsProgramFunction program) HasLiterals (λ (f : Function) (h : IsProgramFunction program f). h.values) program.functions is.functions
