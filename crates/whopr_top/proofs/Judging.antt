-- What a command came to: one lemma where it is refused, where its files are written, and where a write is cut short.
use Rattle.std.proofs.Common.{◌≡◌, ◌≢◌, ℕ, List, [], ◌∷◌, ◌⊎◌, Option, Some, None, Result, Ok, Err, refl, sym, ap, inl, inr, arith, ◌≤◌, length, take, drop, subst}
use Rattle.std.specs.Prelude.{IfSome, IsTrue, nat_le, sum_by, ◌^◌, true, false, ◌++◌, codes, decimal}
use Rattle.outer_files.specs.Outside.{Contents, WhereTold, Writes, WritesPrefix, Rose, IsLonger}
use Rattle.gimple_ir.specs.declared.types.Module.{Module}
use Rattle.gimple_syntax.specs.declared.text.TextFault.{TextFault}
use Rattle.gimple_syntax.specs.Reading.{read_of}
use Rattle.lto_object.specs.declared.fault.ObjectFault.{ObjectFault}
use Rattle.lto_object.specs.Objects.{object_of, ObjectData}
use Rattle.lto_object.specs.ObjectReading.{read_of as read_object_of}
use Rattle.gimple_meaning.specs.Run.{src}
use Rattle.gimple_ir.specs.declared.types.Program.{Program}
use Rattle.whopr_words.specs.declared.job_file.Job.{Job}
use Rattle.whopr_words.specs.Jobs.{jobs_in}
use Rattle.whopr_words.specs.Commands.{Spoken, Cc, Lgen, Show, Interp, Run, Resolve}
use Rattle.rv64_meaning.specs.Laws.{output_of}
use Rattle.rv64_meaning.specs.Loading.{load_fault_of, run_of}
use Rattle.gimple_ir.specs.declared.merged.Merged.{Merged}
use Rattle.program_link.specs.declared.fault.LimitFault.{LimitFault}
use Rattle.program_link.specs.Linking.{limits_of, first_passed}
use Rattle.resolution_text.specs.declared.fault.ResolutionError.{ResolutionError}
use Rattle.resolution_text.specs.declared.resolution.Resolution.{Resolution}
use Rattle.symbol_resolution.specs.Resolving.{resolve_of}
use Rattle.symbol_resolution.specs.Merging.{merged_of, program_of}
use Rattle.link_laws.specs.Laws.{LinkedLoads, LinkedFollows}
use Rattle.whopr_top.specs.Reads.{reads_of, AreHeld, IsOverLimit}
use Rattle.whopr_top.specs.Lines.{line, text_line, object_line, outcome_line, limit_line, batch_bytes_line}
use Rattle.whopr_top.specs.Judgements.{File, Judgement, Refuses, Gives, Judges, JudgesImage, JudgesMerged, JudgesResolved, JudgesLink, JudgesText, JudgesRun, JudgesOnly, only_job, job_program, standing_by, lgen_by, show_by, run_by, data_of, objects_from, unresolved, resolve_by, within_batch}
use Rattle.job_links.specs.Reads.{reads_of as job_files}
use Rattle.whopr_top.specs.Compiling.{IsCompiled}
use Rattle.whopr_top.specs.Outputs.{IsJudged, IsRefused, IsDone, IsCutShort, WritesAll, CutsShort, Faithful, IsFaithful, Refused, IsTooLarge, IsValid}
use Rattle.whopr_top.specs.Answers.{Exactly, IsLimitLine, file_bytes_line, is_status, is_early}
use Rattle.whopr_top.specs.Attempts.{Attempt, Judged}
use Rattle.whopr_top.proofs.ObjectImages.{by_limit}
use Rattle.whopr_top.proofs.ReadingFiles.{over_not_absent, held_not_absent}

-- a store holds one list of contents
same_contents : (limit : ℕ) (held : Contents) (names : List (List ℕ)) (cs ds : List (List ℕ)) → AreHeld limit held names cs → AreHeld limit held names ds → cs ≡ ds
same_contents limit held [] [] [] a b = refl
same_contents limit held [] [] (d ∷ ds) a b = absurd b
same_contents limit held [] (c ∷ cs) ds a b = absurd a
same_contents limit held (name ∷ names) [] ds a b = absurd a
same_contents limit held (name ∷ names) (c ∷ cs) [] a b = absurd b
same_contents limit held (name ∷ names) (c ∷ cs) (d ∷ ds) a b = grind (arith, a.0, b.0, same_contents limit held names cs ds a.2 b.2)

-- ---- a command is not both refused and done, and is refused with one status

abbrev Alike : Judgement → Judgement → Type 0
Alike (Refuses s x) (Refuses t y) = s ≡ t
Alike (Refuses s x) (Gives w y) = ⊥
Alike (Gives w x) (Refuses t y) = ⊥
Alike (Gives w x) (Gives v y) = Unit {0}

alike_self : (a : Judgement) → Alike a a
alike_self (Refuses s x) = refl
alike_self (Gives w x) = tt

alike_to : (a b c : Judgement) → a ≡ c → b ≡ c → Alike a b
alike_to a b c e f = subst (λ (x : Judgement). Alike x b) (sym e) (subst (λ (y : Judgement). Alike c y) (sym f) (alike_self c))

-- what `cc` comes to

image_alike : (output : List ℕ) (objects : List ObjectData) (merged : Merged) (passed : Option LimitFault) (a b : Judgement) → JudgesImage output objects merged passed a
    → JudgesImage output objects merged passed b → Alike a b
image_alike output objects merged (Some passed) a b h k = alike_to a b (Refuses 4 (limit_line passed)) h k
image_alike output objects merged None a b (image, is, h) (other, also, k) =
    subst (λ (x : Judgement). Alike x b) (sym h) (subst (λ (y : Judgement). Alike (Gives ((output, image) ∷ []) []) y) (sym k) tt)

merged_alike : (output : List ℕ) (objects : List ObjectData) (r : Result Merged ResolutionError) (a b : Judgement) → JudgesMerged output objects r a → JudgesMerged output objects r b → Alike a b
merged_alike output objects (Ok merged) a b h k = image_alike output objects merged (first_passed (limits_of merged)) a b h k
merged_alike output objects (Err fault) a b h k = alike_to a b (unresolved fault) h k

resolved_alike : (output : List ℕ) (objects : List ObjectData) (names : List (List ℕ)) (r : Result Resolution ResolutionError) (a b : Judgement)
    → JudgesResolved output objects names r a → JudgesResolved output objects names r b → Alike a b
resolved_alike output objects names (Ok resolution) a b h k = merged_alike output objects (merged_of objects names resolution) a b h k
resolved_alike output objects names (Err fault) a b h k = alike_to a b (unresolved fault) h k

text_alike : (input output : List ℕ) (r : Result Module TextFault) (a b : Judgement) → JudgesText input output r a → JudgesText input output r b → Alike a b
text_alike input output (Ok source) a b h k =
    resolved_alike output (data_of source ∷ []) (input ∷ []) (resolve_of (data_of source ∷ []) (input ∷ [])) a b h k
text_alike input output (Err fault) a b h k = alike_to a b (Refuses 9 (text_line fault.line fault.kind)) h k

-- what `interp` comes to

run_alike : (output : List ℕ) (steps : ℕ) (r : Result Program Judgement) (cs : List (List ℕ)) (a b : Judgement) → JudgesRun output steps r cs a → JudgesRun output steps r cs b → Alike a b
run_alike output steps (Ok program) [] a b h k = absurd h
run_alike output steps (Ok program) (given ∷ []) a b h k = alike_to a b (standing_by output (src program given steps)) h k
run_alike output steps (Ok program) (given ∷ other ∷ more) a b h k = absurd h
run_alike output steps (Err refused) [] a b h k = alike_to a b refused h k
run_alike output steps (Err refused) (bytes ∷ more) a b h k = absurd h

only_alike : (output : List ℕ) (steps : ℕ) (r : Result Job Judgement) (cs : List (List ℕ)) (a b : Judgement) → JudgesOnly output steps r cs a → JudgesOnly output steps r cs b → Alike a b
only_alike output steps (Ok job) cs a b h k =
    run_alike output steps (job_program job (take (length (job_files job)) cs)) (drop (length (job_files job)) cs) a b h k
only_alike output steps (Err refused) [] a b h k = alike_to a b refused h k
only_alike output steps (Err refused) (bytes ∷ more) a b h k = absurd h

alike : (command : Spoken) (cs : List (List ℕ)) (a b : Judgement) → Judges command cs a → Judges command cs b → Alike a b
alike (Cc input output) (text ∷ []) a b h k = text_alike input output (read_of text) a b h k
alike (Lgen input output) (text ∷ []) a b h k = alike_to a b (lgen_by output (read_of text)) h k
alike (Show object) (bytes ∷ []) a b h k = alike_to a b (show_by (read_object_of bytes)) h k
alike (Interp jobs steps input output) (text ∷ contents) a b h k = only_alike output steps (only_job (jobs_in text)) contents a b h k
alike (Run image steps input output) (bytes ∷ given ∷ []) a b h k = alike_to a b (run_by output (load_fault_of bytes) (run_of bytes given steps)) h k
alike (Resolve output objects) contents a b h k = alike_to a b (within_batch contents (resolve_by output objects (objects_from 0 contents))) h k
alike command contents a b h k = absurd h

-- the same of what is held
held_alike : (limit : ℕ) (held : Contents) (command : Spoken) (cs ds : List (List ℕ)) (a b : Judgement) → AreHeld limit held (reads_of held command) cs
    → AreHeld limit held (reads_of held command) ds → Judges command cs a → Judges command ds b → Alike a b
held_alike limit held command cs ds a b read other h k =
    alike command cs a b h (subst (λ (c : List (List ℕ)). Judges command c b) (sym (same_contents limit held (reads_of held command) cs ds read other)) k)

-- a command that is refused with a status is refused with no other
exactly_refused : (limit : ℕ) (held : Contents) (command : Spoken) (cs : List (List ℕ)) (s n : ℕ) (x : List ℕ) → AreHeld limit held (reads_of held command) cs
    → Judges command cs (Refuses s x) → Exactly n s (Refused n limit held (Some command))
exactly_refused limit held command cs s n x read judged = record {
  only = λ is. (x, record { contents = cs; read = read; judged = subst (λ (n : ℕ). Judges command cs (Refuses n x)) is judged });
  always = λ other. inl (held_alike limit held command cs other.1.contents (Refuses s x) (Refuses n other.0) read other.1.read judged other.1.judged);
}

-- a command that gives something is not refused
exactly_other : (limit : ℕ) (held : Contents) (command : Spoken) (cs : List (List ℕ)) (s n : ℕ) (w : List File) (x : List ℕ) → s ≢ n → AreHeld limit held (reads_of held command) cs
    → Judges command cs (Gives w x) → Exactly n s (Refused n limit held (Some command))
exactly_other limit held command cs s n w x differs read judged = record {
  only = λ is. absurd (differs is);
  always = λ other. absurd (held_alike limit held command cs other.1.contents (Gives w x) (Refuses n other.0) read other.1.read judged other.1.judged);
}

not_long : (limit : ℕ) (file : Option (List ℕ)) (bytes : List ℕ) → file ≡ Some bytes → length bytes ≤ limit → IsLonger limit file → ⊥
not_long limit file bytes is within long = grind (arith, is, within, long.1, long.2)

-- files that are held within the limit are not too long
pub not_over : (limit : ℕ) (held : Contents) (names : List (List ℕ)) (cs : List (List ℕ)) → AreHeld limit held names cs → IsOverLimit limit held names → ⊥
not_over limit held [] cs read over = absurd over
not_over limit held (name ∷ names) [] read over = absurd read
not_over limit held (name ∷ names) (c ∷ cs) read (inl long) = not_long limit (held name) c read.0 read.1 long
not_over limit held (name ∷ names) (c ∷ cs) read (inr more) = not_over limit held names cs read.2 more.1

too_large : (limit : ℕ) (held : Contents) (command : Spoken) (cs : List (List ℕ)) (A B : Type 0) → AreHeld limit held (reads_of held command) cs
    → IsTooLarge limit held (Some command) → (Refused 4 limit held (Some command) → A ⊎ B) → A ⊎ B
too_large limit held command cs A B read (inl over) or = absurd (not_over limit held (reads_of held command) cs read over)
too_large limit held command cs A B read (inr refused) or = or refused

-- a command that is refused with a status is too large exactly where that is 4
exactly_limited : (limit : ℕ) (held : Contents) (command : Spoken) (cs : List (List ℕ)) (s : ℕ) (x : List ℕ) → AreHeld limit held (reads_of held command) cs
    → Judges command cs (Refuses s x) → Exactly 4 s (IsTooLarge limit held (Some command))
exactly_limited limit held command cs s x read judged =
    let exact = exactly_refused limit held command cs s 4 x read judged in
    record { only = λ is. inr (exact.only is); always = λ large. too_large limit held command cs (s ≡ 4) (s ≡ 7) read large exact.always }

-- a command that gives something is not too large
exactly_within : (limit : ℕ) (held : Contents) (command : Spoken) (cs : List (List ℕ)) (s : ℕ) (w : List File) (x : List ℕ) → s ≢ 4 → AreHeld limit held (reads_of held command) cs
    → Judges command cs (Gives w x) → Exactly 4 s (IsTooLarge limit held (Some command))
exactly_within limit held command cs s w x differs read judged =
    let exact = exactly_other limit held command cs s 4 w x differs read judged in
    record { only = λ is. absurd (differs is); always = λ large. too_large limit held command cs (s ≡ 4) (s ≡ 7) read large exact.always }

held_refused : (limit : ℕ) (held : Contents) (command : Spoken) (cs : List (List ℕ)) (s : ℕ) (x : List ℕ) → AreHeld limit held (reads_of held command) cs
    → Judges command cs (Refuses s x) → IsValid limit held (Some command) → ⊥
held_refused limit held command cs s x read judged valid =
    held_alike limit held command cs valid.2.contents (Refuses s x) (Gives valid.0 valid.1) read valid.2.read judged valid.2.judged

-- ---- of what is told

pub told_at : {A : Type 0} (P : A → Type 0) (a : Option A) (x : A) → IfSome a P → a ≡ Some x → P x
told_at P None x h is = grind (arith, is)
told_at P (Some y) x h is = grind (arith, is, h)

pub told_map : {A : Type 0} (P Q : A → Type 0) (a : Option A) → ((x : A) → P x → Q x) → IfSome a P → IfSome a Q
told_map P Q None f h = h
told_map P Q (Some x) f h = f x h

pub told_with : {A : Type 0} (P : A → Type 0) (Q R : A → A → Type 0) (a b : Option A) → ((x y : A) → P x → Q x y → R x y) → IfSome a P → WhereTold a b Q → WhereTold a b R
told_with P Q R None None f p q = tt
told_with P Q R None (Some y) f p q = q
told_with P Q R (Some x) None f p q = q
told_with P Q R (Some x) (Some y) f p q = f x y p q

pub told_both : {A : Type 0} (Q R : A → A → Type 0) (a b : Option A) → ((x y : A) → Q x y → R x y) → WhereTold a b Q → WhereTold a b R
told_both Q R None None f q = tt
told_both Q R None (Some y) f q = q
told_both Q R (Some x) None f q = q
told_both Q R (Some x) (Some y) f q = f x y q

-- ---- reads

pub one_read : (limit : ℕ) (old : Option Contents) (name bytes : List ℕ) → IfSome old (λ held. held name ≡ Some bytes) → length bytes ≤ limit
    → IfSome old (λ held. AreHeld limit held (name ∷ []) (bytes ∷ []))
one_read limit old name bytes is within = told_map (λ held. held name ≡ Some bytes) (λ held. AreHeld limit held (name ∷ []) (bytes ∷ [])) old (λ held h. (h, within, tt)) is

pub two_reads : (limit : ℕ) (old between : Option Contents) (first second name bytes : List ℕ) → between ≡ old → IfSome old (λ held. held first ≡ Some second) → length second ≤ limit
    → IfSome between (λ held. held name ≡ Some bytes) → length bytes ≤ limit → IfSome old (λ held. AreHeld limit held (first ∷ name ∷ []) (second ∷ bytes ∷ []))
two_reads limit None between first second name bytes same is within too fits = tt
two_reads limit (Some held) between first second name bytes same is within too fits =
    (is, within, (subst (λ (o : Option Contents). IfSome o (λ held. held name ≡ Some bytes)) same too, fits, tt))

-- ---- writes

stands : (old : Option Contents) → WhereTold old old (WritesAll [])
stands None = tt
stands (Some held) = refl

pub none_written : (old new : Option Contents) → new ≡ old → WhereTold old new (WritesAll [])
none_written old new same = subst (λ (o : Option Contents). WhereTold old o (WritesAll [])) (sym same) (stands old)

pub one_written : (old new : Option Contents) (name bytes : List ℕ) → WhereTold old new (Writes name bytes) → WhereTold old new (WritesAll ((name, bytes) ∷ []))
one_written old new name bytes writes = told_both (Writes name bytes) (WritesAll ((name, bytes) ∷ [])) old new (λ held then w. (then, w, refl)) writes

pub one_cut_short : (old new : Option Contents) (name bytes : List ℕ) → WhereTold old new (WritesPrefix name bytes) → WhereTold old new (CutsShort ((name, bytes) ∷ []))
one_cut_short old new name bytes writes = told_both (WritesPrefix name bytes) (CutsShort ((name, bytes) ∷ [])) old new (λ held then w. inl w) writes

the_one : (old new : Contents) (name bytes : List ℕ) → WritesAll ((name, bytes) ∷ []) old new → Writes name bytes old new
the_one old new name bytes (between, writes, same) = subst (λ (c : Contents). Writes name bytes old c) (sym same) writes

-- ---- the image of a text that was compiled

pub faithful : LinkedLoads → LinkedFollows → (limit : ℕ) (input output text image : List ℕ) (source : Module) → read_of text ≡ Ok source
    → IsCompiled (data_of source ∷ []) (input ∷ []) image → (old new : Contents) → AreHeld limit old (input ∷ []) (text ∷ []) → WritesAll ((output, image) ∷ []) old new
    → IsFaithful input output old new
faithful can_load follows limit input output text image source is compiled old new read writes =
    let program = program_of (data_of source ∷ []) compiled.merged in
    record {
      text = text;
      image = image;
      source = source;
      resolution = compiled.resolution;
      merged = compiled.merged;
      held = read.0;
      read = is;
      resolved = compiled.resolved;
      merges = compiled.merges;
      written = (the_one old new output image writes).written;
      loads = can_load program compiled.merged image compiled.summarised compiled.within compiled.is_image;
      follows = follows program compiled.merged image compiled.summarised compiled.within compiled.is_image;
    }

-- ---- what the command came to

pub refused_by : (limit : ℕ) (command : Spoken) (old new : Option Contents) (before now s : ℕ) (x : List ℕ) → s ≢ 0 → s ≢ 6
    → IfSome old (λ held. IsRefused limit command held s x) → Judged limit (Some command) old new before now s x
refused_by limit command old new before now s x not_0 not_6 refuses =
    let at = λ (held : Contents) (told : old ≡ Some held). told_at (λ held. IsRefused limit command held s x) old held refuses told in
    let other = λ (n : ℕ) (held : Contents) (told : old ≡ Some held). exactly_refused limit held command (at held told).contents s n x (at held told).read (at held told).judged in
    record {
      object = λ held told _. other 3 held told;
      large = λ held told _. exactly_limited limit held command (at held told).contents s x (at held told).read (at held told).judged;
      resolution = λ held told _. other 8 held told;
      spelled = λ held told _. other 9 held told;
      jobs = λ held told _. other 10 held told;
      image = λ held told _. other 11 held told;
      complete = λ held told valid _. absurd (held_refused limit held command (at held told).contents s x (at held told).read (at held told).judged valid);
      done = λ is. absurd (not_0 is);
      follows = λ is. absurd (not_0 is);
      cut_short = λ is. absurd (not_6 is);
      done_line = λ is. absurd (not_0 is);
      large_line = λ is. told_map (λ held. IsRefused limit command held s x) (λ held. IsLimitLine limit held command x) old
          (λ held h. inr (subst (λ (n : ℕ). IsRefused limit command held n x) is h)) refuses;
      refused_line = λ _. refuses;
    }

-- by bytes that do not depend on what is held
pub refused : (limit : ℕ) (command : Spoken) (old new : Option Contents) (before now s : ℕ) (x : List ℕ) (cs : List (List ℕ)) → s ≢ 0 → s ≢ 6
    → IfSome old (λ held. AreHeld limit held (reads_of held command) cs) → Judges command cs (Refuses s x) → Judged limit (Some command) old new before now s x
refused limit command old new before now s x cs not_0 not_6 read judged =
    refused_by limit command old new before now s x not_0 not_6
    (told_map (λ held. AreHeld limit held (reads_of held command) cs) (λ held. IsRefused limit command held s x) old (λ held h. record { contents = cs; read = h; judged = judged }) read)

pub done_by : (limit : ℕ) (command : Spoken) (old new : Option Contents) (before now : ℕ) (w : List File) (x : List ℕ)
    → IfSome old (λ held. IsJudged limit command held w x) → WhereTold old new (WritesAll w) → WhereTold old new (Faithful (Some command))
    → Judged limit (Some command) old new before now 0 x
done_by limit command old new before now w x gives writes follows =
    let at = λ (held : Contents) (told : old ≡ Some held). told_at (λ held. IsJudged limit command held w x) old held gives told in
    let other = λ (n : ℕ) (differs : 0 ≢ n) (held : Contents) (told : old ≡ Some held).
    exactly_other limit held command (at held told).contents 0 n w x differs (at held told).read (at held told).judged in
    record {
      object = λ held told _. other 3 (λ is. grind (arith, is)) held told;
      large = λ held told _. exactly_within limit held command (at held told).contents 0 w x (λ is. grind (arith, is)) (at held told).read (at held told).judged;
      resolution = λ held told _. other 8 (λ is. grind (arith, is)) held told;
      spelled = λ held told _. other 9 (λ is. grind (arith, is)) held told;
      jobs = λ held told _. other 10 (λ is. grind (arith, is)) held told;
      image = λ held told _. other 11 (λ is. grind (arith, is)) held told;
      complete = λ held told valid _. inl refl;
      done = λ _. told_with (λ held. IsJudged limit command held w x) (WritesAll w) (IsDone limit command) old new
          (λ held then h write. record { written = w; text = x; judged = h; writes = write }) gives writes;
      follows = λ _. follows;
      cut_short = λ is. grind (arith, is);
      done_line = λ _. told_map (λ held. IsJudged limit command held w x) (λ held. (written : List File) × IsJudged limit command held written x) old (λ held h. (w, h)) gives;
      large_line = λ is. grind (arith, is);
      refused_line = λ is. grind (arith, is);
    }

pub done : (limit : ℕ) (command : Spoken) (old between new : Option Contents) (before now : ℕ) (w : List File) (x : List ℕ) (cs : List (List ℕ)) → between ≡ old
    → IfSome old (λ held. AreHeld limit held (reads_of held command) cs) → Judges command cs (Gives w x) → WhereTold between new (WritesAll w)
    → ((held then : Contents) → AreHeld limit held (reads_of held command) cs → WritesAll w held then → Faithful (Some command) held then)
    → Judged limit (Some command) old new before now 0 x
done limit command old between new before now w x cs same read judged writes follows =
    let then = subst (λ (o : Option Contents). WhereTold o new (WritesAll w)) same writes in
    done_by limit command old new before now w x
    (told_map (λ held. AreHeld limit held (reads_of held command) cs) (λ held. IsJudged limit command held w x) old (λ held h. record { contents = cs; read = h; judged = judged }) read)
    then
    (told_with (λ held. AreHeld limit held (reads_of held command) cs) (WritesAll w) (Faithful (Some command)) old new (λ held then h write. follows held then h write) read then)

pub cut_short_by : (limit : ℕ) (command : Spoken) (old new : Option Contents) (before now : ℕ) (w : List File) (x y : List ℕ)
    → IfSome old (λ held. IsJudged limit command held w x) → WhereTold old new (CutsShort w) → Rose before now → Judged limit (Some command) old new before now 6 y
cut_short_by limit command old new before now w x y gives writes rose =
    let at = λ (held : Contents) (told : old ≡ Some held). told_at (λ held. IsJudged limit command held w x) old held gives told in
    let other = λ (n : ℕ) (differs : 6 ≢ n) (held : Contents) (told : old ≡ Some held).
    exactly_other limit held command (at held told).contents 6 n w x differs (at held told).read (at held told).judged in
    record {
      object = λ held told _. other 3 (λ is. grind (arith, is)) held told;
      large = λ held told _. exactly_within limit held command (at held told).contents 6 w x (λ is. grind (arith, is)) (at held told).read (at held told).judged;
      resolution = λ held told _. other 8 (λ is. grind (arith, is)) held told;
      spelled = λ held told _. other 9 (λ is. grind (arith, is)) held told;
      jobs = λ held told _. other 10 (λ is. grind (arith, is)) held told;
      image = λ held told _. other 11 (λ is. grind (arith, is)) held told;
      complete = λ held told valid still. absurd (still rose);
      done = λ is. grind (arith, is);
      follows = λ is. grind (arith, is);
      cut_short = λ _. told_with (λ held. IsJudged limit command held w x) (CutsShort w) (IsCutShort limit command) old new
          (λ held then h write. record { written = w; text = x; judged = h; writes = write }) gives writes;
      done_line = λ is. grind (arith, is);
      large_line = λ is. grind (arith, is);
      refused_line = λ is. grind (arith, is);
    }

pub cut_short : (limit : ℕ) (command : Spoken) (old between new : Option Contents) (before now : ℕ) (w : List File) (x y : List ℕ) (cs : List (List ℕ)) → between ≡ old
    → IfSome old (λ held. AreHeld limit held (reads_of held command) cs) → Judges command cs (Gives w x) → WhereTold between new (CutsShort w)
    → Rose before now → Judged limit (Some command) old new before now 6 y
cut_short limit command old between new before now w x y cs same read judged writes rose =
    cut_short_by limit command old new before now w x y
    (told_map (λ held. AreHeld limit held (reads_of held command) cs) (λ held. IsJudged limit command held w x) old (λ held h. record { contents = cs; read = h; judged = judged }) read)
    (subst (λ (o : Option Contents). WhereTold o new (CutsShort w)) same writes)
    rose

-- ---- where a file can't be read, or memory runs out

pub failed : (limit : ℕ) (command : Spoken) (old new : Option Contents) (before now : ℕ) (x : List ℕ) → Rose before now → Judged limit (Some command) old new before now 5 x
failed limit command old new before now x rose = record {
  object = λ held told not_5. absurd (not_5 refl);
  large = λ held told not_5. absurd (not_5 refl);
  resolution = λ held told not_5. absurd (not_5 refl);
  spelled = λ held told not_5. absurd (not_5 refl);
  jobs = λ held told not_5. absurd (not_5 refl);
  image = λ held told not_5. absurd (not_5 refl);
  complete = λ held told valid still. absurd (still rose);
  done = λ is. grind (arith, is);
  follows = λ is. grind (arith, is);
  cut_short = λ is. grind (arith, is);
  done_line = λ is. grind (arith, is);
  large_line = λ is. grind (arith, is);
  refused_line = λ is. grind (arith, is);
}

lacking : (n : ℕ) (cause : Type 0) → 7 ≢ n → Exactly n 7 cause
lacking n cause differs = record { only = λ is. absurd (differs is); always = λ holds. inr refl }

pub lacked : (limit : ℕ) (command : Spoken) (old new : Option Contents) (before now : ℕ) (x : List ℕ) → Judged limit (Some command) old new before now 7 x
lacked limit command old new before now x = record {
  object = λ held told _. lacking 3 (Refused 3 limit held (Some command)) (λ is. grind (arith, is));
  large = λ held told _. lacking 4 (IsTooLarge limit held (Some command)) (λ is. grind (arith, is));
  resolution = λ held told _. lacking 8 (Refused 8 limit held (Some command)) (λ is. grind (arith, is));
  spelled = λ held told _. lacking 9 (Refused 9 limit held (Some command)) (λ is. grind (arith, is));
  jobs = λ held told _. lacking 10 (Refused 10 limit held (Some command)) (λ is. grind (arith, is));
  image = λ held told _. lacking 11 (Refused 11 limit held (Some command)) (λ is. grind (arith, is));
  complete = λ held told valid _. inr refl;
  done = λ is. grind (arith, is);
  follows = λ is. grind (arith, is);
  cut_short = λ is. grind (arith, is);
  done_line = λ is. grind (arith, is);
  large_line = λ is. grind (arith, is);
  refused_line = λ is. grind (arith, is);
}

-- ---- the judgement of `cc`

pub cc_faults : (input output text : List ℕ) (fault : TextFault) → read_of text ≡ Err fault → JudgesText input output (read_of text) (Refuses 9 (text_line fault.line fault.kind))
cc_faults input output text fault e = subst (λ (r : Result Module TextFault). JudgesText input output r (Refuses 9 (text_line fault.line fault.kind))) (sym e) refl

-- of the object of the module that the text is read to
pub cc_links : (input output text : List ℕ) (source : Module) (judgement : Judgement) → read_of text ≡ Ok source
    → JudgesLink output (data_of source ∷ []) (input ∷ []) judgement → JudgesText input output (read_of text) judgement
cc_links input output text source judgement e judged = subst (λ (r : Result Module TextFault). JudgesText input output r judgement) (sym e) judged

link_gives : (output image printed : List ℕ) (objects : List ObjectData) (names : List (List ℕ)) → IsCompiled objects names image → printed ≡ []
    → JudgesLink output objects names (Gives ((output, image) ∷ []) printed)
link_gives output image printed objects names compiled none =
    by_limit output objects names compiled.resolution compiled.merged None (Gives ((output, image) ∷ []) printed) compiled.resolved compiled.merges compiled.within
    (image, compiled.is_image, ap (Gives ((output, image) ∷ [])) none)

pub cc_gives : (input output text image printed : List ℕ) (source : Module) → read_of text ≡ Ok source → IsCompiled (data_of source ∷ []) (input ∷ []) image → printed ≡ []
    → JudgesText input output (read_of text) (Gives ((output, image) ∷ []) printed)
cc_gives input output text image printed source e compiled none =
    cc_links input output text source (Gives ((output, image) ∷ []) printed) e (link_gives output image printed (data_of source ∷ []) (input ∷ []) compiled none)

-- ---- the judgement of `lgen`

pub lgen_faults : (output text : List ℕ) (fault : TextFault) → read_of text ≡ Err fault → Refuses 9 (text_line fault.line fault.kind) ≡ lgen_by output (read_of text)
lgen_faults output text fault e = rw e refl

pub lgen_gives : (output text written printed : List ℕ) (source : Module) → read_of text ≡ Ok source → written ≡ object_of source → printed ≡ []
    → Gives ((output, written) ∷ []) printed ≡ lgen_by output (read_of text)
lgen_gives output text written printed source e is none = rw (e, is, none) refl

-- ---- the judgement of `show`

pub show_faults : (bytes : List ℕ) (fault : ObjectFault) → read_object_of bytes ≡ Err fault → Refuses 3 (object_line 0 fault) ≡ show_by (read_object_of bytes)
show_faults bytes fault e = rw e refl

-- ---- the judgement of `run`

pub run_faults : (output bytes given : List ℕ) (steps offset : ℕ) → load_fault_of bytes ≡ Some offset
    → Refuses 11 (line (codes "11 image " ++ decimal offset)) ≡ run_by output (load_fault_of bytes) (run_of bytes given steps)
run_faults output bytes given steps offset is = rw is refl

pub run_gives : (output bytes given written text : List ℕ) (steps : ℕ) → load_fault_of bytes ≡ None → written ≡ output_of (run_of bytes given steps)
    → text ≡ outcome_line (run_of bytes given steps) → Gives ((output, written) ∷ []) text ≡ run_by output (load_fault_of bytes) (run_of bytes given steps)
run_gives output bytes given written text steps none is says = rw (none, is, says) refl

-- ---- the judgement of `resolve`

pub resolve_gives : (output : List ℕ) (names : List (List ℕ)) (found : Result (List ObjectData) (ℕ × ObjectFault)) (text printed : List ℕ)
    → Gives ((output, text) ∷ []) [] ≡ resolve_by output names found → printed ≡ [] → Gives ((output, text) ∷ []) printed ≡ resolve_by output names found
resolve_gives output names found text printed h none = rw none h

pub small : (contents : List (List ℕ)) (a b : Judgement) → nat_le (sum_by length contents) (2 ^ 28) ≡ true → a ≡ b → a ≡ within_batch contents b
small contents a b within h = rw within h

pub large : (contents : List (List ℕ)) (b : Judgement) → nat_le (sum_by length contents) (2 ^ 28) ≡ false → Refuses 4 batch_bytes_line ≡ within_batch contents b
large contents b over = rw over refl

-- ---- words that are no command

never : {A : Type 0} → ⊥ ⊎ ⊥ → A
never (inl wrong) = absurd wrong
never (inr wrong) = absurd wrong

none_refused : (n s limit : ℕ) (held : Contents) → s ≢ n → Exactly n s (Refused n limit held None)
none_refused n s limit held differs = record { only = λ is. absurd (differs is); always = λ refused. absurd refused }

none_judged : (limit : ℕ) (old new : Option Contents) (before now : ℕ) (x : List ℕ) → Judged limit None old new before now 2 x
none_judged limit old new before now x = record {
  object = λ held told _. none_refused 3 2 limit held (λ is. grind (arith, is));
  large = λ held told _. record { only = λ is. grind (arith, is); always = λ large. never large };
  resolution = λ held told _. none_refused 8 2 limit held (λ is. grind (arith, is));
  spelled = λ held told _. none_refused 9 2 limit held (λ is. grind (arith, is));
  jobs = λ held told _. none_refused 10 2 limit held (λ is. grind (arith, is));
  image = λ held told _. none_refused 11 2 limit held (λ is. grind (arith, is));
  complete = λ held told valid _. absurd valid;
  done = λ is. grind (arith, is);
  follows = λ is. grind (arith, is);
  cut_short = λ is. grind (arith, is);
  done_line = λ is. grind (arith, is);
  large_line = λ is. grind (arith, is);
  refused_line = λ is. grind (arith, is);
}

pub unspoken : (limit : ℕ) (command : Option Spoken) (old new : Option Contents) (before now : ℕ) (x : List ℕ) → command ≡ None → Judged limit command old new before now 2 x
unspoken limit command old new before now x none =
    subst (λ (c : Option Spoken). Judged limit c old new before now 2 x) (sym none) (none_judged limit old new before now x)

-- ---- files that are read one after the other

long_not_refused : (limit : ℕ) (held : Contents) (command : Spoken) (n : ℕ) → 4 ≢ n → IsOverLimit limit held (reads_of held command) → Exactly n 4 (Refused n limit held (Some command))
long_not_refused limit held command n differs over = record {
  only = λ is. absurd (differs is);
  always = λ refused. absurd (not_over limit held (reads_of held command) refused.1.contents refused.1.read over);
}

-- a file that is too long refuses the command
pub too_long : (limit : ℕ) (command : Spoken) (old new : Option Contents) (before now : ℕ) → IfSome old (λ held. IsOverLimit limit held (reads_of held command))
    → Judged limit (Some command) old new before now 4 file_bytes_line
too_long limit command old new before now over =
    let at = λ (held : Contents) (told : old ≡ Some held). told_at (λ held. IsOverLimit limit held (reads_of held command)) old held over told in
    let other = λ (n : ℕ) (differs : 4 ≢ n) (held : Contents) (told : old ≡ Some held). long_not_refused limit held command n differs (at held told) in
    record {
      object = λ held told _. other 3 (λ is. grind (arith, is)) held told;
      large = λ held told _. record { only = λ _. inl (at held told); always = λ _. inl refl };
      resolution = λ held told _. other 8 (λ is. grind (arith, is)) held told;
      spelled = λ held told _. other 9 (λ is. grind (arith, is)) held told;
      jobs = λ held told _. other 10 (λ is. grind (arith, is)) held told;
      image = λ held told _. other 11 (λ is. grind (arith, is)) held told;
      complete = λ held told valid _. absurd (not_over limit held (reads_of held command) valid.2.contents valid.2.read (at held told));
      done = λ is. grind (arith, is);
      follows = λ is. grind (arith, is);
      cut_short = λ is. grind (arith, is);
      done_line = λ is. grind (arith, is);
      large_line = λ _. told_map (λ held. IsOverLimit limit held (reads_of held command)) (λ held. IsLimitLine limit held command file_bytes_line) old (λ held h. inl (h, refl)) over;
      refused_line = λ is. grind (arith, is);
    }

-- a command whose files were all read
pub attempted : (limit : ℕ) (command : Spoken) (old new : Option Contents) (s : ℕ) (cs : List (List ℕ)) → IsTrue (is_status s) → s ≢ 2 → s ≢ 7
    → IfSome old (λ held. AreHeld limit held (reads_of held command) cs) → (IsTrue (is_early s) → new ≡ old) → Attempt limit (Some command) old new s
attempted limit command old new s cs status not_2 not_7 read early = record {
  answers = status;
  words = record { only = λ is. absurd (not_2 is); always = λ none. grind (arith, none) };
  absent = λ held told absent. absurd (held_not_absent limit held (reads_of held command) cs (told_at (λ held. AreHeld limit held (reads_of held command) cs) old held read told) absent);
  early = early;
  memory = λ is. absurd (not_7 is);
}

-- a command one of whose files is too long
pub attempted_long : (limit : ℕ) (command : Spoken) (old new : Option Contents) → new ≡ old → IfSome old (λ held. IsOverLimit limit held (reads_of held command))
    → Attempt limit (Some command) old new 4
attempted_long limit command old new same over = record {
  answers = refl;
  words = record { only = λ is. grind (arith, is); always = λ none. grind (arith, none) };
  absent = λ held told absent. absurd (over_not_absent limit held (reads_of held command) (told_at (λ held. IsOverLimit limit held (reads_of held command)) old held over told) absent);
  early = λ _. same;
  memory = λ _. same;
}
