-- A job that is linked from its files, and whose image is written.
use Rattle.std.proofs.Common.{◌≡◌, ℕ, List, Option, Result, Ok, Err, true, sym, refl, subst, arith, length, Vec}
use Rattle.std.specs.declared.alloc.Global.{Global}
use Rattle.outer_files.specs.Outside.{Contents, WhereTold, Writes, WritesPrefix, OthersStand}
use Rattle.whopr_words.specs.declared.job_file.Job.{Job}
use Rattle.job_links.specs.declared.line.JobLine.{JobLine}
use Rattle.job_links.specs.declared.line.JobLine.TheVariants.{Done, Object, TooLong, Limit, Read, Write, Memory, Unresolved}
use Rattle.job_links.specs.declared.reading.JobFiles.{JobFiles}
use Rattle.job_links.specs.declared.reading.ReadsFault.{ReadsFault}
use Rattle.job_links.specs.declared.reading.ReadsFault.TheVariants as reads
use Rattle.job_links.specs.Reads.{files_by, GivesFiles}
use Rattle.job_links.specs.Alone.{Refuses, prepared_by, ComesTo, Alone}
use Rattle.job_links.specs.Answers.{IsImage, GivesImage, IsAnswered}
use Rattle.job_links.specs.Linking.{GivesImageOf, IsOutcome, IsFinished, is_own}
use Rattle.job_links.proofs.Told.{told_same, told_weaker}

-- ---- what a job comes to

alone_of : (limit : ℕ) (held : Contents) (job : Job) (found : Result JobFiles ReadsFault) (line : JobLine) → files_by limit held job ≡ found
    → ComesTo job.objects (prepared_by found) (Refuses line) → Alone limit held job (Refuses line)
alone_of limit held job found line is h = subst (λ (f : Result JobFiles ReadsFault). ComesTo job.objects (prepared_by f) (Refuses line)) (sym is) h

pub image_outcome : (limit : ℕ) (held : Contents) (job : Job) (files : JobFiles) (image : List ℕ) → files_by limit held job ≡ Ok files → IsImage job.objects (prepared_by (Ok files)) image
    → GivesImage limit held job image
image_outcome limit held job files image is h = subst (λ (f : Result JobFiles ReadsFault). IsImage job.objects (prepared_by f) image) (sym is) h

pub own_outcome : (limit : ℕ) (held : Contents) (job : Job) (files : JobFiles) (line : JobLine) → files_by limit held job ≡ Ok files → is_own line ≡ true
    → GivesImageOf job.objects files (Err line) → IsAnswered limit held job line (held job.out)
own_outcome limit held job files (Done bytes) is own h = grind (arith, own)
own_outcome limit held job files (Object number fault) is own h = (alone_of limit held job (Ok files) (Object number fault) is h, refl)
own_outcome limit held job files TooLong is own h = grind (arith, own)
own_outcome limit held job files (Limit passed) is own h = (alone_of limit held job (Ok files) (Limit passed) is h, refl)
own_outcome limit held job files (Read place) is own h = grind (arith, own)
own_outcome limit held job files Write is own h = grind (arith, own)
own_outcome limit held job files Memory is own h = refl
own_outcome limit held job files (Unresolved fault) is own h = (alone_of limit held job (Ok files) (Unresolved fault) is h, refl)

pub link_outcome : (limit : ℕ) (held : Contents) (job : Job) (files : JobFiles) (result : Result (Vec ℕ Global) JobLine) → files_by limit held job ≡ Ok files
    → ((line : JobLine) → result ≡ Err line → is_own line ≡ true) → GivesImageOf job.objects files result → IsOutcome limit held job result
link_outcome limit held job files (Ok image) is own h = image_outcome limit held job files image.items is h
link_outcome limit held job files (Err line) is own h = own_outcome limit held job files line is (own line refl) h

pub long_outcome : (limit : ℕ) (held : Contents) (job : Job) → files_by limit held job ≡ Err reads.TooLong → IsAnswered limit held job TooLong (held job.out)
long_outcome limit held job is = (alone_of limit held job (Err reads.TooLong) TooLong is refl, refl)

-- ---- what is written

-- what is asked of a job's line and of its outcome while no file is written
abbrev pub Outcomes : ℕ → Job → Result JobFiles ReadsFault → Result (Vec ℕ Global) JobLine → Type 0
Outcomes limit job reading result = (held : Contents) → GivesFiles limit held job reading → IsOutcome limit held job result

pub finished_refused : (limit : ℕ) (job : Job) (reading : Result JobFiles ReadsFault) (line : JobLine) (a b : Option Contents) → b ≡ a → Outcomes limit job reading (Err line)
    → WhereTold a b (IsFinished limit job reading line)
finished_refused limit job reading line a b same h =
    told_same (IsFinished limit job reading line) a b same (λ files held gives is. subst (λ file. IsAnswered limit held job line file) (sym is) (h held gives))

pub finished_memory : (limit : ℕ) (job : Job) (reading : Result JobFiles ReadsFault) (a b : Option Contents) → b ≡ a → WhereTold a b (IsFinished limit job reading Memory)
finished_memory limit job reading a b same = told_same (IsFinished limit job reading Memory) a b same (λ files held gives is. is)

pub finished_done : (limit : ℕ) (job : Job) (reading : Result JobFiles ReadsFault) (image : Vec ℕ Global) (bytes : ℕ) (a b : Option Contents) → bytes ≡ length image.items
    → Outcomes limit job reading (Ok image) → WhereTold a b (Writes job.out image.items) → WhereTold a b (IsFinished limit job reading (Done bytes))
finished_done limit job reading image bytes a b count h w =
    told_weaker (Writes job.out image.items) (IsFinished limit job reading (Done bytes)) a b
    (λ old new written held gives is. record { image = image.items; gives = h held gives; count = count; written = written.written }) w

pub finished_cut_short : (limit : ℕ) (job : Job) (reading : Result JobFiles ReadsFault) (image : Vec ℕ Global) (a b : Option Contents) → Outcomes limit job reading (Ok image)
    → WhereTold a b (WritesPrefix job.out image.items) → WhereTold a b (IsFinished limit job reading Write)
finished_cut_short limit job reading image a b h w =
    told_weaker (WritesPrefix job.out image.items) (IsFinished limit job reading Write) a b
    (λ old new written held gives is. record { image = image.items; gives = h held gives; prefix = written.prefix }) w

pub stand_done : (name bytes : List ℕ) (a b : Option Contents) → WhereTold a b (Writes name bytes) → WhereTold a b (OthersStand name)
stand_done name bytes a b w = told_weaker (Writes name bytes) (OthersStand name) a b (λ old new written. written.others) w

pub stand_cut_short : (name bytes : List ℕ) (a b : Option Contents) → WhereTold a b (WritesPrefix name bytes) → WhereTold a b (OthersStand name)
stand_cut_short name bytes a b w = told_weaker (WritesPrefix name bytes) (OthersStand name) a b (λ old new written. written.others) w

pub stand_same : (name : List ℕ) (a b : Option Contents) → b ≡ a → WhereTold a b (OthersStand name)
stand_same name a b same = told_same (OthersStand name) a b same (λ files other apart. refl)
