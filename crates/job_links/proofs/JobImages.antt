-- What the files of a job come to, once they are read, and merged or linked.
use Rattle.std.proofs.Common.{◌≡◌, ℕ, List, length, sym, ap₂, subst}
use Rattle.std.specs.Prelude.{All, Result, Ok}
use Rattle.func_summary.specs.Summarised.{IsSummarised}
use Rattle.gimple_ir.specs.declared.types.Program.{Program}
use Rattle.gimple_ir.specs.declared.merged.Merged.{Merged}
use Rattle.lto_object.specs.Objects.{ObjectData, IsObject}
use Rattle.link_laws.specs.Laws.{LinkedLoads, LinkedFollows}
use Rattle.plain_link.specs.Linking.{IsLinked}
use Rattle.resolution_text.specs.declared.resolution.Resolution.{Resolution}
use Rattle.resolution_text.specs.Reading.{resolution_in}
use Rattle.symbol_resolution.specs.Merging.{AreFew, merged_of, program_of}
use Rattle.symbol_resolution.specs.Laws.{MergedLaw}
use Rattle.job_links.specs.declared.line.JobLine.{JobLine}
use Rattle.job_links.specs.declared.reading.JobFiles.{JobFiles}
use Rattle.job_links.specs.Alone.{Gives, Outcome, Prepared, LinksTo, ComesTo, prepared_with, prepared_of, objects_from}
use Rattle.job_links.specs.Answers.{IsImage}
use Rattle.job_links.specs.MergedJobs.{IsMergedJob}

abbrev prepared_as : List ObjectData → Resolution → Prepared
prepared_as objects resolution = record { objects = objects; resolution = resolution }

prepared_is : (files : JobFiles) (objects : List ObjectData) (resolution : Resolution) → objects_from 0 files.objects ≡ Ok objects → resolution_in files.resolution ≡ Ok resolution
    → prepared_of files ≡ Ok (prepared_as objects resolution)
prepared_is files objects resolution o r = ap₂ prepared_with o r

comes_by : (names : List (List ℕ)) (p : Prepared) (found : Result Prepared JobLine) (outcome : Outcome) → found ≡ Ok p → LinksTo names p outcome → ComesTo names found outcome
comes_by names p found outcome is links = subst (λ (f : Result Prepared JobLine). ComesTo names f outcome) (sym is) links

-- linked files give an image that follows the program of their objects
pub image_of_files : (names : List (List ℕ)) (files : JobFiles) (objects : List ObjectData) (resolution : Resolution) (image : List ℕ) → MergedLaw → LinkedLoads → LinkedFollows
    → objects_from 0 files.objects ≡ Ok objects → resolution_in files.resolution ≡ Ok resolution → All IsObject objects → AreFew objects → length names ≡ length objects
    → IsLinked objects names resolution image → IsImage names (prepared_of files) image
image_of_files names files objects resolution image merging loads follows o r are few same l =
    let p = prepared_as objects resolution in
    let is = prepared_is files objects resolution o r in
    let summarised = merging objects names resolution l.merged are few same l.merges in
    record {
      prepared = p;
      is = is;
      outcome = comes_by names p (prepared_of files) (Gives image) is l;
      faithful = record {
        merged = l.merged;
        merges = l.merges;
        loads = loads (program_of objects l.merged) l.merged image summarised l.within l.is_image;
        follows = follows (program_of objects l.merged) l.merged image summarised l.within l.is_image;
      };
    }

-- merged files give a program of which the merged one is true
pub program_of_files : (names : List (List ℕ)) (files : JobFiles) (objects : List ObjectData) (resolution : Resolution) (program : Program) (merged : Merged) → MergedLaw
    → objects_from 0 files.objects ≡ Ok objects → resolution_in files.resolution ≡ Ok resolution → All IsObject objects → AreFew objects → length names ≡ length objects
    → merged_of objects names resolution ≡ Ok merged → program ≡ program_of objects merged → IsMergedJob names (prepared_of files) program merged
program_of_files names files objects resolution program merged merging o r are few same merges is = record {
  prepared = prepared_as objects resolution;
  is = prepared_is files objects resolution o r;
  merges = merges;
  program_is = is;
  summarised = subst (λ (p : Program). IsSummarised p merged) (sym is) (merging objects names resolution merged are few same merges);
}
