-- What the files of a job come to, by the steps of linking them.
use Rattle.std.proofs.Common.{◌≡◌, ℕ, List, Result, Ok, Err, sym, refl, subst, length}
use Rattle.std.specs.Prelude.{All}
use Rattle.lto_object.specs.Objects.{ObjectData, IsObject}
use Rattle.resolution_text.specs.declared.resolution.Resolution.{Resolution}
use Rattle.resolution_text.specs.declared.fault.ResolutionError.{ResolutionError}
use Rattle.resolution_text.specs.Reading.{resolution_in}
use Rattle.program_link.specs.declared.fault.LimitFault.{LimitFault}
use Rattle.symbol_resolution.specs.Merging.{merged_of, AreFew}
use Rattle.symbol_resolution.specs.Laws.{MergedLaw}
use Rattle.plain_link.specs.Linking.{IsLinked, Passes}
use Rattle.link_laws.specs.Laws.{LinkedLoads, LinkedFollows}
use Rattle.job_links.specs.declared.line.JobLine.{JobLine}
use Rattle.job_links.specs.declared.line.JobLine.TheVariants.{Done, Object, TooLong, Limit, Read, Write, Memory, Unresolved}
use Rattle.job_links.specs.declared.reading.JobFiles.{JobFiles}
use Rattle.job_links.specs.Alone.{Outcome, Gives, Refuses, Prepared, objects_from, prepared_of, LinksTo, ComesTo}
use Rattle.job_links.specs.Answers.{IsImage}
use Rattle.job_links.specs.Linking.{GivesObjects, GivesResolution, GivesImageOf}

abbrev pub these : List ObjectData → Resolution → Prepared
these objects resolution = record { objects = objects; resolution = resolution }

pub prepared_is : (files : JobFiles) (objects : List ObjectData) (resolution : Resolution) → objects_from 0 files.objects ≡ Ok objects → resolution_in files.resolution ≡ Ok resolution
    → prepared_of files ≡ Ok (these objects resolution)
prepared_is files objects resolution a b = rw (a, b) refl

refused_by : (names : List (List ℕ)) (files : JobFiles) (line : JobLine) → prepared_of files ≡ Err line → ComesTo names (prepared_of files) (Refuses line)
refused_by names files line is = subst (λ (found : Result Prepared JobLine). ComesTo names found (Refuses line)) (sym is) refl

linked_to : (names : List (List ℕ)) (files : JobFiles) (prepared : Prepared) (outcome : Outcome) → prepared_of files ≡ Ok prepared → LinksTo names prepared outcome
    → ComesTo names (prepared_of files) outcome
linked_to names files prepared outcome is h = subst (λ (found : Result Prepared JobLine). ComesTo names found outcome) (sym is) h

object_line : (files : JobFiles) (line : JobLine) → objects_from 0 files.objects ≡ Err line → prepared_of files ≡ Err line
object_line files line is = rw is refl

-- a file is no object
pub objects_refused : (names : List (List ℕ)) (files : JobFiles) (line : JobLine) → GivesObjects (Err line) (objects_from 0 files.objects) → GivesImageOf names files (Err line)
objects_refused names files (Done bytes) is = refused_by names files (Done bytes) (object_line files (Done bytes) is)
objects_refused names files (Object number fault) is = refused_by names files (Object number fault) (object_line files (Object number fault) is)
objects_refused names files TooLong is = refused_by names files TooLong (object_line files TooLong is)
objects_refused names files (Limit passed) is = refused_by names files (Limit passed) (object_line files (Limit passed) is)
objects_refused names files (Read place) is = refused_by names files (Read place) (object_line files (Read place) is)
objects_refused names files Write is = refused_by names files Write (object_line files Write is)
objects_refused names files Memory is = tt
objects_refused names files (Unresolved fault) is = refused_by names files (Unresolved fault) (object_line files (Unresolved fault) is)

-- the text is no resolution
pub resolution_refused : (names : List (List ℕ)) (files : JobFiles) (objects : List ObjectData) (line : JobLine) → objects_from 0 files.objects ≡ Ok objects
    → GivesResolution (Err line) (resolution_in files.resolution) → GivesImageOf names files (Err line)
resolution_refused names files objects (Done bytes) found is = absurd is
resolution_refused names files objects (Object number fault) found is = absurd is
resolution_refused names files objects TooLong found is = absurd is
resolution_refused names files objects (Limit passed) found is = absurd is
resolution_refused names files objects (Read place) found is = absurd is
resolution_refused names files objects Write found is = absurd is
resolution_refused names files objects Memory found is = tt
resolution_refused names files objects (Unresolved fault) found is = refused_by names files (Unresolved fault) (rw (found, is) refl)

pub merging_refused : (names : List (List ℕ)) (files : JobFiles) (objects : List ObjectData) (resolution : Resolution) (fault : ResolutionError) → objects_from 0 files.objects ≡ Ok objects
    → resolution_in files.resolution ≡ Ok resolution → merged_of objects names resolution ≡ Err fault → GivesImageOf names files (Err (Unresolved fault))
merging_refused names files objects resolution fault a b is =
    linked_to names files (these objects resolution) (Refuses (Unresolved fault)) (prepared_is files objects resolution a b) is

pub limit_refused : (names : List (List ℕ)) (files : JobFiles) (objects : List ObjectData) (resolution : Resolution) (passed : LimitFault) → objects_from 0 files.objects ≡ Ok objects
    → resolution_in files.resolution ≡ Ok resolution → Passes objects names resolution passed → GivesImageOf names files (Err (Limit passed))
limit_refused names files objects resolution passed a b is =
    linked_to names files (these objects resolution) (Refuses (Limit passed)) (prepared_is files objects resolution a b) is

pub image_given : (names : List (List ℕ)) (files : JobFiles) (objects : List ObjectData) (resolution : Resolution) (image : List ℕ) → objects_from 0 files.objects ≡ Ok objects
    → resolution_in files.resolution ≡ Ok resolution → All IsObject objects → AreFew objects → length names ≡ length objects → MergedLaw → LinkedLoads → LinkedFollows
    → IsLinked objects names resolution image → IsImage names (prepared_of files) image
image_given names files objects resolution image a b are few count law loads follows linked =
    let is = prepared_is files objects resolution a b in
    let summarised = law objects names resolution linked.merged are few count linked.merges in
    record {
      prepared = these objects resolution;
      is = is;
      outcome = linked_to names files (these objects resolution) (Gives image) is linked;
      faithful = record {
        merged = linked.merged;
        merges = linked.merges;
        loads = loads _ linked.merged image summarised linked.within linked.is_image;
        follows = follows _ linked.merged image summarised linked.within linked.is_image;
      };
    }
