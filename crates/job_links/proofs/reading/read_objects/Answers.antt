use Rattle.std.proofs.Common.{◌≡◌, ◌∙◌, ◌++◌, ◌∷◌, [], ◌≤◌, ◌+◌, List, ℕ, Err, Ok, arith, rules, length, take, drop}
use Rattle.std.proofs.lemmas.Grind.{common_steps}
use Rattle.std.proofs.lemmas.List.{length-append}
use Rattle.std.proofs.lemmas.List.Elements.{All-push}
use Rattle.outer_files.specs.Outside.{RoseBy}
use Rattle.job_links.specs.Reads.{GivesFile, file_by, size_by, size_of, size_given}
use Rattle.job_links.proofs.Told.{told_2, told_3, told_there}
use Rattle.job_links.proofs.ReadingFiles.{ReadSoFar, more_so_far, size_more}
use Rattle.job_links.proofs.LeastRead.{least_more, least_fault}
use Rattle.job_links.proofs.reading.read_objects.Goals as goal

pub loop-place-preserved : goal.loop-place-preserved
loop-place-preserved g c =
    let limit = c.args.limit in
    let names = c.args.names.now in
    let n = c.loop-place.place in
    let name = c.index-names-place.result in
    let done = c.loop-place.contents in
    let bytes = c.in_ok-bytes.bytes in
    let lt = c.loop-place-test.true in
    let is = c.index-names-place.is in
    let old = c.args.total.now in
    let between = c.loop-place.total in
    let now = c.read_file.new.total in
    let same = c.loop-place.invariant.unchanged in
    let told = c.loop-place.invariant.told in
    let gives = told_there _ _ _ same c.in_ok-bytes.ensures.gives in
    let pushed : c.push.new.self ≡ done ++ bytes ∷ [] = grind (arith, common_steps) in
    record {
      unchanged = c.in_ok-bytes.ensures.unchanged ∙ same;
      never_falls = omega (arith, c.in_ok-bytes.ensures.never_falls, c.loop-place.invariant.never_falls);
      count = rw (pushed, length-append done (bytes ∷ [])) (omega (arith, c.loop-place.invariant.count));
      within = rw pushed (All-push (λ (bytes : List ℕ). length bytes ≤ limit) done bytes c.loop-place.invariant.within c.in_ok-bytes.ensures.within);
      told = rw pushed (told_2 (λ held. file_by n limit (held name) ≡ Ok bytes) (λ held. ReadSoFar limit held names n done) (λ held. ReadSoFar limit held names (n + 1) (done ++ bytes ∷ [])) _
          (λ held read so_far. more_so_far limit held names done n name bytes lt is read so_far) gives told);
      size = told_3 (λ held. file_by n limit (held name) ≡ Ok bytes) (λ held. now ≤ between + size_by limit (held name) 0)
          (λ held. between + size_of limit held (drop n names) ≤ old + size_of limit held names) (λ held. now + size_of limit held (drop (n + 1) names) ≤ old + size_of limit held names) _
          (λ held read grown size. size_more limit held names n name bytes _ between now lt is read grown size) gives (told_there _ _ _ same c.in_ok-bytes.ensures.size) c.loop-place.invariant.size;
      least = told_3 (λ held. file_by n limit (held name) ≡ Ok bytes) (λ held. ReadSoFar limit held names n done) (λ held. RoseBy (size_of limit held (take n names)) old between)
          (λ held. RoseBy (size_of limit held (take (n + 1) names)) old now) _
          (λ held read so_far least. least_more limit held names n name bytes old between now lt is read so_far.before least c.in_ok-bytes.ensures.least) gives told c.loop-place.invariant.least;
    }

pub returns-in_err-bytes-clause-least : goal.returns-in_err-bytes-clause-least
returns-in_err-bytes-clause-least g c =
    let limit = c.args.limit in
    let names = c.args.names.now in
    let n = c.loop-place.place in
    let name = c.index-names-place.result in
    let fault = c.in_err-bytes.field-0.0 in
    let old = c.args.total.now in
    let now = c.read_file.new.total in
    let is : c.from_residual.result ≡ Err fault = first_of (search rules, grind arith) in
    rw is (told_3 (λ held. GivesFile n limit (held name) (Err fault)) (λ held. ReadSoFar limit held names n c.loop-place.contents)
    (λ held. RoseBy (size_of limit held (take n names)) old c.loop-place.total) (λ held. RoseBy (size_given {A = List (List ℕ)} limit held names (Err fault)) old now) _
    (λ held gives so_far least.
    least_fault (List (List ℕ)) limit held names n name fault old c.loop-place.total now c.loop-place-test.true c.index-names-place.is gives so_far.before least c.in_err-bytes.ensures.least)
    (told_there _ _ _ c.loop-place.invariant.unchanged c.in_err-bytes.ensures.gives) c.loop-place.invariant.told c.loop-place.invariant.least)
