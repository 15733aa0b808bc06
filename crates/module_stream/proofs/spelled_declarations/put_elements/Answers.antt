use Rattle.std.proofs.Common.{rules, ◌≡◌, ◌+◌, ◌++◌, [], ◌∷◌, get_or, take, pos, FitsSigned, ap, ◌∙◌, append_assoc, arith}
use Rattle.std.specs.List.{flat_map}
use Rattle.std.specs.Int.{w128}
use Rattle.std.proofs.lemmas.Int.{to_z-of_z}
use Rattle.std.proofs.lemmas.List.{append-nil, take_more}
use Rattle.std.proofs.lemmas.List.Concat.{flat_map-cons}
use Rattle.std.proofs.lemmas.Grind.{flat_map-append}
use Rattle.module_stream.specs.Fields.{element_of}
use Rattle.module_stream.proofs.spelled_declarations.put_elements.Goals as goal

pub loop-num-preserved : goal.loop-num-preserved
loop-num-preserved c =
    let nums = c.args.nums.now in
    let i = c.loop-num.num-index in
    let write = element_of c.args.element in
    let num = get_or nums i (pos 0) in
    let fits : FitsSigned w128 num = search rules in
    let put : c.put_element.new.out.items ≡ c.loop-num.out.items ++ write num = simp (to_z-of_z w128 num fits) at c.in_ok-put_element.ensures in
    let more : flat_map write (take (i + 1) nums) ≡ flat_map write (take i nums) ++ write num =
    ap (flat_map write) (take_more nums i (pos 0) (omega arith)) ∙ flat_map-append write (take i nums) (num ∷ [])
    ∙ ap (λ t. flat_map write (take i nums) ++ t) (flat_map-cons write num [] ∙ append-nil (write num)) in
    rw more (put ∙ rw (c.loop-num.invariant) (simp append_assoc))
