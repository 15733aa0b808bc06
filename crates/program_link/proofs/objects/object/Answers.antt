use Rattle.std.proofs.Common.{ℕ, List, ◌^◌, ◌<◌, ◌*◌, length, ap, subst, ◌∙◌, arith}
use Rattle.std.specs.List.{AllByRecursion}
use Rattle.program_link.proofs.PartLaws.{known, few_names, small_places, symbols_are, relocations_are, object_is, part_is}
use Rattle.program_link.proofs.objects.object.Goals as goal

pub own_place-own-requires : goal.own_place-own-requires
own_place-own-requires c =
    let f = c.args.version.now in
    let k = known f c.args.code.words c.args.code.names c.args.code.relocations c.requires.versioned c.requires.words c.requires.names c.requires.relocations c.requires.bound c.requires.fills c.requires.named c.requires.once in
    few_names f c.as_slice-names.result.now k (c.as_slice-names.ensures ∙ c.requires.names)

pub byte_count-requires : goal.byte_count-requires
byte_count-requires c = omega (arith, ap length c.as_slice-words.ensures, c.requires.bound, c.requires.versioned.bound)

pub relocations_of-requires : goal.relocations_of-requires
relocations_of-requires c =
    let f = c.args.version.now in
    let k = known f c.args.code.words c.args.code.names c.args.code.relocations c.requires.versioned c.requires.words c.requires.names c.requires.relocations c.requires.bound c.requires.fills c.requires.named c.requires.once in
    small_places f c.as_slice.result.now k (c.as_slice.ensures ∙ c.requires.relocations)

pub returns-clause-value : goal.returns-clause-value
returns-clause-value c =
    let f = c.args.version.now in
    let k = known f c.args.code.words c.args.code.names c.args.code.relocations c.requires.versioned c.requires.words c.requires.names c.requires.relocations c.requires.bound c.requires.fills c.requires.named c.requires.once in
    let names = c.as_slice-names.ensures ∙ c.requires.names in
    let size = c.byte_count.ensures.value ∙ ap (λ (ws : List ℕ). 4 * length ws) (c.as_slice-words.ensures ∙ c.requires.words) in
    object_is f (record { symbols = c.in_ok-symbols.symbols; words = c.args.code.words; relocations = c.in_ok-relocations.relocations }) k
    (symbols_are f c.in_ok-symbols.symbols c.byte_count.result c.as_slice-names.result.now c.in_ok-symbols.ensures.value size names)
    c.requires.words
    (relocations_are f c.in_ok-relocations.relocations c.as_slice.result.now c.own_place-own.result c.as_slice-names.result.now c.in_ok-relocations.ensures c.own_place-own.ensures names (c.as_slice.ensures ∙ c.requires.relocations))

pub returns-clause-part : goal.returns-clause-part
returns-clause-part c =
    let f = c.args.version.now in
    let k = known f c.args.code.words c.args.code.names c.args.code.relocations c.requires.versioned c.requires.words c.requires.names c.requires.relocations c.requires.bound c.requires.fills c.requires.named c.requires.once in
    let names = c.as_slice-names.ensures ∙ c.requires.names in
    let size = c.byte_count.ensures.value ∙ ap (λ (ws : List ℕ). 4 * length ws) (c.as_slice-words.ensures ∙ c.requires.words) in
    part_is f (record { symbols = c.in_ok-symbols.symbols; words = c.args.code.words; relocations = c.in_ok-relocations.relocations }) k
    (symbols_are f c.in_ok-symbols.symbols c.byte_count.result c.as_slice-names.result.now c.in_ok-symbols.ensures.value size names)
    c.requires.words
    (relocations_are f c.in_ok-relocations.relocations c.as_slice.result.now c.own_place-own.result c.as_slice-names.result.now c.in_ok-relocations.ensures c.own_place-own.ensures names (c.as_slice.ensures ∙ c.requires.relocations))
    c.in_ok-symbols.ensures.fits (subst (λ (ws : List ℕ). AllByRecursion (λ w. w < 2 ^ 32) ws) c.as_slice-words.ensures c.byte_count.ensures.fits)
