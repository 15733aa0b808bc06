use Rattle.std.proofs.Common.{◌≡◌, sym, ap, ◌∙◌}
use Rattle.std.specs.Prelude.{slice_index}
use Rattle.rv64_select.specs.Code.{label_offset}
use Rattle.rv64_select.specs.Selected.{words_of_code, references}
use Rattle.rv64_select.proofs.Whole.{whole_short, whole_below, whole_encodes, whole_few, whole_named, whole_words, whole_bound, whole_names, whole_relocations}
use Rattle.rv64_select.proofs.Relocating.{whole_fills}
use Rattle.rv64_select.proofs.Naming.{whole_in_order, whole_once}
use Rattle.rv64_select.proofs.selection.code.Goals as goal

pub label_offsets-requires-clause-short : goal.label_offsets-requires-clause-short
label_offsets-requires-clause-short c = whole_short c.args.function.now c.deref.result.now c.requires.versioned (c.deref.ensures.value ∙ c.in_ok-items.ensures)

pub label_offsets-requires-clause-below : goal.label_offsets-requires-clause-below
label_offsets-requires-clause-below c = whole_below c.args.function.now c.deref.result.now c.requires.versioned (c.deref.ensures.value ∙ c.in_ok-items.ensures)

pub words_of-requires-clause-short : goal.words_of-requires-clause-short
words_of-requires-clause-short c = whole_short c.args.function.now c.deref-3.result.now c.requires.versioned (c.deref-3.ensures.value ∙ c.in_ok-items.ensures)

pub words_of-requires-clause-in_range : goal.words_of-requires-clause-in_range
words_of-requires-clause-in_range c =
    let same = ap label_offset (c.deref.ensures.value ∙ sym c.deref-3.ensures.value) in
    whole_encodes c.args.function.now c.deref-2.result.now c.deref-3.result.now c.requires.versioned (c.deref-3.ensures.value ∙ c.in_ok-items.ensures)
    (λ l. ap (λ xs. slice_index xs l) c.deref-2.ensures.value ∙ c.in_ok-offsets.ensures l ∙ ap (λ g. g l) same)

pub references_of-requires : goal.references_of-requires
references_of-requires c = whole_short c.args.function.now c.deref-4.result.now c.requires.versioned (c.deref-4.ensures.value ∙ c.in_ok-items.ensures)

pub named-requires-clause-few : goal.named-requires-clause-few
named-requires-clause-few c =
    whole_few c.args.function.now c.deref-5.result.now c.requires.versioned
    (c.deref-5.ensures.value ∙ c.in_ok-references.ensures ∙ ap references (c.deref-4.ensures.value ∙ c.in_ok-items.ensures))

pub named-requires-clause-fits : goal.named-requires-clause-fits
named-requires-clause-fits c =
    whole_named c.args.function.now c.deref-5.result.now c.requires.versioned
    (c.deref-5.ensures.value ∙ c.in_ok-references.ensures ∙ ap references (c.deref-4.ensures.value ∙ c.in_ok-items.ensures))

pub returns-clause-words : goal.returns-clause-words
returns-clause-words c =
    let same = ap label_offset (c.deref.ensures.value ∙ sym c.deref-3.ensures.value) in
    let words : c.from_vec.result ≡ words_of_code c.args.function.now =
    c.from_vec.ensures
    ∙ whole_words c.args.function.now c.deref-2.result.now c.deref-3.result.now c.in_ok-words.words.items (c.deref-3.ensures.value ∙ c.in_ok-items.ensures)
    (λ l. ap (λ xs. slice_index xs l) c.deref-2.ensures.value ∙ c.in_ok-offsets.ensures l ∙ ap (λ g. g l) same) c.in_ok-words.ensures
    in
    words

pub returns-clause-relocations : goal.returns-clause-relocations
returns-clause-relocations c =
    whole_relocations c.args.function.now c.deref-5.result.now c.in_ok-named.named.relocations
    (c.deref-5.ensures.value ∙ c.in_ok-references.ensures ∙ ap references (c.deref-4.ensures.value ∙ c.in_ok-items.ensures)) c.in_ok-named.ensures.relocations

pub returns-clause-names : goal.returns-clause-names
returns-clause-names c =
    whole_names c.args.function.now c.deref-5.result.now c.in_ok-named.named.names
    (c.deref-5.ensures.value ∙ c.in_ok-references.ensures ∙ ap references (c.deref-4.ensures.value ∙ c.in_ok-items.ensures)) c.in_ok-named.ensures.names

pub returns-clause-fills : goal.returns-clause-fills
returns-clause-fills c = whole_fills c.args.function.now c.from_vec.result c.in_ok-named.named.relocations c.requires.versioned (returns-clause-words c) (returns-clause-relocations c)

pub returns-clause-named : goal.returns-clause-named
returns-clause-named c = whole_in_order c.args.function.now c.in_ok-named.named.names c.in_ok-named.named.relocations (returns-clause-names c) (returns-clause-relocations c)

pub returns-clause-once : goal.returns-clause-once
returns-clause-once c = whole_once c.args.function.now c.in_ok-named.named.names (returns-clause-names c)

pub returns-clause-bound : goal.returns-clause-bound
returns-clause-bound c = whole_bound c.args.function.now c.from_vec.result c.requires.versioned (returns-clause-words c)
