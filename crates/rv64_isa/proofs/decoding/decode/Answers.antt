use Rattle.std.proofs.Common.{◌≡◌, ℕ, ◌<◌, ◌^◌, Option, Some, None, IfSome, IfNone, sym, ap, ◌∙◌}
use Rattle.std.specs.Prelude.{option_and_then}
use Rattle.rv64_isa.specs.declared.instr.Instr.{Instr}
use Rattle.rv64_isa.specs.Format.{format_of_fields}
use Rattle.rv64_isa.specs.Table.{instr_of_format}
use Rattle.rv64_isa.specs.Words.{InRange, word_of, instr_of}
use Rattle.rv64_isa.proofs.WordLaws.{instr_of-word_of, word_of-instr_of}
use Rattle.rv64_isa.proofs.decoding.decode.Goals as goal
use Rattle.rv64_isa.proofs.decoding.decode.Goals.{After-instr_of_fields}

found : (w : ℕ) (o : Option Instr) → w < 2 ^ 32 → instr_of w ≡ o → IfSome o (λ i. InRange i × (word_of i ≡ w))
found w None h e = tt
found w (Some i) h e = let s = word_of-instr_of w i h e in (s.in_range, s.same)

again : (w : ℕ) (o : Option Instr) → o ≡ instr_of w → (i : Instr) → InRange i → word_of i ≡ w → o ≡ Some i
again w o e i h same = e ∙ sym (ap instr_of same) ∙ instr_of-word_of i h

none : (w : ℕ) (o : Option Instr) → o ≡ instr_of w → IfNone o ((i : Instr) → InRange i → word_of i ≡ w → ⊥)
none w None e = λ i h same. let a = again w None e i h same in cc
none w (Some i) e = tt

-- the value, which the other clauses speak of
value : (c : After-instr_of_fields) → c.instr_of_fields.result ≡ instr_of c.args.word
value c = c.instr_of_fields.ensures ∙ ap (λ f. option_and_then instr_of_format (format_of_fields f)) c.of_word.ensures

pub returns-clause-found : goal.returns-clause-found
returns-clause-found c = found c.args.word c.instr_of_fields.result c.ranges.word.fits (sym (value c))

pub returns-clause-again : goal.returns-clause-again
returns-clause-again c = again c.args.word c.instr_of_fields.result (value c)

pub returns-clause-none : goal.returns-clause-none
returns-clause-none c = none c.args.word c.instr_of_fields.result (value c)
