-- A text that is spelled line by line and word by word has these lines and words.
use Rattle.std.proofs.Common.{◌≡◌, ◌≢◌, ℕ, ◌<◌, ◌==◌, true, false, List, [], ◌∷◌, ◌++◌, Some, All, refl, inl, arith}
use Rattle.std.proofs.lemmas.Bool.Decides.{nat_tests}
use Rattle.std.proofs.lemmas.List.Elements.{All-weaker}
use Rattle.std.proofs.lemmas.List.Splits.{slice_split_at, slice_split_none}
use Rattle.cursors.specs.Lines.{IsNoNewline, lines_of}
use Rattle.cursors.proofs.LineLaws.{lines_at}
use Rattle.text_lines.specs.Words.{is_space, words_of}

-- a byte above the space and all control bytes
abbrev pub IsVisible : ℕ → Type 0
IsVisible byte = 32 < byte

no_space : (byte : ℕ) → IsVisible byte → is_space byte ≡ false
no_space byte h = grind (arith, nat_tests)

pub no_newline : (byte : ℕ) → IsVisible byte → IsNoNewline byte
no_newline byte h = λ e. absurd (omega arith)

pub words_of-then : (word rest : List ℕ) → All IsVisible word → words_of (word ++ 32 ∷ rest) ≡ word ∷ words_of rest
words_of-then word rest h = slice_split_at is_space word 32 rest (All-weaker IsVisible (λ b. is_space b ≡ false) no_space word h) refl

pub words_of-last : (word : List ℕ) → All IsVisible word → words_of word ≡ word ∷ []
words_of-last word h = slice_split_none is_space word (All-weaker IsVisible (λ b. is_space b ≡ false) no_space word h)

not_empty : (line rest : List ℕ) → line ++ 10 ∷ rest ≢ []
not_empty [] rest e = absurd cc
not_empty (b ∷ bs) rest e = absurd cc

pub lines_of-then : (line rest : List ℕ) → All IsNoNewline line → lines_of (line ++ 10 ∷ rest) ≡ line ∷ lines_of rest
lines_of-then line rest h = lines_at (line ++ 10 ∷ rest) rest (Some line) (not_empty line rest, h, inl refl)
