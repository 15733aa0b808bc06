-- What the lexer found, as the definitions see it.
use Rattle.std.specs.Prelude.{ℕ}
use Rattle.gimple_tokens.specs.Tokens.{Piece, Gap, Whole, Fault, lexeme_of}
use Rattle.gimple_tokens.specs.declared.lexer.Found.{Found}
use Rattle.gimple_tokens.specs.declared.lexer.Found.TheVariants as code

-- what was found, without where it lies in memory
abbrev pub found : Found → Piece
found (code.Gap n) = Gap n
found (code.Whole token n) = Whole (lexeme_of token) n
found (code.Fault kind) = Fault kind

-- how many bytes after the first belong to it
abbrev pub belongs : Found → ℕ
belongs (code.Gap n) = n
belongs (code.Whole token n) = n
belongs (code.Fault kind) = 0
