-- Numbers in a fixed count of bytes, the low one first.
use Rattle.std.specs.Prelude.{ℕ, List}
use Rattle.std.specs.Int.{bytes_low_first}

unfoldable pub le16 : ℕ → List ℕ
le16 x = bytes_low_first 0 2 x

unfoldable pub le32 : ℕ → List ℕ
le32 x = bytes_low_first 0 4 x

unfoldable pub le64 : ℕ → List ℕ
le64 x = bytes_low_first 0 8 x
