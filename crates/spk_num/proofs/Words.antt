-- Texts of ASCII.
use Rattle.std.proofs.Common.{ℕ, List}
use Rattle.std.specs.Str.{IsAscii, IsUtf8}
use Rattle.std.proofs.lemmas.Str.{IsUtf8-from_ascii}

-- bytes that are all ASCII are text
pub ascii_is_text : (bs : List ℕ) → IsAscii bs → IsUtf8 bs
ascii_is_text bs ascii = IsUtf8-from_ascii bs ascii
