-- Lines of a site file, and their words.
use Rattle.std.specs.Prelude.{◌≡◌, ℕ, ◌||◌, ◌==◌, Bool, nat_lt, ◌≤◌, List, [], ◌∷◌, length, map, filter}
use Rattle.std.specs.List.{slice_split}
use Rattle.spk_files.specs.declared.line.Line.{Line as LineWords}
use Rattle.spk_files.specs.declared.line.Line.TheVariants as line

-- the words of a line
abbrev pub Line : Type 0
Line = List (List ℕ)

abbrev pub is_blank : ℕ → Bool
is_blank b = (b == 32) || (b == 9) || (b == 13)

abbrev pub has_bytes : List ℕ → Bool
has_bytes word = nat_lt 0 (length word)

-- words stand between blanks
abbrev pub words_of : List ℕ → Line
words_of text = filter has_bytes (slice_split is_blank text)

abbrev pub lines_of : List ℕ → List Line
lines_of bytes = map words_of (slice_split (λ b. b == 10) bytes)

-- what the code keeps of a line
abbrev pub HasWords : LineWords → Line → Type 0
HasWords line.Empty words = words ≡ []
HasWords (line.One word) words = words ≡ word.now ∷ []
HasWords (line.Two first second) words = words ≡ first.now ∷ second.now ∷ []
HasWords line.More words = 3 ≤ length words
