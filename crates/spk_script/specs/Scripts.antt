-- What the logical lines of each script that was read have in common.
use Rattle.std.specs.Prelude.{◌<◌, List}
use Rattle.std.specs.List.{All, AllPairs}
use Rattle.std.specs.Str.{IsAscii}
use Rattle.spk_script.specs.Lines.{LogicalLine}

-- their words are ASCII, and their numbers rise
pub record IsScript (lines : List LogicalLine) : Type 0 where
  pub ascii : All (λ line. All (λ word. IsAscii word.text) line.words) lines
  pub rising : AllPairs (λ line later. line.number < later.number) lines
