use Rattle.std.proofs.Common.{◌≡◌, ◌+◌, length, map}
use Rattle.std.specs.String.{string_bytes}
use Rattle.spk_cmds.specs.CommandLine.{options_from, options_of}
use Rattle.spk_cmds.specs.Usages.{line_seen}
use Rattle.spk_cmds.proofs.options.words_of.Given as goal

-- the words that are left come to what all words do
abbrev pub invariant-loop-left : goal.invariant-loop-left
invariant-loop-left l = record {
  left : options_from (line_seen l.line) l.place (map string_bytes l.left) ≡ options_of (map string_bytes l.fn.args);
  place : l.place + length l.left ≡ length l.fn.args + 1;
}

abbrev pub decreases-loop-left : goal.decreases-loop-left
decreases-loop-left l = length l.left
