use Rattle.std.proofs.Common.{length}
use denote.Text.{Utf8}
use denote.Shadow.{shadow}
use Rattle.std.specs.Str.{IsAscii}
use Rattle.spk_script.specs.Tables.{environment_of}
use Rattle.spk_script.proofs.References.{IsSubstitutedSoFar}
use Rattle.spk_script.proofs.substitution.push_substituted.Given as goal

-- the text that the line has been extended by stands before what is left
abbrev pub invariant-loop-before : goal.invariant-loop-before
invariant-loop-before l = record {
  utf8 : shadow (Utf8 l.left);
  reads : IsSubstitutedSoFar (environment_of l.variables) l.word l.fn.line l.line l.left;
  ascii : IsAscii l.left;
}

abbrev pub decreases-loop-before : goal.decreases-loop-before
decreases-loop-before l = length l.left
