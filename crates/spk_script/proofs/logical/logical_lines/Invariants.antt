use Rattle.std.proofs.Common.{◌≡◌, ◌+◌, ◌-◌, ◌≤◌, length, drop}
use Rattle.spk_script.specs.Lines.{runs_of, logical_lines}
use Rattle.spk_script.proofs.Gathered.{put_all}
use Rattle.spk_script.proofs.Runs.{nows}
use Rattle.spk_script.proofs.logical.logical_lines.Given as goal

-- what was read so far, and what is read from here on
abbrev pub invariant-loop-start : goal.invariant-loop-start
invariant-loop-start l = record {
  read : logical_lines 1 (runs_of (nows l.lines)) ≡ put_all l.logical.items (logical_lines (l.start + 1) (runs_of (nows (drop l.start l.lines))));
  within : l.start ≤ length l.lines;
}

abbrev pub decreases-loop-start : goal.decreases-loop-start
decreases-loop-start l = length l.lines - l.start
