use Rattle.std.proofs.Common.{◌≡◌, ◌++◌, ◌-◌, ◌≤◌, length, drop}
use Rattle.spk_script.specs.Formulas.{parts_after, parts_of}
use Rattle.spk_script.proofs.formula.part.parts_of.Given as goal

-- the parts so far stand before those of what is left
abbrev pub invariant-loop-at : goal.invariant-loop-at
invariant-loop-at l = record {
  within : l.at ≤ length l.text;
  parts : parts_of l.text ≡ l.parts.items ++ parts_after 0 l.at (drop l.at l.text);
}

abbrev pub decreases-loop-at : goal.decreases-loop-at
decreases-loop-at l = length l.text - l.at
