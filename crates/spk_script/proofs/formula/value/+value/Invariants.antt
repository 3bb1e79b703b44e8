use Rattle.std.proofs.Common.{◌≡◌, ◌+◌, ◌-◌, ◌*◌, drop}
use Rattle.spk_script.specs.Tables.{environment_of}
use Rattle.spk_script.specs.Evaluation.{naming_of, started, run}
use Rattle.spk_script.proofs.formula.value.+value.Given as goal

-- a name stands deeper than the formula that it is in; at one depth the calls follow one another
abbrev pub decreases-value_of_name : goal.decreases-value_of_name
decreases-value_of_name l = 6 * (100 - l.depth) + 5

abbrev pub decreases-value_of_text : goal.decreases-value_of_text
decreases-value_of_text l = 6 * (100 - l.depth) + 4

abbrev pub decreases-value_of_parts : goal.decreases-value_of_parts
decreases-value_of_parts l = 6 * (100 - l.depth) + 3

abbrev pub decreases-step : goal.decreases-step
decreases-step l = 6 * (100 - l.depth) + 2

abbrev pub decreases-operand : goal.decreases-operand
decreases-operand l = 6 * (100 - l.depth) + 1

abbrev pub decreases-named : goal.decreases-named
decreases-named l = 6 * (100 - l.depth)

-- the parts that are left come to what all parts do
abbrev pub invariant-value_of_parts-loop-part : goal.invariant-value_of_parts-loop-part
invariant-value_of_parts-loop-part l =
    run (naming_of (environment_of l.variables)) l.depth (started l.operand_count) l.parts ≡ run (naming_of (environment_of l.variables)) l.depth
    l.progress (drop l.part-index l.parts)
