use Rattle.std.proofs.Common.{◌≡◌, map, take}
use Rattle.spk_cmds.specs.Values.{words_of}
use Rattle.spk_cmds.specs.Makers.Dump.{field_of}
use Rattle.spk_cmds.proofs.makers.dump.fields_named.Given as goal

-- the fields of the words so far
abbrev pub invariant-loop-value : goal.invariant-loop-value
invariant-loop-value l = l.fields.items ≡ map field_of (words_of (take l.value-index l.value-items))
