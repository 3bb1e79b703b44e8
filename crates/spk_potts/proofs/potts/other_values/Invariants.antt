use Rattle.spk_potts.proofs.Values.{FirstOthers}
use Rattle.spk_potts.proofs.potts.other_values.Given as goal

abbrev pub invariant-near : goal.invariant-near
invariant-near l = FirstOthers l.own l.near l.value-index l.others
