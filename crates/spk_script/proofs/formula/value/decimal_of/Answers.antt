use Rattle.spk_script.proofs.Small.{millionths_small}
use Rattle.spk_script.proofs.formula.value.decimal_of.Goals as goal

pub new-requires : goal.new-requires
new-requires c = millionths_small c.args.text.now c.in-Ok.number.millionths c.in-Ok.ensures
