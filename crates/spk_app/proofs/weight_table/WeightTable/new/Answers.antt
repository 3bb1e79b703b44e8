use Rattle.spk_app.proofs.Weighing.{rises_more, rises_all}
use Rattle.spk_app.proofs.weight_table.WeightTable.new.Goals as goal

pub rises-preserved : goal.rises-preserved
rises-preserved c = rises_more c.args.temperature c.rises.rise c.weight_of_rise.result c.rises.weights c.rises-test.true c.weight_of_rise.ensures c.rises.invariant

pub invariant_of-result : goal.invariant_of-result
invariant_of-result c = rises_all c.args.temperature c.rises.rise c.rises.weights c.rises-test.false c.rises.invariant
