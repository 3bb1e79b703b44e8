use Rattle.spk_app.proofs.Weighing.{FirstRises}
use Rattle.spk_app.proofs.weight_table.WeightTable.new.Given as goal

abbrev pub invariant-rises : goal.invariant-rises
invariant-rises l = FirstRises l.temperature l.rise l.weights
