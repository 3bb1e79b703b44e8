use Rattle.std.proofs.Common.{◌≡◌, ℕ, List, Option, length}
use Rattle.spk_run.specs.Areas.{IsArea}
use Rattle.spk_run.specs.Drawing.{IsSetFrom, values_from}
use Rattle.spk_run.specs.Commands.Set.{is_in}
use Rattle.spk_run.proofs.values.Values.set_each.Given as goal

abbrev pub invariant-loop-place : goal.invariant-loop-place
invariant-loop-place l = record {
  all : length l.self ≡ length l.initial.self;
  values : (name : Option (List ℕ)) → IsArea l.regions name l.asked.area →
      IsSetFrom l.asked.value l.asked.fraction (is_in l.regions l.lattice name)
      (values_from l.asked.value l.asked.fraction (is_in l.regions l.lattice name) 1 l.initial.self l.initial.stream) l.place l.self l.stream;
}
