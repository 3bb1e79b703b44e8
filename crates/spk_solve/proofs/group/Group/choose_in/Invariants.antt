use Rattle.std.proofs.Common.{◌≡◌, ◌+◌, ◌-◌, ◌*◌, ◌<◌, ◌≤◌, length, get_or}
use Rattle.spk_solve.specs.Bins.{taken, taken_of}
use Rattle.spk_solve.specs.SumTrees.{search_steps}
use Rattle.spk_solve.proofs.group.Group.choose_in.Given as goal

abbrev pub invariant-tries : goal.invariant-tries
invariant-tries g l = record {
  same : taken l.self.list l.bin (64 - l.counter) (record { place = l.drawn.place; value = l.drawn.value; stream = l.stream })
      ≡ taken_of l.self.list l.bin l.fn.stream;
  place : l.drawn.place < length l.self.list;
  some : 0 < get_or l.self.list l.drawn.place 0;
  later : l.fn.steps ≤ l.steps;
  cost : l.steps ≤ l.fn.steps + l.counter * search_steps (length l.self.list);
}
