use Rattle.std.proofs.Common.{◌≡◌, ◌≤◌, map, take}
use Rattle.std.specs.List.{All}
use Rattle.spk_run.specs.Dumps.{due_of}
use Rattle.spk_run.proofs.dumps.Dumps.dues.Given as goal

abbrev pub invariant-loop-dump : goal.invariant-loop-dump
invariant-loop-dump l = record {
  dues : l.dues.items ≡ map (due_of l.start) (take l.dump-index l.dump-items);
  some : All (λ due. 1 ≤ due.delta) l.dues.items;
}
