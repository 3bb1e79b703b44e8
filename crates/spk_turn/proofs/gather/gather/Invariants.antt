use Rattle.std.proofs.Common.{◌+◌}
use Rattle.spk_turn.proofs.Gathering.{IsGathered, IsWidened}
use Rattle.spk_turn.proofs.gather.gather.Given as goal

abbrev pub invariant-hops : goal.invariant-hops
invariant-hops g l = IsGathered (g.V.View.sight l.view).near l.counter l.fn.gathered l.first l.gathered

abbrev pub invariant-loop-k : goal.invariant-loop-k
invariant-loop-k g l = IsWidened (g.V.View.sight l.view).near (l.counter + 1) l.fn.gathered l.k l.initial.gathered l.gathered
