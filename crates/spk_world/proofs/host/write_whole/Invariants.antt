use Rattle.spk_world.specs.Host.{TookAllBut}
use Rattle.spk_world.proofs.host.write_whole.Given as goal

abbrev pub invariant-loop : goal.invariant-loop
invariant-loop g l = TookAllBut (g.W.Write.contents l.initial.to) (g.W.Write.contents l.to) l.bytes l.left
