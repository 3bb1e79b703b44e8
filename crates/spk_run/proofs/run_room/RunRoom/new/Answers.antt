use Rattle.std.proofs.Common.{rules, arith}
use Rattle.spk_run.proofs.run_room.RunRoom.new.Goals as goal

pub returns-clause-room : goal.returns-clause-room
returns-clause-room c = λ dumps has. record {
  patch = search rules;
  solver = λ none. omega (arith, c.kept_sites-kept.ensures.all none, c.in_ok-new-3.ensures.room);
  writer = c.requires.can_write;
  lattice = c.requires.lattice;
  texts = has;
  piece = search rules;
}
