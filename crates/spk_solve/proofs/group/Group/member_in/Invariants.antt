use Rattle.std.proofs.Common.{◌≡◌, ◌+◌, ◌-◌}
use Rattle.spk_solve.specs.Groups.{count_in}
use Rattle.spk_solve.proofs.group.Group.member_in.Given as goal

abbrev pub invariant-places : goal.invariant-places
invariant-places l = l.left + count_in l.self.list l.bin l.first (l.place - l.first) ≡ l.rest
