use Rattle.std.proofs.Common.{ap, arith}
use Rattle.spk_lattice.specs.Layout.{sites_of}
use Rattle.spk_patch.specs.Patches.{PatchSites}
use Rattle.spk_turn.specs.Sectors.{slots_on}
use Rattle.spk_turn.specs.Slots.{slot_count}
use Rattle.spk_turn.proofs.Patches.{slots_few}
use Rattle.spk_turn.proofs.patch_turns.tests.turned.Goals as goal

pub turn_kmc-counts-requires-clause-room : goal.turn_kmc-counts-requires-clause-room
turn_kmc-counts-requires-clause-room g c =
    let few = slots_few c.args.patch.now c.args.cells.now c.known.ensures.patch c.known.ensures.wrapped c.requires.cells in
    omega (arith, few, c.in_ok-solver.ensures.capacity, c.sites.ensures.count, ap sites_of c.lattice.ensures)

pub turn_kmc_again-more-requires-clause-room : goal.turn_kmc_again-more-requires-clause-room
turn_kmc_again-more-requires-clause-room g c =
    let few = slots_few c.args.patch.now c.args.cells.now c.known.ensures.patch c.known.ensures.wrapped c.requires.cells in
    let same = ap (λ (p : PatchSites). slot_count (slots_on p c.args.cells.now)) c.turn_kmc-counts.ensures.patch in
    omega (arith, few, same, c.in_ok-solver.ensures.capacity, c.turn_kmc-counts.ensures.capacity, c.sites.ensures.count, ap sites_of c.lattice.ensures)
