use Rattle.std.proofs.Common.{◌+◌}
use Rattle.spk_turn.proofs.Patches.{patch_ready}
use Rattle.spk_turn.proofs.patch_turns.turn_kmc.Goals as goal

pub fill-requires-clause-ready : goal.fill-requires-clause-ready
fill-requires-clause-ready g c =
    patch_ready (g.A.App.rules c.args.app.now) (g.A.App.PROP + g.A.App.STEP) c.args.patch.now c.known.ensures.patch c.known.ensures.wrapped c.requires.valid g.met.A.App.narrow.few
