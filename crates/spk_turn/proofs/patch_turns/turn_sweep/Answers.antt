use Rattle.std.proofs.Common.{◌+◌, ap, sym, ◌∙◌}
use Rattle.spk_patch.specs.Patches.{sight_of}
use Rattle.spk_sched.specs.Turns.{no_counts, sweeps_of}
use Rattle.spk_turn.specs.Ready.{sector_on}
use Rattle.spk_turn.specs.Slots.{BoxSlots, places}
use Rattle.spk_turn.proofs.Patches.{patch_ready, same_frame}
use Rattle.spk_turn.proofs.patch_turns.turn_sweep.Goals as goal

pub sweeps-counts-requires-clause-ready : goal.sweeps-counts-requires-clause-ready
sweeps-counts-requires-clause-ready g c =
    patch_ready (g.A.App.rules c.args.app.now) (g.A.App.PROP + g.A.App.STEP) c.args.patch.now c.known.ensures.patch c.known.ensures.wrapped c.requires.valid g.met.A.App.narrow.few

pub returns-clause-turn : goal.returns-clause-turn
returns-clause-turn g c = λ rule.
    ap (λ (slots : BoxSlots). sweeps_of c.args.style (sector_on (g.A.App.rules c.args.app.now) rule (sight_of c.args.patch.now) (places slots)) c.args.count (record { values = c.args.patch.now.values; stream = c.args.stream.now; counts = no_counts })) (sym c.slots_of-slots.ensures)
    ∙ c.sweeps-counts.ensures.turn rule

pub returns-clause-patch : goal.returns-clause-patch
returns-clause-patch g c = same_frame c.args.patch.now c.sweeps-counts.new.view c.known.ensures.patch c.known-2.ensures.patch (sym c.sweeps-counts.ensures.frame)
