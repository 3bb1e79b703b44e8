use Rattle.std.proofs.Common.{ℕ, ◌+◌, ◌*◌, ◌≤◌, List, ap, sym, subst, ◌∙◌}
use Rattle.spk_lattice.specs.Spread.{spread}
use Rattle.spk_patch.specs.Patches.{sight_of}
use Rattle.spk_turn.specs.Ready.{propensities_in}
use Rattle.spk_turn.specs.Slots.{BoxSlots, slot_count}
use Rattle.spk_turn.proofs.Patches.{patch_ready, patch_spread, places_stay, same_frame}
use Rattle.spk_turn.proofs.patch_turns.turn_kmc_again.Goals as goal

pub turn-counts-requires-clause-ready : goal.turn-counts-requires-clause-ready
turn-counts-requires-clause-ready g c =
    patch_ready (g.A.App.rules c.args.app.now) (g.A.App.PROP + g.A.App.STEP) c.args.patch.now c.known.ensures.patch c.known.ensures.wrapped c.requires.valid g.met.A.App.narrow.few

pub returns-clause-patch : goal.returns-clause-patch
returns-clause-patch g c = same_frame c.args.patch.now c.turn-counts.new.view c.known.ensures.patch c.known-2.ensures.patch (sym c.turn-counts.ensures.frame)

pub returns-clause-afresh : goal.returns-clause-afresh
returns-clause-afresh g c =
    let same = same_frame c.args.patch.now c.turn-counts.new.view c.known.ensures.patch c.known-2.ensures.patch (sym c.turn-counts.ensures.frame) in
    c.turn-counts.ensures.afresh
    ∙ ap (λ (places : List ℕ). propensities_in (g.A.App.rules c.args.app.now) (sight_of c.turn-counts.new.view) places) (places_stay c.args.patch.now c.turn-counts.new.view c.args.cells.now c.slots_of-slots.result c.slots_of-slots.ensures same)

pub returns-clause-cost : goal.returns-clause-cost
returns-clause-cost g c =
    let hops = g.A.App.PROP + g.A.App.STEP in
    let most = spread c.args.patch.now.lattice.style hops in
    let done = c.turn-counts.result.accepted in
    subst (λ (slots : BoxSlots). c.turn-counts.new.steps ≤ c.args.steps.now + done * (most + 1) + (done + 1) * g.S.Solver.reach (slot_count slots)) c.slots_of-slots.ensures
    (c.turn-counts.ensures.cost most (λ place less. patch_spread c.args.patch.now hops c.known.ensures.patch c.known.ensures.wrapped g.met.A.App.narrow.few place less))
