use Rattle.std.proofs.Common.{◌<◌, ◌∙◌, arith, length, sym}
use Rattle.spk_turn.specs.Slots.{places}
use Rattle.spk_turn.proofs.SlotLaws.{count_is}
use Rattle.spk_turn.proofs.Steps.{state_with}
use Rattle.spk_turn.proofs.Sweeping.{pick_goes, picks_end}
use Rattle.spk_turn.proofs.sweep.sweep.Goals as goal

pub try_at-requires-clause-place : goal.try_at-requires-clause-place
try_at-requires-clause-place g c = omega (arith, c.pick-place.ensures.inside, c.requires.view, c.picks.invariant.all)

pub picks-preserved : goal.picks-preserved
picks-preserved g c =
    let less : c.picks.k < length (places c.args.slots.now) = omega (arith, c.picks-test.true, c.count-k-end.ensures, count_is c.args.slots.now) in
    record {
      state = pick_goes (g.A.App.rules c.args.app.now) (g.V.View.sight c.args.view.now) (g.V.View.sight c.picks.view) (g.V.View.sight c.try_at.new.view) (places c.args.slots.now) c.args.style
          (state_with (g.V.View.sight c.args.view.now).values c.args.stream.now c.args.counts.now) c.picks.k c.pick-place.result c.picks.stream c.pick-place.new.stream c.try_at.new.stream
          c.picks.counts c.try_at.new.counts less c.picks.invariant.near c.pick-place.ensures.place c.pick-place.ensures.stream c.try_at.ensures.state c.picks.invariant.state;
      near = c.try_at.ensures.near ∙ c.picks.invariant.near;
      all = c.try_at.ensures.all ∙ c.picks.invariant.all;
      frame = c.try_at.ensures.frame ∙ c.picks.invariant.frame;
      ready = c.try_at.ensures.ready;
    }

pub returns-clause-sweep : goal.returns-clause-sweep
returns-clause-sweep g c = λ rule. sym (c.picks.invariant.state rule) ∙ picks_end _ _ _ c.picks.k _ (omega (arith, c.picks-test.false, c.count-k-end.ensures, count_is c.args.slots.now))
