use Rattle.std.proofs.Common.{◌∙◌, sym}
use Rattle.spk_sched.specs.Turns.{no_counts}
use Rattle.spk_turn.specs.Slots.{places}
use Rattle.spk_turn.proofs.Steps.{state_with}
use Rattle.spk_turn.proofs.Sweeping.{sweep_goes, sweeps_end}
use Rattle.spk_turn.proofs.sweep.sweeps.Goals as goal

pub sweep-requires-clause-view : goal.sweep-requires-clause-view
sweep-requires-clause-view g c = c.requires.view ∙ sym c.sweeps.invariant.all

pub sweeps-preserved : goal.sweeps-preserved
sweeps-preserved g c = record {
  state = sweep_goes (g.A.App.rules c.args.app.now) (g.V.View.sight c.args.view.now) (g.V.View.sight c.sweeps.view) (g.V.View.sight c.sweep.new.view) (places c.args.slots.now) c.args.style
      (state_with (g.V.View.sight c.args.view.now).values c.args.stream.now no_counts) c.args.count c.sweeps.counter c.sweeps.stream c.sweep.new.stream c.sweeps.counts c.sweep.new.counts
      c.sweeps-test.true c.sweeps.invariant.near c.sweep.ensures.sweep c.sweeps.invariant.state;
  near = c.sweep.ensures.near ∙ c.sweeps.invariant.near;
  all = c.sweep.ensures.all ∙ c.sweeps.invariant.all;
  frame = c.sweep.ensures.frame ∙ c.sweeps.invariant.frame;
  ready = c.sweep.ensures.ready;
}

pub returns-clause-turn : goal.returns-clause-turn
returns-clause-turn g c = λ rule. sym (c.sweeps.invariant.state rule) ∙ sweeps_end _ _ c.args.count c.sweeps.counter _ c.sweeps-test.false
