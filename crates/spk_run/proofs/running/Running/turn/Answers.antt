use Rattle.std.proofs.Common.{refl, sym, ap, ◌∙◌}
use Rattle.spk_patch.specs.Patches.{PatchSites, place_count}
use Rattle.spk_sched.specs.Globals.{kinetics_of}
use Rattle.spk_run.proofs.RunSteps.{has_turned, sweeps_go, sweeps_stay, turned_shows}
use Rattle.spk_run.proofs.WholeRanks.{all_cells_with}
use Rattle.spk_run.proofs.running.Running.turn.Goals as goal

pub returns-in-Some-clause-ready : goal.returns-in-Some-clause-ready
returns-in-Some-clause-ready g c = record {
  kept = c.turn.ensures.kept;
  values = c.requires.ready.values ∙ sym (ap (λ (p : PatchSites). place_count p) c.turn.ensures.patch);
  show = turned_shows c.args.self.now _ _ _ c.turn.ensures.patch c.requires.ready.show;
}

pub returns-in-Some-clause-done : goal.returns-in-Some-clause-done
returns-in-Some-clause-done g c = λ rule settings domain done one whole same window_is has.
    has_turned (kinetics_of (g.A.App.rules c.args.app.now) rule) settings domain done c.args.ticks c.args.self.now _ one window_is c.known.ensures.patch has
    (record {
      lattice = has.keeps.lattice;
      streams = has.keeps.streams;
      counts = has.keeps.counts;
      patch = all_cells_with _ _ _ _ c.turn.ensures.patch has.keeps.patch;
      cells = c.turn.ensures.cells ∙ has.keeps.cells;
      on = has.keeps.on;
      some_stream = has.keeps.some_stream;
    })
    refl
    (c.saturating_add-self.ensures ∙ sweeps_go settings c.in-Some.field-0 done domain.sweeps c.args.self.now.sweeps c.args.ticks one (same ∙ c.in-Some.is) whole window_is has.sweeps)
    c.turn.ensures.solver (rw same c.turn.ensures.state)

pub returns-in_default-clause-ready : goal.returns-in_default-clause-ready
returns-in_default-clause-ready g c = record {
  kept = c.turn.ensures.kept;
  values = c.requires.ready.values ∙ sym (ap (λ (p : PatchSites). place_count p) c.turn.ensures.patch);
  show = turned_shows c.args.self.now _ _ _ c.turn.ensures.patch c.requires.ready.show;
}

pub returns-in_default-clause-done : goal.returns-in_default-clause-done
returns-in_default-clause-done g c = λ rule settings domain done one whole same window_is has.
    has_turned (kinetics_of (g.A.App.rules c.args.app.now) rule) settings domain done c.args.ticks c.args.self.now _ one window_is c.known.ensures.patch has
    (record {
      lattice = has.keeps.lattice;
      streams = has.keeps.streams;
      counts = has.keeps.counts;
      patch = all_cells_with _ _ _ _ c.turn.ensures.patch has.keeps.patch;
      cells = c.turn.ensures.cells ∙ has.keeps.cells;
      on = has.keeps.on;
      some_stream = has.keeps.some_stream;
    })
    refl
    (sweeps_stay settings done domain.sweeps c.args.self.now.sweeps (same ∙ c.in_default.is) has.sweeps)
    c.turn.ensures.solver (rw same c.turn.ensures.state)
