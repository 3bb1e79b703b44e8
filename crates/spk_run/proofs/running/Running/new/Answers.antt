use Rattle.std.proofs.Common.{refl, sym, ap, ◌∙◌, length, arith}
use Rattle.spk_sched.proofs.PlanLaws.{elapsed_none}
use Rattle.spk_sched.specs.Globals.{kinetics_of}
use Rattle.spk_run.specs.Solvers.{rule_of, style_of}
use Rattle.spk_run.proofs.DumpTelling.{room_started}
use Rattle.spk_run.proofs.Ranks.{one_rank_started}
use Rattle.spk_run.proofs.WholeRanks.{all_cells_with, all_shown, new_kept, no_sweeps}
use Rattle.spk_run.proofs.running.Running.new.Goals as goal

pub returns-clause-done : goal.returns-clause-done
returns-clause-done g c = λ settings same.
    let shown = all_shown c.args.domain.lattice c.args.room.patch c.fill_from.new.self c.as_slice.result.now c.known-2.ensures.patch c.requires.room_for.patch c.fill_from.ensures (ap length c.as_slice.ensures ∙ c.requires.fits) in
    record {
      keeps = record {
        lattice = refl;
        streams = refl;
        counts = refl;
        patch = all_cells_with _ _ _ _ c.fill_from.ensures c.requires.room_for.patch;
        cells = c.all_cells.ensures;
        on = c.known.ensures;
        some_stream = c.first.ensures.some;
      };
      time = omega (arith, elapsed_none settings);
      sweeps = c.sweep_count-sweeps.ensures ∙ no_sweeps settings c.args.domain.sweeps (omega (arith, c.sweep_count-sweeps.ensures, c.sweep_count-sweeps.type_inv));
      rule = refl;
      state = one_rank_started (kinetics_of (g.A.App.rules c.args.app.now) (rule_of (style_of c.args.room.solver))) settings c.args.domain _ _ _ (shown ∙ c.as_slice.ensures) c.first.ensures.stream c.none.ensures;
    }

pub returns-clause-ready : goal.returns-clause-ready
returns-clause-ready g c =
    let shown = all_shown c.args.domain.lattice c.args.room.patch c.fill_from.new.self c.as_slice.result.now c.known-2.ensures.patch c.requires.room_for.patch c.fill_from.ensures (ap length c.as_slice.ensures ∙ c.requires.fits) in
    record {
      kept = new_kept (g.A.App.rules c.args.app.now) c.args.sweep c.args.domain.lattice c.args.domain.values _ c.known-2.ensures.patch (all_cells_with _ _ _ _ c.fill_from.ensures c.requires.room_for.patch) c.all_cells.ensures
          (shown ∙ c.as_slice.ensures) c.requires.valid c.requires.room_for.solver refl c.none.ensures;
      values = sym (ap length (shown ∙ c.as_slice.ensures)) ∙ c.known-2.ensures.patch.filled;
      show = record {
        patch = all_cells_with _ _ _ _ c.fill_from.ensures c.requires.room_for.patch;
        piece = c.requires.room_for.piece;
        tell = λ working. rw c.new.ensures.writer c.requires.room_for.writer;
        lattice = rw c.new.ensures.writer c.requires.room_for.lattice;
        ranks = rw c.new.ensures.writer c.requires.room_for.writer.one;
        texts = rw (c.new.ensures.writer, c.start.ensures) (room_started c.args.room.writer c.args.domain.time c.args.dumps c.requires.room_for.texts);
      };
    }
