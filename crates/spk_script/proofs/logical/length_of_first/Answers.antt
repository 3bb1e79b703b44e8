use Rattle.std.proofs.Common.{[]}
use Rattle.spk_script.proofs.Runs.{run_goes, run_ends, run_is_all}
use Rattle.spk_script.proofs.logical.length_of_first.Goals as goal

pub returns-then-not-continues-clause-cut : goal.returns-then-not-continues-clause-cut
returns-then-not-continues-clause-cut c =
    run_ends c.args.lines.now c.loop-index.index (record { ref_ptr = (0, 0); now = [] }) c.loop-index-test.true (cc) c.loop-index.invariant

pub loop-index-preserved : goal.loop-index-preserved
loop-index-preserved c =
    run_goes c.args.lines.now c.loop-index.index (record { ref_ptr = (0, 0); now = [] }) c.loop-index-test.true (cc) c.loop-index.invariant

pub returns-clause-cut : goal.returns-clause-cut
returns-clause-cut c = run_is_all c.args.lines.now c.loop-index.index c.requires c.loop-index.auto.index-end c.loop-index-test.false c.loop-index.invariant
