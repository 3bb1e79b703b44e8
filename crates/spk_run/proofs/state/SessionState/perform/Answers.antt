use Rattle.std.proofs.Common.{Err}
use Rattle.spk_run.proofs.CommandSteps.{stopped_command, stopped_leaves, print_done, print_left, set_done, run_done, run_left, free_run}
use Rattle.spk_run.proofs.Sessions.{command_out_of_memory}
use Rattle.spk_run.proofs.SiteFileReads.{sites_read, sites_left}
use Rattle.spk_run.proofs.state.SessionState.perform.Goals as goal

pub returns-in-ReadSites-clause-wrote : goal.returns-in-ReadSites-clause-wrote
returns-in-ReadSites-clause-wrote g c = rw c.in-ReadSites.is (sites_read _ c.in-ReadSites.file _ c.read_sites.ensures.wrote)

pub returns-in-ReadSites-clause-session : goal.returns-in-ReadSites-clause-session
returns-in-ReadSites-clause-session g c = rw c.in-ReadSites.is (sites_left _ _ _ c.in-ReadSites.file _ c.read_sites.ensures.session)

pub run-requires-clause-free : goal.run-requires-clause-free
run-requires-clause-free g c = free_run _ c.in-Run.length _ c.ticks_of.ensures.ticks (rw c.in-Run.is at c.requires.free)

pub returns-in_err-run-in-Run-clause-wrote : goal.returns-in_err-run-in-Run-clause-wrote
returns-in_err-run-in-Run-clause-wrote g c =
    rw c.in-Run.is (stopped_command _ _ _ c.from_residual.ensures.1 (run_done _ c.in-Run.length _ _ c.ticks_of.ensures.ticks c.in_err-run-in-Run.ensures.wrote))

pub returns-in_err-run-in-Run-clause-session : goal.returns-in_err-run-in-Run-clause-session
returns-in_err-run-in-Run-clause-session g c =
    rw c.in-Run.is (stopped_leaves _ _ _ _ _ _ c.from_residual.ensures.1
    (run_left (g.W.World.state c.args.world.now).told c.args.self.now c.run.new.self c.in-Run.length _ (Err c.in_err-run-in-Run.field-0.0) c.ticks_of.ensures.ticks c.in_err-run-in-Run.ensures.session))

pub returns-in_ok-run-in-Run-clause-wrote : goal.returns-in_ok-run-in-Run-clause-wrote
returns-in_ok-run-in-Run-clause-wrote g c = rw c.in-Run.is (run_done _ c.in-Run.length _ _ c.ticks_of.ensures.ticks c.in_ok-run-in-Run.ensures.wrote)

pub returns-in_err-print-in-Print-clause-wrote : goal.returns-in_err-print-in-Print-clause-wrote
returns-in_err-print-in-Print-clause-wrote g c =
    rw c.in-Print.is (stopped_command _ _ _ c.from_residual-in_err-print-in-Print.ensures.1
    (print_done _ _ c.args.self.now c.in-Print.text (Err c.in_err-print-in-Print.field-0.0) c.in_err-print-in-Print.ensures.wrote))

pub returns-in_err-print-in-Print-clause-session : goal.returns-in_err-print-in-Print-clause-session
returns-in_err-print-in-Print-clause-session g c =
    rw c.in-Print.is (stopped_leaves _ _ _ _ _ _ c.from_residual-in_err-print-in-Print.ensures.1
    (print_left (g.W.World.state c.args.world.now).told c.args.self.now c.in-Print.text (Err c.in_err-print-in-Print.field-0.0) c.in_err-print-in-Print.ensures.read))

pub returns-in_ok-print-in-Print-clause-wrote : goal.returns-in_ok-print-in-Print-clause-wrote
returns-in_ok-print-in-Print-clause-wrote g c = rw c.in-Print.is (print_done _ _ _ c.in-Print.text _ c.in_ok-print-in-Print.ensures.wrote)

pub returns-in_err-set-in_default-clause-wrote : goal.returns-in_err-set-in_default-clause-wrote
returns-in_err-set-in_default-clause-wrote g c = command_out_of_memory _ _ c.from_residual-in_err-set-in_default.ensures.1

pub returns-in_ok-set-in_default-clause-wrote : goal.returns-in_ok-set-in_default-clause-wrote
returns-in_ok-set-in_default-clause-wrote g c = set_done _ _ _ c.in_default.not-Run c.in_default.not-Print c.in_default.not-ReadSites c.in_ok-set-in_default.ensures
