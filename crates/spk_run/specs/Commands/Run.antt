-- `run`: it is refused for the first cause that holds, and else runs the sites of the box.
use Rattle.std.specs.Prelude.{ℕ, ◌+◌, Bool, true, not, ◌&&◌, ◌||◌, List, [], ◌∷◌, map, Option, Some, None, is_some, unwrap_or, option_and_then, Result, Ok}
use Rattle.std.specs.Option.{option_map, option_map_or}
use Rattle.std.specs.List.{position}
use Rattle.spk_world.specs.Effects.{Effect, ◌>>=◌, answers}
use Rattle.spk_run.specs.declared.cause.Cause.{Cause}
use Rattle.spk_run.specs.declared.cause.Cause.TheVariants.{NoApp, NoLattice, NoBox, NoSites, NoSolver, BothSolverAndSweep, NoSweepForApp, BadValueForApp}
use Rattle.spk_run.specs.declared.domain.Domain.{Domain}
use Rattle.spk_sched.specs.declared.run_settings.Cycle.TheVariants.{Nstop}
use Rattle.spk_sched.specs.declared.run_settings.RunSettings.{RunSettings}
use Rattle.spk_run.specs.declared.state.LatticeStyle.{LatticeStyle}
use Rattle.spk_run.specs.declared.state.SessionState.{SessionState}
use Rattle.spk_app.specs.Applications.{Application}
use Rattle.spk_cmds.specs.declared.command.AppStyle.{AppStyle}
use Rattle.spk_cmds.specs.declared.command.SolveStyle.{SolveStyle}
use Rattle.spk_cmds.specs.declared.command.SolveStyle.TheVariants.{Linear}
use Rattle.spk_run.specs.Applications.{application_of, has_sweep}
use Rattle.spk_sched.specs.Plans.{plan_fault}
use Rattle.spk_sched.specs.Globals.{Kinetics, kinetics_of}
use Rattle.spk_run.specs.Causes.{plan_cause}
use Rattle.spk_run.specs.Dumps.{due_of}
use Rattle.spk_run.specs.Energies.{energy_kind}
use Rattle.spk_run.specs.Solvers.{rule_of}
use Rattle.spk_run.specs.Runs.{Display, RunEnd, runs}
use Rattle.spk_run.specs.States.{first_of, if_so, missing, are_made}

-- the application of a session on a box
abbrev pub application_on : SessionState → AppStyle → Domain → Application
application_on state style domain = application_of style domain.lattice.style state.temperature

-- Without `sector`, a cycle has one step and takes the time in which the readiest site has one event on the average.
abbrev pub settings_of : SessionState → ℕ → Application → Domain → RunSettings
settings_of state length application domain = record {
  start = domain.time;
  length = length;
  cycle = Nstop 1000000;
  largest = application.largest;
  sectors = 1;
  sweep = state.sweep;
  stats = state.stats;
  dumps = map (due_of domain.time) state.dumps;
}

-- A run without a solver has a sweep, or is refused.
abbrev pub solver_of : SessionState → SolveStyle
solver_of state = unwrap_or state.solver Linear

abbrev pub kinetics_in : SessionState → AppStyle → Domain → Kinetics
kinetics_in state style domain = kinetics_of (application_on state style domain) (rule_of (solver_of state))

-- sites are counted from 1
abbrev pub bad_value : Application → List ℕ → Option Cause
bad_value application values = option_map (λ place. BadValueForApp (place + 1)) (position (λ value. not (application.is_valid value)) values)

unfoldable pub domain_cause : SessionState → ℕ → Application → Domain → Option Cause
domain_cause state length application domain =
    first_of (bad_value application domain.values ∷ option_and_then plan_cause (plan_fault (settings_of state length application domain)) ∷ [])

abbrev pub domain_causes : SessionState → ℕ → Option AppStyle → Option Domain → Option Cause
domain_causes state length (Some style) (Some domain) = domain_cause state length (application_on state style domain) domain
domain_causes state length style domain = None

-- a sweep is asked for, and the application has none
abbrev pub lacks_sweep : SessionState → Bool
lacks_sweep state = is_some state.sweep && not (option_map_or has_sweep state.app true)

abbrev pub run_causes : SessionState → ℕ → List (Option Cause)
run_causes state length =
    missing state.app NoApp
    ∷ missing state.lattice NoLattice
    ∷ missing state.domain NoBox
    ∷ if_so (not (are_made state.domain)) NoSites
    ∷ if_so (not (is_some state.solver || is_some state.sweep)) NoSolver
    ∷ if_so (is_some state.solver && is_some state.sweep) BothSolverAndSweep
    ∷ if_so (lacks_sweep state) NoSweepForApp
    ∷ domain_causes state length state.app state.domain
    ∷ []

abbrev pub run_cause : SessionState → ℕ → Option Cause
run_cause state length = first_of (run_causes state length)

-- how a run is shown
abbrev pub display_in : SessionState → AppStyle → LatticeStyle → Display
display_in state style lattice = record { log = state.log; with_energy = state.energy; scale = lattice.scale; energy = energy_kind style }

abbrev pub with_run : SessionState → RunEnd → SessionState
with_run state end = record state { domain = Some end.domain; dumps = end.dumps }

abbrev pub runs_by : SessionState → Display → Kinetics → RunSettings → Domain → Effect (Result SessionState Cause)
runs_by state display kinetics settings domain = runs display kinetics settings domain state.dumps >>= λ end. answers (Ok (with_run state end))

abbrev pub runs_domain_by : SessionState → Display → Kinetics → RunSettings → Option Domain → Effect (Result SessionState Cause)
runs_domain_by state display kinetics settings None = answers (Ok state)
runs_domain_by state display kinetics settings (Some domain) = runs_by state display kinetics settings domain

abbrev pub runs_domain : SessionState → ℕ → Option AppStyle → Option LatticeStyle → Option Domain → Effect (Result SessionState Cause)
runs_domain state length (Some style) (Some lattice) (Some domain) =
    runs_by state (display_in state style lattice) (kinetics_in state style domain) (settings_of state length (application_on state style domain) domain) domain
runs_domain state length style lattice domain = answers (Ok state)

abbrev pub performs_run : SessionState → ℕ → Effect (Result SessionState Cause)
performs_run state length = runs_domain state length state.app state.lattice state.domain
