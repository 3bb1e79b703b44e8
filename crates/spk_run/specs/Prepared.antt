-- What is made for a run before its first write.
use Rattle.std.specs.Prelude.{◌≡◌, ℕ, Option, Some, None}
use Rattle.spk_cmds.specs.declared.command.AppStyle.{AppStyle}
use Rattle.spk_run.specs.declared.domain.Domain.{Domain}
use Rattle.spk_run.specs.declared.commands.run.Prepared.{Prepared}
use Rattle.spk_run.specs.declared.state.LatticeStyle.{LatticeStyle}
use Rattle.spk_run.specs.declared.state.SessionState.{SessionState}
use Rattle.spk_run.specs.Applications.{has_sweep, has_trials, rules_of}
use Rattle.spk_run.specs.Runs.{Display}
use Rattle.spk_run.specs.Running.{HasRoomFor, display_of}
use Rattle.spk_run.specs.Solvers.{rule_of, style_of}
use Rattle.spk_sched.specs.Globals.{Kinetics, kinetics_of}
use Rattle.spk_run.specs.Commands.Run.{application_on, display_in, settings_of, solver_of}

-- the kinetics of what is prepared
abbrev pub kinetics_for : Prepared → Kinetics
kinetics_for prepared = kinetics_of (rules_of prepared.application) (rule_of (style_of prepared.room.solver))

-- how it shows a run
abbrev pub display_for : Prepared → Display
display_for prepared = display_of prepared.room.output.log prepared.room.with_energy prepared.room.writer

pub record IsFor (state : SessionState) (run : ℕ) (style : AppStyle) (lattice : LatticeStyle) (domain : Domain) (prepared : Prepared) : Type 0 where
  pub application : rules_of prepared.application ≡ application_on state style domain
  pub plan : prepared.plan ≡ settings_of state run (application_on state style domain) domain
  pub trials : has_trials prepared.application ≡ has_sweep style
  pub room_for : HasRoomFor domain state.dumps prepared.plan.sweep prepared.room
  pub solver : style_of prepared.room.solver ≡ solver_of state
  pub display : display_for prepared ≡ display_in state style lattice

abbrev pub IsPreparedFor : SessionState → ℕ → Option AppStyle → Option LatticeStyle → Option Domain → Option Prepared → Type 0
IsPreparedFor state run (Some style) (Some lattice) (Some domain) (Some prepared) = IsFor state run style lattice domain prepared
IsPreparedFor state run (Some style) (Some lattice) (Some domain) None = ⊥
IsPreparedFor state run style lattice domain prepared = prepared ≡ None

abbrev pub IsPrepared : SessionState → ℕ → Option Prepared → Type 0
IsPrepared state run prepared = IsPreparedFor state run state.app state.lattice state.domain prepared
