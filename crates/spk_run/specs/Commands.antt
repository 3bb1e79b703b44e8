-- The commands of the session: for which causes each is refused, and what it does. They are made after SPPARKS's commands; the
-- causes and their order are our own.
use Rattle.std.specs.Prelude.{ℕ, true, List, [], ◌∷◌, Option, Some, None, option_map, unsigned_abs, Result, Ok, Err}
use Rattle.spk_cmds.specs.declared.command.Command.{Command}
use Rattle.spk_cmds.specs.declared.command.Command.TheVariants as command
use Rattle.spk_world.specs.Effects.{Effect, answers}
use Rattle.spk_run.specs.declared.cause.Cause.{Cause}
use Rattle.spk_run.specs.declared.cause.Cause.TheVariants as cause_of
use Rattle.spk_run.specs.declared.state.SessionState.{SessionState}
use Rattle.spk_run.specs.States.{first_of, already, ticks_of}
use Rattle.spk_run.specs.Commands.NotBuilt.{unbuilt_word}
use Rattle.spk_run.specs.Commands.Seed.{with_seed}
use Rattle.spk_run.specs.Commands.Dimension.{dimension_cause}
use Rattle.spk_run.specs.Commands.Lattice.{style_cause}
use Rattle.spk_run.specs.Commands.Region.{region_cause, with_region}
use Rattle.spk_run.specs.Commands.CreateBox.{box_cause, box_of, with_box}
use Rattle.spk_run.specs.Commands.CreateSites.{sites_cause, with_sites}
use Rattle.spk_run.specs.Commands.Set.{set_cause, with_set}
use Rattle.spk_run.specs.Commands.Dump.{dump_cause, new_dump, undump_cause, with_dump, without_dump}
use Rattle.spk_run.specs.Commands.ReadSites.{read_cause, performs_read_sites}
use Rattle.spk_run.specs.Commands.Run.{run_cause, performs_run}
use Rattle.spk_run.specs.Commands.Print.{performs_print}
pub mod CreateBox
pub mod CreateSites
pub mod Dimension
pub mod Dump
pub mod Lattice
pub mod NotBuilt
pub mod Print
pub mod ReadSites
pub mod Region
pub mod Run
pub mod Seed
pub mod Set

-- the cause in what was given and made before
abbrev pub state_cause : SessionState → Command → Option Cause
state_cause state (command.App style) = already state.app
state_cause state (command.Dimension dimensions) = dimension_cause state dimensions
state_cause state (command.Lattice style scale) = style_cause state style
state_cause state (command.Boundary faces) = already state.domain
state_cause state (command.Region name shape) = region_cause state name shape
state_cause state (command.CreateBox region) = box_cause state region
state_cause state command.CreateSites = sites_cause state
state_cause state (command.Set value fraction region) = set_cause state region
state_cause state (command.ReadSites file) = read_cause state
state_cause state (command.Dump name style delta file fields) = dump_cause state name
state_cause state (command.Undump name) = undump_cause state name
state_cause state (command.Run length) = run_cause state (ticks_of length)
state_cause state other = None

-- the cause for which a command is refused before it does anything: the one with the least number
unfoldable pub cause : SessionState → Command → Option Cause
cause state asked = first_of (option_map (λ word. cause_of.NotBuilt word) (unbuilt_word asked) ∷ state_cause state asked ∷ [])

-- what is set by a command that writes nothing
unfoldable pub set_by : SessionState → Command → SessionState
set_by state (command.Seed seed) = with_seed state seed
set_by state (command.App style) = record state { app = Some style }
set_by state (command.Dimension dimensions) = record state { dimension = Some dimensions }
set_by state (command.Lattice style scale) = record state { lattice = Some (record { style = style; scale = scale }) }
set_by state (command.Region name shape) = with_region state name shape
set_by state (command.CreateBox region) = with_box state state.seed (box_of state region)
set_by state command.CreateSites = with_sites state
set_by state (command.Set value fraction region) = with_set state value fraction region
set_by state (command.Solve style) = record state { solver = Some style }
set_by state (command.Sweep style) = record state { sweep = Some style }
set_by state (command.Temperature t) = record state { temperature = unsigned_abs t.millionths }
set_by state (command.Stats delta) = record state { stats = ticks_of delta }
set_by state command.DiagEnergy = record state { energy = true }
set_by state (command.Dump name style delta file fields) = with_dump state (new_dump name style delta file fields)
set_by state (command.Undump name) = without_dump state name
set_by state (command.SetEcho style) = record state { echo = style }
set_by state other = state

-- what a command does that has no cause in the state: it leaves a session, or is refused for a file that it loads
unfoldable pub performs : SessionState → Command → Effect (Result SessionState Cause)
performs state (command.ReadSites file) = performs_read_sites state file
performs state (command.Run length) = performs_run state (ticks_of length)
performs state (command.Print text) = performs_print state text
performs state other = answers (Ok (set_by state other))

abbrev pub obeys_unless : Option Cause → SessionState → Command → Effect (Result SessionState Cause)
obeys_unless (Some found) state asked = answers (Err found)
obeys_unless None state asked = performs state asked

unfoldable pub obeys : SessionState → Command → Effect (Result SessionState Cause)
obeys state asked = obeys_unless (cause state asked) state asked
