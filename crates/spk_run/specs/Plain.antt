-- The plain simulator: what it writes and answers, given the files that it finds.
use Rattle.std.specs.Prelude.{ℕ, zero, suc, nat_lt, if◌then◌else◌, List, Option, Some, None, Result, Ok, Err}
use Rattle.spk_script.specs.declared.fault.LineFault.{LineFault}
use Rattle.spk_script.specs.declared.fault.LineFault.TheVariants as fault
use Rattle.spk_script.specs.declared.script.ScriptFault.{ScriptFault}
use Rattle.spk_script.specs.declared.script.ScriptFault.TheVariants as script
use Rattle.spk_script.specs.declared.setting.Setting.{Setting}
use Rattle.spk_script.specs.declared.machine.Arrival.{Arrival}
use Rattle.spk_script.specs.declared.machine.Arrival.TheVariants.{At, End}
use Rattle.spk_script.specs.declared.machine.Step.{Step as LineStep}
use Rattle.spk_script.specs.declared.machine.Step.TheVariants as line
use Rattle.spk_script.specs.Lines.{LogicalLine, lines_of}
use Rattle.spk_script.specs.States.{State, new_state as new_machine, with_settings}
use Rattle.spk_script.specs.Machine.{arrive, line_at, read}
use Rattle.spk_cmds.specs.declared.command.Command.{Command}
use Rattle.spk_cmds.specs.declared.command.CommandFault.{CommandFault}
use Rattle.spk_cmds.specs.declared.options.Input.{Input}
use Rattle.spk_cmds.specs.declared.options.Input.TheVariants.{File, Generate}
use Rattle.spk_cmds.specs.declared.options.Options.{Options}
use Rattle.spk_cmds.specs.CommandLine.{options_of}
use Rattle.spk_cmds.specs.Table.{command_read}
use Rattle.spk_world.specs.Outside.{says}
use Rattle.spk_world.specs.Effects.{Effect, ◌>>=◌, ◌>>◌, answers, writes, loads_file}
use Rattle.spk_run.specs.Endings.{usage_text, answer_of, refuses}
use Rattle.spk_run.specs.Output.{echoes, starts_log}
use Rattle.spk_run.specs.States.{new_state}
use Rattle.spk_run.specs.Commands.{obeys}
use Rattle.spk_run.specs.declared.state.SessionState.{SessionState}
use Rattle.spk_run.specs.declared.cause.Cause.{Cause}
use Rattle.spk_run.specs.declared.cause.Cause.TheVariants.{ScriptTooLong, NotAscii, OpenQuote, TooManyLines, TooManyCommands, FileMissing}
use Rattle.spk_run.specs.Causes.{line_cause, words_cause}
use Rattle.spk_run.specs.declared.answer.Ending.{Ending}
use Rattle.spk_run.specs.declared.answer.Ending.TheVariants.{Done}
use Rattle.spk_run.specs.declared.answer.Answer.{Answer}
use Rattle.spk_run.specs.declared.answer.Answer.TheVariants.{Usage}

-- How a script goes on after a line: with a machine and a session, or not, since it has ended.
pub data Course : Type 0 where
  GoesOn : State → SessionState → Course
  Ends : Ending → Course

-- a script ends for a cause at the line with this number
abbrev pub ends_for : SessionState → ℕ → Option Cause → Effect Course
ends_for session number None = answers (Ends Done)
ends_for session number (Some cause) = refuses session.log number cause >>= λ ending. answers (Ends ending)

-- what a command has come to: the session after it, or a refusal
abbrev pub goes_on_with : SessionState → ℕ → State → Result SessionState Cause → Effect Course
goes_on_with before number state (Ok session) = answers (GoesOn state session)
goes_on_with before number state (Err cause) = ends_for before number (Some cause)

-- the words of a command are read, and then it is obeyed
abbrev pub obeys_command : ℕ → State → SessionState → Result Command CommandFault → Effect Course
obeys_command number state session (Ok command) = obeys session command >>= goes_on_with session number state
obeys_command number state session (Err fault) = ends_for session number (words_cause fault)

abbrev pub obeys_words : ℕ → State → SessionState → List (List ℕ) → Effect Course
obeys_words number state session words = obeys_command number state session (command_read words)

-- what the machine has made of a line: a fault, a command of its own, or the words of a command of the session
abbrev pub obeys_step : ℕ → SessionState → Result (LineStep × State) LineFault → Effect Course
obeys_step number session (Err fault) = ends_for session number (line_cause fault)
obeys_step number session (Ok (line.Own own, state)) = answers (GoesOn state session)
obeys_step number session (Ok (line.Words own words, state)) = obeys_words own state session words

-- the line that the machine stands at is echoed as it stands in the script, and then read
abbrev pub obeys_line : List LogicalLine → State → SessionState → Option LogicalLine → Effect Course
obeys_line lines state session None = answers (Ends Done)
obeys_line lines state session (Some line) = echoes session.echo session.log line.raw >> obeys_step line.number session (read lines state line)

-- the machine arrives at a command, at the end, or once too often
abbrev pub obeys_arrival : List LogicalLine → State → SessionState → Result Arrival LineFault → Effect Course
obeys_arrival lines state session (Ok End) = answers (Ends Done)
obeys_arrival lines state session (Ok (At number)) = obeys_line lines state session (line_at lines state)
obeys_arrival lines state session (Err (fault.TooManyCommands number)) = ends_for session number (Some TooManyCommands)
obeys_arrival lines state session (Err fault) = answers (Ends Done)

abbrev pub obeys_next : List LogicalLine → State → SessionState → Effect Course
obeys_next lines state session = obeys_arrival lines (arrive lines state).state session (arrive lines state).answer

abbrev pub goes_on_by : (State → SessionState → Effect Ending) → Course → Effect Ending
goes_on_by rest (GoesOn state session) = rest state session
goes_on_by rest (Ends ending) = answers ending

-- the commands of a script, of which so many at most are arrived at
unfoldable pub obeys_commands : ℕ → List LogicalLine → State → SessionState → Effect Ending
obeys_commands zero lines state session = answers Done
obeys_commands (suc more) lines state session = obeys_next lines state session >>= goes_on_by (obeys_commands more lines)

-- A script that was read is obeyed from its first line, with the variables of the command line. A run of a script ends at
-- its arrival 1000001 at the latest.
abbrev pub obeys_lines : List Setting → SessionState → Result (List LogicalLine) ScriptFault → Effect Ending
obeys_lines vars session (Ok lines) = obeys_commands 1000001 lines (with_settings new_machine vars) session
obeys_lines vars session (Err script.TooLong) = refuses session.log 0 ScriptTooLong
obeys_lines vars session (Err (script.NotAscii place)) = refuses session.log 0 (NotAscii place)
obeys_lines vars session (Err script.TooManyLines) = refuses session.log 0 TooManyLines
obeys_lines vars session (Err (script.OpenQuote number)) = refuses session.log number OpenQuote
obeys_lines vars session (Err script.Memory) = answers Done

-- a script that was loaded, or that isn't there
abbrev pub obeys_file : List Setting → SessionState → List ℕ → Option (List ℕ) → Effect Ending
obeys_file vars session name None = refuses session.log 0 (FileMissing name)
obeys_file vars session name (Some script) = obeys_lines vars session (lines_of script)

-- the script is loaded, and then obeyed; none is generated yet
abbrev pub obeys_input : List Setting → SessionState → Input → Effect Ending
obeys_input vars session (File name) = loads_file name >>= obeys_file vars session name
obeys_input vars session (Generate seed n) = answers Done

-- the log is started before
abbrev pub obeys_options : Options → Effect Ending
obeys_options options = do
  starts_log options.log
  obeys_input options.vars (new_state options) options.input

-- the plain simulator of a command line
abbrev pub plain_words : Result Options ℕ → Effect Answer
plain_words (Ok options) = obeys_options options >>= λ ending. answers (answer_of ending)
plain_words (Err place) = writes (says (usage_text place)) >> answers (Usage place)

-- one thread does the work of one worker
abbrev pub with_one_worker : Result Options ℕ → Result Options ℕ
with_one_worker (Ok options) = if nat_lt 1 options.workers then Err options.workers_word else Ok options
with_one_worker (Err place) = Err place

abbrev pub plain_alone : List (List ℕ) → Effect Answer
plain_alone words = plain_words (with_one_worker (options_of words))
