-- Obeying commands, one after another: what each of them comes to, and what follows it.
use Rattle.std.proofs.Common.{◌≡◌, ℕ, suc, ◌-◌, ◌≤◌, true, false, cond, List, [], ◌∷◌, Option, Some, None, Result, Ok, Err, Vec, refl, ap, subst, ◌∙◌, arith}
use Rattle.std.specs.Prelude.{is_some}
use Rattle.std.specs.Option.{IfSome, IfNone, IsSomeAnd}
use Rattle.std.specs.Result.{IfOk, IsErrAnd}
use Rattle.std.specs.declared.alloc.Global.{Global}
use Rattle.spk_num.specs.Results.{IsPlainOrMemory}
use Rattle.spk_num.proofs.ResultLaws.{plain_is}
use Rattle.spk_script.specs.declared.fault.LineFault.{LineFault}
use Rattle.spk_script.specs.declared.fault.LineFault.TheVariants as fault
use Rattle.spk_script.specs.declared.machine.Arrival.{Arrival}
use Rattle.spk_script.specs.declared.machine.Arrival.TheVariants.{At}
use Rattle.spk_script.specs.declared.machine.Step.{Step as LineStep}
use Rattle.spk_script.specs.declared.machine.Step.TheVariants as line
use Rattle.spk_script.specs.declared.setting.Setting.{Setting}
use Rattle.spk_script.specs.declared.variable.Variable.{Variable}
use Rattle.spk_script.specs.declared.variable.Variable.TheVariants.{Index}
use Rattle.spk_script.specs.Faults.{is_memory}
use Rattle.spk_script.specs.Lines.{LogicalLine, line_numbered}
use Rattle.spk_script.specs.States.{State, new_state as new_machine, with_variable, with_new_variable, with_settings}
use Rattle.spk_script.specs.Machine.{Arrived, arrive, line_at}
use Rattle.spk_script.specs.MachineStates.{StandsAt, arrived_to}
use Rattle.spk_script.proofs.Arriving.{CountsAt, arrived_counts}
use Rattle.spk_cmds.specs.Faults.{is_memory as is_words_memory}
use Rattle.spk_cmds.specs.declared.command.Command.{Command}
use Rattle.spk_cmds.specs.declared.command.CommandFault.{CommandFault}
use Rattle.spk_cmds.specs.declared.command.CommandFault.TheVariants as command
use Rattle.spk_world.specs.Outside.{Outside}
use Rattle.spk_world.specs.States.{Faults, WorldState}
use Rattle.spk_world.specs.Causes.{Rose, Later, LoadCause}
use Rattle.spk_world.specs.declared.world.LoadFault.{LoadFault}
use Rattle.spk_world.specs.Effects.{Effect, ◌>>=◌, answers, Stop, Stands, Wrote}
use Rattle.spk_world.proofs.EffectLaws.{wrote_then, wrote_failed, wrote_answer, wrote_nothing, wrote_mapped, rose_later, later_later, later_same}
use Rattle.spk_world.proofs.LoadLaws.{load_later}
use Rattle.spk_run.specs.declared.cause.Cause.{Cause}
use Rattle.spk_run.specs.declared.cause.Cause.TheVariants.{ScriptTooLong, FileMissing, FileTooLong}
use Rattle.spk_run.specs.declared.answer.Ending.{Ending}
use Rattle.spk_run.specs.declared.answer.Ending.TheVariants.{Done, Refused}
use Rattle.spk_run.specs.declared.script.Progress.{Progress}
use Rattle.spk_run.specs.declared.script.Progress.TheVariants as progress
use Rattle.spk_run.specs.declared.state.SessionState.{SessionState}
use Rattle.spk_run.specs.declared.fault.Fault.{Fault}
use Rattle.spk_run.specs.declared.fault.Fault.TheVariants.{Memory}
use Rattle.spk_run.specs.Causes.{line_cause, words_cause, IsOfState, FileRefusalRose}
use Rattle.spk_run.specs.Commands.{obeys}
use Rattle.spk_run.specs.Endings.{refuses, EndingFileCause}
use Rattle.spk_run.specs.Faults.{fault_stop}
use Rattle.spk_run.specs.Plain.{Course, GoesOn, Ends, ends_for, obeys_command, obeys_words, obeys_step, obeys_arrival, obeys_next, goes_on_by, obeys_commands}
use Rattle.spk_run.specs.Scripts.{course_to, ProgressFileCause, CountsOn, IsOneTooMany}
use Rattle.spk_run.proofs.CommandSteps.{fault_stop-memory}

-- out of memory before anything was written
pub stops_for_memory : {A : Type 0} {state : WorldState} {effect : Effect A} {result : Result A Fault} → IsErrAnd result (λ e. e ≡ Memory) →
    Wrote fault_stop state state effect result
stops_for_memory is = wrote_nothing Memory is fault_stop-memory

pub out_of_memory : {A : Type 0} {state : WorldState} {effect : Effect A} → Wrote fault_stop state state effect (Err Memory)
out_of_memory = wrote_nothing {result = Err Memory} Memory refl fault_stop-memory

-- a cause in the state is none in a file
pub of_state_rose : (before now : Faults) (cause : Cause) → IsOfState cause → FileRefusalRose before now cause
of_state_rose before now (FileMissing name) is = absurd is
of_state_rose before now (FileTooLong name) is = absurd is
of_state_rose before now ScriptTooLong is = absurd is
of_state_rose before now cause is = tt

-- a count that rose has risen as well by a later time, and from an earlier one on
rose_earlier : (a b c : ℕ) → a ≤ b → Rose b c → Rose a c
rose_earlier a b c le rose = omega arith

pub refusal_later : (before now later : Faults) (cause : Cause) → Later now later → FileRefusalRose before now cause → FileRefusalRose before later cause
refusal_later before now later (FileMissing name) after rose = rose_later before.loads now.loads later.loads rose after.loads
refusal_later before now later (FileTooLong name) after rose = rose_later before.loads now.loads later.loads rose after.loads
refusal_later before now later ScriptTooLong after rose = rose_later before.loads now.loads later.loads rose after.loads
refusal_later before now later cause after rose = tt

refusal_earlier : (before now later : Faults) (cause : Cause) → Later before now → FileRefusalRose now later cause → FileRefusalRose before later cause
refusal_earlier before now later (FileMissing name) first rose = rose_earlier before.loads now.loads later.loads first.loads rose
refusal_earlier before now later (FileTooLong name) first rose = rose_earlier before.loads now.loads later.loads first.loads rose
refusal_earlier before now later ScriptTooLong first rose = rose_earlier before.loads now.loads later.loads first.loads rose
refusal_earlier before now later cause first rose = tt

ending_earlier : (before now later : Faults) (result : Result Ending Fault) → Later before now → IfOk result (EndingFileCause now later) → IfOk result (EndingFileCause before later)
ending_earlier before now later (Ok Done) first rose = tt
ending_earlier before now later (Ok (Refused number cause)) first rose = refusal_earlier before now later cause first rose
ending_earlier before now later (Err fault) first rose = tt

progress_earlier : (before now later : Faults) (result : Result Progress Fault) → Later before now → IfOk result (ProgressFileCause now later) → IfOk result (ProgressFileCause before later)
progress_earlier before now later (Ok progress.GoesOn) first rose = tt
progress_earlier before now later (Ok (progress.Ends ending)) first rose = ending_earlier before now later (Ok ending) first rose
progress_earlier before now later (Err fault) first rose = tt

-- From a start on no count of faults fell, and where nothing was told then, nothing is told now.
pub record Since (start now : WorldState) : Type 0 where
  pub later : Later start.faults now.faults
  pub untold : IfNone start.told (now.told ≡ None)

untold_same : (told now : Option Outside) → now ≡ told → IfNone told (now ≡ None)
untold_same None now same = same
untold_same (Some outside) now same = tt

untold_after : {A E : Type 0} (stop : E → Stop) (start now later : Option Outside) (effect : Effect A) (result : Result A E) →
    IfNone start (now ≡ None) → Stands stop now later effect result → IfNone start (later ≡ None)
untold_after stop None now later effect result is stands = subst (λ told. Stands stop told later effect result) is stands
untold_after stop (Some outside) now later effect result is stands = tt

pub since_start : {state : WorldState} → Since state state
since_start {state = state} = record { later = later_same state.faults; untold = untold_same state.told state.told refl }

pub since_wrote : {A E : Type 0} {stop : E → Stop} {start now later : WorldState} {effect : Effect A} {result : Result A E} →
    Since start now → Wrote stop now later effect result → Since start later
since_wrote {stop = stop} {start = start} {now = now} {later = later} {effect = effect} {result = result} since done = record {
  later = later_later start.faults now.faults later.faults since.later done.later;
  untold = untold_after stop start.told now.told later.told effect result since.untold done.stands;
}

pub since_load : {before now : WorldState} {result : Result (Vec ℕ Global) LoadFault} → now.told ≡ before.told → LoadCause before now result → Since before now
since_load {before = before} {now = now} same cause = record { later = load_later cause; untold = untold_same before.told now.told same }

untold_by_cases : (start now : Option Outside) (P Q : Type 0) → (P → Q) → IfNone start (now ≡ None) → IfNone now P → IfNone start Q
untold_by_cases None now P Q follows is holds = follows (subst (λ told. IfNone told P) is holds)
untold_by_cases (Some outside) now P Q follows is holds = tt

-- what is said of files since a later time holds from an earlier one on
pub progress_since : {start now : WorldState} (later : Faults) (result : Result Progress Fault) → Since start now →
    IfNone now.told (IfOk result (ProgressFileCause now.faults later)) → IfNone start.told (IfOk result (ProgressFileCause start.faults later))
progress_since {start = start} {now = now} later result since holds =
    untold_by_cases start.told now.told _ _ (progress_earlier start.faults now.faults later result since.later) since.untold holds

pub ending_since : {start now : WorldState} (later : Faults) (result : Result Ending Fault) → Since start now →
    IfNone now.told (IfOk result (EndingFileCause now.faults later)) → IfNone start.told (IfOk result (EndingFileCause start.faults later))
ending_since {start = start} {now = now} later result since holds =
    untold_by_cases start.told now.told _ _ (ending_earlier start.faults now.faults later result since.later) since.untold holds

-- a script that was refused ends so for the cause that was given
pub ended_rose : (before now : Faults) (number : ℕ) (cause : Cause) (result : Result Progress Fault) → FileRefusalRose before now cause →
    IfOk result (λ p. p ≡ progress.Ends (Refused number cause)) → IfOk result (ProgressFileCause before now)
ended_rose before now number cause (Ok p) rose is = rw is rose
ended_rose before now number cause (Err fault) rose is = tt

pub refused_rose : (before now : Faults) (number : ℕ) (cause : Cause) (result : Result Ending Fault) → FileRefusalRose before now cause →
    IfOk result (λ ending. ending ≡ Refused number cause) → IfOk result (EndingFileCause before now)
refused_rose before now number cause (Ok ending) rose is = rw is rose
refused_rose before now number cause (Err fault) rose is = tt

if_none : (told : Option Outside) (P Q : Type 0) → (P → Q) → IfNone told P → IfNone told Q
if_none None P Q follows holds = follows holds
if_none (Some outside) P Q follows holds = tt

-- the refusal is written after the count rose
pub ended_later : (before now later : WorldState) (number : ℕ) (cause : Cause) (result : Result Progress Fault) →
    IfNone before.told (FileRefusalRose before.faults now.faults cause) → Later now.faults later.faults → IfOk result (λ p. p ≡ progress.Ends (Refused number cause)) →
    IfNone before.told (IfOk result (ProgressFileCause before.faults later.faults))
ended_later before now later number cause result rose after is =
    if_none before.told _ _ (λ risen. ended_rose before.faults later.faults number cause result (refusal_later before.faults now.faults later.faults cause after risen) is) rose

pub refused_later : (before now later : WorldState) (number : ℕ) (cause : Cause) (result : Result Ending Fault) →
    IfNone before.told (FileRefusalRose before.faults now.faults cause) → Later now.faults later.faults → IfOk result (λ ending. ending ≡ Refused number cause) →
    IfNone before.told (IfOk result (EndingFileCause before.faults later.faults))
refused_later before now later number cause result rose after is =
    if_none before.told _ _ (λ risen. refused_rose before.faults later.faults number cause result (refusal_later before.faults now.faults later.faults cause after risen) is) rose

-- what holds anyhow holds where nothing is told
pub holds_untold : (told : Option Outside) (P : Type 0) → P → IfNone told P
holds_untold None P holds = holds
holds_untold (Some outside) P holds = tt

-- no arrival is counted where a script has ended
pub ended_counts : (before now : State) (number : ℕ) (cause : Cause) (result : Result Progress Fault) →
    IfOk result (λ p. p ≡ progress.Ends (Refused number cause)) → IfOk result (CountsOn before now)
ended_counts before now number cause (Ok p) is = rw is tt
ended_counts before now number cause (Err fault) is = tt

-- the only fault of an arrival is that it is one too many
pub one_too_many : (lines : List LogicalLine) (state : State) (fault : LineFault) → StandsAt lines state (Err fault) → IsOneTooMany fault
one_too_many lines state (fault.TooManyCommands number) stands = tt
one_too_many lines state fault stands = absurd stands

-- a script that was refused has ended
pub ended_whole : {before now : WorldState} {ending : Ending} (state : State) (session : SessionState) (number : ℕ) (cause : Cause) →
    Wrote fault_stop before now (refuses session.log number cause) (Ok ending) →
    Wrote fault_stop before now (ends_for session number (Some cause)) (course_to state session (Ok (progress.Ends ending)))
ended_whole state session number cause done = wrote_mapped Ends done

pub ended_not : {before now : WorldState} {stopped : Fault} (state : State) (session : SessionState) (number : ℕ) (cause : Cause) (result : Result Progress Fault) →
    IsErrAnd result (λ t. t ≡ stopped) → Wrote fault_stop before now (refuses session.log number cause) (Err stopped) →
    Wrote fault_stop before now (ends_for session number (Some cause)) (course_to state session result)
ended_not state session number cause (Ok progress) is failed = absurd is
ended_not state session number cause (Err t) is failed = wrote_failed {result = Err t} _ is failed

-- a fault that is not out of memory has a cause, and the other way round
no_memory : (fault : LineFault) (cause : Cause) → line_cause fault ≡ Some cause → is_memory fault ≡ false
no_memory fault.Memory cause is = cc
no_memory fault cause is = refl

no_memory_in_words : (fault : CommandFault) (cause : Cause) → words_cause fault ≡ Some cause → is_words_memory fault ≡ false
no_memory_in_words command.Memory cause is = cc
no_memory_in_words fault cause is = refl

-- a line that is refused for a cause
pub refused_line : (number : ℕ) (session : SessionState) (plain : Result (LineStep × State) LineFault) (fault : LineFault) (cause : Cause) →
    IsPlainOrMemory is_memory plain (Err fault) → line_cause fault ≡ Some cause → obeys_step number session plain ≡ ends_for session number (Some cause)
unfolding IsPlainOrMemory
refused_line number session plain fault cause failed is = rw (failed (no_memory fault cause is)) (ap (ends_for session number) is)

-- words that are refused for one
pub refused_words : (number : ℕ) (state : State) (session : SessionState) (plain : Result Command CommandFault) (fault : CommandFault) (cause : Cause) →
    IsPlainOrMemory is_words_memory plain (Err fault) → words_cause fault ≡ Some cause → obeys_command number state session plain ≡ ends_for session number (Some cause)
unfolding IsPlainOrMemory
refused_words number state session plain fault cause failed is = rw (failed (no_memory_in_words fault cause is)) (ap (ends_for session number) is)

pub read_words : (number : ℕ) (state : State) (session : SessionState) (plain : Result Command CommandFault) (made : Command) →
    IsPlainOrMemory is_words_memory plain (Ok made) → obeys_command number state session plain ≡ obeys_command number state session (Ok made)
read_words number state session plain made is = ap (obeys_command number state session) (plain_is is_words_memory plain made is)

-- a line that the machine obeyed, and one whose words it handed on
pub own_line : (number : ℕ) (session : SessionState) (plain : Result (LineStep × State) LineFault) (own : ℕ) (state : State) →
    IsPlainOrMemory is_memory plain (Ok (line.Own own, state)) → obeys_step number session plain ≡ answers (GoesOn state session)
own_line number session plain own state is = rw (plain_is is_memory plain (line.Own own, state) is) refl

pub words_line : (number : ℕ) (session : SessionState) (plain : Result (LineStep × State) LineFault) (own : ℕ) (words : List (List ℕ)) (state : State) →
    IsPlainOrMemory is_memory plain (Ok (line.Words own words, state)) → obeys_step number session plain ≡ obeys_words own state session words
words_line number session plain own words state is = rw (plain_is is_memory plain (line.Words own words, state) is) refl

-- a command was obeyed, refused, or stopped
pub command_whole : {before now : WorldState} (state : State) (session next : SessionState) (number : ℕ) (made : Command) →
    Wrote fault_stop before now (obeys session made) (Ok (Ok next)) →
    Wrote fault_stop before now (obeys_command number state session (Ok made)) (Ok (GoesOn state next))
command_whole state session next number made done = wrote_then _ done wrote_answer

pub command_refused : {before now later : WorldState} (state : State) (session next : SessionState) (number : ℕ) (made : Command) (cause : Cause) (result : Result Progress Fault) →
    next ≡ session → Wrote fault_stop before now (obeys session made) (Ok (Err cause)) →
    Wrote fault_stop now later (ends_for next number (Some cause)) (course_to state next result) →
    Wrote fault_stop before later (obeys_command number state session (Ok made)) (course_to state next result)
command_refused {now = now} {later = later} state session next number made cause result same done ended =
    wrote_then _ done (subst (λ (s : SessionState). Wrote fault_stop now later (ends_for s number (Some cause)) (course_to state next result)) same ended)

pub command_stopped : {before now : WorldState} {stopped : Fault} (state : State) (session next : SessionState) (number : ℕ) (made : Command) (result : Result Progress Fault) →
    IsErrAnd result (λ t. t ≡ stopped) → Wrote {A = Result SessionState Cause} fault_stop before now (obeys session made) (Err stopped) →
    Wrote fault_stop before now (obeys_command number state session (Ok made)) (course_to state next result)
command_stopped state session next number made (Ok progress) is failed = absurd is
command_stopped state session next number made (Err t) is failed = wrote_failed {result = Err t} _ is failed

-- the line at which a machine stands
pub record Found (lines : List LogicalLine) (state : State) (number : ℕ) : Type 0 where
  pub line : LogicalLine
  pub at : line_at lines state ≡ Some line
  pub number_is : line.number ≡ number
  pub numbered : line_numbered lines number ≡ Some line

found_by : (lines : List LogicalLine) (state : State) (number : ℕ) (at : Option LogicalLine) → line_at lines state ≡ at →
    IsSomeAnd at (λ line. (line.number ≡ number) × (line_numbered lines number ≡ Some line)) → Found lines state number
found_by lines state number None is stands = absurd stands
found_by lines state number (Some line) is stands = record { line = line; at = is; number_is = stands.0; numbered = stands.1 }

pub line_found : (lines : List LogicalLine) (state : State) (number : ℕ) → StandsAt lines state (Ok (At number)) → Found lines state number
line_found lines state number stands = found_by lines state number (line_at lines state) refl stands

pub some_holds : (at : Option LogicalLine) (P : LogicalLine → Type 0) (line : LogicalLine) → at ≡ Some line → IfSome at P → P line
some_holds None P line is holds = absurd (cc is)
some_holds (Some other) P line is holds = let same : other ≡ line = cc is in subst P same holds

pub course_err : (state : State) (session : SessionState) (result : Result Progress Fault) (P : Fault → Type 0) → IsErrAnd result P → IsErrAnd (course_to state session result) P
course_err state session (Ok progress) P is = absurd is
course_err state session (Err stopped) P is = is

-- what follows an arrival
next_by : (lines : List LogicalLine) (state now : State) (session : SessionState) (answer : Result Arrival LineFault) →
    arrive lines state ≡ arrived_to now answer → obeys_next lines state session ≡ obeys_arrival lines now session answer
next_by lines state now session answer is = ap (λ (a : Arrived). obeys_arrival lines a.state session a.answer) is

pub next_arrived : {before now : WorldState} (lines after : List LogicalLine) (state mid : State) (session : SessionState) (answer got : Result Arrival LineFault) (result : Result Course Fault) →
    after ≡ lines → arrive lines state ≡ arrived_to mid answer → answer ≡ got → Wrote fault_stop before now (obeys_arrival after mid session got) result →
    Wrote fault_stop before now (obeys_next lines state session) result
next_arrived lines after state mid session answer got result same arrives is done =
    rw (next_by lines state mid session answer arrives, is) (rw same at done)

-- an arrival that was counted, or one too many
pub counted_at : (lines : List LogicalLine) (state mid : State) (answer got : Result Arrival LineFault) → arrive lines state ≡ arrived_to mid answer → answer ≡ got → CountsAt state mid got
counted_at lines state mid answer got arrives is = subst (CountsAt state mid) is (arrived_counts lines state mid answer arrives)

-- where a script goes on after an arrival that was counted
pub counts_on : (before mid now : State) (number : ℕ) (result : Result Progress Fault) →
    CountsAt before mid (Ok (At number)) → now.arrivals ≡ mid.arrivals → IfOk result (CountsOn before now)
counts_on before mid now number (Ok progress.GoesOn) counts same =
    record { counted = same ∙ counts.0; few = omega (arith, counts.1, same) }
counts_on before mid now number (Ok (progress.Ends ending)) counts same = tt
counts_on before mid now number (Err stopped) counts same = tt

-- one command of a script, and then those after it
pub next_of : (lines : List LogicalLine) (state : State) (session : SessionState) (arrivals : ℕ) → arrivals ≤ 1000000 →
    obeys_commands (1000001 - arrivals) lines state session ≡ (obeys_next lines state session >>= goes_on_by (obeys_commands (1000000 - arrivals) lines))
unfolding obeys_commands
next_of lines state session arrivals few =
    let more : 1000001 - arrivals ≡ suc (1000000 - arrivals) = omega (arith, few) in rw more refl

new_variable_arrives : (state : State) (name : List ℕ) (variable : Variable) → (with_new_variable state name variable).arrivals ≡ state.arrivals
new_variable_arrives state name variable =
    elim (is_some (state.variables name)) as (λ there. (cond there state (with_variable state name variable)).arrivals ≡ state.arrivals) [
      | true ↦ refl
      | false ↦ refl
    ]

-- before the first line nothing was arrived at, whatever variables there are
settings_arrive : (state : State) (settings : List Setting) → (with_settings state settings).arrivals ≡ state.arrivals
settings_arrive state [] = refl
settings_arrive state (setting ∷ settings) =
    settings_arrive (with_new_variable state setting.name (Index setting.value [])) settings ∙ new_variable_arrives state setting.name (Index setting.value [])

pub nothing_arrived : (state : State) (settings : List Setting) → state ≡ with_settings new_machine settings → state.arrivals ≡ 0
nothing_arrived state settings is = ap (λ (s : State). s.arrivals) is ∙ settings_arrive new_machine settings
