-- What a command does, and where it stops.
use Rattle.std.proofs.Common.{◌≡◌, ℕ, ◌+◌, ◌++◌, List, [], ◌∷◌, length, Option, Some, None, Result, Ok, Err, refl, sym, ap, ◌∙◌, subst, inl, inr, arith}
use Rattle.std.specs.Option.{IfSome, option_map, option_map_or, option_and_then}
use Rattle.std.specs.Result.{IfErr, IsErrAnd}
use Rattle.std.proofs.lemmas.Bool.{cases_Bool}
use Rattle.std.proofs.lemmas.Bool.Decides.{nat_tests}
use Rattle.spk_num.specs.declared.decimal.Dec.{Dec}
use Rattle.spk_world.specs.Outside.{Outside}
use Rattle.spk_world.specs.States.{WorldState}
use Rattle.spk_world.specs.Effects.{Effect, ◌>>=◌, ◌>>◌, answers, Wrote}
use Rattle.spk_world.specs.Effects.{OutOfMemory as WorldOutOfMemory}
use Rattle.spk_world.proofs.EffectLaws.{is_error, wrote_then, wrote_failed, wrote_answer, wrote_nothing, wrote_whole, wrote_fault}
use Rattle.spk_cmds.specs.declared.command.Command.{Command}
use Rattle.spk_cmds.specs.declared.command.Command.TheVariants.{Seed, App, Dimension, Lattice, Boundary, Processors, Region, CreateBox, CreateSites, Set, ReadSites, WriteRestart, ReadRestart, Sector, Solve, Sweep, Temperature, Stats, DiagEnergy, Dump, Undump, Run, Print, SetEcho}
use Rattle.spk_run.specs.declared.answer.Target.{Target}
use Rattle.spk_run.specs.declared.cause.Cause.{Cause}
use Rattle.spk_run.specs.declared.cause.Cause.TheVariants.{BadValueForApp, NoSites, NoSweepForApp}
use Rattle.spk_num.specs.declared.sweep.Sweep.{Sweep as SweepStyle}
use Rattle.spk_run.specs.declared.domain.Domain.{Domain}
use Rattle.spk_run.specs.declared.fault.Fault.{Fault}
use Rattle.spk_run.specs.declared.fault.Fault.TheVariants as fault
use Rattle.spk_sched.specs.declared.run_settings.RunSettings.{RunSettings}
use Rattle.spk_run.specs.declared.dump.DumpState.{DumpState}
use Rattle.spk_run.specs.declared.state.LatticeStyle.{LatticeStyle}
use Rattle.spk_run.specs.declared.state.SessionState.{SessionState}
use Rattle.spk_run.specs.Endings.{target_stop}
use Rattle.spk_run.specs.declared.commands.run.Prepared.{Prepared}
use Rattle.spk_run.specs.Prepared.{IsFor, IsPreparedFor, IsPrepared, display_for, kinetics_for}
use Rattle.spk_app.specs.Applications.{Application}
use Rattle.spk_lattice.specs.Layout.{sites_of}
use Rattle.spk_cmds.specs.declared.command.AppStyle.{AppStyle}
use Rattle.spk_run.specs.Applications.{has_sweep, has_trials, rules_of}
use Rattle.std.specs.List.{All, position, position_or_len}
use Rattle.std.proofs.lemmas.List.Elements.{All-nil, All-cons}
use Rattle.spk_script.proofs.Cuts.{place_missing}
use Rattle.std.specs.Prelude.{Bool, IsTrue, true, not, ◌&&◌, is_some}
use Rattle.spk_run.specs.Faults.{fault_stop, verdict, done_to, trouble_of, NoRead, LeavesDone, Leaves, WritesAfterMemory}
use Rattle.spk_report.specs.Output.{prints}
use Rattle.spk_sched.specs.Plans.{plan_fault}
use Rattle.spk_sched.specs.Globals.{Kinetics, kinetics_of}
use Rattle.spk_cmds.specs.declared.command.SolveStyle.{SolveStyle}
use Rattle.spk_run.specs.Causes.{plan_cause}
use Rattle.spk_run.specs.Solvers.{rule_of, style_of}
use Rattle.spk_run.specs.Running.{IsRunnable}
use Rattle.spk_run.specs.Runs.{Display, RunEnd, runs, domain_after, dumps_after, end_of, tells_run}
use Rattle.spk_run.specs.States.{first_of, if_so, ticks_of, are_made, has_sites}
use Rattle.spk_run.specs.Commands.{cause, set_by, performs}
use Rattle.spk_run.specs.Commands.NotBuilt.{unbuilt_word}
use Rattle.spk_run.specs.Commands.Run.{application_on, display_in, kinetics_in, settings_of, bad_value, domain_cause, domain_causes, run_causes, run_cause, with_run, runs_by, runs_domain, runs_domain_by, performs_run, lacks_sweep}

pub fault_stop-memory : fault_stop fault.Memory ≡ WorldOutOfMemory
unfolding fault_stop
fault_stop-memory = refl

pub fault_stop-write : (target : Target) → fault_stop (fault.Write target) ≡ target_stop target
unfolding fault_stop target_stop
fault_stop-write target = refl

-- out of memory before anything was written
pub out_of_memory : {A : Type 0} {state : WorldState} {effect : Effect A} (result : Result A Fault) →
    IsErrAnd result (λ y. y ≡ fault.Memory) → Wrote fault_stop state state effect result
out_of_memory result is = wrote_nothing _ is fault_stop-memory

pub done_out_of_memory : {world : WorldState} {effect : Effect (Result SessionState Cause)} (state : SessionState) (result : Result (Unit {0}) Fault) →
    IsErrAnd result (λ y. y ≡ fault.Memory) → Wrote fault_stop world world effect (done_to state result)
done_out_of_memory state (Ok _) is = absurd is
done_out_of_memory state (Err stopped) is = out_of_memory (Err stopped) is

-- a command that was stopped, and its session then
pub stopped_command : {before now : WorldState} {effect : Effect (Result SessionState Cause)} (state : SessionState) (stopped : Fault) (result : Result (Result (Unit {0}) Cause) Fault) →
    IsErrAnd result (λ y. y ≡ stopped) → Wrote fault_stop before now effect (Err stopped) → Wrote fault_stop before now effect (verdict state result)
stopped_command state stopped result failed prefix = rw (is_error result _ failed) prefix

leaves_by : (told : Option Outside) (effect : Effect (Result SessionState Cause)) (before now : SessionState) (stopped : Fault) → LeavesDone {A = Unit {0}} told effect before now (Err stopped) →
    Leaves told effect before now (trouble_of (Err stopped))
leaves_by told effect before now (fault.Read name) left = left
leaves_by None effect before now (fault.Write target) left = tt
leaves_by (Some outside) effect before now (fault.Write target) left = left
leaves_by told effect before now fault.Memory left = tt

pub stopped_leaves : (told : Option Outside) (effect : Effect (Result SessionState Cause)) (before now : SessionState) (stopped : Fault) (result : Result (Result (Unit {0}) Cause) Fault) →
    IsErrAnd result (λ y. y ≡ stopped) → LeavesDone {A = Unit {0}} told effect before now (Err stopped) → Leaves told effect before now (trouble_of result)
stopped_leaves told effect before now stopped result failed left = rw (is_error result _ failed) (leaves_by told effect before now stopped left)

-- a write that failed is the fault of the whole
pub write_failed : {A : Type 0} {before now : WorldState} {effect : Effect A} (target : Target) (result : Result A Fault) →
    IsErrAnd result (λ y. y ≡ fault.Write target) → Wrote target_stop before now effect (Err target) → Wrote fault_stop before now effect result
write_failed target result is prefix = rw (is_error result _ is) (wrote_fault target (fault_stop-write target) prefix)

-- a text was printed, or could not be
print_by : (state : SessionState) (text : List ℕ) → performs state (Print text) ≡ (prints state.log (text ++ 10 ∷ []) >> answers (Ok state))
unfolding performs
print_by state text = refl

pub print_done : (before now : WorldState) (state : SessionState) (text : List ℕ) (result : Result (Unit {0}) Fault) →
    Wrote fault_stop before now (prints state.log (text ++ 10 ∷ [])) result → Wrote fault_stop before now (performs state (Print text)) (done_to state result)
print_done before now state text (Ok _) done = rw (print_by state text) (wrote_then _ done wrote_answer)
print_done before now state text (Err stopped) done = rw (print_by state text) (wrote_failed {result = Err stopped} _ refl done)

-- the answer of an effect that is followed by an answer alone
then_answer : {A B : Type 0} (effect : Effect A) (next : A → B) (outside : Outside) → ((effect >>= λ a. answers (next a)) outside).answer ≡ next (effect outside).answer
unfolding ◌>>=◌ answers
then_answer effect next outside = refl

print_left_by : (told : Option Outside) (state : SessionState) (text : List ℕ) (result : Result (Unit {0}) Fault) → IfErr result NoRead → LeavesDone told (performs state (Print text)) state state result
print_left_by told state text (Ok _) none = tt
print_left_by told state text (Err (fault.Read name)) none = absurd none
print_left_by None state text (Err (fault.Write target)) none = tt
print_left_by (Some outside) state text (Err (fault.Write target)) none = rw (print_by state text) (then_answer (prints state.log (text ++ 10 ∷ [])) (λ _. let made : Result SessionState Cause = Ok state in made) outside)
print_left_by told state text (Err fault.Memory) none = tt

pub print_left : (told : Option Outside) (state : SessionState) (text : List ℕ) (result : Result (Unit {0}) Fault) → IfErr result NoRead → LeavesDone told (performs state (Print text)) state state result
print_left = print_left_by

-- there is nothing to run without a box
pub nothing_runs : {world : WorldState} (state : SessionState) (display : Display) (kinetics : Kinetics) (settings : RunSettings) (domain : Option Domain) → state.domain ≡ None → domain ≡ None →
    Wrote fault_stop world world (runs_domain_by state display kinetics settings state.domain) (Ok (Ok (record state { domain = domain })))
nothing_runs {world = world} state display kinetics settings domain none after =
    subst (λ (d : Option Domain). Wrote fault_stop world world (runs_domain_by state display kinetics settings state.domain) (Ok (Ok (record state { domain = d })))) (none ∙ sym after) (rw none wrote_answer)

-- a run was done to its end, or stopped
pub runs_whole : (before now : WorldState) (state : SessionState) (display : Display) (kinetics : Kinetics) (settings : RunSettings) (domain after : Domain) (dumps : List DumpState) → state.domain ≡ Some domain →
    after ≡ domain_after kinetics settings domain → dumps ≡ dumps_after settings domain state.dumps → Wrote target_stop before now (tells_run display kinetics settings domain state.dumps) (Ok tt) →
    Wrote fault_stop before now (runs_domain_by state display kinetics settings state.domain) (Ok (Ok (with_run state (record { domain = after; dumps = dumps }))))
runs_whole before now state display kinetics settings domain after dumps is box left done =
    let whole : Wrote target_stop before now (runs display kinetics settings domain state.dumps) (Ok (end_of kinetics settings domain state.dumps)) = wrote_then _ done wrote_answer in
    rw (is, box, left) (wrote_then _ (wrote_whole whole) wrote_answer)

pub runs_no_further : (before now : WorldState) (state after : SessionState) (display : Display) (kinetics : Kinetics) (settings : RunSettings) (domain : Domain) (target : Target) (result : Result (Unit {0}) Fault) →
    IsErrAnd result (λ y. y ≡ fault.Write target) → state.domain ≡ Some domain →
    Wrote target_stop before now (tells_run display kinetics settings domain state.dumps) (Err target) →
    Wrote fault_stop before now (runs_domain_by state display kinetics settings state.domain) (done_to after result)
runs_no_further before now state after display kinetics settings domain target result failed is prefix =
    let part : Wrote target_stop before now (runs display kinetics settings domain state.dumps) (Err target) = wrote_failed {result = Err target} _ refl prefix in
    let stopped : Wrote fault_stop before now (runs display kinetics settings domain state.dumps) (Err (fault.Write target)) = wrote_fault target (fault_stop-write target) part in
    rw (is, is_error result _ failed) (wrote_failed {result = Err (fault.Write target)} _ refl stopped)

-- after a write that failed the session is the one after the whole run
runs_answer : (state : SessionState) (display : Display) (kinetics : Kinetics) (settings : RunSettings) (domain : Domain) (outside : Outside) →
    (runs_by state display kinetics settings domain outside).answer ≡ Ok (with_run state (end_of kinetics settings domain state.dumps))
runs_answer state display kinetics settings domain outside =
    then_answer (runs display kinetics settings domain state.dumps) (λ end. Ok (with_run state end)) outside
    ∙ ap (λ (end : RunEnd). let made : Result SessionState Cause = Ok (with_run state end) in made) (then_answer (tells_run display kinetics settings domain state.dumps) (λ _. end_of kinetics settings domain state.dumps) outside)

run_session_by : (told : Option Outside) (state : SessionState) (display : Display) (kinetics : Kinetics) (settings : RunSettings) (domain : Domain) (end : RunEnd) (target : Target) → end ≡ end_of kinetics settings domain state.dumps →
    LeavesDone {A = Unit {0}} told (runs_by state display kinetics settings domain) state (with_run state end) (Err (fault.Write target))
run_session_by None state display kinetics settings domain end target is = tt
run_session_by (Some outside) state display kinetics settings domain end target is = runs_answer state display kinetics settings domain outside ∙ rw is refl

pub run_session : (told : Option Outside) (state : SessionState) (display : Display) (kinetics : Kinetics) (settings : RunSettings) (domain after : Domain) (dumps : List DumpState) (target : Target) (result : Result (Unit {0}) Fault) →
    IsErrAnd result (λ y. y ≡ fault.Write target) → state.domain ≡ Some domain → after ≡ domain_after kinetics settings domain → dumps ≡ dumps_after settings domain state.dumps →
    LeavesDone told (runs_domain_by state display kinetics settings state.domain) state (with_run state (record { domain = after; dumps = dumps })) result
run_session told state display kinetics settings domain after dumps target result failed is box left =
    subst (λ (d : Option Domain). LeavesDone told (runs_domain_by state display kinetics settings d) state (with_run state (record { domain = after; dumps = dumps })) result) (sym is)
    (subst (λ (r : Result (Unit {0}) Fault). LeavesDone told (runs_by state display kinetics settings domain) state (with_run state (record { domain = after; dumps = dumps })) r) (sym (is_error result _ failed))
    (run_session_by told state display kinetics settings domain (record { domain = after; dumps = dumps }) target (rw (box, left) refl)))

-- a failed write alone is a fault after which something may be written
pub write_after_memory : (before now : Option Outside) (target : Target) (result : Result (Unit {0}) Fault) → IsErrAnd result (λ y. y ≡ fault.Write target) → WritesAfterMemory before now result
write_after_memory before now target result failed = rw (is_error result _ failed) tt

-- what was prepared is for an application, a lattice and a box
abbrev pub IsMadeFor : SessionState → ℕ → Option AppStyle → Option LatticeStyle → Option Domain → Prepared → Type 0
IsMadeFor state run style lattice domain prepared =
    (asked : AppStyle) × (unit : LatticeStyle) × (found : Domain) × (style ≡ Some asked) × (lattice ≡ Some unit) × (domain ≡ Some found) × IsFor state run asked unit found prepared

prepared_by : (state : SessionState) (run : ℕ) (style : Option AppStyle) (lattice : Option LatticeStyle) (domain : Option Domain) (prepared : Prepared) → IsPreparedFor state run style lattice domain (Some prepared) →
    IsMadeFor state run style lattice domain prepared
prepared_by state run (Some asked) (Some unit) (Some found) prepared is = (asked, unit, found, refl, refl, refl, is)
prepared_by state run (Some asked) (Some unit) None prepared is = absurd (cc is)
prepared_by state run (Some asked) None (Some found) prepared is = absurd (cc is)
prepared_by state run (Some asked) None None prepared is = absurd (cc is)
prepared_by state run None (Some unit) (Some found) prepared is = absurd (cc is)
prepared_by state run None (Some unit) None prepared is = absurd (cc is)
prepared_by state run None None (Some found) prepared is = absurd (cc is)
prepared_by state run None None None prepared is = absurd (cc is)

pub prepared_for : (state : SessionState) (run : ℕ) (prepared : Prepared) → IsPrepared state run (Some prepared) → IsMadeFor state run state.app state.lattice state.domain prepared
prepared_for state run prepared is = prepared_by state run state.app state.lattice state.domain prepared is

-- else nothing is run
nothing_by : (state : SessionState) (run : ℕ) (style : Option AppStyle) (lattice : Option LatticeStyle) (domain : Option Domain) → IsPreparedFor state run style lattice domain None →
    runs_domain state run style lattice domain ≡ answers (Ok state)
nothing_by state run (Some asked) (Some unit) (Some found) is = absurd is
nothing_by state run (Some asked) (Some unit) None is = refl
nothing_by state run (Some asked) None (Some found) is = refl
nothing_by state run (Some asked) None None is = refl
nothing_by state run None (Some unit) (Some found) is = refl
nothing_by state run None (Some unit) None is = refl
nothing_by state run None None (Some found) is = refl
nothing_by state run None None None is = refl

pub runs_nothing : {world : WorldState} (state : SessionState) (run : ℕ) → IsPrepared state run None → Wrote fault_stop world world (performs_run state run) (Ok (Ok state))
runs_nothing {world = world} state run is = rw (nothing_by state run state.app state.lattice state.domain is) wrote_answer

-- a run with the application and the settings of its session
pub runs_with : (state : SessionState) (run : ℕ) (asked : AppStyle) (unit : LatticeStyle) (found : Domain) (prepared : Prepared) → state.app ≡ Some asked → state.lattice ≡ Some unit → state.domain ≡ Some found →
    IsFor state run asked unit found prepared →
    runs_domain_by state (display_for prepared) (kinetics_for prepared) prepared.plan state.domain ≡ performs_run state run
runs_with state run asked unit found prepared style lattice box for_run =
    ap (λ (d : Option Domain). runs_domain_by state (display_for prepared) (kinetics_for prepared) prepared.plan d) box
    ∙ ap (λ (d : Display). runs_by state d (kinetics_for prepared) prepared.plan found) for_run.display
    ∙ ap (λ (a : Application). runs_by state (display_in state asked unit) (kinetics_of a (rule_of (style_of prepared.room.solver))) prepared.plan found) for_run.application
    ∙ ap (λ (s : SolveStyle). runs_by state (display_in state asked unit) (kinetics_of (application_on state asked found) (rule_of s)) prepared.plan found) for_run.solver
    ∙ ap (λ (s : RunSettings). runs_by state (display_in state asked unit) (kinetics_in state asked found) s found) for_run.plan
    ∙ sym (ap (λ (a : Option AppStyle). runs_domain state run a state.lattice state.domain) style ∙ ap (λ (l : Option LatticeStyle). runs_domain state run (Some asked) l state.domain) lattice
    ∙ ap (λ (d : Option Domain). runs_domain state run (Some asked) (Some unit) d) box)

-- a run that isn't refused ends in time
abbrev NoneHolds : List (Option Cause) → Type 0
NoneHolds [] = Unit {0}
NoneHolds (found ∷ causes) = (found ≡ None) × NoneHolds causes

none_holds : (causes : List (Option Cause)) → first_of causes ≡ None → NoneHolds causes
none_holds [] none = tt
none_holds (None ∷ causes) none = (refl, none_holds causes none)
none_holds (Some found ∷ causes) none = absurd (cc none)

mapped_none : (found : Option ℕ) → option_map (λ place. BadValueForApp (place + 1)) found ≡ None → found ≡ None
mapped_none None is = refl
mapped_none (Some place) is = absurd (cc is)

-- where no element fails a test, all pass it
found_none : (values : List ℕ) (test : ℕ → Bool) → position_or_len (λ v. not (test v)) values ≡ length values → All (λ v. IsTrue (test v)) values
found_none [] test none = All-nil (λ v. IsTrue (test v))
found_none (v ∷ values) test none =
    elim (cases_Bool (test v)) [
      | inl valid ↦
          let more : position_or_len (λ v. not (test v)) values ≡ length values = (let first : position_or_len (λ v. not (test v)) (v ∷ values) ≡ 1 + position_or_len (λ v. not (test v)) values = rw valid refl in omega (arith, first, none)) in
          All-cons (λ v. IsTrue (test v)) v values valid (found_none values test more)
      | inr bad ↦ let first : position_or_len (λ v. not (test v)) (v ∷ values) ≡ 0 = rw bad refl in absurd (omega (arith, first, none))
    ]

-- no site has a value that isn't allowed
all_valid : (application : Application) (values : List ℕ) → bad_value application values ≡ None → All (λ v. IsTrue (application.is_valid v)) values
all_valid application values none =
    found_none values application.is_valid (place_missing (λ v. not (application.is_valid v)) values (mapped_none (position (λ v. not (application.is_valid v)) values) none))

-- what a run that isn't refused may rest on
pub record IsFree (application : Application) (run : ℕ) (domain : Domain) : Type 0 where
  pub fits : length domain.values ≡ sites_of domain.lattice
  pub valid : All (λ v. IsTrue (application.is_valid v)) domain.values

made_by : (domain : Domain) → if_so (not (are_made (Some domain))) NoSites ≡ None → length domain.values ≡ sites_of domain.lattice
made_by domain none =
    elim (cases_Bool (has_sites domain)) [
      | inl made ↦ grind (arith, nat_tests)
      | inr missing ↦ let some : if_so (not (are_made (Some domain))) NoSites ≡ Some NoSites = rw missing refl in absurd (cc (some, none))
    ]

pub run_free_of : (state : SessionState) (run : ℕ) (asked : AppStyle) (found : Domain) → state.app ≡ Some asked → state.domain ≡ Some found → run_cause state run ≡ None →
    IsFree (application_on state asked found) run found
unfolding domain_cause
run_free_of state run asked found style box none =
    let causes = none_holds (run_causes state run) none in
    let application : Application = application_on state asked found in
    let last : domain_causes state run state.app state.domain ≡ None = causes.1.1.1.1.1.1.1.0 in
    let here : domain_cause state run (application_on state asked found) found ≡ None = rw (style, box) at last in
    let both = none_holds (bad_value (application_on state asked found) found.values ∷ option_and_then plan_cause (plan_fault (settings_of state run (application_on state asked found) found)) ∷ []) here in
    let made : if_so (not (are_made state.domain)) NoSites ≡ None = causes.1.1.1.0 in
    record {
      fits = made_by found (rw box at made);
      valid = all_valid (application_on state asked found) found.values both.0;
    }

-- what was prepared can run
runnable_by : (state : SessionState) (asked : AppStyle) (unit : LatticeStyle) (found : Domain) (prepared : Prepared) (run : ℕ) → IsFor state run asked unit found prepared → IsFree (application_on state asked found) run found →
    IsRunnable (rules_of prepared.application) prepared.plan.sweep found state.dumps prepared.room
runnable_by state asked unit found prepared run for_run free =
    rw for_run.application (record { fits = free.fits; valid = free.valid; room_for = for_run.room_for })

pub runnable_for : (state : SessionState) (run : ℕ) (prepared : Prepared) → IsPrepared state run (Some prepared) → run_cause state run ≡ None →
    IfSome state.domain (λ domain. IsRunnable (rules_of prepared.application) prepared.plan.sweep domain state.dumps prepared.room)
runnable_for state run prepared is none =
    let made = prepared_for state run prepared is in
    rw made.5 (runnable_by state made.0 made.1 made.2 prepared run made.6 (run_free_of state run made.0 made.2 made.3 made.5 none))

-- where it has a sweep, the application has trials
swept_by : (asked : Option SweepStyle) (style : Option AppStyle) (found : AppStyle) → style ≡ Some found → if_so (is_some asked && not (option_map_or has_sweep style true)) NoSweepForApp ≡ None → IfSome asked (λ _. IsTrue (has_sweep found))
swept_by None style found is none = tt
swept_by (Some sweep) style found is none =
    elim (cases_Bool (has_sweep found)) [
      | inl swept ↦ swept
      | inr not_swept ↦ let some : if_so (is_some (Some sweep) && not (option_map_or has_sweep style true)) NoSweepForApp ≡ Some NoSweepForApp = rw (is, not_swept) refl in absurd (cc (some, none))
    ]

pub trials_for : (state : SessionState) (run : ℕ) (prepared : Prepared) → IsPrepared state run (Some prepared) → run_cause state run ≡ None → IfSome prepared.plan.sweep (λ _. IsTrue (has_trials prepared.application))
trials_for state run prepared is none =
    let made = prepared_for state run prepared is in
    let causes = none_holds (run_causes state run) none in
    let lacking : if_so (lacks_sweep state) NoSweepForApp ≡ None = causes.1.1.1.1.1.1.0 in
    let sweep : prepared.plan.sweep ≡ state.sweep = ap (λ (s : RunSettings). s.sweep) made.6.plan in
    rw (sweep, made.6.trials) (swept_by state.sweep state.app made.0 made.3 lacking)

-- its plan starts when the box is
pub starts_for : (state : SessionState) (run : ℕ) (prepared : Prepared) → IsPrepared state run (Some prepared) → IfSome state.domain (λ domain. prepared.plan.start ≡ domain.time)
starts_for state run prepared is =
    let made = prepared_for state run prepared is in
    rw made.5 (ap (λ (s : RunSettings). s.start) made.6.plan)

-- commands that neither run, nor print, nor read a file
performs_other : (state : SessionState) (command : Command) → ((length : Dec) → command ≡ Run length → ⊥) → ((text : List ℕ) → command ≡ Print text → ⊥) → ((file : List ℕ) → command ≡ ReadSites file → ⊥) →
    performs state command ≡ answers (Ok (set_by state command))
unfolding performs
performs_other state (Seed seed) not_run not_print not_read = refl
performs_other state (App style) not_run not_print not_read = refl
performs_other state (Dimension d) not_run not_print not_read = refl
performs_other state (Lattice style scale) not_run not_print not_read = refl
performs_other state (Boundary faces) not_run not_print not_read = refl
performs_other state (Processors ranks) not_run not_print not_read = refl
performs_other state (Region name shape) not_run not_print not_read = refl
performs_other state (CreateBox region) not_run not_print not_read = refl
performs_other state CreateSites not_run not_print not_read = refl
performs_other state (Set value fraction region) not_run not_print not_read = refl
performs_other state (ReadSites file) not_run not_print not_read = absurd (not_read file refl)
performs_other state (WriteRestart file) not_run not_print not_read = refl
performs_other state (ReadRestart file) not_run not_print not_read = refl
performs_other state (Sector is tstop nstop) not_run not_print not_read = refl
performs_other state (Solve style) not_run not_print not_read = refl
performs_other state (Sweep style) not_run not_print not_read = refl
performs_other state (Temperature t) not_run not_print not_read = refl
performs_other state (Stats delta) not_run not_print not_read = refl
performs_other state DiagEnergy not_run not_print not_read = refl
performs_other state (Dump name style delta file fields) not_run not_print not_read = refl
performs_other state (Undump name) not_run not_print not_read = refl
performs_other state (Run length) not_run not_print not_read = absurd (not_run length refl)
performs_other state (Print text) not_run not_print not_read = absurd (not_print text refl)
performs_other state (SetEcho style) not_run not_print not_read = refl

pub set_done : {world : WorldState} (state next : SessionState) (command : Command) → ((length : Dec) → command ≡ Run length → ⊥) → ((text : List ℕ) → command ≡ Print text → ⊥) → ((file : List ℕ) → command ≡ ReadSites file → ⊥) →
    next ≡ set_by state command → Wrote fault_stop world world (performs state command) (Ok (Ok next))
set_done state next command not_run not_print not_read is = rw (performs_other state command not_run not_print not_read, is) wrote_answer

run_by : (state : SessionState) (length : Dec) → performs state (Run length) ≡ performs_run state (ticks_of length)
unfolding performs
run_by state length = refl

pub run_done : {before now : WorldState} (state : SessionState) (length : Dec) (ticks : ℕ) (result : Result (Result SessionState Cause) Fault) → ticks ≡ ticks_of length →
    Wrote fault_stop before now (performs_run state ticks) result → Wrote fault_stop before now (performs state (Run length)) result
run_done state length ticks result is done = rw (run_by state length) (rw is at done)

pub run_left : (told : Option Outside) (state next : SessionState) (length : Dec) (ticks : ℕ) (result : Result (Unit {0}) Fault) → ticks ≡ ticks_of length →
    LeavesDone told (performs_run state ticks) state next result → LeavesDone told (performs state (Run length)) state next result
run_left told state next length ticks result is left = rw (run_by state length) (rw is at left)

pub run_free : (state : SessionState) (length : Dec) → cause state (Run length) ≡ None → run_cause state (ticks_of length) ≡ None
unfolding cause unbuilt_word
run_free state length none = (none_holds (None ∷ run_cause state (ticks_of length) ∷ []) none).1.0

pub free_run : (state : SessionState) (length : Dec) (ticks : ℕ) → ticks ≡ ticks_of length → cause state (Run length) ≡ None → run_cause state ticks ≡ None
free_run state length ticks is none = rw is (run_free state length none)
