-- What follows a load of the script: its lines, or the refusal of a script that isn't there or is too long.
use Rattle.std.proofs.Common.{◌≡◌, ℕ, ◌+◌, ◌≤◌, true, false, not, List, [], ◌∷◌, length, inl, inr, sym, ◌∙◌, Option, Some, None, Result, Ok, Err, Vec, refl, ap, subst, arith}
use Rattle.std.specs.Prelude.{nat_lt}
use Rattle.std.specs.Option.{IfSome, IsSomeAnd}
use Rattle.std.specs.List.{position}
use Rattle.std.specs.declared.alloc.Global.{Global}
use Rattle.std.proofs.lemmas.Bool.{cases_Bool}
use Rattle.std.proofs.lemmas.Bool.Decides.{nat_tests}
use Rattle.spk_world.specs.Outside.{Outside}
use Rattle.spk_world.specs.States.{WorldState}
use Rattle.spk_world.specs.Causes.{Loads, LoadCause}
use Rattle.spk_world.specs.declared.world.LoadFault.{LoadFault}
use Rattle.spk_world.specs.declared.world.LoadFault.TheVariants.{Missing, TooLong, Failed}
use Rattle.spk_world.specs.Effects.{Effect, LoadFailed, Wrote}
use Rattle.spk_world.proofs.LoadLaws.{wrote_after_load, load_failed, load_out_of_memory, load_later}
use Rattle.spk_script.specs.declared.script.ScriptFault.TheVariants as script
use Rattle.spk_script.specs.declared.script.ScriptFault.{ScriptFault}
use Rattle.spk_script.specs.declared.setting.Setting.{Setting}
use Rattle.spk_script.specs.Words.{is_allowed}
use Rattle.spk_script.specs.Lines.{LogicalLine, physical_lines, runs_of, logical_line, put_line, logical_lines, lines_of_few, lines_of_allowed, lines_of, IsFault}
use Rattle.spk_cmds.specs.declared.options.Input.TheVariants.{File}
use Rattle.spk_run.specs.declared.answer.Ending.{Ending}
use Rattle.spk_run.specs.declared.cause.Cause.TheVariants.{ScriptTooLong, FileMissing}
use Rattle.spk_run.specs.declared.fault.Fault.{Fault}
use Rattle.spk_run.specs.declared.fault.Fault.TheVariants.{Memory, Read}
use Rattle.spk_run.specs.declared.state.SessionState.{SessionState}
use Rattle.spk_run.specs.Endings.{refuses}
use Rattle.spk_run.specs.Faults.{fault_stop}
use Rattle.spk_run.specs.Plain.{obeys_file, obeys_input}
use Rattle.spk_run.proofs.CommandSteps.{fault_stop-memory}

pub read_stop : (name : List ℕ) → fault_stop (Read name) ≡ LoadFailed name
unfolding fault_stop
read_stop name = refl

pub found_script : (vars : List Setting) (session : SessionState) (told : Option Outside) (name text : List ℕ) (limit : ℕ) (bytes : Vec ℕ Global) → IfSome told (λ outside. Loads (outside.files text) limit (Ok bytes)) →
    IfSome told (λ outside. obeys_file vars session name (outside.files text) ≡ obeys_file vars session name (Some bytes.items))
found_script vars session None name text limit bytes loads = loads
found_script vars session (Some outside) name text limit bytes loads = ap (λ file. obeys_file vars session name file) loads.0

pub missing_script : (vars : List Setting) (session : SessionState) (told : Option Outside) (name text : List ℕ) (limit : ℕ) → IfSome told (λ outside. Loads (outside.files text) limit (Err Missing)) →
    IfSome told (λ outside. obeys_file vars session name (outside.files text) ≡ refuses session.log 0 (FileMissing name))
missing_script vars session None name text limit loads = loads
missing_script vars session (Some outside) name text limit loads = ap (λ file. obeys_file vars session name file) loads

too_long : (vars : List Setting) (session : SessionState) (name : List ℕ) (file : Option (List ℕ)) → IsSomeAnd file (λ bytes. 1048576 + 1 ≤ length bytes) → obeys_file vars session name file ≡ refuses session.log 0 ScriptTooLong
too_long vars session name None is = absurd is
too_long vars session name (Some bytes) is =
    let long : nat_lt 1048576 (length bytes) ≡ true = grind (arith, nat_tests) in
    let none : lines_of bytes ≡ Err script.TooLong = rw long refl in rw none refl

pub long_script : (vars : List Setting) (session : SessionState) (told : Option Outside) (name text : List ℕ) → IfSome told (λ outside. Loads (outside.files text) 1048576 (Err TooLong)) →
    IfSome told (λ outside. obeys_file vars session name (outside.files text) ≡ refuses session.log 0 ScriptTooLong)
long_script vars session None name text loads = loads
long_script vars session (Some outside) name text loads = too_long vars session name (outside.files text) loads

-- the load was made, and then the rest
pub obeyed_file : {before loaded now : WorldState} (vars : List Setting) (session : SessionState) (name text : List ℕ) (load : Result (Vec ℕ Global) LoadFault) (rest : Effect Ending) (result : Result Ending Fault) →
    loaded.told ≡ before.told → text ≡ name → LoadCause before loaded load → IfSome before.told (λ outside. obeys_file vars session name (outside.files text) ≡ rest) →
    Wrote fault_stop loaded now rest result → Wrote fault_stop before now (obeys_input vars session (File name)) result
obeyed_file {before = before} vars session name text load rest result same is cause follows done =
    wrote_after_load name (obeys_file vars session name) rest (subst (λ n. IfSome before.told (λ outside. obeys_file vars session name (outside.files n) ≡ rest)) is follows)
    same (load_later cause) done

pub failed_load : {before loaded : WorldState} (vars : List Setting) (session : SessionState) (name copy : List ℕ) → copy ≡ name → loaded.told ≡ before.told → LoadCause before loaded (Err Failed) →
    Wrote {A = Ending} fault_stop before loaded (obeys_input vars session (File name)) (Err (Read copy))
failed_load vars session name copy is same cause =
    load_failed name (obeys_file vars session name) (Read copy) (read_stop copy ∙ ap LoadFailed is) same (load_later cause) cause.failed

pub load_without_memory : {before loaded : WorldState} (vars : List Setting) (session : SessionState) (name : List ℕ) (load : Result (Vec ℕ Global) LoadFault) → loaded.told ≡ before.told →
    LoadCause before loaded load → Wrote {A = Ending} fault_stop before loaded (obeys_input vars session (File name)) (Err Memory)
load_without_memory vars session name load same cause = load_out_of_memory (obeys_input vars session (File name)) Memory fault_stop-memory same (load_later cause)

-- bytes that aren't too many have no fault for their length
put_never : (number : ℕ) (line : Option LogicalLine) (lines : Result (List LogicalLine) ScriptFault) → (lines ≡ Err script.TooLong → ⊥) → put_line number line lines ≡ Err script.TooLong → ⊥
put_never number None lines never is = cc
put_never number (Some line) (Err fault) never is = never is
put_never number (Some line) (Ok lines) never is = cc

lines_never : (number : ℕ) (runs : List (List (List ℕ))) → logical_lines number runs ≡ Err script.TooLong → ⊥
lines_never number [] is = cc
lines_never number (run ∷ runs) is = put_never number (logical_line number run) (logical_lines (number + length run) runs) (lines_never (number + length run) runs) is

few_never : (lines : List (List ℕ)) → lines_of_few lines ≡ Err script.TooLong → ⊥
few_never lines is =
    elim (cases_Bool (nat_lt 100000 (length lines))) [
      | inl many ↦ let other : lines_of_few lines ≡ Err script.TooManyLines = rw many refl in cc (other, is)
      | inr few ↦ let read : lines_of_few lines ≡ logical_lines 1 (runs_of lines) = rw few refl in lines_never 1 (runs_of lines) (sym read ∙ is)
    ]

allowed_never : (bytes : List ℕ) (place : Option ℕ) → lines_of_allowed bytes place ≡ Err script.TooLong → ⊥
allowed_never bytes (Some place) is = cc
allowed_never bytes None is = few_never (physical_lines bytes) is

pub not_too_long : (bytes : List ℕ) (fault : ScriptFault) → length bytes ≤ 1048576 → IsFault (lines_of bytes) fault → fault ≡ script.TooLong → ⊥
not_too_long bytes fault short is long =
    let fits : nat_lt 1048576 (length bytes) ≡ false = grind (arith, nat_tests) in
    let read : lines_of bytes ≡ lines_of_allowed bytes (position (λ b. not (is_allowed b)) bytes) = rw fits refl in
    let refused : lines_of bytes ≡ Err script.TooLong = subst (IsFault (lines_of bytes)) long is in
    allowed_never bytes _ (sym read ∙ refused)
