-- What a command comes to that reads a site file.
use Rattle.std.proofs.Common.{◌≡◌, ℕ, ◌+◌, ◌≤◌, true, false, List, [], length, Option, Some, None, Result, Ok, Err, Vec, vec_len, refl, sym, ap, ◌∙◌, subst, arith}
use Rattle.std.proofs.lemmas.Bool.Decides.{nat_tests}
use Rattle.std.proofs.lemmas.List.FromFn.{length-map-range_with_len}
use Rattle.std.specs.Prelude.{nat_lt, unwrap_or}
use Rattle.std.specs.Option.{IfSome, IsSomeAnd}
use Rattle.std.specs.Result.{IfOk, MatchResult}
use Rattle.std.specs.declared.alloc.Global.{Global}
use Rattle.spk_world.specs.Outside.{Outside}
use Rattle.spk_world.specs.States.{WorldState}
use Rattle.spk_world.specs.Causes.{Loads, LoadCause}
use Rattle.spk_world.specs.declared.world.LoadFault.{LoadFault}
use Rattle.spk_world.specs.declared.world.LoadFault.TheVariants.{Missing, TooLong, Failed}
use Rattle.spk_world.specs.Effects.{answers, LoadFailed, Wrote}
use Rattle.spk_world.proofs.EffectLaws.{wrote_answer}
use Rattle.spk_world.proofs.LoadLaws.{wrote_after_load, load_failed, load_out_of_memory, load_later}
use Rattle.spk_files.specs.SiteFiles.{Wanted, values_of, value_in, rows_of, first_fault, values_or_fault, site_file, IsReadOrMemory}
use Rattle.spk_files.specs.Lines.{lines_of}
use Rattle.spk_files.specs.declared.site_fault.SiteFault.{SiteFault}
use Rattle.spk_cmds.specs.declared.command.Command.TheVariants.{ReadSites}
use Rattle.spk_run.specs.declared.cause.Cause.{Cause}
use Rattle.spk_run.specs.declared.cause.Cause.TheVariants.{FileMissing, FileTooLong}
use Rattle.spk_run.specs.declared.fault.Fault.{Fault}
use Rattle.spk_run.specs.declared.fault.Fault.TheVariants.{Memory, Read}
use Rattle.spk_run.specs.declared.fault.Trouble.{Trouble}
use Rattle.spk_run.specs.declared.state.SessionState.{SessionState}
use Rattle.spk_run.specs.Commands.{performs}
use Rattle.spk_run.specs.Commands.ReadSites.{wanted_in, values_or_cause, with_read, with_file, performs_read_sites}
use Rattle.spk_run.specs.Faults.{fault_stop, verdict, Leaves}
use Rattle.spk_run.proofs.CommandSteps.{fault_stop-memory}
use Rattle.spk_run.proofs.Loading.{read_stop}

-- a file that has no fault has a value for each site
value_count_by : (wanted : Wanted) (bytes values : List ℕ) (fault : Option SiteFault) → values_or_fault (values_of wanted.sites (rows_of (lines_of bytes))) fault ≡ Ok values → length values ≡ wanted.sites
value_count_by wanted bytes values (Some fault) is = absurd cc
value_count_by wanted bytes values None is =
    let same : values_of wanted.sites (rows_of (lines_of bytes)) ≡ values = cc in
    ap length (sym same) ∙ length-map-range_with_len (λ id. unwrap_or (value_in (rows_of (lines_of bytes)) id) 0) 1 wanted.sites

value_count : (wanted : Wanted) (bytes values : List ℕ) → site_file wanted bytes ≡ Ok values → length values ≡ wanted.sites
unfolding site_file
value_count wanted bytes values is = value_count_by wanted bytes values (first_fault wanted [] (lines_of bytes)) is

pub few_values : (wanted : Wanted) (bytes : List ℕ) (result : Result (Vec ℕ Global) SiteFault) → wanted.sites ≤ 4194304 → IsReadOrMemory (site_file wanted bytes) result → IfOk result (λ values. vec_len values ≤ 4194304)
few_values wanted bytes (Ok values) few is = omega (arith, values.ok.0, value_count wanted bytes values.items is)
few_values wanted bytes (Err fault) few is = tt

-- by what the file is
found_by : (state : SessionState) (name : List ℕ) (file : Option (List ℕ)) (bytes : Vec ℕ Global) → file ≡ Some bytes.items → vec_len bytes ≤ 134217728 →
    with_file state name file ≡ with_read state (values_or_cause (site_file (wanted_in state) bytes.items))
unfolding with_file
found_by state name file bytes is few =
    let fits : nat_lt 134217728 (length bytes.items) ≡ false = grind (arith, nat_tests, bytes.ok.0) in
    rw (is, fits) refl

pub found_file : (state : SessionState) (told : Option Outside) (name text : List ℕ) (bytes : Vec ℕ Global) → IfSome told (λ outside. Loads (outside.files text) 134217728 (Ok bytes)) →
    IfSome told (λ outside. with_file state name (outside.files text) ≡ with_read state (values_or_cause (site_file (wanted_in state) bytes.items)))
found_file state None name text bytes loads = loads
found_file state (Some outside) name text bytes loads = found_by state name (outside.files text) bytes loads.0 loads.1

missing_by : (state : SessionState) (name : List ℕ) (file : Option (List ℕ)) → file ≡ None → with_file state name file ≡ Err (FileMissing name)
unfolding with_file
missing_by state name file is = rw is refl

pub missing_file : (state : SessionState) (told : Option Outside) (name text : List ℕ) → IfSome told (λ outside. Loads (outside.files text) 134217728 (Err Missing)) →
    IfSome told (λ outside. with_file state name (outside.files text) ≡ Err (FileMissing name))
missing_file state None name text loads = loads
missing_file state (Some outside) name text loads = missing_by state name (outside.files text) loads

long_by : (state : SessionState) (name : List ℕ) (file : Option (List ℕ)) → IsSomeAnd file (λ bytes. 134217728 + 1 ≤ length bytes) → with_file state name file ≡ Err (FileTooLong name)
unfolding with_file
long_by state name None is = absurd is
long_by state name (Some bytes) is =
    let long : nat_lt 134217728 (length bytes) ≡ true = grind (arith, nat_tests) in rw long refl

pub long_file : (state : SessionState) (told : Option Outside) (name text : List ℕ) → IfSome told (λ outside. Loads (outside.files text) 134217728 (Err TooLong)) →
    IfSome told (λ outside. with_file state name (outside.files text) ≡ Err (FileTooLong name))
long_file state None name text loads = loads
long_file state (Some outside) name text loads = long_by state name (outside.files text) loads

-- the load was made, and the command comes to what follows from it
answer_follows : (told : Option Outside) (state : SessionState) (name : List ℕ) (answer : Result SessionState Cause) → IfSome told (λ outside. with_file state name (outside.files name) ≡ answer) →
    IfSome told (λ outside. answers (with_file state name (outside.files name)) ≡ answers answer)
answer_follows None state name answer follows = follows
answer_follows (Some outside) state name answer follows = ap answers follows

pub file_read : {before loaded : WorldState} (state : SessionState) (name text : List ℕ) (load : Result (Vec ℕ Global) LoadFault) (answer : Result SessionState Cause) → text ≡ name → loaded.told ≡ before.told →
    LoadCause before loaded load → IfSome before.told (λ outside. with_file state name (outside.files text) ≡ answer) → Wrote fault_stop before loaded (performs_read_sites state name) (Ok answer)
file_read {before = before} state name text load answer is same cause follows =
    wrote_after_load name (λ file. answers (with_file state name file)) (answers answer)
    (answer_follows before.told state name answer (subst (λ n. IfSome before.told (λ outside. with_file state name (outside.files n) ≡ answer)) is follows)) same (load_later cause) wrote_answer

-- out of memory for the load, or for the values
pub read_without_memory : {before loaded : WorldState} (state : SessionState) (name : List ℕ) (load : Result (Vec ℕ Global) LoadFault) → loaded.told ≡ before.told → LoadCause before loaded load →
    Wrote fault_stop before loaded (performs_read_sites state name) (Err Memory)
read_without_memory state name load same cause = load_out_of_memory (performs_read_sites state name) Memory fault_stop-memory same (load_later cause)

-- what the file has in it was judged
pub bytes_read : {before loaded : WorldState} (state next : SessionState) (name text : List ℕ) (bytes : Vec ℕ Global) (answer : Result SessionState Cause) (result : Result (Result (Unit {0}) Cause) Fault) →
    text ≡ name → loaded.told ≡ before.told → LoadCause before loaded (Ok bytes) → IfSome before.told (λ outside. with_file state name (outside.files text) ≡ answer) →
    MatchResult result (λ done. verdict next (Ok done) ≡ Ok answer) (λ fault. fault ≡ Memory) → Wrote fault_stop before loaded (performs_read_sites state name) (verdict next result)
bytes_read state next name text bytes answer (Ok done) is same cause follows judged = rw judged (file_read state name text (Ok bytes) answer is same cause follows)
bytes_read state next name text bytes answer (Err fault) is same cause follows judged = rw judged (read_without_memory state name (Ok bytes) same cause)

pub not_read : {before loaded : WorldState} (state : SessionState) (name copy : List ℕ) → copy ≡ name → loaded.told ≡ before.told → LoadCause before loaded (Err Failed) →
    Wrote {A = Result SessionState Cause} fault_stop before loaded (performs_read_sites state name) (Err (Read copy))
not_read state name copy is same cause =
    load_failed name (λ file. answers (with_file state name file)) (Read copy) (read_stop copy ∙ ap LoadFailed is) same (load_later cause) cause.failed

-- the command, by its own effect
read_by : (state : SessionState) (file : List ℕ) → performs state (ReadSites file) ≡ performs_read_sites state file
unfolding performs
read_by state file = refl

pub sites_read : {before now : WorldState} (state : SessionState) (file : List ℕ) (result : Result (Result SessionState Cause) Fault) → Wrote fault_stop before now (performs_read_sites state file) result →
    Wrote fault_stop before now (performs state (ReadSites file)) result
sites_read state file result done = rw (read_by state file) done

pub sites_left : (told : Option Outside) (state next : SessionState) (file : List ℕ) (result : Result (Unit {0}) Trouble) → Leaves told (performs_read_sites state file) state next result →
    Leaves told (performs state (ReadSites file)) state next result
sites_left told state next file result left = rw (read_by state file) left
