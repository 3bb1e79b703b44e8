-- What each call of a world in memory does, exactly.
use Rattle.std.specs.Prelude.{◌≡◌, ◌≢◌, ◌⊎◌, ℕ, ◌+◌, ◌-◌, ◌^◌, ◌≤◌, ◌==◌, min, List, [], length, take, find, Option, Some, None, IsSome, IsSomeAnd, Result, Ok, Err, Vec, vec_len, String}
use Rattle.std.specs.Option.{option_map}
use Rattle.std.specs.Map.{update}
use Rattle.std.specs.Str.{bytes_eq}
use Rattle.std.specs.BTreeMap.{BTreeMap, get_by_text}
use Rattle.std.specs.declared.alloc.Global.{Global}
use Rattle.spk_world.specs.Outside.{Outside, after, added, started, spoken, adds}
use Rattle.spk_world.specs.States.{Faults, WorldState}
use Rattle.spk_world.specs.declared.world.LoadFault.{LoadFault}
use Rattle.spk_world.specs.declared.world.LoadFault.TheVariants.{Missing, TooLong, Failed, Memory}
use Rattle.spk_world.specs.declared.memory.Reason.{Reason}
use Rattle.spk_world.specs.declared.memory.Reason.TheVariants.{Planned, Memory as OutOfMemory}
use Rattle.spk_world.specs.declared.memory.Fail.{Fail}
use Rattle.spk_world.specs.declared.memory.MemWorld.{MemWorld}

-- one more, or the same at the greatest value of a `u64`
abbrev pub raised : ℕ → ℕ
raised count = min (count + 1) (2 ^ 64 - 1)

-- the files by their names
unfoldable pub files_of : BTreeMap (String Global) (Vec ℕ Global) → List ℕ → Option (List ℕ)
files_of files name = option_map (λ bytes. bytes.items) (get_by_text files name)

-- files and screen, as the world tells them
abbrev pub outside_of : MemWorld → Outside
outside_of world = record { files = files_of world.files; said = world.said.items }

abbrev pub faults_of : MemWorld → Faults
faults_of world = record { loads = world.load_faults; files = world.file_faults; screen = world.screen_faults }

abbrev pub state_of : MemWorld → WorldState
state_of world = record { told = Some (outside_of world); faults = faults_of world }

-- after how many bytes the call with this number fails, if it is planned to
abbrev pub fail_of : List Fail → ℕ → Option ℕ
fail_of fails number = option_map (λ fail. fail.bytes) (find (λ fail. fail.call == number) fails)

-- the same for the call that comes next
abbrev pub plan_of : MemWorld → Option ℕ
plan_of world = fail_of world.fail_at.items (raised world.calls)

-- an empty world with no plan, and all counts at 0
pub record IsNew (world : MemWorld) : Type 0 where
  pub files : (name : List ℕ) → (outside_of world).files name ≡ None
  pub said : (outside_of world).said ≡ []
  pub faults : faults_of world ≡ record { loads = 0; files = 0; screen = 0 }
  pub no_plan : world.fail_at.items ≡ []
  pub calls : world.calls ≡ 0
  pub starved : world.starved ≡ 0

-- What a load answers: first what the file is, then what is planned. A load may be out of memory where a file is copied.
abbrev pub LoadsExactly : Option (List ℕ) → ℕ → Option ℕ → Result (Vec ℕ Global) LoadFault → Type 0
LoadsExactly file limit plan (Ok bytes) = (file ≡ Some bytes.items) × (vec_len bytes ≤ limit) × (plan ≡ None)
LoadsExactly file limit plan (Err Missing) = file ≡ None
LoadsExactly file limit plan (Err TooLong) = IsSomeAnd file (λ bytes. limit + 1 ≤ length bytes)
LoadsExactly file limit plan (Err Failed) = IsSomeAnd file (λ bytes. length bytes ≤ limit) × IsSome plan
LoadsExactly file limit plan (Err Memory) = IsSomeAnd file (λ bytes. length bytes ≤ limit) × (plan ≡ None)

-- a load that failed is counted
abbrev pub with_load_counted : MemWorld → Result (Vec ℕ Global) LoadFault → MemWorld
with_load_counted world (Err Failed) = record world { load_faults = raised world.load_faults }
with_load_counted world answer = world

-- the world after a load with this answer
abbrev pub after_load : MemWorld → Result (Vec ℕ Global) LoadFault → MemWorld
after_load world answer = with_load_counted (record world { calls = raised world.calls }) answer

-- the prefix of a piece that the plan leaves
abbrev pub prefix_of : Option ℕ → List ℕ → List ℕ
prefix_of None bytes = bytes
prefix_of (Some n) bytes = take n bytes

-- How the write of a piece ends: all of it is written where no failure is planned; else the prefix that the plan leaves;
-- or nothing, where the write allocates and is out of memory.
abbrev pub EndsExactly : {A T : Type 0} → Option ℕ → (allocates : Type 0) → (before now whole prefix : A) → Result T Reason → Type 0
EndsExactly plan allocates before now whole prefix (Ok _) = (plan ≡ None) × (now ≡ whole)
EndsExactly plan allocates before now whole prefix (Err Planned) = IsSome plan × (now ≡ prefix)
EndsExactly plan allocates before now whole prefix (Err OutOfMemory) = allocates × (now ≡ before)

-- a start allocates memory for the name of a file that it makes
abbrev pub StartAllocates : Option ℕ → Outside → List ℕ → Type 0
StartAllocates plan outside name = (plan ≡ None) × (outside.files name ≡ None)

-- an add allocates memory for the bytes that it writes, too
abbrev pub AddAllocates : Option ℕ → Outside → (name bytes : List ℕ) → Type 0
AddAllocates plan outside name bytes = (prefix_of plan bytes ≢ []) ⊎ StartAllocates plan outside name

-- how a start, an add and a write to the screen end
abbrev pub StartEnds : {T : Type 0} → Option ℕ → (before now : Outside) → List ℕ → Result T Reason → Type 0
StartEnds plan before now name result = EndsExactly plan (StartAllocates plan before name) before now (started before name) before result

abbrev pub AddEnds : {T : Type 0} → Option ℕ → (before now : Outside) → (name bytes : List ℕ) → Result T Reason → Type 0
AddEnds plan before now name bytes result =
    EndsExactly plan (AddAllocates plan before name bytes) before now (added before name bytes) (after before (adds name (prefix_of plan bytes))) result

abbrev pub SayEnds : {T : Type 0} → Option ℕ → (before now : Outside) → List ℕ → Result T Reason → Type 0
SayEnds plan before now bytes result =
    EndsExactly plan (prefix_of plan bytes ≢ []) before now (spoken before bytes) (spoken before (prefix_of plan bytes)) result

-- a call that writes to a file changes the files and the number of calls
abbrev pub file_call : (before now : MemWorld) → MemWorld
file_call before now = record before { calls = raised before.calls; files = now.files }

-- a call that writes to the screen
abbrev pub screen_call : (before now : MemWorld) → MemWorld
screen_call before now = record before { calls = raised before.calls; said = now.said }

abbrev pub with_file_fault : MemWorld → MemWorld
with_file_fault world = record world { file_faults = raised world.file_faults }

abbrev pub with_screen_fault : MemWorld → MemWorld
with_screen_fault world = record world { screen_faults = raised world.screen_faults }

abbrev pub with_starved : MemWorld → MemWorld
with_starved world = record world { starved = raised world.starved }

-- a failed write that was out of memory is counted as that
abbrev pub with_reason_counted : MemWorld → Reason → MemWorld
with_reason_counted world Planned = world
with_reason_counted world OutOfMemory = with_starved world

-- a write that failed is counted
abbrev pub with_failure_counted : {T : Type 0} → (MemWorld → MemWorld) → MemWorld → Result T Reason → MemWorld
with_failure_counted with_fault world (Ok _) = world
with_failure_counted with_fault world (Err reason) = with_reason_counted (with_fault world) reason

-- A write that failed was planned to, and left files and screen as the plan says; or it was out of memory where it
-- allocates, and left them as before. It raised the count of its kind and, in the second case, `starved`, and no other.
abbrev pub FailsExactly : (before now : MemWorld) → (allocates : Type 0) → (prefix : Outside) → (failed : MemWorld) → Type 0
FailsExactly before now allocates prefix failed =
    (IsSome (plan_of before) × (outside_of now ≡ prefix) × (now ≡ failed))
    ⊎ (allocates × (outside_of now ≡ outside_of before) × (now ≡ with_starved failed))

-- A write that was done was not planned to fail, wrote all, and raised no count of failures; one that failed is as above.
abbrev pub WritesExactly : {T E : Type 0} → (before now : MemWorld) → (allocates : Type 0) → (whole prefix : Outside) → (done failed : MemWorld) → Result T E → Type 0
WritesExactly before now allocates whole prefix done failed (Ok _) = (plan_of before ≡ None) × (outside_of now ≡ whole) × (now ≡ done)
WritesExactly before now allocates whole prefix done failed (Err _) = FailsExactly before now allocates prefix failed

-- A start that fails leaves the file as before.
abbrev pub StartsExactly : {T E : Type 0} → (before now : MemWorld) → List ℕ → Result T E → Type 0
StartsExactly before now name result =
    WritesExactly before now
    (StartAllocates (plan_of before) (outside_of before) name)
    (started (outside_of before) name)
    (outside_of before)
    (file_call before now) (with_file_fault (file_call before now)) result

-- An add that fails as planned has added the prefix of its piece that the plan leaves, and makes no file for an empty one.
abbrev pub AddsExactly : {T E : Type 0} → (before now : MemWorld) → (name bytes : List ℕ) → Result T E → Type 0
AddsExactly before now name bytes result =
    WritesExactly before now
    (AddAllocates (plan_of before) (outside_of before) name bytes)
    (added (outside_of before) name bytes)
    (after (outside_of before) (adds name (prefix_of (plan_of before) bytes)))
    (file_call before now) (with_file_fault (file_call before now)) result

-- the same on the screen
abbrev pub SaysExactly : {T E : Type 0} → (before now : MemWorld) → List ℕ → Result T E → Type 0
SaysExactly before now bytes result =
    WritesExactly before now
    (prefix_of (plan_of before) bytes ≢ [])
    (spoken (outside_of before) bytes)
    (spoken (outside_of before) (prefix_of (plan_of before) bytes))
    (screen_call before now) (with_screen_fault (screen_call before now)) result

-- a file is put there, or replaced
abbrev pub with_file : Outside → (name bytes : List ℕ) → Outside
with_file outside name bytes = record outside { files = update bytes_eq outside.files name (Some bytes) }
