-- What readers gave and writers took, where the bytes that they hold are known, why a file was not opened, and the
-- counts of the real world.
use Rattle.std.specs.Prelude.{◌≡◌, ℕ, ◌+◌, ◌≤◌, List, ◌++◌, length, Option, IfSome, None, Result, Ok, Err, Vec, vec_len}
use Rattle.std.specs.Io.KnownBytes.{Appends}
use Rattle.std.specs.declared.alloc.Global.{Global}
use Rattle.std.specs.declared.io.ErrorKind.{ErrorKind}
use Rattle.std.specs.declared.io.ErrorKind.TheVariants.{NotFound, OutOfMemory}
use Rattle.spk_world.specs.States.{Faults, WorldState}
use Rattle.spk_world.specs.Memory.{raised}
use Rattle.spk_world.specs.declared.world.LoadFault.{LoadFault}
use Rattle.spk_world.specs.declared.world.LoadFault.TheVariants.{Missing, TooLong, Failed, Memory}
use Rattle.spk_world.specs.declared.host.HostWorld.{HostWorld}

abbrev pub host_faults : {R : Type 0} → HostWorld R → Faults
host_faults world = record { loads = world.load_faults; files = world.file_faults; screen = world.screen_faults }

-- The real world tells nothing of its files and its screen.
abbrev pub host_state : {R : Type 0} → HostWorld R → WorldState
host_state world = record { told = None; faults = host_faults world }

-- the counts after a load with this answer
abbrev pub load_counted : Faults → Result (Vec ℕ Global) LoadFault → Faults
load_counted faults (Ok bytes) = faults
load_counted faults (Err Missing) = record faults { loads = raised faults.loads }
load_counted faults (Err TooLong) = record faults { loads = raised faults.loads }
load_counted faults (Err Failed) = record faults { loads = raised faults.loads }
load_counted faults (Err Memory) = faults

-- the counts after a write to a file, and after one to the screen
abbrev pub file_counted : {T E : Type 0} → Faults → Result T E → Faults
file_counted faults (Ok _) = faults
file_counted faults (Err _) = record faults { files = raised faults.files }

abbrev pub screen_counted : {T E : Type 0} → Faults → Result T E → Faults
screen_counted faults (Ok _) = faults
screen_counted faults (Err _) = record faults { screen = raised faults.screen }

-- why a file is not loaded whose opening fails with an error of this kind
abbrev pub fault_of_kind : ErrorKind → LoadFault
fault_of_kind NotFound = Missing
fault_of_kind OutOfMemory = Memory
fault_of_kind kind = Failed

-- the bytes before those that are left were taken
pub record TookAllBut (before now : Option (List ℕ)) (bytes left : List ℕ) : Type 0 where
  pub prefix : List ℕ
  pub split : bytes ≡ prefix ++ left
  pub appends : Appends before now prefix

-- A writer took all of the bytes, or failed and took a prefix of them.
abbrev pub Takes : {T E : Type 0} → (before now : Option (List ℕ)) → List ℕ → Result T E → Type 0
Takes before now bytes (Ok _) = Appends before now bytes
Takes before now bytes (Err _) = (left : List ℕ) × TookAllBut before now bytes left

-- A reader gave all of its bytes, which are no more than the limit, or it has more than that. It may fail, but it is
-- never missing.
abbrev pub Gives : Option (List ℕ) → ℕ → Result (Vec ℕ Global) LoadFault → Type 0
Gives known limit (Ok bytes) = IfSome known (λ all. bytes.items ≡ all) × (vec_len bytes ≤ limit)
Gives known limit (Err TooLong) = IfSome known (λ all. limit + 1 ≤ length all)
Gives known limit (Err Missing) = ⊥
Gives known limit (Err Failed) = Unit {0}
Gives known limit (Err Memory) = Unit {0}
