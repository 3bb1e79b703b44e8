-- What a load answers, and that each failure that a call answers has raised its count.
use Rattle.std.specs.Prelude.{◌≡◌, ℕ, ◌+◌, ◌-◌, ◌^◌, ◌≤◌, min, List, length, Option, IfNone, Result, Ok, Err, OnErr, Vec, vec_len, IsSomeAnd, Some, None}
use Rattle.std.specs.declared.alloc.Global.{Global}
use Rattle.spk_world.specs.Outside.{Outside}
use Rattle.spk_world.specs.States.{Faults, WorldState}
use Rattle.spk_world.specs.declared.world.LoadFault.{LoadFault}
use Rattle.spk_world.specs.declared.world.LoadFault.TheVariants.{Missing, TooLong, Failed, Memory}

-- a count rose, or stands at its greatest value
abbrev pub Rose : ℕ → ℕ → Type 0
Rose before now = min (before + 1) (2 ^ 64 - 1) ≤ now

-- No count has fallen.
pub record Later (before now : Faults) : Type 0 where
  pub loads : before.loads ≤ now.loads
  pub files : before.files ≤ now.files
  pub screen : before.screen ≤ now.screen

-- A write to a file changes its own count alone, and fails only where that rose.
pub record FileCause {T E : Type 0} (before now : WorldState) (result : Result T E) : Type 0 where
  pub later : before.faults.files ≤ now.faults.files
  pub failed : OnErr result (Rose before.faults.files now.faults.files)
  pub loads : now.faults.loads ≡ before.faults.loads
  pub screen : now.faults.screen ≡ before.faults.screen

-- the same for the screen
pub record ScreenCause {T E : Type 0} (before now : WorldState) (result : Result T E) : Type 0 where
  pub later : before.faults.screen ≤ now.faults.screen
  pub failed : OnErr result (Rose before.faults.screen now.faults.screen)
  pub loads : now.faults.loads ≡ before.faults.loads
  pub files : now.faults.files ≡ before.faults.files

-- A load answers what the file is: its bytes, if they are no more than the limit; that it isn't there; or that it is
-- longer than the limit. It fails only at a file that it could have loaded.
abbrev pub Loads : Option (List ℕ) → ℕ → Result (Vec ℕ Global) LoadFault → Type 0
Loads file limit (Ok bytes) = (file ≡ Some bytes.items) × (vec_len bytes ≤ limit)
Loads file limit (Err Missing) = file ≡ None
Loads file limit (Err TooLong) = IsSomeAnd file (λ bytes. limit + 1 ≤ length bytes)
Loads file limit (Err Failed) = IsSomeAnd file (λ bytes. length bytes ≤ limit)
Loads file limit (Err Memory) = Unit {0}

-- A load fails only where its count rose. Where the files aren't told, the same goes for `Missing` and `TooLong`.
abbrev pub LoadFails : Option Outside → ℕ → ℕ → Result (Vec ℕ Global) LoadFault → Type 0
LoadFails told before now (Ok bytes) = Unit {0}
LoadFails told before now (Err Missing) = IfNone told (Rose before now)
LoadFails told before now (Err TooLong) = IfNone told (Rose before now)
LoadFails told before now (Err Failed) = Rose before now
LoadFails told before now (Err Memory) = Unit {0}

-- A load changes no other count.
pub record LoadCause (before now : WorldState) (result : Result (Vec ℕ Global) LoadFault) : Type 0 where
  pub later : before.faults.loads ≤ now.faults.loads
  pub failed : LoadFails before.told before.faults.loads now.faults.loads result
  pub files : now.faults.files ≡ before.faults.files
  pub screen : now.faults.screen ≡ before.faults.screen
