-- How things stand outside: files and screen, where a world tells them, and how often its calls have failed.
use Rattle.std.specs.Prelude.{ℕ, Option}
use Rattle.spk_world.specs.Outside.{Outside}

-- failures of loads, of writes to files, and of writes to the screen
pub record Faults : Type 0 where
  pub loads : ℕ
  pub files : ℕ
  pub screen : ℕ

pub record WorldState : Type 0 where
  pub told : Option Outside
  pub faults : Faults
