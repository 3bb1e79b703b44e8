-- What goes to the screen and to the log, and why a write of a report stopped.
use Rattle.std.specs.Prelude.{ℕ, List, [], Option, Some, None, unwrap_or}
use Rattle.std.specs.Borrow.{Bor}
use Rattle.std.specs.Option.{option_map}
use Rattle.spk_world.specs.Outside.{Screen, File, says, adds}
use Rattle.spk_world.specs.Effects.{Effect, Stop, WriteFailed, ◌>>◌, answers, writes}
use Rattle.spk_world.specs.declared.world.Failed.{Failed}
use Rattle.spk_report.specs.declared.write_trouble.WriteTrouble.{WriteTrouble}
use Rattle.spk_report.specs.declared.write_trouble.WriteTrouble.TheVariants as trouble

-- a text for the log, where there is one
abbrev pub logs : Option (List ℕ) → List ℕ → Effect (Unit {0})
logs None text = answers tt
logs (Some log) text = writes (adds log text)

-- a text for the screen, and then for the log
unfoldable pub prints : Option (List ℕ) → List ℕ → Effect (Unit {0})
prints log text = writes (says text) >> logs log text

-- the name of the log, as it is handed in; where there is none no write to it fails
abbrev pub name_of : Option (Bor (List ℕ)) → Option (List ℕ)
name_of log = option_map (λ name. name.now) log

abbrev pub log_name : Option (List ℕ) → List ℕ
log_name log = unwrap_or log []

-- Only a log that is there is a file at which a line of statistics fails.
abbrev pub IsTroubleOf : Option (List ℕ) → WriteTrouble → Type 0
IsTroubleOf None trouble.File = ⊥
IsTroubleOf log other = Unit {0}

-- a write to the screen failed, or one to the file with this name
unfoldable pub trouble_stop : List ℕ → WriteTrouble → Stop
trouble_stop name trouble.Screen = WriteFailed Screen
trouble_stop name trouble.File = WriteFailed (File name)

-- a write to the file with this name failed
unfoldable pub failed_stop : List ℕ → Failed → Stop
failed_stop name failed = WriteFailed (File name)
