-- What the commands of the machine ask of their words.
use Rattle.std.specs.Prelude.{ℕ, List, [], ◌∷◌, Ok, Err, Result, if◌then◌else◌}
use Rattle.spk_num.specs.Names.{is_name}
use Rattle.spk_script.specs.declared.fault.LineFault.{LineFault}
use Rattle.spk_script.specs.declared.fault.LineFault.TheVariants.{WrongWords, BadName}

abbrev pub checked_name : List ℕ → Result (Unit {0}) LineFault
checked_name name = if is_name name then Ok tt else Err (BadName name)

-- a style that takes one value has no more
abbrev pub nothing_after : List (List ℕ) → Result (Unit {0}) LineFault
nothing_after [] = Ok tt
nothing_after (value ∷ values) = Err WrongWords
