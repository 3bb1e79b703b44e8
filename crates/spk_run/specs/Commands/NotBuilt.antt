-- Commands that aren't built yet, whatever their words are, and words that aren't. A session refuses such a command by its first
-- word, and another one by the word that isn't built.
use Rattle.std.specs.Prelude.{ℕ, Bool, if◌then◌else◌, List, codes, Option, Some, None}
use Rattle.std.specs.List.{list_any}
use Rattle.spk_num.specs.declared.sweep.Sweep.TheVariants.{Color}
use Rattle.spk_cmds.specs.declared.command.Command.{Command}
use Rattle.spk_cmds.specs.declared.command.Command.TheVariants.{Boundary, Processors, WriteRestart, ReadRestart, Sector, Sweep}

abbrev pub word_if : Bool → List ℕ → Option (List ℕ)
word_if unbuilt word = if unbuilt then Some word else None

-- the first word of a command that isn't built
unfoldable pub unbuilt_word : Command → Option (List ℕ)
unbuilt_word (Boundary faces) = word_if (list_any (λ face. face) faces) (codes "boundary")
unbuilt_word (Processors ranks) = Some (codes "processors")
unbuilt_word (WriteRestart file) = Some (codes "write_restart")
unbuilt_word (ReadRestart file) = Some (codes "read_restart")
unbuilt_word (Sector divided tstop nstop) = Some (codes "sector")
unbuilt_word (Sweep Color) = Some (codes "color")
unbuilt_word command = None
