-- The command that the values of its words make.
pub mod App
pub mod Dump
pub mod Region
pub mod Set
use Rattle.std.specs.Prelude.{false, [], ◌∷◌}
use Rattle.spk_num.specs.declared.shape.Shape.TheVariants.{Union, Intersect}
use Rattle.spk_cmds.specs.declared.command.AppStyle.TheVariants.{Potts, PottsNeighonly}
use Rattle.spk_cmds.specs.declared.command.SetValue.TheVariants.{Value, Unique}
use Rattle.spk_cmds.specs.declared.command.Command.{Command}
use Rattle.spk_cmds.specs.declared.command.Command.TheVariants as command
use Rattle.spk_cmds.specs.declared.form.Maker.{Maker}
use Rattle.spk_cmds.specs.declared.form.Maker.TheVariants as maker
use Rattle.spk_cmds.specs.declared.value.Reading.{Reading}
use Rattle.spk_cmds.specs.Values.{number_at, decimal_at, word_at, words_of}
use Rattle.spk_cmds.specs.Makers.App.{diffusion}
use Rattle.spk_cmds.specs.Makers.Dump.{dump_of}
use Rattle.spk_cmds.specs.Makers.Region.{block, sphere, cylinder, region_of}
use Rattle.spk_cmds.specs.Makers.Set.{range_of, set_to}

abbrev pub made : Maker → Reading → Command
made maker.Seed reading = command.Seed (number_at reading.values 0)
made (maker.App style) reading = command.App style
made maker.Potts reading = command.App (Potts (number_at reading.values 1))
made maker.PottsNeighonly reading = command.App (PottsNeighonly (number_at reading.values 1))
made maker.Diffusion reading = command.App (diffusion reading.values)
made maker.Dimension reading = command.Dimension (number_at reading.values 0)
made (maker.Lattice style) reading = command.Lattice style (decimal_at reading.values 1)
made maker.Boundary reading = command.Boundary (false ∷ false ∷ false ∷ [])
made maker.Block reading = region_of reading.values (block reading.values)
made maker.Sphere reading = region_of reading.values (sphere reading.values)
made maker.Cylinder reading = region_of reading.values (cylinder reading.values)
made maker.Union reading = region_of reading.values (Union (words_of reading.more))
made maker.Intersect reading = region_of reading.values (Intersect (words_of reading.more))
made maker.CreateBox reading = command.CreateBox (word_at reading.values 0)
made maker.CreateSites reading = command.CreateSites
made maker.SetValue reading = set_to (Value (number_at reading.values 2)) reading.more
made maker.SetRange reading = set_to (range_of reading.values) reading.more
made maker.SetUnique reading = set_to Unique reading.more
made maker.ReadSites reading = command.ReadSites (word_at reading.values 0)
made (maker.Solve style) reading = command.Solve style
made (maker.Sweep style) reading = command.Sweep style
made maker.Temperature reading = command.Temperature (decimal_at reading.values 0)
made maker.Stats reading = command.Stats (decimal_at reading.values 0)
made maker.DiagEnergy reading = command.DiagEnergy
made (maker.Dump style) reading = dump_of style reading.values reading.more
made maker.Undump reading = command.Undump (word_at reading.values 0)
made maker.Run reading = command.Run (decimal_at reading.values 0)
made maker.Print reading = command.Print (word_at reading.values 0)
made (maker.SetEcho style) reading = command.SetEcho style
