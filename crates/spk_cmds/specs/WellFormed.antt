-- Commands whose names and numbers are those that the manual allows.
use Rattle.std.specs.Prelude.{◌≡◌, ℕ, suc, ◌≤◌, max, true, false, ℤ, pos, negsuc, neg_ℤ, int_lt, unsigned_abs, List, [], ◌∷◌, length}
use Rattle.std.specs.Option.{IfSome}
use Rattle.spk_num.specs.Names.{is_name, is_file_name}
use Rattle.spk_num.specs.declared.decimal.Dec.{Dec}
use Rattle.spk_num.specs.declared.shape.Bound.{Bound}
use Rattle.spk_num.specs.declared.shape.Bound.TheVariants.{At, Open}
use Rattle.spk_num.specs.declared.shape.Shape.{Shape}
use Rattle.spk_num.specs.declared.shape.Shape.TheVariants.{Block, Sphere, Cylinder, Union, Intersect}
use Rattle.spk_num.specs.declared.field.Field.{Field}
use Rattle.spk_cmds.specs.declared.command.AppStyle.{AppStyle}
use Rattle.spk_cmds.specs.declared.command.AppStyle.TheVariants.{Potts, PottsNeighonly}
use Rattle.spk_cmds.specs.declared.command.DumpStyle.{DumpStyle}
use Rattle.spk_cmds.specs.declared.command.DumpStyle.TheVariants as dump
use Rattle.spk_cmds.specs.declared.command.SetValue.{SetValue}
use Rattle.spk_cmds.specs.declared.command.SetValue.TheVariants.{Value, Range, Unique}
use Rattle.spk_cmds.specs.declared.command.Command.{Command}
use Rattle.spk_cmds.specs.declared.command.Command.TheVariants as command

-- a whole number from one to another, both ends taken
abbrev pub IsFromTo : ℕ → ℕ → ℕ → Type 0
IsFromTo low high n = (low ≤ n) × (n ≤ high)

-- a decimal number from 0 to so many millionths
abbrev pub IsUpTo : ℕ → Dec → Type 0
IsUpTo most dec = (int_lt dec.millionths (pos 0) ≡ false) × (unsigned_abs dec.millionths ≤ most)

-- a decimal number above 0, up to so many millionths
abbrev pub IsAboveZero : ℕ → Dec → Type 0
IsAboveZero most dec = IsUpTo most dec × (1 ≤ unsigned_abs dec.millionths)

-- a decimal number from one to another, in millionths
abbrev pub IsWithin : ℤ → ℤ → Dec → Type 0
IsWithin (pos low) (pos high) dec = IsUpTo high dec × (low ≤ unsigned_abs dec.millionths)
IsWithin (negsuc low) (pos high) dec = unsigned_abs dec.millionths ≤ max (suc low) high
IsWithin low (negsuc high) dec = Unit {0}

abbrev pub IsBoundWithin : ℤ → ℤ → Bound → Type 0
IsBoundWithin low high (At dec) = IsWithin low high dec
IsBoundWithin low high Open = Unit {0}

-- a number and a bound of a region, of at most 10000000 in absolute value
abbrev pub IsNear : Dec → Type 0
IsNear dec = unsigned_abs dec.millionths ≤ 10000000000000

abbrev pub IsNearBound : Bound → Type 0
IsNearBound bound = IsBoundWithin (neg_ℤ (pos 10000000000000)) (pos 10000000000000) bound

abbrev pub IsName : List ℕ → Type 0
IsName name = is_name name ≡ true

abbrev pub IsFileName : List ℕ → Type 0
IsFileName name = is_file_name name ≡ true

-- lists of which each item is of a form
abbrev pub Each : {A : Type 0} → (A → Type 0) → List A → Type 0
Each P [] = Unit {0}
Each P (x ∷ xs) = P x × Each P xs

abbrev pub IsApp : AppStyle → Type 0
IsApp (Potts values) = IsFromTo 1 1000000 values
IsApp (PottsNeighonly values) = IsFromTo 1 1000000 values
IsApp style = Unit {0}

abbrev pub IsShape : Shape → Type 0
IsShape (Block lo hi) = (length lo ≡ 3) × (length hi ≡ 3) × Each IsNearBound lo × Each IsNearBound hi
IsShape (Sphere centre radius) = (length centre ≡ 3) × Each IsNear centre × IsUpTo 10000000000000 radius
IsShape (Cylinder axis centre radius lo hi) = (axis ≤ 2) × (length centre ≡ 2) × Each IsNear centre × IsUpTo 10000000000000 radius × IsNearBound lo × IsNearBound hi
IsShape (Union parts) = Each IsName parts
IsShape (Intersect parts) = Each IsName parts

abbrev pub IsSetValue : SetValue → Type 0
IsSetValue (Value value) = value ≤ 4294967295
IsSetValue (Range low high) = (low ≤ high) × (high ≤ 4294967295)
IsSetValue Unique = Unit {0}

-- a text dump has 1 to 16 fields, and one of sites has none
abbrev pub AreFields : DumpStyle → List Field → Type 0
AreFields dump.Text fields = IsFromTo 1 16 (length fields)
AreFields dump.Sites fields = fields ≡ []

abbrev pub IsWellFormed : Command → Type 0
IsWellFormed (command.Seed seed) = IsFromTo 1 2147483646 seed
IsWellFormed (command.App style) = IsApp style
IsWellFormed (command.Dimension d) = IsFromTo 1 3 d
IsWellFormed (command.Lattice style scale) = IsAboveZero 1000000000000 scale
IsWellFormed (command.Boundary faces) = length faces ≡ 3
IsWellFormed (command.Processors ranks) = (length ranks ≡ 3) × Each (IsFromTo 1 64) ranks
IsWellFormed (command.Region name shape) = IsName name × IsShape shape
IsWellFormed (command.CreateBox region) = IsName region
IsWellFormed command.CreateSites = Unit {0}
IsWellFormed (command.Set value fraction region) = IsSetValue value × IfSome fraction (IsAboveZero 1000000) × IfSome region IsName
IsWellFormed (command.ReadSites file) = IsFileName file
IsWellFormed (command.WriteRestart file) = IsFileName file
IsWellFormed (command.ReadRestart file) = IsFileName file
IsWellFormed (command.Sector sectors tstop nstop) = IfSome tstop (IsAboveZero 1000000000000) × IfSome nstop (IsAboveZero 1000000000000)
IsWellFormed (command.Solve style) = Unit {0}
IsWellFormed (command.Sweep style) = Unit {0}
IsWellFormed (command.Temperature t) = IsUpTo 1000000000000 t
IsWellFormed (command.Stats delta) = IsUpTo 1000000000000000 delta
IsWellFormed command.DiagEnergy = Unit {0}
IsWellFormed (command.Dump name style delta file fields) = IsName name × IsAboveZero 1000000000000000 delta × IsFileName file × AreFields style fields
IsWellFormed (command.Undump name) = IsName name
IsWellFormed (command.Run duration) = IsUpTo 4000000000000000 duration
IsWellFormed (command.Print text) = Unit {0}
IsWellFormed (command.SetEcho echo) = Unit {0}
