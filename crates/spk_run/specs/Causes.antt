-- The causes for which a script is refused: their numbers and texts, which are our own.
use Rattle.std.specs.Prelude.{ℕ, zero, suc, ◌≤◌, List, ◌++◌, codes, decimal, Option, Some, None}
use Rattle.spk_world.specs.Causes.{Rose}
use Rattle.spk_world.specs.States.{Faults}
use Rattle.spk_lattice.specs.declared.lattice.LatticeFault.{LatticeFault}
use Rattle.spk_lattice.specs.declared.lattice.LatticeFault.TheVariants as lattice
use Rattle.spk_lattice.specs.declared.regions.fault.RegionFault.{RegionFault}
use Rattle.spk_lattice.specs.declared.regions.fault.RegionFault.TheVariants as region
use Rattle.spk_sched.specs.declared.plan.PlanFault.{PlanFault}
use Rattle.spk_sched.specs.declared.plan.PlanFault.TheVariants as plan
use Rattle.spk_files.specs.declared.site_fault.SiteFault.{SiteFault}
use Rattle.spk_files.specs.declared.site_fault.SiteFault.TheVariants as site_file
use Rattle.spk_script.specs.declared.fault.LineFault.{LineFault}
use Rattle.spk_script.specs.declared.fault.LineFault.TheVariants as fault
use Rattle.spk_cmds.specs.declared.command.CommandFault.{CommandFault}
use Rattle.spk_cmds.specs.declared.command.CommandFault.TheVariants as command
use Rattle.spk_run.specs.declared.cause.Cause.{Cause}
use Rattle.spk_run.specs.declared.cause.Cause.TheVariants.{ScriptTooLong, NotAscii, OpenQuote, TooManyLines, LineTooLong, TooManyCommands, UnknownVariable, WrongWords, BadName, BadFormula, Inexact, NumberTooLarge, LoopValue, NotStepped, OtherFile, NoSuchLabel, BadStyle, UnknownCommand, UnknownStyle, WrongCount, BadNumber, OutOfRange, NotBuilt, BadCommandName, NoSeed, NoApp, NoLattice, NoBox, NoSites, AlreadyMade, WrongDimension, RegionTwice, NoSuchRegion, RegionEmpty, TooManyParts, TooManyRegions, BoxNotBlock, BoxNotWhole, TooSmall, TooManySites, NoSolver, BothSolverAndSweep, NoSweepForApp, BadValueForApp, NotWhole, RunTooLong, DumpTwice, NoSuchDump, TooManyDumps, FileMissing, FileTooLong, NoHeader, SitesCount, BadLine, BadId, TwiceId, MissingId, BadValue, OtherSection}

-- each cause has a number and a text
abbrev pub cause_number : Cause → ℕ
cause_number ScriptTooLong = 101
cause_number (NotAscii place) = 102
cause_number OpenQuote = 103
cause_number TooManyLines = 104
cause_number LineTooLong = 111
cause_number TooManyCommands = 112
cause_number (UnknownVariable name) = 113
cause_number WrongWords = 114
cause_number (BadName word) = 115
cause_number (BadFormula place) = 116
cause_number Inexact = 117
cause_number NumberTooLarge = 118
cause_number LoopValue = 119
cause_number (NotStepped name) = 120
cause_number OtherFile = 121
cause_number (NoSuchLabel label) = 122
cause_number (BadStyle word) = 123
cause_number (UnknownCommand word) = 201
cause_number (UnknownStyle word) = 202
cause_number WrongCount = 203
cause_number (BadNumber word) = 204
cause_number (OutOfRange word) = 205
cause_number (NotBuilt word) = 206
cause_number (BadCommandName word) = 207
cause_number NoSeed = 301
cause_number NoApp = 302
cause_number NoLattice = 303
cause_number NoBox = 304
cause_number NoSites = 305
cause_number AlreadyMade = 306
cause_number WrongDimension = 307
cause_number (RegionTwice name) = 308
cause_number (NoSuchRegion name) = 309
cause_number RegionEmpty = 310
cause_number TooManyParts = 311
cause_number TooManyRegions = 312
cause_number BoxNotBlock = 313
cause_number (BoxNotWhole dimension) = 314
cause_number (TooSmall dimension) = 315
cause_number TooManySites = 316
cause_number NoSolver = 319
cause_number BothSolverAndSweep = 320
cause_number NoSweepForApp = 321
cause_number (BadValueForApp site) = 324
cause_number NotWhole = 325
cause_number RunTooLong = 326
cause_number (DumpTwice name) = 327
cause_number (NoSuchDump name) = 328
cause_number TooManyDumps = 329
cause_number (FileMissing name) = 401
cause_number (FileTooLong name) = 402
cause_number NoHeader = 411
cause_number (SitesCount count) = 412
cause_number (BadLine line) = 413
cause_number (BadId line) = 414
cause_number (TwiceId line) = 415
cause_number (MissingId id) = 416
cause_number (BadValue line) = 417
cause_number (OtherSection line) = 418

-- dimensions are x, y and z
abbrev pub dimension_text : ℕ → List ℕ
dimension_text zero = codes "x"
dimension_text (suc zero) = codes "y"
dimension_text dimension = codes "z"

abbrev pub cause_text : Cause → List ℕ
cause_text ScriptTooLong = codes "script over 1048576 bytes"
cause_text (NotAscii place) = codes "byte " ++ (decimal place ++ codes " is not allowed")
cause_text OpenQuote = codes "quote is not closed"
cause_text TooManyLines = codes "more than 100000 lines"
cause_text LineTooLong = codes "line over 4096 bytes"
cause_text TooManyCommands = codes "more than 1000000 commands"
cause_text (UnknownVariable name) = codes "no variable " ++ name
cause_text WrongWords = codes "wrong number of words"
cause_text (BadName word) = codes "bad name " ++ word
cause_text (BadFormula place) = codes "bad formula at " ++ decimal place
cause_text Inexact = codes "formula is not exact"
cause_text NumberTooLarge = codes "formula passes 10^12"
cause_text LoopValue = codes "bad loop count"
cause_text (NotStepped name) = codes "variable " ++ (name ++ codes " has no next value")
cause_text OtherFile = codes "jump to another file"
cause_text (NoSuchLabel label) = codes "no label " ++ label
cause_text (BadStyle word) = codes "unknown variable style " ++ word
cause_text (UnknownCommand word) = codes "unknown command " ++ word
cause_text (UnknownStyle word) = codes "unknown word " ++ word
cause_text WrongCount = codes "wrong number of words"
cause_text (BadNumber word) = codes "bad number " ++ word
cause_text (OutOfRange word) = codes "number out of range " ++ word
cause_text (NotBuilt word) = codes "not built yet " ++ word
cause_text (BadCommandName word) = codes "bad name " ++ word
cause_text NoSeed = codes "no seed"
cause_text NoApp = codes "no app_style"
cause_text NoLattice = codes "no lattice"
cause_text NoBox = codes "no box"
cause_text NoSites = codes "no sites"
cause_text AlreadyMade = codes "already made"
cause_text WrongDimension = codes "dimension and lattice disagree"
cause_text (RegionTwice name) = codes "region " ++ (name ++ codes " is there")
cause_text (NoSuchRegion name) = codes "no region " ++ name
cause_text RegionEmpty = codes "region is empty"
cause_text TooManyParts = codes "more than 16 parts"
cause_text TooManyRegions = codes "more than 128 regions"
cause_text BoxNotBlock = codes "box is not a block"
cause_text (BoxNotWhole dimension) = codes "box is not whole in " ++ dimension_text dimension
cause_text (TooSmall dimension) = codes "fewer than 3 cells in " ++ dimension_text dimension
cause_text TooManySites = codes "more than 4194304 sites"
cause_text NoSolver = codes "no solve_style and no sweep"
cause_text BothSolverAndSweep = codes "both solve_style and sweep"
cause_text NoSweepForApp = codes "application has no sweep"
cause_text (BadValueForApp site) = codes "bad value at site " ++ decimal site
cause_text NotWhole = codes "not a whole number of sweeps"
cause_text RunTooLong = codes "run too long"
cause_text (DumpTwice name) = codes "dump " ++ (name ++ codes " is there")
cause_text (NoSuchDump name) = codes "no dump " ++ name
cause_text TooManyDumps = codes "more than 32 dumps"
cause_text (FileMissing name) = codes "no file " ++ name
cause_text (FileTooLong name) = codes "file " ++ (name ++ codes " too long")
cause_text NoHeader = codes "site file has no header"
cause_text (SitesCount count) = codes "site file has " ++ (decimal count ++ codes " sites")
cause_text (BadLine line) = codes "bad line " ++ decimal line
cause_text (BadId line) = codes "bad id in line " ++ decimal line
cause_text (TwiceId line) = codes "id twice in line " ++ decimal line
cause_text (MissingId id) = codes "no id " ++ decimal id
cause_text (BadValue line) = codes "bad value in line " ++ decimal line
cause_text (OtherSection line) = codes "other section in line " ++ decimal line

-- the cause that a fault of a line is; out of memory is no fault of the line
abbrev pub line_cause : LineFault → Option Cause
line_cause fault.LineTooLong = Some LineTooLong
line_cause (fault.TooManyCommands number) = Some TooManyCommands
line_cause (fault.UnknownVariable name) = Some (UnknownVariable name)
line_cause fault.WrongWords = Some WrongWords
line_cause (fault.BadName word) = Some (BadName word)
line_cause (fault.BadFormula place) = Some (BadFormula place)
line_cause fault.Inexact = Some Inexact
line_cause fault.NumberTooLarge = Some NumberTooLarge
line_cause fault.LoopValue = Some LoopValue
line_cause (fault.NotStepped name) = Some (NotStepped name)
line_cause fault.OtherFile = Some OtherFile
line_cause (fault.NoSuchLabel label) = Some (NoSuchLabel label)
line_cause (fault.BadStyle word) = Some (BadStyle word)
line_cause fault.Memory = None

-- the same of a fault of the words of a command
abbrev pub words_cause : CommandFault → Option Cause
words_cause (command.UnknownCommand word) = Some (UnknownCommand word)
words_cause (command.UnknownStyle word) = Some (UnknownStyle word)
words_cause command.WrongCount = Some WrongCount
words_cause (command.BadNumber word) = Some (BadNumber word)
words_cause (command.OutOfRange word) = Some (OutOfRange word)
words_cause (command.NotBuilt word) = Some (NotBuilt word)
words_cause (command.BadName word) = Some (BadCommandName word)
words_cause command.Memory = None

-- the same of a fault of a lattice
abbrev pub lattice_cause : LatticeFault → Cause
lattice_cause (lattice.TooSmall dimension) = TooSmall dimension
lattice_cause lattice.TooManySites = TooManySites

abbrev pub plan_cause : PlanFault → Option Cause
plan_cause plan.NotWhole = Some NotWhole
plan_cause plan.RunTooLong = Some RunTooLong
plan_cause plan.Memory = None

-- the same of a fault of a site file
abbrev pub site_file_cause : SiteFault → Option Cause
site_file_cause site_file.NoHeader = Some NoHeader
site_file_cause (site_file.SitesCount count) = Some (SitesCount count)
site_file_cause (site_file.BadLine line) = Some (BadLine line)
site_file_cause (site_file.BadId line) = Some (BadId line)
site_file_cause (site_file.TwiceId line) = Some (TwiceId line)
site_file_cause (site_file.MissingId id) = Some (MissingId id)
site_file_cause (site_file.BadValue line) = Some (BadValue line)
site_file_cause (site_file.OtherSection line) = Some (OtherSection line)
site_file_cause site_file.Memory = None

-- the same of a fault of a region with this name; out of memory is none
abbrev pub shape_cause : List ℕ → RegionFault → Option Cause
shape_cause name region.Twice = Some (RegionTwice name)
shape_cause name (region.Unknown part) = Some (NoSuchRegion part)
shape_cause name region.Empty = Some RegionEmpty
shape_cause name region.TooManyParts = Some TooManyParts
shape_cause name region.TooManyRegions = Some TooManyRegions
shape_cause name region.Memory = None

-- a cause that lies in a file that a command loads
abbrev pub IsOfFile : Cause → Type 0
IsOfFile cause = 401 ≤ cause_number cause

-- a cause that lies in what a file has in it
abbrev pub IsOfContent : Cause → Type 0
IsOfContent NoHeader = Unit {0}
IsOfContent (SitesCount count) = Unit {0}
IsOfContent (BadLine line) = Unit {0}
IsOfContent (BadId line) = Unit {0}
IsOfContent (TwiceId line) = Unit {0}
IsOfContent (MissingId id) = Unit {0}
IsOfContent (BadValue line) = Unit {0}
IsOfContent (OtherSection line) = Unit {0}
IsOfContent cause = ⊥

-- a cause that lies in what was given and made before, and in no file
abbrev pub IsOfState : Cause → Type 0
IsOfState (FileMissing name) = ⊥
IsOfState (FileTooLong name) = ⊥
IsOfState ScriptTooLong = ⊥
IsOfState NoHeader = ⊥
IsOfState (SitesCount count) = ⊥
IsOfState (BadLine line) = ⊥
IsOfState (BadId line) = ⊥
IsOfState (TwiceId line) = ⊥
IsOfState (MissingId id) = ⊥
IsOfState (BadValue line) = ⊥
IsOfState (OtherSection line) = ⊥
IsOfState cause = Unit {0}

-- Over a world that tells nothing, a file is missing or too long only where the count of loads rose.
abbrev pub FileRefusalRose : Faults → Faults → Cause → Type 0
FileRefusalRose before now (FileMissing name) = Rose before.loads now.loads
FileRefusalRose before now (FileTooLong name) = Rose before.loads now.loads
FileRefusalRose before now ScriptTooLong = Rose before.loads now.loads
FileRefusalRose before now cause = Unit {0}
