-- The solver of a run: its style, and what it keeps.
use Rattle.std.specs.Prelude.{ℕ, List}
use Rattle.spk_solve.specs.Choice.{Rule, RunningSum, Bins}
use Rattle.spk_cmds.specs.declared.command.SolveStyle.{SolveStyle}
use Rattle.spk_cmds.specs.declared.command.SolveStyle.TheVariants as style
use Rattle.spk_run.specs.declared.solver.AnySolver.{AnySolver}
use Rattle.spk_run.specs.declared.solver.AnySolver.TheVariants as any

-- the rule by which a style chooses
abbrev pub rule_of : SolveStyle → Rule
rule_of style.Linear = RunningSum
rule_of style.Tree = RunningSum
rule_of style.Group = Bins

abbrev pub style_of : AnySolver → SolveStyle
style_of (any.Linear kept) = style.Linear
style_of (any.Tree kept) = style.Tree
style_of (any.Group kept) = style.Group

-- the propensities that a solver keeps, and for how many it has room
abbrev pub list_of : AnySolver → List ℕ
list_of (any.Linear kept) = kept.list
list_of (any.Tree kept) = kept.list
list_of (any.Group kept) = kept.list

abbrev pub room_of : AnySolver → ℕ
room_of (any.Linear kept) = kept.room
room_of (any.Tree kept) = kept.room
room_of (any.Group kept) = kept.room
