use Rattle.std.proofs.Common.{◌∙◌, ap}
use Rattle.spk_run.specs.Endings.{target_stop}
use Rattle.spk_run.proofs.Outputs.{log_trouble, screen_trouble}
use Rattle.spk_run.proofs.output.Output.target_of.Goals as goal

pub returns-in-Screen : goal.returns-in-Screen
returns-in-Screen c = screen_trouble _ c.args.trouble c.in-Screen.is

pub returns-in-File : goal.returns-in-File
returns-in-File c = ap target_stop c.log_target.ensures ∙ log_trouble _ c.args.trouble c.in-File.is c.requires
