use Rattle.spk_cmds.proofs.CommandReads.{nameless, by_name}
use Rattle.spk_cmds.proofs.TableFacts.{its_form}
use Rattle.spk_cmds.proofs.commands.command_of.Goals as goal

pub returns-in_default-clause-read : goal.returns-in_default-clause-read
returns-in_default-clause-read c = nameless _ _ c.in_default.len_below c.in_ok-copy.ensures

pub returns-clause-read : goal.returns-clause-read
returns-clause-read c = by_name _ _ _ c.in-len1-up.len_at_least c.name-item.is c.named_command.ensures

pub returns-clause-formed : goal.returns-clause-formed
returns-clause-formed c = its_form c.args.words.now _ (by_name _ _ _ c.in-len1-up.len_at_least c.name-item.is c.named_command.ensures)
