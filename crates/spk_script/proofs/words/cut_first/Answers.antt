use Rattle.spk_script.proofs.Cuts.{first_comment, first_none, first_quote}
use Rattle.spk_script.proofs.words.cut_first.Goals as goal

pub returns-in_default : goal.returns-in_default
returns-in_default c = first_none c.args.text.now c.in_default.ensures.cases

pub returns-in-35 : goal.returns-in-35
returns-in-35 c = first_comment c.args.text.now c.in-Some.rest.now c.in-Some.first.now c.in-Some.ensures.cases c.in-35.is

pub returns-in-34 : goal.returns-in-34
returns-in-34 c = first_quote c.args.text.now c.in-Some.rest.now c.in-Some.first.now c.cut_quoted.result c.in-Some.ensures.cases c.in-34.is c.cut_quoted.ensures
