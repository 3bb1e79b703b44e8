use Rattle.spk_run.proofs.Loading.{not_too_long}
use Rattle.spk_run.proofs.Obeying.{holds_untold}
use Rattle.spk_run.proofs.simulate.obey_script.Goals as goal

pub refuse_script-requires : goal.refuse_script-requires
refuse_script-requires g c = not_too_long c.args.bytes.now _ c.requires c.in-Err.ensures.fault

pub returns-in-Err-clause-wrote : goal.returns-in-Err-clause-wrote
returns-in-Err-clause-wrote g c = λ name. c.refuse_script.ensures.wrote c.args.vars.now _ c.in-Err.ensures.fault

pub returns-in-Err-clause-untold : goal.returns-in-Err-clause-untold
returns-in-Err-clause-untold g c = holds_untold _ _ c.refuse_script.ensures.untold
