use Rattle.std.proofs.Common.{Ok, Err, ◌∙◌}
use Rattle.spk_world.specs.Causes.{LoadCause}
use Rattle.spk_world.specs.declared.world.LoadFault.TheVariants.{Missing, TooLong}
use Rattle.spk_run.specs.declared.cause.Cause.TheVariants.{FileMissing, ScriptTooLong}
use Rattle.spk_run.proofs.Loading.{found_script, missing_script, long_script, obeyed_file, failed_load, load_without_memory}
use Rattle.spk_run.proofs.Obeying.{stops_for_memory, ending_since, since_load, refused_later}
use Rattle.spk_run.proofs.simulate.obey_file.Goals as goal

pub returns-in_err-copy-clause-wrote : goal.returns-in_err-copy-clause-wrote
returns-in_err-copy-clause-wrote g c = stops_for_memory c.from_residual.ensures.1

pub returns-in-Ok-clause-wrote : goal.returns-in-Ok-clause-wrote
returns-in-Ok-clause-wrote g c =
    obeyed_file c.args.vars.now c.args.session.now.state c.args.name.now c.as_str-2.result.now (Ok c.in-Ok.script) _ c.obey_script.result c.in-Ok.ensures.same c.as_str-2.ensures c.in-Ok.ensures.cause
    (found_script c.args.vars.now c.args.session.now.state (g.W.World.state c.args.world.now).told c.args.name.now c.as_str-2.result.now 1048576 c.in-Ok.script c.in-Ok.ensures.content)
    (rw (← c.deref.ensures.value) (c.obey_script.ensures.wrote c.args.name.now))

pub returns-in-Ok-clause-untold : goal.returns-in-Ok-clause-untold
returns-in-Ok-clause-untold g c =
    ending_since (g.W.World.state c.obey_script.new.world).faults c.obey_script.result (since_load c.in-Ok.ensures.same c.in-Ok.ensures.cause) c.obey_script.ensures.untold

pub returns-in-Err-Missing-clause-wrote : goal.returns-in-Err-Missing-clause-wrote
returns-in-Err-Missing-clause-wrote g c =
    obeyed_file c.args.vars.now c.args.session.now.state c.args.name.now c.as_str-2.result.now (Err c.in-Err-Missing.field-0) _ c.refuse.result c.in-Err-Missing.ensures.same c.as_str-2.ensures c.in-Err-Missing.ensures.cause
    (missing_script c.args.vars.now c.args.session.now.state (g.W.World.state c.args.world.now).told c.args.name.now c.as_str-2.result.now 1048576 (rw c.in-Err-Missing.field-0-is at c.in-Err-Missing.ensures.content))
    (rw (c.in_ok-copy.ensures, c.as_str.ensures) at c.refuse.ensures.wrote)

pub returns-in-Err-Missing-clause-untold : goal.returns-in-Err-Missing-clause-untold
returns-in-Err-Missing-clause-untold g c =
    let cause : LoadCause (g.W.World.state c.args.world.now) (g.W.World.state c.load.new.self) (Err Missing) = rw c.in-Err-Missing.field-0-is at c.in-Err-Missing.ensures.cause in
    refused_later (g.W.World.state c.args.world.now) (g.W.World.state c.load.new.self) (g.W.World.state c.refuse.new.world) 0 (FileMissing c.in_ok-copy.copy) c.refuse.result
    cause.failed c.refuse.ensures.wrote.later c.refuse.ensures.ending

pub returns-in-Err-TooLong-clause-wrote : goal.returns-in-Err-TooLong-clause-wrote
returns-in-Err-TooLong-clause-wrote g c =
    obeyed_file c.args.vars.now c.args.session.now.state c.args.name.now c.as_str-2.result.now (Err c.in-Err-TooLong.field-0) _ c.refuse-in-Err-TooLong.result c.in-Err-TooLong.ensures.same c.as_str-2.ensures c.in-Err-TooLong.ensures.cause
    (long_script c.args.vars.now c.args.session.now.state (g.W.World.state c.args.world.now).told c.args.name.now c.as_str-2.result.now (rw c.in-Err-TooLong.field-0-is at c.in-Err-TooLong.ensures.content))
    c.refuse-in-Err-TooLong.ensures.wrote

pub returns-in-Err-TooLong-clause-untold : goal.returns-in-Err-TooLong-clause-untold
returns-in-Err-TooLong-clause-untold g c =
    let cause : LoadCause (g.W.World.state c.args.world.now) (g.W.World.state c.load.new.self) (Err TooLong) = rw c.in-Err-TooLong.field-0-is at c.in-Err-TooLong.ensures.cause in
    refused_later (g.W.World.state c.args.world.now) (g.W.World.state c.load.new.self) (g.W.World.state c.refuse-in-Err-TooLong.new.world) 0 ScriptTooLong c.refuse-in-Err-TooLong.result
    cause.failed c.refuse-in-Err-TooLong.ensures.wrote.later c.refuse-in-Err-TooLong.ensures.ending

pub returns-in-Err-Failed-clause-wrote : goal.returns-in-Err-Failed-clause-wrote
returns-in-Err-Failed-clause-wrote g c =
    failed_load c.args.vars.now c.args.session.now.state c.args.name.now c.in_ok-copy.copy (c.in_ok-copy.ensures ∙ c.as_str.ensures) c.in-Err-Failed.ensures.same
    (rw c.in-Err-Failed.field-0-is at c.in-Err-Failed.ensures.cause)

pub returns-in-Err-Memory-clause-wrote : goal.returns-in-Err-Memory-clause-wrote
returns-in-Err-Memory-clause-wrote g c =
    load_without_memory c.args.vars.now c.args.session.now.state c.args.name.now (Err c.in-Err-Memory.field-0) c.in-Err-Memory.ensures.same c.in-Err-Memory.ensures.cause
