use Rattle.std.proofs.Common.{map, ap, ◌∙◌, arith}
use Rattle.spk_run.specs.Dumps.{started}
use Rattle.spk_run.proofs.DumpSteps.{all_stepped, none_stepped, one_stepped}
use Rattle.spk_run.proofs.dumps.Dumps.start.Goals as goal

pub loop-place-init : goal.loop-place-init
loop-place-init c = none_stepped (started c.args.start) _

pub loop-place-preserved : goal.loop-place-preserved
loop-place-preserved c =
    one_stepped (started c.args.start) _ _ c.loop-place.place _ _ (omega (arith, c.loop-place-test.true, c.len-place-end.ensures, c.self.inside.dumps.ok)) c.loop-place.invariant
    (c.start.ensures ∙ ap (started c.args.start) c.index_mut.ensures.value)

pub returns : goal.returns
returns c =
    all_stepped (started c.args.start) _ _ c.loop-place.place (omega (arith, c.loop-place-test.false, c.len-place-end.ensures, c.self.inside.dumps.ok)) c.loop-place.invariant
    ∙ ap (map (started c.args.start)) c.self.view_is
