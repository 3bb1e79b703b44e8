use Rattle.std.proofs.Common.{map, ap, ◌∙◌, arith}
use Rattle.spk_run.specs.Dumps.{passed}
use Rattle.spk_run.proofs.DumpSteps.{all_stepped, none_stepped, one_stepped}
use Rattle.spk_run.proofs.dumps.Dumps.pass.Goals as goal

pub loop-place-init : goal.loop-place-init
loop-place-init c = none_stepped (passed c.args.time) _

pub loop-place-preserved : goal.loop-place-preserved
loop-place-preserved c =
    one_stepped (passed c.args.time) _ _ c.loop-place.place _ _ (omega (arith, c.loop-place-test.true, c.len-place-end.ensures, c.self.inside.dumps.ok)) c.loop-place.invariant
    (c.pass.ensures ∙ ap (passed c.args.time) c.index_mut.ensures.value)

pub returns : goal.returns
returns c =
    all_stepped (passed c.args.time) _ _ c.loop-place.place (omega (arith, c.loop-place-test.false, c.len-place-end.ensures, c.self.inside.dumps.ok)) c.loop-place.invariant
    ∙ ap (map (passed c.args.time)) c.self.view_is
