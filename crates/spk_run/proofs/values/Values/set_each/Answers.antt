use Rattle.std.proofs.Common.{◌∙◌, arith}
use Rattle.spk_run.specs.Commands.Set.{is_in}
use Rattle.spk_run.proofs.DrawnValues.{sites_done}
use Rattle.spk_run.proofs.values.Values.set_each.Goals as goal

pub loop-place-preserved : goal.loop-place-preserved
loop-place-preserved c = record {
  all = c.set_one.ensures.sites ∙ c.loop-place.invariant.all;
  values = λ name is. c.set_one.ensures.step name _ is (c.loop-place.invariant.values name is);
}

pub returns : goal.returns
returns c = λ name is.
    sites_done c.args.asked.value c.args.asked.fraction (is_in c.args.regions.now c.args.lattice.now name) c.loop-place.self _ c.loop-place.place c.loop-place.stream
    (omega (arith, c.loop-place.invariant.all)) (c.loop-place.invariant.values name is)
