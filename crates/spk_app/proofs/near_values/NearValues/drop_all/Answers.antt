use Rattle.std.proofs.Common.{refl, ◌∙◌, arith}
use Rattle.spk_app.proofs.Dropping.{unlike, kept_more, one_or_none}
use Rattle.spk_app.proofs.near_values.NearValues.drop_all.Goals as goal

pub values-preserved : goal.values-preserved
values-preserved c = record {
  kept = kept_more (unlike c.args.value) c.values.kept c.values.k _ c.self.inside.values c.values.self-inside.values _ c.from-kept.result (omega (arith, c.values-test.true, c.self.told, c.self.invariant)) c.self.told refl c.values.invariant.kept refl (c.from-kept.ensures ∙ one_or_none _);
  count = c.values.invariant.count;
}
