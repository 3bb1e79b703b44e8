use Rattle.std.proofs.Common.{◌≡◌, length}
use Rattle.spk_app.proofs.Dropping.{AreKept}
use Rattle.spk_diffusion.proofs.Summing.{vacant_at}
use Rattle.spk_diffusion.proofs.diffusion.keep_vacant.Given as goal

abbrev pub invariant-places : goal.invariant-places
invariant-places g l = record {
  kept : AreKept (vacant_at (g.V.View.sight l.view)) l.kept l.k l.initial.near.ids l.near.ids;
  count : l.near.count ≡ l.initial.near.count;
  all : length l.initial.near.ids ≡ 26;
}
