use Rattle.std.proofs.Common.{ap, sym, ◌∙◌}
use Rattle.spk_lattice.specs.Layout.{sites_of}
use Rattle.spk_patch.specs.Patches.{PatchSites}
use Rattle.spk_turn.proofs.Patches.{values_taken}
use Rattle.spk_turn.proofs.patch_turns.tests.patch_of.Goals as goal

pub returns : goal.returns
returns c =
    values_taken _ _ c.args.values.now c.known-2.ensures.patch c.known-2.ensures.wrapped c.fill_from.ensures (c.requires ∙ ap (λ (p : PatchSites). sites_of p.lattice) (sym c.in_ok-patch.ensures))
