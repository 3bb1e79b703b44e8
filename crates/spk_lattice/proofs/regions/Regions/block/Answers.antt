use Rattle.std.specs.Str.{bytes_eq}
use Rattle.spk_lattice.specs.declared.regions.region.Region.{Region}
use Rattle.spk_lattice.proofs.Stored.{block_is, near_block}
use Rattle.spk_lattice.proofs.regions.Regions.block.Goals as goal

pub returns-clause-block : goal.returns-clause-block
returns-clause-block c =
    block_is c.self.inside.regions.items c.deref.result.now c.args.self.now c.args.name.now c.block_named.result c.self.view_is c.deref.ensures.value c.block_named.ensures

pub returns-clause-near : goal.returns-clause-near
returns-clause-near c =
    rw (c.block_named.ensures, c.deref.ensures.value) (near_block c.self.inside.regions.items (λ (region : Region). bytes_eq region.named.name c.args.name.now) c.self.invariant.in_range)
