use Rattle.std.proofs.Common.{◌<◌, ◌^◌, arith}
use Rattle.std.proofs.lemmas.List.Elements.{All-from_get_or}
use Rattle.spk_run.proofs.snapshot_writer.known_values.Goals as goal

pub returns : goal.returns
returns c = All-from_get_or (λ value. value < 2 ^ 32) c.args.values.now 0 (λ i less. omega (arith, c.type_inv.values i))
