use Rattle.std.proofs.Common.{rules}
use Rattle.spk_script.specs.Tables.{labels_of}
use Rattle.spk_script.proofs.labels.Labels.place.Goals as goal

pub returns : goal.returns
unfolding labels_of
returns c = search rules
