use Rattle.std.proofs.Common.{ap, ◌∙◌}
use Rattle.std.specs.Option.{option_or}
use Rattle.spk_script.proofs.LabelPlaces.{label_from, no_labels, labels_first}
use Rattle.spk_script.proofs.labels.Labels.of.Goals as goal

pub loop-place-init : goal.loop-place-init
loop-place-init c = λ label.
    ap (λ a. option_or a (label_from label 0 c.args.lines.now)) (no_labels c.new.result c.new.ensures.empty label)
    ∙ labels_first c.args.lines.now label
