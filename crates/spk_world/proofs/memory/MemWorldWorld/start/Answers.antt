use Rattle.std.proofs.Common.{refl, ap, ◌∙◌}
use Rattle.spk_world.specs.Memory.{outside_of, with_file_fault}
use Rattle.spk_world.proofs.Pieces.{fails-prefix, prefix-none, outside_of-counted}
use Rattle.spk_world.proofs.memory.MemWorldWorld.start.Goals as goal

pub returns-clause-err : goal.returns-clause-err
returns-clause-err c =
    fails-prefix _ _ _ _ _ _ _ _ _ _ _
    (ap outside_of c.next_call-plan.ensures.world)
    (ap outside_of c.count_file.ensures.counted ∙ outside_of-counted with_file_fault _ _ (λ w. refl))
    c.count_file.ensures.same
    c.start_file-ended.ensures.ends
    (prefix-none _ _)
