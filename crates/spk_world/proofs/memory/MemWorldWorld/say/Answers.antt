use Rattle.std.proofs.Common.{refl, ap, ◌∙◌}
use Rattle.spk_world.specs.Memory.{outside_of, with_screen_fault}
use Rattle.spk_world.proofs.Pieces.{fails-prefix, prefix-says, outside_of-counted}
use Rattle.spk_world.proofs.memory.MemWorldWorld.say.Goals as goal

pub returns-clause-err : goal.returns-clause-err
returns-clause-err c =
    fails-prefix _ _ _ _ _ _ _ _ _ _ _
    (ap outside_of c.next_call-plan.ensures.world)
    (ap outside_of c.count_screen.ensures.counted ∙ outside_of-counted with_screen_fault _ _ (λ w. refl))
    c.count_screen.ensures.same
    c.say_piece-ended.ensures.ends
    (prefix-says _ _ _)
