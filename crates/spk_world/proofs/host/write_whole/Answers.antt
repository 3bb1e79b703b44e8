use Rattle.spk_world.proofs.Taken.{taken_more, taken_kept}
use Rattle.spk_world.proofs.host.write_whole.Goals as goal
use Rattle.spk_world.proofs.host.write_whole.Goals.{in-Ok, in-Err}

-- the writer took some more, or was interrupted
pub loop-preserved : goal.loop-preserved
loop-preserved g c =
    elim c.match-write.branch [
      | in-Ok w ↦ rw w.left-is (taken_more _ _ _ _ _ _ c.loop.invariant w.in-Ok.ensures.bytes)
      | in-Err w ↦ rw w.left-is (taken_kept _ _ _ _ _ c.loop.invariant w.in-Err.ensures.bytes)
    ]
