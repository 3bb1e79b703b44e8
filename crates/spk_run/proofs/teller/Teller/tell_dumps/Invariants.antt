use Rattle.std.proofs.Common.{List, ℕ, Option, flat_map, take}
use Rattle.spk_world.specs.Effects.{writes}
use Rattle.spk_report.specs.Pieces.{AreValuesOf}
use Rattle.spk_run.specs.Dumps.{dump_events}
use Rattle.spk_run.specs.Snapshots.{ShowsAs, scene_at}
use Rattle.spk_run.specs.Telling.{CanTell, Tells}
use Rattle.spk_run.proofs.teller.Teller.tell_dumps.Given as goal

-- the snapshots of the dumps so far are told
abbrev pub invariant-loop-dump : goal.invariant-loop-dump
invariant-loop-dump g l = record {
  telling : (log : Option (List ℕ)) (values : List ℕ) → AreValuesOf l.initial.self.writer.sectors l.pieces values →
      Tells log (writes (flat_map (dump_events (scene_at l.initial.self.writer l.time values)) (take l.dump-index l.dump-items))) (g.W.World.state l.initial.world) (g.W.World.state l.world) l.initial.self l.self;
  can_tell : CanTell l.self;
  shows : ShowsAs l.initial.self.writer l.self.writer;
}
