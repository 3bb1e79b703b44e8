use Rattle.spk_run.proofs.StreamLaws.{FirstStreams}
use Rattle.spk_run.proofs.streams.Streams.new.Given as goal

abbrev pub invariant-streams : goal.invariant-streams
invariant-streams l = FirstStreams l.seed l.sectors l.items.items l.place
