use Rattle.std.proofs.Common.{◌≡◌, length, arith}
use Rattle.spk_run.proofs.StreamLaws.{no_streams, one_stream_more, all_streams, length-streams}
use Rattle.spk_run.proofs.streams.Streams.new.Goals as goal

pub streams-init : goal.streams-init
streams-init c = rw c.in_ok-items.ensures.items (no_streams _ _)

pub streams-preserved : goal.streams-preserved
streams-preserved c = rw c.in_ok-push.ensures.items (one_stream_more _ _ _ _ _ c.streams.invariant (rw (c.from.ensures, c.from-in-streams.ensures) at c.stream.ensures))

pub invariant_of-result : goal.invariant_of-result
invariant_of-result c =
    let all : length c.streams.items.items ≡ c.streams.place = length-streams _ _ _ _ c.streams.invariant in
    (omega (arith, all), omega (arith, all))

pub returns : goal.returns
returns c =
    let all : c.streams.place ≡ c.args.count = omega arith in
    rw (← all) (all_streams _ _ _ _ c.streams.invariant)
