use Rattle.std.proofs.Common.{◌≡◌, ◌-◌}
use Rattle.spk_num.specs.Draws.{after_draws, start_state}
use Rattle.spk_num.proofs.stream.Stream.new.Given as goal

-- the draws that are still to be discarded lead to the stream's first state
abbrev pub invariant-discards : goal.invariant-discards
invariant-discards l = after_draws (16 - l.counter) l.stream ≡ start_state l.seed l.number
