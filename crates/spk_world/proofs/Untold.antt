-- A world that tells nothing.
use Rattle.std.proofs.Common.{List, None, [], refl}
use Rattle.spk_world.specs.Outside.{Event, WritesPrefix, after_told}

pub told_nothing : (events : List Event) → WritesPrefix None None events
unfolding after_told
told_nothing events = record { written = []; left = events; split = refl; stands = refl }
