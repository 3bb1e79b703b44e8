-- `seed`: the streams of a box start anew, and no `set` is counted.
use Rattle.std.specs.Prelude.{ℕ, length, Some}
use Rattle.std.specs.Option.{option_map}
use Rattle.spk_run.specs.declared.domain.Domain.{Domain}
use Rattle.spk_run.specs.declared.state.SessionState.{SessionState}
use Rattle.spk_run.specs.Streams.{streams_of}
use Rattle.spk_sched.specs.Globals.{streams_each}

abbrev pub with_streams : ℕ → Domain → Domain
with_streams seed domain = record domain { streams = streams_of seed (streams_each domain.lattice) (length domain.streams) }

abbrev pub with_seed : SessionState → ℕ → SessionState
with_seed state seed = record state { seed = Some seed; sets = 0; domain = option_map (with_streams seed) state.domain }
