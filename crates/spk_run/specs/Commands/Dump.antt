-- `dump` and `undump`: snapshots are written from the next run on, or no more.
use Rattle.std.specs.Prelude.{ℕ, nat_le, List, [], ◌∷◌, ◌++◌, length, Option, Some, None, is_some}
use Rattle.std.specs.List.{remove}
use Rattle.spk_num.specs.declared.decimal.Dec.{Dec}
use Rattle.spk_num.specs.declared.field.Field.{Field}
use Rattle.spk_cmds.specs.declared.command.DumpStyle.{DumpStyle}
use Rattle.spk_run.specs.declared.cause.Cause.{Cause}
use Rattle.spk_run.specs.declared.cause.Cause.TheVariants.{DumpTwice, NoSuchDump, TooManyDumps}
use Rattle.spk_run.specs.declared.dump.DumpState.{DumpState}
use Rattle.spk_run.specs.declared.state.SessionState.{SessionState}
use Rattle.spk_run.specs.Dumps.{place_of}
use Rattle.spk_run.specs.States.{first_of, if_so, missing, ticks_of}

abbrev pub dump_cause : SessionState → List ℕ → Option Cause
dump_cause state name =
    first_of (if_so (is_some (place_of state.dumps name)) (DumpTwice name) ∷ if_so (nat_le 32 (length state.dumps)) TooManyDumps ∷ [])

-- a dump that no run has met yet
abbrev pub new_dump : List ℕ → DumpStyle → Dec → List ℕ → List Field → DumpState
new_dump name style delta file fields = record {
  name = name;
  style = style;
  delta = ticks_of delta;
  file = file;
  fields = fields;
  next = None;
  number = 0;
}

abbrev pub with_dump : SessionState → DumpState → SessionState
with_dump state dump = record state { dumps = state.dumps ++ dump ∷ [] }

abbrev pub undump_cause : SessionState → List ℕ → Option Cause
undump_cause state name = missing (place_of state.dumps name) (NoSuchDump name)

abbrev pub without : List DumpState → Option ℕ → List DumpState
without dumps None = dumps
without dumps (Some place) = remove dumps place

abbrev pub without_dump : SessionState → List ℕ → SessionState
without_dump state name = record state { dumps = without state.dumps (place_of state.dumps name) }
