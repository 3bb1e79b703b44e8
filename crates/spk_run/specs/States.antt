-- The session: what it is before the first line of a script, and words for what is made and what is missing.
use Rattle.std.specs.Prelude.{ℕ, ◌*◌, ◌==◌, Bool, false, not, if◌then◌else◌, List, [], ◌∷◌, length, unsigned_abs, Option, Some, None, is_some, Result, Ok, Err}
use Rattle.std.specs.Option.{option_map_or}
use Rattle.spk_num.specs.declared.decimal.Dec.{Dec}
use Rattle.spk_lattice.specs.Layout.{sites_of}
use Rattle.spk_cmds.specs.declared.options.Options.{Options}
use Rattle.spk_run.specs.declared.cause.Cause.{Cause}
use Rattle.spk_run.specs.declared.cause.Cause.TheVariants.{AlreadyMade}
use Rattle.spk_run.specs.declared.domain.Domain.{Domain}
use Rattle.spk_run.specs.declared.state.SessionState.{SessionState}

-- before the first line of a script
abbrev pub new_state : Options → SessionState
new_state options = record {
  seed = None;
  sets = 0;
  app = None;
  dimension = None;
  lattice = None;
  regions = [];
  domain = None;
  solver = None;
  sweep = None;
  temperature = 0;
  stats = 0;
  energy = false;
  dumps = [];
  echo = options.echo;
  log = options.log;
}

-- a decimal number of time units in ticks, of which 10^9 are one unit
abbrev pub ticks_of : Dec → ℕ
ticks_of dec = 1000 * unsigned_abs dec.millionths

-- the sites are made once each has a value
abbrev pub has_sites : Domain → Bool
has_sites domain = length domain.values == sites_of domain.lattice

abbrev pub are_made : Option Domain → Bool
are_made domain = option_map_or has_sites domain false

-- Of the causes of a command, in the order of their numbers, the first that holds is answered.
abbrev pub first_of : List (Option Cause) → Option Cause
first_of [] = None
first_of (None ∷ causes) = first_of causes
first_of (Some cause ∷ causes) = Some cause

abbrev pub if_so : Bool → Cause → Option Cause
if_so holds cause = if holds then Some cause else None

abbrev pub missing : {A : Type 0} → Option A → Cause → Option Cause
missing needed cause = if_so (not (is_some needed)) cause

abbrev pub already : {A : Type 0} → Option A → Option Cause
already made = if_so (is_some made) AlreadyMade

abbrev pub error_of : {A : Type 0} → Result A Cause → Option Cause
error_of (Ok a) = None
error_of (Err cause) = Some cause
