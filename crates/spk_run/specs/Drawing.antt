-- Values that `set` gives: one after another, in the order of the sites' ids, with draws from one stream. The rule is our own.
use Rattle.std.specs.Prelude.{ℕ, ◌+◌, ◌-◌, Bool, nat_lt, unsigned_abs, ◌≡◌, ◌++◌, take, drop, if◌then◌else◌, List, [], ◌∷◌, Option, Some, None}
use Rattle.spk_num.specs.declared.decimal.Dec.{Dec}
use Rattle.spk_num.specs.Draws.{next_state, below_of}
use Rattle.spk_cmds.specs.declared.command.SetValue.{SetValue}
use Rattle.spk_cmds.specs.declared.command.SetValue.TheVariants.{Value, Range, Unique}

-- the value of a site, and the stream after it
pub record Drawn : Type 0 where
  pub value : ℕ
  pub stream : ℕ

-- what the site with this id is given
abbrev pub given : SetValue → ℕ → ℕ → Drawn
given (Value value) id stream = record { value = value; stream = stream }
given (Range low high) id stream = record { value = low + below_of (high - low + 1) (next_state stream); stream = next_state stream }
given Unique id stream = record { value = id; stream = stream }

-- with a fraction, a draw says first whether the site keeps its value
abbrev pub given_or_kept : SetValue → Option Dec → ℕ → ℕ → ℕ → Drawn
given_or_kept asked None id value stream = given asked id stream
given_or_kept asked (Some fraction) id value stream =
    if nat_lt (below_of 1000000 (next_state stream)) (unsigned_abs fraction.millionths) then given asked id (next_state stream)
    else record { value = value; stream = next_state stream }

-- a site that isn't among those that are set keeps its value, and draws nothing
abbrev pub drawn_at : SetValue → Option Dec → (ℕ → Bool) → ℕ → ℕ → ℕ → Drawn
drawn_at asked fraction is_set id value stream =
    if is_set id then given_or_kept asked fraction id value stream else record { value = value; stream = stream }

-- the values of the sites from this id on
unfoldable pub values_from : SetValue → Option Dec → (ℕ → Bool) → ℕ → List ℕ → ℕ → List ℕ
values_from asked fraction is_set id [] stream = []
values_from asked fraction is_set id (value ∷ values) stream =
    (drawn_at asked fraction is_set id value stream).value
    ∷ values_from asked fraction is_set (id + 1) values (drawn_at asked fraction is_set id value stream).stream

-- The sites before a place have their values, and the whole comes of those from there on.
abbrev pub IsSetFrom : SetValue → Option Dec → (ℕ → Bool) → List ℕ → ℕ → List ℕ → ℕ → Type 0
IsSetFrom asked fraction is_set whole place values stream =
    take place values ++ values_from asked fraction is_set (place + 1) (drop place values) stream ≡ whole
