-- Events and trials of Ising as they are computed.
use Rattle.std.proofs.Common.{◌≡◌, ℕ, ◌+◌, Bool, true, false, List, sym, ap, ◌∙◌, subst}
use Rattle.std.specs.Prelude.{slice_index}
use Rattle.spk_num.specs.declared.style.Style.{Style}
use Rattle.spk_num.specs.Draws.{next_state, below_of}
use Rattle.spk_app.specs.Sights.{Sight, values_near}
use Rattle.spk_app.specs.Applications.{listed}
use Rattle.spk_app.specs.declared.events.Events.{Events}
use Rattle.spk_potts.specs.Trials.{proposed}
use Rattle.spk_potts.specs.Ising.{IsingSettings, ising_events, ising_trial, other_value}

-- the events of a site, by what was read of the view
pub same_events : (temperature : ℕ) (s : Sight) (i t own : ℕ) (near : List ℕ) (events : Events)
    → listed events ≡ ising_events t own near
    → t ≡ temperature
    → own ≡ slice_index s.values i
    → near ≡ values_near s i
    → listed events ≡ ising_events temperature (slice_index s.values i) (values_near s i)
same_events temperature s i t own near events are t_is own_is near_is =
    are ∙ ap (λ n. ising_events n own near) t_is ∙ ap (λ v. ising_events temperature v near) own_is ∙ ap (ising_events temperature (slice_index s.values i)) near_is

-- where the other value is always proposed
pub other_proposed : (a : IsingSettings) (single : Bool) (style : Style) (t : ℕ) (s : Sight) (i own other stream : ℕ)
    → record { single = single; style = style; temperature = t } ≡ a
    → single ≡ true
    → own ≡ slice_index s.values i
    → other ≡ other_value own
    → proposed t s i other stream ≡ ising_trial a s i stream
other_proposed a single style t s i own other stream is true_is own_is other_is =
    subst (λ (x : IsingSettings). proposed t s i other stream ≡ ising_trial x s i stream) is
    (ap (λ v. proposed t s i v stream) (other_is ∙ ap other_value own_is)
    ∙ ap (λ b. ising_trial (record { single = b; style = style; temperature = t }) s i stream) (sym true_is))

-- where a draw proposes one of the two values
pub draw_proposed : (a : IsingSettings) (single : Bool) (style : Style) (t : ℕ) (s : Sight) (i below after stream : ℕ)
    → record { single = single; style = style; temperature = t } ≡ a
    → single ≡ false
    → after ≡ next_state stream
    → below ≡ below_of 2 after
    → proposed t s i (1 + below) after ≡ ising_trial a s i stream
draw_proposed a single style t s i below after stream is false_is after_is below_is =
    subst (λ (x : IsingSettings). proposed t s i (1 + below) after ≡ ising_trial x s i stream) is
    (ap (λ n. proposed t s i (1 + n) after) below_is
    ∙ ap (λ x. proposed t s i (1 + below_of 2 x) x) after_is
    ∙ ap (λ b. ising_trial (record { single = b; style = style; temperature = t }) s i stream) (sym false_is))
