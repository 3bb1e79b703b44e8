-- Proposals as they are computed.
use Rattle.std.proofs.Common.{◌≡◌, ◌≢◌, ℕ, ◌==◌, false, List, refl, arith}
use Rattle.std.proofs.lemmas.Bool.Decides.{nat_tests}
use Rattle.std.specs.Prelude.{slice_index}
use Rattle.spk_app.specs.Sights.{Sight, values_near}
use Rattle.spk_potts.specs.Energies.{weight_to}
use Rattle.spk_potts.specs.Trials.{judged, proposed}

-- a value that isn't the site's own is judged by its weight
pub proposed_other : (temperature : ℕ) (s : Sight) (i own value weight stream : ℕ) (near : List ℕ)
    → own ≡ slice_index s.values i
    → value ≢ own
    → near ≡ values_near s i
    → weight ≡ weight_to temperature own value near
    → proposed temperature s i value stream ≡ judged i value weight stream
proposed_other temperature s i own value weight stream near own_is other near_is weight_is =
    let differs : (value == own) ≡ false = grind (arith, nat_tests) in
    rw (← own_is, ← near_is, differs, ← weight_is) refl
