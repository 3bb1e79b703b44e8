-- The view of a whole lattice is ready for turns.
use Rattle.std.proofs.Common.{◌≡◌, ℕ, ◌<◌, ◌≤◌, true, length, refl, sym, subst, IsTrue}
use Rattle.std.specs.Prelude.{All}
use Rattle.spk_lattice.specs.Hops.{IsMutual}
use Rattle.spk_lattice.specs.Layout.{IsLattice, sites_of}
use Rattle.spk_app.specs.Applications.{Application}
use Rattle.spk_app.specs.PlainViews.{PlainSites, places_beside, sight_of}
use Rattle.spk_turn.specs.Ready.{IsReady}
use Rattle.spk_turn.proofs.PlainPlaces.{places_mutual, places_room}

-- the view of a whole lattice is ready for turns of an application that sees and writes 4 hops far at most
pub plain_ready : (app : Application) (hops : ℕ) (sites : PlainSites)
    → IsLattice sites.lattice
    → length sites.values ≡ sites_of sites.lattice
    → All (λ v. IsTrue (app.is_valid v)) sites.values
    → hops ≤ 4
    → IsReady app (λ _. true) hops (sight_of sites)
plain_ready app hops sites is all valid few = record {
  both_ways = subst (λ n. IsMutual (places_beside sites.lattice) (λ j. j < n)) (sym all) (places_mutual sites.lattice is);
  all_whole = λ place. refl;
  valid = valid;
  room = λ place less. places_room sites.lattice hops place is (rw (sym all) less) few;
  limit = rw all is.limit;
}
