use Rattle.std.proofs.Common.{arith, ap, sym, subst, ◌∙◌, ◌≡◌, ◌<◌, ◌+◌, List, ℕ, get_or, length}
use Rattle.spk_turn.specs.Reached.{with_places}
use Rattle.spk_turn.proofs.Gathering.{IsWidened, gathered_none, widened_none, widened_more, widened_all, place_read, place_inside, no_more}
use Rattle.spk_turn.proofs.gather.gather.Goals as goal

pub hops-init : goal.hops-init
hops-init g c = gathered_none (g.V.View.sight c.args.view.now).near c.args.gathered.now c.requires.once

pub loop-k-init : goal.loop-k-init
loop-k-init g c = widened_none (g.V.View.sight c.args.view.now).near c.hops.counter (c.hops.counter + 1) c.args.gathered.now c.hops.first c.hops.gathered (omega arith) c.hops.invariant

pub list_near-requires-clause-place : goal.list_near-requires-clause-place
list_near-requires-clause-place g c =
    let n : ℕ = length (g.V.View.sight c.args.view.now).values in
    let k : ℕ = c.loop-k.k in
    let before : List ℕ = c.hops.gathered in
    let less : k < length before = omega (arith, ap length c.as_slice-last.ensures.places) in
    let place : get_or before k 0 ≡ get_or c.as_slice.result.now k 0 = place_read k before c.loop-k.gathered c.as_slice.result.now c.as_slice.ensures.places c.loop-k.invariant.begins less in
    let inside : get_or before k 0 < n =
    place_inside (g.V.View.sight c.args.view.now).near n c.hops.counter c.args.gathered.now c.hops.first k before c.requires.mutual c.requires.places less c.hops.invariant in
    subst (λ m. m < n) place inside

pub add_all-requires : goal.add_all-requires
add_all-requires g c =
    let near : ℕ → List ℕ = (g.V.View.sight c.args.view.now).near in
    let k : ℕ = c.loop-k.k in
    let hop : ℕ = c.hops.counter + 1 in
    let before : List ℕ = c.hops.gathered in
    let less : k < length before = omega (arith, ap length c.as_slice-last.ensures.places) in
    let place : get_or before k 0 ≡ get_or c.as_slice.result.now k 0 = place_read k before c.loop-k.gathered c.as_slice.result.now c.as_slice.ensures.places c.loop-k.invariant.begins less in
    let beside : c.as_slice-in-loop-k.result.now ≡ near (get_or before k 0) = c.as_slice-in-loop-k.ensures.ids ∙ c.list_near.ensures.ids ∙ ap near (sym place) in
    let after : List ℕ = with_places c.loop-k.gathered (near (get_or before k 0)) in
    let widened : IsWidened near hop c.args.gathered.now (k + 1) before after =
    widened_more near c.hops.counter hop c.args.gathered.now c.hops.first k before c.loop-k.gathered (omega arith) less c.hops.invariant c.loop-k.invariant in
    rw beside (no_more near hop c.args.hops 729 c.args.gathered.now after (omega arith) widened.reached c.requires.room)

pub loop-k-preserved : goal.loop-k-preserved
loop-k-preserved g c =
    let near : ℕ → List ℕ = (g.V.View.sight c.args.view.now).near in
    let k : ℕ = c.loop-k.k in
    let before : List ℕ = c.hops.gathered in
    let less : k < length before = omega (arith, ap length c.as_slice-last.ensures.places) in
    let place : get_or before k 0 ≡ get_or c.as_slice.result.now k 0 = place_read k before c.loop-k.gathered c.as_slice.result.now c.as_slice.ensures.places c.loop-k.invariant.begins less in
    let beside : c.as_slice-in-loop-k.result.now ≡ near (get_or before k 0) = c.as_slice-in-loop-k.ensures.ids ∙ c.list_near.ensures.ids ∙ ap near (sym place) in
    rw (c.add_all.ensures, beside)
    (widened_more near c.hops.counter (c.hops.counter + 1) c.args.gathered.now c.hops.first k before c.loop-k.gathered (omega arith) less c.hops.invariant c.loop-k.invariant)

pub hops-preserved : goal.hops-preserved
hops-preserved g c =
    let before : List ℕ = c.hops.gathered in
    let are : c.as_slice-last.result.now ≡ before = c.as_slice-last.ensures.places in
    rw are
    (widened_all (g.V.View.sight c.args.view.now).near c.hops.counter (c.hops.counter + 1) c.args.gathered.now c.hops.first c.loop-k.k before c.loop-k.gathered (omega arith) (omega (arith, ap length are)) c.hops.invariant c.loop-k.invariant)

pub returns-clause-at_most : goal.returns-clause-at_most
returns-clause-at_most g c = λ most room.
    no_more (g.V.View.sight c.args.view.now).near c.hops.counter c.args.hops most c.args.gathered.now c.hops.gathered (omega arith) c.hops.invariant.reached room
