-- Places that are gathered, hop by hop.
use Rattle.std.proofs.Common.{◌≡◌, ◌≢◌, ◌⊎◌, ℕ, suc, ◌+◌, ◌<◌, ◌≤◌, ◌++◌, List, [], ◌∷◌, length, get_or, take, sym, ap, ◌∙◌, subst, inl, inr, arith}
use Rattle.std.proofs.lemmas.List.{get_or_default, take_more, take_all}
use Rattle.std.proofs.lemmas.List.Elements.{All-push, All-weaker, All-head, All-tail, All-nil, All-get_or, All-from_get_or, Contains-get_or, Contains-push_cases}
use Rattle.std.proofs.lemmas.List.Quantifiers.{all_pairs_push}
use Rattle.std.proofs.Math.Seq.{take-append_seam}
use Rattle.std.specs.Prelude.{All, AllPairs, Contains}
use Rattle.spk_lattice.specs.Hops.{IsWithin, IsMutual, ReachesAtMost}
use Rattle.spk_lattice.proofs.Hops.{within_self, within_step, within_join, within_inside, within_last}
use Rattle.spk_turn.proofs.Adding.{Begins, place_cases, begins_self, begins_next, begins_keeps, begins_reads, places_begin, places_have}
use Rattle.spk_turn.proofs.Hops.{within_up}
use Rattle.spk_turn.specs.Reached.{IsNear, IsReached, ReachAtMost, with_place, with_places}

-- ---- sites that hops lead to from one of some origins

pub near_self : (near : ℕ → List ℕ) (hops : ℕ) (origins : List ℕ) (j : ℕ) → Contains origins j → IsNear near hops origins j
near_self near hops origins j there = (j, there, within_self near hops j)

pub near_up : (near : ℕ → List ℕ) (a b : ℕ) (origins : List ℕ) (j : ℕ) → a ≤ b → IsNear near a origins j → IsNear near b origins j
near_up near a b origins j less (o, has, there) = (o, has, within_up near a b o j less there)

near_next : (near : ℕ → List ℕ) (d hops : ℕ) (origins : List ℕ) (m j : ℕ) → d + 1 ≡ hops → IsNear near d origins m → Contains (near m) j → IsNear near hops origins j
near_next near d hops origins m j is (o, has, there) next =
    (o, has, within_join near d 1 hops o m j (omega arith) there (within_step near 0 m j j next (within_self near 0 j)))

near_last : (near : ℕ → List ℕ) (d : ℕ) (origins : List ℕ) (j : ℕ) → IsNear near (suc d) origins j → IsNear near d origins j ⊎ ((m : ℕ) × IsNear near d origins m × Contains (near m) j)
near_last near d origins j (o, has, there) =
    elim (within_last near d o j there) [
      | inl early ↦ inl (o, has, early)
      | inr step ↦ inr (step.0, (o, has, step.1), step.2)
    ]

pub near_inside : (near : ℕ → List ℕ) (n d : ℕ) (origins : List ℕ) (j : ℕ) → IsMutual near (λ j. j < n) → All (λ j. j < n) origins → IsNear near d origins j → j < n
near_inside near n d origins j both inside (o, (k, less, at), there) =
    within_inside near (λ j. j < n) d o j both (subst (λ i. i < n) at (All-get_or (λ i. i < n) origins k o less inside)) there

-- ---- places that are added

pub apart : (places : List ℕ) (j : ℕ) → (Contains places j → ⊥) → (k : ℕ) (d : ℕ) → k < length places → get_or places k d ≢ j
apart places j lacks k d less same = lacks (k, less, get_or_default places k j d less ∙ same)

reached_place : (near : ℕ → List ℕ) (hops : ℕ) (origins : List ℕ) (j : ℕ) (places : List ℕ) → IsReached near hops origins places → IsNear near hops origins j → IsReached near hops origins (with_place places j)
reached_place near hops origins j places reached within =
    elim (place_cases places j) [
      | inl there ↦ subst (λ (zs : List ℕ). IsReached near hops origins zs) (sym there.1) reached
      | inr new ↦
          let pushed : IsReached near hops origins (places ++ j ∷ []) = record {
            within = All-push (λ k. IsNear near hops origins k) places j reached.within within;
            once = all_pairs_push (λ a b. a ≢ b) places j reached.once (λ k d less. apart places j new.0 k d less);
          } in
          subst (λ (zs : List ℕ). IsReached near hops origins zs) (sym new.1) pushed
    ]

reached_places : (near : ℕ → List ℕ) (hops : ℕ) (origins places js : List ℕ) → IsReached near hops origins places → All (λ j. IsNear near hops origins j) js → IsReached near hops origins (with_places places js)
unfolding with_places
reached_places near hops origins places [] reached within = reached
reached_places near hops origins places (j ∷ js) reached within =
    let P : ℕ → Type 0 = λ k. IsNear near hops origins k in
    reached_places near hops origins (with_place places j) js (reached_place near hops origins j places reached (All-head P j js within)) (All-tail P j js within)

reached_up : (near : ℕ → List ℕ) (a b : ℕ) (origins places : List ℕ) → a ≤ b → IsReached near a origins places → IsReached near b origins places
reached_up near a b origins places less reached = record {
  within = All-weaker (IsNear near a origins) (IsNear near b origins) (λ j h. near_up near a b origins j less h) places reached.within;
  once = reached.once;
}

pub no_more : (near : ℕ → List ℕ) (fewer hops most : ℕ) (origins places : List ℕ) → fewer ≤ hops → IsReached near fewer origins places → ReachAtMost near hops origins most → length places ≤ most
unfolding ReachAtMost
no_more near fewer hops most origins places less reached room =
    let up : IsReached near hops origins places = reached_up near fewer hops origins places less reached in
    room places up.once up.within

next_all : (near : ℕ → List ℕ) (d hops : ℕ) (origins : List ℕ) (m : ℕ) → d + 1 ≡ hops → IsNear near d origins m → All (IsNear near hops origins) (near m)
next_all near d hops origins m is there =
    All-from_get_or (IsNear near hops origins) (near m) 0 (λ k less.
    near_next near d hops origins m (get_or (near m) k 0) is there (Contains-get_or (near m) k 0 less))

-- all places to which so many hops lead; the neighbours of the first so many are there too
pub record IsGathered (near : ℕ → List ℕ) (hops : ℕ) (origins : List ℕ) (first : ℕ) (places : List ℕ) : Type 0 where
  pub reached : IsReached near hops origins places
  pub covers : (j : ℕ) → IsNear near hops origins j → Contains places j
  pub closed : (m j : ℕ) → Contains (take first places) m → Contains (near m) j → Contains places j

-- the places before a hop, and the neighbours of the first k of them
pub record IsWidened (near : ℕ → List ℕ) (hops : ℕ) (origins : List ℕ) (k : ℕ) (before places : List ℕ) : Type 0 where
  pub reached : IsReached near hops origins places
  pub begins : Begins before places
  pub closed : (m j : ℕ) → Contains (take k before) m → Contains (near m) j → Contains places j

pub gathered_none : (near : ℕ → List ℕ) (origins : List ℕ) → AllPairs (λ a b. a ≢ b) origins → IsGathered near 0 origins 0 origins
unfolding IsWithin
gathered_none near origins once = record {
  reached = record {
    within = All-from_get_or (IsNear near 0 origins) origins 0 (λ k less. near_self near 0 origins (get_or origins k 0) (Contains-get_or origins k 0 less));
    once = once;
  };
  covers = λ j there. subst (λ i. Contains origins i) there.2 there.1;
  closed = λ m j there next. absurd (omega (arith, there.1));
}

pub widened_none : (near : ℕ → List ℕ) (d hops : ℕ) (origins : List ℕ) (first : ℕ) (places : List ℕ) → d + 1 ≡ hops → IsGathered near d origins first places → IsWidened near hops origins first places places
widened_none near d hops origins first places is gathered = record {
  reached = reached_up near d hops origins places (omega arith) gathered.reached;
  begins = begins_self places;
  closed = gathered.closed;
}

pub widened_more : (near : ℕ → List ℕ) (d hops : ℕ) (origins : List ℕ) (first k : ℕ) (before places : List ℕ)
    → d + 1 ≡ hops
    → k < length before
    → IsGathered near d origins first before
    → IsWidened near hops origins k before places
    → IsWidened near hops origins (k + 1) before (with_places places (near (get_or before k 0)))
widened_more near d hops origins first k before places is less gathered widened =
    let n : ℕ = get_or before k 0 in
    let later : List ℕ = with_places places (near n) in
    let reached : IsNear near d origins n = All-get_or (IsNear near d origins) before k 0 less gathered.reached.within in
    record {
      reached = reached_places near hops origins places (near n) widened.reached (next_all near d hops origins n is reached);
      begins = begins_next before places later widened.begins (places_begin places (near n));
      closed = λ m j there next.
          elim (Contains-push_cases (take k before) n m (subst (λ (ys : List ℕ). Contains ys m) (take_more before k 0 less) there)) [
            | inl early ↦ begins_keeps places later j (places_begin places (near n)) (widened.closed m j early next)
            | inr same ↦ places_have places (near n) j (subst (λ x. Contains (near x) j) (sym same) next)
          ];
    }

pub widened_all : (near : ℕ → List ℕ) (d hops : ℕ) (origins : List ℕ) (first k : ℕ) (before places : List ℕ)
    → d + 1 ≡ hops
    → length before ≤ k
    → IsGathered near d origins first before
    → IsWidened near hops origins k before places
    → IsGathered near hops origins (length before) places
widened_all near d hops origins first k before places is past gathered widened =
    let whole : take k before ≡ before = take_all k before past in
    let front : take (length before) places ≡ before = ap (λ (zs : List ℕ). take (length before) zs) widened.begins.1 ∙ take-append_seam before widened.begins.0 in
    let closed : (m j : ℕ) → Contains before m → Contains (near m) j → Contains places j = λ m j there next. widened.closed m j (subst (λ (zs : List ℕ). Contains zs m) (sym whole) there) next in
    record {
      reached = widened.reached;
      covers = λ j within.
          elim (near_last near d origins j (subst (λ n. IsNear near n origins j) (omega arith) within)) [
            | inl early ↦ begins_keeps before places j widened.begins (gathered.covers j early)
            | inr step ↦ closed step.0 j (gathered.covers step.0 step.1) step.2
          ];
      closed = λ m j there next. closed m j (subst (λ (zs : List ℕ). Contains zs m) front there) next;
    }

-- a place before the hop, as it is read after some of the hop
pub place_read : (k : ℕ) (before places read : List ℕ) → read ≡ places → Begins before places → k < length before → get_or before k 0 ≡ get_or read k 0
place_read k before places read is begins less = sym (begins_reads before places k begins less) ∙ ap (λ (zs : List ℕ). get_or zs k 0) (sym is)

pub place_inside : (near : ℕ → List ℕ) (n d : ℕ) (origins : List ℕ) (first k : ℕ) (before : List ℕ) → IsMutual near (λ j. j < n) → All (λ j. j < n) origins → k < length before → IsGathered near d origins first before → get_or before k 0 < n
place_inside near n d origins first k before both inside less gathered =
    near_inside near n d origins (get_or before k 0) both inside (All-get_or (IsNear near d origins) before k 0 less gathered.reached.within)

-- ---- from one site

pub one_near : (near : ℕ → List ℕ) (hops i j : ℕ) → IsNear near hops (i ∷ []) j → IsWithin near hops i j
one_near near hops i j (o, has, there) =
    elim (Contains-push_cases [] i o has) [
      | inl none ↦ absurd (omega (arith, none.1))
      | inr same ↦ subst (λ k. IsWithin near hops k j) (sym same) there
    ]

pub reach_one : (near : ℕ → List ℕ) (hops i most : ℕ) → ReachesAtMost near hops i most → ReachAtMost near hops (i ∷ []) most
unfolding ReachAtMost ReachesAtMost
reach_one near hops i most room = λ xs once there. room xs once (All-weaker (IsNear near hops (i ∷ [])) (λ j. IsWithin near hops i j) (λ j h. one_near near hops i j h) xs there)

pub one_inside : (n i : ℕ) → i < n → All (λ j. j < n) (i ∷ [])
one_inside n i less = All-push (λ j. j < n) [] i (All-nil (λ j. j < n)) less

pub all_inside : (near : ℕ → List ℕ) (n d : ℕ) (origins places : List ℕ) → IsMutual near (λ j. j < n) → All (λ j. j < n) origins → IsReached near d origins places → All (λ j. j < n) places
all_inside near n d origins places both inside reached = All-weaker (IsNear near d origins) (λ j. j < n) (λ j h. near_inside near n d origins j both inside h) places reached.within
