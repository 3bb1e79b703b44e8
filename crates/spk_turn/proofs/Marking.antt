-- Marks of places that are there.
use Rattle.std.proofs.Common.{◌≡◌, ◌≢◌, ℕ, ◌+◌, ◌%◌, ◌<◌, ◌≤◌, inl, inr, true, false, List, length, get_or, set, take, sym, ap, subst, ◌∙◌, arith}
use Rattle.std.proofs.Math.Nat.{eq-or-lt_of_le}
use Rattle.std.proofs.lemmas.Bool.Decides.{nat_tests}
use Rattle.std.proofs.lemmas.List.{get_or-set_same, get_or-set_other, get_or-take, get_or_default, length-take}
use Rattle.std.proofs.lemmas.List.Folds.{list_any_at}
use Rattle.std.specs.List.{list_any}
use Rattle.std.specs.Prelude.{Contains, nat_eq}
use Rattle.spk_turn.specs.Reached.{IsMark, AreMarked}
use Rattle.spk_turn.proofs.Adding.{true_or_false, found}

-- the index of a place that is there
there_at : (count place : ℕ) (places : List ℕ) → Contains (take count places) place → (k : ℕ) × (k < count) × (get_or places k 0 ≡ place)
there_at count place places (k, less, at) =
    let within : k < count = omega (arith, less, length-take count places) in
    let inside : k < length places = omega (arith, less, length-take count places) in
    (k, within, get_or_default places k 0 place inside ∙ sym (get_or-take count places k place within) ∙ at)

-- a place whose remainder has no mark isn't there
pub absent : (count place : ℕ) (places marks : List ℕ) → AreMarked count places marks → (IsMark count places (place % 1021) (get_or marks (place % 1021) 0) → ⊥)
    → list_any (λ k. nat_eq k place) (take count places) ≡ false
absent count place places marks are none =
    elim (true_or_false (list_any (λ k. nat_eq k place) (take count places))) [
      | inl there ↦
          let at = there_at count place places (found (take count places) place there) in
          absurd (none (subst (λ p. IsMark count places (p % 1021) (get_or marks (p % 1021) 0)) at.2 (are.marked at.0 at.1)))
      | inr missing ↦ missing
    ]

-- a place that a mark names is there
pub present : (count place mark : ℕ) (places : List ℕ) → count ≤ length places → mark < count → get_or places mark 0 ≡ place → list_any (λ k. nat_eq k place) (take count places) ≡ true
present count place mark places few counts is =
    let read : get_or (take count places) mark 0 ≡ place = get_or-take count places mark 0 counts ∙ is in
    let hit : nat_eq (get_or (take count places) mark 0) place ≡ true = grind (arith, nat_tests) in
    list_any_at (λ k. nat_eq k place) (take count places) mark 0 (omega (arith, counts, few, length-take count places)) hit

still : (count place remainder mark : ℕ) (places : List ℕ) → IsMark count places remainder mark → IsMark (count + 1) (set places count place) remainder mark
still count place remainder mark places is = record {
  counts = omega (arith, is.counts);
  same = ap (λ n. n % 1021) (get_or-set_other places count mark place 0 (λ same. omega (arith, same, is.counts))) ∙ is.same;
}

last_mark : (count place : ℕ) (places : List ℕ) → count < length places → IsMark (count + 1) (set places count place) (place % 1021) count
last_mark count place places less = record {
  counts = omega arith;
  same = ap (λ n. n % 1021) (get_or-set_same places count place 0 less);
}

-- where a place with the same remainder comes, its mark serves for both
one_marked : (count place remainder : ℕ) (places marks : List ℕ) → count < length places → remainder < length marks → IsMark count places remainder (get_or marks remainder 0)
    → IsMark (count + 1) (set places count place) remainder (get_or (set marks (place % 1021) count) remainder 0)
one_marked count place remainder places marks less inside is =
    elim (true_or_false (nat_eq remainder (place % 1021))) [
      | inl same ↦
          let both : remainder ≡ place % 1021 = grind (arith, nat_tests) in
          subst (λ r. IsMark (count + 1) (set places count place) r (get_or (set marks (place % 1021) count) r 0)) (sym both)
          (subst (λ m. IsMark (count + 1) (set places count place) (place % 1021) m) (sym (get_or-set_same marks (place % 1021) count 0 (subst (λ r. r < length marks) both inside))) (last_mark count place places less))
      | inr other ↦
          let apart : remainder ≢ place % 1021 = λ same. absurd (grind (arith, nat_tests)) in
          subst (λ m. IsMark (count + 1) (set places count place) remainder m) (sym (get_or-set_other marks (place % 1021) remainder count 0 apart)) (still count place remainder (get_or marks remainder 0) places is)
    ]

pub marked_more : (count place : ℕ) (places marks : List ℕ) → length places ≡ 729 → length marks ≡ 1021 → count < 729 → AreMarked count places marks
    → AreMarked (count + 1) (set places count place) (set marks (place % 1021) count)
marked_more count place places marks all many less are = record {
  few = omega (arith, less);
  marked = λ k within.
      let early : k ≤ count = omega (arith, within) in
      elim (eq-or-lt_of_le early) [
        | inl same ↦
            let read : get_or (set places count place) k 0 ≡ place = ap (λ n. get_or (set places count place) n 0) same ∙ get_or-set_same places count place 0 (omega (arith, less, all)) in
            subst (λ p. IsMark (count + 1) (set places count place) (p % 1021) (get_or (set marks (place % 1021) count) (p % 1021) 0)) (sym read)
            (subst (λ m. IsMark (count + 1) (set places count place) (place % 1021) m) (sym (get_or-set_same marks (place % 1021) count 0 (omega (arith, many)))) (last_mark count place places (omega (arith, less, all))))
        | inr before ↦
            let read : get_or (set places count place) k 0 ≡ get_or places k 0 = get_or-set_other places count k place 0 (λ same. omega (arith, same, before)) in
            subst (λ p. IsMark (count + 1) (set places count place) (p % 1021) (get_or (set marks (place % 1021) count) (p % 1021) 0)) (sym read)
            (one_marked count place (get_or places k 0 % 1021) places marks (omega (arith, less, all)) (omega (arith, many)) (are.marked k before))
      ];
}
