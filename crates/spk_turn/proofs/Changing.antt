-- Places that an event changes.
use Rattle.std.proofs.Common.{◌≡◌, ◌≢◌, ℕ, ◌+◌, ◌<◌, ◌≤◌, List, [], length, length-set, get_or, set, refl, sym, ap, ◌∙◌, subst, inl, inr, arith}
use Rattle.std.proofs.Math.Nat.{eq-or-lt_of_le}
use Rattle.std.proofs.lemmas.List.{get_or-set_same, get_or-set_other}
use Rattle.std.proofs.lemmas.List.Elements.{All-nil, All-push, All-weaker, Contains-get_or}
use Rattle.std.proofs.lemmas.List.Quantifiers.{all_pairs_push}
use Rattle.std.specs.Prelude.{All, AllPairs, Contains, slice_index}
use Rattle.spk_turn.specs.Noted.{IsChanged}
use Rattle.spk_turn.specs.Reached.{with_place}
use Rattle.spk_turn.proofs.Adding.{place_cases, place_has, place_begins, place_longer, begins_keeps}
use Rattle.spk_turn.proofs.Gathering.{apart}

-- the values of the first k places are noted
pub record FirstNoted (values places before : List ℕ) (k : ℕ) : Type 0 where
  pub all : length before ≡ 729
  pub noted : (i : ℕ) → i < k → get_or before i 0 ≡ slice_index values (get_or places i 0)

pub noted_more : (values places before : List ℕ) (k v : ℕ) → k < 729 → v ≡ slice_index values (get_or places k 0) → FirstNoted values places before k → FirstNoted values places (set before k v) (k + 1)
noted_more values places before k v less is first = record {
  all = length-set before k v ∙ first.all;
  noted = λ i within.
      let early : i ≤ k = omega (arith, within) in
      elim (eq-or-lt_of_le early) [
        | inl same ↦ ap (λ n. get_or (set before k v) n 0) same ∙ get_or-set_same before k v 0 (omega (arith, less, first.all)) ∙ is ∙ ap (λ n. slice_index values (get_or places n 0)) (sym same)
        | inr before_k ↦ get_or-set_other before k i v 0 (λ same. omega (arith, same, before_k)) ∙ first.noted i before_k
      ];
}

-- those of the first k places that have other values than before are there
pub record FirstChanged (values places before changed : List ℕ) (k : ℕ) : Type 0 where
  pub all : (i : ℕ) → i < k → get_or before i 0 ≢ slice_index values (get_or places i 0) → Contains changed (get_or places i 0)
  pub other : All (IsChanged values places before) changed
  pub once : AllPairs (λ a b. a ≢ b) changed
  pub few : length changed ≤ k

pub changed_none : (values places before : List ℕ) → FirstChanged values places before [] 0
changed_none values places before = record {
  all = λ i within. absurd (omega (arith, within));
  other = All-nil (IsChanged values places before);
  once = λ i j d less within. absurd (omega (arith, less, within));
  few = omega arith;
}

pub unchanged_more : (values places before changed : List ℕ) (k v w : ℕ)
    → v ≡ slice_index values (get_or places k 0)
    → w ≡ get_or before k 0
    → v ≡ w
    → FirstChanged values places before changed k
    → FirstChanged values places before changed (k + 1)
unchanged_more values places before changed k v w now was same first = record {
  all = λ i within other.
      let early : i ≤ k = omega (arith, within) in
      elim (eq-or-lt_of_le early) [
        | inl last ↦ absurd (other (ap (λ n. get_or before n 0) last ∙ sym was ∙ sym same ∙ now ∙ ap (λ n. slice_index values (get_or places n 0)) (sym last)))
        | inr before_k ↦ first.all i before_k other
      ];
  other = first.other;
  once = first.once;
  few = omega (arith, first.few);
}

all_more : (P : ℕ → Type 0) (changed : List ℕ) (j : ℕ) → P j → All P changed → All P (with_place changed j)
all_more P changed j is all =
    elim (place_cases changed j) [
      | inl old ↦ subst (All P) (sym old.1) all
      | inr new ↦ subst (All P) (sym new.1) (All-push P changed j all is)
    ]

once_more : (changed : List ℕ) (j : ℕ) → AllPairs (λ a b. a ≢ b) changed → AllPairs (λ a b. a ≢ b) (with_place changed j)
once_more changed j once =
    elim (place_cases changed j) [
      | inl old ↦ subst (AllPairs (λ a b. a ≢ b)) (sym old.1) once
      | inr new ↦ subst (AllPairs (λ a b. a ≢ b)) (sym new.1) (all_pairs_push (λ a b. a ≢ b) changed j once (λ k d less. apart changed j new.0 k d less))
    ]

pub changed_more : (values places before changed : List ℕ) (k : ℕ)
    → k < length places
    → get_or before k 0 ≢ slice_index values (get_or places k 0)
    → FirstChanged values places before changed k
    → FirstChanged values places before (with_place changed (get_or places k 0)) (k + 1)
changed_more values places before changed k less apart first =
    let j : ℕ = get_or places k 0 in
    record {
      all = λ i within other.
          let early : i ≤ k = omega (arith, within) in
          elim (eq-or-lt_of_le early) [
            | inl last ↦ subst (λ n. Contains (with_place changed j) (get_or places n 0)) (sym last) (place_has changed j)
            | inr before_k ↦ begins_keeps changed (with_place changed j) (get_or places i 0) (place_begins changed j) (first.all i before_k other)
          ];
      other = all_more (IsChanged values places before) changed j (k, less, refl, apart) first.other;
      once = once_more changed j first.once;
      few = omega (arith, first.few, place_longer changed j);
    }

-- what changed was noted
pub were_noted : (values places before changed : List ℕ) → All (IsChanged values places before) changed → All (Contains places) changed
were_noted values places before changed others = All-weaker (IsChanged values places before) (Contains places) (λ j (k, less, at, other). subst (Contains places) at (Contains-get_or places k 0 less)) changed others
