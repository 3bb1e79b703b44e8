-- What a sum tree says of its list.
use Rattle.std.proofs.Common.{◌≡◌, ℕ, zero, suc, ◌+◌, ◌-◌, ◌*◌, ◌/◌, ◌^◌, ◌<◌, ◌≤◌, List, ◌++◌, refl, inl, inr, arith, length, get_or, set, take, drop, sum, replicate, ◌∙◌, ◌⊎◌}
use Rattle.std.proofs.lemmas.List.{length-take-le, length-drop, get_or-take, get_or-drop, take-take, get_or-replicate, get_or_past, drop-replicate, take-replicate, length-replicate, drop-set-lt, drop-set-add}
use Rattle.std.proofs.lemmas.List.Elements.{All-replicate, All-set}
use Rattle.std.proofs.lemmas.List.Folds.{sum_by-replicate}
use Rattle.std.proofs.lemmas.List.Sums.{sum_by-append, sum_by-take-drop, sum_by-le}
use Rattle.std.proofs.Math.Seq.{take-add, take-set-lt}
use Rattle.spk_solve.specs.Choice.{IsNamed}
use Rattle.spk_solve.specs.SumTrees.{prefix_sum, start, AddUp, IsTree}
use Rattle.spk_solve.proofs.PrefixSums.{prefix_more, prefix_none, prefix_whole, prefix_grows, prefix_past}

before_or_after : (k n : ℕ) → (k < n) ⊎ (n ≤ k)
before_or_after k n = grind arith

-- all children of the first b nodes
pub spread : (nodes : List ℕ) (base : ℕ) → AddUp nodes base → base ≤ length nodes → 0 < length nodes → (b : ℕ) → b ≤ base
    → prefix_sum nodes (16 * b + 1) ≡ prefix_sum nodes b + prefix_sum nodes 1
spread nodes base right inside some zero le = omega (arith, prefix_none nodes)
spread nodes base right inside some (suc b) le =
    let e : suc b ≡ b + 1 = omega arith in
    let less : b < length nodes = omega arith in
    let step : get_or nodes b 0 + prefix_sum nodes (16 * b + 1) ≡ prefix_sum nodes (16 * b + 17) = right b (omega arith) in
    let more : prefix_sum nodes (b + 1) ≡ prefix_sum nodes b + get_or nodes b 0 = prefix_more nodes b less in
    let before : prefix_sum nodes (16 * b + 1) ≡ prefix_sum nodes b + prefix_sum nodes 1 = spread nodes base right inside some b (omega arith) in
    let place : 16 * (b + 1) + 1 ≡ 16 * b + 17 = omega arith in
    rw (e, place) (omega arith)

-- no node is above the root
pub below_root : (nodes : List ℕ) (base : ℕ) → AddUp nodes base → (fuel m : ℕ) → m ≤ fuel → m ≤ 16 * base → m < length nodes → get_or nodes m 0 ≤ get_or nodes 0 0
below_root nodes base right zero m le within inside =
    let e : m ≡ 0 = omega arith in
    rw e (omega arith)
below_root nodes base right (suc fuel) m le within inside = elim (before_or_after 0 m) [
  | inr root ↦ let e : m ≡ 0 = omega arith in rw e (omega arith)
  | inl after ↦
      let up : ℕ = (m - 1) / 16 in
      let low : 16 * ((m - 1) / 16) + 1 ≤ m = omega arith in
      let high : m ≤ 16 * ((m - 1) / 16) + 16 = omega arith in
      let less : (m - 1) / 16 < base = omega arith in
      omega (
        arith,
        right ((m - 1) / 16) less,
        prefix_more nodes m inside,
        prefix_grows nodes (16 * ((m - 1) / 16) + 1) m low,
        prefix_grows nodes (m + 1) (16 * ((m - 1) / 16) + 17) (omega arith),
        below_root nodes base right fuel ((m - 1) / 16) (omega arith) (omega arith) (omega arith),
      )
]

-- the list's prefix_sum, among the nodes
pub list_prefix : (nodes : List ℕ) (base used j : ℕ) → j ≤ used → sum (take j (take used (drop base nodes))) + prefix_sum nodes base ≡ prefix_sum nodes (base + j)
unfolding prefix_sum
list_prefix nodes base used j le =
    rw (take-take j used (drop base nodes) le, take-add base j nodes)
    (let e : sum (take base nodes ++ take j (drop base nodes)) ≡ sum (take base nodes) + sum (take j (drop base nodes)) = sum_by-append (λ x. x) (take base nodes) (take j (drop base nodes)) in omega (arith, e))

pub list_sum : (nodes : List ℕ) (base used : ℕ) → sum (take used (drop base nodes)) + prefix_sum nodes base ≡ prefix_sum nodes (base + used)
unfolding prefix_sum
list_sum nodes base used =
    rw (take-add base used nodes)
    (let e : sum (take base nodes ++ take used (drop base nodes)) ≡ sum (take base nodes) + sum (take used (drop base nodes)) = sum_by-append (λ x. x) (take base nodes) (take used (drop base nodes)) in omega (arith, e))

pub list_length : (nodes : List ℕ) (base used : ℕ) → base + used ≤ length nodes → length (take used (drop base nodes)) ≡ used
list_length nodes base used inside = length-take-le used (drop base nodes) (rw (length-drop base nodes) (omega arith))

pub list_at : (nodes : List ℕ) (base used j : ℕ) → j < used → get_or (take used (drop base nodes)) j 0 ≡ get_or nodes (base + j) 0
list_at nodes base used j less = get_or-take used (drop base nodes) j 0 less ∙ get_or-drop base nodes j 0

-- nothing stands after the list
pub prefix_tail : (nodes : List ℕ) (n : ℕ) → sum (drop n nodes) ≡ 0 → prefix_sum nodes n ≡ sum nodes
unfolding prefix_sum
prefix_tail nodes n none =
    let e : sum (take n nodes) + sum (drop n nodes) ≡ sum nodes = sum_by-take-drop (λ x. x) nodes n in omega (arith, e)

pub some_nodes : (nodes : List ℕ) (base depth used room : ℕ) → IsTree nodes base depth used room → 0 < length nodes
some_nodes nodes base depth used room tree = omega (arith, tree.whole_blocks.1)

-- the root is the sum of the list
pub root_is : (nodes : List ℕ) (base depth used room : ℕ) → IsTree nodes base depth used room → get_or nodes 0 0 ≡ sum (take used (drop base nodes))
root_is nodes base depth used room tree =
    let some : 0 < length nodes = some_nodes nodes base depth used room tree in
    let one : prefix_sum nodes (0 + 1) ≡ prefix_sum nodes 0 + get_or nodes 0 0 = prefix_more nodes 0 some in
    let inside : base + used ≤ length nodes = tree.inside in
    let fits : used ≤ 15 * base + 1 = tree.fits in
    let all : prefix_sum nodes (16 * base + 1) ≡ prefix_sum nodes base + prefix_sum nodes 1 = spread nodes base tree.inner (omega arith) some base (omega arith) in
    let tail : prefix_sum nodes (base + used) ≡ sum nodes = prefix_tail nodes (base + used) tree.tail in
    omega (arith, prefix_none nodes, list_sum nodes base used, prefix_grows nodes (base + used) (16 * base + 1) (omega arith), prefix_whole nodes (16 * base + 1))

pub root_small : (nodes : List ℕ) (base depth used room : ℕ) → IsTree nodes base depth used room → get_or nodes 0 0 ≤ 4194304 * 2 ^ 35
root_small nodes base depth used room tree =
    let bound : sum (take used (drop base nodes)) ≤ length (take used (drop base nodes)) * 2 ^ 35 = sum_by-le (λ x. x) (2 ^ 35) (take used (drop base nodes)) tree.small in
    omega (arith, root_is nodes base depth used room tree, list_length nodes base used tree.inside, tree.within, tree.few)

pub node_small : (nodes : List ℕ) (base depth used room : ℕ) → IsTree nodes base depth used room → (m : ℕ) → m < base + used → get_or nodes m 0 < 2 ^ 62
node_small nodes base depth used room tree m less =
    let inside : base + used ≤ length nodes = tree.inside in
    let fits : used ≤ 15 * base + 1 = tree.fits in
    omega (arith, root_small nodes base depth used room tree, below_root nodes base tree.inner m m (omega arith) (omega arith) (omega arith))

abbrev pub zeros : ℕ → List ℕ
zeros n = replicate n 0

zeros_prefix : (n k : ℕ) → prefix_sum (zeros n) k ≡ 0
zeros_prefix n k =
    let all : sum (zeros n) ≡ n * 0 = sum_by-replicate (λ x. x) n 0 in
    omega (arith, prefix_whole (zeros n) k)

pub zeros_long : (n : ℕ) → length (zeros n) ≡ n
zeros_long n = length-replicate {A = ℕ} n 0

pub zeros_at : (n m : ℕ) → get_or (zeros n) m 0 ≡ 0
zeros_at n m = elim (before_or_after m n) [
  | inl less ↦ get_or-replicate n m 0 0 less
  | inr past ↦ get_or_past (zeros n) m 0 (rw (length-replicate {A = ℕ} n 0) past)
]

-- a list of zeros
pub tree_zeros : (length_all base depth used room q e : ℕ) → base ≡ start depth → used ≤ 15 * base + 1 → 2 ^ depth ≤ 4 * used + 4 → used ≤ room → room ≤ 4194304 → base ≤ 8388608
    → length_all ≡ 16 * q + 1 → room ≤ 15 * start e + 1 → start e + room ≤ length_all → base ≤ start e
    → IsTree (zeros length_all) base depth used room
tree_zeros length_all base depth used room q e is fits shallow within few flat blocks deep deepest least = record {
  inner = λ m less. omega (arith, zeros_at length_all m, zeros_prefix length_all (16 * m + 1), zeros_prefix length_all (16 * m + 17));
  base_is = is;
  fits = fits;
  shallow = shallow;
  within = within;
  few = few;
  flat = flat;
  whole_blocks = (q, rw (length-replicate {A = ℕ} length_all 0) blocks);
  deepest = (e, deep, rw (length-replicate {A = ℕ} length_all 0) deepest);
  inside = rw (length-replicate {A = ℕ} length_all 0) (omega arith);
  tail = rw (drop-replicate {X = ℕ} (base + used) length_all 0) (let z : sum (zeros (length_all - (base + used))) ≡ (length_all - (base + used)) * 0 = sum_by-replicate (λ x. x) (length_all - (base + used)) 0 in omega (arith, z));
  small = rw (drop-replicate {X = ℕ} base length_all 0, take-replicate {X = ℕ} used (length_all - base) 0 (omega arith)) (All-replicate (λ w. w ≤ 2 ^ 35) used 0 (omega arith));
}

pub list_zeros : (length_all base used : ℕ) → base + used ≤ length_all → take used (drop base (zeros length_all)) ≡ zeros used
list_zeros length_all base used inside = rw (drop-replicate {X = ℕ} base length_all 0) (take-replicate {X = ℕ} used (length_all - base) 0 (omega arith))

-- a changed leaf, with the sums above it
pub list_set : (nodes after : List ℕ) (base used i p : ℕ) → i < used → drop base after ≡ drop base (set nodes (base + i) p)
    → take used (drop base after) ≡ set (take used (drop base nodes)) i p
list_set nodes after base used i p less same =
    rw (same, drop-set-add base nodes i p) (take-set-lt used (drop base nodes) i p less)

pub tree_set : (nodes after : List ℕ) (base depth used room i p : ℕ) → IsTree nodes base depth used room → i < used → p ≤ 2 ^ 35
    → AddUp after base → length after ≡ length nodes → ((n : ℕ) → base ≤ n → drop n after ≡ drop n (set nodes (base + i) p))
    → IsTree after base depth used room
tree_set nodes after base depth used room i p tree less small right long leaves = record {
  inner = right;
  base_is = tree.base_is;
  fits = tree.fits;
  shallow = tree.shallow;
  within = tree.within;
  few = tree.few;
  flat = tree.flat;
  whole_blocks = (tree.whole_blocks.0, rw long tree.whole_blocks.1);
  deepest = (tree.deepest.0, tree.deepest.1, rw long tree.deepest.2);
  inside = rw long tree.inside;
  tail = rw (leaves (base + used) (omega arith), drop-set-lt (base + used) nodes (base + i) p (omega arith)) tree.tail;
  small = rw (list_set nodes after base used i p less (leaves base (omega arith))) (All-set (λ w. w ≤ 2 ^ 35) (take used (drop base nodes)) i p small tree.small);
}

-- a level down: where the children of a node are
pub child_inside : (nodes : List ℕ) (base depth used room place rest : ℕ) → IsTree nodes base depth used room → place < base → rest < get_or nodes place 0
    → 16 * place + 17 ≤ length nodes
child_inside nodes base depth used room place rest tree less left = elim (before_or_after (16 * place + 1) (length nodes)) [
  | inl inside ↦ omega (arith, tree.whole_blocks.1)
  | inr past ↦ absurd (omega (arith, tree.inner place less, prefix_past nodes (16 * place + 1) past, prefix_whole nodes (16 * place + 17)))
]

-- the place of a leaf that a target names
pub leaf_named : (nodes : List ℕ) (base depth used room place rest target : ℕ) → IsTree nodes base depth used room → base ≤ place → rest < get_or nodes place 0
    → prefix_sum nodes place + rest ≡ prefix_sum nodes base + target → IsNamed (take used (drop base nodes)) target (place - base) rest
leaf_named nodes base depth used room place rest target tree after left split =
    let inside : place < length nodes = elim (before_or_after place (length nodes)) [
      | inl less ↦ less
      | inr past ↦ absurd (omega (arith, get_or_past nodes place 0 past))
    ] in
    let within : place < base + used = elim (before_or_after place (base + used)) [
      | inl less ↦ less
      | inr past ↦ absurd (omega (arith, prefix_tail nodes (base + used) tree.tail, prefix_more nodes place inside, prefix_grows nodes (base + used) place past, prefix_whole nodes (place + 1)))
    ] in
    let e : base + (place - base) ≡ place = omega arith in
    record {
      within = rw (list_length nodes base used tree.inside) (omega arith);
      split =
          let f : sum (take (place - base) (take used (drop base nodes))) + prefix_sum nodes base ≡ prefix_sum nodes (base + (place - base)) = list_prefix nodes base used (place - base) (omega arith) in
          let g : prefix_sum nodes (base + (place - base)) ≡ prefix_sum nodes place = rw e refl in
          omega arith;
      left = rw (list_at nodes base used (place - base) (omega arith), e) left;
    }
