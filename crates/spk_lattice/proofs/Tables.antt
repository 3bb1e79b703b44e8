-- What each style's offsets keep, by computing.
use Rattle.std.proofs.Common.{◌≡◌, ℕ, zero, suc, ◌-◌, ◌<◌, ◌≤◌, ◌==◌, List, length, refl, true, false, arith, ap, sym, ◌∙◌}
use Rattle.std.proofs.lemmas.Bool.Decides.{nat_tests}
use Rattle.std.proofs.lemmas.List.{get_or_default}
use Rattle.std.proofs.lemmas.List.Folds.{Any-from_list_any}
use Rattle.std.proofs.lemmas.List.Sums.{AllPass-from_list_all}
use Rattle.std.proofs.lemmas.List.Elements.{All-contains}
use Rattle.std.specs.Prelude.{Bool, ◌&&◌, ◌||◌, nat_lt, nat_le, Contains}
use Rattle.std.specs.List.{list_all, list_any}
use Rattle.spk_num.specs.declared.style.Style.{Style}
use Rattle.spk_num.specs.declared.style.Style.TheVariants.{Line2, Sq4, Sq8, Tri, Sc6, Sc26, Bcc, Fcc}
use Rattle.spk_lattice.specs.Layout.{basis_of, dimensions_of}
use Rattle.spk_lattice.specs.Neighbours.{Offset, offsets}

-- the offset that leads back
abbrev pub back_of : ℕ → Offset → Offset
back_of basis o = record { dx = 2 - o.dx; dy = 2 - o.dy; dz = 2 - o.dz; basis = basis }

abbrev same : Offset → Offset → Bool
same o p = (o.dx == p.dx) && (o.dy == p.dy) && (o.dz == p.dz) && (o.basis == p.basis)

-- in a dimension that isn't used, cells stay as they are
abbrev stays : Style → ℕ → ℕ → Bool
stays style dimension d = nat_lt dimension (dimensions_of style) || (d == 1)

abbrev is_in_range : Style → Offset → Bool
is_in_range style o = nat_lt o.dx 3 && nat_lt o.dy 3 && nat_lt o.dz 3 && nat_lt o.basis (basis_of style)

abbrev is_good : Style → ℕ → Offset → Bool
is_good style b o = is_in_range style o && stays style 1 o.dy && stays style 2 o.dz && list_any (same (back_of b o)) (offsets style o.basis)

abbrev is_table : Style → ℕ → Bool
is_table style b = list_all (is_good style b) (offsets style b)

table : (style : Style) (b : ℕ) → b < basis_of style → is_table style b ≡ true
unfolding offsets
table Line2 zero less = refl
table Line2 (suc b) less = absurd (omega arith)
table Sq4 zero less = refl
table Sq4 (suc b) less = absurd (omega arith)
table Sq8 zero less = refl
table Sq8 (suc b) less = absurd (omega arith)
table Tri zero less = refl
table Tri (suc zero) less = refl
table Tri (suc (suc b)) less = absurd (omega arith)
table Sc6 zero less = refl
table Sc6 (suc b) less = absurd (omega arith)
table Sc26 zero less = refl
table Sc26 (suc b) less = absurd (omega arith)
table Bcc zero less = refl
table Bcc (suc zero) less = refl
table Bcc (suc (suc b)) less = absurd (omega arith)
table Fcc zero less = refl
table Fcc (suc zero) less = refl
table Fcc (suc (suc zero)) less = refl
table Fcc (suc (suc (suc zero))) less = refl
table Fcc (suc (suc (suc (suc b)))) less = absurd (omega arith)

-- How many neighbours a site of each style has.
abbrev pub near_count : Style → ℕ
near_count Line2 = 2
near_count Sq4 = 4
near_count Sq8 = 8
near_count Tri = 6
near_count Sc6 = 6
near_count Sc26 = 26
near_count Bcc = 8
near_count Fcc = 12

pub count_is : (style : Style) (b : ℕ) → b < basis_of style → length (offsets style b) ≡ near_count style
unfolding offsets
count_is Line2 zero less = refl
count_is Line2 (suc b) less = absurd (omega arith)
count_is Sq4 zero less = refl
count_is Sq4 (suc b) less = absurd (omega arith)
count_is Sq8 zero less = refl
count_is Sq8 (suc b) less = absurd (omega arith)
count_is Tri zero less = refl
count_is Tri (suc zero) less = refl
count_is Tri (suc (suc b)) less = absurd (omega arith)
count_is Sc6 zero less = refl
count_is Sc6 (suc b) less = absurd (omega arith)
count_is Sc26 zero less = refl
count_is Sc26 (suc b) less = absurd (omega arith)
count_is Bcc zero less = refl
count_is Bcc (suc zero) less = refl
count_is Bcc (suc (suc b)) less = absurd (omega arith)
count_is Fcc zero less = refl
count_is Fcc (suc zero) less = refl
count_is Fcc (suc (suc zero)) less = refl
count_is Fcc (suc (suc (suc zero))) less = refl
count_is Fcc (suc (suc (suc (suc b)))) less = absurd (omega arith)

is_few : (style : Style) (b : ℕ) → nat_le (length (offsets style b)) 26 ≡ true
unfolding offsets
is_few Line2 zero = refl
is_few Line2 (suc b) = refl
is_few Sq4 zero = refl
is_few Sq4 (suc b) = refl
is_few Sq8 zero = refl
is_few Sq8 (suc b) = refl
is_few Tri zero = refl
is_few Tri (suc zero) = refl
is_few Tri (suc (suc b)) = refl
is_few Sc6 zero = refl
is_few Sc6 (suc b) = refl
is_few Sc26 zero = refl
is_few Sc26 (suc b) = refl
is_few Bcc zero = refl
is_few Bcc (suc zero) = refl
is_few Bcc (suc (suc b)) = refl
is_few Fcc zero = refl
is_few Fcc (suc zero) = refl
is_few Fcc (suc (suc zero)) = refl
is_few Fcc (suc (suc (suc zero))) = refl
is_few Fcc (suc (suc (suc (suc b)))) = refl

pub few : (style : Style) (b : ℕ) → length (offsets style b) ≤ 26
few style b =
    let n : ℕ = length (offsets style b) in
    let is : nat_le n 26 ≡ true = is_few style b in
    grind (arith, nat_tests)

and_both : (a b : Bool) → (a && b) ≡ true → (a ≡ true) × (b ≡ true)
and_both true b is = (refl, is)
and_both false b is = absurd cc

less_of : (a b : ℕ) → nat_lt a b ≡ true → a < b
less_of a b is = grind (arith, nat_tests)

equal_of : (a b : ℕ) → (a == b) ≡ true → a ≡ b
equal_of a b is = grind (arith, nat_tests)

stays_of : (used : Bool) (d : ℕ) → used ≡ false → (used || (d == 1)) ≡ true → d ≡ 1
stays_of true d unused is = absurd cc
stays_of false d unused is = equal_of d 1 is

not_less : (a b : ℕ) → b ≤ a → nat_lt a b ≡ false
not_less a b is = grind (arith, nat_tests)

same_is : (o p : Offset) → same o p ≡ true → o ≡ p
same_is o p is =
    let one = and_both (((o.dx == p.dx) && (o.dy == p.dy)) && (o.dz == p.dz)) (o.basis == p.basis) is in
    let two = and_both ((o.dx == p.dx) && (o.dy == p.dy)) (o.dz == p.dz) one.0 in
    let three = and_both (o.dx == p.dx) (o.dy == p.dy) two.0 in
    ap (λ v. record { dx = v; dy = o.dy; dz = o.dz; basis = o.basis }) (equal_of o.dx p.dx three.0)
    ∙ ap (λ v. record { dx = p.dx; dy = v; dz = o.dz; basis = o.basis }) (equal_of o.dy p.dy three.1)
    ∙ ap (λ v. record { dx = p.dx; dy = p.dy; dz = v; basis = o.basis }) (equal_of o.dz p.dz two.1)
    ∙ ap (λ v. record { dx = p.dx; dy = p.dy; dz = p.dz; basis = v }) (equal_of o.basis p.basis one.1)

-- what is so of each offset of a table: the cell differs by at most one in each dimension, and not in an unused one
pub record IsGood (style : Style) (b : ℕ) (o : Offset) : Type 0 where
  pub dx_less : o.dx < 3
  pub dy_less : o.dy < 3
  pub dz_less : o.dz < 3
  pub basis_less : o.basis < basis_of style
  pub dy_stays : dimensions_of style ≤ 1 → o.dy ≡ 1
  pub dz_stays : dimensions_of style ≤ 2 → o.dz ≡ 1
  pub back : Contains (offsets style o.basis) (back_of b o)

found : (p : Offset) (xs : List Offset) → list_any (same p) xs ≡ true → Contains xs p
found p xs any =
    let there = Any-from_list_any (same p) xs any in
    let is : p ≡ there.1 = same_is p there.1 there.4 in
    (there.0, there.2, get_or_default xs there.0 p there.1 there.2 ∙ there.3 ∙ sym is)

pub good : (style : Style) (b : ℕ) (o : Offset) → b < basis_of style → Contains (offsets style b) o → IsGood style b o
good style b o less there =
    let is : is_good style b o ≡ true = All-contains (λ x. is_good style b x ≡ true) (offsets style b) o (AllPass-from_list_all (is_good style b) (offsets style b) (table style b less)) there in
    let way = and_both (is_in_range style o && stays style 1 o.dy && stays style 2 o.dz) (list_any (same (back_of b o)) (offsets style o.basis)) is in
    let last = and_both (is_in_range style o && stays style 1 o.dy) (stays style 2 o.dz) way.0 in
    let middle = and_both (is_in_range style o) (stays style 1 o.dy) last.0 in
    let two = and_both (nat_lt o.dx 3 && nat_lt o.dy 3 && nat_lt o.dz 3) (nat_lt o.basis (basis_of style)) middle.0 in
    let three = and_both (nat_lt o.dx 3 && nat_lt o.dy 3) (nat_lt o.dz 3) two.0 in
    let four = and_both (nat_lt o.dx 3) (nat_lt o.dy 3) three.0 in
    record {
      dx_less = less_of o.dx 3 four.0;
      dy_less = less_of o.dy 3 four.1;
      dz_less = less_of o.dz 3 three.1;
      basis_less = less_of o.basis (basis_of style) two.1;
      dy_stays = λ flat. stays_of (nat_lt 1 (dimensions_of style)) o.dy (not_less 1 (dimensions_of style) flat) middle.1;
      dz_stays = λ flat. stays_of (nat_lt 2 (dimensions_of style)) o.dz (not_less 2 (dimensions_of style) flat) last.1;
      back = found (back_of b o) (offsets style o.basis) way.1;
    }
