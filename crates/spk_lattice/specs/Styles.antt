-- The styles: the one table that knows them. A further style is one more row.
use Rattle.std.specs.Prelude.{ℕ, List, [], ◌∷◌}
use Rattle.spk_num.specs.declared.style.Style.{Style}
use Rattle.spk_num.specs.declared.style.Style.TheVariants.{Line2, Sq4, Sq8, Tri, Sc6, Sc26, Bcc, Fcc}
pub use Rattle.spk_lattice.specs.declared.style_row.Point.{Point}

abbrev pub point : ℕ → ℕ → ℕ → Point
point x y z = record { x = x; y = y; z = z }

-- How many dimensions are used (x alone, x and y, or all three), the basis points of a cell in half units, and how far
-- neighbours are apart in half units, but for signs.
pub record StyleRow : Type 0 where
  pub dimensions : ℕ
  pub basis : List Point
  pub distances : List Point

abbrev pub row_of : Style → StyleRow
row_of Line2 = record {
  dimensions = 1;
  basis = point 0 0 0 ∷ [];
  distances = point 2 0 0 ∷ [];
}
row_of Sq4 = record {
  dimensions = 2;
  basis = point 0 0 0 ∷ [];
  distances = point 2 0 0 ∷ point 0 2 0 ∷ [];
}
row_of Sq8 = record {
  dimensions = 2;
  basis = point 0 0 0 ∷ [];
  distances = point 2 0 0 ∷ point 0 2 0 ∷ point 2 2 0 ∷ [];
}
row_of Tri = record {
  dimensions = 2;
  basis = point 0 0 0 ∷ point 1 1 0 ∷ [];
  distances = point 2 0 0 ∷ point 1 1 0 ∷ [];
}
row_of Sc6 = record {
  dimensions = 3;
  basis = point 0 0 0 ∷ [];
  distances = point 2 0 0 ∷ point 0 2 0 ∷ point 0 0 2 ∷ [];
}
row_of Sc26 = record {
  dimensions = 3;
  basis = point 0 0 0 ∷ [];
  distances = point 2 0 0 ∷ point 0 2 0 ∷ point 2 2 0 ∷ point 0 0 2 ∷ point 2 0 2 ∷ point 0 2 2 ∷ point 2 2 2 ∷ [];
}
row_of Bcc = record {
  dimensions = 3;
  basis = point 0 0 0 ∷ point 1 1 1 ∷ [];
  distances = point 1 1 1 ∷ [];
}
row_of Fcc = record {
  dimensions = 3;
  basis = point 0 0 0 ∷ point 0 1 1 ∷ point 1 0 1 ∷ point 1 1 0 ∷ [];
  distances = point 1 1 0 ∷ point 1 0 1 ∷ point 0 1 1 ∷ [];
}
