-- Snapshots, whose form is that of text dumps of SPPARKS, and site files. Coordinates are exact, by our own rule.
use Rattle.std.specs.Prelude.{ℕ, ◌*◌, ◌/◌, List, [], ◌∷◌, ◌++◌, length, flat_map, codes, decimal, pos, unsigned_abs, slice_index, ◌≡◌, ◌<◌, ◌≤◌}
use Rattle.std.specs.List.{range_with_len}
use Rattle.spk_num.specs.declared.field.Field.{Field}
use Rattle.spk_num.specs.declared.field.Field.TheVariants.{Id, Site, I1, X, Y, Z, Energy}
use Rattle.spk_num.specs.Decimal.{decimal_text, ticks_text}
use Rattle.spk_lattice.specs.Layout.{Layout, sites_of}
use Rattle.spk_lattice.specs.declared.style_row.Point.{Point}
use Rattle.spk_lattice.specs.Neighbours.{point_of}
use Rattle.spk_report.specs.Energies.{site_energy, value_of}
use Rattle.spk_report.specs.Items.{item_text}
use Rattle.spk_report.specs.declared.item.Item.TheVariants.{Timestep, NumberOfAtoms, BoxBounds, Atoms}
use Rattle.spk_report.specs.declared.dump_head.DumpHead.{DumpHead}

-- the millionths of a lattice unit
abbrev pub scale_of : DumpHead → ℕ
scale_of head = unsigned_abs head.scale.millionths

abbrev pub field_name : Field → List ℕ
field_name Id = codes "id"
field_name Site = codes "site"
field_name I1 = codes "i1"
field_name X = codes "x"
field_name Y = codes "y"
field_name Z = codes "z"
field_name Energy = codes "energy"

-- a coordinate of so many half units, rounded down to millionths
abbrev pub coordinate_text : ℕ → ℕ → List ℕ
coordinate_text scale half_units = decimal_text (pos (half_units * scale / 2))

-- a point's coordinate along x, y or z, which are the dimensions 0, 1 and 2
abbrev pub coordinate : Point → ℕ → ℕ
coordinate p dimension = slice_index (p.x ∷ p.y ∷ p.z ∷ []) dimension

-- a field of the site with an id
abbrev pub field_text : DumpHead → Layout → List ℕ → ℕ → Field → List ℕ
field_text head lattice values id Id = decimal id
field_text head lattice values id Site = decimal (value_of values id)
field_text head lattice values id I1 = decimal (value_of values id)
field_text head lattice values id X = coordinate_text (scale_of head) (coordinate (point_of lattice id) 0)
field_text head lattice values id Y = coordinate_text (scale_of head) (coordinate (point_of lattice id) 1)
field_text head lattice values id Z = coordinate_text (scale_of head) (coordinate (point_of lattice id) 2)
field_text head lattice values id Energy = decimal (site_energy head.energy lattice values id)

abbrev pub next_text : DumpHead → Layout → List ℕ → ℕ → Field → List ℕ
next_text head lattice values id field = codes " " ++ field_text head lattice values id field

-- the fields of a site, with a blank between two of them
abbrev pub row_text : DumpHead → Layout → List ℕ → ℕ → List Field → List ℕ
row_text head lattice values id [] = []
row_text head lattice values id (field ∷ fields) = field_text head lattice values id field ++ flat_map (next_text head lattice values id) fields

abbrev pub site_text : DumpHead → Layout → List Field → List ℕ → ℕ → List ℕ
site_text head lattice fields values id = row_text head lattice values id fields ++ codes "\n"

-- how far the box reaches along a dimension of so many cells
unfoldable pub bounds_text : ℕ → ℕ → List ℕ
bounds_text scale cells = codes "0 " ++ (decimal_text (pos (cells * scale)) ++ codes "\n")

-- which snapshot of a dump it is, and its time
unfoldable pub step_text : DumpHead → List ℕ
step_text head = item_text Timestep ++ (decimal head.number ++ (codes " " ++ (ticks_text head.time ++ codes "\n")))

unfoldable pub count_text : Layout → List ℕ
count_text lattice = item_text NumberOfAtoms ++ (decimal (sites_of lattice) ++ codes "\n")

unfoldable pub box_text : DumpHead → Layout → List ℕ
box_text head lattice =
    item_text BoxBounds ++ (bounds_text (scale_of head) lattice.nx ++ (bounds_text (scale_of head) lattice.ny ++ bounds_text (scale_of head) lattice.nz))

-- the names of the fields
abbrev pub name_text : Field → List ℕ
name_text field = codes " " ++ field_name field

unfoldable pub fields_text : List Field → List ℕ
fields_text fields = item_text Atoms ++ (flat_map name_text fields ++ codes "\n")

abbrev pub ids_of : Layout → List ℕ
ids_of lattice = range_with_len 1 (sites_of lattice)

unfoldable pub snapshot_text : DumpHead → Layout → List Field → List ℕ → List ℕ
snapshot_text head lattice fields values =
    step_text head ++ (count_text lattice ++ (box_text head lattice ++ (fields_text fields ++ flat_map (site_text head lattice fields values) (ids_of lattice))))

-- The scale is in its range, and each site has a value.
pub record IsShown (head : DumpHead) (lattice : Layout) (values : List ℕ) : Type 0 where
  pub some : 0 < scale_of head
  pub limit : scale_of head ≤ 1000000000000
  pub all : length values ≡ sites_of lattice
