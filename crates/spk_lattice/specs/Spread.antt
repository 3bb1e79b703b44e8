-- How many sites lie within so many hops of a site, where no cell wraps.
use Rattle.std.specs.Prelude.{ℕ, zero, suc, ◌+◌, ◌-◌, ◌*◌, ◌%◌, ◌==◌, nat_lt, max, if◌then◌else◌, List, [], ◌∷◌, map, filter, length}
use Rattle.spk_num.specs.declared.style.Style.{Style}
use Rattle.spk_lattice.specs.Layout.{basis_of}
use Rattle.spk_lattice.specs.Neighbours.{Offset, offsets}

-- two rising lists as one, in so many steps at most
abbrev pub merge : ℕ → List ℕ → List ℕ → List ℕ
merge zero xs ys = []
merge (suc more) [] ys = ys
merge (suc more) (x ∷ xs) [] = x ∷ xs
merge (suc more) (x ∷ xs) (y ∷ ys) =
    if nat_lt x y then x ∷ merge more xs (y ∷ ys)
    else (if nat_lt y x then y ∷ merge more (x ∷ xs) ys
    else x ∷ merge more xs ys)

abbrev pub merged : List ℕ → List ℕ → List ℕ
merged xs ys = merge (length xs + length ys) xs ys

-- A cell and its basis point as one number. After d hops the coordinates are counted from d cells before the start's, so
-- a hop adds 0, 1 or 2 to each.
abbrev pub code : ℕ → ℕ → ℕ → ℕ → ℕ
code x y z basis = ((z * 16 + y) * 16 + x) * 4 + basis

-- a hop of no length, and the hops to neighbours
abbrev pub hops : Style → ℕ → List Offset
hops style basis = record { dx = 1; dy = 1; dz = 1; basis = basis } ∷ offsets style basis

abbrev pub hopped : ℕ → Offset → ℕ → ℕ
hopped basis o c = c - basis + code o.dx o.dy o.dz o.basis

abbrev pub hop_all : ℕ → List ℕ → List Offset → List ℕ
hop_all basis codes [] = []
hop_all basis codes (o ∷ os) = merged (map (hopped basis o) codes) (hop_all basis codes os)

abbrev pub widened : Style → ℕ → List ℕ → List ℕ
widened style zero codes = []
widened style (suc p) codes = merged (hop_all p (filter (λ c. c % 4 == p) codes) (hops style p)) (widened style p codes)

-- the sites within so many hops of a cell's basis point
unfoldable pub ball : Style → ℕ → ℕ → List ℕ
ball style basis zero = basis ∷ []
ball style basis (suc d) = widened style (basis_of style) (ball style basis d)

abbrev pub most : Style → ℕ → ℕ → ℕ
most style d zero = 0
most style d (suc basis) = max (length (ball style basis d)) (most style d basis)

-- the most sites within so many hops of one, itself included
unfoldable pub spread : Style → ℕ → ℕ
spread style d = most style d (basis_of style)
