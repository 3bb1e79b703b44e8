-- How the values of all sites are written as a site file. The first line is our own.
use Rattle.std.specs.Prelude.{ℕ, ◌+◌, List, [], ◌∷◌, ◌++◌, length, codes, decimal}
use Rattle.spk_num.specs.Decimal.{ticks_text}

-- a line for each site, from this id on
abbrev pub rows_text : ℕ → List ℕ → List ℕ
rows_text id [] = []
rows_text id (value ∷ values) = decimal id ++ (codes " " ++ (decimal value ++ (codes "\n" ++ rows_text (id + 1) values)))

unfoldable pub sites_text : ℕ → List ℕ → List ℕ
sites_text time values =
    codes "spk sites at time " ++ (ticks_text time ++ (codes "\n\n" ++ (decimal (length values) ++ (codes " sites\n\nValues\n\n" ++ rows_text 1 values))))
