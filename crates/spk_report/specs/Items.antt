-- The headings of a snapshot's parts, which are those of text dumps of SPPARKS.
use Rattle.std.specs.Prelude.{ℕ, List, codes}
use Rattle.spk_report.specs.declared.item.Item.{Item}
use Rattle.spk_report.specs.declared.item.Item.TheVariants.{Timestep, NumberOfAtoms, BoxBounds, Atoms}

unfoldable pub item_text : Item → List ℕ
item_text Timestep = codes "ITEM: TIMESTEP\n"
item_text NumberOfAtoms = codes "ITEM: NUMBER OF ATOMS\n"
item_text BoxBounds = codes "ITEM: BOX BOUNDS\n"
item_text Atoms = codes "ITEM: ATOMS"
