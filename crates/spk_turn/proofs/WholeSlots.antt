-- A box of all cells: its slots are the places.
use Rattle.std.proofs.Common.{◌≡◌, ℕ, ◌<◌, ap, ◌∙◌}
use Rattle.spk_lattice.specs.Layout.{sites_of}
use Rattle.spk_lattice.specs.Boxes.{CellBox, layout_of, shown_at, whole_box}
use Rattle.spk_lattice.proofs.Boxes.{whole_layout, whole_shown}
use Rattle.spk_turn.specs.Slots.{BoxSlots, place_of, slot_count}

pub all_inside : (s : BoxSlots) → s.cells ≡ whole_box s.view → slot_count s ≡ sites_of s.view
all_inside s all = ap (λ (b : CellBox). sites_of (layout_of s.view b)) all ∙ ap sites_of (whole_layout s.view)

pub same_place : (s : BoxSlots) (slot : ℕ) → s.cells ≡ whole_box s.view → slot < sites_of s.view → place_of s slot ≡ slot
same_place s slot all inside = ap (λ (b : CellBox). shown_at s.view b slot) all ∙ whole_shown s.view slot inside
