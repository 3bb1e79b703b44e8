-- What a simulator changes outside, which is files and the screen, and the events by which it does so.
use Rattle.std.specs.Prelude.{◌≡◌, ℕ, List, [], ◌∷◌, ◌++◌, Option, Some, unwrap_or, map}
use Rattle.std.specs.Option.{option_map}
use Rattle.std.specs.Map.{update}
use Rattle.std.specs.Str.{bytes_eq}

-- files by their names, and all bytes on the screen so far
pub record Outside : Type 0 where
  pub files : List ℕ → Option (List ℕ)
  pub said : List ℕ

-- What is done outside, in steps of one byte. A file that starts is empty.
pub data Event : Type 0 where
  Starts : List ℕ → Event
  Adds : List ℕ → ℕ → Event
  Says : ℕ → Event

-- what an event changes
pub data Place : Type 0 where
  Screen : Place
  File : List ℕ → Place

abbrev pub place_of : Event → Place
place_of (Starts name) = File name
place_of (Adds name b) = File name
place_of (Says b) = Screen

-- Bytes are added to a file, which is made where it isn't there.
abbrev pub added : Outside → List ℕ → List ℕ → Outside
added outside name bytes =
    record outside { files = update bytes_eq outside.files name (Some (unwrap_or (outside.files name) [] ++ bytes)) }

abbrev pub started : Outside → List ℕ → Outside
started outside name = record outside { files = update bytes_eq outside.files name (Some []) }

abbrev pub spoken : Outside → List ℕ → Outside
spoken outside bytes = record outside { said = outside.said ++ bytes }

-- files and screen after an event, and after a list of them
abbrev pub after_event : Outside → Event → Outside
after_event outside (Starts name) = started outside name
after_event outside (Adds name b) = added outside name (b ∷ [])
after_event outside (Says b) = spoken outside (b ∷ [])

unfoldable pub after : Outside → List Event → Outside
after outside [] = outside
after outside (e ∷ es) = after (after_event outside e) es

-- the same, where a world may tell them or not
unfoldable pub after_told : Option Outside → List Event → Option Outside
after_told told events = option_map (λ outside. after outside events) told

-- the events by which bytes are written
unfoldable pub says : List ℕ → List Event
says bytes = map Says bytes

unfoldable pub adds : List ℕ → List ℕ → List Event
adds name bytes = map (Adds name) bytes

unfoldable pub starts : List ℕ → List Event
starts name = Starts name ∷ []

-- A prefix of these events was done, and no more.
pub record WritesPrefix (before now : Option Outside) (events : List Event) : Type 0 where
  pub written : List Event
  pub left : List Event
  pub split : written ++ left ≡ events
  pub stands : now ≡ after_told before written
