-- Names of variables, regions and dumps, and of files. The rules are our own.
use Rattle.std.specs.Prelude.{ℕ, Bool, ◌&&◌, ◌||◌, ◌==◌, nat_lt, nat_le, List, length}
use Rattle.std.specs.List.{list_all}
use Rattle.std.specs.Char.{is_ascii_alphanumeric}

-- a letter, a digit or `_`
abbrev pub is_name_byte : ℕ → Bool
is_name_byte b = is_ascii_alphanumeric b || (b == 95)

-- a name has 1 to 32 letters, digits or `_`
abbrev pub is_name : List ℕ → Bool
is_name name = nat_lt 0 (length name) && nat_le (length name) 32 && list_all is_name_byte name

-- the name of a file has 1 to 255 bytes
abbrev pub is_file_name : List ℕ → Bool
is_file_name name = nat_lt 0 (length name) && nat_le (length name) 255
