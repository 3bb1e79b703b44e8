-- Dumps by the values of their words.
use Rattle.std.specs.Prelude.{ℕ, if◌then◌else◌, List, [], ◌∷◌, map, codes}
use Rattle.std.specs.Str.{bytes_eq}
use Rattle.spk_num.specs.declared.field.Field.{Field}
use Rattle.spk_num.specs.declared.field.Field.TheVariants.{Id, Site, I1, X, Y, Z, Energy}
use Rattle.spk_cmds.specs.declared.command.DumpStyle.{DumpStyle}
use Rattle.spk_cmds.specs.declared.command.DumpStyle.TheVariants.{Text, Sites}
use Rattle.spk_cmds.specs.declared.command.Command.{Command}
use Rattle.spk_cmds.specs.declared.command.Command.TheVariants as command
use Rattle.spk_cmds.specs.declared.value.Value.{Value}
use Rattle.spk_cmds.specs.Values.{decimal_at, word_at, words_of}

-- the field of a word, which is `id`, `site`, `i1`, `x`, `y`, `z` or `energy`
abbrev pub field_of : List ℕ → Field
field_of word =
    if bytes_eq word (codes "id") then Id
    else (if bytes_eq word (codes "site") then Site
    else (if bytes_eq word (codes "i1") then I1
    else (if bytes_eq word (codes "x") then X
    else (if bytes_eq word (codes "y") then Y
    else (if bytes_eq word (codes "z") then Z
    else Energy)))))

-- the fields that words name, or `id site x y z` where there are none
abbrev pub text_fields : List Value → List Field
text_fields [] = Id ∷ Site ∷ X ∷ Y ∷ Z ∷ []
text_fields (word ∷ words) = map field_of (words_of (word ∷ words))

-- a dump of sites has no fields
abbrev pub fields_of : DumpStyle → List Value → List Field
fields_of Text words = text_fields words
fields_of Sites words = []

-- `dump ID STYLE D FILE`, and then the fields
abbrev pub dump_of : DumpStyle → List Value → List Value → Command
dump_of style values words = command.Dump (word_at values 0) style (decimal_at values 2) (word_at values 3) (fields_of style words)
