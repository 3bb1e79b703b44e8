-- The table of commands: the forms of each, and the command that its words make.
-- The forms are made after SPPARKS's commands of these names. Their ranges and the order of refusals are our own.
use Rattle.std.specs.Prelude.{ℕ, if◌then◌else◌, List, [], ◌∷◌, slice_get, codes, pos, neg_ℤ, Option, Some, None, Result, Ok, Err}
use Rattle.std.specs.Str.{bytes_eq}
use Rattle.spk_num.specs.Results.{◌>>=◌}
use Rattle.spk_num.specs.declared.style.Style.{Style}
use Rattle.spk_num.specs.declared.style.Style.TheVariants.{Line2, Sq4, Sq8, Tri, Sc6, Sc26, Bcc, Fcc}
use Rattle.spk_num.specs.declared.sweep.Sweep.{Sweep}
use Rattle.spk_num.specs.declared.sweep.Sweep.TheVariants.{Random, Raster}
use Rattle.spk_cmds.specs.declared.options.Echo.TheVariants as echo
use Rattle.spk_cmds.specs.declared.command.AppStyle.{AppStyle}
use Rattle.spk_cmds.specs.declared.command.AppStyle.TheVariants.{Ising, IsingSingle}
use Rattle.spk_cmds.specs.declared.command.DumpStyle.{DumpStyle}
use Rattle.spk_cmds.specs.declared.command.DumpStyle.TheVariants as dump
use Rattle.spk_cmds.specs.declared.command.SolveStyle.{SolveStyle}
use Rattle.spk_cmds.specs.declared.command.SolveStyle.TheVariants.{Linear, Tree, Group}
use Rattle.spk_cmds.specs.declared.command.Command.{Command}
use Rattle.spk_cmds.specs.declared.command.CommandFault.{CommandFault}
use Rattle.spk_cmds.specs.declared.command.CommandFault.TheVariants.{UnknownCommand, UnknownStyle, WrongCount, NotBuilt}
use Rattle.spk_cmds.specs.declared.form.Maker.{Maker}
use Rattle.spk_cmds.specs.declared.form.Maker.TheVariants as maker
use Rattle.spk_cmds.specs.Kinds.{Kind, OneOf, WholeNumber, WholeUpToNext, DecimalNumber, BoundNumber, NameWord, FileWord, AnyWord, is_among}
use Rattle.spk_cmds.specs.Forms.{Form, Keyword, Tail, NoTail, Pairs, Optional, Counted, UpTo, form_read}
use Rattle.spk_cmds.specs.Makers.{made}

-- a form with its deciding word
pub record Styled : Type 0 where
  pub word : List ℕ
  pub form : Form

-- The forms of a command: none is built yet; it has one; or it has several, of which the word at a place after the first
-- decides. The words of the last list decide for a form that isn't built yet.
pub data Forms : Type 0 where
  Unbuilt : Forms
  One : Form → Forms
  Several : ℕ → List Styled → List (List ℕ) → Forms

pub record Row : Type 0 where
  pub name : List ℕ
  pub forms : Forms

-- the form of a deciding word
abbrev pub styled_found : List Styled → List ℕ → Option Form
styled_found [] word = None
styled_found (styled ∷ others) word = if bytes_eq word styled.word then Some styled.form else styled_found others word

abbrev pub decided_by : Option Form → List (List ℕ) → List ℕ → Result Form CommandFault
decided_by (Some form) unbuilt word = Ok form
decided_by None unbuilt word = if is_among unbuilt word then Err (NotBuilt word) else Err (UnknownStyle word)

abbrev pub decided : List Styled → List (List ℕ) → Option (List ℕ) → Result Form CommandFault
decided styles unbuilt None = Err WrongCount
decided styles unbuilt (Some word) = decided_by (styled_found styles word) unbuilt word

-- the form for the words after a first one
abbrev pub form_of : Forms → List ℕ → List (List ℕ) → Result Form CommandFault
form_of Unbuilt first words = Err (NotBuilt first)
form_of (One form) first words = Ok form
form_of (Several place styles unbuilt) first words = decided styles unbuilt (slice_get words place)

-- the first word finds the row
abbrev pub row_found : List Row → List ℕ → Option Forms
row_found [] first = None
row_found (row ∷ rows) first = if bytes_eq first row.name then Some row.forms else row_found rows first

abbrev pub form_found_by : Option Forms → List ℕ → List (List ℕ) → Result Form CommandFault
form_found_by None first words = Err (UnknownCommand first)
form_found_by (Some forms) first words = form_of forms first words

-- forms
abbrev pub words_alone : Maker → List Kind → Form
words_alone maker kinds = record { maker = maker; kinds = kinds; tail = NoTail }

abbrev pub app : AppStyle → Form
app style = words_alone (maker.App style) (AnyWord ∷ [])

-- an application whose last word is the number of values that a site may have
abbrev pub potts : Maker → Form
potts maker = words_alone maker (AnyWord ∷ WholeNumber 1 1000000 ∷ [])

abbrev pub diffusion : Form
diffusion = words_alone maker.Diffusion (AnyWord ∷ OneOf (codes "off" ∷ codes "linear" ∷ []) [] ∷ OneOf (codes "hop" ∷ []) [] ∷ [])

abbrev pub solver : SolveStyle → Tail → Form
solver style tail = record { maker = maker.Solve style; kinds = AnyWord ∷ []; tail = tail }

abbrev pub sweep : Sweep → Form
sweep style = words_alone (maker.Sweep style) (AnyWord ∷ [])

-- a bound of the propensities, which isn't used
abbrev pub any_decimal : Kind
any_decimal = DecimalNumber (neg_ℤ (pos 1000000000000000000)) (pos 1000000000000000000)

abbrev pub periodic : Kind
periodic = OneOf (codes "p" ∷ []) (codes "n" ∷ [])

abbrev pub lattice : Style → Form
lattice style = words_alone (maker.Lattice style) (AnyWord ∷ DecimalNumber (pos 1) (pos 1000000000000) ∷ [])

-- a bound of a region, and a coordinate of its centre
abbrev pub side : Kind
side = BoundNumber (neg_ℤ (pos 10000000000000)) (pos 10000000000000)

abbrev pub coordinate : Kind
coordinate = DecimalNumber (neg_ℤ (pos 10000000000000)) (pos 10000000000000)

abbrev pub radius : Kind
radius = DecimalNumber (pos 0) (pos 10000000000000)

abbrev pub axis : Kind
axis = OneOf (codes "x" ∷ codes "y" ∷ codes "z" ∷ []) []

abbrev pub block : Form
block = words_alone maker.Block (NameWord ∷ AnyWord ∷ side ∷ side ∷ side ∷ side ∷ side ∷ side ∷ [])

abbrev pub sphere : Form
sphere = words_alone maker.Sphere (NameWord ∷ AnyWord ∷ coordinate ∷ coordinate ∷ coordinate ∷ radius ∷ [])

abbrev pub cylinder : Form
cylinder = words_alone maker.Cylinder (NameWord ∷ AnyWord ∷ axis ∷ coordinate ∷ coordinate ∷ radius ∷ side ∷ side ∷ [])

-- a region of parts, of which the third word says how many there are
abbrev pub region_of_parts : Maker → Form
region_of_parts maker = record { maker = maker; kinds = NameWord ∷ AnyWord ∷ WholeNumber 0 4294967295 ∷ []; tail = Counted NameWord }

abbrev pub site : Kind
site = OneOf (codes "site" ∷ codes "i1" ∷ []) []

abbrev pub keyword : List ℕ → Kind → Keyword
keyword word kind = record { word = word; kind = kind }

abbrev pub set_pairs : Tail
set_pairs = Pairs (keyword (codes "fraction") (DecimalNumber (pos 1) (pos 1000000)) ∷ keyword (codes "region") NameWord ∷ []) []

abbrev pub set_form : Maker → List Kind → Form
set_form maker kinds = record { maker = maker; kinds = site ∷ AnyWord ∷ kinds; tail = set_pairs }

-- a column of a text dump
abbrev pub field : Kind
field = OneOf (codes "id" ∷ codes "site" ∷ codes "i1" ∷ codes "x" ∷ codes "y" ∷ codes "z" ∷ codes "energy" ∷ []) []

-- a dump; the fields of one of text stand last
abbrev pub dump_form : DumpStyle → Tail → Form
dump_form style tail = record { maker = maker.Dump style; kinds = NameWord ∷ AnyWord ∷ DecimalNumber (pos 1) (pos 1000000000000000) ∷ FileWord ∷ []; tail = tail }

abbrev pub unbuilt : List ℕ → Row
unbuilt name = record { name = name; forms = Unbuilt }

abbrev pub one : List ℕ → Form → Row
one name form = record { name = name; forms = One form }

abbrev pub several : List ℕ → ℕ → List Styled → List (List ℕ) → Row
several name place styles unbuilt = record { name = name; forms = Several place styles unbuilt }

abbrev pub styled : List ℕ → Form → Styled
styled word form = record { word = word; form = form }

abbrev pub echo_styles : List Styled
echo_styles =
    styled (codes "none") (words_alone (maker.SetEcho echo.None) (AnyWord ∷ []))
    ∷ styled (codes "screen") (words_alone (maker.SetEcho echo.Screen) (AnyWord ∷ []))
    ∷ styled (codes "log") (words_alone (maker.SetEcho echo.Log) (AnyWord ∷ []))
    ∷ styled (codes "both") (words_alone (maker.SetEcho echo.Both) (AnyWord ∷ []))
    ∷ []

abbrev pub apps : List Styled
apps =
    styled (codes "ising") (app Ising)
    ∷ styled (codes "ising/single") (app IsingSingle)
    ∷ styled (codes "potts") (potts maker.Potts)
    ∷ styled (codes "potts/neighonly") (potts maker.PottsNeighonly)
    ∷ styled (codes "diffusion") diffusion
    ∷ []

abbrev pub solvers : List Styled
solvers =
    styled (codes "linear") (solver Linear NoTail)
    ∷ styled (codes "tree") (solver Tree NoTail)
    ∷ styled (codes "group") (solver Group (Optional (any_decimal ∷ any_decimal ∷ [])))
    ∷ []

abbrev pub sweeps : List Styled
sweeps =
    styled (codes "random") (sweep Random)
    ∷ styled (codes "raster") (sweep Raster)
    ∷ []

abbrev pub lattices : List Styled
lattices =
    styled (codes "line/2n") (lattice Line2)
    ∷ styled (codes "sq/4n") (lattice Sq4)
    ∷ styled (codes "sq/8n") (lattice Sq8)
    ∷ styled (codes "tri") (lattice Tri)
    ∷ styled (codes "sc/6n") (lattice Sc6)
    ∷ styled (codes "sc/26n") (lattice Sc26)
    ∷ styled (codes "bcc") (lattice Bcc)
    ∷ styled (codes "fcc") (lattice Fcc)
    ∷ []

abbrev pub shapes : List Styled
shapes =
    styled (codes "block") block
    ∷ styled (codes "sphere") sphere
    ∷ styled (codes "cylinder") cylinder
    ∷ styled (codes "union") (region_of_parts maker.Union)
    ∷ styled (codes "intersect") (region_of_parts maker.Intersect)
    ∷ []

abbrev pub sets : List Styled
sets =
    styled (codes "value") (set_form maker.SetValue (WholeNumber 0 4294967295 ∷ []))
    ∷ styled (codes "range") (set_form maker.SetRange (WholeUpToNext 0 4294967295 ∷ WholeNumber 0 4294967295 ∷ []))
    ∷ styled (codes "unique") (set_form maker.SetUnique [])
    ∷ []

abbrev pub diagnostics : List Styled
diagnostics = styled (codes "energy") (words_alone maker.DiagEnergy (AnyWord ∷ [])) ∷ []

abbrev pub dumps : List Styled
dumps =
    styled (codes "text") (dump_form dump.Text (UpTo 16 field))
    ∷ styled (codes "sites") (dump_form dump.Sites NoTail)
    ∷ []

-- the commands in the order of the manual
unfoldable pub table : List Row
table =
    one (codes "seed") (words_alone maker.Seed (WholeNumber 1 2147483646 ∷ []))
    ∷ several (codes "app_style") 0 apps []
    ∷ one (codes "dimension") (words_alone maker.Dimension (WholeNumber 1 3 ∷ []))
    ∷ several (codes "lattice") 0 lattices []
    ∷ one (codes "boundary") (words_alone maker.Boundary (periodic ∷ periodic ∷ periodic ∷ []))
    ∷ unbuilt (codes "processors")
    ∷ several (codes "region") 1 shapes []
    ∷ one (codes "create_box") (words_alone maker.CreateBox (NameWord ∷ []))
    ∷ one (codes "create_sites") (words_alone maker.CreateSites (OneOf (codes "box" ∷ []) [] ∷ []))
    ∷ several (codes "set") 1 sets []
    ∷ one (codes "read_sites") (words_alone maker.ReadSites (FileWord ∷ []))
    ∷ unbuilt (codes "write_restart")
    ∷ unbuilt (codes "read_restart")
    ∷ unbuilt (codes "sector")
    ∷ several (codes "solve_style") 0 solvers []
    ∷ several (codes "sweep") 0 sweeps (codes "color" ∷ [])
    ∷ one (codes "temperature") (words_alone maker.Temperature (DecimalNumber (pos 0) (pos 1000000000000) ∷ []))
    ∷ one (codes "stats") (words_alone maker.Stats (DecimalNumber (pos 0) (pos 1000000000000000) ∷ []))
    ∷ several (codes "diag_style") 0 diagnostics []
    ∷ several (codes "dump") 1 dumps []
    ∷ one (codes "undump") (words_alone maker.Undump (NameWord ∷ []))
    ∷ one (codes "run") (words_alone maker.Run (DecimalNumber (pos 0) (pos 4000000000000000) ∷ []))
    ∷ one (codes "print") (words_alone maker.Print (AnyWord ∷ []))
    ∷ several (codes "echo") 0 echo_styles []
    ∷ []

-- the form that words are of, or the first fault; no words at all are the command without a name
abbrev pub form_found : List ℕ → List (List ℕ) → Result Form CommandFault
form_found first words = form_found_by (row_found table first) first words

abbrev pub read_by : List (List ℕ) → Form → Result Command CommandFault
read_by words form = form_read form words >>= λ reading. Ok (made form.maker reading)

abbrev pub named_command : List ℕ → List (List ℕ) → Result Command CommandFault
named_command first words = form_found first words >>= λ form. read_by words form

-- The command that words make, or the first fault: an unknown command, an unknown deciding word, and those of the form.
unfoldable pub command_read : List (List ℕ) → Result Command CommandFault
command_read [] = Err (UnknownCommand [])
command_read (first ∷ words) = named_command first words
