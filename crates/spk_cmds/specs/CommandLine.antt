-- The command line: its options with their values, and the first bad place. The rules are our own.
use Rattle.std.specs.Prelude.{ℕ, ◌+◌, Bool, true, false, ◌&&◌, ◌||◌, ◌==◌, nat_le, not, if◌then◌else◌, List, [], ◌∷◌, ◌++◌, codes, Option, Some, None, is_some, Result, Ok, Err}
use Rattle.std.specs.Option.{unwrap_or, option_map_or}
use Rattle.std.specs.List.{list_all}
use Rattle.std.specs.Char.{is_ascii_digit}
use Rattle.std.specs.Str.{bytes_eq}
use Rattle.std.specs.Str.Parse.{digits_value}
use Rattle.spk_num.specs.Names.{is_name, is_file_name}
use Rattle.spk_script.specs.declared.setting.Setting.{Setting}
use Rattle.spk_cmds.specs.declared.options.Input.TheVariants.{File}
use Rattle.spk_cmds.specs.declared.options.Echo.{Echo}
use Rattle.spk_cmds.specs.declared.options.Echo.TheVariants as echo
use Rattle.spk_cmds.specs.declared.options.Options.{Options}
use Rattle.spk_cmds.specs.declared.option_values.Asked.{Asked}
use Rattle.spk_cmds.specs.declared.option_values.Asked.TheVariants.{In, Log, EchoTo, Workers}
use Rattle.spk_cmds.specs.declared.option_values.Awaited.{Awaited}
use Rattle.spk_cmds.specs.declared.option_values.Awaited.TheVariants.{AnOption, ScriptName, VarName, VarValue, LogName, EchoStyle, WorkersNumber}

abbrev pub echo_of : List ℕ → Option Echo
echo_of word =
    if bytes_eq word (codes "none") then Some echo.None
    else (if bytes_eq word (codes "screen") then Some echo.Screen
    else (if bytes_eq word (codes "log") then Some echo.Log
    else (if bytes_eq word (codes "both") then Some echo.Both
    else None)))

-- a number of the command line has no sign and no leading zero; workers are 1 to 64
abbrev pub has_leading_zero : List ℕ → Bool
has_leading_zero [] = true
has_leading_zero (b ∷ word) = b == 48

abbrev pub workers_of : List ℕ → Option ℕ
workers_of word =
    if list_all is_ascii_digit word && not (has_leading_zero word) && nat_le (digits_value 10 word) 64 then Some (digits_value 10 word) else None

-- the options that were asked for: the script, the log, the echo, and the workers with the place of their number
abbrev pub script_in : List Asked → Option (List ℕ)
script_in [] = None
script_in (In name ∷ asked) = Some name
script_in (other ∷ asked) = script_in asked

abbrev pub log_in : List Asked → Option (List ℕ)
log_in [] = None
log_in (Log name ∷ asked) = Some name
log_in (other ∷ asked) = log_in asked

abbrev pub echo_in : List Asked → Option Echo
echo_in [] = None
echo_in (EchoTo style ∷ asked) = Some style
echo_in (other ∷ asked) = echo_in asked

abbrev pub workers_in : List Asked → Option (ℕ × ℕ)
workers_in [] = None
workers_in (Workers number place ∷ asked) = Some (number, place)
workers_in (other ∷ asked) = workers_in asked

-- the option that a word is, by its long and its short word, where it may stand after those that were asked for: `-var`
-- may come again, the others once
abbrev pub is_either : List ℕ → List ℕ → List ℕ → Bool
is_either long short word = bytes_eq word long || bytes_eq word short

abbrev pub once : Bool → Awaited → Option Awaited
once given awaited = if given then None else Some awaited

abbrev pub option_of : List Asked → List ℕ → Option Awaited
option_of asked word =
    if is_either (codes "-in") (codes "-i") word then once (is_some (script_in asked)) ScriptName
    else (if is_either (codes "-var") (codes "-v") word then Some VarName
    else (if is_either (codes "-log") (codes "-l") word then once (is_some (log_in asked)) LogName
    else (if is_either (codes "-echo") (codes "-e") word then once (is_some (echo_in asked)) EchoStyle
    else (if bytes_eq word (codes "-workers") then once (is_some (workers_in asked)) WorkersNumber
    else None))))

-- What words ask for: the variables and the other options in their order, and what must stand next.
pub record Line : Type 0 where
  pub vars : List Setting
  pub asked : List Asked
  pub awaited : Awaited

-- the same with one word more; none where the word can't stand at its place
abbrev pub awaiting : List Setting → List Asked → Option Awaited → Option Line
awaiting vars asked None = None
awaiting vars asked (Some awaited) = Some (record { vars = vars; asked = asked; awaited = awaited })

abbrev pub with_option : List Setting → List Asked → Asked → Option Line
with_option vars asked option = Some (record { vars = vars; asked = asked ++ option ∷ []; awaited = AnOption })

abbrev pub with_script : List Setting → List Asked → List ℕ → Option Line
with_script vars asked word = if is_file_name word then with_option vars asked (In word) else None

abbrev pub with_log : List Setting → List Asked → List ℕ → Option Line
with_log vars asked word = if is_file_name word then with_option vars asked (Log word) else None

abbrev pub with_style : List Setting → List Asked → Option Echo → Option Line
with_style vars asked None = None
with_style vars asked (Some style) = with_option vars asked (EchoTo style)

abbrev pub with_workers : List Setting → List Asked → ℕ → Option ℕ → Option Line
with_workers vars asked place None = None
with_workers vars asked place (Some number) = with_option vars asked (Workers number place)

abbrev pub with_name : List Setting → List Asked → List ℕ → Option Line
with_name vars asked word = if is_name word then Some (record { vars = vars; asked = asked; awaited = VarValue word }) else None

abbrev pub with_var : List Setting → List Asked → List ℕ → List ℕ → Option Line
with_var vars asked name word = Some (record { vars = vars ++ record { name = name; value = word } ∷ []; asked = asked; awaited = AnOption })

abbrev pub word_awaited : List Setting → List Asked → Awaited → ℕ → List ℕ → Option Line
word_awaited vars asked AnOption place word = awaiting vars asked (option_of asked word)
word_awaited vars asked ScriptName place word = with_script vars asked word
word_awaited vars asked LogName place word = with_log vars asked word
word_awaited vars asked EchoStyle place word = with_style vars asked (echo_of word)
word_awaited vars asked WorkersNumber place word = with_workers vars asked place (workers_of word)
word_awaited vars asked VarName place word = with_name vars asked word
word_awaited vars asked (VarValue name) place word = with_var vars asked name word

abbrev pub word_read : Line → ℕ → List ℕ → Option Line
word_read line place word = word_awaited line.vars line.asked line.awaited place word

-- what stands for an option that isn't asked for: the log `log.spparks`, the echo to the log, and one worker
abbrev pub log_named : List ℕ → Option (List ℕ)
log_named name = if bytes_eq name (codes "none") then None else Some name

abbrev pub log_asked : List Asked → List ℕ
log_asked asked = unwrap_or (log_in asked) (codes "log.spparks")

abbrev pub options_asked : List Setting → List Asked → List ℕ → Options
options_asked vars asked script = record {
  input = File script;
  vars = vars;
  log = log_named (log_asked asked);
  echo = unwrap_or (echo_in asked) echo.Log;
  workers = option_map_or (λ workers. workers.0) (workers_in asked) 1;
  workers_word = option_map_or (λ workers. workers.1) (workers_in asked) 0;
}

-- the words may end where an option may stand, once the script is named
abbrev pub is_an_option : Awaited → Bool
is_an_option AnOption = true
is_an_option awaited = false

abbrev pub named_by : List Setting → List Asked → ℕ → Option (List ℕ) → Result Options ℕ
named_by vars asked place None = Err place
named_by vars asked place (Some script) = Ok (options_asked vars asked script)

abbrev pub finished : Line → ℕ → Result Options ℕ
finished line place = if is_an_option line.awaited then named_by line.vars line.asked place (script_in line.asked) else Err place

-- the options of the words from a place on, or the first bad place
unfoldable pub options_from : Line → ℕ → List (List ℕ) → Result Options ℕ
options_from line place [] = finished line place
options_from line place (word ∷ words) =
    elim (word_read line place word) [
      | None ↦ Err place
      | Some next ↦ options_from next (place + 1) words
    ]

-- the options that words ask for, or the first bad place, counted from 1
abbrev pub nothing : Line
nothing = record { vars = []; asked = []; awaited = AnOption }

abbrev pub options_of : List (List ℕ) → Result Options ℕ
options_of words = options_from nothing 1 words
