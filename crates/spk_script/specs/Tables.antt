-- What the tables of the machine stand for.
use Rattle.std.specs.Prelude.{◌≡◌, ℕ, true, false, List, Option, Some, None, String}
use Rattle.std.specs.Map.{update}
use Rattle.std.specs.Str.{bytes_eq}
use Rattle.std.specs.BTreeMap.{BTreeMap, get_by_text}
use Rattle.std.specs.declared.alloc.Global.{Global}
use Rattle.spk_script.specs.declared.variable.Variable.{Variable}
use Rattle.spk_script.specs.declared.variable_table.VariableTable.{VariableTable}
use Rattle.spk_script.specs.declared.variable_table.Stepped.{Stepped}
use Rattle.spk_script.specs.declared.variable_table.Stepped.TheVariants.{Next, Exhausted, Stays, Unknown}
use Rattle.spk_script.specs.Values.{Environment}
use Rattle.spk_script.specs.Commands.Next.{has_steps, next_variable}

-- the variables of a map by their names
unfoldable pub variables_of : BTreeMap (String Global) Variable → Environment
variables_of variables name = get_by_text variables name

abbrev pub environment_of : VariableTable → Environment
environment_of table = variables_of table.variables

-- the places of labels by their names
unfoldable pub labels_of : BTreeMap (String Global) ℕ → List ℕ → Option ℕ
labels_of labels label = get_by_text labels label

-- what a step to the next value of a variable has come to; where it has come to nothing, all variables stay
pub record StepsTo (before : Environment) (name : List ℕ) (now : Environment) : Type 0 where
  pub variable : Variable
  pub next : Variable
  pub found : before name ≡ Some variable
  pub steps : has_steps variable ≡ true
  pub goes : next_variable variable ≡ Some next
  pub changed : now ≡ update bytes_eq before name (Some next)

pub record EndsAt (before : Environment) (name : List ℕ) (now : Environment) : Type 0 where
  pub variable : Variable
  pub found : before name ≡ Some variable
  pub steps : has_steps variable ≡ true
  pub ends : next_variable variable ≡ None
  pub same : now ≡ before

pub record StaysAt (before : Environment) (name : List ℕ) (now : Environment) : Type 0 where
  pub variable : Variable
  pub found : before name ≡ Some variable
  pub steps : has_steps variable ≡ false
  pub same : now ≡ before

abbrev pub Goes : Environment → List ℕ → Environment → Stepped → Type 0
Goes before name now Next = StepsTo before name now
Goes before name now Exhausted = EndsAt before name now
Goes before name now Stays = StaysAt before name now
Goes before name now Unknown = (before name ≡ None) × (now ≡ before)
