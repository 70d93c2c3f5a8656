-- What comes of an input: the answer, or why there is none. `reserved` is how many names are reserved.
use Rattle.std.specs.Prelude.{◌≡◌, ℕ, true, false, List, Some, None, codes}
use Rattle.json_text.specs.Layout.{Layout}
use Rattle.name_rules.specs.Options.{Options}
use Rattle.oxc_estree.specs.Envelope.{envelope}
use Rattle.serde_json.specs.Data.{Data}
use Rattle.tree_core.specs.Limits.{is_too_large}
use Rattle.tree_nodes.specs.Tree.{Tree, alone}
use Rattle.tree_core.specs.Values.{meaning_of}
use Rattle.mangle_tool.specs.Asked.{Asked}
use Rattle.mangle_tool.specs.Input.{IsNotJson, Parses}
use Rattle.mangle_tool.specs.Mangling.{IsFaulty, IsMangling, IsSound, tree_in}
use Rattle.mangle_tool.specs.Output.{IsOutput}
use Rattle.program_laws.specs.Least.{IsLeast}
use Rattle.tree_core.specs.declared.read.ReadError.{ReadError}
use Rattle.tree_core.specs.declared.read.ReadError.TheVariants as refusal
use Rattle.mangle_tool.specs.declared.estree.error.MangleError.{MangleError}
use Rattle.mangle_tool.specs.declared.estree.error.MangleError.TheVariants.{NotJson, TooLarge, BadTree, BadScope, Memory}
use Rattle.mangle_tool.specs.declared.status.Status.{Status}
use Rattle.mangle_tool.specs.declared.status.Status.TheVariants as status

-- the value is within the limits, and its program is a tree without fault
pub record IsValid (reserved : ℕ) (value : Data) : Type 0 where
  pub tree : Tree
  pub within : is_too_large value reserved ≡ false
  pub is_tree : tree_in value ≡ Some tree
  pub sound : IsSound tree

-- the text is the answer to a tree, under these options and in this layout
pub record IsTreeAnswer (o : Options) (l : Layout) (tree : Tree) (text : List ℕ) : Type 0 where
  -- the text reads as that tree mangled, beside its fix paths
  pub output : IsOutput tree o text
  -- both are programs without fault, and the names are those that are given
  pub mangles : IsMangling o tree output.output
  -- no names do better
  pub least : IsLeast (alone tree) o (alone output.output)
  -- byte for byte, it is the value of the mangled tree in the layout on lines of its own, and the paths
  pub text_is : text ≡ envelope l (meaning_of output.output)

-- the value is valid, and the text is the answer to it, as it is asked for
pub record IsAnswerTo (a : Asked) (value : Data) (text : List ℕ) : Type 0 where
  -- the tree that was read
  pub tree : Tree
  pub within : is_too_large value a.reserved ≡ false
  pub is_tree : tree_in value ≡ Some tree
  pub answer : IsTreeAnswer (a.options tree) a.layout tree text

-- the value is within the limits, but its program is no tree
pub record IsNoTree (reserved : ℕ) (value : Data) : Type 0 where
  pub within : is_too_large value reserved ≡ false
  pub no_tree : tree_in value ≡ None

-- the value is within the limits, and its program is a tree with a fault
pub record HasBadScope (reserved : ℕ) (value : Data) : Type 0 where
  pub tree : Tree
  pub within : is_too_large value reserved ≡ false
  pub is_tree : tree_in value ≡ Some tree
  pub faulty : IsFaulty tree

-- what an error says of a value; memory may run out at any value
abbrev pub IsCauseFor : (reserved : ℕ) → MangleError → Data → Type 0
IsCauseFor reserved NotJson value = ⊥
IsCauseFor reserved TooLarge value = is_too_large value reserved ≡ true
IsCauseFor reserved BadTree value = IsNoTree reserved value
IsCauseFor reserved BadScope value = HasBadScope reserved value
IsCauseFor reserved Memory value = Unit {0}

-- what an error says of a program that was read
abbrev pub IsProgramCause : MangleError → Tree → Type 0
IsProgramCause BadScope t = IsFaulty t
IsProgramCause Memory t = Unit {0}
IsProgramCause _ t = ⊥

-- the input is JSON within the limits, and its program is this tree
pub record IsReadFrom (reserved : ℕ) (input : List ℕ) (tree : Tree) : Type 0 where
  pub value : Data
  pub parses : Parses input value
  pub within : is_too_large value reserved ≡ false
  pub is_tree : tree_in value ≡ Some tree

-- the input is JSON whose value is valid
pub record IsValidInput (reserved : ℕ) (input : List ℕ) : Type 0 where
  pub value : Data
  pub parses : Parses input value
  pub valid : IsValid reserved value

-- the input is JSON, and the text is the answer to its value, as it is asked for
pub record IsAnswer (a : Asked) (input text : List ℕ) : Type 0 where
  pub value : Data
  pub parses : Parses input value
  pub answer : IsAnswerTo a value text

-- the input is JSON, and the error's cause lies in its value
pub record IsOfValue (reserved : ℕ) (e : MangleError) (input : List ℕ) : Type 0 where
  pub value : Data
  pub parses : Parses input value
  pub cause : IsCauseFor reserved e value

-- what an error says of the input
abbrev pub IsCauseOf : (reserved : ℕ) → MangleError → List ℕ → Type 0
IsCauseOf reserved NotJson input = IsNotJson input
IsCauseOf reserved TooLarge input = IsOfValue reserved TooLarge input
IsCauseOf reserved BadTree input = IsOfValue reserved BadTree input
IsCauseOf reserved BadScope input = IsOfValue reserved BadScope input
IsCauseOf reserved Memory input = Unit {0}

-- the error of a value that can't be read
abbrev pub read_refusal : ReadError → MangleError
read_refusal refusal.TooLarge = TooLarge
read_refusal refusal.BadTree = BadTree
read_refusal refusal.Memory = Memory

-- the status of a run that ends by the error
abbrev pub refused_status : MangleError → Status
refused_status NotJson = status.NotJson
refused_status TooLarge = status.TooLarge
refused_status BadTree = status.BadTree
refused_status BadScope = status.BadScope
refused_status Memory = status.Memory

-- what is said of an error to a reader
abbrev pub error_text : MangleError → List ℕ
error_text NotJson = codes "not JSON"
error_text TooLarge = codes "too large"
error_text BadTree = codes "bad tree"
error_text BadScope = codes "bad scope"
error_text Memory = codes "out of memory"
