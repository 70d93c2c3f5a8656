-- What the words of a command line ask for.
use Rattle.std.specs.Prelude.{◌≡◌, ℕ, ◌≤◌, Bool, true, false, List, [], ◌∷◌, length, codes, bytes_eq, Option, Some, None, option_map, option_and_then, if◌then◌else◌}
use Rattle.mangle_options.specs.Settings.{AreSameNames, reserved_in}
use Rattle.mangle_options.specs.declared.options.MangleOptions.{MangleOptions}
use Rattle.scope_rules.specs.PrivateNames.{is_among}
use Rattle.tree_nodes.specs.Tree.{Text}
use Rattle.tool_words.specs.MadeNumber.{made_number}
use Rattle.tool_words.specs.declared.command.Command as code
use Rattle.tool_words.specs.declared.command.Command.TheVariants.{Mangle, Make}
use Rattle.tool_words.specs.declared.command.Layout.{Layout}
use Rattle.tool_words.specs.declared.command.Layout.TheVariants.{Compact, Pretty}

-- ---- options

-- what a word by itself sets
pub record Flags : Type 0 where
  -- whether bindings of the root may be renamed; none leaves that to the tree
  pub top_level : Option Bool
  -- functions keep their names, and classes theirs
  pub keep_functions : Bool
  pub keep_classes : Bool
  -- names are given as `slot_0`, `slot_1` and so on
  pub readable : Bool
  -- where white space stands in the answer
  pub layout : Layout

-- what is asked of a mangling
pub record Settings : Type 0 where
  pub flags : Flags
  -- names that bindings keep and that are never given, each once
  pub reserved : List Text

-- without a word
abbrev pub no_settings : Settings
no_settings = record { flags = record { top_level = None; keep_functions = false; keep_classes = false; readable = false; layout = Compact }; reserved = [] }

-- the flags with what a word sets by itself. `layouts` is whether a word may name a layout
unfoldable pub flags_with : (layouts : Bool) → Flags → Text → Option Flags
flags_with layouts f w =
    if bytes_eq w (codes "--top-level") then Some (record f { top_level = Some true })
    else if bytes_eq w (codes "--no-top-level") then Some (record f { top_level = Some false })
    else if bytes_eq w (codes "--keep-fn-names") then Some (record f { keep_functions = true })
    else if bytes_eq w (codes "--keep-class-names") then Some (record f { keep_classes = true })
    else if bytes_eq w (codes "--debug") then Some (record f { readable = true })
    else if bytes_eq w (codes "--pretty") then (if layouts then Some (record f { layout = Pretty }) else None)
    else None

-- one reserved name more, where it is new
abbrev pub reserve : Settings → Text → Settings
reserve s x = record s { reserved = if is_among s.reserved x then s.reserved else x ∷ s.reserved }

-- the words so far: what they ask, and whether the next one is a name to reserve, whatever it is
pub record Reading : Type 0 where
  pub settings : Settings
  pub reserves : Bool

abbrev pub reading : Settings → Bool → Reading
reading s b = record { settings = s; reserves = b }

-- one word more
unfoldable pub read_word : (layouts : Bool) → Reading → Text → Option Reading
read_word layouts r w =
    if r.reserves then Some (reading (reserve r.settings w) false)
    else if bytes_eq w (codes "--reserve") then Some (reading r.settings true)
    else option_map (λ f. reading (record r.settings { flags = f }) false) (flags_with layouts r.settings.flags w)

-- the words from left to right
unfoldable pub settings_from : (layouts : Bool) → Reading → List Text → Option Settings
settings_from layouts r [] = if r.reserves then None else Some r.settings
settings_from layouts r (w ∷ ws) = option_and_then (λ q. settings_from layouts q ws) (read_word layouts r w)

abbrev pub settings_of : (layouts : Bool) → List Text → Option Settings
settings_of layouts ws = settings_from layouts (reading no_settings false) ws

-- ---- commands

pub data Task : Type 0 where
  -- to mangle the input
  mangling : Settings → Task
  -- to mangle a made input of so many functions
  making : ℕ → Task

-- `--make` is a word of its own alone, before a number
unfoldable pub makes : List Text → Bool
makes (w ∷ n ∷ []) = bytes_eq w (codes "--make")
makes _ = false

abbrev pub second : List Text → Text
second (w ∷ n ∷ ws) = n
second _ = []

-- what the words ask for, if they are understood
unfoldable pub command_of : List Text → Option Task
command_of ws = if makes ws then option_map making (made_number (second ws)) else option_map mangling (settings_of true ws)

-- ---- what the code makes of words

-- what options and a layout set
abbrev pub flags_in : MangleOptions → Layout → Flags
flags_in o l = record { top_level = o.top_level; keep_functions = o.keep_names.function; keep_classes = o.keep_names.class; readable = o.debug; layout = l }

-- the names of a list, in some order: a set has none. Neither has a name twice
pub record AreListed (names listed : List Text) : Type 0 where
  pub same : AreSameNames names listed
  pub many : length names ≡ length listed

pub record HasSettings (s : Settings) (o : MangleOptions) (l : Layout) : Type 0 where
  pub flags : flags_in o l ≡ s.flags
  pub reserved : AreListed (reserved_in o) s.reserved

-- these are the settings that are asked for
pub record AreAsked (asked : Option Settings) (o : MangleOptions) (l : Layout) : Type 0 where
  pub settings : Settings
  pub asked_for : asked ≡ Some settings
  pub has : HasSettings settings o l

-- mangling by these is asked for
pub record AsksMangling (asked : Option Task) (o : MangleOptions) (l : Layout) : Type 0 where
  pub settings : Settings
  pub asked_for : asked ≡ Some (mangling settings)
  pub has : HasSettings settings o l

-- the command is the one that is asked for
abbrev pub IsAsked : Option Task → code.Command → Type 0
IsAsked asked (Mangle o l) = AsksMangling asked o l
IsAsked asked (Make n) = asked ≡ Some (making n)

-- a number of functions that an input can be made of
abbrev pub IsInRange : code.Command → Type 0
IsInRange (Mangle o l) = Unit {0}
IsInRange (Make n) = (1 ≤ n) × (n ≤ 2000)
