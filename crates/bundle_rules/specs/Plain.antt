-- Which modules can be put into one scope with others.
use Rattle.std.specs.Prelude.{◌^◌, Bool, false, not, ◌&&◌, ◌||◌, nat_eq, nat_lt, codes, length}
use Rattle.std.specs.List.{list_any}
use Rattle.bundle_rules.specs.Joined.{body}
use Rattle.bundle_rules.specs.Mentions.{Mention, mentions_of}
use Rattle.scope_rules.specs.Bindings.{same_name}
use Rattle.tree_nodes.specs.Kinds.{is_in}
use Rattle.tree_nodes.specs.Standing.{module_declarations}
use Rattle.tree_nodes.specs.Tree.{Parts, Text, Tree, alone, atom, child, done, is_empty, many, part, word_of}
use Rattle.tree_places.specs.Places.{withs}

-- some of these items imports or exports
unfoldable pub is_linked : Parts → Bool
is_linked done = false
is_linked (atom a more) = is_linked more
is_linked (child k s e fields more) = is_in k module_declarations || is_linked more
is_linked (many items more) = is_linked more

-- its source is a module, of which `module` is the second word, without a hashbang, and nothing in it imports or exports
unfoldable pub is_bare_module : Tree → Bool
is_bare_module t = nat_eq (word_of (part t.fields 1)) 1 && is_empty (part t.fields 2) && not (is_linked (body t))

abbrev pub name_arguments : Text
name_arguments = codes "arguments"

-- a binding of the root named `arguments`, a variable place whose name has more than 2^31 bytes, the callee of a direct eval
unfoldable pub is_barred : Mention → Bool
is_barred m = m.root && same_name m.name name_arguments || m.variable && nat_lt (2 ^ 31) (length m.name) || m.calls_eval

-- none of these, and no WithStatement: all of a module lies in its root, so one anywhere counts
unfoldable pub is_plain_module : Tree → Bool
is_plain_module t = is_bare_module t && nat_eq (length (withs (alone t))) 0 && not (list_any is_barred (mentions_of t))
