-- What the laws on separation and on rivals do not say: how a tree can break them where a premise is dropped.
use Rattle.std.specs.Prelude.{◌≡◌, ◌<◌, ℕ, Bool, not, ◌&&◌, nat_eq, List, [], ◌∷◌, length, codes, IsFalse}
use Rattle.std.specs.List.{list_any}
use Rattle.name_rules.specs.Groups.{greatest_width, members}
use Rattle.name_rules.specs.Mangled.{changes, implied, names_where, stays, unshadowed}
use Rattle.name_rules.specs.Options.{Options}
use Rattle.tree_nodes.specs.Tree.{Parts, Text}
use Rattle.tree_nodes.specs.declared.kind.Kind.TheVariants.{FunctionExpression}
use Rattle.tree_places.specs.Places.{Place, places}
use Rattle.tree_places.specs.Renaming.{IsRenamed}
use Rattle.scope_rules.specs.Bindings.{binding, bindings, is_node, node, same_name, shadower}
use Rattle.scope_rules.specs.Faults.{has_fault}
use Rattle.scope_rules.specs.Homes.{declares, home}
use Rattle.scope_rules.specs.PrivateNames.{distinct, private_bindings}
use Rattle.scope_rules.specs.Renamings.{is_live_in}
use Rattle.worked_examples.specs.Makers.{block, body, declaration, declarator, ident, list, module_of, node as made, number, off, script, statement}

-- ---- bindings in use together that have one name

-- b is one of the bindings of a tree with these places
unfoldable pub is_binding_of : List Place → Place → Bool
is_binding_of ps b = declares b.site && is_node (binding same_name ps b) (node b)

-- the binding b is live in the home of the binding c, both have one name, and neither shadows the other
unfoldable pub meets : List Place → Place → Place → Bool
meets ps b c =
    is_binding_of ps b && is_binding_of ps c && not (nat_eq (node b) (node c)) && is_live_in same_name ps b (home c.site) && same_name b.name c.name
    && not (is_node (shadower same_name ps b) (node c)) && not (is_node (shadower same_name ps c) (node b))

-- a tree has two such bindings
unfoldable pub has_meeting : Parts → Bool
has_meeting t = list_any (λ b. list_any (meets (places t) b) (places t)) (places t)

-- no JavaScript: a function expression with two names, which are alike
abbrev pub named_twice : Parts
named_twice =
    script
    (statement (made FunctionExpression (list (ident (codes "f") ∷ ident (codes "f") ∷ []) ∷ off ∷ off ∷ list [] ∷ body [] ∷ off ∷ []))
    ∷ [])

-- ---- other renamings

-- how many different names the bindings that aren't kept in t have in w
unfoldable pub number_of_names : Options → Parts → Parts → ℕ
number_of_names o t w = length (distinct (names_where changes (members o t) (places w)))

-- all that is asked of a rival holds but for one thing: a function-name is shadowed in w that isn't in t. And it has fewer names than groups of t are ever live at once
pub record TakesFewerByShadowing (t : Parts) (o : Options) (w : Parts) : Type 0 where
  pub renamed : IsRenamed t w
  pub sound : IsFalse (has_fault same_name (places w))
  pub bound : bindings same_name (places w) ≡ bindings same_name (places t)
  pub private : private_bindings same_name (places w) ≡ private_bindings same_name (places t)
  pub stay : names_where (stays (places t)) (members o t) (places w) ≡ names_where (stays (places t)) (members o t) (places t)
  pub shadows : IsFalse (implied (unshadowed (places t)) (unshadowed (places w)))
  pub fewer : number_of_names o t w < greatest_width o t

-- ---- names by choice

-- module: { let slot_0 = 1; slot_0 } { let slot_0 = 2; slot_0 }
abbrev pub sibling_blocks_readably : Parts
sibling_blocks_readably =
    module_of
    (block (declaration 1 (declarator (ident (codes "slot_0")) (number 1 (codes "1")) ∷ []) ∷ statement (ident (codes "slot_0")) ∷ [])
    ∷ block (declaration 1 (declarator (ident (codes "slot_0")) (number 2 (codes "2")) ∷ []) ∷ statement (ident (codes "slot_0")) ∷ [])
    ∷ [])

-- the choice of one name for all
abbrev pub always : Text → Text → Text
always name x = name
