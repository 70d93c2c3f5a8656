-- Runs whose names are identifier names.
use Rattle.std.proofs.Common.{List, [], ◌∷◌, ◌++◌, sym, subst}
use Rattle.std.specs.List.{AllByRecursion}
use Rattle.std.specs.Prelude.{⊤}
use Rattle.tree_nodes.specs.Tree.{Parts, Text, atom, child, done, many, text_of}
use Rattle.tree_nodes.specs.declared.kind.Kind.{Kind}
use Rattle.tree_nodes.specs.declared.kind.Kind.TheVariants.{Identifier, PrivateIdentifier}
use Rattle.tree_places.specs.Places.{names}
use Rattle.tree_rename.specs.Laws.{IsName}
use Rattle.tree_rename.proofs.RenamedNames.{place_kind}
use Rattle.tree_rename.proofs.OwnFirst.{with_own}
use Rattle.tree_rename.specs.Renamed.{has_name}

abbrev pub NamedHere : Kind → Parts → Type 0
NamedHere Identifier fields = IsName (text_of fields)
NamedHere PrivateIdentifier fields = IsName (text_of fields)
NamedHere _ fields = ⊤

abbrev pub Named : Parts → Type 0
Named done = ⊤
Named (atom a more) = Named more
Named (many items more) = Named items × Named more
Named (child k s e fields more) = NamedHere k fields × Named fields × Named more

-- ---- as a list of names

all_both : (xs ys : List Text) → AllByRecursion IsName xs → AllByRecursion IsName ys → AllByRecursion IsName (xs ++ ys)
all_both [] ys a b = b
all_both (x ∷ xs) ys a b = (a.0, all_both xs ys a.1 b)

all_parts : (xs ys : List Text) → AllByRecursion IsName (xs ++ ys) → AllByRecursion IsName xs × AllByRecursion IsName ys
all_parts [] ys a = (tt, a)
all_parts (x ∷ xs) ys a = let rest = all_parts xs ys a.1 in ((a.0, rest.0), rest.1)

own_all : (k : Kind) (fields : Parts) → NamedHere k fields → AllByRecursion IsName (names fields)
    → AllByRecursion IsName (with_own text_of names (has_name k) fields)
unfolding has_name
own_all Identifier fields h a = (h, a)
own_all PrivateIdentifier fields h a = (h, a)
own_all _ fields h a = a

all_own : (k : Kind) (fields : Parts) → AllByRecursion IsName (with_own text_of names (has_name k) fields)
    → NamedHere k fields × AllByRecursion IsName (names fields)
unfolding has_name
all_own Identifier fields a = (a.0, a.1)
all_own PrivateIdentifier fields a = (a.0, a.1)
all_own _ fields a = (tt, a)

pub all_named : (p : Parts) → Named p → AllByRecursion IsName (names p)
unfolding names
all_named done n = tt
all_named (atom a more) n = all_named more n
all_named (many items more) n = all_both (names items) (names more) (all_named items n.0) (all_named more n.1)
all_named (child k s e fields more) n =
    subst (λ b. AllByRecursion IsName (with_own text_of names b fields ++ names more)) (sym (place_kind k))
    (all_both (with_own text_of names (has_name k) fields) (names more) (own_all k fields n.0 (all_named fields n.1)) (all_named more n.2))

pub named_all : (p : Parts) → AllByRecursion IsName (names p) → Named p
unfolding names
named_all done a = tt
named_all (atom x more) a = named_all more a
named_all (many items more) a = let parts = all_parts (names items) (names more) a in (named_all items parts.0, named_all more parts.1)
named_all (child k s e fields more) a =
    let parts = all_parts (with_own text_of names (has_name k) fields) (names more) (subst (λ b. AllByRecursion IsName (with_own text_of names b fields ++ names more)) (place_kind k) a) in
    let own = all_own k fields parts.0 in
    (own.0, named_all fields own.1, named_all more parts.1)
