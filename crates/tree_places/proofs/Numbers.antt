-- Each place has a number of its own, rising in printing order, and there is one name for each site.
use Rattle.std.specs.Prelude.{◌≡◌, ℕ, suc, ◌+◌, ◌<◌, ◌≤◌, cond, List, [], ◌∷◌, length, ⊤}
use Rattle.std.proofs.Common.{arith}
use Rattle.std.proofs.lemmas.List.{length-append, length-reverse}
use Rattle.tree_places.specs.Open.{all_open}
use Rattle.tree_nodes.specs.Along.{Along, all, each, first_column, other_columns}
use Rattle.tree_places.specs.Scopes.{Scope}
use Rattle.tree_places.specs.Places.{Around, Setting, Seen, Site, at_field, before_all, enter, hide, is_place, met, names, nothing_yet, seen, sites, walk}
use Rattle.tree_nodes.specs.Table.{row, unlisted}
use Rattle.tree_nodes.specs.Tree.{Parts, Text, atom, child, done, many, text_of}
use Rattle.tree_nodes.specs.declared.table.Opens.{Opens}
use Rattle.tree_nodes.specs.declared.table.Opens.TheVariants.{BareBlock, Block, ClassMembers, Hoisting, NameHere, Nothing, PrivateNameHere, WithBody}

-- last first: each site's number is below n, and above those of the sites before it
abbrev pub Numbered : ℕ → List Site → Type 0
Numbered n [] = ⊤
Numbered n (s ∷ ss) = (s.node < n) × Numbered s.node ss

numbered_more : (n m : ℕ) (ss : List Site) → n ≤ m → Numbered n ss → Numbered m ss
unfolding all_open
numbered_more n m [] h p = tt
numbered_more n m (s ∷ ss) h p = (let i : s.node < n = p.0 in omega arith, p.1)

met_numbered : (o : Opens) (b : ℕ) (e : Setting) (inner : Scope) (s : Seen) → Numbered s.nodes s.sites → Numbered (met o b e inner s).nodes (met o b e inner s).sites
unfolding all_open
met_numbered Nothing b e inner s p = numbered_more s.nodes (suc s.nodes) s.sites (omega arith) p
met_numbered Block b e inner s p = numbered_more s.nodes (suc s.nodes) s.sites (omega arith) p
met_numbered WithBody b e inner s p = numbered_more s.nodes (suc s.nodes) s.sites (omega arith) p
met_numbered BareBlock b e inner s p = numbered_more s.nodes (suc s.nodes) s.sites (omega arith) p
met_numbered Hoisting b e inner s p = numbered_more s.nodes (suc s.nodes) s.sites (omega arith) p
met_numbered ClassMembers b e inner s p = numbered_more s.nodes (suc s.nodes) s.sites (omega arith) p
met_numbered NameHere b e inner s p = (omega arith, p)
met_numbered PrivateNameHere b e inner s p = (omega arith, p)

pub walk_numbered : (x : Parts) (rows : Along) (a : Around) (s : Seen) → Numbered s.nodes s.sites → Numbered (walk x rows a s).nodes (walk x rows a s).sites
unfolding all_open
walk_numbered done rows a s p = p
walk_numbered (atom v more) rows a s p = walk_numbered more (other_columns rows) a s p
walk_numbered (many items more) rows a s p = walk_numbered more (other_columns rows) a (walk items (all (first_column rows)) a s) (walk_numbered items (all (first_column rows)) a s p)
walk_numbered (child k b e fields more) rows a s p =
    let here : Setting = at_field (first_column rows) a in
    let around : Around = enter (row k) (hide k fields) here s in
    let s₁ : Seen = met (row k).opens b here around.inside.scope s in
    walk_numbered more (other_columns rows) a (walk fields (each (row k).columns) around s₁) (walk_numbered fields (each (row k).columns) around s₁ (met_numbered (row k).opens b here around.inside.scope s p))

-- how many sites a node itself is
abbrev one_of : Opens → ℕ
one_of o = cond (is_place o) 1 0

met_length : (o : Opens) (b : ℕ) (e : Setting) (inner : Scope) (s : Seen) → length (met o b e inner s).sites ≡ one_of o + length s.sites
unfolding all_open
met_length NameHere b e inner s = omega arith
met_length PrivateNameHere b e inner s = omega arith
met_length _ b e inner s = omega arith

own_length : (o : Opens) (x : Text) (xs : List Text) → length (cond (is_place o) (x ∷ xs) xs) ≡ one_of o + length xs
unfolding all_open
own_length NameHere x xs = omega arith
own_length PrivateNameHere x xs = omega arith
own_length _ x xs = omega arith

pub walk_length : (x : Parts) (rows : Along) (a : Around) (s : Seen) → length (walk x rows a s).sites ≡ length (names x) + length s.sites
unfolding all_open
walk_length done rows a s = omega arith
walk_length (atom v more) rows a s = walk_length more (other_columns rows) a s
walk_length (many items more) rows a s =
    omega (arith, walk_length more (other_columns rows) a (walk items (all (first_column rows)) a s), walk_length items (all (first_column rows)) a s, length-append (names items) (names more))
walk_length (child k b e fields more) rows a s =
    let here : Setting = at_field (first_column rows) a in
    let around : Around = enter (row k) (hide k fields) here s in
    let s₁ : Seen = met (row k).opens b here around.inside.scope s in
    let s₂ : Seen = walk fields (each (row k).columns) around s₁ in
    let own : List Text = cond (is_place (row k).opens) (text_of fields ∷ names fields) (names fields) in
    omega (arith, walk_length more (other_columns rows) a s₂, walk_length fields (each (row k).columns) around s₁, met_length (row k).opens b here around.inside.scope s, length-append own (names more), own_length (row k).opens (text_of fields) (names fields))

pub one_name_each : (t : Parts) → length (names t) ≡ length (sites t)
unfolding all_open
one_name_each t = omega (arith, walk_length t (all unlisted) before_all nothing_yet, length-reverse (seen t).sites)
